-- Bytes written by a writer, one behind the other.
use Rattle.std.proofs.Common.{◌≡◌, ℕ, List, [], ◌++◌, length, refl, ap, ◌∙◌, subst, drop, zero-add, arith, length-append}
use Rattle.sheets.specs.declared.writer.Writer.{Writer}
use Rattle.sheets.specs.Writing.{written}
use Rattle.sheets.specs.Writers.{Room, Writes}
use Rattle.sheets.proofs.Buffers.{wrote_none, wrote_on}

-- nothing written
pub writes_none : (w : Writer) → Room w 0 → Writes w [] w
writes_none w h = record { fits = h; wrote = wrote_none w.out.now w.at; long = refl; lent = refl }

-- bytes written behind bytes written are both written at once
pub writes_on : {u v w : Writer} {ys zs : List ℕ} → Writes u ys v → Writes v zs w → Writes u (ys ++ zs) w
writes_on {u} {v} {w} {ys} {zs} p q =
    let k = p.wrote.place in
    let l = p.long in
    let f = p.fits in
    let g = q.fits in
    record {
      fits = omega (arith, length-append ys zs);
      wrote = wrote_on (omega arith) p.wrote q.wrote;
      long = q.long ∙ p.long;
      lent = q.lent ∙ p.lent;
    }

-- the same bytes under another name
pub writes_as : {u v : Writer} {ys zs : List ℕ} → ys ≡ zs → Writes u ys v → Writes u zs v
writes_as {u} {v} {ys} {zs} e p = subst (λ r. Writes u r v) e p

-- what is written from the front on is followed by what stood behind it; zs is the buffer that the writer gives back
pub writes_front : {u w : Writer} {ys xs zs : List ℕ} → zs ≡ w.out.now → u.at ≡ 0 → u.out.now ≡ xs → Writes u ys w → zs ≡ ys ++ drop (length ys) xs
writes_front {u} {w} {ys} {xs} back at same p =
    back ∙ p.wrote.bytes ∙ ap (λ n. written u.out.now n ys) at ∙ ap (λ k. ys ++ drop k u.out.now) (zero-add (length ys)) ∙ ap (λ r. ys ++ drop (length ys) r) same
