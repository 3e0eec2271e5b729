-- Text put piece by piece.
use Rattle.std.proofs.Common.{◌≡◌, ℕ, List, [], ◌++◌, length, sym, ap, ◌∙◌, subst, arith, length-append}
use Rattle.sheets.specs.declared.writer.Writer.{Writer}
use Rattle.sheets.specs.Writing.{written}
use Rattle.sheets.proofs.Buffers.{written_on, written_none}
use Rattle.decimals.specs.Texts.{Puts, PutsText}

-- what is put behind what was put is put with it at once
pub puts_on : {xs ys ws zs vs : List ℕ} {at n k : ℕ} → length ws ≡ length xs → Puts xs at ys ws n → Puts ws n zs vs k → Puts xs at (ys ++ zs) vs k
puts_on {xs} {ys} {ws} {zs} {vs} {at} {n} {k} e p q =
    let l = length-append ys zs in
    let a = p.place in
    let b = q.place in
    record {
      place = omega arith;
      bytes = λ h.
          let first : ws ≡ written xs at ys = p.bytes (omega arith) in
          q.bytes (omega arith) ∙ ap (λ r. written r n zs) first ∙ ap (λ m. written (written xs at ys) m zs) a ∙ written_on xs at ys zs (omega arith);
    }

-- the same bytes under another name
pub puts_as : {xs ys zs ws : List ℕ} {at n : ℕ} → ys ≡ zs → Puts xs at ys ws n → Puts xs at zs ws n
puts_as {xs} {ys} {zs} {ws} {at} {n} e p = subst (λ r. Puts xs at r ws n) e p

-- nothing put
pub puts_none : (xs : List ℕ) (at : ℕ) → Puts xs at [] xs at
puts_none xs at = record { place = omega arith; bytes = λ h. sym (written_none xs at) }

-- the same of a writer
pub puts_text_on : {u v w : Writer} {ys zs : List ℕ} → PutsText u ys v → PutsText v zs w → PutsText u (ys ++ zs) w
puts_text_on p q = record { puts = puts_on p.long p.puts q.puts; long = q.long ∙ p.long; lent = q.lent ∙ p.lent }

pub puts_text_as : {u v : Writer} {ys zs : List ℕ} → ys ≡ zs → PutsText u ys v → PutsText u zs v
puts_text_as {u} {v} {ys} {zs} e p = subst (λ r. PutsText u r v) e p
