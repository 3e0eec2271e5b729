use Rattle.std.proofs.Common.{◌≡◌, ℕ, ◌+◌, ◌-◌, ◌*◌, ◌/◌, ◌%◌, ◌^◌, ◌<◌, ◌≤◌, ◌&&◌, leb, [], ◌∷◌, ◌++◌, get_or, length, ap₂, ◌∙◌, arith}
use Rattle.std.proofs.lemmas.List.{length_push}
use Rattle.std.proofs.lemmas.Iterator.Consumers.{YieldsList-turn, YieldsList-end}
use Rattle.facts.specs.Sets.{bit}
use Rattle.facts.proofs.Words.{bit_cut}
use Rattle.facts.proofs.Rows.{clear_more, all_clear, low_below, found_from, found_here, found_before, Clear}
use Rattle.facts.proofs.Ahead.{ahead, length_ahead, placed}
use Rattle.facts.proofs.NumberSet.next_from.Goals as goal

word : (w x p n l : ℕ) → w < 2 ^ 64 → w ≡ x → l ≡ p - 64 * n → (j : ℕ) → bit ((w / 2 ^ l * 2 ^ l) % 2 ^ 64) j ≡ (leb (p - 64 * n) j && bit x j)
word w x p n l h a e j = bit_cut w l j h ∙ ap₂ (λ m y. leb m j && bit y j) e a

pub returns-then-word-ne0 : goal.returns-then-word-ne0
returns-then-word-ne0 g c =
    let words = c.args.self.now.words in
    let p = c.args.p in
    let i = c.in-Some.i in
    let w = c.in-Some.word.now in
    let y = ahead words (p / 64) c.iter.ensures.rest c.enumerate.ensures.source c.enumerate.ensures.count c.skip-i-items.ensures.source c.skip-i-items.ensures.count c.into_iter-i-iterator.ensures.into_iter_gives in
    let at = placed words (p / 64) (length c.loop-i.yielded) i w (YieldsList-turn y c.loop-i.yielded _ c.loop-i.yielded_by _ _ _ c.in-Some.is c.next.ensures.steps) in
    let clear : Clear words p i = rw at.place c.loop-i.invariant.0 in
    let l = c.loop-i.low in
    let v = (w / 2 ^ l * 2 ^ l) % 2 ^ 64 in
    let cut = word w (get_or words i 0) p i l (omega arith) at.word (omega (arith, at.place, c.loop-i.invariant.1)) in
    let from : p / 64 ≤ i = omega (arith, at.place) in
    let pos : 0 < v = omega arith in
    let fits : v < 2 ^ 64 = omega arith in (
      omega (arith, at.within, low_below words p i v from clear cut pos fits),
      record {
        from = found_from words p i v from clear cut pos fits;
        here = found_here words p i v from clear cut pos fits;
        before = found_before words p i v from clear cut pos fits;
      },
    )

pub loop-i-preserved : goal.loop-i-preserved
loop-i-preserved g c =
    let words = c.args.self.now.words in
    let p = c.args.p in
    let i = c.in-Some.i in
    let w = c.in-Some.word.now in
    let y = ahead words (p / 64) c.iter.ensures.rest c.enumerate.ensures.source c.enumerate.ensures.count c.skip-i-items.ensures.source c.skip-i-items.ensures.count c.into_iter-i-iterator.ensures.into_iter_gives in
    let at = placed words (p / 64) (length c.loop-i.yielded) i w (YieldsList-turn y c.loop-i.yielded _ c.loop-i.yielded_by _ _ _ c.in-Some.is c.next.ensures.steps) in
    let clear : Clear words p i = rw at.place c.loop-i.invariant.0 in
    let cut = word w (get_or words i 0) p i c.loop-i.low (omega arith) at.word (omega (arith, at.place, c.loop-i.invariant.1)) in
    let n : p / 64 + length (c.loop-i.yielded ++ (i, c.in-Some.word) ∷ []) ≡ i + 1 = omega (arith, at.place, length_push c.loop-i.yielded (i, c.in-Some.word)) in
    rw n (clear_more words p i _ (omega (arith, at.place)) clear cut c.if-word-ne0.false, omega (arith, at.place))

pub returns : goal.returns
returns g c =
    let words = c.args.self.now.words in
    let n = c.args.p / 64 in
    let y = ahead words n c.iter.ensures.rest c.enumerate.ensures.source c.enumerate.ensures.count c.skip-i-items.ensures.source c.skip-i-items.ensures.count c.into_iter-i-iterator.ensures.into_iter_gives in
    let e = YieldsList-end y c.loop-i.yielded _ c.loop-i.yielded_by _ _ c.in-None.is c.next.ensures.steps in
    all_clear words c.args.p (n + length c.loop-i.yielded) (omega (arith, e.1, length_ahead words n)) c.loop-i.invariant.0
