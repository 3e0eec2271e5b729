-- The words of a row from a place on, each with its place, as an iterator gives them.
use Rattle.std.proofs.Common.{◌≡◌, ℕ, ◌+◌, ◌-◌, ◌<◌, List, length, drop, get_or, ap, sym, ◌∙◌, arith}
use Rattle.std.proofs.lemmas.List.{length-drop, get_or-drop, get_or_default}
use Rattle.std.proofs.lemmas.List.FromFn.{length-enumerate_from, get_or-enumerate_from}
use Rattle.std.proofs.lemmas.Iterator.{YieldsList, YieldsList-from_slice}
use Rattle.std.proofs.lemmas.Iterator.Adapters.{YieldsList-from_skip}
use Rattle.std.proofs.lemmas.Iterator.Consumers.{YieldsList-from_enumerate, YieldsList-at}
use Rattle.std.specs.Iterator.Adapters.{enumerate_source, enumerate_count, enumerate_steps, skip_source, skip_count, skip_steps}
use Rattle.std.specs.List.{enumerate_from}
use Rattle.std.specs.Slice.Iter.{iter_rest, iter_steps}

pub ahead : (words : List ℕ) (n : ℕ) {a b s t : _} → iter_rest a ≡ words → enumerate_source b ≡ a → enumerate_count b ≡ 0 → skip_source s ≡ b → skip_count s ≡ n → t ≡ s
    → YieldsList (skip_steps (enumerate_steps (iter_steps {A = ℕ}))) (λ p. (p.0, p.1.now)) t (drop n (enumerate_from 0 words))
ahead words n rest from zero later skip same =
    YieldsList-at same (YieldsList-from_skip n (YieldsList-at later (YieldsList-from_enumerate (YieldsList-at from (YieldsList-from_slice words rest)) zero)) skip)

pub length_ahead : (words : List ℕ) (n : ℕ) → length (drop n (enumerate_from 0 words)) ≡ length words - n
length_ahead words n = length-drop n (enumerate_from 0 words) ∙ ap (λ l. l - n) (length-enumerate_from 0 words)

-- i and w are the place and the word that stand k after place n
pub record Placed (words : List ℕ) (n k i w : ℕ) : Type 0 where
  pub place : i ≡ n + k
  pub within : i < length words
  pub word : w ≡ get_or words i 0

pub placed : (words : List ℕ) (n k i w : ℕ)
    → (k < length (drop n (enumerate_from 0 words))) × (◌≡◌ {A = ℕ × ℕ} (i, w) (get_or (drop n (enumerate_from 0 words)) k (i, w)))
    → Placed words n k i w
placed words n k i w (short, at) =
    let within : n + k < length words = omega (arith, short, length_ahead words n) in
    let both = at ∙ get_or-drop n (enumerate_from 0 words) k (i, w) ∙ get_or-enumerate_from 0 words (n + k) (i, w) within in
    let place : i ≡ n + k = omega (arith, ap (λ p. p.0) both) in
    record {
      place = place;
      within = omega (arith, place, within);
      word = ap (λ p. p.1) both ∙ get_or_default words (n + k) w 0 within ∙ ap (λ m. get_or words m 0) (sym place);
    }
