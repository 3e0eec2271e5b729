-- The table of precedence, read and written a row at a time.
use Rattle.std.proofs.Common.{◌≡◌, ℕ, ◌<◌, ◌≤◌, false, List, [], map, length, get_or, set, replicate, sym, ap, ◌∙◌, inl, inr, arith}
use Rattle.std.proofs.lemmas.List.{get_or-map, get_or_past, length-map, length-set, get_or-set_same, get_or-set_other, get_or-replicate, length-replicate}
use Rattle.std.proofs.lemmas.Bool.{cases_lt}
use Rattle.facts.specs.declared.NumberSet.{NumberSet}
use Rattle.facts.specs.Sets.{holds}
use Rattle.facts.proofs.Words.{holds_past}
use Rattle.checks.specs.Rows.{marked}

-- the row of v, by whatever stands for a row past the end
pub marked_row : (rows : List (NumberSet 4)) (u v : ℕ) (row : NumberSet 4) → v < length rows → marked rows u v ≡ holds (get_or rows v row).words u
marked_row rows u v row l = ap (λ ws. holds ws u) (get_or-map (λ (r : NumberSet 4). r.words) rows v row [] l)

pub marked_past : (rows : List (NumberSet 4)) (u v : ℕ) → length rows ≤ v → marked rows u v ≡ false
marked_past rows u v l =
    ap (λ ws. holds ws u) (get_or_past (map (λ (r : NumberSet 4). r.words) rows) v [] (omega (arith, length-map rows (λ (r : NumberSet 4). r.words))))
    ∙ holds_past [] u (omega arith)

-- a row is written
pub marked_set : (rows : List (NumberSet 4)) (u v : ℕ) (row : NumberSet 4) → v < length rows → marked (set rows v row) u v ≡ holds row.words u
marked_set rows u v row l =
    marked_row (set rows v row) u v row (omega (arith, length-set rows v row)) ∙ ap (λ (r : NumberSet 4). holds r.words u) (get_or-set_same rows v row row l)

pub marked_other : (rows : List (NumberSet 4)) (u v k : ℕ) (row : NumberSet 4) → (k ≡ v → ⊥) → marked (set rows v row) u k ≡ marked rows u k
marked_other rows u v k row n =
    elim (cases_lt k (length rows)) [
      | inl l ↦ marked_row (set rows v row) u k row (omega (arith, length-set rows v row))
          ∙ ap (λ (r : NumberSet 4). holds r.words u) (get_or-set_other rows v k row row n)
          ∙ sym (marked_row rows u k row l)
      | inr l ↦ marked_past (set rows v row) u k (omega (arith, length-set rows v row)) ∙ sym (marked_past rows u k l)
    ]

-- rows that are all empty
pub marked_none : (n : ℕ) (row : NumberSet 4) → ((q : ℕ) → holds row.words q ≡ false) → (u v : ℕ) → marked (replicate n row) u v ≡ false
marked_none n row empty u v =
    elim (cases_lt v n) [
      | inl l ↦ marked_row (replicate n row) u v row (omega (arith, length-replicate n row))
          ∙ ap (λ (r : NumberSet 4). holds r.words u) (get_or-replicate n v row row l) ∙ empty u
      | inr l ↦ marked_past (replicate n row) u v (omega (arith, length-replicate n row))
    ]
