-- A test of a number, cut at a span.
use Rattle.std.proofs.Common.{◌≡◌, ℕ, ◌≤◌, Bool, false, not, ◌&&◌, ◌||◌, ltb, inl, inr, arith}
use Rattle.std.proofs.lemmas.Bool.{both_ways, cases_lt, lt-ltb}
use Rattle.books.specs.Book.{Model, Facts, after}
use Rattle.boards.specs.Board.{LawfulBoard}

fits : (x low : Bool) → (low ≡ false → x ≡ false) → (x && low) ≡ x
fits x low f = grind arith

-- what is false at and above the span is not cut
pub cut : (x : Bool) (span q : ℕ) → (span ≤ q → x ≡ false) → (x && ltb q span) ≡ x
cut x span q f = fits x (ltb q span) (λ e. elim (cases_lt q span) [ inl l ↦ absurd (both_ways _ e (lt-ltb q span l)) | inr l ↦ f l ])

-- a step that is done on a board: what it adds is put below the span
below_span : (held del add low : Bool) → (low ≡ false → held ≡ false) → (((held && not del) || add) && low) ≡ ((held && not del) || (add && low))
below_span held del add low f = grind arith

pub step_worked : (m : Model) (span : ℕ) (board : Facts) → LawfulBoard span board → (a q : ℕ)
    → (after m board a q && ltb q span) ≡ ((board q && not (m.deletes a q)) || (m.adds a q && ltb q span))
step_worked m span board law a q =
    below_span (board q) (m.deletes a q) (m.adds a q) (ltb q span)
    (λ e. elim (cases_lt q span) [ inl l ↦ absurd (both_ways _ e (lt-ltb q span l)) | inr l ↦ law.above q l ])
