-- How long the parts of a book's sheet are, and how they grow step by step.
use Rattle.std.proofs.Common.{◌≡◌, ℕ, zero, suc, ◌+◌, ◌*◌, ◌≤◌, List, [], ◌∷◌, ◌++◌, length, sym, refl, ap, ◌∙◌, inl, inr, add-one, arith, length-append}
use Rattle.std.proofs.lemmas.List.{append_assoc, append-nil}
use Rattle.std.proofs.lemmas.Bool.{cases_lt}
use Rattle.books.specs.Book.{Model, Lawful}
use Rattle.sheets.specs.Fields.{twos}
use Rattle.sheets.proofs.Stands.{length_twos}
use Rattle.book_sheets.specs.Content.{Step, step_row, step_rows, past, lists_of, all_lists, step_in, steps_in}
use Rattle.book_writer.specs.Writing.{bytes_of}
use Rattle.book_writer.proofs.Contents.{length_steps_in, step_lawful}

pub length_lists : (s : Step) → length (lists_of s) ≡ 2 * length s.needs + 2 * length s.adds + 2 * length s.deletes
length_lists s =
    let a = length-append (twos s.needs) (twos s.adds ++ twos s.deletes) in
    let b = length-append (twos s.adds) (twos s.deletes) in
    let n = length_twos s.needs in
    let m = length_twos s.adds in
    let k = length_twos s.deletes in
    omega arith

pub length_rows : (at : ℕ) (ss : List Step) → length (step_rows at ss) ≡ 11 * length ss
length_rows at [] = refl
length_rows at (s ∷ ss) = let h = length_rows (past at s) ss in omega arith

-- one step more
pub steps_more : (m : Model) (a : ℕ) → steps_in m (a + 1) ≡ steps_in m a ++ (step_in m a ∷ [])
steps_more m a = ap (steps_in m) (add-one a)

pub lists_more : (ss : List Step) (s : Step) → all_lists (ss ++ (s ∷ [])) ≡ all_lists ss ++ lists_of s
lists_more [] s = append-nil (lists_of s)
lists_more (t ∷ ss) s = ap (λ r. lists_of t ++ r) (lists_more ss s) ∙ sym (append_assoc (lists_of t) (all_lists ss) (lists_of s))

pub rows_more : (at : ℕ) (ss : List Step) (s : Step) → step_rows at (ss ++ (s ∷ [])) ≡ step_rows at ss ++ step_row (at + length (all_lists ss)) s
rows_more at [] s =
    let z : at ≡ at + 0 = omega arith in append-nil (step_row at s) ∙ ap (λ n. step_row n s) z
rows_more at (t ∷ ss) s =
    let n : past at t + length (all_lists ss) ≡ at + length (all_lists (t ∷ ss)) =
    let a = length-append (lists_of t) (all_lists ss) in let b = length_lists t in omega arith in
    ap (λ r. step_row at t ++ r) (rows_more (past at t) ss s ∙ ap (λ k. step_rows (past at t) ss ++ step_row k s) n)
    ∙ sym (append_assoc (step_row at t) (step_rows (past at t) ss) (step_row (at + length (all_lists (t ∷ ss))) s))

-- the lists of the steps below a
pub length_lists_more : (m : Model) (a : ℕ) → length (all_lists (steps_in m (a + 1))) ≡ length (all_lists (steps_in m a)) + length (lists_of (step_in m a))
length_lists_more m a =
    ap (λ ss. length (all_lists ss)) (steps_more m a) ∙ ap length (lists_more (steps_in m a) (step_in m a))
    ∙ length-append (all_lists (steps_in m a)) (lists_of (step_in m a))

pub lists_few : (m : Model) → Lawful m → (a : ℕ) → length (lists_of (step_in m a)) ≤ 1500
lists_few m h a =
    let e = length_lists (step_in m a) in
    let l = step_lawful m h a in
    let n = l.needs.few in
    let k = l.adds.few in
    let d = l.deletes.few in
    omega arith

pub all_lists_few : (m : Model) → Lawful m → (a : ℕ) → length (all_lists (steps_in m a)) ≤ 1500 * a
all_lists_few m h zero = omega arith
all_lists_few m h (suc a) =
    let e : length (all_lists (steps_in m (suc a))) ≡ length (all_lists (steps_in m a)) + length (lists_of (step_in m a)) =
    ap length (lists_more (steps_in m a) (step_in m a)) ∙ length-append (all_lists (steps_in m a)) (lists_of (step_in m a)) in
    let i = all_lists_few m h a in
    let l = lists_few m h a in
    omega arith

pub all_lists_up : (m : Model) (a n : ℕ) → a ≤ n → length (all_lists (steps_in m a)) ≤ length (all_lists (steps_in m n))
all_lists_up m a zero h = let z : a ≡ 0 = omega arith in rw z (omega arith)
all_lists_up m a (suc n) h = elim (cases_lt n a) [
  | inl l ↦ let z : a ≡ suc n = omega arith in rw z (omega arith)
  | inr l ↦ let e : length (all_lists (steps_in m (suc n))) ≡ length (all_lists (steps_in m n)) + length (lists_of (step_in m n)) =
      ap length (lists_more (steps_in m n) (step_in m n)) ∙ length-append (all_lists (steps_in m n)) (lists_of (step_in m n)) in
      let i = all_lists_up m a n l in
      omega arith
]

pub length_sheet : (m : Model) → length (bytes_of m) ≡ 12 + 11 * m.steps + length (all_lists (steps_in m m.steps))
length_sheet m =
    let n = length_steps_in m m.steps in
    let at = 12 + 11 * length (steps_in m m.steps) in
    let r = length_rows at (steps_in m m.steps) in
    let a = length-append (step_rows at (steps_in m m.steps)) (all_lists (steps_in m m.steps)) in
    omega arith
