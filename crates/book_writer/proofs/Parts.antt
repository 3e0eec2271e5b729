-- The parts of a book's sheet, written step by step.
use Rattle.std.proofs.Common.{◌≡◌, ℕ, ◌+◌, ◌*◌, ◌≤◌, true, false, [], ◌∷◌, ◌++◌, length, sym, ap, ◌∙◌, arith}
use Rattle.std.proofs.lemmas.List.{append_assoc, length_push}
use Rattle.books.specs.Book.{Facts, Model, Lawful}
use Rattle.books.specs.Listed.{members}
use Rattle.books.proofs.Members.{members_hit, members_miss}
use Rattle.sheets.specs.Fields.{two, four}
use Rattle.sheets.specs.declared.writer.Writer.{Writer}
use Rattle.sheets.specs.Writers.{Writes as WritesBytes}
use Rattle.sheets.proofs.Writers.{writes_on, writes_as}
use Rattle.book_writer.specs.declared.writer.Sizes.{Sizes}
use Rattle.book_sheets.specs.Content.{Step, step_row, step_rows, lists_of, all_lists, step_in, steps_in}
use Rattle.book_writer.specs.Parts.{SizesOf, header_of, rows_of, lists_in}
use Rattle.book_writer.specs.Writing.{bytes_of}
use Rattle.book_writer.proofs.Contents.{length_steps_in}
use Rattle.book_writer.proofs.Lengths.{length_rows, steps_more, rows_more, lists_more, all_lists_few}

-- one fact more, in the set or not
pub fact_counts : (P : Facts) (p : ℕ) → P p ≡ true → length (members P (p + 1)) ≡ length (members P p) + 1
fact_counts P p e = ap length (members_hit P p e) ∙ length_push (members P p) p

pub fact_passed : (P : Facts) (p : ℕ) → P p ≡ false → length (members P (p + 1)) ≡ length (members P p)
fact_passed P p e = ap length (members_miss P p e)

-- the rows, one after the other
pub row_room : (m : Model) (at a : ℕ) → length (step_rows at (steps_in m a)) ≡ 11 * a
row_room m at a = length_rows at (steps_in m a) ∙ ap (λ n. 11 * n) (length_steps_in m a)

pub lists_fit : (m : Model) → Lawful m → (a : ℕ) → a ≤ m.steps → 12 + 11 * m.steps + length (all_lists (steps_in m a)) ≤ 800000
lists_fit m h a l = let k = all_lists_few m h a in let n = h.few_steps in omega arith

row_as : (lists : ℕ) (s : Step) (z : Sizes) → SizesOf s z
    → four lists ++ (four s.seconds ++ (z.needs ∷ z.adds ∷ z.deletes ∷ [])) ≡ step_row lists s
row_as lists s z h = let n = h.needs in let a = h.adds in let d = h.deletes in cc

pub row_put : {u v w : Writer} (m : Model) (first a lists seconds : ℕ) (z : Sizes)
    → lists ≡ first + length (all_lists (steps_in m a)) → seconds ≡ m.seconds a → SizesOf (step_in m a) z
    → WritesBytes u (step_rows first (steps_in m a)) v
    → WritesBytes v (four lists ++ (four seconds ++ (z.needs ∷ z.adds ∷ z.deletes ∷ []))) w
    → WritesBytes u (step_rows first (steps_in m (a + 1))) w
row_put m first a lists seconds z e f g before here =
    let r : four lists ++ (four seconds ++ (z.needs ∷ z.adds ∷ z.deletes ∷ [])) ≡ step_row (first + length (all_lists (steps_in m a))) (step_in m a) =
    ap (λ s. four lists ++ (four s ++ (z.needs ∷ z.adds ∷ z.deletes ∷ []))) f ∙ row_as lists (step_in m a) z g ∙ ap (λ n. step_row n (step_in m a)) e in
    writes_as (sym (ap (step_rows first) (steps_more m a) ∙ rows_more first (steps_in m a) (step_in m a))) (writes_on before (writes_as r here))

-- the lists, step after step
pub lists_put : {u v w : Writer} (m : Model) (a : ℕ)
    → WritesBytes u (all_lists (steps_in m a)) v → WritesBytes v (lists_of (step_in m a)) w → WritesBytes u (all_lists (steps_in m (a + 1))) w
lists_put m a before here =
    writes_as (sym (ap all_lists (steps_more m a) ∙ lists_more (steps_in m a) (step_in m a))) (writes_on before here)

-- the sheet is its parts, one after the other
pub sheet_parts : (m : Model) → (header_of m ++ rows_of m) ++ lists_in m ≡ bytes_of m
sheet_parts m =
    let n = length_steps_in m m.steps in
    append_assoc (header_of m) (rows_of m) (lists_in m)
    ∙ sym (ap (λ k. two m.facts ++ (two k ++ (four 12 ++ (four (12 + 11 * k) ++ (step_rows (12 + 11 * k) (steps_in m m.steps) ++ lists_in m))))) n)
