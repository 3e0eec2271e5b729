-- The lists of a task, read number by number.
use Rattle.std.proofs.Common.{◌≡◌, ℕ, zero, suc, ◌+◌, ◌<◌, Bool, true, false, ◌&&◌, ◌||◌, eqb, ltb, List, [], ◌∷◌, ◌++◌, length, get_or, take, sym, refl, ap, ◌∙◌, subst, inl, inr, arith}
use Rattle.std.proofs.lemmas.List.{take_more, get_or_past}
use Rattle.std.proofs.ByRecursion.{All-get_or}
use Rattle.std.proofs.lemmas.Bool.{cases_lt, cases_eq, ne_eqb}
use Rattle.std.proofs.lemmas.Bool.Decides.{nat_tests}
use Rattle.books.specs.Listed.{listed}
use Rattle.task_sheets.specs.declared.item.Part.{Part}
use Rattle.task_sheets.specs.declared.item.Part.TheVariants.{Start as StartPart, Goal as GoalPart, Level as LevelPart}
use Rattle.task_sheets.specs.declared.task_sheet.TaskSheet.{TaskSheet}
use Rattle.task_sheets.specs.Content.{Task, LawfulLevel, LawfulTask}
use Rattle.task_sheets.specs.Parts.{list_of}
use Rattle.task_sheets.specs.Opened.{task_of}
pub use Rattle.task_sheets.proofs.Items.{sheet_lawful}

pub listed_append : (xs ys : List ℕ) (q : ℕ) → listed (xs ++ ys) q ≡ (listed xs q || listed ys q)
listed_append [] ys q = refl
listed_append (x ∷ xs) ys q = let e = listed_append xs ys q in grind (arith, nat_tests)

-- one number more
pub listed_more : (ps : List ℕ) (j q : ℕ) → j < length ps → listed (take (j + 1) ps) q ≡ (listed (take j ps) q || eqb q (get_or ps j 0))
listed_more ps j q l =
    let e = ap (λ xs. listed xs q) (take_more ps j 0 l) ∙ listed_append (take j ps) (get_or ps j 0 ∷ []) q in
    grind (arith, nat_tests)

-- numbers below a limit
pub listed_below : (ps : List ℕ) (n q : ℕ) → ((j : ℕ) → j < length ps → get_or ps j 0 < n) → (ltb q n && listed ps q) ≡ listed ps q
listed_below [] n q w = grind (arith, nat_tests)
listed_below (x ∷ xs) n q w =
    let e = listed_below xs n q (λ j l. w (suc j) (omega arith)) in
    let h : x < n = w 0 (omega arith) in
    grind (arith, nat_tests)

level_below : (t : Task) → LawfulTask t → (i j : ℕ) → j < length (get_or t.levels i []) → get_or (get_or t.levels i []) j 0 < 1024
level_below t w i j l =
    elim (cases_lt i (length t.levels)) [
      | inl k ↦ omega (arith, (All-get_or (LawfulLevel t.steps) t.levels i [] k w.each).ascending.below j l, w.few_steps)
      | inr k ↦ absurd (omega (arith, ap length (get_or_past t.levels i [] k)))
    ]

-- no list of a lawful task has a number past the facts of a set
pub list_below : (t : Task) → LawfulTask t → (which : Part) (j : ℕ) → j < length (list_of t which) → get_or (list_of t which) j 0 < 1024
list_below t w StartPart j l = omega (arith, w.start.below j l, w.few_facts)
list_below t w GoalPart j l = omega (arith, w.goal.below j l, w.few_facts)
list_below t w (LevelPart zero) j l = absurd (omega arith)
list_below t w (LevelPart (suc i)) j l = level_below t w i j l

-- a set below n that holds the first j numbers takes one more
pub set_more : (ps : List ℕ) (n j q p : ℕ) (old new r : Bool) → j < length ps → p ≡ get_or ps j 0 → r ≡ ltb p n → new ≡ (old || (r && eqb q p))
    → old ≡ (ltb q n && listed (take j ps) q) → new ≡ (ltb q n && listed (take (j + 1) ps) q)
set_more ps n j q p old new r l e a b i =
    elim (cases_eq q p) [
      | inl k ↦
          (let w = listed_more ps j q l in
          let t : eqb q (get_or ps j 0) ≡ true = grind (arith, nat_tests) in
          let s : eqb q p ≡ true = grind (arith, nat_tests) in
          let u : ltb q n ≡ ltb p n = ap (λ x. ltb x n) k in
          rw w (grind (arith, nat_tests)))
      | inr k ↦
          (let w = listed_more ps j q l in
          let t : eqb q (get_or ps j 0) ≡ false = ne_eqb q (get_or ps j 0) (λ d. k (d ∙ sym e)) in
          let s : eqb q p ≡ false = ne_eqb q p k in
          rw w (grind (arith, nat_tests)))
    ]

-- the numbers of a part of a sheet are those of the list that it says
pub part_said : (s : TaskSheet) (which : Part) (ps : List ℕ) (q : ℕ) → ps ≡ list_of (task_of s) which → (ltb q 1024 && listed ps q) ≡ listed (list_of (task_of s) which) q
part_said s which ps q e =
    subst (λ xs. (ltb q 1024 && listed ps q) ≡ listed xs q) e
    (listed_below ps 1024 q (λ j. subst (λ xs. j < length xs → get_or xs j 0 < 1024) (sym e) (list_below (task_of s) (sheet_lawful s) which j)))
