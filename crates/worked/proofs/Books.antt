-- The books and the tasks of the examples are lawful.
use Rattle.std.proofs.Common.{◌≡◌, ℕ, suc, ◌<◌, Bool, true, not, ◌&&◌, ◌||◌, eqb, ltb, leb, ◌⊎◌, List, [], ◌∷◌, length, get_or, refl, inl, inr, arith}
use Rattle.std.specs.List.{AllByRecursion}
use Rattle.std.proofs.lemmas.Bool.{and_parts, leb-true, ltb-true}
use Rattle.std.proofs.lemmas.Bool.Decides.{Decides-eqb, Decides-ltb, Decides-not, Decides-or}
use Rattle.sheets.specs.Lists.{Ascending}
use Rattle.books.specs.Book.{Lawful}
use Rattle.book_sheets.specs.Content.{Step, Content, model_of, LawfulList, LawfulStep}
use Rattle.book_sheets.proofs.Models.{model_lawful}
use Rattle.task_sheets.specs.Content.{Task, LawfulLevel, LawfulTask, total}
use Rattle.racks.proofs.RackLawful.{rack_lawful}
use Rattle.worked.specs.Books.{rack, one_order_says, one_order_book, ring_says, ring}
use Rattle.worked.proofs.Tests.{below, decides_below}

abbrev ascending : ℕ → List ℕ → Bool
ascending bound ps = below (λ j. ltb (get_or ps j 0) bound) (length ps) && below (λ j. not (ltb (suc j) (length ps)) || ltb (get_or ps j 0) (get_or ps (suc j) 0)) (length ps)

ascending_shown : (bound : ℕ) (ps : List ℕ) → ascending bound ps ≡ true → Ascending bound ps
ascending_shown bound ps e =
    let t = and_parts _ _ e in
    let rises = (decides_below (λ j. not (ltb (suc j) (length ps)) || ltb (get_or ps j 0) (get_or ps (suc j) 0)) (λ j. (suc j < length ps → ⊥) ⊎ (get_or ps j 0 < get_or ps (suc j) 0))
    (λ j. Decides-or _ _ (Decides-not _ (Decides-ltb (suc j) (length ps))) (Decides-ltb (get_or ps j 0) (get_or ps (suc j) 0))) (length ps)).0 t.1 in
    record {
      below = (decides_below (λ j. ltb (get_or ps j 0) bound) (λ j. get_or ps j 0 < bound) (λ j. Decides-ltb (get_or ps j 0) bound) (length ps)).0 t.0;
      ascends = λ j l. elim (rises j (omega arith)) [ inl n ↦ absurd (n l) | inr k ↦ k ];
    }

abbrev list_lawful : ℕ → List ℕ → Bool
list_lawful f ps = leb (length ps) 250 && ascending f ps

list_shown : (f : ℕ) (ps : List ℕ) → list_lawful f ps ≡ true → LawfulList f ps
list_shown f ps e = let t = and_parts _ _ e in record { few = leb-true _ _ t.0; ascending = ascending_shown f ps t.1 }

abbrev apart : Step → Bool
apart s = below (λ i. below (λ j. not (eqb (get_or s.adds i 0) (get_or s.deletes j 0))) (length s.deletes)) (length s.adds)

abbrev step_lawful_shown : ℕ → Step → Bool
step_lawful_shown f s = (list_lawful f s.needs && (list_lawful f s.adds && list_lawful f s.deletes)) && (apart s && leb s.seconds 1000000)

step_shown : (f : ℕ) (s : Step) → step_lawful_shown f s ≡ true → LawfulStep f s
step_shown f s e =
    let t = and_parts _ _ e in
    let n = and_parts _ _ t.0 in
    let d = and_parts _ _ n.1 in
    let r = and_parts _ _ t.1 in
    let differ = (decides_below (λ i. below (λ j. not (eqb (get_or s.adds i 0) (get_or s.deletes j 0))) (length s.deletes))
    (λ i. (j : ℕ) → j < length s.deletes → get_or s.adds i 0 ≡ get_or s.deletes j 0 → ⊥)
    (λ i. decides_below (λ j. not (eqb (get_or s.adds i 0) (get_or s.deletes j 0))) (λ j. get_or s.adds i 0 ≡ get_or s.deletes j 0 → ⊥)
    (λ j. Decides-not _ (Decides-eqb (get_or s.adds i 0) (get_or s.deletes j 0))) (length s.deletes)) (length s.adds)).0 r.0 in
    record {
      needs = list_shown f s.needs n.0;
      adds = list_shown f s.adds d.0;
      deletes = list_shown f s.deletes d.1;
      apart = λ i j li lj. differ i li j lj;
      short = leb-true _ _ r.1;
    }

abbrev steps_lawful_shown : ℕ → List Step → Bool
steps_lawful_shown f [] = true
steps_lawful_shown f (s ∷ rest) = step_lawful_shown f s && steps_lawful_shown f rest

steps_shown : (f : ℕ) (steps : List Step) → steps_lawful_shown f steps ≡ true → AllByRecursion (LawfulStep f) steps
steps_shown f [] e = tt
steps_shown f (s ∷ rest) e = let t = and_parts _ _ e in (step_shown f s t.0, steps_shown f rest t.1)

content_shown : (c : Content) → (leb c.facts 1024 && (leb (length c.steps) 512 && steps_lawful_shown c.facts c.steps)) ≡ true → Lawful (model_of c)
content_shown c e =
    let t = and_parts _ _ e in
    let r = and_parts _ _ t.1 in
    model_lawful c (record { few_facts = leb-true _ _ t.0; few_steps = leb-true _ _ r.0; each = steps_shown c.facts c.steps r.1 })

abbrev levels_lawful : ℕ → List (List ℕ) → Bool
levels_lawful steps [] = true
levels_lawful steps (ps ∷ rest) = (ltb 0 (length ps) && ascending steps ps) && levels_lawful steps rest

levels_shown : (steps : ℕ) (levels : List (List ℕ)) → levels_lawful steps levels ≡ true → AllByRecursion (LawfulLevel steps) levels
levels_shown steps [] e = tt
levels_shown steps (ps ∷ rest) e =
    let t = and_parts _ _ e in
    let r = and_parts _ _ t.0 in
    (record { some = ltb-true _ _ r.0; ascending = ascending_shown steps ps r.1 }, levels_shown steps rest t.1)

abbrev lawful_task : Task → Bool
lawful_task t =
    (leb t.facts 1024 && leb t.steps 512) && ((leb (length t.levels) 256 && leb (total t.levels) 256)
    && (ascending t.facts t.start && (ascending t.facts t.goal && levels_lawful t.steps t.levels)))

pub task_shown : (t : Task) → lawful_task t ≡ true → LawfulTask t
task_shown t e =
    let s = and_parts _ _ e in
    let a = and_parts _ _ s.0 in
    let r = and_parts _ _ s.1 in
    let b = and_parts _ _ r.0 in
    let c = and_parts _ _ r.1 in
    let d = and_parts _ _ c.1 in
    record {
      few_facts = leb-true _ _ a.0;
      few_steps = leb-true _ _ a.1;
      few_levels = leb-true _ _ b.0;
      few_in_all = leb-true _ _ b.1;
      start = ascending_shown t.facts t.start c.0;
      goal = ascending_shown t.facts t.goal d.0;
      each = levels_shown t.steps t.levels d.1;
    }

pub rack_is_lawful : Lawful rack
rack_is_lawful = rack_lawful 2 1 (omega arith) (omega arith) (omega arith) (omega arith)

pub one_order_is_lawful : Lawful one_order_book
one_order_is_lawful = content_shown one_order_says refl

pub ring_is_lawful : Lawful ring
ring_is_lawful = content_shown ring_says refl
