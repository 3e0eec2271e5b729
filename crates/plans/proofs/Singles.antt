-- Steps done singly, in an authorized order of each level, leave what the levels leave.
use Rattle.std.proofs.Common.{◌≡◌, ℕ, Bool, true, not, ◌&&◌, ◌||◌, List, [], ◌∷◌, ◌++◌, refl, ap, ◌∙◌, ap₂, inl, inr, arith}
use mathlib.Core.Path.{fun_ext}
use Rattle.std.specs.List.{ContainsAt as Has, AllZip, flat_map, AllByRecursion}
use Rattle.std.specs.List.Sorted.{IsPermutation}
use Rattle.std.proofs.ByRecursion.{all-has, has_shuffled}
use Rattle.std.proofs.lemmas.List.Sorted.{IsPermutation-sym}
use Rattle.std.proofs.lemmas.Bool.{cases_Bool}
use Rattle.books.specs.Book.{Model, Facts, after}
use Rattle.plans.specs.Steps.{Authorizes, some, passed}
use Rattle.plans.specs.Plans.{InTurn, AuthorizedOrder, singly, finally}
use Rattle.plans.specs.Laws.{Singling}
use Rattle.plans.proofs.Layers.{either_way, some_found, none_found}

-- a list with the same members has such a step where the other has
some_members : (f : ℕ → Bool) (xs ys : List ℕ) → ((a : ℕ) → Has xs a → Has ys a) → some f xs ≡ true → some f ys ≡ true
some_members f xs ys g e =
    let t = some_found f xs e in
    elim (cases_Bool (some f ys)) [ inl d ↦ d | inr d ↦ absurd (none_found f ys d t.0 (g t.0 t.1) t.2) ]

some_shuffled : (f : ℕ → Bool) (xs ys : List ℕ) → IsPermutation xs ys → some f ys ≡ some f xs
some_shuffled f xs ys s =
    either_way (some f ys) (some f xs) (some_members f ys xs (λ a. has_shuffled ys xs a (IsPermutation-sym xs ys s))) (some_members f xs ys (λ a. has_shuffled xs ys a s))

-- one step first, for one fact: it adds nothing that the others delete
first_bits : (x add del adds dels : Bool) → (add ≡ true → dels ≡ true → ⊥) → ((((x && not del) || add) && not dels) || adds) ≡ ((x && not (del || dels)) || (add || adds))
first_bits x add del adds dels f = grind arith

module _ (m : Model) where
  passed_shuffled : (E : Facts) (xs bs : List ℕ) → IsPermutation xs bs → (p : ℕ) → passed m E bs p ≡ passed m E xs p
  passed_shuffled E xs bs s p =
      ap₂ (λ d a. (E p && not d) || a) (some_shuffled (λ a. m.deletes a p) xs bs s) (some_shuffled (λ a. m.adds a p) xs bs s)

  passed_more : (E : Facts) (a : ℕ) (bs : List ℕ) → AllByRecursion (Authorizes m a) bs → (p : ℕ) → passed m (after m E a) bs p ≡ passed m E (a ∷ bs) p
  passed_more E a bs w p =
      first_bits (E p) (m.adds a p) (m.deletes a p) (some (λ b. m.adds b p) bs) (some (λ b. m.deletes b p) bs)
      (λ e d. let t = some_found (λ b. m.deletes b p) bs d in (all-has (Authorizes m a) bs t.0 w t.1).adding p e t.2)

  singly_passed : (E : Facts) (bs : List ℕ) → InTurn m bs → (p : ℕ) → singly m E bs p ≡ passed m E bs p
  singly_passed E [] t p = search (arith, cases_Bool)
  singly_passed E (a ∷ bs) t p = singly_passed (after m E a) bs t.1 p ∙ passed_more E a bs t.0 p

  singly_append : (E : Facts) (bs cs : List ℕ) → singly m E (bs ++ cs) ≡ singly m (singly m E bs) cs
  singly_append E [] cs = refl
  singly_append E (b ∷ bs) cs = singly_append (after m E b) bs cs

  -- one level
  pub level_singly : (E : Facts) (xs bs : List ℕ) → AuthorizedOrder m xs bs → singly m E bs ≡ passed m E xs
  level_singly E xs bs s = fun_ext (λ p. singly_passed E bs s.turn p ∙ passed_shuffled E xs bs s.shuffled p)

  all_singly : (plan orders : List (List ℕ)) → AllZip (AuthorizedOrder m) plan orders → (E : Facts) → singly m E (flat_map (λ bs. bs) orders) ≡ finally m E plan
  all_singly [] [] s E = refl
  all_singly [] (bs ∷ orders) s E = absurd s
  all_singly (xs ∷ plan) [] s E = absurd s
  all_singly (xs ∷ plan) (bs ∷ orders) s E =
      singly_append E bs (flat_map (λ bs. bs) orders) ∙ ap (λ F. singly m F (flat_map (λ bs. bs) orders)) (level_singly E xs bs s.0) ∙ all_singly plan orders s.1 (passed m E xs)

pub singling : Singling
singling m plan orders s E p = ap (λ F. F p) (all_singly m plan orders s E)
