-- The strata as levels are a recognized plan that leaves the same facts.
use Rattle.std.proofs.Common.{◌≡◌, ℕ, suc, ◌<◌, List, [], ◌∷◌, sym, ap, ◌∙◌, subst, subst₂, inl, inr, arith}
use Rattle.std.specs.List.{ContainsAt as Has, AllByRecursion}
use Rattle.std.proofs.ByRecursion.{all_has_itself, All-weaker}
use Rattle.std.proofs.lemmas.List.Sorted.{IsPermutation-refl}
use Rattle.std.proofs.lemmas.Bool.{lt-ltb, ltb-true, le-ltb}
use Rattle.books.specs.Book.{Model, Lawful, Facts}
use Rattle.plans.specs.Steps.{passed, Disturb, Authorizes, Met}
use Rattle.plans.specs.Plans.{Distinct, InTurn, Recognized}
use Rattle.plans.specs.Places.{Places, InOrder, Row, under}
use Rattle.plans.specs.Laws.{Climbs, Fed, Calm, Restaging, Stillness}
use Rattle.plans.proofs.Runs.{independence, needing}
use Rattle.plans.proofs.Layers.{LaysFrom, lays, Leaves, onward, ends, start, by_stratum, ending, feeding}

pub stillness : Stillness
stillness m o stratum climbs u v k l n e = independence m o u v n (λ q. omega (arith, climbs u v k l q)) (λ q. omega (arith, climbs v u l k q))

-- steps that do not disturb each other authorize each other
pub authorizes : (m : Model) (a b : ℕ) → (Disturb m a b → ⊥) → Authorizes m a b
authorizes m a b f =
    record { other = λ e. f (inl e); adding = λ p t d. f (inr (inr (p, d, inr t))); deleting = λ p d n. f (inr (inl (p, d, inl n))) }

-- distinct steps that do not disturb each other are in turn
module _ (m : Model) (xs : List ℕ) (calm : Calm m xs) where
  first_of : (a : ℕ) → Has xs a → (ys : List ℕ) → AllByRecursion (Has xs) ys → AllByRecursion (λ b. a ≡ b → ⊥) ys → AllByRecursion (Authorizes m a) ys
  first_of a h [] hs ds = tt
  first_of a h (b ∷ ys) hs ds = (authorizes m a b (calm a b h hs.0 ds.0), first_of a h ys hs.1 ds.1)

  pub in_turn : (ys : List ℕ) → AllByRecursion (Has xs) ys → Distinct ys → InTurn m ys
  in_turn [] hs ds = tt
  in_turn (a ∷ ys) hs ds = (first_of a hs.0 ys hs.1 ds.0, in_turn ys hs.1 ds.1)

module _ (m : Model) (law : Lawful m) (o : Places) (up : InOrder m o) (E : Facts) (fed : Fed m o E) (stratum : ℕ → ℕ) (climbs : Climbs m o stratum) where
  met : (s : ℕ) (F : Facts) → Leaves m o E stratum s F → (u : ℕ) → u < o.size → stratum u ≡ s → Met m F (o.step u)
  met s F e u k q p n =
      e p ∙ needing m o E fed (under stratum s) (λ v w i j r t. lt-ltb _ _ (omega (arith, climbs v w i j r, ltb-true _ _ t)))
      u k (le-ltb _ _ (omega arith)) (λ v i r. lt-ltb _ _ (omega (arith, climbs v u i k r))) p n

  calm : (s : ℕ) (xs : List ℕ) → Row o stratum s xs → Calm m xs
  calm s xs row a b i j n d =
      let w = row.only a i in let x = row.only b j in
      stillness m o stratum climbs w.0 x.0 w.1 x.1 (λ q. n (sym w.3 ∙ ap o.step q ∙ x.3)) (w.2 ∙ sym x.2)
      (subst₂ (Disturb m) (sym w.3) (sym x.3) d)

  pub all_calm : (s : ℕ) (plan : List (List ℕ)) → LaysFrom o stratum s plan → AllByRecursion (Calm m) plan
  all_calm s [] l = tt
  all_calm s (xs ∷ rest) l = (calm s xs l.0, all_calm (suc s) rest l.1)

  pub recognized : (s : ℕ) (plan : List (List ℕ)) (F : Facts) → LaysFrom o stratum s plan → Leaves m o E stratum s F → AllByRecursion Distinct plan → Recognized m F plan
  recognized s [] F l e d = tt
  recognized s (xs ∷ rest) F l e d = (
    record {
      met = All-weaker (Has xs) (Met m F) (λ a i. let w = l.0.only a i in subst (Met m F) w.3 (met s F e w.0 w.1 w.2)) xs (all_has_itself xs);
      authorized = (xs, record { shuffled = IsPermutation-refl xs; turn = in_turn m xs (calm s xs l.0) xs (all_has_itself xs) d.0 });
    },
    recognized (suc s) rest (passed m F xs) l.1 (onward m law o E stratum (by_stratum m o up stratum climbs) s F xs l.0 e) d.1,
  )

pub restaging : Restaging
restaging m law o up plan l E r stratum climbs strata k d =
    let f = lays o stratum strata k in
    let fed = feeding m law o up plan l E r in
    record {
      recognized = recognized m law o up E fed stratum climbs 0 strata E f (start m o E stratum) d;
      same = λ p. ends m law o E stratum (by_stratum m o up stratum climbs) 0 strata E f (start m o E stratum) p ∙ ending m law o up plan l E p;
      calm = all_calm m law o up E fed stratum climbs 0 strata f;
    }
