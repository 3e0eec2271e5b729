-- The strata of a plan as levels: there is one list of them, they are accepted where the plan is, and they are their own strata.
use Rattle.std.proofs.Common.{◌≡◌, ℕ, zero, suc, ◌<◌, ◌≤◌, List, [], ◌∷◌, length, get_or, sym, refl, ◌∙◌, subst, ap₂, inl, inr, arith}
use Rattle.std.specs.List.{ContainsAt as Has, AllByRecursion}
use Rattle.std.proofs.ByRecursion.{All-get_or, All-weaker, has_get_or}
use Rattle.books.specs.Book.{Model, Facts}
use Rattle.plans.specs.Steps.{passed}
use Rattle.plans.specs.Plans.{Distinct, Ascending, Authorized, Recognized}
use Rattle.plans.specs.Places.{Places, Arranged, Precedes, InOrder, Row, Lays}
use Rattle.plans.specs.Laws.{Alike, Climbs, Calm}
use Rattle.plans.specs.Recasting.{Low, OneRecast, Recasting}
use Rattle.plans.proofs.Members.{same_ascending, distinct_from_ascending}
use Rattle.plans.proofs.Layers.{LaysFrom, lays}
use Rattle.plans.proofs.Strata.{authorizes, restaging}
use Rattle.plans.proofs.Arranging.{ascent, laying, arranging, likeness}

module _ (m : Model) (o o' : Places) (alike : Alike o o') where
  precedes_alike : (u v : ℕ) → u < o.size → v < o.size → Precedes m o u v → Precedes m o' u v
  precedes_alike u v k l (inl s) = inl (alike.level u k ∙ s.0 ∙ sym (alike.level v l), s.1, rw (alike.step u k, alike.step v l) s.2)
  precedes_alike u v k l (inr s) =
      inr (omega (arith, s.0, alike.level u k, alike.level v l), rw (alike.step u k, alike.step v l) s.1)

  climbs_alike : (stratum : ℕ → ℕ) → Climbs m o' stratum → Climbs m o stratum
  climbs_alike stratum climbs u v k l q = climbs u v (omega (arith, alike.size)) (omega (arith, alike.size)) (precedes_alike u v k l q)

  lays_alike : (stratum stratum' : ℕ → ℕ) → ((u : ℕ) → u < o.size → stratum u ≡ stratum' u) → (plan : List (List ℕ)) → Lays o' stratum' plan → Lays o stratum plan
  lays_alike stratum stratum' same plan l = record {
    within = λ u k. omega (arith, same u k, l.within u (omega (arith, alike.size)));
    rows = λ i k. (let r = l.rows i k in record {
      holds = λ u j e. subst (Has (get_or plan i [])) (alike.step u j) (r.holds u (omega (arith, alike.size)) (sym (same u j) ∙ e));
      only = λ a h. (let w = r.only a h in
          let j : w.0 < o.size = omega (arith, w.1, alike.size) in (w.0, j, same w.0 j ∙ w.2, sym (alike.step w.0 j) ∙ w.3));
    });
  }

-- a stratum that is no higher than it must be is no higher than another
lowest : (m : Model) (o : Places) → InOrder m o → (low other : ℕ → ℕ) → Low m o low → Climbs m o other → (n u : ℕ) → u < n → u < o.size → low u ≤ other u
lowest m o up low other f climbs zero u l k = absurd (omega arith)
lowest m o up low other f climbs (suc n) u l k =
    elim (f u k) [
      | inl e ↦ omega arith
      | inr t ↦ (let i = up.upward t.0 u t.1 k t.2 in
          omega (arith, t.3, climbs t.0 u t.1 k t.2, lowest m o up low other f climbs n t.0 (omega arith) t.1))
    ]

-- the places by rank make one plan of ascending levels with at least one step
one_plan : (o : Places) (rank : ℕ → ℕ) (s : ℕ) (xs ys : List (List ℕ)) → LaysFrom o rank s xs → LaysFrom o rank s ys → AllByRecursion Ascending xs → AllByRecursion Ascending ys
    → AllByRecursion (λ l. 0 < length l) xs → AllByRecursion (λ l. 0 < length l) ys → xs ≡ ys
one_plan o rank s [] [] k l a b i j = refl
one_plan o rank s [] (y ∷ ys) k l a b i j = let w = l.0.only (get_or y 0 0) (has_get_or y 0 0 j.0) in absurd (omega (arith, w.2, k w.0 w.1))
one_plan o rank s (x ∷ xs) [] k l a b i j = let w = k.0.only (get_or x 0 0) (has_get_or x 0 0 i.0) in absurd (omega (arith, w.2, l w.0 w.1))
one_plan o rank s (x ∷ xs) (y ∷ ys) k l a b i j =
    ap₂ ◌∷◌ (same_ascending x y a.0 b.0 (among x y k.0 l.0) (among y x l.0 k.0))
    (one_plan o rank (suc s) xs ys k.1 l.1 a.1 b.1 i.1 j.1)
  where
    among : (x y : List ℕ) → Row o rank s x → Row o rank s y → (c : ℕ) → Has x c → Has y c
    among x y q r c h = let w = q.only c h in subst (Has y) w.3 (r.holds w.0 w.1 w.2)

pub one_recast : OneRecast
one_recast m plan xs ys s t =
    let o = s.places in let o' = t.places in
    let alike = likeness m plan o o' s.arranged t.arranged in
    let back = likeness m plan o' o t.arranged s.arranged in
    let same : (u : ℕ) → u < o.size → s.stratum u ≡ t.stratum u =
    λ u k. omega (
      arith,
      lowest m o (ascent m plan o s.arranged) s.stratum t.stratum s.low (climbs_alike m o o' alike t.stratum t.climbs) (suc u) u (omega arith) k,
      lowest m o' (ascent m plan o' t.arranged) t.stratum s.stratum t.low (climbs_alike m o' o back s.stratum s.climbs) (suc u) u (omega arith) (omega (arith, alike.size)),
    ) in
    one_plan o s.stratum 0 xs ys (lays o s.stratum xs s.lays)
    (lays o s.stratum ys (lays_alike m o o' alike s.stratum t.stratum same ys t.lays))
    s.ascending t.ascending s.some t.some

-- the levels of a recognized plan are authorized
pub all_authorized : (m : Model) (E : Facts) (plan : List (List ℕ)) → Recognized m E plan → AllByRecursion (Authorized m) plan
all_authorized m E [] r = tt
all_authorized m E (xs ∷ plan) r = (r.0.authorized, all_authorized m (passed m E xs) plan r.1)

-- two different places of one level have different steps
other_steps : (m : Model) (o : Places) → InOrder m o → (u v : ℕ) → u < o.size → v < o.size → o.level u ≡ o.level v → (u ≡ v → ⊥) → o.step u ≡ o.step v → ⊥
other_steps m o up u v k l e n q =
    omega (arith, up.upward u v k l (inl (e, n, λ w. w.other (sym q))), up.upward v u l k (inl (sym e, (λ d. n (sym d)), λ w. w.other q)))

module _ (m : Model) (strata : List (List ℕ)) (o : Places) (arranged : Arranged m strata o) (calm : AllByRecursion (Calm m) strata) where
  -- places of calm levels precede only places of higher levels
  climbs_levels : Climbs m o o.level
  climbs_levels u v k l (inr s) = s.0
  climbs_levels u v k l (inl s) =
      let by = laying m strata o arranged in
      let i = by.within u k in
      let row = by.rows (o.level u) i in
      absurd (s.2 (authorizes m (o.step v) (o.step u)
      (All-get_or (Calm m) strata (o.level u) [] i calm (o.step v) (o.step u) (row.holds v l (sym s.0)) (row.holds u k refl)
      (λ q. other_steps m o (ascent m strata o arranged) u v k l s.0 s.1 (sym q)))))

  -- a place that preceded another one stratum below it precedes it from the level below
  low_levels : (old : Places) (stratum : ℕ → ℕ) → Low m old stratum → Lays old stratum strata → Low m o o.level
  low_levels old stratum low lays v k =
      let by = laying m strata o arranged in
      let i = by.within v k in
      let w = (lays.rows (o.level v) i).only (o.step v) ((by.rows (o.level v) i).holds v k refl) in
      elim (low w.0 w.1) [
        | inl e ↦ inl (sym w.2 ∙ e)
        | inr t ↦ (let j = lays.within t.0 t.1 in
            let x = (by.rows (stratum t.0) j).only (old.step t.0) ((lays.rows (stratum t.0) j).holds t.0 t.1 refl) in
            inr (x.0, x.1, across t.0 w.0 x.0 t.2 (omega (arith, w.2, t.3, x.2)) x.3 (sym w.3), omega (arith, w.2, t.3, x.2)))
      ]
    where
      across : (u w x : ℕ) → Precedes m old u w → o.level x < o.level v → o.step x ≡ old.step u → o.step v ≡ old.step w → Precedes m o x v
      across u w x (inl s) l e f = inr (l, inr (inl (rw (e, f) s.2)))
      across u w x (inr s) l e f = inr (l, rw (e, f) s.1)

pub recasting : Recasting
recasting m law start goal plan strata accepted s =
    let o = s.places in
    let r = restaging m law o (ascent m plan o s.arranged) plan (laying m plan o s.arranged) start accepted.recognized
    s.stratum s.climbs strata s.lays (All-weaker Ascending Distinct distinct_from_ascending strata s.ascending) in
    let t = arranging m law strata (all_authorized m start strata r.recognized) in
    record {
      accepted = record { recognized = r.recognized; reached = λ p g. r.same p ∙ accepted.reached p g };
      same = r.same;
      calm = r.calm;
      again = record {
        places = t.0;
        stratum = t.0.level;
        arranged = t.1;
        climbs = climbs_levels m strata t.0 t.1 r.calm;
        low = low_levels m strata t.0 t.1 r.calm o s.stratum s.low s.lays;
        lays = laying m strata t.0 t.1;
        ascending = s.ascending;
        some = s.some;
      };
    }
