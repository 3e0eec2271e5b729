-- Every plan of authorized levels has strata.
use Rattle.std.proofs.Common.{◌≡◌, ℕ, zero, suc, ◌+◌, ◌-◌, ◌<◌, ◌≤◌, cond, eqb, ◌⊎◌, List, [], ◌∷◌, length, sym, refl, ◌∙◌, subst, inl, inr, arith}
use Rattle.std.specs.List.{ContainsAt as Has, AllByRecursion}
use Rattle.std.proofs.ByRecursion.{All-weaker, all-has, all_has_itself}
use Rattle.std.proofs.lemmas.Bool.{cases_lt, cases_eq, cases_order, eq-eqb, ne_eqb}
use Rattle.books.specs.Book.{Model, Lawful}
use Rattle.plans.specs.Plans.{Ascending}
use Rattle.plans.specs.Places.{Places, Precedes, InOrder}
use Rattle.plans.specs.Recasting.{Low, Stratifying}
use Rattle.plans.proofs.Members.{has_none, has_first, has_more, has_cases}
use Rattle.plans.proofs.Deciding.{authorizes_or_not, feeds_or_not}
use Rattle.plans.proofs.Preceding.{not_itself, not_back}
use Rattle.plans.proofs.Layers.{LaysFrom, laid}
use Rattle.plans.proofs.Arranging.{ascent, arranging, arrangeable}

-- a number above the ranks of all chosen places below n, and no higher than it must be
record Above (P : ℕ → Type 0) (rank : ℕ → ℕ) (n : ℕ) : Type 0 where
  pub height : ℕ
  pub above : (u : ℕ) → u < n → P u → rank u < height
  pub needed : (height ≡ 0) ⊎ ((u : ℕ) × (u < n) × P u × (height ≡ rank u + 1))

module _ (P : ℕ → Type 0) (P-or-not : (u : ℕ) → P u ⊎ (P u → ⊥)) (rank : ℕ → ℕ) where
  -- one place more, that is not chosen or too low to count
  above_more : (n : ℕ) (r : Above P rank n) → (P n → rank n < r.height) → Above P rank (suc n)
  above_more n r f = record {
    height = r.height;
    above = λ u l q. elim (cases_lt u n) [ inl i ↦ r.above u i q | inr i ↦ (let e : u ≡ n = omega arith in rw e (f (rw e at q))) ];
    needed = elim r.needed [ inl e ↦ inl e | inr t ↦ inr (t.0, omega arith, t.2, t.3) ];
  }

  above_all : (n : ℕ) → Above P rank n
  above_all zero = record { height = 0; above = λ u l. absurd (omega arith); needed = inl refl }
  above_all (suc n) =
      let r = above_all n in
      elim (P-or-not n) [
        | inr f ↦ above_more n r (λ q. absurd (f q))
        | inl q ↦ elim (cases_lt (rank n) r.height) [
          | inl l ↦ above_more n r (λ _. l)
          | inr l ↦ record {
            height = rank n + 1;
            above = λ u k p. elim (cases_lt u n) [ inl i ↦ omega (arith, r.above u i p) | inr i ↦ (let e : u ≡ n = omega arith in rw e (omega arith)) ];
            needed = inr (n, omega arith, q, refl);
          }
        ]
      ]

module _ (m : Model) (law : Lawful m) (o : Places) where
  precedes_or_not : (u v : ℕ) → Precedes m o u v ⊎ (Precedes m o u v → ⊥)
  precedes_or_not u v =
      elim (cases_order (o.level u) (o.level v)) [
        | inr (inr l) ↦ inr (not_back m o u v l)
        | inl e ↦ elim (cases_eq u v) [
          | inl q ↦ inr (λ p. not_itself m o v v (subst (λ x. Precedes m o x v) q p))
          | inr n ↦ elim (authorizes_or_not m law (o.step v) (o.step u)) [
            | inr f ↦ inl (inl (e, n, f))
            | inl w ↦ inr (λ p. elim p [ inl s ↦ s.2 w | inr s ↦ omega (arith, s.0) ])
          ]
        ]
        | inr (inl l) ↦ elim (authorizes_or_not m law (o.step u) (o.step v)) [
          | inr f ↦ inl (inr (l, inl f))
          | inl w ↦ elim (authorizes_or_not m law (o.step v) (o.step u)) [
            | inr f ↦ inl (inr (l, inr (inl f)))
            | inl x ↦ elim (feeds_or_not m law (o.step u) (o.step v)) [
              | inl t ↦ inl (inr (l, inr (inr t)))
              | inr f ↦ inr (λ p. elim p [ inl s ↦ omega (arith, s.0) | inr s ↦ elim s.1 [ inl g ↦ g w | inr (inl g) ↦ g x | inr (inr t) ↦ f t ] ])
            ]
          ]
        ]
      ]

  -- strata of the places below n
  record Stratified (n : ℕ) : Type 0 where
    pub stratum : ℕ → ℕ
    pub climbs : (u v : ℕ) → u < n → v < n → Precedes m o u v → stratum u < stratum v
    pub low : (v : ℕ) → v < n → (stratum v ≡ 0) ⊎ ((u : ℕ) × (u < n) × Precedes m o u v × (stratum v ≡ stratum u + 1))

  -- one place more
  module _ (up : InOrder m o) (n : ℕ) (fits : n < o.size) (r : Stratified n) (t : Above (λ u. Precedes m o u n) r.stratum n) where
    now : ℕ → ℕ
    now u = cond (eqb u n) t.height (r.stratum u)

    new : now n ≡ t.height
    unfolding now
    new = rw (eq-eqb n n refl)

    old : (u : ℕ) → u < n → now u ≡ r.stratum u
    unfolding now
    old u l = rw (ne_eqb u n (λ e. omega arith))

    now_climbs : (u v : ℕ) → u < suc n → v < suc n → Precedes m o u v → now u < now v
    now_climbs u v k l q =
        let i = up.upward u v (omega arith) (omega arith) q in
        elim (cases_lt v n) [
          | inl j ↦ omega (arith, old u (omega arith), old v j, r.climbs u v (omega arith) j q)
          | inr j ↦ (let e : v ≡ n = omega arith in rw e (omega (arith, new, old u (omega arith), t.above u (omega arith) (rw e at q))))
        ]

    now_low : (v : ℕ) → v < suc n → (now v ≡ 0) ⊎ ((u : ℕ) × (u < suc n) × Precedes m o u v × (now v ≡ now u + 1))
    now_low v l =
        elim (cases_lt v n) [
          | inl j ↦ elim (r.low v j) [
            | inl e ↦ inl (old v j ∙ e)
            | inr w ↦ inr (w.0, omega (arith, w.1), w.2, omega (arith, w.3, old v j, old w.0 w.1))
          ]
          | inr j ↦ (let e : n ≡ v = omega arith in subst (λ v. (now v ≡ 0) ⊎ ((u : ℕ) × (u < suc n) × Precedes m o u v × (now v ≡ now u + 1))) e (elim t.needed [
            | inl z ↦ inl (new ∙ z)
            | inr w ↦ inr (w.0, omega (arith, w.1), w.2, omega (arith, w.3, new, old w.0 w.1))
          ]))
        ]

  stratified : InOrder m o → (n : ℕ) → n ≤ o.size → Stratified n
  stratified up zero l = record { stratum = λ u. 0; climbs = λ u v k. absurd (omega arith); low = λ v k. absurd (omega arith) }
  stratified up (suc n) l =
      let r = stratified up n (omega arith) in
      let t = above_all (λ u. Precedes m o u n) (λ u. precedes_or_not u n) r.stratum n in
      record { stratum = now up n l r t; climbs = now_climbs up n l r t; low = now_low up n l r t }

-- a step put into its place
record Put (a : ℕ) (xs : List ℕ) : Type 0 where
  pub list : List ℕ
  pub ascending : Ascending list
  pub here : Has list a
  pub kept : (c : ℕ) → Has xs c → Has list c
  pub only : (c : ℕ) → Has list c → (a ≡ c) ⊎ Has xs c

put : (a : ℕ) (xs : List ℕ) → Ascending xs → Put a xs
put a [] t = record { list = a ∷ []; ascending = (tt, tt); here = has_first a []; kept = λ c h. absurd (has_none c h); only = has_cases a [] }
put a (x ∷ xs) t =
    elim (cases_order a x) [
      | inl q ↦ record { list = x ∷ xs; ascending = t; here = subst (Has (x ∷ xs)) (sym q) (has_first x xs); kept = λ c h. h; only = λ c h. inr h }
      | inr (inl l) ↦ record {
        list = a ∷ x ∷ xs;
        ascending = ((l, All-weaker (λ b. x < b) (λ b. a < b) (λ b k. omega arith) xs t.0), t);
        here = has_first a (x ∷ xs);
        kept = has_more a (x ∷ xs);
        only = has_cases a (x ∷ xs);
      }
      | inr (inr l) ↦ (let r = put a xs t.1 in record {
        list = x ∷ r.list;
        ascending = (All-weaker (Has r.list) (λ b. x < b) (λ b h. elim (r.only b h) [ inl q ↦ omega arith | inr i ↦ all-has (λ b. x < b) xs b t.0 i ]) r.list (all_has_itself r.list), r.ascending);
        here = has_more x r.list a r.here;
        kept = λ c h. elim (has_cases x xs c h) [ inl q ↦ subst (Has (x ∷ r.list)) q (has_first x r.list) | inr i ↦ has_more x r.list c (r.kept c i) ];
        only = λ c h. elim (has_cases x r.list c h) [
          | inl q ↦ inr (subst (Has (x ∷ xs)) q (has_first x xs))
          | inr i ↦ elim (r.only c i) [ inl q ↦ inl q | inr j ↦ inr (has_more x xs c j) ]
        ];
      })
    ]

module _ (o : Places) (rank : ℕ → ℕ) where
  -- the steps of rank s of the places below n
  record Gathered (s n : ℕ) : Type 0 where
    pub list : List ℕ
    pub ascending : Ascending list
    pub holds : (u : ℕ) → u < n → rank u ≡ s → Has list (o.step u)
    pub only : (a : ℕ) → Has list a → (u : ℕ) × (u < n) × (rank u ≡ s) × (o.step u ≡ a)

  gathered : (s n : ℕ) → Gathered s n
  gathered s zero = record { list = []; ascending = tt; holds = λ u l. absurd (omega arith); only = λ a h. absurd (has_none a h) }
  gathered s (suc n) =
      let r = gathered s n in
      elim (cases_eq (rank n) s) [
        | inr f ↦ record {
          list = r.list;
          ascending = r.ascending;
          holds = λ u l e. elim (cases_lt u n) [ inl i ↦ r.holds u i e | inr i ↦ (let q : u ≡ n = omega arith in absurd (f (rw q at e))) ];
          only = λ a h. (let w = r.only a h in (w.0, omega (arith, w.1), w.2, w.3));
        }
        | inl e ↦ (let p = put (o.step n) r.list r.ascending in record {
          list = p.list;
          ascending = p.ascending;
          holds = λ u l d. elim (cases_lt u n) [ inl i ↦ p.kept (o.step u) (r.holds u i d) | inr i ↦ (let q : u ≡ n = omega arith in rw q p.here) ];
          only = λ a h. elim (p.only a h) [ inl q ↦ (n, omega arith, e, q) | inr i ↦ (let w = r.only a i in (w.0, omega (arith, w.1), w.2, w.3)) ];
        })
      ]

  -- every rank below height is some place's
  abbrev Filled : ℕ → Type 0
  Filled height = (s : ℕ) → s < height → (u : ℕ) × (u < o.size) × (rank u ≡ s)

  record Rows (s : ℕ) : Type 0 where
    pub plan : List (List ℕ)
    pub lays : LaysFrom o rank s plan
    pub ascending : AllByRecursion Ascending plan
    pub some : AllByRecursion (λ xs. 0 < length xs) plan

  rows : (height : ℕ) → ((u : ℕ) → u < o.size → rank u < height) → Filled height → (k s : ℕ) → s + k ≡ height → Rows s
  rows height above filled zero s e = record { plan = []; lays = λ u l. omega (arith, above u l); ascending = tt; some = tt }
  rows height above filled (suc k) s e =
      let g = gathered s o.size in
      let w = filled s (omega arith) in
      let r = rows height above filled k (suc s) (omega arith) in
      record {
        plan = g.list ∷ r.plan;
        lays = (record { holds = g.holds; only = g.only }, r.lays);
        ascending = (g.ascending, r.ascending);
        some = (omega (arith, (g.holds w.0 w.1 w.2).1), r.some);
      }

  -- below a rank that is some place's all ranks are
  filling : (m : Model) → Low m o rank → (t : Above (λ u. Unit {0}) rank o.size) → Filled t.height
  filling m low t s l = go (t.height - suc s) s (omega arith)
    where
      go : (k s : ℕ) → s + suc k ≡ t.height → (u : ℕ) × (u < o.size) × (rank u ≡ s)
      go zero s e = elim t.needed [ inl z ↦ absurd (omega arith) | inr w ↦ (w.0, w.1, omega (arith, w.3)) ]
      go (suc k) s e =
          let w = go k (suc s) (omega arith) in
          elim (low w.0 w.1) [ inl z ↦ absurd (omega (arith, w.2)) | inr x ↦ (x.0, x.1, omega (arith, w.2, x.3)) ]

pub stratifying : Stratifying
stratifying m law plan = (
  λ a. (let t = arranging m law plan a in
      let o = t.0 in
      let s = stratified m law o (ascent m plan o t.1) o.size (omega arith) in
      let h = above_all (λ u. Unit {0}) (λ u. inl tt) s.stratum o.size in
      let r = rows o s.stratum h.height (λ u l. h.above u l tt) (filling o s.stratum m s.low h) h.height 0 (omega arith) in (
        r.plan,
        record {
          places = o;
          stratum = s.stratum;
          arranged = t.1;
          climbs = s.climbs;
          low = s.low;
          lays = laid o s.stratum r.plan r.lays;
          ascending = r.ascending;
          some = r.some;
        },
      )),
  λ t. (arrangeable m law plan).1 (t.1.places, t.1.arranged),
)
