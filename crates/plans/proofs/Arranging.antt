-- Places that are the picked orders of a plan's levels: one more level, and what holds of them.
use Rattle.std.proofs.Common.{◌≡◌, ℕ, suc, ◌+◌, ◌-◌, ◌<◌, ◌≤◌, List, [], ◌∷◌, ◌++◌, length, get_or, replicate, sym, refl, ◌∙◌, subst, inl, inr, arith}
use Rattle.std.specs.List.{AllByRecursion}
use Rattle.std.proofs.ByRecursion.{has_get_or, has_shuffled}
use Rattle.std.proofs.lemmas.List.{length-append, get_or_append_left, get_or-append-add, length-replicate, get_or-replicate}
use Rattle.std.proofs.lemmas.List.Sorted.{IsPermutation-sym}
use Rattle.std.proofs.lemmas.Bool.{cases_lt}
use Rattle.books.specs.Book.{Model, Lawful}
use Rattle.plans.specs.Steps.{Authorizes}
use Rattle.plans.specs.Plans.{Authorized}
use Rattle.plans.specs.Order.{Picked}
use Rattle.plans.specs.Places.{Places, Stands, ArrangedFrom, Arranged, Row}
use Rattle.plans.specs.Laws.{Arranging, Arrangeable, Ascent, Laying, Likeness}
use Rattle.plans.proofs.Members.{pairwise_get_or}
use Rattle.plans.proofs.Layers.{LaysFrom, laid}
use Rattle.plans.proofs.Picks.{turning, uniqueness, reaching}

-- o and o' have the same places below n
pub record Agree (n : ℕ) (o o' : Places) : Type 0 where
  pub step : (u : ℕ) → u < n → o'.step u ≡ o.step u
  pub level : (u : ℕ) → u < n → o'.level u ≡ o.level u

pub stands_none : (o : Places) (n i : ℕ) → Stands o n i []
stands_none o n i = record { step = λ k l. absurd (omega arith); level = λ k l. absurd (omega arith) }

pub stands_kept : (o o' : Places) (n i : ℕ) (bs : List ℕ) → Agree (n + length bs) o o' → Stands o n i bs → Stands o' n i bs
stands_kept o o' n i bs g s =
    record { step = λ k l. g.step (n + k) (omega arith) ∙ s.step k l; level = λ k l. g.level (n + k) (omega arith) ∙ s.level k l }

-- one more step at the end
pub stands_more : (o : Places) (n i : ℕ) (bs : List ℕ) (a : ℕ) → Stands o n i bs → o.step (n + length bs) ≡ a → o.level (n + length bs) ≡ i
    → Stands o n i (bs ++ a ∷ [])
stands_more o n i bs a s e d = record {
  step = λ k l. elim (cases_lt k (length bs)) [
    | inl j ↦ s.step k j ∙ sym (get_or_append_left bs (a ∷ []) 0 k j)
    | inr j ↦ (let q : k ≡ length bs = omega (arith, length-append bs (a ∷ [])) in
        let w : length bs + 0 ≡ length bs = omega arith in
        subst (λ x. o.step (n + x) ≡ get_or (bs ++ a ∷ []) x 0) (sym q) (e ∙ sym (subst (λ x. get_or (bs ++ a ∷ []) x 0 ≡ a) w (get_or-append-add bs (a ∷ []) 0 0))))
  ];
  level = λ k l. elim (cases_lt k (length bs)) [
    | inl j ↦ s.level k j
    | inr j ↦ (let q : k ≡ length bs = omega (arith, length-append bs (a ∷ [])) in subst (λ x. o.level (n + x) ≡ i) (sym q) d)
  ];
}

-- the place n + k
at_step : (o : Places) (n i : ℕ) (bs : List ℕ) → Stands o n i bs → (u : ℕ) → n ≤ u → u < n + length bs → o.step u ≡ get_or bs (u - n) 0
at_step o n i bs s u l k = let q : n + (u - n) ≡ u = omega arith in rw q at (s.step (u - n) (omega arith))

at_level : (o : Places) (n i : ℕ) (bs : List ℕ) → Stands o n i bs → (u : ℕ) → n ≤ u → u < n + length bs → o.level u ≡ i
at_level o n i bs s u l k = let q : n + (u - n) ≡ u = omega arith in rw q at (s.level (u - n) (omega arith))

module _ (m : Model) where
  pub size_from : (o : Places) (n i : ℕ) (plan : List (List ℕ)) → ArrangedFrom m o n i plan → n ≤ o.size
  size_from o n i [] a = omega arith
  size_from o n i (xs ∷ rest) a = omega (arith, size_from o (n + length a.0) (suc i) rest a.3)

  pub level_from : (o : Places) (n i : ℕ) (plan : List (List ℕ)) → ArrangedFrom m o n i plan → (u : ℕ) → n ≤ u → u < o.size → i ≤ o.level u
  level_from o n i [] a u l k = absurd (omega arith)
  level_from o n i (xs ∷ rest) a u l k =
      elim (cases_lt u (n + length a.0)) [
        | inl j ↦ omega (arith, at_level o n i a.0 a.2 u l j)
        | inr j ↦ omega (arith, level_from o (n + length a.0) (suc i) rest a.3 u j k)
      ]

  rising : (o : Places) (n i : ℕ) (plan : List (List ℕ)) → ArrangedFrom m o n i plan → (u v : ℕ) → n ≤ u → u ≤ v → v < o.size → o.level u ≤ o.level v
  rising o n i [] a u v l j k = absurd (omega arith)
  rising o n i (xs ∷ rest) a u v l j k =
      elim (cases_lt u (n + length a.0)) [
        | inl h ↦ omega (arith, at_level o n i a.0 a.2 u l h, level_from o n i (xs ∷ rest) a v (omega arith) k)
        | inr h ↦ rising o (n + length a.0) (suc i) rest a.3 u v h j k
      ]

  in_turn : (o : Places) (n i : ℕ) (plan : List (List ℕ)) → ArrangedFrom m o n i plan → (u v : ℕ) → n ≤ u → u < v → v < o.size → o.level u ≡ o.level v
      → Authorizes m (o.step u) (o.step v)
  in_turn o n i [] a u v l j k e = absurd (omega arith)
  in_turn o n i (xs ∷ rest) a u v l j k e =
      elim (cases_lt v (n + length a.0)) [
        | inl h ↦ rw (at_step o n i a.0 a.2 u l (omega arith), at_step o n i a.0 a.2 v (omega arith) h)
            (pairwise_get_or (Authorizes m) a.0 (turning m xs a.0 a.1) (u - n) (v - n) 0 (omega arith) (omega arith))
        | inr h ↦ elim (cases_lt u (n + length a.0)) [
          | inl g ↦ absurd (omega (arith, at_level o n i a.0 a.2 u l g, level_from o (n + length a.0) (suc i) rest a.3 v h k))
          | inr g ↦ in_turn o (n + length a.0) (suc i) rest a.3 u v g j k e
        ]
      ]

pub ascent : Ascent
ascent m plan o a = record {
  rises = λ u v. rising m o 0 0 plan a u v (omega arith);
  upward = λ u v k l q. elim (cases_lt u v) [
    | inl j ↦ j
    | inr j ↦ absurd (elim q [
      | inl s ↦ s.2 (in_turn m o 0 0 plan a v u (omega arith) (omega (arith, s.1)) k (sym s.0))
      | inr s ↦ omega (arith, rising m o 0 0 plan a v u (omega arith) j k)
    ])
  ];
}

module _ (m : Model) (o : Places) where
  row_of : (n i : ℕ) (xs bs : List ℕ) → Picked m xs bs → Stands o n i bs → n + length bs ≤ o.size → ((u : ℕ) → u < n → o.level u < i)
      → ((u : ℕ) → n + length bs ≤ u → u < o.size → i < o.level u) → Row o o.level i xs
  row_of n i xs bs p s l below above = record {
    holds = λ u k e. elim (cases_lt u n) [
      | inl j ↦ absurd (omega (arith, below u j))
      | inr j ↦ elim (cases_lt u (n + length bs)) [
        | inr h ↦ absurd (omega (arith, above u h k))
        | inl h ↦ rw (at_step o n i bs s u j h) (has_shuffled bs xs _ (IsPermutation-sym xs bs p.shuffled) (has_get_or bs (u - n) 0 (omega arith)))
      ]
    ];
    only = λ a h. (let t = has_shuffled xs bs a p.shuffled h in (n + t.0, omega (arith, t.1), s.level t.0 t.1, s.step t.0 t.1 ∙ t.2 0));
  }

  rows_from : (n i : ℕ) (plan : List (List ℕ)) → ArrangedFrom m o n i plan → ((u : ℕ) → u < n → o.level u < i) → LaysFrom o o.level i plan
  rows_from n i [] a below = λ u k. below u (omega arith)
  rows_from n i (xs ∷ rest) a below = (
    row_of n i xs a.0 a.1 a.2 (size_from m o (n + length a.0) (suc i) rest a.3) below (level_from m o (n + length a.0) (suc i) rest a.3),
    rows_from (n + length a.0) (suc i) rest a.3
        (λ u k. elim (cases_lt u n) [ inl j ↦ omega (arith, below u j) | inr j ↦ omega (arith, at_level o n i a.0 a.2 u j k) ]),
  )

pub laying : Laying
laying m plan o a = laid o o.level plan (rows_from m o 0 0 plan a (λ u k. absurd (omega arith)))

module _ (m : Model) (o o' : Places) where
  -- the same from place n on
  AlikeFrom : ℕ → Type 0
  AlikeFrom n = (o'.size ≡ o.size) × ((u : ℕ) → n ≤ u → u < o.size → (o'.step u ≡ o.step u) × (o'.level u ≡ o.level u))

  alike_from : (n i : ℕ) (plan : List (List ℕ)) → ArrangedFrom m o n i plan → ArrangedFrom m o' n i plan → AlikeFrom n
  unfolding AlikeFrom
  alike_from n i [] a b = (omega arith, λ u l k. absurd (omega arith))
  alike_from n i (xs ∷ rest) a b =
      let q = uniqueness m xs b.0 a.0 b.1 a.1 in
      let s = subst (Stands o' n i) q b.2 in
      let ih = alike_from (n + length a.0) (suc i) rest a.3 (subst (λ bs. ArrangedFrom m o' (n + length bs) (suc i) rest) q b.3) in (
        ih.0,
        λ u l k. elim (cases_lt u (n + length a.0)) [
          | inr j ↦ ih.1 u j k
          | inl j ↦ (at_step o' n i a.0 s u l j ∙ sym (at_step o n i a.0 a.2 u l j), at_level o' n i a.0 s u l j ∙ sym (at_level o n i a.0 a.2 u l j))
        ],
      )

pub likeness : Likeness
unfolding AlikeFrom
likeness m plan o o' a b =
    let t = alike_from m o o' 0 0 plan a b in
    record { size = t.0; step = λ u k. (t.1 u (omega arith) k).0; level = λ u k. (t.1 u (omega arith) k).1 }

-- no levels yet
pub arranged_none : (m : Model) (o : Places) → o.size ≡ 0 → Arranged m [] o
arranged_none m o e = e

-- one more level at the end
module _ (m : Model) (o o' : Places) (agree : Agree o.size o o') (xs bs : List ℕ) (picked : Picked m xs bs) (size : o'.size ≡ o.size + length bs) where
  more_from : (n i : ℕ) (plan : List (List ℕ)) → ArrangedFrom m o n i plan → Stands o' o.size (i + length plan) bs → ArrangedFrom m o' n i (plan ++ xs ∷ [])
  more_from n i [] a s =
      let q : i + 0 ≡ i = omega arith in
      let s' = rw (q, a) at s in (bs, picked, s', omega arith)
  more_from n i (ys ∷ rest) a s =
      let q : i + suc (length rest) ≡ suc i + length rest = omega arith in
      let l = size_from m o (n + length a.0) (suc i) rest a.3 in
      let g : Agree (n + length a.0) o o' = record { step = λ u k. agree.step u (omega arith); level = λ u k. agree.level u (omega arith) } in
      (a.0, a.1, stands_kept o o' n i a.0 g a.2, more_from (n + length a.0) (suc i) rest a.3 (rw q at s))

  pub arranged_more : (plan : List (List ℕ)) → Arranged m plan o → Stands o' o.size (length plan) bs → Arranged m (plan ++ xs ∷ []) o'
  arranged_more plan a s = more_from 0 0 plan a (let q : 0 + length plan ≡ length plan = omega arith in rw q s)

-- the places that two lists give
listed : List ℕ → List ℕ → Places
listed steps levels = record { size = length steps; step = λ u. get_or steps u 0; level = λ u. get_or levels u 0 }

agree_trans : (n k : ℕ) (o p q : Places) → n ≤ k → Agree n o p → Agree k p q → Agree n o q
agree_trans n k o p q l a b =
    record { step = λ u h. b.step u (omega arith) ∙ a.step u h; level = λ u h. b.level u (omega arith) ∙ a.level u h }

module _ (m : Model) where
  -- places that go on where steps and levels end, with the plan's levels from i on
  record Goes_on (steps levels : List ℕ) (i : ℕ) (plan : List (List ℕ)) : Type 0 where
    pub places : Places
    pub agree : Agree (length steps) (listed steps levels) places
    pub arranged : ArrangedFrom m places (length steps) i plan

  module _ (steps levels bs : List ℕ) (i : ℕ) (same : length levels ≡ length steps) where
    steps' : List ℕ
    steps' = steps ++ bs

    levels' : List ℕ
    levels' = levels ++ replicate (length bs) i

    same' : length levels' ≡ length steps'
    unfolding steps' levels'
    same' = omega (arith, length-append steps bs, length-append levels (replicate (length bs) i), length-replicate (length bs) i)

    longer : length steps' ≡ length steps + length bs
    unfolding steps'
    longer = length-append steps bs

    agree' : Agree (length steps) (listed steps levels) (listed steps' levels')
    unfolding listed steps' levels'
    agree' = record { step = λ u l. get_or_append_left steps bs 0 u l; level = λ u l. get_or_append_left levels (replicate (length bs) i) 0 u (omega arith) }

    stands' : Stands (listed steps' levels') (length steps) i bs
    unfolding listed steps' levels'
    stands' = record {
      step = λ k l. get_or-append-add steps bs k 0;
      level = λ k l. rw (← same) (get_or-append-add levels (replicate (length bs) i) k 0 ∙ get_or-replicate (length bs) k i 0 l);
    }

  goes_on : Lawful m → (plan : List (List ℕ)) → AllByRecursion (Authorized m) plan → (steps levels : List ℕ) (i : ℕ) → length levels ≡ length steps → Goes_on steps levels i plan
  unfolding listed
  goes_on law [] a steps levels i e =
      record { places = listed steps levels; agree = record { step = λ u l. refl; level = λ u l. refl }; arranged = refl }
  goes_on law (xs ∷ rest) a steps levels i e =
      let t = (reaching m law xs).0 a.0 in
      let bs = t.0 in
      let r = goes_on law rest a.1 (steps' steps levels bs i e) (levels' steps levels bs i e) (suc i) (same' steps levels bs i e) in
      let l = longer steps levels bs i e in
      record {
        places = r.places;
        agree = agree_trans (length steps) _ _ _ _ (omega arith) (agree' steps levels bs i e) r.agree;
        arranged = (bs, t.1, stands_kept _ r.places (length steps) i bs (subst (λ n. Agree n (listed (steps' steps levels bs i e) (levels' steps levels bs i e)) r.places) l r.agree) (stands' steps levels bs i e), rw l at r.arranged);
      }

authorized_from : (m : Model) → Lawful m → (o : Places) (n i : ℕ) (plan : List (List ℕ)) → ArrangedFrom m o n i plan → AllByRecursion (Authorized m) plan
authorized_from m law o n i [] a = tt
authorized_from m law o n i (xs ∷ rest) a = ((reaching m law xs).1 (a.0, a.1), authorized_from m law o (n + length a.0) (suc i) rest a.3)

pub arranging : Arranging
arranging m law plan a = let r = goes_on m law plan a [] [] 0 refl in (r.places, r.arranged)

pub arrangeable : Arrangeable
arrangeable m law plan = (λ a. arranging m law plan a, λ t. authorized_from m law t.0 0 0 plan t.1)
