-- The picked order of a level: that it is in turn, exists where the level is authorized, and is the only one.
use Rattle.std.proofs.Common.{◌≡◌, ℕ, zero, suc, ◌<◌, Bool, true, eqb, List, [], ◌∷◌, ◌++◌, length, sym, refl, ◌∙◌, subst, ap₂, inl, inr, arith}
use Rattle.std.specs.List.{ContainsAt as Has, AllByRecursion}
use Rattle.std.specs.List.Sorted.{IsPermutation}
use Rattle.std.proofs.ByRecursion.{all-has, all_has_itself, All-weaker, has_append_right, has_shuffled}
use Rattle.std.proofs.lemmas.List.Sorted.{IsPermutation-refl, IsPermutation-cons, IsPermutation-trans, IsPermutation-sym, length_permutation}
use Rattle.std.proofs.lemmas.Bool.{cases_Bool, cases_order, both_ways, eqb-true, eq-eqb}
use Rattle.books.specs.Book.{Model, Lawful}
use Rattle.plans.specs.Steps.{Authorizes, some}
use Rattle.plans.specs.Plans.{Distinct, InTurn}
use Rattle.plans.specs.Order.{Free, Leads, SmallestFirst, Picked}
use Rattle.plans.specs.Laws.{Freedom, Reaching, Uniqueness, Turning, Picking, Refusing}
use Rattle.plans.proofs.Members.{has_none, has_first, has_more, has_cases, take_out, out, was_in, pairwise_weaker}
use Rattle.plans.proofs.Deciding.{free_or_before, none_before, LeastFree, least_free}
use Rattle.plans.proofs.Layers.{some_found, none_found}

pub freedom : Freedom
freedom m law xs a = (
  none_before m law a xs,
  λ f. elim (free_or_before m law a xs) [ inl g ↦ g | inr t ↦ absurd (f t.0 t.1 t.2) ],
)

in_turn : (m : Model) (bs : List ℕ) → SmallestFirst m bs → InTurn m bs
in_turn m [] f = tt
in_turn m (b ∷ bs) f = (f.0.ready, in_turn m bs f.1)

pub turning : Turning
turning m xs bs t = in_turn m bs t.first

module _ (m : Model) where
  -- a free step stays free among fewer steps
  pub free_among : (xs ys : List ℕ) (a : ℕ) → ((b : ℕ) → Has ys b → Has xs b) → Free m xs a → Free m ys a
  free_among xs ys a f g b h = g b (f b h)

  -- the first step in turn is free
  pub first_free : (x : ℕ) (xs : List ℕ) → AllByRecursion (Authorizes m x) xs → Free m (x ∷ xs) x
  first_free x xs w b h n = elim (has_cases x xs b h) [ inl q ↦ absurd (n q) | inr i ↦ all-has (Authorizes m x) xs b w i ]

  -- the smallest free step leads the others, if it stands once
  pub leads : (xs : List ℕ) (a : ℕ) (rest : List ℕ) → IsPermutation xs (a ∷ rest) → (Has rest a → ⊥) → Free m xs a
      → ((b : ℕ) → Has xs b → b < a → Free m xs b → ⊥) → Leads m a rest
  leads xs a rest s n f g =
      record {
        ready = All-weaker (Has rest) (Authorizes m a) (λ b h. f b (was_in xs a rest s b h) (λ q. n (subst (Has rest) (sym q) h))) rest (all_has_itself rest);
        smallest = λ b h l w. g b (was_in xs a rest s b h) l (free_among (a ∷ rest) xs b (λ c. has_shuffled xs (a ∷ rest) c s) w);
      }

  -- steps in turn do not stand twice
  pub distinct : (xs : List ℕ) → InTurn m xs → Distinct xs
  distinct = pairwise_weaker (Authorizes m) (λ a b. a ≡ b → ⊥) (λ a b w. w.other)

  order_more : (law : Lawful m) (bs : List ℕ) (a : ℕ) (rest cs : List ℕ) → InTurn m bs → LeastFree m law bs bs a → IsPermutation bs (a ∷ rest) → Picked m rest cs
      → Picked m bs (a ∷ cs)
  order_more law bs a rest cs t w s k =
      let s' = IsPermutation-trans bs (a ∷ rest) (a ∷ cs) s (IsPermutation-cons a rest cs k.shuffled) in
      record { shuffled = s'; first = (leads bs a cs s' (out bs a cs s' (distinct bs t)) w.1 w.2, k.first) }

  order_of : Lawful m → (n : ℕ) (bs : List ℕ) → length bs ≡ n → InTurn m bs → (cs : List ℕ) × Picked m bs cs
  order_of law zero [] e t = ([], record { shuffled = IsPermutation-refl []; first = tt })
  order_of law zero (b ∷ bs) e t = absurd (omega arith)
  order_of law (suc n) [] e t = absurd (omega arith)
  order_of law (suc n) (b ∷ bs) e t =
      elim (least_free m law (b ∷ bs) (b ∷ bs)) [
        | inr f ↦ absurd (f b (has_first b bs) (first_free b bs t.0))
        | inl w ↦ (let r = take_out (Authorizes m) (b ∷ bs) w.0 w.1.0 in
            let k : length r.0 ≡ n = omega (arith, length_permutation (b ∷ bs) (w.0 ∷ r.0) r.1.0) in
            let ih = order_of law n r.0 k (r.1.1 t) in
            (w.0 ∷ ih.0, order_more law (b ∷ bs) w.0 r.0 ih.0 t w.1 r.1.0 ih.1))
      ]

  -- two picked orders with the same steps
  unique : (bs cs : List ℕ) → SmallestFirst m bs → SmallestFirst m cs → ((x : ℕ) → Has bs x → Has cs x) → ((x : ℕ) → Has cs x → Has bs x) → bs ≡ cs
  unique [] [] s t f g = refl
  unique [] (c ∷ cs) s t f g = absurd (has_none c (g c (has_first c cs)))
  unique (b ∷ bs) [] s t f g = absurd (has_none b (f b (has_first b bs)))
  unique (b ∷ bs) (c ∷ cs) s t f g =
      let free-b = free_among (b ∷ bs) (c ∷ cs) b g (first_free b bs s.0.ready) in
      let free-c = free_among (c ∷ cs) (b ∷ bs) c f (first_free c cs t.0.ready) in
      elim (cases_order b c) [
        | inr (inl l) ↦ absurd (elim (has_cases c cs b (f b (has_first b bs))) [ inl q ↦ omega arith | inr i ↦ t.0.smallest b i l free-b ])
        | inr (inr l) ↦ absurd (elim (has_cases b bs c (g c (has_first c cs))) [ inl q ↦ omega arith | inr i ↦ s.0.smallest c i l free-c ])
        | inl q ↦ ap₂ ◌∷◌ q (unique bs cs s.1 t.1
            (λ x h. elim (has_cases c cs x (f x (has_more b bs x h))) [ inr i ↦ i | inl e ↦ absurd ((all-has (Authorizes m b) bs x s.0.ready h).other (q ∙ e)) ])
            (λ x h. elim (has_cases b bs x (g x (has_more c cs x h))) [ inr i ↦ i | inl e ↦ absurd ((all-has (Authorizes m c) cs x t.0.ready h).other (sym q ∙ e)) ]))
      ]

  -- the first step in turn that waits is free among those that wait
  pick : (waits : ℕ → Bool) (xs : List ℕ) → InTurn m xs → (a : ℕ) → Has xs a → waits a ≡ true
      → (b : ℕ) × Has xs b × (waits b ≡ true) × ((c : ℕ) → Has xs c → waits c ≡ true → (b ≡ c → ⊥) → Authorizes m b c)
  pick waits [] t a h w = absurd (has_none a h)
  pick waits (x ∷ xs) t a h w =
      elim (cases_Bool (waits x)) [
        | inl e ↦ (x, has_first x xs, e, λ c i v. first_free x xs t.0 c i)
        | inr e ↦ elim (has_cases x xs a h) [
          | inl q ↦ absurd (both_ways _ e (rw q w))
          | inr i ↦ (let r = pick waits xs t.1 a i w in
              (r.0, has_more x xs r.0 r.1, r.2, λ c j v. elim (has_cases x xs c j) [ inl q ↦ absurd (both_ways _ e (rw q v)) | inr j ↦ r.3 c j v ]))
        ]
      ]

pub uniqueness : Uniqueness
uniqueness m xs bs cs s t =
    unique m bs cs s.first t.first (λ x h. has_shuffled xs cs x t.shuffled (has_shuffled bs xs x (IsPermutation-sym xs bs s.shuffled) h))
    (λ x h. has_shuffled xs bs x s.shuffled (has_shuffled cs xs x (IsPermutation-sym xs cs t.shuffled) h))

pub reaching : Reaching
reaching m law xs = (
  λ s. (let r = order_of m law (length s.0) s.0 refl s.1.turn in
      (r.0, record { shuffled = IsPermutation-trans xs s.0 r.0 s.1.shuffled r.1.shuffled; first = r.1.first })),
  λ t. (t.0, record { shuffled = t.1.shuffled; turn = turning m xs t.0 t.1 }),
)

pub picking : Picking
picking m xs s waits a h w =
    let r = pick m waits s.0 s.1.turn a (has_shuffled xs s.0 a s.1.shuffled h) w in
    (r.0, has_shuffled s.0 xs r.0 (IsPermutation-sym xs s.0 s.1.shuffled) r.1, r.2, λ c i. r.3 c (has_shuffled xs s.0 c s.1.shuffled i))

-- a is one of xs
is_in : List ℕ → ℕ → Bool
is_in xs a = some (eqb a) xs

in_has : (xs : List ℕ) (a : ℕ) → is_in xs a ≡ true → Has xs a
unfolding is_in
in_has xs a e = let t = some_found (eqb a) xs e in subst (Has xs) (sym (eqb-true a t.0 t.2)) t.1

has_in : (xs : List ℕ) (a : ℕ) → Has xs a → is_in xs a ≡ true
unfolding is_in
has_in xs a h = elim (cases_Bool (some (eqb a) xs)) [ inl e ↦ e | inr e ↦ absurd (none_found (eqb a) xs e a h (eq-eqb a a refl)) ]

pub refusing : Refusing
refusing m xs taken rest s a h f k =
    let from = λ (b : ℕ) (i : Has rest b). has_shuffled (taken ++ rest) xs b (IsPermutation-sym xs (taken ++ rest) s) (has_append_right taken rest b i) in
    let r = picking m xs k (is_in rest) a (from a h) (has_in rest a h) in
    f r.0 (in_has rest r.0 r.2) (λ c i n. r.3 c (from c i) (has_in rest c i) n)
