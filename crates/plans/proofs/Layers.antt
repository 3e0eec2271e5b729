-- Places by rank: what the places of each rank leave is what the level of their steps leaves.
use Rattle.std.proofs.Common.{◌≡◌, ℕ, zero, suc, ◌+◌, ◌<◌, ◌≤◌, Bool, true, false, cond, not, ◌&&◌, ◌||◌, List, [], ◌∷◌, length, get_or, Decides, sym, refl, ap, ◌∙◌, inl, inr, arith}
use Rattle.std.specs.List.{ContainsAt as Has, HoldsAt}
use Rattle.std.proofs.ByRecursion.{has_get_or, all-has}
use Rattle.std.proofs.lemmas.Bool.{cases_lt, both_ways, ltb-true, lt-ltb, le-ltb}
use Rattle.std.proofs.lemmas.Bool.Decides.{Decides-by_or}
use Rattle.books.specs.Book.{Model, Lawful, Facts}
use Rattle.plans.specs.Steps.{passed, some, Disturb, Met}
use Rattle.plans.specs.Plans.{finally, Recognized}
use Rattle.plans.specs.Places.{Places, InOrder, left, left_below, under, all, Row, Lays}
use Rattle.plans.specs.Laws.{Climbs, Ending, Feeding}
use Rattle.plans.proofs.Runs.{mono, same, independent}

stays_step : (i add del x : Bool) → x ≡ true → (i ≡ true → del ≡ true → ⊥) → cond i ((x && not del) || add) x ≡ true
stays_step i add del x e f = grind arith

gone_step : (i add del x : Bool) → x ≡ false → (i ≡ true → add ≡ true → ⊥) → cond i ((x && not del) || add) x ≡ false
gone_step i add del x e f = grind arith

pub either_way : (a b : Bool) → (a ≡ true → b ≡ true) → (b ≡ true → a ≡ true) → a ≡ b
either_way a b f g = grind arith

found : (f : ℕ → Bool) (xs : List ℕ) → Decides (some f xs) ((k : ℕ) × (k < length xs) × HoldsAt (λ a. f a ≡ true) xs k)
found f = Decides-by_or f (λ a. f a ≡ true) (some f) (λ a. (λ e. e, λ e. e)) refl (λ _ _. refl)

layer_bits : (add del x y : Bool) → (add ≡ true → y ≡ true) → (add ≡ false → del ≡ true → y ≡ false) → (add ≡ false → del ≡ false → y ≡ x)
    → y ≡ ((x && not del) || add)
layer_bits add del x y f g h = grind arith

pub some_found : (f : ℕ → Bool) (xs : List ℕ) → some f xs ≡ true → (a : ℕ) × Has xs a × (f a ≡ true)
some_found f xs e = let t = (found f xs).0 e in (get_or xs t.0 0, has_get_or xs t.0 0 t.1, t.2 0)

pub none_found : (f : ℕ → Bool) (xs : List ℕ) → some f xs ≡ false → (a : ℕ) → Has xs a → f a ≡ true → ⊥
none_found f xs e a h t = both_ways _ e ((found f xs).1 (h.0, h.1, λ d. rw (h.2 d) t))

module _ (m : Model) (law : Lawful m) (o : Places) (E : Facts) (p : ℕ) (done : ℕ → Bool) (u : ℕ) (is : done u ≡ true) where
  -- what u adds stays, if no later place deletes it
  pub stays : m.adds (o.step u) p ≡ true → (n : ℕ) → u < n → ((v : ℕ) → u < v → v < n → done v ≡ true → m.deletes (o.step v) p ≡ true → ⊥)
      → left_below m o E done n p ≡ true
  stays a zero l f = absurd (omega arith)
  stays a (suc n) l f = elim (cases_lt u n) [ inl i ↦ stays_step (done n) (m.adds (o.step n) p) (m.deletes (o.step n) p) _ (stays a n i (λ v k j. f v k (omega arith))) (f n i (omega arith)) | inr i ↦ (let q : n ≡ u = omega arith in rw q (grind arith)) ]

  -- what u deletes is gone, if no later place adds it
  pub gone : m.deletes (o.step u) p ≡ true → (n : ℕ) → u < n → ((v : ℕ) → u < v → v < n → done v ≡ true → m.adds (o.step v) p ≡ true → ⊥)
      → left_below m o E done n p ≡ false
  gone a zero l f = absurd (omega arith)
  gone a (suc n) l f = elim (cases_lt u n) [ inl i ↦ gone_step (done n) (m.adds (o.step n) p) (m.deletes (o.step n) p) _ (gone a n i (λ v k j. f v k (omega arith))) (f n i (omega arith)) | inr i ↦ (let q : n ≡ u = omega arith in let b = law.apart (o.step u) p in rw q (grind arith)) ]

-- a place does not undo what a lower place does that has its rank, or a higher one
pub record Staged (m : Model) (o : Places) (rank : ℕ → ℕ) : Type 0 where
  pub adding : (u v p : ℕ) → u < v → v < o.size → rank v ≤ rank u → m.adds (o.step u) p ≡ true → m.deletes (o.step v) p ≡ true → ⊥
  pub deleting : (u v p : ℕ) → u < v → v < o.size → rank v < rank u → m.deletes (o.step u) p ≡ true → m.adds (o.step v) p ≡ true → ⊥

module _ (m : Model) (law : Lawful m) (o : Places) (E : Facts) (rank : ℕ → ℕ) (staged : Staged m o rank) (s : ℕ) (xs : List ℕ) (row : Row o rank s xs) (p : ℕ) where
  added : some (λ a. m.adds a p) xs ≡ true → left m o E (under rank (suc s)) p ≡ true
  added e =
      let t = some_found _ xs e in let w = row.only t.0 t.1 in
      stays m law o E p (under rank (suc s)) w.0 (lt-ltb _ _ (omega arith)) (rw w.3 t.2) o.size w.1
      (λ v l k d. staged.adding w.0 v p l k (omega (arith, ltb-true _ _ d)) (rw w.3 t.2))

  deleted : some (λ a. m.adds a p) xs ≡ false → some (λ a. m.deletes a p) xs ≡ true → left m o E (under rank (suc s)) p ≡ false
  deleted n e =
      let t = some_found _ xs e in let w = row.only t.0 t.1 in
      gone m law o E p (under rank (suc s)) w.0 (lt-ltb _ _ (omega arith)) (rw w.3 t.2) o.size w.1
      (λ v l k d a. elim (cases_lt (rank v) s) [
        | inl i ↦ staged.deleting w.0 v p l k (omega arith) (rw w.3 t.2) a
        | inr i ↦ none_found _ xs n (o.step v) (row.holds v k (omega (arith, ltb-true _ _ d))) a
      ])

  lower : (f : ℕ → Bool) → some f xs ≡ false → (u : ℕ) → u < o.size → under rank (suc s) u ≡ true → f (o.step u) ≡ true → under rank s u ≡ true
  lower f n u l d a =
      elim (cases_lt (rank u) s) [
        | inl i ↦ lt-ltb _ _ i
        | inr i ↦ absurd (none_found f xs n (o.step u) (row.holds u l (omega (arith, ltb-true _ _ d))) a)
      ]

  higher : (u : ℕ) → under rank s u ≡ true → under rank (suc s) u ≡ true
  higher u d = lt-ltb _ _ (omega (arith, ltb-true _ _ d))

  unwritten : some (λ a. m.adds a p) xs ≡ false → some (λ a. m.deletes a p) xs ≡ false
      → left m o E (under rank (suc s)) p ≡ left m o E (under rank s) p
  unwritten n i =
      either_way _ _ (mono m o E p _ _ o.size (lower (λ a. m.adds a p) n) (λ u l d a. higher u d))
      (mono m o E p _ _ o.size (λ u l d a. higher u d) (lower (λ a. m.deletes a p) i))

  pub layer : left m o E (under rank (suc s)) p ≡ passed m (left m o E (under rank s)) xs p
  layer = layer_bits (some (λ a. m.adds a p) xs) (some (λ a. m.deletes a p) xs) _ _ added deleted unwritten

-- the same of all the rows from s on
abbrev pub LaysFrom : Places → (ℕ → ℕ) → ℕ → List (List ℕ) → Type 0
LaysFrom o rank s [] = (u : ℕ) → u < o.size → rank u < s
LaysFrom o rank s (xs ∷ rest) = Row o rank s xs × LaysFrom o rank (suc s) rest

lays_from : (o : Places) (rank : ℕ → ℕ) (s : ℕ) (plan : List (List ℕ)) → ((u : ℕ) → u < o.size → rank u < s + length plan)
    → ((i : ℕ) → i < length plan → Row o rank (s + i) (get_or plan i [])) → LaysFrom o rank s plan
lays_from o rank s [] w r = λ u l. omega (arith, w u l)
lays_from o rank s (xs ∷ rest) w r =
    let z : s + 0 ≡ s = omega arith in
    (rw z at (r 0 (omega arith)), lays_from o rank (suc s) rest (λ u l. omega (arith, w u l)) (λ i l. let e : s + suc i ≡ suc s + i = omega arith in rw e at (r (suc i) (omega arith))))

pub lays : (o : Places) (rank : ℕ → ℕ) (plan : List (List ℕ)) → Lays o rank plan → LaysFrom o rank 0 plan
lays o rank plan l = lays_from o rank 0 plan (λ u k. omega (arith, l.within u k)) (λ i k. let e : 0 + i ≡ i = omega arith in rw e (l.rows i k))

within_from : (o : Places) (rank : ℕ → ℕ) (s : ℕ) (plan : List (List ℕ)) → LaysFrom o rank s plan → (u : ℕ) → u < o.size → rank u < s + length plan
within_from o rank s [] l u k = omega (arith, l u k)
within_from o rank s (xs ∷ rest) l u k = omega (arith, within_from o rank (suc s) rest l.1 u k)

row_from : (o : Places) (rank : ℕ → ℕ) (s : ℕ) (plan : List (List ℕ)) → LaysFrom o rank s plan → (i : ℕ) → i < length plan → Row o rank (s + i) (get_or plan i [])
row_from o rank s [] l i k = absurd (omega arith)
row_from o rank s (xs ∷ rest) l zero k = let q : s + 0 ≡ s = omega arith in rw q l.0
row_from o rank s (xs ∷ rest) l (suc i) k = let q : s + suc i ≡ suc s + i = omega arith in rw q (row_from o rank (suc s) rest l.1 i (omega arith))

pub laid : (o : Places) (rank : ℕ → ℕ) (plan : List (List ℕ)) → LaysFrom o rank 0 plan → Lays o rank plan
laid o rank plan l = record {
  within = λ u k. omega (arith, within_from o rank 0 plan l u k);
  rows = λ i k. (let q : 0 + i ≡ i = omega arith in rw q at (row_from o rank 0 plan l i k));
}

-- F is what the places of rank below s leave
abbrev pub Leaves : Model → Places → Facts → (ℕ → ℕ) → ℕ → Facts → Type 0
Leaves m o E rank s F = (p : ℕ) → F p ≡ left m o E (under rank s) p

module _ (m : Model) (law : Lawful m) (o : Places) (E : Facts) (rank : ℕ → ℕ) (staged : Staged m o rank) where
  pub onward : (s : ℕ) (F : Facts) (xs : List ℕ) → Row o rank s xs → Leaves m o E rank s F → Leaves m o E rank (suc s) (passed m F xs)
  onward s F xs row e p =
      ap (λ x. (x && not (some (λ a. m.deletes a p) xs)) || some (λ a. m.adds a p) xs) (e p) ∙ sym (layer m law o E rank staged s xs row p)

  pub ends : (s : ℕ) (plan : List (List ℕ)) (F : Facts) → LaysFrom o rank s plan → Leaves m o E rank s F → (p : ℕ) → finally m F plan p ≡ left m o E all p
  ends s [] F l e p = e p ∙ same m o E p (under rank s) all o.size (λ u k. lt-ltb _ _ (l u k))
  ends s (xs ∷ rest) F l e p = ends (suc s) rest (passed m F xs) l.1 (onward s F xs l.0 e) p

  pub feeds : (s : ℕ) (plan : List (List ℕ)) (F : Facts) → LaysFrom o rank s plan → Leaves m o E rank s F → Recognized m F plan
      → (h : ℕ) → h < o.size → s ≤ rank h → Met m (left m o E (under rank (rank h))) (o.step h)
  feeds s [] F l e r h k i = absurd (omega (arith, l h k))
  feeds s (xs ∷ rest) F l e r h k i =
      elim (cases_lt s (rank h)) [
        | inl n ↦ feeds (suc s) rest (passed m F xs) l.1 (onward s F xs l.0 e) r.1 h k n
        | inr n ↦ (let q : rank h ≡ s = omega arith in λ p t. rw (q, ← (e p)) (all-has (Met m F) xs (o.step h) r.0.met (l.0.holds h k q) p t))
      ]

pub start : (m : Model) (o : Places) (E : Facts) (rank : ℕ → ℕ) (p : ℕ) → E p ≡ left m o E (under rank 0) p
start m o E rank p = go o.size
  where
    go : (n : ℕ) → E p ≡ left_below m o E (under rank 0) n p
    go zero = refl
    go (suc n) = let ih = go n in let e : under rank 0 n ≡ false = le-ltb _ _ (omega arith) in grind arith

pub by_level : (m : Model) (o : Places) → InOrder m o → Staged m o o.level
by_level m o up = record {
  adding = λ u v p l k i a d. (let e : o.level v ≡ o.level u = omega (arith, up.rises u v (omega arith) k) in
      omega (arith, up.upward v u k (omega arith) (inl (e, omega arith, λ w. w.adding p a d))));
  deleting = λ u v p l k i d a. absurd (omega (arith, up.rises u v (omega arith) k));
}

pub by_stratum : (m : Model) (o : Places) → InOrder m o → (stratum : ℕ → ℕ) → Climbs m o stratum → Staged m o stratum
by_stratum m o up stratum climbs =
    let f : (u v : ℕ) → u < v → v < o.size → stratum v ≤ stratum u → Disturb m (o.step u) (o.step v) → ⊥ =
    λ u v l k i. independent m o up u v l k (λ q. omega (arith, climbs u v (omega arith) k q)) in
    record {
      adding = λ u v p l k i a d. f u v l k i (inr (inr (p, d, inr a)));
      deleting = λ u v p l k i d a. f u v l k (omega arith) (inr (inl (p, d, inr a)));
    }

pub ending : Ending
ending m law o up plan l E p = sym (ends m law o E o.level (by_level m o up) 0 plan E (lays o o.level plan l) (start m o E o.level) p)

pub feeding : Feeding
feeding m law o up plan l E r h k = feeds m law o E o.level (by_level m o up) 0 plan E (lays o o.level plan l) (start m o E o.level) r h k (omega arith)
