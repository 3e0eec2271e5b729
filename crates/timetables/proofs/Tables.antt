-- Timetables as they are written place by place, and that there is only one, from the laws of a measure.
use Rattle.std.proofs.Common.{◌≡◌, ℕ, zero, suc, ◌+◌, ◌<◌, ◌≤◌, Bool, true, ◌≢◌, List, length, get_or, set, sym, refl, ap, ◌∙◌, subst, ⊎_elim, arith, below_more}
use Rattle.std.proofs.lemmas.List.{get_or-set_same, get_or-set_other}
use Rattle.std.proofs.lemmas.Bool.{cases_lt}
use Rattle.timetables.specs.Scale.{Scale, Laws}
use Rattle.timetables.specs.Timetable.{greater_of, Greatest, sum, Keeps, Timetable, OnlyOne, by_place, Written}
use Rattle.timetables.proofs.Greatests.{greatest_none, greatest_more, greatest_within, greatest_over, greatest_wider}

-- the first n places have their begins, the other entries stand as they did, and end is the greatest sum so far
pub record SoFar {M : Type 0} (s : Scale M) (precedes : ℕ → ℕ → Bool) (weights before begins : List M) (n : ℕ) (end : M) : Type 0 where
  pub begun : (v : ℕ) → v < n → Greatest s (λ u. precedes u v) (sum s (by_place s weights) (by_place s begins)) v (by_place s begins v)
  pub rest : (k : ℕ) (d : M) → n ≤ k → get_or begins k d ≡ get_or before k d
  pub ended : Greatest s (λ _. true) (sum s (by_place s weights) (by_place s begins)) n end

module _ {M : Type 0} {s : Scale M} (laws : Laws s) (precedes : ℕ → ℕ → Bool) (weights : List M) where
  pub so_far_none : (before : List M) → SoFar s precedes weights before before 0 s.zero
  so_far_none before = record {
    begun = λ v h. absurd (omega arith);
    rest = λ k d _. refl;
    ended = greatest_none laws _ _;
  }

  -- a sum below i does not see what is written at i
  sum_below : (begins : List M) (i u : ℕ) (x : M) → u < i → sum s (by_place s weights) (by_place s begins) u ≡ sum s (by_place s weights) (by_place s (set begins i x)) u
  sum_below begins i u x h =
      let ne : u ≢ i = omega arith in
      ap (λ t. s.plus t (by_place s weights u)) (sym (get_or-set_other begins i u x s.zero ne))

  pub so_far_more : (before begins : List M) (i : ℕ) (end x y next : M) → i < length begins → y ≡ sum s (by_place s weights) (by_place s (set begins i x)) i → next ≡ greater_of s end y → Greatest s (λ u. precedes u i) (sum s (by_place s weights) (by_place s begins)) i x → SoFar s precedes weights before begins i end → SoFar s precedes weights before (set begins i x) (i + 1) next
  so_far_more before begins i end x y next hb last won best f =
      let begins' = set begins i x in
      let here : by_place s begins' i ≡ x = get_or-set_same begins i x s.zero hb in
      record {
        begun = below_more (λ v. Greatest s (λ u. precedes u v) (sum s (by_place s weights) (by_place s begins')) v (by_place s begins' v)) i
            (λ v h. let ne : v ≢ i = omega arith in
            subst (λ t. Greatest s (λ u. precedes u v) (sum s (by_place s weights) (by_place s begins')) v t) (sym (get_or-set_other begins i v x s.zero ne))
            (greatest_over s (λ u. precedes u v) _ _ v _ (λ u k. sum_below begins i u x (omega arith)) (f.begun v h)))
            (subst (λ t. Greatest s (λ u. precedes u i) (sum s (by_place s weights) (by_place s begins')) i t) (sym here)
            (greatest_over s (λ u. precedes u i) _ _ i _ (λ u k. sum_below begins i u x k) best));
        rest = λ k d h. let ne : k ≢ i = omega arith in get_or-set_other begins i k x d ne ∙ f.rest k d (omega arith);
        ended = subst (λ t. Greatest s (λ _. true) (sum s (by_place s weights) (by_place s begins')) (i + 1) t) (sym (won ∙ ap (greater_of s end) last))
            (greatest_more laws (λ _. true) (sum s (by_place s weights) (by_place s begins')) i end refl (greatest_over s (λ _. true) _ _ i end (λ u k. sum_below begins i u x k) f.ended));
      }

  module _ (size : ℕ) (upward : (u v : ℕ) → precedes u v ≡ true → (u < v) × (v < size)) (before begins : List M) (end : M) (f : SoFar s precedes weights before begins size end) where
    keeps_here : Keeps s precedes (by_place s weights) (by_place s begins)
    keeps_here u v h = (f.begun v (upward u v h).1).bound u (upward u v h).0 h

    module _ (others : ℕ → M) (kept : Keeps s precedes (by_place s weights) others) where
      -- a place begins no later than in others, if the lower places do
      least_at : (v : ℕ) → v < size → ((u : ℕ) → u < v → s.within (by_place s begins u) (others u) ≡ true) → s.within (by_place s begins v) (others v) ≡ true
      least_at v h below =
          greatest_within laws (λ u. precedes u v) _ v _ (others v) (f.begun v h)
          (λ u k t. laws.transitive _ _ _ (laws.keeps _ _ (by_place s weights u) (below u k)) (kept u v t))

      least_below : (n : ℕ) → n ≤ size → (v : ℕ) → v < n → s.within (by_place s begins v) (others v) ≡ true
      least_below zero le v h = absurd (omega arith)
      least_below (suc n) le v h =
          ⊎_elim (λ lt. least_below n (omega arith) v lt) (λ ge. least_at v (omega arith) (λ u k. least_below n (omega arith) u (omega arith))) (cases_lt v n)

      soonest_here : (last : M) → ((v : ℕ) → v < size → s.within (sum s (by_place s weights) others v) last ≡ true) → s.within end last ≡ true
      soonest_here last done =
          greatest_within laws (λ _. true) _ size end last f.ended
          (λ u h _. laws.transitive _ _ _ (laws.keeps _ _ (by_place s weights u) (least_below size (omega arith) u h)) (done u h))

    table_made : Timetable s size precedes (by_place s weights) (by_place s begins) end
    table_made = record {
      keeps = keeps_here;
      least = λ others kept v h. least_below others kept size (omega arith) v h;
      begun = λ v h. greatest_wider s (λ u. precedes u v) _ v size _ (omega arith) (λ u t. (upward u v t).0) (f.begun v h);
      ended = f.ended;
      soonest = λ others kept last done. soonest_here others kept last done;
    }

  pub written_made : (size : ℕ) (upward : (u v : ℕ) → precedes u v ≡ true → (u < v) × (v < size)) (before begins : List M) (end : M) (n : ℕ) → n ≡ size → size ≤ length weights → size ≤ length before → SoFar s precedes weights before begins n end → Written s size precedes weights before begins end
  written_made size upward before begins end n e hw hb f =
      let all : SoFar s precedes weights before begins size end = subst (λ t. SoFar s precedes weights before begins t end) e f in
      record { weighed = hw; room = hb; table = table_made size upward before begins end all; same = all.rest }

pub only_one : {M : Type 0} {s : Scale M} → Laws s → OnlyOne s
only_one laws size precedes weight begin others end other f t = (
  (λ v h. laws.antisymmetric _ _ (f.least others t.keeps v h) (t.least begin f.keeps v h)),
  laws.antisymmetric _ _ (f.soonest others t.keeps other (λ v h. t.ended.bound v h refl)) (t.soonest begin f.keeps end (λ v h. f.ended.bound v h refl)),
)
