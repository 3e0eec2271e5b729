-- Timetables under other names of the same weights and precedences.
use Rattle.std.proofs.Common.{◌≡◌, ℕ, ◌<◌, Bool, true, sym, ap, ◌∙◌, subst, inl, inr, ⊎_elim}
use Rattle.timetables.specs.Scale.{Scale}
use Rattle.timetables.specs.Timetable.{Greatest, sum, Keeps, Timetable}

module _ {M : Type 0} (s : Scale M) (size : ℕ) (p p' : ℕ → ℕ → Bool) (below : (u v : ℕ) → p u v ≡ true → u < size)
    (to : (u v : ℕ) → p u v ≡ true → p' u v ≡ true) (from : (u v : ℕ) → p' u v ≡ true → p u v ≡ true)
    (w w' : ℕ → M) (same : (u : ℕ) → u < size → w u ≡ w' u) where
  sums : (b : ℕ → M) (u : ℕ) → u < size → sum s w b u ≡ sum s w' b u
  sums b u h = ap (s.plus (b u)) (same u h)

  keeps_to : (b : ℕ → M) → Keeps s p w b → Keeps s p' w' b
  keeps_to b k u v e = let f = from u v e in subst (λ x. s.within x (b v) ≡ true) (sums b u (below u v f)) (k u v f)

  keeps_from : (b : ℕ → M) → Keeps s p' w' b → Keeps s p w b
  keeps_from b k u v e = subst (λ x. s.within x (b v) ≡ true) (sym (sums b u (below u v e))) (k u v (to u v e))

  greatest_to : (picked picked' : ℕ → Bool) (b : ℕ → M) (x : M)
      → ((u : ℕ) → picked u ≡ true → picked' u ≡ true) → ((u : ℕ) → picked' u ≡ true → picked u ≡ true)
      → Greatest s picked (sum s w b) size x → Greatest s picked' (sum s w' b) size x
  greatest_to picked picked' b x f g t =
      record {
        bound = λ u h e. subst (λ y. s.within y x ≡ true) (sums b u h) (t.bound u h (g u e));
        attained =
            ⊎_elim
            (λ a. inl (a.0, a.1, f a.0 a.2, a.3 ∙ sums b a.0 a.1))
            (λ a. inr ((λ u h e. a.0 u h (g u e)), a.1))
            t.attained;
      }

  pub renamed : (b : ℕ → M) (end : M) → Timetable s size p w b end → Timetable s size p' w' b end
  renamed b end t =
      record {
        keeps = keeps_to b t.keeps;
        least = λ others k v h. t.least others (keeps_from others k) v h;
        begun = λ v h. greatest_to (λ u. p u v) (λ u. p' u v) b (b v) (λ u e. to u v e) (λ u e. from u v e) (t.begun v h);
        ended = greatest_to (λ _. true) (λ _. true) b end (λ u e. e) (λ u e. e) t.ended;
        soonest = λ others k last h. t.soonest others (keeps_from others k) last (λ v l. subst (λ x. s.within x last ≡ true) (sym (sums others v l)) (h v l));
      }
