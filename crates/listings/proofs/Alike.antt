-- What is to be shown of a plan is one thing only.
use Rattle.std.proofs.Common.{◌≡◌, ℕ, zero, suc, ◌-◌, ◌<◌, ◌≤◌, true, ◌++◌, sym, refl, ap, ◌∙◌, subst, inl, inr, ⊎_elim, arith, rules}
use Rattle.books.specs.Book.{Model}
use Rattle.plans.specs.Steps.{Authorizes, Feeds}
use Rattle.plans.specs.Places.{Places, Precedes}
use Rattle.plans.specs.Laws.{Alike}
use Rattle.plans.proofs.Arranging.{likeness}
use Rattle.task_sheets.specs.Content.{Task}
use Rattle.timetables.specs.Scale.{Laws}
use Rattle.timetables.specs.Measures.{StepCount, Seconds, step_scale, second_scale}
use Rattle.timetables.specs.Timetable.{Timetable}
use Rattle.timetables.proofs.Tables.{only_one}
use Rattle.listings.specs.Lines.{head_line, place_line}
use Rattle.listings.specs.Shown.{Shown, Shows, places_of, place_lines, shown_text}
use Rattle.listings.proofs.Times.{renamed}

authorizes_as : (m : Model) (a b a' b' : ℕ) → a ≡ a' → b ≡ b' → Authorizes m a b → Authorizes m a' b'
authorizes_as m a b a' b' e f h = subst (λ x. Authorizes m x b') e (subst (λ y. Authorizes m a y) f h)

feeds_as : (m : Model) (a b a' b' : ℕ) → a ≡ a' → b ≡ b' → Feeds m a b → Feeds m a' b'
feeds_as m a b a' b' e f h = subst (λ x. Feeds m x b') e (subst (λ y. Feeds m a y) f h)

-- places with the same steps and levels precede each other alike
precedes_as : (m : Model) (o o' : Places) (u v : ℕ)
    → o.step u ≡ o'.step u → o.step v ≡ o'.step v → o.level u ≡ o'.level u → o.level v ≡ o'.level v
    → Precedes m o u v → Precedes m o' u v
precedes_as m o o' u v su sv lu lv =
    ⊎_elim
    (λ a. inl (sym lu ∙ a.0 ∙ lv, a.1, (λ h. a.2 (authorizes_as m _ _ _ _ (sym sv) (sym su) h))))
    (λ a. inr (
      omega (arith, a.0),
      ⊎_elim
          (λ n. inl (λ h. n (authorizes_as m _ _ _ _ (sym su) (sym sv) h)))
          (⊎_elim (λ n. inr (inl (λ h. n (authorizes_as m _ _ _ _ (sym sv) (sym su) h)))) (λ h. inr (inr (feeds_as m _ _ _ _ su sv h))))
          a.1,
    ))

step_laws : Laws step_scale
step_laws = search rules

second_laws : Laws second_scale
second_laws = search rules

module _ (m : Model) (t : Task) (s s' : Shown) (h : Shows m t s) (h' : Shows m t s') where
  same : Alike (places_of s) (places_of s')
  same = likeness m t.levels (places_of s) (places_of s') h.arranged h'.arranged

  levels_same : (u : ℕ) → u < s.places → s.level u ≡ s'.level u
  levels_same u k =
      let z : s'.places ≡ s.places = same.size in
      let e : s'.level u - 1 ≡ s.level u - 1 = same.level u k in
      let a = h.numbered u k in
      let b = h'.numbered u (omega arith) in
      omega arith

  to : (u v : ℕ) → h.precedes u v ≡ true → h'.precedes u v ≡ true
  to u v e =
      let z : s'.places ≡ s.places = same.size in
      let i = h.inside u v e in
      (h'.exact u v (omega arith) (omega arith)).1
      (precedes_as m (places_of s) (places_of s') u v (sym (same.step u i.0)) (sym (same.step v i.1)) (sym (same.level u i.0)) (sym (same.level v i.1))
      ((h.exact u v i.0 i.1).0 e))

  from : (u v : ℕ) → h'.precedes u v ≡ true → h.precedes u v ≡ true
  from u v e =
      let z : s'.places ≡ s.places = same.size in
      let j = h'.inside u v e in
      let a : u < s.places = omega arith in
      let b : v < s.places = omega arith in
      (h.exact u v a b).1
      (precedes_as m (places_of s') (places_of s) u v (same.step u a) (same.step v b) (same.level u a) (same.level v b)
      ((h'.exact u v j.0 j.1).0 e))

  strata_same : ((v : ℕ) → v < s.places → s.stratum v ≡ s'.stratum v) × (s.strata ≡ s'.strata)
  strata_same =
      let other =
      subst (λ n. Timetable step_scale n h'.precedes (λ v. record { count = 1 }) (λ v. record { count = s'.stratum v }) (record { count = s'.strata })) same.size h'.strata in
      let one =
      renamed step_scale s.places h.precedes h'.precedes (λ u v e. (h.inside u v e).0) to from (λ v. record { count = 1 }) (λ v. record { count = 1 }) (λ u k. refl)
      (λ v. record { count = s.stratum v }) (record { count = s.strata }) h.strata in
      let both = only_one step_laws s.places h'.precedes _ _ _ _ _ one other in
      ((λ v k. ap (λ (x : StepCount). x.count) (both.0 v k)), ap (λ (x : StepCount). x.count) both.1)

  seconds_same : ((v : ℕ) → v < s.places → s.begin v ≡ s'.begin v) × (s.seconds ≡ s'.seconds)
  seconds_same =
      let mk : ℕ → Seconds = λ n. record { count = n } in
      let other =
      subst (λ n. Timetable second_scale n h'.precedes (λ v. record { count = m.seconds (s'.step v) }) (λ v. record { count = s'.begin v }) (record { count = s'.seconds })) same.size h'.seconds in
      let one =
      renamed second_scale s.places h.precedes h'.precedes (λ u v e. (h.inside u v e).0) to from (λ v. mk (m.seconds (s.step v))) (λ v. mk (m.seconds (s'.step v)))
      (λ u k. ap (λ a. mk (m.seconds a)) (sym (same.step u k)))
      (λ v. mk (s.begin v)) (mk s.seconds) h.seconds in
      let both = only_one second_laws s.places h'.precedes _ _ _ _ _ one other in
      ((λ v k. ap (λ (x : Seconds). x.count) (both.0 v k)), ap (λ (x : Seconds). x.count) both.1)

  row_same : (v : ℕ) → v < s.places
      → place_line v (s.step v) (s.level v) (s.stratum v) (s.begin v) ≡ place_line v (s'.step v) (s'.level v) (s'.stratum v) (s'.begin v)
  row_same v k =
      ap (λ x. place_line v x (s.level v) (s.stratum v) (s.begin v)) (sym (same.step v k))
      ∙ ap (λ x. place_line v (s'.step v) x (s.stratum v) (s.begin v)) (levels_same v k)
      ∙ ap (λ x. place_line v (s'.step v) (s'.level v) x (s.begin v)) (strata_same.0 v k)
      ∙ ap (place_line v (s'.step v) (s'.level v) (s'.stratum v)) (seconds_same.0 v k)

  rows_same : (n : ℕ) → n ≤ s.places → place_lines s n ≡ place_lines s' n
  rows_same zero k = refl
  rows_same (suc n) k =
      ap (λ x. x ++ place_line n (s.step n) (s.level n) (s.stratum n) (s.begin n)) (rows_same n (omega arith))
      ∙ ap (λ x. place_lines s' n ++ x) (row_same n (omega arith))

  head_same : head_line s.places s.levels s.strata s.seconds ≡ head_line s'.places s'.levels s'.strata s'.seconds
  head_same =
      ap (λ x. head_line x s.levels s.strata s.seconds) (sym same.size)
      ∙ ap (λ x. head_line s'.places x s.strata s.seconds) (h.levels ∙ sym h'.levels)
      ∙ ap (λ x. head_line s'.places s'.levels x s.seconds) strata_same.1
      ∙ ap (head_line s'.places s'.levels s'.strata) seconds_same.1

  pub one_shown : shown_text s ≡ shown_text s'
  one_shown =
      ap (λ x. x ++ place_lines s s.places) head_same
      ∙ ap (λ x. head_line s'.places s'.levels s'.strata s'.seconds ++ x) (rows_same s.places (omega arith) ∙ ap (place_lines s') (sym same.size))
