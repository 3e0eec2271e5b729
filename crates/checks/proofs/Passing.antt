-- The levels of a plan, passed one after the other.
use Rattle.std.proofs.Common.{◌≡◌, ℕ, zero, suc, ◌+◌, ◌-◌, ◌<◌, ◌≤◌, true, not, ◌&&◌, List, [], ◌∷◌, ◌++◌, length, get_or, map, take, drop, Err, sym, ap, ◌∙◌, subst, inl, inr, add-one, arith, length-append}
use mathlib.Core.Path.{fun_ext}
use Rattle.std.specs.List.{AllByRecursion}
use Rattle.std.proofs.lemmas.List.{take_more, take_all, drop_more, length-drop, length-take-le, length-map, map-append, get_or_append_left, get_or-append-add, get_or-map}
use Rattle.std.proofs.ByRecursion.{All-get_or}
use Rattle.std.proofs.lemmas.List.Sorted.{length_permutation}
use Rattle.std.proofs.lemmas.Bool.{cases_lt}
use Rattle.facts.specs.Sets.{holds, First}
use Rattle.books.specs.Book.{Model, Facts}
use Rattle.books.specs.Gathered.{Gathers}
use Rattle.books.specs.Listed.{listed}
use Rattle.plans.specs.Steps.{Met}
use Rattle.plans.specs.Plans.{Authorized, Recognized, Accepted, finally}
use Rattle.plans.specs.Plans as plans
use Rattle.plans.specs.Places.{Stands, Arranged}
use Rattle.plans.proofs.Arranging.{Agree, arranged_none, arranged_more}
use Rattle.plans.proofs.Picks.{turning}
use Rattle.sheets.specs.Lists.{Ascending}
use Rattle.task_sheets.specs.Content.{Task, total, LawfulLevel, LawfulTask}
use Rattle.plans.proofs.Recognizing.{finally_push, recognized_push}
use Rattle.checks.specs.declared.arrangement.Place.{Place}
use Rattle.checks.specs.declared.fault.PlanFault.{PlanFault}
use Rattle.checks.specs.declared.fault.PlanFault.TheVariants.{Sheet, Mismatch, NeedMissing, NoOrder, GoalMissing}
use Rattle.checks.specs.declared.draft.PlacedStep.{PlacedStep}
use Rattle.checks.specs.Tables.{blank}
use Rattle.checks.specs.Checked.{Matches, facts_after_levels, Checked, EndsIn, Reached}
use Rattle.checks.specs.Drafts.{placed, places_of, Told, Filled, Drafted, PlanDrafted}
use Rattle.checks.proofs.Turns.{holds_append}
use Rattle.checks.proofs.Levels.{pairwise_climbs}
use Rattle.checks.specs.Levels.{Grown, LevelPassed, LacksNeed, LevelRefused}

total_push : (plan : List (List ℕ)) (xs : List ℕ) → total (plan ++ xs ∷ []) ≡ total plan + length xs
total_push [] xs = omega arith
total_push (ys ∷ plan) xs = omega (arith, total_push plan xs)

pub total_take : (n : ℕ) (plan : List (List ℕ)) → total (take n plan) ≤ total plan
total_take zero plan = omega arith
total_take (suc n) [] = omega arith
total_take (suc n) (ys ∷ plan) = omega (arith, total_take n plan)

-- numbers that ascend one by one ascend altogether
climbs : (ps : List ℕ) → ((j : ℕ) → suc j < length ps → get_or ps j 0 < get_or ps (suc j) 0) → (i j : ℕ) → i < j → j < length ps → get_or ps i 0 < get_or ps j 0
climbs ps w i zero l k = absurd (omega arith)
climbs ps w i (suc j) l k =
    elim (cases_lt i j) [
      | inl h ↦ omega (arith, climbs ps w i j h (omega arith), w j k)
      | inr h ↦ (let e : i ≡ j = omega arith in rw e (w j k))
    ]

pub ascending : (f : ℕ) (ps : List ℕ) → Ascending f ps → plans.Ascending ps
ascending f ps w = pairwise_climbs ps (climbs ps w.ascends)

-- the draft grows by one level
module _ (m : Model) (bs : List ℕ) (k : ℕ) (old new : List PlacedStep) (g : Grown m bs (k + 1) old new) where
  abbrev at_level : ℕ → Place
  at_level b = record { step = b; level = k + 1 }

  all_placed : placed new ≡ placed old ++ map at_level bs
  all_placed = ap placed g.after ∙ map-append (λ (s : PlacedStep). s.place) old g.added ∙ ap (λ ps. placed old ++ ps) g.places

  as_many : length (placed old) ≡ length old
  as_many = length-map old (λ (s : PlacedStep). s.place)

  grown_count : length new ≡ length old + length bs
  grown_count =
      omega (arith, ap length g.after, length-append old g.added, ap length g.places, length-map g.added (λ (s : PlacedStep). s.place), length-map bs at_level)

  kept : (u : ℕ) → u < length old → get_or (placed new) u blank ≡ get_or (placed old) u blank
  kept u l = ap (λ ps. get_or ps u blank) all_placed ∙ get_or_append_left (placed old) (map at_level bs) blank u (omega (arith, as_many))

  new_place : (j : ℕ) → j < length bs → get_or (placed new) (length old + j) blank ≡ at_level (get_or bs j 0)
  new_place j l =
      ap (λ ps. get_or ps (length old + j) blank) all_placed ∙ ap (λ n. get_or (placed old ++ map at_level bs) (n + j) blank) (sym as_many)
      ∙ get_or-append-add (placed old) (map at_level bs) j blank ∙ get_or-map at_level bs j 0 blank l

  grown_agrees : Agree (length old) (places_of old) (places_of new)
  grown_agrees = record {
    step = λ u l. ap (λ (p : Place). p.step) (kept u l);
    level = λ u l. ap (λ (p : Place). p.level - 1) (kept u l);
  }

  grown_stands : Stands (places_of new) (length old) k bs
  grown_stands = record {
    step = λ j l. ap (λ (p : Place). p.step) (new_place j l);
    level = λ j l. (let e : (k + 1) - 1 ≡ k = omega arith in ap (λ (p : Place). p.level - 1) (new_place j l) ∙ e);
  }

  grown_filled : Filled m old → Filled m new
  grown_filled f = record {
    facts = subst (Told m) (sym g.after) (holds_append (λ (s : PlacedStep). Gathers m s.place.step s.facts) old g.added f.facts g.told);
    level = λ u l. elim (cases_lt u (length old)) [
      | inl h ↦ rw (kept u h) (f.level u h)
      | inr h ↦ (let e : length old + (u - length old) ≡ u = omega arith in
          subst (λ v. 0 < (get_or (placed new) v blank).level) e (rw (new_place (u - length old) (omega (arith, grown_count))) (omega arith)))
    ];
  }

-- k levels have passed, and xs is the next one
module _ (m : Model) (t : Task) (k : ℕ) (words : List ℕ) (d : List PlacedStep) (h : Drafted m t k words d) (xs : List ℕ) (l : k < length t.levels) (e : get_or t.levels k [] ≡ xs) where
  same_facts : holds words ≡ facts_after_levels m t k
  same_facts = fun_ext h.facts

  one_more : take (k + 1) t.levels ≡ take k t.levels ++ xs ∷ []
  one_more = take_more t.levels k [] l ∙ ap (λ ys. take k t.levels ++ ys ∷ []) e

  pub level_room : LawfulTask t → length d + length xs ≤ 256
  level_room w =
      omega (arith, h.count, total_push (take k t.levels) xs, ap total one_more, total_take (k + 1) t.levels, w.few_in_all)

  pub level_lawful : LawfulTask t → LawfulLevel t.steps xs
  level_lawful w = subst (LawfulLevel t.steps) e (All-get_or (LawfulLevel t.steps) t.levels k [] l w.each)

  module _ (words' : List ℕ) (d' : List PlacedStep) (pass : LevelPassed m (holds words) xs (k + 1) words' d d') where
    p : LevelPassed m (facts_after_levels m t k) xs (k + 1) words' d d'
    p = subst (λ E. LevelPassed m E xs (k + 1) words' d d') same_facts pass

    pub drafted_more : Drafted m t (k + 1) words' d'
    drafted_more =
        let long : length (take k t.levels) ≡ k = length-take-le k t.levels (omega arith) in
        record {
          passed = subst (Recognized m (listed t.start)) (sym one_more)
              (recognized_push m (listed t.start) (take k t.levels) xs h.passed
              (record { met = p.met; authorized = (p.order, record { shuffled = p.picked.shuffled; turn = turning m xs p.order p.picked }) }));
          facts = λ q. p.facts q ∙ ap (λ (E : Facts). E q) (sym (finally_push m (listed t.start) (take k t.levels) xs))
              ∙ ap (λ plan. finally m (listed t.start) plan q) (sym one_more);
          arranged = subst (λ plan. Arranged m plan (places_of d')) (sym one_more)
              (arranged_more m (places_of d) (places_of d') (grown_agrees m p.order k d d' p.grown) xs p.order p.picked (grown_count m p.order k d d' p.grown)
              (take k t.levels) h.arranged (subst (λ i. Stands (places_of d') (length d) i p.order) (sym long) (grown_stands m p.order k d d' p.grown)));
          count = grown_count m p.order k d d' p.grown ∙ omega (arith, h.count, total_push (take k t.levels) xs, ap total one_more, length_permutation xs p.order p.picked.shuffled);
          filled = grown_filled m p.order k d d' p.grown h.filled;
        }

  pub level_refused : Matches m t → (f : PlanFault) → LevelRefused m (holds words) xs (k + 1) f → Checked m t (Err f)
  level_refused ok (Sheet f) r = r
  level_refused ok Mismatch r = absurd r
  level_refused ok (NeedMissing n a p) r =
      let s = subst (λ E. LacksNeed m E xs a p) same_facts r.1 in
      let o = subst (λ ys. LacksNeed m (facts_after_levels m t k) ys a p) (sym e) s in
      (ok, (k, r.0 ∙ add-one k, record { there = l; reached = h.passed; has = o.has; lacking = o.lacking; smaller = o.smaller }))
  level_refused ok (NoOrder n) r = (
    ok,
    (
      k,
      r.0 ∙ add-one k,
      record {
        there = l;
        reached = h.passed;
        met = subst (λ E. AllByRecursion (Met m E) (get_or t.levels k [])) same_facts (subst (AllByRecursion (Met m (holds words))) (sym e) r.1);
        stuck = λ a. r.2 (subst (Authorized m) e a);
      },
    ),
  )
  level_refused ok (GoalMissing p) r = absurd r

-- what is left of a list begins with y
pub next_of : (xs : List (List ℕ)) (k : ℕ) (y : List ℕ) (ys r : List (List ℕ)) → drop k xs ≡ r → r ≡ y ∷ ys → (k < length xs) × (get_or xs k [] ≡ y) × (drop (k + 1) xs ≡ ys)
next_of xs k y ys r f g =
    let e = f ∙ g in
    let l : k < length xs = omega (arith, length-drop k xs, ap length e) in
    let d = drop_more xs k [] l in
    (l, (heads _ _ _ _ (sym d ∙ e)).0, (heads _ _ _ _ (sym d ∙ e)).1)
  where
    heads : (a b : List ℕ) (x z : List (List ℕ)) → a ∷ x ≡ b ∷ z → (a ≡ b) × (x ≡ z)
    heads a b x z q = (cc, cc)

-- the whole plan has passed
module _ (m : Model) (t : Task) (words : List ℕ) (d : List PlacedStep) (h : Drafted m t (length t.levels) words d) where
  whole : take (length t.levels) t.levels ≡ t.levels
  whole = take_all (length t.levels) t.levels (omega arith)

  pub all_recognized : Recognized m (listed t.start) t.levels
  all_recognized = subst (Recognized m (listed t.start)) whole h.passed

  pub all_ends : EndsIn m t words
  all_ends q = h.facts q ∙ ap (λ plan. finally m (listed t.start) plan q) whole

  pub goal_reached : ((p : ℕ) → listed t.goal p ≡ true → holds words p ≡ true) → Accepted m (listed t.start) (listed t.goal) t.levels
  goal_reached r = record { recognized = all_recognized; reached = λ p g. sym (all_ends p) ∙ r p g }

  pub all_drafted : PlanDrafted m t d
  all_drafted = record { arranged = subst (λ plan. Arranged m plan (places_of d)) whole h.arranged; filled = h.filled }

  -- the facts at the end, and what the goal has of them
  same_end : holds words ≡ finally m (listed t.start) t.levels
  same_end = fun_ext all_ends

  pub goal_missed : Matches m t → (f : PlanFault) → Reached t.goal (holds words) (Err f) → Checked m t (Err f)
  goal_missed ok (Sheet f) r = r
  goal_missed ok Mismatch r = absurd r
  goal_missed ok (NeedMissing n a p) r = absurd r
  goal_missed ok (NoOrder n) r = absurd r
  goal_missed ok (GoalMissing p) r = (ok, record { passed = all_recognized; missing = subst (λ (E : Facts). First (λ q. listed t.goal q && not (E q)) p) same_end r })

-- no level yet
pub drafted_none : (m : Model) (t : Task) (words : List ℕ) (d : List PlacedStep) → length d ≡ 0 → ((q : ℕ) → holds words q ≡ listed t.start q) → Drafted m t 0 words d
drafted_none m t words d e h = record {
  passed = tt;
  facts = h;
  arranged = arranged_none m (places_of d) e;
  count = e;
  filled = record { facts = λ u l. absurd (omega arith); level = λ u l. absurd (omega arith) };
}

-- all levels have passed
module _ (m : Model) (t : Task) (k : ℕ) (words : List ℕ) (d : List PlacedStep) (h : Drafted m t k words d) (l : length t.levels ≤ k) where
  pub drafted_all : Drafted m t (length t.levels) words d
  drafted_all =
      let e : take k t.levels ≡ take (length t.levels) t.levels = take_all k t.levels l ∙ sym (take_all (length t.levels) t.levels (omega arith)) in
      record {
        passed = subst (Recognized m (listed t.start)) e h.passed;
        facts = λ q. h.facts q ∙ ap (λ plan. finally m (listed t.start) plan q) e;
        arranged = subst (λ plan. Arranged m plan (places_of d)) e h.arranged;
        count = h.count ∙ ap total e;
        filled = h.filled;
      }
