-- The encoding of a lawful task passes, and says that task.
use Rattle.std.proofs.Common.{◌≡◌, ℕ, zero, suc, ◌+◌, ◌*◌, ◌<◌, ◌≤◌, not, eqb, leb, List, [], ◌∷◌, ◌++◌, length, get_or, drop, is_ok, sym, refl, ap, ◌∙◌, inl, inr, arith, length-append}
use Rattle.std.proofs.lemmas.Bool.{cases_eq, le-leb, ne_eqb, not_from_false}
use Rattle.std.specs.List.{AllByRecursion}
use Rattle.sheets.specs.declared.fault.Refusal.TheVariants.{EmptyLevel, WrongTotal, Trailing}
use Rattle.sheets.specs.Verdicts.{must, ◌then◌}
use Rattle.sheets.specs.Fields.{be16, be32, two, four, twos, field, limit, offset}
use Rattle.sheets.specs.Lists.{entries, numbers_at, Ascending}
use Rattle.sheets.proofs.Verdicts.{Passes, then_pass, must_pass, up_to_pass, field_pass, limit_pass, offset_pass}
use Rattle.sheets.proofs.Stands.{Stands, stands_whole, stands_rest, stands_front, stands_room, read_two, read_four, numbers_said, length_twos}
use Rattle.sheets.proofs.Entries.{entries_pass}
use Rattle.task_sheets.specs.Layout.{header, past, start_at, goal_at, level_begins_at, steps_before, counted, placed, level, levels, task_verdict}
use Rattle.task_sheets.specs.Content.{Task, list_bytes, plan_bytes, behind, total, encode, list_at, levels_from, content, LawfulLevel, LawfulTask}
use Rattle.task_sheets.proofs.Sound.{level_in}

-- ascending numbers below a bound are at most as many as the bound
climbs : (f : ℕ) (ps : List ℕ) → Ascending f ps → (j : ℕ) → j < length ps → j ≤ get_or ps j 0
climbs f ps w zero l = omega arith
climbs f ps w (suc j) l = let h = climbs f ps w j (omega arith) in let k = w.ascends j l in omega arith

pub ascending_few : (f : ℕ) (ps : List ℕ) → Ascending f ps → length ps ≤ f
ascending_few f [] w = omega arith
ascending_few f (p ∷ ps) w =
    let l : length ps < length (p ∷ ps) = omega arith in
    let h = climbs f (p ∷ ps) w (length ps) l in let k = w.below (length ps) l in omega arith

pub length_list_bytes : (ps : List ℕ) → length (list_bytes ps) ≡ 2 + 2 * length ps
length_list_bytes ps = let h = length_twos ps in let k = length-append (two (length ps)) (twos ps) in omega (arith, h, k)

-- what a list that stands at a byte says
pub record Said (xs : List ℕ) (at : ℕ) (ps : List ℕ) : Type 0 where
  pub count : be16 xs at ≡ length ps
  pub list : list_at xs at ≡ ps
  pub next : past xs at ≡ behind at ps
  pub end : behind at ps ≤ length xs
  pub numbers : Stands xs (at + 2) (twos ps) (at + 2 + length (twos ps))

list_said : (xs : List ℕ) (at : ℕ) (ps rest : List ℕ) (k : ℕ) → Stands xs at (list_bytes ps ++ rest) k → Said xs at ps
list_said xs at ps rest k h =
    let s = stands_front xs at (list_bytes ps) rest k h in
    let c = read_two xs at (length ps) (at + 2) (stands_front xs at (two (length ps)) (twos ps) (at + length (list_bytes ps)) s) in
    let ns = stands_rest xs at (two (length ps)) (twos ps) (at + length (list_bytes ps)) s in
    let e : at + length (list_bytes ps) ≡ at + 2 + length (twos ps) = omega (arith, length_list_bytes ps, length_twos ps) in
    record {
      count = c;
      list = ap (numbers_at xs (at + 2)) c ∙ numbers_said xs (at + 2) ps (at + length (list_bytes ps)) ns;
      next = ap (λ n. at + 2 + 2 * n) c;
      end = omega (arith, stands_room xs at (list_bytes ps) (at + length (list_bytes ps)) s, length_list_bytes ps);
      numbers = ns ∙ ap (λ n. twos ps ++ drop n xs) e;
    }

-- the bytes behind it
list_rest : (xs : List ℕ) (at : ℕ) (ps rest : List ℕ) (k : ℕ) → Stands xs at (list_bytes ps ++ rest) k → Stands xs (behind at ps) rest k
list_rest xs at ps rest k h =
    let e : at + length (list_bytes ps) ≡ behind at ps = omega (arith, length_list_bytes ps) in
    sym (ap (λ i. drop i xs) e) ∙ stands_rest xs at (list_bytes ps) rest k h

entries_good : (xs : List ℕ) (bound at : ℕ) (ps : List ℕ) → Said xs at ps → Ascending bound ps → Passes (entries xs bound (at + 2) (be16 xs at))
entries_good xs bound at ps s w =
    ap (λ n. is_ok (entries xs bound (at + 2) n)) s.count ∙ entries_pass xs bound (at + 2) ps (at + 2 + length (twos ps)) s.numbers w

counted_pass : (xs : List ℕ) (bound at : ℕ) (ps : List ℕ) → Said xs at ps → Ascending bound ps → Passes (counted xs bound at)
counted_pass xs bound at ps s w =
    then_pass (field xs at 2) _ (field_pass xs at 2 (omega (arith, s.end))) (entries_good xs bound at ps s w)

placed_pass : (xs : List ℕ) (w bound at : ℕ) (ps : List ℕ) → be32 xs w ≡ at → Said xs at ps → Ascending bound ps → Passes (placed xs w bound at)
placed_pass xs w bound at ps e s a = then_pass (offset xs w at) _ (offset_pass xs w at e) (counted_pass xs bound at ps s a)

level_pass : (xs : List ℕ) (bound most before at : ℕ) (ps : List ℕ) → Said xs at ps → LawfulLevel bound ps → before + length ps ≤ most → Passes (level xs bound most before at)
level_pass xs bound most before at ps s w l =
    let c = s.count in
    let es = entries xs bound (at + 2) (be16 xs at) in
    then_pass (field xs at 2) _ (field_pass xs at 2 (omega (arith, s.end)))
    (then_pass (must (not (eqb (be16 xs at) 0)) EmptyLevel at) (must (leb (before + be16 xs at) most) WrongTotal at then es)
    (must_pass (not (eqb (be16 xs at) 0)) EmptyLevel at (not_from_false (eqb (be16 xs at) 0) (ne_eqb (be16 xs at) 0 (λ z. omega (arith, z, c, w.some)))))
    (then_pass (must (leb (before + be16 xs at) most) WrongTotal at) es
    (must_pass (leb (before + be16 xs at) most) WrongTotal at (le-leb (before + be16 xs at) most (omega (arith, c))))
    (entries_good xs bound at ps s w.ascending)))

-- what levels that stand from a byte on say, of which the first is level i
pub record SaidLevels (xs : List ℕ) (i at s : ℕ) (pss : List (List ℕ)) : Type 0 where
  pub pass : (j : ℕ) → i ≤ j → j < i + length pss → Passes (level_in xs j)
  pub said : levels_from xs at (length pss) ≡ pss
  pub steps : steps_before xs (i + length pss) ≡ s + total pss
  pub ends : level_begins_at xs (i + length pss) ≡ at + length (plan_bytes pss)

levels_said : (xs : List ℕ) (bound most : ℕ) → be16 xs 2 ≡ bound → be16 xs 6 ≡ most → (i at s : ℕ) (pss : List (List ℕ)) (k : ℕ) → Stands xs at (plan_bytes pss) k
    → level_begins_at xs i ≡ at → steps_before xs i ≡ s → s + total pss ≤ most → AllByRecursion (LawfulLevel bound) pss → SaidLevels xs i at s pss
levels_said xs bound most eb em i at s [] k h e t l w =
    let z : i + 0 ≡ i = omega arith in
    let z' : at ≡ at + 0 = omega arith in
    let z'' : s ≡ s + 0 = omega arith in
    record {
      pass = λ j p q. absurd (omega arith);
      said = refl;
      steps = ap (steps_before xs) z ∙ t ∙ z'';
      ends = ap (level_begins_at xs) z ∙ e ∙ z';
    }
levels_said xs bound most eb em i at s (ps ∷ pss) k h e t l w =
    let here = list_said xs at ps (plan_bytes pss) k h in
    let e' : level_begins_at xs (suc i) ≡ behind at ps = ap (past xs) e ∙ here.next in
    let t' : steps_before xs (suc i) ≡ s + length ps = ap (λ n. n + be16 xs (level_begins_at xs i)) t ∙ ap (λ n. s + be16 xs n) e ∙ ap (λ n. s + n) here.count in
    let on = levels_said xs bound most eb em (suc i) (behind at ps) (s + length ps) pss k (list_rest xs at ps (plan_bytes pss) k h) e' t' (omega arith) w.1 in
    let z : suc i + length pss ≡ i + suc (length pss) = omega arith in
    let one : Passes (level_in xs i) =
    ap (λ n. is_ok (level xs n (be16 xs 6) (steps_before xs i) (level_begins_at xs i))) eb ∙ ap (λ n. is_ok (level xs bound n (steps_before xs i) (level_begins_at xs i))) em
    ∙ ap (λ n. is_ok (level xs bound most n (level_begins_at xs i))) t ∙ ap (λ n. is_ok (level xs bound most s n)) e
    ∙ level_pass xs bound most s at ps here w.0 (omega arith) in
    record {
      pass = λ j p q. elim (cases_eq i j) [
        | inl same ↦ ap (λ v. is_ok (level_in xs v)) (sym same) ∙ one
        | inr other ↦ on.pass j (omega arith) (omega arith)
      ];
      said = ap (λ v. v ∷ levels_from xs (past xs at) (length pss)) here.list ∙ ap (λ v. ps ∷ levels_from xs v (length pss)) here.next ∙ ap (λ v. ps ∷ v) on.said;
      steps = sym (ap (steps_before xs) z) ∙ on.steps ∙ omega arith;
      ends = sym (ap (level_begins_at xs) z) ∙ on.ends ∙ omega (arith, length-append (list_bytes ps) (plan_bytes pss), length_list_bytes ps);
    }

abbrev task : ℕ → ℕ → List ℕ → List ℕ → List (List ℕ) → Task
task f n ps qs pss = record { facts = f; steps = n; start = ps; goal = qs; levels = pss }

module _ (t : Task) (w : LawfulTask t) where
  abbrev xs : List ℕ
  xs = encode t

  abbrev end : ℕ
  end = length xs

  abbrev goals : ℕ
  goals = behind start_at t.start

  abbrev plans : ℕ
  plans = behind goals t.goal

  abbrev t9 : List ℕ
  t9 = plan_bytes t.levels

  abbrev t8 : List ℕ
  t8 = list_bytes t.goal ++ t9

  abbrev t7 : List ℕ
  t7 = list_bytes t.start ++ t8

  abbrev t6 : List ℕ
  t6 = four plans ++ t7

  abbrev t5 : List ℕ
  t5 = four goals ++ t6

  abbrev t4 : List ℕ
  t4 = four start_at ++ t5

  abbrev t3 : List ℕ
  t3 = two (total t.levels) ++ t4

  abbrev t2 : List ℕ
  t2 = two (length t.levels) ++ t3

  abbrev t1 : List ℕ
  t1 = two t.steps ++ t2

  s0 : Stands xs 0 (two t.facts ++ t1) end
  s0 = stands_whole xs

  s1 : Stands xs 2 t1 end
  s1 = stands_rest xs 0 (two t.facts) t1 end s0

  s2 : Stands xs 4 t2 end
  s2 = stands_rest xs 2 (two t.steps) t2 end s1

  s3 : Stands xs 6 t3 end
  s3 = stands_rest xs 4 (two (length t.levels)) t3 end s2

  s4 : Stands xs 8 t4 end
  s4 = stands_rest xs 6 (two (total t.levels)) t4 end s3

  s5 : Stands xs 12 t5 end
  s5 = stands_rest xs 8 (four start_at) t5 end s4

  s6 : Stands xs 16 t6 end
  s6 = stands_rest xs 12 (four goals) t6 end s5

  s7 : Stands xs start_at t7 end
  s7 = stands_rest xs 16 (four plans) t7 end s6

  s8 : Stands xs goals t8 end
  s8 = list_rest xs start_at t.start t8 end s7

  s9 : Stands xs plans t9 end
  s9 = list_rest xs goals t.goal t9 end s8

  facts_is : be16 xs 0 ≡ t.facts
  facts_is = read_two xs 0 t.facts 2 (stands_front xs 0 (two t.facts) t1 end s0)

  steps_is : be16 xs 2 ≡ t.steps
  steps_is = read_two xs 2 t.steps 4 (stands_front xs 2 (two t.steps) t2 end s1)

  levels_is : be16 xs 4 ≡ length t.levels
  levels_is = read_two xs 4 (length t.levels) 6 (stands_front xs 4 (two (length t.levels)) t3 end s2)

  total_is : be16 xs 6 ≡ total t.levels
  total_is = read_two xs 6 (total t.levels) 8 (stands_front xs 6 (two (total t.levels)) t4 end s3)

  start_is : be32 xs 8 ≡ start_at
  start_is = read_four xs 8 start_at 12 (omega arith) (stands_front xs 8 (four start_at) t5 end s4)

  few_start : length t.start ≤ 1024
  few_start = let h = ascending_few t.facts t.start w.start in let k = w.few_facts in omega arith

  few_goal : length t.goal ≤ 1024
  few_goal = let h = ascending_few t.facts t.goal w.goal in let k = w.few_facts in omega arith

  goal_is : be32 xs 12 ≡ goals
  goal_is = let h = few_start in read_four xs 12 goals 16 (omega arith) (stands_front xs 12 (four goals) t6 end s5)

  plan_is : be32 xs 16 ≡ plans
  plan_is = let h = few_start in let k = few_goal in read_four xs 16 plans 20 (omega arith) (stands_front xs 16 (four plans) t7 end s6)

  start_said : Said xs start_at t.start
  start_said = list_said xs start_at t.start t8 end s7

  goal_said : Said xs goals t.goal
  goal_said = list_said xs goals t.goal t9 end s8

  goal_at_is : goal_at xs ≡ goals
  goal_at_is = start_said.next

  level_at_is : level_begins_at xs 0 ≡ plans
  level_at_is = ap (past xs) goal_at_is ∙ goal_said.next

  plan_said : SaidLevels xs 0 plans 0 t.levels
  plan_said =
      let few = w.few_in_all in
      levels_said xs t.steps (total t.levels) steps_is total_is 0 plans 0 t.levels end s9 level_at_is refl (omega arith) w.each

  -- what the encoding of a lawful task says is that task
  pub content_encode : content (encode t) ≡ t
  content_encode =
      let L = levels_from xs (level_begins_at xs 0) (be16 xs 4) in
      let l : L ≡ t.levels = ap (λ n. levels_from xs n (be16 xs 4)) level_at_is ∙ ap (levels_from xs plans) levels_is ∙ plan_said.said in
      let g : list_at xs (goal_at xs) ≡ t.goal = ap (list_at xs) goal_at_is ∙ goal_said.list in
      ap (λ v. task v (be16 xs 2) (list_at xs start_at) (list_at xs (goal_at xs)) L) facts_is
      ∙ ap (λ v. task t.facts v (list_at xs start_at) (list_at xs (goal_at xs)) L) steps_is
      ∙ ap (λ v. task t.facts t.steps v (list_at xs (goal_at xs)) L) start_said.list
      ∙ ap (λ v. task t.facts t.steps t.start v L) g
      ∙ ap (λ v. task t.facts t.steps t.start t.goal v) l

  room : 20 ≤ length xs
  room = let h = start_said.end in omega arith

  head_pass : Passes (header xs)
  head_pass =
      let r = room in
      then_pass (field xs 0 2) _ (field_pass xs 0 2 (omega arith))
      (then_pass (limit (be16 xs 0) 1024 0) _ (limit_pass (be16 xs 0) 1024 0 (omega (arith, facts_is, w.few_facts)))
      (then_pass (field xs 2 2) _ (field_pass xs 2 2 (omega arith))
      (then_pass (limit (be16 xs 2) 512 2) _ (limit_pass (be16 xs 2) 512 2 (omega (arith, steps_is, w.few_steps)))
      (then_pass (field xs 4 2) _ (field_pass xs 4 2 (omega arith))
      (then_pass (limit (be16 xs 4) 256 4) _ (limit_pass (be16 xs 4) 256 4 (omega (arith, levels_is, w.few_levels)))
      (then_pass (field xs 6 2) _ (field_pass xs 6 2 (omega arith))
      (then_pass (limit (be16 xs 6) 256 6) _ (limit_pass (be16 xs 6) 256 6 (omega (arith, total_is, w.few_in_all)))
      (then_pass (field xs 8 4) _ (field_pass xs 8 4 (omega arith))
      (then_pass (field xs 12 4) (field xs 16 4) (field_pass xs 12 4 (omega arith)) (field_pass xs 16 4 r))))))))))

  -- the encoding of a lawful task passes
  pub encode_passes : Passes (task_verdict (encode t))
  encode_passes =
      let z_l : be16 xs 4 ≡ 0 + length t.levels = omega (arith, levels_is) in
      let steps : steps_before xs (be16 xs 4) ≡ be16 xs 6 = ap (steps_before xs) z_l ∙ plan_said.steps ∙ omega (arith, total_is) in
      let ends : level_begins_at xs (be16 xs 4) ≡ plans + length t9 = ap (level_begins_at xs) z_l ∙ plan_said.ends in
      let fw = facts_is in
      then_pass (header xs) _ head_pass
      (then_pass (placed xs 8 (be16 xs 0) start_at) _
      (ap (λ v. is_ok (placed xs 8 v start_at)) fw ∙ placed_pass xs 8 t.facts start_at t.start start_is start_said w.start)
      (then_pass (placed xs 12 (be16 xs 0) (goal_at xs)) _
      (ap (λ v. is_ok (placed xs 12 v (goal_at xs))) fw ∙ ap (λ v. is_ok (placed xs 12 t.facts v)) goal_at_is ∙ placed_pass xs 12 t.facts goals t.goal goal_is goal_said w.goal)
      (then_pass (offset xs 16 (level_begins_at xs 0)) _ (offset_pass xs 16 (level_begins_at xs 0) (plan_is ∙ sym level_at_is))
      (then_pass (levels xs (be16 xs 4)) _ (up_to_pass (level_in xs) (be16 xs 4) (λ i l. plan_said.pass i (omega arith) (omega (arith, z_l))))
      (then_pass (must (leb (be16 xs 6) (steps_before xs (be16 xs 4))) WrongTotal 6) (must (leb (length xs) (level_begins_at xs (be16 xs 4))) Trailing (level_begins_at xs (be16 xs 4)))
      (must_pass (leb (be16 xs 6) (steps_before xs (be16 xs 4))) WrongTotal 6 (le-leb (be16 xs 6) (steps_before xs (be16 xs 4)) (omega (arith, steps))))
      (must_pass (leb (length xs) (level_begins_at xs (be16 xs 4))) Trailing (level_begins_at xs (be16 xs 4))
      (le-leb (length xs) (level_begins_at xs (be16 xs 4)) (omega (arith, ends, stands_room xs plans t9 end s9)))))))))
