-- The bytes of a task sheet that passes are the encoding of what they say.
use Rattle.std.proofs.Common.{◌≡◌, ℕ, zero, suc, ◌+◌, ◌≤◌, List, ◌++◌, length, drop, sym, refl, ap, ◌∙◌, arith}
use Rattle.sheets.specs.Fields.{be16, be32, two, four, twos}
use Rattle.sheets.proofs.Stands.{Bytes, Stands, stands_join, stands_two, stands_four, stands_numbers, whole_stands, length_numbers_at}
use Rattle.task_sheets.specs.Layout.{past, start_at, goal_at, level_begins_at}
use Rattle.task_sheets.specs.Content.{list_bytes, plan_bytes, behind, total, encode, list_at, levels_from, content}
use Rattle.task_sheets.proofs.Sound.{GoodSheet, length_levels_from, total_said}

module _ (xs : List ℕ) (b : Bytes xs) where
  -- a list stands as its count and its numbers
  list_stands : (at : ℕ) → past xs at ≤ length xs → Stands xs at (list_bytes (list_at xs at)) (past xs at)
  list_stands at h =
      let n : be16 xs at ≡ length (list_at xs at) = sym (length_numbers_at xs (at + 2) (be16 xs at)) in
      stands_join xs at (two (length (list_at xs at))) (at + 2) (twos (list_at xs at)) (past xs at)
      (stands_two xs at b (omega arith) ∙ ap (λ v. two v ++ drop (at + 2) xs) n)
      (stands_numbers xs (at + 2) (be16 xs at) b h)

  two_stands : (i j n : ℕ) → i + 2 ≡ j → j ≤ length xs → be16 xs i ≡ n → Stands xs i (two n) j
  two_stands i j n e h v = stands_two xs i b (omega arith) ∙ ap (λ w. two w ++ drop (i + 2) xs) v ∙ ap (λ w. two n ++ drop w xs) e

  four_stands : (i j n : ℕ) → i + 4 ≡ j → j ≤ length xs → be32 xs i ≡ n → Stands xs i (four n) j
  four_stands i j n e h v = stands_four xs i b (omega arith) ∙ ap (λ w. four w ++ drop (i + 4) xs) v ∙ ap (λ w. four n ++ drop w xs) e

  module _ (g : GoodSheet xs) where
    plan_stands : (i n : ℕ) → i + n ≡ be16 xs 4 → Stands xs (level_begins_at xs i) (plan_bytes (levels_from xs (level_begins_at xs i) n)) (level_begins_at xs (i + n))
    plan_stands i zero e = let z : i ≡ i + 0 = omega arith in ap (λ k. drop (level_begins_at xs k) xs) z
    plan_stands i (suc n) e =
        let z : suc i + n ≡ i + suc n = omega arith in
        let rest = plan_bytes (levels_from xs (level_begins_at xs (suc i)) n) in
        stands_join xs (level_begins_at xs i) (list_bytes (list_at xs (level_begins_at xs i))) (level_begins_at xs (suc i)) rest (level_begins_at xs (i + suc n))
        (list_stands (level_begins_at xs i) (g.each i (omega arith)).list.end)
        (plan_stands (suc i) n (omega arith) ∙ ap (λ k. rest ++ drop (level_begins_at xs k) xs) z)

    pub encoded : xs ≡ encode (content xs)
    encoded =
        let t = content xs in
        let L = be16 xs 4 in
        let room = g.head.room in
        let end = length xs in
        let len : L ≡ length t.levels = sym (length_levels_from xs (level_begins_at xs 0) L) in
        let sum : be16 xs 6 ≡ total t.levels = sym (total_said xs g) in
        let ps = length_numbers_at xs (start_at + 2) (be16 xs start_at) in
        let qs = length_numbers_at xs (goal_at xs + 2) (be16 xs (goal_at xs)) in
        let ga : goal_at xs ≡ behind start_at t.start = omega (arith, ps) in
        let la : level_begins_at xs 0 ≡ behind (behind start_at t.start) t.goal = omega (arith, ga, qs) in
        let z_l : 0 + L ≡ L = omega arith in
        let s9 : Stands xs (level_begins_at xs 0) (plan_bytes t.levels) end = plan_stands 0 L z_l ∙ ap (λ k. plan_bytes t.levels ++ drop k xs) (ap (level_begins_at xs) z_l ∙ g.whole) in
        let t9 = plan_bytes t.levels in
        let t8 = list_bytes t.goal ++ t9 in
        let t7 = list_bytes t.start ++ t8 in
        let t6 = four (behind (behind start_at t.start) t.goal) ++ t7 in
        let t5 = four (behind start_at t.start) ++ t6 in
        let t4 = four start_at ++ t5 in
        let t3 = two (total t.levels) ++ t4 in
        let t2 = two (length t.levels) ++ t3 in
        let t1 = two t.steps ++ t2 in
        let s8 = stands_join xs (goal_at xs) (list_bytes t.goal) (level_begins_at xs 0) t9 end (list_stands (goal_at xs) g.goal_list.end) s9 in
        let s7 = stands_join xs start_at (list_bytes t.start) (goal_at xs) t8 end (list_stands start_at g.start_list.end) s8 in
        let s6 = stands_join xs 16 (four (behind (behind start_at t.start) t.goal)) 20 t7 end (four_stands 16 20 _ refl room (g.plan_place ∙ la)) s7 in
        let s5 = stands_join xs 12 (four (behind start_at t.start)) 16 t6 end (four_stands 12 16 _ refl (omega arith) (g.goal_place ∙ ga)) s6 in
        let s4 = stands_join xs 8 (four start_at) 12 t5 end (four_stands 8 12 _ refl (omega arith) g.start_place) s5 in
        let s3 = stands_join xs 6 (two (total t.levels)) 8 t4 end (two_stands 6 8 _ refl (omega arith) sum) s4 in
        let s2 = stands_join xs 4 (two (length t.levels)) 6 t3 end (two_stands 4 6 _ refl (omega arith) len) s3 in
        let s1 = stands_join xs 2 (two t.steps) 4 t2 end (two_stands 2 4 _ refl (omega arith) refl) s2 in
        let s0 = stands_join xs 0 (two t.facts) 2 t1 end (two_stands 0 2 _ refl (omega arith) refl) s1 in
        whole_stands xs (encode t) s0
