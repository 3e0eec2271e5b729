-- A book sheet that passes is the encoding of what it says.
use Rattle.std.proofs.Common.{◌≡◌, ℕ, zero, suc, ◌+◌, ◌*◌, ◌<◌, List, [], ◌∷◌, ◌++◌, length, drop, sym, ap, ◌∙◌, arith}
use Rattle.sheets.specs.Fields.{be16, be32, two, four, twos}
use Rattle.sheets.specs.Lists.{numbers_at}
use Rattle.sheets.proofs.Verdicts.{Passes}
use Rattle.sheets.proofs.Stands.{Bytes, Stands, whole_stands, stands_join, stands_byte, stands_two, stands_four, stands_numbers, length_numbers_at}
use Rattle.book_sheets.specs.Layout.{book_verdict, row_at, lists_at, need_count, add_count, delete_count}
use Rattle.book_sheets.specs.Content.{step_row, past, step_rows, lists_of, all_lists, encode, step_of, steps_from, content}
use Rattle.book_sheets.proofs.Known.{known, head_room, rows_place, lists_place, whole}
use Rattle.book_sheets.proofs.Lawful.{length_steps_from}

module _ (xs : List ℕ) (b : Bytes xs) (ok : Passes (book_verdict xs)) where
  stands_lists : (a : ℕ) → a < be16 xs 2 → Stands xs (lists_at xs a) (lists_of (step_of xs a)) (lists_at xs (suc a))
  stands_lists a l =
      let k = (known xs ok a l).lists in
      let N = need_count xs a in
      let M = add_count xs a in
      let at = lists_at xs a in
      let ns = twos (numbers_at xs at N) in
      let ms = twos (numbers_at xs (at + 2 * N) M) in
      let ds = twos (numbers_at xs (at + 2 * N + 2 * M) (delete_count xs a)) in
      stands_join xs at ns (at + 2 * N) (ms ++ ds) (lists_at xs (suc a)) (stands_numbers xs at N b k.needs_end)
      (stands_join xs (at + 2 * N) ms (at + 2 * N + 2 * M) ds (lists_at xs (suc a)) (stands_numbers xs (at + 2 * N) M b k.adds_end)
      (stands_numbers xs (at + 2 * N + 2 * M) (delete_count xs a) b k.deletes_end))

  -- the lists of the n steps from step a on
  stands_all_lists : (a n : ℕ) → a + n ≡ be16 xs 2 → Stands xs (lists_at xs a) (all_lists (steps_from xs a n)) (lists_at xs (a + n))
  stands_all_lists a zero e = let z : a ≡ a + 0 = omega arith in ap (λ k. drop (lists_at xs k) xs) z
  stands_all_lists a (suc n) e =
      let z : suc a + n ≡ a + suc n = omega arith in
      stands_join xs (lists_at xs a) (lists_of (step_of xs a)) (lists_at xs (suc a)) (all_lists (steps_from xs (suc a) n)) (lists_at xs (a + suc n)) (stands_lists a (omega arith))
      (stands_all_lists (suc a) n (omega arith) ∙ ap (λ k. all_lists (steps_from xs (suc a) n) ++ drop (lists_at xs k) xs) z)

  stands_row : (a : ℕ) → a < be16 xs 2 → Stands xs (row_at a) (step_row (lists_at xs a) (step_of xs a)) (row_at (suc a))
  stands_row a l =
      let k = known xs ok a l in
      let at = row_at a in
      let r = k.row_end in
      let e8 : at + 4 + 4 ≡ at + 8 = omega arith in
      let c0 = stands_byte xs (at + 8) (at + 9) (omega arith) (omega arith) in
      let c1 = stands_byte xs (at + 9) (at + 10) (omega arith) (omega arith) in
      let c2 = stands_byte xs (at + 10) (row_at (suc a)) (omega arith) (omega arith) in
      let n = length_numbers_at xs (lists_at xs a) (need_count xs a) in
      let m = length_numbers_at xs (lists_at xs a + 2 * need_count xs a) (add_count xs a) in
      let d = length_numbers_at xs (lists_at xs a + 2 * need_count xs a + 2 * add_count xs a) (delete_count xs a) in
      let tail : List ℕ = length (step_of xs a).needs ∷ length (step_of xs a).adds ∷ length (step_of xs a).deletes ∷ [] in
      let counts : Stands xs (at + 8) (length (step_of xs a).needs ∷ length (step_of xs a).adds ∷ length (step_of xs a).deletes ∷ []) (row_at (suc a)) = cc in
      let first : Stands xs at (four (lists_at xs a)) (at + 4) = stands_four xs at b (omega arith) ∙ ap (λ v. four v ++ drop (at + 4) xs) k.begins in
      let secs : Stands xs (at + 4) (four (be32 xs (at + 4))) (at + 8) =
      stands_four xs (at + 4) b (omega arith) ∙ ap (λ v. four (be32 xs (at + 4)) ++ drop v xs) e8 in
      stands_join xs at (four (lists_at xs a)) (at + 4) (four (be32 xs (at + 4)) ++ tail) (row_at (suc a)) first
      (stands_join xs (at + 4) (four (be32 xs (at + 4))) (at + 8) tail (row_at (suc a)) secs counts)

  -- the rows of the n steps from step a on
  stands_rows : (a n : ℕ) → a + n ≡ be16 xs 2 → Stands xs (row_at a) (step_rows (lists_at xs a) (steps_from xs a n)) (row_at (a + n))
  stands_rows a zero e = let z : a ≡ a + 0 = omega arith in ap (λ k. drop (row_at k) xs) z
  stands_rows a (suc n) e =
      let p = length_numbers_at xs (lists_at xs a) (need_count xs a) in
      let q = length_numbers_at xs (lists_at xs a + 2 * need_count xs a) (add_count xs a) in
      let r = length_numbers_at xs (lists_at xs a + 2 * need_count xs a + 2 * add_count xs a) (delete_count xs a) in
      let on : lists_at xs (suc a) ≡ past (lists_at xs a) (step_of xs a) = omega (arith, p, q, r) in
      let z : suc a + n ≡ a + suc n = omega arith in
      let rest = steps_from xs (suc a) n in
      stands_join xs (row_at a) (step_row (lists_at xs a) (step_of xs a)) (row_at (suc a)) (step_rows (past (lists_at xs a) (step_of xs a)) rest) (row_at (a + suc n)) (stands_row a (omega arith))
      (stands_rows (suc a) n (omega arith) ∙ ap (λ k. step_rows (lists_at xs (suc a)) rest ++ drop (row_at k) xs) z ∙ ap (λ k. step_rows k rest ++ drop (row_at (a + suc n)) xs) on)

  -- the bytes are the encoding of what they say
  pub code_of_content : xs ≡ encode (content xs)
  code_of_content =
      let N = be16 xs 2 in
      let S = steps_from xs 0 N in
      let room = head_room xs ok in
      let z_n : 0 + N ≡ N = omega arith in
      let lists : Stands xs (row_at N) (all_lists S) (length xs) = stands_all_lists 0 N z_n ∙ ap (λ k. all_lists S ++ drop k xs) (ap (lists_at xs) z_n ∙ whole xs ok) in
      let rows : Stands xs 12 (step_rows (row_at N) S) (row_at N) = stands_rows 0 N z_n ∙ ap (λ k. step_rows (row_at N) S ++ drop (row_at k) xs) z_n in
      let h3 : Stands xs 8 (four (row_at N)) 12 = stands_four xs 8 b room ∙ ap (λ v. four v ++ drop 12 xs) (lists_place xs ok) in
      let h2 : Stands xs 4 (four 12) 8 = stands_four xs 4 b (omega arith) ∙ ap (λ v. four v ++ drop 8 xs) (rows_place xs ok) in
      let h1 : Stands xs 2 (two N) 4 = stands_two xs 2 b (omega arith) in
      let h0 : Stands xs 0 (two (be16 xs 0)) 2 = stands_two xs 0 b (omega arith) in
      let t4 : List ℕ = step_rows (row_at N) S ++ all_lists S in
      let t3 : List ℕ = four (row_at N) ++ t4 in
      let t2 : List ℕ = four 12 ++ t3 in
      let t1 : List ℕ = two N ++ t2 in
      whole_stands xs (two (be16 xs 0) ++ t1)
      (stands_join xs 0 (two (be16 xs 0)) 2 t1 (length xs) h0
      (stands_join xs 2 (two N) 4 t2 (length xs) h1
      (stands_join xs 4 (four 12) 8 t3 (length xs) h2
      (stands_join xs 8 (four (row_at N)) 12 t4 (length xs) h3
      (stands_join xs 12 (step_rows (row_at N) S) (row_at N) (all_lists S) (length xs) rows lists)))))
      ∙ ap (λ n. two (be16 xs 0) ++ (two n ++ (four 12 ++ (four (12 + 11 * n) ++ (step_rows (12 + 11 * n) S ++ all_lists S))))) (sym (length_steps_from xs 0 N))
