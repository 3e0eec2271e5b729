-- What is known of a book sheet that passes.
use Rattle.std.proofs.Common.{◌≡◌, ℕ, zero, suc, ◌+◌, ◌*◌, ◌<◌, ◌≤◌, leb, List, length, arith, rules}
use Rattle.std.proofs.lemmas.Bool.{leb-true}
use Rattle.sheets.specs.declared.fault.Refusal.TheVariants.{Trailing}
use Rattle.sheets.specs.Verdicts.{Verdict, must, ◌then◌, up_to}
use Rattle.sheets.specs.Fields.{be16, be32, field, limit, offset}
use Rattle.sheets.specs.Lists.{entry, entries}
use Rattle.sheets.proofs.Verdicts.{Passes, then_left, then_right, must_true, up_to_each, field_room, offset_is}
use Rattle.sheets.proofs.Entries.{entry_room, entries_room}
use Rattle.book_sheets.specs.Layout.{header, row, row_at, rows, deleted, lists, need_count, add_count, delete_count, lists_at, step_lists, book_verdict}

-- a list of deletes that passes is a list that passes
pub deleted_entry : (xs : List ℕ) (f adds m at n : ℕ) → Passes (up_to (deleted xs f adds m at) n) → (j : ℕ) → j < n → Passes (entry xs f at j)
deleted_entry xs f adds m at n h j l = then_left (entry xs f at j) _ (up_to_each (deleted xs f adds m at) n j l h)

deletes_room : (xs : List ℕ) (f adds m at n : ℕ) → at ≤ length xs → Passes (up_to (deleted xs f adds m at) n) → at + 2 * n ≤ length xs
deletes_room xs f adds m at zero l h = omega arith
deletes_room xs f adds m at (suc n) l h =
    let k = entry_room xs f at n (deleted_entry xs f adds m at (suc n) h n (omega arith)) in omega arith

-- the sheet from its lists on, and from its rows on
abbrev from_lists : List ℕ → Verdict
from_lists xs =
    up_to (step_lists xs) (be16 xs 2)
    then must (leb (length xs) (lists_at xs (be16 xs 2))) Trailing (lists_at xs (be16 xs 2))

abbrev from_rows : List ℕ → Verdict
from_rows xs = rows xs (be16 xs 2) then offset xs 8 (row_at (be16 xs 2)) then from_lists xs

module _ (xs : List ℕ) (ok : Passes (book_verdict xs)) where
  pub head_ok : Passes (header xs)
  head_ok = then_left (header xs) _ ok

  rows_on : Passes (from_rows xs)
  rows_on = then_right (offset xs 4 12) (from_rows xs) (then_right (header xs) _ ok)

  pub rows_ok : Passes (rows xs (be16 xs 2))
  rows_ok = then_left (rows xs (be16 xs 2)) (offset xs 8 (row_at (be16 xs 2)) then from_lists xs) rows_on

  after_rows : Passes (offset xs 8 (row_at (be16 xs 2)) then from_lists xs)
  after_rows = then_right (rows xs (be16 xs 2)) (offset xs 8 (row_at (be16 xs 2)) then from_lists xs) rows_on

  lists_on : Passes (from_lists xs)
  lists_on = then_right (offset xs 8 (row_at (be16 xs 2))) (from_lists xs) after_rows

  pub lists_ok : Passes (up_to (step_lists xs) (be16 xs 2))
  lists_ok =
      then_left (up_to (step_lists xs) (be16 xs 2)) (must (leb (length xs) (lists_at xs (be16 xs 2))) Trailing (lists_at xs (be16 xs 2))) lists_on

  end_ok : length xs ≤ lists_at xs (be16 xs 2)
  end_ok =
      leb-true (length xs) (lists_at xs (be16 xs 2))
      (must_true (leb (length xs) (lists_at xs (be16 xs 2))) Trailing _
      (then_right (up_to (step_lists xs) (be16 xs 2)) (must (leb (length xs) (lists_at xs (be16 xs 2))) Trailing (lists_at xs (be16 xs 2))) lists_on))

  -- the header is whole
  pub head_room : 12 ≤ length xs
  head_room =
      field_room xs 8 4
      (then_right (field xs 4 4) (field xs 8 4)
      (then_right (limit (be16 xs 2) 512 2) _
      (then_right (field xs 2 2) _ (then_right (limit (be16 xs 0) 1024 0) _ (then_right (field xs 0 2) _ head_ok)))))

  -- the two offsets of the header
  pub rows_place : be32 xs 4 ≡ 12
  rows_place = offset_is xs 4 12 (then_left (offset xs 4 12) (from_rows xs) (then_right (header xs) _ ok))

  pub lists_place : be32 xs 8 ≡ row_at (be16 xs 2)
  lists_place = offset_is xs 8 (row_at (be16 xs 2)) (then_left (offset xs 8 (row_at (be16 xs 2))) (from_lists xs) after_rows)

row_room : (xs : List ℕ) (at : ℕ) → Passes (row xs at) → at + 11 ≤ length xs
row_room xs at h = search rules

rows_room : (xs : List ℕ) (n : ℕ) → 12 ≤ length xs → Passes (rows xs n) → row_at n ≤ length xs
rows_room xs zero l h = l
rows_room xs (suc n) l h = let k = row_room xs (row_at n) (then_right (rows xs n) (row xs (row_at n)) h) in omega arith

-- what is known of the lists of a step with n needs, m adds and k deletes, that begin at a byte
pub record Passed (xs : List ℕ) (f n m k at : ℕ) : Type 0 where
  pub needs_ok : Passes (entries xs f at n)
  pub adds_ok : Passes (entries xs f (at + 2 * n) m)
  pub deletes_ok : Passes (up_to (deleted xs f (at + 2 * n) m (at + 2 * n + 2 * m)) k)
  pub needs_end : at + 2 * n ≤ length xs
  pub adds_end : at + 2 * n + 2 * m ≤ length xs
  pub deletes_end : at + 2 * n + 2 * m + 2 * k ≤ length xs

lists_known : (xs : List ℕ) (f n m k at : ℕ) → at ≤ length xs → Passes (lists xs f n m k at) → Passed xs f n m k at
lists_known xs f n m k at l h =
    let p0 : Passes (entries xs f at n) = then_left (entries xs f at n) _ h in
    let on : Passes (entries xs f (at + 2 * n) m then up_to (deleted xs f (at + 2 * n) m (at + 2 * n + 2 * m)) k) = then_right (entries xs f at n) _ h in
    let p1 : Passes (entries xs f (at + 2 * n) m) = then_left (entries xs f (at + 2 * n) m) _ on in
    let p2 : Passes (up_to (deleted xs f (at + 2 * n) m (at + 2 * n + 2 * m)) k) = then_right (entries xs f (at + 2 * n) m) _ on in
    let a = entries_room xs f at n l p0 in
    let b = entries_room xs f (at + 2 * n) m a p1 in
    record {
      needs_ok = p0;
      adds_ok = p1;
      deletes_ok = p2;
      needs_end = a;
      adds_end = b;
      deletes_end = deletes_room xs f (at + 2 * n) m (at + 2 * n + 2 * m) k b p2;
    }

-- what is known of step a
pub record Known (xs : List ℕ) (a : ℕ) : Type 0 where
  pub row_ok : Passes (row xs (row_at a))
  pub row_end : row_at a + 11 ≤ length xs
  pub begins : be32 xs (row_at a) ≡ lists_at xs a
  pub lists : Passed xs (be16 xs 0) (need_count xs a) (add_count xs a) (delete_count xs a) (lists_at xs a)

module _ (xs : List ℕ) (ok : Passes (book_verdict xs)) where
  step_known : (a : ℕ) → a < be16 xs 2 → lists_at xs a ≤ length xs → Passed xs (be16 xs 0) (need_count xs a) (add_count xs a) (delete_count xs a) (lists_at xs a)
  step_known a l at =
      lists_known xs (be16 xs 0) (need_count xs a) (add_count xs a) (delete_count xs a) (lists_at xs a) at
      (then_right (offset xs (row_at a) (lists_at xs a)) _ (up_to_each (step_lists xs) (be16 xs 2) a l (lists_ok xs ok)))

  lists_begin : (a : ℕ) → a ≤ be16 xs 2 → lists_at xs a ≤ length xs
  lists_begin zero l = rows_room xs (be16 xs 2) (head_room xs ok) (rows_ok xs ok)
  lists_begin (suc a) l = (step_known a l (lists_begin a (omega arith))).deletes_end

  pub known : (a : ℕ) → a < be16 xs 2 → Known xs a
  known a l =
      let r = up_to_each (λ i. row xs (row_at i)) (be16 xs 2) a l (rows_ok xs ok) in
      record {
        row_ok = r;
        row_end = row_room xs (row_at a) r;
        begins = offset_is xs (row_at a) (lists_at xs a) (then_left (offset xs (row_at a) (lists_at xs a)) _ (up_to_each (step_lists xs) (be16 xs 2) a l (lists_ok xs ok)));
        lists = step_known a l (lists_begin a (omega arith));
      }

  -- no byte follows the lists
  pub whole : lists_at xs (be16 xs 2) ≡ length xs
  whole = let p = lists_begin (be16 xs 2) (omega arith) in let q = end_ok xs ok in omega arith
