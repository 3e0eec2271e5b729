-- A book sheet, read front to back: the verdict on it.
use Rattle.std.specs.Prelude.{ℕ, zero, suc, ◌+◌, ◌*◌, not, List, length, nat_le, slice_index}
use Rattle.sheets.specs.declared.fault.Refusal.TheVariants.{AddedToo, Trailing}
use Rattle.sheets.specs.Verdicts.{Verdict, must, ◌then◌, up_to}
use Rattle.sheets.specs.Fields.{be16, be32, field, limit, offset}
use Rattle.sheets.specs.Lists.{entry, entries, among}
use Rattle.sheets.specs.Numbers.{has_number}

-- the header: how many facts, how many steps, where the rows begin, where the lists begin
abbrev pub header : List ℕ → Verdict
header xs =
    field xs 0 2 then limit (be16 xs 0) 1024 0
    then field xs 2 2 then limit (be16 xs 2) 512 2
    then field xs 4 4
    then field xs 8 4

-- where the row of step a begins
abbrev pub row_at : ℕ → ℕ
row_at a = 12 + 11 * a

-- a row: where its lists begin, its seconds, and how many facts its step needs, adds and deletes
abbrev pub row : List ℕ → ℕ → Verdict
row xs at =
    field xs at 4
    then field xs (at + 4) 4 then limit (be32 xs (at + 4)) 1000000 (at + 4)
    then field xs (at + 8) 1 then limit (slice_index xs (at + 8)) 250 (at + 8)
    then field xs (at + 9) 1 then limit (slice_index xs (at + 9)) 250 (at + 9)
    then field xs (at + 10) 1 then limit (slice_index xs (at + 10)) 250 (at + 10)

abbrev pub rows : List ℕ → ℕ → Verdict
rows xs n = up_to (λ a. row xs (row_at a)) n

-- how many facts step a needs, adds and deletes
abbrev pub need_count : List ℕ → ℕ → ℕ
need_count xs a = slice_index xs (row_at a + 8)

abbrev pub add_count : List ℕ → ℕ → ℕ
add_count xs a = slice_index xs (row_at a + 9)

abbrev pub delete_count : List ℕ → ℕ → ℕ
delete_count xs a = slice_index xs (row_at a + 10)

-- an entry of a list of deletes: also, it is not among the m adds
abbrev pub deleted : List ℕ → ℕ → ℕ → ℕ → ℕ → ℕ → Verdict
deleted xs f adds m at j =
    entry xs f at j then must (not (among xs adds m (be16 xs (at + 2 * j)))) AddedToo (at + 2 * j)

-- the same, with the adds as a list of numbers
abbrev pub deleted_from : List ℕ → ℕ → List ℕ → ℕ → ℕ → Verdict
deleted_from xs f adds at j =
    entry xs f at j then must (not (has_number adds (be16 xs (at + 2 * j)))) AddedToo (at + 2 * j)

-- the lists of a row with n needs, m adds and k deletes, that begin at a byte
abbrev pub lists : List ℕ → ℕ → ℕ → ℕ → ℕ → ℕ → Verdict
lists xs f n m k at =
    entries xs f at n
    then entries xs f (at + 2 * n) m
    then up_to (deleted xs f (at + 2 * n) m (at + 2 * n + 2 * m)) k

-- where the lists of step a begin
abbrev pub lists_at : List ℕ → ℕ → ℕ
lists_at xs zero = row_at (be16 xs 2)
lists_at xs (suc a) = lists_at xs a + 2 * need_count xs a + 2 * add_count xs a + 2 * delete_count xs a

abbrev pub step_lists : List ℕ → ℕ → Verdict
step_lists xs a =
    offset xs (row_at a) (lists_at xs a)
    then lists xs (be16 xs 0) (need_count xs a) (add_count xs a) (delete_count xs a) (lists_at xs a)

-- the verdict on a whole book sheet
abbrev pub book_verdict : List ℕ → Verdict
book_verdict xs =
    header xs
    then offset xs 4 12
    then rows xs (be16 xs 2)
    then offset xs 8 (row_at (be16 xs 2))
    then up_to (step_lists xs) (be16 xs 2)
    then must (nat_le (length xs) (lists_at xs (be16 xs 2))) Trailing (lists_at xs (be16 xs 2))
