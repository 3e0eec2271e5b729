-- What a book sheet answers is what its content means.
use Rattle.std.proofs.Common.{◌≡◌, ℕ, zero, suc, ◌+◌, ◌*◌, ◌<◌, ◌≤◌, List, length, get_or, Option, Some, None, is_some, IfSome, MatchOption, ltb, sym, refl, ap, ◌∙◌, subst, arith}
use Rattle.std.proofs.lemmas.Bool.{ltb-true, ltb-false}
use Rattle.std.proofs.lemmas.List.{get_or_past}
use Rattle.books.specs.Listed.{listed}
use Rattle.sheets.specs.Fields.{be16, be32}
use Rattle.sheets.specs.Lists.{entry, numbers_at, among}
use Rattle.sheets.specs.Numbers.{numbers_of, Ascends}
use Rattle.sheets.proofs.Verdicts.{Passes, up_to_each}
use Rattle.sheets.proofs.Entries.{entries_rise, numbers_ascend}
use Rattle.book_sheets.specs.declared.step_lists.StepLists.{StepLists}
use Rattle.book_sheets.specs.Layout.{row_at, lists_at, book_verdict}
use Rattle.book_sheets.specs.Content.{empty_step, step_of, steps_from, content, model_of}
use Rattle.book_sheets.specs.Reading.{Row, NoRow, Lists, NoLists}
use Rattle.book_sheets.proofs.Known.{Passed, known, deleted_entry}
use Rattle.book_sheets.proofs.Lawful.{length_steps_from}
use Rattle.book_sheets.proofs.Ascents.{has_listed, among_listed}

step_from : (xs : List ℕ) (b n a : ℕ) → a < n → get_or (steps_from xs b n) a empty_step ≡ step_of xs (b + a)
step_from xs b zero a l = absurd (omega arith)
step_from xs b (suc n) zero l = let z : b ≡ b + 0 = omega arith in ap (step_of xs) z
step_from xs b (suc n) (suc a) l = let z : suc b + a ≡ b + suc a = omega arith in step_from xs (suc b) n a (omega arith) ∙ ap (step_of xs) z

-- step a of what a sheet says, and past the last
pub step_is : (xs : List ℕ) (a : ℕ) → a < be16 xs 2 → get_or (content xs).steps a empty_step ≡ step_of xs a
step_is xs a l = let z : 0 + a ≡ a = omega arith in step_from xs 0 (be16 xs 2) a l ∙ ap (step_of xs) z

pub step_past : (xs : List ℕ) (a : ℕ) → be16 xs 2 ≤ a → get_or (content xs).steps a empty_step ≡ empty_step
step_past xs a l = get_or_past (content xs).steps a empty_step (omega (arith, length_steps_from xs 0 (be16 xs 2)))

-- a row is found where it stands
pub row_found : (xs : List ℕ) → Passes (book_verdict xs) → (a : ℕ) → a < be16 xs 2 → Row xs a (row_at a)
row_found xs ok a l = record {
  there = l;
  place = refl;
  ends = (known xs ok a l).row_end;
  seconds = ap (λ s. s.seconds) (sym (step_is xs a l));
}

pub no_row_found : (xs : List ℕ) (a : ℕ) → be16 xs 2 ≤ a → NoRow xs a
no_row_found xs a l = record { past = l; seconds = ap (λ s. s.seconds) (sym (step_past xs a l)) }

pub row_answered : (xs : List ℕ) → Passes (book_verdict xs) → (a : ℕ) (r : Option ℕ) → is_some r ≡ ltb a (be16 xs 2) → IfSome r (λ at. at ≡ row_at a)
    → MatchOption r (NoRow xs a) (Row xs a)
row_answered xs ok a None e h = no_row_found xs a (ltb-false a (be16 xs 2) (sym e))
row_answered xs ok a (Some at) e h = subst (Row xs a) (sym h) (row_found xs ok a (ltb-true a (be16 xs 2) (sym e)))

-- where there is no step, its lists are empty
pub no_lists : (xs : List ℕ) (a : ℕ) → be16 xs 2 ≤ a → NoLists xs a
no_lists xs a l =
    let e = sym (step_past xs a l) in
    record { needs = λ p. ap (λ s. listed s.needs p) e; adds = λ p. ap (λ s. listed s.adds p) e; deletes = λ p. ap (λ s. listed s.deletes p) e }

-- the lists of a row with n needs, m adds and k deletes, that begin at a byte: they stand in the sheet, and ascend
pub record Found (xs : List ℕ) (at n m k : ℕ) : Type 0 where
  pub needs : Ascends (numbers_at xs at n)
  pub adds : Ascends (numbers_at xs (at + 2 * n) m)
  pub deletes : Ascends (numbers_at xs (at + 2 * n + 2 * m) k)
  pub needs_end : at + 2 * n ≤ length xs
  pub adds_end : at + 2 * n + 2 * m ≤ length xs
  pub deletes_end : at + 2 * n + 2 * m + 2 * k ≤ length xs

module _ (xs : List ℕ) (ok : Passes (book_verdict xs)) (a row at n m k : ℕ) (h : Row xs a row) (e : at ≡ be32 xs row)
    (en : n ≡ get_or xs (row + 8) 0) (em : m ≡ get_or xs (row + 9) 0) (ek : k ≡ get_or xs (row + 10) 0) where
  begins : at ≡ lists_at xs a
  begins = e ∙ ap (be32 xs) h.place ∙ (known xs ok a h.there).begins

  passed : Passed xs (be16 xs 0) n m k at
  passed = rw (begins, en, em, ek, h.place) (known xs ok a h.there).lists

  pub lists_found : Found xs at n m k
  lists_found =
      let f = be16 xs 0 in
      let ascend : (b i : ℕ) → ((j : ℕ) → j < i → Passes (entry xs f b j)) → Ascends (numbers_at xs b i) = λ b i each. numbers_ascend xs b i (entries_rise xs f b i each) in
      record {
        needs = ascend at n (λ j l. up_to_each (entry xs f at) n j l passed.needs_ok);
        adds = ascend (at + 2 * n) m (λ j l. up_to_each (entry xs f (at + 2 * n)) m j l passed.adds_ok);
        deletes = ascend (at + 2 * n + 2 * m) k (deleted_entry xs f (at + 2 * n) m (at + 2 * n + 2 * m) k passed.deletes_ok);
        needs_end = passed.needs_end;
        adds_end = passed.adds_end;
        deletes_end = passed.deletes_end;
      }

  step : step_of xs a ≡ record { needs = numbers_at xs at n; adds = numbers_at xs (at + 2 * n) m; deletes = numbers_at xs (at + 2 * n + 2 * m) k; seconds = be32 xs (row + 4) }
  step = rw (begins, en, em, ek, h.place) refl

  -- lists of these numbers say the facts of the step
  pub lists_told : (lists : StepLists) → numbers_of lists.needs.numbers ≡ numbers_at xs at n → numbers_of lists.adds.numbers ≡ numbers_at xs (at + 2 * n) m
      → numbers_of lists.deletes.numbers ≡ numbers_at xs (at + 2 * n + 2 * m) k → Lists xs a lists
  lists_told lists needs adds deletes =
      let s = sym (step_is xs a h.there ∙ step) in
      record {
        needs = λ p. has_listed (numbers_of lists.needs.numbers) p ∙ ap (λ ps. listed ps p) (needs ∙ ap (λ t. t.needs) s);
        adds = λ p. has_listed (numbers_of lists.adds.numbers) p ∙ ap (λ ps. listed ps p) (adds ∙ ap (λ t. t.adds) s);
        deletes = λ p. has_listed (numbers_of lists.deletes.numbers) p ∙ ap (λ ps. listed ps p) (deletes ∙ ap (λ t. t.deletes) s);
      }

  -- the numbers that are read are the facts of the step
  pub needs_read : (p : ℕ) → among xs at n p ≡ (model_of (content xs)).needs a p
  needs_read p = among_listed xs at n p ∙ ap (λ t. listed t.needs p) (sym (step_is xs a h.there ∙ step))

  pub adds_read : (p : ℕ) → among xs (at + 2 * n) m p ≡ (model_of (content xs)).adds a p
  adds_read p = among_listed xs (at + 2 * n) m p ∙ ap (λ t. listed t.adds p) (sym (step_is xs a h.there ∙ step))

  pub deletes_read : (p : ℕ) → among xs (at + 2 * n + 2 * m) k p ≡ (model_of (content xs)).deletes a p
  deletes_read p = among_listed xs (at + 2 * n + 2 * m) k p ∙ ap (λ t. listed t.deletes p) (sym (step_is xs a h.there ∙ step))
