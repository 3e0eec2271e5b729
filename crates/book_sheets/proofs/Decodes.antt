-- The encoding of a lawful content passes, and says that content.
use Rattle.std.proofs.Common.{◌≡◌, ℕ, suc, ◌+◌, ◌*◌, ◌<◌, ◌≤◌, leb, List, [], ◌∷◌, ◌++◌, length, get_or, drop, is_ok, sym, refl, ap, ◌∙◌, inl, inr, arith, length-append}
use Rattle.std.proofs.lemmas.Bool.{le-leb, not_from_false, cases_eq}
use Rattle.std.specs.List.{AllByRecursion}
use Rattle.sheets.specs.declared.fault.Refusal.TheVariants.{AddedToo, Trailing}
use Rattle.sheets.specs.Verdicts.{up_to}
use Rattle.sheets.specs.Fields.{be16, be32, field, limit, offset, two, four, twos}
use Rattle.sheets.specs.Lists.{entry, entries, among, numbers_at, Ascending}
use Rattle.sheets.proofs.Verdicts.{Passes, then_pass, must_pass, up_to_pass, field_pass, limit_pass, offset_pass}
use Rattle.sheets.proofs.Stands.{Stands, stands_whole, stands_rest, stands_front, stands_read, stands_room, read_two, read_four, length_twos, read_numbers, numbers_said}
use Rattle.sheets.proofs.Entries.{entry_pass, entries_pass, among_none}
use Rattle.book_sheets.specs.Layout.{book_verdict, header, row, rows, row_at, deleted, lists, step_lists, lists_at, need_count, add_count, delete_count}
use Rattle.book_sheets.specs.Content.{Step, Content, step_row, past, step_rows, lists_of, all_lists, encode, step_of, steps_from, content, LawfulStep, LawfulContent}

deleted_pass : (xs : List ℕ) (f adds : ℕ) (qs : List ℕ) (at : ℕ) (ps : List ℕ) (j k : ℕ) → Stands xs adds (twos qs) j → Stands xs at (twos ps) k → Ascending f ps
    → ((i j : ℕ) → i < length qs → j < length ps → get_or qs i 0 ≡ get_or ps j 0 → ⊥)
    → (i : ℕ) → i < length ps → Passes (deleted xs f adds (length qs) at i)
deleted_pass xs f adds qs at ps j k g h w apart i l =
    then_pass (entry xs f at i) _ (entry_pass xs f at ps k h w i l)
    (must_pass _ AddedToo (at + 2 * i)
    (not_from_false (among xs adds (length qs) (be16 xs (at + 2 * i)))
    (among_none xs adds (length qs) (be16 xs (at + 2 * i)) (λ m lm e. apart m i lm l (sym (read_numbers xs adds qs j g m lm) ∙ e ∙ read_numbers xs at ps k h i l)))))

-- the row at a byte says a step whose lists begin at another
record RowSaid (xs : List ℕ) (r at : ℕ) (s : Step) : Type 0 where
  pub begins : be32 xs r ≡ at
  pub seconds : be32 xs (r + 4) ≡ s.seconds
  pub needs : get_or xs (r + 8) 0 ≡ length s.needs
  pub adds : get_or xs (r + 9) 0 ≡ length s.adds
  pub deletes : get_or xs (r + 10) 0 ≡ length s.deletes
  pub end : r + 11 ≤ length xs

row_said : (xs : List ℕ) (r at : ℕ) (s : Step) (k : ℕ) → at < 4294967296 → s.seconds ≤ 1000000 → Stands xs r (step_row at s) k → RowSaid xs r at s
row_said xs r at s k l t h =
    let counts : List ℕ = length s.needs ∷ length s.adds ∷ length s.deletes ∷ [] in
    let behind = stands_rest xs r (four at) (four s.seconds ++ counts) k h in
    record {
      begins = read_four xs r at (r + 4) l (stands_front xs r (four at) (four s.seconds ++ counts) k h);
      seconds = read_four xs (r + 4) s.seconds (r + 4 + 4) (omega arith) (stands_front xs (r + 4) (four s.seconds) counts k behind);
      needs = stands_read xs r (step_row at s) k 8 h;
      adds = stands_read xs r (step_row at s) k 9 h;
      deletes = stands_read xs r (step_row at s) k 10 h;
      end = omega (arith, stands_room xs r (step_row at s) k h);
    }

row_pass : (xs : List ℕ) (f r at : ℕ) (s : Step) → RowSaid xs r at s → LawfulStep f s → Passes (row xs r)
row_pass xs f r at s h w =
    let n = w.needs.few in
    let m = w.adds.few in
    let d = w.deletes.few in
    let t = w.short in
    then_pass (field xs r 4) _ (field_pass xs r 4 (omega arith))
    (then_pass (field xs (r + 4) 4) _ (field_pass xs (r + 4) 4 (omega arith))
    (then_pass (limit (be32 xs (r + 4)) 1000000 (r + 4)) _ (limit_pass _ 1000000 (r + 4) (rw h.seconds t))
    (then_pass (field xs (r + 8) 1) _ (field_pass xs (r + 8) 1 (omega arith))
    (then_pass (limit (get_or xs (r + 8) 0) 250 (r + 8)) _ (limit_pass _ 250 (r + 8) (rw h.needs n))
    (then_pass (field xs (r + 9) 1) _ (field_pass xs (r + 9) 1 (omega arith))
    (then_pass (limit (get_or xs (r + 9) 0) 250 (r + 9)) _ (limit_pass _ 250 (r + 9) (rw h.adds m))
    (then_pass (field xs (r + 10) 1) _ (field_pass xs (r + 10) 1 (omega arith))
    (limit_pass (get_or xs (r + 10) 0) 250 (r + 10) (rw h.deletes d)))))))))

-- where the three lists of a step stand
record Three (xs : List ℕ) (at : ℕ) (s : Step) : Type 0 where
  pub k0 : ℕ
  pub k1 : ℕ
  pub k2 : ℕ
  pub s0 : Stands xs at (twos s.needs) k0
  pub s1 : Stands xs (at + 2 * length s.needs) (twos s.adds) k1
  pub s2 : Stands xs (at + 2 * length s.needs + 2 * length s.adds) (twos s.deletes) k2

three : (xs : List ℕ) (at : ℕ) (s : Step) (k : ℕ) → Stands xs at (lists_of s) k → Three xs at s
three xs at s k h =
    let rest = stands_rest xs at (twos s.needs) (twos s.adds ++ twos s.deletes) k h in
    let e = ap (λ v. at + v) (length_twos s.needs) in
    let rest' : Stands xs (at + 2 * length s.needs) (twos s.adds ++ twos s.deletes) k = sym (ap (λ i. drop i xs) e) ∙ rest in
    let more = stands_rest xs (at + 2 * length s.needs) (twos s.adds) (twos s.deletes) k rest' in
    let e' = ap (λ v. at + 2 * length s.needs + v) (length_twos s.adds) in
    record {
      k0 = at + length (twos s.needs);
      k1 = at + 2 * length s.needs + length (twos s.adds);
      k2 = k;
      s0 = stands_front xs at (twos s.needs) (twos s.adds ++ twos s.deletes) k h;
      s1 = stands_front xs (at + 2 * length s.needs) (twos s.adds) (twos s.deletes) k rest';
      s2 = sym (ap (λ i. drop i xs) e') ∙ more;
    }

lists_pass : (xs : List ℕ) (f at : ℕ) (s : Step) → Three xs at s → LawfulStep f s → Passes (lists xs f (length s.needs) (length s.adds) (length s.deletes) at)
lists_pass xs f at s t w =
    then_pass (entries xs f at (length s.needs)) _ (entries_pass xs f at s.needs t.k0 t.s0 w.needs.ascending)
    (then_pass (entries xs f (at + 2 * length s.needs) (length s.adds)) _
    (entries_pass xs f (at + 2 * length s.needs) s.adds t.k1 t.s1 w.adds.ascending)
    (up_to_pass _ (length s.deletes) (deleted_pass xs f (at + 2 * length s.needs) s.adds (at + 2 * length s.needs + 2 * length s.adds) s.deletes t.k1 t.k2 t.s1 t.s2 w.deletes.ascending w.apart)))

length_lists_of : (at : ℕ) (s : Step) → at + length (lists_of s) ≡ past at s
length_lists_of at s =
    let a = length-append (twos s.needs) (twos s.adds ++ twos s.deletes) in
    let b = length-append (twos s.adds) (twos s.deletes) in
    omega (arith, a, b, length_twos s.needs, length_twos s.adds, length_twos s.deletes)

module _ (xs : List ℕ) (f : ℕ) (head : be16 xs 0 ≡ f) where
  step_next : (a at : ℕ) (s : Step) → RowSaid xs (row_at a) at s → lists_at xs a ≡ at → lists_at xs (suc a) ≡ past at s
  step_next a at s r e = let n = r.needs in let m = r.adds in let d = r.deletes in omega (arith, n, m, d, e)

  step_pass : (a at : ℕ) (s : Step) → RowSaid xs (row_at a) at s → lists_at xs a ≡ at → Three xs at s → LawfulStep f s → Passes (step_lists xs a)
  step_pass a at s r e t w =
      let same : lists xs (be16 xs 0) (need_count xs a) (add_count xs a) (delete_count xs a) (lists_at xs a) ≡ lists xs f (length s.needs) (length s.adds) (length s.deletes) at =
      ap (λ v. lists xs v (need_count xs a) (add_count xs a) (delete_count xs a) (lists_at xs a)) head
      ∙ ap (λ v. lists xs f v (add_count xs a) (delete_count xs a) (lists_at xs a)) r.needs
      ∙ ap (λ v. lists xs f (length s.needs) v (delete_count xs a) (lists_at xs a)) r.adds
      ∙ ap (λ v. lists xs f (length s.needs) (length s.adds) v (lists_at xs a)) r.deletes
      ∙ ap (λ v. lists xs f (length s.needs) (length s.adds) (length s.deletes) v) e in
      then_pass (offset xs (row_at a) (lists_at xs a)) _ (offset_pass xs (row_at a) (lists_at xs a) (r.begins ∙ sym e)) (ap is_ok same ∙ lists_pass xs f at s t w)

  step_said : (a at : ℕ) (s : Step) → RowSaid xs (row_at a) at s → lists_at xs a ≡ at → Three xs at s → step_of xs a ≡ s
  step_said a at s r e t =
      let n : numbers_at xs (lists_at xs a) (need_count xs a) ≡ s.needs =
      ap (λ v. numbers_at xs v (need_count xs a)) e ∙ ap (numbers_at xs at) r.needs ∙ numbers_said xs at s.needs t.k0 t.s0 in
      let m : numbers_at xs (lists_at xs a + 2 * need_count xs a) (add_count xs a) ≡ s.adds =
      ap (λ v. numbers_at xs (v + 2 * need_count xs a) (add_count xs a)) e ∙ ap (λ v. numbers_at xs (at + 2 * v) (add_count xs a)) r.needs
      ∙ ap (numbers_at xs (at + 2 * length s.needs)) r.adds ∙ numbers_said xs (at + 2 * length s.needs) s.adds t.k1 t.s1 in
      let d : numbers_at xs (lists_at xs a + 2 * need_count xs a + 2 * add_count xs a) (delete_count xs a) ≡ s.deletes =
      ap (λ v. numbers_at xs (v + 2 * need_count xs a + 2 * add_count xs a) (delete_count xs a)) e
      ∙ ap (λ v. numbers_at xs (at + 2 * v + 2 * add_count xs a) (delete_count xs a)) r.needs
      ∙ ap (λ v. numbers_at xs (at + 2 * length s.needs + 2 * v) (delete_count xs a)) r.adds
      ∙ ap (numbers_at xs (at + 2 * length s.needs + 2 * length s.adds)) r.deletes
      ∙ numbers_said xs (at + 2 * length s.needs + 2 * length s.adds) s.deletes t.k2 t.s2 in
      let mk : List ℕ → List ℕ → List ℕ → ℕ → Step = λ p q u v. record { needs = p; adds = q; deletes = u; seconds = v } in
      ap (λ v. mk v (step_of xs a).adds (step_of xs a).deletes (step_of xs a).seconds) n
      ∙ ap (λ v. mk s.needs v (step_of xs a).deletes (step_of xs a).seconds) m
      ∙ ap (λ v. mk s.needs s.adds v (step_of xs a).seconds) d
      ∙ ap (λ v. mk s.needs s.adds s.deletes v) r.seconds

  -- the steps from step a on are said, their lists from a byte on
  record Said (a at : ℕ) (ss : List Step) : Type 0 where
    pub rows_pass : (i : ℕ) → a ≤ i → i < a + length ss → Passes (row xs (row_at i))
    pub steps_pass : (i : ℕ) → a ≤ i → i < a + length ss → Passes (step_lists xs i)
    pub said : steps_from xs a (length ss) ≡ ss
    pub ends : lists_at xs (a + length ss) ≡ at + length (all_lists ss)

  all_said : (a at : ℕ) (ss : List Step) (k l : ℕ) → Stands xs (row_at a) (step_rows at ss) k → Stands xs at (all_lists ss) l
      → lists_at xs a ≡ at → at + 1500 * length ss ≤ 4000000 → AllByRecursion (LawfulStep f) ss → Said a at ss
  all_said a at [] k l h g e b w = record {
    rows_pass = λ i p q. absurd (omega arith);
    steps_pass = λ i p q. absurd (omega arith);
    said = refl;
    ends = let z : a + 0 ≡ a = omega arith in let z' : at ≡ at + 0 = omega arith in ap (lists_at xs) z ∙ e ∙ z';
  }
  all_said a at (s ∷ ss) k l h g e b w =
      let lw = w.0 in
      let rest = step_rows (past at s) ss in
      let r : RowSaid xs (row_at a) at s = row_said xs (row_at a) at s (row_at a + length (step_row at s)) (omega arith) lw.short (stands_front xs (row_at a) (step_row at s) rest k h) in
      let t : Three xs at s = three xs at s (at + length (lists_of s)) (stands_front xs at (lists_of s) (all_lists ss) l g) in
      let zr : row_at a + 11 ≡ row_at (suc a) = omega arith in
      let h' : Stands xs (row_at (suc a)) rest k = sym (ap (λ i. drop i xs) zr) ∙ stands_rest xs (row_at a) (step_row at s) rest k h in
      let g' : Stands xs (past at s) (all_lists ss) l = sym (ap (λ i. drop i xs) (length_lists_of at s)) ∙ stands_rest xs at (lists_of s) (all_lists ss) l g in
      let fn = lw.needs.few in
      let fm = lw.adds.few in
      let fd = lw.deletes.few in
      let on : Said (suc a) (past at s) ss = all_said (suc a) (past at s) ss k l h' g' (step_next a at s r e) (omega arith) w.1 in
      let za : suc a + length ss ≡ a + suc (length ss) = omega arith in
      record {
        rows_pass = λ i p q. elim (cases_eq a i) [
          | inl same ↦ ap (λ v. is_ok (row xs (row_at v))) (sym same) ∙ row_pass xs f (row_at a) at s r lw
          | inr other ↦ on.rows_pass i (omega arith) (omega arith)
        ];
        steps_pass = λ i p q. elim (cases_eq a i) [
          | inl same ↦ ap (λ v. is_ok (step_lists xs v)) (sym same) ∙ step_pass a at s r e t lw
          | inr other ↦ on.steps_pass i (omega arith) (omega arith)
        ];
        said = ap (λ v. v ∷ steps_from xs (suc a) (length ss)) (step_said a at s r e t) ∙ ap (λ v. s ∷ v) on.said;
        ends = let c = length-append (lists_of s) (all_lists ss) in let c' = length_lists_of at s in
            sym (ap (lists_at xs) za) ∙ on.ends ∙ omega (arith, c, c');
      }

abbrev made : ℕ → List Step → Content
made n ss = record { facts = n; steps = ss }

length_rows : (at : ℕ) (ss : List Step) → length (step_rows at ss) ≡ 11 * length ss
length_rows at [] = refl
length_rows at (s ∷ ss) = let h = length_rows (past at s) ss in omega (arith, length-append (step_row at s) (step_rows (past at s) ss), h)

module _ (c : Content) (w : LawfulContent c) where
  abbrev bytes : List ℕ
  bytes = encode c

  abbrev count : ℕ
  count = length c.steps

  abbrev t4 : List ℕ
  t4 = step_rows (12 + 11 * count) c.steps ++ all_lists c.steps

  abbrev t3 : List ℕ
  t3 = four (12 + 11 * count) ++ t4

  abbrev t2 : List ℕ
  t2 = four 12 ++ t3

  abbrev t1 : List ℕ
  t1 = two count ++ t2

  s0 : Stands bytes 0 (two c.facts ++ t1) (length bytes)
  s0 = stands_whole bytes

  s1 : Stands bytes 2 t1 (length bytes)
  s1 = stands_rest bytes 0 (two c.facts) t1 (length bytes) s0

  s2 : Stands bytes 4 t2 (length bytes)
  s2 = stands_rest bytes 2 (two count) t2 (length bytes) s1

  s3 : Stands bytes 8 t3 (length bytes)
  s3 = stands_rest bytes 4 (four 12) t3 (length bytes) s2

  s4 : Stands bytes 12 t4 (length bytes)
  s4 = stands_rest bytes 8 (four (12 + 11 * count)) t4 (length bytes) s3

  facts_is : be16 bytes 0 ≡ c.facts
  facts_is = read_two bytes 0 c.facts 2 (stands_front bytes 0 (two c.facts) t1 (length bytes) s0)

  count_is : be16 bytes 2 ≡ count
  count_is = read_two bytes 2 count 4 (stands_front bytes 2 (two count) t2 (length bytes) s1)

  rows_is : be32 bytes 4 ≡ 12
  rows_is = read_four bytes 4 12 8 (omega arith) (stands_front bytes 4 (four 12) t3 (length bytes) s2)

  lists_is : be32 bytes 8 ≡ 12 + 11 * count
  lists_is =
      let few = w.few_steps in
      read_four bytes 8 (12 + 11 * count) 12 (omega arith) (stands_front bytes 8 (four (12 + 11 * count)) t4 (length bytes) s3)

  head_end : 12 ≤ length bytes
  head_end = omega (arith, stands_room bytes 8 t3 (length bytes) s3)

  lists_stand : Stands bytes (12 + 11 * count) (all_lists c.steps) (length bytes)
  lists_stand =
      sym (ap (λ n. drop (12 + n) bytes) (length_rows (12 + 11 * count) c.steps))
      ∙ stands_rest bytes 12 (step_rows (12 + 11 * count) c.steps) (all_lists c.steps) (length bytes) s4

  steps_said : Said bytes c.facts facts_is 0 (12 + 11 * count) c.steps
  steps_said =
      let few = w.few_steps in
      all_said bytes c.facts facts_is 0 (12 + 11 * count) c.steps (12 + length (step_rows (12 + 11 * count) c.steps)) (length bytes)
      (stands_front bytes 12 (step_rows (12 + 11 * count) c.steps) (all_lists c.steps) (length bytes) s4)
      lists_stand (ap row_at count_is) (omega arith) w.each

  -- what the encoding of a lawful content says is that content
  pub content_of_code : content (encode c) ≡ c
  content_of_code =
      ap (λ n. made n (steps_from bytes 0 (be16 bytes 2))) facts_is
      ∙ ap (λ n. made c.facts (steps_from bytes 0 n)) count_is
      ∙ ap (made c.facts) steps_said.said

  -- the encoding of a lawful content passes
  pub code_passes : Passes (book_verdict (encode c))
  code_passes =
      let few = w.few_steps in
      let ff = w.few_facts in
      let n = count_is in
      let fi = facts_is in
      let room = head_end in
      let ends : lists_at bytes (be16 bytes 2) ≡ 12 + 11 * count + length (all_lists c.steps) =
      ap (lists_at bytes) n ∙ (let z : count ≡ 0 + count = omega arith in ap (lists_at bytes) z) ∙ steps_said.ends in
      then_pass (header bytes) _
      (then_pass (field bytes 0 2) _ (field_pass bytes 0 2 (omega arith))
      (then_pass (limit (be16 bytes 0) 1024 0) _ (limit_pass (be16 bytes 0) 1024 0 (omega (arith, fi)))
      (then_pass (field bytes 2 2) _ (field_pass bytes 2 2 (omega arith))
      (then_pass (limit (be16 bytes 2) 512 2) _ (limit_pass (be16 bytes 2) 512 2 (omega (arith, n)))
      (then_pass (field bytes 4 4) _ (field_pass bytes 4 4 (omega arith)) (field_pass bytes 8 4 room))))))
      (then_pass (offset bytes 4 12) _ (offset_pass bytes 4 12 rows_is)
      (then_pass (rows bytes (be16 bytes 2)) _ (up_to_pass _ (be16 bytes 2) (λ i l. steps_said.rows_pass i (omega arith) (omega (arith, n))))
      (then_pass (offset bytes 8 (row_at (be16 bytes 2))) _ (offset_pass bytes 8 (row_at (be16 bytes 2)) (lists_is ∙ sym (ap row_at n)))
      (then_pass (up_to (step_lists bytes) (be16 bytes 2)) _ (up_to_pass _ (be16 bytes 2) (λ i l. steps_said.steps_pass i (omega arith) (omega (arith, n))))
      (must_pass (leb (length bytes) (lists_at bytes (be16 bytes 2))) Trailing _
      (le-leb (length bytes) (lists_at bytes (be16 bytes 2)) (omega (arith, ends, stands_room bytes (12 + 11 * count) (all_lists c.steps) (length bytes) lists_stand))))))))
