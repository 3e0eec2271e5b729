-- The book that a lawful content means is lawful, and contents that mean the same book are equal.
use Rattle.std.proofs.Common.{◌≡◌, ℕ, true, false, is_ok, Ok, Err, MatchResult, OnOk, ◌&&◌, List, [], length, get_or, sym, refl, ap, ◌∙◌, inl, inr, arith}
use Rattle.std.proofs.lemmas.Bool.{cases_lt, cases_Bool, and_left, and_right, both_ways}
use Rattle.std.proofs.lemmas.List.{get_or_past, ext_get_or}
use Rattle.std.proofs.ByRecursion.{All-get_or}
use Rattle.books.specs.Book.{StepSets, Lawful}
use Rattle.books.specs.Listed.{listed}
use Rattle.books.proofs.Counts.{count_listed}
use Rattle.sheets.specs.declared.fault.Sheet.{Sheet}
use Rattle.sheets.specs.Verdicts.{Verdict, verdict_on}
use Rattle.sheets.proofs.Verdicts.{Passes}
use Rattle.book_sheets.specs.Layout.{book_verdict}
use Rattle.book_sheets.specs.Content.{Step, Content, empty_step, content, encode, model_of, LawfulList, LawfulStep, LawfulContent, Same}
use Rattle.book_sheets.specs.Laws.{Bytes, SheetOf, OneSheet}
use Rattle.book_sheets.proofs.Lawful.{lawful_content}
use Rattle.book_sheets.proofs.Codes.{code_of_content}
use Rattle.book_sheets.proofs.Decodes.{code_passes, content_of_code}
use Rattle.book_sheets.proofs.Ascents.{listed_says, none_above, ascending_same}

no_facts : (f : ℕ) → LawfulList f []
no_facts f = record {
  few = omega arith;
  ascending = record { below = λ j l. absurd (omega arith); ascends = λ j l. absurd (omega arith) };
}

no_step_lawful : (f : ℕ) → LawfulStep f empty_step
no_step_lawful f = record {
  needs = no_facts f;
  adds = no_facts f;
  deletes = no_facts f;
  apart = λ i j l k e. absurd (omega arith);
  short = omega arith;
}

module _ (c : Content) (w : LawfulContent c) where
  -- step a is lawful, and so is the one that stands for none
  step_lawful : (a : ℕ) → LawfulStep c.facts (get_or c.steps a empty_step)
  step_lawful a = elim (cases_lt a (length c.steps)) [
    | inl l ↦ All-get_or (LawfulStep c.facts) c.steps a empty_step l w.each
    | inr l ↦ rw (get_or_past c.steps a empty_step l) (no_step_lawful c.facts)
  ]

  step_sets : (part : Step → List ℕ) → part empty_step ≡ [] → ((a : ℕ) → LawfulList c.facts (part (get_or c.steps a empty_step)))
      → StepSets c.facts (length c.steps) (λ a. listed (part (get_or c.steps a empty_step)))
  step_sets part none lawful = record {
    no_step = λ a p l. ap (λ s. listed (part s) p) (get_or_past c.steps a empty_step l) ∙ ap (λ ps. listed ps p) none;
    no_fact = λ a p l. none_above c.facts (part (get_or c.steps a empty_step)) (lawful a).ascending p l;
    few = λ a. let few = (lawful a).few in
        omega (arith, count_listed (listed (part (get_or c.steps a empty_step))) (part (get_or c.steps a empty_step)) (λ p e. e) c.facts);
  }

  no_both : (a p : ℕ) → (listed (get_or c.steps a empty_step).adds p && listed (get_or c.steps a empty_step).deletes p) ≡ false
  no_both a p =
      let s = get_or c.steps a empty_step in
      elim (cases_Bool (listed s.adds p)) [
        | inl e ↦ elim (cases_Bool (listed s.deletes p)) [
          | inl d ↦ let i = listed_says s.adds p e in let j = listed_says s.deletes p d in
              absurd ((step_lawful a).apart i.0 j.0 i.1.0 j.1.0 (i.1.1 ∙ sym j.1.1))
          | inr d ↦ and_right (listed s.adds p) (listed s.deletes p) d
        ]
        | inr e ↦ and_left (listed s.adds p) (listed s.deletes p) e
      ]

  -- the book that a lawful content means is lawful
  pub model_lawful : Lawful (model_of c)
  model_lawful = record {
    few_facts = w.few_facts;
    few_steps = w.few_steps;
    needs = step_sets (λ s. s.needs) refl (λ a. (step_lawful a).needs);
    adds = step_sets (λ s. s.adds) refl (λ a. (step_lawful a).adds);
    deletes = step_sets (λ s. s.deletes) refl (λ a. (step_lawful a).deletes);
    apart = no_both;
    short = λ a. (step_lawful a).short;
    no_time = λ a l. ap (λ s. s.seconds) (get_or_past c.steps a empty_step l);
  }

-- lawful contents that mean the same book are equal
pub same_content : (c d : Content) → LawfulContent c → LawfulContent d → Same (model_of c) (model_of d) → c ≡ d
same_content c d v w h =
    let mk : List ℕ → List ℕ → List ℕ → ℕ → Step = λ p q u n. record { needs = p; adds = q; deletes = u; seconds = n } in
    let step : (a : ℕ) → get_or c.steps a empty_step ≡ get_or d.steps a empty_step = λ a.
    let s = get_or c.steps a empty_step in
    let t = get_or d.steps a empty_step in
    let k = step_lawful c v a in
    let l = step_lawful d w a in
    let n : s.needs ≡ t.needs = ascending_same c.facts d.facts s.needs t.needs k.needs.ascending l.needs.ascending (h.needs a) in
    let m : s.adds ≡ t.adds = ascending_same c.facts d.facts s.adds t.adds k.adds.ascending l.adds.ascending (h.adds a) in
    let u : s.deletes ≡ t.deletes = ascending_same c.facts d.facts s.deletes t.deletes k.deletes.ascending l.deletes.ascending (h.deletes a) in
    ap (λ x. mk x s.adds s.deletes s.seconds) n
    ∙ ap (λ x. mk t.needs x s.deletes s.seconds) m
    ∙ ap (λ x. mk t.needs t.adds x s.seconds) u
    ∙ ap (λ x. mk t.needs t.adds t.deletes x) (h.seconds a) in
    let made : ℕ → List Step → Content = λ n ss. record { facts = n; steps = ss } in
    ap (λ n. made n c.steps) h.facts ∙ ap (made d.facts) (ext_get_or empty_step c.steps d.steps h.steps (λ a l. step a))

pub one_sheet : OneSheet
one_sheet = record {
  opens = code_passes;
  says = content_of_code;
  sheet = λ xs b ok. record { lawful = lawful_content xs ok; same = code_of_content xs b ok };
  one = λ xs ys b d ok on h.
      code_of_content xs b ok
      ∙ ap encode (same_content (content xs) (content ys) (lawful_content xs ok) (lawful_content ys on) h)
      ∙ sym (code_of_content ys d on);
}

-- the book of a sheet that passes is lawful
pub sheet_lawful : (xs : List ℕ) → Passes (book_verdict xs) → Lawful (model_of (content xs))
sheet_lawful xs ok = model_lawful (content xs) (lawful_content xs ok)

-- what opens is the sheet of what it says, whose book is lawful; what does not is no sheet
module _ (xs : List ℕ) (b : Bytes xs) where
  pub code_by : (s : Sheet) (v : Verdict) → book_verdict xs ≡ v → MatchResult (verdict_on s v) (λ _. SheetOf xs (content xs)) (λ _. (c : Content) → SheetOf xs c → ⊥)
  code_by s (Ok u) e = one_sheet.sheet xs b (ap is_ok e)
  code_by s (Err r) e = λ c w. both_ways (is_ok (book_verdict xs)) (ap is_ok e) (ap (λ v. is_ok (book_verdict v)) w.same ∙ one_sheet.opens c w.lawful)

  pub good_by : (s : Sheet) (v : Verdict) → book_verdict xs ≡ v → OnOk (verdict_on s v) ((is_ok (book_verdict xs) ≡ true) × ∥ Lawful (model_of (content xs)) ∥₁)
  good_by s (Ok u) e = (ap is_ok e, ∣ sheet_lawful xs (ap is_ok e) ∣₁)
  good_by s (Err r) e = tt
