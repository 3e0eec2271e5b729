use Rattle.std.proofs.Common.{◌≡◌, ◌<◌, not, ◌&&◌, length, get_or, sym, refl, ap, ◌∙◌, subst, arith}
use Rattle.std.proofs.ByRecursion.{has_get_or, All-from_get_or}
use Rattle.std.proofs.lemmas.List.{take_all, length-map}
use Rattle.facts.specs.Sets.{holds}
use Rattle.plans.specs.Steps.{Met}
use Rattle.plans.proofs.Members.{pairwise_get_or}
use Rattle.task_sheets.specs.Parts.{numbers_of}
use Rattle.checks.specs.declared.draft.PlacedStep.{PlacedStep}
use Rattle.checks.specs.Drafts.{steps_of}
use Rattle.checks.specs.Levels.{LacksNeed}
use Rattle.checks.proofs.Levels.{first_like, smaller_before}
use Rattle.checks.proofs.level.Level.gathered.Goals as goal

pub returns-in-Some-first_outside : goal.returns-in-Some-first_outside
returns-in-Some-first_outside g c =
    let m = g.B.Book.model c.args.book.now in
    let xs = numbers_of c.args.steps.now in
    let E = holds c.args.facts.now.words in
    let n = length c.loop-step.placed.items in
    let w = c.in-Some.ensures in
    let at : c.len.result ≡ n = c.len.ensures.value in
    let here : get_or xs n 0 ≡ c.in-Some.step = ap (λ k. get_or xs k 0) (sym at) ∙ sym w.1 in
    let there : n < length xs = omega arith in (
      refl,
      subst (λ a. LacksNeed m E xs a c.in-Some-first_outside.fact) here
          (record {
            has = has_get_or xs n 0 there;
            lacking = first_like (λ q. holds c.gather-gathered.result.needs.words q && not (E q)) (λ q. m.needs (get_or xs n 0) q && not (E q)) c.in-Some-first_outside.fact
                (λ q. ap (λ b. b && not (E q)) (c.gather-gathered.ensures.needs q ∙ ap (λ a. m.needs a q) (sym here))) c.in-Some-first_outside.ensures.1;
            smaller = smaller_before xs c.requires.0 (Met m E) n there c.loop-step.invariant.4;
          }),
    )

pub invariant_of-result : goal.invariant_of-result
invariant_of-result g c =
    let w = c.in_default.ensures in
    let xs = numbers_of c.args.steps.now in
    let items = c.as_slice.result.now in
    let here = c.as_slice.ensures.value in
    let n = length c.loop-step.placed.items in
    let e : steps_of items ≡ xs = ap steps_of here ∙ c.loop-step.invariant.1 ∙ take_all n xs (omega (arith, c.len.ensures.value)) in
    record {
      few = c.as_slice.ensures.fits;
      rising = λ i j l k. subst (λ ys. get_or ys i 0 < get_or ys j 0) (sym e)
          (pairwise_get_or (λ a b. a < b) xs c.requires.0 i j 0 l (omega (arith, ap length e, length-map items (λ (s : PlacedStep). s.place.step))));
      numbered = rw here c.loop-step.invariant.2;
    }

pub returns : goal.returns
returns g c =
    let all = take_all (length c.loop-step.placed.items) (numbers_of c.args.steps.now) (omega (arith, c.len.ensures.value, c.in_default.ensures)) in (
      ap steps_of c.as_slice.ensures.value ∙ c.loop-step.invariant.1 ∙ all,
      refl,
      All-from_get_or _ (numbers_of c.args.steps.now) 0 (λ i l. c.loop-step.invariant.4 i (omega (arith, c.len.ensures.value, c.in_default.ensures))),
      rw c.as_slice.ensures.value c.loop-step.invariant.3,
    )
