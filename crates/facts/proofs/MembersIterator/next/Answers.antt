use Rattle.std.proofs.Common.{◌<◌, refl, rules, arith}
use Rattle.facts.proofs.Rows.{Passed, passed, passed_over, taken_some, next_within}
use Rattle.facts.proofs.MembersIterator.next.Goals as goal
use Rattle.facts.proofs.MembersIterator.next.Goals.{then-self-eq0+in_ok-number, else-self-eq0}

pub overflow_sub-self : goal.overflow_sub-self
overflow_sub-self g c = omega (arith, taken_some c.args.self.now.set.now.words c.args.self.now.from _ c.in_ok-number.ensures.1 (omega arith))

pub overflow_add-self : goal.overflow_add-self
overflow_add-self g c =
    let set = c.args.self.now.set.now in
    let after : Passed set.words c.args.self.now.from c.if-self-eq0.number c.if-self-eq0.self.1.1.1.0 c.if-self-eq0.self.1.1.1.1.0 =
    elim c.if-self-eq0.branch [
      | then-self-eq0+in_ok-number w ↦ rw (w.self-is, w.number-is) (passed_over set.words _ _ w.in_ok-number.ensures.1 (omega arith))
      | else-self-eq0 w ↦
          let some : 0 < c.args.self.now.rest = omega (arith, w.if-self-eq0.false) in
          rw (w.self-is, w.number-is) (passed set.words _ _ (c.args.self.now.in_hand some) some (omega arith) _ (c.args.self.now.based some))
    ] in
    omega (arith, next_within set.words _ _ after.next, set.few)

pub invariant_of-self-2 : goal.invariant_of-self-2
invariant_of-self-2 g c =
    let set = c.args.self.now.set.now in
    let after : Passed set.words c.args.self.now.from c.if-self-eq0.number c.if-self-eq0.self.1.1.1.0 c.if-self-eq0.self.1.1.1.1.0 =
    elim c.if-self-eq0.branch [
      | then-self-eq0+in_ok-number w ↦ rw (w.self-is, w.number-is) (passed_over set.words _ _ w.in_ok-number.ensures.1 (omega arith))
      | else-self-eq0 w ↦
          let some : 0 < c.args.self.now.rest = omega (arith, w.if-self-eq0.false) in
          rw (w.self-is, w.number-is) (passed set.words _ _ (c.args.self.now.in_hand some) some (omega arith) _ (c.args.self.now.based some))
    ] in
    record { based = after.based; in_hand = after.hand }

pub returns-clause-steps : goal.returns-clause-steps
returns-clause-steps g c =
    let set = c.args.self.now.set.now in
    let after : Passed set.words c.args.self.now.from c.if-self-eq0.number c.if-self-eq0.self.1.1.1.0 c.if-self-eq0.self.1.1.1.1.0 =
    elim c.if-self-eq0.branch [
      | then-self-eq0+in_ok-number w ↦ rw (w.self-is, w.number-is) (passed_over set.words _ _ w.in_ok-number.ensures.1 (omega arith))
      | else-self-eq0 w ↦
          let some : 0 < c.args.self.now.rest = omega (arith, w.if-self-eq0.false) in
          rw (w.self-is, w.number-is) (passed set.words _ _ (c.args.self.now.in_hand some) some (omega arith) _ (c.args.self.now.based some))
    ] in
    let within = next_within set.words _ _ after.next in
    (refl, (omega (arith, within, set.whole), after.next, refl))

pub returns-clause-goes : goal.returns-clause-goes
returns-clause-goes g c =
    let set = c.args.self.now.set.now in
    let after : Passed set.words c.args.self.now.from c.if-self-eq0.number c.if-self-eq0.self.1.1.1.0 c.if-self-eq0.self.1.1.1.1.0 =
    elim c.if-self-eq0.branch [
      | then-self-eq0+in_ok-number w ↦ rw (w.self-is, w.number-is) (passed_over set.words _ _ w.in_ok-number.ensures.1 (omega arith))
      | else-self-eq0 w ↦
          let some : 0 < c.args.self.now.rest = omega (arith, w.if-self-eq0.false) in
          rw (w.self-is, w.number-is) (passed set.words _ _ (c.args.self.now.in_hand some) some (omega arith) _ (c.args.self.now.based some))
    ] in
    let within = next_within set.words _ _ after.next in
    let from = after.next.from in
    let room = set.whole in
    search rules
