use Rattle.std.proofs.Common.{ap, sym, ◌+◌, ◌∙◌, arith}
use Rattle.books.proofs.Members.{length_members, count_up}
use Rattle.book_writer.proofs.Parts.{fact_counts, fact_passed}
use Rattle.book_writer.proofs.writer.count_facts.Goals as goal
use Rattle.book_writer.proofs.writer.count_facts.Goals.{then-is_in, else-is_in}

pub overflow_add-n : goal.overflow_add-n
overflow_add-n g c =
    let set = c.requires.few.0 in
    let e = c.requires.few.1 c.loop-p.p c.is_in.result (omega arith) c.is_in.ensures in
    let n = c.loop-p.invariant set c.requires.few.1 in
    omega (
      arith,
      n,
      c.requires.few.2,
      fact_counts set c.loop-p.p (sym e ∙ c.if-is_in.true),
      length_members set (c.loop-p.p + 1),
      length_members set c.args.facts,
      count_up set (c.loop-p.p + 1) c.args.facts (omega arith),
    )

pub loop-p-preserved : goal.loop-p-preserved
loop-p-preserved g c set tells =
    let e = tells c.loop-p.p c.is_in.result (omega arith) c.is_in.ensures in
    let n = c.loop-p.invariant set tells in
    elim c.if-is_in.branch [
      | then-is_in w ↦ w.n-is ∙ ap (λ n. n + 1) n ∙ sym (fact_counts set c.loop-p.p (sym e ∙ w.if-is_in.true))
      | else-is_in w ↦ w.n-is ∙ n ∙ sym (fact_passed set c.loop-p.p (sym e ∙ w.if-is_in.false))
    ]
