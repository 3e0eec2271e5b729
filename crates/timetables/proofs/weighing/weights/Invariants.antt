use Rattle.std.proofs.Common.{◌≡◌, ℕ, ◌<◌, ◌≤◌, length, get_or}
use Rattle.checks.specs.Tables.{blank}
use Rattle.timetables.specs.Measures.{second_scale}
use Rattle.timetables.specs.Timetable.{by_place}
use Rattle.timetables.proofs.weighing.weights.Given as goal

abbrev pub invariant-loop-v : goal.invariant-loop-v
invariant-loop-v g l = record {
  sized : length l.weights ≡ 256;
  weighed : (u : ℕ) → u < l.v → u < l.plan.count → (by_place second_scale l.weights u).count ≡ (g.B.Book.model l.book).seconds (get_or l.plan.places u blank).step;
  rest : (u : ℕ) → u < l.v → l.plan.count ≤ u → (by_place second_scale l.weights u).count ≡ 0;
}
