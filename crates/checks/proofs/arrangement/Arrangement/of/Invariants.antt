use Rattle.std.proofs.Common.{◌≡◌, ℕ, ◌<◌, ◌≤◌, false, length, get_or, take, Decides}
use Rattle.books.specs.Book.{Model}
use Rattle.plans.specs.Places.{Precedes, InOrder}
use Rattle.checks.specs.Drafts.{Filled, placed, places_of}
use Rattle.checks.specs.Rows.{marked}
use Rattle.checks.specs.Tables.{blank}
use Rattle.checks.proofs.arrangement.Arrangement.of.Given as goal

abbrev pub invariant-loop-v : goal.invariant-loop-v
invariant-loop-v l = record {
  tabled : length l.before ≡ 256;
  sized : length l.places ≡ 256;
  clear : (u v : ℕ) → l.v ≤ v → marked l.before u v ≡ false;
  low : (u v : ℕ) → v ≤ u → marked l.before u v ≡ false;
  exact : (m : Model) → Filled m l.draft → InOrder m (places_of l.draft) → (u v : ℕ) → u < v → v < l.v
      → Decides (marked l.before u v) (Precedes m (places_of l.draft) u v);
  copied : (u : ℕ) → get_or l.places u blank ≡ get_or (take l.v (placed l.draft)) u blank;
}
