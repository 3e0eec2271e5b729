-- A plan has one arrangement.
use Rattle.std.proofs.Common.{◌≡◌, ℕ, ◌-◌, ◌<◌, get_or, sym, arith}
use Rattle.std.proofs.lemmas.Bool.Decides.{same_from_decides}
use Rattle.books.specs.Book.{Model}
use Rattle.plans.specs.Laws.{Alike}
use Rattle.plans.specs.Places.{Places, Precedes}
use Rattle.plans.proofs.Arranging.{likeness}
use Rattle.checks.specs.Tables.{blank, places_in}
use Rattle.checks.specs.Arrangements.{OneArrangement}
use Rattle.checks.proofs.Levels.{same_place}

same_number : (a b : ℕ) → 0 < a → 0 < b → b - 1 ≡ a - 1 → b ≡ a
same_number a b l k e = omega arith

-- precedence is of steps and levels alone
module _ (m : Model) (o o' : Places) (like : Alike o o') (u v : ℕ) (l : u < o.size) (k : v < o.size) where
  precedes_on : Precedes m o u v → Precedes m o' u v
  precedes_on p = rw (like.step u l, like.step v k, like.level u l, like.level v k) p

  precedes_back : Precedes m o' u v → Precedes m o u v
  precedes_back p = rw (sym (like.step u l), sym (like.step v k), sym (like.level u l), sym (like.level v k)) p

pub one_arrangement : OneArrangement
one_arrangement m t a b x y =
    let o = places_in a.count a.places in
    let o' = places_in b.count b.places in
    let like = likeness m t.levels o o' x.arranged y.arranged in
    record {
      count = like.size;
      places = λ u l. same_place (get_or b.places u blank) (get_or a.places u blank) (like.step u l)
          (same_number _ _ (x.numbered u l) (y.numbered u (omega (arith, like.size))) (like.level u l));
      before = λ u v l k.
          let h = x.exact u v l k in
          let f = y.exact u v (omega (arith, like.size)) (omega (arith, like.size)) in
          same_from_decides _ _ (λ e. precedes_back m o o' like u v l k (f.0 e), λ p. f.1 (precedes_on m o o' like u v l k p)) h;
    }
