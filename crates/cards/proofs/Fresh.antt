-- A card on which every place waits.
use Rattle.std.proofs.Common.{◌≡◌, ℕ, zero, suc, get_or, replicate, refl}
use Rattle.cards.specs.declared.state.State.TheVariants.{Waiting}

pub every_place_waits : (n u : ℕ) → get_or (replicate n Waiting) u Waiting ≡ Waiting
every_place_waits zero u = refl
every_place_waits (suc n) zero = refl
every_place_waits (suc n) (suc u) = every_place_waits n u
