-- The first of some words.
use Rattle.std.proofs.Common.{◌≡◌, ℕ, ◌-◌, ◌<◌, false, List, [], ◌∷◌, map, length, get_or, take, drop, is_some, Some, None, Option, String, refl, arith, take_all, Bor}
use Rattle.std.specs.declared.alloc.Global.{Global}
use Rattle.commands.specs.Words.{FirstOf}

pub none_mapped : {S B : Type 0} (f : S → B) (ws : List S) → length ws < 1 → map f ws ≡ []
none_mapped f [] h = refl
none_mapped f (w ∷ ws) h = absurd (omega arith)

pub first_mapped : {S B : Type 0} (f : S → B) (ws : List S) (x : S) (y : B) → 0 < length ws → x ≡ get_or ws 0 x → y ≡ f x → map f ws ≡ y ∷ map f (take (length ws - 1) (drop 1 ws))
first_mapped f [] x y h e v = absurd (omega arith)
first_mapped f (w ∷ ws) x y h e v =
    rw (take_all (length (w ∷ ws) - 1) ws (omega arith), v, e)

-- there is none where none is found
pub none_first : (ws : List (List ℕ)) (r : Option (Bor (List ℕ) × Bor (List (String Global)))) → FirstOf ws r → is_some r ≡ false → ws ≡ []
none_first ws None h e = h
none_first ws (Some p) h e = let z : ◌≡◌ {A = ℕ} 0 1 = cc in absurd (omega arith)
