-- The requests of a script, three bytes each.
use Rattle.std.proofs.Common.{◌≡◌, ℕ, zero, suc, ◌+◌, ◌*◌, ◌<◌, List, get_or, take, drop, drop-drop, refl, ap, ◌∙◌, arith}
use Rattle.std.specs.Simd.{first_chunks}
use Rattle.std.proofs.lemmas.List.{get_or-take, get_or-drop}
use Rattle.bench.specs.Running.{request_in}

-- the chunk with number i begins at 3 * i
pub chunk_at : (k : ℕ) (xs : List ℕ) (i : ℕ) (d : List ℕ) → i < k → get_or (first_chunks 3 k xs) i d ≡ take 3 (drop (3 * i) xs)
chunk_at zero xs i d h = absurd (omega arith)
chunk_at (suc k) xs zero d h = refl
chunk_at (suc k) xs (suc i) d h =
    let e : 3 + 3 * i ≡ 3 * suc i = omega arith in
    chunk_at k (drop 3 xs) i d (omega arith) ∙ ap (λ l. take 3 l) (drop-drop (3 * i) 3 xs ∙ ap (λ n. drop n xs) e)

byte_at : (xs : List ℕ) (n i : ℕ) → i < 3 → get_or (take 3 (drop n xs)) i 0 ≡ get_or xs (n + i) 0
byte_at xs n i h = get_or-take 3 (drop n xs) i 0 h ∙ get_or-drop n xs i 0

pub request_at : (xs : List ℕ) (n : ℕ) → request_in (take 3 (drop n xs)) 0 ≡ request_in xs n
request_at xs n =
    let e : n + 0 ≡ n = omega arith in
    let f : n + 2 ≡ n + 1 + 1 = omega arith in
    let a = byte_at xs n 0 (omega arith) ∙ ap (λ m. get_or xs m 0) e in
    let b = byte_at xs n 1 (omega arith) in
    let d = byte_at xs n 2 (omega arith) ∙ ap (λ m. get_or xs m 0) f in
    rw (a, b, d) refl
