-- Laws of what sheets are made of.
use Rattle.std.specs.Prelude.{◌≡◌, ℕ, ◌+◌, ◌*◌, ◌<◌, ◌≤◌, List, [], ◌∷◌, ◌++◌, length, Some, None, Err, Decides, slice_index}
use Rattle.std.specs.List.{ContainsAt as Has}
use Rattle.sheets.specs.declared.fault.Refused.{Refused}
use Rattle.sheets.specs.Verdicts.{Verdict, fine, up_to}
use Rattle.sheets.specs.Fields.{be16, be32, be64, two, four, eight, twos}
use Rattle.sheets.specs.Lists.{entries, numbers_at, among, Rising, Ascending}
use Rattle.sheets.specs.Numbers.{Picked, Ascends, has_number}
use Rattle.sheets.specs.Writing.{written}

-- the bytes of a number say it, and bytes are those of the number that they say
pub record FieldLaws : Type 0 where
  pub two_says : (n : ℕ) (rest : List ℕ) → be16 (two n ++ rest) 0 ≡ n
  pub four_says : (n : ℕ) (rest : List ℕ) → be32 (four n ++ rest) 0 ≡ n
  pub two_said : (x y : ℕ) → x < 256 → y < 256 → two (be16 (x ∷ y ∷ []) 0) ≡ x ∷ y ∷ []
  pub four_said : (a b c d : ℕ) → a < 256 → b < 256 → c < 256 → d < 256 → four (be32 (a ∷ b ∷ c ∷ d ∷ []) 0) ≡ a ∷ b ∷ c ∷ d ∷ []
  pub eight_says : (n : ℕ) (rest : List ℕ) → be64 (eight n ++ rest) 0 ≡ n
  pub eight_said : (a b c d e f g h : ℕ) → a < 256 → b < 256 → c < 256 → d < 256 → e < 256 → f < 256 → g < 256 → h < 256
      → eight (be64 (a ∷ b ∷ c ∷ d ∷ e ∷ f ∷ g ∷ h ∷ []) 0) ≡ a ∷ b ∷ c ∷ d ∷ e ∷ f ∷ g ∷ h ∷ []

-- parts in turn are fine where each is; else the first that is not gives its refusal
pub record FirstStands : Type 0 where
  pub each : (v : ℕ → Verdict) (n : ℕ) → ((i : ℕ) → i < n → v i ≡ fine) → up_to v n ≡ fine
  pub first : (v : ℕ → Verdict) (n i : ℕ) (r : Refused) → i < n → ((j : ℕ) → j < i → v j ≡ fine) → v i ≡ Err r → up_to v n ≡ Err r

-- a list that passes ascends below its bound, and one that does passes; a number is among its entries exactly where the list has it;
-- the numbers of a list, taken where they lie, are those of its entries, ascend exactly where these rise, and have a number exactly where it is among these
pub record ListLaws : Type 0 where
  pub ascends : (xs : List ℕ) (bound at n : ℕ) → entries xs bound at n ≡ fine → Ascending bound (numbers_at xs at n)
  pub rises : (xs : List ℕ) (bound at n : ℕ) → entries xs bound at n ≡ fine → Rising xs at n
  pub passes : (bound : ℕ) (ps : List ℕ) → Ascending bound ps → entries (twos ps) bound 0 (length ps) ≡ fine
  pub has : (xs : List ℕ) (at n p : ℕ) → Decides (among xs at n p) (Has (numbers_at xs at n) p)
  pub picked : (xs : List ℕ) (at n j : ℕ) → j < n → Picked (numbers_at xs at n) j (Some (be16 xs (at + 2 * j)))
  pub none_past : (xs : List ℕ) (at n j : ℕ) → n ≤ j → Picked (numbers_at xs at n) j None
  pub rising_ascends : (xs : List ℕ) (at n : ℕ) → Rising xs at n → Ascends (numbers_at xs at n)
  pub ascending_rises : (xs : List ℕ) (at n : ℕ) → Ascends (numbers_at xs at n) → Rising xs at n
  pub same : (xs : List ℕ) (at n p : ℕ) → among xs at n p ≡ has_number (numbers_at xs at n) p

-- bytes written stand where they are written, every other byte stays, and the buffer is as long as before
pub record WriteLaws : Type 0 where
  pub here : (xs : List ℕ) (at : ℕ) (ys : List ℕ) (i : ℕ) → at ≤ length xs → i < length ys → slice_index (written xs at ys) (at + i) ≡ slice_index ys i
  pub before : (xs : List ℕ) (at : ℕ) (ys : List ℕ) (i : ℕ) → at ≤ length xs → i < at → slice_index (written xs at ys) i ≡ slice_index xs i
  pub behind : (xs : List ℕ) (at : ℕ) (ys : List ℕ) (i : ℕ) → at ≤ length xs → at + length ys ≤ i → slice_index (written xs at ys) i ≡ slice_index xs i
  pub long : (xs : List ℕ) (at : ℕ) (ys : List ℕ) → at + length ys ≤ length xs → length (written xs at ys) ≡ length xs
