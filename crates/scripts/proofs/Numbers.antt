-- A number of digits alone, and one behind words.
use Rattle.std.proofs.Common.{◌≡◌, ℕ, ◌^◌, ◌<◌, List, ◌++◌, get_or, drop, Some, None, Ok, Err, Option, Result, sym, ap, ◌∙◌, subst}
use Rattle.std.specs.Str.Parse.{ParsesUnsigned, AllDigits, digits_value}
use Rattle.std.specs.Result.{result_ok}
use Rattle.std.proofs.lemmas.Str.Parse.{IsNumeralModel, numerals_by_value, tells_digits, parse_plain}
use Rattle.std.proofs.lemmas.List.Prefix.{front_rest}
use Rattle.scripts.specs.Lines.{Writes, Reads, NamesPlace}

own : IsNumeralModel (AllDigits 10) (digits_value 10)
own = numerals_by_value (AllDigits 10) tells_digits

-- without a plus in front, what `parse` reads is the number
pub reads_parsed : {E : Type 0} (bs : List ℕ) (p : Result ℕ E) → ParsesUnsigned 64 10 bs p → (get_or bs 0 0 ≡ 43 → ⊥) → Reads bs (result_ok p)
reads_parsed {E} bs (Ok x) h plain =
    let k = parse_plain own {E = E} 64 bs (Ok x) h plain in ((k.0.1, k.0.0), sym k.1, subst (λ (n : ℕ). n < 2 ^ 64) (sym k.1) k.0.2)
reads_parsed {E} bs (Err e) h plain =
    λ n w. parse_plain own {E = E} 64 bs (Err e) h plain (w.0.1, w.0.0, subst (λ (m : ℕ). m < 2 ^ 64) (sym w.1) w.2)

-- what stands behind the words is one text
same_rest : (words line xs ys : List ℕ) → line ≡ words ++ xs → line ≡ words ++ ys → xs ≡ ys
same_rest words line xs ys p q = sym (front_rest line words xs p) ∙ front_rest line words ys q

names_behind : (words line rest : List ℕ) (r : Option ℕ) → line ≡ words ++ rest → Reads rest r → NamesPlace words line r
names_behind words line rest None e h =
    λ n w. h n (subst (λ (ds : List ℕ). Writes ds n) (same_rest words line w.0 rest w.1 e) w.2)
names_behind words line rest (Some n) e h = (rest, e, h)

pub names_stripped : (words line rest : List ℕ) (k : ℕ) (r : Option ℕ) → line ≡ words ++ drop k line → rest ≡ drop k line → Reads rest r → NamesPlace words line r
names_stripped words line rest k r e f h = names_behind words line rest r (e ∙ ap (λ l. words ++ l) (sym f)) h
