-- The decimal digits of a number say it.
use Rattle.std.proofs.Common.{◌≡◌, ℕ, ◌+◌, ◌/◌, ◌%◌, ◌^◌, ◌<◌, ◌≤◌, [], ◌∷◌, length, get_or, decimal, sym, ap, ◌∙◌, ⊎_elim, arith, length-append, rules}
use Rattle.std.proofs.lemmas.Str.Parse.{IsNumeralModel, numerals_by_weight}
use Rattle.std.proofs.lemmas.Fmt.{digits_decimal, digits_value-decimal, decimal_nonempty, decimal_digit, decimal_step, first_decimal, decimal-digits_value}
use Rattle.std.proofs.lemmas.Bool.{cases_lt}
use Rattle.decimals.specs.Numbers.{Digits, weighed, Decimal}

own : IsNumeralModel Digits weighed
own = numerals_by_weight Digits (search rules) weighed (search rules)

lean : (n : ℕ) → n < 2 ^ 64 → get_or (decimal n) 0 0 ≡ 48 → length (decimal n) ≡ 1
lean n h e =
    ⊎_elim
    (λ lt. ap length (decimal_digit n (omega arith)))
    (λ ge. absurd (let f = first_decimal n (omega arith) h in omega arith))
    (cases_lt n 1)

pub decimal_says : (n : ℕ) → n < 2 ^ 64 → Decimal n
decimal_says n h =
    record {
      says = record { some = decimal_nonempty n h; digits = digits_decimal own n h; weighs = digits_value-decimal own n h; lean = lean n h };
      only = λ ds s. sym (decimal-digits_value own ds s.digits s.some s.lean (let e = s.weighs in omega arith)) ∙ ap decimal s.weighs;
    }

-- a number of ten or more has one digit more than its tenth
pub length_step : (n : ℕ) → 10 ≤ n → n < 2 ^ 64 → length (decimal n) ≡ length (decimal (n / 10)) + 1
length_step n ten h = ap length (decimal_step n ten h) ∙ length-append (decimal (n / 10)) ((48 + n % 10) ∷ [])
