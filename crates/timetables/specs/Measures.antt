-- The step count and the seconds: what each measure means.
use Rattle.std.specs.Prelude.{ℕ, ◌+◌, ◌-◌, ◌^◌, min, nat_le}
use Rattle.timetables.specs.Scale.{Scale}
use Rattle.timetables.specs.declared.count.Count.{Count}

-- counts whose sum stops at the top
abbrev pub count_scale : (top : ℕ) → Scale (Count top)
count_scale top = record {
  zero = record { count = 0 };
  within = λ x y. nat_le x.count y.count;
  plus = λ x weight. record { count = min (x.count + weight.count) top };
}

-- numbers of steps: a sum stops at 65,535
abbrev pub StepCount : Type 0
StepCount = Count (2 ^ 16 - 1)

abbrev pub step_scale : Scale StepCount
step_scale = count_scale (2 ^ 16 - 1)

-- numbers of seconds: a sum stops at 2^32 - 1
abbrev pub Seconds : Type 0
Seconds = Count (2 ^ 32 - 1)

abbrev pub second_scale : Scale Seconds
second_scale = count_scale (2 ^ 32 - 1)
