-- The book of a rack: loggers, the shelf, and the baths that loggers are put in.
use Rattle.std.specs.Prelude.{◌≡◌, ℕ, ◌+◌, ◌-◌, ◌*◌, ◌/◌, ◌%◌, ◌<◌, Bool, true, false, cond, ◌&&◌, List, [], ◌∷◌, Some, None, Option, nat_le, nat_lt}
use Rattle.racks.specs.declared.rack_names.RackFact.{RackFact}
use Rattle.racks.specs.declared.rack_names.RackFact.TheVariants.{InBath, OnShelf, Settled, ReadIn}
use Rattle.racks.specs.declared.rack_names.RackStep.{RackStep}
use Rattle.racks.specs.declared.rack_names.RackStep.TheVariants.{Put, TakeOut, Read, Settle}
use Rattle.books.specs.Book.{Facts, Model}
use Rattle.books.specs.Listed.{listed}

-- there is a rack of R loggers and B baths
abbrev pub is_a_rack : ℕ → ℕ → Bool
is_a_rack R B = nat_le 1 R && (nat_le 1 B && nat_le (R * B) 128)

-- what a step needs
abbrev pub needs_of : RackStep → List RackFact
needs_of (Put l b) = OnShelf l ∷ []
needs_of (TakeOut l b) = InBath l b ∷ []
needs_of (Read l b) = InBath l b ∷ Settled b ∷ []
needs_of (Settle b) = []

-- what a step adds
abbrev pub adds_of : RackStep → List RackFact
adds_of (Put l b) = InBath l b ∷ []
adds_of (TakeOut l b) = OnShelf l ∷ []
adds_of (Read l b) = ReadIn l b ∷ []
adds_of (Settle b) = Settled b ∷ []

-- what a step deletes
abbrev pub deletes_of : RackStep → List RackFact
deletes_of (Put l b) = OnShelf l ∷ Settled b ∷ []
deletes_of (TakeOut l b) = InBath l b ∷ []
deletes_of (Read l b) = []
deletes_of (Settle b) = []

-- how many seconds a step takes
abbrev pub seconds_of : RackStep → ℕ
seconds_of (Put l b) = 60
seconds_of (TakeOut l b) = 60
seconds_of (Read l b) = 60
seconds_of (Settle b) = 1800

-- no seconds where there is no step
abbrev pub time_of : Option RackStep → ℕ
time_of None = 0
time_of (Some s) = seconds_of s

-- a rack of R loggers and B baths
module _ (R B : ℕ) where
  -- whether the logger and the bath are on the rack
  abbrev pub pair_on : ℕ → ℕ → Bool
  pair_on l b = nat_lt l R && nat_lt b B

  abbrev pub fact_on : RackFact → Bool
  fact_on (InBath l b) = pair_on l b
  fact_on (OnShelf l) = nat_lt l R
  fact_on (Settled b) = nat_lt b B
  fact_on (ReadIn l b) = pair_on l b

  abbrev pub step_on : RackStep → Bool
  step_on (Put l b) = pair_on l b
  step_on (TakeOut l b) = pair_on l b
  step_on (Read l b) = pair_on l b
  step_on (Settle b) = nat_lt b B

  -- the number of a fact
  abbrev pub rack_fact_number : RackFact → ℕ
  rack_fact_number (InBath l b) = l * B + b
  rack_fact_number (OnShelf l) = R * B + l
  rack_fact_number (Settled b) = R * B + R + b
  rack_fact_number (ReadIn l b) = R * B + R + B + (l * B + b)

  -- the number of a step
  abbrev pub rack_step_number : RackStep → ℕ
  rack_step_number (Put l b) = l * B + b
  rack_step_number (TakeOut l b) = R * B + (l * B + b)
  rack_step_number (Read l b) = 2 * (R * B) + (l * B + b)
  rack_step_number (Settle b) = 3 * (R * B) + b

  -- how many facts and steps there are
  abbrev pub count_of_facts : ℕ
  count_of_facts = 2 * (R * B) + R + B

  abbrev pub count_of_steps : ℕ
  count_of_steps = 3 * (R * B) + B

  -- the pair of logger c / B and bath c % B, which is pair c
  abbrev pub pair_of : {X : Type 0} → (ℕ → ℕ → X) → ℕ → Option X
  pair_of named c = Some (named (c / B) (c % B))

  -- the fact with number p, none past the facts
  unfoldable pub fact_at : ℕ → Option RackFact
  fact_at p =
      cond (nat_lt p (R * B)) (pair_of InBath p)
      (cond (nat_lt p (R * B + R)) (Some (OnShelf (p - R * B)))
      (cond (nat_lt p (R * B + R + B)) (Some (Settled (p - (R * B + R))))
      (cond (nat_lt p count_of_facts) (pair_of ReadIn (p - (R * B + R + B))) None)))

  -- the step with number a, none past the steps
  unfoldable pub step_at : ℕ → Option RackStep
  step_at a =
      cond (nat_lt a (R * B)) (pair_of Put a)
      (cond (nat_lt a (2 * (R * B))) (pair_of TakeOut (a - R * B))
      (cond (nat_lt a (3 * (R * B))) (pair_of Read (a - 2 * (R * B)))
      (cond (nat_lt a count_of_steps) (Some (Settle (a - 3 * (R * B)))) None)))

  -- the numbers of facts
  abbrev pub numbers : List RackFact → List ℕ
  numbers [] = []
  numbers (f ∷ fs) = rack_fact_number f ∷ numbers fs

  -- the numbers of the facts that a step has by `of`, none where there is no step
  abbrev pub set_of_step : (RackStep → List RackFact) → Option RackStep → Facts
  set_of_step of None p = false
  set_of_step of (Some s) p = listed (numbers (of s)) p

  abbrev pub rack_model : Model
  rack_model = record {
    facts = count_of_facts;
    steps = count_of_steps;
    needs = λ a. set_of_step needs_of (step_at a);
    adds = λ a. set_of_step adds_of (step_at a);
    deletes = λ a. set_of_step deletes_of (step_at a);
    seconds = λ a. time_of (step_at a);
  }

-- the sets and the time of step a of a book, by the numbers of the facts
pub record StepIs (m : Model) (a : ℕ) (needed added deleted : List ℕ) (time : ℕ) : Type 0 where
  pub in_range : a < m.steps
  pub needs : (p : ℕ) → m.needs a p ≡ listed needed p
  pub adds : (p : ℕ) → m.adds a p ≡ listed added p
  pub deletes : (p : ℕ) → m.deletes a p ≡ listed deleted p
  pub seconds : m.seconds a ≡ time

-- a is the number of step s, which is on the rack, and s the step with number a; its sets and its time are those of s
pub record StepNumbered (R B : ℕ) (s : RackStep) (a : ℕ) : Type 0 where
  pub on : step_on R B s ≡ true
  pub number : a ≡ rack_step_number R B s
  pub back : step_at R B a ≡ Some s
  pub is : StepIs (rack_model R B) a (numbers R B (needs_of s)) (numbers R B (adds_of s)) (numbers R B (deletes_of s)) (seconds_of s)

-- p is the number of fact f, which is on the rack, and f the fact with number p
pub record FactNumbered (R B : ℕ) (f : RackFact) (p : ℕ) : Type 0 where
  pub on : fact_on R B f ≡ true
  pub in_range : p < count_of_facts R B
  pub number : p ≡ rack_fact_number R B f
  pub back : fact_at R B p ≡ Some f

-- every step of a rack: its number, then what it needs, what it adds, what it deletes, and its seconds
pub record RackRules (R B : ℕ) : Type 0 where
  pub put : (l b : ℕ) → l < R → b < B → StepIs (rack_model R B) (l * B + b)
      ((R * B + l) ∷ [])
      ((l * B + b) ∷ [])
      ((R * B + l) ∷ (R * B + R + b) ∷ [])
      60
  pub take_out : (l b : ℕ) → l < R → b < B → StepIs (rack_model R B) (R * B + (l * B + b))
      ((l * B + b) ∷ [])
      ((R * B + l) ∷ [])
      ((l * B + b) ∷ [])
      60
  pub read : (l b : ℕ) → l < R → b < B → StepIs (rack_model R B) (2 * (R * B) + (l * B + b))
      ((l * B + b) ∷ (R * B + R + b) ∷ [])
      ((R * B + R + B + (l * B + b)) ∷ [])
      []
      60
  pub settle : (b : ℕ) → b < B → StepIs (rack_model R B) (3 * (R * B) + b)
      []
      ((R * B + R + b) ∷ [])
      []
      1800
