-- The theorems about plans, of every lawful book.
use Rattle.std.specs.Prelude.{◌≡◌, ℕ, ◌<◌, Bool, true, false, ◌||◌, ◌↔◌, List, [], ◌++◌, length, take, ◌==◌, ◌≢◌, slice_index_or}
use Rattle.std.specs.List.{AllZip, ContainsAt as Has, flat_map, AllByRecursion}
use Rattle.std.specs.List.Sorted.{IsPermutation}
use Rattle.books.specs.Book.{Model, Lawful, Facts, after}
use Rattle.plans.specs.Steps.{Authorizes, Disturb, Met}
use Rattle.plans.specs.Plans.{Distinct, InTurn, AuthorizedOrder, Authorized, Passes, Recognized, singly, finally}
use Rattle.plans.specs.Order.{Before, Free, Picked, Cycle}
use Rattle.plans.specs.Places.{Places, Arranged, Precedes, InOrder, Closed, Ready, left, under, all, Lays}

-- LEVELS

-- a level of distinct steps is authorized exactly where precedence inside it has no cycle
abbrev pub Acyclicity : Type 0
Acyclicity = (m : Model) → Lawful m → (xs : List ℕ) → Distinct xs → Authorized m xs ↔ (Cycle m xs → ⊥)

-- a step authorizes every other step of a level exactly where none of them is before it
abbrev pub Freedom : Type 0
Freedom = (m : Model) → Lawful m → (xs : List ℕ) (a : ℕ) → Free m xs a ↔ ((b : ℕ) → Has xs b → Before m b a → ⊥)

-- a level is authorized exactly where it has a picked order
abbrev pub Reaching : Type 0
Reaching = (m : Model) → Lawful m → (xs : List ℕ) → Authorized m xs ↔ ((bs : List ℕ) × Picked m xs bs)

-- a level has no second picked order
abbrev pub Uniqueness : Type 0
Uniqueness = (m : Model) (xs bs cs : List ℕ) → Picked m xs bs → Picked m xs cs → bs ≡ cs

-- in the picked order every earlier step authorizes every later one
abbrev pub Turning : Type 0
Turning = (m : Model) (xs bs : List ℕ) → Picked m xs bs → InTurn m bs

-- of the steps of an authorized level that wait, one authorizes every other
abbrev pub Picking : Type 0
Picking =
    (m : Model) (xs : List ℕ) → Authorized m xs → (waits : ℕ → Bool) (a : ℕ) → Has xs a → waits a ≡ true
    → (b : ℕ) × Has xs b × (waits b ≡ true) × ((c : ℕ) → Has xs c → waits c ≡ true → (b ≢ c) → Authorizes m b c)

-- where steps are left and none of them authorizes every other one left, the level is not authorized, whatever was taken before
abbrev pub Refusing : Type 0
Refusing =
    (m : Model) (xs taken rest : List ℕ) → IsPermutation xs (taken ++ rest) → (a : ℕ) → Has rest a
    → ((b : ℕ) → Has rest b → Free m rest b → ⊥) → Authorized m xs → ⊥

-- a plan is recognized exactly where each level passes from the facts that those before it leave
abbrev pub Recognition : Type 0
Recognition =
    (m : Model) (E : Facts) (plan : List (List ℕ))
    → Recognized m E plan ↔ ((i : ℕ) → i < length plan → Passes m (finally m E (take i plan)) (slice_index_or plan i []))

-- done singly, every authorized order of each level, one level after the other, leaves the plan's final facts
abbrev pub Singling : Type 0
Singling =
    (m : Model) (plan orders : List (List ℕ)) → AllZip (AuthorizedOrder m) plan orders → (E : Facts) (p : ℕ)
    → singly m E (flat_map (λ bs. bs) orders) p ≡ finally m E plan p

-- PLACES

-- in an arranged plan the levels rise with the places, and a place precedes only higher places
abbrev pub Ascent : Type 0
Ascent = (m : Model) (plan : List (List ℕ)) (o : Places) → Arranged m plan o → InOrder m o

-- in an arranged plan the levels are the places by level
abbrev pub Laying : Type 0
Laying = (m : Model) (plan : List (List ℕ)) (o : Places) → Arranged m plan o → Lays o o.level plan

-- a plan of authorized levels can be arranged
abbrev pub Arranging : Type 0
Arranging = (m : Model) → Lawful m → (plan : List (List ℕ)) → AllByRecursion (Authorized m) plan → (o : Places) × Arranged m plan o

-- a plan can be arranged exactly where its levels are authorized
abbrev pub Arrangeable : Type 0
Arrangeable = (m : Model) → Lawful m → (plan : List (List ℕ)) → AllByRecursion (Authorized m) plan ↔ ((o : Places) × Arranged m plan o)

-- as many places, with the same steps and levels
pub record Alike (o o' : Places) : Type 0 where
  pub size : o'.size ≡ o.size
  pub step : (u : ℕ) → u < o.size → o'.step u ≡ o.step u
  pub level : (u : ℕ) → u < o.size → o'.level u ≡ o.level u

-- a plan is arranged in one way only
abbrev pub Likeness : Type 0
Likeness = (m : Model) (plan : List (List ℕ)) (o o' : Places) → Arranged m plan o → Arranged m plan o' → Alike o o'

-- RUNS: some places are done, the others not

-- two different places of which neither precedes the other do not disturb each other
abbrev pub Independence : Type 0
Independence =
    (m : Model) (o : Places) (h k : ℕ) → (h ≢ k) → (Precedes m o h k → ⊥) → (Precedes m o k h → ⊥)
    → Disturb m (o.step h) (o.step k) → ⊥

-- h beside those that are done
abbrev pub with : (ℕ → Bool) → ℕ → ℕ → Bool
with done h u = u == h || done u

-- a place that is not done comes last, whatever its number
abbrev pub Commutation : Type 0
Commutation =
    (m : Model) (o : Places) → InOrder m o → (E : Facts) (done : ℕ → Bool) → Closed m o done
    → (h : ℕ) → h < o.size → done h ≡ false → (p : ℕ) → left m o E (with done h) p ≡ after m (left m o E done) (o.step h) p

-- each step's needs are met where its level starts
abbrev pub Fed : Model → Places → Facts → Type 0
Fed m o E = (h : ℕ) → h < o.size → Met m (left m o E (under o.level (o.level h))) (o.step h)

-- a place all of whose predecessors are done finds what it needs
abbrev pub Needs : Type 0
Needs =
    (m : Model) (o : Places) (E : Facts) → Fed m o E → (done : ℕ → Bool) → Closed m o done
    → (h : ℕ) → h < o.size → done h ≡ false → Ready m o done h → Met m (left m o E done) (o.step h)

-- two places that can be in hand at once do not disturb each other
abbrev pub Apart : Type 0
Apart =
    (m : Model) (o : Places) (done : ℕ → Bool) (h k : ℕ) → h < o.size → k < o.size → (h ≢ k)
    → done h ≡ false → done k ≡ false → Ready m o done h → Ready m o done k → Disturb m (o.step h) (o.step k) → ⊥

-- while a place is not done there is one that is not done and has all its predecessors done
abbrev pub Progress : Type 0
Progress =
    (m : Model) (o : Places) → InOrder m o → (done : ℕ → Bool) (u : ℕ) → u < o.size → done u ≡ false
    → (h : ℕ) × (h < o.size) × (done h ≡ false) × Ready m o done h

-- a recognized plan meets each step's needs where its level starts
abbrev pub Feeding : Type 0
Feeding =
    (m : Model) → Lawful m → (o : Places) → InOrder m o → (plan : List (List ℕ)) → Lays o o.level plan
    → (E : Facts) → Recognized m E plan → Fed m o E

-- all places, done singly in ascending order, leave what the plan's levels leave
abbrev pub Ending : Type 0
Ending =
    (m : Model) → Lawful m → (o : Places) → InOrder m o → (plan : List (List ℕ)) → Lays o o.level plan
    → (E : Facts) (p : ℕ) → left m o E all p ≡ finally m E plan p

-- STRATA

-- a stratum that is higher than those of all preceding places
abbrev pub Climbs : Model → Places → (ℕ → ℕ) → Type 0
Climbs m o stratum = (u v : ℕ) → u < o.size → v < o.size → Precedes m o u v → stratum u < stratum v

-- no two different steps of xs disturb each other
abbrev pub Calm : Model → List ℕ → Type 0
Calm m xs = (a b : ℕ) → Has xs a → Has xs b → (a ≢ b) → Disturb m a b → ⊥

-- the strata as levels are a recognized plan that leaves the same facts, and no two different steps of one disturb each other
pub record Restaged (m : Model) (E : Facts) (plan strata : List (List ℕ)) : Type 0 where
  pub recognized : Recognized m E strata
  pub same : (p : ℕ) → finally m E strata p ≡ finally m E plan p
  pub calm : AllByRecursion (Calm m) strata

abbrev pub Restaging : Type 0
Restaging =
    (m : Model) → Lawful m → (o : Places) → InOrder m o → (plan : List (List ℕ)) → Lays o o.level plan → (E : Facts) → Recognized m E plan
    → (stratum : ℕ → ℕ) → Climbs m o stratum → (strata : List (List ℕ)) → Lays o stratum strata → AllByRecursion Distinct strata
    → Restaged m E plan strata

-- two different places of one stratum do not disturb each other
abbrev pub Stillness : Type 0
Stillness =
    (m : Model) (o : Places) (stratum : ℕ → ℕ) → Climbs m o stratum → (h k : ℕ) → h < o.size → k < o.size → (h ≢ k)
    → stratum h ≡ stratum k → Disturb m (o.step h) (o.step k) → ⊥
