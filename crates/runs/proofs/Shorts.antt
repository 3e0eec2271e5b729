-- A buffer that is too short, where a card can be drawn up.
use Rattle.std.proofs.Common.{◌≡◌, ℕ, ◌<◌, List, [], ◌∷◌, ◌++◌, length, Ok, Err, refl, inl, inr, arith}
use Rattle.std.specs.List.{AllByRecursion}
use Rattle.sheets.specs.declared.writing.TooShort.{TooShort}
use Rattle.books.specs.Book.{Model, Lawful}
use Rattle.books.specs.Listed.{listed}
use Rattle.plans.specs.Plans.{Authorized}
use Rattle.plans.proofs.Recasting.{all_authorized}
use Rattle.plans.proofs.Stratifying.{stratifying}
use Rattle.task_sheets.specs.Content.{Task, encode}
use Rattle.cards.specs.Cards.{size_of}
use Rattle.cards.specs.Drawing.{DrawAnswered}
use Rattle.cards.specs.declared.card.Card.{Card}
use Rattle.recasts.specs.Recasts.{RecastOf, CardOf, RecastWritten}
use Rattle.runs.specs.Rooms.{Lent, FirstShort, Enough}
use Rattle.runs.specs.Whole.{by_places, Short}
use Rattle.runs.specs.declared.lengths.Lengths.{Lengths}

-- the first short buffer stays the first where others follow
first_more : (xs ys : List Lent) (n : ℕ) → FirstShort xs n → FirstShort (xs ++ ys) n
first_more [] ys n w = absurd w
first_more (x ∷ xs) ys n (inl w) = inl w
first_more (x ∷ xs) ys n (inr w) = inr (w.0, first_more xs ys n w.1)

-- and one behind buffers that are long enough is the first
pub first_behind : (xs ys : List Lent) (n : ℕ) → Enough xs → FirstShort ys n → FirstShort (xs ++ ys) n
first_behind [] ys n e w = w
first_behind (x ∷ xs) ys n e w = inr (e.0, first_behind xs ys n e.1 w)

-- an accepted task has a recast
some_recast : (m : Model) → Lawful m → (t : Task) → AllByRecursion (Authorized m) t.levels → (t' : Task) × RecastOf m t t'
some_recast m law t a =
    let w = (stratifying m law t.levels).0 a in
    (record { facts = t.facts; steps = t.steps; start = t.start; goal = t.goal; levels = w.0 }, record { facts = refl; steps = refl; start = refl; goal = refl; strata = w.1 })

abbrev last_room : Lengths → Task → List Lent
last_room n t' = record { needed = length (encode t'); had = n.sheet } ∷ []

pub short_early : (m : Model) → Lawful m → (span : ℕ) (t : Task) (c₀ : Card) (n : Lengths) (needed : ℕ) (c : Card)
    → DrawAnswered m span t c₀ (Ok c) → FirstShort (by_places n (size_of c)) needed → Short m span t c₀ n needed
short_early m law span t c₀ n needed c d w =
    let r = some_recast m law t (all_authorized m (listed t.start) t.levels d.1.accepted.1.recognized) in
    record { card = c; drawn = d; task = r.0; recast = r.1; first = first_more (by_places n (size_of c)) (last_room n r.0) needed w }

-- the recast of a task whose card is drawn up is too long for its buffer, the last that is looked at
pub short_sheet : (m : Model) (span : ℕ) (t : Task) (c₀ : Card) (n : Lengths) (c : Card) (before : List ℕ) (e : TooShort) (after : List ℕ)
    → DrawAnswered m span t c₀ (Ok c) → Enough (by_places n (size_of c)) → n.sheet ≡ length before → RecastWritten m t before (Err e) after → Short m span t c₀ n e.needed
short_sheet m span t c₀ n c before e after d enough is w =
    let less : n.sheet < length (encode w.task) = omega (arith, is, w.written.0, w.written.1) in
    let short : FirstShort (last_room n w.task) e.needed = inl (less, w.written.0) in
    record { card = c; drawn = d; task = w.task; recast = w.recast; first = first_behind (by_places n (size_of c)) (last_room n w.task) e.needed enough short }

-- a card that is drawn up has the places of the task's plan
pub drawn_card : (m : Model) (span : ℕ) (t : Task) (c₀ c : Card) → DrawAnswered m span t c₀ (Ok c) → CardOf m t c
drawn_card m span t c₀ c d = record { arranged = d.1.places; exact = d.1.exact }
