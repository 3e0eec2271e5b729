-- The worked examples.
use Rattle.std.specs.Prelude.{◌≡◌, ℕ, ◌≤◌, List, [], ◌∷◌, Ok, Err}
use Rattle.std.specs.List.{AllByRecursion}
use Rattle.books.specs.Book.{Lawful}
use Rattle.plans.specs.Plans.{AuthorizedOrder, Authorized}
use Rattle.task_sheets.specs.Content.{Task, LawfulTask}
use Rattle.checks.specs.Checked.{Checked}
use Rattle.checks.specs.declared.arrangement.Place.{Place}
use Rattle.checks.specs.declared.fault.PlanFault.TheVariants.{NeedMissing, NoOrder, GoalMissing}
use Rattle.cards.specs.Moments.{Setting, Moment}
use Rattle.cards.specs.Answers.{Answered}
use Rattle.cards.specs.Runs.{Issued}
use Rattle.cards.specs.Drawing.{DrawnUp}
use Rattle.cards.specs.declared.state.State.TheVariants.{Waiting, InHand, Finished}
use Rattle.cards.specs.declared.state.Event.TheVariants.{Begin, Finish}
use Rattle.cards.specs.declared.fault.RunFault.TheVariants.{NoPlace, WrongState, Unfinished}
use Rattle.worked.specs.Books.{rack, one_order_book, ring}
use Rattle.worked.specs.Plans.{EndsWith, Leaves, RecastAs, on, Laid, Timed, card_of, moment}

-- a task for the rack
abbrev pub on_rack : List ℕ → List ℕ → List (List ℕ) → Task
on_rack start goal levels = record { facts = 7; steps = 7; start = start; goal = goal; levels = levels }

-- put logger 0 in and settle; then put logger 1 in and read logger 0
abbrev pub two_level_task : Task
two_level_task = on_rack (2 ∷ 3 ∷ []) (5 ∷ []) ((0 ∷ 6 ∷ []) ∷ (1 ∷ 4 ∷ []) ∷ [])

-- put logger 0 in; then put logger 1 in
abbrev pub side_by_side : Task
side_by_side = on_rack (2 ∷ 3 ∷ []) [] ((0 ∷ []) ∷ (1 ∷ []) ∷ [])

-- with logger 0 in the bath: read it and settle
abbrev pub read_unsettled : Task
read_unsettled = on_rack (0 ∷ []) [] ((4 ∷ 6 ∷ []) ∷ [])

-- with logger 0 on the shelf, no levels: it is to be there; it is to be in the bath
abbrev pub nothing_to_do : Task
nothing_to_do = on_rack (2 ∷ []) (2 ∷ []) []

abbrev pub nothing_done : Task
nothing_done = on_rack (2 ∷ []) (0 ∷ []) []

-- A and B; then C
abbrev pub one_order_task : Task
one_order_task = record { facts = 4; steps = 3; start = 0 ∷ []; goal = 3 ∷ []; levels = (0 ∷ 1 ∷ []) ∷ (2 ∷ []) ∷ [] }

-- X, Y and Z
abbrev pub ring_task : Task
ring_task = record { facts = 3; steps = 3; start = 0 ∷ 1 ∷ 2 ∷ []; goal = []; levels = (0 ∷ 1 ∷ 2 ∷ []) ∷ [] }

-- the places of two_level_task: put logger 0 in, settle, read logger 0, put logger 1 in; and the places that precede each
abbrev pub two_level_places : List Place
two_level_places = on 0 1 ∷ on 6 1 ∷ on 4 2 ∷ on 1 2 ∷ []

abbrev pub two_level_rows : List (List ℕ)
two_level_rows = [] ∷ (0 ∷ []) ∷ (0 ∷ 1 ∷ []) ∷ (1 ∷ 2 ∷ []) ∷ []

-- the places of side_by_side, of which none precedes another
abbrev pub side_places : List Place
side_places = on 0 1 ∷ on 1 2 ∷ []

abbrev pub side_rows : List (List ℕ)
side_rows = [] ∷ [] ∷ []

-- moments of two_level_task: every place waits; place 0 is in hand; place 0 is finished
abbrev pub all_waiting : Moment
all_waiting = moment (Waiting ∷ Waiting ∷ Waiting ∷ Waiting ∷ []) (2 ∷ 3 ∷ [])

abbrev pub first_in_hand : Moment
first_in_hand = moment (InHand ∷ Waiting ∷ Waiting ∷ Waiting ∷ []) (2 ∷ 3 ∷ [])

abbrev pub first_finished : Moment
first_finished = moment (Finished ∷ Waiting ∷ Waiting ∷ Waiting ∷ []) (0 ∷ 3 ∷ [])

-- moments of side_by_side: both places wait; place 0 is in hand; both are; place 1 is finished
abbrev pub both_waiting : Moment
both_waiting = moment (Waiting ∷ Waiting ∷ []) (2 ∷ 3 ∷ [])

abbrev pub one_in_hand : Moment
one_in_hand = moment (InHand ∷ Waiting ∷ []) (2 ∷ 3 ∷ [])

abbrev pub both_in_hand : Moment
both_in_hand = moment (InHand ∷ InHand ∷ []) (2 ∷ 3 ∷ [])

abbrev pub second_finished : Moment
second_finished = moment (InHand ∷ Finished ∷ []) (1 ∷ 2 ∷ [])

-- the cards of two_level_task and side_by_side beside a board of that span, from their issue on
module _ (span : ℕ) where
  abbrev pub two_level_card : Setting
  two_level_card = card_of rack two_level_places two_level_rows span

  abbrev pub side_card : Setting
  side_card = card_of rack side_places side_rows span

  pub record TwoLevelCalls : Type 0 where
    pub issued : Issued two_level_card two_level_task all_waiting
    pub drawn : DrawnUp two_level_card two_level_task all_waiting.state
    -- too soon, and no such place: 18 naming place 0, 18 naming place 1, 16; nothing changes
    pub begin_1 : Answered two_level_card all_waiting Begin 1 (Err (Unfinished 0)) all_waiting
    pub begin_3 : Answered two_level_card all_waiting Begin 3 (Err (Unfinished 1)) all_waiting
    pub begin_4 : Answered two_level_card all_waiting Begin 4 (Err NoPlace) all_waiting
    -- begun and finished, place 0 leaves 0 and 3 on the board; it is not begun again: 17
    pub begin_0 : Answered two_level_card all_waiting Begin 0 (Ok tt) first_in_hand
    pub finish_0 : Answered two_level_card first_in_hand Finish 0 (Ok tt) first_finished
    pub begin_0_again : Answered two_level_card first_finished Begin 0 (Err WrongState) first_finished

  -- both places are in hand together, and the second is finished first: 1 and 2 are left on the board
  pub record SideBySideCalls : Type 0 where
    pub issued : Issued side_card side_by_side both_waiting
    pub drawn : DrawnUp side_card side_by_side both_waiting.state
    pub begin_0 : Answered side_card both_waiting Begin 0 (Ok tt) one_in_hand
    pub begin_1 : Answered side_card one_in_hand Begin 1 (Ok tt) both_in_hand
    pub finish_1 : Answered side_card both_in_hand Finish 1 (Ok tt) second_finished

-- each example by its name
pub record WorkedExamples : Type 0 where
  -- the books are lawful, and so are the tasks
  pub rack_is_lawful : Lawful rack
  pub one_order_is_lawful : Lawful one_order_book
  pub ring_is_lawful : Lawful ring
  pub tasks_are_lawful : AllByRecursion LawfulTask (two_level_task ∷ side_by_side ∷ read_unsettled ∷ nothing_to_do ∷ nothing_done ∷ one_order_task ∷ ring_task ∷ [])
  -- one calibration by hand: what stands after each step
  pub by_hand : Leaves rack (2 ∷ 3 ∷ []) (0 ∷ []) (0 ∷ 3 ∷ [])
      × Leaves rack (2 ∷ 3 ∷ []) (0 ∷ 6 ∷ []) (0 ∷ 3 ∷ 4 ∷ [])
      × Leaves rack (2 ∷ 3 ∷ []) (0 ∷ 6 ∷ 4 ∷ []) (0 ∷ 3 ∷ 4 ∷ 5 ∷ [])
      × Leaves rack (2 ∷ 3 ∷ []) (0 ∷ 6 ∷ 4 ∷ 2 ∷ []) (2 ∷ 3 ∷ 4 ∷ 5 ∷ [])
  -- accepted, in the order 0, 6, 4, 1; every place has a stratum of its own
  pub two_levels_shown : Laid rack two_level_task two_level_places two_level_rows (0 ∷ 1 ∷ 2 ∷ 3 ∷ []) 4
  pub two_levels_timed : Timed rack two_level_places two_level_rows (0 ∷ 60 ∷ 1860 ∷ 1920 ∷ []) 1980
  pub two_levels_end : EndsWith rack two_level_task (0 ∷ 1 ∷ 5 ∷ [])
  pub two_levels_recast : RecastAs rack two_level_task ((0 ∷ []) ∷ (6 ∷ []) ∷ (4 ∷ []) ∷ (1 ∷ []) ∷ []) 46
  -- on every board with room for the 7 facts
  pub two_levels_called : (span : ℕ) → 7 ≤ span → TwoLevelCalls span
  -- neither place precedes the other: one stratum
  pub side_by_side_shown : Laid rack side_by_side side_places side_rows (0 ∷ 0 ∷ []) 1
  pub side_by_side_recast : RecastAs rack side_by_side ((0 ∷ 1 ∷ []) ∷ []) 34
  pub side_by_side_called : (span : ℕ) → 7 ≤ span → SideBySideCalls span
  -- settling in the same level does not help the reading: 11, level 1, step 4, fact 4
  pub own_adds_do_not_help : Checked rack read_unsettled (Err (NeedMissing 1 4 4))
  -- accepted, and it stays as it is
  pub no_levels : Laid rack nothing_to_do [] [] [] 0
  pub no_levels_recast : RecastAs rack nothing_to_do [] 28
  -- 13, fact 0
  pub no_levels_goal_missing : Checked rack nothing_done (Err (GoalMissing 0))
  -- B deletes what A needs: A comes first, and there is no other order
  pub one_order_only : (bs : List ℕ) → AuthorizedOrder one_order_book (0 ∷ 1 ∷ []) bs → bs ≡ 0 ∷ 1 ∷ []
  -- A, then B, then C
  pub one_order : Laid one_order_book one_order_task (on 0 1 ∷ on 1 1 ∷ on 2 2 ∷ []) ([] ∷ (0 ∷ []) ∷ (0 ∷ 1 ∷ []) ∷ []) (0 ∷ 1 ∷ 2 ∷ []) 3
  -- each pair has an order and the three have none: 12, level 1
  pub ring_pairs : Authorized ring (0 ∷ 1 ∷ []) × Authorized ring (1 ∷ 2 ∷ []) × Authorized ring (0 ∷ 2 ∷ [])
  pub ring_has_no_order : Checked ring ring_task (Err (NoOrder 1))
