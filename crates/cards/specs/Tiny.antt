-- A small card, board and run that meet what the theorems ask for.
use Rattle.std.specs.Prelude.{◌≡◌, ◌&&◌, ◌||◌, List, [], ◌∷◌, map, ◌==◌}
use Rattle.books.specs.Book.{Lawful}
use Rattle.books.specs.Listed.{listed}
use Rattle.plans.specs.Tiny.{tiny, plan, places}
use Rattle.task_sheets.specs.Content.{Task}
use Rattle.cards.specs.Moments.{Setting, Moment}
use Rattle.cards.specs.Runs.{Issued}
use Rattle.cards.specs.Trails.{after_all}
use Rattle.cards.specs.Requests.{Made, Trail}
use Rattle.cards.specs.declared.state.State.TheVariants.{Waiting, InHand, Finished}
use Rattle.cards.specs.declared.state.Event.TheVariants.{Begin, Finish}
use Rattle.cards.specs.declared.request.Request.{Request}
use Rattle.cards.specs.declared.request.Request.TheVariants.{Call, Look}

-- from fact 0 the plan reaches fact 1
abbrev pub task : Task
task = record { facts = 2; steps = 3; start = 0 ∷ []; goal = 1 ∷ []; levels = plan }

-- place 0 precedes places 1 and 2
abbrev pub setting : Setting
setting = record { book = tiny; span = 2; places = places; precedes = λ u v. (u == 0) && (v == 1 || v == 2) }

abbrev pub start : Moment
start = record { state = λ u. Waiting; board = listed (0 ∷ []) }

-- place 1 is asked for too soon; once place 0 is finished, it and place 2 are begun and looked at
abbrev pub asked : List Request
asked =
    Call (record { event = Begin; place = 1 }) ∷ Call (record { event = Begin; place = 0 }) ∷ Call (record { event = Finish; place = 0 })
    ∷ Call (record { event = Begin; place = 1 }) ∷ Call (record { event = Begin; place = 2 }) ∷ Look 2 ∷ []

-- the task is issued, and what is asked leaves a trail at the end of which places 1 and 2 are in hand together
pub record PremisesMet : Type 0 where
  pub lawful : Lawful setting.book
  pub issued : Issued setting task start
  pub calls : List Made
  pub asks : map (λ c. c.asked) calls ≡ asked
  pub trail : Trail setting start calls
  pub finished : (after_all start calls).state 0 ≡ Finished
  pub together : ((after_all start calls).state 1 ≡ InHand) × ((after_all start calls).state 2 ≡ InHand)
