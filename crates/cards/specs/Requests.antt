-- Runs of requests: what holds at every moment after an issue, whatever is called and looked at.
use Rattle.std.specs.Prelude.{List}
use Rattle.task_sheets.specs.Content.{Task}
use Rattle.cards.specs.Moments.{Setting, Moment}
use Rattle.cards.specs.Replies.{Replied, Rightly}
use Rattle.cards.specs.Runs.{Kept, LawOf}
use Rattle.cards.specs.Trails as trails
pub use Rattle.cards.specs.Trails.{Throughout, after_all}
use Rattle.cards.specs.declared.request.Request.{Request}
use Rattle.cards.specs.declared.request.Reply.{Reply}

-- a request that was made: what was asked, what was replied, and the moment after it
abbrev pub Made : Type 0
Made = trails.Made Request Reply

-- requests made one after the other from a moment on, granted or refused, each replied to upon the moment that the last one left
abbrev pub Trail : Setting → Moment → List Made → Type 0
Trail = trails.Trail Replied

-- each request is replied to by the rule of its moment
abbrev pub ByRule : Setting → Moment → List Made → Type 0
ByRule = trails.ByRule Rightly

-- what holds of a run from a moment on
abbrev pub RunKept : Setting → Task → Moment → List Made → Type 0
RunKept s t b calls = trails.RunKept Rightly (Kept s t) s b calls

-- the law of runs: however the places of an accepted plan are begun, finished, put back and looked at after its issue
abbrev pub RunLaw : Type 0
RunLaw = LawOf Replied Rightly

-- whatever is asked, in whatever order, leaves one trail and no other
abbrev pub OneTrail : Setting → Moment → List Request → Type 0
OneTrail = trails.OneTrail Replied

abbrev pub EachRun : Type 0
EachRun = (s : Setting) (b : Moment) (asked : List Request) → OneTrail s b asked
