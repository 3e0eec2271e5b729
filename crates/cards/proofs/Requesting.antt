-- However the places of an issued card are begun, finished, put back and looked at, what a run keeps stays kept.
use Rattle.std.proofs.Common.{sym, subst}
use Rattle.books.specs.Book.{Lawful}
use Rattle.books.specs.Listed.{listed}
use Rattle.task_sheets.specs.Content.{Task}
use Rattle.cards.specs.Moments.{Setting, Moment}
use Rattle.cards.specs.Replies.{Replied, Rightly}
use Rattle.cards.specs.Runs.{Issued, Kept}
use Rattle.cards.specs.Requests.{RunLaw, EachRun}
use Rattle.cards.specs.declared.request.Request.{Request}
use Rattle.cards.specs.declared.request.Request.TheVariants.{Call, Look}
use Rattle.cards.specs.declared.request.Reply.{Reply}
use Rattle.cards.proofs.Replies.{call_answered, look_still, some_reply, one_reply, rightly}
use Rattle.cards.proofs.Running.{Sound, onward, started, kept}
use Rattle.cards.proofs.Trails.{one_trail, run_kept}

module _ (s : Setting) (law : Lawful s.book) (t : Task) (b₀ : Moment) (issued : Issued s t b₀) where
  abbrev Fine : Moment → Type 0
  Fine = Sound s.book s.places (listed t.start)

  pub request_onward : (b : Moment) (q : Request) (r : Reply) (a : Moment) → Replied s b q r a → Fine b → Fine a
  request_onward b (Call c) r a w f = let v = call_answered s b c r a w in onward s law t b₀ issued b c.event c.place v.0 a v.2 f
  request_onward b (Look p) r a w f = subst Fine (sym (look_still s b p r a w)) f

pub run_law : RunLaw
run_law s law t b issued calls w =
    run_kept Replied Rightly rightly s (Kept s t) (Fine s law t b issued) (kept s law t b issued) (request_onward s law t b issued) b calls (started s law t b issued) w

pub each_run : EachRun
each_run s b asked = one_trail Replied (record { some = some_reply; one = one_reply }) s b asked
