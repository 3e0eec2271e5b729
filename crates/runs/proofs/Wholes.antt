-- A run that was carried out from a card as it was drawn up.
use Rattle.std.proofs.Common.{◌≡◌, ℕ, ◌&&◌, ltb, List, length, take, drop, Ok, sym, refl, ◌∙◌, subst}
use Rattle.books.specs.Book.{Model, Facts, Lawful}
use Rattle.books.specs.Listed.{listed}
use Rattle.task_sheets.specs.Content.{Task}
use Rattle.cards.specs.Moments.{Setting}
use Rattle.cards.specs.Cards.{size_of, precedes_of, setting_of, moment_of}
use Rattle.cards.specs.Issues.{Numbered}
use Rattle.cards.specs.Drawing.{DrawAnswered}
use Rattle.cards.specs.Runs.{Issued}
use Rattle.cards.specs.declared.card.Card.{Card}
use Rattle.cards.specs.declared.request.Request.{Request}
use Rattle.cards.specs.declared.request.Reply.{Reply}
use Rattle.cards.proofs.Requesting.{run_law, each_run}
use Rattle.cards.proofs.Drawing.{drawn_issued}
use Rattle.cards.proofs.Trails.{setting_stays}
use Rattle.recasts.specs.Recasts.{RecastWritten}
use Rattle.timetables.specs.Scale.{Scale, Laws}
use Rattle.timetables.specs.Timetable.{Timetabled}
use Rattle.runs.specs.Whole.{Carried, WholeRun}
use Rattle.runs.proofs.Timing.{every_timetable}

pub whole : {M : Type 0} {s : Scale M} (laws : Laws s) (m : Model) (lawful : Lawful m) (span now : ℕ) (t : Task) (c₀ fresh c : Card) (board₁ board : Facts)
    (requests : List Request) (replies₀ replies : List Reply) (weights begins₀ begins : List M) (sheet₀ sheet : List ℕ) (end : M) (written : ℕ)
    → DrawAnswered m span t c₀ (Ok fresh) → now ≡ span → ((q : ℕ) → board₁ q ≡ (listed t.start q && ltb q span)) → c.plan ≡ fresh.plan
    → (Numbered fresh → Carried (setting_of m now fresh) (moment_of fresh board₁) requests (take (length requests) replies) (moment_of c board))
    → drop (length requests) replies ≡ drop (length requests) replies₀
    → Timetabled s (size_of c) (precedes_of c) weights begins₀ begins (Ok end)
    → RecastWritten m t sheet₀ (Ok written) sheet
    → WholeRun s m span t c₀ requests replies₀ replies weights begins₀ begins sheet₀ sheet c board end written
whole laws m lawful span now t c₀ fresh c board₁ board requests replies₀ replies weights begins₀ begins sheet₀ sheet end written d e h f run rest timed recast =
    let b = moment_of fresh board₁ in
    let from = subst (λ (x : Setting). Issued x t b) (sym (setting_stays m span span fresh c refl f)) (drawn_issued (setting_of m span fresh) t b d.1 h) in
    let own = subst (λ (x : Setting). Carried x b requests (take (length requests) replies) (moment_of c board)) (setting_stays m span now fresh fresh e refl ∙ sym (setting_stays m span span fresh c refl f)) (run d.2) in
    record {
      idle = d.0;
      known = d.1.known;
      issued = b;
      from = from;
      own = own;
      kept = run_law (setting_of m span c) lawful t b from own.calls own.trail;
      rest = rest;
      every = run_law (setting_of m span c) lawful t b from;
      one = each_run (setting_of m span c) b;
      timed = timed;
      times = every_timetable laws;
      recast = recast;
    }
