-- What is replied to a request, and the moment after it: a call is answered, a look tells how a place stands.
use Rattle.std.specs.Prelude.{◌≡◌, ◌+◌, ◌<◌, ◌≤◌, ◌↔◌, Ok, Err}
use Rattle.cards.specs.Moments.{Setting, Moment}
use Rattle.cards.specs.Answers.{Unmoved, Granted, Answered}
use Rattle.cards.specs.declared.state.Event.TheVariants.{Finish}
use Rattle.cards.specs.declared.request.Request.{Request}
use Rattle.cards.specs.declared.request.Request.TheVariants.{Call, Look}
use Rattle.cards.specs.declared.request.Reply.{Reply}
use Rattle.cards.specs.declared.request.Reply.TheVariants.{Granted as granted, Seen, Refused}
use Rattle.cards.specs.declared.fault.RunFault.TheVariants.{NoPlace}

-- the reply to a request, and the moment after it. Levels are shown by their numbers from 1
abbrev pub Replied : Setting → Moment → Request → Reply → Moment → Type 0
Replied s b (Call a) granted b' = Answered s b a.event a.place (Ok tt) b'
Replied s b (Call a) (Seen step level state) b' = ⊥
Replied s b (Call a) (Refused f) b' = Answered s b a.event a.place (Err f) b'
Replied s b (Look p) granted b' = ⊥
Replied s b (Look p) (Seen step level state) b' =
    (p < s.places.size) × (step ≡ s.places.step p) × (level ≡ s.places.level p + 1) × (state ≡ b.state p) × Unmoved b b'
Replied s b (Look p) (Refused f) b' = (f ≡ NoPlace) × (s.places.size ≤ p) × Unmoved b b'

-- a call is granted exactly where the rule grants it, and a place is seen, as it stands, exactly where it is there
abbrev pub Rightly : Setting → Moment → Request → Reply → Type 0
Rightly s b (Call a) r = (r ≡ granted) ↔ Granted s b a.event a.place
Rightly s b (Look p) r = (r ≡ Seen (s.places.step p) (s.places.level p + 1) (b.state p)) ↔ (p < s.places.size)

-- the request is one that may change the board
abbrev pub Works : Request → Type 0
Works (Call a) = a.event ≡ Finish
Works (Look p) = ⊥

-- so it is unless a call was granted
abbrev pub UnlessGranted : Reply → Type 0 → Type 0
UnlessGranted granted P = Unit {0}
UnlessGranted (Seen step level state) P = P
UnlessGranted (Refused f) P = P

-- every moment and request has a reply and a moment after it
abbrev pub SomeReply : Type 0
SomeReply = (s : Setting) (b : Moment) (q : Request) → (r : Reply) × (a : Moment) × Replied s b q r a

-- and no two
abbrev pub OneReply : Type 0
OneReply = (s : Setting) (b : Moment) (q : Request) (r r' : Reply) (a a' : Moment) → Replied s b q r a → Replied s b q r' a' → (r ≡ r') × (a ≡ a')
