-- The records of a script, request by request.
use Rattle.std.proofs.Common.{◌≡◌, ℕ, ◌+◌, ◌*◌, ◌/◌, ◌<◌, List, [], ◌∷◌, ◌++◌, length, get_or, sym, refl, ap, ◌∙◌, subst, add-one, arith}
use Rattle.std.proofs.lemmas.List.{append_assoc, append-nil}
use Rattle.facts.specs.Sets.{holds}
use Rattle.books.specs.Book.{Model, Facts}
use Rattle.sheets.specs.Writing.{written}
use Rattle.sheets.specs.Writers.{Writes}
use Rattle.sheets.specs.declared.writer.Writer.{Writer}
use Rattle.sheets.proofs.Writers.{writes_on}
use Rattle.checks.specs.Rows.{marked}
use Rattle.checks.specs.Tables.{blank, places_in}
use Rattle.checks.specs.declared.arrangement.Arrangement.{Arrangement}
use Rattle.cards.specs.Moments.{Setting, Moment}
use Rattle.cards.specs.Replies.{Replied}
use Rattle.cards.specs.Cards.{setting_of, moment_of, RequestReplied}
use Rattle.cards.specs.Issues.{Numbered}
use Rattle.cards.specs.declared.card.Card.{Card}
use Rattle.cards.specs.declared.request.Reply.{Reply}
use Rattle.cards.specs.declared.request.Request.{Request}
use Rattle.bench.specs.Records.{bytes_of_reply, word_bytes}
use Rattle.bench.specs.Running.{request_in, requests_to, Told, Records}

-- one request more
pub told_more : (s : Setting) (b : Moment) (qs : List Request) (ys : List ℕ) (m : Moment) (q : Request) (r : Reply) (a : Moment) (words : List ℕ)
    → Told s b qs ys m → Replied s m q r a → ((p : ℕ) → holds words p ≡ a.board p)
    → Told s b (qs ++ (q ∷ [])) (ys ++ (bytes_of_reply r ++ word_bytes words)) a
told_more s b [] ys m q r a words h x f =
    let rec = bytes_of_reply r ++ word_bytes words in
    (r, a, words, [], subst (λ z. Replied s z q r a) h.1 x, f, ap (λ zs. zs ++ rec) h.0 ∙ sym (append-nil rec), (refl, refl))
told_more s b (q' ∷ qs) ys m q r a words h x f =
    let rec = bytes_of_reply r ++ word_bytes words in
    let first = bytes_of_reply h.0 ++ word_bytes h.2 in (
      h.0,
      h.1,
      h.2,
      h.3 ++ rec,
      h.4,
      h.5,
      ap (λ zs. zs ++ rec) h.6 ∙ append_assoc first h.3 rec,
      told_more s h.1 qs h.3 m q r a words h.7 x f,
    )

-- levels go by their numbers from 1 on every card with the same places
pub numbered_on : (c c' : Card) → c'.plan ≡ c.plan → Numbered c → Numbered c'
numbered_on c c' e h =
    let P : Arrangement → Type 0 = λ p. (u : ℕ) → u < p.count → 0 < (get_or p.places u blank).level in
    subst P (sym e) h

-- a reply is one in the setting in which the script began
pub replied_in : (m : Model) (span span' : ℕ) (c₀ c c' : Card) (board board' : Facts) (q : Request) (r : Reply)
    → c.plan ≡ c₀.plan → span' ≡ span → RequestReplied m span' c board q r c' board'
    → Replied (setting_of m span c₀) (moment_of c board) q r (moment_of c' board')
replied_in m span span' c₀ c c' board board' q r e d h =
    let P : Arrangement → Type 0 =
    λ p. Replied (record { book = m; span = span; places = places_in p.count p.places; precedes = marked p.before }) (moment_of c board) q r (moment_of c' board')
    in
    subst P e (subst (λ n. Replied (setting_of m n c) (moment_of c board) q r (moment_of c' board')) d h)

-- what holds after the first i requests
pub record SoFar (m : Model) (span span' : ℕ) (c₀ : Card) (board₀ : Facts) (c : Card) (board : Facts) (script : List ℕ) (i : ℕ) (old new : Writer) : Type 0 where
  pub plan : c.plan ≡ c₀.plan
  pub spanned : span' ≡ span
  pub front : old.at ≡ 0
  pub place : new.at ≡ 144 * i
  pub bytes : List ℕ
  pub told : Told (setting_of m span c₀) (moment_of c₀ board₀) (requests_to script i) bytes (moment_of c board)
  pub writes : Writes old bytes new

requests_more : (script : List ℕ) (i : ℕ) (q : Request) → q ≡ request_in script (3 * i) → requests_to script i ++ (q ∷ []) ≡ requests_to script (i + 1)
requests_more script i q e = rw add-one (ap (λ z. requests_to script i ++ (z ∷ [])) e)

-- one request more
pub so_far_more : (m : Model) (span span' span'' : ℕ) (c₀ : Card) (board₀ : Facts) (c : Card) (board : Facts) (c' : Card) (board' : Facts)
    (script : List ℕ) (i : ℕ) (u v w : Writer) (q : Request) (r : Reply) (words : List ℕ)
    → Numbered c₀ → SoFar m span span' c₀ board₀ c board script i u v → c'.plan ≡ c.plan → span'' ≡ span'
    → (Numbered c → RequestReplied m span' c board q r c' board') → q ≡ request_in script (3 * i)
    → ((p : ℕ) → holds words p ≡ board' p) → Writes v (bytes_of_reply r ++ word_bytes words) w → w.at ≡ v.at + 144
    → SoFar m span span'' c₀ board₀ c' board' script (i + 1) u w
so_far_more m span span' span'' c₀ board₀ c board c' board' script i u v w q r words n h p d x e f o k =
    let y = replied_in m span span' c₀ c c' board board' q r h.plan h.spanned (x (numbered_on c₀ c h.plan n)) in
    let ys = h.bytes ++ (bytes_of_reply r ++ word_bytes words) in
    let s = setting_of m span c₀ in
    let b = moment_of c₀ board₀ in
    let a = moment_of c' board' in
    record {
      plan = p ∙ h.plan;
      spanned = d ∙ h.spanned;
      front = h.front;
      place = omega (arith, h.place);
      bytes = ys;
      told =
          subst (λ qs. Told s b qs ys a) (requests_more script i q e)
          (told_more s b (requests_to script i) h.bytes (moment_of c board) q r a words h.told y f);
      writes = writes_on h.writes o;
    }

-- all requests
pub so_far_all : (m : Model) (span span' : ℕ) (c₀ : Card) (board₀ : Facts) (c : Card) (board : Facts) (script : List ℕ) (i : ℕ) (u v : Writer)
    → i ≡ length script / 3 → (before : List ℕ) (n : ℕ) (after : List ℕ) → u.out.now ≡ before → n ≡ v.at → v.out.now ≡ after
    → SoFar m span span' c₀ board₀ c board script i u v → Records (setting_of m span c₀) (moment_of c₀ board₀) script before n after
so_far_all m span span' c₀ board₀ c board script i u v e before n after x y z h =
    let w = h.writes.wrote in
    record {
      bytes = h.bytes;
      end = moment_of c board;
      size = y ∙ h.place ∙ ap (λ k. 144 * k) e;
      told = subst (λ k. Told (setting_of m span c₀) (moment_of c₀ board₀) (requests_to script k) h.bytes (moment_of c board)) e h.told;
      wrote = record {
        bytes = sym z ∙ w.bytes ∙ ap (λ at. written u.out.now at h.bytes) h.front ∙ ap (λ xs. written xs 0 h.bytes) x;
        place = y ∙ w.place ∙ ap (λ at. at + length h.bytes) h.front;
      };
    }
