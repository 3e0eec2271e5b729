-- However the places of an issued card are begun, finished and put back, what a run keeps stays kept.
use Rattle.std.proofs.Common.{◌≡◌, ℕ, zero, suc, ◌<◌, Bool, true, false, cond, not, ◌&&◌, ◌||◌, eqb, ◌⊎◌, Ok, Err, Result, sym, refl, ap, ◌∙◌, subst, inl, inr, arith}
use mathlib.Core.Path.{fun_ext}
use Rattle.std.proofs.lemmas.Bool.{both_ways, cases_eq, eqb-true, eq-eqb, ne_eqb, or_cases, or_right}
use Rattle.books.specs.Book.{Model, Facts, Lawful, after}
use Rattle.books.specs.Listed.{listed}
use Rattle.plans.specs.Places.{Places, Precedes, InOrder, Closed, Ready, left, left_below, all}
use Rattle.plans.specs.Laws.{with, Fed}
use Rattle.plans.proofs.Runs.{same, needing, commuting, progress, apart}
use Rattle.plans.proofs.Layers.{ending, feeding}
use Rattle.plans.proofs.Arranging.{ascent, laying}
use Rattle.task_sheets.specs.Content.{Task}
use Rattle.cards.specs.States.{finished}
use Rattle.cards.specs.Moments.{Setting, Moment, done, turned, worked}
use Rattle.cards.specs.Answers.{Granted, Answered}
use Rattle.cards.specs.Runs.{Issued, Remains, GoesOn, Kept, CallAnswered, CallRightly, RunLaw, EachRun}
use Rattle.cards.specs.declared.state.State.{State}
use Rattle.cards.specs.declared.state.State.TheVariants.{Waiting, InHand, Finished}
use Rattle.cards.specs.declared.state.Event.{Event}
use Rattle.cards.specs.declared.state.Event.TheVariants.{Begin, Finish, PutBack}
use Rattle.cards.specs.declared.fault.RunFault.{RunFault}
use Rattle.cards.proofs.Answering.{finish_begin, moved, next, next_is, some_answer, one_answer, granted_by_rule}
use Rattle.cards.proofs.Spans.{cut}
use Rattle.cards.proofs.Trails.{one_trail, run_kept}

not_finished : Finished ≡ InHand → ⊥
not_finished e = cc

not_waiting : Waiting ≡ InHand → ⊥
not_waiting e = cc

unfinished : (x : State) → finished x ≡ false → (x ≡ InHand) ⊎ (x ≡ Waiting)
unfinished Waiting e = inr refl
unfinished InHand e = inl refl
unfinished Finished e = absurd (both_ways true e refl)

unmoved_at : (t : Bool) (x y : State) → finished x ≡ false → (t ≡ true → finished y ≡ false) → finished (cond t x y) ≡ finished y
unmoved_at true x y e f = e ∙ sym (f refl)
unmoved_at false x y e f = refl

moved_at : (t : Bool) (y : State) → finished (cond t Finished y) ≡ (t || finished y)
moved_at true y = refl
moved_at false y = refl

abbrev done_in : (ℕ → State) → ℕ → Bool
done_in states u = finished (states u)

module _ (states : ℕ → State) (h : ℕ) where
  -- in hand after the move, and not at h: in hand before it
  was : (x : State) (u : ℕ) → (u ≡ h → ⊥) → turned states h x u ≡ InHand → states u ≡ InHand
  was x u n e = let f = ne_eqb u h n in rw f at e

  -- in hand after the move to another state: not at h
  elsewhere : (x : State) (u : ℕ) → (x ≡ InHand → ⊥) → turned states h x u ≡ InHand → u ≡ h → ⊥
  elsewhere x u n e q = let f = eq-eqb u h q in n (rw f at e)

  -- a state that is not finished, in place of one that is not, leaves what is finished
  unmoved : (x : State) → finished x ≡ false → finished (states h) ≡ false → done_in (turned states h x) ≡ done_in states
  unmoved x e f = fun_ext (λ u. unmoved_at (eqb u h) x (states u) e (λ t. let q = eqb-true u h t in rw q f))

  one_more : done_in (turned states h Finished) ≡ with (done_in states) h
  one_more = fun_ext (λ u. moved_at (eqb u h) (states u))

-- what is kept besides: the finished places are closed, and those in hand are ready
pub record Sound (m : Model) (o : Places) (E : Facts) (b : Moment) : Type 0 where
  pub closed : Closed m o (done b)
  pub ready : (h : ℕ) → h < o.size → b.state h ≡ InHand → Ready m o (done b) h
  pub held : (q : ℕ) → b.board q ≡ left m o E (done b) q

module _ (m : Model) (o : Places) (up : InOrder m o) (E : Facts) where
  nothing : (b : Moment) → ((u : ℕ) → b.state u ≡ Waiting) → (q n : ℕ) → E q ≡ left_below m o E (done b) n q
  nothing b f q zero = refl
  nothing b f q (suc n) = let ih = nothing b f q n in let e : done b n ≡ false = ap finished (f n) in grind arith

  pub at_start : (b : Moment) → ((u : ℕ) → b.state u ≡ Waiting) → ((q : ℕ) → b.board q ≡ E q) → Sound m o E b
  at_start b f g = record {
    closed = λ u v k l q e. absurd (both_ways _ (ap finished (f v)) e);
    ready = λ h l e. absurd (not_waiting (sym (f h) ∙ e));
    held = λ q. g q ∙ nothing b f q o.size;
  }

  -- a move that finishes nothing
  pub quiet : (b : Moment) (h : ℕ) (x : State) → finished x ≡ false → done b h ≡ false
      → ((u : ℕ) → u < o.size → turned b.state h x u ≡ InHand → Ready m o (done b) u) → Sound m o E b
      → Sound m o E (record { state = turned b.state h x; board = b.board })
  quiet b h x e f r w =
      let q = sym (unmoved b.state h x e f) in
      record {
        closed = subst (Closed m o) q w.closed;
        ready = λ u k i. subst (λ d. Ready m o d u) q (r u k i);
        held = λ p. w.held p ∙ ap (λ d. left m o E d p) q;
      }

  pub finishing : (b : Moment) (h : ℕ) → h < o.size → b.state h ≡ InHand → (board : Facts) → ((q : ℕ) → board q ≡ after m b.board (o.step h) q)
      → Sound m o E b → Sound m o E (record { state = turned b.state h Finished; board = board })
  finishing b h l e board g w =
      let q = sym (one_more b.state h) in
      record {
        closed = subst (Closed m o) q (λ u v k i pre d. or_right _ _ (elim (or_cases _ _ d) [
          | inl t ↦ w.ready h l e u k (subst (Precedes m o u) (eqb-true v h t) pre)
          | inr t ↦ w.closed u v k i pre t
        ]));
        ready = λ u k i. subst (λ d. Ready m o d u) q (λ v j pre. or_right _ _ (w.ready u k (was b.state h Finished u (elsewhere b.state h Finished u not_finished i) i) v j pre));
        held = λ p. g p ∙ ap (λ x. (x && not (m.deletes (o.step h) p)) || m.adds (o.step h) p) (w.held p)
            ∙ sym (commuting m o up E (done b) w.closed h l (ap finished e) p) ∙ ap (λ d. left m o E d p) q;
      }

module _ (s : Setting) (law : Lawful s.book) (t : Task) (b₀ : Moment) (issued : Issued s t b₀) where
  up : InOrder s.book s.places
  up = ascent s.book t.levels s.places issued.places

  abbrev Fine : Moment → Type 0
  Fine = Sound s.book s.places (listed t.start)

  -- the board has room for what the step adds
  roomy : (board : Facts) (h q : ℕ) → worked s board h q ≡ after s.book board (s.places.step h) q
  roomy board h q =
      ap (λ x. (board q && not (s.book.deletes (s.places.step h) q)) || x)
      (cut (s.book.adds (s.places.step h) q) s.span q (λ l. law.adds.no_fact (s.places.step h) q (omega (arith, issued.room))))

  granted : (b : Moment) (e : Event) (p : ℕ) → Granted s b e p → Fine b → Fine (moved s b e p)
  granted b Begin p g w = quiet s.book s.places up _ b p InHand refl (ap finished g.state)
      (λ u k i. elim (cases_eq u p) [
        | inl q ↦ subst (Ready s.book s.places (done b)) (sym q) (λ v l pre. g.cleared refl v l ((issued.exact v p l g.there).1 pre))
        | inr n ↦ w.ready u k (was b.state p InHand u n i)
      ]) w
  granted b Finish p g w = finishing s.book s.places up _ b p g.there g.state _ (roomy b.board p) w
  granted b PutBack p g w = quiet s.book s.places up _ b p Waiting refl (ap finished g.state)
      (λ u k i. w.ready u k (was b.state p Waiting u (elsewhere b.state p Waiting u not_waiting i) i)) w

  by_next : (b : Moment) (e : Event) (p : ℕ) (r : Result (Unit {0}) RunFault) (a : Moment) → Answered s b e p r a → Fine b → Fine (next s b e p r)
  by_next b e p (Ok _) a w f = granted b e p w.0 f
  by_next b e p (Err x) a w f = f

  pub onward : (b : Moment) (e : Event) (p : ℕ) (r : Result (Unit {0}) RunFault) (a : Moment) → Answered s b e p r a → Fine b → Fine a
  onward b e p r a w f = subst Fine (sym (next_is s b e p r a w)) (by_next b e p r a w f)

  pub started : Fine b₀
  started = at_start s.book s.places up (listed t.start) b₀ issued.waiting issued.start

  fed : Fed s.book s.places (listed t.start)
  fed = feeding s.book law s.places up t.levels (laying s.book t.levels s.places issued.places) (listed t.start) issued.accepted.1.recognized

  goes : (b : Moment) → Remains s b → GoesOn s b
  goes b w =
      let h = progress s.book s.places up (done b) w.0 w.1 w.2 in (
        h.0,
        elim (unfinished (b.state h.0) h.2) [
          | inl i ↦ inr (record { there = h.1; state = i; cleared = λ e. absurd (finish_begin e) })
          | inr i ↦ inl (record { there = h.1; state = i; cleared = λ e u l pre. h.3 u l ((issued.exact u h.0 l h.1).0 pre) })
        ],
      )

  remains : (b : Moment) → GoesOn s b → Remains s b
  remains b w = elim w.1 [ inl g ↦ (w.0, g.there, ap finished g.state) | inr g ↦ (w.0, g.there, ap finished g.state) ]

  pub kept : (b : Moment) → Fine b → Kept s t b
  kept b w = record {
    needs = λ p l e q n. w.held q ∙ needing s.book s.places (listed t.start) fed (done b) w.closed p l (ap finished e) (w.ready p l e) q n;
    apart = λ p q l k n e f. apart s.book s.places (done b) p q l k n (ap finished e) (ap finished f) (w.ready p l e) (w.ready q k f);
    board = w.held;
    onward = (remains b, goes b);
    final = λ f q. w.held q ∙ same s.book s.places (listed t.start) q (done b) all s.places.size (λ u l. ap finished (f u l))
        ∙ ending s.book law s.places up t.levels (laying s.book t.levels s.places issued.places) (listed t.start) q;
  }

pub run_law : RunLaw
run_law s law t b issued calls w =
    run_kept CallAnswered CallRightly (λ s b c r a w. granted_by_rule s b c.event c.place r a w) s (Kept s t) (Fine s law t b issued) (kept s law t b issued)
    (λ d c r a v f. onward s law t b issued d c.event c.place r a v f) b calls (started s law t b issued) w

pub each_run : EachRun
each_run s b asked =
    one_trail CallAnswered (record { some = λ s b c. some_answer s b c.event c.place; one = λ s b c r r' a a' w w'. one_answer s b c.event c.place r r' a a' w w' }) s b asked
