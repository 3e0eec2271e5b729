-- Calls on a card, shown by tests.
use Rattle.std.proofs.Common.{◌≡◌, ℕ, zero, suc, ◌<◌, ◌≤◌, Bool, true, false, not, ◌&&◌, ◌||◌, eqb, ltb, ◌⊎◌, List, length, get_or, set, replicate, Ok, Err, sym, refl, ap, ◌∙◌, inl, inr, arith}
use Rattle.std.proofs.lemmas.List.{get_or-set_same, get_or-set_other}
use Rattle.std.proofs.lemmas.Bool.{cases_lt, cases_eq, both_ways, and_parts, eq-eqb, ne_eqb, lt-ltb, ltb-true, not-true, cond-true, cond-false}
use Rattle.std.proofs.lemmas.Bool.Decides.{Decides-or, Decides-not}
use Rattle.books.specs.Book.{Model, Lawful, after}
use Rattle.books.specs.Listed.{listed}
use Rattle.task_sheets.specs.Content.{Task}
use Rattle.checks.specs.declared.arrangement.Place.{Place}
use Rattle.cards.specs.States.{finished}
use Rattle.cards.specs.Moments.{Moment, turned}
use Rattle.cards.specs.Answers.{Unmoved, board_after, Answered}
use Rattle.cards.specs.Runs.{Issued}
use Rattle.cards.specs.Drawing.{DrawnUp}
use Rattle.cards.specs.declared.state.State.{State}
use Rattle.cards.specs.declared.state.State.TheVariants.{Waiting, InHand, Finished}
use Rattle.cards.specs.declared.state.Event.TheVariants.{Begin, Finish}
use Rattle.cards.specs.declared.fault.RunFault.TheVariants.{WrongState, Unfinished}
use Rattle.worked.specs.Plans.{placed, preceding, Laid, card_of, moment}
use Rattle.worked.proofs.Tests.{below, every, decides_below, decides_true}
use Rattle.worked.proofs.Sets.{alike, decides_alike, listed_within}

pub unmoved : (b : Moment) → Unmoved b b
unmoved b = record { state = λ u. refl; board = λ q. refl }

-- every state of the list is Waiting
all_wait : (n u : ℕ) → get_or (replicate n Waiting) u Waiting ≡ Waiting
all_wait zero u = refl
all_wait (suc n) zero = refl
all_wait (suc n) (suc u) = all_wait n u

-- a state that is written in the list is the state that is turned
turned_set : (states : List State) (p : ℕ) (x : State) → p < length states → (u : ℕ) → get_or (set states p x) u Waiting ≡ turned (λ u. get_or states u Waiting) p x u
turned_set states p x l u =
    elim (cases_eq u p) [
      | inl e ↦ rw e (get_or-set_same states p x Waiting l) ∙ sym (cond-true (eqb u p) x (get_or states u Waiting) (eq-eqb u p e))
      | inr n ↦ get_or-set_other states p u x Waiting n ∙ sym (cond-false (eqb u p) x (get_or states u Waiting) (ne_eqb u p n))
    ]

module _ (m : Model) (law : Lawful m) (places : List Place) (rows : List (List ℕ)) (span : ℕ) (room : m.facts ≤ span) where
  -- the card of a plan that is laid out is issued, every place waiting
  pub issued_shown : (t : Task) (stratum : List ℕ) (count n : ℕ) → Laid m t places rows stratum count
      → Issued (card_of m places rows span) t (moment (replicate n Waiting) t.start)
  issued_shown t stratum count n laid =
      record { accepted = laid.accepted; room = room; places = laid.arranged; exact = laid.exact; waiting = all_wait n; start = λ q. refl }

  -- it is drawn up, where the start facts are facts of the book
  pub drawn_shown : (t : Task) (stratum : List ℕ) (count n : ℕ) → Laid m t places rows stratum count → every (λ x. ltb x m.facts) t.start ≡ true
      → DrawnUp (card_of m places rows span) t (λ u. get_or (replicate n Waiting) u Waiting)
  drawn_shown t stratum count n laid e = record {
    accepted = laid.accepted;
    room = room;
    known = listed_within m.facts t.start e;
    places = laid.arranged;
    exact = laid.exact;
    waiting = all_wait n;
  }

  module _ (states : List State) (facts : List ℕ) where
    -- whether all below n that precede p are finished
    abbrev clears : ℕ → ℕ → Bool
    clears p n = below (λ u. not (preceding rows u p) || finished (get_or states u Waiting)) n

    clears_shown : (p n : ℕ) → clears p n ≡ true → (u : ℕ) → u < n → preceding rows u p ≡ true → finished (get_or states u Waiting) ≡ true
    clears_shown p n e u l h =
        elim ((decides_below (λ u. not (preceding rows u p) || finished (get_or states u Waiting)) (λ u. (preceding rows u p ≡ true → ⊥) ⊎ (finished (get_or states u Waiting) ≡ true))
        (λ u. Decides-or _ _ (Decides-not _ (decides_true (preceding rows u p))) (decides_true (finished (get_or states u Waiting)))) n).0 e u l)
        [ inl f ↦ absurd (f h) | inr k ↦ k ]

    pub unfinished_shown : (p u : ℕ) → get_or states p Waiting ≡ Waiting
        → ((ltb p (length places) && ltb u (length places)) && (preceding rows u p && (not (finished (get_or states u Waiting)) && clears p u))) ≡ true
        → Answered (card_of m places rows span) (moment states facts) Begin p (Err (Unfinished u)) (moment states facts)
    unfinished_shown p u waits e =
        let a = and_parts _ _ e in
        let b = and_parts _ _ a.0 in
        let c = and_parts _ _ a.1 in
        let d = and_parts _ _ c.1 in (
          ltb-true p (length places) b.0,
          refl,
          waits,
          record { there = ltb-true u (length places) b.1; before = c.0; unfinished = not-true _ d.0; lowest = clears_shown p u d.1 },
          unmoved _,
        )

    -- a finished place does not wait
    pub again_shown : (p : ℕ) → ltb p (length places) ≡ true → finished (get_or states p Waiting) ≡ true
        → Answered (card_of m places rows span) (moment states facts) Begin p (Err WrongState) (moment states facts)
    again_shown p l e = (ltb-true p (length places) l, λ w. both_ways _ (ap finished w) e, unmoved _)

    pub begun_shown : (p : ℕ) → get_or states p Waiting ≡ Waiting → (ltb p (length places) && (ltb p (length states) && clears p (length places))) ≡ true
        → Answered (card_of m places rows span) (moment states facts) Begin p (Ok tt) (moment (set states p InHand) facts)
    begun_shown p waits e =
        let a = and_parts _ _ e in
        let b = and_parts _ _ a.1 in (
          record { there = ltb-true p (length places) a.0; state = waits; cleared = λ _. clears_shown p (length places) b.1 },
          record { state = turned_set states p InHand (ltb-true p (length states) b.0); board = λ q. refl },
        )

    -- the facts that the step of place p leaves
    abbrev leaves : List ℕ → ℕ → Bool
    leaves facts' p =
        every (λ x. ltb x m.facts) facts && (every (λ x. ltb x m.facts) facts'
        && below (λ q. alike (listed facts' q) (after m (listed facts) ((placed places).step p) q)) m.facts)

    board_shown : (facts' : List ℕ) (p : ℕ) → leaves facts' p ≡ true → (q : ℕ) → listed facts' q ≡ board_after (card_of m places rows span) (listed facts) Finish p q
    board_shown facts' p e q =
        let fits = every (λ x. ltb x m.facts) in
        let left = below (λ q. alike (listed facts' q) (after m (listed facts) ((placed places).step p) q)) m.facts in
        let a = and_parts (fits facts) (fits facts' && left) e in
        let b = and_parts (fits facts') left a.1 in
        elim (cases_lt q m.facts) [
          | inl l ↦ (let low : ltb q span ≡ true = lt-ltb q span (omega arith) in
              let same : listed facts' q ≡ after m (listed facts) ((placed places).step p) q = (decides_below (λ q. alike (listed facts' q) (after m (listed facts) ((placed places).step p) q)) (λ q. listed facts' q ≡ after m (listed facts) ((placed places).step p) q) (λ q. decides_alike (listed facts' q) (after m (listed facts) ((placed places).step p) q)) m.facts).0 b.1 q l in
              grind arith)
          | inr l ↦ (let none : listed facts' q ≡ false = listed_within m.facts facts' b.0 q l in
              let before : listed facts q ≡ false = listed_within m.facts facts a.0 q l in
              let added : m.adds ((placed places).step p) q ≡ false = law.adds.no_fact ((placed places).step p) q l in
              grind arith)
        ]

    pub finished_shown : (facts' : List ℕ) (p : ℕ) → get_or states p Waiting ≡ InHand → (ltb p (length places) && (ltb p (length states) && leaves facts' p)) ≡ true
        → Answered (card_of m places rows span) (moment states facts) Finish p (Ok tt) (moment (set states p Finished) facts')
    finished_shown facts' p held e =
        let a = and_parts _ _ e in
        let b = and_parts _ _ a.1 in (
          record { there = ltb-true p (length places) a.0; state = held; cleared = λ e. cc },
          record { state = turned_set states p Finished (ltb-true p (length states) b.0); board = board_shown facts' p b.1 },
        )
