-- One fact more.
use Rattle.std.proofs.Common.{◌≡◌, ℕ, zero, suc, ◌+◌, ◌-◌, ◌<◌, ◌≤◌, Bool, false, List, ◌++◌, codes, decimal, sym, refl, ap, ◌∙◌, subst, append_assoc, append-nil, add-zero, add-one, add-suc, arith}
use Rattle.facts.specs.Sets.{Next}
use Rattle.commands.specs.Accepted.{fact_word, listed}

listed_more : (set : ℕ → Bool) (p : ℕ) → listed set (suc p) ≡ listed set p ++ fact_word set p
unfolding listed
listed_more set p = refl

pub listed_step : (set : ℕ → Bool) (p : ℕ) (front text more : List ℕ) → text ≡ front ++ listed set p → more ≡ text ++ fact_word set p → more ≡ front ++ listed set (p + 1)
listed_step set p front text more e f = rw (add-one, listed_more set p) (f ∙ ap (λ l. l ++ fact_word set p) e ∙ append_assoc front (listed set p) (fact_word set p))

-- past facts that the set lacks
listed_past : (set : ℕ → Bool) (p k : ℕ) → ((q : ℕ) → p ≤ q → q < p + k → set q ≡ false) → listed set (p + k) ≡ listed set p
listed_past set p zero h = rw add-zero refl
listed_past set p (suc k) h =
    rw add-suc (rw (listed_more set (p + k), h (p + k) (omega arith) (omega arith)) (append-nil (listed set (p + k)) ∙ listed_past set p k (λ q a b. h q a (omega arith))))

pub listed_to : (set : ℕ → Bool) (p n : ℕ) → p ≤ n → ((q : ℕ) → p ≤ q → q < n → set q ≡ false) → listed set n ≡ listed set p
listed_to set p n le h =
    let e : p + (n - p) ≡ n = omega arith in
    subst (λ m. listed set m ≡ listed set p) e (listed_past set p (n - p) (λ q a b. h q a (omega arith)))

-- the next fact of the set
pub listed_next : (set : ℕ → Bool) (p n : ℕ) (front text more : List ℕ) → text ≡ front ++ listed set p → Next set p n → more ≡ text ++ (codes " " ++ decimal n) → more ≡ front ++ listed set (n + 1)
listed_next set p n front text more e h f =
    rw (add-one, listed_more set n, h.here) (f ∙ ap (λ l. l ++ (codes " " ++ decimal n)) (e ∙ ap (λ l. front ++ l) (sym (listed_to set p n h.from h.before))) ∙ append_assoc front (listed set n) (codes " " ++ decimal n))

pub listed_none : (set : ℕ → Bool) (front text : List ℕ) → text ≡ front → text ≡ front ++ listed set 0
unfolding listed
listed_none set front text e = e ∙ sym (append-nil front)
