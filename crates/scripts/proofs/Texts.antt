-- The lines of a text, one after the other.
use Rattle.std.proofs.Common.{◌≡◌, ℕ, zero, suc, ◌<◌, Bool, true, false, cond, eqb, List, [], ◌∷◌, ◌++◌, length, get_or, take, drop, take-append-drop, Some, None, Option, MatchOption, sym, refl, ap, ◌∙◌, suc-le-suc, zero-le, arith, length-append, ne_eqb}
use Rattle.std.specs.Str.Pattern.{FindsChar, IsSplitAtFirstMatch}
use Rattle.std.proofs.lemmas.Str.Pattern.{NoCharPasses-char, drop_at_char}
use Rattle.scripts.specs.Texts.{lines_of}

-- no line ends in the text
abbrev pub Unended : List ℕ → Type 0
Unended xs = (i : ℕ) → i < length xs → get_or xs i 0 ≡ 10 → ⊥

tail_unended : (x : ℕ) (xs : List ℕ) → Unended (x ∷ xs) → Unended xs
tail_unended x xs h i lt e = h (suc i) (suc-le-suc lt) e

no_end : (x : ℕ) (xs : List ℕ) → Unended (x ∷ xs) → eqb x 10 ≡ false
no_end x xs h = ne_eqb x 10 (h zero (suc-le-suc zero-le))

-- up to the first byte 10
lines_ended : (xs ys : List ℕ) → Unended xs → lines_of (xs ++ (10 ∷ ys)) ≡ xs ∷ lines_of ys
unfolding lines_of
lines_ended [] ys h = refl
lines_ended (x ∷ xs) ys h = rw (no_end x xs h, lines_ended xs ys (tail_unended x xs h))

-- a last line without it
lines_unended : (x : ℕ) (xs : List ℕ) → Unended (x ∷ xs) → lines_of (x ∷ xs) ≡ (x ∷ xs) ∷ []
unfolding lines_of
lines_unended x [] h = rw (no_end x [] h)
lines_unended x (y ∷ ys) h = rw (no_end x (y ∷ ys) h, lines_unended y ys (tail_unended x (y ∷ ys) h))

pub first_ended : (text line after : List ℕ) → text ≡ line ++ (10 ∷ after) → Unended line → lines_of text ≡ line ∷ lines_of after
first_ended text line after e h = ap lines_of e ∙ lines_ended line after h

pub first_unended : (text : List ℕ) → Unended text → 0 < length text → lines_of text ≡ text ∷ lines_of []
unfolding lines_of
first_unended [] h lt = absurd (omega arith)
first_unended (x ∷ xs) h lt = lines_unended x xs h

pub shorter_after : (text line after : List ℕ) → text ≡ line ++ (10 ∷ after) → length after < length text
shorter_after text line after e = omega (arith, simp length-append at (ap length e))

-- the lines that are left, where the text may have more
abbrev pub left : Bool → List ℕ → List (List ℕ)
left more text = cond more (lines_of text) []

none_left : (more : Bool) (text : List ℕ) → (more ≡ true → length text ≡ 0) → left more text ≡ []
unfolding lines_of
none_left true [] h = refl
none_left true (x ∷ xs) h = absurd (let e = h refl in omega arith)
none_left false text h = refl

ended_none : (w : List ℕ) (o : Option (ℕ × ℕ)) → FindsChar 10 w o → MatchOption o (length w ≡ 0) (λ q. q.1 ≡ 0) → length w ≡ 0
ended_none w None f e = e
ended_none w (Some q) f e = absurd (omega (arith, f.1.ends, e))

next_at : (w x rest : List ℕ) (more : Bool) (o : Option (ℕ × ℕ)) → FindsChar 10 w o
    → MatchOption o ((x ≡ w) × (more ≡ false)) (λ q. 0 < q.1 → (x ≡ take q.0 w) × (more ≡ true) × (rest ≡ drop q.1 w))
    → (length x ≡ 0 → more ≡ true) → lines_of w ≡ x ∷ left more rest
unfolding lines_of
next_at w [] rest more None f e some = let z = some refl in cc
next_at w (y ∷ ys) rest more None f e some =
    rw e.1 (let h : length (y ∷ ys) ≡ length w = ap length e.0 in first_unended w (λ i lt. NoCharPasses-char 10 w i f (omega arith) lt) (omega arith) ∙ ap (λ l. l ∷ []) (sym e.0))
next_at w x rest more (Some q) f e some =
    let p = drop_at_char 10 w q.0 q.1 f.1 (omega arith) in
    let h = e (omega (arith, f.1.ends)) in
    let u = first_ended w (take q.0 w) (drop q.1 w) (sym (take-append-drop q.0 w) ∙ ap (λ l. take q.0 w ++ l) p) (λ i lt. NoCharPasses-char 10 (take q.0 w) i f.0 (omega arith) lt) in
    rw (h.0, h.1, h.2) u

-- the iterator has more, and gives the next line
pub next_line : (w x rest : List ℕ) (now more : Bool) → now ≡ true → IsSplitAtFirstMatch (FindsChar 10) w x more rest → (length x ≡ 0 → more ≡ true) → left now w ≡ x ∷ left more rest
next_line w x rest now more e h some = rw e (next_at w x rest more h.1.0 h.1.1 h.1.2 some)

-- no line is left where the iterator gives none
pub no_line : (w : List ℕ) (more : Bool)
    → (more ≡ true → (o : Option (ℕ × ℕ)) × FindsChar 10 w o × MatchOption o (length w ≡ 0) (λ q. q.1 ≡ 0)) → left more w ≡ []
no_line w more h = none_left more w (λ e. ended_none w (h e).0 (h e).1 (h e).2)
