-- A script read line by line.
use Rattle.std.proofs.Common.{◌≡◌, ℕ, suc, List, [], ◌∷◌, ◌++◌, length, sym, refl, ap, ◌∙◌, subst, append_assoc, append-nil}
use Rattle.cards.specs.declared.request.Request.{Request}
use Rattle.scripts.specs.Lines.{Says}
use Rattle.scripts.specs.Scripts.{Ask}
use Rattle.scripts.specs.Texts.{lines_of}

-- one line more
ask_push : (ls : List (List ℕ)) (qs : List Request) (l : List ℕ) (q : Request) → Ask ls qs → Says l q → Ask (ls ++ (l ∷ [])) (qs ++ (q ∷ []))
ask_push [] [] l q h s = (s, tt)
ask_push [] (p ∷ qs) l q h s = absurd h
ask_push (k ∷ ls) [] l q h s = absurd h
ask_push (k ∷ ls) (p ∷ qs) l q h s = (h.0, ask_push ls qs l q h.1 s)

pub ask_length : (ls : List (List ℕ)) (qs : List Request) → Ask ls qs → length ls ≡ length qs
ask_length [] [] h = refl
ask_length [] (p ∷ qs) h = absurd h
ask_length (k ∷ ls) [] h = absurd h
ask_length (k ∷ ls) (p ∷ qs) h = ap (λ n. suc n) (ask_length ls qs h.1)

pub ask_pushed : (ls : List (List ℕ)) (qs ps : List Request) (l : List ℕ) (q : Request) → ps ≡ qs ++ (q ∷ []) → Ask ls qs → Says l q → Ask (ls ++ (l ∷ [])) ps
ask_pushed ls qs ps l q e h s = subst (λ ks. Ask (ls ++ (l ∷ [])) ks) (sym e) (ask_push ls qs l q h s)

-- the lines read, the next one, and those after it
pub lines_next : (text line : List ℕ) (read left more : List (List ℕ)) → lines_of text ≡ read ++ left → left ≡ line ∷ more → lines_of text ≡ read ++ (line ∷ more)
lines_next text line read left more e f = e ∙ ap (λ ls. read ++ ls) f

pub lines_more : (text line : List ℕ) (read left more : List (List ℕ)) → lines_of text ≡ read ++ left → left ≡ line ∷ more → lines_of text ≡ (read ++ (line ∷ [])) ++ more
lines_more text line read left more e f = lines_next text line read left more e f ∙ sym (append_assoc read (line ∷ []) more)

-- all lines are read where none is left
pub ask_all : (text : List ℕ) (read : List (List ℕ)) (more : List (List ℕ)) (qs : List Request) → lines_of text ≡ read ++ more → more ≡ [] → Ask read qs → Ask (lines_of text) qs
ask_all text read more qs e none h = subst (λ ls. Ask ls qs) (sym (e ∙ ap (λ ls. read ++ ls) none ∙ append-nil read)) h
