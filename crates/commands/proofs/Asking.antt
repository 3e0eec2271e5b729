-- Which words ask for which command.
use Rattle.std.proofs.Common.{◌≡◌, ℕ, ◌+◌, ◌*◌, List, [], ◌∷◌, get_or, Some, None, codes, Option, sym, ap, ◌∙◌, subst, arith}
use Rattle.scripts.specs.Lines.{Writes, Reads}
use Rattle.commands.specs.declared.command.Command.{Command}
use Rattle.commands.specs.declared.command.Command.TheVariants.{List as Listing, Rack, Check, Recast, Run, Explain, Help}
use Rattle.commands.specs.declared.command.Output.{Output}
use Rattle.commands.specs.Words.{NamesNumber, NamesRack, AsksNumber, AsksRack, AsksCommand, Asks}

pub number_alone : (ws more : List (List ℕ)) (w : List ℕ) (r : Option ℕ) → ws ≡ w ∷ more → more ≡ [] → Reads w r → AsksNumber ws r
number_alone ws more w None e f h = λ n s. let d : s.0 ≡ w = cc in h n (subst (λ (ds : List ℕ). Writes ds n) d s.2)
number_alone ws more w (Some n) e f h = (w, e ∙ ap (λ l. w ∷ l) f, h)

rest_same : (w v : List ℕ) (xs ys : List (List ℕ)) → w ∷ xs ≡ v ∷ ys → xs ≡ ys
rest_same w v xs ys e = cc

first_same : (w v : List ℕ) (xs ys : List (List ℕ)) → w ∷ xs ≡ v ∷ ys → w ≡ v
first_same w v xs ys e = cc

-- the first two letters tell the commands apart
apart : (w v : List ℕ) (xs ys : List (List ℕ)) → w ∷ xs ≡ v ∷ ys → get_or w 0 0 * 1000 + get_or w 1 0 ≡ get_or v 0 0 * 1000 + get_or v 1 0
apart w v xs ys e = ap (λ l. get_or l 0 0 * 1000 + get_or l 1 0) (first_same w v xs ys e)

rack_none : (ws : List (List ℕ)) → ((loggers baths : ℕ) (o : Output) → NamesRack ws loggers baths o → ⊥) → (a : Command) → Asks (codes "rack" ∷ ws) a → ⊥
rack_none ws h Listing s = let z : ◌≡◌ {A = ℕ} 0 1 = cc in omega arith
rack_none ws h (Rack loggers baths o) s = h loggers baths o (subst (λ (l : List (List ℕ)). NamesRack l loggers baths o) (sym (rest_same (codes "rack") (codes "rack") ws s.0 s.1)) s.2)
rack_none ws h Check s = let z : ◌≡◌ {A = ℕ} 114097 99104 = apart (codes "rack") (codes "check") ws [] s in omega arith
rack_none ws h (Recast o) s = let z : ◌≡◌ {A = ℕ} 114097 114101 = apart (codes "rack") (codes "recast") ws s.0 s.1 in omega arith
rack_none ws h Run s = let z : ◌≡◌ {A = ℕ} 114097 114117 = apart (codes "rack") (codes "run") ws [] s in omega arith
rack_none ws h (Explain n) s = let z : ◌≡◌ {A = ℕ} 114097 101120 = apart (codes "rack") (codes "explain") ws s.0 s.1 in omega arith
rack_none ws h Help s = let z : ◌≡◌ {A = ℕ} 114097 104101 = apart (codes "rack") (codes "help") ws [] s in omega arith

explain_none : (ws : List (List ℕ)) → ((n : ℕ) → NamesNumber ws n → ⊥) → (a : Command) → Asks (codes "explain" ∷ ws) a → ⊥
explain_none ws h Listing s = let z : ◌≡◌ {A = ℕ} 0 1 = cc in omega arith
explain_none ws h (Rack loggers baths o) s = let z : ◌≡◌ {A = ℕ} 101120 114097 = apart (codes "explain") (codes "rack") ws s.0 s.1 in omega arith
explain_none ws h Check s = let z : ◌≡◌ {A = ℕ} 101120 99104 = apart (codes "explain") (codes "check") ws [] s in omega arith
explain_none ws h (Recast o) s = let z : ◌≡◌ {A = ℕ} 101120 114101 = apart (codes "explain") (codes "recast") ws s.0 s.1 in omega arith
explain_none ws h Run s = let z : ◌≡◌ {A = ℕ} 101120 114117 = apart (codes "explain") (codes "run") ws [] s in omega arith
explain_none ws h (Explain n) s = h n (subst (λ (l : List (List ℕ)). NamesNumber l n) (sym (rest_same (codes "explain") (codes "explain") ws s.0 s.1)) s.2)
explain_none ws h Help s = let z : ◌≡◌ {A = ℕ} 101120 104101 = apart (codes "explain") (codes "help") ws [] s in omega arith

pub rack_asked : (words ws : List (List ℕ)) (w : List ℕ) (r : Option Command) → words ≡ w ∷ ws → w ≡ codes "rack" → AsksRack ws r → AsksCommand words r
rack_asked words ws w None e f h = subst (λ (l : List (List ℕ)). (a : Command) → Asks l a → ⊥) (sym (e ∙ ap (λ v. v ∷ ws) f)) (rack_none ws h)
rack_asked words ws w (Some a) e f h = subst (λ (l : List (List ℕ)). Asks l a) (sym (e ∙ ap (λ v. v ∷ ws) f)) h

pub explain_unasked : (words ws : List (List ℕ)) (w : List ℕ) → words ≡ w ∷ ws → w ≡ codes "explain" → ((n : ℕ) → NamesNumber ws n → ⊥) → (a : Command) → Asks words a → ⊥
explain_unasked words ws w e f h = subst (λ (l : List (List ℕ)). (a : Command) → Asks l a → ⊥) (sym (e ∙ ap (λ v. v ∷ ws) f)) (explain_none ws h)

pub no_loggers : (words more : List (List ℕ)) (w : List ℕ) → words ≡ w ∷ more → ((n : ℕ) → Writes w n → ⊥) → (loggers baths : ℕ) (o : Output) → NamesRack words loggers baths o → ⊥
no_loggers words more w e h loggers baths o s = h loggers (subst (λ (ds : List ℕ). Writes ds loggers) (first_same s.0 w (s.1 ∷ s.2) more (sym s.3 ∙ e)) s.4)

pub no_baths : (words more rest : List (List ℕ)) (w v : List ℕ) → words ≡ w ∷ more → more ≡ v ∷ rest → ((n : ℕ) → Writes v n → ⊥) → (loggers baths : ℕ) (o : Output) → NamesRack words loggers baths o → ⊥
no_baths words more rest w v e f h loggers baths o s =
    h baths (subst (λ (ds : List ℕ). Writes ds baths) (first_same s.1 v s.2 rest (rest_same s.0 w (s.1 ∷ s.2) more (sym s.3 ∙ e) ∙ f)) s.5)
