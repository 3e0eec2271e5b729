-- The content of a book is lawful and means the book, and a lawful content is that of the book that it means.
use Rattle.std.proofs.Common.{◌≡◌, ℕ, zero, suc, ◌<◌, ◌≤◌, true, false, ◌&&◌, ltb, List, [], ◌∷◌, length, get_or, sym, refl, ap, ◌∙◌, subst, inl, inr, arith}
use Rattle.std.specs.List.{AllByRecursion}
use Rattle.std.proofs.ByRecursion.{All-push}
use Rattle.std.proofs.lemmas.Bool.{cases_lt, lt-ltb, both_ways, and_from}
use Rattle.std.proofs.lemmas.List.{length_push, get_or_push, get_or_append_left, get_or_past}
use Rattle.books.specs.Book.{Facts, Model, StepSets, Lawful}
use Rattle.books.specs.Listed.{listed, members}
use Rattle.books.proofs.Members.{and_true, length_members, listed_members}
use Rattle.book_sheets.specs.Content.{Step, Content, LawfulList, LawfulStep, LawfulContent, empty_step, encode, content, model_of, step_in, steps_in, content_of, Same}
use Rattle.book_writer.specs.Writing.{bytes_of, Means, Again}
use Rattle.book_sheets.proofs.Lawful.{lawful_content}
use Rattle.book_sheets.proofs.Codes.{code_of_content}
use Rattle.book_sheets.proofs.Decodes.{code_passes, content_of_code}
use Rattle.book_sheets.proofs.Listing.{members_ascend, in_set}
use Rattle.book_sheets.proofs.Models.{model_lawful, same_content}

pub length_steps_in : (m : Model) (n : ℕ) → length (steps_in m n) ≡ n
length_steps_in m zero = refl
length_steps_in m (suc n) = let e = length_push (steps_in m n) (step_in m n) in let h = length_steps_in m n in omega arith

pub get_or_steps_in : (m : Model) (n a : ℕ) → a < n → get_or (steps_in m n) a empty_step ≡ step_in m a
get_or_steps_in m zero a l = absurd (omega arith)
get_or_steps_in m (suc n) a l =
    let h = length_steps_in m n in
    elim (cases_lt a n) [
      | inl k ↦ get_or_append_left (steps_in m n) (step_in m n ∷ []) empty_step a (omega arith) ∙ get_or_steps_in m n a k
      | inr k ↦ let e : n ≡ a = omega arith in get_or_push (steps_in m n) (step_in m n) empty_step a (omega arith) ∙ ap (step_in m) e
    ]

get_or_no_step : (m : Model) (n a : ℕ) → n ≤ a → get_or (steps_in m n) a empty_step ≡ empty_step
get_or_no_step m n a l = let h = length_steps_in m n in get_or_past (steps_in m n) a empty_step (omega arith)

-- the list of a set that has few facts is lawful
members_lawful : (f n : ℕ) (sets : ℕ → Facts) → StepSets f n sets → (a : ℕ) → LawfulList f (members (sets a) f)
members_lawful f n sets h a =
    record {
      few = let e = length_members (sets a) f in let k = h.few a in omega arith;
      ascending = members_ascend (sets a) f;
    }

apart_lists : (m : Model) → Lawful m → (a i j : ℕ) → i < length (members (m.adds a) m.facts) → j < length (members (m.deletes a) m.facts)
    → get_or (members (m.adds a) m.facts) i 0 ≡ get_or (members (m.deletes a) m.facts) j 0 → ⊥
apart_lists m h a i j l k e =
    let p = get_or (members (m.deletes a) m.facts) j 0 in
    let x : m.adds a p ≡ true = subst (λ q. m.adds a q ≡ true) e (in_set (m.adds a) m.facts i l) in
    let y : m.deletes a p ≡ true = in_set (m.deletes a) m.facts j k in
    both_ways (m.adds a p && m.deletes a p) (h.apart a p) (and_from (m.adds a p) (m.deletes a p) x y)

pub step_lawful : (m : Model) → Lawful m → (a : ℕ) → LawfulStep m.facts (step_in m a)
step_lawful m h a =
    record {
      needs = members_lawful m.facts m.steps m.needs h.needs a;
      adds = members_lawful m.facts m.steps m.adds h.adds a;
      deletes = members_lawful m.facts m.steps m.deletes h.deletes a;
      apart = apart_lists m h a;
      short = h.short a;
    }

steps_lawful : (m : Model) → Lawful m → (n : ℕ) → AllByRecursion (LawfulStep m.facts) (steps_in m n)
steps_lawful m h zero = tt
steps_lawful m h (suc n) = All-push (LawfulStep m.facts) (steps_in m n) (step_in m n) (steps_lawful m h n) (step_lawful m h n)

pub content_lawful : (m : Model) → Lawful m → LawfulContent (content_of m)
content_lawful m h =
    record {
      few_facts = h.few_facts;
      few_steps = let e = length_steps_in m m.steps in let k = h.few_steps in omega arith;
      each = steps_lawful m h m.steps;
    }

-- the lists of a book's steps hold what its sets do, at every number
and_all : (P : Facts) (f p : ℕ) → ((q : ℕ) → f ≤ q → P q ≡ false) → (P p && ltb p f) ≡ P p
and_all P f p h = elim (cases_lt p f) [
  | inl l ↦ and_true (P p) (ltb p f) (lt-ltb p f l)
  | inr l ↦ let e = h p l in rw e
]

sets_same : (m : Model) (sets : ℕ → Facts) (get : Step → List ℕ) → StepSets m.facts m.steps sets
    → ((a : ℕ) → get (step_in m a) ≡ members (sets a) m.facts) → get empty_step ≡ [] → (a p : ℕ)
    → listed (get (get_or (steps_in m m.steps) a empty_step)) p ≡ sets a p
sets_same m sets get h e z a p = elim (cases_lt a m.steps) [
  | inl l ↦ ap (λ s. listed (get s) p) (get_or_steps_in m m.steps a l) ∙ ap (λ ps. listed ps p) (e a)
      ∙ listed_members (sets a) m.facts p ∙ and_all (sets a) m.facts p (h.no_fact a)
  | inr l ↦ ap (λ s. listed (get s) p) (get_or_no_step m m.steps a l) ∙ ap (λ ps. listed ps p) z ∙ sym (h.no_step a p l)
]

seconds_same : (m : Model) → Lawful m → (a : ℕ) → (get_or (steps_in m m.steps) a empty_step).seconds ≡ m.seconds a
seconds_same m h a = elim (cases_lt a m.steps) [
  | inl l ↦ ap (λ s. s.seconds) (get_or_steps_in m m.steps a l)
  | inr l ↦ ap (λ s. s.seconds) (get_or_no_step m m.steps a l) ∙ sym (h.no_time a l)
]

pub content_means : (m : Model) → Lawful m → Same (model_of (content_of m)) m
content_means m h =
    record {
      facts = refl;
      steps = length_steps_in m m.steps;
      needs = sets_same m m.needs (λ s. s.needs) h.needs (λ a. refl) refl;
      adds = sets_same m m.adds (λ s. s.adds) h.adds (λ a. refl) refl;
      deletes = sets_same m m.deletes (λ s. s.deletes) h.deletes (λ a. refl) refl;
      seconds = seconds_same m h;
    }

-- the content of the book that a lawful content means is that content
pub content_again : (c : Content) → LawfulContent c → content_of (model_of c) ≡ c
content_again c h =
    let l = model_lawful c h in
    same_content (content_of (model_of c)) c (content_lawful (model_of c) l) h (content_means (model_of c) l)

-- the sheet of a book is one that opens and means it
pub sheet_means : (m : Model) → Lawful m → Means (bytes_of m) m
sheet_means m h =
    let l = content_lawful m h in
    record {
      sheet = record { lawful = l; same = refl };
      opens = code_passes (content_of m) l;
      same = subst (λ c. Same (model_of c) m) (sym (content_of_code (content_of m) l)) (content_means m h);
    }

pub again : Again
again = record {
  says = content_again;
  bytes = λ xs b o. ap encode (content_again (content xs) (lawful_content xs o)) ∙ sym (code_of_content xs b o);
}
