-- The sheet of a task, written part by part.
use Rattle.std.proofs.Common.{◌≡◌, ℕ, ◌+◌, ◌*◌, ◌<◌, List, ◌++◌, length, Err, sym, refl, ap, ◌∙◌, arith, length-append}
use Rattle.std.proofs.lemmas.List.{append_assoc}
use Rattle.sheets.specs.declared.writing.TooShort.{TooShort}
use Rattle.sheets.specs.Fields.{be16}
use Rattle.cards.specs.Cards.{size_of}
use Rattle.task_sheets.specs.Layout.{start_at}
use Rattle.task_sheets.specs.Content.{Task, list_bytes, plan_bytes, behind, total, encode}
use Rattle.task_sheets.specs.Parts.{part_numbers}
use Rattle.task_sheets.proofs.Decodes.{length_list_bytes}
use Rattle.recasts.specs.declared.layers.Layers.{Layers}
use Rattle.recasts.specs.declared.lists.Header.{Header}
use Rattle.recasts.specs.Headers.{header_bytes, HeaderOf}
use Rattle.recasts.specs.Layers.{step_of, stratum_of, levels_of, layered}
use Rattle.recasts.specs.Recasts.{SheetWritten}
use Rattle.recasts.proofs.Copies.{length_part}
use Rattle.recasts.proofs.Plans.{length_plan}
use Rattle.recasts.proofs.Rows.{length_rows}

-- a whole list takes its count and two bytes for each number
pub list_length : (bs ps : List ℕ) → length bs ≡ 2 + 2 * be16 bs 0 → part_numbers bs ≡ ps → length bs ≡ 2 + 2 * length ps
list_length bs ps w e = let n = length_part bs w in let k = ap length e in omega arith

length_sheet : (t : Task) → length (encode t) ≡ 20 + (2 + 2 * length t.start) + (2 + 2 * length t.goal) + 2 * length t.levels + 2 * total t.levels
length_sheet t =
    let rest = list_bytes t.goal ++ plan_bytes t.levels in
    let z : length (encode t) ≡ 20 + length (list_bytes t.start ++ rest) = omega arith in
    let a = length-append (list_bytes t.start) rest in
    let b = length-append (list_bytes t.goal) (plan_bytes t.levels) in
    let c = length_list_bytes t.start in
    let d = length_list_bytes t.goal in
    let e = length_plan t.levels in
    z ∙ (omega (arith, a, b, c, d, e))

pub levels_length : (l : Layers) → length (levels_of l) ≡ l.count
levels_length l = length_rows (step_of l) (stratum_of l) (size_of l.card.now) l.count

-- the header of a task
abbrev header_of : Task → List ℕ
header_of t =
    header_bytes (record {
      facts = t.facts;
      steps = t.steps;
      levels = length t.levels;
      total = total t.levels;
      goal = behind start_at t.start;
      plan = behind (behind start_at t.start) t.goal;
    })

header_as : (t : Task) (h : Header) → h.facts ≡ t.facts → h.steps ≡ t.steps → h.levels ≡ length t.levels → h.total ≡ total t.levels
    → h.goal ≡ behind start_at t.start → h.plan ≡ behind (behind start_at t.start) t.goal → header_bytes h ≡ header_of t
header_as t h a b c d e f =
    λ i. header_bytes (record { facts = a i; steps = b i; levels = c i; total = d i; goal = e i; plan = f i })

-- a sheet is its parts, one after the other
sheet_parts : (t : Task) (h : Header) → h.facts ≡ t.facts → h.steps ≡ t.steps → h.levels ≡ length t.levels → h.total ≡ total t.levels
    → h.goal ≡ behind start_at t.start → h.plan ≡ behind (behind start_at t.start) t.goal
    → ((header_bytes h ++ list_bytes t.start) ++ list_bytes t.goal) ++ plan_bytes t.levels ≡ encode t
sheet_parts t h a b c d e f =
    append_assoc (header_bytes h ++ list_bytes t.start) (list_bytes t.goal) (plan_bytes t.levels)
    ∙ append_assoc (header_bytes h) (list_bytes t.start) (list_bytes t.goal ++ plan_bytes t.levels)
    ∙ ap (λ bs. bs ++ (list_bytes t.start ++ (list_bytes t.goal ++ plan_bytes t.levels))) (header_as t h a b c d e f)

-- how long the sheet of a task with these strata is, by its header
module _ (t : Task) (l : Layers) (ss gs n : ℕ) (h : Header) (w : HeaderOf t l.count n ss gs h)
    (a : ss ≡ 2 + 2 * length t.start) (b : gs ≡ 2 + 2 * length t.goal) (c : n ≡ total (levels_of l)) where
  pub length_layered : h.plan + 2 * h.levels + 2 * h.total ≡ length (encode (layered t l))
  length_layered =
      let e = length_sheet (layered t l) in
      let k = levels_length l in
      let p = w.plan in
      let q = w.levels in
      let r = w.total in
      omega (arith, e, k)

  -- the sheet is its parts, one after the other
  pub layered_parts : ((header_bytes h ++ list_bytes t.start) ++ list_bytes t.goal) ++ plan_bytes (levels_of l) ≡ encode (layered t l)
  layered_parts =
      sheet_parts (layered t l) h w.facts w.steps (w.levels ∙ sym (levels_length l)) (w.total ∙ c)
      (omega (arith, w.goal, a)) (omega (arith, w.plan, a, b))

-- a buffer that is too short is as it was
pub short_written : (t : Task) (before : List ℕ) (e : TooShort) (n : ℕ) → n ≡ length (encode t) → (e.needed ≡ n) × (length before < n) → SheetWritten t before (Err e) before
short_written t before e n k w = (w.0 ∙ k, omega (arith, w.0, w.1), refl)
