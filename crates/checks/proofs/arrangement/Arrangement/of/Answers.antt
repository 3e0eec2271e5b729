use Rattle.std.proofs.Common.{◌≡◌, ℕ, ◌<◌, length, get_or, refl, sym, ap, ◌∙◌, subst, arith}
use Rattle.std.proofs.lemmas.List.{length-set, length-map, get_or-map, take_all}
use Rattle.plans.specs.Places.{Precedes, Arranged}
use Rattle.plans.proofs.Arranging.{ascent}
use Rattle.checks.specs.declared.draft.PlacedStep.{PlacedStep}
use Rattle.checks.specs.Drafts.{placed, places_of}
use Rattle.checks.specs.Rows.{marked}
use Rattle.checks.specs.Tables.{blank, Exact}
use Rattle.checks.proofs.Marks.{marked_none}
use Rattle.checks.proofs.Filling.{table_exact, table_clear, table_low, table_told, all_same, copied_more, same_places}
use Rattle.checks.proofs.arrangement.Arrangement.of.Goals as goal

pub loop-v-init : goal.loop-v-init
loop-v-init c = record {
  tabled = refl;
  sized = refl;
  clear = λ u v l. marked_none 256 c.empty-before.result c.empty-before.ensures u v;
  low = λ u v l. marked_none 256 c.empty-before.result c.empty-before.ensures u v;
  exact = λ m f o u v l k. absurd (omega arith);
  copied = all_same blank 256;
}

pub loop-v-preserved : goal.loop-v-preserved
loop-v-preserved c =
    let i = c.loop-v.invariant in
    let long : c.loop-v.v < length c.loop-v.before = omega arith in
    record {
      tabled = length-set c.loop-v.before c.loop-v.v c.row_of.result ∙ i.tabled;
      sized = length-set c.loop-v.places c.loop-v.v c.index-draft-v.result.place ∙ i.sized;
      clear = table_clear c.loop-v.v c.loop-v.before i.clear i.low c.row_of.result long c.row_of.ensures.below;
      low = table_low c.loop-v.v c.loop-v.before i.clear i.low c.row_of.result long c.row_of.ensures.below;
      exact = λ m f o. table_told c.loop-v.v c.loop-v.before i.clear i.low c.row_of.result long c.row_of.ensures.below
          (Precedes m (places_of c.args.draft.now)) (c.row_of.ensures.exact m f o) (i.exact m f o);
      copied = copied_more blank (placed c.args.draft.now) c.loop-v.places c.loop-v.v c.index-draft-v.result.place
          (omega (arith, length-map c.args.draft.now (λ (s : PlacedStep). s.place))) (omega arith)
          (get_or-map (λ (s : PlacedStep). s.place) c.args.draft.now c.loop-v.v c.index-draft-v.result blank (omega arith)
          ∙ sym (ap (λ (s : PlacedStep). s.place) c.index-draft-v.is)) i.copied;
    }

pub returns : goal.returns
returns c m t w =
    let d = c.args.draft.now in
    let i = c.loop-v.invariant in
    let done : length d ≡ c.loop-v.v = omega arith in
    let same : (u : ℕ) → get_or c.loop-v.places u blank ≡ get_or (placed d) u blank =
    λ u. i.copied u ∙ ap (λ ps. get_or ps u blank) (take_all c.loop-v.v (placed d) (omega (arith, length-map d (λ (s : PlacedStep). s.place)))) in
    let e = sym (same_places (length d) c.loop-v.places (placed d) same) in
    let o = ascent m t.levels (places_of d) w.arranged in
    record {
      arranged = subst (Arranged m t.levels) e w.arranged;
      numbered = λ u l. rw (same u) (w.filled.level u l);
      exact = subst (λ o. Exact m o (marked c.loop-v.before)) e
          (λ u v l k. table_exact c.loop-v.v c.loop-v.before i.clear i.low (Precedes m (places_of d)) (i.exact m w.filled o)
          (λ x y h j. o.upward x y (omega arith) (omega arith)) u v (omega arith) (omega arith));
    }
