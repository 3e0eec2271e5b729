-- The worked examples, each by one test.
use Rattle.std.proofs.Common.{ℕ, ◌≤◌, List, [], ◌∷◌, refl, arith}
use Rattle.racks.specs.Rack.{step_at}
use Rattle.cards.specs.declared.state.State.{State}
use Rattle.cards.specs.declared.state.State.TheVariants.{Waiting, InHand, Finished}
use Rattle.worked.specs.Books.{rack, one_order_book, ring}
use Rattle.worked.specs.Plans.{Laid}
use Rattle.worked.specs.Examples.{WorkedExamples, TwoLevelCalls, SideBySideCalls, two_level_task, two_level_places, two_level_rows, side_by_side, side_places, side_rows, read_unsettled, nothing_to_do, nothing_done, one_order_task, ring_task}
use Rattle.worked.proofs.Books.{task_shown, rack_is_lawful, one_order_is_lawful, ring_is_lawful}
use Rattle.worked.proofs.Tests.{authorized_shown, only_order}
use Rattle.worked.proofs.Laying.{laid_shown, timed_shown}
use Rattle.worked.proofs.Calls.{unmoved, issued_shown, drawn_shown, unfinished_shown, begun_shown, finished_shown, again_shown}
use Rattle.worked.proofs.Recasting.{recast_shown}
use Rattle.worked.proofs.Checks.{leaves_shown, ends_shown, missing_shown, lacking_shown, stuck_shown}

two_levels_shown : Laid rack two_level_task two_level_places two_level_rows (0 ∷ 1 ∷ 2 ∷ 3 ∷ []) 4
unfolding step_at
two_levels_shown = laid_shown rack rack_is_lawful two_level_task two_level_places ((0 ∷ 6 ∷ []) ∷ (4 ∷ 1 ∷ []) ∷ []) two_level_rows (0 ∷ 1 ∷ 2 ∷ 3 ∷ []) 4 refl refl

side_by_side_shown : Laid rack side_by_side side_places side_rows (0 ∷ 0 ∷ []) 1
unfolding step_at
side_by_side_shown = laid_shown rack rack_is_lawful side_by_side side_places ((0 ∷ []) ∷ (1 ∷ []) ∷ []) side_rows (0 ∷ 0 ∷ []) 1 refl refl

nothing_to_do_shown : Laid rack nothing_to_do [] [] [] 0
unfolding step_at
nothing_to_do_shown = laid_shown rack rack_is_lawful nothing_to_do [] [] [] [] 0 refl refl

two_level_calls : (span : ℕ) → 7 ≤ span → TwoLevelCalls span
unfolding step_at
two_level_calls span room =
    let rest : List State = Waiting ∷ Waiting ∷ Waiting ∷ [] in
    let start : List ℕ = 2 ∷ 3 ∷ [] in
    record {
      issued = issued_shown rack rack_is_lawful two_level_places two_level_rows span room two_level_task (0 ∷ 1 ∷ 2 ∷ 3 ∷ []) 4 4 two_levels_shown;
      drawn = drawn_shown rack rack_is_lawful two_level_places two_level_rows span room two_level_task (0 ∷ 1 ∷ 2 ∷ 3 ∷ []) 4 4 two_levels_shown refl;
      begin_1 = unfinished_shown rack rack_is_lawful two_level_places two_level_rows span room (Waiting ∷ rest) start 1 0 refl refl;
      begin_3 = unfinished_shown rack rack_is_lawful two_level_places two_level_rows span room (Waiting ∷ rest) start 3 1 refl refl;
      begin_4 = (omega arith, unmoved _);
      begin_0 = begun_shown rack rack_is_lawful two_level_places two_level_rows span room (Waiting ∷ rest) start 0 refl refl;
      finish_0 = finished_shown rack rack_is_lawful two_level_places two_level_rows span room (InHand ∷ rest) start (0 ∷ 3 ∷ []) 0 refl refl;
      begin_0_again = again_shown rack rack_is_lawful two_level_places two_level_rows span room (Finished ∷ rest) (0 ∷ 3 ∷ []) 0 refl refl;
    }

side_by_side_calls : (span : ℕ) → 7 ≤ span → SideBySideCalls span
unfolding step_at
side_by_side_calls span room =
    let start : List ℕ = 2 ∷ 3 ∷ [] in
    record {
      issued = issued_shown rack rack_is_lawful side_places side_rows span room side_by_side (0 ∷ 0 ∷ []) 1 2 side_by_side_shown;
      drawn = drawn_shown rack rack_is_lawful side_places side_rows span room side_by_side (0 ∷ 0 ∷ []) 1 2 side_by_side_shown refl;
      begin_0 = begun_shown rack rack_is_lawful side_places side_rows span room (Waiting ∷ Waiting ∷ []) start 0 refl refl;
      begin_1 = begun_shown rack rack_is_lawful side_places side_rows span room (InHand ∷ Waiting ∷ []) start 1 refl refl;
      finish_1 = finished_shown rack rack_is_lawful side_places side_rows span room (InHand ∷ InHand ∷ []) start (1 ∷ 2 ∷ []) 1 refl refl;
    }

pub examples : WorkedExamples
unfolding step_at
examples = record {
  rack_is_lawful = rack_is_lawful;
  one_order_is_lawful = one_order_is_lawful;
  ring_is_lawful = ring_is_lawful;
  tasks_are_lawful = (task_shown two_level_task refl, (task_shown side_by_side refl, (task_shown read_unsettled refl, (task_shown nothing_to_do refl, (task_shown nothing_done refl, (task_shown one_order_task refl, (task_shown ring_task refl, tt)))))));
  by_hand = (
    leaves_shown rack rack_is_lawful (2 ∷ 3 ∷ []) (0 ∷ []) (0 ∷ 3 ∷ []) refl,
    leaves_shown rack rack_is_lawful (2 ∷ 3 ∷ []) (0 ∷ 6 ∷ []) (0 ∷ 3 ∷ 4 ∷ []) refl,
    leaves_shown rack rack_is_lawful (2 ∷ 3 ∷ []) (0 ∷ 6 ∷ 4 ∷ []) (0 ∷ 3 ∷ 4 ∷ 5 ∷ []) refl,
    leaves_shown rack rack_is_lawful (2 ∷ 3 ∷ []) (0 ∷ 6 ∷ 4 ∷ 2 ∷ []) (2 ∷ 3 ∷ 4 ∷ 5 ∷ []) refl,
  );
  two_levels_shown = two_levels_shown;
  two_levels_timed = timed_shown rack two_level_places two_level_rows (0 ∷ 60 ∷ 1860 ∷ 1920 ∷ []) 1980 refl;
  two_levels_end = ends_shown rack rack_is_lawful two_level_task (0 ∷ 1 ∷ 5 ∷ []) refl;
  two_levels_recast = record {
    recast = recast_shown rack two_level_task two_level_places two_level_rows (0 ∷ 1 ∷ 2 ∷ 3 ∷ []) 4 two_levels_shown ((0 ∷ []) ∷ (6 ∷ []) ∷ (4 ∷ []) ∷ (1 ∷ []) ∷ []) refl;
    sheet = refl;
  };
  two_levels_called = two_level_calls;
  side_by_side_shown = side_by_side_shown;
  side_by_side_recast = record {
    recast = recast_shown rack side_by_side side_places side_rows (0 ∷ 0 ∷ []) 1 side_by_side_shown ((0 ∷ 1 ∷ []) ∷ []) refl;
    sheet = refl;
  };
  side_by_side_called = side_by_side_calls;
  own_adds_do_not_help = lacking_shown rack rack_is_lawful read_unsettled 0 4 4 [] refl;
  no_levels = nothing_to_do_shown;
  no_levels_recast = record { recast = recast_shown rack nothing_to_do [] [] [] 0 nothing_to_do_shown [] refl; sheet = refl };
  no_levels_goal_missing = missing_shown rack rack_is_lawful nothing_done [] 0 refl;
  one_order_only = only_order one_order_book one_order_is_lawful 0 1 refl;
  one_order = laid_shown one_order_book one_order_is_lawful one_order_task _ ((0 ∷ 1 ∷ []) ∷ (2 ∷ []) ∷ []) _ _ 3 refl refl;
  ring_pairs = (
    authorized_shown ring ring_is_lawful (0 ∷ 1 ∷ []) (1 ∷ 0 ∷ []) refl,
    authorized_shown ring ring_is_lawful (1 ∷ 2 ∷ []) (2 ∷ 1 ∷ []) refl,
    authorized_shown ring ring_is_lawful (0 ∷ 2 ∷ []) (0 ∷ 2 ∷ []) refl,
  );
  ring_has_no_order = stuck_shown ring ring_is_lawful ring_task 0 0 (1 ∷ 2 ∷ []) [] refl refl;
}
