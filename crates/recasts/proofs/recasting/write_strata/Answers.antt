use Rattle.task_sheets.specs.Opened.{task_of}
use Rattle.task_sheets.proofs.Items.{sheet_lawful}
use Rattle.recasts.proofs.Strata.{recast_written}
use Rattle.recasts.proofs.recasting.write_strata.Goals as goal

pub returns : goal.returns
returns c =
    let t = task_of c.args.task.now in
    let card = c.args.card.now in
    let begins = c.strata.new.begins in
    let count = c.in_ok-end.end.count in
    let strata = c.in_ok-end.ensures.1 in
    record {
      strata = record { begins = begins; count = count; strata = strata; written = c.write_layers.ensures };
      recast = λ m book accepted places. recast_written m t (sheet_lawful c.args.task.now) card begins count places strata book accepted _ _ _ c.write_layers.ensures;
    }
