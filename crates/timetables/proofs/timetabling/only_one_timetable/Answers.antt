use Rattle.timetables.proofs.Tables.{only_one}
use Rattle.timetables.proofs.timetabling.only_one_timetable.Goals as goal

pub returns : goal.returns
returns g c = only_one g.met.M.Measure.laws
