use Rattle.std.proofs.Common.{ap}
use Rattle.cube_run.specs.RunRecords.{RunRecord}
use Rattle.core_names.proofs.law.runs_may_leave_their_names.Goals as goal

pub returns : goal.returns
returns g c = λ asked cells caller session past run goes. record {
  opening = goes.opening;
  log = goes.from.log;
  run = goes.events;
  later = goes.from.run;
  are = ap (λ (r : RunRecord). r.names) goes.is;
}
