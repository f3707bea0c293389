use Rattle.core_serial.proofs.CubeSerial.{found-permuted}
use Rattle.core_serial.proofs.serial.queries_run_serially.Goals as goal

pub returns : goal.returns
returns c = found-permuted
