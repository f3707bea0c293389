use Rattle.core_serial.proofs.CubeSerial.{found-stands, found-table}
use Rattle.core_serial.proofs.serial.answers_are_plain_folds.Goals as goal

pub returns-clause-stands : goal.returns-clause-stands
returns-clause-stands c = found-stands

pub returns-clause-table : goal.returns-clause-table
returns-clause-table c = found-table
