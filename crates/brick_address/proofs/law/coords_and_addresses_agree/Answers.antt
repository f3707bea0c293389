use Rattle.brick_address.proofs.Bricks.{has_address, is_address, each_coord}
use Rattle.brick_address.proofs.law.coords_and_addresses_agree.Goals as goal

pub returns-clause-there : goal.returns-clause-there
returns-clause-there c = has_address

pub returns-clause-back : goal.returns-clause-back
returns-clause-back c = is_address

pub returns-clause-each : goal.returns-clause-each
returns-clause-each c = each_coord
