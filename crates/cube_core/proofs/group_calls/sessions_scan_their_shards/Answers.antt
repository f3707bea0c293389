use Rattle.cube_core.proofs.Groups.{may-scan, scanned}
use Rattle.cube_core.proofs.group_calls.sessions_scan_their_shards.Goals as goal

pub returns-clause-may_scan : goal.returns-clause-may_scan
returns-clause-may_scan c = may-scan

pub returns-clause-scanned : goal.returns-clause-scanned
returns-clause-scanned c = scanned
