use Rattle.watch_holds.proofs.HolderGroups.{may-compare, may-scan}
use Rattle.watch_holds.proofs.law.holders_ask_their_shards.Goals as goal

pub returns-clause-may_scan : goal.returns-clause-may_scan
returns-clause-may_scan c = may-scan

pub returns-clause-may_compare : goal.returns-clause-may_compare
returns-clause-may_compare c = may-compare
