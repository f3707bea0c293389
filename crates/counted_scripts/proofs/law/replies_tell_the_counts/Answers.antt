use Rattle.counted_scripts.proofs.Counted.{by_script, script_gains, session_gains}
use Rattle.counted_scripts.proofs.OtherReplies.{absences_stay, faults_stay}
use Rattle.counted_scripts.proofs.law.replies_tell_the_counts.Goals as goal
use Rattle.loaded_files.specs.CountedReplies.{CountsAbsence, CountsFault}

pub returns-clause-faults : goal.returns-clause-faults
returns-clause-faults c = by_script CountsFault faults_stay

pub returns-clause-absences : goal.returns-clause-absences
returns-clause-absences c = by_script CountsAbsence absences_stay

pub returns-clause-gained : goal.returns-clause-gained
returns-clause-gained c = script_gains

pub returns-clause-each : goal.returns-clause-each
returns-clause-each c = session_gains
