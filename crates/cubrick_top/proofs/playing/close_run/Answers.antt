use Rattle.std.proofs.Common.{◌≡◌, ℕ, map}
use Rattle.cube_journal.specs.Counters.{counters}
use Rattle.cube_journal.specs.WholeText.{whole_text}
use Rattle.played_runs.specs.ReadySessions.{said_in}
use Rattle.cubrick_top.specs.PlayedEnds.{IsLeft}
use Rattle.cubrick_top.proofs.EndedRuns.{few-if-whole}
use Rattle.cubrick_top.proofs.playing.close_run.Goals as goal

pub write_run-fault-requires-clause-few : goal.write_run-fault-requires-clause-few
write_run-fault-requires-clause-few g c =
    let ran = c.args.ran in
    rw c.as_slice.ensures.value (few-if-whole ran.whole ran.replies.items c.requires.few)

pub returns-clause-left : goal.returns-clause-left
returns-clause-left g c =
    let ran = c.args.ran in
    let replies = c.as_slice.ensures.value in
    let journal = c.as_slice-2.ensures.value in
    coe 0 1 (i. (safe : ℕ) → ran.counters ≡ counters safe (journal i)
    → IsLeft c.args.stored ran.whole (journal i) ran.last_round (whole_text safe (map said_in (replies i)) (journal i))
    (g.K.Sink.taken c.args.sink.now) (g.K.Sink.taken c.write_run-fault.new.sink) c.write_run-fault.result)
    c.write_run-fault.ensures.left
