use Rattle.std.proofs.Common.{ℕ, List, ap, map, subst}
use Rattle.std.specs.Global.{Vec}
use Rattle.linked_shards.specs.declared.cell.CoreShard.{CoreShard}
use Rattle.played_runs.specs.ReadySessions.{said_in}
use Rattle.cubrick_top.specs.Generated.{IsWrittenFirst}
use Rattle.cubrick_top.proofs.GeneratedRuns.{ended-whole}
use Rattle.cubrick_top.proofs.generating.write_generated.Goals as goal

pub returns-in-Ok-clause-ended : goal.returns-in-Ok-clause-ended
returns-in-Ok-clause-ended g c =
    ended-whole c.args.command (g.K.Sink.taken c.args.sink.now) (g.K.Sink.taken c.finish_generated.new.sink)
    c.finish_generated.result (map said_in c.args.ran.replies.items) c.args.ran.names c.args.ran.journal.items
    c.args.ran.last_round c.args.ran.shards.items c.in-Ok.text.items c.finish_generated.ensures.names
    c.finish_generated.ensures.journal (ap (λ (shards : Vec CoreShard). shards.items) c.finish_generated.ensures.shards)
    c.in-Ok.ensures.text c.args.ran.whole c.in-Ok.ensures.whole c.requires.played c.finish_generated.result.fault
    c.finish_generated.ensures.saved
    (subst (λ (text : List ℕ). IsWrittenFirst (g.K.Sink.taken c.args.sink.now) text
    (g.K.Sink.taken c.finish_generated.new.sink) c.finish_generated.result.fault) c.as_slice.ensures.value
    c.finish_generated.ensures.written)
