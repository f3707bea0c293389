use Rattle.std.proofs.Common.{◌≡◌, ◌∙◌, length, map, ap}
use Rattle.std.specs.Global.{Vec}
use Rattle.linked_shards.specs.declared.cell.CoreShard.{CoreShard}
use Rattle.played_runs.specs.ReadySessions.{said_in}
use Rattle.played_runs.specs.RunsOnRecord.{has_saved}
use Rattle.cubrick_top.proofs.GeneratedRuns.{plays}
use Rattle.cubrick_top.proofs.generating.play_generated.Goals as goal

pub returns-in-Ok-clause-played : goal.returns-in-Ok-clause-played
returns-in-Ok-clause-played g c =
    let of_run = c.in-Ok.ensures.left.of_run in
    let all : length c.in-Ok.ran.shards.items ≡ c.args.command.settings.shards =
    ap (λ (s : Vec CoreShard). length s.items) of_run.shards_are
    ∙ of_run.by_run.as_many ∙ c.new-size.ensures.shards in
    plays c.args.command c.in_ok-input.field-0.input c.in_ok-input.ensures.read c.as_slice.ensures.value
    c.in_ok-kept.ensures.cubes c.in_ok-input.ensures.shelves c.in-Ok.ran.whole
    (map said_in c.in-Ok.ran.replies.items) c.in-Ok.ran.names c.in-Ok.ran.journal.items
    (has_saved c.in-Ok.ran.last_round) c.in-Ok.ran.shards.items all c.in-Ok.ensures.left.run
