use Rattle.std.proofs.Common.{map}
use Rattle.opened_callers.proofs.ToldSizes.{sessions-told}
use Rattle.linked_shards.specs.CellShards.{CoreShardStands}
use Rattle.scripted_ends.specs.PlayedHistories.{IsRunOfHistory}
use Rattle.shard_events.specs.ShardsInRuns.{FitsShard, ShardAnswerSays}
use Rattle.core_scripts.proofs.PlayedWorks.{all-played}
use Rattle.core_scripts.specs.ScriptWorks.{script_in}
use Rattle.core_scripts.specs.ScriptsOnThreads.{replies_in}
use Rattle.core_scripts.proofs.on_record.scripts_on_threads_end_in_a_run.Goals as goal

pub returns : goal.returns
returns g c = λ kept shards sessions every cells works shelves maker ran by_file over opens are tells h begun whole o opened.
    let told = g.H.Shelf.told in
    let left = h.runs o opened in
    let events = left.to.es in
    let history : IsRunOfHistory FitsShard CoreShardStands ShardAnswerSays cells o h.log events = record {
      opens = opened;
      events = left.to.events;
      is_run = left.to.run;
      cubes =
          c.an_opened_core_opens_with_its_cubes.ensures kept shards sessions cells by_file over o h.log events opened
          left.to.events left.to.run;
    } in
    c.scripts_end_in_a_run.ensures (λ session. record { shelf = shelves session })
    cells o h.log events every (map script_in works) (map replies_in ran.sessions.items) history
    (all-played told g.H.Shelf.fault_count g.H.Shelf.absence_count cells h.log sessions every works
    ran.sessions.items shelves o (sessions-told kept shards sessions cells over o h.log opened) are tells h.order.as_many
    (λ caller low.
    c.an_opened_core_knows_its_callers.ensures.client kept shards sessions caller cells over opens low)
    ran.began begun h.order.played whole h.order.plays)
