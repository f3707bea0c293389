use Rattle.std.proofs.Common.{◌+◌, true, length, map, unwrap_or}
use Rattle.played_runs.specs.ReadySessions.{sentences_of}
use Rattle.recorded_images.proofs.ToldDisks.{disks-of}
use Rattle.stored_rounds.specs.RoundsInStore.{HasFailedDisk}
use Rattle.stored_rounds.specs.declared.stored.StoredRounds.{StoredRounds}
use Rattle.cubrick_top.proofs.KeptEnds.{ends-with, has_kept, record-kept, run-kept}
use Rattle.cubrick_top.proofs.RoundFaults.{failed-of-record, failed-of-run, lost-by}
use Rattle.cubrick_top.specs.KeptRuns.{HasKeptOfRecord, HasKeptOfRun, KeepRecord, KeepRun}
use Rattle.cubrick_top.specs.OpenedEnds.{disks_in}
use Rattle.cubrick_top.proofs.opening.run_over_store.Goals as goal

pub play_kept-finish-requires-clause-keeps : goal.play_kept-finish-requires-clause-keeps
play_kept-finish-requires-clause-keeps g c lifetimes outlives =
    let shards = c.args.settings.shards in
    let sessions = length c.args.scripts.items in
    λ cells over.
    c.a_store_keeps_rounds_of_its_core.ensures c.args.opened.kept shards sessions (sessions + 1 + shards) cells
    (record {
      store = c.args.opened.store;
      first = c.args.outside.disk;
      second = c.args.outside.other;
      alloc = c.args.alloc;
    }) c.requires.kept over c.requires.at

pub returns-clause-ends : goal.returns-clause-ends
returns-clause-ends g c =
    let view = g.D.Disk.view in
    let shelf = g.H.Shelf in
    let kept = c.args.opened.kept in
    let shards = c.args.settings.shards in
    let said = map sentences_of c.args.scripts.items in
    let played = c.play_kept-finish in
    let maker = played.result.maker in
    let first = disks_in c.args.outside in
    let now = disks-of maker in
    ends-with shelf.told shelf.fault_count shelf.absence_count _ (λ run. KeepRecord view first first now run) _
    (λ journal. KeepRun view first first now kept shards (length said) journal)
    (record-kept view (record {
      store = c.args.opened.store;
      first = c.args.outside.disk;
      second = c.args.outside.other;
      alloc = c.args.alloc;
    }) maker c.a_store_keeps_the_record_at_every_moment.ensures)
    (run-kept view (record {
      store = c.args.opened.store;
      first = c.args.outside.disk;
      second = c.args.outside.other;
      alloc = c.args.alloc;
    }) maker c.a_store_keeps_the_events_at_every_moment.ensures kept shards (length said)) true kept
    shards (unwrap_or c.args.settings.round_every 0) said c.args.outside.shelves.items played.result.shelves.items
    played.result.finish (g.K.Sink.taken c.args.sink.now) (g.K.Sink.taken played.new.sink) played.result.finish.fault
    played.ensures.ends

pub returns-clause-lost : goal.returns-clause-lost
returns-clause-lost g c = λ lost.
    let view = g.D.Disk.view in
    let shelf = g.H.Shelf in
    let kept = c.args.opened.kept in
    let shards = c.args.settings.shards in
    let said = map sentences_of c.args.scripts.items in
    let played = c.play_kept-finish in
    let begun : StoredRounds _ = record {
      store = c.args.opened.store;
      first = c.args.outside.disk;
      second = c.args.outside.other;
      alloc = c.args.alloc;
    } in
    let maker = played.result.maker in
    lost-by shelf.told shelf.fault_count shelf.absence_count
    (λ run. HasKeptOfRecord (has_kept view begun maker) begun maker run)
    (λ journal. HasKeptOfRun (has_kept view begun maker) begun maker kept shards (length said) journal)
    (HasFailedDisk view begun maker) (failed-of-record view begun maker)
    (failed-of-run view begun maker kept shards (length said)) true kept shards
    (unwrap_or c.args.settings.round_every 0) said c.args.outside.shelves.items played.result.shelves.items
    played.result.finish (g.K.Sink.taken c.args.sink.now) (g.K.Sink.taken played.new.sink) played.result.finish.fault
    played.ensures.ends lost
