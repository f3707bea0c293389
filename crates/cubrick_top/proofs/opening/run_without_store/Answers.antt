use Rattle.std.proofs.Common.{◌∙◌, false, length, map, refl, unwrap_or, ap}
use Rattle.flush_loop.specs.declared.no_store.NoStore.{NoStore}
use Rattle.cube_rounds.specs.Stands.{kept_of_cubes}
use Rattle.played_runs.specs.ReadySessions.{sentences_of}
use Rattle.cubrick_top.proofs.KeptEnds.{ends-with}
use Rattle.cubrick_top.proofs.RoundFaults.{is-false, lost-by, not-of-record, not-of-run}
use Rattle.cubrick_top.proofs.EndedRuns.{given-back, nothing-gained}
use Rattle.cubrick_top.proofs.RefusedStores.{stays-untouched}
use Rattle.cubrick_top.specs.OpenedEnds.{no_memory, played}
use Rattle.cubrick_top.specs.PlayedEnds.{is_lost}
use Rattle.cubrick_top.proofs.opening.run_without_store.Goals as goal

pub returns-in-Ok-clause-ends : goal.returns-in-Ok-clause-ends
returns-in-Ok-clause-ends g c =
    let of_cubes = c.in-Ok.ensures.cubes ∙ ap kept_of_cubes c.as_slice.ensures.value in
    let shelf = g.H.Shelf in
    let said = map sentences_of c.args.input.scripts.items in
    let shards = c.args.settings.shards in
    let ran = c.play_kept-finish in
    let begun : NoStore = record {} in
    let maker = ran.result.maker in
    let kept = c.in-Ok.kept in
    let every = unwrap_or c.args.settings.round_every 0 in
    let before = c.args.sink.now in
    let finish = ran.result.finish in
    played kept (of_cubes, refl, refl)
    (ends-with shelf.told shelf.fault_count shelf.absence_count _ (λ run. Unit {0}) _ (λ journal. Unit {0})
    (λ run kept. tt) (λ journal kept. tt) false kept shards every said c.args.outside.shelves.items
    ran.result.shelves.items finish (g.K.Sink.taken before) (g.K.Sink.taken ran.new.sink) finish.fault
    ran.ensures.ends)
    (is-false (is_lost finish.journal.items)
    (lost-by shelf.told shelf.fault_count shelf.absence_count _ _ ⊥ (not-of-record begun maker)
    (not-of-run begun maker kept shards (length said)) false kept shards every said c.args.outside.shelves.items
    ran.result.shelves.items finish (g.K.Sink.taken before) (g.K.Sink.taken ran.new.sink) finish.fault
    ran.ensures.ends))

pub returns-in-Err-clause-ends : goal.returns-in-Err-clause-ends
returns-in-Err-clause-ends g c =
    let view = g.D.Disk.view in
    let only_now = g.met.D.Disk.only_now in
    let outside = c.args.outside in
    let finished = c.finish_unplayed.ensures in
    no_memory finished.fault (record {
      first_untouched = stays-untouched (view outside.disk) (only_now outside.disk);
      second_untouched = stays-untouched (view outside.other) (only_now outside.other);
    }) (record { journal = finished.journal; names = finished.names; shards = finished.shards })
    (given-back g.H.Shelf.fault_count g.H.Shelf.absence_count outside.shelves.items outside.shelves.items refl)
    (nothing-gained (g.K.Sink.taken c.args.sink.now))
