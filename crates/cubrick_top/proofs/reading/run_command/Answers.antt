use Rattle.std.proofs.Common.{◌∙◌, ℕ, ◌≤◌, List, length, drop, map, Some, unwrap_or, ap, refl, arith}
use Rattle.std.specs.Vec.{with_item}
use Rattle.played_runs.specs.ReadySessions.{sentences_of}
use Rattle.run_inputs.specs.ReadInputs.{GiveRunInput}
use Rattle.cubrick_top.specs.RunEnds.{was_read}
use Rattle.cubrick_top.specs.declared.fault.Fault.{Fault}
use Rattle.cubrick_top.proofs.ReadRuns.{opened-as, reads-input, some-sentences}
use Rattle.cubrick_top.proofs.ReadShelves.{first-and-rest, set-first}
use Rattle.cubrick_top.proofs.UnreadRuns.{gains-nothing, unread}
use Rattle.cubrick_top.proofs.reading.run_command.Goals as goal

pub returns-in-Ok-clause-ends : goal.returns-in-Ok-clause-ends
returns-in-Ok-clause-ends g c =
    let shelves = c.args.outside.shelves.items in
    let many = c.requires.shelves in
    let some : 1 ≤ length shelves = omega (arith, many) in
    let were = first-and-rest shelves c.index_mut.result.now some c.index_mut.ensures.value in
    let count = c.in-Ok.ensures.count in
    let asked = c.requires.some in
    let all = ap (λ (scripts : List (List ℕ)). length scripts) c.as_slice.ensures in
    let scripts : 1 ≤ length c.in-Ok.input.scripts.items = omega (arith, count, asked, all) in
    was_read c.in-Ok.input
    (reads-input g.H.Shelf.told g.H.Shelf.call_list g.H.Shelf.fault_count g.H.Shelf.absence_count g.D.Disk.view
    c.args.command c.args.outside c.index_mut.result.now (drop 1 shelves) c.in-Ok.input c.in-Ok.ensures.ends
    c.as_str.ensures.bytes c.as_slice.ensures were)
    (opened-as g.D.Disk.view g.H.Shelf.told g.H.Shelf.fault_count g.H.Shelf.absence_count c.args.command.store
    c.in-Ok.input.cubes.items c.args.command.settings.shards (unwrap_or c.args.command.settings.round_every 0)
    (map sentences_of c.in-Ok.input.scripts.items) (some-sentences c.in-Ok.input.scripts.items scripts) c.args.outside
    c.run_input.result.outside (g.K.Sink.taken c.args.sink.now) (g.K.Sink.taken c.run_input.new.sink)
    c.run_input.result.finish c.read_run_files.new.shelf c.index_mut.result.now (drop 1 shelves) c.in-Ok.ensures.same
    c.in-Ok.ensures.faults c.in-Ok.ensures.absences were c.run_input.ensures.ends
    (set-first shelves c.read_run_files.new.shelf some) refl refl)

pub returns-clause-ends : goal.returns-clause-ends
returns-clause-ends g c =
    let shelves = c.args.outside.shelves.items in
    let many = c.requires.shelves in
    let some : 1 ≤ length shelves = omega (arith, many) in
    let were = first-and-rest shelves c.index_mut.result.now some c.index_mut.ensures.value in
    unread g.H.Shelf.told g.H.Shelf.call_list g.H.Shelf.fault_count g.H.Shelf.absence_count g.D.Disk.view
    c.args.command c.args.outside
    (record {
      shelves = with_item c.args.outside.shelves 0 c.read_run_files.new.shelf;
      disk = c.args.outside.disk;
      other = c.args.outside.other;
    })
    c.read_run_files.new.shelf c.index_mut.result.now (drop 1 shelves) were
    (set-first shelves c.read_run_files.new.shelf some) refl refl (g.K.Sink.taken c.args.sink.now)
    (g.K.Sink.taken c.args.sink.now) c.finish_unplayed.result
    (record {
      journal = c.finish_unplayed.ensures.journal;
      names = c.finish_unplayed.ensures.names;
      shards = c.finish_unplayed.ensures.shards;
    })
    (gains-nothing (g.K.Sink.taken c.args.sink.now)) (GiveRunInput c.as_str.result.now c.as_slice.result.now)
    c.in-Err.error c.in-Err.ensures.ends
    (c.finish_unplayed.ensures.fault ∙ ap (λ (fault : Fault). Some fault) c.fault_of_file.ensures)
    c.as_str.ensures.bytes c.as_slice.ensures c.in-Err.ensures.faults c.in-Err.ensures.absences
