use Rattle.std.proofs.Common.{◌∙◌, inr, length, map, Some, Ok, Err, unwrap_or, refl, ap, true}
use Rattle.opened_store.specs.Meanwhile.{KeepTo, MayBeTaken}
use Rattle.opened_store.specs.Opened.{TakesStore}
use Rattle.played_runs.specs.ReadySessions.{sentences_of}
use Rattle.recorded_images.specs.AtEveryMoment.{TwoDisks}
use Rattle.round_store.specs.States.{WhereTold}
use Rattle.cubrick_top.proofs.EarlierDisks.{lost-earlier, record-earlier, run-earlier}
use Rattle.cubrick_top.proofs.KeptEnds.{ends-with}
use Rattle.cubrick_top.proofs.RefusedStores.{refused-ended}
use Rattle.cubrick_top.specs.KeptRuns.{KeepRecord, KeepRun}
use Rattle.cubrick_top.specs.OpenedEnds.{disks_in, played}
use Rattle.cubrick_top.proofs.opening.run_with_store.Goals as goal

pub returns-in-Ok-clause-ends : goal.returns-in-Ok-clause-ends
returns-in-Ok-clause-ends g c =
    let view = g.D.Disk.view in
    let store = c.args.store in
    let before = c.args.outside in
    let same = c.as_slice.ensures.value in
    let taken = c.take_store.new in
    let shelf = g.H.Shelf in
    let kept = c.in-Ok.opened.kept in
    let shards = c.args.settings.shards in
    let said = map sentences_of c.args.input.scripts.items in
    let ran = c.run_over_store in
    let first = disks_in before in
    let between : TwoDisks _ = record { first = taken.disk; second = taken.other } in
    let now = disks_in ran.result.outside in
    played c.in-Ok.opened.kept (record {
      opened = c.in-Ok.opened;
      takes =
          coe 0 1 (i. TakesStore store.is_new (same i) (view before.disk) (view before.other) (Ok c.in-Ok.opened))
          c.in-Ok.ensures.takes;
      keeps = refl;
      between = record { shelves = before.shelves; disk = taken.disk; other = taken.other };
      meanwhile =
          coe 0 1 (i. WhereTold (view before.disk) (view before.other) (λ f g.
          KeepTo (MayBeTaken store.is_new (same i) f g) f (view before.disk) (view taken.disk) (view before.other)
          (view taken.other))) c.in-Ok.ensures.moves;
      first_tells = c.in-Ok.ensures.first_tells;
      second_tells = c.in-Ok.ensures.second_tells;
      ends = c.run_over_store.ensures.rounds;
    })
    (ends-with shelf.told shelf.fault_count shelf.absence_count _ (λ run. KeepRecord view first between now run) _
    (λ journal. KeepRun view first between now kept shards (length said) journal)
    (record-earlier view first between now c.in-Ok.ensures.first_tells c.in-Ok.ensures.second_tells)
    (run-earlier view first between now c.in-Ok.ensures.first_tells c.in-Ok.ensures.second_tells kept shards
    (length said)) true kept shards (unwrap_or c.args.settings.round_every 0) said before.shelves.items
    ran.result.outside.shelves.items ran.result.finish (g.K.Sink.taken c.args.sink.now) (g.K.Sink.taken ran.new.sink)
    ran.result.finish.fault ran.ensures.ends)
    (lost-earlier view first between now c.in-Ok.ensures.first_count c.in-Ok.ensures.second_count
    ran.result.finish.journal.items ran.ensures.lost)

pub returns-clause-ends : goal.returns-clause-ends
returns-clause-ends g c =
    let view = g.D.Disk.view in
    let store = c.args.store in
    let before = c.args.outside in
    let same = c.as_slice.ensures.value in
    let taken = c.take_store.new in
    let finished = c.finish_unplayed.ensures in
    let shelf = g.H.Shelf in
    refused-ended view shelf.told shelf.fault_count shelf.absence_count store c.args.input.cubes.items
    c.args.settings.shards (unwrap_or c.args.settings.round_every 0) (map sentences_of c.args.input.scripts.items)
    before (record { shelves = before.shelves; disk = taken.disk; other = taken.other })
    (g.K.Sink.taken c.args.sink.now) c.finish_unplayed.result
    (record { journal = finished.journal; names = finished.names; shards = finished.shards }) refl c.in-Err.error
    (record {
      is = finished.fault ∙ ap Some c.fault_of_store.ensures;
      takes =
          coe 0 1 (i. TakesStore store.is_new (same i) (view before.disk) (view before.other) (Err c.in-Err.error))
          c.in-Err.ensures.takes;
      failed = λ fault. c.in-Err.ensures.failed (ap Err fault);
      meanwhile =
          coe 0 1 (i. WhereTold (view before.disk) (view before.other) (λ f g.
          KeepTo (MayBeTaken store.is_new (same i) f g) f (view before.disk) (view taken.disk) (view before.other)
          (view taken.other))) c.in-Err.ensures.moves;
      still = λ fault. c.in-Err.ensures.still (inr (ap Err fault));
    })
