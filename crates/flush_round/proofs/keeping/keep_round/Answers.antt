use Rattle.flush_round.proofs.StoreFollows.{follows-now, holds-after-add}
use Rattle.flush_round.specs.KeptRounds.{HoldsAfterEnd}
use Rattle.flush_round.proofs.keeping.keep_round.Goals as goal

pub add_copied-requires : goal.add_copied-requires
add_copied-requires g c =
    let cells = g.P.CellCaller.opening in
    let number = g.P.CellCaller.number in
    let own = g.P.CellCaller.own in
    let old = c.args.caller.now in
    let new = c.copy_round.new.caller in
    let copy = c.in-Ok.ensures in
    let ready = c.requires.ready in (
      ready.0,
      ready.1.at,
      follows-now (cells old) (cells new) (number old) (number new) c.args.client c.args.size.now.shards copy.opening copy.number
          c.requires.flusher (own old) (own new) copy.more c.args.span c.args.store.now ready.0
          (g.D.Disk.view c.args.disk.now) (g.D.Disk.view c.args.other.now) ready.1 c.in-Ok.round
          c.shapes_before-shapes.result.now c.counts_before-counts.result.now c.shapes_before-shapes.ensures
          c.counts_before-counts.ensures copy.copied c.requires.told copy.history,
    )

pub returns-in-Ok-clause-kept : goal.returns-in-Ok-clause-kept
returns-in-Ok-clause-kept g c = λ kept takes.
    let cells = g.P.CellCaller.opening in
    let number = g.P.CellCaller.number in
    let own = g.P.CellCaller.own in
    let view = g.D.Disk.view in
    let old = c.args.caller.now in
    let new = c.copy_round.new.caller in
    let copy = c.in-Ok.ensures in
    let added = c.add_copied.ensures in
    let follows =
    follows-now (cells old) (cells new) (number old) (number new) c.args.client c.args.size.now.shards copy.opening copy.number
    c.requires.flusher (own old) (own new) copy.more c.args.span c.args.store.now kept (view c.args.disk.now)
    (view c.args.other.now) takes c.in-Ok.round c.shapes_before-shapes.result.now c.counts_before-counts.result.now
    c.shapes_before-shapes.ensures c.counts_before-counts.ensures copy.copied c.requires.told copy.history
    in
    coe 1 0
    (i. HoldsAfterEnd (cells new) (number new) c.args.client (own old) (own new) c.args.store.now c.add_copied.new.store kept c.args.span
    (view c.args.disk.now) (view c.args.other.now) (view c.add_copied.new.disk) (view c.add_copied.new.other)
    (c.end_of.ensures i))
    (holds-after-add (cells old) (cells new) (number old) (number new) c.args.client c.args.size.now.shards copy.opening
    copy.number c.requires.flusher (own old) (own new) copy.more c.args.span c.args.store.now kept (view c.args.disk.now)
    (view c.args.other.now) takes c.in-Ok.round c.shapes_before-shapes.result.now c.counts_before-counts.result.now
    c.shapes_before-shapes.ensures c.counts_before-counts.ensures copy.copied c.requires.told c.add_copied.new.store
    (view c.add_copied.new.disk) (view c.add_copied.new.other) c.add_copied.result (added.either kept takes.at follows)
    (added.added kept takes.at follows))
