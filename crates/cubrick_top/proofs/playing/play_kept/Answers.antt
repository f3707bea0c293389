use Rattle.std.proofs.Common.{◌≡◌, ◌∙◌, length, map, unwrap_or, ap, arith}
use Rattle.opened_core.specs.KeptShards.{TakeAllKept}
use Rattle.played_runs.specs.LeftByRuns.{IsFullFor}
use Rattle.played_runs.specs.ReadySessions.{sentences_of}
use Rattle.cubrick_top.proofs.EndedRuns.{played-ended, same-told, unplayed-ended}
use Rattle.cubrick_top.specs.KeptRuns.{HasKeptOfRecord, HasKeptOfRun}
use Rattle.cubrick_top.specs.PlayedEnds.{PlayedEnds}
use Rattle.cubrick_top.proofs.playing.play_kept.Goals as goal

pub returns-in-Ok-clause-same : goal.returns-in-Ok-clause-same
returns-in-Ok-clause-same g c =
    let told = g.H.Shelf.told in
    let go_on = c.in-Ok.ensures.left.shelves_go_on in
    ap (map told) c.close_run.ensures.shelves
    ∙ same-told told c.args.shelves.items c.in-Ok.ran.shelves.items go_on.as_many go_on.tell

pub returns-in-Ok-clause-ends : goal.returns-in-Ok-clause-ends
returns-in-Ok-clause-ends g c =
    let size = c.new-size.result in
    let closed = c.close_run.ensures in
    let scripts = c.args.scripts in
    let many : length scripts.items ≡ size.sessions =
    omega (arith, c.new-size.ensures.sessions, c.len.ensures, scripts.ok.0) in
    let same = c.new-size.ensures.shards in
    let takes = coe 0 1 (i. TakeAllKept c.args.kept.now (same i)) c.in-Ok.ensures.takes in
    let makes = g.M.MakesRounds in
    let shelf = g.H.Shelf in
    let every = unwrap_or c.args.settings.round_every 0 in
    let said = map sentences_of scripts.items in
    coe 1 0 (i. PlayedEnds shelf.told shelf.fault_count shelf.absence_count
    (λ run. HasKeptOfRecord makes.has_kept c.args.maker (closed.maker i) run)
    (λ journal. HasKeptOfRun makes.has_kept c.args.maker (closed.maker i) c.args.kept.now c.args.settings.shards
    (length said) journal) c.args.stored c.args.kept.now c.args.settings.shards every said c.args.shelves.items
    c.close_run.result.shelves.items c.close_run.result.finish (g.K.Sink.taken c.args.sink.now)
    (g.K.Sink.taken c.close_run.new.sink) c.close_run.result.finish.fault)
    (played-ended shelf.told shelf.fault_count shelf.absence_count makes.has_kept makes.becomes c.args.stored
    c.args.kept.now size c.args.settings.shards every scripts.items c.args.shelves.items c.args.maker c.in-Ok.ran many
    same c.in-Ok.ensures.left c.close_run.result.shelves.items c.close_run.result.finish
    (g.K.Sink.taken c.args.sink.now) (g.K.Sink.taken c.close_run.new.sink) takes closed.journal closed.names
    closed.shards closed.shelves closed.left)

pub returns-in-Err-clause-ends : goal.returns-in-Err-clause-ends
returns-in-Err-clause-ends g c =
    let shelf = g.H.Shelf in
    let closed = c.close_unplayed.ensures in
    let shards = c.new-size.ensures.shards in
    let full = coe 0 1 (i. IsFullFor c.args.kept.now (shards i) c.in-Err.unplayed.cause) c.in-Err.ensures.full in
    let makes = g.M.MakesRounds in
    let maker = c.close_unplayed.result.maker in
    unplayed-ended shelf.told shelf.fault_count shelf.absence_count
    (λ run. HasKeptOfRecord makes.has_kept c.args.maker maker run)
    (λ journal. HasKeptOfRun makes.has_kept c.args.maker maker c.args.kept.now c.args.settings.shards
    (length (map sentences_of c.args.scripts.items)) journal) c.args.stored c.args.kept.now
    c.args.settings.shards (unwrap_or c.args.settings.round_every 0) (map sentences_of c.args.scripts.items)
    c.args.shelves.items c.close_unplayed.result.shelves.items c.in-Err.unplayed.cause c.close_unplayed.result.finish
    (g.K.Sink.taken c.args.sink.now) closed.fault full closed.nothing
    (closed.shelves ∙ c.in-Err.ensures.back.same_shelves)
