use Rattle.std.proofs.Common.{◌∙◌, ◌+◌, ◌-◌, ap, length, IfOk, ℕ, List}
use Rattle.core_names.specs.CoreEncoders.{MayAskForCodes}
use Rattle.core_states.specs.LeftBehind.{AsksForNone, GoOnByCalls}
use Rattle.cube_core.specs.declared.cell.CoreCell.{CoreCell}
use Rattle.cube_language.specs.declared.decl.Decl.{Decl}
use Rattle.cube_values.specs.Batches.{Batch}
use Rattle.job_groups.specs.AskedEach.{AreShardMails}
use Rattle.linked_shards.specs.CellShards.{CoreShardStands}
use Rattle.linked_shards.specs.declared.cell.CoreShard.{CoreShard}
use Rattle.session_groups.specs.ShardGroups.{HoldsOpenWriter}
use Rattle.shard_events.specs.ShardsInRuns.{FitsShard, ShardAnswerSays}
use Rattle.loaded_batches.specs.LoadFronts.{HoldsAfterReading, IsAfterReading}
use Rattle.loaded_batches.specs.LoadingCalls.{ArePosted, GoesOnLoading}
use Rattle.loaded_batches.specs.declared.turns.Reading.TheVariants as reading
use Rattle.loaded_batches.proofs.LoadTurns.{turn-posted}
use Rattle.loaded_batches.proofs.LoadingMoments.{loading-both}
use Rattle.loaded_batches.proofs.LookedAtTexts.{such-then-none}
use Rattle.loaded_batches.proofs.ReadBeside.{on-err}
use Rattle.loaded_batches.proofs.ToldRows.{may-ask-still, may-put-into}
use Rattle.loaded_batches.proofs.TurnsOfCallers.{before-of, now-of}
use Rattle.loaded_batches.proofs.batches.load_turn.Goals as goal

pub read_beside-requires-clause-waits : goal.read_beside-requires-clause-waits
read_beside-requires-clause-waits g c = record { writer = c.args.writer.now; holds = c.requires.holds }

pub read_beside-requires-clause-dims : goal.read_beside-requires-clause-dims
read_beside-requires-clause-dims g c =
    ap (λ (b : Batch). b.dims) c.new-rows.ensures ∙ c.len.ensures
    ∙ ap (λ (d : Decl). length d.dims) c.decl-decl.ensures.decl

pub read_beside-requires-clause-width : goal.read_beside-requires-clause-width
read_beside-requires-clause-width g c =
    ap (λ (b : Batch). b.width) c.new-rows.ensures ∙ c.len-2.ensures
    ∙ ap (λ (d : Decl). length d.metrics) c.decl-decl.ensures.decl

pub returns-in_err-last-clause-goes : goal.returns-in_err-last-clause-goes
returns-in_err-last-clause-goes g c = c.read_beside.ensures.goes c.args.writer.now.epoch

pub returns-in_err-last-clause-open : goal.returns-in_err-last-clause-open
returns-in_err-last-clause-open g c =
    on-err (HoldsOpenWriter (g.P.CellCaller.opening c.read_beside.new.caller)
    (g.P.CellCaller.number c.read_beside.new.caller) c.args.session (g.P.CellCaller.own c.read_beside.new.caller)
    c.args.writer.now) c.from_residual.result (c.read_beside.ensures.open c.args.writer.now c.requires.holds)

pub returns-in-TooMany-clause-goes : goal.returns-in-TooMany-clause-goes
returns-in-TooMany-clause-goes g c = c.read_beside.ensures.goes c.args.writer.now.epoch

pub returns-in-TooMany-clause-holds : goal.returns-in-TooMany-clause-holds
returns-in-TooMany-clause-holds g c = c.read_beside.ensures.open c.args.writer.now c.requires.holds

pub returns-in-TooMany-clause-turn : goal.returns-in-TooMany-clause-turn
returns-in-TooMany-clause-turn g c =
    let opening = g.P.CellCaller.opening in
    let number = g.P.CellCaller.number in
    let own = g.P.CellCaller.own in
    let cells = opening c.args.caller.now in
    let caller = number c.args.caller.now in
    let e = c.read_beside.ensures in
    let mid = c.read_beside.new in
    coe 0 1 (i. IsAfterReading (opening mid.caller) (number mid.caller) c.args.place c.args.cube.now c.args.allowed
    (own mid.caller) c.args.load.now mid.load c.args.bad.now mid.bad mid.batch.rows (c.in-TooMany.is i))
    c.in_ok-last.ensures.read

pub returns-in-ShardFull-clause-goes : goal.returns-in-ShardFull-clause-goes
returns-in-ShardFull-clause-goes g c = c.read_beside.ensures.goes c.args.writer.now.epoch

pub returns-in-ShardFull-clause-holds : goal.returns-in-ShardFull-clause-holds
returns-in-ShardFull-clause-holds g c = c.read_beside.ensures.open c.args.writer.now c.requires.holds

pub returns-in-ShardFull-clause-turn : goal.returns-in-ShardFull-clause-turn
returns-in-ShardFull-clause-turn g c =
    let opening = g.P.CellCaller.opening in
    let number = g.P.CellCaller.number in
    let own = g.P.CellCaller.own in
    let cells = opening c.args.caller.now in
    let caller = number c.args.caller.now in
    let e = c.read_beside.ensures in
    let mid = c.read_beside.new in
    coe 0 1 (i. IsAfterReading (opening mid.caller) (number mid.caller) c.args.place c.args.cube.now c.args.allowed
    (own mid.caller) c.args.load.now mid.load c.args.bad.now mid.bad mid.batch.rows (c.in-ShardFull.is i))
    c.in_ok-last.ensures.read

pub post_turn-requires-clause-mails : goal.post_turn-requires-clause-mails
post_turn-requires-clause-mails g c =
    let opening = g.P.CellCaller.opening in
    let number = g.P.CellCaller.number in
    let own = g.P.CellCaller.own in
    let cells = opening c.args.caller.now in
    let caller = number c.args.caller.now in
    let e = c.read_beside.ensures in
    let mid = c.read_beside.new in
    now-of (λ (cs : List (CoreCell CoreShard)) (n : ℕ).
    AreShardMails FitsShard CoreShardStands ShardAnswerSays cs c.args.session c.args.size.now.shards
    (2 + c.args.size.now.shards)) e.opening e.number c.requires.mails

pub post_turn-requires-clause-into : goal.post_turn-requires-clause-into
post_turn-requires-clause-into g c =
    let opening = g.P.CellCaller.opening in
    let number = g.P.CellCaller.number in
    let own = g.P.CellCaller.own in
    let cells = opening c.args.caller.now in
    let caller = number c.args.caller.now in
    let e = c.read_beside.ensures in
    let mid = c.read_beside.new in
    may-put-into (opening mid.caller) (number mid.caller) c.args.session c.args.place (own mid.caller) c.args.cube.now
    mid.known e.may

pub post_turn-requires-clause-holds : goal.post_turn-requires-clause-holds
post_turn-requires-clause-holds g c =
    let opening = g.P.CellCaller.opening in
    let number = g.P.CellCaller.number in
    let own = g.P.CellCaller.own in
    let cells = opening c.args.caller.now in
    let caller = number c.args.caller.now in
    let e = c.read_beside.ensures in
    let mid = c.read_beside.new in
    coe 0 1 (i. HoldsAfterReading (opening mid.caller) (number mid.caller) c.args.session (own mid.caller)
    c.args.writer.now (c.in-Rows.is i)) (c.in_ok-last.ensures.holds c.args.writer.now c.requires.holds)

pub returns-in-Rows-clause-goes : goal.returns-in-Rows-clause-goes
returns-in-Rows-clause-goes g c =
    let opening = g.P.CellCaller.opening in
    let number = g.P.CellCaller.number in
    let own = g.P.CellCaller.own in
    let cells = opening c.args.caller.now in
    let caller = number c.args.caller.now in
    let e = c.read_beside.ensures in
    let mid = c.read_beside.new in
    loading-both cells caller c.args.session c.args.place c.args.writer.now.epoch (own c.args.caller.now)
    (own mid.caller) (own c.post_turn.new.caller) (e.goes c.args.writer.now.epoch)
    (before-of (λ (cs : List (CoreCell CoreShard)) (n : ℕ).
    GoesOnLoading cs n c.args.session c.args.place c.args.writer.now.epoch (own mid.caller) (own c.post_turn.new.caller))
    e.opening e.number c.post_turn.ensures.goes)

pub returns-in-Rows-clause-asked : goal.returns-in-Rows-clause-asked
returns-in-Rows-clause-asked g c =
    let opening = g.P.CellCaller.opening in
    let number = g.P.CellCaller.number in
    let own = g.P.CellCaller.own in
    let cells = opening c.args.caller.now in
    let caller = number c.args.caller.now in
    let e = c.read_beside.ensures in
    let mid = c.read_beside.new in
    such-then-none cells caller c.args.place c.args.cube.now (c.args.allowed - c.args.bad.now.count) c.args.session
    c.args.load.now (own c.args.caller.now) (own mid.caller) (own c.post_turn.new.caller)
    c.post_turn.ensures.goes.more e.asked
    (before-of (λ (cs : List (CoreCell CoreShard)) (n : ℕ).
    GoOnByCalls FitsShard CoreShardStands ShardAnswerSays cs n c.args.session AsksForNone (own mid.caller)
    (own c.post_turn.new.caller)) e.opening e.number c.post_turn.ensures.none)

pub returns-in-Rows-clause-may : goal.returns-in-Rows-clause-may
returns-in-Rows-clause-may g c =
    let opening = g.P.CellCaller.opening in
    let number = g.P.CellCaller.number in
    let own = g.P.CellCaller.own in
    let cells = opening c.args.caller.now in
    let caller = number c.args.caller.now in
    let e = c.read_beside.ensures in
    let mid = c.read_beside.new in
    let p = c.post_turn.ensures in
    now-of (λ (cs : List (CoreCell CoreShard)) (n : ℕ).
    MayAskForCodes FitsShard CoreShardStands ShardAnswerSays cs n (own c.post_turn.new.caller) c.args.session mid.known
    c.args.place c.args.cube.now) p.opening p.number
    (may-ask-still (opening mid.caller) (number mid.caller) c.args.session c.args.place (own mid.caller)
    (own c.post_turn.new.caller) c.args.cube.now mid.known p.goes.more e.may)

pub returns-in-Rows-clause-turn : goal.returns-in-Rows-clause-turn
returns-in-Rows-clause-turn g c =
    let opening = g.P.CellCaller.opening in
    let number = g.P.CellCaller.number in
    let own = g.P.CellCaller.own in
    let cells = opening c.args.caller.now in
    let caller = number c.args.caller.now in
    let e = c.read_beside.ensures in
    let mid = c.read_beside.new in
    let p = c.post_turn.ensures in
    let now = own c.post_turn.new.caller in
    let ok = c.in_ok-last.ensures in
    let read = before-of (λ (cs : List (CoreCell CoreShard)) (n : ℕ).
    IsAfterReading cs n c.args.place c.args.cube.now c.args.allowed (own mid.caller) c.args.load.now mid.load
    c.args.bad.now mid.bad mid.batch.rows (reading.Rows c.in-Rows.last)) e.opening e.number
    (coe 0 1 (i. IsAfterReading (opening mid.caller) (number mid.caller) c.args.place c.args.cube.now c.args.allowed
    (own mid.caller) c.args.load.now mid.load c.args.bad.now mid.bad mid.batch.rows (c.in-Rows.is i)) ok.read) in
    turn-posted cells (opening c.post_turn.new.caller) caller (number c.post_turn.new.caller) c.args.session c.args.place
    c.args.cube.now c.args.allowed c.args.writer.now (own c.args.caller.now) (own mid.caller) now c.args.load.now mid.load
    c.args.bad.now mid.bad mid.batch.rows c.in-Rows.last c.post_turn.result (p.opening ∙ e.opening)
    (p.number ∙ e.number) p.goes.more e.adds read.0 ok.inside read.1
    (before-of (λ (cs : List (CoreCell CoreShard)) (n : ℕ).
    IfOk c.post_turn.result (λ t. ArePosted cs n c.args.session c.args.place c.args.writer.now.epoch mid.batch.rows
    (own mid.caller) now)) e.opening e.number p.posted)
    p.turn
