use Rattle.std.proofs.Common.{◌≡◌, ◌+◌, None, refl, sym, subst}
use Rattle.core_selects.specs.ReadingCalls.{GoesOnByReading}
use Rattle.core_selects.specs.SelectEnds.{EndsSelect}
use Rattle.core_selects.proofs.PerformedSelects.{found-reads, no-change, where-stopped, whether-stopped}
use Rattle.core_selects.proofs.Refusing.{weaker}
use Rattle.core_states.specs.declared.session.CoreSession.{CoreSession}
use Rattle.cube_run.specs.StepOutcomes.{refused_by_mode}
use Rattle.linked_shards.specs.CellShards.{CoreShardStands}
use Rattle.scripted_pasts.specs.Performed.{WhateverFile}
use Rattle.scripted_pasts.specs.Served.{IsServed, PerformsWatchedOverShards}
use Rattle.scripted_pasts.specs.UnchangedRows.{is_no_change}
use Rattle.session_desk.specs.Executed.{IfReplied}
use Rattle.core_cubes.specs.ExecutedWatched.{ExecutesWatched}
use Rattle.session_replies.specs.Modes.{mode_of}
use Rattle.shard_events.specs.ShardsInRuns.{FitsShard, ShardAnswerSays}
use Rattle.core_selects.proofs.selecting.select_named.Goals as goal

pub find_named-requires-clause-client : goal.find_named-requires-clause-client
find_named-requires-clause-client g c = c.requires.served.client

pub find_named-requires-clause-session : goal.find_named-requires-clause-session
find_named-requires-clause-session g c = c.requires.served.is_session

pub select_from-requires-clause-served : goal.select_from-requires-clause-served
select_from-requires-clause-served g c =
    let did = c.find_named.ensures in
    coe 1 0 (i. IsServed (did.opening i) (did.number i) (did.more.number i) c.args.size.now.shards) c.requires.served

pub select_from-requires-clause-may : goal.select_from-requires-clause-may
select_from-requires-clause-may g c =
    subst (λ (x : CoreSession). refused_by_mode (mode_of x.mode) c.args.statement.now ≡ None)
    (sym c.in-Ok.ensures.counted) c.requires.may

pub select_from-requires-clause-told : goal.select_from-requires-clause-told
select_from-requires-clause-told g c = (c.args.name.now, c.in-Ok.ensures.told)

pub returns-in-Ok-clause-stopped : goal.returns-in-Ok-clause-stopped
returns-in-Ok-clause-stopped g c =
    let did = c.find_named.ensures in
    let own = g.P.CellCaller.own in
    let before = c.args.caller.now in
    let mid = own c.find_named.new.caller in
    let now = own c.select_from.new.caller in
    whether-stopped c.select_from.result
    (found-reads (g.P.CellCaller.opening before) (g.P.CellCaller.number before) c.args.session.now.number (own before) mid
    now c.in-Ok.ensures.found c.select_from.ensures.more
    (coe 0 1 (i. GoesOnByReading (did.opening i) (did.number i) (did.more.number i) mid now)
    c.select_from.ensures.reads)).more

pub returns-in-Ok-clause-readers : goal.returns-in-Ok-clause-readers
returns-in-Ok-clause-readers g c =
    let did = c.find_named.ensures in
    let own = g.P.CellCaller.own in
    let before = c.args.caller.now in
    let mid = own c.find_named.new.caller in
    let now = own c.select_from.new.caller in
    c.calls_leave_the_watch.ensures.reading (g.P.CellCaller.opening before) (g.P.CellCaller.number before)
    c.args.session.now.number (own before) now
    (found-reads (g.P.CellCaller.opening before) (g.P.CellCaller.number before) c.args.session.now.number (own before) mid
    now c.in-Ok.ensures.found c.select_from.ensures.more
    (coe 0 1 (i. GoesOnByReading (did.opening i) (did.number i) (did.more.number i) mid now)
    c.select_from.ensures.reads)).reads

pub returns-in-Ok-clause-performed : goal.returns-in-Ok-clause-performed
returns-in-Ok-clause-performed g c =
    let did = c.find_named.ensures in
    let own = g.P.CellCaller.own in
    let before = c.args.caller.now in
    let cells = g.P.CellCaller.opening before in
    let caller = g.P.CellCaller.number before in
    let mid = own c.find_named.new.caller in
    let now = own c.select_from.new.caller in
    let old = c.args.session.now in
    let new = c.find_named.new.session in
    let s = c.args.statement.now in
    let cube = c.in-Ok.cube in
    weaker c.select_from.result (EndsSelect cells caller new s cube.place cube.decl mid now)
    (PerformsWatchedOverShards cells caller WhateverFile s old (own before) new now)
    (λ said ends.
    c.selects_are_performed.ensures cells caller c.args.size.now.shards cube.place old new s cube.decl (own before) mid now
    said c.requires.served c.requires.form c.requires.may c.in-Ok.ensures.counted
    (record {
      left = c.in-Ok.ensures.found;
      name = c.args.name.now;
      needed = c.requires.needs;
      told = c.in-Ok.ensures.told;
      stands = c.in-Ok.ensures.stands;
    }) ends)
    (coe 0 1 (i. IfReplied c.select_from.result (EndsSelect (did.opening i) (did.number i) new s cube.place cube.decl mid
    now)) c.select_from.ensures.ends)

pub returns-in-Err-clause-stopped : goal.returns-in-Err-clause-stopped
returns-in-Err-clause-stopped g c = where-stopped c.in-Err.answered (λ left. left.more) c.in-Err.ensures.stopped

pub returns-in-Err-clause-readers : goal.returns-in-Err-clause-readers
returns-in-Err-clause-readers g c =
    let own = g.P.CellCaller.own in
    let before = c.args.caller.now in
    c.calls_leave_the_watch.ensures.statement (g.P.CellCaller.opening before) (g.P.CellCaller.number before)
    c.args.session.now.number (c.args.session.now.statements + 1) c.args.statement.now (own before)
    (own c.find_named.new.caller) c.find_named.ensures.calls

pub returns-in-Err-clause-performed : goal.returns-in-Err-clause-performed
returns-in-Err-clause-performed g c =
    let own = g.P.CellCaller.own in
    let before = c.args.caller.now in
    let cells = g.P.CellCaller.opening before in
    let caller = g.P.CellCaller.number before in
    let now = own c.find_named.new.caller in
    let old = c.args.session.now in
    let new = c.find_named.new.session in
    let s = c.args.statement.now in
    weaker c.in-Err.answered
    (ExecutesWatched FitsShard CoreShardStands ShardAnswerSays cells caller s old (own before) new now)
    (PerformsWatchedOverShards cells caller WhateverFile s old (own before) new now)
    (λ said executes.
    c.plain_statements_are_performed.ensures.watched cells caller s old new (own before) now said executes
    c.find_named.ensures.calls (is_no_change s refl (no-change s c.requires.form)))
    c.in-Err.ensures.executed
