use Rattle.std.proofs.Common.{◌+◌, refl}
use Rattle.core_changes.proofs.BegunChanges.{may-change}
use Rattle.core_changes.proofs.PerformedInTheEnd.{found-front, found-holds, found-leaves-watch, found-performed, one-more, stopped-any}
use Rattle.core_changes.specs.ChangeEnds.{counted_session}
use Rattle.core_cubes.proofs.StandingCubes.{stands-later}
use Rattle.core_inserts.proofs.BegunInserts.{is-active}
use Rattle.core_inserts.proofs.InsertsInRuns.{has-ended}
use Rattle.core_inserts.specs.InsertEnds.{IsInsertText, AnswersAsInsert, AnswersInsert, PutsByEnd}
use Rattle.core_states.proofs.LeftCalls.{left-nothing}
use Rattle.core_states.specs.StandingInCore.{HoldsForMode}
use Rattle.cube_run.specs.RunRecords.{Missing}
use Rattle.linked_shards.specs.CellShards.{CoreShardStands}
use Rattle.scripted_pasts.specs.Performed.{WhateverFile}
use Rattle.session_desk.specs.Executed.{IfReplied}
use Rattle.session_replies.specs.Modes.{mode_of}
use Rattle.shard_events.specs.ShardsInRuns.{FitsShard, ShardAnswerSays}
use Rattle.core_inserts.proofs.inserts.insert_known.Goals as goal

pub insert_kept-requires-clause-may : goal.insert_kept-requires-clause-may
insert_kept-requires-clause-may g c =
    let old = c.args.session.now in
    let caller = c.args.caller.now in
    may-change (g.P.CellCaller.opening caller) (g.P.CellCaller.number caller) c.args.size.now.shards old
    (counted_session old) (g.P.CellCaller.own caller) refl c.requires.served c.requires.holds c.requires.counted
    (is-active (mode_of old.mode) c.args.statement.now c.requires.inserts c.requires.may)

pub returns-clause-more : goal.returns-clause-more
returns-clause-more g c = one-more c.args.session.now c.insert_kept.new.session c.insert_kept.ensures.answered.stays

pub returns-clause-readers : goal.returns-clause-readers
returns-clause-readers g c =
    let old = c.args.caller.now in
    let cells = g.P.CellCaller.opening old in
    let caller = g.P.CellCaller.number old in
    let own = g.P.CellCaller.own old in
    let now = g.P.CellCaller.own c.insert_kept.new.caller in
    let session = c.args.session.now in
    let s = c.args.statement.now in
    let cube = c.args.cube in
    found-leaves-watch cells caller WhateverFile session s own own now (IsInsertText cube.place cube.schema s)
    (PutsByEnd cells caller (counted_session session) s own now cube.place cube.schema)
    (AnswersInsert cells caller now cube.place cube.schema s) c.insert_kept.new.session c.insert_kept.result
    (left-nothing FitsShard CoreShardStands ShardAnswerSays cells caller session.number own) c.insert_kept.ensures.answered

pub returns-clause-stopped : goal.returns-clause-stopped
returns-clause-stopped g c =
    let old = c.args.caller.now in
    let cells = g.P.CellCaller.opening old in
    let caller = g.P.CellCaller.number old in
    let own = g.P.CellCaller.own old in
    let now = g.P.CellCaller.own c.insert_kept.new.caller in
    let session = c.args.session.now in
    let s = c.args.statement.now in
    let cube = c.args.cube in
    stopped-any c.insert_kept.result
    (found-front cells caller WhateverFile session s own own now (IsInsertText cube.place cube.schema s)
    (PutsByEnd cells caller (counted_session session) s own now cube.place cube.schema)
    (AnswersInsert cells caller now cube.place cube.schema s) c.insert_kept.new.session c.insert_kept.result
    (left-nothing FitsShard CoreShardStands ShardAnswerSays cells caller session.number own)
    c.insert_kept.ensures.answered)

pub returns-clause-holds : goal.returns-clause-holds
returns-clause-holds g c =
    let last = c.insert_kept.ensures in
    let old = c.args.caller.now in
    let cells = g.P.CellCaller.opening old in
    let caller = g.P.CellCaller.number old in
    let own = g.P.CellCaller.own old in
    let now = g.P.CellCaller.own c.insert_kept.new.caller in
    let session = c.args.session.now in
    let new = c.insert_kept.new.session in
    let s = c.args.statement.now in
    let cube = c.args.cube in
    coe 1 0 (i. IfReplied c.insert_kept.result (λ said. HoldsForMode FitsShard CoreShardStands ShardAnswerSays
    (last.opening i) (last.number i) new.number now (mode_of new.mode)))
    (found-holds cells caller WhateverFile session s own now (IsInsertText cube.place cube.schema s)
    (PutsByEnd cells caller (counted_session session) s own now cube.place cube.schema)
    (AnswersInsert cells caller now cube.place cube.schema s) new c.insert_kept.result last.answered)

pub returns-clause-performed : goal.returns-clause-performed
returns-clause-performed g c =
    let old = c.args.caller.now in
    let cells = g.P.CellCaller.opening old in
    let caller = g.P.CellCaller.number old in
    let own = g.P.CellCaller.own old in
    let now = g.P.CellCaller.own c.insert_kept.new.caller in
    let session = c.args.session.now in
    let new = c.insert_kept.new.session in
    let s = c.args.statement.now in
    let cube = c.args.cube in
    let served = c.requires.served in
    let before = left-nothing FitsShard CoreShardStands ShardAnswerSays cells caller session.number own in
    let stands =
    stands-later FitsShard CoreShardStands ShardAnswerSays cells caller session.number served.client served.is_session own
    cube.name cube.place cube.schema c.requires.found (session.statements + 1)
    in
    let answered : AnswersAsInsert cells caller (counted_session session) s own now cube.place cube.schema new
    c.insert_kept.result = c.insert_kept.ensures.answered
    in
    found-performed cells caller WhateverFile session s own own now (IsInsertText cube.place cube.schema s)
    (PutsByEnd cells caller (counted_session session) s own now cube.place cube.schema)
    (AnswersInsert cells caller now cube.place cube.schema s) new c.insert_kept.result
    (λ said h.
    c.changes_are_performed.ensures.whatever s Missing session new h.ended cells caller own now said
    (has-ended cells caller session s own now cube.place cube.schema own
    (λ past o given log events step there below later follow apart same_session same_number.
    c.found_cubes_are_on_record.ensures cells caller session.number (session.statements + 1) own own now
    cube.name cube.place cube.schema past o given log events step s stands answered.more there below
    later follow apart same_session same_number c.requires.needs)
    c.requires.inserts new said served.is_session c.requires.may before h))
    answered
