use Rattle.std.proofs.Common.{◌+◌, subst}
use Rattle.core_changes.proofs.BegunChanges.{may-change}
use Rattle.core_changes.proofs.PerformedInTheEnd.{found-front, found-holds, found-leaves-watch, found-performed, if-any, one-more, refused-performed, search-leaves-watch, stopped-any}
use Rattle.core_changes.specs.ChangesUnderWay.{IsSameStatement}
use Rattle.core_inserts.proofs.BegunInserts.{is-active}
use Rattle.core_inserts.proofs.InsertsInRuns.{has-ended}
use Rattle.core_inserts.specs.InsertEnds.{IsInsertText, AnswersAsInsert, AnswersInsert, PutsByEnd}
use Rattle.core_states.specs.StandingInCore.{HoldsForMode}
use Rattle.core_states.specs.declared.session.CoreSession.{CoreSession}
use Rattle.cube_run.specs.RunRecords.{Missing}
use Rattle.linked_shards.specs.CellShards.{CoreShardStands}
use Rattle.core_changes.specs.ChangeEnds.{counted_session}
use Rattle.scripted_pasts.specs.Performed.{WhateverFile}
use Rattle.scripted_pasts.specs.Served.{IsServed}
use Rattle.session_desk.specs.Executed.{IfReplied}
use Rattle.session_replies.specs.Modes.{mode_of}
use Rattle.shard_events.specs.ShardsInRuns.{FitsShard, ShardAnswerSays}
use Rattle.core_inserts.proofs.inserts.insert_searched.Goals as goal

pub find_named-requires-clause-client : goal.find_named-requires-clause-client
find_named-requires-clause-client g c = c.requires.served.client

pub find_named-requires-clause-session : goal.find_named-requires-clause-session
find_named-requires-clause-session g c = c.requires.served.is_session

pub insert_found-requires-clause-may : goal.insert_found-requires-clause-may
insert_found-requires-clause-may g c =
    let did = c.find_named.ensures in
    let old = c.args.session.now in
    let new = c.find_named.new.caller in
    let shards = c.args.size.now.shards in
    may-change (g.P.CellCaller.opening new) (g.P.CellCaller.number new) shards old c.find_named.new.session
    (g.P.CellCaller.own new) c.in-Ok.ensures.counted
    (coe 1 0 (i. IsServed (did.opening i) (did.number i) old.number shards) c.requires.served) did.holds
    c.requires.counted (is-active (mode_of old.mode) c.args.statement.now c.requires.inserts c.requires.may)

pub insert_found-requires-clause-found : goal.insert_found-requires-clause-found
insert_found-requires-clause-found g c = c.in-Ok.ensures.searched

pub insert_found-requires-clause-texts : goal.insert_found-requires-clause-texts
insert_found-requires-clause-texts g c =
    let own = g.P.CellCaller.own in
    c.told_texts_stay_told.ensures (own c.args.caller.now) (own c.find_named.new.caller) c.args.texts.now
    c.find_named.ensures.goes_on c.requires.texts

pub returns-in-Ok-clause-more : goal.returns-in-Ok-clause-more
returns-in-Ok-clause-more g c =
    one-more c.args.session.now c.insert_found.new.session
    (subst (λ (x : CoreSession). IsSameStatement x c.insert_found.new.session) c.in-Ok.ensures.counted
    c.insert_found.ensures.answered.stays)

pub returns-in-Ok-clause-readers : goal.returns-in-Ok-clause-readers
returns-in-Ok-clause-readers g c =
    let did = c.find_named.ensures in
    let old = c.args.caller.now in
    let cells = g.P.CellCaller.opening old in
    let caller = g.P.CellCaller.number old in
    let own = g.P.CellCaller.own in
    let mid = own c.find_named.new.caller in
    let now = own c.insert_found.new.caller in
    let session = c.args.session.now in
    let new = c.insert_found.new.session in
    let s = c.args.statement.now in
    let cube = c.in-Ok.cube in
    found-leaves-watch cells caller WhateverFile session s (own old) mid now (IsInsertText cube.place cube.decl s)
    (PutsByEnd cells caller (counted_session session) s mid now cube.place cube.decl)
    (AnswersInsert cells caller now cube.place cube.decl s) new
    c.insert_found.result c.in-Ok.ensures.found
    (coe 0 1 (i. AnswersAsInsert (did.opening i) (did.number i) (c.in-Ok.ensures.counted i) s mid now cube.place
    cube.decl new c.insert_found.result) c.insert_found.ensures.answered)

pub returns-in-Ok-clause-stopped : goal.returns-in-Ok-clause-stopped
returns-in-Ok-clause-stopped g c =
    let did = c.find_named.ensures in
    let old = c.args.caller.now in
    let cells = g.P.CellCaller.opening old in
    let caller = g.P.CellCaller.number old in
    let own = g.P.CellCaller.own in
    let mid = own c.find_named.new.caller in
    let now = own c.insert_found.new.caller in
    let session = c.args.session.now in
    let new = c.insert_found.new.session in
    let s = c.args.statement.now in
    let cube = c.in-Ok.cube in
    stopped-any c.insert_found.result
    (found-front cells caller WhateverFile session s (own old) mid now (IsInsertText cube.place cube.decl s)
    (PutsByEnd cells caller (counted_session session) s mid now cube.place cube.decl)
    (AnswersInsert cells caller now cube.place cube.decl s) new
    c.insert_found.result c.in-Ok.ensures.found
    (coe 0 1 (i. AnswersAsInsert (did.opening i) (did.number i) (c.in-Ok.ensures.counted i) s mid now cube.place
    cube.decl new c.insert_found.result) c.insert_found.ensures.answered))

pub returns-in-Ok-clause-holds : goal.returns-in-Ok-clause-holds
returns-in-Ok-clause-holds g c =
    let last = c.insert_found.ensures in
    let own = g.P.CellCaller.own in
    let mid = own c.find_named.new.caller in
    let cells = g.P.CellCaller.opening c.find_named.new.caller in
    let caller = g.P.CellCaller.number c.find_named.new.caller in
    let now = own c.insert_found.new.caller in
    let session = c.args.session.now in
    let new = c.insert_found.new.session in
    let s = c.args.statement.now in
    let cube = c.in-Ok.cube in
    coe 1 0 (i. IfReplied c.insert_found.result (λ said. HoldsForMode FitsShard CoreShardStands ShardAnswerSays
    (last.opening i) (last.number i) new.number now (mode_of new.mode)))
    (found-holds cells caller WhateverFile session s mid now (IsInsertText cube.place cube.decl s)
    (PutsByEnd cells caller (counted_session session) s mid now cube.place cube.decl)
    (AnswersInsert cells caller now cube.place cube.decl s) new
    c.insert_found.result
    (coe 0 1 (i. AnswersAsInsert cells caller (c.in-Ok.ensures.counted i) s mid now cube.place cube.decl new
    c.insert_found.result) last.answered))

pub returns-in-Ok-clause-performed : goal.returns-in-Ok-clause-performed
returns-in-Ok-clause-performed g c =
    let did = c.find_named.ensures in
    let old = c.args.caller.now in
    let cells = g.P.CellCaller.opening old in
    let caller = g.P.CellCaller.number old in
    let own = g.P.CellCaller.own in
    let mid = own c.find_named.new.caller in
    let now = own c.insert_found.new.caller in
    let session = c.args.session.now in
    let new = c.insert_found.new.session in
    let s = c.args.statement.now in
    let cube = c.in-Ok.cube in
    let answered : AnswersAsInsert cells caller (counted_session session) s mid now cube.place cube.decl new
    c.insert_found.result =
    coe 0 1 (i. AnswersAsInsert (did.opening i) (did.number i) (c.in-Ok.ensures.counted i) s mid now cube.place
    cube.decl new c.insert_found.result) c.insert_found.ensures.answered
    in
    found-performed cells caller WhateverFile session s (own old) mid now (IsInsertText cube.place cube.decl s)
    (PutsByEnd cells caller (counted_session session) s mid now cube.place cube.decl)
    (AnswersInsert cells caller now cube.place cube.decl s) new
    c.insert_found.result
    (λ said h.
    c.changes_are_performed.ensures.whatever s Missing session new h.ended cells caller (own old) now said
    (has-ended cells caller session s mid now cube.place cube.decl (own old)
    (λ past o given log events step there below later follow apart same_session same_number.
    c.found_cubes_are_on_record.ensures cells caller session.number (session.statements + 1) (own old) mid now
    c.args.name.now cube.place cube.decl past o given log events step s c.in-Ok.ensures.stands answered.more there below
    later follow apart same_session same_number c.requires.needs)
    c.requires.inserts new said c.requires.served.is_session c.requires.may c.in-Ok.ensures.found h))
    answered

pub returns-in-Err-clause-readers : goal.returns-in-Err-clause-readers
returns-in-Err-clause-readers g c =
    let old = c.args.caller.now in
    search-leaves-watch (g.P.CellCaller.opening old) (g.P.CellCaller.number old) WhateverFile c.args.session.now
    c.args.statement.now (g.P.CellCaller.own old) (g.P.CellCaller.own c.find_named.new.caller)
    c.find_named.ensures.calls

pub returns-in-Err-clause-holds : goal.returns-in-Err-clause-holds
returns-in-Err-clause-holds g c = if-any c.in-Err.answered c.find_named.ensures.holds

pub returns-in-Err-clause-performed : goal.returns-in-Err-clause-performed
returns-in-Err-clause-performed g c =
    let old = c.args.caller.now in
    let cells = g.P.CellCaller.opening old in
    let caller = g.P.CellCaller.number old in
    let own = g.P.CellCaller.own in
    let session = c.args.session.now in
    let s = c.args.statement.now in
    refused-performed cells caller WhateverFile session s
    (λ after first last said executes calls unchanged.
    c.plain_statements_are_performed.ensures.watched cells caller s session after first last said executes calls
    unchanged)
    c.args.name.now c.find_named.new.session (own old) (own c.find_named.new.caller) c.in-Err.answered
    c.in-Err.ensures.executed c.find_named.ensures.calls c.in-Err.ensures.said

pub returns-in-Err-clause-stopped : goal.returns-in-Err-clause-stopped
returns-in-Err-clause-stopped g c = stopped-any c.in-Err.answered c.find_named.ensures.goes_on

pub returns-in-Err-clause-texts : goal.returns-in-Err-clause-texts
returns-in-Err-clause-texts g c =
    let own = g.P.CellCaller.own in
    c.told_texts_stay_told.ensures (own c.args.caller.now) (own c.find_named.new.caller) c.args.texts.now
    c.find_named.ensures.goes_on c.requires.texts
