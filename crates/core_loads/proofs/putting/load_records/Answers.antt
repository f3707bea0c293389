use Rattle.core_changes.proofs.BegunChanges.{has-begun, nothing-then, nothing-yet}
use Rattle.core_changes.specs.ChangesUnderWay.{HasBegunWith, HasChangedNothing}
use Rattle.core_loads.proofs.BegunLoads.{still-may-ask, texts-still-told}
use Rattle.core_loads.specs.LoadEnds.{AnswersAsLoad, NoText, without_memory}
use Rattle.core_names.specs.CoreEncoders.{MayAskForCodes}
use Rattle.cube_run.specs.RunRecords.{Missing}
use Rattle.linked_shards.specs.CellShards.{CoreShardStands}
use Rattle.loaded_files.specs.LoadedFiles.{loaded_file}
use Rattle.outside.specs.Given.{whole}
use Rattle.posted_pasts.specs.PostsAdded.{AddsNoOperation}
use Rattle.scripted_pasts.specs.Served.{IsServed}
use Rattle.shard_events.specs.ShardsInRuns.{FitsShard, ShardAnswerSays}
use Rattle.core_loads.proofs.putting.load_records.Goals as goal

pub begin_change-requires-clause-client : goal.begin_change-requires-clause-client
begin_change-requires-clause-client g c = c.requires.may.served.client

pub begin_change-requires-clause-session : goal.begin_change-requires-clause-session
begin_change-requires-clause-session g c = c.requires.may.served.is_session

pub begin_change-requires-clause-holds : goal.begin_change-requires-clause-holds
begin_change-requires-clause-holds g c = c.requires.may.holds

pub begin_change-requires-clause-may : goal.begin_change-requires-clause-may
begin_change-requires-clause-may g c = c.requires.may.active

pub load_by-requires-clause-served : goal.load_by-requires-clause-served
load_by-requires-clause-served g c =
    let did = c.begin_change.ensures in
    coe 1 0 (i. IsServed (did.opening i) (did.number i) c.args.session.now.number c.args.size.now.shards)
    c.requires.may.served

pub load_by-requires-clause-counted : goal.load_by-requires-clause-counted
load_by-requires-clause-counted g c = c.requires.may.counted

pub load_by-requires-clause-asks : goal.load_by-requires-clause-asks
load_by-requires-clause-asks g c =
    let did = c.begin_change.ensures in
    let old = c.args.caller.now in
    let mid = g.P.CellCaller.own c.begin_change.new.caller in
    coe 1 0 (i. MayAskForCodes FitsShard CoreShardStands ShardAnswerSays (did.opening i) (did.number i) mid
    c.args.session.now.number c.args.known.now c.args.place c.args.cube.now)
    (still-may-ask (g.P.CellCaller.opening old) (g.P.CellCaller.number old) (g.P.CellCaller.own old) mid
    c.args.session.now.number c.args.known.now c.args.place c.args.cube.now did.more c.requires.asks)

pub returns-in-Ok-clause-answered : goal.returns-in-Ok-clause-answered
returns-in-Ok-clause-answered g c = λ first bytes begins nothing.
    let did = c.begin_change.ensures in
    let old = c.args.caller.now in
    let own = g.P.CellCaller.own in
    let mid = own c.begin_change.new.caller in
    let session = c.args.session.now in
    let writer = c.in-Ok.writer in
    let s = c.args.statement.now in
    coe 0 1 (i. AnswersAsLoad (did.opening i) (did.number i) session s (loaded_file (whole bytes)) first
    (own c.load_by.new.caller) c.args.place c.args.cube.now c.load_by.new.session c.load_by.result)
    (c.load_by.ensures.answered first bytes begins
    (coe 1 0 (i. HasBegunWith (did.opening i) (did.number i) session s first mid NoText writer AddsNoOperation)
    (has-begun (g.P.CellCaller.opening old) (g.P.CellCaller.number old) session s NoText first (own old) mid writer
    nothing c.in-Ok.ensures.left)))

pub refuse_load-requires-clause-may : goal.refuse_load-requires-clause-may
refuse_load-requires-clause-may g c =
    let did = c.begin_change.ensures in
    let session = c.args.session.now in
    record {
      served =
          coe 1 0 (i. IsServed (did.opening i) (did.number i) session.number c.args.size.now.shards)
          c.requires.may.served;
      holds = c.in-Err.ensures.kept;
      counted = c.requires.may.counted;
      active = c.requires.may.active;
    }

pub returns-in-Err-clause-answered : goal.returns-in-Err-clause-answered
returns-in-Err-clause-answered g c = λ first bytes begins nothing.
    let did = c.begin_change.ensures in
    let old = c.args.caller.now in
    let own = g.P.CellCaller.own in
    let mid = own c.begin_change.new.caller in
    let session = c.args.session.now in
    let s = c.args.statement.now in
    let file = loaded_file (whole bytes) in
    coe 0 1 (i. AnswersAsLoad (did.opening i) (did.number i) session s file first (own c.refuse_load.new.caller)
    c.args.place c.args.cube.now session c.refuse_load.result)
    (c.refuse_load.ensures.answered first file c.args.place c.args.cube.now without_memory
    (coe 1 0 (i. HasChangedNothing (did.opening i) (did.number i) session s first mid NoText)
    (nothing-then (g.P.CellCaller.opening old) (g.P.CellCaller.number old) session s NoText first (own old) mid nothing
    c.in-Err.ensures.none)))

pub returns-in-Err-clause-texts : goal.returns-in-Err-clause-texts
returns-in-Err-clause-texts g c =
    let own = g.P.CellCaller.own in
    let new = c.begin_change.new.caller in
    let place = c.args.place in
    let dims = c.args.cube.now.dims in
    texts-still-told (own new) (own c.refuse_load.new.caller) place dims c.args.known.now
    (c.refuse_load.ensures.answered (own new) Missing place c.args.cube.now without_memory
    (nothing-yet (g.P.CellCaller.opening new) (g.P.CellCaller.number new) c.args.session.now c.args.statement.now NoText
    (own new))).more
    (texts-still-told (own c.args.caller.now) (own new) place dims c.args.known.now c.begin_change.ensures.more
    (record { long = c.requires.asks.long; right = c.requires.asks.right }))
