use Rattle.core_loads.proofs.BegunLoads.{texts-still-told}
use Rattle.core_loads.specs.LoadEnds.{AnswersAsLoad, NoText}
use Rattle.loaded_files.specs.LoadedFiles.{loaded_file}
use Rattle.outside.specs.Given.{whole}
use Rattle.core_changes.specs.ChangesUnderWay.{HasBegunWith}
use Rattle.loaded_batches.specs.LoadTexts.{AsksForSuch}
use Rattle.loaded_batches.specs.LoadingCalls.{GoesOnLoading}
use Rattle.posted_pasts.specs.PostsAdded.{AddsNoOperation}
use Rattle.scripted_pasts.specs.Served.{IsServed}
use Rattle.core_loads.proofs.putting.load_by.Goals as goal

pub put_records-ended-requires-clause-some : goal.put_records-ended-requires-clause-some
put_records-ended-requires-clause-some g c = c.requires.served.some

pub put_records-ended-requires-clause-mails : goal.put_records-ended-requires-clause-mails
put_records-ended-requires-clause-mails g c = c.requires.served.mails

pub end_load-requires-clause-served : goal.end_load-requires-clause-served
end_load-requires-clause-served g c =
    let did = c.put_records-ended.ensures in
    coe 1 0 (i. IsServed (did.opening i) (did.number i) c.args.session.now.number c.args.size.now.shards)
    c.requires.served

pub returns-clause-answered : goal.returns-clause-answered
returns-clause-answered g c = λ first bytes begins begun.
    let did = c.put_records-ended.ensures in
    let old = c.args.caller.now in
    let own = g.P.CellCaller.own in
    let mid = own c.put_records-ended.new.caller in
    let session = c.args.session.now in
    let writer = c.args.writer.now in
    let s = c.args.statement.now in
    let d = c.args.cube.now in
    let place = c.args.place in
    coe 0 1 (i. AnswersAsLoad (did.opening i) (did.number i) session s (loaded_file (whole bytes)) first
    (own c.end_load.new.caller) place d c.end_load.new.session c.end_load.result)
    (c.end_load.ensures.answered first (own old) c.args.records bytes begins
    (coe 1 0 (i. HasBegunWith (did.opening i) (did.number i) session s first (own old) NoText writer AddsNoOperation)
    begun)
    (coe 1 0 (i. GoesOnLoading (did.opening i) (did.number i) session.number place writer.epoch (own old) mid) did.goes)
    (coe 1 0 (i. AsksForSuch (did.opening i) (did.number i) place d session.number c.args.allowed c.args.records
    (own old) mid)
    did.asked)
    did.ended)

pub returns-clause-texts : goal.returns-clause-texts
returns-clause-texts g c =
    let did = c.put_records-ended.ensures in
    let own = g.P.CellCaller.own in
    let mid = own c.put_records-ended.new.caller in
    texts-still-told mid (own c.end_load.new.caller) c.args.place c.args.cube.now.dims c.put_records-ended.new.known
    c.end_load.ensures.more (record { long = did.may.long; right = did.may.right })
