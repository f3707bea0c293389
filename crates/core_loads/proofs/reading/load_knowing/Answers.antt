use Rattle.std.proofs.Common.{List, refl, rules, subst}
use Rattle.core_changes.proofs.BegunChanges.{nothing-yet}
use Rattle.core_loads.proofs.BegunLoads.{has-left}
use Rattle.core_loads.specs.LoadEnds.{NoText, without_memory}
use Rattle.core_loads.specs.ShelfLoads.{path_loaded}
use Rattle.cube_language.specs.declared.decl.DimDecl.{DimDecl}
use Rattle.cube_run.specs.RunRecords.{Missing}
use Rattle.session_texts.specs.ToldTexts.{AreOfDimensions}
use Rattle.inserted_rows.proofs.EncodedBatches.{may-ask}
use Rattle.core_loads.proofs.reading.load_knowing.Goals as goal

pub returns-in-Err-clause-answered : goal.returns-in-Err-clause-answered
returns-in-Err-clause-answered g c =
    let old = c.args.caller.now in
    let own = g.P.CellCaller.own old in
    record {
      file = Missing;
      loads =
          c.refuse_load.ensures.answered own Missing c.args.place c.args.cube.now without_memory
          (nothing-yet (g.P.CellCaller.opening old) (g.P.CellCaller.number old) c.args.session.now
          c.args.statement.now NoText
          own);
      read =
          has-left _ (path_loaded c.args.statement.now) Missing refl refl refl c.refuse_load.result
          c.refuse_load.ensures.said;
    }

pub returns-in-Err-clause-texts : goal.returns-in-Err-clause-texts
returns-in-Err-clause-texts g c =
    let old = c.args.caller.now in
    let own = g.P.CellCaller.own in
    c.told_texts_stay_told.ensures (own old) (own c.refuse_load.new.caller) c.take.new.self
    (c.refuse_load.ensures.answered (own old) Missing c.args.place c.args.cube.now without_memory
    (nothing-yet (g.P.CellCaller.opening old) (g.P.CellCaller.number old) c.args.session.now c.args.statement.now NoText
    (own old))).more (c.take.ensures.still (own old) c.requires.texts)

pub load_file-answered-requires-clause-asks : goal.load_file-answered-requires-clause-asks
load_file-answered-requires-clause-asks g c =
    let old = c.args.caller.now in
    let own = g.P.CellCaller.own old in
    let served = c.requires.may.served in
    may-ask (g.P.CellCaller.opening old) (g.P.CellCaller.number old) c.args.session.now.number c.args.place own
    c.args.cube.now _ _ served.client served.is_session served.storable served.named c.requires.told
    (c.in-Ok.ensures.told own c.requires.texts) (search rules)

pub returns-in-Ok-clause-texts : goal.returns-in-Ok-clause-texts
returns-in-Ok-clause-texts g c =
    let own = g.P.CellCaller.own in
    let first = own c.args.caller.now in
    let now = own c.load_file-answered.new.caller in
    c.put_back.ensures.told now c.args.cube.now.dims
    (c.told_texts_stay_told.ensures first now c.take.new.self c.load_file-answered.ensures.answered.loads.more
    (c.take.ensures.still first c.requires.texts))
    (subst (λ (ds : List DimDecl). AreOfDimensions ds c.in-Ok.kept) (search rules) c.in-Ok.ensures.sizes)
    c.load_file-answered.ensures.texts
