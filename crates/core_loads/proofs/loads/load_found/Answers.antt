use Rattle.std.proofs.Common.{refl, sym, subst}
use Rattle.core_changes.proofs.BegunChanges.{nothing-yet}
use Rattle.core_loads.proofs.BegunLoads.{has-left}
use Rattle.core_loads.specs.LoadEnds.{AnswersFromShelf, NoText, without_memory}
use Rattle.core_loads.specs.ShelfLoads.{ShelfSeen, path_loaded}
use Rattle.cube_run.specs.RunRecords.{Missing}
use Rattle.cube_language.specs.declared.decl.Decl.{Decl}
use Rattle.inserted_rows.specs.RowsInTheEnd.{IsToldOfCubeAt}
use Rattle.core_loads.proofs.loads.load_found.Goals as goal

pub load_bound-requires-clause-told : goal.load_bound-requires-clause-told
load_bound-requires-clause-told g c =
    subst (λ (d : Decl). IsToldOfCubeAt (g.P.CellCaller.own c.args.caller.now) c.args.cube.now.place d)
    (sym c.in-Ok.ensures) c.requires.told

pub returns-in-Ok-clause-answered : goal.returns-in-Ok-clause-answered
returns-in-Ok-clause-answered g c =
    let old = c.args.caller.now in
    let seen : ShelfSeen = record {
      told = g.F.Shelf.told c.args.shelf.now;
      calls = g.F.Shelf.call_list c.args.shelf.now;
      new_calls = g.F.Shelf.call_list c.load_bound.new.shelf;
      faults = g.F.Shelf.fault_count c.args.shelf.now;
      new_faults = g.F.Shelf.fault_count c.load_bound.new.shelf;
      absences = g.F.Shelf.absence_count c.args.shelf.now;
      new_absences = g.F.Shelf.absence_count c.load_bound.new.shelf;
    } in
    subst (λ (d : Decl). AnswersFromShelf (g.P.CellCaller.opening old) (g.P.CellCaller.number old) seen
    c.args.session.now c.args.statement.now (g.P.CellCaller.own old) (g.P.CellCaller.own c.load_bound.new.caller)
    c.args.cube.now.place d c.load_bound.new.session c.load_bound.result) c.in-Ok.ensures c.load_bound.ensures.answered

pub returns-in-Err-clause-answered : goal.returns-in-Err-clause-answered
returns-in-Err-clause-answered g c =
    let old = c.args.caller.now in
    let own = g.P.CellCaller.own old in
    record {
      file = Missing;
      loads =
          c.refuse_load.ensures.answered own Missing c.args.cube.now.place c.args.cube.now.decl without_memory
          (nothing-yet (g.P.CellCaller.opening old) (g.P.CellCaller.number old) c.args.session.now
          c.args.statement.now NoText
          own);
      read =
          has-left _ (path_loaded c.args.statement.now) Missing refl refl refl c.refuse_load.result
          c.refuse_load.ensures.said;
    }

pub returns-in-Err-clause-texts : goal.returns-in-Err-clause-texts
returns-in-Err-clause-texts g c =
    let old = c.args.caller.now in
    let own = g.P.CellCaller.own in
    c.told_texts_stay_told.ensures (own old) (own c.refuse_load.new.caller) c.args.texts.now
    (c.refuse_load.ensures.answered (own old) Missing c.args.cube.now.place c.args.cube.now.decl without_memory
    (nothing-yet (g.P.CellCaller.opening old) (g.P.CellCaller.number old) c.args.session.now c.args.statement.now NoText
    (own old))).more c.requires.texts
