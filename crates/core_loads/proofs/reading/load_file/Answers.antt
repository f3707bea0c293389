use Rattle.std.proofs.Common.{◌≡◌, ◌∙◌, Err, sym, ap, subst}
use Rattle.core_changes.proofs.BegunChanges.{nothing-yet}
use Rattle.core_loads.proofs.BegunLoads.{has-read, texts-still-told}
use Rattle.core_loads.specs.LoadEnds.{AnswersAsLoad, NoText, without_memory}
use Rattle.core_loads.specs.ShelfLoads.{IsAnsweredFor, ShelfSeen, path_loaded}
use Rattle.cube_run.specs.RunRecords.{LoadedFile}
use Rattle.cube_values.specs.declared.call_error.CallError.{CallError}
use Rattle.cube_values.specs.declared.call_error.CallError.TheVariants.{Fault, NoMemory}
use Rattle.outside.specs.declared.reading.FileFault.{FileFault}
use Rattle.loaded_files.specs.LoadedFiles.{OpensLoad, ShowsLoad, loaded_file}
use Rattle.session_desk.specs.Executed.{IfReplied}
use Rattle.core_loads.proofs.reading.load_file.Goals as goal

pub load_records-requires-clause-cube : goal.load_records-requires-clause-cube
load_records-requires-clause-cube g c =
    let shown = coe 0 1 (i. ShowsLoad c.args.cube.now c.open_load.ensures.opens.given (c.in-Ok.is i)) c.open_load.ensures.opens.shown in
    shown.2.cube

pub load_records-requires-clause-begins : goal.load_records-requires-clause-begins
load_records-requires-clause-begins g c =
    let shown = coe 0 1 (i. ShowsLoad c.args.cube.now c.open_load.ensures.opens.given (c.in-Ok.is i)) c.open_load.ensures.opens.shown in
    shown.2.none

pub returns-in-Ok-clause-answered : goal.returns-in-Ok-clause-answered
returns-in-Ok-clause-answered g c =
    let old = c.args.caller.now in
    let own = g.P.CellCaller.own old in
    let session = c.args.session.now in
    let s = c.args.statement.now in
    let opens = c.open_load.ensures.opens in
    let shown = coe 0 1 (i. ShowsLoad c.args.cube.now c.open_load.ensures.opens.given (c.in-Ok.is i)) c.open_load.ensures.opens.shown in
    let seen : ShelfSeen = record {
      told = g.F.Shelf.told c.args.shelf.now;
      calls = g.F.Shelf.call_list c.args.shelf.now;
      new_calls = g.F.Shelf.call_list c.open_load.new.shelf;
      faults = g.F.Shelf.fault_count c.args.shelf.now;
      new_faults = g.F.Shelf.fault_count c.open_load.new.shelf;
      absences = g.F.Shelf.absence_count c.args.shelf.now;
      new_absences = g.F.Shelf.absence_count c.open_load.new.shelf;
    } in
    record {
      file = loaded_file opens.given;
      loads =
          subst (λ (f : LoadedFile). AnswersAsLoad (g.P.CellCaller.opening old) (g.P.CellCaller.number old) session s f
          own (g.P.CellCaller.own c.load_records.new.caller) c.args.place c.args.cube.now c.load_records.new.session
          c.load_records.result) (sym (ap loaded_file shown.1))
          (c.load_records.ensures.answered own shown.0 shown.2
          (nothing-yet (g.P.CellCaller.opening old) (g.P.CellCaller.number old) session s NoText own));
      read =
          has-read seen (path_loaded s) c.args.cube.now c.open_load.result
          (coe 0 1 (i. OpensLoad seen.told seen.calls seen.new_calls (c.requires.path i) c.args.cube.now c.open_load.result) opens)
          (record {
            failed = c.open_load.ensures.failed;
            quiet = c.open_load.ensures.quiet;
            absent = c.open_load.ensures.absent;
            present = c.open_load.ensures.present;
          }) c.load_records.result
          (coe 1 0 (i. IfReplied c.load_records.result (IsAnsweredFor (c.in-Ok.is i))) c.load_records.ensures.said);
    }

pub returns-in-Err-Fault-clause-answered : goal.returns-in-Err-Fault-clause-answered
returns-in-Err-Fault-clause-answered g c =
    let old = c.args.caller.now in
    let own = g.P.CellCaller.own old in
    let s = c.args.statement.now in
    let opens = c.open_load.ensures.opens in
    let is : c.open_load.result ≡ Err (Fault c.in-Err-Fault.fault) =
    c.in-Err-Fault.is ∙ ap (λ (e : CallError FileFault). Err e) c.in-Err-Fault.field-0-is
    in
    let seen : ShelfSeen = record {
      told = g.F.Shelf.told c.args.shelf.now;
      calls = g.F.Shelf.call_list c.args.shelf.now;
      new_calls = g.F.Shelf.call_list c.open_load.new.shelf;
      faults = g.F.Shelf.fault_count c.args.shelf.now;
      new_faults = g.F.Shelf.fault_count c.open_load.new.shelf;
      absences = g.F.Shelf.absence_count c.args.shelf.now;
      new_absences = g.F.Shelf.absence_count c.open_load.new.shelf;
    } in
    record {
      file = loaded_file opens.given;
      loads =
          c.refuse_file.ensures.answered own opens.given
          (coe 0 1 (i. ShowsLoad c.args.cube.now opens.given (is i)) opens.shown)
          (nothing-yet (g.P.CellCaller.opening old) (g.P.CellCaller.number old) c.args.session.now s NoText own);
      read =
          has-read seen (path_loaded s) c.args.cube.now c.open_load.result
          (coe 0 1 (i. OpensLoad seen.told seen.calls seen.new_calls (c.requires.path i) c.args.cube.now c.open_load.result) opens)
          (record {
            failed = c.open_load.ensures.failed;
            quiet = c.open_load.ensures.quiet;
            absent = c.open_load.ensures.absent;
            present = c.open_load.ensures.present;
          }) c.refuse_file.result
          (coe 1 0 (i. IfReplied c.refuse_file.result (IsAnsweredFor (is i))) c.refuse_file.ensures.said);
    }

pub returns-in-Err-NoMemory-clause-answered : goal.returns-in-Err-NoMemory-clause-answered
returns-in-Err-NoMemory-clause-answered g c =
    let old = c.args.caller.now in
    let own = g.P.CellCaller.own old in
    let s = c.args.statement.now in
    let opens = c.open_load.ensures.opens in
    let is : c.open_load.result ≡ Err (NoMemory) =
    c.in-Err-NoMemory.is ∙ ap (λ (e : CallError FileFault). Err e) c.in-Err-NoMemory.field-0-is
    in
    let file = loaded_file opens.given in
    let seen : ShelfSeen = record {
      told = g.F.Shelf.told c.args.shelf.now;
      calls = g.F.Shelf.call_list c.args.shelf.now;
      new_calls = g.F.Shelf.call_list c.open_load.new.shelf;
      faults = g.F.Shelf.fault_count c.args.shelf.now;
      new_faults = g.F.Shelf.fault_count c.open_load.new.shelf;
      absences = g.F.Shelf.absence_count c.args.shelf.now;
      new_absences = g.F.Shelf.absence_count c.open_load.new.shelf;
    } in
    record {
      file = file;
      loads =
          c.refuse_load.ensures.answered own file c.args.place c.args.cube.now without_memory
          (nothing-yet (g.P.CellCaller.opening old) (g.P.CellCaller.number old) c.args.session.now s NoText own);
      read =
          has-read seen (path_loaded s) c.args.cube.now c.open_load.result
          (coe 0 1 (i. OpensLoad seen.told seen.calls seen.new_calls (c.requires.path i) c.args.cube.now c.open_load.result) opens)
          (record {
            failed = c.open_load.ensures.failed;
            quiet = c.open_load.ensures.quiet;
            absent = c.open_load.ensures.absent;
            present = c.open_load.ensures.present;
          }) c.refuse_load.result
          (coe 1 0 (i. IfReplied c.refuse_load.result (IsAnsweredFor (is i))) c.refuse_load.ensures.said);
    }

pub returns-in-Err-Fault-clause-texts : goal.returns-in-Err-Fault-clause-texts
returns-in-Err-Fault-clause-texts g c =
    let old = c.args.caller.now in
    let own = g.P.CellCaller.own old in
    let d = c.args.cube.now in
    let opens = c.open_load.ensures.opens in
    let is : c.open_load.result ≡ Err (Fault c.in-Err-Fault.fault) =
    c.in-Err-Fault.is ∙ ap (λ (e : CallError FileFault). Err e) c.in-Err-Fault.field-0-is
    in
    texts-still-told own (g.P.CellCaller.own c.refuse_file.new.caller) c.args.place d.dims c.args.known.now
    (c.refuse_file.ensures.answered own opens.given
    (coe 0 1 (i. ShowsLoad d opens.given (is i)) opens.shown)
    (nothing-yet (g.P.CellCaller.opening old) (g.P.CellCaller.number old) c.args.session.now c.args.statement.now NoText
    own)).more (record { long = c.requires.asks.long; right = c.requires.asks.right })

pub returns-in-Err-NoMemory-clause-texts : goal.returns-in-Err-NoMemory-clause-texts
returns-in-Err-NoMemory-clause-texts g c =
    let old = c.args.caller.now in
    let own = g.P.CellCaller.own old in
    let d = c.args.cube.now in
    texts-still-told own (g.P.CellCaller.own c.refuse_load.new.caller) c.args.place d.dims c.args.known.now
    (c.refuse_load.ensures.answered own (loaded_file c.open_load.ensures.opens.given) c.args.place d without_memory
    (nothing-yet (g.P.CellCaller.opening old) (g.P.CellCaller.number old) c.args.session.now c.args.statement.now NoText
    own)).more (record { long = c.requires.asks.long; right = c.requires.asks.right })
