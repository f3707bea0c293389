use Rattle.std.proofs.Common.{◌≡◌, ℕ, List, Some, None, sym, subst}
use Rattle.std.specs.Prelude.{IfErr, IfOk}
use Rattle.core_watches.specs.WatchEnds.{EndsWatch}
use Rattle.core_watches.proofs.Unfit.{why-unfit}
use Rattle.core_watches.specs.KeptWatches.{kept_on_record}
use Rattle.cube_language.specs.Misfits.{FitsCube}
use Rattle.cube_language.specs.declared.decl.Decl.{Decl}
use Rattle.cube_run.specs.RunRecords.{cube_needed}
use Rattle.known_cubes.specs.KnownCubes.{IsToldOfCube}
use Rattle.session_desk.specs.Executed.{IfReplied}
use Rattle.watch_holds.specs.HolderStates.{NoReader}
use Rattle.core_watches.proofs.watching.watch_found.Goals as goal

pub watch_fitting-requires-clause-fits : goal.watch_fitting-requires-clause-fits
watch_fitting-requires-clause-fits g c =
    subst (λ (d : Decl). FitsCube d c.args.statement) (sym c.in-Ok.ensures.cube) c.in-Ok.ensures.fits

pub watch_fitting-requires-clause-told : goal.watch_fitting-requires-clause-told
watch_fitting-requires-clause-told g c =
    subst (λ (d : Decl). (name : List ℕ) × (cube_needed c.args.statement ≡ Some name)
    × IsToldOfCube (g.P.CellCaller.own c.args.caller.now) name c.args.found.place d) (sym c.in-Ok.ensures.cube) c.requires.told

pub refuse_unfit-requires-clause-why : goal.refuse_unfit-requires-clause-why
refuse_unfit-requires-clause-why g c =
    why-unfit Decl c.args.found.decl c.args.statement c.in-Err.error c.in-Err.ensures.misfit

pub returns-in-Ok-clause-done : goal.returns-in-Ok-clause-done
returns-in-Ok-clause-done g c =
    let own = g.P.CellCaller.own in
    let before = c.args.caller.now in
    subst (λ (d : Decl). IfOk c.watch_fitting.result (λ w. EndsWatch (g.P.CellCaller.opening before)
    (g.P.CellCaller.number before) c.args.session.now c.args.statement d (own before) (own c.watch_fitting.new.caller)
    (Some (kept_on_record w.kept)) w.reply)) c.in-Ok.ensures.cube c.watch_fitting.ensures.done

pub returns-in-Ok-clause-refused : goal.returns-in-Ok-clause-refused
returns-in-Ok-clause-refused g c =
    let own = g.P.CellCaller.own in
    let before = c.args.caller.now in
    subst (λ (d : Decl). IfErr c.watch_fitting.result (λ answered. IfReplied answered (EndsWatch (g.P.CellCaller.opening before)
    (g.P.CellCaller.number before) c.args.session.now c.args.statement d (own before) (own c.watch_fitting.new.caller)
    None))) c.in-Ok.ensures.cube c.watch_fitting.ensures.refused

pub returns-in-Err-clause-none : goal.returns-in-Err-clause-none
returns-in-Err-clause-none g c = c.refuse_unfit.ensures.holders NoReader c.requires.none
