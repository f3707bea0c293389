use Rattle.std.proofs.Common.{Option, Some, sym, subst}
use Rattle.core_watches.proofs.AskedStatements.{refused-none}
use Rattle.core_watches.specs.KeptWatches.{KeepsWatchOrNone, kept_on_record, watch_on_record}
use Rattle.core_watches.specs.declared.kept.CoreWatch.{CoreWatch}
use Rattle.cube_language.specs.declared.statement.Statement.TheVariants.{ShowWatch}
use Rattle.cube_run.specs.RunRecords.{Says}
use Rattle.scripted_pasts.specs.Performed.{WhateverFile}
use Rattle.scripted_pasts.specs.Served.{PerformsOverShards}
use Rattle.session_desk.specs.Executed.{IfReplied}
use Rattle.core_watches.proofs.statements.show_watch.Goals as goal

pub show_kept-requires-clause-keeps : goal.show_kept-requires-clause-keeps
show_kept-requires-clause-keeps g c =
    let before = c.args.caller.now in
    subst (λ (k : Option CoreWatch). KeepsWatchOrNone (g.P.CellCaller.opening before) (g.P.CellCaller.number before)
    c.args.session.now.number (g.P.CellCaller.own before) k) c.in-Some.is c.requires.keeps

pub returns-in-Some-clause-keeps : goal.returns-in-Some-clause-keeps
returns-in-Some-clause-keeps g c = c.show_kept.ensures.keeps

pub returns-in-Some-clause-performed : goal.returns-in-Some-clause-performed
returns-in-Some-clause-performed g c =
    let own = g.P.CellCaller.own in
    let before = c.args.caller.now in
    subst (λ (k : Option CoreWatch). IfReplied c.show_kept.result (PerformsOverShards (g.P.CellCaller.opening before)
    (g.P.CellCaller.number before) WhateverFile (Says ShowWatch) c.args.session.now (watch_on_record k) (own before)
    c.show_kept.new.session (Some (kept_on_record c.show_kept.new.kept)) (own c.show_kept.new.caller))) (sym c.in-Some.is)
    c.show_kept.ensures.performed

pub returns-in-None-clause-keeps : goal.returns-in-None-clause-keeps
returns-in-None-clause-keeps g c = c.refuse_by_watch.ensures.keeps c.args.kept.now c.requires.keeps

pub returns-in-None-clause-performed : goal.returns-in-None-clause-performed
returns-in-None-clause-performed g c =
    let own = g.P.CellCaller.own in
    let before = c.args.caller.now in
    let refused = c.refuse_by_watch in
    refused-none (g.P.CellCaller.opening before) (g.P.CellCaller.number before) c.args.session.now refused.new.session
    (own before) (own refused.new.caller) c.args.kept.now c.in-None.is c.requires.may refused.result
    refused.ensures.performed
