use Rattle.std.proofs.Common.{Option, Some, sym, subst}
use Rattle.core_watches.proofs.AskedStatements.{refused-open}
use Rattle.core_watches.specs.KeptWatches.{KeepsWatchOrNone, kept_on_record, watch_on_record}
use Rattle.core_watches.specs.declared.kept.CoreWatch.{CoreWatch}
use Rattle.cube_run.specs.RunRecords.{Says}
use Rattle.scripted_pasts.specs.Performed.{WhateverFile}
use Rattle.scripted_pasts.specs.Served.{PerformsOverShards}
use Rattle.session_desk.specs.Executed.{IfReplied}
use Rattle.core_watches.proofs.statements.watch.Goals as goal

pub set_watch-requires-clause-none : goal.set_watch-requires-clause-none
set_watch-requires-clause-none g c =
    let before = c.args.caller.now in
    subst (λ (k : Option CoreWatch). KeepsWatchOrNone (g.P.CellCaller.opening before) (g.P.CellCaller.number before)
    c.args.session.now.number (g.P.CellCaller.own before) k) c.in-None.is c.requires.keeps

pub returns-in-Some-clause-keeps : goal.returns-in-Some-clause-keeps
returns-in-Some-clause-keeps g c = c.refuse_by_watch.ensures.keeps c.args.kept.now c.requires.keeps

pub returns-in-Some-clause-performed : goal.returns-in-Some-clause-performed
returns-in-Some-clause-performed g c =
    let own = g.P.CellCaller.own in
    let before = c.args.caller.now in
    let refused = c.refuse_by_watch in
    refused-open (g.P.CellCaller.opening before) (g.P.CellCaller.number before) c.args.session.now refused.new.session
    (own before) (own refused.new.caller) c.args.statement c.args.kept.now c.in-Some.field-0 c.in-Some.is c.requires.form
    c.requires.may refused.result refused.ensures.performed

pub returns-in-Ok-clause-keeps : goal.returns-in-Ok-clause-keeps
returns-in-Ok-clause-keeps g c = c.in-Ok.ensures.kept

pub returns-in-Ok-clause-performed : goal.returns-in-Ok-clause-performed
returns-in-Ok-clause-performed g c =
    let own = g.P.CellCaller.own in
    let before = c.args.caller.now in
    let w = c.in-Ok.watching in
    subst (λ (k : Option CoreWatch). PerformsOverShards (g.P.CellCaller.opening before) (g.P.CellCaller.number before)
    WhateverFile (Says c.args.statement) c.args.session.now (watch_on_record k) (own before) c.set_watch.new.session
    (Some (kept_on_record w.kept)) (own c.set_watch.new.caller) w.reply) (sym c.in-None.is) c.in-Ok.ensures.done

pub returns-in-Err-clause-keeps : goal.returns-in-Err-clause-keeps
returns-in-Err-clause-keeps g c =
    let after = c.set_watch.new.caller in
    subst (λ (k : Option CoreWatch). KeepsWatchOrNone (g.P.CellCaller.opening after) (g.P.CellCaller.number after)
    c.set_watch.new.session.number (g.P.CellCaller.own after) k) (sym c.in-None.is) c.in-Err.ensures.none

pub returns-in-Err-clause-performed : goal.returns-in-Err-clause-performed
returns-in-Err-clause-performed g c =
    let own = g.P.CellCaller.own in
    let before = c.args.caller.now in
    subst (λ (k : Option CoreWatch). IfReplied c.in-Err.answered (PerformsOverShards (g.P.CellCaller.opening before)
    (g.P.CellCaller.number before) WhateverFile (Says c.args.statement) c.args.session.now (watch_on_record k) (own before)
    c.set_watch.new.session (watch_on_record k) (own c.set_watch.new.caller))) (sym c.in-None.is) c.in-Err.ensures.refused
