use denote.Param.{param}
use denote.Exit.{no}
use denote.Param.Send.{IsSend, IsSync, arg_send, param_send, sendable}
use mir.Syntax.{named}
use Rattle.threaded_callers.proofs.Crossings.{start_send}
use Rattle.std.proofs.Crossing.{crosses}
use Rattle.std.proofs.Common.{rules, length, sym, subst}
use Rattle.threaded_callers.specs.Tasks.{IsWorked}
use Rattle.threaded_callers.proofs.Elements.{one_more}
use Rattle.threaded_callers.proofs.LastWorkers.{all_worked}
use Rattle.threaded_callers.proofs.Starts.{none_begin, one_more_thread}
use Rattle.threaded_callers.proofs.serving.+serve_from.Goals as goal

pub returns-in-Ok-clause-worked : goal.returns-in-Ok-clause-worked
returns-in-Ok-clause-worked g t c =
    let done = g.K.CallerWork.has_done in
    let w = subst (λ x. IsWorked done c.args.board.now x c.join.result) c.of.ensures
    (subst (λ p. IsWorked done p.board.now p.before.value c.join.result) c.in-Ok.ensures.ok c.join.ensures) in
    let r = c.serve_from-served in
    all_worked c.args.board.now c.args.workers.items c.take_last.new.workers.items c.in-Some.worker c.in-Some.ensures.items
    r.result.workers.items c.push_reserved.new.self.items c.join.result c.push_reserved.ensures.items
    r.ensures.long g.K.CallerWork.has_done r.ensures.worked w

pub returns-in-Err-clause-worked : goal.returns-in-Err-clause-worked
returns-in-Err-clause-worked g t c =
    let w = subst (λ f. IsWorked g.K.CallerWork.has_done f.1.now f.4 c.start-in-Err.result) c.in-Err.ensures.err
    c.start-in-Err.ensures in
    let r = c.serve_from-served-in-Err in
    all_worked c.args.board.now c.args.workers.items c.take_last.new.workers.items c.in-Some.worker c.in-Some.ensures.items
    r.result.workers.items c.push_reserved-in-Err.new.self.items c.start-in-Err.result
    c.push_reserved-in-Err.ensures.items r.ensures.long g.K.CallerWork.has_done r.ensures.worked w

pub returns-in-Ok-clause-threads : goal.returns-in-Ok-clause-threads
returns-in-Ok-clause-threads g t c =
    let r = c.serve_from-served in let rest = c.take_last.new.workers.items in
    one_more_thread c.args.starter.now c.start.new.self r.new.starter (length rest) (length c.args.workers.items)
    (one_more c.args.workers.items rest c.in-Some.worker c.in-Some.ensures.items) r.result.played.began
    c.in-Ok.ensures.threads r.ensures.threads

pub returns-in-Err-clause-threads : goal.returns-in-Err-clause-threads
returns-in-Err-clause-threads g t c =
    let r = c.serve_from-served-in-Err in let rest = c.take_last.new.workers.items in
    none_begin c.args.starter.now c.start.new.self r.new.starter (length rest) (length c.args.workers.items)
    (one_more c.args.workers.items rest c.in-Some.worker c.in-Some.ensures.items) r.result.played.began
    c.in-Err.ensures.threads r.ensures.threads

pub start-requires-clause-keeps : goal.start-requires-clause-keeps
start-requires-clause-keeps g t c κs within r worked =
    subst (λ before. IsWorked g.K.CallerWork.has_done c.args.board.now before r) (sym c.of.ensures) worked

pub start-requires-send-F : goal.start-requires-send-F
start-requires-send-F g t c κs within =
    let C = param 1 g.row.C in
    let K = param 5 g.row.K in
    let L = param 7 g.row.L in
    let T = param 8 g.row.C-Cell in
    let sync-R : IsSync (param 2 g.row.R) = search (rules, sendable, crosses) in
    let send-C : IsSend C = search (rules, sendable, crosses) in
    let sync-C : IsSync C = search (rules, sendable, crosses) in
    let send-K : IsSend K = search (rules, sendable, crosses) in
    let send-L : IsSend L = search (rules, sendable, crosses) in
    let send-T : IsSend T = search (rules, sendable, crosses) in
    let sync-T : IsSync T = search (rules, sendable, crosses) in
    param_send _ _ (arg_send _ no _ (start_send _ 2 g.row.R C K L T (param 9 g.row.C-Call) (param 10 g.row.C-Answer) g.C.Cells
    g.K.StepWork g.K.CallerWork g.L.Roster (record { mir = named 8; lft = κs.1.1.1.1.1.1.1.1.0 })
    (record { mir = named 9; lft = κs.1.1.1.1.1.1.1.1.1.0 }) (record { mir = named 10; lft = κs.1.1.1.1.1.1.1.1.1.1.0 })
    (record { mir = named 11; lft = κs.1.1.1.1.1.1.1.1.1.1.1.0 }) (record { mir = named 12; lft = κs.1.1.1.1.1.1.1.1.1.1.1.1.0 })
    sync-R send-C sync-C send-K send-L send-T sync-T))
