use denote.Exit.{no}
use denote.Param.{param}
use denote.Param.Send.{arg_sync, param_sync, shr_sync}
use mir.Syntax.{named}
use Rattle.turn_board.specs.contracts.board.Board as board
use Rattle.threaded_callers.specs.contracts.helping.Help as help
use Rattle.threaded_callers.proofs.Crossings.{board_sync, help_sync, three_sync}
use Rattle.threaded_callers.proofs.working.work_all.Goals as goal

-- The closure holds references alone, and what they lead to may be shared.
pub for_each_mut-requires-sync-F : goal.for_each_mut-requires-sync-F
for_each_mut-requires-sync-F g c κs within =
    let C = param 0 g.row.C in
    let K = param 3 g.row.K in
    let L = param 4 g.row.L in
    let T = param 5 g.row.C-Cell in
    let Q = param 6 g.row.C-Call in
    let A = param 7 g.row.C-Answer in
    let b = c.type_bounds in
    param_sync 2 _ (arg_sync _ no _ (three_sync _ _ _ _
    (shr_sync (named 6) κs.1.1.1.1.1.1.0 (param 1 g.row.R) b.sync-R)
    (shr_sync (named 7) κs.1.1.1.1.1.1.1.0 (board.the_row C T Q A g.C.Cells)
    (board_sync C K L T Q A g.C.Cells g.K.StepWork g.K.CallerWork g.L.Roster b.send-C b.sync-C b.send-K b.send-L b.send-C-Cell
    b.sync-C-Cell))
    (shr_sync (named 8) κs.1.1.1.1.1.1.1.1.0
    (help.the_row (record { mir = named 9; lft = κs.1.1.1.1.1.1.1.1.1.0 })
    (record { mir = named 10; lft = κs.1.1.1.1.1.1.1.1.1.1.0 }) C K L T Q A g.K.StepWork g.K.CallerWork g.L.Roster g.C.Cells)
    (help_sync C K L T Q A g.C.Cells g.K.StepWork g.K.CallerWork g.L.Roster b.send-C b.sync-C b.send-K b.send-L b.send-C-Cell
    b.sync-C-Cell (record { mir = named 9; lft = κs.1.1.1.1.1.1.1.1.1.0 })
    (record { mir = named 10; lft = κs.1.1.1.1.1.1.1.1.1.1.0 })))))
