-- What stands at the stations of a run may be shared among threads.
use denote.RattleType.{RattleType}
use denote.Struct.Field.{shr_ref_field, u64-field}
use denote.Struct.Tuple.{TupleAt, type_at}
use denote.Ref.{NamedLft}
use denote.Param.{param}
use denote.Param.Send.{IsSend, IsSync, sendable, view_send}
use denote.Param.SendFields.{declared_send, declared_sync}
use Rattle.std.proofs.Common.{ℕ, List, [], ◌∷◌}
use Rattle.std.proofs.Crossing.{crosses}
use Rattle.std.proofs.option.Option.TheSendSync as options
use Rattle.atomic_table.proofs.shared.Seat.TheSendSync as seats
use Rattle.turn_board.proofs.board.Board.TheSendSync as boards
use Rattle.turn_board.proofs.lane.Lane.TheSendSync as lanes
use Rattle.turn_board.proofs.numbers.Chain.TheLaws.TheKnot.{send-Chain}
use Rattle.turn_board.specs.contracts.board.Board as board
use Rattle.turn_board.specs.contracts.pass.Pass as pass
use Rattle.turn_board.specs.declared.cells.Cells as cells
use Rattle.threaded_callers.specs.contracts.helping.Help as help
use Rattle.threaded_callers.specs.contracts.station.Station as station
use Rattle.threaded_callers.specs.contracts.station.Station.TheInside as inside
use Rattle.threaded_callers.specs.contracts.task.Task as task
use Rattle.threaded_callers.specs.declared.station.Roster as roster
use Rattle.threaded_callers.specs.declared.work.CallerWork as caller
use Rattle.threaded_callers.specs.declared.work.StepWork as steps

module _ (C K L T Q A : RattleType) (g : cells.Ghosts C.Denot T.Denot Q.Denot A.Denot)
    (s : steps.Ghosts K.Denot C.Denot T.Denot Q.Denot A.Denot) (w : caller.Ghosts K.Denot C.Denot T.Denot Q.Denot A.Denot)
    (r : roster.Ghosts L.Denot C.Denot T.Denot Q.Denot A.Denot K.Denot) (C-send : IsSend C) (C-sync : IsSync C)
    (K-send : IsSend K) (L-send : IsSend L) (T-send : IsSend T) (T-sync : IsSync T) where
  pass-send : IsSend (pass.the_row C T Q A g)
  pass-send = declared_send (pass.the_type C T Q A g)
      (search (send-Chain, sendable, crosses), (search (sendable, crosses), (search (seats.the_send, lanes.the_send, sendable, crosses), tt)))

  pub task_send : IsSend (task.the_row C K T Q A g)
  task_send = declared_send (task.the_type C K T Q A g) (search (sendable, crosses), (search (options.the_send, pass-send, sendable, crosses) depth 12, tt))

  inside-send : IsSend (inside.the_row C K L T Q A g s w r)
  inside-send = declared_send (inside.the_type C K L T Q A g s w r)
      (search (sendable, crosses), (search (sendable, crosses), (task_send, (search (sendable, crosses), tt))))

  station-send : IsSend (station.the_row C K L T Q A g s w r)
  station-send = view_send (inside.the_row C K L T Q A g s w r) _ _ _ _ inside-send

  pub board_sync : IsSync (board.the_row C T Q A g)
  board_sync = search (boards.the_sync, sendable, crosses) depth 20

  -- So is what helps.
  pub help_sync : (κ μ : NamedLft) → IsSync (help.the_row κ μ C K L T Q A s w r g)
  help_sync κ μ = declared_sync (help.the_type κ μ C K L T Q A s w r g)
      (search (board_sync, sendable, crosses), (search (station-send, sendable, crosses) depth 20, (search (sendable, crosses), tt)))

-- So is a closure where each of the three that it holds is.
pub three_sync : (ν : List ℕ) (A B C : RattleType) → IsSync A → IsSync B → IsSync C → IsSync (TupleAt ν (A ∷ B ∷ C ∷ []))
three_sync ν A B C a b c = declared_sync (type_at ν (A ∷ B ∷ C ∷ []))
    (search (a, sendable, crosses), (search (b, sendable, crosses), (search (c, sendable, crosses), tt)))

-- A closure may be sent that holds references to what may be shared, a place, and a task that may be sent.
pub start_send : (ν : List ℕ) (i : ℕ) (R C K L T Q A : RattleType) (g : cells.Ghosts C.Denot T.Denot Q.Denot A.Denot)
    (s : steps.Ghosts K.Denot C.Denot T.Denot Q.Denot A.Denot) (w : caller.Ghosts K.Denot C.Denot T.Denot Q.Denot A.Denot)
    (r : roster.Ghosts L.Denot C.Denot T.Denot Q.Denot A.Denot K.Denot) (ℓ₁ ℓ₂ ℓ₃ κ μ : NamedLft) → IsSync (param i R) → IsSend C
    → IsSync C → IsSend K → IsSend L → IsSend T → IsSync T
    → IsSend (TupleAt ν ((shr_ref_field ℓ₁ (param i R) tt).row ∷ (shr_ref_field ℓ₂ (board.the_row C T Q A g) tt).row
    ∷ (shr_ref_field ℓ₃ (help.the_row κ μ C K L T Q A s w r g) tt).row ∷ (u64-field).row ∷ task.the_row C K T Q A g ∷ []))
start_send ν i R C K L T Q A g s w r ℓ₁ ℓ₂ ℓ₃ κ μ R-sync C-send C-sync K-send L-send T-send T-sync =
    let board-sync = board_sync C K L T Q A g s w r C-send C-sync K-send L-send T-send T-sync in
    let help-sync = help_sync C K L T Q A g s w r C-send C-sync K-send L-send T-send T-sync κ μ in
    let task-send = task_send C K L T Q A g s w r C-send C-sync K-send L-send T-send T-sync in
    declared_send (type_at ν ((shr_ref_field ℓ₁ (param i R) tt).row ∷ (shr_ref_field ℓ₂ (board.the_row C T Q A g) tt).row
    ∷ (shr_ref_field ℓ₃ (help.the_row κ μ C K L T Q A s w r g) tt).row ∷ (u64-field).row ∷ task.the_row C K T Q A g ∷ [])) (
      search (R-sync, sendable, crosses),
      (
        search (board-sync, sendable, crosses),
        (
          search (help-sync, sendable, crosses),
          (search (sendable, crosses), (search (task-send, sendable, crosses), tt)),
        ),
      ),
    )
