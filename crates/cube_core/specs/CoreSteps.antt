-- The calls on cells as steps. What a shard asks, answers and becomes is a parameter.
use Rattle.core_cells.specs.DeskCalls.{CanCallDesk, DeskStep}
use Rattle.core_cells.specs.MailCalls.{CanCallMail, MailStep}
use Rattle.core_cells.specs.NamesCalls.{CanCallNames, NamesStep}
use Rattle.cube_core.specs.declared.cell.CoreAnswer.{CoreAnswer}
use Rattle.cube_core.specs.declared.cell.CoreAnswer.TheVariants as answer
use Rattle.cube_core.specs.declared.cell.CoreCall.{CoreCall}
use Rattle.cube_core.specs.declared.cell.CoreCall.TheVariants as call
use Rattle.cube_core.specs.declared.cell.CoreCell.{CoreCell}
use Rattle.cube_core.specs.declared.cell.CoreCell.TheVariants as cell
use Rattle.cube_core.specs.declared.shard.ShardAnswer.{ShardAnswer}
use Rattle.cube_core.specs.declared.shard.ShardCall.{ShardCall}

module _ {S : Type 0} (can : S → ShardCall → Type 0) where
  -- The call is on a cell of its kind, which can take it.
  abbrev pub CanTake : CoreCell S → CoreCall → Type 0
  CanTake (cell.Desk desk alloc) (call.Desk c) = CanCallDesk desk c
  CanTake (cell.Names names) (call.Names c) = CanCallNames names c
  CanTake (cell.Shard shard) (call.Shard c) = can shard c
  CanTake (cell.Mail mail) (call.Mail c) = CanCallMail mail c
  CanTake x c = ⊥

module _ {S : Type 0} (step : S → ShardCall → ShardAnswer → S → Type 0) where
  -- The cell before a call, the call, its answer, and the cell that it leaves.
  abbrev pub CoreStep : CoreCell S → CoreCall → CoreAnswer → CoreCell S → Type 0
  CoreStep (cell.Desk desk alloc) (call.Desk c) (answer.Desk a) (cell.Desk new same) = DeskStep desk c a new
  CoreStep (cell.Names names) (call.Names c) (answer.Names a) (cell.Names new) = NamesStep names c a new
  CoreStep (cell.Shard shard) (call.Shard c) (answer.Shard a) (cell.Shard new) = step shard c a new
  CoreStep (cell.Mail mail) (call.Mail c) (answer.Mail a) (cell.Mail new) = MailStep mail c a new
  CoreStep x c a y = ⊥
