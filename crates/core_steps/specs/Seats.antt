-- The seat of a session: what it holds, by what its caller has called.
-- Source: this project's own.
use Rattle.std.specs.Prelude.{ℕ, List, IfSome}
use Rattle.core_program.specs.CoreFits.{CoreEntry}
use Rattle.cube_core.specs.declared.cell.CoreCell.{CoreCell}
use Rattle.linked_shards.specs.declared.cell.CoreShard.{CoreShard}
use Rattle.core_steps.specs.Holding.{Sits}
use Rattle.core_steps.specs.declared.seat.Seat.{Seat}

-- The session holds what the seat says, where no step has failed.
abbrev pub IsSeated : {P : Type 0} → Seat P → List (CoreCell CoreShard) → ℕ → List CoreEntry → Type 0
IsSeated seat cells caller own = IfSome seat.held (Sits seat.size.shards seat.number cells caller own)
