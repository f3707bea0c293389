-- A turn of a load by a caller whose opening and number stay: the claims of its calls, each over the caller as it then was.
use Rattle.std.proofs.Common.{◌≡◌, ℕ, List}
use Rattle.cube_core.specs.declared.cell.CoreCell.{CoreCell}
use Rattle.linked_shards.specs.declared.cell.CoreShard.{CoreShard}

-- What holds of the cells and the number that a caller had holds of those that it has.
pub now-of : (P : List (CoreCell CoreShard) → ℕ → Type 0) {cells new_cells : List (CoreCell CoreShard)}
    {caller new_caller : ℕ} → new_cells ≡ cells → new_caller ≡ caller → P cells caller → P new_cells new_caller
now-of P same_cells same_caller h = coe 1 0 (i. P (same_cells i) (same_caller i)) h

-- And the other way round.
pub before-of : (P : List (CoreCell CoreShard) → ℕ → Type 0) {cells new_cells : List (CoreCell CoreShard)}
    {caller new_caller : ℕ} → new_cells ≡ cells → new_caller ≡ caller → P new_cells new_caller → P cells caller
before-of P same_cells same_caller h = coe 0 1 (i. P (same_cells i) (same_caller i)) h
