-- What a snapshot is to see of a cube: what the transactions that count for it leave, run one after the other in the
-- order of their epochs.
-- Source: AOSI (ICDE 2018), snapshot isolation by epochs. A box that goes to all shards is one deletion.
use Rattle.std.specs.Prelude.{ℕ, zero, suc, Bool, false, not, ◌&&◌, ◌||◌, ◌==◌, nat_le, List, [], ◌∷◌, ◌++◌, filter, if◌then◌else◌}
use Rattle.cube_values.specs.declared.row.CodedRow.{CodedRow}
use Rattle.cube_values.specs.declared.snapshot.Snapshot.{Snapshot}
use Rattle.cube_values.specs.declared.span.Span.{Span}
use Rattle.cube_values.specs.Sees.{sees}
use Rattle.cube_values.specs.Spans.{span_has}
use Rattle.core_events.specs.ShardView.{EpochSet}
use Rattle.core_events.specs.Jobs.{CoreJob, Append, DropBox}
use Rattle.core_events.specs.Groups.{has_ended}
use Rattle.core_events.specs.Clients.{client_state}
use Rattle.core_events.specs.Events.{Opening, OnDesk, Commit, AbortEnd, ClientCall, Post, CoreEvent, By, At}

-- Epochs that were committed, those of the kept rows among them, and epochs that were aborted.
abbrev pub commits : ClientCall → EpochSet
commits (OnDesk (Commit statement epoch)) e = epoch == e
commits call e = false

abbrev pub has_committed : Opening → List CoreEvent → EpochSet
has_committed o [] e = nat_le e o.safe
has_committed o (By a call ∷ es) e = commits call e || has_committed o es e
has_committed o (At mail move ∷ es) e = has_committed o es e

abbrev pub aborts : ClientCall → EpochSet
aborts (OnDesk (AbortEnd statement epoch cause)) e = epoch == e
aborts call e = false

abbrev pub has_aborted : List CoreEvent → EpochSet
has_aborted [] e = false
has_aborted (By a call ∷ es) e = aborts call e || has_aborted es e
has_aborted (At mail move ∷ es) e = has_aborted es e

-- The epochs that count for a snapshot: those that it sees and that were committed, and its own.
abbrev pub counts_for : Opening → List CoreEvent → Snapshot → EpochSet
counts_for o es s e = sees s e && (has_committed o es e || (s.own && s.epoch == e))

-- What a transaction does to a cube.
pub data CubeOperation : Type 0 where
  PutRows : (rows : List CodedRow) → CubeOperation
  DropRows : (box : Span) → CubeOperation

-- The operations of an epoch on a cube, the newest first, by what its session posted: the rows for each shard, and a
-- box where the group of its jobs begins.
abbrev pub operations_with : ℕ → ℕ → Bool → CoreJob → List CubeOperation → List CubeOperation
operations_with cube e begins (Append other epoch rows) operations =
    if other == cube && epoch == e then PutRows rows ∷ operations else operations
operations_with cube e begins (DropBox other epoch box) operations =
    if begins && (other == cube && epoch == e) then DropRows box ∷ operations else operations
operations_with cube e begins job operations = operations

abbrev pub operations_after : ℕ → ℕ → Bool → ClientCall → List CubeOperation → List CubeOperation
operations_after cube e begins (Post mail job) operations = operations_with cube e begins job operations
operations_after cube e begins call operations = operations

abbrev pub operations_of : Opening → ℕ → List CoreEvent → ℕ → List CubeOperation
operations_of o cube [] e = if e == o.safe then PutRows (o.rows cube) ∷ [] else []
operations_of o cube (By a call ∷ es) e =
    operations_after cube e (has_ended o.shards (client_state o a es).group) call (operations_of o cube es e)
operations_of o cube (At mail move ∷ es) e = operations_of o cube es e

-- The rows after a transaction, of those before it.
abbrev pub rows_after_transaction : List CubeOperation → List CodedRow → List CodedRow
rows_after_transaction [] rows = rows
rows_after_transaction (PutRows more ∷ older) rows = rows_after_transaction older rows ++ more
rows_after_transaction (DropRows box ∷ older) rows =
    filter (λ row. not (span_has box row.coords)) (rows_after_transaction older rows)

-- The rows that the transactions of some epochs below a limit leave.
abbrev pub rows_left_below : ℕ → EpochSet → (ℕ → List CubeOperation) → List CodedRow
rows_left_below zero epochs operations = []
rows_left_below (suc m) epochs operations =
    if epochs m then rows_after_transaction (operations m) (rows_left_below m epochs operations)
    else rows_left_below m epochs operations
