-- What a round has copied of each brick, once the answers of all shards are fetched, and a store that takes it in.
-- Source: Cubrick (VLDB 2016), rounds of a flush that keep all up to an epoch; copies by runs and marks are this
-- project's own.
use Rattle.std.specs.Prelude.{◌≡◌, ◌⊎◌, ℕ, ◌<◌, ◌≤◌, ◌%◌, ◌==◌, List, [], ◌∷◌, Some, if◌then◌else◌}
use Rattle.std.specs.List.Sorted.{IsPermutation}
use Rattle.cube_values.specs.declared.row.CodedRow.{CodedRow}
use Rattle.cube_journal.specs.Counters.{JournalState, lce}
use Rattle.core_events.specs.ShardView.{BrickEntry, ShardView, rows_over_kept}
use Rattle.core_events.specs.Jobs.{JobOutcome, Copied}
use Rattle.core_events.specs.Events.{Opening, CoreEvent}
use Rattle.core_events.specs.Groups.{Copies, Received, JobGroup}
use Rattle.core_events.specs.Clients.{reader_up_to}
use Rattle.core_events.specs.Cells.{rows_of_brick}
use Rattle.core_events.specs.Fitting.{HasAllDone}
use Rattle.core_serial.specs.CubeRows.{rows_of_serial_run}

-- The copy in an answer.
abbrev pub copy_in : JobOutcome → ℕ → ℕ → List BrickEntry
copy_in (Copied view) cube brick = view cube brick
copy_in answer cube brick = []

-- Each brick's copy is that of its shard.
abbrev pub copies_by : Opening → List Received → ShardView
copies_by o [] cube brick = []
copies_by o (r ∷ answers) cube brick =
    if r.mail == brick % o.shards then copy_in r.answer cube brick else copies_by o answers cube brick

-- The group copies these epochs, and the client has the answers of all shards, none of them a refusal.
pub record HasCopied (shards from to : ℕ) (g : JobGroup) : Type 0 where
  pub copies : g.kind ≡ Copies from to
  pub done : HasAllDone shards g

-- The round that is open goes up to the second epoch, and the first is LSE, or 0 where the copies are of all rows.
pub record IsOfOpenRound (from to : ℕ) (s : JournalState) : Type 0 where
  pub round : s.round ≡ Some to
  pub begins : (from ≡ s.lse) ⊎ (from ≡ 0)
  pub rises : s.lse < to
  pub committed : to ≤ lce s

-- The rows that the committed transactions up to an epoch leave in a cube.
abbrev pub rows_committed_up_to : Opening → List CoreEvent → ℕ → ℕ → List CodedRow
rows_committed_up_to o es cube epoch = rows_of_serial_run o es cube (reader_up_to epoch)

-- The rows that a store has of a cube once it has taken in the copies: each brick's show over the rows that it kept.
abbrev pub AreRowsAfterRound : Opening → ℕ → ℕ → ShardView → List CodedRow → List CodedRow → Type 0
AreRowsAfterRound o cube from copies kept rows = (brick : ℕ)
    → IsPermutation (rows_of_brick o cube brick rows)
    (rows_over_kept from (rows_of_brick o cube brick kept) (copies cube brick))
