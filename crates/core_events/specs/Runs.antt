-- Runs of the core: each call and each move fitted, and each answer is that of its cell.
-- Source: this project's own; linearizability (Herlihy and Wing, 1990).
use Rattle.std.specs.Prelude.{◌≡◌, ℕ, ◌%◌, ◌≤◌, Bool, true, not, ◌&&◌, ◌==◌, List, [], ◌∷◌, ◌++◌, drop, filter, Some, All, Contains}
use Rattle.cube_values.specs.declared.query.BoundQuery.{BoundQuery}
use Rattle.cube_values.specs.declared.row.CodedRow.{CodedRow}
use Rattle.cube_values.specs.declared.snapshot.Snapshot.{Snapshot}
use Rattle.cube_values.specs.declared.span.Span.{Span}
use Rattle.cube_values.specs.Sees.{sees}
use Rattle.cube_values.specs.Shapes.{bricks_of}
use Rattle.cube_values.specs.Spans.{span_has}
use Rattle.cube_journal.specs.Counters.{lce, counters_in}
use Rattle.aosi_desk.specs.State.{state_of, round_answer}
use Rattle.aosi_desk.specs.Desks.{DeskState, cube_answer, IsFound}
use Rattle.names_dict.specs.Dictionaries.{code_of, number_of}
use Rattle.core_events.specs.ShardView.{BrickEntry, RowRun, RowMark, ShardView, EpochSet, is_below_mark, epochs_before_mark, rows_where, brick_rows_seen, entries_of_round, epoch_of_entry, is_within_round, rows_appended, rows_over_kept}
use Rattle.core_events.specs.Jobs.{CoreJob, Append, DropBox, Scan, Delta, Rollback, Purge, CopyRound, JobOutcome, Done, ShardFull, Found, Compared, Copied, OutOfMemory}
use Rattle.core_events.specs.Events.{Opening, IsOpening, DeskEvent, OpenWrite, OpenRead, TakeNote, CreateCube, FindCube, CubesFrom, CountersNow, RoundOpen, StoreFailed, NamesEvent, Encode, FindName, CopyFrom, ClientCall, OnDesk, OnNames, Fetch, WorkerMove, Take, NoJob, Work, Reply, CoreEvent, By, At}
use Rattle.core_events.specs.Clients.{client_state, reader_up_to}
use Rattle.core_events.specs.Cells.{desk_of, dictionary_of, Letter, letter, queue_of, reply_for, is_mail_closed, shard_view_of, rows_of_brick, sizes_of_cube}
use Rattle.core_events.specs.Fitting.{FitsCall, FitsMove}

-- The answers of the desk.
abbrev pub DeskSays : DeskState → DeskEvent → Type 0
DeskSays desk (OpenWrite statement epoch deps) =
    let s = state_of desk.register in (epoch ≡ s.ec) × (deps ≡ s.pending)
DeskSays desk (OpenRead holder statement epoch) = epoch ≡ lce (state_of desk.register)
DeskSays desk (TakeNote note counters) = counters ≡ counters_in (state_of desk.register)
DeskSays desk (CreateCube statement decl answer) = answer ≡ cube_answer desk decl.name
DeskSays desk (FindCube statement name answer) = IsFound desk.cubes name answer
DeskSays desk (CubesFrom place cubes) = cubes ≡ drop place desk.cubes
DeskSays desk (CountersNow counters) = counters ≡ counters_in (state_of desk.register)
DeskSays desk (RoundOpen answer) = answer ≡ round_answer (state_of desk.register)
DeskSays desk (StoreFailed failed) = failed ≡ (state_of desk.register).store_failed
DeskSays desk call = Unit {0}

-- The answers of the dictionaries.
abbrev pub NamesSay : Opening → List CoreEvent → NamesEvent → Type 0
NamesSay o es (Encode cube dim name code) = code ≡ code_of (dictionary_of o cube dim es) name
NamesSay o es (FindName cube dim name number) = number ≡ number_of (dictionary_of o cube dim es) name
NamesSay o es (CopyFrom cube dim from names) = names ≡ drop from (dictionary_of o cube dim es).names

-- The answers to a client: a mail gives the answer that it holds for the client.
abbrev pub CallSays : Opening → List CoreEvent → ℕ → ClientCall → Type 0
CallSays o es a (OnDesk call) = DeskSays (desk_of o es) call
CallSays o es a (OnNames call) = NamesSay o es call
CallSays o es a (Fetch mail answer) = reply_for mail a es ≡ Some answer
CallSays o es a call = Unit {0}

-- The rows of a span.
abbrev pub rows_in_span : Span → List CodedRow → List CodedRow
rows_in_span span rows = filter (λ row. span_has span row.coords) rows

-- The rows of a brick that one sight shows and another does not. A sight has the epochs whose rows it looks for and the
-- epochs whose marks it obeys.
pub record Sight : Type 0 where
  pub epochs : EpochSet
  pub marks : EpochSet

abbrev pub sight_before_mark : ℕ → Sight → Sight
sight_before_mark epoch sight = record sight { epochs = epochs_before_mark (sight.marks epoch) epoch sight.epochs }

abbrev pub shows_run : Sight → ℕ → List BrickEntry → Bool
shows_run sight epoch older = sight.epochs epoch && not (is_below_mark sight.marks epoch older)

abbrev pub rows_shown_besides : Sight → Sight → List BrickEntry → List CodedRow
rows_shown_besides one other [] = []
rows_shown_besides one other (RowRun epoch rows ∷ older) =
    rows_shown_besides one other older
    ++ rows_where (shows_run one epoch older && not (shows_run other epoch older)) rows
rows_shown_besides one other (RowMark epoch ∷ older) =
    rows_shown_besides (sight_before_mark epoch one) (sight_before_mark epoch other) older

abbrev pub sight_of_reader : ℕ → Sight
sight_of_reader epoch = record { epochs = sees (reader_up_to epoch); marks = sees (reader_up_to epoch) }

-- Rows are, brick by brick, those that a function gives for the bricks of a shard, and none of other bricks.
abbrev pub AreByBrick : Opening → ℕ → ℕ → List CodedRow → (ℕ → List CodedRow) → Type 0
AreByBrick o mail cube rows each = (brick : ℕ)
    → rows_of_brick o cube brick rows ≡ rows_where (brick % o.shards == mail) (each brick)

-- A query finds the rows of its span that its snapshot sees.
abbrev pub IsScanOf : Opening → ℕ → ShardView → BoundQuery → Snapshot → List CodedRow → Type 0
IsScanOf o mail view query snapshot rows = AreByBrick o mail query.cube rows
    (λ brick. rows_in_span query.span (brick_rows_seen snapshot (view query.cube brick)))

-- From one reader to another those rows came that the second alone sees, and those went that the first alone sees.
pub record IsDeltaOf (o : Opening) (mail : ℕ) (view : ShardView) (query : BoundQuery) (from to : ℕ)
    (came went : List CodedRow) : Type 0 where
  pub comes : AreByBrick o mail query.cube came (λ brick. rows_in_span query.span
      (rows_shown_besides (sight_of_reader to) (sight_of_reader from) (view query.cube brick)))
  pub goes : AreByBrick o mail query.cube went (λ brick. rows_in_span query.span
      (rows_shown_besides (sight_of_reader from) (sight_of_reader to) (view query.cube brick)))

-- A copy of a brick has entries of the round's epochs and rows of the brick. It shows, over the rows that a reader up to
-- the round's first epoch sees, what the brick's runs and marks of these epochs show over them.
pub record IsBrickCopy (from to : ℕ) (entries copy : List BrickEntry) : Type 0 where
  pub epochs : All (λ e. is_within_round from to (epoch_of_entry e) ≡ true) copy
  pub rows : All (Contains (rows_appended entries)) (rows_appended copy)
  pub shows : let kept = brick_rows_seen (reader_up_to from) entries in
      rows_over_kept from kept copy ≡ rows_over_kept from kept (entries_of_round from to entries)

-- A shard copies each of its bricks so, and nothing of bricks that the cube has not.
pub record IsCopyOf (o : Opening) (mail : ℕ) (view : ShardView) (from to : ℕ) (copy : ShardView) : Type 0 where
  pub own : (cube brick : ℕ) → brick % o.shards ≡ mail → IsBrickCopy from to (view cube brick) (copy cube brick)
  pub others : (cube brick : ℕ) → bricks_of (sizes_of_cube o cube) ≤ brick → copy cube brick ≡ []

-- The answers of a shard. Rollback and purge take no memory.
abbrev pub ShardSays : Opening → ℕ → ShardView → CoreJob → JobOutcome → Type 0
ShardSays o mail view (Append cube epoch rows) Done = Unit {0}
ShardSays o mail view (Append cube epoch rows) (ShardFull full) = Unit {0}
ShardSays o mail view (Append cube epoch rows) OutOfMemory = Unit {0}
ShardSays o mail view (DropBox cube epoch box) Done = Unit {0}
ShardSays o mail view (DropBox cube epoch box) OutOfMemory = Unit {0}
ShardSays o mail view (Scan query snapshot) (Found rows) = IsScanOf o mail view query snapshot rows
ShardSays o mail view (Scan query snapshot) OutOfMemory = Unit {0}
ShardSays o mail view (Delta query from to) (Compared came went) = IsDeltaOf o mail view query from to came went
ShardSays o mail view (Delta query from to) OutOfMemory = Unit {0}
ShardSays o mail view (Rollback epoch) Done = Unit {0}
ShardSays o mail view (Purge epoch) Done = Unit {0}
ShardSays o mail view (CopyRound from to) (Copied copy) = IsCopyOf o mail view from to copy
ShardSays o mail view (CopyRound from to) OutOfMemory = Unit {0}
ShardSays o mail view job answer = ⊥

-- The oldest job of a mail.
abbrev pub IsOldest : ℕ → CoreJob → List Letter → Type 0
IsOldest client job [] = ⊥
IsOldest client job (first ∷ queue) = first ≡ letter client job

-- The answers to a worker: a mail gives its oldest job, a shard answers by what it has.
abbrev pub MoveSays : Opening → List CoreEvent → ℕ → WorkerMove → Type 0
MoveSays o es mail (Take client job) = IsOldest client job (queue_of mail es)
MoveSays o es mail (NoJob closed) = (queue_of mail es ≡ []) × (closed ≡ is_mail_closed mail es)
MoveSays o es mail (Work job answer) = ShardSays o mail (shard_view_of o es) job answer
MoveSays o es mail (Reply client answer) = Unit {0}

-- A call that fits, with the answer of its cell, behind events.
pub record IsCall (o : Opening) (a : ℕ) (call : ClientCall) (es : List CoreEvent) : Type 0 where
  pub fits : FitsCall o a call (client_state o a es)
  pub says : CallSays o es a call

-- A move that fits, with its answer.
pub record IsMove (o : Opening) (mail : ℕ) (move : WorkerMove) (es : List CoreEvent) : Type 0 where
  pub there : mail ≤ o.shards
  pub fits : FitsMove o es mail move
  pub says : MoveSays o es mail move

-- A run of the core.
abbrev pub IsCoreRun : Opening → List CoreEvent → Type 0
IsCoreRun o [] = IsOpening o
IsCoreRun o (By a call ∷ es) = IsCoreRun o es × IsCall o a call es
IsCoreRun o (At mail move ∷ es) = IsCoreRun o es × IsMove o mail move es
