-- What each cell is after a list of events: the desk, the dictionaries, the mails and the bricks. A cell is what the
-- calls on it made of how it opened.
-- Source: Cubrick (VLDB 2016) for the cells; AOSI (ICDE 2018) for the desk.
use Rattle.std.specs.Prelude.{ℕ, ◌%◌, Bool, true, false, ◌&&◌, ◌||◌, ◌==◌, List, [], ◌∷◌, ◌++◌, length, replicate, filter, drop, Option, Some, None, if◌then◌else◌}
use Rattle.cube_values.specs.declared.row.CodedRow.{CodedRow}
use Rattle.cube_values.specs.declared.shape.Size.{Size}
use Rattle.cube_values.specs.declared.span.Span.{Span}
use Rattle.cube_values.specs.Spans.{span_has}
use Rattle.cube_journal.specs.declared.journal_entry.JournalEntry.TheVariants as entry
use Rattle.cube_journal.specs.Counters.{JournalState}
use Rattle.cube_journal.specs.Entries.{note_entry}
use Rattle.brick_address.specs.Addresses.{brick_of, coords_of}
use Rattle.aosi_desk.specs.State.{state_of, answer_entry, end_entry}
use Rattle.aosi_desk.specs.Desks.{DeskState, opening_desk, desk_with_entry, desk_after_search, desk_after_answer}
use Rattle.names_dict.specs.Dictionaries.{Dictionary, with_code}
use Rattle.core_events.specs.ShardView.{BrickEntry, RowRun, RowMark, ShardView, entries_without_epoch, entries_after_purge, every_epoch}
use Rattle.core_events.specs.Jobs.{CoreJob, Append, DropBox, Rollback, Purge, JobOutcome, Done}
use Rattle.core_events.specs.Events.{Opening, DeskEvent, OpenWrite, OpenRead, Commit, AbortEnd, CloseRead, TakeNote, CreateCube, FindCube, CubesFrom, CountersNow, RoundOpen, RoundClose, StoreFailed, NamesEvent, Encode, ClientCall, OnDesk, OnNames, Post, Fetch, CloseMail, WorkerMove, Take, NoJob, Work, Reply, CoreEvent, By, At}

-- The desk.

abbrev pub desk_after_call : ℕ → DeskEvent → DeskState → DeskState
desk_after_call a (OpenWrite statement epoch deps) desk = desk_with_entry desk (entry.Begin a statement epoch deps)
desk_after_call a (OpenRead holder statement epoch) desk = desk_with_entry desk (entry.Read holder statement epoch)
desk_after_call a (Commit statement epoch) desk = desk_with_entry desk (entry.Committed a statement epoch)
desk_after_call a (AbortEnd statement epoch cause) desk =
    desk_with_entry desk (entry.Aborted a statement epoch cause)
desk_after_call a (CloseRead holder statement) desk = desk_with_entry desk (entry.ReadEnd holder statement)
desk_after_call a (TakeNote note counters) desk = desk_with_entry desk (note_entry note)
desk_after_call a (CreateCube statement decl answer) desk = desk_after_answer desk a statement decl answer
desk_after_call a (FindCube statement name answer) desk = desk_after_search desk a statement name answer
desk_after_call a (CubesFrom place cubes) desk = desk
desk_after_call a (CountersNow counters) desk = desk
desk_after_call a (RoundOpen answer) desk = desk_with_entry desk (answer_entry answer)
desk_after_call a (RoundClose epoch end) desk = desk_with_entry desk (end_entry epoch end)
desk_after_call a (StoreFailed failed) desk = desk

abbrev pub desk_after : ℕ → ClientCall → DeskState → DeskState
desk_after a (OnDesk call) desk = desk_after_call a call desk
desk_after a call desk = desk

abbrev pub desk_of : Opening → List CoreEvent → DeskState
desk_of o [] = opening_desk o.safe o.sessions o.cubes
desk_of o (By a call ∷ es) = desk_after a call (desk_of o es)
desk_of o (At mail move ∷ es) = desk_of o es

-- The counters, open snapshots and round of the desk's journal.
abbrev pub counters_of_run : Opening → List CoreEvent → JournalState
counters_of_run o es = state_of (desk_of o es).register

-- The names.

abbrev pub dictionary_after_call : ℕ → ℕ → NamesEvent → Dictionary → Dictionary
dictionary_after_call cube dim (Encode c d name code) dict =
    if c == cube && d == dim then with_code dict name code else dict
dictionary_after_call cube dim call dict = dict

abbrev pub dictionary_after : ℕ → ℕ → ClientCall → Dictionary → Dictionary
dictionary_after cube dim (OnNames call) dict = dictionary_after_call cube dim call dict
dictionary_after cube dim call dict = dict

abbrev pub dictionary_of : Opening → ℕ → ℕ → List CoreEvent → Dictionary
dictionary_of o cube dim [] = o.names cube dim
dictionary_of o cube dim (By a call ∷ es) = dictionary_after cube dim call (dictionary_of o cube dim es)
dictionary_of o cube dim (At mail move ∷ es) = dictionary_of o cube dim es

-- The mails.

-- A job and the client that posted it.
pub record Letter : Type 0 where
  pub client : ℕ
  pub job : CoreJob

abbrev pub letter : ℕ → CoreJob → Letter
letter client job = record { client = client; job = job }

-- The jobs of a mail that are posted and not taken, the oldest first. A test says whether the call is on this mail, a
-- second one whether it is of this client.
abbrev pub queue_after_post : Bool → ℕ → CoreJob → List Letter → List Letter
queue_after_post true a job queue = queue ++ letter a job ∷ []
queue_after_post false a job queue = queue

abbrev pub queue_after_call : ℕ → ℕ → ClientCall → List Letter → List Letter
queue_after_call mail a (Post other job) queue = queue_after_post (other == mail) a job queue
queue_after_call mail a call queue = queue

abbrev pub queue_after_take : Bool → List Letter → List Letter
queue_after_take true queue = drop 1 queue
queue_after_take false queue = queue

abbrev pub queue_after_move : Bool → WorkerMove → List Letter → List Letter
queue_after_move here (Take client job) queue = queue_after_take here queue
queue_after_move here move queue = queue

abbrev pub queue_of : ℕ → List CoreEvent → List Letter
queue_of mail [] = []
queue_of mail (By a call ∷ es) = queue_after_call mail a call (queue_of mail es)
queue_of mail (At other move ∷ es) = queue_after_move (other == mail) move (queue_of mail es)

-- The answer that a mail holds for a client.
abbrev pub reply_after_fetch : Bool → Bool → Option JobOutcome → Option JobOutcome
reply_after_fetch true true reply = None
reply_after_fetch true false reply = reply
reply_after_fetch false own reply = reply

abbrev pub reply_after_call : ℕ → Bool → ClientCall → Option JobOutcome → Option JobOutcome
reply_after_call mail own (Fetch other answer) reply = reply_after_fetch (other == mail) own reply
reply_after_call mail own call reply = reply

abbrev pub reply_after_reply : Bool → Bool → JobOutcome → Option JobOutcome → Option JobOutcome
reply_after_reply true true answer reply = Some answer
reply_after_reply true false answer reply = reply
reply_after_reply false own answer reply = reply

abbrev pub reply_after_move : Bool → ℕ → WorkerMove → Option JobOutcome → Option JobOutcome
reply_after_move here client (Reply other answer) reply = reply_after_reply here (other == client) answer reply
reply_after_move here client move reply = reply

abbrev pub reply_for : ℕ → ℕ → List CoreEvent → Option JobOutcome
reply_for mail client [] = None
reply_for mail client (By a call ∷ es) = reply_after_call mail (a == client) call (reply_for mail client es)
reply_for mail client (At other move ∷ es) =
    reply_after_move (other == mail) client move (reply_for mail client es)

-- A mail is closed.
abbrev pub closed_after_call : ℕ → ClientCall → Bool → Bool
closed_after_call mail (CloseMail other) closed = other == mail || closed
closed_after_call mail call closed = closed

abbrev pub is_mail_closed : ℕ → List CoreEvent → Bool
is_mail_closed mail [] = false
is_mail_closed mail (By a call ∷ es) = closed_after_call mail call (is_mail_closed mail es)
is_mail_closed mail (At other move ∷ es) = is_mail_closed mail es

-- What the worker of a mail does, by its own moves: it has no job, it has taken one, or it has made it.
pub data WorkerState : Type 0 where
  Free : WorkerState
  Took : (client : ℕ) (job : CoreJob) → WorkerState
  Worked : (client : ℕ) (job : CoreJob) (answer : JobOutcome) → WorkerState

abbrev pub worker_after_work : JobOutcome → WorkerState → WorkerState
worker_after_work answer Free = Free
worker_after_work answer (Took client job) = Worked client job answer
worker_after_work answer (Worked client job old) = Worked client job old

abbrev pub worker_after_own : WorkerMove → WorkerState → WorkerState
worker_after_own (Take client job) worker = Took client job
worker_after_own (NoJob closed) worker = worker
worker_after_own (Work job answer) worker = worker_after_work answer worker
worker_after_own (Reply client answer) worker = Free

abbrev pub worker_after : Bool → WorkerMove → WorkerState → WorkerState
worker_after true move worker = worker_after_own move worker
worker_after false move worker = worker

abbrev pub worker_of : ℕ → List CoreEvent → WorkerState
worker_of mail [] = Free
worker_of mail (By a call ∷ es) = worker_of mail es
worker_of mail (At other move ∷ es) = worker_after (other == mail) move (worker_of mail es)

-- The bricks.

abbrev pub sizes_of_cube : Opening → ℕ → List Size
sizes_of_cube o cube = (o.shapes cube).shape.sizes

abbrev pub rows_of_brick : Opening → ℕ → ℕ → List CodedRow → List CodedRow
rows_of_brick o cube brick rows = filter (λ row. brick_of (sizes_of_cube o cube) row.coords == brick) rows

-- A box that cuts no brick has all of a brick where it has the brick's first row.
abbrev pub box_has_brick : Opening → ℕ → Span → ℕ → Bool
box_has_brick o cube box brick =
    let sizes = sizes_of_cube o cube in span_has box (coords_of sizes brick (replicate (length sizes) 0))

-- What a job makes of a brick of its own shard. A box waits for the bricks that are not there too.
abbrev pub brick_after_job : Opening → ℕ → ℕ → CoreJob → List BrickEntry → List BrickEntry
brick_after_job o cube brick (Append other epoch rows) entries =
    if other == cube then RowRun epoch (rows_of_brick o cube brick rows) ∷ entries else entries
brick_after_job o cube brick (DropBox other epoch box) entries =
    if other == cube && box_has_brick o cube box brick then RowMark epoch ∷ entries else entries
brick_after_job o cube brick (Rollback epoch) entries = entries_without_epoch epoch entries
brick_after_job o cube brick (Purge epoch) entries = entries_after_purge every_epoch epoch entries
brick_after_job o cube brick job entries = entries

-- A job that was refused changes nothing.
abbrev pub brick_after_move : Opening → Bool → ℕ → ℕ → WorkerMove → List BrickEntry → List BrickEntry
brick_after_move o true cube brick (Work job Done) entries = brick_after_job o cube brick job entries
brick_after_move o here cube brick move entries = entries

-- The shard of a brick is its number modulo the number of shards.
abbrev pub shard_view_of : Opening → List CoreEvent → ShardView
shard_view_of o [] cube brick = RowRun o.safe (rows_of_brick o cube brick (o.rows cube)) ∷ []
shard_view_of o (By a call ∷ es) cube brick = shard_view_of o es cube brick
shard_view_of o (At mail move ∷ es) cube brick =
    brick_after_move o (mail == brick % o.shards) cube brick move (shard_view_of o es cube brick)
