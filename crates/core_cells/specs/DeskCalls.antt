-- The calls on the desk as steps: what each asks of the desk, and what it answers and makes of it.
-- Source: AOSI (ICDE 2018), begin, commit and abort; the rest is this project's own.
use Rattle.std.specs.Prelude.{◌≡◌, ℕ, ◌≤◌, false, length, drop, Some, None}
use Rattle.cube_language.specs.Cubes.{IsStorable}
use Rattle.cube_journal.specs.declared.journal_entry.JournalEntry.TheVariants as entry
use Rattle.cube_journal.specs.Counters.{held_by, counters}
use Rattle.cube_journal.specs.Entries.{note_entry}
use Rattle.cube_journal.specs.Legal.{CountersAllow, HoldsReader, MayAskRound}
use Rattle.aosi_desk.specs.declared.register.TheConstants.{MOST_HOLDERS}
use Rattle.aosi_desk.specs.State.{state_of, writer_snapshot, reader_snapshot, IsWriting, round_answer, end_entry, answer_entry, after_begin, after_read, after_commit, after_abort}
use Rattle.aosi_desk.specs.Desks.{DeskState, desk_over, desk_with_entry, IsFound, desk_after_search, cube_answer, desk_after_answer, speaks_of_cubes}
use Rattle.core_cells.specs.declared.desk.DeskCall.{DeskCall}
use Rattle.core_cells.specs.declared.desk.DeskCall.TheVariants as call
use Rattle.core_cells.specs.declared.desk.DeskAnswer.{DeskAnswer}
use Rattle.core_cells.specs.declared.desk.DeskAnswer.TheVariants as answer

-- What a writer asks: the number is a session's, and it holds no snapshot.
pub record CanOpenWrite (desk : DeskState) (session : ℕ) : Type 0 where
  pub low : 1 ≤ session
  pub high : session ≤ desk.register.sessions
  pub free : held_by (state_of desk.register).snapshots session ≡ None

-- What a reader asks.
pub record CanOpenRead (desk : DeskState) (number : ℕ) : Type 0 where
  pub low : 1 ≤ number
  pub high : number ≤ MOST_HOLDERS
  pub free : held_by (state_of desk.register).snapshots number ≡ None

-- The desk can take the call.
abbrev pub CanCallDesk : DeskState → DeskCall → Type 0
CanCallDesk desk (call.OpenWrite session statement) = CanOpenWrite desk session
CanCallDesk desk (call.OpenRead number statement) = CanOpenRead desk number
CanCallDesk desk (call.Commit session statement) = IsWriting (state_of desk.register) session
CanCallDesk desk (call.AbortEnd session statement cause) = IsWriting (state_of desk.register) session
CanCallDesk desk (call.CloseRead number statement) = HoldsReader (state_of desk.register) number
CanCallDesk desk (call.Note note) =
    CountersAllow desk.register.safe desk.register.journal (note_entry note)
    × (speaks_of_cubes (note_entry note) ≡ false)
CanCallDesk desk (call.CreateCube session statement decl) =
    (held_by (state_of desk.register).snapshots session ≡ None) × IsStorable decl
CanCallDesk desk (call.FindCube session statement name) = Unit {0}
CanCallDesk desk (call.CubesFrom place) = place ≤ length desk.cubes
CanCallDesk desk call.RoundOpen = MayAskRound (state_of desk.register)
CanCallDesk desk (call.RoundClose epoch end) = (state_of desk.register).round ≡ Some epoch
CanCallDesk desk call.Counters = Unit {0}
CanCallDesk desk call.StoreFailed = Unit {0}

-- The desk before a call, the call, its answer, and the desk that it leaves. Where memory is wanted nothing changes.
abbrev pub DeskStep : DeskState → DeskCall → DeskAnswer → DeskState → Type 0
DeskStep desk (call.OpenWrite session statement) (answer.Opened snapshot) new =
    (snapshot ≡ writer_snapshot (state_of desk.register))
    × (new ≡ desk_over desk (after_begin desk.register session statement snapshot))
DeskStep desk (call.OpenWrite session statement) answer.NoMemory new = new ≡ desk
DeskStep desk (call.OpenRead number statement) (answer.Opened snapshot) new =
    (snapshot ≡ reader_snapshot (state_of desk.register))
    × (new ≡ desk_over desk (after_read desk.register number statement snapshot))
DeskStep desk (call.OpenRead number statement) answer.NoMemory new = new ≡ desk
DeskStep desk (call.Commit session statement) answer.Done new =
    new ≡ desk_over desk (after_commit desk.register session statement)
DeskStep desk (call.AbortEnd session statement cause) answer.Done new =
    new ≡ desk_over desk (after_abort desk.register session statement cause)
DeskStep desk (call.CloseRead number statement) answer.Done new =
    new ≡ desk_with_entry desk (entry.ReadEnd number statement)
DeskStep desk (call.Note note) (answer.Counted shown) new =
    (shown ≡ counters desk.register.safe desk.register.journal) × (new ≡ desk_with_entry desk (note_entry note))
DeskStep desk (call.Note note) answer.NoMemory new = new ≡ desk
DeskStep desk (call.CreateCube session statement decl) (answer.Created made) new =
    (made ≡ cube_answer desk decl.name) × (new ≡ desk_after_answer desk session statement decl made)
DeskStep desk (call.CreateCube session statement decl) answer.NoMemory new = new ≡ desk
DeskStep desk (call.FindCube session statement name) (answer.Found found) new =
    IsFound desk.cubes name found × (new ≡ desk_after_search desk session statement name found)
DeskStep desk (call.FindCube session statement name) answer.NoMemory new = new ≡ desk
DeskStep desk (call.CubesFrom place) (answer.Cubes cubes) new = (cubes ≡ drop place desk.cubes) × (new ≡ desk)
DeskStep desk (call.CubesFrom place) answer.NoMemory new = new ≡ desk
DeskStep desk call.RoundOpen (answer.Round asked) new =
    (asked ≡ round_answer (state_of desk.register)) × (new ≡ desk_with_entry desk (answer_entry asked))
DeskStep desk call.RoundOpen answer.NoMemory new = new ≡ desk
DeskStep desk (call.RoundClose epoch end) answer.Done new = new ≡ desk_with_entry desk (end_entry epoch end)
DeskStep desk call.Counters (answer.Counted shown) new =
    (shown ≡ counters desk.register.safe desk.register.journal) × (new ≡ desk)
DeskStep desk call.StoreFailed (answer.Failed failed) new =
    (failed ≡ (state_of desk.register).store_failed) × (new ≡ desk)
DeskStep desk call answer new = ⊥
