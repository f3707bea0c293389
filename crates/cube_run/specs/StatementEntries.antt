-- Which entries a statement leaves, by its form, what its session is, and whether it is done or refused.
-- Source: AOSI (ICDE 2018), a transaction's begin and end; the rest is this project's own.
use Rattle.std.specs.Prelude.{◌≡◌, ℕ, Bool, true, false, List, [], ◌∷◌, ◌++◌, Option, Some, None}
use Rattle.cube_values.specs.declared.snapshot.Snapshot.{Snapshot}
use Rattle.cube_language.specs.declared.decl.Decl.{Decl}
use Rattle.cube_language.specs.declared.statement.Statement.{Statement}
use Rattle.cube_language.specs.declared.statement.Statement.TheVariants.{Select, Insert, Load, Delete, Begin, Commit, Rollback, Flush, Purge, ShowEpochs, CreateCube, Watch, ShowWatch}
use Rattle.cube_journal.specs.declared.journal_entry.AbortCause.{AbortCause}
use Rattle.cube_journal.specs.declared.journal_entry.AbortCause.TheVariants as abort
use Rattle.cube_journal.specs.declared.journal_entry.JournalEntry.{JournalEntry}
use Rattle.cube_journal.specs.declared.journal_entry.JournalEntry.TheVariants as entry
use Rattle.cube_journal.specs.declared.refusal.Refusal.{Refusal}
use Rattle.cube_journal.specs.declared.refusal.Refusal.TheVariants as refusal
use Rattle.cube_journal.specs.Refusals.{code}
use Rattle.cube_run.specs.RunRecords.{Sentence, Says}
use Rattle.cube_run.specs.SessionStates.{Mode, Idle, Open, Aborted, KeptWatch, first_holder, other_holder}

-- A statement is done, or refused.
pub data Outcome : Type 0 where
  Done : Outcome
  RefusedWith : Refusal → Outcome

abbrev pub is_select : Statement → Bool
is_select (Select items cube conds group having order limit) = true
is_select s = false

-- A statement that changes rows.
abbrev pub is_change : Statement → Bool
is_change (Insert cube rows) = true
is_change (Load cube path reject) = true
is_change (Delete cube conds) = true
is_change s = false

abbrev pub is_watch : Statement → Bool
is_watch (Watch items cube conds group) = true
is_watch s = false

abbrev pub is_aborted : Mode → Bool
is_aborted (Aborted epoch) = true
is_aborted mode = false

-- The cause with which a refusal ends a transaction, where it does.
abbrev pub cause_of : Refusal → Option AbortCause
cause_of (refusal.TooManyRejected rejected allowed) = Some abort.TooManyRejected
cause_of refusal.ReadFault = Some abort.ReadFault
cause_of refusal.NoMemory = Some abort.NoMemory
cause_of (refusal.ShardFull shard rows) = Some (abort.ShardFull shard rows)
cause_of r = None

-- The cause with which a refusal ends an idle session's own transaction: a file is read before it opens.
abbrev pub own_cause_of : Refusal → Option AbortCause
own_cause_of refusal.ReadFault = None
own_cause_of r = cause_of r

-- A refusal that can leave a Refused entry: 10 and 18 always end a transaction, and 11 ends one that is open.
abbrev pub leaves_refused : Mode → Refusal → Bool
leaves_refused mode (refusal.TooManyRejected rejected allowed) = false
leaves_refused mode (refusal.ShardFull shard rows) = false
leaves_refused (Open writer) refusal.ReadFault = false
leaves_refused mode r = true

-- The entries that statement j of session i leaves, by the session's mode and watch; without those of a round that
-- follows a commit.
pub data Leaves (i j : ℕ) : Mode → Option KeptWatch → Sentence → Outcome → List JournalEntry → Type 0 where
  -- SELECT: an idle session reads with a reader of its own, an open one at its transaction's snapshot
  select_idle : {watch : Option KeptWatch} {s : Statement} (epoch : ℕ) → is_select s ≡ true
      → Leaves i j Idle watch (Says s) Done (entry.Read i j epoch ∷ entry.ReadEnd i j ∷ [])
  select_idle_without_memory : {watch : Option KeptWatch} {s : Statement} (epoch : ℕ) → is_select s ≡ true
      → Leaves i j Idle watch (Says s) (RefusedWith refusal.NoMemory)
      (entry.Read i j epoch ∷ entry.ReadEnd i j ∷ entry.Refused i j 16 ∷ [])
  select_open : {watch : Option KeptWatch} {s : Statement} {writer : Snapshot} → is_select s ≡ true
      → Leaves i j (Open writer) watch (Says s) Done []
  -- INSERT, LOAD, DELETE: an idle session changes rows by a transaction of its own, an open one by its transaction
  change_idle : {watch : Option KeptWatch} {s : Statement} (epoch : ℕ) (deps : List ℕ) → is_change s ≡ true
      → Leaves i j Idle watch (Says s) Done (entry.Begin i j epoch deps ∷ entry.Committed i j epoch ∷ [])
  change_idle_ended : {watch : Option KeptWatch} {s : Statement} {r : Refusal} (epoch : ℕ) (deps : List ℕ)
      (cause : AbortCause) → is_change s ≡ true → own_cause_of r ≡ Some cause
      → Leaves i j Idle watch (Says s) (RefusedWith r)
      (entry.Begin i j epoch deps ∷ entry.Aborted i j epoch cause ∷ [])
  change_open : {watch : Option KeptWatch} {s : Statement} {writer : Snapshot} → is_change s ≡ true
      → Leaves i j (Open writer) watch (Says s) Done []
  change_open_ended : {watch : Option KeptWatch} {s : Statement} {r : Refusal} {writer : Snapshot}
      (cause : AbortCause) → is_change s ≡ true → cause_of r ≡ Some cause
      → Leaves i j (Open writer) watch (Says s) (RefusedWith r) (entry.Aborted i j writer.epoch cause ∷ [])
  -- BEGIN, COMMIT, ROLLBACK
  begin_done : {watch : Option KeptWatch} (epoch : ℕ) (deps : List ℕ)
      → Leaves i j Idle watch (Says Begin) Done (entry.Begin i j epoch deps ∷ [])
  commit_done : {watch : Option KeptWatch} {writer : Snapshot}
      → Leaves i j (Open writer) watch (Says Commit) Done (entry.Committed i j writer.epoch ∷ [])
  rollback_of_open : {watch : Option KeptWatch} {writer : Snapshot}
      → Leaves i j (Open writer) watch (Says Rollback) Done (entry.Aborted i j writer.epoch abort.Asked ∷ [])
  rollback_of_aborted : {watch : Option KeptWatch} {epoch : ℕ}
      → Leaves i j (Aborted epoch) watch (Says Rollback) Done (entry.Cleared i j ∷ [])
  -- FLUSH, PURGE, SHOW EPOCHS
  flush_done : {mode : Mode} {watch : Option KeptWatch}
      → Leaves i j mode watch (Says Flush) Done (entry.Flushed i j ∷ [])
  purge_done : {mode : Mode} {watch : Option KeptWatch} (epoch : ℕ)
      → Leaves i j mode watch (Says Purge) Done (entry.Purged i j epoch ∷ [])
  show_done : {mode : Mode} {watch : Option KeptWatch}
      → Leaves i j mode watch (Says ShowEpochs) Done (entry.Show i j ∷ [])
  -- CREATE CUBE
  create_done : {watch : Option KeptWatch} {d : Decl} (epoch : ℕ)
      → Leaves i j Idle watch (Says (CreateCube d)) Done (entry.Cube i j epoch ∷ [])
  -- WATCH, SHOW WATCH: a reader of a holder number keeps the watch, until one of the other number takes its place
  watch_done : {mode : Mode} {s : Statement} (epoch : ℕ) → is_watch s ≡ true
      → Leaves i j mode None (Says s) Done (entry.Read (first_holder i) j epoch ∷ [])
  watch_without_memory : {mode : Mode} {s : Statement} (epoch : ℕ) → is_watch s ≡ true → is_aborted mode ≡ false
      → Leaves i j mode None (Says s) (RefusedWith refusal.NoMemory)
      (entry.Read (first_holder i) j epoch ∷ entry.ReadEnd (first_holder i) j ∷ entry.Refused i j 16 ∷ [])
  show_watch_done : {mode : Mode} {kept : KeptWatch} (epoch : ℕ)
      → Leaves i j mode (Some kept) (Says ShowWatch) Done
      (entry.Read (other_holder i kept.holder) j epoch ∷ entry.ReadEnd kept.holder j ∷ [])
  show_watch_without_memory : {mode : Mode} {kept : KeptWatch} (epoch : ℕ) → is_aborted mode ≡ false
      → Leaves i j mode (Some kept) (Says ShowWatch) (RefusedWith refusal.NoMemory)
      (entry.Read (other_holder i kept.holder) j epoch ∷ entry.ReadEnd (other_holder i kept.holder) j
      ∷ entry.Refused i j 16 ∷ [])
  -- any other refusal, of any statement, in any state
  other_refusal : {mode : Mode} {watch : Option KeptWatch} {sentence : Sentence} {r : Refusal}
      → leaves_refused mode r ≡ true
      → Leaves i j mode watch sentence (RefusedWith r) (entry.Refused i j (code r) ∷ [])

-- The entries of a statement up to its commit, if it has one, and those after it, which are a round's.
abbrev pub entries_to_commit : List JournalEntry → List JournalEntry
entries_to_commit [] = []
entries_to_commit (entry.Committed i j epoch ∷ later) = entry.Committed i j epoch ∷ []
entries_to_commit (e ∷ later) = e ∷ entries_to_commit later

abbrev pub entries_after_commit : List JournalEntry → List JournalEntry
entries_after_commit [] = []
entries_after_commit (entry.Committed i j epoch ∷ later) = later
entries_after_commit (e ∷ later) = entries_after_commit later

-- A round that follows a commit leaves what FLUSH and PURGE leave, or its refusal.
pub data LeavesRound (i j : ℕ) : List JournalEntry → Type 0 where
  round_done : (epoch : ℕ) → LeavesRound i j (entry.Flushed i j ∷ entry.Purged i j epoch ∷ [])
  round_without_memory : LeavesRound i j (entry.Refused i j 16 ∷ [])
  round_lost : LeavesRound i j (entry.Refused i j 17 ∷ [])

-- A script's end, as one more statement: an open transaction is rolled back, and then a watch is closed.
abbrev pub transaction_end : ℕ → ℕ → Mode → List JournalEntry
transaction_end i j (Open writer) = entry.Aborted i j writer.epoch abort.EndOfScript ∷ []
transaction_end i j mode = []

abbrev pub watch_end : ℕ → Option KeptWatch → List JournalEntry
watch_end j (Some kept) = entry.ReadEnd kept.holder j ∷ []
watch_end j None = []

abbrev pub script_end : ℕ → ℕ → Mode → Option KeptWatch → List JournalEntry
script_end i j mode watch = transaction_end i j mode ++ watch_end j watch
