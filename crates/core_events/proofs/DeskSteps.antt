-- What a call leaves in the journal, what that makes of the counters, and whose snapshot is opened or ended.
use Rattle.std.proofs.Common.{◌≡◌, ◌∙◌, ℕ, ◌==◌, List, ◌∷◌, Option, Some, None, refl, ap}
use Rattle.cube_values.specs.declared.snapshot.Snapshot.{Snapshot}
use Rattle.cube_journal.specs.declared.journal_entry.JournalEntry.{JournalEntry}
use Rattle.cube_journal.specs.declared.journal_entry.JournalEntry.TheVariants as entry
use Rattle.cube_journal.specs.declared.note.Note.TheVariants as note
use Rattle.cube_journal.specs.declared.refusal.Refusal.TheVariants.{UnknownCube, CubeExists, TooManyCubes}
use Rattle.cube_journal.specs.Counters.{JournalState, state_after, held_by, lce}
use Rattle.cube_journal.specs.Entries.{note_entry}
use Rattle.cube_journal.proofs.Orders.{state-with}
use Rattle.aosi_desk.specs.declared.answer.RoundAnswer.TheVariants.{Target, Nothing}
use Rattle.aosi_desk.specs.declared.answer.RoundEnd.TheVariants.{Safe, Lost}
use Rattle.aosi_desk.specs.State.{RegisterState, state_of, with_entry, answer_entry, end_entry}
use Rattle.aosi_desk.specs.declared.cube.CubeAnswer.{CubeAnswer}
use Rattle.aosi_desk.specs.declared.cube.CubeAnswer.TheVariants.{Created, Exists, TooMany}
use Rattle.aosi_desk.specs.declared.cube.CubeFound.{CubeFound}
use Rattle.aosi_desk.specs.declared.cube.CubeFound.TheVariants.{Found, Unknown}
use Rattle.aosi_desk.specs.Desks.{DeskState, refusal_entry}
use Rattle.core_events.specs.Events.{Opening, DeskEvent, OpenWrite, OpenRead, Commit, AbortEnd, CloseRead, TakeNote, CreateCube, FindCube, CubesFrom, CountersNow, RoundOpen, RoundClose, StoreFailed, ClientCall, OnDesk, OnNames, Post, Fetch, CloseMail, NoChange, CoreEvent, By}
use Rattle.core_events.specs.Clients.{Holding, writer_at, reader_up_to, held_under, holds_after}
use Rattle.core_events.specs.Cells.{desk_after_call, counters_of_run, desk_of}
use Rattle.core_events.proofs.Lookups.{with_one, without_one, held-by-append, held-by-without, held-under-append, held-under-without}

-- The entry that a call leaves in the journal.
abbrev pub cube_entry : ℕ → ℕ → List ℕ → CubeAnswer → JournalEntry
cube_entry a statement name (Created epoch place) = entry.Cube a statement epoch
cube_entry a statement name Exists = refusal_entry a statement (CubeExists name)
cube_entry a statement name TooMany = refusal_entry a statement TooManyCubes

abbrev pub search_entry : ℕ → ℕ → List ℕ → CubeFound → Option JournalEntry
search_entry a statement name (Found place decl) = None
search_entry a statement name Unknown = Some (refusal_entry a statement (UnknownCube name))

abbrev pub desk_entry : ℕ → DeskEvent → Option JournalEntry
desk_entry a (OpenWrite statement epoch deps) = Some (entry.Begin a statement epoch deps)
desk_entry a (OpenRead number statement epoch) = Some (entry.Read number statement epoch)
desk_entry a (Commit statement epoch) = Some (entry.Committed a statement epoch)
desk_entry a (AbortEnd statement epoch cause) = Some (entry.Aborted a statement epoch cause)
desk_entry a (CloseRead number statement) = Some (entry.ReadEnd number statement)
desk_entry a (TakeNote note counters) = Some (note_entry note)
desk_entry a (CreateCube statement decl answer) = Some (cube_entry a statement decl.name answer)
desk_entry a (FindCube statement name answer) = search_entry a statement name answer
desk_entry a (CubesFrom place cubes) = None
desk_entry a (CountersNow counters) = None
desk_entry a (RoundOpen answer) = Some (answer_entry answer)
desk_entry a (RoundClose epoch end) = Some (end_entry epoch end)
desk_entry a (StoreFailed failed) = None

abbrev pub client_entry : ℕ → ClientCall → Option JournalEntry
client_entry a (OnDesk call) = desk_entry a call
client_entry a call = None

abbrev pub state_with_entry : Option JournalEntry → JournalState → JournalState
state_with_entry None s = s
state_with_entry (Some e) s = state_after s e

abbrev pub register_with : Option JournalEntry → RegisterState → RegisterState
register_with None r = r
register_with (Some e) r = with_entry r e

pub register-step : (a : ℕ) (call : DeskEvent) (desk : DeskState)
    → (desk_after_call a call desk).register ≡ register_with (desk_entry a call) desk.register
register-step a (OpenWrite statement epoch deps) desk = refl
register-step a (OpenRead number statement epoch) desk = refl
register-step a (Commit statement epoch) desk = refl
register-step a (AbortEnd statement epoch cause) desk = refl
register-step a (CloseRead number statement) desk = refl
register-step a (TakeNote note counters) desk = refl
register-step a (CreateCube statement decl (Created epoch place)) desk = refl
register-step a (CreateCube statement decl Exists) desk = refl
register-step a (CreateCube statement decl TooMany) desk = refl
register-step a (FindCube statement name (Found place decl)) desk = refl
register-step a (FindCube statement name Unknown) desk = refl
register-step a (CubesFrom place cubes) desk = refl
register-step a (CountersNow counters) desk = refl
register-step a (RoundOpen answer) desk = refl
register-step a (RoundClose epoch end) desk = refl
register-step a (StoreFailed failed) desk = refl

entry-step : (e : Option JournalEntry) (r : RegisterState) → state_of (register_with e r) ≡ state_with_entry e (state_of r)
entry-step None r = refl
entry-step (Some e) r = state-with r.safe r.journal e

pub run-step : (o : Opening) (a : ℕ) (call : ClientCall) (es : List CoreEvent)
    → counters_of_run o (By a call ∷ es) ≡ state_with_entry (client_entry a call) (counters_of_run o es)
run-step o a (OnDesk call) es =
    ap state_of (register-step a call (desk_of o es)) ∙ entry-step (desk_entry a call) (desk_of o es).register
run-step o a call es = refl

-- A snapshot is opened under a number, or the number's snapshot is ended, or neither.
pub data HoldChange : Type 0 where
  Opens : (number : ℕ) (snapshot : Snapshot) → HoldChange
  Ends : (number : ℕ) → HoldChange
  Keeps : HoldChange

abbrev pub change_by_entry : JournalEntry → HoldChange
change_by_entry (entry.Begin session statement epoch deps) = Opens session (writer_at epoch deps)
change_by_entry (entry.Read session statement epoch) = Opens session (reader_up_to epoch)
change_by_entry (entry.ReadEnd session statement) = Ends session
change_by_entry (entry.Committed session statement epoch) = Ends session
change_by_entry (entry.Aborted session statement epoch cause) = Ends session
change_by_entry _ = Keeps

abbrev pub change_by : Option JournalEntry → HoldChange
change_by None = Keeps
change_by (Some e) = change_by_entry e

abbrev pub held_after : HoldChange → ℕ → Option Snapshot → Option Snapshot
held_after (Opens number snapshot) m held = with_one held (number == m) snapshot
held_after (Ends number) m held = without_one (number == m) held
held_after Keeps m held = held

entry-held : (s : JournalState) (e : JournalEntry) (m : ℕ)
    → held_by (state_after s e).snapshots m ≡ held_after (change_by_entry e) m (held_by s.snapshots m)
entry-held s (entry.Begin session statement epoch deps) m =
    held-by-append s.snapshots (record { session = session; bound = lce s; snapshot = writer_at epoch deps }) m
entry-held s (entry.Read session statement epoch) m =
    held-by-append s.snapshots (record { session = session; bound = lce s; snapshot = reader_up_to epoch }) m
entry-held s (entry.ReadEnd session statement) m = held-by-without s.snapshots session m
entry-held s (entry.Committed session statement epoch) m = held-by-without s.snapshots session m
entry-held s (entry.Aborted session statement epoch cause) m = held-by-without s.snapshots session m
entry-held s _ m = refl

pub desk-held : (s : JournalState) (e : Option JournalEntry) (m : ℕ)
    → held_by (state_with_entry e s).snapshots m ≡ held_after (change_by e) m (held_by s.snapshots m)
desk-held s None m = refl
desk-held s (Some e) m = entry-held s e m

pub client-held : (a : ℕ) (call : ClientCall) (holds : List Holding) (m : ℕ)
    → held_under m (holds_after a call holds) ≡ held_after (change_by (client_entry a call)) m (held_under m holds)
client-held a (OnDesk (OpenWrite statement epoch deps)) holds m =
    held-under-append holds (record { number = a; snapshot = writer_at epoch deps }) m
client-held a (OnDesk (OpenRead number statement epoch)) holds m =
    held-under-append holds (record { number = number; snapshot = reader_up_to epoch }) m
client-held a (OnDesk (Commit statement epoch)) holds m = held-under-without holds a m
client-held a (OnDesk (AbortEnd statement epoch cause)) holds m = held-under-without holds a m
client-held a (OnDesk (CloseRead number statement)) holds m = held-under-without holds number m
client-held a (OnDesk (TakeNote (note.Refused session statement code) counters)) holds m = refl
client-held a (OnDesk (TakeNote (note.Cleared session statement) counters)) holds m = refl
client-held a (OnDesk (TakeNote (note.Show session statement) counters)) holds m = refl
client-held a (OnDesk (TakeNote (note.Flushed session statement) counters)) holds m = refl
client-held a (OnDesk (TakeNote (note.Purged session statement epoch) counters)) holds m = refl
client-held a (OnDesk (CreateCube statement decl (Created epoch place))) holds m = refl
client-held a (OnDesk (CreateCube statement decl Exists)) holds m = refl
client-held a (OnDesk (CreateCube statement decl TooMany)) holds m = refl
client-held a (OnDesk (FindCube statement name (Found place decl))) holds m = refl
client-held a (OnDesk (FindCube statement name Unknown)) holds m = refl
client-held a (OnDesk (CubesFrom place cubes)) holds m = refl
client-held a (OnDesk (CountersNow counters)) holds m = refl
client-held a (OnDesk (RoundOpen (Target from epoch))) holds m = refl
client-held a (OnDesk (RoundOpen (Nothing epoch))) holds m = refl
client-held a (OnDesk (RoundClose epoch Safe)) holds m = refl
client-held a (OnDesk (RoundClose epoch (Lost cause))) holds m = refl
client-held a (OnDesk (StoreFailed failed)) holds m = refl
client-held a (OnNames call) holds m = refl
client-held a (Post mail job) holds m = refl
client-held a (Fetch mail answer) holds m = refl
client-held a (CloseMail mail) holds m = refl
client-held a NoChange holds m = refl
