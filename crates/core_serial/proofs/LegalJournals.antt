-- The journal of a run is legal.
use Rattle.std.proofs.Common.{◌≡◌, ◌∙◌, ℕ, false, List, [], ◌∷◌, Option, Some, None, refl, sym, ap, arith}
use Rattle.cube_journal.specs.declared.journal_entry.JournalEntry.{JournalEntry}
use Rattle.cube_journal.specs.declared.journal_entry.JournalEntry.TheVariants as entry
use Rattle.cube_journal.specs.declared.note.Note.TheVariants as note
use Rattle.cube_journal.specs.Counters.{JournalState}
use Rattle.cube_journal.specs.Legal.{CountersAllow, CountersAllowAll, WasFlushed, WasSafe, IsLegal}
use Rattle.cube_journal.proofs.Orders.{legal-with}
use Rattle.aosi_desk.specs.declared.answer.RoundAnswer.TheVariants.{Target, Nothing}
use Rattle.aosi_desk.specs.declared.answer.RoundEnd.TheVariants.{Safe, Lost}
use Rattle.aosi_desk.specs.declared.cube.CubeAnswer.TheVariants.{Created, Exists, TooMany}
use Rattle.aosi_desk.specs.declared.cube.CubeFound.TheVariants.{Found, Unknown}
use Rattle.aosi_desk.specs.Desks.{decl_names, cubes_after_all}
use Rattle.core_events.specs.Events.{Opening, OpenWrite, OpenRead, Commit, AbortEnd, CloseRead, TakeNote, CreateCube, FindCube, CubesFrom, CountersNow, RoundOpen, RoundClose, StoreFailed, ClientCall, OnDesk, OnNames, Post, Fetch, CloseMail, NoChange, CoreEvent, By, At}
use Rattle.core_events.specs.Cells.{desk_of, counters_of_run}
use Rattle.core_events.specs.Runs.{IsCoreRun}
use Rattle.core_events.proofs.DeskSteps.{client_entry}
use Rattle.core_events.proofs.InOrder.{is_note, allows, StateAllows, run-allowed}
use Rattle.core_serial.specs.Journals.{journal_of, names_spoken}
use Rattle.core_serial.proofs.CubeNames.{run-cubes}
use Rattle.core_serial.proofs.Entries.{journal_with, journal-step, run-counters}
use Rattle.core_serial.proofs.OwnNotes.{run-known, shown-safe}

abbrev AllowsNext : Opening → List CoreEvent → Option JournalEntry → Type 0
AllowsNext o es None = Unit {0}
AllowsNext o es (Some e) = CountersAllow o.safe (journal_of o es) e

-- An entry that is no note.
bare-allowed : (o : Opening) (es : List CoreEvent) (e : JournalEntry) → is_note e ≡ false → StateAllows (counters_of_run o es) e
    → CountersAllow o.safe (journal_of o es) e
bare-allowed o es e bare h = allows o.safe (counters_of_run o es) (journal_of o es) e bare (run-counters o es) h

pub next-allowed : (o : Opening) (es : List CoreEvent) (b : ℕ) (call : ClientCall) → IsCoreRun o (By b call ∷ es)
    → AllowsNext o es (client_entry b call)
next-allowed o es b (OnDesk (OpenWrite statement epoch deps)) run =
    bare-allowed o es (entry.Begin b statement epoch deps) refl (run-allowed o b (OnDesk (OpenWrite statement epoch deps)) es run)
next-allowed o es b (OnDesk (OpenRead number statement epoch)) run =
    bare-allowed o es (entry.Read number statement epoch) refl (run-allowed o b (OnDesk (OpenRead number statement epoch)) es run)
next-allowed o es b (OnDesk (Commit statement epoch)) run =
    bare-allowed o es (entry.Committed b statement epoch) refl (run-allowed o b (OnDesk (Commit statement epoch)) es run)
next-allowed o es b (OnDesk (AbortEnd statement epoch cause)) run =
    bare-allowed o es (entry.Aborted b statement epoch cause) refl (run-allowed o b (OnDesk (AbortEnd statement epoch cause)) es run)
next-allowed o es b (OnDesk (CloseRead number statement)) run =
    bare-allowed o es (entry.ReadEnd number statement) refl (run-allowed o b (OnDesk (CloseRead number statement)) es run)
next-allowed o es b (OnDesk (TakeNote (note.Refused session statement code) counters)) run = λ is.
    ap (λ (s : JournalState). s.store_failed) (sym (run-counters o es))
    ∙ (run-known o es b run.0 run.1.fits.session).lost (run.1.fits.allowed.1.store is)
next-allowed o es b (OnDesk (TakeNote (note.Cleared session statement) counters)) run = tt
next-allowed o es b (OnDesk (TakeNote (note.Show session statement) counters)) run = tt
next-allowed o es b (OnDesk (TakeNote (note.Flushed session statement) counters)) run =
    let f = run.1.fits in
    coe 1 0 (i. WasFlushed (f.allowed.0 i) (journal_of o es)) ((run-known o es b run.0 f.session).saved f.allowed.1)
next-allowed o es b (OnDesk (TakeNote (note.Purged session statement epoch) counters)) run =
    let f = run.1.fits in
    coe 1 0 (i. WasSafe o.safe (f.allowed.0 i) epoch (journal_of o es)) (shown-safe o es b epoch run.0 f.session f.allowed.1.shown)
next-allowed o es b (OnDesk (CreateCube statement decl (Created epoch place))) run =
    bare-allowed o es (entry.Cube b statement epoch) refl (run-allowed o b (OnDesk (CreateCube statement decl (Created epoch place))) es run)
next-allowed o es b (OnDesk (CreateCube statement decl Exists)) run = λ is. absurd (omega (arith, is))
next-allowed o es b (OnDesk (CreateCube statement decl TooMany)) run = λ is. absurd (omega (arith, is))
next-allowed o es b (OnDesk (FindCube statement name (Found place decl))) run = tt
next-allowed o es b (OnDesk (FindCube statement name Unknown)) run = λ is. absurd (omega (arith, is))
next-allowed o es b (OnDesk (CubesFrom place cubes)) run = tt
next-allowed o es b (OnDesk (CountersNow counters)) run = tt
next-allowed o es b (OnDesk (RoundOpen (Target from epoch))) run =
    bare-allowed o es (entry.Round epoch) refl (run-allowed o b (OnDesk (RoundOpen (Target from epoch))) es run)
next-allowed o es b (OnDesk (RoundOpen (Nothing epoch))) run =
    bare-allowed o es (entry.Idle epoch) refl (run-allowed o b (OnDesk (RoundOpen (Nothing epoch))) es run)
next-allowed o es b (OnDesk (RoundClose epoch Safe)) run =
    bare-allowed o es (entry.Safe epoch) refl (run-allowed o b (OnDesk (RoundClose epoch Safe)) es run)
next-allowed o es b (OnDesk (RoundClose epoch (Lost cause))) run =
    bare-allowed o es (entry.RoundLost epoch cause) refl (run-allowed o b (OnDesk (RoundClose epoch (Lost cause))) es run)
next-allowed o es b (OnDesk (StoreFailed failed)) run = tt
next-allowed o es b (OnNames call) run = tt
next-allowed o es b (Post mail job) run = tt
next-allowed o es b (Fetch mail answer) run = tt
next-allowed o es b (CloseMail mail) run = tt
next-allowed o es b NoChange run = tt

with-next : (e : Option JournalEntry) (o : Opening) (es : List CoreEvent) → CountersAllowAll o.safe [] (journal_of o es) → AllowsNext o es e
    → CountersAllowAll o.safe [] (journal_with e (journal_of o es))
with-next None o es all next = all
with-next (Some e) o es all next = legal-with o.safe (journal_of o es) e all next

run-allows : (o : Opening) (es : List CoreEvent) → IsCoreRun o es → CountersAllowAll o.safe [] (journal_of o es)
run-allows o [] run = tt
run-allows o (By b call ∷ es) run =
    coe 1 0 (i. CountersAllowAll o.safe [] (journal-step o b call es i))
    (with-next (client_entry b call) o es (run-allows o es run.0) (next-allowed o es b call run))
run-allows o (At mail move ∷ es) run = run-allows o es run.0

pub run-legal : (o : Opening) (es : List CoreEvent) → IsCoreRun o es
    → IsLegal o.safe (decl_names o.cubes) (names_spoken es) (journal_of o es)
run-legal o es run = record { by_counters = run-allows o es run; by_cubes = (run-cubes o es run).allowed }

pub run-leads : (o : Opening) (es : List CoreEvent) → IsCoreRun o es
    → cubes_after_all (decl_names o.cubes) (names_spoken es) (journal_of o es) ≡ decl_names (desk_of o es).cubes
run-leads o es run = (run-cubes o es run).leads
