-- Each call on the desk, against the event that it is.
use Rattle.std.proofs.Common.{◌≡◌, ◌∙◌, ℕ, ◌≤◌, true, false, true≢false, List, ◌∷◌, [], Option, Some, None, IsSomeAnd, inl, inr, refl, sym, ap, arith}
use Rattle.std.specs.Option.{option_map_or}
use Rattle.cube_values.specs.declared.snapshot.Snapshot.{Snapshot}
use Rattle.cube_journal.specs.declared.journal_entry.JournalEntry.{JournalEntry}
use Rattle.cube_journal.specs.declared.journal_entry.JournalEntry.TheVariants as entry
use Rattle.cube_journal.specs.Counters.{held_by, counters_in}
use Rattle.aosi_desk.specs.State.{RegisterState, writer_snapshot, reader_snapshot, IsWriting, round_answer}
use Rattle.aosi_desk.specs.Desks.{DeskState, desk_with_entry, cube_answer, desk_after_answer, desk_after_search}
use Rattle.core_cells.specs.DeskCalls.{CanCallDesk, DeskStep}
use Rattle.core_cells.specs.declared.desk.DeskCall.{DeskCall}
use Rattle.core_cells.specs.declared.desk.DeskCall.TheVariants as call
use Rattle.core_cells.specs.declared.desk.DeskAnswer.{DeskAnswer}
use Rattle.core_cells.specs.declared.desk.DeskAnswer.TheVariants as answer
use Rattle.core_events.specs.Cells.{counters_of_run, desk_of}
use Rattle.core_events.specs.Clients.{client_state}
use Rattle.core_events.specs.Events.{Opening, IsSession, OpenWrite, OpenRead, Commit, AbortEnd, TakeNote, CreateCube, ClientCall, OnDesk, OnNames, Post, Fetch, CloseMail, NoChange, CoreEvent, By, At}
use Rattle.core_events.specs.Fitting.{IsNumberOf}
use Rattle.core_events.specs.Runs.{IsCoreRun}
use Rattle.core_events.proofs.Agreement.{opening-of, agree}
use Rattle.core_events.proofs.DeskSteps.{register_with, register-step, desk_entry}
use Rattle.core_events.proofs.KnownCubes.{known-cubes}
use Rattle.core_events.proofs.MayCalls.{may-write, may-read, may-commit, may-abort, may-close, may-create, may-round, may-end}
use Rattle.core_serial.proofs.NoteCalls.{note-allowed, note-silent}
use Rattle.cube_core.specs.DeskEvents.{own_epoch, desk_event, FitsDeskCall, is_on_desk}

-- The desk has the sessions of the opening.
entry-sessions : (e : Option JournalEntry) (r : RegisterState) → (register_with e r).sessions ≡ r.sessions
entry-sessions None r = refl
entry-sessions (Some e) r = refl

desk-sessions : (o : Opening) (es : List CoreEvent) → (desk_of o es).register.sessions ≡ o.sessions
desk-sessions o [] = refl
desk-sessions o (By a (OnDesk c) ∷ es) =
    ap (λ (r : RegisterState). r.sessions) (register-step a c (desk_of o es))
    ∙ entry-sessions (desk_entry a c) (desk_of o es).register
    ∙ desk-sessions o es
desk-sessions o (By a (OnNames c) ∷ es) = desk-sessions o es
desk-sessions o (By a (Post mail job) ∷ es) = desk-sessions o es
desk-sessions o (By a (Fetch mail said) ∷ es) = desk-sessions o es
desk-sessions o (By a (CloseMail mail) ∷ es) = desk-sessions o es
desk-sessions o (By a NoChange ∷ es) = desk-sessions o es
desk-sessions o (At mail move ∷ es) = desk-sessions o es

-- A session's epoch is the one that the desk has for it.
epochs-agree : (o : Opening) (a : ℕ) (es : List CoreEvent) → IsCoreRun o es → IsSession o a
    → own_epoch a (client_state o a es) ≡ option_map_or (λ (s : Snapshot). s.epoch) (held_by (counters_of_run o es).snapshots a) 0
epochs-agree o a es run session =
    ap (λ (held : Option Snapshot). option_map_or (λ (s : Snapshot). s.epoch) held 0) (sym (agree o es run a session a (inl refl)))

-- A number of a session is at most 48.
number-high : (a n : ℕ) → 1 ≤ a → a ≤ 16 → IsNumberOf a n → (1 ≤ n) × (n ≤ 48)
number-high a n low high (inl e) = (omega (arith, e), omega (arith, e))
number-high a n low high (inr (inl e)) = (omega (arith, e), omega (arith, e))
number-high a n low high (inr (inr e)) = (omega (arith, e), omega (arith, e))

writes-where : (held : Option Snapshot) (epoch : ℕ) → IsSomeAnd held (λ h. (h.own ≡ true) × (h.epoch ≡ epoch)) → IsSomeAnd held (λ h. h.own ≡ true)
writes-where None epoch h = absurd h
writes-where (Some s) epoch h = h.0

-- The desk can take a call that fits.
pub can : (o : Opening) (a : ℕ) (c : DeskCall) (es : List CoreEvent) → IsCoreRun o es → FitsDeskCall o a c (client_state o a es)
    → CanCallDesk (desk_of o es) c
can o a (call.OpenWrite session statement) es run may =
    let s = writer_snapshot (counters_of_run o es) in
    let fits = may.event (answer.Opened s) in
    let next : IsCoreRun o (By a (OnDesk (OpenWrite statement s.epoch s.deps)) ∷ es) = (run, record { fits = fits; says = (refl, refl) }) in
    let same = may.number in
    let first = fits.session.first in
    let last = fits.session.last in
    let count = desk-sessions o es in
    record {
      low = omega (arith, same, first);
      high = omega (arith, same, last, count);
      free = ap (held_by (counters_of_run o es).snapshots) same ∙ may-write o a statement s.epoch s.deps es next;
    }
can o a (call.OpenRead number statement) es run may =
    let s = reader_snapshot (counters_of_run o es) in
    let fits = may.event (answer.Opened s) in
    let next : IsCoreRun o (By a (OnDesk (OpenRead number statement s.epoch)) ∷ es) = (run, record { fits = fits; says = refl }) in
    let last = fits.session.last in
    let most = (opening-of o es run).sessions in
    let bounds = number-high a number fits.session.first (omega (arith, last, most)) fits.under in
    record { low = bounds.0; high = bounds.1; free = may-read o a number statement s.epoch es next }
can o a (call.Commit session statement) es run may =
    let fits = may.event answer.Done in
    let epoch = own_epoch a (client_state o a es) in
    let next : IsCoreRun o (By a (OnDesk (Commit statement epoch)) ∷ es) = (run, record { fits = fits; says = tt }) in
    coe 1 0 (i. IsWriting (counters_of_run o es) (may.number i))
    (writes-where (held_by (counters_of_run o es).snapshots a) epoch (may-commit o a statement epoch es next))
can o a (call.AbortEnd session statement cause) es run may =
    let fits = may.event answer.Done in
    let epoch = own_epoch a (client_state o a es) in
    let next : IsCoreRun o (By a (OnDesk (AbortEnd statement epoch cause)) ∷ es) = (run, record { fits = fits; says = tt }) in
    coe 1 0 (i. IsWriting (counters_of_run o es) (may.number i))
    (writes-where (held_by (counters_of_run o es).snapshots a) epoch (may-abort o a statement epoch cause es next))
can o a (call.CloseRead number statement) es run may =
    may-close o a number statement es (run, record { fits = may.event answer.Done; says = tt })
can o a (call.Note note) es run may =
    let shown = counters_in (counters_of_run o es) in
    let next : IsCoreRun o (By a (OnDesk (TakeNote note shown)) ∷ es) = (run, record { fits = may.event (answer.Counted shown); says = refl }) in
    (note-allowed o a note shown es next, note-silent o a note shown es next)
can o a (call.CreateCube session statement decl) es run may =
    let made = cube_answer (desk_of o es) decl.name in
    let fits = may.event (answer.Created made) in
    let next : IsCoreRun o (By a (OnDesk (CreateCube statement decl made)) ∷ es) = (run, record { fits = fits; says = refl }) in
    (ap (held_by (counters_of_run o es).snapshots) may.number ∙ may-create o a statement decl made es next, fits.1.storable)
can o a (call.FindCube session statement name) es run may = tt
can o a (call.CubesFrom place) es run may =
    let fits = (may.event (answer.Cubes [])).0 in
    let known = known-cubes o es a run in
    omega (arith, fits, known)
can o a call.RoundOpen es run may =
    let asked = round_answer (counters_of_run o es) in
    may-round o a asked es (run, record { fits = may.event (answer.Round asked); says = refl })
can o a (call.RoundClose epoch end) es run may =
    may-end o a epoch end es (run, record { fits = may.event answer.Done; says = tt })
can o a call.Counters es run may = tt
can o a call.StoreFailed es run may = tt

-- What a call makes of a run and of the desk.
abbrev GoesTo : Opening → ℕ → ClientCall → List CoreEvent → DeskState → Type 0
GoesTo o a event es new = IsCoreRun o (By a event ∷ es) × (new ≡ desk_of o (By a event ∷ es))

pub steps : (o : Opening) (a : ℕ) (c : DeskCall) (said : DeskAnswer) (es : List CoreEvent) (new : DeskState) → IsCoreRun o es
    → FitsDeskCall o a c (client_state o a es) → DeskStep (desk_of o es) c said new
    → GoesTo o a (desk_event a (client_state o a es) c said) es new
steps o a (call.OpenWrite session statement) (answer.Opened s) es new run may step = (
  (run, record { fits = may.event (answer.Opened s); says = ((λ i. (step.0 i).epoch), (λ i. (step.0 i).deps)) }),
  step.1 ∙ (λ i. desk_with_entry (desk_of o es) (entry.Begin (may.number i) statement s.epoch s.deps)),
)
steps o a (call.OpenWrite session statement) answer.NoMemory es new run may step =
    ((run, record { fits = tt; says = tt }), step)
steps o a (call.OpenRead number statement) (answer.Opened s) es new run may step =
    ((run, record { fits = may.event (answer.Opened s); says = λ i. (step.0 i).epoch }), step.1)
steps o a (call.OpenRead number statement) answer.NoMemory es new run may step =
    ((run, record { fits = tt; says = tt }), step)
steps o a (call.Commit session statement) answer.Done es new run may step =
    let fits = may.event answer.Done in
    let epoch = epochs-agree o a es run fits.session in (
      (run, record { fits = fits; says = tt }),
      step
          ∙ (λ i. desk_with_entry (desk_of o es) (entry.Committed (may.number i) statement
          (option_map_or (λ (s : Snapshot). s.epoch) (held_by (counters_of_run o es).snapshots (may.number i)) 0)))
          ∙ (λ i. desk_with_entry (desk_of o es) (entry.Committed a statement (sym epoch i))),
    )
steps o a (call.AbortEnd session statement cause) answer.Done es new run may step =
    let fits = may.event answer.Done in
    let epoch = epochs-agree o a es run fits.session in (
      (run, record { fits = fits; says = tt }),
      step
          ∙ (λ i. desk_with_entry (desk_of o es) (entry.Aborted (may.number i) statement
          (option_map_or (λ (s : Snapshot). s.epoch) (held_by (counters_of_run o es).snapshots (may.number i)) 0) cause))
          ∙ (λ i. desk_with_entry (desk_of o es) (entry.Aborted a statement (sym epoch i) cause)),
    )
steps o a (call.CloseRead number statement) answer.Done es new run may step =
    ((run, record { fits = may.event answer.Done; says = tt }), step)
steps o a (call.Note note) (answer.Counted shown) es new run may step =
    ((run, record { fits = may.event (answer.Counted shown); says = step.0 }), step.1)
steps o a (call.Note note) answer.NoMemory es new run may step = ((run, record { fits = tt; says = tt }), step)
steps o a (call.CreateCube session statement decl) (answer.Created made) es new run may step = (
  (run, record { fits = may.event (answer.Created made); says = step.0 }),
  step.1 ∙ (λ i. desk_after_answer (desk_of o es) (may.number i) statement decl made),
)
steps o a (call.CreateCube session statement decl) answer.NoMemory es new run may step =
    ((run, record { fits = tt; says = tt }), step)
steps o a (call.FindCube session statement name) (answer.Found found) es new run may step = (
  (run, record { fits = may.event (answer.Found found); says = step.0 }),
  step.1 ∙ (λ i. desk_after_search (desk_of o es) (may.number i) statement name found),
)
steps o a (call.FindCube session statement name) answer.NoMemory es new run may step =
    ((run, record { fits = tt; says = tt }), step)
steps o a (call.CubesFrom place) (answer.Cubes cubes) es new run may step =
    ((run, record { fits = may.event (answer.Cubes cubes); says = step.0 }), step.1)
steps o a (call.CubesFrom place) answer.NoMemory es new run may step = ((run, record { fits = tt; says = tt }), step)
steps o a call.RoundOpen (answer.Round asked) es new run may step =
    ((run, record { fits = may.event (answer.Round asked); says = step.0 }), step.1)
steps o a call.RoundOpen answer.NoMemory es new run may step = ((run, record { fits = tt; says = tt }), step)
steps o a (call.RoundClose epoch end) answer.Done es new run may step =
    ((run, record { fits = may.event answer.Done; says = tt }), step)
steps o a call.Counters (answer.Counted shown) es new run may step =
    ((run, record { fits = may.event (answer.Counted shown); says = step.0 }), step.1)
steps o a call.StoreFailed (answer.Failed failed) es new run may step =
    ((run, record { fits = may.event (answer.Failed failed); says = step.0 }), step.1)
steps o a c said es new run may step = absurd step

pub others : (o : Opening) (event : CoreEvent) (es : List CoreEvent) → is_on_desk event ≡ false → desk_of o (event ∷ es) ≡ desk_of o es
others o (By a (OnDesk c)) es off = absurd (true≢false off)
others o (By a (OnNames c)) es off = refl
others o (By a (Post mail job)) es off = refl
others o (By a (Fetch mail said)) es off = refl
others o (By a (CloseMail mail)) es off = refl
others o (By a NoChange) es off = refl
others o (At mail move) es off = refl
