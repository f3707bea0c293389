-- Where no session holds a snapshot none is open, and no epoch is pending.
use Rattle.std.proofs.Common.{◌≡◌, ◌≢◌, ◌∙◌, ℕ, ◌==◌, Bool, true, false, true≢false, not, ◌||◌, List, [], ◌∷◌, ◌++◌, Option, Some, None, IsSomeAnd, if◌then◌else◌, inl, inr, filter, refl, sym, ap, eqb-true, eq-eqb, ne_eqb}
use Rattle.std.proofs.lemmas.Bool.{false≢true}
use Rattle.std.proofs.lemmas.Option.{none-some}
use Rattle.cube_values.specs.declared.snapshot.Snapshot.{Snapshot}
use Rattle.cube_journal.specs.declared.counters.OpenSnapshot.{OpenSnapshot}
use Rattle.cube_journal.specs.declared.journal_entry.JournalEntry.{JournalEntry}
use Rattle.cube_journal.specs.declared.journal_entry.JournalEntry.TheVariants as entry
use Rattle.cube_journal.specs.declared.note.Note.TheVariants as note
use Rattle.cube_journal.specs.Counters.{JournalState, held_by, lce, snapshots_without, state_after}
use Rattle.aosi_desk.specs.declared.answer.RoundAnswer.TheVariants.{Target, Nothing}
use Rattle.aosi_desk.specs.declared.answer.RoundEnd.TheVariants.{Safe, Lost}
use Rattle.aosi_desk.specs.declared.cube.CubeAnswer.TheVariants.{Created, Exists, TooMany}
use Rattle.aosi_desk.specs.declared.cube.CubeFound.TheVariants.{Found, Unknown}
use Rattle.core_events.specs.Cells.{counters_of_run}
use Rattle.core_events.specs.Clients.{ClientState, client_state, writer_at, reader_up_to}
use Rattle.core_events.specs.Events.{Opening, IsSession, OpenWrite, OpenRead, Commit, AbortEnd, CloseRead, TakeNote, CreateCube, FindCube, CubesFrom, CountersNow, RoundOpen, RoundClose, StoreFailed, ClientCall, OnDesk, OnNames, Post, Fetch, CloseMail, NoChange, CoreEvent, By, At}
use Rattle.core_events.specs.Fitting.{FitsCall, IsNumberOf}
use Rattle.core_events.specs.Groups.{has_number}
use Rattle.core_events.specs.Runs.{IsCoreRun}
use Rattle.core_events.proofs.Agreement.{agree}
use Rattle.core_events.proofs.DeskSteps.{HoldChange, Opens, Ends, Keeps, change_by, client_entry, desk-held, held_after, run-step, state_with_entry}
use Rattle.core_events.proofs.Finished.{Held, has-more, has-without, or-is, with-one-is, without-one-is}
use Rattle.core_events.proofs.InOrder.{AllowsEntry, StateAllows, run-allowed}
use Rattle.core_events.proofs.Lookups.{held-by-append, held-by-without, with_one, without_one}
use Rattle.core_serial.proofs.CountedRows.{and-parts}
use Rattle.last_rounds.specs.SavedEpochs.{SessionsHoldNothing}

-- ---- whose number an open snapshot has

pub record IsOfSession (o : Opening) (number : ℕ) : Type 0 where
  pub session : ℕ
  pub is_session : IsSession o session
  pub under : IsNumberOf session number

abbrev ChangeFits : Opening → HoldChange → Type 0
ChangeFits o (Opens number snapshot) = IsOfSession o number
ChangeFits o change = Unit {0}

change-fits : (o : Opening) (a : ℕ) (call : ClientCall) (k : ClientState) → FitsCall o a call k
    → ChangeFits o (change_by (client_entry a call))
change-fits o a (OnDesk (OpenWrite statement epoch deps)) k f =
    record { session = a; is_session = f.session; under = inl refl }
change-fits o a (OnDesk (OpenRead number statement epoch)) k f =
    record { session = a; is_session = f.session; under = f.under }
change-fits o a (OnDesk (Commit statement epoch)) k f = tt
change-fits o a (OnDesk (AbortEnd statement epoch cause)) k f = tt
change-fits o a (OnDesk (CloseRead number statement)) k f = tt
change-fits o a (OnDesk (TakeNote (note.Refused session statement code) counters)) k f = tt
change-fits o a (OnDesk (TakeNote (note.Cleared session statement) counters)) k f = tt
change-fits o a (OnDesk (TakeNote (note.Show session statement) counters)) k f = tt
change-fits o a (OnDesk (TakeNote (note.Flushed session statement) counters)) k f = tt
change-fits o a (OnDesk (TakeNote (note.Purged session statement epoch) counters)) k f = tt
change-fits o a (OnDesk (CreateCube statement decl (Created epoch place))) k f = tt
change-fits o a (OnDesk (CreateCube statement decl Exists)) k f = tt
change-fits o a (OnDesk (CreateCube statement decl TooMany)) k f = tt
change-fits o a (OnDesk (FindCube statement name (Found place decl))) k f = tt
change-fits o a (OnDesk (FindCube statement name Unknown)) k f = tt
change-fits o a (OnDesk (CubesFrom place cubes)) k f = tt
change-fits o a (OnDesk (CountersNow counters)) k f = tt
change-fits o a (OnDesk (RoundOpen (Target from epoch))) k f = tt
change-fits o a (OnDesk (RoundOpen (Nothing epoch))) k f = tt
change-fits o a (OnDesk (RoundClose epoch Safe)) k f = tt
change-fits o a (OnDesk (RoundClose epoch (Lost cause))) k f = tt
change-fits o a (OnDesk (StoreFailed failed)) k f = tt
change-fits o a (OnNames call) k f = tt
change-fits o a (Post mail job) k f = tt
change-fits o a (Fetch mail said) k f = tt
change-fits o a (CloseMail mail) k f = tt
change-fits o a NoChange k f = tt

change-of : (o : Opening) (change : HoldChange) (m : ℕ) (old : Option Snapshot) (s : Snapshot) → ChangeFits o change
    → (old ≡ Some s → IsOfSession o m) → held_after change m old ≡ Some s → IsOfSession o m
change-of o (Opens number snapshot) m old s f before is = elim (with-one-is old (number == m) snapshot s is) [
  | inl held ↦ before held
  | inr new ↦ coe 0 1 (i. IsOfSession o (eqb-true number m new.0 i)) f
]
change-of o (Ends number) m old s f before is = before (without-one-is (number == m) old s is).1
change-of o Keeps m old s f before is = before is

held-of : (o : Opening) (es : List CoreEvent) (m : ℕ) (s : Snapshot) → IsCoreRun o es
    → held_by (counters_of_run o es).snapshots m ≡ Some s → IsOfSession o m
held-of o [] m s run is = absurd (none-some s is)
held-of o (By b call ∷ es) m s run is =
    let step =
    ap (λ (t : JournalState). held_by t.snapshots m) (run-step o b call es)
    ∙ desk-held (counters_of_run o es) (client_entry b call) m
    in
    change-of o (change_by (client_entry b call)) m (held_by (counters_of_run o es).snapshots m) s
    (change-fits o b call (client_state o b es) run.1.fits) (held-of o es m s run.0) (sym step ∙ is)
held-of o (At mail move ∷ es) m s run is = held-of o es m s run.0 is

-- ---- none is open

none-held : (o : Opening) (es : List CoreEvent) (m : ℕ) → IsCoreRun o es → SessionsHoldNothing o es
    → held_by (counters_of_run o es).snapshots m ≡ None
none-held o es m run nothing = at (held_by (counters_of_run o es).snapshots m) refl
  where
    at : (h : Option Snapshot) → held_by (counters_of_run o es).snapshots m ≡ h
        → held_by (counters_of_run o es).snapshots m ≡ None
    at None is = is
    at (Some s) is =
        let owner = held-of o es m s run is in
        agree o es run owner.session owner.is_session m owner.under
        ∙ nothing owner.session m owner.is_session owner.under

no-snapshot : (xs : List OpenSnapshot) → ((m : ℕ) → held_by xs m ≡ None) → xs ≡ []
no-snapshot [] none = refl
no-snapshot (x ∷ xs) none =
    absurd (none-some x.snapshot (sym (none x.session)
    ∙ ap (λ (b : Bool). if b then Some x.snapshot else held_by xs x.session) (eq-eqb x.session x.session refl)))

pub none-open : (o : Opening) (es : List CoreEvent) → IsCoreRun o es → SessionsHoldNothing o es
    → (counters_of_run o es).snapshots ≡ []
none-open o es run nothing =
    no-snapshot (counters_of_run o es).snapshots (λ m. none-held o es m run nothing)

-- ---- none is pending

abbrev HasHolder : JournalState → ℕ → Type 0
HasHolder s e = (m : ℕ) × Held s m e

abbrev ArePendingHeld : JournalState → Type 0
ArePendingHeld s = (e : ℕ) → has_number s.pending e ≡ true → HasHolder s e

same-held : (s t : JournalState) (e : ℕ) → t.snapshots ≡ s.snapshots → HasHolder s e → HasHolder t e
same-held s t e same h = (
  h.0,
  record {
    snapshot = h.1.snapshot;
    is = ap (λ (xs : List OpenSnapshot). held_by xs h.0) same ∙ h.1.is;
    own = h.1.own;
    at = h.1.at;
  },
)

-- One more is open.
more-held : (s t : JournalState) (e : ℕ) (x : OpenSnapshot) → t.snapshots ≡ s.snapshots ++ x ∷ [] → HasHolder s e
    → HasHolder t e
more-held s t e x more h = (
  h.0,
  record {
    snapshot = h.1.snapshot;
    is =
        ap (λ (xs : List OpenSnapshot). held_by xs h.0) more
        ∙ held-by-append s.snapshots x h.0
        ∙ ap (λ (o : Option Snapshot). with_one o (x.session == h.0) x.snapshot) h.1.is;
    own = h.1.own;
    at = h.1.at;
  },
)

-- Another number's are ended.
other-held : (s t : JournalState) (e session : ℕ) → t.snapshots ≡ snapshots_without session s.snapshots
    → (h : HasHolder s e) → session ≢ h.0 → HasHolder t e
other-held s t e session less h apart = (
  h.0,
  record {
    snapshot = h.1.snapshot;
    is =
        ap (λ (xs : List OpenSnapshot). held_by xs h.0) less
        ∙ held-by-without s.snapshots session h.0
        ∙ (λ i. without_one (ne_eqb session h.0 apart i) (h.1.is i));
    own = h.1.own;
    at = h.1.at;
  },
)

abbrev IsHeldSo : (Snapshot → Type 0) → JournalState → ℕ → Type 0
IsHeldSo P s m = IsSomeAnd (held_by s.snapshots m) P

held-so : (P : Snapshot → Type 0) (s : JournalState) (m : ℕ) (x : Snapshot) → held_by s.snapshots m ≡ Some x
    → IsHeldSo P s m → P x
held-so P s m x is h = coe 0 1 (i. IsSomeAnd (is i) P) h

-- The writer of another epoch is under another number.
apart-by-epoch : (s : JournalState) (session epoch e : ℕ) → (epoch == e) ≡ false
    → IsHeldSo (λ h. (h.own ≡ true) × (h.epoch ≡ epoch)) s session → (h : HasHolder s e) → session ≢ h.0
apart-by-epoch s session epoch e other holds h same =
    let own =
    held-so (λ x. (x.own ≡ true) × (x.epoch ≡ epoch)) s session h.1.snapshot
    (ap (held_by s.snapshots) same ∙ h.1.is) holds
    in
    true≢false (sym (eq-eqb epoch e (sym own.1 ∙ h.1.at)) ∙ other)

apart-by-kind : (s : JournalState) (session e : ℕ) → IsHeldSo (λ h. h.own ≡ false) s session → (h : HasHolder s e)
    → session ≢ h.0
apart-by-kind s session e holds h same =
    let reads =
    held-so (λ x. x.own ≡ false) s session h.1.snapshot (ap (held_by s.snapshots) same ∙ h.1.is) holds
    in
    true≢false (sym h.1.own ∙ reads)

begun : (s : JournalState) (session epoch e : ℕ) (deps : List ℕ) (statement : ℕ)
    → held_by s.snapshots session ≡ None → epoch ≡ e
    → HasHolder (state_after s (entry.Begin session statement epoch deps)) e
begun s session epoch e deps statement free same = (
  session,
  record {
    snapshot = writer_at epoch deps;
    is =
        held-by-append s.snapshots (record { session = session; bound = lce s; snapshot = writer_at epoch deps })
        session
        ∙ (λ i. with_one (free i) (eq-eqb session session refl i) (writer_at epoch deps));
    own = refl;
    at = same;
  },
)

not-false : (b : Bool) → not b ≡ true → b ≡ false
not-false true is = absurd (false≢true is)
not-false false is = refl

ended : (s : JournalState) (session epoch e : ℕ) (x : JournalEntry) → ArePendingHeld s
    → (state_after s x).snapshots ≡ snapshots_without session s.snapshots
    → IsHeldSo (λ h. (h.own ≡ true) × (h.epoch ≡ epoch)) s session
    → has_number (filter (λ k. not (k == epoch)) s.pending) e ≡ true → HasHolder (state_after s x) e
ended s session epoch e x before less holds is =
    let parts = and-parts (has_number s.pending e) (not (epoch == e)) (sym (has-without s.pending epoch e) ∙ is) in
    let h = before e parts.0 in
    other-held s (state_after s x) e session less h
    (apart-by-epoch s session epoch e (not-false (epoch == e) parts.1) holds h)

entry-held : (s : JournalState) (x : JournalEntry) → StateAllows s x → ArePendingHeld s
    → ArePendingHeld (state_after s x)
entry-held s (entry.Begin session statement epoch deps) allows before = λ e is.
    elim (or-is (has_number s.pending e) (epoch == e) (sym (has-more s.pending epoch e) ∙ is)) [
      | inl old ↦
          more-held s (state_after s (entry.Begin session statement epoch deps)) e
          (record { session = session; bound = lce s; snapshot = writer_at epoch deps }) refl (before e old)
      | inr new ↦ begun s session epoch e deps statement allows.free (eqb-true epoch e new)
    ]
entry-held s (entry.Read session statement epoch) allows before = λ e is.
    more-held s (state_after s (entry.Read session statement epoch)) e
    (record { session = session; bound = lce s; snapshot = reader_up_to epoch }) refl (before e is)
entry-held s (entry.ReadEnd session statement) allows before = λ e is.
    let h = before e is in
    other-held s (state_after s (entry.ReadEnd session statement)) e session refl h
    (apart-by-kind s session e allows h)
entry-held s (entry.Committed session statement epoch) allows before = λ e is.
    ended s session epoch e (entry.Committed session statement epoch) before refl allows is
entry-held s (entry.Aborted session statement epoch cause) allows before = λ e is.
    ended s session epoch e (entry.Aborted session statement epoch cause) before refl allows is
entry-held s (entry.Refused session statement code) allows before = λ e is.
    same-held s (state_after s (entry.Refused session statement code)) e refl (before e is)
entry-held s (entry.Cleared session statement) allows before = λ e is.
    same-held s (state_after s (entry.Cleared session statement)) e refl (before e is)
entry-held s (entry.Show session statement) allows before = λ e is.
    same-held s (state_after s (entry.Show session statement)) e refl (before e is)
entry-held s (entry.Flushed session statement) allows before = λ e is.
    same-held s (state_after s (entry.Flushed session statement)) e refl (before e is)
entry-held s (entry.Purged session statement epoch) allows before = λ e is.
    same-held s (state_after s (entry.Purged session statement epoch)) e refl (before e is)
entry-held s (entry.Cube session statement epoch) allows before = λ e is.
    same-held s (state_after s (entry.Cube session statement epoch)) e refl (before e is)
entry-held s (entry.Round epoch) allows before = λ e is.
    same-held s (state_after s (entry.Round epoch)) e refl (before e is)
entry-held s (entry.Idle epoch) allows before = λ e is.
    same-held s (state_after s (entry.Idle epoch)) e refl (before e is)
entry-held s (entry.Safe epoch) allows before = λ e is.
    same-held s (state_after s (entry.Safe epoch)) e refl (before e is)
entry-held s (entry.RoundLost epoch cause) allows before = λ e is.
    same-held s (state_after s (entry.RoundLost epoch cause)) e refl (before e is)

with-held : (s : JournalState) (x : Option JournalEntry) → AllowsEntry s x → ArePendingHeld s
    → ArePendingHeld (state_with_entry x s)
with-held s None allows before = before
with-held s (Some x) allows before = entry-held s x allows before

pending-held : (o : Opening) (es : List CoreEvent) → IsCoreRun o es → ArePendingHeld (counters_of_run o es)
pending-held o [] run = λ e is. absurd (false≢true is)
pending-held o (By b call ∷ es) run =
    coe 1 0 (i. ArePendingHeld (run-step o b call es i))
    (with-held (counters_of_run o es) (client_entry b call) (run-allowed o b call es run) (pending-held o es run.0))
pending-held o (At mail move ∷ es) run = pending-held o es run.0

no-number : (xs : List ℕ) → ((e : ℕ) → has_number xs e ≡ true → ⊥) → xs ≡ []
no-number [] none = refl
no-number (x ∷ xs) none =
    absurd (none x (ap (λ (b : Bool). b || has_number xs x) (eq-eqb x x refl)))

pub none-pending : (o : Opening) (es : List CoreEvent) → IsCoreRun o es → SessionsHoldNothing o es
    → (counters_of_run o es).pending ≡ []
none-pending o es run nothing =
    no-number (counters_of_run o es).pending (λ e is.
    let h = pending-held o es run e is in
    none-some h.1.snapshot (sym (none-held o es h.0 run nothing) ∙ h.1.is))
