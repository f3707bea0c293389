-- Which entries a call leaves in the journal, and of which session.
use Rattle.std.proofs.Common.{◌≡◌, ◌∙◌, ℕ, ◌==◌, true, false, true≢false, List, [], ◌∷◌, ◌++◌, Option, Some, None, inl, refl, sym, ap, arith, eqb-true, ne_eqb}
use Rattle.std.proofs.lemmas.Bool.{false_from_ne_true}
use Rattle.cube_journal.specs.declared.journal_entry.JournalEntry.{JournalEntry}
use Rattle.cube_journal.specs.declared.note.Note.TheVariants as note
use Rattle.cube_journal.specs.Counters.{journal_state}
use Rattle.cube_journal.specs.Entries.{is_of_session}
use Rattle.aosi_desk.specs.declared.answer.RoundAnswer.TheVariants.{Target, Nothing}
use Rattle.aosi_desk.specs.declared.answer.RoundEnd.TheVariants.{Safe, Lost}
use Rattle.aosi_desk.specs.State.{RegisterState}
use Rattle.aosi_desk.specs.declared.cube.CubeAnswer.TheVariants.{Created, Exists, TooMany}
use Rattle.aosi_desk.specs.declared.cube.CubeFound.TheVariants.{Found, Unknown}
use Rattle.core_events.specs.Events.{Opening, IsOpening, IsSession, OpenWrite, OpenRead, Commit, AbortEnd, CloseRead, TakeNote, CreateCube, FindCube, CubesFrom, CountersNow, RoundOpen, RoundClose, StoreFailed, ClientCall, OnDesk, OnNames, Post, Fetch, CloseMail, NoChange, CoreEvent, By, At}
use Rattle.core_events.specs.Clients.{ClientState, is_own_entry, ends_group}
use Rattle.core_events.specs.Cells.{desk_of, counters_of_run}
use Rattle.core_events.specs.Fitting.{FitsCall, IsNumberOf}
use Rattle.core_events.proofs.Agreement.{one-session}
use Rattle.core_events.proofs.DeskSteps.{client_entry, desk_entry, register_with, register-step}
use Rattle.core_serial.specs.Journals.{journal_of}

-- One more entry, or none.
abbrev pub journal_with : Option JournalEntry → List JournalEntry → List JournalEntry
journal_with None journal = journal
journal_with (Some e) journal = journal ++ e ∷ []

with-journal : (e : Option JournalEntry) (r : RegisterState) → (register_with e r).journal ≡ journal_with e r.journal
with-journal None r = refl
with-journal (Some e) r = refl

with-safe : (e : Option JournalEntry) (r : RegisterState) → (register_with e r).safe ≡ r.safe
with-safe None r = refl
with-safe (Some e) r = refl

pub journal-step : (o : Opening) (b : ℕ) (call : ClientCall) (es : List CoreEvent)
    → journal_of o (By b call ∷ es) ≡ journal_with (client_entry b call) (journal_of o es)
journal-step o b (OnDesk call) es =
    ap (λ (r : RegisterState). r.journal) (register-step b call (desk_of o es)) ∙ with-journal (desk_entry b call) (desk_of o es).register
journal-step o b (OnNames call) es = refl
journal-step o b (Post mail job) es = refl
journal-step o b (Fetch mail answer) es = refl
journal-step o b (CloseMail mail) es = refl
journal-step o b NoChange es = refl

pub run-safe : (o : Opening) (es : List CoreEvent) → (desk_of o es).register.safe ≡ o.safe
run-safe o [] = refl
run-safe o (By b (OnDesk call) ∷ es) =
    ap (λ (r : RegisterState). r.safe) (register-step b call (desk_of o es)) ∙ with-safe (desk_entry b call) (desk_of o es).register ∙ run-safe o es
run-safe o (By b (OnNames call) ∷ es) = run-safe o es
run-safe o (By b (Post mail job) ∷ es) = run-safe o es
run-safe o (By b (Fetch mail answer) ∷ es) = run-safe o es
run-safe o (By b (CloseMail mail) ∷ es) = run-safe o es
run-safe o (By b NoChange ∷ es) = run-safe o es
run-safe o (At mail move ∷ es) = run-safe o es

-- The counters are those of the journal.
pub run-counters : (o : Opening) (es : List CoreEvent) → counters_of_run o es ≡ journal_state o.safe (journal_of o es)
run-counters o es = ap (λ (safe : ℕ). journal_state safe (journal_of o es)) (run-safe o es)

-- The entry is not of a session.
abbrev pub IsNotOf : ℕ → Option JournalEntry → Type 0
IsNotOf a None = Unit {0}
IsNotOf a (Some e) = is_of_session a e ≡ false

other-number : (o : Opening) (a b number : ℕ) → IsOpening o → IsSession o a → IsSession o b → IsNumberOf b number
    → (b ≡ a → (number == a) ≡ false) → (number == a) ≡ false
other-number o a b number opening sa sb under own = false_from_ne_true (number == a) (λ is.
    let same = eqb-true number a is in
    let most = opening.sessions in
    let la = sa.last in
    let lb = sb.last in
    let client : a ≡ b = one-session a b number sa.first (omega (arith, most, la)) sb.first (omega (arith, most, lb)) (inl same) under in
    true≢false (sym is ∙ own (sym client)))

other-own : (a b : ℕ) → (b ≡ a → true ≡ false) → (b == a) ≡ false
other-own a b own = ne_eqb b a (λ same. true≢false (own same))

note-other : (a b session : ℕ) → session ≡ b → (b ≡ a → true ≡ false) → (session == a) ≡ false
note-other a b session is own = ap (λ (x : ℕ). x == a) is ∙ other-own a b own

-- Only a session's own calls leave entries of it.
pub entry-not-of : (o : Opening) (a b : ℕ) (call : ClientCall) (k : ClientState) → IsOpening o → IsSession o a → FitsCall o b call k
    → (b ≡ a → is_own_entry b call ≡ false) → IsNotOf a (client_entry b call)
entry-not-of o a b (OnDesk (OpenWrite statement epoch deps)) k opening sa f own = other-own a b own
entry-not-of o a b (OnDesk (OpenRead number statement epoch)) k opening sa f own =
    other-number o a b number opening sa f.session f.under (λ same. ap (λ (x : ℕ). number == x) (sym same) ∙ own same)
entry-not-of o a b (OnDesk (Commit statement epoch)) k opening sa f own = other-own a b own
entry-not-of o a b (OnDesk (AbortEnd statement epoch cause)) k opening sa f own = other-own a b own
entry-not-of o a b (OnDesk (CloseRead number statement)) k opening sa f own =
    other-number o a b number opening sa f.session f.under (λ same. ap (λ (x : ℕ). number == x) (sym same) ∙ own same)
entry-not-of o a b (OnDesk (TakeNote (note.Refused session statement code) counters)) k opening sa f own = note-other a b session f.allowed.0 own
entry-not-of o a b (OnDesk (TakeNote (note.Cleared session statement) counters)) k opening sa f own = note-other a b session f.allowed own
entry-not-of o a b (OnDesk (TakeNote (note.Show session statement) counters)) k opening sa f own = note-other a b session f.allowed own
entry-not-of o a b (OnDesk (TakeNote (note.Flushed session statement) counters)) k opening sa f own = note-other a b session f.allowed.0 own
entry-not-of o a b (OnDesk (TakeNote (note.Purged session statement epoch) counters)) k opening sa f own = note-other a b session f.allowed.0 own
entry-not-of o a b (OnDesk (CreateCube statement decl (Created epoch place))) k opening sa f own = other-own a b own
entry-not-of o a b (OnDesk (CreateCube statement decl Exists)) k opening sa f own = other-own a b own
entry-not-of o a b (OnDesk (CreateCube statement decl TooMany)) k opening sa f own = other-own a b own
entry-not-of o a b (OnDesk (FindCube statement name (Found place decl))) k opening sa f own = tt
entry-not-of o a b (OnDesk (FindCube statement name Unknown)) k opening sa f own = other-own a b own
entry-not-of o a b (OnDesk (CubesFrom place cubes)) k opening sa f own = tt
entry-not-of o a b (OnDesk (CountersNow counters)) k opening sa f own = tt
entry-not-of o a b (OnDesk (RoundOpen (Target from epoch))) k opening sa f own = refl
entry-not-of o a b (OnDesk (RoundOpen (Nothing epoch))) k opening sa f own = refl
entry-not-of o a b (OnDesk (RoundClose epoch Safe)) k opening sa f own = refl
entry-not-of o a b (OnDesk (RoundClose epoch (Lost cause))) k opening sa f own = refl
entry-not-of o a b (OnDesk (StoreFailed failed)) k opening sa f own = tt
entry-not-of o a b (OnNames call) k opening sa f own = tt
entry-not-of o a b (Post mail job) k opening sa f own = tt
entry-not-of o a b (Fetch mail answer) k opening sa f own = tt
entry-not-of o a b (CloseMail mail) k opening sa f own = tt
entry-not-of o a b NoChange k opening sa f own = tt

-- A call that ends no group leaves no entry of its own.
pub goes-unnoted : (b : ℕ) (call : ClientCall) → ends_group call ≡ false → is_own_entry b call ≡ false
goes-unnoted b (OnDesk (OpenWrite statement epoch deps)) e = absurd (true≢false e)
goes-unnoted b (OnDesk (OpenRead number statement epoch)) e = absurd (true≢false e)
goes-unnoted b (OnDesk (Commit statement epoch)) e = absurd (true≢false e)
goes-unnoted b (OnDesk (AbortEnd statement epoch cause)) e = absurd (true≢false e)
goes-unnoted b (OnDesk (CloseRead number statement)) e = absurd (true≢false e)
goes-unnoted b (OnDesk (TakeNote note counters)) e = absurd (true≢false e)
goes-unnoted b (OnDesk (CreateCube statement decl answer)) e = absurd (true≢false e)
goes-unnoted b (OnDesk (FindCube statement name answer)) e = e
goes-unnoted b (OnDesk (CubesFrom place cubes)) e = refl
goes-unnoted b (OnDesk (CountersNow counters)) e = refl
goes-unnoted b (OnDesk (RoundOpen answer)) e = refl
goes-unnoted b (OnDesk (RoundClose epoch end)) e = refl
goes-unnoted b (OnDesk (StoreFailed failed)) e = refl
goes-unnoted b (OnNames call) e = refl
goes-unnoted b (Post mail job) e = refl
goes-unnoted b (Fetch mail answer) e = refl
goes-unnoted b (CloseMail mail) e = refl
goes-unnoted b NoChange e = refl
