-- Whose an entry is that a call leaves.
use Rattle.std.proofs.Common.{◌≡◌, ◌∙◌, ℕ, ◌+◌, ◌≤◌, ◌<◌, ◌==◌, ◌⊎◌, Bool, true, false, ◌&&◌, ◌||◌, List, [], ◌∷◌, length, Option, Some, None, is_none, inl, inr, refl, sym, ap, subst, arith, eqb-true, ne_eqb, eq-eqb}
use Rattle.std.specs.List.{enumerate_from, list_all, list_any}
use Rattle.std.specs.Option.{IsSomeAnd, option_map_or}
use Rattle.std.proofs.lemmas.Bool.{false≢true}
use Rattle.std.proofs.lemmas.Bool.Decides.{eqb_tells}
use Rattle.std.proofs.lemmas.List.Folds.{list_all-append}
use Rattle.cube_journal.specs.Entries.{session_of}
use Rattle.cube_journal.specs.declared.journal_entry.JournalEntry.{JournalEntry}
use Rattle.cube_journal.specs.declared.note.Note.TheVariants as note
use Rattle.cube_run.specs.Merge.{has_owner}
use Rattle.cube_run.specs.RunRecords.{RunRecord}
use Rattle.cube_run.specs.SessionSteps.{belongs_to}
use Rattle.cube_run.specs.SessionStates.{first_holder, second_holder}
use Rattle.aosi_desk.specs.declared.answer.RoundAnswer.TheVariants.{Target, Nothing}
use Rattle.aosi_desk.specs.declared.answer.RoundEnd.TheVariants.{Safe, Lost}
use Rattle.aosi_desk.specs.declared.cube.CubeAnswer.TheVariants.{Created, Exists, TooMany}
use Rattle.aosi_desk.specs.declared.cube.CubeFound.TheVariants.{Found, Unknown}
use Rattle.core_events.specs.Clients.{ClientState, client_state}
use Rattle.core_events.specs.Events.{Opening, IsOpening, IsSession, flusher, OpenWrite, OpenRead, Commit, AbortEnd, CloseRead, TakeNote, CreateCube, FindCube, CubesFrom, CountersNow, RoundOpen, RoundClose, StoreFailed, ClientCall, OnDesk, OnNames, Post, Fetch, CloseMail, NoChange, CoreEvent, By, At}
use Rattle.core_events.specs.Fitting.{FitsCall, IsNumberOf}
use Rattle.core_events.specs.Runs.{IsCoreRun}
use Rattle.core_events.proofs.Agreement.{one-session, opening-of}
use Rattle.core_events.proofs.DeskSteps.{client_entry}
use Rattle.core_serial.specs.Journals.{journal_of}
use Rattle.core_serial.proofs.Entries.{journal_with, journal-step}
use Rattle.core_records.specs.CoreRecords.{RunScripts, record_of}

-- An entry is under a number of the session whose call left it, or it is the flusher's.
abbrev pub IsEntryOf : Opening → ℕ → Option JournalEntry → Type 0
IsEntryOf o client None = Unit {0}
IsEntryOf o client (Some e) =
    (IsSession o client × IsSomeAnd (session_of e) (IsNumberOf client)) ⊎ ((client ≡ flusher o) × (session_of e ≡ None))

pub entry-of : (o : Opening) (b : ℕ) (call : ClientCall) (k : ClientState) → FitsCall o b call k
    → IsEntryOf o b (client_entry b call)
entry-of o b (OnDesk (OpenWrite statement epoch deps)) k f = inl (f.session, inl refl)
entry-of o b (OnDesk (OpenRead number statement epoch)) k f = inl (f.session, f.under)
entry-of o b (OnDesk (Commit statement epoch)) k f = inl (f.session, inl refl)
entry-of o b (OnDesk (AbortEnd statement epoch cause)) k f = inl (f.session, inl refl)
entry-of o b (OnDesk (CloseRead number statement)) k f = inl (f.session, f.under)
entry-of o b (OnDesk (TakeNote (note.Refused session statement code) counters)) k f = inl (f.session, inl f.allowed.0)
entry-of o b (OnDesk (TakeNote (note.Cleared session statement) counters)) k f = inl (f.session, inl f.allowed)
entry-of o b (OnDesk (TakeNote (note.Show session statement) counters)) k f = inl (f.session, inl f.allowed)
entry-of o b (OnDesk (TakeNote (note.Flushed session statement) counters)) k f = inl (f.session, inl f.allowed.0)
entry-of o b (OnDesk (TakeNote (note.Purged session statement epoch) counters)) k f = inl (f.session, inl f.allowed.0)
entry-of o b (OnDesk (CreateCube statement decl (Created epoch place))) k f = inl (f.0.session, inl refl)
entry-of o b (OnDesk (CreateCube statement decl Exists)) k f = inl (f.0.session, inl refl)
entry-of o b (OnDesk (CreateCube statement decl TooMany)) k f = inl (f.0.session, inl refl)
entry-of o b (OnDesk (FindCube statement name (Found place decl))) k f = tt
entry-of o b (OnDesk (FindCube statement name Unknown)) k f = inl (f.0, inl refl)
entry-of o b (OnDesk (CubesFrom place cubes)) k f = tt
entry-of o b (OnDesk (CountersNow counters)) k f = tt
entry-of o b (OnDesk (RoundOpen (Target from epoch))) k f = inr (f.flusher, refl)
entry-of o b (OnDesk (RoundOpen (Nothing epoch))) k f = inr (f.flusher, refl)
entry-of o b (OnDesk (RoundClose epoch Safe)) k f = inr (f.flusher, refl)
entry-of o b (OnDesk (RoundClose epoch (Lost cause))) k f = inr (f.flusher, refl)
entry-of o b (OnDesk (StoreFailed failed)) k f = tt
entry-of o b (OnNames call) k f = tt
entry-of o b (Post mail job) k f = tt
entry-of o b (Fetch mail answer) k f = tt
entry-of o b (CloseMail mail) k f = tt
entry-of o b NoChange k f = tt

-- ---- an entry belongs to the session whose call left it, and to no other

or-true : (b : Bool) → (b || true) ≡ true
or-true true = refl
or-true false = refl

-- What belongs_to asks of the number of an entry.
abbrev number_belongs : ℕ → Option ℕ → Bool
number_belongs a number =
    option_map_or (λ s. s == a) number false
    || (option_map_or (λ s. s == first_holder a) number false || option_map_or (λ s. s == second_holder a) number false)

own-number : (a n : ℕ) → IsNumberOf a n → number_belongs a (Some n) ≡ true
own-number a n (inl is) =
    ap (λ (b : Bool). b || ((n == first_holder a) || (n == second_holder a))) (eq-eqb n a is)
own-number a n (inr (inl is)) =
    ap (λ (b : Bool). (n == a) || (b || (n == second_holder a))) (eq-eqb n (first_holder a) is) ∙ or-true (n == a)
own-number a n (inr (inr is)) =
    ap (λ (b : Bool). (n == a) || ((n == first_holder a) || b)) (eq-eqb n (second_holder a) is)
    ∙ ap (λ (b : Bool). (n == a) || b) (or-true (n == first_holder a))
    ∙ or-true (n == a)

differs : (o : Opening) (a b n m : ℕ) → IsOpening o → IsSession o a → IsSession o b → IsNumberOf b n → IsNumberOf a m
    → (b == a) ≡ false → (n == m) ≡ false
differs o a b n m opening sa sb nb na other =
    ne_eqb n m (λ same.
    let most = opening.sessions in
    let la = sa.last in
    let lb = sb.last in
    let one : b ≡ a =
    one-session b a m sb.first (omega (arith, most, lb)) sa.first (omega (arith, most, la))
    (subst (IsNumberOf b) same nb) na
    in
    false≢true (sym other ∙ eq-eqb b a one))

other-number : (o : Opening) (a b n : ℕ) → IsOpening o → IsSession o a → IsSession o b → IsNumberOf b n
    → (b == a) ≡ false → number_belongs a (Some n) ≡ false
other-number o a b n opening sa sb nb other =
    λ i. differs o a b n a opening sa sb nb (inl refl) other i
    || (differs o a b n (first_holder a) opening sa sb nb (inr (inl refl)) other i
    || differs o a b n (second_holder a) opening sa sb nb (inr (inr refl)) other i)

number-of : (o : Opening) (a b n : ℕ) (t : Bool) → IsOpening o → IsSession o a → IsSession o b → IsNumberOf b n
    → (b == a) ≡ t → number_belongs a (Some n) ≡ t
number-of o a b n true opening sa sb nb is = own-number a n (subst (λ (c : ℕ). IsNumberOf c n) (eqb-true b a is) nb)
number-of o a b n false opening sa sb nb is = other-number o a b n opening sa sb nb is

some-number : (o : Opening) (a b : ℕ) (number : Option ℕ) → IsOpening o → IsSession o a → IsSession o b
    → IsSomeAnd number (IsNumberOf b) → number_belongs a number ≡ (b == a)
some-number o a b None opening sa sb h = absurd h
some-number o a b (Some n) opening sa sb h = number-of o a b n (b == a) opening sa sb h refl

pub belongs : (o : Opening) (a b : ℕ) (e : JournalEntry) → IsOpening o → IsSession o a → IsEntryOf o b (Some e)
    → belongs_to a e ≡ (b == a)
belongs o a b e opening sa (inl own) = some-number o a b (session_of e) opening sa own.0 own.1
belongs o a b e opening sa (inr of_flusher) =
    ap (number_belongs a) of_flusher.1
    ∙ sym (ne_eqb b a (λ same. let is = of_flusher.0 in let last = sa.last in omega (arith, same, is, last)))

-- ---- each entry has an owner

any-enumerated : {X : Type 0} (test : ℕ → Bool) (n b : ℕ) (xs : List X) → n ≤ b → b < n + length xs → test b ≡ true
    → list_any (λ (p : ℕ × X). test p.0) (enumerate_from n xs) ≡ true
any-enumerated test n b [] low high is = absurd (omega (arith, low, high))
any-enumerated {X} test n b (x ∷ xs) low high is =
    elim (eqb_tells n b) [
      | inl same ↦
          ap (λ (t : Bool). t || list_any (λ (p : ℕ × X). test p.0) (enumerate_from (n + 1) xs)) (ap test same.1 ∙ is)
      | inr other ↦
          let above : n + 1 ≤ b = (let no = other.1 in omega (arith, low, no)) in
          ap (λ (t : Bool). test n || t) (any-enumerated test (n + 1) b xs above (omega (arith, high)) is)
          ∙ or-true (test n)
    ]

owned : (o : Opening) (run : RunRecord) (b : ℕ) (e : JournalEntry) → IsOpening o → length run.scripts ≡ o.sessions
    → IsEntryOf o b (Some e) → has_owner run e ≡ true
owned o run b e opening each (inl own) =
    let first = own.0.first in
    let last = own.0.last in
    let mine : belongs_to b e ≡ true = belongs o b b e opening own.0 (inl own) ∙ eq-eqb b b refl in
    ap (λ (t : Bool). is_none (session_of e) || t)
    (any-enumerated (λ (s : ℕ). belongs_to s e) 1 b run.scripts first (omega (arith, last, each)) mine)
    ∙ or-true (is_none (session_of e))
owned o run b e opening each (inr of_flusher) =
    ap (λ (s : Option ℕ). is_none s || list_any (λ p. belongs_to p.0 e) (enumerate_from 1 run.scripts)) of_flusher.1

all-with : (o : Opening) (run : RunRecord) (b : ℕ) (e : Option JournalEntry) (journal : List JournalEntry) → IsOpening o
    → length run.scripts ≡ o.sessions → IsEntryOf o b e → list_all (has_owner run) journal ≡ true
    → list_all (has_owner run) (journal_with e journal) ≡ true
all-with o run b None journal opening each is all = all
all-with o run b (Some e) journal opening each is all =
    list_all-append (has_owner run) journal (e ∷ [])
    ∙ (λ i. all i && (owned o run b e opening each is i && true))

all-owned : (o : Opening) (run : RunRecord) (es : List CoreEvent) → IsCoreRun o es → length run.scripts ≡ o.sessions
    → list_all (has_owner run) (journal_of o es) ≡ true
all-owned o run [] r each = refl
all-owned o run (By b call ∷ es) r each =
    ap (list_all (has_owner run)) (journal-step o b call es)
    ∙ all-with o run b (client_entry b call) (journal_of o es) (opening-of o es r.0) each
    (entry-of o b call (client_state o b es) r.1.fits) (all-owned o run es r.0 each)
all-owned o run (At mail move ∷ es) r each = all-owned o run es r.0 each

pub entries-owned : (o : Opening) (given : RunScripts) (es : List CoreEvent) → IsCoreRun o es
    → length given.scripts ≡ o.sessions → list_all (has_owner (record_of o given es)) (journal_of o es) ≡ true
entries-owned o given es r each = all-owned o (record_of o given es) es r each
