-- What sessions hold by their own calls is what the desk has open, and so is the flusher's round.
use Rattle.std.proofs.Common.{◌≡◌, ◌∙◌, ℕ, ◌≤◌, ◌==◌, Bool, true, false, List, [], ◌∷◌, Option, Some, None, inl, inr, refl, sym, ap, arith, eqb-true, ne_eqb, eq-eqb}
use Rattle.std.proofs.lemmas.Bool.{false≢true}
use Rattle.cube_values.specs.declared.snapshot.Snapshot.{Snapshot}
use Rattle.cube_journal.specs.declared.journal_entry.LostCause.TheVariants.{Disk, Memory}
use Rattle.cube_journal.specs.declared.note.Note.TheVariants as note
use Rattle.cube_journal.specs.Counters.{JournalState, held_by}
use Rattle.aosi_desk.specs.declared.answer.RoundAnswer.TheVariants.{Target, Nothing}
use Rattle.aosi_desk.specs.declared.answer.RoundEnd.TheVariants.{Safe, Lost}
use Rattle.aosi_desk.specs.declared.cube.CubeAnswer.TheVariants.{Created, Exists, TooMany}
use Rattle.aosi_desk.specs.declared.cube.CubeFound.TheVariants.{Found, Unknown}
use Rattle.core_events.specs.Events.{Opening, IsOpening, IsSession, flusher, OpenWrite, OpenRead, Commit, AbortEnd, CloseRead, TakeNote, CreateCube, FindCube, CubesFrom, CountersNow, RoundOpen, RoundClose, StoreFailed, ClientCall, OnDesk, OnNames, Post, Fetch, CloseMail, NoChange, CoreEvent, By, At}
use Rattle.core_events.specs.Clients.{OwnRound, ClientState, client_state, client_after_call, held_under, round_with_cubes}
use Rattle.core_events.specs.Cells.{counters_of_run}
use Rattle.core_events.specs.Fitting.{FitsCall, IsNumberOf}
use Rattle.core_events.specs.Runs.{IsCoreRun}
use Rattle.core_events.proofs.Lookups.{with_one, without_one}
use Rattle.core_events.proofs.DeskSteps.{client_entry, state_with_entry, run-step, HoldChange, Opens, Ends, Keeps, change_by, held_after, desk-held, client-held}

-- The limits of the opening hold all along.
pub opening-of : (o : Opening) (es : List CoreEvent) → IsCoreRun o es → IsOpening o
opening-of o [] run = run
opening-of o (By a call ∷ es) run = opening-of o es run.0
opening-of o (At mail move ∷ es) run = opening-of o es run.0

-- A change is under a number of the session.
abbrev NumberFits : Opening → ℕ → HoldChange → Type 0
NumberFits o a (Opens number snapshot) = IsSession o a × IsNumberOf a number
NumberFits o a (Ends number) = IsSession o a × IsNumberOf a number
NumberFits o a Keeps = Unit {0}

number-fits : (o : Opening) (a : ℕ) (call : ClientCall) (k : ClientState) → FitsCall o a call k
    → NumberFits o a (change_by (client_entry a call))
number-fits o a (OnDesk (OpenWrite statement epoch deps)) k f = (f.session, inl refl)
number-fits o a (OnDesk (OpenRead number statement epoch)) k f = (f.session, f.under)
number-fits o a (OnDesk (Commit statement epoch)) k f = (f.session, inl refl)
number-fits o a (OnDesk (AbortEnd statement epoch cause)) k f = (f.session, inl refl)
number-fits o a (OnDesk (CloseRead number statement)) k f = (f.session, f.under)
number-fits o a (OnDesk (TakeNote (note.Refused session statement code) counters)) k f = tt
number-fits o a (OnDesk (TakeNote (note.Cleared session statement) counters)) k f = tt
number-fits o a (OnDesk (TakeNote (note.Show session statement) counters)) k f = tt
number-fits o a (OnDesk (TakeNote (note.Flushed session statement) counters)) k f = tt
number-fits o a (OnDesk (TakeNote (note.Purged session statement epoch) counters)) k f = tt
number-fits o a (OnDesk (CreateCube statement decl (Created epoch place))) k f = tt
number-fits o a (OnDesk (CreateCube statement decl Exists)) k f = tt
number-fits o a (OnDesk (CreateCube statement decl TooMany)) k f = tt
number-fits o a (OnDesk (FindCube statement name (Found place decl))) k f = tt
number-fits o a (OnDesk (FindCube statement name Unknown)) k f = tt
number-fits o a (OnDesk (CubesFrom place cubes)) k f = tt
number-fits o a (OnDesk (CountersNow counters)) k f = tt
number-fits o a (OnDesk (RoundOpen (Target from epoch))) k f = tt
number-fits o a (OnDesk (RoundOpen (Nothing epoch))) k f = tt
number-fits o a (OnDesk (RoundClose epoch Safe)) k f = tt
number-fits o a (OnDesk (RoundClose epoch (Lost cause))) k f = tt
number-fits o a (OnDesk (StoreFailed failed)) k f = tt
number-fits o a (OnNames call) k f = tt
number-fits o a (Post mail job) k f = tt
number-fits o a (Fetch mail answer) k f = tt
number-fits o a (CloseMail mail) k f = tt
number-fits o a NoChange k f = tt

-- A number of at most 16 with none, 16 or 32 more tells the session.
pub one-session : (a b m : ℕ) → 1 ≤ a → a ≤ 16 → 1 ≤ b → b ≤ 16 → IsNumberOf a m → IsNumberOf b m → a ≡ b
one-session a b m low high low2 high2 (inl p) (inl q) = omega arith
one-session a b m low high low2 high2 (inl p) (inr (inl q)) = omega arith
one-session a b m low high low2 high2 (inl p) (inr (inr q)) = omega arith
one-session a b m low high low2 high2 (inr (inl p)) (inl q) = omega arith
one-session a b m low high low2 high2 (inr (inl p)) (inr (inl q)) = omega arith
one-session a b m low high low2 high2 (inr (inl p)) (inr (inr q)) = omega arith
one-session a b m low high low2 high2 (inr (inr p)) (inl q) = omega arith
one-session a b m low high low2 high2 (inr (inr p)) (inr (inl q)) = omega arith
one-session a b m low high low2 high2 (inr (inr p)) (inr (inr q)) = omega arith

numbers-differ : (o : Opening) (a b m n : ℕ) → IsOpening o → IsSession o a → IsSession o b → (b == a) ≡ false
    → IsNumberOf a m → IsNumberOf b n → (n == m) ≡ false
numbers-differ o a b m n opening sa sb other na nb =
    ne_eqb n m
    (λ same. let most = opening.sessions in
    let highest = sa.last in
    let higher = sb.last in
    let one : b ≡ a =
    one-session b a m sb.first (omega (arith, most, higher)) sa.first (omega (arith, most, highest))
    (coe 0 1 (i. IsNumberOf b (same i)) nb) na
    in
    false≢true (sym other ∙ eq-eqb b a one))

not-opened : {V : Type 0} (o : Option V) (v : V) → with_one o false v ≡ o
not-opened None v = refl
not-opened (Some x) v = refl

-- Another session's change is not seen under a number.
other-change : (o : Opening) (a b m : ℕ) (change : HoldChange) (held : Option Snapshot) → IsOpening o → IsSession o a
    → IsNumberOf a m → NumberFits o b change → (b == a) ≡ false → held_after change m held ≡ held
other-change o a b m (Opens number snapshot) held opening sa na fits other =
    ap (λ (x : Bool). with_one held x snapshot) (numbers-differ o a b m number opening sa fits.0 other na fits.1)
    ∙ not-opened held snapshot
other-change o a b m (Ends number) held opening sa na fits other =
    ap (λ (x : Bool). without_one x held) (numbers-differ o a b m number opening sa fits.0 other na fits.1)
other-change o a b m Keeps held opening sa na fits other = refl

abbrev pub Agrees : Opening → List CoreEvent → Type 0
Agrees o es = (a : ℕ) → IsSession o a → (m : ℕ) → IsNumberOf a m
    → held_by (counters_of_run o es).snapshots m ≡ held_under m (client_state o a es).holds

agree-step : (o : Opening) (own : Bool) (a b : ℕ) (call : ClientCall) (k : ClientState) (s : JournalState) (m : ℕ)
    → (b == a) ≡ own → IsOpening o → IsSession o a → IsNumberOf a m
    → NumberFits o b (change_by (client_entry b call)) → held_by s.snapshots m ≡ held_under m k.holds
    → held_by (state_with_entry (client_entry b call) s).snapshots m ≡ held_under m (client_after_call o own a call k).holds
agree-step o true a b call k s m own opening sa na fits before =
    let same : b ≡ a = eqb-true b a own in
    desk-held s (client_entry b call) m
    ∙ ap (held_after (change_by (client_entry b call)) m) before
    ∙ ap (λ (c : ℕ). held_after (change_by (client_entry c call)) m (held_under m k.holds)) same
    ∙ sym (client-held a call k.holds m)
agree-step o false a b call k s m own opening sa na fits before =
    desk-held s (client_entry b call) m
    ∙ other-change o a b m (change_by (client_entry b call)) (held_by s.snapshots m) opening sa na fits own
    ∙ before

pub agree : (o : Opening) (es : List CoreEvent) → IsCoreRun o es → Agrees o es
agree o [] run a sa m na = refl
agree o (By b call ∷ es) run a sa m na =
    ap (λ (s : JournalState). held_by s.snapshots m) (run-step o b call es)
    ∙ agree-step o (b == a) a b call (client_state o a es) (counters_of_run o es) m refl (opening-of o es run.0) sa na
    (number-fits o b call (client_state o b es) run.1.fits) (agree o es run.0 a sa m na)
agree o (At mail move ∷ es) run a sa m na = agree o es run.0 a sa m na

-- The flusher's round is the desk's.
abbrev pub round_epoch : Option OwnRound → Option ℕ
round_epoch None = None
round_epoch (Some round) = Some round.epoch

cubes-keep : (round : Option OwnRound) → round_epoch (round_with_cubes round) ≡ round_epoch round
cubes-keep None = refl
cubes-keep (Some round) = refl

pub record RoundAgrees (o : Opening) (s : JournalState) (k : ClientState) : Type 0 where
  pub round : s.round ≡ round_epoch k.round
  pub store : s.store_failed ≡ k.store_lost

-- Only the flusher opens and closes rounds.
abbrev RoundFits : Opening → ℕ → ClientCall → Type 0
RoundFits o b (OnDesk (RoundOpen answer)) = b ≡ flusher o
RoundFits o b (OnDesk (RoundClose epoch end)) = b ≡ flusher o
RoundFits o b call = Unit {0}

round-fits : (o : Opening) (b : ℕ) (call : ClientCall) (k : ClientState) → FitsCall o b call k → RoundFits o b call
round-fits o b (OnDesk (RoundOpen answer)) k f = f.flusher
round-fits o b (OnDesk (RoundClose epoch end)) k f = f.flusher
round-fits o b call k f = tt

-- An answer to the flusher's wish for a round finds none open.
abbrev RoundFree : ClientCall → ClientState → Type 0
RoundFree (OnDesk (RoundOpen answer)) k = k.round ≡ None
RoundFree call k = Unit {0}

round-free : (o : Opening) (b : ℕ) (call : ClientCall) (k : ClientState) → FitsCall o b call k → RoundFree call k
round-free o b (OnDesk (RoundOpen answer)) k f = f.none
round-free o b call k f = tt

-- By the flusher itself, and by others.
round-own : (o : Opening) (b : ℕ) (call : ClientCall) (k : ClientState) (s : JournalState) → RoundFree call k
    → RoundAgrees o s k
    → RoundAgrees o (state_with_entry (client_entry b call) s) (client_after_call o true b call k)
round-own o b (OnDesk (OpenWrite statement epoch deps)) k s free g = record { round = g.round; store = g.store }
round-own o b (OnDesk (OpenRead number statement epoch)) k s free g = record { round = g.round; store = g.store }
round-own o b (OnDesk (Commit statement epoch)) k s free g = record { round = g.round; store = g.store }
round-own o b (OnDesk (AbortEnd statement epoch cause)) k s free g = record { round = g.round; store = g.store }
round-own o b (OnDesk (CloseRead number statement)) k s free g = record { round = g.round; store = g.store }
round-own o b (OnDesk (TakeNote (note.Refused session statement code) counters)) k s free g = record { round = g.round; store = g.store }
round-own o b (OnDesk (TakeNote (note.Cleared session statement) counters)) k s free g = record { round = g.round; store = g.store }
round-own o b (OnDesk (TakeNote (note.Show session statement) counters)) k s free g = record { round = g.round; store = g.store }
round-own o b (OnDesk (TakeNote (note.Flushed session statement) counters)) k s free g = record { round = g.round; store = g.store }
round-own o b (OnDesk (TakeNote (note.Purged session statement epoch) counters)) k s free g = record { round = g.round; store = g.store }
round-own o b (OnDesk (CreateCube statement decl (Created epoch place))) k s free g = record { round = g.round; store = g.store }
round-own o b (OnDesk (CreateCube statement decl Exists)) k s free g = record { round = g.round; store = g.store }
round-own o b (OnDesk (CreateCube statement decl TooMany)) k s free g = record { round = g.round; store = g.store }
round-own o b (OnDesk (FindCube statement name (Found place decl))) k s free g = record { round = g.round; store = g.store }
round-own o b (OnDesk (FindCube statement name Unknown)) k s free g = record { round = g.round; store = g.store }
round-own o b (OnDesk (CubesFrom place cubes)) k s free g = record { round = g.round ∙ sym (cubes-keep k.round); store = g.store }
round-own o b (OnDesk (CountersNow counters)) k s free g = record { round = g.round; store = g.store }
round-own o b (OnDesk (RoundOpen (Target from epoch))) k s free g = record { round = refl; store = g.store }
round-own o b (OnDesk (RoundOpen (Nothing epoch))) k s free g = record { round = g.round ∙ ap round_epoch free; store = g.store }
round-own o b (OnDesk (RoundClose epoch Safe)) k s free g = record { round = refl; store = g.store }
round-own o b (OnDesk (RoundClose epoch (Lost Disk))) k s free g = record { round = refl; store = refl }
round-own o b (OnDesk (RoundClose epoch (Lost Memory))) k s free g = record { round = refl; store = g.store }
round-own o b (OnDesk (StoreFailed failed)) k s free g = record { round = g.round; store = g.store }
round-own o b (OnNames call) k s free g = record { round = g.round; store = g.store }
round-own o b (Post mail job) k s free g = record { round = g.round; store = g.store }
round-own o b (Fetch mail answer) k s free g = record { round = g.round; store = g.store }
round-own o b (CloseMail mail) k s free g = record { round = g.round; store = g.store }
round-own o b NoChange k s free g = record { round = g.round; store = g.store }

-- A call that is not about rounds leaves the desk's round.
record RoundStays (s t : JournalState) : Type 0 where
  round : t.round ≡ s.round
  store : t.store_failed ≡ s.store_failed

round-other : (o : Opening) (b : ℕ) (call : ClientCall) (s : JournalState) → RoundFits o b call
    → (b == flusher o) ≡ false → RoundStays s (state_with_entry (client_entry b call) s)
round-other o b (OnDesk (OpenWrite statement epoch deps)) s f other = record { round = refl; store = refl }
round-other o b (OnDesk (OpenRead number statement epoch)) s f other = record { round = refl; store = refl }
round-other o b (OnDesk (Commit statement epoch)) s f other = record { round = refl; store = refl }
round-other o b (OnDesk (AbortEnd statement epoch cause)) s f other = record { round = refl; store = refl }
round-other o b (OnDesk (CloseRead number statement)) s f other = record { round = refl; store = refl }
round-other o b (OnDesk (TakeNote (note.Refused session statement code) counters)) s f other = record { round = refl; store = refl }
round-other o b (OnDesk (TakeNote (note.Cleared session statement) counters)) s f other = record { round = refl; store = refl }
round-other o b (OnDesk (TakeNote (note.Show session statement) counters)) s f other = record { round = refl; store = refl }
round-other o b (OnDesk (TakeNote (note.Flushed session statement) counters)) s f other = record { round = refl; store = refl }
round-other o b (OnDesk (TakeNote (note.Purged session statement epoch) counters)) s f other = record { round = refl; store = refl }
round-other o b (OnDesk (CreateCube statement decl (Created epoch place))) s f other = record { round = refl; store = refl }
round-other o b (OnDesk (CreateCube statement decl Exists)) s f other = record { round = refl; store = refl }
round-other o b (OnDesk (CreateCube statement decl TooMany)) s f other = record { round = refl; store = refl }
round-other o b (OnDesk (FindCube statement name (Found place decl))) s f other = record { round = refl; store = refl }
round-other o b (OnDesk (FindCube statement name Unknown)) s f other = record { round = refl; store = refl }
round-other o b (OnDesk (CubesFrom place cubes)) s f other = record { round = refl; store = refl }
round-other o b (OnDesk (CountersNow counters)) s f other = record { round = refl; store = refl }
round-other o b (OnDesk (RoundOpen answer)) s f other = absurd (false≢true (sym other ∙ eq-eqb b (flusher o) f))
round-other o b (OnDesk (RoundClose epoch end)) s f other = absurd (false≢true (sym other ∙ eq-eqb b (flusher o) f))
round-other o b (OnDesk (StoreFailed failed)) s f other = record { round = refl; store = refl }
round-other o b (OnNames call) s f other = record { round = refl; store = refl }
round-other o b (Post mail job) s f other = record { round = refl; store = refl }
round-other o b (Fetch mail answer) s f other = record { round = refl; store = refl }
round-other o b (CloseMail mail) s f other = record { round = refl; store = refl }
round-other o b NoChange s f other = record { round = refl; store = refl }

round-step : (o : Opening) (own : Bool) (a b : ℕ) (call : ClientCall) (k : ClientState) (s : JournalState)
    → (b == a) ≡ own → a ≡ flusher o → RoundFits o b call → (own ≡ true → RoundFree call k) → RoundAgrees o s k
    → RoundAgrees o (state_with_entry (client_entry b call) s) (client_after_call o own a call k)
round-step o true a b call k s own is fits free g =
    let same : b ≡ a = eqb-true b a own in
    coe 0 1 (i. RoundAgrees o (state_with_entry (client_entry b call) s) (client_after_call o true (same i) call k))
    (round-own o b call k s (free refl) g)
round-step o false a b call k s own is fits free g =
    let stays = round-other o b call s fits (ap (λ (x : ℕ). b == x) (sym is) ∙ own) in
    record { round = stays.round ∙ g.round; store = stays.store ∙ g.store }

pub round-agrees : (o : Opening) (es : List CoreEvent) → IsCoreRun o es
    → RoundAgrees o (counters_of_run o es) (client_state o (flusher o) es)
round-agrees o [] run = record { round = refl; store = refl }
round-agrees o (By b call ∷ es) run =
    let a = flusher o in
    coe 1 0 (i. RoundAgrees o (run-step o b call es i) (client_after_call o (b == a) a call (client_state o a es)))
    (round-step o (b == a) a b call (client_state o a es) (counters_of_run o es) refl refl
    (round-fits o b call (client_state o b es) run.1.fits)
    (λ own. let same = eqb-true b a own in
    coe 0 1 (i. RoundFree call (client_state o (same i) es)) (round-free o b call (client_state o b es) run.1.fits))
    (round-agrees o es run.0))
round-agrees o (At mail move ∷ es) run = let g = round-agrees o es run.0 in record { round = g.round; store = g.store }
