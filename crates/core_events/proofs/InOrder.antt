-- The counters of a run are in order: those of its journal without its notes, which is legal.
use Rattle.std.proofs.Common.{◌≡◌, ◌∙◌, ℕ, ◌<◌, ◌≤◌, ◌==◌, Bool, true, false, true≢false, List, [], ◌∷◌, ◌++◌, length, Option, Some, None, All, IfSome, IsSomeAnd, if◌then◌else◌, inl, refl, sym, ap, subst, arith, eqb-true}
use Rattle.std.proofs.lemmas.Bool.{false≢true, eqb-false}
use Rattle.std.proofs.lemmas.List.Elements.{All-cons, All-nil}
use Rattle.cube_values.specs.declared.snapshot.Snapshot.{Snapshot}
use Rattle.cube_language.specs.CubesText.{cubes_limit}
use Rattle.cube_journal.specs.declared.journal_entry.JournalEntry.{JournalEntry}
use Rattle.cube_journal.specs.declared.journal_entry.JournalEntry.TheVariants as entry
use Rattle.cube_journal.specs.declared.note.Note.TheVariants as note
use Rattle.cube_journal.specs.declared.counters.OpenSnapshot.{OpenSnapshot}
use Rattle.cube_journal.specs.Counters.{JournalState, state_after, journal_state, held_by, lce, target}
use Rattle.cube_journal.specs.Legal.{MayBegin, MayRead, MayMakeCube, HoldsWriter, HoldsReader, MayOpenRound, MayIdle, CountersAllow, CountersAllowAll, has_cube}
use Rattle.cube_journal.specs.Order.{IsInOrder, NeverFalls}
use Rattle.cube_journal.proofs.OpenBounds.{oldest-above, from-lower, from-oldest}
use Rattle.cube_journal.proofs.Orders.{state-with, legal-order, legal-with}
use Rattle.aosi_desk.specs.declared.answer.RoundAnswer.{RoundAnswer}
use Rattle.aosi_desk.specs.declared.answer.RoundAnswer.TheVariants.{Target, Nothing}
use Rattle.aosi_desk.specs.declared.answer.RoundEnd.TheVariants.{Safe, Lost}
use Rattle.aosi_desk.specs.State.{state_of}
use Rattle.aosi_desk.specs.declared.cube.CubeAnswer.{CubeAnswer}
use Rattle.aosi_desk.specs.declared.cube.CubeAnswer.TheVariants.{Created, Exists, TooMany}
use Rattle.aosi_desk.specs.declared.cube.CubeFound.TheVariants.{Found, Unknown}
use Rattle.aosi_desk.specs.Desks.{DeskState, cube_answer, decl_names}
use Rattle.core_events.specs.Events.{Opening, IsSession, OpenWrite, OpenRead, Commit, AbortEnd, CloseRead, TakeNote, CreateCube, FindCube, CubesFrom, CountersNow, RoundOpen, RoundClose, StoreFailed, ClientCall, OnDesk, OnNames, Post, Fetch, CloseMail, NoChange, CoreEvent, By, At}
use Rattle.core_events.specs.Clients.{OwnRound, ClientState, client_state, held_under}
use Rattle.core_events.specs.Cells.{desk_of, counters_of_run}
use Rattle.core_events.specs.Fitting.{FitsCall, IsNumberOf}
use Rattle.core_events.specs.Runs.{IsCoreRun, CallSays}
use Rattle.core_events.proofs.DeskSteps.{client_entry, state_with_entry, run-step}
use Rattle.core_events.proofs.Agreement.{agree, RoundAgrees, round-agrees, round_epoch}

-- An entry that changes no counter.
abbrev pub is_note : JournalEntry → Bool
is_note (entry.Refused session statement code) = true
is_note (entry.Cleared session statement) = true
is_note (entry.Show session statement) = true
is_note (entry.Flushed session statement) = true
is_note (entry.Purged session statement epoch) = true
is_note _ = false

note-keeps : (s : JournalState) (e : JournalEntry) → is_note e ≡ true → state_after s e ≡ s
note-keeps s (entry.Refused session statement code) is = refl
note-keeps s (entry.Cleared session statement) is = refl
note-keeps s (entry.Show session statement) is = refl
note-keeps s (entry.Flushed session statement) is = refl
note-keeps s (entry.Purged session statement epoch) is = refl
note-keeps s _ is = absurd (false≢true is)

-- What the counters ask of an entry.
abbrev pub StateAllows : JournalState → JournalEntry → Type 0
StateAllows s (entry.Begin session statement epoch deps) = MayBegin s session epoch deps
StateAllows s (entry.Read session statement epoch) = MayRead s session epoch
StateAllows s (entry.ReadEnd session statement) = HoldsReader s session
StateAllows s (entry.Committed session statement epoch) = HoldsWriter s session epoch
StateAllows s (entry.Aborted session statement epoch cause) = HoldsWriter s session epoch
StateAllows s (entry.Cube session statement epoch) = MayMakeCube s session epoch
StateAllows s (entry.Round epoch) = MayOpenRound s epoch
StateAllows s (entry.Idle epoch) = MayIdle s epoch
StateAllows s (entry.Safe epoch) = s.round ≡ Some epoch
StateAllows s (entry.RoundLost epoch cause) = s.round ≡ Some epoch
StateAllows s _ = Unit {0}

pub allows : (safe : ℕ) (s : JournalState) (before : List JournalEntry) (e : JournalEntry) → is_note e ≡ false
    → s ≡ journal_state safe before → StateAllows s e → CountersAllow safe before e
allows safe s before (entry.Begin session statement epoch deps) n is h = subst (λ x. MayBegin x session epoch deps) is h
allows safe s before (entry.Read session statement epoch) n is h = subst (λ x. MayRead x session epoch) is h
allows safe s before (entry.ReadEnd session statement) n is h = subst (λ x. HoldsReader x session) is h
allows safe s before (entry.Committed session statement epoch) n is h = subst (λ x. HoldsWriter x session epoch) is h
allows safe s before (entry.Aborted session statement epoch cause) n is h = subst (λ x. HoldsWriter x session epoch) is h
allows safe s before (entry.Cube session statement epoch) n is h = subst (λ x. MayMakeCube x session epoch) is h
allows safe s before (entry.Round epoch) n is h = subst (λ x. MayOpenRound x epoch) is h
allows safe s before (entry.Idle epoch) n is h = subst (λ x. MayIdle x epoch) is h
allows safe s before (entry.Safe epoch) n is h = subst (λ (x : JournalState). x.round ≡ Some epoch) is h
allows safe s before (entry.RoundLost epoch cause) n is h = subst (λ (x : JournalState). x.round ≡ Some epoch) is h
allows safe s before _ n is h = absurd (true≢false n)

-- A journal without notes that has come to these counters.
pub record HasBare (safe : ℕ) (s : JournalState) : Type 0 where
  pub journal : List JournalEntry
  pub state : s ≡ journal_state safe journal
  pub legal : CountersAllowAll safe [] journal

pub order-of : (safe : ℕ) (s : JournalState) → HasBare safe s → IsInOrder s
order-of safe s b = subst IsInOrder (sym b.state) (legal-order safe b.journal b.legal)

bare-entry : (note : Bool) (safe : ℕ) (s : JournalState) (e : JournalEntry) → is_note e ≡ note → StateAllows s e
    → HasBare safe s → HasBare safe (state_after s e)
bare-entry true safe s e is h b = subst (HasBare safe) (sym (note-keeps s e is)) b
bare-entry false safe s e is h b = record {
  journal = b.journal ++ e ∷ [];
  state = ap (λ (x : JournalState). state_after x e) b.state ∙ sym (state-with safe b.journal e);
  legal = legal-with safe b.journal e b.legal (allows safe s b.journal e is b.state h);
}

abbrev pub AllowsEntry : JournalState → Option JournalEntry → Type 0
AllowsEntry s None = Unit {0}
AllowsEntry s (Some e) = StateAllows s e

bare-step : (safe : ℕ) (s : JournalState) (e : Option JournalEntry) → AllowsEntry s e → HasBare safe s
    → HasBare safe (state_with_entry e s)
bare-step safe s None h b = b
bare-step safe s (Some e) h b = bare-entry (is_note e) safe s e refl h b

-- What the desk answers.

abbrev epoch_made : ℕ → CubeAnswer → ℕ
epoch_made ec (Created epoch place) = epoch
epoch_made ec answer = ec

made-with-ec : (has full : Bool) (ec place : ℕ)
    → epoch_made ec (if has then Exists else (if full then TooMany else Created ec place)) ≡ ec
made-with-ec true full ec place = refl
made-with-ec false true ec place = refl
made-with-ec false false ec place = refl

epoch-is-ec : (desk : DeskState) (name : List ℕ) (epoch place : ℕ) → Created epoch place ≡ cube_answer desk name
    → epoch ≡ (state_of desk.register).ec
epoch-is-ec desk name epoch place is =
    let ec = (state_of desk.register).ec in
    ap (epoch_made ec) is
    ∙ made-with-ec (has_cube (decl_names desk.cubes) name) (length desk.cubes == cubes_limit) ec (length desk.cubes)

abbrev AllowsAnswer : JournalState → RoundAnswer → Type 0
AllowsAnswer s (Target from epoch) = MayOpenRound s epoch
AllowsAnswer s (Nothing epoch) = MayIdle s epoch

answer-at : (same : Bool) (s : JournalState) → (target s == s.lse) ≡ same → s.round ≡ None → s.store_failed ≡ false
    → s.lse ≤ target s → AllowsAnswer s (if same then Nothing (target s) else Target s.lse (target s))
answer-at true s is none store low =
    record { ask = record { none_open = none; store = store }; target = refl; no_more = eqb-true (target s) s.lse is }
answer-at false s is none store low =
    let other = eqb-false (target s) s.lse is in
    record {
      ask = record { none_open = none; store = store };
      target = refl;
      more = omega (arith, low, other);
    }

low-target : (s : JournalState) → IsInOrder s → s.lse ≤ target s
low-target s order = oldest-above s.lse (lce s) s.snapshots order.bounds

-- The round that the flusher closes is the desk's.
closes-own : (round : Option OwnRound) (epoch : ℕ) (of_desk : Option ℕ) → of_desk ≡ round_epoch round
    → IsSomeAnd round (λ r. r.epoch ≡ epoch) → of_desk ≡ Some epoch
closes-own None epoch of_desk is h = absurd h
closes-own (Some round) epoch of_desk is h = is ∙ ap Some h

abbrev Tied : Opening → ℕ → ClientCall → JournalState → ClientState → Type 0
Tied o b (OnDesk (RoundOpen answer)) s k = RoundAgrees o s k
Tied o b (OnDesk (RoundClose epoch end)) s k = RoundAgrees o s k
Tied o b call s k = IsSession o b → (m : ℕ) → IsNumberOf b m → held_by s.snapshots m ≡ held_under m k.holds

call-allowed : (o : Opening) (b : ℕ) (call : ClientCall) (k : ClientState) (es : List CoreEvent)
    → FitsCall o b call k → CallSays o es b call → Tied o b call (counters_of_run o es) k → IsInOrder (counters_of_run o es)
    → AllowsEntry (counters_of_run o es) (client_entry b call)
call-allowed o b (OnDesk (OpenWrite statement epoch deps)) k es f says tied order =
    record { next = says.0; pending = says.1; free = tied f.session b (inl refl) ∙ f.free }
call-allowed o b (OnDesk (OpenRead number statement epoch)) k es f says tied order =
    record { latest = says; free = tied f.session number f.under ∙ f.free }
call-allowed o b (OnDesk (Commit statement epoch)) k es f says tied order =
    subst (λ (h : Option Snapshot). IsSomeAnd h (λ s. (s.own ≡ true) × (s.epoch ≡ epoch))) (sym (tied f.session b (inl refl))) f.writer
call-allowed o b (OnDesk (AbortEnd statement epoch cause)) k es f says tied order =
    subst (λ (h : Option Snapshot). IsSomeAnd h (λ s. (s.own ≡ true) × (s.epoch ≡ epoch))) (sym (tied f.session b (inl refl))) f.writer
call-allowed o b (OnDesk (CloseRead number statement)) k es f says tied order =
    subst (λ (h : Option Snapshot). IsSomeAnd h (λ s. s.own ≡ false)) (sym (tied f.session number f.under)) f.reader
call-allowed o b (OnDesk (TakeNote (note.Refused session statement code) counters)) k es f says tied order = tt
call-allowed o b (OnDesk (TakeNote (note.Cleared session statement) counters)) k es f says tied order = tt
call-allowed o b (OnDesk (TakeNote (note.Show session statement) counters)) k es f says tied order = tt
call-allowed o b (OnDesk (TakeNote (note.Flushed session statement) counters)) k es f says tied order = tt
call-allowed o b (OnDesk (TakeNote (note.Purged session statement epoch) counters)) k es f says tied order = tt
call-allowed o b (OnDesk (CreateCube statement decl (Created epoch place))) k es f says tied order =
    record { next = epoch-is-ec (desk_of o es) decl.name epoch place says; free = tied f.0.session b (inl refl) ∙ f.0.free }
call-allowed o b (OnDesk (CreateCube statement decl Exists)) k es f says tied order = tt
call-allowed o b (OnDesk (CreateCube statement decl TooMany)) k es f says tied order = tt
call-allowed o b (OnDesk (FindCube statement name (Found place decl))) k es f says tied order = tt
call-allowed o b (OnDesk (FindCube statement name Unknown)) k es f says tied order = tt
call-allowed o b (OnDesk (CubesFrom place cubes)) k es f says tied order = tt
call-allowed o b (OnDesk (CountersNow counters)) k es f says tied order = tt
call-allowed o b (OnDesk (RoundOpen (Target from epoch))) k es f says tied order =
    let s = counters_of_run o es in
    subst (AllowsAnswer s) (sym says)
    (answer-at (target s == s.lse) s refl (tied.round ∙ ap round_epoch f.none) (tied.store ∙ f.store) (low-target s order))
call-allowed o b (OnDesk (RoundOpen (Nothing epoch))) k es f says tied order =
    let s = counters_of_run o es in
    subst (AllowsAnswer s) (sym says)
    (answer-at (target s == s.lse) s refl (tied.round ∙ ap round_epoch f.none) (tied.store ∙ f.store) (low-target s order))
call-allowed o b (OnDesk (RoundClose epoch Safe)) k es f says tied order =
    closes-own k.round epoch (counters_of_run o es).round tied.round f.round
call-allowed o b (OnDesk (RoundClose epoch (Lost cause))) k es f says tied order =
    closes-own k.round epoch (counters_of_run o es).round tied.round f.round
call-allowed o b (OnDesk (StoreFailed failed)) k es f says tied order = tt
call-allowed o b (OnNames call) k es f says tied order = tt
call-allowed o b (Post mail job) k es f says tied order = tt
call-allowed o b (Fetch mail answer) k es f says tied order = tt
call-allowed o b (CloseMail mail) k es f says tied order = tt
call-allowed o b NoChange k es f says tied order = tt

tie : (o : Opening) (b : ℕ) (call : ClientCall) (es : List CoreEvent) → IsCoreRun o es
    → FitsCall o b call (client_state o b es) → Tied o b call (counters_of_run o es) (client_state o b es)
tie o b (OnDesk (RoundOpen answer)) es run f =
    coe 1 0 (i. RoundAgrees o (counters_of_run o es) (client_state o (f.flusher i) es)) (round-agrees o es run)
tie o b (OnDesk (RoundClose epoch end)) es run f =
    coe 1 0 (i. RoundAgrees o (counters_of_run o es) (client_state o (f.flusher i) es)) (round-agrees o es run)
tie o b call es run f = agree o es run b

pub bare : (o : Opening) (es : List CoreEvent) → IsCoreRun o es → HasBare o.safe (counters_of_run o es)
bare o [] run = record { journal = []; state = refl; legal = tt }
bare o (By b call ∷ es) run =
    let before = bare o es run.0 in
    let s = counters_of_run o es in
    subst (HasBare o.safe) (sym (run-step o b call es))
    (bare-step o.safe s (client_entry b call)
    (call-allowed o b call (client_state o b es) es run.1.fits run.1.says (tie o b call es run.0 run.1.fits) (order-of o.safe s before))
    before)
bare o (At mail move ∷ es) run = bare o es run.0

pub run-order : (o : Opening) (es : List CoreEvent) → IsCoreRun o es → IsInOrder (counters_of_run o es)
run-order o es run = order-of o.safe (counters_of_run o es) (bare o es run)

-- What the counters ask of the entry of a call.
pub run-allowed : (o : Opening) (b : ℕ) (call : ClientCall) (es : List CoreEvent) → IsCoreRun o (By b call ∷ es)
    → AllowsEntry (counters_of_run o es) (client_entry b call)
run-allowed o b call es run =
    call-allowed o b call (client_state o b es) es run.1.fits run.1.says (tie o b call es run.0 run.1.fits) (run-order o es run.0)

-- Every bound is at least an epoch from which none falls.
all-above : (low high : ℕ) (xs : List OpenSnapshot) → NeverFalls low xs high → All (λ (o : OpenSnapshot). low ≤ o.bound) xs
all-above low high [] n = All-nil (λ (o : OpenSnapshot). low ≤ o.bound)
all-above low high (o ∷ xs) n =
    All-cons (λ (o : OpenSnapshot). low ≤ o.bound) o xs n.0 (all-above low high xs (from-lower o.bound low high xs n.0 n.1))

pub lse-below-bounds : (o : Opening) (es : List CoreEvent) → IsCoreRun o es
    → All (λ (s : OpenSnapshot). (counters_of_run o es).lse ≤ s.bound) (counters_of_run o es).snapshots
lse-below-bounds o es run =
    let s = counters_of_run o es in all-above s.lse (lce s) s.snapshots (run-order o es run).bounds

round-below : (round : Option ℕ) (s : JournalState) → NeverFalls s.lse s.snapshots (lce s)
    → IfSome round (λ epoch. (s.lse < epoch) × (epoch ≤ target s))
    → IfSome round (λ epoch. All (λ (o : OpenSnapshot). epoch ≤ o.bound) s.snapshots)
round-below None s bounds h = tt
round-below (Some epoch) s bounds h =
    all-above epoch (lce s) s.snapshots (from-oldest s.lse (lce s) epoch s.snapshots h.1 bounds)

pub round-below-bounds : (o : Opening) (es : List CoreEvent) → IsCoreRun o es
    → IfSome (counters_of_run o es).round
    (λ epoch. All (λ (s : OpenSnapshot). epoch ≤ s.bound) (counters_of_run o es).snapshots)
round-below-bounds o es run =
    let order = run-order o es run in
    round-below (counters_of_run o es).round (counters_of_run o es) order.bounds order.round
