-- The writer that a client holds was opened by a call of its own.
use Rattle.std.proofs.Common.{◌≡◌, ◌⊎◌, ℕ, ◌==◌, Bool, true, false, List, [], ◌∷◌, Option, Some, None, IsSomeAnd, inl, inr, eq-eqb, if◌then◌else◌}
use Rattle.std.proofs.lemmas.Bool.{false≢true}
use Rattle.cube_values.specs.declared.snapshot.Snapshot.{Snapshot}
use Rattle.core_events.proofs.Lookups.{with_one, without_one, held-under-append, held-under-without}
use Rattle.core_events.specs.Clients.{ClientState, Holding, calls_of, client_after_call, client_state, held_under, holds_after, reader_up_to, writer_at}
use Rattle.core_events.specs.Events.{Opening, OpenWrite, OpenRead, Commit, AbortEnd, CloseRead, TakeNote, CreateCube, FindCube, CubesFrom, CountersNow, RoundOpen, RoundClose, StoreFailed, ClientCall, OnDesk, OnNames, Post, Fetch, CloseMail, NoChange, CoreEvent, By, At}
use Rattle.core_events.specs.Fitting.{OwnsWriter}
use Rattle.core_serial.proofs.Fates.{or-left, or-right}
use Rattle.core_serial.specs.PostedEntries.{has_opened, opens_writer}

-- A writer that is held after a call was held before, or the call opened it.

abbrev IsWriterAt : ℕ → Option Snapshot → Type 0
IsWriterAt e h = IsSomeAnd h (λ x. (x.own ≡ true) × (x.epoch ≡ e))

opens-cases : (here : Bool) (h : Option Snapshot) (v : Snapshot) (e : ℕ) → IsWriterAt e (with_one h here v)
    → IsWriterAt e h ⊎ ((v.own ≡ true) × (v.epoch ≡ e))
opens-cases here (Some x) v e owns = inl owns
opens-cases true None v e owns = inr owns
opens-cases false None v e owns = absurd owns

ends-cases : (here : Bool) (h : Option Snapshot) (e : ℕ) → IsWriterAt e (without_one here h) → IsWriterAt e h
ends-cases true h e owns = absurd owns
ends-cases false h e owns = owns

owns-or-opens : (a e : ℕ) (call : ClientCall) (holds : List Holding) → IsWriterAt e (held_under a (holds_after a call holds))
    → IsWriterAt e (held_under a holds) ⊎ (opens_writer e call ≡ true)
owns-or-opens a e (OnDesk (OpenWrite statement epoch deps)) holds owns =
    elim (opens-cases (a == a) (held_under a holds) (writer_at epoch deps) e
    (coe 0 1 (i. IsWriterAt e (held-under-append holds (record { number = a; snapshot = writer_at epoch deps }) a i)) owns)) [
      | inl old ↦ inl old
      | inr new ↦ inr (eq-eqb epoch e new.1)
    ]
owns-or-opens a e (OnDesk (OpenRead number statement epoch)) holds owns =
    elim (opens-cases (number == a) (held_under a holds) (reader_up_to epoch) e
    (coe 0 1 (i. IsWriterAt e (held-under-append holds (record { number = number; snapshot = reader_up_to epoch }) a i)) owns)) [
      | inl old ↦ inl old
      | inr new ↦ absurd (false≢true new.0)
    ]
owns-or-opens a e (OnDesk (Commit statement epoch)) holds owns =
    inl (ends-cases (a == a) (held_under a holds) e (coe 0 1 (i. IsWriterAt e (held-under-without holds a a i)) owns))
owns-or-opens a e (OnDesk (AbortEnd statement epoch cause)) holds owns =
    inl (ends-cases (a == a) (held_under a holds) e (coe 0 1 (i. IsWriterAt e (held-under-without holds a a i)) owns))
owns-or-opens a e (OnDesk (CloseRead number statement)) holds owns =
    inl (ends-cases (number == a) (held_under a holds) e (coe 0 1 (i. IsWriterAt e (held-under-without holds number a i)) owns))
owns-or-opens a e (OnDesk (TakeNote note counters)) holds owns = inl owns
owns-or-opens a e (OnDesk (CreateCube statement decl answer)) holds owns = inl owns
owns-or-opens a e (OnDesk (FindCube statement name answer)) holds owns = inl owns
owns-or-opens a e (OnDesk (CubesFrom place cubes)) holds owns = inl owns
owns-or-opens a e (OnDesk (CountersNow counters)) holds owns = inl owns
owns-or-opens a e (OnDesk (RoundOpen answer)) holds owns = inl owns
owns-or-opens a e (OnDesk (RoundClose epoch end)) holds owns = inl owns
owns-or-opens a e (OnDesk (StoreFailed failed)) holds owns = inl owns
owns-or-opens a e (OnNames call) holds owns = inl owns
owns-or-opens a e (Post mail job) holds owns = inl owns
owns-or-opens a e (Fetch mail answer) holds owns = inl owns
owns-or-opens a e (CloseMail mail) holds owns = inl owns
owns-or-opens a e NoChange holds owns = inl owns

-- Who opened an epoch.

abbrev OpenedBy : ℕ → ℕ → List CoreEvent → Type 0
OpenedBy a e es = has_opened e (calls_of a es) ≡ true

opened-now : (own : Bool) (a e : ℕ) (call : ClientCall) (k : ClientState) (o : Opening) (calls : List ClientCall)
    → OwnsWriter a e (client_after_call o own a call k) → (OwnsWriter a e k → has_opened e calls ≡ true)
    → has_opened e (if own then call ∷ calls else calls) ≡ true
opened-now true a e call k o calls owns before = elim (owns-or-opens a e call k.holds owns) [
  | inl old ↦ or-right (opens_writer e call) (has_opened e calls) (before old)
  | inr new ↦ or-left (opens_writer e call) (has_opened e calls) new
]
opened-now false a e call k o calls owns before = before owns

pub owner-opened : (o : Opening) (es : List CoreEvent) (a e : ℕ) → OwnsWriter a e (client_state o a es) → OpenedBy a e es
owner-opened o [] a e owns = absurd owns
owner-opened o (By b call ∷ es) a e owns =
    opened-now (b == a) a e call (client_state o a es) o (calls_of a es) owns (owner-opened o es a e)
owner-opened o (At mail move ∷ es) a e owns = owner-opened o es a e owns
