-- The readers of a delta are held under the holder numbers of its session.
use Rattle.std.proofs.Common.{◌≡◌, ◌∙◌, ℕ, ◌==◌, Bool, true, false, true≢false, not, cond, List, [], ◌∷◌, ◌++◌, map, filter, Option, Some, None, inl, refl, sym, ap, subst, eq-eqb, ne_eqb, if◌then◌else◌}
use Rattle.std.specs.List.{AllByRecursion}
use Rattle.std.proofs.lemmas.Bool.{false≢true, eqb-false}
use Rattle.std.proofs.lemmas.Option.{none-some}
use Rattle.cube_values.specs.declared.query.BoundQuery.{BoundQuery}
use Rattle.cube_values.specs.declared.snapshot.Snapshot.{Snapshot}
use Rattle.core_events.specs.Jobs.{CoreJob, Append, DropBox, Scan, Delta, Rollback, Purge, CopyRound, Flush}
use Rattle.core_events.specs.Events.{Opening, IsSession, DeskEvent, OpenWrite, OpenRead, Commit, AbortEnd, CloseRead, TakeNote, CreateCube, FindCube, CubesFrom, CountersNow, RoundOpen, RoundClose, StoreFailed, ClientCall, OnDesk, OnNames, Post, Fetch, CloseMail, NoChange, CoreEvent, By, At}
use Rattle.core_events.specs.Groups.{GroupKind, Compares, kind_of, no_group, has_ended}
use Rattle.core_events.specs.Clients.{Holding, ClientState, client_state, client_after_call, held_under, holds_without, holds_after, writer_at, reader_up_to, ends_group}
use Rattle.core_events.specs.Fitting.{FitsCall, IsNumberOf, holder_epochs}
use Rattle.core_events.specs.Runs.{IsCoreRun}
use Rattle.core_events.proofs.Lookups.{without_one, held-under-without}
use Rattle.core_serial.proofs.Asking.{AsksBy, own-fits}
use Rattle.core_serial.proofs.Isolation.{holds-stay}

-- What a session holds: under other numbers than its own it holds readers, and each number once.
pub record HoldingFits (a : ℕ) (h : Holding) (others : List Holding) : Type 0 where
  pub under : IsNumberOf a h.number
  pub reads : (h.number == a) ≡ false → h.snapshot ≡ reader_up_to h.snapshot.epoch
  pub once : held_under h.number others ≡ None

abbrev HoldsFit : ℕ → List Holding → Type 0
HoldsFit a [] = Unit {0}
HoldsFit a (h ∷ others) = HoldingFits a h others × HoldsFit a others

-- A number that is free is none of those that hold.
free-apart : (here : Bool) (s : Snapshot) (rest : Option Snapshot) → (if here then Some s else rest) ≡ None → here ≡ false
free-apart true s rest e = absurd (none-some s (sym e))
free-apart false s rest e = refl

free-rest : (here : Bool) (s : Snapshot) (rest : Option Snapshot) → (if here then Some s else rest) ≡ None → rest ≡ None
free-rest true s rest e = absurd (none-some s (sym e))
free-rest false s rest e = e

still-free : (number : ℕ) (new : Holding) (holds : List Holding) → held_under number holds ≡ None → (new.number == number) ≡ false
    → held_under number (holds ++ new ∷ []) ≡ None
still-free number new [] free other = λ i. if other i then Some new.snapshot else None
still-free number new (h ∷ holds) free other =
    (λ i. if free-apart (h.number == number) h.snapshot (held_under number holds) free i then Some h.snapshot else held_under number (holds ++ new ∷ []))
    ∙ still-free number new holds (free-rest (h.number == number) h.snapshot (held_under number holds) free) other

other-way : (n m : ℕ) → (n == m) ≡ false → (m == n) ≡ false
other-way n m e = ne_eqb m n (λ same. eqb-false n m e (sym same))

holds-more : (a : ℕ) (new : Holding) (holds : List Holding) → IsNumberOf a new.number
    → ((new.number == a) ≡ false → new.snapshot ≡ reader_up_to new.snapshot.epoch) → held_under new.number holds ≡ None
    → HoldsFit a holds → HoldsFit a (holds ++ new ∷ [])
holds-more a new [] under reads free f = (record { under = under; reads = reads; once = refl }, tt)
holds-more a new (h ∷ holds) under reads free f = (
  record {
    under = f.0.under;
    reads = f.0.reads;
    once = still-free h.number new holds f.0.once
        (other-way h.number new.number (free-apart (h.number == new.number) h.snapshot (held_under new.number holds) free));
  },
  holds-more a new holds under reads (free-rest (h.number == new.number) h.snapshot (held_under new.number holds) free) f.1,
)

none-without : (out : Bool) (held : Option Snapshot) → held ≡ None → without_one out held ≡ None
none-without true held e = refl
none-without false held e = e

holds-less : (a number : ℕ) (holds : List Holding) → HoldsFit a holds → HoldsFit a (holds_without number holds)
holds-less a number [] f = tt
holds-less a number (h ∷ holds) f = at (not (h.number == number)) (holds-less a number holds f.1)
  where
    at : (b : Bool) → HoldsFit a (holds_without number holds)
        → HoldsFit a (cond b (h ∷ holds_without number holds) (holds_without number holds))
    at true rest = (
      record {
        under = f.0.under;
        reads = f.0.reads;
        once = held-under-without holds number h.number ∙ none-without (number == h.number) (held_under h.number holds) f.0.once;
      },
      rest,
    )
    at false rest = rest

call-holds : (o : Opening) (a : ℕ) (call : ClientCall) (k : ClientState) → FitsCall o a call k → HoldsFit a k.holds
    → HoldsFit a (holds_after a call k.holds)
call-holds o a (OnDesk (OpenWrite statement epoch deps)) k f h =
    holds-more a (record { number = a; snapshot = writer_at epoch deps }) k.holds (inl refl)
    (λ other. absurd (true≢false (sym (eq-eqb a a refl) ∙ other))) f.free h
call-holds o a (OnDesk (OpenRead number statement epoch)) k f h =
    holds-more a (record { number = number; snapshot = reader_up_to epoch }) k.holds f.under (λ other. refl) f.free h
call-holds o a (OnDesk (Commit statement epoch)) k f h = holds-less a a k.holds h
call-holds o a (OnDesk (AbortEnd statement epoch cause)) k f h = holds-less a a k.holds h
call-holds o a (OnDesk (CloseRead number statement)) k f h = holds-less a number k.holds h
call-holds o a (OnDesk (TakeNote note counters)) k f h = h
call-holds o a (OnDesk (CreateCube statement decl answer)) k f h = h
call-holds o a (OnDesk (FindCube statement name answer)) k f h = h
call-holds o a (OnDesk (CubesFrom place cubes)) k f h = h
call-holds o a (OnDesk (CountersNow counters)) k f h = h
call-holds o a (OnDesk (RoundOpen answer)) k f h = h
call-holds o a (OnDesk (RoundClose epoch end)) k f h = h
call-holds o a (OnDesk (StoreFailed failed)) k f h = h
call-holds o a (OnNames call) k f h = h
call-holds o a (Post mail job) k f h = h
call-holds o a (Fetch mail answer) k f h = h
call-holds o a (CloseMail mail) k f h = h
call-holds o a NoChange k f h = h

own-holds-fit : (o : Opening) (own : Bool) (a : ℕ) (call : ClientCall) (k : ClientState) → (own ≡ true → FitsCall o a call k)
    → HoldsFit a k.holds → HoldsFit a (client_after_call o own a call k).holds
own-holds-fit o true a call k f h = call-holds o a call k (f refl) h
own-holds-fit o false a call k f h = h

run-holds : (o : Opening) (es : List CoreEvent) (a : ℕ) → IsCoreRun o es → HoldsFit a (client_state o a es).holds
run-holds o [] a run = tt
run-holds o (By b call ∷ es) a run =
    own-holds-fit o (b == a) a call (client_state o a es) (own-fits o a b call es run.1.fits) (run-holds o es a run.0)
run-holds o (At mail move ∷ es) a run = run-holds o es a run.0

-- The epochs of the holders are those of readers that are held.

record ReadsUnder (a : ℕ) (holds : List Holding) (epoch : ℕ) : Type 0 where
  number : ℕ
  under : IsNumberOf a number
  held : held_under number holds ≡ Some (reader_up_to epoch)

reads-behind : (a : ℕ) (h : Holding) (holds : List Holding) (epoch : ℕ) → held_under h.number holds ≡ None → ReadsUnder a holds epoch
    → ReadsUnder a (h ∷ holds) epoch
reads-behind a h holds epoch once r = record {
  number = r.number;
  under = r.under;
  held = (λ i. if apart i then Some h.snapshot else held_under r.number holds) ∙ r.held;
} where
  apart : (h.number == r.number) ≡ false
  apart = ne_eqb h.number r.number
      (λ same. none-some (reader_up_to epoch) (sym once ∙ ap (λ (n : ℕ). held_under n holds) same ∙ r.held))

all-behind : (a : ℕ) (h : Holding) (holds : List Holding) (epochs : List ℕ) → held_under h.number holds ≡ None
    → AllByRecursion (ReadsUnder a holds) epochs → AllByRecursion (ReadsUnder a (h ∷ holds)) epochs
all-behind a h holds [] once f = tt
all-behind a h holds (e ∷ epochs) once f = (reads-behind a h holds e once f.0, all-behind a h holds epochs once f.1)

holders-read : (a : ℕ) (holds : List Holding) → HoldsFit a holds → AllByRecursion (ReadsUnder a holds) (holder_epochs a holds)
holders-read a [] f = tt
holders-read a (h ∷ holds) f = at (h.number == a) refl (all-behind a h holds (holder_epochs a holds) f.0.once (holders-read a holds f.1))
  where
    others : List Holding
    others = filter (λ x. not (x.number == a)) holds

    at : (b : Bool) → (h.number == a) ≡ b → AllByRecursion (ReadsUnder a (h ∷ holds)) (holder_epochs a holds)
        → AllByRecursion (ReadsUnder a (h ∷ holds)) (map (λ x. x.snapshot.epoch) (cond (not b) (h ∷ others) others))
    at true is rest = rest
    at false is rest = (
      record {
        number = h.number;
        under = f.0.under;
        held = (λ i. if eq-eqb h.number h.number refl i then Some h.snapshot else held_under h.number holds) ∙ ap Some (f.0.reads is);
      },
      rest,
    )

-- Both readers of a delta are held.

pub record ComparesBy (o : Opening) (a : ℕ) (holds : List Holding) (from to : ℕ) : Type 0 where
  pub first : AsksBy o a holds (reader_up_to from)
  pub second : AsksBy o a holds (reader_up_to to)

abbrev pub is_comparing : GroupKind → Bool
is_comparing (Compares query from to) = true
is_comparing kind = false

abbrev from_asked : ℕ → GroupKind → ℕ
from_asked default (Compares query from to) = from
from_asked default kind = default

abbrev to_asked : ℕ → GroupKind → ℕ
to_asked default (Compares query from to) = to
to_asked default kind = default

abbrev CompareHeld : Opening → ℕ → ClientState → Type 0
CompareHeld o a k = (q : BoundQuery) (from to : ℕ) → k.group.kind ≡ Compares q from to → ComparesBy o a k.holds from to

asks-by : (o : Opening) (a : ℕ) (holds : List Holding) (epoch : ℕ) → IsSession o a → ReadsUnder a holds epoch → AsksBy o a holds (reader_up_to epoch)
asks-by o a holds epoch session r = record { number = r.number; session = session; under = r.under; held = r.held }

job-compares : (o : Opening) (a mail : ℕ) (job : CoreJob) (k : ClientState) (q : BoundQuery) (from to : ℕ) → FitsCall o a (Post mail job) k
    → HoldsFit a k.holds → kind_of job ≡ Compares q from to → ComparesBy o a k.holds from to
job-compares o a mail (Append cube epoch rows) k q from to f h e = absurd (false≢true (ap is_comparing e))
job-compares o a mail (DropBox cube epoch box) k q from to f h e = absurd (false≢true (ap is_comparing e))
job-compares o a mail (Scan query snapshot) k q from to f h e = absurd (false≢true (ap is_comparing e))
job-compares o a mail (Delta query x y) k q from to f h e =
    let both = subst (AllByRecursion (ReadsUnder a k.holds)) f.bears.readers (holders-read a k.holds h) in
    coe 0 1 (i. ComparesBy o a k.holds (ap (from_asked x) e i) (ap (to_asked y) e i)) (record {
      first = asks-by o a k.holds x f.bears.session both.0;
      second = asks-by o a k.holds y f.bears.session both.1.0;
    })
job-compares o a mail (Rollback epoch) k q from to f h e = absurd (false≢true (ap is_comparing e))
job-compares o a mail (Purge epoch) k q from to f h e = absurd (false≢true (ap is_comparing e))
job-compares o a mail (CopyRound x y) k q from to f h e = absurd (false≢true (ap is_comparing e))
job-compares o a mail Flush k q from to f h e = absurd (false≢true (ap is_comparing e))

post-compares : (ended : Bool) (o : Opening) (a mail : ℕ) (job : CoreJob) (k : ClientState) (q : BoundQuery) (from to : ℕ)
    → FitsCall o a (Post mail job) k → HoldsFit a k.holds → CompareHeld o a k
    → (if ended then record { kind = kind_of job; waits = mail ∷ []; answers = [] } else record k.group { waits = mail ∷ k.group.waits }).kind
    ≡ Compares q from to → ComparesBy o a k.holds from to
post-compares true o a mail job k q from to f h before e = job-compares o a mail job k q from to f h e
post-compares false o a mail job k q from to f h before e = before q from to e

ends-compares : (ends : Bool) (o : Opening) (a : ℕ) (call : DeskEvent) (k : ClientState) (q : BoundQuery) (from to : ℕ)
    → ends_group (OnDesk call) ≡ ends → CompareHeld o a k → (if ends then no_group else k.group).kind ≡ Compares q from to
    → ComparesBy o a (client_after_call o true a (OnDesk call) k).holds from to
ends-compares true o a call k q from to is before e = absurd (false≢true (ap is_comparing e))
ends-compares false o a call k q from to is before e =
    coe 1 0 (i. ComparesBy o a (holds-stay a (OnDesk call) k.holds is i) from to) (before q from to e)

call-compares : (o : Opening) (own : Bool) (a : ℕ) (call : ClientCall) (k : ClientState) → (own ≡ true → FitsCall o a call k)
    → HoldsFit a k.holds → CompareHeld o a k → CompareHeld o a (client_after_call o own a call k)
call-compares o true a (Post mail job) k f h before q from to e =
    post-compares (has_ended o.shards k.group) o a mail job k q from to (f refl) h before e
call-compares o true a (Fetch mail answer) k f h before q from to e = before q from to e
call-compares o true a (OnDesk call) k f h before q from to e = ends-compares (ends_group (OnDesk call)) o a call k q from to refl before e
call-compares o true a (OnNames call) k f h before q from to e = before q from to e
call-compares o true a (CloseMail mail) k f h before q from to e = before q from to e
call-compares o true a NoChange k f h before q from to e = before q from to e
call-compares o false a call k f h before q from to e = before q from to e

pub run-compares : (o : Opening) (es : List CoreEvent) (a : ℕ) → IsCoreRun o es → CompareHeld o a (client_state o a es)
run-compares o [] a run = λ q from to e. absurd (false≢true (ap is_comparing e))
run-compares o (By b call ∷ es) a run =
    call-compares o (b == a) a call (client_state o a es) (own-fits o a b call es run.1.fits) (run-holds o es a run.0) (run-compares o es a run.0)
run-compares o (At mail move ∷ es) a run = run-compares o es a run.0
