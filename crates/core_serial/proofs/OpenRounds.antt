-- A client that copies is the flusher, and its round is open: it begins at LSE, or at 0, and goes up to an epoch that is
-- not above LCE.
use Rattle.std.proofs.Common.{◌≡◌, ◌⊎◌, ◌∙◌, ℕ, ◌<◌, ◌≤◌, ◌==◌, Bool, true, false, true≢false, List, [], ◌∷◌, Option, Some, None, IfSome, IsSomeAnd, inl, inr, refl, sym, ap, arith, eq-eqb, if◌then◌else◌}
use Rattle.std.proofs.lemmas.Bool.{false≢true}
use Rattle.std.proofs.lemmas.Option.{none-some, same_Some}
use Rattle.cube_journal.specs.declared.counters.OpenSnapshot.{OpenSnapshot}
use Rattle.cube_journal.specs.Counters.{JournalState, lce, target, oldest_bound}
use Rattle.cube_journal.specs.Order.{NeverFalls}
use Rattle.aosi_desk.specs.declared.answer.RoundAnswer.{RoundAnswer}
use Rattle.aosi_desk.specs.declared.answer.RoundAnswer.TheVariants.{Target, Nothing}
use Rattle.aosi_desk.specs.State.{round_answer}
use Rattle.core_events.specs.Jobs.{CoreJob, Append, DropBox, Scan, Delta, Rollback, Purge, CopyRound, Flush}
use Rattle.core_events.specs.Events.{Opening, flusher, DeskEvent, OpenWrite, OpenRead, Commit, AbortEnd, CloseRead, TakeNote, CreateCube, FindCube, CubesFrom, CountersNow, RoundOpen, RoundClose, StoreFailed, ClientCall, OnDesk, OnNames, Post, Fetch, CloseMail, NoChange, CoreEvent, By, At}
use Rattle.core_events.specs.Groups.{GroupKind, Copies, kind_of, no_group, has_ended}
use Rattle.core_events.specs.Clients.{OwnRound, ClientState, client_state, client_after_call, ends_group, own_round_after, round_in, round_with_cubes}
use Rattle.core_events.specs.Cells.{counters_of_run}
use Rattle.core_events.specs.Fitting.{FitsCall, MayCopy}
use Rattle.core_events.specs.Runs.{IsCoreRun, CallSays}
use Rattle.core_events.proofs.Agreement.{round_epoch, round-agrees}
use Rattle.core_events.proofs.DeskSteps.{run-step}
use Rattle.core_events.proofs.InOrder.{run-order}
use Rattle.core_events.proofs.RoundEnds.{closes_round, lse-same}
use Rattle.core_serial.proofs.Asking.{own-fits}
use Rattle.core_serial.specs.Copies.{IsOfOpenRound}

-- The flusher's round begins at LSE.
abbrev BeginsAt : ℕ → Option OwnRound → Type 0
BeginsAt lse None = Unit {0}
BeginsAt lse (Some round) = round.from ≡ lse

open-begins : (lse : ℕ) (answer : RoundAnswer) (s : JournalState) → answer ≡ round_answer s → s.lse ≡ lse → BeginsAt lse (round_in answer)
open-begins lse (Nothing epoch) s is same = tt
open-begins lse (Target from epoch) s is same = by (target s == s.lse) (is)
  where
    from_of : ℕ → RoundAnswer → ℕ
    from_of default (Target x y) = x
    from_of default (Nothing y) = default

    by : (b : Bool) → Target from epoch ≡ (if b then Nothing (target s) else Target s.lse (target s)) → from ≡ lse
    by true e = ap (from_of lse) e
    by false e = ap (from_of lse) e ∙ same

cubes-begins : (lse : ℕ) (round : Option OwnRound) → BeginsAt lse round → BeginsAt lse (round_with_cubes round)
cubes-begins lse None f = tt
cubes-begins lse (Some round) f = f

-- By its own call, and LSE stays.
own-begins : (o : Opening) (es : List CoreEvent) (a lse : ℕ) (call : ClientCall) (round : Option OwnRound) → (counters_of_run o es).lse ≡ lse
    → CallSays o es a call → BeginsAt lse round → BeginsAt lse (own_round_after call round)
own-begins o es a lse (OnDesk (RoundOpen answer)) round same says f = open-begins lse answer (counters_of_run o es) says same
own-begins o es a lse (OnDesk (RoundClose epoch end)) round same says f = tt
own-begins o es a lse (OnDesk (CubesFrom place cubes)) round same says f = cubes-begins lse round f
own-begins o es a lse (OnDesk (OpenWrite statement epoch deps)) round same says f = f
own-begins o es a lse (OnDesk (OpenRead number statement epoch)) round same says f = f
own-begins o es a lse (OnDesk (Commit statement epoch)) round same says f = f
own-begins o es a lse (OnDesk (AbortEnd statement epoch cause)) round same says f = f
own-begins o es a lse (OnDesk (CloseRead number statement)) round same says f = f
own-begins o es a lse (OnDesk (TakeNote note counters)) round same says f = f
own-begins o es a lse (OnDesk (CreateCube statement decl answer)) round same says f = f
own-begins o es a lse (OnDesk (FindCube statement name answer)) round same says f = f
own-begins o es a lse (OnDesk (CountersNow counters)) round same says f = f
own-begins o es a lse (OnDesk (StoreFailed failed)) round same says f = f
own-begins o es a lse (OnNames call) round same says f = f
own-begins o es a lse (Post mail job) round same says f = f
own-begins o es a lse (Fetch mail answer) round same says f = f
own-begins o es a lse (CloseMail mail) round same says f = f
own-begins o es a lse NoChange round same says f = f

-- The end of a round is the flusher's.
close-own : (o : Opening) (b : ℕ) (call : ClientCall) (k : ClientState) → closes_round call ≡ true → FitsCall o b call k → b ≡ flusher o
close-own o b (OnDesk (RoundClose epoch end)) k c f = f.flusher
close-own o b (OnDesk (OpenWrite statement epoch deps)) k c f = absurd (false≢true c)
close-own o b (OnDesk (OpenRead number statement epoch)) k c f = absurd (false≢true c)
close-own o b (OnDesk (Commit statement epoch)) k c f = absurd (false≢true c)
close-own o b (OnDesk (AbortEnd statement epoch cause)) k c f = absurd (false≢true c)
close-own o b (OnDesk (CloseRead number statement)) k c f = absurd (false≢true c)
close-own o b (OnDesk (TakeNote note counters)) k c f = absurd (false≢true c)
close-own o b (OnDesk (CreateCube statement decl answer)) k c f = absurd (false≢true c)
close-own o b (OnDesk (FindCube statement name answer)) k c f = absurd (false≢true c)
close-own o b (OnDesk (CubesFrom place cubes)) k c f = absurd (false≢true c)
close-own o b (OnDesk (CountersNow counters)) k c f = absurd (false≢true c)
close-own o b (OnDesk (RoundOpen answer)) k c f = absurd (false≢true c)
close-own o b (OnDesk (StoreFailed failed)) k c f = absurd (false≢true c)
close-own o b (OnNames call) k c f = absurd (false≢true c)
close-own o b (Post mail job) k c f = absurd (false≢true c)
close-own o b (Fetch mail answer) k c f = absurd (false≢true c)
close-own o b (CloseMail mail) k c f = absurd (false≢true c)
close-own o b NoChange k c f = absurd (false≢true c)

closed-none : (call : ClientCall) (round : Option OwnRound) → closes_round call ≡ true → own_round_after call round ≡ None
closed-none (OnDesk (RoundClose epoch end)) round c = refl
closed-none (OnDesk (OpenWrite statement epoch deps)) round c = absurd (false≢true c)
closed-none (OnDesk (OpenRead number statement epoch)) round c = absurd (false≢true c)
closed-none (OnDesk (Commit statement epoch)) round c = absurd (false≢true c)
closed-none (OnDesk (AbortEnd statement epoch cause)) round c = absurd (false≢true c)
closed-none (OnDesk (CloseRead number statement)) round c = absurd (false≢true c)
closed-none (OnDesk (TakeNote note counters)) round c = absurd (false≢true c)
closed-none (OnDesk (CreateCube statement decl answer)) round c = absurd (false≢true c)
closed-none (OnDesk (FindCube statement name answer)) round c = absurd (false≢true c)
closed-none (OnDesk (CubesFrom place cubes)) round c = absurd (false≢true c)
closed-none (OnDesk (CountersNow counters)) round c = absurd (false≢true c)
closed-none (OnDesk (RoundOpen answer)) round c = absurd (false≢true c)
closed-none (OnDesk (StoreFailed failed)) round c = absurd (false≢true c)
closed-none (OnNames call) round c = absurd (false≢true c)
closed-none (Post mail job) round c = absurd (false≢true c)
closed-none (Fetch mail answer) round c = absurd (false≢true c)
closed-none (CloseMail mail) round c = absurd (false≢true c)
closed-none NoChange round c = absurd (false≢true c)

step-begins : (closes own : Bool) (o : Opening) (es : List CoreEvent) (b : ℕ) (call : ClientCall) → IsCoreRun o (By b call ∷ es)
    → closes_round call ≡ closes → (b == flusher o) ≡ own → BeginsAt (counters_of_run o es).lse (client_state o (flusher o) es).round
    → BeginsAt (counters_of_run o (By b call ∷ es)).lse (client_after_call o own (flusher o) call (client_state o (flusher o) es)).round
step-begins true true o es b call run closes own f =
    coe 1 0 (i. BeginsAt (counters_of_run o (By b call ∷ es)).lse (closed-none call (client_state o (flusher o) es).round closes i)) tt
step-begins true false o es b call run closes own f =
    absurd (false≢true (sym own ∙ eq-eqb b (flusher o) (close-own o b call (client_state o b es) closes run.1.fits)))
step-begins false true o es b call run closes own f =
    let same = ap (λ (s : JournalState). s.lse) (run-step o b call es) ∙ lse-same b call (counters_of_run o es) closes in
    coe 1 0 (i. BeginsAt (same i) (own_round_after call (client_state o (flusher o) es).round))
    (own-begins o es b (counters_of_run o es).lse call (client_state o (flusher o) es).round refl run.1.says f)
step-begins false false o es b call run closes own f =
    let same = ap (λ (s : JournalState). s.lse) (run-step o b call es) ∙ lse-same b call (counters_of_run o es) closes in
    coe 1 0 (i. BeginsAt (same i) (client_state o (flusher o) es).round) f

run-begins : (o : Opening) (es : List CoreEvent) → IsCoreRun o es → BeginsAt (counters_of_run o es).lse (client_state o (flusher o) es).round
run-begins o [] run = tt
run-begins o (By b call ∷ es) run =
    step-begins (closes_round call) (b == flusher o) o es b call run refl refl (run-begins o es run.0)
run-begins o (At mail move ∷ es) run = run-begins o es run.0

-- The copies are of the client's open round.

record IsOfRound (o : Opening) (a from to : ℕ) (round : Option OwnRound) : Type 0 where
  flusher : a ≡ flusher o
  own : OwnRound
  is : round ≡ Some own
  ends : to ≡ own.epoch
  begins : (from ≡ own.from) ⊎ (from ≡ 0)

abbrev pub is_copying : GroupKind → Bool
is_copying (Copies from to) = true
is_copying kind = false

abbrev CopiesOf : Opening → ℕ → ClientState → Type 0
CopiesOf o a k = (from to : ℕ) → k.group.kind ≡ Copies from to → IsOfRound o a from to k.round

of-open : (o : Opening) (a from to : ℕ) (round : Option OwnRound) → a ≡ flusher o → IsSomeAnd round (MayCopy from to) → IsOfRound o a from to round
of-open o a from to None f m = absurd m
of-open o a from to (Some own) f m = record { flusher = f; own = own; is = refl; ends = m.ends; begins = m.begins }

job-copies : (o : Opening) (a mail from to : ℕ) (job : CoreJob) (k : ClientState) → FitsCall o a (Post mail job) k → kind_of job ≡ Copies from to
    → IsOfRound o a from to k.round
job-copies o a mail from to (CopyRound x y) k f e =
    coe 0 1 (i. IsOfRound o a (ap (from_in x) e i) (ap (to_in y) e i) k.round) (of-open o a x y k.round f.bears.0 f.bears.1)
  where
    from_in : ℕ → GroupKind → ℕ
    from_in default (Copies u v) = u
    from_in default kind = default

    to_in : ℕ → GroupKind → ℕ
    to_in default (Copies u v) = v
    to_in default kind = default
job-copies o a mail from to (Append cube epoch rows) k f e = absurd (false≢true (ap is_copying e))
job-copies o a mail from to (DropBox cube epoch box) k f e = absurd (false≢true (ap is_copying e))
job-copies o a mail from to (Scan query snapshot) k f e = absurd (false≢true (ap is_copying e))
job-copies o a mail from to (Delta query x y) k f e = absurd (false≢true (ap is_copying e))
job-copies o a mail from to (Rollback epoch) k f e = absurd (false≢true (ap is_copying e))
job-copies o a mail from to (Purge epoch) k f e = absurd (false≢true (ap is_copying e))
job-copies o a mail from to Flush k f e = absurd (false≢true (ap is_copying e))

post-copies : (ended : Bool) (o : Opening) (a mail from to : ℕ) (job : CoreJob) (k : ClientState) → FitsCall o a (Post mail job) k → CopiesOf o a k
    → (if ended then record { kind = kind_of job; waits = mail ∷ []; answers = [] } else record k.group { waits = mail ∷ k.group.waits }).kind
    ≡ Copies from to → IsOfRound o a from to k.round
post-copies true o a mail from to job k f before e = job-copies o a mail from to job k f e
post-copies false o a mail from to job k f before e = before from to e

with-cubes : (o : Opening) (a from to : ℕ) (round : Option OwnRound) → IsOfRound o a from to round → IsOfRound o a from to (round_with_cubes round)
with-cubes o a from to None f = absurd (none-some f.own f.is)
with-cubes o a from to (Some round) f =
    let same = same_Some round f.own f.is in
    record {
      flusher = f.flusher;
      own = record round { has_cubes = true };
      is = refl;
      ends = f.ends ∙ ap (λ (r : OwnRound). r.epoch) (sym same);
      begins = elim f.begins [ inl at ↦ inl (at ∙ ap (λ (r : OwnRound). r.from) (sym same)) | inr none ↦ inr none ];
    }

-- A call that ends no group leaves the round, but for its cubes.
desk-copies : (o : Opening) (a from to : ℕ) (call : DeskEvent) (round : Option OwnRound) → ends_group (OnDesk call) ≡ false
    → IsOfRound o a from to round → IsOfRound o a from to (own_round_after (OnDesk call) round)
desk-copies o a from to (CubesFrom place cubes) round e f = with-cubes o a from to round f
desk-copies o a from to (RoundOpen answer) round e f = absurd (true≢false e)
desk-copies o a from to (RoundClose epoch end) round e f = absurd (true≢false e)
desk-copies o a from to (OpenWrite statement epoch deps) round e f = f
desk-copies o a from to (OpenRead number statement epoch) round e f = f
desk-copies o a from to (Commit statement epoch) round e f = f
desk-copies o a from to (AbortEnd statement epoch cause) round e f = f
desk-copies o a from to (CloseRead number statement) round e f = f
desk-copies o a from to (TakeNote note counters) round e f = f
desk-copies o a from to (CreateCube statement decl answer) round e f = f
desk-copies o a from to (FindCube statement name answer) round e f = f
desk-copies o a from to (CountersNow counters) round e f = f
desk-copies o a from to (StoreFailed failed) round e f = f

ends-copies : (ends : Bool) (o : Opening) (a from to : ℕ) (call : DeskEvent) (k : ClientState) → ends_group (OnDesk call) ≡ ends → CopiesOf o a k
    → (if ends then no_group else k.group).kind ≡ Copies from to → IsOfRound o a from to (own_round_after (OnDesk call) k.round)
ends-copies true o a from to call k is before e = absurd (false≢true (ap is_copying e))
ends-copies false o a from to call k is before e = desk-copies o a from to call k.round is (before from to e)

call-copies : (own : Bool) (o : Opening) (a : ℕ) (call : ClientCall) (k : ClientState) → (own ≡ true → FitsCall o a call k) → CopiesOf o a k
    → CopiesOf o a (client_after_call o own a call k)
call-copies true o a (Post mail job) k f before from to e = post-copies (has_ended o.shards k.group) o a mail from to job k (f refl) before e
call-copies true o a (Fetch mail answer) k f before from to e = before from to e
call-copies true o a (OnDesk call) k f before from to e = ends-copies (ends_group (OnDesk call)) o a from to call k refl before e
call-copies true o a (OnNames call) k f before from to e = before from to e
call-copies true o a (CloseMail mail) k f before from to e = before from to e
call-copies true o a NoChange k f before from to e = before from to e
call-copies false o a call k f before from to e = before from to e

run-copies : (o : Opening) (es : List CoreEvent) (a : ℕ) → IsCoreRun o es → CopiesOf o a (client_state o a es)
run-copies o [] a run = λ from to e. absurd (false≢true (ap is_copying e))
run-copies o (By b call ∷ es) a run =
    call-copies (b == a) o a call (client_state o a es) (own-fits o a b call es run.1.fits) (run-copies o es a run.0)
run-copies o (At mail move ∷ es) a run = run-copies o es a run.0

-- Against the counters.

falls-high : (low high : ℕ) (xs : List OpenSnapshot) → NeverFalls low xs high → low ≤ high
falls-high low high [] n = n
falls-high low high (x ∷ xs) n = let first = n.0 in let rest = falls-high x.bound high xs n.1 in omega (arith, first, rest)

oldest-high : (low high : ℕ) (xs : List OpenSnapshot) → NeverFalls low xs high → oldest_bound xs high ≤ high
oldest-high low high [] n = omega arith
oldest-high low high (x ∷ xs) n = falls-high x.bound high xs n.1

pub of-open-round : (o : Opening) (es : List CoreEvent) (a from to : ℕ) → IsCoreRun o es → (client_state o a es).group.kind ≡ Copies from to
    → IsOfOpenRound from to (counters_of_run o es)
of-open-round o es a from to run kind =
    let s = counters_of_run o es in
    let f = run-copies o es a run from to kind in
    let mine : (client_state o (flusher o) es).round ≡ Some f.own = ap (λ (b : ℕ). (client_state o b es).round) (sym f.flusher) ∙ f.is in
    let at = coe 0 1 (i. BeginsAt s.lse (mine i)) (run-begins o es run) in
    let round : s.round ≡ Some to = (round-agrees o es run).round ∙ ap round_epoch mine ∙ ap Some (sym f.ends) in
    let order = run-order o es run in
    let within = coe 0 1 (i. IfSome (round i) (λ e. (s.lse < e) × (e ≤ target s))) order.round in
    let high = oldest-high s.lse (lce s) s.snapshots order.bounds in
    let most = within.1 in
    record {
      round = round;
      begins = elim f.begins [ inl same ↦ inl (same ∙ at) | inr none ↦ inr none ];
      rises = within.0;
      committed = omega (arith, most, high);
    }
