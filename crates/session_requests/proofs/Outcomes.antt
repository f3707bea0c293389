-- How a round and a purge may end: in no run does a client fetch another outcome of them.
use Rattle.std.proofs.Common.{◌≡◌, ℕ, Bool, true, false, ◌||◌, List, [], ◌∷◌, refl, ap}
use Rattle.std.proofs.lemmas.Bool.{false≢true}
use Rattle.core_serial.proofs.FetchedAnswers.{AnswersFit, run-answers}
use Rattle.core_events.specs.Cells.{Took, shard_view_of, worker_of}
use Rattle.core_events.specs.Clients.{client_state, ends_group}
use Rattle.core_events.specs.Events.{Opening, flusher, ClientCall, WorkerMove, CoreEvent, By, At}
use Rattle.core_events.specs.Fitting.{FlushSays, RoundProgress, round_progress}
use Rattle.core_events.specs.Groups.{GroupKind, Flushes, Purges, JobGroup, Received, has_refusal, kind_of}
use Rattle.core_events.specs.Jobs.{CoreJob, JobOutcome, Append, DropBox, Scan, Delta, Rollback, Purge, CopyRound, Flush, Done, OutOfMemory, StoreLost, is_refusal}
use Rattle.core_events.specs.Runs.{IsCoreRun, ShardSays}
use Rattle.session_requests.specs.SessionRequests.{IsRoundOutcome}

abbrev pub MayEnd : CoreJob → JobOutcome → Type 0
MayEnd Flush outcome = IsRoundOutcome outcome
MayEnd (Purge epoch) outcome = is_refusal outcome ≡ false
MayEnd job outcome = Unit {0}

abbrev pub EndClaim : Opening → List CoreEvent → ℕ → ℕ → CoreJob → JobOutcome → Type 0
EndClaim o es a mail job outcome = MayEnd job outcome

by-shard : (o : Opening) (es : List CoreEvent) (a mail : ℕ) (job : CoreJob) (outcome : JobOutcome) → IsCoreRun o es
    → ShardSays o mail (shard_view_of o es) job outcome → EndClaim o es a mail job outcome
by-shard o es a mail (Purge epoch) Done run says = refl
by-shard o es a mail (Purge epoch) outcome run says = absurd says
by-shard o es a mail Flush outcome run says = absurd says
by-shard o es a mail job outcome run says = tt

round-outcome : (progress : RoundProgress) (lost : Bool) (said : JobOutcome) → FlushSays progress lost said → IsRoundOutcome said
round-outcome progress lost Done says = tt
round-outcome progress lost StoreLost says = tt
round-outcome progress lost OutOfMemory says = tt
round-outcome progress lost said says = absurd says

by-flusher : (o : Opening) (es : List CoreEvent) (a mail : ℕ) (said : JobOutcome) → IsCoreRun o es → worker_of mail es ≡ Took a Flush
    → FlushSays (round_progress o es) (client_state o (flusher o) es).store_lost said → EndClaim o es a mail Flush said
by-flusher o es a mail said run took says =
    round-outcome (round_progress o es) (client_state o (flusher o) es).store_lost said says

stays-call : (o : Opening) (es : List CoreEvent) (a b mail : ℕ) (call : ClientCall) (job : CoreJob) (outcome : JobOutcome)
    → IsCoreRun o (By b call ∷ es) → kind_of job ≡ (client_state o a es).group.kind → (b ≡ a → ends_group call ≡ false)
    → EndClaim o es a mail job outcome → EndClaim o (By b call ∷ es) a mail job outcome
stays-call o es a b mail call job outcome run kind goes f = f

stays-move : (o : Opening) (es : List CoreEvent) (a other mail : ℕ) (move : WorkerMove) (job : CoreJob) (outcome : JobOutcome)
    → IsCoreRun o (At other move ∷ es) → kind_of job ≡ (client_state o a es).group.kind
    → EndClaim o es a mail job outcome → EndClaim o (At other move ∷ es) a mail job outcome
stays-move o es a other mail move job outcome run kind f = f

abbrev Fit : Opening → List CoreEvent → ℕ → GroupKind → List Received → Type 0
Fit o es a kind answers = AnswersFit EndClaim by-shard by-flusher stays-call stays-move o es a kind answers

-- The answers of a client's group are such.
group-ends : (o : Opening) (run : List CoreEvent) (a : ℕ) (g : JobGroup) → IsCoreRun o run → (client_state o a run).group ≡ g
    → Fit o run a g.kind g.answers
group-ends o run a g is_run is =
    coe 0 1 (i. Fit o run a (is i).kind (is i).answers)
    (run-answers EndClaim by-shard by-flusher stays-call stays-move o run a is_run)

-- A job is told by the kind of its group.

abbrev is_flushing : GroupKind → Bool
is_flushing Flushes = true
is_flushing kind = false

abbrev is_purging : GroupKind → Bool
is_purging (Purges epoch) = true
is_purging kind = false

flush-end : (job : CoreJob) (outcome : JobOutcome) → is_flushing (kind_of job) ≡ true → MayEnd job outcome → IsRoundOutcome outcome
flush-end Flush outcome kind f = f
flush-end (Append cube epoch rows) outcome kind f = absurd (false≢true kind)
flush-end (DropBox cube epoch box) outcome kind f = absurd (false≢true kind)
flush-end (Scan query snapshot) outcome kind f = absurd (false≢true kind)
flush-end (Delta query from to) outcome kind f = absurd (false≢true kind)
flush-end (Rollback epoch) outcome kind f = absurd (false≢true kind)
flush-end (Purge epoch) outcome kind f = absurd (false≢true kind)
flush-end (CopyRound from to) outcome kind f = absurd (false≢true kind)

purge-end : (job : CoreJob) (outcome : JobOutcome) → is_purging (kind_of job) ≡ true → MayEnd job outcome → is_refusal outcome ≡ false
purge-end (Purge epoch) outcome kind f = f
purge-end (Append cube epoch rows) outcome kind f = absurd (false≢true kind)
purge-end (DropBox cube epoch box) outcome kind f = absurd (false≢true kind)
purge-end (Scan query snapshot) outcome kind f = absurd (false≢true kind)
purge-end (Delta query from to) outcome kind f = absurd (false≢true kind)
purge-end (Rollback epoch) outcome kind f = absurd (false≢true kind)
purge-end (CopyRound from to) outcome kind f = absurd (false≢true kind)
purge-end Flush outcome kind f = absurd (false≢true kind)

-- A round that a client asked for.
pub round-ends : (o : Opening) (run : List CoreEvent) (a mail : ℕ) (outcome : JobOutcome) → IsCoreRun o run
    → (client_state o a run).group ≡ record { kind = Flushes; waits = []; answers = record { mail = mail; answer = outcome } ∷ [] }
    → IsRoundOutcome outcome
round-ends o run a mail outcome is_run is =
    let fit =
    group-ends o run a (record { kind = Flushes; waits = []; answers = record { mail = mail; answer = outcome } ∷ [] }) is_run is
    in
    flush-end fit.0.job outcome (ap is_flushing fit.0.of_kind) fit.0.claim

none-refused : (o : Opening) (es : List CoreEvent) (a epoch : ℕ) (answers : List Received) → Fit o es a (Purges epoch) answers
    → has_refusal answers ≡ false
none-refused o es a epoch [] fit = refl
none-refused o es a epoch (r ∷ older) fit =
    λ i. purge-end fit.0.job r.answer (ap is_purging fit.0.of_kind) fit.0.claim i || none-refused o es a epoch older fit.1 i

-- No shard refuses a purge.
pub purges-are-done : (o : Opening) (run : List CoreEvent) (a epoch : ℕ) (g : JobGroup) → IsCoreRun o run
    → (client_state o a run).group ≡ g → g.kind ≡ Purges epoch → has_refusal g.answers ≡ false
purges-are-done o run a epoch g is_run is kind =
    none-refused o run a epoch g.answers
    (coe 0 1 (i. Fit o run a (kind i) g.answers) (group-ends o run a g is_run is))
