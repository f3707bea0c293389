-- No shard refuses a rollback: in no run does a client fetch another answer to one than that it is done.
use Rattle.std.proofs.Common.{◌≡◌, ℕ, Bool, true, false, ◌||◌, List, [], ◌∷◌, refl, ap}
use Rattle.std.proofs.lemmas.Bool.{false≢true}
use Rattle.core_serial.proofs.FetchedAnswers.{AnswersFit, run-answers}
use Rattle.core_events.specs.Cells.{Took, shard_view_of, worker_of}
use Rattle.core_events.specs.Clients.{client_state, ends_group}
use Rattle.core_events.specs.Events.{Opening, flusher, ClientCall, WorkerMove, CoreEvent, By, At}
use Rattle.core_events.specs.Fitting.{FlushSays, round_progress}
use Rattle.core_events.specs.Groups.{GroupKind, RollsBack, JobGroup, Received, has_refusal, kind_of}
use Rattle.core_events.specs.Jobs.{CoreJob, JobOutcome, Append, DropBox, Scan, Delta, Rollback, Purge, CopyRound, Flush, Done, is_refusal}
use Rattle.core_events.specs.Runs.{IsCoreRun, ShardSays}

abbrev pub RollbackClaim : Opening → List CoreEvent → ℕ → ℕ → CoreJob → JobOutcome → Type 0
RollbackClaim o es a mail (Rollback epoch) answer = is_refusal answer ≡ false
RollbackClaim o es a mail job answer = Unit {0}

says-done : (o : Opening) (es : List CoreEvent) (a mail : ℕ) (job : CoreJob) (answer : JobOutcome) → IsCoreRun o es
    → ShardSays o mail (shard_view_of o es) job answer → RollbackClaim o es a mail job answer
says-done o es a mail (Rollback epoch) Done run says = refl
says-done o es a mail (Rollback epoch) answer run says = absurd says
says-done o es a mail job answer run says = tt

flush-none : (o : Opening) (es : List CoreEvent) (a mail : ℕ) (said : JobOutcome) → IsCoreRun o es → worker_of mail es ≡ Took a Flush
    → FlushSays (round_progress o es) (client_state o (flusher o) es).store_lost said → RollbackClaim o es a mail Flush said
flush-none o es a mail said run took says = tt

stays-by : (o other : Opening) (es later : List CoreEvent) (a mail : ℕ) (job : CoreJob) (answer : JobOutcome)
    → RollbackClaim o es a mail job answer → RollbackClaim o later a mail job answer
stays-by o other es later a mail (Rollback epoch) answer f = f
stays-by o other es later a mail job answer f = tt

stays-call : (o : Opening) (es : List CoreEvent) (a b mail : ℕ) (call : ClientCall) (job : CoreJob) (answer : JobOutcome)
    → IsCoreRun o (By b call ∷ es) → kind_of job ≡ (client_state o a es).group.kind → (b ≡ a → ends_group call ≡ false)
    → RollbackClaim o es a mail job answer → RollbackClaim o (By b call ∷ es) a mail job answer
stays-call o es a b mail call job answer run kind goes f = stays-by o o es (By b call ∷ es) a mail job answer f

stays-move : (o : Opening) (es : List CoreEvent) (a other mail : ℕ) (move : WorkerMove) (job : CoreJob) (answer : JobOutcome)
    → IsCoreRun o (At other move ∷ es) → kind_of job ≡ (client_state o a es).group.kind
    → RollbackClaim o es a mail job answer → RollbackClaim o (At other move ∷ es) a mail job answer
stays-move o es a other mail move job answer run kind f = stays-by o o es (At other move ∷ es) a mail job answer f

abbrev is_rolling : GroupKind → Bool
is_rolling RollsBack = true
is_rolling kind = false

-- A job of such a group is a rollback.
not-refused : (o : Opening) (es : List CoreEvent) (a mail : ℕ) (job : CoreJob) (answer : JobOutcome) → kind_of job ≡ RollsBack
    → RollbackClaim o es a mail job answer → is_refusal answer ≡ false
not-refused o es a mail (Rollback epoch) answer kind f = f
not-refused o es a mail (Append cube epoch rows) answer kind f = absurd (false≢true (ap is_rolling kind))
not-refused o es a mail (DropBox cube epoch box) answer kind f = absurd (false≢true (ap is_rolling kind))
not-refused o es a mail (Scan query snapshot) answer kind f = absurd (false≢true (ap is_rolling kind))
not-refused o es a mail (Delta query from to) answer kind f = absurd (false≢true (ap is_rolling kind))
not-refused o es a mail (Purge epoch) answer kind f = absurd (false≢true (ap is_rolling kind))
not-refused o es a mail (CopyRound from to) answer kind f = absurd (false≢true (ap is_rolling kind))
not-refused o es a mail Flush answer kind f = absurd (false≢true (ap is_rolling kind))

none-refused : (o : Opening) (es : List CoreEvent) (a : ℕ) (answers : List Received)
    → AnswersFit RollbackClaim says-done flush-none stays-call stays-move o es a RollsBack answers → has_refusal answers ≡ false
none-refused o es a [] fit = refl
none-refused o es a (r ∷ older) fit =
    λ i. not-refused o es a r.mail fit.0.job r.answer fit.0.of_kind fit.0.claim i || none-refused o es a older fit.1 i

pub rollbacks-are-done : (o : Opening) (run : List CoreEvent) (a : ℕ) (g : JobGroup) → IsCoreRun o run → (client_state o a run).group ≡ g
    → g.kind ≡ RollsBack → has_refusal g.answers ≡ false
rollbacks-are-done o run a g is_run is kind =
    none-refused o run a g.answers
    (coe 0 1 (i. AnswersFit RollbackClaim says-done flush-none stays-call stays-move o run a (kind i) g.answers)
    (coe 0 1 (i. AnswersFit RollbackClaim says-done flush-none stays-call stays-move o run a (is i).kind (is i).answers)
    (run-answers RollbackClaim says-done flush-none stays-call stays-move o run a is_run)))
