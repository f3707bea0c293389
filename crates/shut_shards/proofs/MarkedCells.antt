-- Along a history, a shard on which a purge was made has no mark up to its epoch.
use Rattle.std.proofs.Common.{◌≡◌, ◌≢◌, ◌∙◌, ℕ, ◌==◌, Bool, true, false, List, [], ◌∷◌, ◌++◌, cond, append_assoc, inl, inr, refl, sym, ap, arith, ne_eqb, eq-eqb, eqb-true, true≢false}
use Rattle.std.proofs.lemmas.Bool.{false≢true}
use Rattle.turn_board.specs.History.{LeadsTo, of_cell}
use Rattle.mail_cell.specs.declared.answer.Fetched.TheVariants.{Got, NotYet}
use Rattle.mail_cell.specs.declared.answer.Taken.TheVariants.{Job, Empty, Closed}
use Rattle.core_cells.specs.declared.mail.MailAnswer.{MailAnswer}
use Rattle.core_cells.specs.declared.mail.MailAnswer.TheVariants as got
use Rattle.core_cells.specs.declared.mail.MailCall.{MailCall}
use Rattle.core_cells.specs.declared.mail.MailCall.TheVariants as mail
use Rattle.core_events.specs.Events.{Opening, WorkerMove, Take, NoJob, Work, Reply, CoreEvent, At}
use Rattle.core_events.specs.Jobs.{CoreJob, Purge, Flush, JobOutcome}
use Rattle.core_events.specs.Runs.{IsCoreRun}
use Rattle.core_program.specs.CoreFits.{CoreEntry}
use Rattle.core_settled.proofs.Settled.{run-before}
use Rattle.cube_core.specs.BoardCells.{AnswerSays, IsEntryEvent, IsEventOf, call_job, cell_of_shard, job_asked}
use Rattle.cube_core.specs.CoreSteps.{CoreStep}
use Rattle.cube_core.specs.Links.{AreEventsAfter}
use Rattle.cube_core.specs.MailEvents.{IsMailEvent}
use Rattle.cube_core.specs.declared.cell.CoreAnswer.{CoreAnswer}
use Rattle.cube_core.specs.declared.cell.CoreAnswer.TheVariants as answer
use Rattle.cube_core.specs.declared.cell.CoreCall.{CoreCall}
use Rattle.cube_core.specs.declared.cell.CoreCall.TheVariants as call
use Rattle.cube_core.specs.declared.cell.CoreCell.{CoreCell}
use Rattle.cube_core.specs.declared.cell.CoreCell.TheVariants as cell
use Rattle.cube_core.specs.declared.jobs.Job.{Job as CellJob}
use Rattle.cube_core.specs.declared.jobs.JobAnswer.{JobAnswer}
use Rattle.cube_core.specs.declared.shard.ShardAnswer.{ShardAnswer}
use Rattle.cube_core.specs.declared.shard.ShardCall.{ShardCall}
use Rattle.cube_core.specs.declared.shard.ShardCall.TheVariants as shard
use Rattle.linked_shards.specs.CellShards.{CoreShardStands, CoreShardStep}
use Rattle.linked_shards.specs.declared.cell.CoreShard.{CoreShard}
use Rattle.shard_cell.specs.Shards.{ShardState}
use Rattle.shard_events.specs.ShardCalls.{ShardStep}
use Rattle.shard_events.specs.ShardsInRuns.{FitsShard, ShardAnswerSays}
use Rattle.final_shards.specs.PurgedBricks.{purged_after_move, was_purged}
use Rattle.final_shards.proofs.PurgedShards.{marks-above, purged-cases, purged-low}
use Rattle.shut_shards.specs.ShutShards.{CellHasNoMarksUpTo, HasNoMarksUpTo}
use Rattle.shut_shards.proofs.ShardSteps.{marks-go, marks-stay}

-- The shard in a cell has no mark up to an epoch where the events purged the shard of the number up to it.
abbrev IsCleared : ℕ → List CoreEvent → CoreCell CoreShard → Type 0
IsCleared number es x = (epoch : ℕ) → was_purged number es epoch ≡ true → CellHasNoMarksUpTo epoch x

abbrev OfEvent : Opening → List CoreEvent → ℕ → ℕ → CoreCall → CoreAnswer → CoreEvent → Type 0
OfEvent o es caller k c a event = IsEventOf FitsShard CoreShardStands ShardAnswerSays o es caller k c a event

-- ---- an event on another cell

abbrev is_work : WorkerMove → Bool
is_work (Work job answer) = true
is_work move = false

no-work : (here : Bool) (move : WorkerMove) (old : ℕ → Bool) (epoch : ℕ) → is_work move ≡ false
    → purged_after_move here move old epoch ≡ true → old epoch ≡ true
no-work here move old epoch not is = elim (purged-cases here move old epoch is) [
  | inl now ↦ absurd (false≢true (sym not ∙ ap is_work now.1))
  | inr before ↦ before
]

abbrev WasBefore : ℕ → List CoreEvent → CoreEvent → Type 0
WasBefore number es event =
    (epoch : ℕ) → was_purged number (event ∷ es) epoch ≡ true → was_purged number es epoch ≡ true

mail-event : (number at : ℕ) (es : List CoreEvent) (c : MailCall CellJob JobAnswer)
    (x : MailAnswer CellJob JobAnswer) (event : CoreEvent)
    → IsMailEvent job_asked (AnswerSays ShardAnswerSays) es at c x event → WasBefore number es event
mail-event number at es (mail.Post client job) got.Done event is epoch p =
    coe 0 1 (i. was_purged number (is i ∷ es) epoch ≡ true) p
mail-event number at es mail.Take (got.Taken (Job client job)) event is epoch p =
    no-work (at == number) (Take client (job_asked job)) (was_purged number es) epoch refl
    (coe 0 1 (i. was_purged number (is i ∷ es) epoch ≡ true) p)
mail-event number at es mail.Take (got.Taken Empty) event is epoch p =
    no-work (at == number) (NoJob false) (was_purged number es) epoch refl
    (coe 0 1 (i. was_purged number (is i ∷ es) epoch ≡ true) p)
mail-event number at es mail.Take (got.Taken Closed) event is epoch p =
    no-work (at == number) (NoJob true) (was_purged number es) epoch refl
    (coe 0 1 (i. was_purged number (is i ∷ es) epoch ≡ true) p)
mail-event number at es (mail.Reply client said) got.Done event is epoch p =
    no-work (at == number) (Reply client is.outcome) (was_purged number es) epoch refl
    (coe 0 1 (i. was_purged number (is.is i ∷ es) epoch ≡ true) p)
mail-event number at es (mail.Fetch client) (got.Fetched (Got said)) event is epoch p =
    coe 0 1 (i. was_purged number (is.is i ∷ es) epoch ≡ true) p
mail-event number at es (mail.Fetch client) (got.Fetched NotYet) event is epoch p =
    coe 0 1 (i. was_purged number (is i ∷ es) epoch ≡ true) p
mail-event number at es mail.Close got.Done event is epoch p =
    coe 0 1 (i. was_purged number (is i ∷ es) epoch ≡ true) p
mail-event number at es c x event is epoch p = absurd is

other-cell : (o : Opening) (number caller k : ℕ) (es : List CoreEvent) (c : CoreCall) (a : CoreAnswer)
    (event : CoreEvent) → k ≢ cell_of_shard number → OfEvent o es caller k c a event → WasBefore number es event
other-cell o number caller k es (call.Desk c) (answer.Desk a) event apart is epoch p =
    coe 0 1 (i. was_purged number (is.2 i ∷ es) epoch ≡ true) p
other-cell o number caller k es (call.Names c) (answer.Names a) event apart is epoch p =
    coe 0 1 (i. was_purged number (is.1 i ∷ es) epoch ≡ true) p
other-cell o number caller k es (call.Shard c) (answer.Shard a) event apart is epoch p =
    let other : (is.number == number) ≡ false =
    ne_eqb is.number number (λ same. apart (is.cell ∙ ap cell_of_shard same))
    in
    coe 0 1 (i. purged_after_move (other i) (Work (call_job c) is.outcome) (was_purged number es) epoch ≡ true)
    (coe 0 1 (i. was_purged number (is.is i ∷ es) epoch ≡ true) p)
other-cell o number caller k es (call.Mail c) (answer.Mail a) event apart is epoch p =
    mail-event number is.0 es c a event is.3 epoch p
other-cell o number caller k es c a event apart is epoch p = absurd is

-- ---- an event on the shard's cell

abbrev job_in : WorkerMove → CoreJob
job_in (Work job answer) = job
job_in move = Flush

abbrev is_purge : CoreJob → Bool
is_purge (Purge epoch) = true
is_purge job = false

abbrev epoch_in : ℕ → CoreJob → ℕ
epoch_in default (Purge epoch) = epoch
epoch_in default job = default

purge-made : (old new : ShardState) (c : ShardCall) (a : ShardAnswer) (epoch : ℕ) → call_job c ≡ Purge epoch
    → ShardStep old c a new → HasNoMarksUpTo epoch new
purge-made old new (shard.Purge e) a epoch is step =
    coe 0 1 (i. HasNoMarksUpTo (ap (epoch_in e) is i) new) (marks-go e old new a step)
purge-made old new (shard.Append cube shape e rows) a epoch is step = absurd (false≢true (ap is_purge is))
purge-made old new (shard.DropBox cube shape e box) a epoch is step = absurd (false≢true (ap is_purge is))
purge-made old new (shard.Scan shape query snapshot) a epoch is step = absurd (false≢true (ap is_purge is))
purge-made old new (shard.Delta shape query from to) a epoch is step = absurd (false≢true (ap is_purge is))
purge-made old new (shard.Rollback e) a epoch is step = absurd (false≢true (ap is_purge is))
purge-made old new (shard.CopyRound from to) a epoch is step = absurd (false≢true (ap is_purge is))

shard-event : (o : Opening) (number : ℕ) (es : List CoreEvent) (c : ShardCall) (a : ShardAnswer) (outcome : JobOutcome)
    (old new : ShardState) → IsCoreRun o (At number (Work (call_job c) outcome) ∷ es) → ShardStep old c a new
    → ((epoch : ℕ) → was_purged number es epoch ≡ true → HasNoMarksUpTo epoch old) → (epoch : ℕ)
    → was_purged number (At number (Work (call_job c) outcome) ∷ es) epoch ≡ true → HasNoMarksUpTo epoch new
shard-event o number es c a outcome old new run step before epoch p =
    elim (purged-cases (number == number) (Work (call_job c) outcome) (was_purged number es) epoch p) [
      | inl now ↦ purge-made old new c a epoch (ap job_in now.1) step
      | inr was ↦
          marks-stay epoch old new c a
          (marks-above o es number epoch (call_job c) outcome run (purged-low o es number epoch run.0 was)) step
          (before epoch was)
    ]

own-cell : (o : Opening) (number caller k : ℕ) (es : List CoreEvent) (x : CoreCell CoreShard) (c : CoreCall)
    (a : CoreAnswer) (z : CoreCell CoreShard) (event : CoreEvent) → k ≡ cell_of_shard number
    → OfEvent o es caller k c a event → IsCoreRun o (event ∷ es) → CoreStep CoreShardStep x c a z
    → IsCleared number es x → IsCleared number (event ∷ es) z
own-cell o number caller k es (cell.Shard s) (call.Shard c) (answer.Shard a) (cell.Shard t) event here is run
    step before =
    let at = is.cell in
    let same : is.number ≡ number = omega (arith, at, here) in
    let move : event ≡ At number (Work (call_job c) is.outcome) =
    is.is ∙ ap (λ (n : ℕ). At n (Work (call_job c) is.outcome)) same
    in
    λ epoch p.
    shard-event o number es c a is.outcome s.shard t.shard (coe 0 1 (i. IsCoreRun o (move i ∷ es)) run) step before
    epoch
    (coe 0 1 (i. was_purged number (move i ∷ es) epoch ≡ true) p)
own-cell o number caller k es (cell.Desk x same) (call.Desk c) (answer.Desk a) (cell.Desk z other) event here is run
    step before =
    λ epoch p. tt
own-cell o number caller k es (cell.Names x) (call.Names c) (answer.Names a) (cell.Names z) event here is run
    step before =
    λ epoch p. tt
own-cell o number caller k es (cell.Mail x) (call.Mail c) (answer.Mail a) (cell.Mail z) event here is run
    step before =
    λ epoch p. tt
own-cell o number caller k es x c a z event here is run step before = absurd step

-- ---- along the history

all-behind : (o : Opening) (log : List CoreEntry) (start es : List CoreEvent)
    → AreEventsAfter (IsEntryEvent FitsShard CoreShardStands ShardAnswerSays o) start log es
    → (later : List CoreEvent) × (es ≡ later ++ start)
all-behind o [] start es are = ([], sym are)
all-behind o (e ∷ log) start es are =
    let rest = all-behind o log (are.0 ∷ start) es are.2 in
    (rest.0 ++ are.0 ∷ [], rest.1 ∙ sym (append_assoc rest.0 (are.0 ∷ []) start))

run-at : (o : Opening) (log : List CoreEntry) (start es : List CoreEvent)
    → AreEventsAfter (IsEntryEvent FitsShard CoreShardStands ShardAnswerSays o) start log es → IsCoreRun o es
    → IsCoreRun o start
run-at o log start es are run =
    let behind = all-behind o log start es are in
    run-before o behind.0 start (coe 0 1 (i. IsCoreRun o (behind.1 i)) run)

one-entry : (o : Opening) (number : ℕ) (e : CoreEntry) (rest : List CoreEntry) (start : List CoreEvent)
    (event : CoreEvent) (x y : CoreCell CoreShard) (here : Bool) → (e.cell == cell_of_shard number) ≡ here
    → OfEvent o start e.caller e.cell e.call e.answer event → IsCoreRun o (event ∷ start)
    → LeadsTo (CoreStep CoreShardStep) x (cond here (e ∷ rest) rest) y → IsCleared number start x
    → (z : CoreCell CoreShard) × LeadsTo (CoreStep CoreShardStep) z rest y × IsCleared number (event ∷ start) z
one-entry o number e rest start event x y true here is run leads before = (
  leads.0,
  leads.2,
  own-cell o number e.caller e.cell start x e.call e.answer leads.0 event
      (eqb-true e.cell (cell_of_shard number) here) is run leads.1 before,
)
one-entry o number e rest start event x y false here is run leads before = (
  x,
  leads,
  λ epoch p.
      before epoch (other-cell o number e.caller e.cell start e.call e.answer event
      (λ same. true≢false (sym (eq-eqb e.cell (cell_of_shard number) same) ∙ here)) is epoch p),
)

pub cleared : (o : Opening) (number : ℕ) (log : List CoreEntry) (start es : List CoreEvent) (x y : CoreCell CoreShard)
    → AreEventsAfter (IsEntryEvent FitsShard CoreShardStands ShardAnswerSays o) start log es → IsCoreRun o es
    → LeadsTo (CoreStep CoreShardStep) x (of_cell (cell_of_shard number) log) y → IsCleared number start x
    → IsCleared number es y
cleared o number [] start es x y are run leads before = coe 0 1 (i. IsCleared number (are i) (leads i)) before
cleared o number (e ∷ log) start es x y are run leads before =
    let rest = of_cell (cell_of_shard number) log in
    let next = one-entry o number e rest start are.0 x y (e.cell == cell_of_shard number) refl are.1
    (run-at o log (are.0 ∷ start) es are.2 run) leads before
    in
    cleared o number log (are.0 ∷ start) es next.0 y are.2 run next.1 next.2

pub cell-cleared : (o : Opening) (number epoch : ℕ) (log : List CoreEntry) (es : List CoreEvent)
    (x y : CoreCell CoreShard)
    → AreEventsAfter (IsEntryEvent FitsShard CoreShardStands ShardAnswerSays o) [] log es → IsCoreRun o es
    → LeadsTo (CoreStep CoreShardStep) x (of_cell (cell_of_shard number) log) y → was_purged number es epoch ≡ true
    → CellHasNoMarksUpTo epoch y
cell-cleared o number epoch log es x y are run leads p =
    cleared o number log [] es x y are run leads (λ e none. absurd (false≢true none)) epoch p
