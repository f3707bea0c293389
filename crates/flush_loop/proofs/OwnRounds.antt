-- What the flusher may reply once a round has ended.
use Rattle.std.proofs.Common.{◌≡◌, ◌≢◌, ◌∙◌, ℕ, Bool, List, [], ◌∷◌, ◌++◌, map, refl, ap, subst, sym}
use Rattle.std.specs.List.{AllByRecursion}
use Rattle.aosi_desk.specs.declared.answer.RoundAnswer.TheVariants.{Nothing, Target}
use Rattle.aosi_desk.specs.declared.answer.RoundEnd.TheVariants as end
use Rattle.cube_core.specs.BoardCells.{AnswerSays}
use Rattle.core_events.specs.Cells.{worker_of}
use Rattle.core_events.specs.Events.{Opening, RoundClose, RoundOpen, OnDesk, ClientCall, CoreEvent, By}
use Rattle.core_events.specs.Fitting.{AllSaved, FlushSays, NoRound, RoundProgress, round_progress}
use Rattle.core_events.specs.Jobs.{CoreJob, JobOutcome}
use Rattle.cube_core.specs.declared.jobs.JobAnswer.TheVariants as reply
use Rattle.cube_core.specs.declared.shard.ShardAnswer.{ShardAnswer}
use Rattle.cube_journal.specs.declared.journal_entry.LostCause.TheVariants.{Disk, Memory}
use Rattle.flush_loop.specs.RoundResults.{AreOfRound, HaveClosedRound, HaveFoundNothing, flush_answer, flush_outcome, loses_store}
use Rattle.flush_loop.specs.declared.round_result.RoundResult.{RoundResult}
use Rattle.flush_loop.specs.declared.round_result.RoundResult.TheVariants.{Safe, Idle, Lost, NoMemory}
use Rattle.flusher_rounds.proofs.Replies.{nothing, opened, saved, within}
use Rattle.flusher_rounds.specs.FlushReplies.{IsWithinRound}

-- Calls as events.

abbrev pub by_calls : ℕ → List ClientCall → List CoreEvent → List CoreEvent
by_calls a calls es = map (λ c. By a c) calls ++ es

map-both : (a : ℕ) (xs ys : List ClientCall) (es : List CoreEvent) → by_calls a (xs ++ ys) es ≡ by_calls a xs (by_calls a ys es)
map-both a [] ys es = refl
map-both a (x ∷ xs) ys es = ap (λ (l : List CoreEvent). By a x ∷ l) (map-both a xs ys es)

-- They leave what a worker has.
pub worker-left : (a mail : ℕ) (calls : List ClientCall) (es : List CoreEvent) → worker_of mail (by_calls a calls es) ≡ worker_of mail es
worker-left a mail [] es = refl
worker-left a mail (c ∷ calls) es = worker-left a mail calls es

-- How far the rounds have come.

module _ (o : Opening) (a : ℕ) (es : List CoreEvent) where
  abbrev progress : List ClientCall → RoundProgress
  progress calls = round_progress o (by_calls a calls es)

  behind : (xs ys : List ClientCall) → AllByRecursion IsWithinRound xs → progress (xs ++ ys) ≡ progress ys
  behind xs ys all = ap (round_progress o) (map-both a xs ys es) ∙ within o a xs (by_calls a ys es) all

  safe-saved : (epoch : ℕ) (calls : List ClientCall) → HaveClosedRound epoch end.Safe calls → progress calls ≡ AllSaved
  safe-saved epoch calls has =
      let open_it = OnDesk (RoundOpen (Target has.from epoch)) in
      let rest = has.between ++ open_it ∷ has.earlier in
      let some : progress rest ≢ NoRound =
      subst (λ (p : RoundProgress). p ≢ NoRound) (sym (behind has.between (open_it ∷ has.earlier) has.within))
      (opened has.from epoch (progress has.earlier))
      in
      ap progress has.whole
      ∙ behind has.later (OnDesk (RoundClose epoch end.Safe) ∷ rest) has.after
      ∙ saved epoch (progress rest) some

  idle-saved : (epoch : ℕ) (calls : List ClientCall) → HaveFoundNothing epoch calls → progress calls ≡ AllSaved
  idle-saved epoch calls has =
      ap progress has.whole
      ∙ behind has.later (OnDesk (RoundOpen (Nothing epoch)) ∷ has.earlier) has.after
      ∙ nothing epoch (progress has.earlier)

  -- So the flusher may say how the round ended.
  pub says-so : (result : RoundResult) (calls : List ClientCall) (lost : Bool) → AreOfRound result calls → lost ≡ loses_store result
      → FlushSays (progress calls) lost (flush_outcome result)
  says-so (Safe epoch) calls lost of is = safe-saved epoch calls of
  says-so (Idle epoch) calls lost of is = idle-saved epoch calls of
  says-so (Lost Disk) calls lost of is = is
  says-so (Lost Memory) calls lost of is = tt
  says-so NoMemory calls lost of is = tt

-- The outcome for which its reply stands.

pub stands-so : (says : CoreJob → ShardAnswer → JobOutcome → Type 0) (job : CoreJob) (result : RoundResult)
    → AnswerSays says job (reply.Flush (flush_answer result)) (flush_outcome result)
stands-so says job (Safe epoch) = refl
stands-so says job (Idle epoch) = refl
stands-so says job (Lost Disk) = refl
stands-so says job (Lost Memory) = refl
stands-so says job NoMemory = refl

pub outcome-is : (says : CoreJob → ShardAnswer → JobOutcome → Type 0) (job : CoreJob) (result : RoundResult) (outcome : JobOutcome)
    → AnswerSays says job (reply.Flush (flush_answer result)) outcome → outcome ≡ flush_outcome result
outcome-is says job (Safe epoch) outcome stands = stands
outcome-is says job (Idle epoch) outcome stands = stands
outcome-is says job (Lost Disk) outcome stands = stands
outcome-is says job (Lost Memory) outcome stands = stands
outcome-is says job NoMemory outcome stands = stands
