-- A job that waits at a mail suits its server, and so does one that is taken.
use Rattle.std.proofs.Common.{ℕ, Bool, true, false, List, [], ◌∷◌, ◌++◌, drop, sym, subst}
use Rattle.mail_cell.specs.declared.answer.Taken.{Taken}
use Rattle.mail_cell.specs.declared.place.Post.{Post}
use Rattle.mail_cell.specs.State.{MailState}
use Rattle.mail_cell.specs.Steps.{taken}
use Rattle.core_cells.specs.MailCalls.{MailStep}
use Rattle.core_cells.specs.declared.mail.MailAnswer.{MailAnswer}
use Rattle.core_cells.specs.declared.mail.MailAnswer.TheVariants as got
use Rattle.core_cells.specs.declared.mail.MailCall.{MailCall}
use Rattle.core_cells.specs.declared.mail.MailCall.TheVariants as mail
use Rattle.cube_core.specs.declared.jobs.Job.{Job}
use Rattle.cube_core.specs.declared.jobs.JobAnswer.{JobAnswer}
use Rattle.cube_core.specs.declared.shard.ShardCall.{ShardCall}
use Rattle.core_events.specs.Events.{Opening}
use Rattle.cube_core.specs.BoardCells.{WorkSuits, PostSuits, JobsSuit, TakenSuits, TakeSuits}

module _ (fits : Opening → ℕ → ShardCall → Type 0) (o : Opening) (number : ℕ) where
  abbrev Suit : List (Post Job) → Type 0
  Suit posted = JobsSuit fits o number posted

  behind-suits : (posted : List (Post Job)) (last : Post Job) → Suit posted → WorkSuits fits o number last.job.work
      → Suit (posted ++ last ∷ [])
  behind-suits [] last all suits = (suits, tt)
  behind-suits (p ∷ posted) last all suits = (all.0, behind-suits posted last all.1 suits)

  rest-suits : (posted : List (Post Job)) → Suit posted → Suit (drop 1 posted)
  rest-suits [] all = tt
  rest-suits (p ∷ posted) all = all.1

  first-suits : (posted : List (Post Job)) (closed : Bool) → Suit posted → TakenSuits fits o number (taken posted closed)
  first-suits (p ∷ posted) closed all = all.0
  first-suits [] true all = tt
  first-suits [] false all = tt

  -- After a call on the mail.
  pub waiting-suit : (c : MailCall Job JobAnswer) (a : MailAnswer Job JobAnswer) (m new : MailState Job JobAnswer)
      → MailStep m c a new → PostSuits fits o number c → Suit m.posted → Suit new.posted × TakeSuits fits o number a
  waiting-suit (mail.Post client job) got.Done m new step suits all = (
    subst (λ (s : MailState Job JobAnswer). Suit s.posted) (sym step)
        (behind-suits m.posted (record { client = client; job = job }) all suits),
    tt,
  )
  waiting-suit mail.Take (got.Taken answer) m new step suits all = (
    subst (λ (s : MailState Job JobAnswer). Suit s.posted) (sym step.1) (rest-suits m.posted all),
    subst (λ (t : Taken Job). TakenSuits fits o number t) (sym step.0) (first-suits m.posted m.closed all),
  )
  waiting-suit (mail.Reply client said) got.Done m new step suits all =
      (subst (λ (s : MailState Job JobAnswer). Suit s.posted) (sym step) all, tt)
  waiting-suit (mail.Fetch client) (got.Fetched answer) m new step suits all =
      (subst (λ (s : MailState Job JobAnswer). Suit s.posted) (sym step.1) all, tt)
  waiting-suit mail.Close got.Done m new step suits all =
      (subst (λ (s : MailState Job JobAnswer). Suit s.posted) (sym step) all, tt)
  waiting-suit c a m new step suits all = absurd step
