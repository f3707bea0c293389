-- Each entry of a session is one call of it, so that entries and calls are as many.
use Rattle.std.proofs.Common.{◌≡◌, ◌∙◌, ℕ, suc, ◌+◌, ◌≤◌, Bool, nat_le, List, [], ◌∷◌, ◌++◌, length, refl, sym, ap, arith, eq-eqb, leb-true, length-append, if◌then◌else◌, true, false}
use Rattle.std.specs.List.{AllByRecursion}
use Rattle.cube_core.specs.Links.{AreEventsAfter}
use Rattle.core_cells.specs.declared.mail.MailAnswer.{MailAnswer}
use Rattle.core_cells.specs.declared.mail.MailAnswer.TheVariants as got
use Rattle.core_cells.specs.declared.mail.MailCall.{MailCall}
use Rattle.core_cells.specs.declared.mail.MailCall.TheVariants as mail
use Rattle.core_events.specs.Clients.{calls_of, client_state}
use Rattle.core_events.specs.Events.{Opening, IsSession, flusher, Post, Fetch, NoChange, ClientCall, CoreEvent, By}
use Rattle.core_events.specs.Jobs.{CoreJob, JobOutcome}
use Rattle.core_events.specs.ShardView.{ShardView}
use Rattle.cube_core.specs.DeskEvents.{desk_event}
use Rattle.cube_core.specs.MailEvents.{IsMailEvent}
use Rattle.cube_core.specs.NamesEvents.{names_event}
use Rattle.cube_core.proofs.OwnEntries.{client-low}
use Rattle.cube_core.specs.BoardCells.{AnswerSays, IsByItself, IsEntryEvent, IsEventOf, client_of, job_asked}
use Rattle.core_program.specs.CoreFits.{CoreEntry}
use Rattle.cube_core.specs.declared.cell.CoreAnswer.{CoreAnswer}
use Rattle.cube_core.specs.declared.cell.CoreAnswer.TheVariants as answer
use Rattle.cube_core.specs.declared.cell.CoreCall.{CoreCall}
use Rattle.cube_core.specs.declared.cell.CoreCall.TheVariants as call
use Rattle.cube_core.specs.declared.jobs.Job.{Job as CellJob}
use Rattle.cube_core.specs.declared.jobs.JobAnswer.{JobAnswer}
use Rattle.cube_core.specs.declared.shard.ShardAnswer.{ShardAnswer}
use Rattle.cube_core.specs.declared.shard.ShardCall.{ShardCall}
use Rattle.known_cubes.proofs.OwnCalls.{IsBy}
use Rattle.mail_cell.specs.declared.answer.Fetched.TheVariants.{Got, NotYet}
use Rattle.mail_cell.specs.declared.answer.Taken.TheVariants.{Job, Empty, Closed}

-- Lists that are one list, of which the last parts are as long, have the same last part.
pub same-last : {X : Type 0} (xs ys a b : List X) → xs ++ a ≡ ys ++ b → length a ≡ length b → a ≡ b
same-last [] [] a b whole long = whole
same-last [] (y ∷ ys) a b whole long =
    let more = ap (λ l. length l) whole in
    let parts = length-append ys b in
    absurd (omega (arith, more, parts, long))
same-last (x ∷ xs) [] a b whole long =
    let more = ap (λ l. length l) whole in
    let parts = length-append xs a in
    absurd (omega (arith, more, parts, long))
same-last (x ∷ xs) (y ∷ ys) a b whole long = same-last xs ys a b (ap behind whole) long
  where
    behind : {X : Type 0} → List X → List X
    behind [] = []
    behind (z ∷ zs) = zs

-- The caller of a session has its number.
pub caller-is : (o : Opening) (caller client : ℕ) → client ≡ client_of o caller → IsSession o client
    → (caller ≤ o.sessions) × (client ≡ caller)
caller-is o caller client is session = at (nat_le caller o.sessions) refl is
  where
    at : (t : Bool) → nat_le caller o.sessions ≡ t → client ≡ (if t then caller else flusher o)
        → (caller ≤ o.sessions) × (client ≡ caller)
    at true low same = (leb-true caller o.sessions low, same)
    at false high same = let last = session.last in absurd (omega (arith, same, last))

module _ {S : Type 0} (fits : Opening → ℕ → ShardCall → Type 0) (stands : Opening → ℕ → ℕ → S → ShardView → Type 0)
    (says : CoreJob → ShardAnswer → JobOutcome → Type 0) (o : Opening) (caller : ℕ) (first : 1 ≤ caller)
    (low : caller ≤ o.sessions) where
  abbrev IsOwnCall : CoreEvent → Type 0
  IsOwnCall x = (c : ClientCall) × (x ≡ By caller c)

  itself : (b client : ℕ) → b ≡ caller → client ≡ client_of o b → client ≡ caller
  itself b client mine is = is ∙ ap (client_of o) mine ∙ client-low o caller low

  mail-call : (b number : ℕ) (es : List CoreEvent) (c : MailCall CellJob JobAnswer) (a : MailAnswer CellJob JobAnswer)
      (x : CoreEvent) → b ≡ caller → IsByItself o b number c → IsMailEvent job_asked (AnswerSays says) es number c a x
      → IsOwnCall x
  mail-call b number es (mail.Post client job) got.Done x mine own is =
      (Post number (job_asked job), is ∙ ap (λ (n : ℕ). By n (Post number (job_asked job))) (itself b client mine own.1))
  mail-call b number es mail.Take (got.Taken (Job client job)) x mine own is = absurd (omega (arith, own, mine, low))
  mail-call b number es mail.Take (got.Taken Empty) x mine own is = absurd (omega (arith, own, mine, low))
  mail-call b number es mail.Take (got.Taken Closed) x mine own is = absurd (omega (arith, own, mine, low))
  mail-call b number es (mail.Reply client said) got.Done x mine own is = absurd (omega (arith, own, mine, low))
  mail-call b number es (mail.Fetch client) (got.Fetched (Got said)) x mine own is =
      (Fetch number is.outcome, is.is ∙ ap (λ (n : ℕ). By n (Fetch number is.outcome)) (itself b client mine own.1))
  mail-call b number es (mail.Fetch client) (got.Fetched NotYet) x mine own is =
      (NoChange, is ∙ ap (λ (n : ℕ). By n NoChange) (itself b client mine own.1))
  mail-call b number es mail.Close got.Done x mine own is = absurd (omega (arith, own, mine, first))
  mail-call b number es c a x mine own is = absurd is

  own-call : (b k : ℕ) (es : List CoreEvent) (c : CoreCall) (a : CoreAnswer) (x : CoreEvent) → b ≡ caller
      → IsEventOf fits stands says o es b k c a x → IsOwnCall x
  own-call b k es (call.Desk c) (answer.Desk a) x mine is =
      let n = client_of o b in
      let made : ClientCall = desk_event n (client_state o n es) c a in
      (made, is.2 ∙ ap (λ (m : ℕ). By m made) (ap (client_of o) mine ∙ client-low o caller low))
  own-call b k es (call.Names c) (answer.Names a) x mine is = (
    names_event c a,
    is.1 ∙ ap (λ (m : ℕ). By m (names_event c a)) (ap (client_of o) mine ∙ client-low o caller low),
  )
  own-call b k es (call.Shard c) (answer.Shard a) x mine is =
      let own = is.own in absurd (omega (arith, own, mine, low))
  own-call b k es (call.Mail c) (answer.Mail a) x mine is = mail-call b is.0 es c a x mine is.2 is.3
  own-call b k es c a x mine is = absurd is

  one-longer : (x : CoreEvent) (es : List CoreEvent) → IsOwnCall x
      → length (calls_of caller (x ∷ es)) ≡ suc (length (calls_of caller es))
  one-longer x es is =
      ap (λ (y : CoreEvent). length (calls_of caller (y ∷ es))) is.1
      ∙ ap (λ (t : Bool). length (if t then is.0 ∷ calls_of caller es else calls_of caller es)) (eq-eqb caller caller refl)

  calls-after : (own : List CoreEntry) (earlier es : List CoreEvent) → AllByRecursion (IsBy caller) own
      → AreEventsAfter (IsEntryEvent fits stands says o) earlier own es
      → length (calls_of caller es) ≡ length own + length (calls_of caller earlier)
  calls-after [] earlier es by are =
      let same : length (calls_of caller es) ≡ length (calls_of caller earlier) =
      ap (λ (l : List CoreEvent). length (calls_of caller l)) (sym are)
      in
      omega (arith, same)
  calls-after (e ∷ own) earlier es by are =
      let rest = calls-after own (are.0 ∷ earlier) es by.1 are.2 in
      let one = one-longer are.0 earlier (own-call e.caller e.cell earlier e.call e.answer are.0 by.0 are.1) in
      omega (arith, rest, one)

  pub calls-long : (own : List CoreEntry) (es : List CoreEvent) → AllByRecursion (IsBy caller) own
      → AreEventsAfter (IsEntryEvent fits stands says o) [] own es → length (calls_of caller es) ≡ length own
  calls-long own es by are = let all = calls-after own [] es by are in omega (arith, all)
