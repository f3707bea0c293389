-- Which event an entry is hangs on no more than what its caller's own entries tell.
use Rattle.std.proofs.Common.{◌≡◌, ◌∙◌, ℕ, ◌≤◌, ◌<◌, ◌==◌, Bool, true, false, List, [], ◌∷◌, Option, None, inl, inr, refl, sym, ap, subst, arith, if◌then◌else◌}
use Rattle.mail_cell.specs.declared.answer.Fetched.TheVariants.{Got, NotYet}
use Rattle.mail_cell.specs.declared.answer.Taken.TheVariants.{Job, Empty, Closed}
use Rattle.core_cells.specs.declared.mail.MailAnswer.{MailAnswer}
use Rattle.core_cells.specs.declared.mail.MailAnswer.TheVariants as got
use Rattle.core_cells.specs.declared.mail.MailCall.{MailCall}
use Rattle.core_cells.specs.declared.mail.MailCall.TheVariants as mail
use Rattle.cube_core.specs.declared.cell.CoreAnswer.{CoreAnswer}
use Rattle.cube_core.specs.declared.cell.CoreAnswer.TheVariants as answer
use Rattle.cube_core.specs.declared.cell.CoreCall.{CoreCall}
use Rattle.cube_core.specs.declared.cell.CoreCall.TheVariants as call
use Rattle.cube_core.specs.declared.jobs.Job.{Job as CellJob}
use Rattle.cube_core.specs.declared.jobs.JobAnswer.{JobAnswer}
use Rattle.cube_core.specs.declared.shard.ShardAnswer.{ShardAnswer}
use Rattle.cube_core.specs.declared.shard.ShardCall.{ShardCall}
use Rattle.core_events.specs.Cells.{worker_of}
use Rattle.core_events.specs.Clients.{ClientState, calls_of, client_state, state_from_calls}
use Rattle.core_events.specs.Events.{Opening, flusher, flush_mail, OnDesk, OnNames, Post, Fetch, CloseMail, NoChange, ClientCall, Reply, CoreEvent, By, At}
use Rattle.core_events.specs.Jobs.{CoreJob, JobOutcome}
use Rattle.core_events.specs.ShardView.{ShardView}
use Rattle.core_events.proofs.Knowledge.{known-by-calls}
use Rattle.core_events.specs.Histories.{last_after, last_after_post, last_post, job_served}
use Rattle.cube_core.specs.DeskEvents.{desk_event}
use Rattle.cube_core.specs.MailEvents.{HandsOn, IsMailEvent}
use Rattle.cube_core.specs.Links.{HangsOn, IsToldByCaller, MakesCalls}
use Rattle.cube_core.proofs.OwnParts.{told-calls, told-moves, told-rounds}
use Rattle.cube_core.specs.BoardCells.{client_of, server_of, IsClientCaller, job_asked, AnswerSays, IsByItself, IsEventOf, IsEntryEvent, FlusherPart, flusher_part}
use Rattle.cube_core.proofs.OwnEntries.{client-low, client-high, own-calls, own-moves, own-rounds}

-- What a client knows, and its last post to a mail, by its calls.
state-same : (o : Opening) (a : ℕ) (es fs : List CoreEvent) → calls_of a es ≡ calls_of a fs → client_state o a es ≡ client_state o a fs
state-same o a es fs same = known-by-calls o a es ∙ ap (state_from_calls o a) same ∙ sym (known-by-calls o a fs)

abbrev last_in : ℕ → List ClientCall → Option CoreJob
last_in number [] = None
last_in number (c ∷ calls) = last_after number true c (last_in number calls)

post-of : (here own : Bool) (job : CoreJob) (last : Option CoreJob) → own ≡ false → last_after_post here own job last ≡ last
post-of true own job last is = ap (λ (b : Bool). last_after_post true b job last) is
post-of false own job last is = refl

by-one : (number a : ℕ) (own : Bool) (c : ClientCall) (calls : List ClientCall) (last : Option CoreJob) → last ≡ last_in number calls
    → last_after number own c last ≡ last_in number (if own then c ∷ calls else calls)
by-one number a true c calls last is = ap (last_after number true c) is
by-one number a false (Post other job) calls last is = post-of (other == number) false job last refl ∙ is
by-one number a false (OnDesk c) calls last is = is
by-one number a false (OnNames c) calls last is = is
by-one number a false (Fetch other said) calls last is = is
by-one number a false (CloseMail other) calls last is = is
by-one number a false NoChange calls last is = is

last-by-calls : (number a : ℕ) (es : List CoreEvent) → last_post number a es ≡ last_in number (calls_of a es)
last-by-calls number a [] = refl
last-by-calls number a (By b c ∷ es) =
    by-one number a (b == a) c (calls_of a es) (last_post number a es) (last-by-calls number a es)
last-by-calls number a (At other move ∷ es) = last-by-calls number a es

last-same : (number a : ℕ) (es fs : List CoreEvent) → calls_of a es ≡ calls_of a fs → last_post number a es ≡ last_post number a fs
last-same number a es fs same = last-by-calls number a es ∙ ap (last_in number) same ∙ sym (last-by-calls number a fs)

module _ {S : Type 0} (fits : Opening → ℕ → ShardCall → Type 0) (stands : Opening → ℕ → ℕ → S → ShardView → Type 0)
    (says : CoreJob → ShardAnswer → JobOutcome → Type 0) where
  -- The event of a mail's call.
  mail-same : (o : Opening) (b number : ℕ) (es fs : List CoreEvent) (c : MailCall CellJob JobAnswer) (x : MailAnswer CellJob JobAnswer)
      (event : CoreEvent) → (IsClientCaller o b → calls_of (client_of o b) es ≡ calls_of (client_of o b) fs)
      → ((n : ℕ) → b ≡ server_of o n → worker_of n es ≡ worker_of n fs) → IsByItself o b number c
      → IsMailEvent job_asked (AnswerSays says) es number c x event → IsMailEvent job_asked (AnswerSays says) fs number c x event
  mail-same o b number es fs (mail.Post client job) got.Done event calls serves own is = is
  mail-same o b number es fs mail.Take (got.Taken (Job client job)) event calls serves own is = is
  mail-same o b number es fs mail.Take (got.Taken Empty) event calls serves own is = is
  mail-same o b number es fs mail.Take (got.Taken Closed) event calls serves own is = is
  mail-same o b number es fs (mail.Reply client said) got.Done event calls serves own is =
      subst (λ (job : Option CoreJob). HandsOn (AnswerSays says) job said (λ outcome. At number (Reply client outcome)) event)
      (ap job_served (serves number own)) is
  mail-same o b number es fs (mail.Fetch client) (got.Fetched (Got said)) event calls serves own is =
      let same : calls_of client es ≡ calls_of client fs =
      ap (λ (n : ℕ). calls_of n es) own.1 ∙ calls own.0 ∙ ap (λ (n : ℕ). calls_of n fs) (sym own.1)
      in
      subst (λ (job : Option CoreJob). HandsOn (AnswerSays says) job said (λ outcome. By client (Fetch number outcome)) event)
      (last-same number client es fs same) is
  mail-same o b number es fs (mail.Fetch client) (got.Fetched NotYet) event calls serves own is = is
  mail-same o b number es fs mail.Close got.Done event calls serves own is = is
  mail-same o b number es fs c x event calls serves own is = absurd is

  event-same : (o : Opening) (b k : ℕ) (es fs : List CoreEvent) (c : CoreCall) (x : CoreAnswer) (event : CoreEvent)
      → (IsClientCaller o b → calls_of (client_of o b) es ≡ calls_of (client_of o b) fs)
      → ((n : ℕ) → b ≡ server_of o n → worker_of n es ≡ worker_of n fs) → IsEventOf fits stands says o es b k c x event
      → IsEventOf fits stands says o fs b k c x event
  event-same o b k es fs (call.Desk c) (answer.Desk x) event calls serves is = (
    is.0,
    is.1,
    is.2 ∙ ap (λ (s : ClientState). By (client_of o b) (desk_event (client_of o b) s c x)) (state-same o (client_of o b) es fs (calls is.0)),
  )
  event-same o b k es fs (call.Names c) (answer.Names x) event calls serves is = is
  event-same o b k es fs (call.Shard c) (answer.Shard x) event calls serves is = is
  event-same o b k es fs (call.Mail c) (answer.Mail x) event calls serves is =
      (is.0, is.1, is.2, mail-same o b is.0 es fs c x event calls serves is.2 is.3, is.4)
  event-same o b k es fs c x event calls serves is = absurd is

  -- A session or main, a shard's worker, and the flusher.
  pub clients-hang : (o : Opening) (caller : ℕ) → caller ≤ o.sessions → HangsOn (IsEntryEvent fits stands says o) caller (calls_of caller)
  clients-hang o caller low es fs e x mine same is =
      event-same o e.caller e.cell es fs e.call e.answer x
      (λ act. let client : client_of o e.caller ≡ caller = ap (client_of o) mine ∙ client-low o caller low in
      ap (λ (n : ℕ). calls_of n es) client ∙ same ∙ ap (λ (n : ℕ). calls_of n fs) (sym client))
      (λ n serves. absurd (omega (arith, mine, low, serves))) is

  pub workers-hang : (o : Opening) (number : ℕ) → number < o.shards
      → HangsOn (IsEntryEvent fits stands says o) (server_of o number) (worker_of number)
  workers-hang o number below es fs e x mine same is =
      event-same o e.caller e.cell es fs e.call e.answer x
      (λ act. absurd (elim act [
        | inl low ↦ omega (arith, mine, low)
        | inr high ↦ omega (arith, mine, high, below)
      ]))
      (λ n serves. let at : n ≡ number = omega (arith, mine, serves) in
      ap (λ (m : ℕ). worker_of m es) at ∙ same ∙ ap (λ (m : ℕ). worker_of m fs) (sym at)) is

  pub flusher-hangs : (o : Opening) → HangsOn (IsEntryEvent fits stands says o) (server_of o (flush_mail o)) (flusher_part o)
  flusher-hangs o es fs e x mine same is =
      event-same o e.caller e.cell es fs e.call e.answer x
      (λ act. let client : client_of o e.caller ≡ flusher o = client-high o e.caller mine in
      ap (λ (n : ℕ). calls_of n es) client ∙ ap (λ (p : FlusherPart). p.calls) same ∙ ap (λ (n : ℕ). calls_of n fs) (sym client))
      (λ n serves. let at : n ≡ flush_mail o = omega (arith, mine, serves) in
      ap (λ (m : ℕ). worker_of m es) at ∙ ap (λ (p : FlusherPart). p.worker) same ∙ ap (λ (m : ℕ). worker_of m fs) (sym at)) is

  -- And all that is told of the flusher is told of its own entries.
  pub flusher-told : (o : Opening) → IsToldByCaller (IsEntryEvent fits stands says o) (server_of o (flush_mail o)) (flusher_part o)
  flusher-told o =
      let caller = server_of o (flush_mail o) in
      let event = IsEntryEvent fits stands says o in
      let client : client_of o caller ≡ flusher o = client-high o caller refl in
      let calls = told-calls event caller (flusher o)
      (coe 0 1 (i. MakesCalls event caller (client i)) (own-calls fits stands says o caller (inr refl)))
      in
      let moves = told-moves event caller (flush_mail o) (own-moves fits stands says o (flush_mail o)) in
      let rounds = told-rounds o event caller (own-rounds fits stands says o) in
      record {
        next = λ x es fs same i. record {
          calls = calls.next x es fs (ap (λ (p : FlusherPart). p.calls) same) i;
          worker = moves.next x es fs (ap (λ (p : FlusherPart). p.worker) same) i;
          progress = rounds.next x es fs (ap (λ (p : FlusherPart). p.progress) same) i;
        };
        others = λ es e x other is i. record {
          calls = calls.others es e x other is i;
          worker = moves.others es e x other is i;
          progress = rounds.others es e x other is i;
        };
      }
