-- Each client's calls, and each worker's moves, are made by one caller.
use Rattle.std.proofs.Common.{◌≡◌, ◌≢◌, ◌∙◌, ℕ, ◌+◌, ◌≤◌, ◌==◌, nat_le, Bool, true, false, List, inl, inr, refl, sym, ap, arith, ne_eqb, leb-true, leb-false, if◌then◌else◌}
use Rattle.mail_cell.specs.declared.answer.Fetched.TheVariants.{Got, NotYet}
use Rattle.mail_cell.specs.declared.answer.Taken.TheVariants.{Job, Empty, Closed}
use Rattle.core_cells.specs.declared.desk.DeskAnswer.{DeskAnswer}
use Rattle.core_cells.specs.declared.desk.DeskAnswer.TheVariants as said
use Rattle.core_cells.specs.declared.desk.DeskCall.{DeskCall}
use Rattle.core_cells.specs.declared.desk.DeskCall.TheVariants as desk
use Rattle.core_cells.specs.declared.names.NamesAnswer.{NamesAnswer}
use Rattle.core_cells.specs.declared.names.NamesAnswer.TheVariants as told
use Rattle.core_cells.specs.declared.names.NamesCall.{NamesCall}
use Rattle.core_cells.specs.declared.names.NamesCall.TheVariants as names
use Rattle.core_events.specs.Clients.{ClientState, client_state}
use Rattle.cube_core.specs.DeskEvents.{desk_event}
use Rattle.cube_core.specs.NamesEvents.{names_event}
use Rattle.core_cells.specs.declared.mail.MailAnswer.{MailAnswer}
use Rattle.core_cells.specs.declared.mail.MailAnswer.TheVariants as got
use Rattle.core_cells.specs.declared.mail.MailCall.{MailCall}
use Rattle.core_cells.specs.declared.mail.MailCall.TheVariants as mail
use Rattle.cube_core.specs.declared.cell.CoreAnswer.{CoreAnswer}
use Rattle.cube_core.specs.declared.cell.CoreAnswer.TheVariants as answer
use Rattle.cube_core.specs.declared.cell.CoreCall.{CoreCall}
use Rattle.cube_core.specs.declared.cell.CoreCall.TheVariants as call
use Rattle.cube_core.specs.declared.jobs.Job.{Job as CellJob}
use Rattle.cube_core.specs.declared.jobs.JobAnswer.{JobAnswer}
use Rattle.cube_core.specs.declared.shard.ShardAnswer.{ShardAnswer}
use Rattle.cube_core.specs.declared.shard.ShardCall.{ShardCall}
use Rattle.core_events.specs.Events.{Opening, flusher, flush_mail, CoreEvent, By}
use Rattle.core_events.specs.Jobs.{CoreJob, JobOutcome}
use Rattle.core_events.specs.ShardView.{ShardView}
use Rattle.cube_core.specs.MailEvents.{IsMailEvent}
use Rattle.cube_core.specs.Links.{is_call_of, is_move_at, MakesCalls, MakesMoves, is_of_rounds, MakesRounds}
use Rattle.cube_core.specs.BoardCells.{client_of, server_of, IsClientCaller, job_asked, AnswerSays, IsByItself, IsEventOf, IsEntryEvent, IsRoundsOwn}

-- Callers that act as clients are different clients.
pub client-low : (o : Opening) (caller : ℕ) → caller ≤ o.sessions → client_of o caller ≡ caller
client-low o caller low = at (nat_le caller o.sessions) refl
  where
    at : (t : Bool) → nat_le caller o.sessions ≡ t → (if t then caller else flusher o) ≡ caller
    at true is = refl
    at false is = (let above = leb-false caller o.sessions is in absurd (omega (arith, low, above)))

pub client-high : (o : Opening) (caller : ℕ) → caller ≡ server_of o (flush_mail o) → client_of o caller ≡ flusher o
client-high o caller high = at (nat_le caller o.sessions) refl
  where
    at : (t : Bool) → nat_le caller o.sessions ≡ t → (if t then caller else flusher o) ≡ flusher o
    at true is = (let below = leb-true caller o.sessions is in absurd (omega (arith, high, below)))
    at false is = refl

one-client : (o : Opening) (a b : ℕ) → IsClientCaller o a → IsClientCaller o b → client_of o a ≡ client_of o b → a ≡ b
one-client o a b (inl low) (inl low2) same = sym (client-low o a low) ∙ same ∙ client-low o b low2
one-client o a b (inl low) (inr high) same =
    let is : a ≡ o.sessions + 1 = sym (client-low o a low) ∙ same ∙ client-high o b high in absurd (omega (arith, low, is))
one-client o a b (inr high) (inl low) same =
    let is : o.sessions + 1 ≡ b = sym (client-high o a high) ∙ same ∙ client-low o b low in absurd (omega (arith, low, is))
one-client o a b (inr high) (inr high2) same = high ∙ sym high2

not-client : (o : Opening) (a b client : ℕ) → IsClientCaller o a → IsClientCaller o b → client ≡ client_of o b → b ≢ a
    → (client == client_of o a) ≡ false
not-client o a b client act by is other = ne_eqb client (client_of o a) (λ same. other (one-client o b a by act (sym is ∙ same)))

module _ {S : Type 0} (fits : Opening → ℕ → ShardCall → Type 0) (stands : Opening → ℕ → ℕ → S → ShardView → Type 0)
    (says : CoreJob → ShardAnswer → JobOutcome → Type 0) where
  mail-calls : (o : Opening) (a b number : ℕ) (es : List CoreEvent) (c : MailCall CellJob JobAnswer) (x : MailAnswer CellJob JobAnswer)
      (event : CoreEvent) → IsClientCaller o a → b ≢ a → IsByItself o b number c
      → IsMailEvent job_asked (AnswerSays says) es number c x event → is_call_of (client_of o a) event ≡ false
  mail-calls o a b number es (mail.Post client job) got.Done event act other own is =
      ap (is_call_of (client_of o a)) is ∙ not-client o a b client act own.0 own.1 other
  mail-calls o a b number es mail.Take (got.Taken (Job client job)) event act other own is = ap (is_call_of (client_of o a)) is
  mail-calls o a b number es mail.Take (got.Taken Empty) event act other own is = ap (is_call_of (client_of o a)) is
  mail-calls o a b number es mail.Take (got.Taken Closed) event act other own is = ap (is_call_of (client_of o a)) is
  mail-calls o a b number es (mail.Reply client said) got.Done event act other own is = ap (is_call_of (client_of o a)) is.is
  mail-calls o a b number es (mail.Fetch client) (got.Fetched (Got said)) event act other own is =
      ap (is_call_of (client_of o a)) is.is ∙ not-client o a b client act own.0 own.1 other
  mail-calls o a b number es (mail.Fetch client) (got.Fetched NotYet) event act other own is =
      ap (is_call_of (client_of o a)) is ∙ not-client o a b client act own.0 own.1 other
  mail-calls o a b number es mail.Close got.Done event act other own is =
      let low : b ≤ o.sessions = omega (arith, own) in
      ap (is_call_of (client_of o a)) is
      ∙ not-client o a b 0 act (inl low) (sym own ∙ sym (client-low o b low)) other
  mail-calls o a b number es c x event act other own is = absurd is

  calls-at : (o : Opening) (a b k : ℕ) (es : List CoreEvent) (c : CoreCall) (x : CoreAnswer) (event : CoreEvent) → IsClientCaller o a
      → b ≢ a → IsEventOf fits stands says o es b k c x event → is_call_of (client_of o a) event ≡ false
  calls-at o a b k es (call.Desk c) (answer.Desk x) event act other is =
      ap (is_call_of (client_of o a)) is.2 ∙ not-client o a b (client_of o b) act is.0 refl other
  calls-at o a b k es (call.Names c) (answer.Names x) event act other is =
      ap (is_call_of (client_of o a)) is.1 ∙ not-client o a b (client_of o b) act is.0 refl other
  calls-at o a b k es (call.Shard c) (answer.Shard x) event act other is = ap (is_call_of (client_of o a)) is.is
  calls-at o a b k es (call.Mail c) (answer.Mail x) event act other is = mail-calls o a b is.0 es c x event act other is.2 is.3
  calls-at o a b k es c x event act other is = absurd is

  pub own-calls : (o : Opening) (caller : ℕ) → IsClientCaller o caller
      → MakesCalls (IsEntryEvent fits stands says o) caller (client_of o caller)
  own-calls o caller act es e x other is = calls-at o caller e.caller e.cell es e.call e.answer x act other is

  mail-moves : (o : Opening) (n b number : ℕ) (es : List CoreEvent) (c : MailCall CellJob JobAnswer) (x : MailAnswer CellJob JobAnswer)
      (event : CoreEvent) → b ≢ server_of o n → IsByItself o b number c
      → IsMailEvent job_asked (AnswerSays says) es number c x event → is_move_at n event ≡ false
  mail-moves o n b number es (mail.Post client job) got.Done event other own is = ap (is_move_at n) is
  mail-moves o n b number es mail.Take (got.Taken (Job client job)) event other own is =
      ap (is_move_at n) is ∙ ne_eqb number n (λ same. other (own ∙ ap (server_of o) same))
  mail-moves o n b number es mail.Take (got.Taken Empty) event other own is =
      ap (is_move_at n) is ∙ ne_eqb number n (λ same. other (own ∙ ap (server_of o) same))
  mail-moves o n b number es mail.Take (got.Taken Closed) event other own is =
      ap (is_move_at n) is ∙ ne_eqb number n (λ same. other (own ∙ ap (server_of o) same))
  mail-moves o n b number es (mail.Reply client said) got.Done event other own is =
      ap (is_move_at n) is.is ∙ ne_eqb number n (λ same. other (own ∙ ap (server_of o) same))
  mail-moves o n b number es (mail.Fetch client) (got.Fetched (Got said)) event other own is = ap (is_move_at n) is.is
  mail-moves o n b number es (mail.Fetch client) (got.Fetched NotYet) event other own is = ap (is_move_at n) is
  mail-moves o n b number es mail.Close got.Done event other own is = ap (is_move_at n) is
  mail-moves o n b number es c x event other own is = absurd is

  moves-at : (o : Opening) (n b k : ℕ) (es : List CoreEvent) (c : CoreCall) (x : CoreAnswer) (event : CoreEvent) → b ≢ server_of o n
      → IsEventOf fits stands says o es b k c x event → is_move_at n event ≡ false
  moves-at o n b k es (call.Desk c) (answer.Desk x) event other is = ap (is_move_at n) is.2
  moves-at o n b k es (call.Names c) (answer.Names x) event other is = ap (is_move_at n) is.1
  moves-at o n b k es (call.Shard c) (answer.Shard x) event other is =
      ap (is_move_at n) is.is ∙ ne_eqb is.number n (λ same. other (is.own ∙ ap (server_of o) same))
  moves-at o n b k es (call.Mail c) (answer.Mail x) event other is = mail-moves o n b is.0 es c x event other is.2 is.3
  moves-at o n b k es c x event other is = absurd is

  pub own-moves : (o : Opening) (number : ℕ) → MakesMoves (IsEntryEvent fits stands says o) (server_of o number) number
  own-moves o number es e x other is = moves-at o number e.caller e.cell es e.call e.answer x other is

-- The flusher's rounds.
pub flusher-caller : (o : Opening) (caller : ℕ) → IsClientCaller o caller → client_of o caller ≡ flusher o → caller ≡ server_of o (flush_mail o)
flusher-caller o caller (inl low) same =
    let is : caller ≡ o.sessions + 1 = sym (client-low o caller low) ∙ same in absurd (omega (arith, low, is))
flusher-caller o caller (inr high) same = high

desk-rounds : (o : Opening) (b a : ℕ) (k : ClientState) (c : DeskCall) (x : DeskAnswer) → b ≢ server_of o (flush_mail o) → IsRoundsOwn o b c
    → is_of_rounds o (By a (desk_event a k c x)) ≡ false
desk-rounds o b a k (desk.OpenWrite session statement) (said.Opened s) other own = refl
desk-rounds o b a k (desk.OpenRead number statement) (said.Opened s) other own = refl
desk-rounds o b a k (desk.Commit session statement) said.Done other own = refl
desk-rounds o b a k (desk.AbortEnd session statement cause) said.Done other own = refl
desk-rounds o b a k (desk.CloseRead number statement) said.Done other own = refl
desk-rounds o b a k (desk.Note note) (said.Counted shown) other own = refl
desk-rounds o b a k (desk.CreateCube session statement decl) (said.Created made) other own = refl
desk-rounds o b a k (desk.FindCube session statement name) (said.Found found) other own = refl
desk-rounds o b a k (desk.CubesFrom place) (said.Cubes cubes) other own = refl
desk-rounds o b a k desk.RoundOpen x other own = absurd (other own)
desk-rounds o b a k (desk.RoundClose epoch end) x other own = absurd (other own)
desk-rounds o b a k desk.Counters (said.Counted shown) other own = refl
desk-rounds o b a k desk.StoreFailed (said.Failed failed) other own = refl
desk-rounds o b a k c x other own = refl

names-rounds : (o : Opening) (a : ℕ) (c : NamesCall) (x : NamesAnswer) → is_of_rounds o (By a (names_event c x)) ≡ false
names-rounds o a (names.Encode cube dim shape name) (told.Coded code) = refl
names-rounds o a (names.Find cube dim name) (told.Found number) = refl
names-rounds o a (names.CopyFrom cube dim from) (told.Copied copied) = refl
names-rounds o a c x = refl

module _ {S : Type 0} (fits : Opening → ℕ → ShardCall → Type 0) (stands : Opening → ℕ → ℕ → S → ShardView → Type 0)
    (says : CoreJob → ShardAnswer → JobOutcome → Type 0) where
  mail-rounds : (o : Opening) (b number : ℕ) (es : List CoreEvent) (c : MailCall CellJob JobAnswer) (x : MailAnswer CellJob JobAnswer)
      (event : CoreEvent) → b ≢ server_of o (flush_mail o) → IsByItself o b number c
      → IsMailEvent job_asked (AnswerSays says) es number c x event → is_of_rounds o event ≡ false
  mail-rounds o b number es (mail.Post client job) got.Done event other own is = ap (is_of_rounds o) is
  mail-rounds o b number es mail.Take (got.Taken (Job client job)) event other own is =
      ap (is_of_rounds o) is ∙ ne_eqb number (flush_mail o) (λ same. other (own ∙ ap (server_of o) same))
  mail-rounds o b number es mail.Take (got.Taken Empty) event other own is = ap (is_of_rounds o) is
  mail-rounds o b number es mail.Take (got.Taken Closed) event other own is = ap (is_of_rounds o) is
  mail-rounds o b number es (mail.Reply client said) got.Done event other own is = ap (is_of_rounds o) is.is
  mail-rounds o b number es (mail.Fetch client) (got.Fetched (Got said)) event other own is = ap (is_of_rounds o) is.is
  mail-rounds o b number es (mail.Fetch client) (got.Fetched NotYet) event other own is = ap (is_of_rounds o) is
  mail-rounds o b number es mail.Close got.Done event other own is = ap (is_of_rounds o) is
  mail-rounds o b number es c x event other own is = absurd is

  rounds-at : (o : Opening) (b k : ℕ) (es : List CoreEvent) (c : CoreCall) (x : CoreAnswer) (event : CoreEvent)
      → b ≢ server_of o (flush_mail o) → IsEventOf fits stands says o es b k c x event → is_of_rounds o event ≡ false
  rounds-at o b k es (call.Desk c) (answer.Desk x) event other is =
      ap (is_of_rounds o) is.2 ∙ desk-rounds o b (client_of o b) (client_state o (client_of o b) es) c x other is.1
  rounds-at o b k es (call.Names c) (answer.Names x) event other is =
      ap (is_of_rounds o) is.1 ∙ names-rounds o (client_of o b) c x
  rounds-at o b k es (call.Shard c) (answer.Shard x) event other is = ap (is_of_rounds o) is.is
  rounds-at o b k es (call.Mail c) (answer.Mail x) event other is = mail-rounds o b is.0 es c x event other is.2 is.3
  rounds-at o b k es c x event other is = absurd is

  pub own-rounds : (o : Opening) → MakesRounds o (IsEntryEvent fits stands says o) (server_of o (flush_mail o))
  own-rounds o es e x other is = rounds-at o e.caller e.cell es e.call e.answer x other is
