-- The jobs of a client in groups: one batch of rows, one box, one query, one rollback or one purge, with at most one
-- job for each shard.
-- Source: Cubrick (VLDB 2016), one request that goes to all shards; what a group allows next is this project's own.
use Rattle.std.specs.Prelude.{ℕ, Bool, true, false, not, ◌&&◌, ◌||◌, ◌==◌, zero, suc, List, [], ◌∷◌, map, filter, if◌then◌else◌}
use Rattle.std.specs.List.{list_any}
use Rattle.cube_values.specs.declared.query.BoundQuery.{BoundQuery}
use Rattle.cube_values.specs.declared.snapshot.Snapshot.{Snapshot}
use Rattle.cube_values.specs.declared.span.Span.{Span}
use Rattle.core_events.specs.Jobs.{CoreJob, JobOutcome, Append, DropBox, Scan, Delta, Rollback, Purge, CopyRound, Flush, is_refusal}

-- What a group does. Before the first job, and once a snapshot is opened or ended, there is none.
pub data GroupKind : Type 0 where
  NoGroup : GroupKind
  Puts : GroupKind
  Drops : (cube : ℕ) (box : Span) → GroupKind
  Asks : (query : BoundQuery) (snapshot : Snapshot) → GroupKind
  Compares : (query : BoundQuery) (from to : ℕ) → GroupKind
  RollsBack : GroupKind
  Purges : (epoch : ℕ) → GroupKind
  Copies : (from to : ℕ) → GroupKind
  Flushes : GroupKind

abbrev pub kind_of : CoreJob → GroupKind
kind_of (Append cube epoch rows) = Puts
kind_of (DropBox cube epoch box) = Drops cube box
kind_of (Scan query snapshot) = Asks query snapshot
kind_of (Delta query from to) = Compares query from to
kind_of (Rollback epoch) = RollsBack
kind_of (Purge epoch) = Purges epoch
kind_of (CopyRound from to) = Copies from to
kind_of Flush = Flushes

-- An answer that the client fetched, with its mail.
pub record Received : Type 0 where
  pub mail : ℕ
  pub answer : JobOutcome

-- A group: the mails whose answer the client has not fetched, and the answers that it has, the newest first.
pub record JobGroup : Type 0 where
  pub kind : GroupKind
  pub waits : List ℕ
  pub answers : List Received

abbrev pub no_group : JobGroup
no_group = record { kind = NoGroup; waits = []; answers = [] }

abbrev pub has_number : List ℕ → ℕ → Bool
has_number numbers n = list_any (λ x. x == n) numbers

abbrev pub numbers_without : ℕ → List ℕ → List ℕ
numbers_without n numbers = filter (λ x. not (x == n)) numbers

abbrev pub is_empty : List ℕ → Bool
is_empty [] = true
is_empty (n ∷ numbers) = false

-- Each number below n is there.
abbrev pub has_all_below : ℕ → List ℕ → Bool
has_all_below zero numbers = true
has_all_below (suc n) numbers = has_number numbers n && has_all_below n numbers

abbrev pub mails_of : List Received → List ℕ
mails_of answers = map (λ r. r.mail) answers

abbrev pub has_refusal : List Received → Bool
has_refusal answers = list_any (λ r. is_refusal r.answer) answers

-- A group without open answers is complete where each shard answered or one refused; a batch of rows always is, since
-- it need not have rows for each shard. After a rollback comes nothing but the end of the transaction.
abbrev pub is_complete : ℕ → GroupKind → Bool → List ℕ → Bool
is_complete shards NoGroup refused mails = true
is_complete shards Puts refused mails = true
is_complete shards Flushes refused mails = true
is_complete shards RollsBack refused mails = false
is_complete shards kind refused mails = refused || has_all_below shards mails

abbrev pub has_ended : ℕ → JobGroup → Bool
has_ended shards g =
    is_empty g.waits && is_complete shards g.kind (has_refusal g.answers) (mails_of g.answers)

-- After a write that was refused only a rollback may follow.
abbrev pub is_spoiled : GroupKind → Bool → Bool
is_spoiled Puts refused = refused
is_spoiled (Drops cube box) refused = refused
is_spoiled kind refused = false

abbrev pub is_ready : ℕ → JobGroup → Bool
is_ready shards g = has_ended shards g && not (is_spoiled g.kind (has_refusal g.answers))

abbrev pub may_begin : ℕ → CoreJob → JobGroup → Bool
may_begin shards (Rollback epoch) g = has_ended shards g
may_begin shards job g = is_ready shards g

-- A job begins a group where the last one has ended, and else joins it.
abbrev pub group_after_post : ℕ → ℕ → CoreJob → JobGroup → JobGroup
group_after_post shards mail job g =
    if has_ended shards g then record { kind = kind_of job; waits = mail ∷ []; answers = [] }
    else record g { waits = mail ∷ g.waits }

abbrev pub group_after_fetch : ℕ → JobOutcome → JobGroup → JobGroup
group_after_fetch mail answer g = record g {
  waits = numbers_without mail g.waits;
  answers = record { mail = mail; answer = answer } ∷ g.answers;
}
