-- Groups of jobs, before the first job and after the last answer.
-- Source: Cubrick (VLDB 2016), one request that goes to all shards; what a group allows next is this project's own.
use Rattle.std.specs.Prelude.{◌≡◌, ℕ, ◌+◌, true, List, [], ◌∷◌, Some}
use Rattle.core_events.specs.Clients.{ClientState}
use Rattle.core_events.specs.Events.{Opening}
use Rattle.core_events.specs.Fitting.{Bears}
use Rattle.core_events.specs.Groups.{GroupKind, Puts, Drops, Flushes, JobGroup, Received, has_all_below, has_ended, mails_of, may_begin}
use Rattle.core_events.specs.Jobs.{CoreJob, JobOutcome}

-- A client may begin a group by a job on a mail: its last group has ended, the job may come next, and it bears what the
-- client holds, in whatever group that then is.
pub record MayBeginBy (o : Opening) (a mail : ℕ) (job : CoreJob) (k : ClientState) : Type 0 where
  pub ended : has_ended o.shards k.group ≡ true
  pub begins : may_begin o.shards job k.group ≡ true
  pub bears : (g : JobGroup) → Bears o a mail job (record k { group = g })

-- A group of a kind of which no answer is out.
pub record HasNoneOut (kind : GroupKind) (g : JobGroup) : Type 0 where
  pub kind_is : g.kind ≡ kind
  pub none_out : g.waits ≡ []

-- One in which each shard has answered besides.
pub record HasAllAnswers (shards : ℕ) (kind : GroupKind) (g : JobGroup) : Type 0 where
  pub fetched : HasNoneOut kind g
  pub all : has_all_below shards (mails_of g.answers) ≡ true

-- One that wrote: batches of rows, on whatever shards, or a deletion on each.
abbrev pub HasWritten : ℕ → GroupKind → JobGroup → Type 0
HasWritten shards Puts g = HasNoneOut Puts g
HasWritten shards (Drops cube box) g = HasAllAnswers shards (Drops cube box) g
HasWritten shards kind g = ⊥

-- What a client knows once a FLUSH that began a group is answered by the flusher's mail.
abbrev pub with_round_answer : ℕ → JobOutcome → ClientState → ClientState
with_round_answer mail outcome k = record k {
  group = record { kind = Flushes; waits = []; answers = record { mail = mail; answer = outcome } ∷ [] };
  flush = Some outcome;
}

-- A function receives outcomes of one mail after the other, from a number on, and puts them before older answers.
pub record ReceivesInTurn (receive : ℕ → List JobOutcome → List Received → List Received) : Type 0 where
  pub none : (number : ℕ) (older : List Received) → receive number [] older ≡ older
  pub more : (number : ℕ) (outcome : JobOutcome) (outcomes : List JobOutcome) (older : List Received)
      → receive number (outcome ∷ outcomes) older
      ≡ receive (number + 1) outcomes (record { mail = number; answer = outcome } ∷ older)
