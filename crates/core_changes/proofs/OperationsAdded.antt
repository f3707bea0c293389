-- What calls add to the operations of a session's transactions, one after the other.
use Rattle.std.proofs.Common.{◌∙◌, ℕ, List, ◌++◌, inr, sym, ap, subst, append_assoc}
use mathlib.Core.List.{IsPrefix}
use Rattle.core_events.specs.Clients.{calls_of}
use Rattle.core_events.specs.Events.{Opening, ClientCall}
use Rattle.core_events.specs.Serial.{CubeOperation}
use Rattle.core_serial.specs.OwnOperations.{operations_by_calls}
use Rattle.core_program.proofs.KnownCalls.{earlier-run}
use Rattle.core_program.specs.CoreFits.{CoreEntry}
use Rattle.core_program.specs.Knowing.{IsLaterRun}
use Rattle.cube_core.specs.declared.cell.CoreCell.{CoreCell}
use Rattle.cube_journal.specs.declared.journal_entry.JournalEntry.{JournalEntry}
use Rattle.linked_shards.specs.CellShards.{CoreShardStands}
use Rattle.shard_events.specs.ShardsInRuns.{FitsShard, ShardAnswerSays}
use Rattle.linked_shards.specs.declared.cell.CoreShard.{CoreShard}
use Rattle.posted_pasts.proofs.AddedCalls.{plain-learns}
use Rattle.posted_pasts.specs.PostsAdded.{AddsAtEpoch, AddsNoOperation, AddsOperations, GoesOnWith, LearnsThat}
use Rattle.shard_statements.specs.OverShards.{LeavesOverShards}

-- What calls of a session add, by what its calls were before and after.
abbrev pub Adding : Type 1
Adding = ℕ → Opening → List ClientCall → List ClientCall → Type 0

none-none : (session : ℕ) (o : Opening) (before mid after : List ClientCall) → AddsNoOperation session o before mid
    → AddsNoOperation session o mid after → AddsNoOperation session o before after
none-none session o before mid after one two = λ cube epoch. two cube epoch ∙ one cube epoch

none-some : (cube epoch : ℕ) (added : List CubeOperation) (session : ℕ) (o : Opening)
    (before mid after : List ClientCall) → AddsNoOperation session o before mid
    → AddsOperations cube epoch added session o mid after → AddsOperations cube epoch added session o before after
none-some cube epoch added session o before mid after one two = record {
  here = two.here ∙ ap (λ (operations : List CubeOperation). added ++ operations) (one cube epoch);
  elsewhere = λ c e away. two.elsewhere c e away ∙ one c e;
}

some-none : (cube epoch : ℕ) (added : List CubeOperation) (session : ℕ) (o : Opening)
    (before mid after : List ClientCall) → AddsOperations cube epoch added session o before mid
    → AddsNoOperation session o mid after → AddsOperations cube epoch added session o before after
some-none cube epoch added session o before mid after one two = record {
  here = two cube epoch ∙ one.here;
  elsewhere = λ c e away. two c e ∙ one.elsewhere c e away;
}

some-some : (cube epoch : ℕ) (first later : List CubeOperation) (session : ℕ) (o : Opening)
    (before mid after : List ClientCall) → AddsOperations cube epoch first session o before mid
    → AddsOperations cube epoch later session o mid after
    → AddsOperations cube epoch (later ++ first) session o before after
some-some cube epoch first later session o before mid after one two = record {
  here =
      two.here
      ∙ ap (λ (operations : List CubeOperation). later ++ operations) one.here
      ∙ sym (append_assoc later first (operations_by_calls o session cube before epoch));
  elsewhere = λ c e away. two.elsewhere c e away ∙ one.elsewhere c e away;
}

epoch-epoch : (epoch session : ℕ) (o : Opening) (before mid after : List ClientCall)
    → AddsAtEpoch epoch session o before mid → AddsAtEpoch epoch session o mid after
    → AddsAtEpoch epoch session o before after
epoch-epoch epoch session o before mid after one two = λ cube other differ. two cube other differ ∙ one cube other differ

module _ (cells : List (CoreCell CoreShard)) (caller session : ℕ) where
  abbrev Learns : Adding → List CoreEntry → List CoreEntry → Type 0
  Learns Adds own now = LearnsThat FitsShard CoreShardStands ShardAnswerSays Adds cells caller session own now

  -- One after the other.
  learns-then : (First Later Both : Adding)
      → ((a : ℕ) (o : Opening) (before mid after : List ClientCall) → First a o before mid → Later a o mid after
      → Both a o before after)
      → (own mid now : List CoreEntry) → IsPrefix mid now → Learns First own mid → Learns Later mid now
      → Learns Both own now
  learns-then First Later Both join own mid now more one two = λ o log run es later are.
      let last : GoesOnWith FitsShard CoreShardStands ShardAnswerSays Later o session mid es =
      two o log run es later are
      in
      let earlier : IsLaterRun FitsShard CoreShardStands ShardAnswerSays cells o caller mid log run =
      earlier-run FitsShard CoreShardStands ShardAnswerSays cells o caller mid more.0 log run
      (subst (λ (l : List CoreEntry). IsLaterRun FitsShard CoreShardStands ShardAnswerSays cells o caller l log run)
      (sym more.1) later)
      in
      let first : GoesOnWith FitsShard CoreShardStands ShardAnswerSays First o session own last.before =
      one o log run last.before earlier last.events
      in
      record {
        before = first.before;
        events = first.events;
        adds =
            join session o (calls_of session first.before) (calls_of session last.before) (calls_of session es)
            first.adds last.adds;
      }

  -- As less is said.
  learns-as : (Adds Also : Adding)
      → ((a : ℕ) (o : Opening) (before after : List ClientCall) → Adds a o before after → Also a o before after)
      → (own now : List CoreEntry) → Learns Adds own now → Learns Also own now
  learns-as Adds Also less own now one = λ o log run es later are.
      let g : GoesOnWith FitsShard CoreShardStands ShardAnswerSays Adds o session own es = one o log run es later are in
      record {
        before = g.before;
        events = g.events;
        adds = less session o (calls_of session g.before) (calls_of session es) g.adds;
      }

  pub plain-none : (own now : List CoreEntry) (added : List JournalEntry)
      → LeavesOverShards cells caller session own now added → Learns AddsNoOperation own now
  plain-none own now added left =
      plain-learns FitsShard CoreShardStands ShardAnswerSays cells caller session own now left.plain

  pub none-then-none : (own mid now : List CoreEntry) → IsPrefix mid now → Learns AddsNoOperation own mid
      → Learns AddsNoOperation mid now → Learns AddsNoOperation own now
  none-then-none own mid now more one two =
      learns-then AddsNoOperation AddsNoOperation AddsNoOperation none-none own mid now more one two

  module _ (cube epoch : ℕ) where
    pub none-then-some : (added : List CubeOperation) (own mid now : List CoreEntry) → IsPrefix mid now
        → Learns AddsNoOperation own mid → Learns (AddsOperations cube epoch added) mid now
        → Learns (AddsOperations cube epoch added) own now
    none-then-some added own mid now more one two =
        learns-then AddsNoOperation (AddsOperations cube epoch added) (AddsOperations cube epoch added)
        (none-some cube epoch added) own mid now more one two

    pub some-then-none : (added : List CubeOperation) (own mid now : List CoreEntry) → IsPrefix mid now
        → Learns (AddsOperations cube epoch added) own mid → Learns AddsNoOperation mid now
        → Learns (AddsOperations cube epoch added) own now
    some-then-none added own mid now more one two =
        learns-then (AddsOperations cube epoch added) AddsNoOperation (AddsOperations cube epoch added)
        (some-none cube epoch added) own mid now more one two

    pub some-then-some : (first later : List CubeOperation) (own mid now : List CoreEntry) → IsPrefix mid now
        → Learns (AddsOperations cube epoch first) own mid → Learns (AddsOperations cube epoch later) mid now
        → Learns (AddsOperations cube epoch (later ++ first)) own now
    some-then-some first later own mid now more one two =
        learns-then (AddsOperations cube epoch first) (AddsOperations cube epoch later)
        (AddsOperations cube epoch (later ++ first)) (some-some cube epoch first later) own mid now more one two

    pub some-at-epoch : (added : List CubeOperation) (own now : List CoreEntry)
        → Learns (AddsOperations cube epoch added) own now → Learns (AddsAtEpoch epoch) own now
    some-at-epoch added own now one =
        learns-as (AddsOperations cube epoch added) (AddsAtEpoch epoch)
        (λ a o before after adds c other differ. adds.elsewhere c other (inr differ)) own now one

  pub none-at-epoch : (epoch : ℕ) (own now : List CoreEntry) → Learns AddsNoOperation own now
      → Learns (AddsAtEpoch epoch) own now
  none-at-epoch epoch own now one =
      learns-as AddsNoOperation (AddsAtEpoch epoch) (λ a o before after adds c other differ. adds c other) own now one

  pub epoch-then-epoch : (epoch : ℕ) (own mid now : List CoreEntry) → IsPrefix mid now
      → Learns (AddsAtEpoch epoch) own mid → Learns (AddsAtEpoch epoch) mid now → Learns (AddsAtEpoch epoch) own now
  epoch-then-epoch epoch own mid now more one two =
      learns-then (AddsAtEpoch epoch) (AddsAtEpoch epoch) (AddsAtEpoch epoch) (epoch-epoch epoch) own mid now more one two
