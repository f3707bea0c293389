-- A round that is asked for, and a purge, leave no entry, by plain calls.
use Rattle.std.proofs.Common.{◌≡◌, ◌∙◌, ℕ, zero, suc, Bool, List, [], ◌∷◌, ◌++◌, replicate, refl, sym, ap, subst, append_assoc, append-nil, eq-eqb, cond}
use Rattle.std.specs.List.{AllByRecursion}
use Rattle.core_program.proofs.KnownCalls.{earlier-run}
use Rattle.core_program.specs.Knowing.{IsLaterRun}
use Rattle.core_events.specs.Clients.{calls_of}
use Rattle.core_events.specs.Events.{Opening, Post, Fetch, NoChange, ClientCall, CoreEvent, By, flush_mail}
use Rattle.core_events.specs.Jobs.{Flush}
use Rattle.core_states.specs.OwnCalls.{OwnCallsLeave}
use Rattle.core_program.specs.CoreFits.{CoreEntry}
use Rattle.core_records.specs.OwnEntries.{entries_by_calls}
use Rattle.core_states.proofs.LeftCalls.{all-of-both}
use Rattle.core_states.specs.LeftBehind.{IsPlainCall, LeavesBehind}
use Rattle.cube_core.specs.declared.cell.CoreCell.{CoreCell}
use Rattle.cube_core.specs.declared.jobs.FlushAnswer.{FlushAnswer}
use Rattle.cube_core.specs.declared.shard.ShardCall.TheVariants as call
use Rattle.cube_journal.specs.declared.journal_entry.JournalEntry.{JournalEntry}
use Rattle.job_groups.specs.AskedEach.{HasMore}
use Rattle.linked_shards.specs.CellShards.{CoreShardStands}
use Rattle.linked_shards.specs.declared.cell.CoreShard.{CoreShard}
use Rattle.session_groups.specs.ShardGroups.{HasAskedAll}
use Rattle.session_requests.specs.SessionRequests.{LearnsOfRound, round_outcome}
use Rattle.shard_events.specs.ShardsInRuns.{FitsShard, ShardAnswerSays}
use Rattle.shard_statements.proofs.GroupsLeave.{left-by-group}

own-call : (a : ℕ) (c : ClientCall) (es : List CoreEvent) → calls_of a (By a c ∷ es) ≡ c ∷ calls_of a es
own-call a c es = ap (λ (b : Bool). cond b (c ∷ calls_of a es) (calls_of a es)) (eq-eqb a a refl)

own-waits : (a waits : ℕ) (es : List CoreEvent)
    → calls_of a (replicate waits (By a NoChange) ++ es) ≡ replicate waits NoChange ++ calls_of a es
own-waits a zero es = refl
own-waits a (suc waits) es =
    own-call a NoChange (replicate waits (By a NoChange) ++ es)
    ∙ ap (λ (l : List ClientCall). NoChange ∷ l) (own-waits a waits es)

waits-leave-none : (o : Opening) (a waits : ℕ) (calls : List ClientCall)
    → entries_by_calls o a (replicate waits NoChange ++ calls) ≡ entries_by_calls o a calls
waits-leave-none o a zero calls = refl
waits-leave-none o a (suc waits) calls = waits-leave-none o a waits calls

waits-are-plain : (waits : ℕ) → AllByRecursion IsPlainCall (replicate waits NoChange)
waits-are-plain zero = tt
waits-are-plain (suc waits) = (tt, waits-are-plain waits)

module _ (cells : List (CoreCell CoreShard)) (caller session : ℕ) (own now : List CoreEntry) where
  abbrev Left : List JournalEntry → Type 0
  Left added = LeavesBehind FitsShard CoreShardStands ShardAnswerSays cells caller session own now added

  abbrev Later : Opening → List CoreEntry → List CoreEntry → List CoreEvent → Type 0
  Later o mine log run = IsLaterRun FitsShard CoreShardStands ShardAnswerSays cells o caller mine log run

  before-more : (o : Opening) (log : List CoreEntry) (run : List CoreEvent) → HasMore own now → Later o now log run
      → Later o own log run
  before-more o log run m later =
      earlier-run FitsShard CoreShardStands ShardAnswerSays cells o caller own m.more log run
      (subst (λ (l : List CoreEntry). Later o l log run) m.whole later)

  no-entry-more : (entries : List JournalEntry)
      → OwnCallsLeave FitsShard CoreShardStands ShardAnswerSays cells caller session now entries
      → OwnCallsLeave FitsShard CoreShardStands ShardAnswerSays cells caller session now (entries ++ [])
  no-entry-more entries leave =
      subst (λ (es : List JournalEntry). OwnCallsLeave FitsShard CoreShardStands ShardAnswerSays cells caller session now es)
      (sym (append-nil entries)) leave

  pub left-by-round : (said : FlushAnswer) → HasMore own now → LearnsOfRound cells caller session said own now → Left []
  left-by-round said m learns = record {
    more = (m.more, sym m.whole);
    entries = λ entries leave. no-entry-more entries (λ o log run es later are.
        let g = learns o log run es later are in
        let post = By session (Post (flush_mail o) Flush) ∷ g.before in
        ap (λ (l : List CoreEvent). entries_by_calls o session (calls_of session l)) g.whole
        ∙ ap (entries_by_calls o session)
        (own-call session (Fetch (flush_mail o) (round_outcome said)) (replicate g.waits (By session NoChange) ++ post)
        ∙ (λ i. Fetch (flush_mail o) (round_outcome said) ∷ own-waits session g.waits post i)
        ∙ (λ i. Fetch (flush_mail o) (round_outcome said) ∷ replicate g.waits NoChange
        ++ own-call session (Post (flush_mail o) Flush) g.before i))
        ∙ waits-leave-none o session g.waits (Post (flush_mail o) Flush ∷ calls_of session g.before)
        ∙ leave o log run g.before (before-more o log run m later) g.events);
    plain = λ o log run es later are.
        let g = learns o log run es later are in
        let post = By session (Post (flush_mail o) Flush) ∷ g.before in
        record {
          before = g.before;
          events = g.events;
          added = Fetch (flush_mail o) (round_outcome said) ∷ replicate g.waits NoChange ++ Post (flush_mail o) Flush ∷ [];
          calls =
              ap (calls_of session) g.whole
              ∙ own-call session (Fetch (flush_mail o) (round_outcome said)) (replicate g.waits (By session NoChange) ++ post)
              ∙ (λ i. Fetch (flush_mail o) (round_outcome said) ∷ own-waits session g.waits post i)
              ∙ (λ i. Fetch (flush_mail o) (round_outcome said) ∷ replicate g.waits NoChange
              ++ own-call session (Post (flush_mail o) Flush) g.before i)
              ∙ sym (append_assoc (Fetch (flush_mail o) (round_outcome said) ∷ replicate g.waits NoChange)
              (Post (flush_mail o) Flush ∷ []) (calls_of session g.before));
          each = (
            tt,
            all-of-both IsPlainCall (replicate g.waits NoChange) (Post (flush_mail o) Flush ∷ [])
                (waits-are-plain g.waits) (tt, tt),
          );
        };
  }

  pub left-by-purge : (shards epoch : ℕ) → HasAskedAll cells caller session shards (call.Purge epoch) own now → Left []
  left-by-purge shards epoch asked =
      left-by-group cells caller session own now shards (call.Purge epoch) (λ number. tt) asked
