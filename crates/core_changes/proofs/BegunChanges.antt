-- A counted change goes on from its first calls: to its names, to its writer, and to its shards.
use Rattle.std.proofs.Common.{◌≡◌, ◌⊎◌, ℕ, ◌<◌, ◌≤◌, false, List, [], ◌∷◌, refl, sym, subst, arith, append-nil}
use Rattle.std.specs.List.{AllByRecursion}
use Rattle.core_changes.specs.ChangesUnderWay.{HasBegunWith, HasChangedNothing, MayChange}
use Rattle.core_cubes.proofs.CallsForStatements.{plain-asks}
use Rattle.core_cubes.proofs.CallsGoOn.{go-on-as}
use Rattle.core_events.specs.Events.{ClientCall, OnNames, NoChange}
use Rattle.core_events.specs.Serial.{CubeOperation}
use Rattle.core_names.proofs.HeldOn.{holds-on as names-hold}
use Rattle.core_names.proofs.PlainNames.{left-by-names}
use Rattle.core_names.specs.AskedNames.{GoOnByNames, HasAskedFor}
use Rattle.core_names.specs.CallsOnNames.{IsCallOnNames, LeavesByNames}
use Rattle.core_program.specs.CoreFits.{CoreEntry}
use Rattle.core_states.proofs.Holding.{holds-on}
use Rattle.core_states.proofs.LeftCalls.{left-nothing}
use Rattle.core_states.specs.LeftBehind.{AsksForNone, IsPlainCall}
use Rattle.core_states.specs.StandingInCore.{HoldsForMode}
use Rattle.core_states.specs.declared.session.CoreSession.{CoreSession}
use Rattle.cube_core.specs.declared.cell.CoreCell.{CoreCell}
use Rattle.cube_journal.specs.declared.journal_entry.JournalEntry.{JournalEntry}
use Rattle.cube_language.specs.declared.statement.Statement.{Statement}
use Rattle.cube_run.specs.StatementEntries.{is_aborted}
use Rattle.cube_values.specs.declared.snapshot.Snapshot.{Snapshot}
use Rattle.linked_shards.specs.CellShards.{CoreShardStands}
use Rattle.linked_shards.specs.declared.cell.CoreShard.{CoreShard}
use Rattle.core_changes.proofs.ChangeCalls.{by-more-calls, by-no-call, by-plain-calls}
use Rattle.core_changes.proofs.OperationsAdded.{epoch-then-epoch, none-at-epoch, none-then-none, none-then-some, plain-none}
use Rattle.core_changes.specs.CallsOfChanges.{IsCallOfChange, LeavesByJobs, LeavesForChange}
use Rattle.core_changes.specs.ChangeEnds.{begun_entries, counted_session}
use Rattle.scripted_pasts.proofs.AskingOnly.{only-entries, only-none, only-plain, only-then}
use Rattle.scripted_pasts.specs.AskedTexts.{AsksOnly}
use Rattle.posted_pasts.proofs.AddedCalls.{without-changes}
use Rattle.posted_pasts.specs.PostsAdded.{AddsAtEpoch, AddsNoOperation, AddsOperations, LearnsThat, PostsNoChange}
use Rattle.scripted_pasts.proofs.QuietLearns.{kind-learns}
use Rattle.scripted_pasts.specs.Served.{IsServed}
use Rattle.session_replies.specs.Modes.{mode_of}
use Rattle.shard_events.specs.ShardsInRuns.{FitsShard, ShardAnswerSays}
use Rattle.shard_statements.specs.OverShards.{LeavesOverShards}

module _ (cells : List (CoreCell CoreShard)) (caller : ℕ) (old : CoreSession) (s : Statement)
    (IsText : ℕ → ℕ → List ℕ → Type 0) where
  abbrev Plainly : List CoreEntry → List CoreEntry → List JournalEntry → Type 0
  Plainly own now added = LeavesOverShards cells caller old.number own now added

  abbrev Nothing : List CoreEntry → List CoreEntry → Type 0
  Nothing own now = HasChangedNothing cells caller old s own now IsText

  pub nothing-yet : (own : List CoreEntry) → Nothing own own
  nothing-yet own = record {
    left = by-no-call cells caller old.number old.statements s own;
    learns =
        plain-none cells caller old.number own own []
        (left-nothing FitsShard CoreShardStands ShardAnswerSays cells caller old.number own);
    asks = only-none FitsShard CoreShardStands ShardAnswerSays cells caller old.number IsText own;
  }

  -- Plain calls ask for no text.
  plain-only : (own now : List CoreEntry) (added : List JournalEntry) → Plainly own now added
      → LearnsThat FitsShard CoreShardStands ShardAnswerSays (AsksOnly IsText) cells caller old.number own now
  plain-only own now added left =
      only-plain FitsShard CoreShardStands ShardAnswerSays cells caller old.number IsText own now
      (go-on-as FitsShard CoreShardStands ShardAnswerSays cells caller old.number IsPlainCall AsksForNone own now
      plain-asks left.plain)

  module _ (first own now : List CoreEntry) where
    pub nothing-then : Nothing first own → Plainly own now [] → Nothing first now
    nothing-then nothing left = record {
      left =
          by-more-calls cells caller old.number old.statements s first own now [] [] nothing.left
          (by-plain-calls cells caller old.number old.statements s own now [] left);
      learns =
          none-then-none cells caller old.number first own now left.more nothing.learns
          (plain-none cells caller old.number own now [] left);
      asks =
          only-then FitsShard CoreShardStands ShardAnswerSays cells caller old.number IsText first own now left.more
          nothing.asks (plain-only own now [] left);
    }

    module _ (writer : Snapshot) where
      abbrev began : List JournalEntry
      began = begun_entries old.number old.statements (mode_of old.mode) writer

      pub has-begun : Nothing first own → Plainly own now began
          → HasBegunWith cells caller old s first now IsText writer AddsNoOperation
      has-begun nothing left = record {
        left =
            by-more-calls cells caller old.number old.statements s first own now [] began nothing.left
            (by-plain-calls cells caller old.number old.statements s own now began left);
        learns =
            none-then-none cells caller old.number first own now left.more nothing.learns
            (plain-none cells caller old.number own now began left);
        asks =
            only-then FitsShard CoreShardStands ShardAnswerSays cells caller old.number IsText first own now left.more
            nothing.asks (plain-only own now began left);
      }

      module _ (begun : HasBegunWith cells caller old s first own IsText writer AddsNoOperation)
          (jobs : LeavesByJobs cells caller old.number old.statements s own now) where
        abbrev left : LeavesForChange cells caller old.number old.statements s own now []
        left = jobs.left

        still-begun : LeavesForChange cells caller old.number old.statements s first now began
        still-begun =
            subst (λ (es : List JournalEntry).
            LeavesForChange cells caller old.number old.statements s first now es) (append-nil began)
            (by-more-calls cells caller old.number old.statements s first own now began [] begun.left left)

        still-asks : LearnsThat FitsShard CoreShardStands ShardAnswerSays (AsksOnly IsText) cells caller old.number
            first now
        still-asks =
            only-then FitsShard CoreShardStands ShardAnswerSays cells caller old.number IsText first own now left.more
            begun.asks (only-plain FitsShard CoreShardStands ShardAnswerSays cells caller old.number IsText own now
            jobs.none)

        pub begun-with-operations : (place : ℕ) (added : List CubeOperation)
            → LearnsThat FitsShard CoreShardStands ShardAnswerSays (AddsOperations place writer.epoch added) cells caller
            old.number own now
            → HasBegunWith cells caller old s first now IsText writer (AddsOperations place writer.epoch added)
        begun-with-operations place added posted = record {
          left = still-begun;
          learns =
              none-then-some cells caller old.number place writer.epoch added first own now left.more begun.learns posted;
          asks = still-asks;
        }

        pub begun-at-epoch : LearnsThat FitsShard CoreShardStands ShardAnswerSays (AddsAtEpoch writer.epoch) cells
            caller old.number own now
            → HasBegunWith cells caller old s first now IsText writer (AddsAtEpoch writer.epoch)
        begun-at-epoch posted = record {
          left = still-begun;
          learns =
              epoch-then-epoch cells caller old.number writer.epoch first own now left.more
              (none-at-epoch cells caller old.number writer.epoch first own begun.learns) posted;
          asks = still-asks;
        }

-- ---- calls on the names

names-of-change : (number : ℕ) (s : Statement) (c : ClientCall) → IsCallOnNames c → IsCallOfChange number s c
names-of-change number s (OnNames event) is = record { speaks = tt; readers = tt }
names-of-change number s NoChange is = record { speaks = tt; readers = tt }
names-of-change number s c is = absurd is

names-post-none : (added : List ClientCall) → AllByRecursion IsCallOnNames added → AllByRecursion PostsNoChange added
names-post-none [] each = tt
names-post-none (OnNames event ∷ added) each = (tt, names-post-none added each.1)
names-post-none (NoChange ∷ added) each = (tt, names-post-none added each.1)
names-post-none (c ∷ added) each = absurd each.0

-- ---- a session that may change rows

pub may-change : (cells : List (CoreCell CoreShard)) (caller shards : ℕ) (old mid : CoreSession)
    (own : List CoreEntry) → mid ≡ counted_session old → IsServed cells caller old.number shards
    → HoldsForMode FitsShard CoreShardStands ShardAnswerSays cells caller mid.number own (mode_of mid.mode)
    → old.commits ≤ old.statements → is_aborted (mode_of old.mode) ≡ false → MayChange cells caller shards mid own
may-change cells caller shards old mid own is served holds few active = record {
  served = subst (λ (x : CoreSession). IsServed cells caller x.number shards) (sym is) served;
  holds = holds;
  counted = subst (λ (x : CoreSession). x.commits < x.statements) (sym is) (omega (arith, few));
  active = subst (λ (x : CoreSession). is_aborted (mode_of x.mode) ≡ false) (sym is) active;
}

module _ (cells : List (CoreCell CoreShard)) (caller shards : ℕ) (old : CoreSession) (own now : List CoreEntry)
    (may : MayChange cells caller shards old own) (asks : GoOnByNames caller own now) where
  -- Calls on the names change nothing.
  pub may-still : MayChange cells caller shards old now
  may-still = record {
    served = may.served;
    holds =
        holds-on FitsShard CoreShardStands ShardAnswerSays cells caller old.number own cells caller now
        (mode_of old.mode)
        (names-hold FitsShard CoreShardStands ShardAnswerSays cells caller old.number may.served.client own now asks)
        may.holds;
    counted = may.counted;
    active = may.active;
  }

  -- They ask only for such texts.
  pub nothing-by-names : (s : Statement) (IsText : ℕ → ℕ → List ℕ → Type 0)
      → ((place dim : ℕ) (text : List ℕ) → HasAskedFor now place dim text
      → HasAskedFor own place dim text ⊎ IsText place dim text)
      → HasChangedNothing cells caller old s own now IsText
  nothing-by-names s IsText asked =
      let left : LeavesByNames FitsShard CoreShardStands ShardAnswerSays cells caller old.number own now =
      left-by-names FitsShard CoreShardStands ShardAnswerSays cells caller old.number may.served.client own now asks
      in
      record {
        left = record {
          more = left.more;
          entries = left.entries;
          calls =
              go-on-as FitsShard CoreShardStands ShardAnswerSays cells caller old.number IsCallOnNames
              (IsCallOfChange old.statements s) own now (names-of-change old.statements s) left.calls;
        };
        learns =
            kind-learns FitsShard CoreShardStands ShardAnswerSays cells caller old.number IsCallOnNames own now
            (λ o added past each. without-changes o old.number added past (names-post-none added each)) left.calls;
        asks =
            only-entries FitsShard CoreShardStands ShardAnswerSays cells caller old.number IsText own now
            may.served.client left.more asked;
      }

-- Where no call was made nothing was added.
module _ (cells : List (CoreCell CoreShard)) (caller session number : ℕ) (s : Statement) (own now : List CoreEntry)
    (same : now ≡ own) where
  pub nothing-left : LeavesByJobs cells caller session number s own now
  nothing-left =
      subst (λ (l : List CoreEntry). LeavesByJobs cells caller session number s own l) (sym same)
      (record {
        left = by-no-call cells caller session number s own;
        none = λ o log run es later are. record {
          before = es;
          events = are;
          added = [];
          calls = refl;
          each = tt;
        };
      })

  pub nothing-at : (epoch : ℕ)
      → LearnsThat FitsShard CoreShardStands ShardAnswerSays (AddsAtEpoch epoch) cells caller session own now
  nothing-at epoch =
      subst (λ (l : List CoreEntry).
      LearnsThat FitsShard CoreShardStands ShardAnswerSays (AddsAtEpoch epoch) cells caller session own l) (sym same)
      (none-at-epoch cells caller session epoch own own
      (plain-none cells caller session own own []
      (left-nothing FitsShard CoreShardStands ShardAnswerSays cells caller session own)))
