-- What is kept once the flusher has closed its round, and that its calls are those of such a round.
use Rattle.std.proofs.Common.{◌≡◌, ◌⊎◌, ◌∙◌, ℕ, Bool, true, false, List, [], ◌∷◌, ◌++◌, append_assoc, length, map, MatchBool, if◌then◌else◌, refl, sym, ap, subst, eq-eqb}
use Rattle.std.specs.List.{AllByRecursion}
use Rattle.aosi_desk.specs.declared.answer.RoundAnswer.TheVariants.{Target}
use Rattle.aosi_desk.specs.declared.answer.RoundEnd.{RoundEnd}
use Rattle.aosi_desk.specs.declared.answer.RoundEnd.TheVariants as end
use Rattle.core_program.specs.ClientCalls.{desk_entry}
use Rattle.core_cells.specs.declared.desk.DeskAnswer.TheVariants as answer
use Rattle.core_cells.specs.declared.desk.DeskCall.TheVariants as call
use Rattle.core_events.specs.Clients.{calls_of, is_lost_to_disk, state_from_calls}
use Rattle.core_events.specs.Events.{Opening, RoundOpen, RoundClose, ClientCall, OnDesk, CoreEvent, By}
use Rattle.core_events.specs.Runs.{IsCoreRun}
use Rattle.core_program.specs.CoreFits.{CoreEntry}
use Rattle.core_program.specs.Flushing.{IsFlusherOf}
use Rattle.cube_core.specs.Links.{AreEventsOf}
use Rattle.cube_core.specs.BoardCells.{IsEntryEvent}
use Rattle.core_program.specs.Knowing.{GoOnBy, IsLaterRun}
use Rattle.cube_core.specs.declared.cell.CoreCell.{CoreCell}
use Rattle.cube_journal.specs.declared.journal_entry.LostCause.{LostCause}
use Rattle.cube_journal.specs.declared.journal_entry.LostCause.TheVariants.{Disk, Memory}
use Rattle.cube_rounds.specs.Stands.{Kept, kept_of_cubes}
use Rattle.cube_rounds.specs.declared.round.Round.{Round}
use Rattle.flush_loop.proofs.OpenedAndClosed.{before-it, learnt}
use Rattle.flush_loop.specs.MadeRounds.{HoldsInRuns, KnowsBetween, LearnsOfOwnRound}
use Rattle.flush_loop.specs.RoundResults.{AreOfRound, HaveClosedRound, loses_store}
use Rattle.copied_rounds.proofs.RoundsOfRuns.{round-of-run}
use Rattle.flush_loop.specs.declared.round_result.RoundResult.{RoundResult}
use Rattle.flush_loop.specs.declared.round_result.RoundResult.TheVariants.{Safe, Idle, Lost, NoMemory}
use Rattle.flush_round.proofs.StoreFollows.{have-by}
use Rattle.flush_round.proofs.ToldCopies.{told-stays}
use Rattle.flush_round.specs.KeptRounds.{HoldsAfterEnd, IsKeptOfRuns, IsToldOfKept, counts_before, shapes_before}
use Rattle.flusher_rounds.specs.FlushReplies.{IsWithinRound}
use Rattle.job_groups.specs.AskedEach.{HasMore}
use Rattle.linked_shards.specs.CellShards.{CoreShardStands}
use Rattle.shard_events.specs.ShardsInRuns.{FitsShard, ShardAnswerSays}
use Rattle.linked_shards.specs.declared.cell.CoreShard.{CoreShard}
use Rattle.outside.specs.Counts.{Rose}
use Rattle.outside_disk.specs.Views.{View}
use Rattle.round_copies.proofs.FlusherSteps.{before-more}
use Rattle.round_copies.specs.RoundCopies.{IsCopiedRound}
use Rattle.round_copies.specs.WithinRounds.{KnowsOfFlusher, StaysWithinRound}
use Rattle.round_copies.specs.declared.span.RoundSpan.{RoundSpan}
use Rattle.round_store.specs.Counts.{counts_of}
use Rattle.round_store.specs.States.{goes_second, header_cubes, kept_after, kept_before, wants_whole}
use Rattle.rows_of_rounds.specs.RowsOfRounds.{HasRowsOfRun}
use Rattle.rows_of_rounds.proofs.RowsThen.{rows-of-none, rows-with-round}
use Rattle.stored_rounds.proofs.FaultCounts.{failed-since, go-on}
use Rattle.stored_rounds.proofs.OpeningCubes.{opening-with-round}
use Rattle.stored_rounds.proofs.OwnRounds.{in-run, kept-in-runs}
use Rattle.stored_rounds.specs.OwnKnowledge.{ClosesRound, GoesByRoundsOfRuns, HasContentOfRuns, IsKeptByCalls, IsReadyForRound, IsRoundOfRuns}
use Rattle.stored_rounds.specs.RoundsInStore.{CountsGoOn, EndsAs, HasFailedDisk, HasLostRound, IsTrueRound, KeepsOfRun, StandsAt, kept_by_end, result_of_end}
use Rattle.stored_rounds.specs.SafeEpochs.{safe_after_call, safe_by_calls}
use Rattle.stored_rounds.specs.declared.stored.StoredRounds.{StoredRounds}

-- Calls within a round leave the latest safe epoch, and so does the end of a round that is lost.

call-safe : (c : ClientCall) (safe : ℕ) → IsWithinRound c → safe_after_call c safe ≡ safe
call-safe (OnDesk (RoundClose epoch how)) safe within = absurd within
call-safe c safe within = refl

calls-safe : (o : Opening) (added calls : List ClientCall) → AllByRecursion IsWithinRound added
    → safe_by_calls o (added ++ calls) ≡ safe_by_calls o calls
calls-safe o [] calls within = refl
calls-safe o (c ∷ added) calls within =
    call-safe c (safe_by_calls o (added ++ calls)) within.0 ∙ calls-safe o added calls within.1

-- Behind the header's cubes alone there are no rows yet.
rows-behind : (o : Opening) (run : List CoreEvent) (whole : Bool) (kept : Kept) → IsCoreRun o run → HasRowsOfRun o run kept
    → HasRowsOfRun o run (if whole then kept_of_cubes (header_cubes kept) else kept)
rows-behind o run true kept is has = rows-of-none o run (header_cubes kept) is has.opens
rows-behind o run false kept is has = has

-- They are the newest of the client.
calls-added : (client : ℕ) (added : List ClientCall) (es : List CoreEvent)
    → calls_of client (map (λ c. By client c) added ++ es) ≡ added ++ calls_of client es
calls-added client [] es = refl
calls-added client (c ∷ added) es =
    ap (λ (own : Bool). if own then c ∷ calls_of client (map (λ c. By client c) added ++ es)
    else calls_of client (map (λ c. By client c) added ++ es)) (eq-eqb client client refl)
    ∙ ap (λ (l : List ClientCall). c ∷ l) (calls-added client added es)

events-joined : (client : ℕ) (xs ys : List ClientCall) (es : List CoreEvent)
    → map (λ c. By client c) (xs ++ ys) ++ es ≡ map (λ c. By client c) xs ++ (map (λ c. By client c) ys ++ es)
events-joined client [] ys es = refl
events-joined client (x ∷ xs) ys es = ap (λ (l : List CoreEvent). By client x ∷ l) (events-joined client xs ys es)

closed-so : (epoch : ℕ) (how : RoundEnd) (calls : List ClientCall) → HaveClosedRound epoch how calls
    → AreOfRound (result_of_end epoch how) calls
closed-so epoch end.Safe calls closed = closed
closed-so epoch (end.Lost cause) calls closed = (epoch, closed)

pub loses-so : (epoch : ℕ) (how : RoundEnd) → is_lost_to_disk how ≡ loses_store (result_of_end epoch how)
loses-so epoch end.Safe = refl
loses-so epoch (end.Lost Disk) = refl
loses-so epoch (end.Lost Memory) = refl

module _ (cells : List (CoreCell CoreShard)) (caller client shards : ℕ)
    (flush : IsFlusherOf FitsShard CoreShardStands ShardAnswerSays cells caller client shards) where
  -- What was kept before calls within a round is kept after them.
  kept-within : (own mid : List CoreEntry) (kept : Kept) → IsKeptByCalls cells caller client own kept → HasMore own mid
      → StaysWithinRound cells caller client own mid → IsKeptByCalls cells caller client mid kept
  kept-within own mid kept by more within = record {
    of_runs = λ o log run later. by.of_runs o log run (before-more cells caller client own more.more mid log o run more.whole later);
    told = λ o log run es later are.
        let w = within o log run es later are in
        let was = by.told o log run w.before (before-more cells caller client own more.more mid log o run more.whole later) w.events in
        subst (λ (l : List CoreEvent). IsToldOfKept kept (state_from_calls o client (calls_of client l))) (sym w.whole)
        (told-stays o client (length kept.cubes) (counts_of kept.names) (map (λ c. By client c) w.added) w.before was);
    up_to = λ o log run es later are.
        let w = within o log run es later are in
        by.up_to o log run w.before (before-more cells caller client own more.more mid log o run more.whole later) w.events
        ∙ sym (calls-safe o w.added (calls_of client w.before) w.within)
        ∙ ap (safe_by_calls o) (sym (calls-added client w.added w.before) ∙ ap (calls_of client) (sym w.whole));
    content = λ o log run later. by.content o log run (before-more cells caller client own more.more mid log o run more.whole later);
  }

  module _ (epoch : ℕ) (how : RoundEnd) (mid now : List CoreEntry)
      (is : now ≡ mid ++ desk_entry caller (call.RoundClose epoch how) answer.Done ∷ []) where
    closing : (o : Opening) (log : List CoreEntry) (run es : List CoreEvent)
        → IsLaterRun FitsShard CoreShardStands ShardAnswerSays cells o caller now log run
        → AreEventsOf (IsEntryEvent FitsShard CoreShardStands ShardAnswerSays o) now es
        → GoOnBy FitsShard CoreShardStands ShardAnswerSays cells o client mid es (λ calls. OnDesk (RoundClose epoch how))
    closing o log run es later are =
        learnt FitsShard CoreShardStands ShardAnswerSays cells caller client shards flush mid now (call.RoundClose epoch how)
        answer.Done is o log run es later are

    was-later : (o : Opening) (log : List CoreEntry) (run : List CoreEvent)
        → IsLaterRun FitsShard CoreShardStands ShardAnswerSays cells o caller now log run
        → IsLaterRun FitsShard CoreShardStands ShardAnswerSays cells o caller mid log run
    was-later o log run later =
        before-it FitsShard CoreShardStands ShardAnswerSays cells caller client shards flush mid now
        (desk_entry caller (call.RoundClose epoch how) answer.Done) is o log run later

    -- With the close what is kept of each run is, up to the epoch that is then safe.
    kept-by-close : (kept : Kept) → IsKeptOfRuns cells caller mid kept
        → KnowsOfFlusher cells caller client mid (λ o k. IsToldOfKept kept k)
        → ((o : Opening) (log : List CoreEntry) (run es : List CoreEvent)
        → IsLaterRun FitsShard CoreShardStands ShardAnswerSays cells o caller mid log run
        → AreEventsOf (IsEntryEvent FitsShard CoreShardStands ShardAnswerSays o) mid es
        → kept.epoch ≡ safe_after_call (OnDesk (RoundClose epoch how)) (safe_by_calls o (calls_of client es)))
        → HasContentOfRuns cells caller client mid kept → IsKeptByCalls cells caller client now kept
    kept-by-close kept of_runs told up_to content = record {
      of_runs = λ o log run later. of_runs o log run (was-later o log run later);
      told = λ o log run es later are.
          let g = closing o log run es later are in
          let was = told o log run g.before (was-later o log run later) g.events in
          subst (λ (l : List CoreEvent). IsToldOfKept kept (state_from_calls o client (calls_of client l))) (sym g.whole)
          (told-stays o client (length kept.cubes) (counts_of kept.names) (By client (OnDesk (RoundClose epoch how)) ∷ [])
          g.before was);
      up_to = λ o log run es later are.
          let g = closing o log run es later are in
          up_to o log run g.before (was-later o log run later) g.events ∙ ap (safe_by_calls o) (sym g.calls);
      content = λ o log run later. content o log run (was-later o log run later);
    }

  -- A round that was opened, copied and closed.
  pub round-learnt : (from epoch : ℕ) (how : RoundEnd) (own mid now : List CoreEntry)
      → mid ≡ own ++ desk_entry caller call.RoundOpen (answer.Round (Target from epoch)) ∷ []
      → ClosesRound cells caller client mid epoch how now
      → LearnsOfOwnRound FitsShard CoreShardStands ShardAnswerSays cells caller client (result_of_end epoch how) own now
  round-learnt from epoch how own mid now opened closes o log run es later are =
      let c = closing epoch how closes.last now closes.whole o log run es later are in
      let later_last = was-later epoch how closes.last now closes.whole o log run later in
      let w = closes.within o log run c.before later_last c.events in
      let later_mid = before-more cells caller client mid closes.more.more closes.last log o run closes.more.whole later_last in
      let g =
      learnt FitsShard CoreShardStands ShardAnswerSays cells caller client shards flush own mid call.RoundOpen
      (answer.Round (Target from epoch)) opened o log run w.before later_mid w.events
      in
      let close_it = OnDesk (RoundClose epoch how) in
      let open_it = OnDesk (RoundOpen (Target from epoch)) in
      record {
        before = g.before;
        events = g.events;
        calls = close_it ∷ (w.added ++ open_it ∷ []);
        whole = c.whole
            ∙ ap (λ (l : List CoreEvent). By client close_it ∷ l)
            (w.whole ∙ ap (λ (l : List CoreEvent). map (λ c. By client c) w.added ++ l) g.whole
            ∙ sym (events-joined client w.added (open_it ∷ []) g.before));
        of_round = closed-so epoch how (close_it ∷ (w.added ++ open_it ∷ [])) (record {
          from = from;
          later = [];
          between = w.added;
          earlier = [];
          whole = refl;
          after = tt;
          within = w.within;
          before = tt;
        });
      }

  pub more-by-round : (epoch : ℕ) (how : RoundEnd) (own mid now : List CoreEntry) (e : CoreEntry) → mid ≡ own ++ e ∷ []
      → ClosesRound cells caller client mid epoch how now → HasMore own now
  more-by-round epoch how own mid now e opened closes =
      let close_it = desk_entry caller (call.RoundClose epoch how) answer.Done in
      let added = closes.more.more in
      record {
        more = e ∷ (added ++ close_it ∷ []);
        whole = closes.whole
            ∙ ap (λ (l : List CoreEntry). l ++ close_it ∷ [])
            (closes.more.whole ∙ ap (λ (l : List CoreEntry). l ++ added) opened)
            ∙ append_assoc (own ++ e ∷ []) added (close_it ∷ [])
            ∙ append_assoc own (e ∷ []) (added ++ close_it ∷ []);
      }

  module _ {D : Type 0} (view : D → View) (span : RoundSpan) (kept : Kept) (m new : StoredRounds D)
      (own mid : List CoreEntry) (ready : IsReadyForRound cells caller client own view span m kept) (more : HasMore own mid)
      (within : StaysWithinRound cells caller client own mid)
      (first_still : goes_second m.store ≡ true → new.first ≡ m.first)
      (second_still : goes_second m.store ≡ false → new.second ≡ m.second) where
    -- By how it ended.
    abbrev After : RoundEnd → Type 0
    After how = HoldsAfterEnd cells caller client own mid m.store new.store kept span (view m.first) (view m.second)
        (view new.first) (view new.second) how

    -- What was copied is a round of each run, behind what was kept of it before.
    abbrev behind : Kept
    behind = kept_before m.store kept

    abbrev AreCopies : Round → Type 0
    AreCopies round = IsCopiedRound cells caller client own mid span (shapes_before m.store) (counts_before m.store) round

    round-there : (round : Round) → AreCopies round → IsRoundOfRuns cells caller client mid behind round
    round-there round copied o log run later =
        round-of-run cells caller client shards flush own mid span (shapes_before m.store) (counts_before m.store) round
        copied behind.cubes behind.names (have-by m.store kept ready.takes.at.store (wants_whole m.store)) o
        (ready.takes.of_runs o) log run later

    -- With it the content of each run is kept.
    content-added : (round : Round) → AreCopies round → HasContentOfRuns cells caller client mid (kept_after m.store kept round)
    content-added round copied o log run later =
        let was = before-more cells caller client own more.more mid log o run more.whole later in
        let there = round-there round copied o log run later in
        record {
          opening = opening-with-round o run client behind.cubes behind.names round there;
          rows = rows-with-round o run client behind round later.is_run (ready.takes.open_for o log run was).rows there
              (copied.begins ∙ ready.takes.begins)
              (rows-behind o run (wants_whole m.store) kept later.is_run (ready.by_calls.content o log run was).rows);
        }

    abbrev Spares : RoundEnd → Type 0
    Spares how = how ≡ end.Lost Memory → new ≡ m

    abbrev Failed : RoundEnd → Type 0
    Failed how = how ≡ end.Lost Disk → Rose (view m.first).faults (view new.first).faults
        ⊎ Rose (view m.second).faults (view new.second).faults

    -- Of the round that was added, or was lost as it was, this holds, with what it comes behind.
    abbrev HoldsOfRound : (Kept → Round → Type 0) → (how : RoundEnd) → After how → Type 0
    HoldsOfRound Holds end.Safe after = Holds behind after.adds.round
    HoldsOfRound Holds (end.Lost Disk) after = Holds behind after.round
    HoldsOfRound Holds (end.Lost Memory) after = Unit {0}

    abbrev kept_at_end : (how : RoundEnd) → After how → Kept
    kept_at_end end.Safe after = kept_after m.store kept after.adds.round
    kept_at_end (end.Lost cause) after = kept

    -- It ended so, and then that is kept.
    ended : (Holds : Kept → Round → Type 0) (how : RoundEnd) (after : After how) → HoldsOfRound Holds how after → Spares how → Failed how
        → (ends : EndsAs view Holds (result_of_end span.epoch how) kept m new)
        × (kept_by_end view Holds span.epoch how kept m new ends ≡ kept_at_end how after)
    ended Holds end.Safe after holds memory failed = (
      record {
        round = after.adds.round;
        ends = after.adds.ends;
        holds = holds;
        adds = record { at = ready.takes.at; first_still = first_still; second_still = second_still; either = after.adds.either };
        stands = after.at;
      },
      refl,
    )
    ended Holds (end.Lost Disk) after holds memory failed = (
      record {
        round = after.round;
        holds = holds;
        adds = record { at = ready.takes.at; first_still = first_still; second_still = second_still; either = after.either };
        failed = failed refl;
      },
      refl,
    )
    ended Holds (end.Lost Memory) after holds memory failed = ((ready.takes.at, memory refl), refl)

    -- The round is one of each run with these calls.
    there-so : (how : RoundEnd) (after : After how) → HoldsOfRound (IsRoundOfRuns cells caller client mid) how after
    there-so end.Safe after = round-there after.adds.round after.adds.copied
    there-so (end.Lost Disk) after = round-there after.round after.copied
    there-so (end.Lost Memory) after = tt

    there-now : (how : RoundEnd) (now : List CoreEntry) → now ≡ mid ++ desk_entry caller (call.RoundClose span.epoch how) answer.Done ∷ []
        → (after : After how) → HoldsOfRound (IsRoundOfRuns cells caller client now) how after
    there-now end.Safe now is after = λ o log run later.
        there-so end.Safe after o log run (was-later span.epoch end.Safe mid now is o log run later)
    there-now (end.Lost Disk) now is after = λ o log run later.
        there-so (end.Lost Disk) after o log run (was-later span.epoch (end.Lost Disk) mid now is o log run later)
    there-now (end.Lost Memory) now is after = tt

    -- It is true to each such run.
    true-so : (how : RoundEnd) (after : After how) (o : Opening) (log : List CoreEntry) (run : List CoreEvent)
        → IsLaterRun FitsShard CoreShardStands ShardAnswerSays cells o caller mid log run → HoldsOfRound (IsTrueRound o run) how after
    true-so end.Safe after o log run later =
        record { first = after.adds.of_runs o log run later; content = content-added after.adds.round after.adds.copied o log run later }
    true-so (end.Lost Disk) after o log run later =
        record { first = after.of_runs o log run later; content = content-added after.round after.copied o log run later }
    true-so (end.Lost Memory) after o log run later = tt

    pub ends-so : (how : RoundEnd) (now : List CoreEntry)
        → now ≡ mid ++ desk_entry caller (call.RoundClose span.epoch how) answer.Done ∷ []
        → After how → Spares how → Failed how
        → EndsAs view (IsRoundOfRuns cells caller client now) (result_of_end span.epoch how) kept m new
    ends-so how now is after memory failed =
        (ended (IsRoundOfRuns cells caller client now) how after (there-now how now is after) memory failed).0

    -- With it the store has come by rounds of each run to what is then kept.
    module _ (begun : StoredRounds D) (rounds : GoesByRoundsOfRuns cells caller client own view begun m kept) where
      rounds-so : (how : RoundEnd) (now : List CoreEntry)
          → now ≡ mid ++ desk_entry caller (call.RoundClose span.epoch how) answer.Done ∷ []
          → (after : After how) → Spares how → Failed how
          → GoesByRoundsOfRuns cells caller client now view begun new (kept_at_end how after)
      rounds-so how now is after memory failed o log run es later are =
          let close_it = OnDesk (RoundClose span.epoch how) in
          let c = closing span.epoch how mid now is o log run es later are in
          let later_mid = was-later span.epoch how mid now is o log run later in
          let w = within o log run c.before later_mid c.events in
          let later_own = before-more cells caller client own more.more mid log o run more.whole later_mid in
          let did = ended (IsTrueRound o run) how after (true-so how after o log run later_mid) memory failed in
          let before = rounds o log run w.before later_own w.events in
          record {
            starts = record { store = m; kept = kept; calls = calls_of client w.before } ∷ before.starts;
            are = (
              record {
                behind = in-run cells caller client shards flush kept own ready.by_calls o log run w.before later_own w.events;
                epoch = span.epoch;
                how = how;
                ends = did.0;
                leaves = did.1;
                later = close_it ∷ w.added;
                since = c.calls
                    ∙ ap (λ (l : List ClientCall). close_it ∷ l) (ap (calls_of client) w.whole ∙ calls-added client w.added w.before);
              },
              before.are,
            );
          }

    -- What was kept before a round that was lost.
    lost-kept : (cause : LostCause) (now : List CoreEntry)
        → now ≡ mid ++ desk_entry caller (call.RoundClose span.epoch (end.Lost cause)) answer.Done ∷ []
        → IsKeptByCalls cells caller client now kept
    lost-kept cause now is =
        let by = kept-within own mid kept ready.by_calls more within in
        kept-by-close span.epoch (end.Lost cause) mid now is kept by.of_runs by.told by.up_to by.content

    module _ (begun : StoredRounds D) (rounds : GoesByRoundsOfRuns cells caller client own view begun m kept)
        (before : CountsGoOn view begun m) (counts : CountsGoOn view m new) where
      pub holds-so : (how : RoundEnd) (now : List CoreEntry) → now ≡ mid ++ desk_entry caller (call.RoundClose span.epoch how) answer.Done ∷ []
          → After how → Spares how → Failed how
          → KnowsBetween FitsShard CoreShardStands ShardAnswerSays cells caller client (is_lost_to_disk how) now
          → HoldsInRuns FitsShard CoreShardStands ShardAnswerSays cells caller client (KeepsOfRun view begun new) now
      holds-so end.Safe now is after memory failed between =
          let all = kept_after m.store kept after.adds.round in
          kept-in-runs cells caller client shards flush view begun new all now
          (kept-by-close span.epoch end.Safe mid now is all after.adds.of_runs after.adds.told
          (λ o log run es later are. after.adds.ends) (content-added after.adds.round after.adds.copied))
          after.at (rounds-so begun rounds end.Safe now is after memory failed) (go-on view begun m new before counts)
          between
      holds-so (end.Lost Memory) now is after memory failed between =
          kept-in-runs cells caller client shards flush view begun new kept now (lost-kept Memory now is)
          (coe 1 0 (i. StandsAt view (memory refl i) kept) ready.takes.at)
          (rounds-so begun rounds (end.Lost Memory) now is after memory failed) (go-on view begun m new before counts)
          between
      holds-so (end.Lost Disk) now is after memory failed between =
          let by = lost-kept Disk now is in
          record {
            kept = kept;
            in_runs = λ o log run es later are.
                let calls = calls_of client es in
                let same = flush.client_is o log later.opens in
                let lost = coe 0 1 (i. (state_from_calls o (same i) calls).store_lost ≡ true) (between o log run es later are).store in
                let gone : HasLostRound view new kept o run =
                record {
                  before = m;
                  round = after.round;
                  adds = record {
                    at = ready.takes.at;
                    first_still = first_still;
                    second_still = second_still;
                    either = after.either;
                  };
                  with_round = after.of_runs o log run (was-later span.epoch (end.Lost Disk) mid now is o log run later);
                  content = content-added after.round after.copied o log run
                      (was-later span.epoch (end.Lost Disk) mid now is o log run later);
                  failed = failed refl;
                }
                in
                record {
                  rounds = rounds-so begun rounds (end.Lost Disk) now is after memory failed o log run es later are;
                  in_run = in-run cells caller client shards flush kept now by o log run es later are;
                  stands = subst (λ (b : Bool). MatchBool b (HasLostRound view new kept o run) (StandsAt view new kept)) (sym lost) gone;
                  counts = coe 1 0 (i. MatchBool (lost i) (HasFailedDisk view begun new) (CountsGoOn view begun new))
                      (failed-since view begun m new before (failed refl));
                };
          }

-- Whatever holds of a round, it ended so.
pub ends-anyway : {D : Type 0} (view : D → View) (Holds : Kept → Round → Type 0) (result : RoundResult) (kept : Kept)
    (before after : StoredRounds D) → EndsAs view Holds result kept before after
    → EndsAs view (λ behind round. Unit {0}) result kept before after
ends-anyway view Holds (Safe epoch) kept before after ends =
    record { round = ends.round; ends = ends.ends; holds = tt; adds = ends.adds; stands = ends.stands }
ends-anyway view Holds (Idle epoch) kept before after ends = ends
ends-anyway view Holds (Lost Disk) kept before after ends =
    record { round = ends.round; holds = tt; adds = ends.adds; failed = ends.failed }
ends-anyway view Holds (Lost Memory) kept before after ends = ends
ends-anyway view Holds NoMemory kept before after ends = ends
