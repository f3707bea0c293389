-- What the flusher's store keeps before it opens a round is kept once it has, and the store takes that round.
use Rattle.std.proofs.Common.{◌≡◌, ◌∙◌, ℕ, Bool, true, false, List, [], ◌∷◌, ◌++◌, append_assoc, length, Option, Some, None, MatchBool, if◌then◌else◌, refl, sym, ap, subst}
use Rattle.std.specs.Option.{option_map_or}
use Rattle.aosi_desk.specs.declared.answer.RoundAnswer.{RoundAnswer}
use Rattle.aosi_desk.specs.declared.answer.RoundAnswer.TheVariants.{Target}
use Rattle.cube_core.specs.Links.{AreEventsOf}
use Rattle.core_cells.specs.declared.desk.DeskAnswer.TheVariants as answer
use Rattle.core_cells.specs.declared.desk.DeskCall.TheVariants as call
use Rattle.core_events.specs.Clients.{ClientState, calls_of, state_from_calls}
use Rattle.core_events.specs.Events.{Opening, RoundOpen, OnDesk, ClientCall, CoreEvent, By}
use Rattle.cube_core.specs.DeskEvents.{desk_event}
use Rattle.core_program.proofs.ClientRuns.{client-run}
use Rattle.core_program.proofs.FlusherCalls.{is-client}
use Rattle.core_program.proofs.KnownCalls.{client-part, go-on-from}
use Rattle.cube_core.specs.BoardCells.{IsEntryEvent}
use Rattle.core_program.specs.CoreFits.{CoreEntry}
use Rattle.core_program.specs.Flushing.{IsFlusherOf}
use Rattle.core_program.specs.Knowing.{GoOnBy, HasRunOfClient, IsLaterRun}
use Rattle.cube_core.specs.declared.cell.CoreCell.{CoreCell}
use Rattle.cube_rounds.specs.Stands.{Kept, kept_of_cubes}
use Rattle.flush_loop.proofs.OpenedAndClosed.{before-it, learnt, opening_entry}
use Rattle.flush_loop.specs.MadeRounds.{HoldsInRuns, KnowsBetween}
use Rattle.flush_round.proofs.ToldCopies.{told-stays}
use Rattle.flush_round.specs.KeptRounds.{IsToldOfKept}
use Rattle.linked_shards.specs.CellShards.{CanCallCoreShard, CoreShardStands, CoreShardStep, linked-shards}
use Rattle.shard_events.specs.ShardsInRuns.{FitsShard, ShardAnswerSays}
use Rattle.linked_shards.specs.declared.cell.CoreShard.{CoreShard}
use Rattle.outside_disk.specs.Views.{View}
use Rattle.round_copies.specs.RoundCopies.{first_epoch}
use Rattle.round_copies.specs.WithinRounds.{HasHistory}
use Rattle.round_copies.specs.declared.span.RoundSpan.{RoundSpan}
use Rattle.round_store.specs.Counts.{counts_of}
use Rattle.round_store.specs.States.{header_cubes, kept_before, wants_whole}
use Rattle.stored_rounds.proofs.KeptHeaders.{kept-behind}
use Rattle.stored_rounds.proofs.SafeRounds.{AreOpenedRight, all-opened-right}
use Rattle.stored_rounds.specs.OwnKnowledge.{GoesByRoundsOfRuns, IsKeptByCalls, IsReadyForRound}
use Rattle.stored_rounds.specs.RoundsInStore.{AlwaysOpenForRounds, AreRoundsOfRun, CountsGoOn, GoesByRoundsOfRun, HasFailedDisk, HasLostRound, IsKeptInRun, KeepsOfRun, RoundStart, StandsAt}
use Rattle.stored_rounds.specs.SafeEpochs.{safe_after_call, safe_by_calls}
use Rattle.stored_rounds.specs.declared.stored.StoredRounds.{StoredRounds}

-- To ask for a round leaves the latest safe epoch.
asked-safe : (client : ℕ) (asked : Option RoundAnswer) (k : ClientState) (safe : ℕ)
    → safe_after_call (desk_event client k call.RoundOpen (option_map_or answer.Round asked answer.NoMemory)) safe ≡ safe
asked-safe client (Some a) k safe = refl
asked-safe client None k safe = refl

-- Rounds of a run are its rounds by more calls as well.
module _ {D : Type 0} (view : D → View) (o : Opening) (run : List CoreEvent) (begun m : StoredRounds D) (kept : Kept)
    (calls added now : List ClientCall) (is : now ≡ added ++ calls) where
  are-more : (starts : List (RoundStart D)) → AreRoundsOfRun view o run begun starts m kept calls
      → AreRoundsOfRun view o run begun starts m kept now
  are-more [] are = are
  are-more (last ∷ older) are = (
    record {
      behind = are.0.behind;
      epoch = are.0.epoch;
      how = are.0.how;
      ends = are.0.ends;
      leaves = are.0.leaves;
      later = added ++ are.0.later;
      since = is ∙ ap (λ (l : List ClientCall). added ++ l) are.0.since ∙ sym (append_assoc added are.0.later last.calls);
    },
    are.1,
  )

  pub more-calls : GoesByRoundsOfRun view o run begun m kept calls → GoesByRoundsOfRun view o run begun m kept now
  more-calls rounds = record { starts = rounds.starts; are = are-more rounds.starts rounds.are }

module _ (cells : List (CoreCell CoreShard)) (caller client shards : ℕ)
    (flush : IsFlusherOf FitsShard CoreShardStands ShardAnswerSays cells caller client shards) where
  abbrev pub Later : Opening → List CoreEntry → List CoreEntry → List CoreEvent → Type 0
  Later o own log run = IsLaterRun FitsShard CoreShardStands ShardAnswerSays cells o caller own log run

  abbrev pub Of : Opening → List CoreEntry → List CoreEvent → Type 0
  Of o own es = AreEventsOf (IsEntryEvent FitsShard CoreShardStands ShardAnswerSays o) own es

  -- Its own calls are events.
  pub own-events : (o : Opening) (own log : List CoreEntry) (run : List CoreEvent) → Later o own log run
      → (es : List CoreEvent) × Of o own es
  own-events o own log run later =
      let acts = is-client FitsShard CoreShardStands ShardAnswerSays cells caller client shards flush in
      let part =
      client-part FitsShard CoreShardStands ShardAnswerSays o caller log run (acts.acts o log later.opens) later.events
      in
      let g =
      go-on-from FitsShard CoreShardStands ShardAnswerSays cells o own later.begins.0 part.own
      (subst (λ (l : List CoreEntry). Of o l part.own) (sym later.begins.1) part.events)
      in
      (g.before, g.events)

  -- What is kept by its own calls is there in each run.
  pub in-run : (kept : Kept) (own : List CoreEntry) → IsKeptByCalls cells caller client own kept → (o : Opening)
      (log : List CoreEntry) (run es : List CoreEvent) → Later o own log run → Of o own es
      → IsKeptInRun kept o run (calls_of client es)
  in-run kept own by o log run es later are =
      let is = flush.client_is o log later.opens in
      record {
        first = by.of_runs o log run later;
        told = coe 0 1 (i. IsToldOfKept kept (state_from_calls o (is i) (calls_of client es))) (by.told o log run es later are);
        up_to = by.up_to o log run es later are;
        content = by.content o log run later;
      }

  module _ {D : Type 0} (view : D → View) (begun m : StoredRounds D) where
    -- What is kept, as it is known by own calls, holds in runs.
    pub kept-in-runs : (kept : Kept) (own : List CoreEntry) → IsKeptByCalls cells caller client own kept → StandsAt view m kept
        → GoesByRoundsOfRuns cells caller client own view begun m kept → CountsGoOn view begun m
        → KnowsBetween FitsShard CoreShardStands ShardAnswerSays cells caller client false own
        → HoldsInRuns FitsShard CoreShardStands ShardAnswerSays cells caller client (KeepsOfRun view begun m) own
    kept-in-runs kept own by at rounds counts between = record {
      kept = kept;
      in_runs = λ o log run es later are.
          let calls = calls_of client es in
          let is = flush.client_is o log later.opens in
          let none = coe 0 1 (i. (state_from_calls o (is i) calls).store_lost ≡ false) (between o log run es later are).store in
          record {
            rounds = rounds o log run es later are;
            in_run = in-run kept own by o log run es later are;
            stands = subst (λ (lost : Bool). MatchBool lost (HasLostRound view m kept o run) (StandsAt view m kept)) (sym none) at;
            counts = coe 1 0 (i. MatchBool (none i) (HasFailedDisk view begun m) (CountsGoOn view begun m)) counts;
          };
    }

    module _ (asked : Option RoundAnswer) (own now : List CoreEntry) (is : now ≡ own ++ opening_entry caller asked ∷ [])
        (held : HoldsInRuns FitsShard CoreShardStands ShardAnswerSays cells caller client (KeepsOfRun view begun m) own)
        (between : KnowsBetween FitsShard CoreShardStands ShardAnswerSays cells caller client false own) where
      abbrev asks : List ClientCall → Opening → ClientCall
      asks calls o =
          desk_event client (state_from_calls o client calls) call.RoundOpen
          (option_map_or answer.Round asked answer.NoMemory)

      -- The calls before it asked, and what was kept of a run with them.
      goes : (o : Opening) (log : List CoreEntry) (run es : List CoreEvent) → Later o now log run → Of o now es
          → GoOnBy FitsShard CoreShardStands ShardAnswerSays cells o client own es (λ calls. asks calls o)
      goes o log run es later are =
          learnt FitsShard CoreShardStands ShardAnswerSays cells caller client shards flush own now call.RoundOpen
          (option_map_or answer.Round asked answer.NoMemory) is o log run es later are

      was-later : (o : Opening) (log : List CoreEntry) (run : List CoreEvent) → Later o now log run → Later o own log run
      was-later o log run later =
          before-it FitsShard CoreShardStands ShardAnswerSays cells caller client shards flush own now (opening_entry caller asked) is o
          log run later

      kept-then : (o : Opening) (log : List CoreEntry) (run es : List CoreEvent) (later : Later o now log run) (are : Of o now es)
          → KeepsOfRun view begun m held.kept o run (calls_of client (goes o log run es later are).before)
      kept-then o log run es later are =
          let g = goes o log run es later are in held.in_runs o log run g.before (was-later o log run later) g.events

      pub kept-by-asking : IsKeptByCalls cells caller client now held.kept
      kept-by-asking = record {
        of_runs = λ o log run later.
            let own_es = own-events o now log run later in (kept-then o log run own_es.0 later own_es.1).in_run.first;
        told = λ o log run es later are.
            let g = goes o log run es later are in
            let kept = held.kept in
            let same = flush.client_is o log later.opens in
            let was =
            coe 1 0 (i. IsToldOfKept kept (state_from_calls o (same i) (calls_of client g.before)))
            (kept-then o log run es later are).in_run.told
            in
            subst (λ (l : List CoreEvent). IsToldOfKept kept (state_from_calls o client (calls_of client l))) (sym g.whole)
            (told-stays o client (length kept.cubes) (counts_of kept.names) (By client (asks (calls_of client g.before) o) ∷ [])
            g.before was);
        up_to = λ o log run es later are.
            let g = goes o log run es later are in
            let calls = calls_of client g.before in
            (kept-then o log run es later are).in_run.up_to
            ∙ sym (asked-safe client asked (state_from_calls o client calls) (safe_by_calls o calls))
            ∙ ap (safe_by_calls o) (sym g.calls);
        content = λ o log run later.
            let own_es = own-events o now log run later in (kept-then o log run own_es.0 later own_es.1).in_run.content;
      }

      pub rounds-by-asking : GoesByRoundsOfRuns cells caller client now view begun m held.kept
      rounds-by-asking o log run es later are =
          let g = goes o log run es later are in
          let calls = calls_of client g.before in
          more-calls view o run begun m held.kept calls (asks calls o ∷ []) (calls_of client es) g.calls
          (kept-then o log run es later are).rounds

      module _ (history : HasHistory cells caller now) where
        -- A run of that history.
        abbrev o : Opening
        o = (flush.opening history.log).0

        abbrev run : HasRunOfClient FitsShard CoreShardStands ShardAnswerSays cells o caller client now history.log
        run =
            client-run FitsShard CoreShardStands ShardAnswerSays CanCallCoreShard CoreShardStep linked-shards cells caller client now o
            (is-client FitsShard CoreShardStands ShardAnswerSays cells caller client shards flush) history
            (flush.opening history.log).1

        abbrev gone : GoOnBy FitsShard CoreShardStands ShardAnswerSays cells o client own run.es (λ calls. asks calls o)
        gone = goes o history.log run.run run.es run.is_later run.events

        pub stands-then : StandsAt view m held.kept
        stands-then =
            let same = flush.client_is o history.log run.is_later.opens in
            let calls = calls_of client gone.before in
            let none =
            coe 0 1 (i. (state_from_calls o (same i) calls).store_lost ≡ false)
            (between o history.log run.run gone.before (was-later o history.log run.run run.is_later) gone.events).store
            in
            subst (λ (lost : Bool). MatchBool lost (HasLostRound view m held.kept o run.run) (StandsAt view m held.kept)) none
            (kept-then o history.log run.run run.es run.is_later run.events).stands

        pub counts-then : CountsGoOn view begun m
        counts-then =
            let same = flush.client_is o history.log run.is_later.opens in
            let calls = calls_of client gone.before in
            let none =
            coe 0 1 (i. (state_from_calls o (same i) calls).store_lost ≡ false)
            (between o history.log run.run gone.before (was-later o history.log run.run run.is_later) gone.events).store
            in
            subst (λ (lost : Bool). MatchBool lost (HasFailedDisk view begun m) (CountsGoOn view begun m)) none
            (kept-then o history.log run.run run.es run.is_later run.events).counts

        -- It begins where the store ends.
        pub begins-then : (from epoch : ℕ) → asked ≡ Some (Target from epoch) → from ≡ held.kept.epoch
        begins-then from epoch opened =
            let same = flush.client_is o history.log run.is_later.opens in
            let calls = calls_of client gone.before in
            let made : calls_of client run.run ≡ OnDesk (RoundOpen (Target from epoch)) ∷ calls =
            run.calls ∙ gone.calls
            ∙ ap (λ (a : Option RoundAnswer). desk_event client (state_from_calls o client calls) call.RoundOpen
            (option_map_or answer.Round a answer.NoMemory) ∷ calls) opened
            in
            let right =
            subst (λ (l : List ClientCall). AreOpenedRight o l) made
            (coe 1 0 (i. AreOpenedRight o (calls_of (same i) run.run)) (all-opened-right o run.run run.is_later.is_run))
            in
            right.0 ∙ sym (kept-then o history.log run.run run.es run.is_later run.events).in_run.up_to

        begins-by : (from epoch : ℕ) → from ≡ held.kept.epoch → (span : RoundSpan) → span.from ≡ from → (b : Bool) → span.whole ≡ b
            → b ≡ wants_whole m.store → first_epoch span ≡ (kept_before m.store held.kept).epoch
        begins-by from epoch at span is_from true whole wants =
            ap (λ (w : Bool). if w then 0 else span.from) whole
            ∙ ap (λ (w : Bool). (if w then kept_of_cubes (header_cubes held.kept) else held.kept).epoch) wants
        begins-by from epoch at span is_from false whole wants =
            ap (λ (w : Bool). if w then 0 else span.from) whole ∙ is_from ∙ at
            ∙ ap (λ (w : Bool). (if w then kept_of_cubes (header_cubes held.kept) else held.kept).epoch) wants

        -- So it takes the round.
        pub ready-then : (from epoch : ℕ) → asked ≡ Some (Target from epoch) → AlwaysOpenForRounds cells → (span : RoundSpan)
            → span.from ≡ from → span.whole ≡ wants_whole m.store
            → IsReadyForRound cells caller client now view span m held.kept
        ready-then from epoch opened open_for span is_from whole = record {
          by_calls = kept-by-asking;
          takes = record {
            at = stands-then;
            of_runs = λ o log run later.
                kept-behind o run (wants_whole m.store) held.kept (kept-by-asking.of_runs o log run later);
            open_for = λ o log run later. open_for o log run later.opens later.events later.is_run;
            begins = begins-by from epoch (begins-then from epoch opened) span is_from (wants_whole m.store) whole refl;
          };
        }
