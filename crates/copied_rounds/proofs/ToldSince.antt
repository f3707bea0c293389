-- What the flusher was told by later calls holds at some moment since it had made the earlier ones.
use Rattle.std.proofs.Common.{◌≡◌, ◌∙◌, ℕ, List, [], ◌∷◌, ◌++◌, drop, Contains, append_assoc, append-nil, sym, subst}
use Rattle.std.proofs.lemmas.List.Elements.{All-contains_itself, All-filter, Contains-append_left}
use Rattle.core_program.specs.ClientCalls.{desk_entry, names_entry}
use Rattle.cube_core.specs.Links.{AreEventsOf}
use Rattle.cube_core.specs.BoardCells.{IsEntryEvent, client_of}
use Rattle.core_program.proofs.ClientRuns.{known-in-run}
use Rattle.core_program.proofs.FlusherCalls.{is-client}
use Rattle.core_program.proofs.KnownCalls.{client-part}
use Rattle.core_program.specs.Flushing.{IsFlusherOf}
use Rattle.core_program.specs.Knowing.{HasRunOfClient, IsLaterRun}
use Rattle.core_cells.specs.declared.desk.DeskAnswer.TheVariants as answer
use Rattle.core_cells.specs.declared.desk.DeskCall.TheVariants as call
use Rattle.core_cells.specs.declared.names.NamesAnswer.TheVariants as told
use Rattle.core_cells.specs.declared.names.NamesCall.TheVariants as names
use Rattle.core_events.proofs.Knowledge.{known-by-calls}
use Rattle.core_events.specs.Cells.{desk_of, dictionary_of}
use Rattle.core_events.specs.Clients.{ClientState, calls_of, client_state, state_from_calls}
use Rattle.core_events.specs.Events.{Opening, CubesFrom, CopyFrom, OnDesk, OnNames, CoreEvent, By}
use Rattle.core_events.specs.Runs.{IsCoreRun}
use Rattle.core_program.specs.CoreFits.{CoreEntry, OpensCells}
use Rattle.core_program.specs.LinkedCells.{linked-cells}
use Rattle.core_records.proofs.CubesOnRecord.{run-before}
use Rattle.cube_core.specs.declared.cell.CoreCell.{CoreCell}
use Rattle.cube_language.specs.declared.decl.Decl.{Decl}
use Rattle.copied_rounds.proofs.Moments.{HappensSince, IsCut, AreSplit, all-behind, cut, happens, split}
use Rattle.following_rounds.specs.FollowingRounds.{HoldsSince}
use Rattle.linked_shards.specs.CellShards.{CanCallCoreShard, CoreShardStands, CoreShardStep, linked-shards}
use Rattle.linked_shards.specs.declared.cell.CoreShard.{CoreShard}
use Rattle.round_copies.specs.WithinRounds.{KnowsOfFlusher}
use Rattle.shard_events.specs.ShardsInRuns.{FitsShard, ShardAnswerSays}
use Rattle.turn_board.specs.History.{is_by_caller, of_caller}

module _ (cells : List (CoreCell CoreShard)) (caller : ℕ) (o : Opening) where
  abbrev Later : List CoreEntry → List CoreEntry → List CoreEvent → Type 0
  Later own log run = IsLaterRun FitsShard CoreShardStands ShardAnswerSays cells o caller own log run

  abbrev entry_event : List CoreEvent → CoreEntry → CoreEvent → Type 0
  entry_event es e x = IsEntryEvent FitsShard CoreShardStands ShardAnswerSays o es e x

  -- What is known of the flusher's state by its own calls is so in a run with them.
  pub known-now : (client shards : ℕ) → IsFlusherOf FitsShard CoreShardStands ShardAnswerSays cells caller client shards
      → (Is : Opening → ClientState → Type 0) (own log : List CoreEntry) (run : List CoreEvent)
      → KnowsOfFlusher cells caller client own Is → Later own log run → of_caller caller log ≡ own
      → Is o (client_state o client run)
  known-now client shards flush Is own log run knows later mine =
      let acts = is-client FitsShard CoreShardStands ShardAnswerSays cells caller client shards flush in
      let is = acts.client_is o log later.opens in
      let part =
      client-part FitsShard CoreShardStands ShardAnswerSays o caller log run (acts.acts o log later.opens) later.events
      in
      let r : HasRunOfClient FitsShard CoreShardStands ShardAnswerSays cells o caller client own log =
      record {
        run = run;
        is_later = later;
        es = part.own;
        events = subst (λ (l : List CoreEntry). AreEventsOf entry_event l part.own) mine part.events;
        calls = coe 1 0 (i. calls_of (is i) run ≡ calls_of (is i) part.own) part.same;
      }
      in
      subst (Is o) (sym (known-by-calls o client run))
      (known-in-run FitsShard CoreShardStands ShardAnswerSays cells caller client own log o
      (λ p calls. Is p (state_from_calls p client calls)) knows r)

  module _ (earlier later log : List CoreEntry) (run : List CoreEvent) (goes : Later (earlier ++ later) log run) where
    abbrev rest : List CoreEntry
    rest = goes.begins.0

    abbrev cut_log : IsCut (is_by_caller caller) earlier (later ++ rest) log
    cut_log =
        cut (is_by_caller caller) log earlier (later ++ rest) (sym goes.begins.1 ∙ append_assoc earlier later rest)

    abbrev parts : AreSplit entry_event [] cut_log.first cut_log.second run
    parts =
        split entry_event cut_log.first cut_log.second [] run
        (subst (λ (l : List CoreEntry). AreEventsOf entry_event l run) cut_log.whole goes.events)

    -- The moment, by the history up to it.
    abbrev pub log_then : List CoreEntry
    log_then = cut_log.first

    abbrev pub moment : List CoreEvent
    moment = parts.moment

    pub earlier-calls : of_caller caller log_then ≡ earlier
    earlier-calls = cut_log.passed

    pub run-then : Later earlier log_then moment
    run-then =
        let newer = all-behind entry_event cut_log.second moment run parts.behind in
        let linked =
        linked-cells CanCallCoreShard CoreShardStep FitsShard CoreShardStands ShardAnswerSays linked-shards
        in
        record {
          opens = linked.earlier o cells cut_log.first cut_log.second
              (subst (OpensCells FitsShard CoreShardStands ShardAnswerSays o cells) cut_log.whole goes.opens);
          begins = ([], append-nil earlier ∙ sym cut_log.passed);
          events = parts.before;
          is_run = run-before o newer.0 moment (subst (IsCoreRun o) newer.1 goes.is_run);
        }

    -- A later call of its own is an event since.
    happened : (e : CoreEntry) → Contains later e → HappensSince entry_event moment run e
    happened e made =
        let own = subst (λ (l : List CoreEntry). Contains l e) (sym cut_log.left) (Contains-append_left later rest e made) in
        let there =
        All-filter (is_by_caller caller) (Contains cut_log.second) cut_log.second (All-contains_itself cut_log.second)
        own.0 e own.1
        in
        let at = subst (Contains cut_log.second) own.2 there in
        happens entry_event cut_log.second moment run e at.0 parts.behind at.1 at.2

    run-at : (e : CoreEntry) (x : CoreEvent) (h : HappensSince entry_event moment run e) → h.next ≡ x
        → IsCoreRun o (x ∷ (h.since ++ moment))
    run-at e x h is =
        coe 0 1 (i. IsCoreRun o (is i ∷ (h.since ++ moment)))
        (run-before o h.later (h.next ∷ (h.since ++ moment)) (subst (IsCoreRun o) h.whole goes.is_run))

    at-moment : (e : CoreEntry) (h : HappensSince entry_event moment run e) (Holds : List CoreEvent → Type 0)
        → Holds (h.since ++ moment) → HoldsSince moment run Holds
    at-moment e h Holds holds = record {
      since = h.since;
      later = h.later ++ h.next ∷ [];
      of_run = h.whole ∙ sym (append_assoc h.later (h.next ∷ []) (h.since ++ moment));
      holds = holds;
    }

    pub cubes-since : (place : ℕ) (cubes : List Decl)
        → Contains later (desk_entry caller (call.CubesFrom place) (answer.Cubes cubes))
        → HoldsSince moment run (λ es. cubes ≡ drop place (desk_of o es).cubes)
    cubes-since place cubes made =
        let e = desk_entry caller (call.CubesFrom place) (answer.Cubes cubes) in
        let h = happened e made in
        let now = run-at e (By (client_of o caller) (OnDesk (CubesFrom place cubes))) h h.is.2 in
        at-moment e h (λ es. cubes ≡ drop place (desk_of o es).cubes) now.1.says

    pub names-since : (cube dim count : ℕ) (list : List (List ℕ))
        → Contains later (names_entry caller (names.CopyFrom cube dim count) (told.Copied list))
        → HoldsSince moment run (λ es. list ≡ drop count (dictionary_of o cube dim es).names)
    names-since cube dim count list made =
        let e = names_entry caller (names.CopyFrom cube dim count) (told.Copied list) in
        let h = happened e made in
        let now = run-at e (By (client_of o caller) (OnNames (CopyFrom cube dim count list))) h h.is.1 in
        at-moment e h (λ es. list ≡ drop count (dictionary_of o cube dim es).names) now.1.says
