-- A later run passes the moments after a session's calls, one after the other.
use Rattle.std.proofs.Common.{◌≡◌, ◌∙◌, ℕ, List, [], ◌∷◌, ◌++◌, Some, inl, refl, sym, ap, subst, append_assoc}
use mathlib.Core.List.{IsPrefix}
use Rattle.copied_names.specs.CopiedNames.{IsMomentAfter}
use Rattle.cube_core.specs.Links.{AreEventsAfter, AreEventsOf, EventOf}
use Rattle.core_events.proofs.Agreement.{agree}
use Rattle.core_events.proofs.Knowledge.{known-by-calls}
use Rattle.core_events.specs.Cells.{counters_of_run}
use Rattle.core_events.specs.Clients.{ClientState, calls_of, client_state, held_under, state_from_calls}
use Rattle.core_events.specs.Events.{Opening, IsSession, ClientCall, CoreEvent}
use Rattle.core_program.proofs.ClientRuns.{known-in-run}
use Rattle.core_program.proofs.KnownCalls.{client-part, earlier-run}
use Rattle.cube_core.specs.BoardCells.{IsEntryEvent}
use Rattle.core_program.specs.CoreFits.{CoreEntry}
use Rattle.core_program.specs.Knowing.{HasRunOfClient, IsClientOf, IsLaterRun}
use Rattle.cube_core.specs.declared.cell.CoreCell.{CoreCell}
use Rattle.cube_journal.specs.Counters.{held_by}
use Rattle.cube_values.specs.declared.snapshot.Snapshot.{Snapshot}
use Rattle.session_snapshots.specs.KnownHolds.{KnowsState}
use Rattle.linked_shards.specs.CellShards.{CoreShardStands}
use Rattle.shard_events.specs.ShardsInRuns.{FitsShard, ShardAnswerSays}
use Rattle.linked_shards.specs.declared.cell.CoreShard.{CoreShard}
use Rattle.turn_board.specs.declared.history.Event.{Event}

module _ {Q A : Type 0} (event : EventOf Q A) where
  -- Entries one after the other.
  pub after-both : (xs ys : List (Event Q A)) (start mid es : List CoreEvent) → AreEventsAfter event start xs mid
      → AreEventsAfter event mid ys es → AreEventsAfter event start (xs ++ ys) es
  after-both [] ys start mid es one two =
      subst (λ (l : List CoreEvent). AreEventsAfter event l ys es) (sym one) two
  after-both (x ∷ xs) ys start mid es one two = (one.0, one.1, after-both xs ys (one.0 ∷ start) mid es one.2 two)

  pub newer-events : (xs : List (Event Q A)) (start es : List CoreEvent) → AreEventsAfter event start xs es
      → (newer : List CoreEvent) × (es ≡ newer ++ start)
  newer-events [] start es are = ([], sym are)
  newer-events (x ∷ xs) start es are =
      let rest = newer-events xs (are.0 ∷ start) es are.2 in
      (rest.0 ++ are.0 ∷ [], rest.1 ∙ sym (append_assoc rest.0 (are.0 ∷ []) start))

module _ (cells : List (CoreCell CoreShard)) (caller session : ℕ) where
  abbrev pub Later : Opening → List CoreEntry → List CoreEntry → List CoreEvent → Type 0
  Later o own log run = IsLaterRun FitsShard CoreShardStands ShardAnswerSays cells o caller own log run

  abbrev pub Moment : Opening → List CoreEntry → List CoreEntry → List CoreEvent → List CoreEvent → Type 0
  Moment o own log run es = IsMomentAfter FitsShard CoreShardStands ShardAnswerSays cells o caller own log run es

  -- A run with more own calls is one with those before them.
  pub later-of : (o : Opening) (own now log : List CoreEntry) (run : List CoreEvent) → IsPrefix own now
      → Later o now log run → Later o own log run
  later-of o own now log run more later =
      earlier-run FitsShard CoreShardStands ShardAnswerSays cells o caller own more.0 log run
      (subst (λ (l : List CoreEntry). Later o l log run) (sym more.1) later)

  -- A moment of a moment is one of the whole run.
  pub moment-within : (o : Opening) (own after log : List CoreEntry) (run es mid : List CoreEvent)
      → (m : Moment o after log run mid) → Moment o own m.earlier mid es → Moment o own log run es
  moment-within o own after log run es mid m inner = record {
    earlier = inner.earlier;
    rest = inner.rest ++ m.rest;
    whole =
        m.whole ∙ ap (λ (l : List CoreEntry). l ++ m.rest) inner.whole
        ∙ append_assoc inner.earlier inner.rest m.rest;
    mine = inner.mine;
    run_then = inner.run_then;
    goes_on = after-both (IsEntryEvent FitsShard CoreShardStands ShardAnswerSays o) inner.rest m.rest es mid run
        inner.goes_on m.goes_on;
  }

  -- What came later in the run.
  pub came-later : (o : Opening) (own log : List CoreEntry) (run es : List CoreEvent) → Moment o own log run es
      → (newer : List CoreEvent) × (run ≡ newer ++ es)
  came-later o own log run es m =
      newer-events (IsEntryEvent FitsShard CoreShardStands ShardAnswerSays o) m.rest es run m.goes_on

  module _ (acts : IsClientOf FitsShard CoreShardStands ShardAnswerSays cells caller session) (o : Opening)
      (own log : List CoreEntry) (run es : List CoreEvent) (m : Moment o own log run es) where
    -- At the moment the session has made its own calls and no others.
    abbrev pub moment-run : HasRunOfClient FitsShard CoreShardStands ShardAnswerSays cells o caller session own m.earlier
    moment-run =
        let is = acts.client_is o m.earlier m.run_then.opens in
        let part = client-part FitsShard CoreShardStands ShardAnswerSays o caller m.earlier es
        (acts.acts o m.earlier m.run_then.opens) m.run_then.events
        in
        record {
          run = es;
          is_later = m.run_then;
          es = part.own;
          events =
              subst (λ (l : List CoreEntry). AreEventsOf (IsEntryEvent FitsShard CoreShardStands ShardAnswerSays o) l
              part.own) m.mine part.events;
          calls = coe 1 0 (i. calls_of (is i) es ≡ calls_of (is i) part.own) part.same;
        }

    -- What it knows of its state is so at the moment.
    pub known-then : (Is : Opening → ClientState → Type 0)
        → KnowsState FitsShard CoreShardStands ShardAnswerSays cells caller session own Is
        → Is o (client_state o session es)
    known-then Is knows =
        subst (λ (k : ClientState). Is o k) (sym (known-by-calls o session es))
        (known-in-run FitsShard CoreShardStands ShardAnswerSays cells caller session own m.earlier o
        (λ (p : Opening) (calls : List ClientCall). Is p (state_from_calls p session calls)) knows moment-run)

    -- So the desk has what it holds under its own number.
    pub held-then : (s : Snapshot) → IsSession o session → held_under session (client_state o session es).holds ≡ Some s
        → held_by (counters_of_run o es).snapshots session ≡ Some s
    held-then s is_session held = agree o es m.run_then.is_run session is_session session (inl refl) ∙ held
