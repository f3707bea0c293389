-- A later run passes the moment after a session's calls, at which its holders have the readers that it knows of.
use Rattle.std.proofs.Common.{◌≡◌, ◌∙◌, ℕ, List, [], ◌∷◌, ◌++◌, Option, Some, inl, inr, sym, subst, append_assoc}
use mathlib.Core.List.{IsPrefix}
use Rattle.core_watches.specs.BoundReaders.{HasReader}
use Rattle.copied_names.proofs.Moments.{passes}
use Rattle.copied_names.specs.CopiedNames.{IsMomentAfter}
use Rattle.cube_core.specs.Links.{AreEventsAfter, AreEventsOf, EventOf}
use Rattle.core_events.proofs.Agreement.{agree}
use Rattle.core_events.proofs.Knowledge.{known-by-calls}
use Rattle.core_events.specs.Cells.{counters_of_run}
use Rattle.core_events.specs.Clients.{ClientState, Holding, calls_of, client_state, held_under, reader_up_to, state_from_calls}
use Rattle.core_events.specs.Events.{Opening, IsSession, ClientCall, CoreEvent}
use Rattle.core_program.proofs.KnownCalls.{client-part, earlier-run}
use Rattle.cube_core.specs.BoardCells.{IsEntryEvent}
use Rattle.core_program.specs.CoreFits.{CoreEntry}
use Rattle.core_program.specs.Knowing.{HasRunOfClient, IsClientOf, IsLaterRun}
use Rattle.cube_core.specs.declared.cell.CoreCell.{CoreCell}
use Rattle.cube_journal.specs.Counters.{held_by}
use Rattle.linked_shards.specs.CellShards.{CanCallCoreShard, CoreShardStands, CoreShardStep, linked-shards}
use Rattle.shard_events.specs.ShardsInRuns.{FitsShard, ShardAnswerSays}
use Rattle.linked_shards.specs.declared.cell.CoreShard.{CoreShard}
use Rattle.session_watches.specs.KnownReaders.{HoldersHave}
use Rattle.turn_board.specs.declared.history.Event.{Event}
use Rattle.watch_holds.proofs.OtherHolds.{held-behind, held-first, held-in-others, not-own}
use Rattle.watch_holds.specs.HolderStates.{HasReaders, HeldReaders, HoldReaders, HoldsOneReader, IsHolderOf, LeadingReader, NoReader, OneReader, TwoReaders, reader_under}

-- ---- a reader among those of the holders

record IsHeldByHolder (session number epoch : ℕ) (holds : List Holding) : Type 0 where
  holder : IsHolderOf session number
  held : held_under number holds ≡ Some (reader_up_to epoch)

one-held : (session number epoch : ℕ) (holds : List Holding) (leader : Option ℕ)
    → HoldsOneReader session holds leader number epoch → IsHeldByHolder session number epoch holds
one-held session number epoch holds leader h = record {
  holder = h.holder;
  held =
      held-in-others session number holds (reader_under number epoch ∷ []) (not-own session number h.holder) h.others
      ∙ held-first number epoch [];
}

held-as : (session number other epoch at : ℕ) (holds : List Holding) → other ≡ number → at ≡ epoch
    → IsHeldByHolder session other at holds → IsHeldByHolder session number epoch holds
held-as session number other epoch at holds same also h = coe 0 1 (i. IsHeldByHolder session (same i) (also i) holds) h

reader-held : (session number epoch : ℕ) (readers : HeldReaders) (holds : List Holding) (leader : Option ℕ)
    → HoldReaders session holds leader readers → HasReader number epoch readers
    → IsHeldByHolder session number epoch holds
reader-held session number epoch NoReader holds leader h has = absurd has
reader-held session number epoch (LeadingReader other at) holds leader h has =
    held-as session number other epoch at holds has.0 has.1 (one-held session other at holds leader h.0)
reader-held session number epoch (OneReader other at) holds leader h has =
    held-as session number other epoch at holds has.0 has.1 (one-held session other at holds leader h)
reader-held session number epoch (TwoReaders older from newer to) holds leader h (inl has) =
    held-as session number older epoch from holds has.0 has.1 (record {
      holder = h.first;
      held =
          held-in-others session older holds (reader_under older from ∷ reader_under newer to ∷ [])
          (not-own session older h.first) h.others
          ∙ held-first older from (reader_under newer to ∷ []);
    })
reader-held session number epoch (TwoReaders older from newer to) holds leader h (inr has) =
    held-as session number newer epoch to holds has.0 has.1 (record {
      holder = h.second;
      held =
          held-in-others session newer holds (reader_under older from ∷ reader_under newer to ∷ [])
          (not-own session newer h.second) h.others
          ∙ held-behind older newer from (reader_under newer to ∷ []) h.apart
          ∙ held-first newer to [];
    })

-- ---- the moment

newer-events : {Q A : Type 0} (event : EventOf Q A) (xs : List (Event Q A)) (start es : List CoreEvent)
    → AreEventsAfter event start xs es → (newer : List CoreEvent) × (es ≡ newer ++ start)
newer-events event [] start es are = ([], sym are)
newer-events event (x ∷ xs) start es are =
    let rest = newer-events event xs (are.0 ∷ start) es are.2 in
    (rest.0 ++ are.0 ∷ [], rest.1 ∙ sym (append_assoc rest.0 (are.0 ∷ []) start))

module _ (cells : List (CoreCell CoreShard)) (caller session : ℕ) where
  abbrev pub Later : Opening → List CoreEntry → List CoreEntry → List CoreEvent → Type 0
  Later o own log run = IsLaterRun FitsShard CoreShardStands ShardAnswerSays cells o caller own log run

  abbrev pub Moment : Opening → List CoreEntry → List CoreEntry → List CoreEvent → List CoreEvent → Type 0
  Moment o own log run es = IsMomentAfter FitsShard CoreShardStands ShardAnswerSays cells o caller own log run es

  -- A run with more own calls is one with those before them.
  pub later-of : (o : Opening) (own now log : List CoreEntry) (run : List CoreEvent) → IsPrefix own now
      → Later o now log run → Later o own log run
  later-of o own now log run more later =
      earlier-run FitsShard CoreShardStands ShardAnswerSays cells o caller own more.0 log run
      (subst (λ (l : List CoreEntry). Later o l log run) (sym more.1) later)

  pub passing : (o : Opening) (own log : List CoreEntry) (run : List CoreEvent) → Later o own log run
      → (es : List CoreEvent) × Moment o own log run es
  passing o own log run =
      passes FitsShard CoreShardStands ShardAnswerSays CanCallCoreShard CoreShardStep linked-shards cells o caller own log run

  -- What came later in the run.
  pub came-later : (o : Opening) (own log : List CoreEntry) (run es : List CoreEvent) → Moment o own log run es
      → (newer : List CoreEvent) × (run ≡ newer ++ es)
  came-later o own log run es m =
      newer-events (IsEntryEvent FitsShard CoreShardStands ShardAnswerSays o) m.rest es run m.goes_on

  module _ (acts : IsClientOf FitsShard CoreShardStands ShardAnswerSays cells caller session) (o : Opening)
      (own log : List CoreEntry) (run es : List CoreEvent) (m : Moment o own log run es) where
    -- At the moment the session has made its own calls and no others.
    moment-run : HasRunOfClient FitsShard CoreShardStands ShardAnswerSays cells o caller session own m.earlier
    moment-run =
        let is = acts.client_is o m.earlier m.run_then.opens in
        let part = client-part FitsShard CoreShardStands ShardAnswerSays o caller m.earlier es
        (acts.acts o m.earlier m.run_then.opens) m.run_then.events
        in
        record {
          run = es;
          is_later = m.run_then;
          es = part.own;
          events =
              subst (λ (l : List CoreEntry). AreEventsOf (IsEntryEvent FitsShard CoreShardStands ShardAnswerSays o) l
              part.own) m.mine part.events;
          calls = coe 1 0 (i. calls_of (is i) es ≡ calls_of (is i) part.own) part.same;
        }

    -- The desk has the reader then.
    pub reader-then : (readers : HeldReaders) (number epoch : ℕ) → IsSession o session
        → HoldersHave FitsShard CoreShardStands ShardAnswerSays cells caller session own readers
        → HasReader number epoch readers
        → held_by (counters_of_run o es).snapshots number ≡ Some (reader_up_to epoch)
    unfolding moment-run
    reader-then readers number epoch is_session have has =
        let r = moment-run in
        let known : HasReaders session readers (state_from_calls o session (calls_of session es)) =
        subst (λ (calls : List ClientCall). HasReaders session readers (state_from_calls o session calls)) (sym r.calls)
        (have o m.earlier es r.es r.is_later r.events)
        in
        let k = client_state o session es in
        let then : HasReaders session readers k =
        subst (λ (c : ClientState). HasReaders session readers c) (sym (known-by-calls o session es)) known
        in
        let h = reader-held session number epoch readers k.holds k.leader then has in
        agree o es m.run_then.is_run session is_session number (inr h.holder) ∙ h.held
