-- A writer is held by a session, spoiled or not, while its calls go on by calls on the names.
use Rattle.std.proofs.Common.{◌≡◌, ◌∙◌, ℕ, List, [], ◌∷◌, ◌++◌, Some, inl, inr, refl, sym, ap, subst}
use Rattle.core_program.specs.ClientCalls.{names_entry}
use Rattle.core_cells.specs.declared.names.NamesAnswer.{NamesAnswer}
use Rattle.core_cells.specs.declared.names.NamesAnswer.TheVariants as told
use Rattle.core_cells.specs.declared.names.NamesCall.{NamesCall}
use Rattle.core_cells.specs.declared.names.NamesCall.TheVariants as names
use Rattle.core_events.specs.Clients.{ClientState, after_client_call, calls_of, state_from_calls}
use Rattle.core_events.specs.Events.{Opening, ClientCall}
use Rattle.cube_core.specs.NamesEvents.{names_event}
use Rattle.core_names.proofs.HeldOn.{by-names, holds-on}
use Rattle.core_names.specs.AskedNames.{GoOnByNames}
use Rattle.core_program.proofs.KnownCalls.{earlier-run, names-learn}
use Rattle.core_program.specs.CoreFits.{CoreEntry}
use Rattle.core_program.specs.Knowing.{IsClientOf, last_posted}
use Rattle.cube_core.proofs.Looking.{asks-names}
use Rattle.cube_core.specs.declared.cell.CoreCell.{CoreCell}
use Rattle.cube_values.specs.declared.snapshot.Snapshot.{Snapshot}
use Rattle.session_snapshots.specs.KnownHolds.{HoldsSpoiledWriter, HoldsWriter}
use Rattle.linked_shards.specs.CellShards.{CoreShardStands}
use Rattle.shard_events.specs.ShardsInRuns.{FitsShard, ShardAnswerSays}
use Rattle.linked_shards.specs.declared.cell.CoreShard.{CoreShard}
use Rattle.session_batches.proofs.GoneOut.{none-out}
use Rattle.session_batches.specs.PutRows.{HoldsAfterPut}
use Rattle.session_batches.specs.RowsOut.{HasRowsOut, HoldsRowsOut, with_rows_out}
use Rattle.session_batches.specs.declared.answers.PutEnd.{PutEnd}
use Rattle.session_batches.specs.declared.answers.PutEnd.TheVariants as put
use Rattle.session_groups.specs.ShardGroups.{HoldsOpenWriter}
use Rattle.cube_core.specs.HoldStates.{HasSpoiledWrite}

spoiled-still : (o : Opening) (a : ℕ) (c : NamesCall) (said : NamesAnswer) (s : Snapshot) (k : ClientState)
    → HasSpoiledWrite o a s k → HasSpoiledWrite o a s (after_client_call o a (names_event c said) k)
spoiled-still o a (names.Encode cube dim shape name) (told.Coded code) s k h = record {
  holds = record { held = h.holds.held; leader = h.holds.leader };
  writer = h.writer;
  ended = h.ended;
  spoiled = h.spoiled;
}
spoiled-still o a (names.Find cube dim name) (told.Found number) s k h = record {
  holds = record { held = h.holds.held; leader = h.holds.leader };
  writer = h.writer;
  ended = h.ended;
  spoiled = h.spoiled;
}
spoiled-still o a (names.CopyFrom cube dim from) (told.Copied copied) s k h = record {
  holds = record { held = h.holds.held; leader = h.holds.leader };
  writer = h.writer;
  ended = h.ended;
  spoiled = h.spoiled;
}
spoiled-still o a c said s k h = record {
  holds = record { held = h.holds.held; leader = h.holds.leader };
  writer = h.writer;
  ended = h.ended;
  spoiled = h.spoiled;
}

module _ (cells : List (CoreCell CoreShard)) (caller session : ℕ)
    (acts : IsClientOf FitsShard CoreShardStands ShardAnswerSays cells caller session) (writer : Snapshot) where
  abbrev Spoiled : List CoreEntry → Type 0
  Spoiled own = HoldsSpoiledWriter FitsShard CoreShardStands ShardAnswerSays cells caller session own writer

  spoiled-by-one : (own : List CoreEntry) (c : NamesCall) (said : NamesAnswer) → Spoiled own
      → Spoiled (own ++ names_entry caller c said ∷ [])
  spoiled-by-one own c said knows o log run es later are =
      let g =
      names-learn FitsShard CoreShardStands ShardAnswerSays cells caller session acts own c said o log es later.opens are
      in
      subst (λ (calls : List ClientCall). HasSpoiledWrite o session writer (state_from_calls o session calls))
      (sym g.calls)
      (spoiled-still o session c said writer (state_from_calls o session (calls_of session g.before))
      (knows o log run g.before
      (earlier-run FitsShard CoreShardStands ShardAnswerSays cells o caller own (names_entry caller c said ∷ []) log run
      later) g.events))

  pub open-by-names : (own now : List CoreEntry) → GoOnByNames caller own now
      → HoldsOpenWriter cells caller session own writer → HoldsOpenWriter cells caller session now writer
  open-by-names own now asks (inl h) =
      inl ((holds-on FitsShard CoreShardStands ShardAnswerSays cells caller session acts own now asks).writer writer h)
  open-by-names own now asks (inr h) = inr (by-names caller Spoiled spoiled-by-one own now asks h)

-- ---- rows that are out

out-behind : (o : Opening) (a : ℕ) (c : NamesCall) (said : NamesAnswer) (shards : List ℕ) (k : ClientState)
    → after_client_call o a (names_event c said) (with_rows_out shards k)
    ≡ with_rows_out shards (after_client_call o a (names_event c said) k)
out-behind o a c said [] k = refl
out-behind o a (names.Encode cube dim shape name) (told.Coded code) (shard ∷ shards) k = refl
out-behind o a (names.Find cube dim name) (told.Found number) (shard ∷ shards) k = refl
out-behind o a (names.CopyFrom cube dim from) (told.Copied copied) (shard ∷ shards) k = refl
out-behind o a c said (shard ∷ shards) k = refl

posted-behind : (c : NamesCall) (said : NamesAnswer) (shard : ℕ) (calls : List ClientCall)
    → last_posted shard (names_event c said ∷ calls) ≡ last_posted shard calls
posted-behind (names.Encode cube dim shape name) (told.Coded code) shard calls = refl
posted-behind (names.Find cube dim name) (told.Found number) shard calls = refl
posted-behind (names.CopyFrom cube dim from) (told.Copied copied) shard calls = refl
posted-behind c said shard calls = refl

out-still : (o : Opening) (a : ℕ) (c : NamesCall) (said : NamesAnswer) (s : Snapshot) (shards : List ℕ)
    (calls : List ClientCall)
    → HasRowsOut a s shards o calls → HasRowsOut a s shards o (names_event c said ∷ calls)
out-still o a c said s shards calls h = record {
  before = after_client_call o a (names_event c said) h.before;
  writes = record {
    ready = asks-names o a c said (Some s) h.before h.writes.ready;
    writer = h.writes.writer;
  };
  state = ap (λ (k : ClientState). after_client_call o a (names_event c said) k) h.state
      ∙ out-behind o a c said shards h.before;
  appends = λ place shard at.
      let last = h.appends place shard at in
      record {
        cube = last.cube;
        epoch = last.epoch;
        rows = last.rows;
        is = posted-behind c said shard calls ∙ last.is;
      };
}

module _ (cells : List (CoreCell CoreShard)) (caller session : ℕ)
    (acts : IsClientOf FitsShard CoreShardStands ShardAnswerSays cells caller session) (writer : Snapshot)
    (shards : List ℕ) where
  abbrev Out : List CoreEntry → Type 0
  Out own = HoldsRowsOut cells caller session own writer shards

  out-by-one : (own : List CoreEntry) (c : NamesCall) (said : NamesAnswer) → Out own
      → Out (own ++ names_entry caller c said ∷ [])
  out-by-one own c said knows o log run es later are =
      let g =
      names-learn FitsShard CoreShardStands ShardAnswerSays cells caller session acts own c said o log es later.opens are
      in
      subst (λ (calls : List ClientCall). HasRowsOut session writer shards o calls) (sym g.calls)
      (out-still o session c said writer shards (calls_of session g.before)
      (knows o log run g.before
      (earlier-run FitsShard CoreShardStands ShardAnswerSays cells o caller own (names_entry caller c said ∷ []) log run
      later) g.events))

  -- Rows that are out are so behind calls on the names.
  pub out-by-names : (own now : List CoreEntry) → GoOnByNames caller own now → Out own → Out now
  out-by-names own now asks h = by-names caller Out out-by-one own now asks h

-- A session that holds its writer has none out.
pub none-out-yet : (cells : List (CoreCell CoreShard)) (caller session : ℕ) (own : List CoreEntry) (writer : Snapshot)
    → HoldsWriter FitsShard CoreShardStands ShardAnswerSays cells caller session own writer
    → HoldsRowsOut cells caller session own writer []
none-out-yet cells caller session own writer h o log run es later are =
    none-out o session writer (calls_of session es) (h o log run es later are)

-- After rows that were put it is open.
pub open-after-put : (cells : List (CoreCell CoreShard)) (caller session : ℕ) (own : List CoreEntry) (writer : Snapshot)
    (said : PutEnd) → HoldsAfterPut cells caller session own writer said
    → HoldsOpenWriter cells caller session own writer
open-after-put cells caller session own writer put.Done h = inl h
open-after-put cells caller session own writer (put.ShardFull shard rows) h = inr h
open-after-put cells caller session own writer (put.OutOfMemory shard) h = inr h
