-- A session puts the row of a name that it was told the number of, and makes calls on the names.
use Rattle.std.proofs.Common.{◌≡◌, ◌∙◌, ℕ, zero, suc, ◌<◌, ◌≤◌, ℤ, List, [], ◌∷◌, ◌++◌, All, get_or, slice_get, Some, refl, sym, subst, arith}
use Rattle.core_program.specs.ClientCalls.{names_entry}
use Rattle.cube_core.specs.Links.{AreEventsOf}
use Rattle.cube_core.specs.BoardCells.{IsEntryEvent}
use Rattle.core_cells.specs.declared.names.NamesAnswer.{NamesAnswer}
use Rattle.core_cells.specs.declared.names.NamesAnswer.TheVariants as told
use Rattle.core_cells.specs.declared.names.NamesCall.{NamesCall}
use Rattle.core_cells.specs.declared.names.NamesCall.TheVariants as names
use Rattle.core_program.proofs.KnownCalls.{earlier-run, names-learn}
use Rattle.core_program.specs.Knowing.{IsClientOf, IsLaterRun, Knows}
use Rattle.core_events.specs.Clients.{ClientState, after_client_call, calls_of, state_from_calls}
use Rattle.core_events.specs.Events.{ClientCall, Opening}
use Rattle.core_events.specs.Fitting.{AreToldNames}
use Rattle.cube_core.specs.NamesEvents.{names_event}
use Rattle.core_program.specs.CoreFits.{CoreEntry}
use Rattle.cube_core.specs.declared.cell.CoreCell.{CoreCell}
use Rattle.cube_language.specs.declared.decl.Decl.{Decl}
use Rattle.cube_schema.specs.Schemas.{cube_of}
use Rattle.cube_values.specs.Shapes.{IsSoundCube}
use Rattle.cube_values.specs.declared.row.CodedRow.{CodedRow}
use Rattle.cube_values.specs.declared.shape.CubeShape.{CubeShape}
use Rattle.known_cubes.proofs.ToldNames.{knows-number, told-later, told-newest}
use Rattle.known_cubes.specs.KnownNames.{by_encoding}
use Rattle.session_snapshots.specs.KnownHolds.{HoldsTheSame, KnowsState}
use Rattle.linked_shards.specs.CellShards.{CoreShardStands}
use Rattle.linked_shards.specs.declared.cell.CoreShard.{CoreShard}
use Rattle.names_dict.specs.declared.code.Code.{Code}
use Rattle.names_dict.specs.declared.code.Code.TheVariants.{Known, Added, Full}
use Rattle.job_groups.specs.AskedEach.{HasMore}
use Rattle.names_dict.specs.Dictionaries.{IsTextDimension}
use Rattle.session_batches.specs.PutRows.{MayPutRows}
use Rattle.cube_core.proofs.Looking.{asks-names}
use Rattle.cube_core.specs.HoldStates.{IsReadyWith, IsReading, IsWriting}
use Rattle.shard_events.specs.ShardsInRuns.{FitsShard, ShardAnswerSays}
use Rattle.core_steps.proofs.OnCore.{tells}
use Rattle.core_steps.specs.OnCore.{IsToldOfCode, IsToldOfNumber, KnowsCubeOnCore}

-- By one call on the names.
module _ (cells new_cells : List (CoreCell CoreShard)) (caller new_caller session : ℕ)
    (acts : IsClientOf FitsShard CoreShardStands ShardAnswerSays cells caller session)
    (same_cells : new_cells ≡ cells) (same_caller : new_caller ≡ caller) (own now : List CoreEntry) (c : NamesCall)
    (said : NamesAnswer) (is : now ≡ own ++ names_entry caller c said ∷ []) where
  abbrev IsState : Type 1
  IsState = Opening → ClientState → Type 0

  abbrev Leaves : IsState → Type 0
  Leaves Is = (o : Opening) (k : ClientState) → Is o k → Is o (after_client_call o session (names_event c said) k)

  -- What is so of its state is so then.
  state-after : (Is : IsState)
      → KnowsState FitsShard CoreShardStands ShardAnswerSays cells caller session own Is → Leaves Is
      → KnowsState FitsShard CoreShardStands ShardAnswerSays new_cells new_caller session now Is
  state-after Is knows leaves =
      coe 1 0 (i. KnowsState FitsShard CoreShardStands ShardAnswerSays (same_cells i) (same_caller i) session now Is)
      (λ o log run es later are.
      let more = names_entry caller c said ∷ [] in
      let later_one : IsLaterRun FitsShard CoreShardStands ShardAnswerSays cells o caller (own ++ more) log run =
      subst (λ (l : List CoreEntry). IsLaterRun FitsShard CoreShardStands ShardAnswerSays cells o caller l log run) is
      later
      in
      let g =
      names-learn FitsShard CoreShardStands ShardAnswerSays cells caller session acts own c said o log es later.opens
      (subst (λ (l : List CoreEntry). AreEventsOf (IsEntryEvent FitsShard CoreShardStands ShardAnswerSays o) l es) is
      are)
      in
      let earlier =
      earlier-run FitsShard CoreShardStands ShardAnswerSays cells o caller own more log run later_one
      in
      subst (λ (calls : List ClientCall). Is o (state_from_calls o session calls)) (sym g.calls)
      (leaves o (state_from_calls o session (calls_of session g.before)) (knows o log run g.before earlier g.events)))

  pub names-hold : HoldsTheSame FitsShard CoreShardStands ShardAnswerSays session cells caller own new_cells new_caller
      now
  names-hold = record {
    ready = λ held knows. state-after (λ o k. IsReadyWith o session held k) knows
        (λ o k r. asks-names o session c said held k r);
    reader = λ s knows. state-after (λ o k. IsReading o session s k) knows
        (λ o k r. record { ready = asks-names o session c said (Some s) k r.ready; reader = r.reader });
    writer = λ s knows. state-after (λ o k. IsWriting o session s k) knows
        (λ o k w. record { ready = asks-names o session c said (Some s) k w.ready; writer = w.writer });
  }

-- A name was encoded.
pub told-by-code : (own : List CoreEntry) (caller place : ℕ) (shape : CubeShape) (name : List ℕ) (code : Code)
    → IsToldOfCode (own ++ names_entry caller (names.Encode place 0 shape name) (told.Coded code) ∷ []) place code
told-by-code own caller place shape name (Known n) = record {
  name = name;
  told = told-newest own (names_entry caller (names.Encode place 0 shape name) (told.Coded (Known n))) place 0 name n
      (by_encoding shape (Known n) refl);
}
told-by-code own caller place shape name (Added n) = record {
  name = name;
  told = told-newest own (names_entry caller (names.Encode place 0 shape name) (told.Coded (Added n))) place 0 name n
      (by_encoding shape (Added n) refl);
}
told-by-code own caller place shape name Full = tt

pub told-after : (own now : List CoreEntry) (place number : ℕ) → HasMore own now → IsToldOfNumber own place number
    → IsToldOfNumber now place number
told-after own now place number more told =
    coe 1 0 (i. IsToldOfNumber (more.whole i) place number)
    (record { name = told.name; told = told-later own more.more place 0 told.name number told.told })

-- The one coordinate of a row of one dimension.
only-coord : (number dim coord : ℕ) → slice_get (number ∷ []) dim ≡ Some coord → coord ≡ number
only-coord number zero coord at = cc
only-coord number (suc dim) coord at = absurd (cc)

-- It is one of the names that there are.
named-below : (o : Opening) (place : ℕ) (k : ClientState) (number dim coord : ℕ)
    → IsTextDimension (o.shapes place) dim → slice_get (number ∷ []) dim ≡ Some coord → number < k.names place 0
    → coord < k.names place dim
named-below o place k number zero coord texts at below =
    let one = only-coord number 0 coord at in omega (arith, one, below)
named-below o place k number (suc dim) coord texts at below = absurd (cc)

only-row : (P : CodedRow → Type 0) (row : CodedRow) → P row → (i : ℕ) (d : CodedRow) → i < 1
    → P (get_or (row ∷ []) i d)
only-row P row holds zero d low = holds
only-row P row holds (suc i) d low = absurd (omega (arith, low))

-- It may put the row of a name by its number.
pub may-put-named : (shards place : ℕ) (decl : Decl) (cells : List (CoreCell CoreShard)) (caller session : ℕ)
    (own : List CoreEntry) → 1 ≤ shards → (shape : CubeShape) → shape ≡ cube_of decl → IsSoundCube shape
    → KnowsCubeOnCore shards place decl cells caller session own → (number : ℕ) → IsToldOfNumber own place number
    → (metrics : List ℤ) (rows : List CodedRow)
    → rows ≡ record { coords = number ∷ []; metrics = metrics } ∷ []
    → Knows FitsShard CoreShardStands ShardAnswerSays cells caller session own
    (MayPutRows session shards place shape rows)
may-put-named shards place decl cells caller session own some shape same sound knows number told metrics rows are
    o log run es later events =
    let row : CodedRow = record { coords = number ∷ []; metrics = metrics } in
    let known = tells shards place decl cells caller session own some shape same sound knows o log run es later events
    in
    let below =
    knows-number FitsShard CoreShardStands ShardAnswerSays cells caller session place 0 told.name number own
    knows.on_core.client told.told o log run es later events
    in
    let is = (knows.on_core.mails.each 0 some).cell_is o log later.opens in
    let k = state_from_calls o session (calls_of session es) in
    let names : AreToldNames o place k (number ∷ []) = (λ dim coord texts at.
    named-below o place k number dim coord texts at below) in
    record {
      of_core = omega (arith, is);
      there = known.there;
      of_run = record { place = known.below; sound = sound; same = same ∙ sym known.shape };
      names = subst (λ (l : List CodedRow). All (λ r. AreToldNames o place k r.coords) l) (sym are)
          (λ i d low. only-row (λ r. AreToldNames o place k r.coords) row names i d low);
    }
