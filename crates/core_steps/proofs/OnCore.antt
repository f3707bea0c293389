-- What a session of a core knows, before and after its calls.
use Rattle.std.proofs.Common.{◌≡◌, ◌∙◌, ℕ, ◌<◌, ◌≤◌, List, [], ◌∷◌, ◌++◌, All, length, sym, subst, arith}
use Rattle.aosi_desk.specs.declared.cube.CubeFound.TheVariants.{Found}
use Rattle.core_program.specs.ClientCalls.{desk_entry}
use Rattle.condition_spans.specs.Spans.{CutNoBrick}
use Rattle.core_cells.specs.declared.desk.DeskAnswer.TheVariants as said
use Rattle.core_cells.specs.declared.desk.DeskCall.TheVariants as asked
use Rattle.core_program.specs.Knowing.{Knows}
use Rattle.core_events.specs.Clients.{calls_of, state_from_calls}
use Rattle.core_program.specs.CoreFits.{CoreEntry}
use Rattle.cube_core.specs.declared.cell.CoreCell.{CoreCell}
use Rattle.cube_language.specs.declared.decl.Decl.{Decl}
use Rattle.cube_schema.specs.Schemas.{cube_of}
use Rattle.cube_values.specs.Queries.{IsSoundQuery}
use Rattle.cube_values.specs.Shapes.{IsSoundCube}
use Rattle.cube_values.specs.Spans.{IsSoundPart}
use Rattle.cube_values.specs.declared.query.BoundQuery.{BoundQuery}
use Rattle.cube_values.specs.declared.row.CodedRow.{CodedRow}
use Rattle.cube_values.specs.declared.shape.CubeShape.{CubeShape}
use Rattle.cube_values.specs.declared.span.Span.{Span}
use Rattle.job_groups.specs.AskedEach.{HasMore}
use Rattle.known_cubes.proofs.ToldCubes.{knows-cube, told-later, told-newest}
use Rattle.known_cubes.specs.KnownCubes.{CallsTellCube, by_search}
use Rattle.session_snapshots.specs.KnownHolds.{HoldsTheSame}
use Rattle.linked_shards.specs.CellShards.{CoreShardStands}
use Rattle.linked_shards.specs.declared.cell.CoreShard.{CoreShard}
use Rattle.names_dict.specs.Dictionaries.{IsTextDimension}
use Rattle.session_batches.specs.PutRows.{MayPutRows}
use Rattle.session_groups.specs.ShardGroups.{KnowsOfShards, MayDelete, MayQuery}
use Rattle.shard_events.specs.ShardsInRuns.{FitsShard, IsShapeInRun, ShardAnswerSays}
use Rattle.core_steps.specs.OnCore.{HasNoTexts, IsOnCore, KnowsCubeOnCore}

-- It is a session of the core still.
pub on-core-after : (shards session : ℕ) (cells new_cells : List (CoreCell CoreShard)) (caller new_caller : ℕ)
    → new_cells ≡ cells → new_caller ≡ caller → IsOnCore shards cells caller session
    → IsOnCore shards new_cells new_caller session
on-core-after shards session cells new_cells caller new_caller same_cells same_caller on =
    coe 1 0 (i. IsOnCore shards (same_cells i) (same_caller i) session) on

-- After more calls it still knows the cube.
pub knows-after : (shards place : ℕ) (decl : Decl) (cells new_cells : List (CoreCell CoreShard))
    (caller new_caller session : ℕ) (own now : List CoreEntry) → new_cells ≡ cells → new_caller ≡ caller
    → HasMore own now → KnowsCubeOnCore shards place decl cells caller session own
    → KnowsCubeOnCore shards place decl new_cells new_caller session now
knows-after shards place decl cells new_cells caller new_caller session own now same_cells same_caller more knows =
    coe 1 0 (i. KnowsCubeOnCore shards place decl (same_cells i) (same_caller i) session (more.whole i))
    (record {
      on_core = knows.on_core;
      name = knows.name;
      told = told-later own more.more knows.name place decl knows.told;
    })

-- The search found the cube.
pub knows-found : (shards place statement : ℕ) (name : List ℕ) (decl : Decl)
    (cells new_cells : List (CoreCell CoreShard)) (caller new_caller session : ℕ) (own now : List CoreEntry)
    → new_cells ≡ cells → new_caller ≡ caller
    → now ≡ own ++ desk_entry caller (asked.FindCube session statement name) (said.Found (Found place decl)) ∷ []
    → IsOnCore shards cells caller session → KnowsCubeOnCore shards place decl new_cells new_caller session now
knows-found shards place statement name decl cells new_cells caller new_caller session own now same_cells same_caller
    whole on =
    let e = desk_entry caller (asked.FindCube session statement name) (said.Found (Found place decl)) in
    coe 1 0 (i. KnowsCubeOnCore shards place decl (same_cells i) (same_caller i) session (whole i))
    (record { on_core = on; name = name; told = told-newest own e name place decl (by_search session statement) })

-- What it holds it holds after two steps.
pub same-then : (session : ℕ) (cells mid_cells new_cells : List (CoreCell CoreShard))
    (caller mid_caller new_caller : ℕ) (own mid now : List CoreEntry)
    → HoldsTheSame FitsShard CoreShardStands ShardAnswerSays session cells caller own mid_cells mid_caller mid
    → HoldsTheSame FitsShard CoreShardStands ShardAnswerSays session mid_cells mid_caller mid new_cells new_caller now
    → HoldsTheSame FitsShard CoreShardStands ShardAnswerSays session cells caller own new_cells new_caller now
same-then session cells mid_cells new_cells caller mid_caller new_caller own mid now first next = record {
  ready = λ held h. next.ready held (first.ready held h);
  reader = λ s h. next.reader s (first.reader s h);
  writer = λ s h. next.writer s (first.writer s h);
}

module _ (shards place : ℕ) (decl : Decl) (cells : List (CoreCell CoreShard)) (caller session : ℕ)
    (own : List CoreEntry) (some : 1 ≤ shards) (shape : CubeShape) (same : shape ≡ cube_of decl)
    (sound : IsSoundCube shape) (knows : KnowsCubeOnCore shards place decl cells caller session own) where
  pub tells : Knows FitsShard CoreShardStands ShardAnswerSays cells caller session own
      (CallsTellCube session place decl)
  tells =
      knows-cube FitsShard CoreShardStands ShardAnswerSays cells caller session own knows.name place decl
      knows.on_core.client knows.on_core.storable knows.told

  -- It may put rows without texts.
  pub may-put : (rows : List CodedRow) → HasNoTexts shape
      → Knows FitsShard CoreShardStands ShardAnswerSays cells caller session own
      (MayPutRows session shards place shape rows)
  may-put rows none o log run es later are =
      let known = tells o log run es later are in
      let is = (knows.on_core.mails.each 0 some).cell_is o log later.opens in
      let in_run : IsShapeInRun o place shape =
      record { place = known.below; sound = sound; same = same ∙ sym known.shape } in
      record {
        of_core = omega (arith, is);
        there = known.there;
        of_run = in_run;
        names = λ k d low dim coord texts at.
            absurd (none dim (subst (λ (s : CubeShape). IsTextDimension s dim) (sym in_run.same) texts));
      }

  -- It may ask for rows.
  pub may-query : (query : BoundQuery) → query.cube ≡ place
      → IsSoundQuery query (length shape.shape.sizes) shape.metrics → All IsSoundPart query.span.parts
      → KnowsOfShards cells caller session own (MayQuery session shape query)
  may-query query is fits parts o log run es later are =
      let known = tells o log run es later are in
      let in_run : IsShapeInRun o place shape =
      record { place = known.below; sound = sound; same = same ∙ sym known.shape } in
      record {
        fits = record {
          of_run = subst (λ (cube : ℕ). IsShapeInRun o cube shape) (sym is) in_run;
          sound = fits;
          parts = parts;
        };
        there = subst (λ (cube : ℕ). cube < (state_from_calls o session (calls_of session es)).cubes) (sym is)
            known.there;
      }

  -- It may delete the rows of a box that cuts no brick.
  pub may-delete : (box : Span) → length box.parts ≡ length shape.shape.sizes → All IsSoundPart box.parts
      → CutNoBrick shape.shape.sizes box.parts
      → KnowsOfShards cells caller session own (MayDelete session place shape box)
  may-delete box long parts whole o log run es later are =
      let known = tells o log run es later are in
      record {
        of_run = record { place = known.below; sound = sound; same = same ∙ sym known.shape };
        there = known.there;
        as_many = long;
        sound = parts;
        whole = whole;
      }
