-- What is known of a cube by its shape: a box that cuts no brick in the shape cuts none of the run's, and a query that is sound
-- for the shape is one of the run's cube.
use Rattle.std.proofs.Common.{◌≡◌, ◌∙◌, ℕ, ◌<◌, List, length, replicate, All, sym, ap, subst}
use Rattle.brick_address.proofs.Bricks.{has_address, is_address}
use Rattle.brick_address.specs.Addresses.{AreCoords, LieIn, brick_of, coords_of}
use Rattle.brick_store.proofs.Starts.{zeros_fit}
use Rattle.condition_spans.specs.Spans.{CutNoBrick}
use Rattle.core_events.specs.Cells.{sizes_of_cube}
use Rattle.core_events.specs.Clients.{ClientState}
use Rattle.core_events.specs.Events.{Opening}
use Rattle.core_events.specs.Fitting.{CutsNoBrick, IsQueryOf}
use Rattle.cube_values.specs.Queries.{IsSoundQuery}
use Rattle.cube_values.specs.Shapes.{IsSoundSize}
use Rattle.cube_values.specs.declared.query.BoundQuery.{BoundQuery}
use Rattle.cube_values.specs.declared.shape.CubeShape.{CubeShape}
use Rattle.cube_values.specs.declared.shape.Size.{Size}
use Rattle.cube_values.specs.declared.span.Part.{Part}
use Rattle.cube_values.specs.declared.span.Span.{Span}
use Rattle.shard_events.specs.ShardsInRuns.{FitsQuery, IsShapeInRun}

-- The first coordinates of a brick lie in it.
first-lies : (sizes : List Size) (coords : List ℕ) → All IsSoundSize sizes → AreCoords sizes coords
    → LieIn sizes (brick_of sizes coords) (coords_of sizes (brick_of sizes coords) (replicate (length sizes) 0))
first-lies sizes coords sound are =
    let brick = brick_of sizes coords in
    let below = (has_address sizes coords sound are).brick in
    (is_address sizes brick (replicate (length sizes) 0) sound below (zeros_fit sizes brick sound below)).coords

pub cuts-none : (o : Opening) (cube : ℕ) (shape : CubeShape) (box : Span) → IsShapeInRun o cube shape → CutNoBrick shape.shape.sizes box.parts
    → CutsNoBrick o cube box
cuts-none o cube shape box of_run whole coords are =
    let sizes = sizes_of_cube o cube in
    let same : shape.shape.sizes ≡ sizes = ap (λ (s : CubeShape). s.shape.sizes) of_run.same in
    let sound = subst (λ (l : List Size). All IsSoundSize l) same of_run.sound.shape.sizes in
    let lies = first-lies sizes coords sound are in
    subst (λ (l : List Size). CutNoBrick l box.parts) same whole coords
    (coords_of sizes (brick_of sizes coords) (replicate (length sizes) 0)) are lies.of_cube (sym lies.of_brick)

pub parts-of : (o : Opening) (cube : ℕ) (shape : CubeShape) (parts : List Part) → IsShapeInRun o cube shape → length parts ≡ length shape.shape.sizes
    → length parts ≡ length (sizes_of_cube o cube)
parts-of o cube shape parts of_run as_many = as_many ∙ ap (λ (s : CubeShape). length s.shape.sizes) of_run.same

pub query-of : (o : Opening) (shape : CubeShape) (query : BoundQuery) (k : ClientState) → FitsQuery o shape query → query.cube < k.cubes
    → IsQueryOf o query k
query-of o shape query k fits there = record {
  there = there;
  sound = subst (λ (s : CubeShape). IsSoundQuery query (length s.shape.sizes) s.metrics) fits.of_run.same fits.sound;
}
