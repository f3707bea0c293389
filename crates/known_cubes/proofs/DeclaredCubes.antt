-- What the declaration of a cube that a client knows says of its calls.
use Rattle.std.proofs.Common.{◌≡◌, ◌∙◌, ℕ, ◌/◌, ◌%◌, ◌<◌, ◌≤◌, List, [], ◌∷◌, length, replicate, All, sym, ap, subst}
use Rattle.std.proofs.lemmas.List.{length-map}
use Rattle.std.proofs.lemmas.List.Elements.{All-head, All-tail, All-weaker}
use Rattle.std.proofs.lemmas.Nat.{mod_below}
use Rattle.cube_values.specs.Queries.{IsSoundQuery}
use Rattle.cube_values.specs.Shapes.{IsSoundCube, IsSoundSize, bricks_of}
use Rattle.cube_values.specs.Spans.{span_has}
use Rattle.cube_values.specs.declared.span.Span.{Span}
use Rattle.cube_values.specs.declared.query.BoundQuery.{BoundQuery}
use Rattle.cube_values.specs.declared.row.CodedRow.{CodedRow}
use Rattle.cube_values.specs.declared.shape.CubeShape.{CubeShape}
use Rattle.cube_values.specs.declared.shape.Size.{Size}
use Rattle.cube_language.specs.Cubes.{size_of, sizes_of}
use Rattle.cube_language.specs.declared.decl.Decl.{Decl}
use Rattle.cube_schema.specs.Schemas.{cube_of}
use Rattle.brick_address.specs.Addresses.{AreCoords, AreOffsets, brick_of, coords_of}
use Rattle.brick_address.proofs.Bricks.{brick_below, bricks_pos, first_range_below, is_address}
use Rattle.brick_address.proofs.Dimensions.{length_pos}
use Rattle.condition_spans.specs.Spans.{CutNoBrick}
use Rattle.names_dict.specs.Dictionaries.{IsTextDimension}
use Rattle.core_cells.specs.declared.names.NamesAnswer.{NamesAnswer}
use Rattle.core_cells.specs.declared.names.NamesAnswer.TheVariants as told
use Rattle.core_cells.specs.declared.names.NamesCall.TheVariants as names
use Rattle.core_program.specs.Knowing.{IsClientOf, IsSessionOf, Knows, MayCallNames}
use Rattle.core_events.specs.Cells.{sizes_of_cube}
use Rattle.core_events.specs.Clients.{ClientState, calls_of, state_from_calls}
use Rattle.core_events.specs.Events.{Opening, IsSession}
use Rattle.core_events.specs.Fitting.{CutsNoBrick, FitsCall, IsQueryOf, MayAskName, MayPutRow}
use Rattle.core_events.specs.Jobs.{CoreJob, JobOutcome}
use Rattle.core_events.specs.ShardView.{ShardView}
use Rattle.cube_core.specs.NamesEvents.{FitsNamesCall, names_event}
use Rattle.core_program.specs.CoreFits.{CoreEntry}
use Rattle.cube_core.specs.declared.cell.CoreCell.{CoreCell}
use Rattle.cube_core.specs.declared.shard.ShardAnswer.{ShardAnswer}
use Rattle.cube_core.specs.declared.shard.ShardCall.{ShardCall}
use Rattle.known_cubes.proofs.ToldCubes.{knows-cube}
use Rattle.known_cubes.specs.KnownCubes.{CallsTellCube, IsRowToPut, IsToldOfCube, KnowsCube, OpenWithStorableCubes}

module _ (o : Opening) (place : ℕ) (decl : Decl) (k : ClientState) (known : KnowsCube o place decl k) where
  sizes-are : sizes_of_cube o place ≡ sizes_of decl.dims
  sizes-are = ap (λ (cube : CubeShape). cube.shape.sizes) known.shape

  pub dims-are : length (sizes_of_cube o place) ≡ length decl.dims
  dims-are = ap length sizes-are ∙ length-map decl.dims size_of

  metrics-are : (o.shapes place).metrics ≡ length decl.metrics
  metrics-are = ap (λ (cube : CubeShape). cube.metrics) known.shape

  put-row : (shard : ℕ) (row : CodedRow) → IsRowToPut decl place o.shards shard k row → MayPutRow o place shard k row
  put-row shard row is = record {
    coords = subst (λ (sizes : List Size). AreCoords sizes row.coords) (sym sizes-are) is.coords;
    of_shard = subst (λ (sizes : List Size). brick_of sizes row.coords % o.shards ≡ shard) (sym sizes-are) is.of_shard;
    metrics = is.metrics ∙ sym metrics-are;
    names = λ dim coord texts at.
        is.names dim coord (subst (λ (cube : CubeShape). IsTextDimension cube dim) known.shape texts) at;
  }

  pub put-rows : (shard : ℕ) (rows : List CodedRow) → All (IsRowToPut decl place o.shards shard k) rows
      → All (MayPutRow o place shard k) rows
  put-rows shard rows all =
      All-weaker (IsRowToPut decl place o.shards shard k) (MayPutRow o place shard k) (put-row shard) rows all

  may-ask : (a dim : ℕ) → IsSession o a → IsTextDimension (cube_of decl) dim → MayAskName o a place dim k
  may-ask a dim session texts = record {
    session = session;
    there = known.there;
    texts = subst (λ (cube : CubeShape). IsTextDimension cube dim) (sym known.shape) texts;
  }

  encode-fits : (a dim : ℕ) (shape : CubeShape) (name : List ℕ) → IsSession o a → IsTextDimension (cube_of decl) dim
      → length name ≤ 255
      → (answer : NamesAnswer) → FitsCall o a (names_event (names.Encode place dim shape name) answer) k
  encode-fits a dim shape name session texts short (told.Coded code) = (may-ask a dim session texts, short)
  encode-fits a dim shape name session texts short answer = tt

  find-fits : (a dim : ℕ) (name : List ℕ) → IsSession o a → IsTextDimension (cube_of decl) dim → (answer : NamesAnswer)
      → FitsCall o a (names_event (names.Find place dim name) answer) k
  find-fits a dim name session texts (told.Found number) = may-ask a dim session texts
  find-fits a dim name session texts answer = tt

  pub may-encode : (a dim : ℕ) (shape : CubeShape) (name : List ℕ) → IsSession o a → shape ≡ cube_of decl
      → IsSoundCube shape
      → IsTextDimension shape dim → length name ≤ 255 → FitsNamesCall o a (names.Encode place dim shape name) k
  may-encode a dim shape name session same sound texts short = record {
    shape = (same ∙ sym known.shape, sound);
    event = encode-fits a dim shape name session
        (subst (λ (cube : CubeShape). IsTextDimension cube dim) same texts) short;
  }

  pub may-find : (a dim : ℕ) (name : List ℕ) → IsSession o a → IsTextDimension (cube_of decl) dim
      → FitsNamesCall o a (names.Find place dim name) k
  may-find a dim name session texts = record { shape = tt; event = find-fits a dim name session texts }

pub asks-cube : (o : Opening) (decl : Decl) (query : BoundQuery) (k : ClientState) → KnowsCube o query.cube decl k
    → IsSoundQuery query (length decl.dims) (length decl.metrics) → IsQueryOf o query k
asks-cube o decl query k known sound =
    let dims = dims-are o query.cube decl k known in
    let metrics = metrics-are o query.cube decl k known in
    record { there = known.there; sound = coe 1 0 (i. IsSoundQuery query (dims i) (metrics i)) sound }

-- A box that cuts no brick.

first_offsets : (sizes : List Size) (brick : ℕ) → All IsSoundSize sizes → brick < bricks_of sizes
    → AreOffsets sizes brick (replicate (length sizes) 0)
first_offsets [] brick sound below = tt
first_offsets (s ∷ sizes) brick sound below =
    let first = All-head IsSoundSize s sizes sound in
    let rest = All-tail IsSoundSize s sizes sound in (
      length_pos s (brick / bricks_of sizes) first (first_range_below s sizes brick rest below),
      first_offsets sizes (brick % bricks_of sizes) rest (mod_below brick (bricks_of sizes) (bricks_pos sizes rest)),
    )

-- The first coordinates of the brick of others.
abbrev first_coords : List Size → List ℕ → List ℕ
first_coords sizes coords = coords_of sizes (brick_of sizes coords) (replicate (length sizes) 0)

abbrev HasWholeBricks : Span → List Size → Type 0
HasWholeBricks box sizes =
    (coords : List ℕ) → AreCoords sizes coords → span_has box coords ≡ span_has box (first_coords sizes coords)

whole-bricks : (sizes : List Size) (box : Span) → All IsSoundSize sizes → CutNoBrick sizes box.parts
    → HasWholeBricks box sizes
whole-bricks sizes box sound cut coords are =
    let brick = brick_of sizes coords in
    let zeros = first_offsets sizes brick sound (brick_below sizes coords sound are) in
    let first = is_address sizes brick (replicate (length sizes) 0) sound (brick_below sizes coords sound are) zeros in
    cut coords (first_coords sizes coords) are first.coords.of_cube (sym first.coords.of_brick)

pub drop-box : (o : Opening) (place : ℕ) (decl : Decl) (k : ClientState) (box : Span) → KnowsCube o place decl k
    → IsSoundCube (cube_of decl) → CutNoBrick (sizes_of decl.dims) box.parts → CutsNoBrick o place box
drop-box o place decl k box known sound cut =
    subst (HasWholeBricks box) (sym (sizes-are o place decl k known))
    (whole-bricks (sizes_of decl.dims) box sound.shape.sizes cut)

-- A session that was told of a cube may ask its names.
module _ {S : Type 0} (fits : Opening → ℕ → ShardCall → Type 0) (stands : Opening → ℕ → ℕ → S → ShardView → Type 0)
    (says : CoreJob → ShardAnswer → JobOutcome → Type 0) (cells : List (CoreCell S)) (caller client : ℕ)
    (own : List CoreEntry) (name : List ℕ) (place dim : ℕ) (decl : Decl) (text : List ℕ)
    (acts : IsClientOf fits stands says cells caller client) (session : IsSessionOf fits stands says cells client)
    (storable : OpenWithStorableCubes fits stands says cells) (told : IsToldOfCube own name place decl) where
  known : Knows fits stands says cells caller client own (CallsTellCube client place decl)
  known = knows-cube fits stands says cells caller client own name place decl acts storable told

  pub told-encodes : (shape : CubeShape) → shape ≡ cube_of decl → IsSoundCube shape → IsTextDimension shape dim
      → length text ≤ 255
      → Knows fits stands says cells caller client own (MayCallNames client (names.Encode place dim shape text))
  told-encodes shape same sound texts short o log run es later are =
      may-encode o place decl (state_from_calls o client (calls_of client es)) (known o log run es later are) client dim
      shape text (session o log later.opens) same sound texts short

  pub told-finds : IsTextDimension (cube_of decl) dim
      → Knows fits stands says cells caller client own (MayCallNames client (names.Find place dim text))
  told-finds texts o log run es later are =
      may-find o place decl (state_from_calls o client (calls_of client es)) (known o log run es later are) client dim
      text (session o log later.opens) texts
