-- What a round has of a cube is read as it is spelled.
use Rattle.std.proofs.Common.{◌≡◌, ℕ, ◌^◌, ◌<◌, Bool, true, false, cond, List, [], ◌∷◌, ◌++◌, length, Ok, refl, ap, subst, arith}
use Rattle.std.specs.Prelude.{MatchBool}
use Rattle.std.specs.List.{flat_map, zip, AllZip, AllByRecursion}
use Rattle.cube_language.specs.declared.decl.DimDecl.{DimDecl}
use Rattle.cube_language.specs.declared.decl.Decl.{Decl}
use Rattle.cube_rounds.specs.declared.round.RoundCube.{RoundCube}
use Rattle.cube_rounds.specs.Bricks.{BrickPart}
use Rattle.cube_rounds.specs.Bytes.{counted_bytes, name_bytes, names_bytes, brick_bytes, cube_bytes}
use Rattle.cube_rounds.specs.Demands.{DimNames, names_with, coord_limits, AreNewNames, FitNames, FitsBrick, AreRising, FitsRoundCube}
use Rattle.round_fields.specs.Reading.{list_with, each_step}
use Rattle.round_fields.proofs.FieldLaws.{IsBytes, ok_is, Takes, Reads}
use Rattle.round_reading.specs.Payload.{names_from, dim_names_from, dim_step, bricks_from, round_cube, cube_from, cube_step}
use Rattle.round_reading.proofs.Sequences.{reads_as, reads_both, reads_putting, reads_spelled, each_take, each_again, ReadsStep, Anything, all_anything}
use Rattle.round_reading.proofs.NameLaws.{reads_names}
use Rattle.round_reading.proofs.BrickLaws.{reads_bricks}
use Rattle.round_reading.proofs.Storable.{IsWide}

-- A dimension's names, by whether it is one of texts.
reads_by : (text : Bool) (cardinality : ℕ) (earlier : List (List ℕ))
    → Reads (λ names. cond text (counted_bytes name_bytes names) []) (λ names. MatchBool text (AreNewNames cardinality earlier names) (names ≡ []))
    (λ bytes. cond text (names_from cardinality earlier bytes) (Ok ([], bytes)))
reads_by true cardinality earlier = reads_names cardinality earlier
reads_by false cardinality earlier = record {
  takes = λ bytes names rest fits e.
      let same = ok_is ℕ ([], bytes) (names, rest) e in
      subst (λ (p : List (List ℕ) × List ℕ). Takes bytes [] p.1 × (p.0 ≡ [])) same (record { parts = refl; rest_fits = fits }, refl);
  again = λ names rest none short. rw none refl;
}

reads_dim : (d : DimDecl × List (List ℕ)) → Reads (names_bytes d.0) (FitNames d) (dim_names_from d)
reads_dim d = reads_by d.0.text d.0.cardinality d.1

dim_steps : (d : DimDecl × List (List ℕ)) → ReadsStep list_with (names_bytes d.0) (λ s. FitNames d) (dim_step d)
dim_steps d = reads_putting list_with (names_bytes d.0) (λ s. FitNames d) (λ before. dim_names_from d) (λ s. reads_dim d)

-- The names of each dimension, one after the other.
abbrev each_names : List (DimDecl × List (List ℕ)) → DimNames → List ℕ
each_names dims names = flat_map (λ q. names_bytes q.0.0 q.1) (zip dims names)

reads_dims : (dims : List (DimDecl × List (List ℕ))) → Reads (each_names dims) (AllZip FitNames dims) (each_step dim_step dims [])
reads_dims dims = record {
  takes = λ bytes names rest fits e.
      let t = each_take (λ d. names_bytes d.0) FitNames dim_step Anything (λ d any. dim_steps d) dims (all_anything dims) [] bytes names rest fits e in
      (rw t.are t.taken, rw t.are t.fit);
  again = λ names rest fit short.
      each_again (λ d. names_bytes d.0) FitNames dim_step Anything (λ d any. dim_steps d) dims (all_anything dims) names [] rest fit short;
}

-- The spelling does not look at the earlier names.
names_alike : (dims : List DimDecl) (earlier names : DimNames) → length earlier ≡ length dims
    → each_names (zip dims earlier) names ≡ flat_map (λ d. names_bytes d.0 d.1) (zip dims names)
names_alike [] [] names same = refl
names_alike [] (first ∷ earlier) names same = absurd (omega arith)
names_alike (dim ∷ dims) [] names same = absurd (omega arith)
names_alike (dim ∷ dims) (first ∷ earlier) [] same = refl
names_alike (dim ∷ dims) (first ∷ earlier) (list ∷ names) same =
    ap (λ (b : List ℕ). names_bytes dim list ++ b) (names_alike dims earlier names (omega arith))

-- The limits of a cube's coordinates behind these names.
abbrev limits_with : Decl × DimNames → DimNames → List ℕ
limits_with c names = coord_limits c.0 (names_with c.1 names)

-- What is asked of a cube with its earlier names: it has a list for each dimension, and can be stored.
pub record IsReady (c : Decl × DimNames) : Type 0 where
  pub dims : length c.1 ≡ length c.0.dims
  pub room : IsWide c.0

pub reads_cube : (from epoch : ℕ) → epoch < 2 ^ 64 → (c : Decl × DimNames) → IsReady c → Reads (cube_bytes c.0) (FitsRoundCube from epoch c.0 c.1) (cube_from from epoch c)
unfolding cube_from
reads_cube from epoch small c ready =
    let dims = zip c.0.dims c.1 in
    let Bricks : DimNames → List BrickPart → Type 0 = λ names bricks.
    AreRising 0 bricks × AllByRecursion (FitsBrick c.0 (limits_with c names) from epoch) bricks in
    reads_spelled (λ part. each_names dims part.names ++ counted_bytes brick_bytes part.bricks) (cube_bytes c.0) (FitsRoundCube from epoch c.0 c.1) (cube_from from epoch c)
    (λ part fits. ap (λ (b : List ℕ). b ++ counted_bytes brick_bytes part.bricks) (names_alike c.0.dims c.1 part.names ready.dims))
    (reads_as (λ part. each_names dims part.names ++ counted_bytes brick_bytes part.bricks) (λ part. AllZip FitNames dims part.names × Bricks part.names part.bricks) (FitsRoundCube from epoch c.0 c.1) (cube_from from epoch c)
    (λ part h. record { names = h.0; rising = h.1.0; bricks = h.1.1 })
    (λ part h. (h.names, (h.rising, h.bricks)))
    (reads_both (each_names dims) (AllZip FitNames dims) (each_step dim_step dims [])
    (λ names. counted_bytes brick_bytes) Bricks (λ names. bricks_from c.0 (limits_with c names) from epoch)
    round_cube (λ part. part.names) (λ part. part.bricks) (λ part. refl) (λ a b. refl) (λ a b. refl)
    (reads_dims dims)
    (λ names h. reads_bricks c.0 (limits_with c names) from epoch ready.room.wide ready.room.few small)))

pub cube_steps : (from epoch : ℕ) → epoch < 2 ^ 64 → (c : Decl × DimNames) → IsReady c
    → ReadsStep list_with (cube_bytes c.0) (λ s. FitsRoundCube from epoch c.0 c.1) (cube_step from epoch c)
cube_steps from epoch small c ready =
    reads_putting list_with (cube_bytes c.0) (λ s. FitsRoundCube from epoch c.0 c.1) (λ before. cube_from from epoch c) (λ s. reads_cube from epoch small c ready)

-- What a round has of each of some cubes, one after the other.
abbrev pub each_cube : List (Decl × DimNames) → List RoundCube → List ℕ
each_cube cubes parts = flat_map (λ q. cube_bytes q.0.0 q.1) (zip cubes parts)

-- What a round has of each of some cubes fits.
abbrev pub FitEach : ℕ → ℕ → List (Decl × DimNames) → List RoundCube → Type 0
FitEach from epoch cubes parts = AllZip (λ c part. FitsRoundCube from epoch c.0 c.1 part) cubes parts

-- The parts of some cubes that were read behind others.
pub record TakesCubes (from epoch : ℕ) (cubes : List (Decl × DimNames)) (before : List RoundCube) (bytes : List ℕ) (after : List RoundCube) (rest : List ℕ) : Type 0 where
  pub parts : List RoundCube
  pub are : after ≡ before ++ parts
  pub taken : Takes bytes (each_cube cubes parts) rest
  pub fit : FitEach from epoch cubes parts

pub cubes_take : (from epoch : ℕ) → epoch < 2 ^ 64 → (cubes : List (Decl × DimNames)) → AllByRecursion IsReady cubes
    → (before : List RoundCube) (bytes : List ℕ) (after : List RoundCube) (rest : List ℕ) → IsBytes bytes
    → each_step (cube_step from epoch) cubes before bytes ≡ Ok (after, rest) → TakesCubes from epoch cubes before bytes after rest
cubes_take from epoch small cubes ready before bytes after rest fits e =
    let t = each_take (λ c. cube_bytes c.0) (λ c part. FitsRoundCube from epoch c.0 c.1 part) (cube_step from epoch) IsReady (cube_steps from epoch small) cubes ready before bytes after rest fits e in
    record { parts = t.items; are = t.are; taken = t.taken; fit = t.fit }

pub cubes_again : (from epoch : ℕ) → epoch < 2 ^ 64 → (cubes : List (Decl × DimNames)) → AllByRecursion IsReady cubes
    → (parts before : List RoundCube) (rest : List ℕ) → FitEach from epoch cubes parts → length (each_cube cubes parts ++ rest) < 2 ^ 64
    → each_step (cube_step from epoch) cubes before (each_cube cubes parts ++ rest) ≡ Ok (before ++ parts, rest)
cubes_again from epoch small cubes ready parts before rest fit short =
    each_again (λ c. cube_bytes c.0) (λ c part. FitsRoundCube from epoch c.0 c.1 part) (cube_step from epoch) IsReady (cube_steps from epoch small) cubes ready parts before rest fit short
