-- The box of coordinates that a DELETE is about, for whatever names may come to the dictionaries.
-- Source: Cubrick (VLDB 2016), deletions by dimensions; dictionary encoding of text dimensions. That a deletion takes
-- whole bricks is this project's own.
use Rattle.std.specs.Prelude.{◌≡◌, ℕ, List, length, All}
use Rattle.condition_spans.specs.Spans.{CutNoBrick}
use Rattle.core_events.specs.Events.{Opening}
use Rattle.core_events.specs.Jobs.{CoreJob, JobOutcome}
use Rattle.core_events.specs.ShardView.{ShardView}
use Rattle.core_names.specs.NamesInTheEnd.{MayLeaveNames}
use Rattle.core_program.specs.CoreFits.{CoreEntry}
use Rattle.cube_core.specs.declared.cell.CoreCell.{CoreCell}
use Rattle.cube_core.specs.declared.shard.ShardAnswer.{ShardAnswer}
use Rattle.cube_core.specs.declared.shard.ShardCall.{ShardCall}
use Rattle.cube_language.specs.Cubes.{sizes_of}
use Rattle.cube_language.specs.Misfits.{FitsCube}
use Rattle.cube_language.specs.ResolvedNames.{resolved_region}
use Rattle.cube_language.specs.StatementParts.{conds_of}
use Rattle.cube_language.specs.declared.decl.Decl.{Decl}
use Rattle.cube_language.specs.declared.statement.Statement.{Statement}
use Rattle.cube_values.specs.Spans.{IsSoundPart}
use Rattle.cube_values.specs.declared.operation.Region.{Region}
use Rattle.cube_values.specs.declared.span.Span.{Span}
use Rattle.known_cubes.specs.KnownCubes.{IsToldOfCube}
use Rattle.query_plan.specs.Ties.{TakesRegion}
use Rattle.row_encoding.specs.CodedTexts.{ComparesWith, HavePlaces}
use Rattle.row_encoding.specs.FinalCodes.{InTheEnd}

-- The region of a cube that a DELETE is about.
abbrev pub deleted_region : Decl → Statement → Region
deleted_region d s = resolved_region d (conds_of s)

-- A text for a dimension of its cube, with which a DELETE that fits it compares.
pub record IsDeleteText (place : ℕ) (d : Decl) (s : Statement) (cube dim : ℕ) (text : List ℕ) : Type 0 where
  pub here : cube ≡ place
  pub fits_it : FitsCube d s
  pub has : ComparesWith (deleted_region d s).conditions dim text

-- One of the own calls told of the cube at a place, by whatever name.
abbrev pub IsToldOfPlace : List CoreEntry → ℕ → Decl → Type 0
IsToldOfPlace own place d = (name : List ℕ) × IsToldOfCube own name place d

-- A box has a sound part for each dimension of a cube, and cuts no brick.
pub record IsWholeBox (d : Decl) (box : Span) : Type 0 where
  pub parts : length box.parts ≡ length d.dims
  pub sound : All IsSoundPart box.parts
  pub whole : CutNoBrick (sizes_of d.dims) box.parts

module _ {S : Type 0} (fits : Opening → ℕ → ShardCall → Type 0) (stands : Opening → ℕ → ℕ → S → ShardView → Type 0)
    (says : CoreJob → ShardAnswer → JobOutcome → Type 0) (cells : List (CoreCell S)) (caller : ℕ)
    (own : List CoreEntry) (place : ℕ) (d : Decl) where
  -- By whatever names the cube at a place has in the end of a run that goes on from the caller's own calls, the box takes
  -- the rows of the region, and each text that a condition compares with stands among the names or never will.
  pub record TakesInTheEnd (region : Region) (box : Span) : Type 0 where
    pub takes : InTheEnd (MayLeaveNames fits stands says cells caller own) place
        (λ lists. TakesRegion d lists region box)
    pub places : InTheEnd (MayLeaveNames fits stands says cells caller own) place
        (λ lists. HavePlaces d.dims lists region.conditions)

  -- So it is of a DELETE that fits the cube, and shards may be asked to drop the box.
  pub record IsBoxOf (s : Statement) (box : Span) : Type 0 where
    pub fits_it : FitsCube d s
    pub region : TakesInTheEnd (deleted_region d s) box
    pub whole : IsWholeBox d box
