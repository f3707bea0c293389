-- A session's caller of a core as what gives the texts of a cube their codes.
-- Source: this project's own.
use Rattle.std.specs.Prelude.{◌≡◌, ℕ, ◌<◌, List, length, IfSome}
use Rattle.cube_language.specs.declared.decl.Decl.{Decl}
use Rattle.core_program.specs.Knowing.{IsClientOf, IsSessionOf}
use Rattle.core_events.specs.Events.{Opening}
use Rattle.core_events.specs.Jobs.{CoreJob, JobOutcome}
use Rattle.core_events.specs.ShardView.{ShardView}
use Rattle.core_program.specs.CoreFits.{CoreEntry}
use Rattle.cube_core.specs.declared.cell.CoreCell.{CoreCell}
use Rattle.cube_core.specs.declared.shard.ShardAnswer.{ShardAnswer}
use Rattle.cube_core.specs.declared.shard.ShardCall.{ShardCall}
use Rattle.known_cubes.specs.KnownCubes.{IsToldOfCube, OpenWithStorableCubes}
use Rattle.condition_spans.specs.Codes.{texts_at}
use Rattle.names_dict.specs.declared.code.Code.{Code}
use Rattle.row_encoding.specs.FinalCodes.{InTheEnd, IsFinalNumber, code_number, dim_at}
use Rattle.core_names.specs.KnownNumbers.{TextsByDim, AreNumbersTold, HasToldNumber}
use Rattle.core_names.specs.NamesInTheEnd.{MayLeaveNames, OpenWithNames}

module _ {S : Type 0} (fits : Opening → ℕ → ShardCall → Type 0) (stands : Opening → ℕ → ℕ → S → ShardView → Type 0)
    (says : CoreJob → ShardAnswer → JobOutcome → Type 0) (cells : List (CoreCell S)) where
  -- The caller is a session's, which was told of the cube at a place, and was told the number of each text that it
  -- knows of it.
  pub record MayAskForCodes (caller : ℕ) (own : List CoreEntry) (session : ℕ) (known : TextsByDim) (place : ℕ)
      (d : Decl) : Type 0 where
    pub client : IsClientOf fits stands says cells caller session
    pub is_session : IsSessionOf fits stands says cells session
    pub storable : OpenWithStorableCubes fits stands says cells
    pub named : OpenWithNames fits stands says cells
    pub name : List ℕ
    pub cube : IsToldOfCube own name place d
    pub long : length known ≡ length d.dims
    pub right : AreNumbersTold own place d.dims known

  -- It makes its calls on its board, and this is the place of its cube.
  pub record SuitsCube (IsOnBoard : Type 0) (its : ℕ) (caller : ℕ) (own : List CoreEntry) (session : ℕ)
      (known : TextsByDim) (place : ℕ) (d : Decl) : Type 0 where
    pub on_board : IsOnBoard
    pub its_place : place ≡ its
    pub may : MayAskForCodes caller own session known place d

  -- The code of a text: what it says is so in whatever run goes on, its number is a coordinate of the dimension, and the
  -- session was told of it.
  pub record IsCodeInTheEnd (caller : ℕ) (own : List CoreEntry) (place : ℕ) (d : Decl) (dim : ℕ) (text : List ℕ)
      (code : Code) : Type 0 where
    pub final : InTheEnd (MayLeaveNames fits stands says cells caller own) place
        (λ lists. IsFinalNumber (dim_at d.dims dim) (texts_at lists dim) text (code_number code))
    pub inside : IfSome (code_number code) (λ number. number < (dim_at d.dims dim).cardinality)
    pub given : IfSome (code_number code) (HasToldNumber own place dim)
