-- The dictionaries with which a run opens.
-- Source: Cubrick (VLDB 2016), dictionary encoding of text dimensions; how long a name may be is this project's own.
use Rattle.std.specs.Prelude.{◌≡◌, ℕ, ◌≤◌, List, [], length, slice_get, Some, None, All, if◌then◌else◌}
use Rattle.cube_language.specs.Cubes.{first_repeated}
use Rattle.cube_language.specs.declared.bad_row.TheConstants.{TEXT_BYTES}
use Rattle.cube_language.specs.declared.decl.Decl.{Decl}
use Rattle.cube_language.specs.declared.decl.DimDecl.{DimDecl}
use Rattle.names_dict.specs.Dictionaries.{Dictionary}
use Rattle.core_events.specs.Events.{Opening}

-- A dictionary of a dimension: distinct short names, as many as there is room for. A dimension of numbers has room for
-- none.
pub record SuitsDimension (dim : DimDecl) (d : Dictionary) : Type 0 where
  pub room : d.cardinality ≡ (if dim.text then dim.cardinality else 0)
  pub fits : length d.names ≤ d.cardinality
  pub distinct : first_repeated d.names ≡ None
  pub short : All (λ name. length name ≤ TEXT_BYTES) d.names

-- A run opens with a dictionary for each dimension of these cubes. A cube that is made in the run has no names yet.
pub record OpensWithNames (o : Opening) (cubes : List Decl) : Type 0 where
  pub suit : (cube place : ℕ) (d : Decl) (dim : DimDecl) → slice_get cubes cube ≡ Some d
      → slice_get d.dims place ≡ Some dim → SuitsDimension dim (o.names cube place)
  pub none : (cube place : ℕ) → length o.cubes ≤ cube → (o.names cube place).names ≡ []
