-- What holds of texts and the cubes that they declare.
use Rattle.std.specs.Prelude.{◌≡◌, ◌⊎◌, ℕ, List}
use Rattle.cube_language.specs.declared.cubes_fault.CubesFault.{CubesFault}
use Rattle.cube_language.specs.declared.decl.Decl.{Decl}
use Rattle.cube_language.specs.Cubes.{cubes_text}
use Rattle.cube_language.specs.CubesText.{Declares, HasCubesFault}

-- Some text declares these cubes.
abbrev pub AreDeclared : List Decl → Type 0
AreDeclared cubes = (text : List ℕ) × Declares text cubes

-- The text declares some cubes.
abbrev pub AnyCubes : List ℕ → Type 0
AnyCubes text = (cubes : List Decl) × Declares text cubes

-- The text has some fault.
abbrev pub AnyFault : List ℕ → Type 0
AnyFault text = (fault : CubesFault) × HasCubesFault text fault

-- A text declares one list of cubes at most.
abbrev pub TextsDeclareOneList : Type 0
TextsDeclareOneList = (text : List ℕ) (a b : List Decl) → Declares text a → Declares text b → a ≡ b

-- A text that declares cubes has no fault.
abbrev pub DeclaringTextsHaveNoFault : Type 0
DeclaringTextsHaveNoFault =
    (text : List ℕ) (cubes : List Decl) (fault : CubesFault) → Declares text cubes → HasCubesFault text fault → ⊥

-- A text has one fault at most.
abbrev pub TextsHaveOneFault : Type 0
TextsHaveOneFault = (text : List ℕ) (a b : CubesFault) → HasCubesFault text a → HasCubesFault text b → a ≡ b

-- Each text declares cubes or has a fault.
abbrev pub TextsDeclareOrHaveFault : Type 0
TextsDeclareOrHaveFault = (text : List ℕ) → AnyCubes text ⊎ AnyFault text

-- The canonical text of the cubes of a text declares them too.
abbrev pub CanonicalTextsDeclare : Type 0
CanonicalTextsDeclare =
    (text : List ℕ) (cubes : List Decl) → Declares text cubes → Declares (cubes_text cubes) cubes
