-- What the desk's answer to who asks for a cube says of its cubes.
use Rattle.std.proofs.Common.{◌≡◌, ◌==◌, ◌<◌, ◌≤◌, ℕ, Bool, true, false, if◌then◌else◌, length, List, refl, ap, arith, eqb-true}
use Rattle.std.proofs.lemmas.Bool.{both_ways, eqb-false}
use Rattle.cube_language.specs.CubesText.{cubes_limit}
use Rattle.cube_journal.specs.Legal.{has_cube}
use Rattle.aosi_desk.specs.State.{state_of}
use Rattle.aosi_desk.specs.Desks.{DeskState, cube_answer, decl_names}
use Rattle.aosi_desk.specs.declared.cube.CubeAnswer.{CubeAnswer}
use Rattle.aosi_desk.specs.declared.cube.CubeAnswer.TheVariants.{Created, Exists, TooMany}

abbrev is_made : CubeAnswer → Bool
is_made (Created epoch place) = true
is_made answer = false

abbrev is_there : CubeAnswer → Bool
is_there Exists = true
is_there answer = false

abbrev is_full : CubeAnswer → Bool
is_full TooMany = true
is_full answer = false

abbrev epoch_made : CubeAnswer → ℕ
epoch_made (Created epoch place) = epoch
epoch_made answer = 0

-- A cube is made with EC, where none has its name and there is a place.
pub record IsMadeThere (desk : DeskState) (name : List ℕ) (epoch : ℕ) : Type 0 where
  pub epoch_is : epoch ≡ (state_of desk.register).ec
  pub room : length desk.cubes < cubes_limit
  pub new_name : has_cube (decl_names desk.cubes) name ≡ false

record WasNew (desk : DeskState) (epoch : ℕ) (has full : Bool) : Type 0 where
  epoch_is : epoch ≡ (state_of desk.register).ec
  not_full : full ≡ false
  not_there : has ≡ false

was_new : (desk : DeskState) (epoch place : ℕ) (has full : Bool) → Created epoch place
    ≡ (if has then Exists
    else (if full then TooMany else Created (state_of desk.register).ec (length desk.cubes)))
    → WasNew desk epoch has full
was_new desk epoch place true full h = absurd (both_ways true (ap is_made h) refl)
was_new desk epoch place false true h = absurd (both_ways true (ap is_made h) refl)
was_new desk epoch place false false h = record { epoch_is = ap epoch_made h; not_full = refl; not_there = refl }

pub made_there : (desk : DeskState) (name : List ℕ) (epoch place : ℕ) → length desk.cubes ≤ cubes_limit
    → Created epoch place ≡ cube_answer desk name → IsMadeThere desk name epoch
made_there desk name epoch place few h =
    let new =
    was_new desk epoch place (has_cube (decl_names desk.cubes) name) (length desk.cubes == cubes_limit) h
    in
    let other = eqb-false (length desk.cubes) cubes_limit new.not_full in
    record { epoch_is = new.epoch_is; room = omega (arith, other, few); new_name = new.not_there }

pub existing_there : (desk : DeskState) (name : List ℕ) → Exists ≡ cube_answer desk name
    → has_cube (decl_names desk.cubes) name ≡ true
existing_there desk name h =
    at (has_cube (decl_names desk.cubes) name) (length desk.cubes == cubes_limit) h
  where
    at : (a b : Bool) → Exists
        ≡ (if a then Exists
        else (if b then TooMany else Created (state_of desk.register).ec (length desk.cubes)))
        → a ≡ true
    at true b h = refl
    at false true h = absurd (both_ways true (ap is_there h) refl)
    at false false h = absurd (both_ways true (ap is_there h) refl)

-- There is no place, and none has the name.
pub record IsFullThere (desk : DeskState) (name : List ℕ) : Type 0 where
  pub full : length desk.cubes ≡ cubes_limit
  pub new_name : has_cube (decl_names desk.cubes) name ≡ false

pub full_there : (desk : DeskState) (name : List ℕ) → TooMany ≡ cube_answer desk name → IsFullThere desk name
full_there desk name h =
    let both = at (has_cube (decl_names desk.cubes) name) (length desk.cubes == cubes_limit) h in
    record { full = eqb-true (length desk.cubes) cubes_limit both.1; new_name = both.0 }
  where
    at : (a b : Bool) → TooMany
        ≡ (if a then Exists
        else (if b then TooMany else Created (state_of desk.register).ec (length desk.cubes)))
        → (a ≡ false) × (b ≡ true)
    at true b h = absurd (both_ways true (ap is_full h) refl)
    at false true h = (refl, refl)
    at false false h = absurd (both_ways true (ap is_full h) refl)
