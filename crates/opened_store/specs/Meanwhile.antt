-- What the two disks of a store may read as while it is taken.
-- Source: this project's own.
use Rattle.std.specs.Prelude.{◌≡◌, ℕ, Bool, true, false, List}
use Rattle.cube_language.specs.declared.decl.Decl.{Decl}
use Rattle.outside_disk.specs.Reads.{IsUntouched}
use Rattle.outside_disk.specs.Views.{View, LeavesOnly}
use Rattle.round_store.specs.Creation.{AreCreating}

-- At every moment two images stand in this relation. The second disk moves while the first has this image, and the
-- first one while the second is as it is at the end.
pub record KeepTo (related : List ℕ → List ℕ → Type 0) (file : List ℕ) (first first_new second second_new : View)
    : Type 0 where
  pub second_moves : LeavesOnly second second_new (related file)
  pub first_moves : LeavesOnly first first_new (λ c. (d : List ℕ) → second_new.image d → related c d)
  pub after : (c d : List ℕ) → first_new.image c → second_new.image d → related c d

-- While a new store is taken, two files stand for none, or are the old ones with any byte at the front of each, or
-- stand for the new store. While an old one is taken they stay as they are.
abbrev pub MayBeTaken : Bool → List Decl → List ℕ → List ℕ → List ℕ → List ℕ → Type 0
MayBeTaken true cubes old_first old_second first second = AreCreating cubes old_first old_second first second
MayBeTaken false cubes old_first old_second first second = (first ≡ old_first) × (second ≡ old_second)

-- Two disks stay as they are.
pub record AreUntouched (first first_new second second_new : View) : Type 0 where
  pub first_untouched : IsUntouched first first_new
  pub second_untouched : IsUntouched second second_new
