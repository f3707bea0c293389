-- What one call of a disk does to the images that a crash may leave, to its clock and to its count.
use Rattle.std.specs.Prelude.{◌≡◌, ◌≤◌, ◌⊎◌, ◌↔◌, ◌+◌, ◌++◌, ℕ, List, length, take, drop, max, Result, IsSome, OnOk, OnErr}
use Rattle.outside.specs.Counts.{Rose}
use Rattle.outside_disk.specs.declared.disk.Failed.{Failed}
use Rattle.outside_disk.specs.Views.{View}

-- the file with these bytes from a place on
abbrev pub with_bytes : ℕ → List ℕ → List ℕ → List ℕ
with_bytes at bytes f = take at f ++ (bytes ++ drop (at + length bytes) f)

-- no image is added
abbrev pub IsSame : List ℕ → List ℕ → Type 0
IsSame old new = new ≡ old

-- a write of n bytes that is not synced: any bytes in its range and past the old end, the same elsewhere
pub record Torn (at n : ℕ) (old new : List ℕ) : Type 0 where
  pub before : take at new ≡ take at old
  pub after : drop (at + n) new ≡ drop (at + n) old
  pub no_shorter : length old ≤ length new
  pub no_longer : length new ≤ max (length old) (at + n)

-- a cut at a place, and a write of n bytes there: any bytes from there on, and not more than the old ones or these
pub record AnyFrom (at n : ℕ) (old new : List ℕ) : Type 0 where
  pub before : take at new ≡ take at old
  pub no_shorter : at ≤ length new
  pub no_longer : length new ≤ max (length old) (at + n)

-- Each image is an old one after the effect. A crash since an earlier time might have left what it might have left
-- before, or an image of now; what it might have left before it might still. The count rises exactly with Failed.
pub record Goes {T : Type 0} (effect : List ℕ → List ℕ → Type 0) (result : Result T Failed) (old new : View)
    : Type 0 where
  pub later : old.moment ≤ new.moment
  pub images : (c : List ℕ) → new.image c → (d : List ℕ) × old.image d × effect d c
  pub nothing_else : (t : ℕ) (c : List ℕ) → t ≤ old.moment → new.since t c → old.since t c ⊎ new.image c
  pub past : (t : ℕ) (c : List ℕ) → t ≤ old.moment → old.since t c → new.since t c
  pub tells : IsSome old.told ↔ IsSome new.told
  pub count : old.faults ≤ new.faults
  pub failed : OnErr result (Rose old.faults new.faults)
  pub quiet : OnOk result (new.faults ≡ old.faults)
