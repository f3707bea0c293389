-- A disk as contracts see it. The images and the clock are those of the crash theorem's usual form: what a crash now
-- may leave, and what a crash at some moment since a time might have left.
use Rattle.std.specs.Prelude.{◌≡◌, ◌≤◌, ◌⊎◌, ℕ, List, Option, IfSome}

-- what it reads as, where it tells that; the images that a crash now may leave; the moment, a number that does not
-- fall; the images that a crash at some moment since a time might have left; the count of faults
pub record View : Type 1 where
  pub told : Option (List ℕ)
  pub image : List ℕ → Type 0
  pub moment : ℕ
  pub since : ℕ → List ℕ → Type 0
  pub faults : ℕ

-- a crash leaves what a read gives, and nothing else
abbrev pub IsSynced : View → Type 0
IsSynced disk = IfSome disk.told (λ f. (c : List ℕ) → disk.image c → c ≡ f)

-- a crash at any moment since the old disk leaves a file that has P; a crash since an earlier time besides what it
-- might have left then
pub record LeavesOnly (old new : View) (P : List ℕ → Type 0) : Type 0 where
  pub later : old.moment ≤ new.moment
  pub each : (c : List ℕ) → new.since old.moment c → P c
  pub before : (t : ℕ) (c : List ℕ) → t ≤ old.moment → new.since t c → old.since t c ⊎ P c

-- a crash at any moment between leaves what stands in this relation to what the old disk reads as
abbrev pub AnyMoment : (List ℕ → List ℕ → Type 0) → View → View → Type 0
AnyMoment effect old new = IfSome old.told (λ f. LeavesOnly old new (effect f))
