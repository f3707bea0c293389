-- What holds of every disk in memory, whatever became of it.
use Rattle.std.specs.Prelude.{◌≡◌, ◌≤◌, ◌⊎◌, ℕ, List, [], ◌∷◌, length, Some}
use Rattle.std.proofs.Common.{refl, subst, inl, inr, arith}
use Rattle.outside_disk.specs.declared.events.DiskByte.{DiskByte}
use Rattle.outside_disk.specs.Course.{WasImage}
use Rattle.outside_disk.specs.DiskBytes.{read_bytes, IsImage}
use Rattle.outside_disk.specs.Memory.{DiskState, disk_view, tape_course}

-- what a read gives is an image
pub read_is_image : (disk : List DiskByte) → IsImage disk (read_bytes disk)
read_is_image [] = tt
read_is_image (b ∷ disk) = ((λ settled. refl), read_is_image disk)

pub reads_image : (disk : DiskState) (f : List ℕ) → (disk_view disk).told ≡ Some f → (disk_view disk).image f
reads_image disk f told =
    let same : read_bytes (tape_course disk.tape).now ≡ f = cc in
    subst (IsImage (tape_course disk.tape).now) same (read_is_image (tape_course disk.tape).now)

-- no moment before is as late as this one
none_later : (past : List (List DiskByte)) (c : List ℕ) → WasImage past (length past) c → ⊥
none_later [] c was = was
none_later (disk ∷ past) c was = absurd (omega (arith, was.0))

pub only_now :
    (disk : DiskState) (c : List ℕ) → (disk_view disk).since (disk_view disk).moment c → (disk_view disk).image c
only_now disk c (inl now) = now
only_now disk c (inr was) = absurd (none_later (tape_course disk.tape).past c was)
