-- The image that a crash leaves where its unsettled bytes are those of a fill, over and over.
use Rattle.std.specs.Prelude.{ℕ, ◌+◌, ◌%◌, List, [], ◌∷◌, length, get_or, if◌then◌else◌}
use Rattle.outside_disk.specs.declared.events.DiskByte.{DiskByte}
use Rattle.outside_disk.specs.DiskBytes.{read_bytes}

-- with so many unsettled bytes before these, the i-th of all is the fill's byte at i mod its length
abbrev pub filled_from : List ℕ → ℕ → List DiskByte → List ℕ
filled_from fill i [] = []
filled_from fill i (b ∷ disk) =
    if b.settled
    then b.byte ∷ filled_from fill i disk
    else get_or fill (i % length fill) 0 ∷ filled_from fill (i + 1) disk

-- where the fill is empty, what a read gives
abbrev pub crash_image : List ℕ → List DiskByte → List ℕ
crash_image [] disk = read_bytes disk
crash_image (byte ∷ fill) disk = filled_from (byte ∷ fill) 0 disk
