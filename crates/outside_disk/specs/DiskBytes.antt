-- The bytes of a disk in memory, each settled or not, and the images that a crash may leave of them.
use Rattle.std.specs.Prelude.{◌≡◌, ◌++◌, ℕ, Bool, true, false, List, [], ◌∷◌, map, take, drop}
use Rattle.outside_disk.specs.declared.events.DiskByte.{DiskByte}

-- a byte that a crash leaves
abbrev pub settled_byte : ℕ → DiskByte
settled_byte byte = record { byte = byte; settled = true }

-- a byte in whose place a crash may leave any
abbrev pub unsettled_byte : ℕ → DiskByte
unsettled_byte byte = record { byte = byte; settled = false }

-- what a read gives
abbrev pub read_bytes : List DiskByte → List ℕ
read_bytes = map (λ b. b.byte)

-- the bytes with one written at a place
abbrev pub with_byte : ℕ → ℕ → List DiskByte → List DiskByte
with_byte at byte disk = take at disk ++ unsettled_byte byte ∷ drop 1 (drop at disk)

-- the byte, settled or not
abbrev pub with_mark : Bool → DiskByte → DiskByte
with_mark settled b = record { byte = b.byte; settled = settled }

-- the bytes, settled or not from a place on
abbrev pub marked_from : ℕ → Bool → List DiskByte → List DiskByte
marked_from from settled disk = take from disk ++ map (with_mark settled) (drop from disk)

-- an image has as many bytes, and the settled ones as they are
abbrev pub IsImage : List DiskByte → List ℕ → Type 0
IsImage [] [] = Unit {0}
IsImage [] (c ∷ image) = ⊥
IsImage (b ∷ disk) [] = ⊥
IsImage (b ∷ disk) (c ∷ image) = (b.settled ≡ true → c ≡ b.byte) × IsImage disk image
