-- Reading of the header of one file of a store.
-- Source: this project's own.
use Rattle.std.specs.Prelude.{◌≡◌, ℕ, ◌+◌, Bool, not, ◌&&◌, ◌||◌, ◌==◌, nat_lt, List, ◌∷◌, length, take, drop, Option, Some, None, Result, Ok, Err, if◌then◌else◌}
use Rattle.std.specs.Str.{bytes_eq}
use Rattle.cube_language.specs.declared.decl.Decl.{Decl}
use Rattle.cube_rounds.specs.Headers.{open_gate, magic, header_bytes, BeginsWithHeader}
use Rattle.round_fields.specs.declared.fault.FormatFault.{FormatFault}
use Rattle.round_fields.specs.declared.fault.FormatFault.TheVariants.{BadText, BadDigest}
use Rattle.round_fields.specs.Reading.{ReadOf, four_from}
use Rattle.round_text.specs.declared.header.Header.{Header}
use Rattle.round_text.specs.HeaderReading.{header_from}
use Rattle.store_reading.specs.declared.fault.PairFault.{PairFault}
use Rattle.store_reading.specs.declared.fault.PairFault.TheVariants.{NotAStore, Version, Damaged, DamagedRound}

-- A file is too short for a header, or has a gate that is shut, or is of another kind.
abbrev pub is_closed : List ℕ → Bool
is_closed file = nat_lt (length file) 16 || not (bytes_eq (take 8 file) (open_gate ∷ magic))

-- A header's fault in its file.
abbrev pub header_fault : FormatFault → PairFault
header_fault (BadText at) = Damaged at
header_fault (BadDigest kept found) = DamagedRound 0 kept found

-- A header that is read, or its fault in the file.
abbrev pub header_or_fault : Result Header FormatFault → Result (Option Header) PairFault
header_or_fault (Ok header) = Ok (Some header)
header_or_fault (Err fault) = Err (header_fault fault)

-- The header, where a number that is read is a known version.
abbrev pub header_of_version : ReadOf ℕ → Result Header FormatFault → Result (Option Header) PairFault
header_of_version (Err left) header = Err NotAStore
header_of_version (Ok version) header =
    if not (version.0 == 1) && not (version.0 == 2) then Err (Version version.0) else header_or_fault header

-- The header of a file that is not closed.
abbrev pub opened_front : (List ℕ → List ℕ) → (List ℕ → Option (List Decl)) → List ℕ → Result (Option Header) PairFault
opened_front digest told file = header_of_version (four_from (drop 8 file)) (header_from digest told file)

-- The header of a file, and none where it is closed.
abbrev pub header_or_closed : (List ℕ → List ℕ) → (List ℕ → Option (List Decl)) → List ℕ → Result (Option Header) PairFault
header_or_closed digest told file = if is_closed file then Ok None else opened_front digest told file

-- A header stands at the front of the bytes, and has this size with the gate behind it.
pub record HasFrontHeader (digest : List ℕ → List ℕ) (file : List ℕ) (header : Header) : Type 0 where
  pub begins : BeginsWithHeader digest header.generation header.cubes file
  pub size : header.size ≡ length (header_bytes digest header.generation header.cubes) + 1
