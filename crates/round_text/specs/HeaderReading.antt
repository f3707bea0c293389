-- Reading of a header: its version first, then its length, its digest, and what it has.
use Rattle.std.specs.Prelude.{ℕ, zero, suc, ◌+◌, ◌-◌, ◌^◌, Bool, true, ◌&&◌, nat_le, List, ◌∷◌, ◌++◌, length, take, drop, Option, is_some, Result, Ok, Err, if◌then◌else◌}
use Rattle.std.specs.Str.{bytes_eq}
use Rattle.cube_language.specs.declared.decl.Decl.{Decl}
use Rattle.cube_rounds.specs.Bytes.{four_bytes}
use Rattle.cube_rounds.specs.Headers.{open_gate, magic}
use Rattle.round_fields.specs.declared.fault.FormatFault.{FormatFault}
use Rattle.round_fields.specs.declared.fault.FormatFault.TheVariants.{BadText}
use Rattle.round_text.specs.declared.header.Header.{Header}
use Rattle.round_fields.specs.Reading.{ReadOf, four_from, eight_from}
use Rattle.round_fields.specs.Digests.{where_digest_is}

-- What a header of a version begins with.
abbrev pub version_front : ℕ → List ℕ
version_front version = open_gate ∷ (magic ++ four_bytes version)

-- Whatever is wrong with a header but its digest, it is at the place behind its version.
abbrev pub no_header : Result Header FormatFault
no_header = Err (BadText 12)

-- What follows a number that was read, and no header where none was.
abbrev pub when_read : {A : Type 0} → ReadOf A → (A × List ℕ → Result Header FormatFault) → Result Header FormatFault
when_read (Ok x) next = next x
when_read (Err left) next = no_header

-- Where the text of a header of this generation begins.
abbrev pub text_start : ℕ → ℕ
text_start zero = 16
text_start (suc n) = 24

abbrev pub header_of : ℕ → ℕ → List ℕ → Header
header_of start generation text = record { cubes = text; size = start + length text + 33; generation = generation }

-- The header with this text, which begins at `start`, where the text and the generation are right.
abbrev pub header_with : (List ℕ → Option (List Decl)) → ℕ → ℕ → Bool → List ℕ → Result Header FormatFault
header_with told start generation right text =
    if right && is_some (told text) then Ok (header_of start generation text) else no_header

-- The header of these bytes whose text has this size and begins at `start`, where these bytes are left.
abbrev pub header_at_text : (List ℕ → List ℕ) → (List ℕ → Option (List Decl)) → List ℕ → ℕ → ℕ → ℕ → Bool → List ℕ
    → Result Header FormatFault
header_at_text digest told bytes start size generation right left =
    if nat_le (size + 33) (length left)
    then where_digest_is (take 32 (drop size left)) (digest (take (start + size - 1) (drop 1 bytes)))
    (header_with told start generation right (take size left))
    else no_header

abbrev pub is_right_generation : ℕ → Bool
is_right_generation generation = nat_le 1 generation && nat_le generation (2 ^ 62)

-- A header of version 2 with a text of this size, where these bytes are left behind the size.
abbrev pub second_of_size : (List ℕ → List ℕ) → (List ℕ → Option (List Decl)) → List ℕ → ℕ → List ℕ
    → Result Header FormatFault
second_of_size digest told bytes size rest =
    when_read (eight_from rest) (λ g. header_at_text digest told bytes 24 size g.0 (is_right_generation g.0) g.1)

-- A header of version 2, and one of version 1.
unfoldable pub second_header_from : (List ℕ → List ℕ) → (List ℕ → Option (List Decl)) → List ℕ
    → Result Header FormatFault
second_header_from digest told bytes =
    when_read (four_from (drop 12 bytes)) (λ size. second_of_size digest told bytes size.0 size.1)

unfoldable pub first_header_from : (List ℕ → List ℕ) → (List ℕ → Option (List Decl)) → List ℕ
    → Result Header FormatFault
first_header_from digest told bytes =
    when_read (four_from (drop 12 bytes)) (λ size. header_at_text digest told bytes 16 size.0 0 true size.1)

-- A header at the front of the bytes, or its fault.
unfoldable pub header_from : (List ℕ → List ℕ) → (List ℕ → Option (List Decl)) → List ℕ → Result Header FormatFault
header_from digest told bytes =
    if bytes_eq (take 12 bytes) (version_front 2) then second_header_from digest told bytes
    else (if bytes_eq (take 12 bytes) (version_front 1) then first_header_from digest told bytes else no_header)
