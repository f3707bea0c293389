-- Reading of the two files of a store: the headers, the first file's before the second's; which file is current;
-- then its rounds.
-- Source: this project's own.
use Rattle.std.specs.Prelude.{◌≡◌, ℕ, ◌-◌, ◌≤◌, ◌^◌, ◌⊎◌, Bool, true, false, ◌==◌, nat_lt, nat_le, List, [], length, drop, Option, Some, None, Result, Ok, Err, if◌then◌else◌}
use Rattle.cube_language.specs.declared.decl.Decl.{Decl}
use Rattle.cube_rounds.specs.Stands.{Kept, kept_of_cubes, file_bytes, FileStands, IsClosed, IsOlder}
use Rattle.round_fields.specs.Reading.{◌>>=◌}
use Rattle.round_text.specs.declared.header.Header.{Header}
use Rattle.store_reading.specs.declared.fault.PairFault.{PairFault}
use Rattle.store_reading.specs.declared.fault.PairFault.TheVariants.{NotAStore, TwoGenerations, GenerationsSpent}
use Rattle.store_reading.specs.declared.pair.StorePlace.{StorePlace}
use Rattle.store_reading.specs.Fronts.{header_or_closed}
use Rattle.store_reading.specs.Rounds.{RoundsEnd, rounds_from}

-- Whether the second file is the current one, and the header of the current one.
abbrev pub CurrentHeader : Type 0
CurrentHeader = Bool × Header

-- The current file, where a generation can follow its own.
abbrev pub unspent : Bool → Header → Result CurrentHeader PairFault
unspent second header =
    if nat_le header.generation (2 ^ 61) then Ok (second, header) else Err (GenerationsSpent header.generation)

-- Of two files, the one of the greater generation.
abbrev pub newer_of : Header → Header → Result CurrentHeader PairFault
newer_of first second =
    if first.generation == second.generation then Err (TwoGenerations first.generation)
    else (if nat_lt first.generation second.generation then unspent true second else unspent false first)

-- The current one of two files, by the headers of those that are not closed.
abbrev pub current_of : Option Header → Option Header → Result CurrentHeader PairFault
current_of None None = Err NotAStore
current_of None (Some second) = unspent true second
current_of (Some first) None = unspent false first
current_of (Some first) (Some second) = newer_of first second

-- What two files keep, and where the current one ends.
pub record PairContent : Type 0 where
  pub kept : Kept
  pub place : StorePlace

abbrev pub pair_content : Kept → StorePlace → PairContent
pair_content kept place = record { kept = kept; place = place }

-- Where the current file ends, of so many bytes with these left.
abbrev pub place_at : CurrentHeader → ℕ → List ℕ → StorePlace
place_at current size left =
    record { second = current.0; generation = current.1.generation; end = size - length left }

abbrev pub content_at : CurrentHeader → ℕ → RoundsEnd → Result PairContent PairFault
content_at current size end = Ok (pair_content end.kept (place_at current size end.left))

-- The cubes that a function tells, and none where it tells none.
abbrev pub cubes_told : Option (List Decl) → List Decl
cubes_told None = []
cubes_told (Some cubes) = cubes

-- The content of the current file, behind its header.
abbrev pub content_from : (List ℕ → List ℕ) → (List ℕ → Option (List Decl)) → CurrentHeader → List ℕ
    → Result PairContent PairFault
content_from digest told current file =
    rounds_from digest told (length file) (length file) (kept_of_cubes (cubes_told (told current.1.cubes)))
    (drop (current.1.size - 1) file)
    >>= content_at current (length file)

-- One of two files.
abbrev pub file_of : Bool → List ℕ → List ℕ → List ℕ
file_of second first other = if second then other else first

-- The content of two files, or the first fault.
abbrev pub pair_from : (List ℕ → List ℕ) → (List ℕ → Option (List Decl)) → List ℕ → List ℕ
    → Result PairContent PairFault
pair_from digest told first second = do
  a ← header_or_closed digest told first
  b ← header_or_closed digest told second
  current ← current_of a b
  content_from digest told current (file_of current.0 first second)

-- The file of this place stands for what is kept, and ends there; the other one is closed or older.
pub record StandsAt (digest : List ℕ → List ℕ) (content : PairContent) (current other : List ℕ) : Type 0 where
  pub stands : FileStands digest content.place.generation content.kept current
  pub end : content.place.end ≡ length (file_bytes digest content.place.generation stands.cubes stands.rounds)
  pub most : content.place.generation ≤ 2 ^ 61
  pub behind : IsClosed other ⊎ IsOlder digest content.place.generation other
