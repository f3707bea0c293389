-- Reading of the rounds of one file of a store, up to the first gate that is shut.
-- Source: this project's own.
use Rattle.std.specs.Prelude.{◌≡◌, ◌≤◌, ℕ, zero, suc, ◌+◌, ◌-◌, Bool, false, ◌==◌, List, [], ◌∷◌, ◌++◌, length, drop, Option, Some, None, Result, Ok, Err, All, if◌then◌else◌}
use Rattle.cube_language.specs.declared.decl.Decl.{Decl}
use Rattle.cube_rounds.specs.declared.round.Round.{Round}
use Rattle.cube_language.specs.Cubes.{IsStorable}
use Rattle.cube_rounds.specs.Bytes.{round_bytes}
use Rattle.cube_rounds.specs.Demands.{HaveDims, FitsRound}
use Rattle.cube_rounds.specs.Headers.{open_gate}
use Rattle.cube_rounds.specs.Stands.{Kept, kept_with}
use Rattle.round_fields.specs.declared.fault.FormatFault.{FormatFault}
use Rattle.round_fields.specs.declared.fault.FormatFault.TheVariants.{BadText, BadDigest}
use Rattle.round_fields.specs.Reading.{◌>>=◌, ReadOf, eight_from}
use Rattle.round_reading.specs.RoundReading.{round_from}
use Rattle.store_reading.specs.declared.fault.PairFault.{PairFault}
use Rattle.store_reading.specs.declared.fault.PairFault.TheVariants.{Damaged, DamagedRound}

-- The fault of a round that begins at a place of its file.
abbrev pub round_fault : ℕ → ℕ → FormatFault → PairFault
round_fault number start (BadText at) = Damaged (start + at)
round_fault number start (BadDigest kept found) = DamagedRound number kept found

-- A number that is read is this one.
abbrev pub is_read : ℕ → ReadOf ℕ → Bool
is_read n (Ok x) = x.0 == n
is_read n (Err left) = false

-- A round's bytes say that it begins at this epoch.
abbrev pub begins_at : ℕ → List ℕ → Bool
begins_at epoch bytes = is_read epoch (eight_from (drop 8 bytes))

-- A round that is read, or its fault in the file.
abbrev pub round_or_fault : ℕ → ℕ → Result (Round × ℕ) FormatFault → Result (Option (Round × ℕ)) PairFault
round_or_fault number start (Ok round) = Ok (Some round)
round_or_fault number start (Err fault) = Err (round_fault number start fault)

-- The round at the front of the bytes, which begin at a place of the file, and begins at the kept epoch.
abbrev pub following_from : (List ℕ → List ℕ) → (List ℕ → Option (List Decl)) → Kept → ℕ → List ℕ
    → Result (Option (Round × ℕ)) PairFault
following_from digest told kept start bytes =
    if begins_at kept.epoch bytes
    then round_or_fault (length kept.rounds + 1) start (round_from digest told kept.cubes kept.names bytes)
    else Err (Damaged start)

-- The round behind the gate at the front of what is left of a file of this size, and how many bytes there are from
-- this gate to the next; none where the gate is shut.
unfoldable pub next_from : (List ℕ → List ℕ) → (List ℕ → Option (List Decl)) → ℕ → Kept → List ℕ
    → Result (Option (Round × ℕ)) PairFault
next_from digest told size kept [] = Ok None
next_from digest told size kept (gate ∷ bytes) =
    if gate == open_gate then following_from digest told kept (size - length bytes) bytes else Ok None

-- What is kept with the rounds of a file, and what is left behind them.
pub record RoundsEnd : Type 0 where
  pub kept : Kept
  pub left : List ℕ

abbrev pub rounds_end : Kept → List ℕ → RoundsEnd
rounds_end kept left = record { kept = kept; left = left }

-- No more rounds, or the round and those behind it.
abbrev pub and_more : (Kept → List ℕ → Result RoundsEnd PairFault) → Kept → List ℕ → Option (Round × ℕ)
    → Result RoundsEnd PairFault
and_more more kept bytes None = Ok (rounds_end kept bytes)
and_more more kept bytes (Some next) = more (kept_with kept next.0) (drop next.1 bytes)

-- The rounds up to the first gate that is shut, at most so many, behind what is kept.
unfoldable pub rounds_from : (List ℕ → List ℕ) → (List ℕ → Option (List Decl)) → ℕ → ℕ → Kept → List ℕ
    → Result RoundsEnd PairFault
rounds_from digest told size zero kept bytes = Ok (rounds_end kept bytes)
rounds_from digest told size (suc n) kept bytes =
    next_from digest told size kept bytes >>= and_more (λ k b. rounds_from digest told size n k b) kept bytes

-- Rounds can be read behind what is kept: its cubes can be stored, and each has a list of names for each dimension.
pub record IsReadable (kept : Kept) : Type 0 where
  pub storable : All IsStorable kept.cubes
  pub dims : HaveDims kept.cubes kept.names

-- This round follows what is kept at the front of the bytes, behind its gate, and so many bytes lie before the next.
pub record IsNextRound (digest : List ℕ → List ℕ) (kept : Kept) (bytes : List ℕ) (next : Round × ℕ) : Type 0 where
  pub fits : FitsRound kept.cubes kept.names next.0
  pub from : next.0.from ≡ kept.epoch
  pub size : next.1 ≡ length (round_bytes digest kept.cubes next.0) + 1
  pub within : next.1 + 1 ≤ length bytes
  pub whole : bytes ≡ open_gate ∷ (round_bytes digest kept.cubes next.0 ++ drop next.1 bytes)
