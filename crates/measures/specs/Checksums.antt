-- The checksum of each hot call, by the data that it worked on.
use Rattle.std.specs.Prelude.{◌≡◌, ◌⊎◌, ℕ, ◌+◌, ◌-◌, ◌%◌, ◌^◌, List, length, map}
use Rattle.std.specs.List.{sum_by, range_with_len}
use Rattle.std.specs.Option.{option_map_or}
use Rattle.cube_values.specs.declared.entry.Entry.{Entry}
use Rattle.cube_values.specs.BitRows.{set_bits}
use Rattle.cube_language.specs.declared.piece.ScriptFault.{ScriptFault}
use Rattle.cube_language.specs.declared.piece.Piece.{Piece}
use Rattle.cube_language.specs.Pieces.{IsScript, HasScriptFault}
use Rattle.known_names.specs.KnownTexts.{code_of_known}
use Rattle.names_dict.specs.Dictionaries.{Dictionary, number_of}
use Rattle.purge_plan.specs.Purged.{spared_bits, purged_entries}

-- Of a script: how many statements it has, or 0 where it is refused.
abbrev pub CountsStatements : List ℕ → ℕ → Type 0
CountsStatements script sum =
    ((pieces : List Piece) × IsScript script pieces × (sum ≡ length pieces))
    ⊎ ((fault : ScriptFault) × HasScriptFault script fault × (sum ≡ 0))

-- Of names and a dictionary: the numbers of the names, counted from 1, in 64 bits.
abbrev pub numbers_sum : Dictionary → List (List ℕ) → ℕ
numbers_sum d names = sum_by (λ name. option_map_or (λ n. n + 1) (number_of d name) 0) names % 2 ^ 64

-- Of names and texts that are known: the codes of the names, counted from 1, in 64 bits.
abbrev pub codes_sum : List (List ℕ × ℕ) → List (List ℕ) → ℕ
codes_sum known names = sum_by (λ name. option_map_or (λ n. n + 1) (code_of_known known name) 0) names % 2 ^ 64

-- Of a vector that is purged at an epoch: how many rows go and how many entries stay, in 64 bits.
abbrev pub purge_sum : ℕ → List Entry → ℕ
purge_sum p entries = (length (spared_bits p entries) - set_bits (spared_bits p entries)
    + length (purged_entries p entries)) % 2 ^ 64

-- Of counters: their sum, in 64 bits.
abbrev pub counters_sum : List ℕ → ℕ
counters_sum counters = sum_by (λ counter. counter) counters % 2 ^ 64

-- Of jobs 0, 1, .., so many: each job and `more`, in 64 bits.
abbrev pub answers_sum : ℕ → ℕ → ℕ
answers_sum jobs more = sum_by (λ answer. answer) (map (λ job. job + more) (range_with_len 0 jobs)) % 2 ^ 64
