-- Names encoded one after the other.
use Rattle.std.specs.Prelude.{ℕ, List, [], ◌∷◌, map}
use Rattle.std.specs.Option.{option_map_or}
use Rattle.arrayvec.specs.ArrayString.{ArrayString}
use Rattle.known_names.specs.KnownTexts.{with_text}
use Rattle.names_dict.specs.Dictionaries.{Dictionary, code_of, number_of, with_code}

-- A dictionary that may have so many names, and has none.
abbrev pub empty : ℕ → Dictionary
empty cardinality = record { cardinality = cardinality; names = [] }

-- The dictionary after names, each of which was encoded.
abbrev pub encoded : Dictionary → List (List ℕ) → Dictionary
encoded d [] = d
encoded d (name ∷ names) = encoded (with_code d name (code_of d name)) names

-- What is known after names, each of which was learned with its number in a dictionary, or with 0 where that lacks it.
abbrev pub known_by : Dictionary → List (List ℕ × ℕ) → List (List ℕ) → List (List ℕ × ℕ)
known_by d known [] = known
known_by d known (name ∷ names) =
    known_by d (with_text known name (option_map_or (λ n. n) (number_of d name) 0)) names

-- The texts of names that are kept in place.
abbrev pub texts_of_names : List ArrayString → List (List ℕ)
texts_of_names names = map (λ name. name.bytes) names
