-- Names of cubes and columns.
-- Source: this project's own.
use Rattle.std.specs.Prelude.{ℕ, Bool, false, not, ◌&&◌, ◌||◌, ◌==◌, nat_le, List, [], ◌∷◌, length}
use Rattle.std.specs.Char.{is_ascii_alphabetic, is_ascii_alphanumeric}
use Rattle.std.specs.List.{list_all}
use Rattle.cube_language.specs.declared.name.TheConstants.{NAME_BYTES}
use Rattle.cube_language.specs.Keywords.{is_keyword}

-- A name begins with a letter of ASCII or `_`.
abbrev pub begins_name : ℕ → Bool
begins_name byte = is_ascii_alphabetic byte || byte == 95

-- It goes on with letters, digits and `_`.
abbrev pub continues_name : ℕ → Bool
continues_name byte = is_ascii_alphanumeric byte || byte == 95

-- Bytes have the form of a word.
abbrev pub is_word : List ℕ → Bool
is_word [] = false
is_word (byte ∷ bytes) = begins_name byte && list_all continues_name bytes

-- A name is a word of at most NAME_BYTES bytes that is no keyword.
abbrev pub is_name : List ℕ → Bool
is_name bytes = is_word bytes && nat_le (length bytes) NAME_BYTES && not (is_keyword bytes)
