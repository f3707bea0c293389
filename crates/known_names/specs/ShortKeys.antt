-- Short texts as numbers, which tell them apart.
-- Source: a text of n to 2 n bytes is covered by its first n and its last n bytes.
use Rattle.std.specs.Prelude.{ℕ, ◌-◌, ◌<◌, ◌≤◌, List, nat_le, length, take, drop, get_or, if◌then◌else◌}
use Rattle.std.specs.Int.{Width, w8, w16, w32, w64, from_le_bytes}
use Rattle.known_names.specs.declared.short_keys.ShortKey.{ShortKey}

-- A text of 1 to 16 bytes.
pub record IsShortText (text : List ℕ) : Type 0 where
  pub some : 0 < length text
  pub few : length text ≤ 16
  pub bytes : (i : ℕ) → get_or text i 0 < 256

-- The number of a width that the first n bytes spell, the lowest first.
unfoldable pub first_number : Width → ℕ → List ℕ → ℕ
first_number w n bytes = from_le_bytes w (take n bytes)

-- The length of a text, and the numbers of its first bytes and of its last, n of them each.
abbrev pub key_by : Width → ℕ → List ℕ → ShortKey
key_by w n text =
    record {
      head = first_number w n text;
      tail = first_number w n (drop (length text - n) text);
      len = length text;
    }

-- The same with as many bytes as cover the text.
abbrev pub short_key : List ℕ → ShortKey
short_key text =
    if nat_le 8 (length text) then key_by w64 8 text
    else if nat_le 4 (length text) then key_by w32 4 text
    else if nat_le 2 (length text) then key_by w16 2 text
    else key_by w8 1 text
