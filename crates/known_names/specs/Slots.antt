-- Slots that hold short texts with their codes.
-- Source: a cache, of which each entry is right and none has to be there.
use Rattle.std.specs.Prelude.{◌≡◌, ℕ, List, Some, All}
use Rattle.known_names.specs.KnownTexts.{code_of_known}
use Rattle.known_names.specs.ShortKeys.{IsShortText, short_key}
use Rattle.known_names.specs.declared.short_keys.ShortKey.{ShortKey}
use Rattle.known_names.specs.declared.short_texts.Slot.{Slot}

-- The key that a slot holds.
abbrev pub slot_key : Slot → ShortKey
slot_key slot = record { head = slot.head; tail = slot.tail; len = slot.len }

-- A short text whose key a slot holds is known with the slot's code.
abbrev pub IsRight : List (List ℕ × ℕ) → Slot → Type 0
IsRight known slot =
    (text : List ℕ) → IsShortText text → slot_key slot ≡ short_key text → code_of_known known text ≡ Some slot.code

abbrev pub AreRight : List (List ℕ × ℕ) → List Slot → Type 0
AreRight known slots = All (IsRight known) slots
