-- Whether bytes are UTF-8, as a test.
use Rattle.std.proofs.Common.{◌≡◌, ℕ, true, false, List, inl, inr, sym, IsUtf8}
use Rattle.std.specs.Str.{is_utf8, IsAscii}
use Rattle.std.proofs.lemmas.Bool.{cases_Bool}
use Rattle.std.proofs.lemmas.Str.{IsUtf8-from_ascii, IsUtf8-from_is_utf8, is_utf8-from_IsUtf8}

pub text_is : (bytes : List ℕ) → IsUtf8 bytes → true ≡ is_utf8 bytes
text_is bytes utf8 = sym (is_utf8-from_IsUtf8 bytes utf8)

pub text_is_not : (bytes : List ℕ) → (IsUtf8 bytes → ⊥) → false ≡ is_utf8 bytes
text_is_not bytes other = elim (cases_Bool (is_utf8 bytes)) [
  | inl utf8 ↦ absurd (other (IsUtf8-from_is_utf8 bytes utf8))
  | inr none ↦ sym none
]

pub ascii_is : (bytes : List ℕ) → IsAscii bytes → true ≡ is_utf8 bytes
ascii_is bytes ascii = text_is bytes (IsUtf8-from_ascii bytes ascii)
