-- Names and digits are ASCII, and digits are what a parse reads.
use Rattle.std.proofs.Common.{◌≡◌, ℕ, ◌<◌, ◌^◌, Bool, true, not, cond, eqb, ◌&&◌, List, [], ◌∷◌, length, IsUtf8, Option, Some, None, Result, Ok, Err, nat_le, nat_lt, inl, inr, refl, ap, ◌∙◌, arith}
use Rattle.std.specs.Prelude.{IsTrue}
use Rattle.std.specs.Char.{is_ascii_digit}
use Rattle.std.specs.List.{list_all}
use Rattle.std.specs.Str.{IsAscii, all_ascii_digits}
use Rattle.std.specs.Str.Parse.{ParsesUnsigned, digits_value}
use Rattle.std.specs.Result.{OkIff, result_ok}
use Rattle.std.proofs.lemmas.Bool.{and_parts, cases_lt, lt-ltb, le-ltb}
use Rattle.std.proofs.lemmas.Bool.Decides.{nat_tests}
use Rattle.std.proofs.lemmas.Str.{IsUtf8-from_ascii}
use Rattle.std.proofs.lemmas.Str.Ascii.{IsAscii-nil, IsAscii-cons}
use Rattle.std.proofs.lemmas.Str.Parse.{IsNumeralModel, numerals_by_value, tells_all_ascii_digits, parse_digits}
use Rattle.cube_language.specs.Keywords.{is_keyword}
use Rattle.cube_language.specs.Names.{begins_name, continues_name, is_word, is_name}
use Rattle.cube_language.specs.Tokens.{is_digits}

pub digits_are : (bytes : List ℕ) → list_all is_ascii_digit bytes ≡ all_ascii_digits bytes
digits_are [] = refl
digits_are (b ∷ bytes) = ap (λ r. is_ascii_digit b && r) (digits_are bytes)

-- Bytes that pass a test of bytes of ASCII are text.
all_ascii : (p : ℕ → Bool) → ((b : ℕ) → p b ≡ true → b < 128) → (bytes : List ℕ) → list_all p bytes ≡ true → IsAscii bytes
all_ascii p low [] all = IsAscii-nil
all_ascii p low (b ∷ bytes) all = let both = and_parts _ _ all in IsAscii-cons b bytes (low b both.0) (all_ascii p low bytes both.1)

continues : (word : List ℕ) → is_word word ≡ true → list_all continues_name word ≡ true
continues [] word = refl
continues (b ∷ bytes) word =
    let both = and_parts (begins_name b) (list_all continues_name bytes) word in
    let begins : begins_name b ≡ true = both.0 in
    let first : continues_name b ≡ true = grind (arith, nat_tests) in
    rw (first, both.1) refl

pub name_continues : (name : List ℕ) → IsTrue (is_name name) → list_all continues_name name ≡ true
name_continues name named = continues name (and_parts (is_word name) (nat_le (length name) 64) (and_parts (is_word name && nat_le (length name) 64) (not (is_keyword name)) named).0).0

pub name_is_ascii : (name : List ℕ) → IsTrue (is_name name) → IsAscii name
name_is_ascii name named = all_ascii continues_name (λ b more. grind (arith, nat_tests)) name (name_continues name named)

pub name_is_text : (name : List ℕ) → IsTrue (is_name name) → IsUtf8 name
name_is_text name named = IsUtf8-from_ascii name (name_is_ascii name named)

digits_parts : (bytes : List ℕ) → is_digits bytes ≡ true → all_ascii_digits bytes ≡ true
digits_parts bytes digits = (and_parts (not (eqb (length bytes) 0)) (all_ascii_digits bytes) digits).1

pub digits_are_text : (bytes : List ℕ) → is_digits bytes ≡ true → IsUtf8 bytes
digits_are_text bytes digits = IsUtf8-from_ascii bytes (all_ascii is_ascii_digit (λ b digit. grind (arith, nat_tests)) bytes (digits_are bytes ∙ digits_parts bytes digits))

pub own : IsNumeralModel (λ ds. all_ascii_digits ds ≡ true) (digits_value 10)
own = numerals_by_value (λ ds. all_ascii_digits ds ≡ true) tells_all_ascii_digits

abbrev small : List ℕ → Option ℕ
small bytes = cond (nat_lt (digits_value 10 bytes) (2 ^ 32)) (Some (digits_value 10 bytes)) None

small_or_not : {E : Type 0} (bytes : List ℕ) (r : Result ℕ E) → 0 < length bytes → OkIff r ((0 < length bytes) × (digits_value 10 bytes < 2 ^ 32)) (digits_value 10 bytes) → result_ok r ≡ small bytes
small_or_not bytes (Ok n) some read = rw (read.1, lt-ltb _ _ read.0.1) refl
small_or_not bytes (Err e) some read = elim (cases_lt (digits_value 10 bytes) (2 ^ 32)) [ inl below ↦ absurd (read (some, below)) | inr above ↦ rw (le-ltb _ _ above) refl ]

-- What a parse of digits gives.
pub parsed : {E : Type 0} (bytes : List ℕ) (r : Result ℕ E) → is_digits bytes ≡ true → ParsesUnsigned 32 10 bytes r → result_ok r ≡ small bytes
parsed [] r digits read = absurd cc
parsed (b ∷ bytes) r digits read = small_or_not (b ∷ bytes) r (omega arith) (parse_digits own 32 (b ∷ bytes) r read (digits_parts (b ∷ bytes) digits))
