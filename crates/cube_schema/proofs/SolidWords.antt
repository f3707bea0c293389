-- Words with one space between them, on lines that end with LF.
use Rattle.std.proofs.Common.{◌≡◌, ℕ, ◌≤◌, ◌<◌, ◌^◌, Bool, true, false, not, ◌&&◌, List, [], ◌∷◌, ◌++◌, length, map, decimal, nat_le, nat_lt, refl, ap, ◌∙◌, arith}
use Rattle.std.specs.Prelude.{IsTrue, ◌==◌}
use Rattle.std.specs.Char.{is_ascii_digit}
use Rattle.std.specs.List.{list_all, slice_split, onto_first, AllByRecursion}
use Rattle.std.specs.Str.{IsAscii, all_ascii_digits}
use Rattle.std.proofs.lemmas.Bool.{and_parts}
use Rattle.std.proofs.lemmas.Bool.Decides.{nat_tests}
use Rattle.std.proofs.lemmas.Fmt.{decimal_nonempty, digits_decimal, digits_value-decimal}
use Rattle.std.proofs.lemmas.Str.Ascii.{IsAscii-nil, IsAscii-cons}
use Rattle.cube_language.specs.Keywords.{is_keyword}
use Rattle.cube_language.specs.Names.{continues_name, is_word, is_name}
use Rattle.cube_language.specs.CubesText.{IsNumberWord, words_of, word_lines, without_return, parts_words}
use Rattle.cube_language.specs.Tokens.{is_digits}
use Rattle.cube_schema.proofs.Ascii.{digits_are, name_continues, own}
use Rattle.cube_schema.proofs.WordParts.{word_stays}

-- A byte of ASCII that ends no word.
abbrev pub Solid : ℕ → Type 0
Solid b = (33 ≤ b) × (b < 128)

-- A byte of ASCII that ends no line.
abbrev pub Printed : ℕ → Type 0
Printed b = (32 ≤ b) × (b < 128)

-- A word of bytes that end none.
pub record IsSolid (word : List ℕ) : Type 0 where
  pub some : 0 < length word
  pub all : AllByRecursion Solid word

all_solid : (p : ℕ → Bool) → ((b : ℕ) → p b ≡ true → Solid b) → (bytes : List ℕ) → list_all p bytes ≡ true → AllByRecursion Solid bytes
all_solid p solid [] all = tt
all_solid p solid (b ∷ bytes) all = let both = and_parts (p b) (list_all p bytes) all in (solid b both.0, all_solid p solid bytes both.1)

pub solid_text : (word : List ℕ) → list_all (λ b. nat_le 33 b && nat_lt b 128) word ≡ true → 0 < length word → IsSolid word
solid_text word all some = record { some = some; all = all_solid (λ b. nat_le 33 b && nat_lt b 128) (λ b both. (grind (arith, nat_tests), grind (arith, nat_tests))) word all }

not_empty : (word : List ℕ) → is_word word ≡ true → 0 < length word
not_empty [] word = absurd cc
not_empty (b ∷ bytes) word = omega arith

pub name_is_solid : (name : List ℕ) → IsTrue (is_name name) → IsSolid name
name_is_solid name named =
    let word = and_parts (is_word name) (nat_le (length name) 64) (and_parts (is_word name && nat_le (length name) 64) (not (is_keyword name)) named).0 in
    record { some = not_empty name word.0; all = all_solid continues_name (λ b more. (grind (arith, nat_tests), grind (arith, nat_tests))) name (name_continues name named) }

digits_solid : (bytes : List ℕ) → all_ascii_digits bytes ≡ true → AllByRecursion Solid bytes
digits_solid bytes digits = all_solid is_ascii_digit (λ b digit. (grind (arith, nat_tests), grind (arith, nat_tests))) bytes (digits_are bytes ∙ digits)

pub decimal_is_solid : (n : ℕ) → n < 2 ^ 32 → IsSolid (decimal n)
decimal_is_solid n small =
    let fits : n < 2 ^ 64 = omega arith in
    record { some = decimal_nonempty n fits; all = digits_solid (decimal n) (digits_decimal own n fits) }

-- A number that was written is that number.
pub decimal_is_number : (n : ℕ) → n < 2 ^ 32 → IsNumberWord (decimal n) n
decimal_is_number n small =
    let fits : n < 2 ^ 64 = omega arith in
    let some = decimal_nonempty n fits in
    let full : (length (decimal n) == 0) ≡ false = grind (arith, nat_tests) in
    let digits : is_digits (decimal n) ≡ true = rw (full, digits_decimal own n fits) refl in
    (digits, digits_value-decimal own n fits, small)

solid_is_no_blank : (b : ℕ) → Solid b → parts_words b ≡ false
solid_is_no_blank b solid = let low = solid.0 in grind (arith, nat_tests)

parts_then : (word rest : List ℕ) → AllByRecursion Solid word → slice_split parts_words (word ++ 32 ∷ rest) ≡ word ∷ slice_split parts_words rest
parts_then [] rest solid = refl
parts_then (b ∷ word) rest solid = rw (solid_is_no_blank b solid.0) (ap (onto_first b) (parts_then word rest solid.1))

part_alone : (word : List ℕ) → AllByRecursion Solid word → slice_split parts_words word ≡ word ∷ []
part_alone [] solid = refl
part_alone (b ∷ word) solid = rw (solid_is_no_blank b solid.0) (ap (onto_first b) (part_alone word solid.1))

-- Words with one space between them.
abbrev pub joined : List (List ℕ) → List ℕ
joined [] = []
joined (word ∷ []) = word
joined (word ∷ next ∷ words) = word ++ 32 ∷ joined (next ∷ words)

pub words-joined : (words : List (List ℕ)) → AllByRecursion IsSolid words → words_of (joined words) ≡ words
words-joined [] solid = refl
words-joined (word ∷ []) solid = rw (part_alone word solid.0.all) (word_stays word [] solid.0.some)
words-joined (word ∷ next ∷ words) solid =
    let rest = joined (next ∷ words) in
    rw (parts_then word rest solid.0.all) (word_stays word (slice_split parts_words rest) solid.0.some ∙ ap (λ ws. word ∷ ws) (words-joined (next ∷ words) solid.1))

solid_printed : (word rest : List ℕ) → AllByRecursion Solid word → AllByRecursion Printed rest → AllByRecursion Printed (word ++ rest)
solid_printed [] rest solid printed = printed
solid_printed (b ∷ word) rest solid printed = ((omega (arith, solid.0.0), solid.0.1), solid_printed word rest solid.1 printed)

word_printed : (word : List ℕ) → AllByRecursion Solid word → AllByRecursion Printed word
word_printed [] solid = tt
word_printed (b ∷ word) solid = ((omega (arith, solid.0.0), solid.0.1), word_printed word solid.1)

pub joined_printed : (words : List (List ℕ)) → AllByRecursion IsSolid words → AllByRecursion Printed (joined words)
joined_printed [] solid = tt
joined_printed (word ∷ []) solid = word_printed word solid.0.all
joined_printed (word ∷ next ∷ words) solid = solid_printed word (32 ∷ joined (next ∷ words)) solid.0.all ((omega arith, omega arith), joined_printed (next ∷ words) solid.1)

pub printed_is_ascii : (line : List ℕ) → AllByRecursion Printed line → IsAscii line
printed_is_ascii [] printed = IsAscii-nil
printed_is_ascii (b ∷ line) printed = IsAscii-cons b line printed.0.1 (printed_is_ascii line printed.1)

printed_is_no : (b c : ℕ) → Printed b → c < 32 → (b == c) ≡ false
printed_is_no b c printed low = let above = printed.0 in grind (arith, nat_tests)

lines_then : (line rest : List ℕ) → AllByRecursion Printed line → slice_split (λ byte. byte == 10) (line ++ 10 ∷ rest) ≡ line ∷ slice_split (λ byte. byte == 10) rest
lines_then [] rest printed = refl
lines_then (b ∷ line) rest printed = rw (printed_is_no b 10 printed.0 (omega arith)) (ap (onto_first b) (lines_then line rest printed.1))

no_return : (line : List ℕ) → AllByRecursion Printed line → without_return line ≡ line
no_return [] printed = refl
no_return (b ∷ []) printed = rw (printed_is_no b 13 printed.0 (omega arith)) refl
no_return (b ∷ c ∷ line) printed = ap (λ bytes. b ∷ bytes) (no_return (c ∷ line) printed.1)

-- A line of words before others.
pub words_then : (words : List (List ℕ)) (rest : List ℕ) → AllByRecursion IsSolid words → word_lines (joined words ++ 10 ∷ rest) ≡ words ∷ word_lines rest
words_then words rest solid =
    let printed = joined_printed words solid in
    ap (λ lines. map words_of (map without_return lines)) (lines_then (joined words) rest printed)
    ∙ ap (λ ws. ws ∷ word_lines rest) (ap words_of (no_return (joined words) printed) ∙ words-joined words solid)
