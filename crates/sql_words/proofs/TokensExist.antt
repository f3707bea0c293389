-- Each text has tokens or a fault among them.
use Rattle.std.proofs.Common.{◌≡◌, ℕ, zero, suc, ◌+◌, ◌-◌, ◌<◌, true, false, eqb, ℤ, List, [], ◌∷◌, length, take, drop, ◌⊎◌, inl, inr, refl, ◌^◌, arith}
use Rattle.std.specs.Prelude.{FitsSigned}
use Rattle.std.specs.Int.{w64}
use Rattle.std.specs.Int.Signed.{mag}
use Rattle.std.specs.Str.Parse.{signed_digits_value}
use Rattle.std.proofs.lemmas.Bool.{cases_Bool, cases_lt, eqb-true, or_cases}
use Rattle.std.specs.List.{prefix_len}
use Rattle.std.proofs.lemmas.Bool.Decides.{nat_tests}
use Rattle.std.proofs.lemmas.List.{length-drop}
use Rattle.cube_language.specs.declared.token.Token.{Token}
use Rattle.cube_language.specs.declared.token.TokenFault.{TokenFault}
use Rattle.cube_language.specs.declared.token.TokenFault.TheVariants.{BadByte, UnclosedText, NumberTooWide}
use Rattle.cube_language.specs.declared.token.TokenKind.{TokenKind}
use Rattle.cube_language.specs.declared.token.TokenKind.TheVariants.{Word, Number, Text, Open, Close, Comma, Equals, Star}
use Rattle.cube_language.specs.Names.{continues_name}
use Rattle.cube_language.specs.Parts.{is_blank}
use Rattle.cube_language.specs.Tokens.{IsFault, IsToken, fault_at, is_mark, is_stray}
use Rattle.sql_words.specs.Fronts.{begins_gap, begins_mark, begins_number, begins_text, begins_word, letter_len, number_len, part_len, IsBehindGap, IsFront}
use Rattle.sql_words.specs.Laws.{AnyTokens, AnyTokenFault, TextsHaveTokensOrFault}
use Rattle.sql_words.proofs.Gaps.{ArePassing, gap_all, gap_more, gap_shorter, passing_none}
use Rattle.sql_words.proofs.OpenTexts.{IsOpen, open_all, open_ends, open_more, open_none}
use Rattle.sql_words.proofs.TokenFronts.{number_fails, number_stands, word_front}
use Rattle.sql_words.proofs.TokensLeft.{AreRead, read_all, read_fails, read_more, read_none, rest_shorter}

-- ---- what stands behind a gap

gap_ends : (n : ℕ) (bytes rest : List ℕ) → length rest < n → ArePassing is_blank bytes rest → (end : List ℕ) × IsBehindGap bytes end
gap_ends zero bytes rest lt h = absurd (omega arith)
gap_ends (suc n) bytes rest lt h = elim (cases_Bool (begins_gap rest)) [
  | inl more ↦ gap_ends n bytes (drop (part_len rest) rest) (omega (arith, lt, gap_shorter rest more)) (gap_more bytes rest more h)
  | inr stops ↦ (rest, gap_all bytes rest stops h)
]

behind_gap : (bytes : List ℕ) → (end : List ℕ) × IsBehindGap bytes end
behind_gap bytes = gap_ends (suc (length bytes)) bytes bytes (omega arith) (passing_none is_blank bytes)

-- ---- a token at the front, or a fault

-- a token stands at the front
record AnyFront (bytes : List ℕ) : Type 0 where
  pub kind : TokenKind
  pub long : ℕ
  pub is : IsFront bytes kind long

-- what stands at the front is a fault, whatever its place
record AnyFault (bytes : List ℕ) (at : ℕ) : Type 0 where
  pub fault : TokenFault
  pub is : IsFault bytes fault
  pub place : fault_at fault ≡ at

letter_shorter : (rest : List ℕ) → 0 < letter_len rest → 0 < length rest → length (drop (letter_len rest) rest) < length rest
letter_shorter rest goes some = omega (arith, length-drop (letter_len rest) rest)

text_ends : (n at : ℕ) (bytes rest : List ℕ) → length rest < n → IsOpen bytes rest → AnyFront bytes ⊎ AnyFault bytes at
text_ends zero at bytes rest lt h = absurd (omega arith)
text_ends (suc n) at bytes rest lt h = elim (cases_lt 0 (length rest)) [
  | inl some ↦ elim (cases_lt 0 (letter_len rest)) [
    | inl goes ↦ text_ends n at bytes (drop (letter_len rest) rest) (omega (arith, lt, letter_shorter rest goes some)) (open_more bytes rest goes h)
    | inr ends ↦ inl (record { kind = Text; long = length bytes - length rest + 1; is = open_ends bytes rest some (omega (arith, ends)) h })
  ]
  | inr none ↦ inr (record { fault = UnclosedText at; is = open_all bytes rest (omega (arith, none)) h; place = refl })
]

text_or_fault : (at : ℕ) (bytes : List ℕ) → begins_text bytes ≡ true → AnyFront bytes ⊎ AnyFault bytes at
text_or_fault at bytes begins = text_ends (suc (length (drop 1 bytes))) at bytes (drop 1 bytes) (omega arith) (open_none bytes begins)

fits_or_not : (n : ℤ) → FitsSigned w64 n ⊎ (FitsSigned w64 n → ⊥)
fits_or_not n = elim (cases_lt (mag n) (2 ^ 63)) [ inl small ↦ inl (record { sfits = small }) | inr large ↦ inr (λ fits. absurd (omega (arith, large, fits.sfits))) ]

number_or_fault : (at : ℕ) (bytes : List ℕ) → begins_number bytes ≡ true → AnyFront bytes ⊎ AnyFault bytes at
number_or_fault at bytes begins =
    let n = signed_digits_value 10 (take (number_len bytes) bytes) in
    elim (fits_or_not n) [
      | inl fits ↦ inl (record { kind = Number n; long = number_len bytes; is = number_stands n bytes begins refl fits })
      | inr wide ↦ inr (record { fault = NumberTooWide at; is = number_fails bytes begins wide; place = refl })
    ]

mark_at : (kind : TokenKind) (b mark : ℕ) (bytes : List ℕ) → eqb b mark ≡ true → IsToken (mark ∷ []) bytes kind → AnyFront (b ∷ bytes)
mark_at kind b mark bytes is token = record { kind = kind; long = 1; is = record { some = omega arith; within = omega arith; token = rw (eqb-true b mark is) token } }

mark_is : (b : ℕ) (bytes : List ℕ) → is_mark b ≡ true → AnyFront (b ∷ bytes)
mark_is b bytes mark = elim (or_cases (eqb b 40) _ mark) [
  | inl opens ↦ mark_at Open b 40 bytes opens refl
  | inr more ↦ elim (or_cases (eqb b 41) _ more) [
    | inl closes ↦ mark_at Close b 41 bytes closes refl
    | inr more ↦ elim (or_cases (eqb b 44) _ more) [
      | inl comma ↦ mark_at Comma b 44 bytes comma refl
      | inr more ↦ elim (or_cases (eqb b 61) _ more) [ inl equals ↦ mark_at Equals b 61 bytes equals refl | inr star ↦ mark_at Star b 42 bytes star refl ]
    ]
  ]
]

mark_front : (bytes : List ℕ) → begins_mark bytes ≡ true → AnyFront bytes
mark_front [] begins = absurd cc
mark_front (b ∷ bytes) begins = mark_is b bytes begins

stray : (bytes : List ℕ) → 0 < length bytes → begins_gap bytes ≡ false → begins_word bytes ≡ false → begins_text bytes ≡ false → begins_number bytes ≡ false → begins_mark bytes ≡ false → is_stray bytes ≡ true
stray [] some stops no_word no_text no_number no_mark = absurd (omega arith)
stray (b ∷ []) some stops no_word no_text no_number no_mark = grind (arith, nat_tests)
stray (b ∷ c ∷ bytes) some stops no_word no_text no_number no_mark = grind (arith, nat_tests)

front_or_fault : (at : ℕ) (bytes : List ℕ) → 0 < length bytes → begins_gap bytes ≡ false → AnyFront bytes ⊎ AnyFault bytes at
front_or_fault at bytes some stops = elim (cases_Bool (begins_word bytes)) [
  | inl word ↦ inl (record { kind = Word; long = prefix_len continues_name bytes; is = word_front bytes word })
  | inr no_word ↦ elim (cases_Bool (begins_text bytes)) [
    | inl text ↦ text_or_fault at bytes text
    | inr no_text ↦ elim (cases_Bool (begins_number bytes)) [
      | inl number ↦ number_or_fault at bytes number
      | inr no_number ↦ elim (cases_Bool (begins_mark bytes)) [
        | inl mark ↦ inl (mark_front bytes mark)
        | inr no_mark ↦ inr (record { fault = BadByte at; is = stray bytes some stops no_word no_text no_number no_mark; place = refl })
      ]
    ]
  ]
]

-- ---- the tokens of a text, or its first fault

tokens_from : (n : ℕ) (text : List ℕ) (front : List Token) (rest : List ℕ) → length rest < n → AreRead text front rest → AnyTokens text ⊎ AnyTokenFault text
tokens_from zero text front rest lt read = absurd (omega arith)
tokens_from (suc n) text front rest lt read = elim (cases_lt 0 (length rest)) [
  | inr none ↦ inl (front, read_all text front rest read (omega (arith, none)))
  | inl some ↦ elim (front_or_fault (length text - length rest) rest some read.stops) [
    | inr bad ↦ inr (bad.fault, read_fails text front rest bad.fault read bad.is bad.place)
    | inl first ↦
        let behind = behind_gap (drop first.long rest) in
        let shorter = rest_shorter first.kind first.long rest behind.0 first.is behind.1 in
        tokens_from n text _ behind.0 (omega (arith, lt, shorter)) (read_more text front rest behind.0 first.kind first.long read first.is behind.1)
  ]
]

-- Each text has tokens or a fault.
pub some_tokens_or_fault : TextsHaveTokensOrFault
some_tokens_or_fault text =
    let first = behind_gap text in
    tokens_from (suc (length first.0)) text [] first.0 (omega arith) (read_none text first.0 first.1)
