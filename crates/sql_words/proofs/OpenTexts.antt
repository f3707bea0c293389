-- A text in quotes, byte for byte up to its last quote.
use Rattle.std.proofs.Common.{◌≡◌, ℕ, ◌+◌, ◌-◌, ◌<◌, true, false, eqb, List, [], ◌∷◌, ◌++◌, length, drop, inl, inr, refl, sym, ap, subst, ◌∙◌, append_assoc, arith}
use Rattle.std.proofs.lemmas.Bool.{cases_Bool, eqb-true}
use Rattle.std.proofs.lemmas.List.{append-nil, length-append}
use Rattle.std.proofs.lemmas.List.Concat.{flat_map-append}
use Rattle.cube_language.specs.declared.token.TokenKind.TheVariants.{Text}
use Rattle.cube_language.specs.Parts.{EndsRun}
use Rattle.cube_language.specs.Quotes.{doubled, opened, quoted}
use Rattle.sql_words.specs.Fronts.{begins_text, letter_len, IsFront}
use Rattle.sql_words.proofs.TokenFronts.{front_from}

-- the bytes are a text behind its first quote, and then the rest
pub record IsOpen (bytes rest : List ℕ) : Type 0 where
  pub text : List ℕ
  pub whole : bytes ≡ opened text ++ rest

pub open_none : (bytes : List ℕ) → begins_text bytes ≡ true → IsOpen bytes (drop 1 bytes)
open_none [] begins = absurd cc
open_none (b ∷ bytes) begins = record { text = []; whole = ap (λ (c : ℕ). c ∷ bytes) (eqb-true b 39 begins) }

doubled_push : (text rest : List ℕ) (b : ℕ) → doubled (text ++ b ∷ []) ++ rest ≡ doubled text ++ (doubled (b ∷ []) ++ rest)
doubled_push text rest b = ap (λ xs. xs ++ rest) (flat_map-append _ text (b ∷ [])) ∙ append_assoc (doubled text) (doubled (b ∷ [])) rest

two_quotes : (b : ℕ) (rest : List ℕ) → eqb b 39 ≡ true → begins_text rest ≡ true → b ∷ rest ≡ 39 ∷ 39 ∷ drop 2 (b ∷ rest)
two_quotes b [] one two = absurd cc
two_quotes b (c ∷ rest) one two =
    let first = eqb-true b 39 one in
    let second = eqb-true c 39 two in
    λ i. first i ∷ second i ∷ rest

letter : (rest : List ℕ) → 0 < letter_len rest → (b : ℕ) × (rest ≡ doubled (b ∷ []) ++ drop (letter_len rest) rest)
letter [] some = absurd (omega arith)
letter (b ∷ rest) some =
    elim (cases_Bool (eqb b 39)) [
      | inl quote ↦ elim (cases_Bool (begins_text rest)) [
        | inl two ↦ (39, rw (quote, two) (two_quotes b rest quote two))
        | inr one ↦ let none : letter_len (b ∷ rest) ≡ 0 = rw (quote, one) refl in absurd (omega arith)
      ]
      | inr other ↦ (b, rw other refl)
    ]

pub open_more : (bytes rest : List ℕ) → 0 < letter_len rest → IsOpen bytes rest → IsOpen bytes (drop (letter_len rest) rest)
open_more bytes rest some h =
    let next = letter rest some in
    record {
      text = h.text ++ next.0 ∷ [];
      whole = h.whole ∙ ap (λ (xs : List ℕ). 39 ∷ (doubled h.text ++ xs)) next.1 ∙ ap (λ (xs : List ℕ). 39 ∷ xs) (sym (doubled_push h.text (drop (letter_len rest) rest) next.0));
    }

pub open_all : (bytes rest : List ℕ) → length rest ≡ 0 → IsOpen bytes rest → (text : List ℕ) × (bytes ≡ opened text)
open_all bytes [] none h = (h.text, h.whole ∙ append-nil (opened h.text))
open_all bytes (b ∷ rest) none h = absurd (omega arith)

stops_at : (rest : List ℕ) → begins_text rest ≡ false → EndsRun (λ byte. eqb byte 39) rest
stops_at [] none = tt
stops_at (b ∷ rest) none = none

closing : (rest : List ℕ) → 0 < length rest → letter_len rest ≡ 0 → (behind : List ℕ) × (rest ≡ 39 ∷ behind) × EndsRun (λ byte. eqb byte 39) behind
closing [] some none = absurd (omega arith)
closing (b ∷ rest) some none =
    elim (cases_Bool (eqb b 39)) [
      | inl quote ↦ elim (cases_Bool (begins_text rest)) [
        | inl two ↦ let wide : letter_len (b ∷ rest) ≡ 2 = rw (quote, two) refl in absurd (omega arith)
        | inr one ↦ (rest, ap (λ c. c ∷ rest) (eqb-true b 39 quote), stops_at rest one)
      ]
      | inr other ↦ let wide : letter_len (b ∷ rest) ≡ 1 = rw other refl in absurd (omega arith)
    ]

pub open_ends : (bytes rest : List ℕ) → 0 < length rest → letter_len rest ≡ 0 → IsOpen bytes rest → IsFront bytes Text (length bytes - length rest + 1)
open_ends bytes rest some none h =
    let last = closing rest some none in
    let whole : bytes ≡ quoted h.text ++ last.0 =
    h.whole ∙ ap (λ (xs : List ℕ). 39 ∷ (doubled h.text ++ xs)) last.1 ∙ ap (λ (xs : List ℕ). 39 ∷ xs) (sym (append_assoc (doubled h.text) (39 ∷ []) last.0)) in
    let long : length (quoted h.text) ≡ length bytes - length rest + 1 = omega (arith, ap length whole, ap length last.1, length-append (quoted h.text) last.0) in
    subst (IsFront bytes Text) long (front_from Text bytes (quoted h.text) last.0 whole (omega arith) (h.text, refl, last.2))
