-- The token at the front of bytes, and how far it reaches.
use Rattle.std.proofs.Common.{◌≡◌, ℕ, suc, ◌<◌, ◌≤◌, true, false, eqb, ℤ, List, [], ◌∷◌, ◌++◌, length, take, drop, inl, inr, refl, sym, ap, ◌∙◌, arith}
use Rattle.std.specs.Prelude.{FitsSigned}
use Rattle.std.specs.Char.{is_ascii_digit}
use Rattle.std.specs.Int.{w64}
use Rattle.std.specs.List.{prefix_len}
use Rattle.std.specs.Str.Parse.{signed_digits_value}
use Rattle.std.proofs.lemmas.Bool.{and_from, cases_Bool, eqb-true}
use Rattle.std.proofs.lemmas.Bool.Decides.{nat_tests}
use Rattle.std.proofs.lemmas.List.{length-append, take_at, drop_at, take-append-drop}
use Rattle.cube_language.specs.Names.{continues_name}
use Rattle.cube_language.specs.declared.token.TokenKind.{TokenKind}
use Rattle.cube_language.specs.declared.token.TokenKind.TheVariants.{Word, Number}
use Rattle.cube_language.specs.Tokens.{is_digits, is_number, IsNumberBefore, IsToken}
use Rattle.sql_words.specs.Fronts.{first_passes, begins_word, begins_number, number_len, IsFront}
use Rattle.sql_words.proofs.Prefixes.{prefix_passes, prefix_stops, prefix_within, front_one, rest_one}
use Rattle.sql_words.proofs.Numbers.{digits_from}

-- a token before a rest stands at the front
pub front_from : (kind : TokenKind) (bytes token rest : List ℕ) → bytes ≡ token ++ rest → 0 < length token → IsToken token rest kind → IsFront bytes kind (length token)
front_from kind bytes token rest whole some h =
    let front : take (length token) bytes ≡ token = ap (take (length token)) whole ∙ take_at token rest (length token) refl in
    let back : drop (length token) bytes ≡ rest = ap (drop (length token)) whole ∙ drop_at token rest (length token) refl in
    record {
      some = some;
      within = omega (arith, ap length whole, length-append token rest);
      token = rw (front, back) h;
    }

-- ---- words

pub word_front : (bytes : List ℕ) → begins_word bytes ≡ true → IsFront bytes Word (prefix_len continues_name bytes)
word_front [] begins = absurd cc
word_front (b ∷ bytes) begins =
    let goes : continues_name b ≡ true = grind (arith, nat_tests) in
    let long : prefix_len continues_name (b ∷ bytes) ≡ suc (prefix_len continues_name bytes) = rw goes (omega arith) in
    rw long (record {
      some = omega arith;
      within = omega (arith, prefix_within continues_name bytes);
      token = (and_from _ _ begins (prefix_passes continues_name bytes), prefix_stops continues_name bytes);
    })

-- ---- numbers

-- digits at the front, the first of which is there
digits_front : (bytes : List ℕ) → first_passes is_ascii_digit bytes ≡ true → (0 < prefix_len is_ascii_digit bytes) × (is_digits (take (prefix_len is_ascii_digit bytes) bytes) ≡ true)
digits_front [] begins = absurd cc
digits_front (b ∷ bytes) begins =
    let digit : is_ascii_digit b ≡ true = begins in
    let long : prefix_len is_ascii_digit (b ∷ bytes) ≡ suc (prefix_len is_ascii_digit bytes) = rw digit (omega arith) in
    (omega arith, rw long (digits_from b (take (prefix_len is_ascii_digit bytes) bytes) digit (prefix_passes is_ascii_digit bytes)))

number_plain : (b : ℕ) (bytes : List ℕ) → eqb b 45 ≡ false → is_ascii_digit b ≡ true → is_digits (take (prefix_len is_ascii_digit (b ∷ bytes)) (b ∷ bytes)) ≡ true
    → is_number (take (prefix_len is_ascii_digit (b ∷ bytes)) (b ∷ bytes)) ≡ true
number_plain b bytes plain digit digits =
    let long : prefix_len is_ascii_digit (b ∷ bytes) ≡ suc (prefix_len is_ascii_digit bytes) = rw digit (omega arith) in
    let are : is_digits (b ∷ take (prefix_len is_ascii_digit bytes) bytes) ≡ true = rw long at digits in
    rw (long, plain) are

-- a number stands at the front and has so many bytes
pub record IsFrontNumber (bytes : List ℕ) (n : ℕ) : Type 0 where
  pub some : 0 < n
  pub within : n ≤ length bytes
  pub before : IsNumberBefore (take n bytes) (drop n bytes)

pub number_front : (bytes : List ℕ) → begins_number bytes ≡ true → IsFrontNumber bytes (number_len bytes)
number_front [] begins = absurd cc
number_front (b ∷ bytes) begins =
    elim (cases_Bool (eqb b 45)) [
      | inl minus ↦
          let more : first_passes is_ascii_digit bytes ≡ true = rw minus at begins in
          let digits = digits_front bytes more in
          let is = eqb-true b 45 minus in
          rw minus (record {
            some = omega arith;
            within = omega (arith, prefix_within is_ascii_digit bytes);
            before = rw (front_one (prefix_len is_ascii_digit bytes) b bytes, rest_one (prefix_len is_ascii_digit bytes) b bytes, is) (digits.1, prefix_stops is_ascii_digit bytes);
          })
      | inr plain ↦
          let digit : is_ascii_digit b ≡ true = rw plain at begins in
          let digits = digits_front (b ∷ bytes) digit in
          rw plain (record {
            some = digits.0;
            within = prefix_within is_ascii_digit (b ∷ bytes);
            before = (number_plain b bytes plain digit digits.1, prefix_stops is_ascii_digit (b ∷ bytes));
          })
    ]

pub number_within : (bytes : List ℕ) → begins_number bytes ≡ true → number_len bytes ≤ length bytes
number_within bytes begins = (number_front bytes begins).within

pub number_is : (bytes : List ℕ) → begins_number bytes ≡ true → is_number (take (number_len bytes) bytes) ≡ true
number_is bytes begins = (number_front bytes begins).before.0

pub number_stands : (n : ℤ) (bytes : List ℕ) → begins_number bytes ≡ true → signed_digits_value 10 (take (number_len bytes) bytes) ≡ n → FitsSigned w64 n → IsFront bytes (Number n) (number_len bytes)
number_stands n bytes begins value fits =
    let front = number_front bytes begins in
    record { some = front.some; within = front.within; token = (front.before, value, fits) }

pub number_fails : (bytes : List ℕ) → begins_number bytes ≡ true → (FitsSigned w64 (signed_digits_value 10 (take (number_len bytes) bytes)) → ⊥)
    → (number rest : List ℕ) × (bytes ≡ number ++ rest) × IsNumberBefore number rest × (FitsSigned w64 (signed_digits_value 10 number) → ⊥)
number_fails bytes begins wide =
    let n = number_len bytes in
    (take n bytes, drop n bytes, sym (take-append-drop n bytes), (number_front bytes begins).before, wide)
