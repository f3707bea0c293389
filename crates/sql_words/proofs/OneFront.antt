-- One token or one fault at most stands at the front of bytes.
use Rattle.std.proofs.Common.{◌≡◌, ℕ, ◌+◌, ◌<◌, true, false, cond, eqb, ℤ, List, [], ◌∷◌, ◌++◌, length, take, drop, Option, Some, None, inl, inr, refl, sym, ap, subst, ◌∙◌, append_assoc, arith}
use Rattle.std.specs.Char.{is_ascii_digit}
use Rattle.std.specs.List.{list_all, prefix_len}
use Rattle.std.specs.Option.{option_map}
use Rattle.std.specs.Str.Parse.{signed_digits_value}
use Rattle.std.proofs.lemmas.Bool.{and_parts, cases_Bool}
use Rattle.std.proofs.lemmas.Bool.Decides.{nat_tests}
use Rattle.std.proofs.lemmas.List.{take_at, drop_at}
use Rattle.cube_language.specs.Names.{begins_name, continues_name, is_word}
use Rattle.cube_language.specs.declared.token.TokenKind.{TokenKind}
use Rattle.cube_language.specs.declared.token.TokenKind.TheVariants.{Word, Number, Text, Open, Close, Comma, Equals, Star}
use Rattle.cube_language.specs.Parts.{is_space, EndsRun}
use Rattle.cube_language.specs.Quotes.{doubled, quoted}
use Rattle.cube_language.specs.Tokens.{is_digits, IsNumberBefore, IsToken}
use Rattle.sql_words.specs.Fronts.{begins_gap, begins_word, begins_text, begins_number, begins_mark, number_len}
use Rattle.sql_words.proofs.Prefixes.{prefix_is}
use Rattle.sql_words.proofs.Numbers.{number_cases, digits_parts}
use Rattle.sql_words.proofs.Gaps.{no_comment}

-- ---- how far the token at the front reaches

-- how many bytes a text has behind its first quote, the last quote with them, where it ends
abbrev pub text_end : List ℕ → Option ℕ
text_end [] = None
text_end (b ∷ []) = cond (eqb b 39) (Some 1) None
text_end (b ∷ c ∷ bytes) = cond (eqb b 39) (cond (eqb c 39) (option_map (λ n. 2 + n) (text_end bytes)) (Some 1)) (option_map (λ n. 1 + n) (text_end (c ∷ bytes)))

end_more : (b : ℕ) (bytes : List ℕ) → eqb b 39 ≡ false → text_end (b ∷ bytes) ≡ option_map (λ n. 1 + n) (text_end bytes)
end_more b [] other = rw other refl
end_more b (c ∷ bytes) other = rw other refl

end_here : (bytes : List ℕ) → EndsRun (λ byte. eqb byte 39) bytes → text_end (39 ∷ bytes) ≡ Some 1
end_here [] stops = refl
end_here (b ∷ bytes) stops = let other : eqb b 39 ≡ false = stops in rw other refl

text_closed : (text rest : List ℕ) → EndsRun (λ byte. eqb byte 39) rest → text_end (doubled text ++ 39 ∷ rest) ≡ Some (length (doubled text ++ 39 ∷ []))
text_closed [] rest stops = end_here rest stops
text_closed (x ∷ text) rest stops =
    let more = text_closed text rest stops in
    elim (cases_Bool (eqb x 39)) [
      | inl quote ↦ rw (quote, more) (ap Some (omega arith))
      | inr other ↦ rw (other, end_more x (doubled text ++ 39 ∷ rest) other, more) (ap Some (omega arith))
    ]

pub text_open : (text : List ℕ) → text_end (doubled text) ≡ None
text_open [] = refl
text_open (x ∷ text) =
    elim (cases_Bool (eqb x 39)) [
      | inl quote ↦ rw (quote, text_open text) refl
      | inr other ↦ rw (other, end_more x (doubled text) other, text_open text) refl
    ]

-- how many bytes the token at the front has, if one stands there
abbrev pub front_len : List ℕ → Option ℕ
front_len bytes =
    cond (begins_word bytes) (Some (prefix_len continues_name bytes)) (cond (begins_text bytes) (option_map (λ n. 1 + n) (text_end (drop 1 bytes))) (cond (begins_number bytes) (Some (number_len bytes)) (cond (begins_mark bytes) (Some 1) None)))

abbrev pub mark_kind : List ℕ → TokenKind
mark_kind [] = Star
mark_kind (b ∷ bytes) = cond (eqb b 40) Open (cond (eqb b 41) Close (cond (eqb b 44) Comma (cond (eqb b 61) Equals Star)))

-- and of which kind it is
abbrev pub kind_at : List ℕ → ℕ → TokenKind
kind_at bytes n = cond (begins_word bytes) Word (cond (begins_text bytes) Text (cond (begins_number bytes) (Number (signed_digits_value 10 (take n bytes))) (mark_kind bytes)))

pub record IsOne (bytes : List ℕ) (kind : TokenKind) (n : ℕ) : Type 0 where
  pub starts : begins_gap bytes ≡ false
  pub long : front_len bytes ≡ Some n
  pub is : kind ≡ kind_at bytes n

pub no_gap_at : (b : ℕ) (bytes : List ℕ) → is_space b ≡ false → eqb b 45 ≡ false → begins_gap (b ∷ bytes) ≡ false
no_gap_at b bytes no_space no_dash = rw (no_space, no_comment b bytes no_dash) refl

word_is : (token rest : List ℕ) → is_word token ≡ true → EndsRun continues_name rest → IsOne (token ++ rest) Word (length token)
word_is [] rest word stops = absurd cc
word_is (b ∷ token) rest word stops =
    let both = and_parts (begins_name b) (list_all continues_name token) word in
    let name : begins_name b ≡ true = both.0 in
    let goes : continues_name b ≡ true = grind (arith, nat_tests) in
    record {
      starts = no_gap_at b (token ++ rest) (grind (arith, nat_tests)) (grind (arith, nat_tests));
      long = rw (name, goes) (ap Some (omega (arith, prefix_is continues_name token rest both.1 stops)));
      is = rw name refl;
    }

text_is : (text rest : List ℕ) → EndsRun (λ byte. eqb byte 39) rest → IsOne (quoted text ++ rest) Text (length (quoted text))
text_is text rest stops = record {
  starts = no_gap_at 39 ((doubled text ++ 39 ∷ []) ++ rest) refl refl;
  long = rw (append_assoc (doubled text) (39 ∷ []) rest, text_closed text rest stops) (ap Some (omega arith));
  is = refl;
}

number_kind : (n : ℤ) (token rest : List ℕ) → begins_word (token ++ rest) ≡ false → begins_text (token ++ rest) ≡ false → begins_number (token ++ rest) ≡ true → signed_digits_value 10 token ≡ n
    → Number n ≡ kind_at (token ++ rest) (length token)
number_kind n token rest no_word no_text number value = rw (no_word, no_text, number, take_at token rest (length token) refl) (ap Number (sym value))

minus_is : (n : ℤ) (token rest : List ℕ) → is_digits token ≡ true → EndsRun is_ascii_digit rest → signed_digits_value 10 (45 ∷ token) ≡ n → IsOne (45 ∷ (token ++ rest)) (Number n) (length (45 ∷ token))
minus_is n [] rest digits stops value = absurd cc
minus_is n (b ∷ token) rest digits stops value =
    let both = digits_parts b token digits in
    let digit : is_ascii_digit b ≡ true = both.0 in
    let no_dash : eqb b 45 ≡ false = grind (arith, nat_tests) in
    record {
      starts = rw no_dash refl;
      long = rw digit (ap Some (omega (arith, prefix_is is_ascii_digit token rest both.1 stops)));
      is = number_kind n (45 ∷ b ∷ token) rest refl refl digit value;
    }

plain_is : (n : ℤ) (b : ℕ) (token rest : List ℕ) → is_digits (b ∷ token) ≡ true → EndsRun is_ascii_digit rest → signed_digits_value 10 (b ∷ token) ≡ n → IsOne (b ∷ (token ++ rest)) (Number n) (length (b ∷ token))
plain_is n b token rest digits stops value =
    let both = digits_parts b token digits in
    let digit : is_ascii_digit b ≡ true = both.0 in
    let no_dash : eqb b 45 ≡ false = grind (arith, nat_tests) in
    let no_word : begins_name b ≡ false = grind (arith, nat_tests) in
    let no_quote : eqb b 39 ≡ false = grind (arith, nat_tests) in
    record {
      starts = no_gap_at b (token ++ rest) (grind (arith, nat_tests)) no_dash;
      long = rw (no_word, no_quote, no_dash, digit) (ap Some (omega (arith, prefix_is is_ascii_digit token rest both.1 stops)));
      is = number_kind n (b ∷ token) rest no_word no_quote (rw no_dash digit) value;
    }

pub number_is : (n : ℤ) (token rest : List ℕ) → IsNumberBefore token rest → signed_digits_value 10 token ≡ n → IsOne (token ++ rest) (Number n) (length token)
number_is n [] rest h value = absurd (cc h.0)
number_is n (b ∷ token) rest h value =
    elim (number_cases b token h.0) [
      | inl minus ↦
          let F : ℕ → Type 0 = λ b. signed_digits_value 10 (b ∷ token) ≡ n → IsOne (b ∷ (token ++ rest)) (Number n) (length (b ∷ token)) in
          subst F (sym minus.0) (minus_is n token rest minus.1 h.1) value
      | inr plain ↦ plain_is n b token rest plain.1 h.1 value
    ]

pub token_is : (kind : TokenKind) (token rest : List ℕ) → IsToken token rest kind → IsOne (token ++ rest) kind (length token)
token_is Word token rest h = word_is token rest h.0 h.1
token_is (Number n) token rest h = number_is n token rest h.0 h.1
token_is Text token rest h = rw h.1 (text_is h.0 rest h.2)
token_is Open token rest h = rw h (record { starts = no_gap_at 40 rest refl refl; long = refl; is = refl })
token_is Close token rest h = rw h (record { starts = no_gap_at 41 rest refl refl; long = refl; is = refl })
token_is Comma token rest h = rw h (record { starts = no_gap_at 44 rest refl refl; long = refl; is = refl })
token_is Equals token rest h = rw h (record { starts = no_gap_at 61 rest refl refl; long = refl; is = refl })
token_is Star token rest h = rw h (record { starts = no_gap_at 42 rest refl refl; long = refl; is = refl })

pub token_some : (kind : TokenKind) (token rest : List ℕ) → IsToken token rest kind → 0 < length token
token_some Word [] rest h = absurd (cc h.0)
token_some (Number n) [] rest h = absurd (cc h.0.0)
token_some Text [] rest h = absurd (cc h.1)
token_some Open [] rest h = absurd (cc h)
token_some Close [] rest h = absurd (cc h)
token_some Comma [] rest h = absurd (cc h)
token_some Equals [] rest h = absurd (cc h)
token_some Star [] rest h = absurd (cc h)
token_some kind (b ∷ token) rest h = omega arith

-- two tokens at the front of the same bytes are one
pub token_agrees : (kind kind' : TokenKind) (token token' rest rest' : List ℕ) → IsToken token rest kind → IsToken token' rest' kind' → token ++ rest ≡ token' ++ rest' → (token ≡ token') × (rest ≡ rest') × (kind ≡ kind')
token_agrees kind kind' token token' rest rest' a b e =
    let one = token_is kind token rest a in
    let two = token_is kind' token' rest' b in
    let long : length token ≡ length token' = cc (one.long, two.long, ap front_len e) in (
      sym (take_at token rest (length token) refl) ∙ (λ i. take (long i) (e i)) ∙ take_at token' rest' (length token') refl,
      sym (drop_at token rest (length token) refl) ∙ (λ i. drop (long i) (e i)) ∙ drop_at token' rest' (length token') refl,
      one.is ∙ (λ i. kind_at (e i) (long i)) ∙ sym two.is,
    )
