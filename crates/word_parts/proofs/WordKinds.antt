-- A word is `--`, begins with two hyphens or with one, or is bare.
use Rattle.std.proofs.Common.{◌≡◌, ◌∙◌, ◌⊎◌, ◌++◌, ◌+◌, inl, inr, ℕ, suc, true, false, true≢false, List, [], ◌∷◌, length, take, drop, Option, Some, None, refl, sym, ap, arith}
use Rattle.std.specs.Prelude.{◌==◌, codes, slice_get}
use Rattle.std.specs.List.{after_first, before_first, position_or_len}
use Rattle.std.specs.Str.{IsUtf8, bytes_eq, chars}
use Rattle.std.proofs.lemmas.Bool.{cases_Bool, cases_eq}
use Rattle.std.proofs.lemmas.Slice.Eq.{bytes_eq-Decides}
use Rattle.std.proofs.lemmas.Str.{encodes-chars}
use Rattle.std.specs.Str.{encode_utf8_all}
use Rattle.std.proofs.lemmas.Option.{none-some}
use Rattle.std.specs.Char.{encode_utf8}
use Rattle.clap.specs.Lexer.{has_byte, long_of, short_of}
use Rattle.clap.specs.Walk.{Text, arg_by_long}
use Rattle.word_parts.specs.Parts.{OptionName, cubes, generate, is_bare, option_text, round_every, shards, store}
use Rattle.word_parts.proofs.Steps.{rules}

pub filled : {X : Type 0} (x : X) (xs : List X) → x ∷ xs ≡ [] → ⊥
filled {X = X} x xs is = omega (arith, ap (λ (l : List X). length l) is)

-- ---- the kinds

abbrev pub IsLong : Text → Type 0
IsLong word = (byte : ℕ) × (rest : Text) × (word ≡ 45 ∷ 45 ∷ byte ∷ rest)

pub record IsShort (word : Text) : Type 0 where
  pub byte : ℕ
  pub rest : Text
  pub is : word ≡ 45 ∷ byte ∷ rest
  pub not_long : long_of word ≡ None
  pub short : short_of word ≡ Some (byte ∷ rest)

pub kinds : (word : Text) → (word ≡ codes "--") ⊎ (IsLong word ⊎ (IsShort word ⊎ (is_bare word ≡ true)))
kinds [] = inr (inr (inr refl))
kinds (a ∷ []) = inr (inr (inr refl))
kinds (a ∷ b ∷ rest) = at_first (cases_eq a 45) (cases_eq b 45)
  where
    at_first : (a ≡ 45) ⊎ (a ≡ 45 → ⊥) → (b ≡ 45) ⊎ (b ≡ 45 → ⊥)
        → (a ∷ b ∷ rest ≡ codes "--")
        ⊎ (IsLong (a ∷ b ∷ rest) ⊎ (IsShort (a ∷ b ∷ rest) ⊎ (is_bare (a ∷ b ∷ rest) ≡ true)))
    at_first (inr other) second =
        let differs : (a == 45) ≡ false = search (arith, other) in
        inr (inr (inr (rw differs refl)))
    at_first (inl first) (inr other) =
        let same : (a == 45) ≡ true = rw first refl in
        let differs : (b == 45) ≡ false = search (arith, other) in
        inr (inr (inl (record {
          byte = b;
          rest = rest;
          is = ap (λ (x : ℕ). x ∷ b ∷ rest) first;
          not_long = rw (same, differs) refl;
          short = rw (same, differs) refl;
        })))
    at_first (inl first) (inl second) = at_rest rest
      where
        at_rest : (rest : Text) → (a ∷ b ∷ rest ≡ codes "--")
            ⊎ (IsLong (a ∷ b ∷ rest) ⊎ (IsShort (a ∷ b ∷ rest) ⊎ (is_bare (a ∷ b ∷ rest) ≡ true)))
        at_rest [] = inl (λ i. first i ∷ second i ∷ [])
        at_rest (c ∷ more) = inr (inl (c, more, λ i. first i ∷ second i ∷ c ∷ more))

-- ---- a long word

one_more : (n : ℕ) → 1 + n ≡ suc n
one_more n = omega arith

two_more : (n : ℕ) → 1 + n + 1 ≡ suc (n + 1)
two_more n = omega arith

before_more : (x : ℕ) (xs : Text) → (x == 61) ≡ false
    → before_first (λ y. y == 61) (x ∷ xs) ≡ x ∷ before_first (λ y. y == 61) xs
before_more x xs differs = rw differs (ap (λ k. take k (x ∷ xs)) (one_more (position_or_len (λ y. y == 61) xs)))

after_more : (x : ℕ) (xs : Text) → (x == 61) ≡ false
    → after_first (λ y. y == 61) (x ∷ xs) ≡ after_first (λ y. y == 61) xs
after_more x xs differs = rw differs (ap (λ k. drop k (x ∷ xs)) (two_more (position_or_len (λ y. y == 61) xs)))

-- what stands before and after the first `=`
halves : (text : Text) → (has_byte 61 text ≡ true) → text ≡ before_first (λ x. x == 61) text ++ 61 ∷ after_first (λ x. x == 61) text
halves [] has = absurd (true≢false (sym has))
halves (x ∷ xs) has = go (cases_eq x 61) has (halves xs)
  where
    go : (x ≡ 61) ⊎ (x ≡ 61 → ⊥) → has_byte 61 (x ∷ xs) ≡ true
        → (has_byte 61 xs ≡ true → xs ≡ before_first (λ y. y == 61) xs ++ 61 ∷ after_first (λ y. y == 61) xs)
        → x ∷ xs ≡ before_first (λ y. y == 61) (x ∷ xs) ++ 61 ∷ after_first (λ y. y == 61) (x ∷ xs)
    go (inl is) has later =
        let same : (x == 61) ≡ true = rw is refl in
        rw same (ap (λ (y : ℕ). y ∷ xs) is)
    go (inr other) has later =
        let differs : (x == 61) ≡ false = search (arith, other) in
        let rest : has_byte 61 (x ∷ xs) ≡ has_byte 61 xs = rw differs refl in
        ap (λ (l : Text). x ∷ l) (later (sym rest ∙ has))
        ∙ (λ i. sym (before_more x xs differs) i ++ 61 ∷ sym (after_more x xs differs) i)

whole : (text : Text) → (has_byte 61 text ≡ false) → before_first (λ x. x == 61) text ≡ text
whole [] lacks = refl
whole (x ∷ xs) lacks = go (cases_eq x 61) lacks (whole xs)
  where
    go : (x ≡ 61) ⊎ (x ≡ 61 → ⊥) → has_byte 61 (x ∷ xs) ≡ false
        → (has_byte 61 xs ≡ false → before_first (λ y. y == 61) xs ≡ xs)
        → before_first (λ y. y == 61) (x ∷ xs) ≡ x ∷ xs
    go (inl is) lacks later =
        let same : (x == 61) ≡ true = rw is refl in
        let there : has_byte 61 (x ∷ xs) ≡ true = rw same refl in
        absurd (true≢false (sym there ∙ lacks))
    go (inr other) lacks later =
        let differs : (x == 61) ≡ false = search (arith, other) in
        let rest : has_byte 61 (x ∷ xs) ≡ has_byte 61 xs = rw differs refl in
        before_more x xs differs ∙ ap (λ (l : Text). x ∷ l) (later (sym rest ∙ lacks))

abbrev bare_name : Text → Option (Text × Option Text)
bare_name text = Some (text, None)

-- A name, and where there is a `=` what stands behind it.
pub name_or_halves : (byte : ℕ) (rest : Text)
    → ((long_of (45 ∷ 45 ∷ byte ∷ rest) ≡ Some (byte ∷ rest, None))
    ⊎ ((name : Text) × (text : Text) × ((byte ∷ rest ≡ name ++ 61 ∷ text)
    × (long_of (45 ∷ 45 ∷ byte ∷ rest) ≡ Some (name, Some text)))))
name_or_halves byte rest = go (cases_Bool (has_byte 61 (byte ∷ rest)))
  where
    go : (has_byte 61 (byte ∷ rest) ≡ true) ⊎ (has_byte 61 (byte ∷ rest) ≡ false)
        → ((long_of (45 ∷ 45 ∷ byte ∷ rest) ≡ Some (byte ∷ rest, None))
        ⊎ ((name : Text) × (text : Text) × ((byte ∷ rest ≡ name ++ 61 ∷ text)
        × (long_of (45 ∷ 45 ∷ byte ∷ rest) ≡ Some (name, Some text)))))
    go (inl has) = inr (
      before_first (λ x. x == 61) (byte ∷ rest),
      after_first (λ x. x == 61) (byte ∷ rest),
      (halves (byte ∷ rest) has, rw has refl),
    )
    go (inr lacks) =
        let cut : long_of (45 ∷ 45 ∷ byte ∷ rest) ≡ Some (before_first (λ x. x == 61) (byte ∷ rest), None) = rw lacks refl in
        inl (cut ∙ ap bare_name (whole (byte ∷ rest) lacks))

-- ---- names

pub data Named : Type 0 where
  an_option : OptionName → Named
  the_flag : Named
  unknown : Named

abbrev pub IsNamed : Text → Named → Type 0
IsNamed name (an_option option) = name ≡ option_text option
IsNamed name the_flag = name ≡ codes "new"
IsNamed name unknown = arg_by_long rules name ≡ None

pub named : (name : Text) → (kind : Named) × IsNamed name kind
named name = at_cubes (cases_Bool (bytes_eq (codes "cubes") name))
  where
    is : (text : Text) → bytes_eq text name ≡ true → name ≡ text
    is text same = sym ((bytes_eq-Decides text name).0 same)

    at_generate : bytes_eq (codes "cubes") name ≡ false → bytes_eq (codes "store") name ≡ false
        → bytes_eq (codes "new") name ≡ false → bytes_eq (codes "shards") name ≡ false
        → bytes_eq (codes "round-every") name ≡ false
        → (bytes_eq (codes "generate") name ≡ true) ⊎ (bytes_eq (codes "generate") name ≡ false)
        → (kind : Named) × IsNamed name kind
    at_generate a b c d e (inl same) = (an_option generate, is (codes "generate") same)
    at_generate a b c d e (inr f) = (unknown, rw (a, b, c, d, e, f) refl)

    at_round : bytes_eq (codes "cubes") name ≡ false → bytes_eq (codes "store") name ≡ false
        → bytes_eq (codes "new") name ≡ false → bytes_eq (codes "shards") name ≡ false
        → (bytes_eq (codes "round-every") name ≡ true) ⊎ (bytes_eq (codes "round-every") name ≡ false)
        → (kind : Named) × IsNamed name kind
    at_round a b c d (inl same) = (an_option round_every, is (codes "round-every") same)
    at_round a b c d (inr e) = at_generate a b c d e (cases_Bool (bytes_eq (codes "generate") name))

    at_shards : bytes_eq (codes "cubes") name ≡ false → bytes_eq (codes "store") name ≡ false
        → bytes_eq (codes "new") name ≡ false
        → (bytes_eq (codes "shards") name ≡ true) ⊎ (bytes_eq (codes "shards") name ≡ false)
        → (kind : Named) × IsNamed name kind
    at_shards a b c (inl same) = (an_option shards, is (codes "shards") same)
    at_shards a b c (inr d) = at_round a b c d (cases_Bool (bytes_eq (codes "round-every") name))

    at_flag : bytes_eq (codes "cubes") name ≡ false → bytes_eq (codes "store") name ≡ false
        → (bytes_eq (codes "new") name ≡ true) ⊎ (bytes_eq (codes "new") name ≡ false)
        → (kind : Named) × IsNamed name kind
    at_flag a b (inl same) = (the_flag, is (codes "new") same)
    at_flag a b (inr c) = at_shards a b c (cases_Bool (bytes_eq (codes "shards") name))

    at_store : bytes_eq (codes "cubes") name ≡ false
        → (bytes_eq (codes "store") name ≡ true) ⊎ (bytes_eq (codes "store") name ≡ false)
        → (kind : Named) × IsNamed name kind
    at_store a (inl same) = (an_option store, is (codes "store") same)
    at_store a (inr b) = at_flag a b (cases_Bool (bytes_eq (codes "new") name))

    at_cubes : (bytes_eq (codes "cubes") name ≡ true) ⊎ (bytes_eq (codes "cubes") name ≡ false)
        → (kind : Named) × IsNamed name kind
    at_cubes (inl same) = (an_option cubes, is (codes "cubes") same)
    at_cubes (inr a) = at_store a (cases_Bool (bytes_eq (codes "store") name))

-- ---- a character behind one hyphen

pub some_char : (byte : ℕ) (rest : Text) → IsUtf8 (45 ∷ byte ∷ rest) → slice_get (chars (byte ∷ rest)) 0 ≡ None → ⊥
unfolding chars encode_utf8
some_char byte rest utf8 none = go (chars (byte ∷ rest)) refl none
  where
    go : (list : List ℕ) → chars (byte ∷ rest) ≡ list → slice_get list 0 ≡ None → ⊥
    go [] is none =
        let all = encodes-chars (45 ∷ byte ∷ rest) utf8 in
        let one : chars (45 ∷ byte ∷ rest) ≡ 45 ∷ [] = ap (λ (l : List ℕ). 45 ∷ l) is in
        let short = ap (λ (l : List ℕ). length l) (sym all ∙ ap (λ (l : List ℕ). encode_utf8_all l) one) in
        omega (arith, short)
    go (c ∷ cs) is none = absurd (none-some c (sym none))
