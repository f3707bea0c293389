-- The words of a line, cut from its front.
use Rattle.std.proofs.Common.{◌≡◌, ℕ, suc, ◌≤◌, ◌<◌, ◌+◌, ◌-◌, Bool, true, false, not, cond, ◌&&◌, List, [], ◌∷◌, length, take, drop, refl, sym, ap, subst, ◌∙◌, inl, inr, arith}
use Rattle.std.specs.Prelude.{nat_eq, filter, ◌==◌}
use Rattle.std.specs.Cmp.Lexicographic.{pointwise}
use Rattle.std.specs.List.{prefix_len, slice_split, onto_first}
use Rattle.std.proofs.lemmas.Bool.{cases_Bool}
use Rattle.std.proofs.lemmas.Bool.Decides.{nat_tests}
use Rattle.std.proofs.lemmas.List.Sums.{prefix_len-le-length}
use Rattle.cube_language.specs.CubesText.{without_return, words_of, parts_words}
use Rattle.cube_schema.specs.Reading.{is_in_word}

onto_both : (b : Bool) (x : ℕ) (xs ys : List ℕ) → x ∷ cond b xs ys ≡ cond b (x ∷ xs) (x ∷ ys)
onto_both true x xs ys = refl
onto_both false x xs ys = refl

last_alone : (b : Bool) (byte : ℕ) → cond b [] (byte ∷ []) ≡ cond (b && true) [] (byte ∷ [])
last_alone true byte = refl
last_alone false byte = refl

abbrev Strips : List ℕ → ℕ → Type 0
Strips line n = without_return line ≡ cond (pointwise nat_eq (drop n line) (13 ∷ [])) (take n line) line

stripped : (byte : ℕ) (line : List ℕ) → Strips (byte ∷ line) (length line)
stripped byte [] = last_alone (nat_eq byte 13) byte
stripped byte (next ∷ line) =
    let bytes : List ℕ = next ∷ line in
    ap (λ xs. byte ∷ xs) (stripped next line) ∙ onto_both (pointwise nat_eq (drop (length line) bytes) (13 ∷ [])) byte (take (length line) bytes) bytes

-- One CR at the end of a line is left out.
pub ends_in_return : (line : List ℕ) → Strips line (length line - 1)
ends_in_return [] = refl
ends_in_return (byte ∷ line) =
    let n : length line ≡ length (byte ∷ line) - 1 = omega arith in
    subst (Strips (byte ∷ line)) n (stripped byte line)

pub blanks_within : (bytes : List ℕ) → prefix_len parts_words bytes ≤ length bytes
blanks_within bytes = prefix_len-le-length parts_words bytes

pub word_within : (bytes : List ℕ) → prefix_len is_in_word bytes ≤ length bytes
word_within bytes = prefix_len-le-length is_in_word bytes

one_more : (n : ℕ) → 1 + n ≡ suc n
one_more n = omega arith

-- Blanks at the front part no words.
words-behind : (line : List ℕ) → words_of (drop (prefix_len parts_words line) line) ≡ words_of line
words-behind [] = refl
words-behind (byte ∷ line) = elim (cases_Bool (parts_words byte)) [
  | inl blank ↦ rw (blank, one_more (prefix_len parts_words line)) (words-behind line)
  | inr other ↦
      let none : prefix_len parts_words (byte ∷ line) ≡ 0 = rw other refl in
      ap (λ n. words_of (drop n (byte ∷ line))) none
]

-- Behind the blanks at the front no blank stands first.
no_blank : (line : List ℕ) → prefix_len parts_words (drop (prefix_len parts_words line) line) ≡ 0
no_blank [] = refl
no_blank (byte ∷ line) = elim (cases_Bool (parts_words byte)) [
  | inl blank ↦ rw (blank, one_more (prefix_len parts_words line)) (no_blank line)
  | inr other ↦
      let none : prefix_len parts_words (byte ∷ line) ≡ 0 = rw other refl in
      ap (λ n. prefix_len parts_words (drop n (byte ∷ line))) none ∙ none
]

abbrev parts : List ℕ → List (List ℕ)
parts line = slice_split parts_words line

-- The part at the front, and the parts behind it.
record Front (line : List ℕ) (n : ℕ) : Type 0 where
  pub behind : List (List ℕ)
  pub whole : parts line ≡ take n line ∷ behind
  pub rest : parts (drop n line) ≡ [] ∷ behind

front_of : (line : List ℕ) → Front line (prefix_len is_in_word line)
front_of [] = record { behind = []; whole = refl; rest = refl }
front_of (byte ∷ line) = elim (cases_Bool (parts_words byte)) [
  | inl blank ↦
      let none : 0 ≡ prefix_len is_in_word (byte ∷ line) = rw blank refl in
      subst (Front (byte ∷ line)) none (record { behind = parts line; whole = rw blank refl; rest = rw blank refl })
  | inr other ↦
      let front = front_of line in
      let more : suc (prefix_len is_in_word line) ≡ prefix_len is_in_word (byte ∷ line) = rw other (omega arith) in
      subst (Front (byte ∷ line)) more (record { behind = front.behind; whole = rw other (ap (onto_first byte) front.whole); rest = front.rest })
]

-- The words of a line, by what stands behind its blanks and its first word.
pub record Cut (line front word behind : List ℕ) : Type 0 where
  pub front_is : front ≡ drop (prefix_len parts_words line) line
  pub word_is : word ≡ take (prefix_len is_in_word front) front
  pub behind_is : behind ≡ drop (prefix_len is_in_word front) front

pub word_stays : (word : List ℕ) (behind : List (List ℕ)) → 0 < length word → filter (λ w. not (length w == 0)) (word ∷ behind) ≡ word ∷ filter (λ w. not (length w == 0)) behind
word_stays [] behind some = absurd (omega arith)
word_stays (byte ∷ word) behind some = let full : (suc (length word) == 0) ≡ false = grind (arith, nat_tests) in rw full refl

pub first_word : (line front word behind : List ℕ) → Cut line front word behind → 0 < length word → words_of line ≡ word ∷ words_of behind
first_word line front word behind cut some =
    let f = front_of front in
    let filled = filter (λ w. not (length w == 0)) in
    sym (words-behind line) ∙ ap words_of (sym cut.front_is)
    ∙ ap filled f.whole
    ∙ ap (λ w. filled (w ∷ f.behind)) (sym cut.word_is)
    ∙ word_stays word f.behind some
    ∙ ap (λ ws. word ∷ ws) (sym (ap words_of cut.behind_is ∙ ap filled f.rest))

nothing_left : (front : List ℕ) → prefix_len parts_words front ≡ 0 → length (take (prefix_len is_in_word front) front) ≡ 0 → words_of front ≡ []
nothing_left [] blanks none = refl
nothing_left (byte ∷ front) blanks none = elim (cases_Bool (parts_words byte)) [
  | inl blank ↦ let more = rw blank at blanks in absurd (omega arith)
  | inr other ↦ let more = rw (other, one_more (prefix_len is_in_word front)) at none in absurd (omega arith)
]

pub no_words : (line front word behind : List ℕ) → Cut line front word behind → length word ≡ 0 → words_of line ≡ []
no_words line front word behind cut none =
    let blanks : prefix_len parts_words front ≡ 0 = rw cut.front_is (no_blank line) in
    sym (words-behind line) ∙ ap words_of (sym cut.front_is) ∙ nothing_left front blanks (rw cut.word_is at none)
