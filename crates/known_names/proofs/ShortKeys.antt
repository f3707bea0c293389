-- A short text has its key alone.
use Rattle.std.proofs.Common.{◌≡◌, ℕ, ◌+◌, ◌-◌, ◌<◌, ◌≤◌, Bool, true, false, cond, nat_le, List, [], ◌∷◌, ◌++◌, length, get_or, take, drop, refl, sym, ap, subst, ◌∙◌, inl, inr, arith}
use Rattle.std.specs.Int.{Width, w8, w16, w32, w64, from_le_bytes, to_le_bytes}
use Rattle.std.proofs.lemmas.Bool.{cases_Bool, cases_lt, leb-true, leb-false}
use Rattle.std.proofs.lemmas.List.{drop-drop, take-append-drop, take_all, length-take, length-drop, get_or-drop, get_or-take, get_or_past}
use Rattle.std.proofs.lemmas.Nat.{le_bytes_2, le_bytes_4, le_bytes_8}
use Rattle.known_names.specs.ShortKeys.{IsShortText, first_number, key_by, short_key}
use Rattle.known_names.specs.declared.short_keys.ShortKey.{ShortKey}

IsBytes : List ℕ → Type 0
IsBytes bytes = (i : ℕ) → get_or bytes i 0 < 256

IsBytes-drop : (n : ℕ) (bytes : List ℕ) → IsBytes bytes → IsBytes (drop n bytes)
unfolding IsBytes
IsBytes-drop n bytes h i = rw get_or-drop (h (n + i))

IsBytes-take : (n : ℕ) (bytes : List ℕ) → IsBytes bytes → IsBytes (take n bytes)
unfolding IsBytes
IsBytes-take n bytes h i =
    elim (cases_lt i n) [
      | inl lt ↦ rw (get_or-take n bytes i 0 lt) (h i)
      | inr le ↦ rw (get_or_past (take n bytes) i 0 (omega (arith, length-take n bytes))) (omega arith)
    ]

-- A number of n bytes tells texts apart that differ in their first n bytes.
Tells : Width → ℕ → Type 0
Tells w n = (a b : List ℕ) → IsBytes a → IsBytes b → n ≤ length a → n ≤ length b
    → first_number w n a ≡ first_number w n b → take n a ≡ take n b

eights : Tells w64 8
unfolding Tells first_number IsBytes
eights a b fits fits_too long long_too same =
    sym (le_bytes_8 (take 8 a) (from_le_bytes w64 (take 8 a)) (omega (arith, length-take 8 a)) (IsBytes-take 8 a fits) refl)
    ∙ le_bytes_8 (take 8 b) (from_le_bytes w64 (take 8 a)) (omega (arith, length-take 8 b)) (IsBytes-take 8 b fits_too) same

fours : Tells w32 4
unfolding Tells first_number IsBytes
fours a b fits fits_too long long_too same =
    sym (le_bytes_4 (take 4 a) (from_le_bytes w32 (take 4 a)) (omega (arith, length-take 4 a)) (IsBytes-take 4 a fits) refl)
    ∙ le_bytes_4 (take 4 b) (from_le_bytes w32 (take 4 a)) (omega (arith, length-take 4 b)) (IsBytes-take 4 b fits_too) same

twos : Tells w16 2
unfolding Tells first_number IsBytes
twos a b fits fits_too long long_too same =
    sym (le_bytes_2 (take 2 a) (from_le_bytes w16 (take 2 a)) (omega (arith, length-take 2 a)) (IsBytes-take 2 a fits) refl)
    ∙ le_bytes_2 (take 2 b) (from_le_bytes w16 (take 2 a)) (omega (arith, length-take 2 b)) (IsBytes-take 2 b fits_too) same

ones : Tells w8 1
unfolding Tells first_number IsBytes
ones [] b fits fits_too long long_too same = absurd (omega (arith, long))
ones a [] fits fits_too long long_too same = absurd (omega (arith, long_too))
ones (x ∷ a) (y ∷ b) fits fits_too long long_too same = ap (λ (n : ℕ). n ∷ []) same

-- The last n bytes.
last : List ℕ → ℕ → List ℕ
last text n = drop (length text - n) text

last_whole : (text : List ℕ) (n : ℕ) → n ≤ length text → take n (last text n) ≡ last text n
unfolding last
last_whole text n long = take_all n (drop (length text - n) text) (omega (arith, length-drop (length text - n) text))

rest_of_last : (text : List ℕ) (n : ℕ) → n ≤ length text → length text ≤ n + n
    → drop (n - (length text - n)) (last text n) ≡ drop n text
unfolding last
rest_of_last text n long few =
    let sum : (length text - n) + (n - (length text - n)) ≡ n = omega arith in
    drop-drop (n - (length text - n)) (length text - n) text ∙ ap (λ (k : ℕ). drop k text) sum

-- The first n bytes and the last cover a text that has no more than twice as many.
covered : (a b : List ℕ) (n : ℕ) → length a ≡ length b → n ≤ length a → length a ≤ n + n → take n a ≡ take n b
    → last a n ≡ last b n → a ≡ b
covered a b n same long few first end =
    let rest : drop n a ≡ drop n b =
    sym (rest_of_last a n long few)
    ∙ ap (λ (k : ℕ). drop (n - (k - n)) (last a n)) same
    ∙ ap (λ (t : List ℕ). drop (n - (length b - n)) t) end
    ∙ rest_of_last b n (omega (arith, same, long)) (omega (arith, same, few)) in
    sym (take-append-drop n a) ∙ (λ i. first i ++ rest i) ∙ take-append-drop n b

-- So two texts with one key are one.
keyed : (w : Width) (n : ℕ) → Tells w n → (a b : List ℕ) → IsBytes a → IsBytes b → n ≤ length a → length a ≤ n + n
    → length a ≡ length b → key_by w n a ≡ key_by w n b → a ≡ b
unfolding Tells last
keyed w n tells a b fits fits_too long few same is =
    let long_too : n ≤ length b = omega (arith, same, long) in
    let first : take n a ≡ take n b = tells a b fits fits_too long long_too (ap (λ (key : ShortKey). key.head) is) in
    let end : take n (last a n) ≡ take n (last b n) =
    tells (last a n) (last b n) (IsBytes-drop (length a - n) a fits) (IsBytes-drop (length b - n) b fits_too)
    (omega (arith, long, length-drop (length a - n) a)) (omega (arith, long_too, length-drop (length b - n) b))
    (ap (λ (key : ShortKey). key.tail) is) in
    covered a b n same long few first (sym (last_whole a n long) ∙ end ∙ last_whole b n long_too)

-- The key of a text as one of so many bytes.
abbrev key_with : ℕ → List ℕ → ShortKey
key_with n text =
    cond (nat_le 8 n) (key_by w64 8 text)
    (cond (nat_le 4 n) (key_by w32 4 text) (cond (nat_le 2 n) (key_by w16 2 text) (key_by w8 1 text)))

len_with : (n : ℕ) (text : List ℕ) → (key_with n text).len ≡ length text
len_with n text =
    elim (cases_Bool (nat_le 8 n)) [
      | inl eight ↦ rw eight refl
      | inr less ↦ rw less (elim (cases_Bool (nat_le 4 n)) [
        | inl four ↦ rw four refl
        | inr few ↦ rw few (elim (cases_Bool (nat_le 2 n)) [ inl two ↦ rw two refl | inr one ↦ rw one refl ])
      ])
    ]

pub len_short : (text : List ℕ) → (short_key text).len ≡ length text
len_short text = len_with (length text) text

same_with : (n : ℕ) (a b : List ℕ) → IsShortText a → IsShortText b → length a ≡ n → length b ≡ n
    → key_with n a ≡ key_with n b → a ≡ b
unfolding IsBytes
same_with n a b short short_too len len_too is =
    let same : length a ≡ length b = len ∙ sym len_too in
    let some : 0 < n = omega (arith, short.some, len) in
    let few : n ≤ 16 = omega (arith, short.few, len) in
    elim (cases_Bool (nat_le 8 n)) [
      | inl eight ↦
          let long : 8 ≤ n = leb-true 8 n eight in
          keyed w64 8 eights a b short.bytes short_too.bytes (omega (arith, long, len)) (omega (arith, few, len)) same
          (rw eight at is)
      | inr less ↦ elim (cases_Bool (nat_le 4 n)) [
        | inl four ↦
            let long : 4 ≤ n = leb-true 4 n four in
            let below : n < 8 = leb-false 8 n less in
            keyed w32 4 fours a b short.bytes short_too.bytes (omega (arith, long, len)) (omega (arith, below, len)) same
            (rw (less, four) at is)
        | inr fewer ↦ elim (cases_Bool (nat_le 2 n)) [
          | inl two ↦
              let long : 2 ≤ n = leb-true 2 n two in
              let below : n < 4 = leb-false 4 n fewer in
              keyed w16 2 twos a b short.bytes short_too.bytes (omega (arith, long, len)) (omega (arith, below, len)) same
              (rw (less, fewer, two) at is)
          | inr one ↦
              let below : n < 2 = leb-false 2 n one in
              keyed w8 1 ones a b short.bytes short_too.bytes (omega (arith, some, len)) (omega (arith, below, len)) same
              (rw (less, fewer, one) at is)
        ]
      ]
    ]

pub short_same : (a b : List ℕ) → IsShortText a → IsShortText b → short_key a ≡ short_key b → a ≡ b
short_same a b short short_too is =
    let len : length a ≡ length b =
    sym (len_short a) ∙ ap (λ (key : ShortKey). key.len) is ∙ len_short b in
    same_with (length b) a b short short_too len refl
    (subst (λ (n : ℕ). key_with n a ≡ short_key b) len is)
