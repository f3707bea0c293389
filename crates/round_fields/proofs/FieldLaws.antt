-- What reading takes is what is spelled there, and what is spelled is read again.
use Rattle.std.proofs.Common.{◌≡◌, ℕ, suc, ◌+◌, ◌^◌, ◌<◌, ◌≤◌, Bool, true, false, cond, ltb, List, ◌∷◌, ◌++◌, length, get_or, take, drop, Result, Ok, Err, refl, sym, ap, subst, ◌∙◌, append_assoc, arith, inl, inr}
use Rattle.std.specs.Int.{w32, w64, from_le_bytes, to_le_bytes}
use Rattle.std.proofs.lemmas.Bool.{cases_lt, ltb-false, le-ltb}
use Rattle.std.proofs.lemmas.List.{take_at, drop_at, take-append-drop, length-append, length-take, length-drop, get_or-drop, get_or-take, get_or_past}
use Rattle.std.proofs.lemmas.Nat.{le_bytes_4, le_bytes_8, from_le_bytes-to_le_bytes_4, from_le_bytes-to_le_bytes_8}
use Rattle.cube_rounds.specs.Bytes.{four_bytes, eight_bytes}
use Rattle.round_fields.specs.Reading.{◌>>=◌, ReadOf, four_from, eight_from}

abbrev pub IsBytes : List ℕ → Type 0
IsBytes bytes = (i : ℕ) → get_or bytes i 0 < 256

pub IsBytes-drop : (n : ℕ) (bytes : List ℕ) → IsBytes bytes → IsBytes (drop n bytes)
IsBytes-drop n bytes h i = rw get_or-drop (h (n + i))

pub IsBytes-take : (n : ℕ) (bytes : List ℕ) → IsBytes bytes → IsBytes (take n bytes)
IsBytes-take n bytes h i =
    elim (cases_lt i n) [
      | inl lt ↦ rw (get_or-take n bytes i 0 lt) (h i)
      | inr le ↦ rw (get_or_past (take n bytes) i 0 (omega (arith, length-take n bytes))) (omega arith)
    ]

pub IsBytes-rest : (b : ℕ) (bytes : List ℕ) → IsBytes (b ∷ bytes) → IsBytes bytes
IsBytes-rest b bytes h i = h (suc i)

-- The value of a reading that did not fail.
pub bind_ok : {A B F : Type 0} (r : Result A F) (f : A → Result B F) (y : B) → (r >>= f) ≡ Ok y → (x : A) × (r ≡ Ok x) × (f x ≡ Ok y)
bind_ok (Ok x) f y e = (x, refl, e)
bind_ok (Err d) f y e = absurd cc

-- A test that passed.
pub passed : {A F : Type 0} (b : Bool) (d : F) (x y : A) → cond b (Ok x) (Err d) ≡ Ok y → (b ≡ true) × (x ≡ y)
passed true d x y e = (refl, cc)
passed false d x y e = absurd cc

-- A test that did not fail.
pub not_failed : {A F : Type 0} (b : Bool) (d : F) (x y : A) → cond b (Err d) (Ok x) ≡ Ok y → (b ≡ false) × (x ≡ y)
not_failed true d x y e = absurd cc
not_failed false d x y e = (refl, cc)

abbrev right : {A F : Type 0} → A → Result A F
right x = Ok x

pub ok_is : {A : Type 0} (F : Type 0) (x y : A) → right {F = F} x ≡ right y → x ≡ y
ok_is F x y e = cc

-- What a reader took from the front.
pub record Takes (bytes text rest : List ℕ) : Type 0 where
  pub parts : bytes ≡ text ++ rest
  pub rest_fits : IsBytes rest

pub Takes-then : (a x b y c : List ℕ) → Takes a x b → Takes b y c → Takes a (x ++ y) c
Takes-then a x b y c p q = record { parts = p.parts ∙ ap (λ (t : List ℕ). x ++ t) q.parts ∙ sym (append_assoc x y c); rest_fits = q.rest_fits }

-- A reader reads the values that fit, by their spelling, and no others.
pub record Reads {A : Type 0} (spell : A → List ℕ) (Fits : A → Type 0) (read : List ℕ → ReadOf A) : Type 0 where
  pub takes : (bytes : List ℕ) (x : A) (rest : List ℕ) → IsBytes bytes → read bytes ≡ Ok (x, rest) → Takes bytes (spell x) rest × Fits x
  pub again : (x : A) (rest : List ℕ) → Fits x → length (spell x ++ rest) < 2 ^ 64 → read (spell x ++ rest) ≡ Ok (x, rest)

-- ---- numbers

pub length-four : (n : ℕ) → length (four_bytes n) ≡ 4
unfolding four_bytes
length-four n = refl

pub length-eight : (n : ℕ) → length (eight_bytes n) ≡ 8
unfolding eight_bytes
length-eight n = refl

four_read : (b rest : List ℕ) (n : ℕ) → length b ≡ 4 → from_le_bytes w32 b ≡ n → four_from (b ++ rest) ≡ Ok (n, rest)
unfolding four_from
four_read b rest n len is =
    let long : ltb (length (b ++ rest)) 4 ≡ false = le-ltb _ _ (omega (arith, length-append b rest)) in
    rw (long, take_at b rest 4 len, drop_at b rest 4 len, is) refl

eight_read : (b rest : List ℕ) (n : ℕ) → length b ≡ 8 → from_le_bytes w64 b ≡ n → eight_from (b ++ rest) ≡ Ok (n, rest)
unfolding eight_from
eight_read b rest n len is =
    let long : ltb (length (b ++ rest)) 8 ≡ false = le-ltb _ _ (omega (arith, length-append b rest)) in
    rw (long, take_at b rest 8 len, drop_at b rest 8 len, is) refl

pub four_again : (n : ℕ) (rest : List ℕ) → n < 2 ^ 32 → four_from (four_bytes n ++ rest) ≡ Ok (n, rest)
unfolding four_bytes
four_again n rest lt = four_read (to_le_bytes w32 n) rest n refl (from_le_bytes-to_le_bytes_4 n lt)

pub eight_again : (n : ℕ) (rest : List ℕ) → n < 2 ^ 64 → eight_from (eight_bytes n ++ rest) ≡ Ok (n, rest)
unfolding eight_bytes
eight_again n rest lt = eight_read (to_le_bytes w64 n) rest n refl (from_le_bytes-to_le_bytes_8 n lt)

-- How much is left behind a number.
pub four_left : (bytes : List ℕ) (n : ℕ) (rest : List ℕ) → four_from bytes ≡ Ok (n, rest) → length rest + 4 ≡ length bytes
unfolding four_from
four_left bytes n rest e =
    let g = not_failed (ltb (length bytes) 4) (length bytes) (from_le_bytes w32 (take 4 bytes), drop 4 bytes) (n, rest) e in
    let long : 4 ≤ length bytes = ltb-false _ _ g.0 in
    omega (arith, long, ap (λ (p : ℕ × List ℕ). length p.1) g.1, length-drop 4 bytes)

pub eight_left : (bytes : List ℕ) (n : ℕ) (rest : List ℕ) → eight_from bytes ≡ Ok (n, rest) → length rest + 8 ≡ length bytes
unfolding eight_from
eight_left bytes n rest e =
    let g = not_failed (ltb (length bytes) 8) (length bytes) (from_le_bytes w64 (take 8 bytes), drop 8 bytes) (n, rest) e in
    let long : 8 ≤ length bytes = ltb-false _ _ g.0 in
    omega (arith, long, ap (λ (p : ℕ × List ℕ). length p.1) g.1, length-drop 8 bytes)

pub reads_four : Reads four_bytes (λ n. n < 2 ^ 32) four_from
unfolding four_bytes four_from
reads_four = record {
  takes = λ bytes n rest fits e.
      let g = not_failed (ltb (length bytes) 4) (length bytes) (from_le_bytes w32 (take 4 bytes), drop 4 bytes) (n, rest) e in
      let long : 4 ≤ length bytes = ltb-false _ _ g.0 in
      let n-is : from_le_bytes w32 (take 4 bytes) ≡ n = ap (λ (p : ℕ × List ℕ). p.0) g.1 in
      let rest-is : drop 4 bytes ≡ rest = ap (λ (p : ℕ × List ℕ). p.1) g.1 in
      let front : to_le_bytes w32 n ≡ take 4 bytes = le_bytes_4 (take 4 bytes) n (omega (arith, length-take 4 bytes)) (IsBytes-take 4 bytes fits) (sym n-is) in
      let small = IsBytes-take 4 bytes fits in
      (record { parts = sym (take-append-drop 4 bytes) ∙ (λ i. sym front i ++ rest-is i); rest_fits = subst IsBytes rest-is (IsBytes-drop 4 bytes fits) }, subst (λ (k : ℕ). k < 2 ^ 32) n-is (omega (arith, small 0, small 1, small 2, small 3)));
  again = λ n rest lt short. four_again n rest lt;
}

pub reads_eight : Reads eight_bytes (λ n. n < 2 ^ 64) eight_from
unfolding eight_bytes eight_from
reads_eight = record {
  takes = λ bytes n rest fits e.
      let g = not_failed (ltb (length bytes) 8) (length bytes) (from_le_bytes w64 (take 8 bytes), drop 8 bytes) (n, rest) e in
      let long : 8 ≤ length bytes = ltb-false _ _ g.0 in
      let n-is : from_le_bytes w64 (take 8 bytes) ≡ n = ap (λ (p : ℕ × List ℕ). p.0) g.1 in
      let rest-is : drop 8 bytes ≡ rest = ap (λ (p : ℕ × List ℕ). p.1) g.1 in
      let front : to_le_bytes w64 n ≡ take 8 bytes = le_bytes_8 (take 8 bytes) n (omega (arith, length-take 8 bytes)) (IsBytes-take 8 bytes fits) (sym n-is) in
      let small = IsBytes-take 8 bytes fits in
      (record { parts = sym (take-append-drop 8 bytes) ∙ (λ i. sym front i ++ rest-is i); rest_fits = subst IsBytes rest-is (IsBytes-drop 8 bytes fits) }, subst (λ (k : ℕ). k < 2 ^ 64) n-is (omega (arith, small 0, small 1, small 2, small 3, small 4, small 5, small 6, small 7)));
  again = λ n rest lt short. eight_again n rest lt;
}
