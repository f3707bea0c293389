-- Bytes are UTF-8, or there is a first place where they are not.
use Rattle.std.proofs.Common.{◌≡◌, ℕ, zero, suc, ◌≤◌, ◌<◌, false, ◌⊎◌, List, length, take, inl, inr, IsUtf8, arith}
use Rattle.std.specs.Str.{IsValidUpTo, is_utf8}
use Rattle.std.proofs.lemmas.Bool.{cases_Bool, cases_lt}
use Rattle.std.proofs.lemmas.List.{take_all}
use Rattle.std.proofs.lemmas.Str.{IsUtf8-nil, IsUtf8-from_is_utf8, is_utf8-from_IsUtf8}

-- The longest front of at most m bytes that is UTF-8.
record IsLongest (text : List ℕ) (m n : ℕ) : Type 0 where
  pub within : n ≤ m
  pub front : IsUtf8 (take n text)
  pub longest : (k : ℕ) → n < k → k ≤ m → IsUtf8 (take k text) → ⊥

longest : (text : List ℕ) (m : ℕ) → (n : ℕ) × IsLongest text m n
longest text zero = (0, record { within = omega arith; front = IsUtf8-nil; longest = λ k above le utf8. absurd (omega arith) })
longest text (suc m) = elim (cases_Bool (is_utf8 (take (suc m) text))) [
  | inl utf8 ↦ (suc m, record { within = omega arith; front = IsUtf8-from_is_utf8 (take (suc m) text) utf8; longest = λ k above le more. absurd (omega arith) })
  | inr other ↦
      let shorter = longest text m in (
        shorter.0,
        record {
          within = omega (arith, shorter.1.within);
          front = shorter.1.front;
          longest = λ k above le more. elim (cases_lt m k) [
            | inl last ↦
                let same : k ≡ suc m = omega arith in
                let utf8 = is_utf8-from_IsUtf8 (take k text) more in
                absurd cc
            | inr before ↦ shorter.1.longest k above before more
          ];
        },
      )
]

whole_is_not : (text : List ℕ) (k : ℕ) → is_utf8 text ≡ false → length text ≤ k → IsUtf8 (take k text) → ⊥
whole_is_not text k other le utf8 =
    let whole = is_utf8-from_IsUtf8 text (rw (take_all k text le) at utf8) in
    absurd cc

valid_up_to : (text : List ℕ) (n : ℕ) → is_utf8 text ≡ false → IsLongest text (length text) n → IsValidUpTo text n
valid_up_to text n other front = elim (cases_lt n (length text)) [
  | inl short ↦
      record {
        short = short;
        front = front.front;
        longest = λ k above utf8. elim (cases_lt (length text) k) [ inl past ↦ whole_is_not text k other (omega arith) utf8 | inr within ↦ front.longest k above within utf8 ];
      }
  | inr past ↦ absurd (whole_is_not text n other past front.front)
]

pub utf8_or_not : (text : List ℕ) → IsUtf8 text ⊎ ((at : ℕ) × IsValidUpTo text at)
utf8_or_not text = elim (cases_Bool (is_utf8 text)) [
  | inl utf8 ↦ inl (IsUtf8-from_is_utf8 text utf8)
  | inr other ↦ let front = longest text (length text) in inr (front.0, valid_up_to text front.0 other front.1)
]
