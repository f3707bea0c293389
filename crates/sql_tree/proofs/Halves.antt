-- Texts with one quote for each two.
use Rattle.std.proofs.Common.{◌≡◌, ◌≢◌, ℕ, suc, ◌<◌, false, cond, eqb, List, [], ◌∷◌, ◌++◌, length, get_or, Option, Some, None, refl, sym, ap, ◌∙◌, append_assoc, arith, inl, inr, Bor}
use Rattle.std.specs.Option.{MatchOption, unwrap_or}
use Rattle.std.specs.Str.{IsUtf8, IsCharBoundary}
use Rattle.std.proofs.lemmas.Str.{IsCharBoundary-after_ascii}
use Rattle.cube_language.specs.Quotes.{quoted}
use Rattle.std.proofs.lemmas.Bool.{cases_Bool, ne_eqb}
use Rattle.std.proofs.lemmas.List.{append-nil}
use Rattle.cube_language.specs.Symbols.{halved}

-- No byte is a quote.
abbrev pub HasNoQuote : List ℕ → Type 0
HasNoQuote bytes = (i : ℕ) → i < length bytes → get_or bytes i 0 ≢ 39

-- Bytes without a quote in front.
abbrev stripped : List ℕ → List ℕ
stripped [] = []
stripped (byte ∷ bytes) = cond (eqb byte 39) bytes (byte ∷ bytes)

pub plain_halved : (byte : ℕ) (bytes : List ℕ) → eqb byte 39 ≡ false → halved (byte ∷ bytes) ≡ byte ∷ halved bytes
plain_halved byte [] plain = refl
plain_halved byte (next ∷ bytes) plain = rw plain refl

quote_halved : (bytes : List ℕ) → halved (39 ∷ bytes) ≡ 39 ∷ halved (stripped bytes)
quote_halved [] = refl
quote_halved (byte ∷ bytes) =
    elim (cases_Bool (eqb byte 39)) [
      | inl same ↦ rw same refl
      | inr other ↦ rw other refl
    ]

front_halved : (front bytes : List ℕ) → HasNoQuote front → halved (front ++ bytes) ≡ front ++ halved bytes
front_halved [] bytes none = refl
front_halved (byte ∷ front) bytes none = plain_halved byte (front ++ bytes) (ne_eqb byte 39 (none 0 (omega arith))) ∙ ap (λ rest. byte ∷ rest) (front_halved front bytes (λ i less. none (suc i) (omega arith)))

pub none_halved : (bytes : List ℕ) → HasNoQuote bytes → halved bytes ≡ bytes
none_halved bytes none = ap halved (sym (append-nil bytes)) ∙ front_halved bytes [] none ∙ append-nil bytes

not_stripped : (bytes : List ℕ) → ((rest : List ℕ) → bytes ≢ 39 ∷ rest) → bytes ≡ stripped bytes
not_stripped [] none = refl
not_stripped (byte ∷ bytes) none = let other : eqb byte 39 ≡ false = ne_eqb byte 39 (λ same. none bytes (ap (λ b. b ∷ bytes) same)) in rw other refl

-- what a quote is stripped from
pub stripped_is : (r : Option (Bor (List ℕ))) (bytes left : Bor (List ℕ)) → MatchOption r ((rest : List ℕ) → bytes.now ≢ 39 ∷ rest) (λ x. bytes.now ≡ 39 ∷ x.now) → left ≡ unwrap_or r bytes → left.now ≡ stripped bytes.now
stripped_is None bytes left none e = ap (λ (x : Bor (List ℕ)). x.now) e ∙ not_stripped bytes.now none
stripped_is (Some x) bytes left some e = ap (λ (x : Bor (List ℕ)). x.now) e ∙ sym (ap stripped some)

-- one more quote of what is halved
pub halved_more : (text more whole left front behind next inner : List ℕ) → left ≡ front ++ 39 ∷ behind → HasNoQuote front → more ≡ text ++ front → whole ≡ more ++ 39 ∷ [] → next ≡ stripped behind → text ++ halved left ≡ inner → whole ++ halved next ≡ inner
halved_more text more whole left front behind next inner parts none e f g so_far =
    let step : halved left ≡ front ++ 39 ∷ halved next = ap halved parts ∙ front_halved front (39 ∷ behind) none ∙ ap (λ rest. front ++ rest) (quote_halved behind) ∙ ap (λ rest. front ++ 39 ∷ halved rest) (sym g) in
    let joined : whole ++ halved next ≡ text ++ (front ++ 39 ∷ halved next) = rw (f, e) (simp append_assoc) in
    joined ∙ ap (λ rest. text ++ rest) (sym step) ∙ so_far

-- behind the first quote a character begins
pub after_quote : (bytes inner : List ℕ) → IsUtf8 bytes → bytes ≡ quoted inner → IsCharBoundary bytes 1
after_quote bytes inner text e =
    let first : get_or bytes 0 0 ≡ 39 = ap (λ (bs : List ℕ). get_or bs 0 0) e in
    let long = ap length e in
    IsCharBoundary-after_ascii bytes 0 text (omega arith) (omega arith)
