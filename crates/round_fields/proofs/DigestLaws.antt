-- Digests that stand behind what they are of, and tests that decide.
use Rattle.std.proofs.Common.{◌≡◌, ℕ, ◌+◌, ◌≤◌, Bool, true, false, cond, ◌&&◌, List, [], ◌∷◌, ◌++◌, length, take, drop, Result, Ok, Err, IsTrue, refl, sym, ap, ◌∙◌, arith}
use Rattle.std.specs.Str.{bytes_eq}
use Rattle.std.proofs.lemmas.List.{take-append-drop, length-drop}
use Rattle.std.proofs.lemmas.Slice.Eq.{bytes_eq-Decides}
use Rattle.round_fields.specs.declared.fault.FormatFault.{FormatFault}
use Rattle.round_fields.specs.declared.fault.FormatFault.TheVariants.{BadDigest}
use Rattle.round_fields.specs.Digests.{where_digest_is}

pub passes : {A F : Type 0} (b : Bool) (r : Result A F) (d : F) (y : A) → cond b r (Err d) ≡ Ok y → (b ≡ true) × (r ≡ Ok y)
passes true r d y e = (refl, e)
passes false r d y e = absurd cc

-- A digest that is right.
pub digest_was : {A : Type 0} (kept found : List ℕ) (read : Result A FormatFault) (y : A) → where_digest_is kept found read ≡ Ok y → (kept ≡ found) × (read ≡ Ok y)
digest_was kept found read y e =
    elim (bytes_eq kept found) as (λ b. bytes_eq kept found ≡ b → cond b read (Err (BadDigest kept found)) ≡ Ok y → (kept ≡ found) × (read ≡ Ok y)) [
      | true ↦ λ is r. ((bytes_eq-Decides kept found).0 is, r)
      | false ↦ λ is r. absurd cc
    ] refl e

pub both_true : (a b : Bool) → (a && b) ≡ true → (a ≡ true) × (b ≡ true)
both_true true b e = (refl, e)
both_true false b e = absurd cc

pub is_true : (b : Bool) → IsTrue b → b ≡ true
is_true b t = t

pub same_digest : {A : Type 0} (kept found : List ℕ) (read : Result A FormatFault) → kept ≡ found → where_digest_is kept found read ≡ read
same_digest kept found read e =
    let same : bytes_eq kept found ≡ true = is_true (bytes_eq kept found) ((bytes_eq-Decides kept found).1 e) in
    rw same refl

-- The bytes behind the text of a header: a digest and at least one byte more.
pub record IsTail (left text kept : List ℕ) : Type 0 where
  pub gate : ℕ
  pub rest : List ℕ
  pub whole : left ≡ text ++ (kept ++ gate ∷ rest)

pub some_left : (left : List ℕ) → 1 ≤ length left → (gate : ℕ) × (rest : List ℕ) × (left ≡ gate ∷ rest)
some_left [] some = absurd (omega arith)
some_left (gate ∷ rest) some = (gate, rest, refl)

pub tail_of : (size : ℕ) (left : List ℕ) → size + 33 ≤ length left → IsTail left (take size left) (take 32 (drop size left))
tail_of size left long =
    let behind = drop size left in
    let more : 1 ≤ length (drop 32 behind) = omega (arith, length-drop 32 (drop size left), length-drop size left) in
    let g = some_left (drop 32 behind) more in
    record {
      gate = g.0;
      rest = g.1;
      whole = sym (take-append-drop size left) ∙ ap (λ (b : List ℕ). take size left ++ b) (sym (take-append-drop 32 behind) ∙ ap (λ (b : List ℕ). take 32 behind ++ b) g.2);
    }
