-- The round that follows what is kept: where its fault is, and what is known of it.
use Rattle.std.proofs.Common.{◌≡◌, ◌≢◌, ℕ, suc, ◌+◌, ◌-◌, ◌^◌, ◌<◌, ◌≤◌, Bool, true, false, cond, ◌&&◌, List, [], ◌∷◌, ◌++◌, length, take, drop, Option, Some, None, Result, Ok, Err, refl, sym, ap, ◌∙◌, append_assoc, arith}
use Rattle.std.specs.Prelude.{◌==◌, nat_lt, nat_le, IfOk, IfSome}
use Rattle.std.specs.Str.{bytes_eq}
use Rattle.std.proofs.lemmas.Bool.{leb-true, eqb-true, eq-eqb}
use Rattle.std.proofs.lemmas.List.{drop_at, length-append}
use Rattle.cube_values.specs.declared.call_error.CallError.{CallError}
use Rattle.cube_values.specs.declared.call_error.CallError.TheVariants as errors
use Rattle.cube_language.specs.declared.decl.Decl.{Decl}
use Rattle.cube_language.specs.CubesText.{Declares}
use Rattle.cube_rounds.specs.declared.round.Round.{Round}
use Rattle.cube_rounds.specs.Bytes.{eight_bytes, payload_bytes, body_bytes, round_bytes}
use Rattle.cube_rounds.specs.Demands.{DimNames, FitsRound, BeginsWithRound}
use Rattle.cube_rounds.specs.Headers.{open_gate}
use Rattle.cube_rounds.specs.Stands.{Kept}
use Rattle.round_fields.specs.declared.fault.FormatFault.{FormatFault}
use Rattle.round_fields.specs.declared.fault.FormatFault.TheVariants.{BadText, BadDigest}
use Rattle.round_fields.specs.Canonical.{TellsCubes}
use Rattle.round_fields.specs.Digests.{where_digest_is}
use Rattle.round_fields.specs.Reading.{GivesRead, ReadOf, eight_from}
use Rattle.round_fields.proofs.DigestLaws.{both_true}
use Rattle.round_fields.proofs.FieldLaws.{IsBytes, IsBytes-rest, ok_is, eight_again, length-eight}
use Rattle.round_reading.specs.Payload.{payload_from}
use Rattle.round_reading.specs.RoundReading.{front_from, is_right_front, round_of_content, round_behind, round_from}
use Rattle.round_reading.proofs.RoundLaws.{front_left, IsRound, found_by, round_again}
use Rattle.store_reading.specs.declared.fault.PairFault.{PairFault}
use Rattle.store_reading.specs.declared.fault.PairFault.TheVariants.{Damaged}
use Rattle.store_reading.specs.Places.{fault_place}
use Rattle.store_reading.specs.Rounds.{is_read, begins_at, round_or_fault, following_from, next_from, IsReadable, IsNextRound}

-- ---- the place of a fault

abbrev failed : {A F : Type 0} → F → Result A F
failed f = Err f

err_is : (A : Type 0) {F : Type 0} (x y : F) → failed {A = A} x ≡ failed y → x ≡ y
err_is A x y e = cc

place_zero : (fault : FormatFault) → BadText 0 ≡ fault → (n : ℕ) → fault_place fault ≤ n
place_zero fault e n = omega (arith, ap fault_place e)

size_of_right : (from epoch size left : ℕ) → (nat_lt from epoch && (nat_lt epoch (2 ^ 63) && nat_le (size + 33) left)) ≡ true → size + 33 ≤ left
size_of_right from epoch size left e =
    let a = both_true (nat_lt from epoch) (nat_lt epoch (2 ^ 63) && nat_le (size + 33) left) e in
    let b = both_true (nat_lt epoch (2 ^ 63)) (nat_le (size + 33) left) a.1 in
    leb-true _ _ b.1

place_of_right : (right : Bool) (r : Result (Round × ℕ) FormatFault) (fault : FormatFault) (n : ℕ) → (right ≡ true → r ≡ Err fault → fault_place fault ≤ n)
    → cond right r (Err (BadText 0)) ≡ Err fault → fault_place fault ≤ n
place_of_right true r fault n more e = more refl e
place_of_right false r fault n more e = place_zero fault (err_is (Round × ℕ) (BadText 0) fault e) n

place_of_digest : (same : Bool) (kept found : List ℕ) (r : Result (Round × ℕ) FormatFault) (fault : FormatFault) (n : ℕ) → (r ≡ Err fault → fault_place fault ≤ n)
    → cond same r (Err (BadDigest kept found)) ≡ Err fault → fault_place fault ≤ n
place_of_digest true kept found r fault n more e = more e
place_of_digest false kept found r fault n more e = omega (arith, ap fault_place (err_is (Round × ℕ) (BadDigest kept found) fault e))

pub place_within : (digest : List ℕ → List ℕ) (told : List ℕ → Option (List Decl)) (before : List Decl) (names : List DimNames) (bytes : List ℕ) (fault : FormatFault)
    → round_from digest told before names bytes ≡ Err fault → fault_place fault ≤ length bytes
unfolding round_from
place_within digest told before names bytes fault e =
    elim (front_from bytes) as (λ r. front_from bytes ≡ r → round_behind digest told before names bytes r ≡ Err fault → fault_place fault ≤ length bytes) [
      | Err left ↦ λ is f. place_zero fault (err_is (Round × ℕ) (BadText 0) fault f) (length bytes)
      | Ok x ↦ λ is f.
          let p = x.0 in
          let left = x.1 in
          let payload = payload_from told before names p.from p.epoch (take p.size left) in
          place_of_right (is_right_front p (length left)) _ fault (length bytes) (λ right inner.
          let fits : p.size + 24 ≤ length bytes = omega (arith, size_of_right p.from p.epoch p.size (length left) right, front_left bytes p left is) in
          place_of_digest (bytes_eq (take 32 (drop p.size left)) (digest (take (p.size + 24) bytes))) _ _ (round_of_content p payload) fault (length bytes)
          (elim payload as (λ c. round_of_content p c ≡ Err fault → fault_place fault ≤ length bytes) [
            | Ok content ↦ λ g. absurd cc
            | Err behind ↦ λ g. omega (arith, fits, ap fault_place (err_is (Round × ℕ) (BadText (p.size + 24 - behind)) fault g))
          ]) inner) f
    ] refl e

-- ---- a round that is there

from_at : (digest : List ℕ → List ℕ) (before : List Decl) (names : List DimNames) (round : Round) (bytes : List ℕ) → BeginsWithRound digest before names round bytes
    → (tail : List ℕ) × (eight_from (drop 8 bytes) ≡ Ok (round.from, tail))
unfolding round_bytes
from_at digest before names round bytes begins =
    let payload = payload_bytes before round in
    let sized = eight_bytes (length payload) ++ payload in
    let behind = digest (body_bytes before round) ++ begins.gate ∷ begins.rest in
    let tail = sized ++ behind in
    let parts : bytes ≡ eight_bytes round.epoch ++ (eight_bytes round.from ++ tail) =
    begins.whole
    ∙ append_assoc (body_bytes before round) (digest (body_bytes before round)) (begins.gate ∷ begins.rest)
    ∙ append_assoc (eight_bytes round.epoch) (eight_bytes round.from ++ sized) behind
    ∙ ap (λ (b : List ℕ). eight_bytes round.epoch ++ b) (append_assoc (eight_bytes round.from) sized behind) in
    let rest : drop 8 bytes ≡ eight_bytes round.from ++ tail = ap (drop 8) parts ∙ drop_at (eight_bytes round.epoch) (eight_bytes round.from ++ tail) 8 (length-eight round.epoch) in
    (tail, ap eight_from rest ∙ eight_again round.from tail (omega (arith, begins.fits.epochs, begins.fits.small)))

from_says : (digest : List ℕ → List ℕ) (before : List Decl) (names : List DimNames) (round : Round) (bytes : List ℕ) (epoch : ℕ) → BeginsWithRound digest before names round bytes
    → begins_at epoch bytes ≡ true → round.from ≡ epoch
from_says digest before names round bytes epoch begins says =
    let at = from_at digest before names round bytes begins in
    eqb-true round.from epoch (sym (ap (is_read epoch) at.1) ∙ says)

says_from : (digest : List ℕ → List ℕ) (before : List Decl) (names : List DimNames) (round : Round) (bytes : List ℕ) (epoch : ℕ) → BeginsWithRound digest before names round bytes
    → round.from ≡ epoch → begins_at epoch bytes ≡ true
says_from digest before names round bytes epoch begins same =
    let at = from_at digest before names round bytes begins in
    ap (is_read epoch) at.1 ∙ eq-eqb round.from epoch same

round_was : (number start : ℕ) (r : Result (Round × ℕ) FormatFault) (x : Round × ℕ) → round_or_fault number start r ≡ Ok (Some x) → r ≡ Ok x
round_was number start (Ok y) x e = cc
round_was number start (Err f) x e = absurd cc

following_was : (says : Bool) (start : ℕ) (r : Result (Option (Round × ℕ)) PairFault) (x : Round × ℕ) → cond says r (Err (Damaged start)) ≡ Ok (Some x) → (says ≡ true) × (r ≡ Ok (Some x))
following_was true start r x e = (refl, e)
following_was false start r x e = absurd cc

next_is : (digest : List ℕ → List ℕ) (kept : Kept) (bytes : List ℕ) (x : Round × ℕ) → IsRound digest kept.cubes kept.names bytes x → begins_at kept.epoch bytes ≡ true
    → IsNextRound digest kept (open_gate ∷ bytes) x
next_is digest kept bytes x round says =
    let begins = round.begins in
    let text = round_bytes digest kept.cubes x.0 in
    let behind = begins.gate ∷ begins.rest in
    let n : x.1 ≡ suc (length text) = omega (arith, round.size) in
    let left : drop x.1 (open_gate ∷ bytes) ≡ behind =
    ap (λ (k : ℕ). drop k (open_gate ∷ bytes)) n ∙ ap (drop (length text)) begins.whole ∙ drop_at text behind (length text) refl in
    record {
      fits = begins.fits;
      from = from_says digest kept.cubes kept.names x.0 bytes kept.epoch begins says;
      size = round.size;
      within = omega (arith, n, ap length begins.whole, length-append text behind);
      whole = ap (λ (b : List ℕ). open_gate ∷ b) (begins.whole ∙ ap (λ (b : List ℕ). text ++ b) (sym left));
    }

pub next_takes : (digest : List ℕ → List ℕ) → ((m : List ℕ) → length (digest m) ≡ 32) → (told : List ℕ → Option (List Decl)) → TellsCubes told → (size : ℕ) (kept : Kept) → IsReadable kept
    → (bytes : List ℕ) → IsBytes bytes → (x : Round × ℕ) → next_from digest told size kept bytes ≡ Ok (Some x) → IsNextRound digest kept bytes x
unfolding next_from
next_takes digest wide told tells size kept readable [] fits x e = absurd cc
next_takes digest wide told tells size kept readable (gate ∷ bytes) fits x e =
    elim (gate == open_gate) as (λ b. (gate == open_gate) ≡ b → cond b (following_from digest told kept (size - length bytes) bytes) (Ok None) ≡ Ok (Some x) → IsNextRound digest kept (gate ∷ bytes) x) [
      | true ↦ λ is r.
          let f = following_was (begins_at kept.epoch bytes) (size - length bytes) (round_or_fault (length kept.rounds + 1) (size - length bytes) (round_from digest told kept.cubes kept.names bytes)) x r in
          let was = round_was (length kept.rounds + 1) (size - length bytes) (round_from digest told kept.cubes kept.names bytes) x f.1 in
          let round = found_by digest wide told tells kept.cubes kept.names readable.storable readable.dims bytes (IsBytes-rest gate bytes fits) (Ok x) was in
          rw (eqb-true gate open_gate is) (next_is digest kept bytes x round f.0)
      | false ↦ λ is r. absurd cc
    ] refl e

-- A gate that ends the rounds.
pub record IsShut (bytes : List ℕ) : Type 0 where
  pub gate : ℕ
  pub rest : List ℕ
  pub whole : bytes ≡ gate ∷ rest
  pub shut : gate ≢ open_gate

round_there : (number start : ℕ) (r : Result (Round × ℕ) FormatFault) → round_or_fault number start r ≡ Ok None → ⊥
round_there number start (Ok y) e = cc
round_there number start (Err f) e = cc

following_there : (says : Bool) (start : ℕ) (r : Result (Option (Round × ℕ)) PairFault) → (r ≡ Ok None → ⊥) → cond says r (Err (Damaged start)) ≡ Ok None → ⊥
following_there true start r there e = there e
following_there false start r there e = cc

pub next_ends : (digest : List ℕ → List ℕ) (told : List ℕ → Option (List Decl)) (size : ℕ) (kept : Kept) (bytes : List ℕ) → 1 ≤ length bytes
    → next_from digest told size kept bytes ≡ Ok None → IsShut bytes
unfolding next_from
next_ends digest told size kept [] some e = absurd (omega arith)
next_ends digest told size kept (gate ∷ bytes) some e =
    elim (gate == open_gate) as (λ b. (gate == open_gate) ≡ b → cond b (following_from digest told kept (size - length bytes) bytes) (Ok None) ≡ Ok None → IsShut (gate ∷ bytes)) [
      | true ↦ λ is r. absurd (following_there (begins_at kept.epoch bytes) (size - length bytes) (round_or_fault (length kept.rounds + 1) (size - length bytes) (round_from digest told kept.cubes kept.names bytes))
          (round_there (length kept.rounds + 1) (size - length bytes) (round_from digest told kept.cubes kept.names bytes)) r)
      | false ↦ λ is r. record { gate = gate; rest = bytes; whole = refl; shut = λ same. not_both (gate == open_gate) is (eq-eqb gate open_gate same) }
    ] refl e
  where
    not_both : (b : Bool) → b ≡ false → b ≡ true → ⊥
    not_both true e f = cc
    not_both false e f = cc

-- ---- reading again

pub next_shut : (digest : List ℕ → List ℕ) (told : List ℕ → Option (List Decl)) (size : ℕ) (kept : Kept) (gate : ℕ) (rest : List ℕ) → gate ≢ open_gate
    → next_from digest told size kept (gate ∷ rest) ≡ Ok None
unfolding next_from
next_shut digest told size kept gate rest shut =
    elim (gate == open_gate) as (λ b. (gate == open_gate) ≡ b → cond b (following_from digest told kept (size - length rest) rest) (Ok None) ≡ Ok None) [
      | true ↦ λ is. absurd (shut (eqb-true gate open_gate is))
      | false ↦ λ is. refl
    ] refl

pub next_again : (digest : List ℕ → List ℕ) → ((m : List ℕ) → length (digest m) ≡ 32) → (told : List ℕ → Option (List Decl)) → TellsCubes told
    → ((text : List ℕ) (a b : List Decl) → Declares text a → Declares text b → a ≡ b) → (size : ℕ) (kept : Kept) → IsReadable kept → (round : Round) (gate : ℕ) (rest : List ℕ)
    → FitsRound kept.cubes kept.names round → round.from ≡ kept.epoch → length (round_bytes digest kept.cubes round ++ gate ∷ rest) < 2 ^ 64
    → next_from digest told size kept (open_gate ∷ (round_bytes digest kept.cubes round ++ gate ∷ rest)) ≡ Ok (Some (round, length (payload_bytes kept.cubes round) + 57))
unfolding next_from
next_again digest wide told tells one_list size kept readable round gate rest fits from short =
    let bytes = round_bytes digest kept.cubes round ++ gate ∷ rest in
    let begins : BeginsWithRound digest kept.cubes kept.names round bytes = record { fits = fits; gate = gate; rest = rest; whole = refl } in
    let read = round_again digest wide told tells one_list kept.cubes kept.names readable.storable bytes round short begins in
    let says = says_from digest kept.cubes kept.names round bytes kept.epoch begins from in
    let start = size - length bytes in
    let number = length kept.rounds + 1 in
    ap (λ b. cond b (round_or_fault number start (round_from digest told kept.cubes kept.names bytes)) (Err (Damaged start))) says
    ∙ ap (round_or_fault number start) read

-- ---- what a call answers

pub next_found : (digest : List ℕ → List ℕ) → ((m : List ℕ) → length (digest m) ≡ 32) → (told : List ℕ → Option (List Decl)) → TellsCubes told → (size : ℕ) (kept : Kept) → IsReadable kept
    → (bytes : List ℕ) → IsBytes bytes → (r : Result (Option (Round × ℕ)) (CallError PairFault)) → GivesRead (λ x. x) r (next_from digest told size kept bytes)
    → IfOk r (λ o. IfSome o (IsNextRound digest kept bytes))
next_found digest wide told tells size kept readable bytes fits (Ok (Some x)) given = next_takes digest wide told tells size kept readable bytes fits x given
next_found digest wide told tells size kept readable bytes fits (Ok None) given = tt
next_found digest wide told tells size kept readable bytes fits (Err e) given = tt
