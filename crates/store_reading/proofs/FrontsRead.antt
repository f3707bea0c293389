-- The headers of files, read as they are spelled.
use Rattle.std.proofs.Common.{◌≡◌, ◌≢◌, ℕ, zero, suc, ◌+◌, ◌^◌, ◌<◌, ◌≤◌, ◌⊎◌, Bool, true, false, cond, not, ◌||◌, List, [], ◌∷◌, ◌++◌, length, take, drop, Option, Some, None, Result, Ok, Err, IsTrue, inl, inr, refl, sym, ap, ◌∙◌, append_assoc, arith}
use Rattle.std.specs.Prelude.{nat_lt, ◌&&◌, ◌==◌}
use Rattle.std.specs.Str.{bytes_eq}
use Rattle.std.proofs.lemmas.Bool.{ltb-true, ltb-false, lt-ltb, le-ltb, cases_Bool}
use Rattle.std.proofs.lemmas.List.{take_at, drop_at, length-append, length-take}
use Rattle.std.proofs.lemmas.Slice.Eq.{bytes_eq-Decides}
use Rattle.cube_language.specs.declared.decl.Decl.{Decl}
use Rattle.cube_rounds.specs.Bytes.{four_bytes, eight_bytes}
use Rattle.cube_rounds.specs.Headers.{open_gate, magic, head_bytes, header_bytes, BeginsWithHeader}
use Rattle.cube_rounds.specs.Stands.{IsClosed}
use Rattle.round_fields.specs.declared.fault.FormatFault.{FormatFault}
use Rattle.round_fields.specs.Canonical.{TellsCubes}
use Rattle.round_fields.specs.Reading.{ReadOf, four_from}
use Rattle.round_fields.proofs.FieldLaws.{four_again, length-four}
use Rattle.round_text.specs.declared.header.Header.{Header}
use Rattle.round_text.specs.HeaderReading.{text_start, header_of, header_from}
use Rattle.round_text.proofs.HeaderLaws.{header_again, length-header}
use Rattle.store_reading.specs.declared.fault.PairFault.{PairFault}
use Rattle.store_reading.specs.declared.fault.PairFault.TheVariants.{Version}
use Rattle.store_reading.specs.Fronts.{is_closed, header_or_fault, header_of_version, opened_front, header_or_closed}

either_true : (a b : Bool) → (a || b) ≡ true → (a ≡ true) ⊎ (b ≡ true)
either_true true b e = inl refl
either_true false b e = inr e

both_false : (a b : Bool) → (a || b) ≡ false → (a ≡ false) × (b ≡ false)
both_false true b e = absurd cc
both_false false b e = (refl, e)

other_true : (b : Bool) → not b ≡ true → b ≡ false
other_true true e = absurd cc
other_true false e = refl

other_false : (b : Bool) → not b ≡ false → b ≡ true
other_false true e = refl
other_false false e = absurd cc

never_both : (b : Bool) → b ≡ false → b ≡ true → ⊥
never_both true e f = cc
never_both false e f = cc

-- The test tells what is closed.
pub closed_is : (file : List ℕ) → is_closed file ≡ true → IsClosed file
closed_is file e =
    elim (either_true (nat_lt (length file) 16) (not (bytes_eq (take 8 file) (open_gate ∷ magic))) e) [
      | inl short ↦ inl (ltb-true _ _ short)
      | inr other ↦ inr (λ same. never_both (bytes_eq (take 8 file) (open_gate ∷ magic)) (other_true _ other) ((bytes_eq-Decides (take 8 file) (open_gate ∷ magic)).1 same))
    ]

not_closed_by : (file : List ℕ) → is_closed file ≡ false → IsClosed file → ⊥
not_closed_by file e closed =
    let b = both_false (nat_lt (length file) 16) (not (bytes_eq (take 8 file) (open_gate ∷ magic))) e in
    let long : 16 ≤ length file = ltb-false _ _ b.0 in
    let same : take 8 file ≡ open_gate ∷ magic = (bytes_eq-Decides (take 8 file) (open_gate ∷ magic)).0 (other_false _ b.1) in
    elim closed [
      | inl short ↦ omega (arith, short, long)
      | inr other ↦ other same
    ]

pub is_closed_by : (file : List ℕ) → IsClosed file → is_closed file ≡ true
is_closed_by file closed =
    elim (cases_Bool (is_closed file)) [
      | inl yes-it-is ↦ yes-it-is
      | inr other ↦ absurd (not_closed_by file other closed)
    ]

pub open_is_long : (file : List ℕ) → is_closed file ≡ false → 16 ≤ length file
open_is_long file e = ltb-false _ _ (both_false (nat_lt (length file) 16) (not (bytes_eq (take 8 file) (open_gate ∷ magic))) e).0

-- ---- a header that stands in a file

-- What stands behind the first eight bytes of a header.
record IsFront (version : ℕ) (file : List ℕ) : Type 0 where
  rest : List ℕ
  known : (version ≡ 1) ⊎ (version ≡ 2)
  whole : file ≡ open_gate ∷ (magic ++ (four_bytes version ++ rest))

front_at : (digest : List ℕ → List ℕ) (generation : ℕ) (text file : List ℕ) → BeginsWithHeader digest generation text file → (version : ℕ) × IsFront version file
unfolding header_bytes
front_at digest zero text file begins =
    let behind = digest (head_bytes zero text) ++ begins.gate ∷ begins.rest in
    let tail = four_bytes (length text) ++ text in (
      1,
      record {
        rest = tail ++ behind;
        known = inl refl;
        whole = begins.whole ∙ ap (λ (b : List ℕ). open_gate ∷ b) (
            append_assoc (head_bytes zero text) (digest (head_bytes zero text)) (begins.gate ∷ begins.rest)
            ∙ append_assoc magic (four_bytes 1 ++ tail) behind
            ∙ ap (λ (b : List ℕ). magic ++ b) (append_assoc (four_bytes 1) tail behind));
      },
    )
front_at digest (suc n) text file begins =
    let head = head_bytes (suc n) text in
    let behind = digest head ++ begins.gate ∷ begins.rest in
    let tail = four_bytes (length text) ++ (eight_bytes (suc n) ++ text) in (
      2,
      record {
        rest = tail ++ behind;
        known = inr refl;
        whole = begins.whole ∙ ap (λ (b : List ℕ). open_gate ∷ b) (
            append_assoc head (digest head) (begins.gate ∷ begins.rest)
            ∙ append_assoc magic (four_bytes 2 ++ tail) behind
            ∙ ap (λ (b : List ℕ). magic ++ b) (append_assoc (four_bytes 2) tail behind));
      },
    )

front_long : (digest : List ℕ → List ℕ) → ((m : List ℕ) → length (digest m) ≡ 32) → (generation : ℕ) (text file : List ℕ) → BeginsWithHeader digest generation text file → 16 ≤ length file
front_long digest wide generation text file begins =
    omega (arith, ap length begins.whole, length-append (header_bytes digest generation text) (begins.gate ∷ begins.rest), length-header digest wide generation text, start_some generation)
  where
    start_some : (g : ℕ) → 16 ≤ text_start g
    start_some zero = omega arith
    start_some (suc n) = omega arith

header_is_open : (version : ℕ) (file : List ℕ) → 16 ≤ length file → IsFront version file → is_closed file ≡ false
header_is_open version file long front =
    let tail = four_bytes version ++ front.rest in
    let short : nat_lt (length file) 16 ≡ false = le-ltb _ _ long in
    let same : take 8 file ≡ open_gate ∷ magic = ap (take 8) front.whole ∙ take_at (open_gate ∷ magic) tail 8 refl in
    let right : bytes_eq (take 8 file) (open_gate ∷ magic) ≡ true = (bytes_eq-Decides (take 8 file) (open_gate ∷ magic)).1 same in
    (λ i. short i || not (right i))

version_read : (version : ℕ) (file : List ℕ) (front : IsFront version file) → version < 2 ^ 32 → four_from (drop 8 file) ≡ Ok (version, front.rest)
version_read version file front small =
    let tail = four_bytes version ++ front.rest in
    let rest : drop 8 file ≡ tail = ap (drop 8) front.whole ∙ drop_at (open_gate ∷ magic) tail 8 refl in
    ap four_from rest ∙ four_again version front.rest small

known_version : (version : ℕ) (rest : List ℕ) (header : Result Header FormatFault) → (version ≡ 1) ⊎ (version ≡ 2) → header_of_version (Ok (version, rest)) header ≡ header_or_fault header
known_version version rest header (inl one) = rw one refl
known_version version rest header (inr two) = rw two refl

pub front_again : (digest : List ℕ → List ℕ) → ((m : List ℕ) → length (digest m) ≡ 32) → (told : List ℕ → Option (List Decl)) → TellsCubes told
    → (generation : ℕ) (text file : List ℕ) → BeginsWithHeader digest generation text file
    → header_or_closed digest told file ≡ Ok (Some (header_of (text_start generation) generation text))
front_again digest wide told tells generation text file begins =
    let front = front_at digest generation text file begins in
    let opened = header_is_open front.0 file (front_long digest wide generation text file begins) front.1 in
    let small : front.0 < 2 ^ 32 = elim front.1.known [ inl one ↦ omega (arith, one) | inr two ↦ omega (arith, two) ] in
    let read = version_read front.0 file front.1 small in
    let header = header_again digest told tells wide file generation text begins in
    ap (λ b. cond b (Ok None) (opened_front digest told file)) opened
    ∙ ap (λ (r : ReadOf ℕ). header_of_version r (header_from digest told file)) read
    ∙ known_version front.0 front.1.rest (header_from digest told file) front.1.known
    ∙ ap header_or_fault header

pub front_closed : (digest : List ℕ → List ℕ) (told : List ℕ → Option (List Decl)) (file : List ℕ) → IsClosed file → header_or_closed digest told file ≡ Ok None
front_closed digest told file closed = ap (λ b. cond b (Ok None) (opened_front digest told file)) (is_closed_by file closed)

-- ---- what a front was

header_there : (r : Result Header FormatFault) → header_or_fault r ≡ Ok None → ⊥
header_there (Ok h) e = cc
header_there (Err f) e = cc

version_there : (r : ReadOf ℕ) (header : Result Header FormatFault) → header_of_version r header ≡ Ok None → ⊥
version_there (Err left) header e = cc
version_there (Ok version) header e = tested (not (version.0 == 1) && not (version.0 == 2)) e
  where
    tested : (b : Bool) → cond b (Err (Version version.0)) (header_or_fault header) ≡ Ok None → ⊥
    tested true e = cc
    tested false e = header_there header e

front_tested : (b : Bool) (r : Result (Option Header) PairFault) → (r ≡ Ok None → ⊥) → cond b (Ok None) r ≡ Ok None → b ≡ true
front_tested true r there e = refl
front_tested false r there e = absurd (there e)

-- A file without a header is closed.
pub none_is_closed : (digest : List ℕ → List ℕ) (told : List ℕ → Option (List Decl)) (file : List ℕ) → header_or_closed digest told file ≡ Ok None → IsClosed file
none_is_closed digest told file e =
    closed_is file (front_tested (is_closed file) (opened_front digest told file) (version_there (four_from (drop 8 file)) (header_from digest told file)) e)

header_was : (r : Result Header FormatFault) (h : Header) → header_or_fault r ≡ Ok (Some h) → r ≡ Ok h
header_was (Ok x) h e = cc
header_was (Err f) h e = absurd cc

version_was : (r : ReadOf ℕ) (header : Result Header FormatFault) (h : Header) → header_of_version r header ≡ Ok (Some h) → header ≡ Ok h
version_was (Err left) header h e = absurd cc
version_was (Ok version) header h e = tested (not (version.0 == 1) && not (version.0 == 2)) e
  where
    tested : (b : Bool) → cond b (Err (Version version.0)) (header_or_fault header) ≡ Ok (Some h) → header ≡ Ok h
    tested true e = absurd cc
    tested false e = header_was header h e

-- A header that was read was read from the file.
pub front_was : (digest : List ℕ → List ℕ) (told : List ℕ → Option (List Decl)) (file : List ℕ) (h : Header) → header_or_closed digest told file ≡ Ok (Some h) → header_from digest told file ≡ Ok h
front_was digest told file h e = tested (is_closed file) e
  where
    tested : (b : Bool) → cond b (Ok None) (opened_front digest told file) ≡ Ok (Some h) → header_from digest told file ≡ Ok h
    tested true e = absurd cc
    tested false e = version_was (four_from (drop 8 file)) (header_from digest told file) h e

-- A file that begins with a header is not closed.
pub begins_open : (digest : List ℕ → List ℕ) → ((m : List ℕ) → length (digest m) ≡ 32) → (generation : ℕ) (text file : List ℕ) → BeginsWithHeader digest generation text file → IsClosed file → ⊥
begins_open digest wide generation text file begins closed =
    not_closed_by file (header_is_open (front_at digest generation text file begins).0 file (front_long digest wide generation text file begins) (front_at digest generation text file begins).1) closed
