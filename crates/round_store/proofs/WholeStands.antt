-- What the files of a store stand for while a whole round is written to the other file.
use Rattle.std.proofs.Common.{◌≡◌, ℕ, zero, suc, ◌+◌, ◌-◌, ◌^◌, ◌≤◌, ◌⊎◌, Bool, List, [], ◌∷◌, ◌++◌, length, take, drop, inl, refl, sym, ap, subst, ◌∙◌, append_assoc, arith}
use Rattle.std.proofs.lemmas.List.{take_at, length-append, append-nil}
use Rattle.cube_language.specs.declared.decl.Decl.{Decl}
use Rattle.cube_language.specs.Cubes.{cubes_text}
use Rattle.cube_language.specs.CubesText.{Declares}
use Rattle.cube_rounds.specs.declared.round.Round.{Round}
use Rattle.cube_rounds.specs.Bytes.{round_bytes}
use Rattle.cube_rounds.specs.Headers.{open_gate, shut_gate, header_bytes, FitsHeader}
use Rattle.cube_rounds.specs.Stands.{Kept, kept_of_cubes, kept_with, rounds_bytes, IsClosed, IsOlder, IsCurrent}
use Rattle.round_fields.proofs.Told.{length-sha256}
use Rattle.round_text.specs.HeaderReading.{text_start}
use Rattle.round_text.proofs.HeaderLaws.{length-header}
use Rattle.sha2.specs.Sha256.{sha256}
use Rattle.store_reading.specs.declared.pair.StorePlace.{StorePlace}
use Rattle.store_reading.specs.Pairs.{pair_content, StandsAt}
use Rattle.store_reading.proofs.PairsRead.{stands_begin}
use Rattle.round_store.specs.States.{whole_place, MayFollowKept}
use Rattle.round_store.specs.Wholes.{IsWholeFile, IsBegun}

-- A file that is behind another one is so for each later generation.
pub older_file : (kept : Kept) (place : StorePlace) (file other : List ℕ) → StandsAt sha256 (pair_content kept place) file other → IsOlder sha256 (place.generation + 1) file
older_file kept place file other s = record {
  own = place.generation;
  less = omega arith;
  text = cubes_text s.stands.cubes;
  header = stands_begin sha256 place.generation kept file s.stands;
}

-- The file stays current beside one that is closed.
pub beside_closed : (kept : Kept) (place : StorePlace) (file other : List ℕ) → StandsAt sha256 (pair_content kept place) file other → (c : List ℕ) → IsClosed c → IsCurrent sha256 kept file c
beside_closed kept place file other s c closed = record { generation = place.generation; stands = s.stands; most = s.most; behind = inl closed }

pub beside_same : (kept : Kept) (place : StorePlace) (file other : List ℕ) → StandsAt sha256 (pair_content kept place) file other → (c : List ℕ) → c ≡ other → IsCurrent sha256 kept file c
beside_same kept place file other s c same = record {
  generation = place.generation;
  stands = s.stands;
  most = s.most;
  behind = subst (λ (o : List ℕ). IsClosed o ⊎ IsOlder sha256 place.generation o) (sym same) s.behind;
}

pub whole_stands : (second : Bool) (generation : ℕ) (cubes : List Decl) (round : Round) (bytes other : List ℕ) → Declares (cubes_text cubes) cubes → FitsHeader generation (cubes_text cubes)
    → generation ≤ 2 ^ 61 → MayFollowKept (kept_of_cubes cubes) round → IsWholeFile generation cubes round bytes → (IsClosed other ⊎ IsOlder sha256 generation other)
    → StandsAt sha256 (pair_content (kept_with (kept_of_cubes cubes) round) (whole_place second generation bytes)) (open_gate ∷ bytes) other
whole_stands second generation cubes round bytes other declares fits most follows whole behind =
    let head = header_bytes sha256 generation (cubes_text cubes) in
    let text = round_bytes sha256 cubes round in
    let rounds = rounds_bytes sha256 cubes (round ∷ []) in
    let alone : rounds ≡ open_gate ∷ text = ap (λ (b : List ℕ). open_gate ∷ b) (append-nil text) in
    let tail : List ℕ = shut_gate ∷ [] in
    let parts : open_gate ∷ bytes ≡ (head ++ rounds) ++ tail =
    whole.are ∙ ap (λ (b : List ℕ). head ++ (b ++ tail)) (sym alone) ∙ sym (append_assoc head rounds tail) in
    record {
      stands = record {
        cubes = cubes;
        declares = declares;
        header = fits;
        rounds = round ∷ [];
        chain = (follows.from, follows.fits, tt);
        are = refl;
        gate = shut_gate;
        rest = [];
        shut = λ e. zero_apart e;
        whole = parts;
      };
      end = omega (arith, ap length parts, length-append (head ++ rounds) tail);
      most = most;
      behind = behind;
    }
  where
    zero_apart : shut_gate ≡ open_gate → ⊥
    zero_apart e = omega (arith, e)

-- The first byte of a header is an open gate.
pub header_cut : (generation : ℕ) (text : List ℕ) → header_bytes sha256 generation text ≡ open_gate ∷ drop 1 (header_bytes sha256 generation text)
unfolding header_bytes
header_cut generation text = refl

pub begun_bytes : (generation : ℕ) (text out : List ℕ) → out ≡ header_bytes sha256 generation text ++ shut_gate ∷ [] → IsBegun generation text (drop 1 out)
begun_bytes generation text out is =
    let head = header_bytes sha256 generation text in
    let cut = header_cut generation text in
    let whole : out ≡ open_gate ∷ (drop 1 head ++ shut_gate ∷ []) = is ∙ ap (λ (b : List ℕ). b ++ shut_gate ∷ []) cut in
    record { are = ap (λ (b : List ℕ). open_gate ∷ drop 1 b) whole ∙ sym whole ∙ is }

-- A header without its first gate and without the gate behind it.
header_middle : (generation : ℕ) (text out : List ℕ) → out ≡ header_bytes sha256 generation text ++ shut_gate ∷ [] → open_gate ∷ take (length out - 2) (drop 1 out) ≡ header_bytes sha256 generation text
header_middle generation text out is =
    let head = header_bytes sha256 generation text in
    let cut = header_cut generation text in
    let body = drop 1 head in
    let rest : drop 1 out ≡ body ++ shut_gate ∷ [] = ap (drop 1) (is ∙ ap (λ (b : List ℕ). b ++ shut_gate ∷ []) cut) in
    let long : length out - 2 ≡ length body = omega (arith, ap length is, length-append head (shut_gate ∷ []), ap length cut) in
    (λ i. open_gate ∷ take (long i) (rest i)) ∙ ap (λ (b : List ℕ). open_gate ∷ b) (take_at body (shut_gate ∷ []) (length body) refl) ∙ sym cut

pub header_long : (generation : ℕ) (text out : List ℕ) → out ≡ header_bytes sha256 generation text ++ shut_gate ∷ [] → 2 ≤ length out
header_long generation text out is =
    let head = header_bytes sha256 generation text in
    let start : 16 ≤ text_start generation = some_start generation in
    omega (arith, ap length is, length-append head (shut_gate ∷ []), length-header sha256 length-sha256 generation text, start)
  where
    some_start : (g : ℕ) → 16 ≤ text_start g
    some_start zero = omega arith
    some_start (suc n) = omega arith

-- The parts of a whole file, put one after the other.
pub whole_put : (generation : ℕ) (cubes : List Decl) (round : Round) (text out written middle b0 b1 b2 b3 : List ℕ) → out ≡ header_bytes sha256 generation text ++ shut_gate ∷ [] → text ≡ cubes_text cubes
    → written ≡ round_bytes sha256 cubes round ++ shut_gate ∷ [] → middle ≡ take (length out - 2) (drop 1 out) → b0 ≡ [] → b1 ≡ b0 ++ middle → b2 ≡ b1 ++ open_gate ∷ [] → b3 ≡ b2 ++ written
    → IsWholeFile generation cubes round b3
whole_put generation cubes round text out written middle b0 b1 b2 b3 is text-is round-is middle-is e0 e1 e2 e3 =
    let front : open_gate ∷ middle ≡ header_bytes sha256 generation (cubes_text cubes) =
    ap (λ (b : List ℕ). open_gate ∷ b) middle-is ∙ header_middle generation text out is ∙ ap (header_bytes sha256 generation) text-is in
    let first : b1 ≡ middle = e1 ∙ ap (λ (b : List ℕ). b ++ middle) e0 in
    let all : b3 ≡ middle ++ open_gate ∷ written = e3 ∙ ap (λ (b : List ℕ). b ++ written) (e2 ∙ ap (λ (b : List ℕ). b ++ open_gate ∷ []) first) ∙ append_assoc middle (open_gate ∷ []) written in
    record { are = ap (λ (b : List ℕ). open_gate ∷ b) all ∙ (λ i. front i ++ open_gate ∷ round-is i) }

-- A new store's file.
pub begun_stands : (second : Bool) (cubes : List Decl) (bytes other : List ℕ) → Declares (cubes_text cubes) cubes → FitsHeader 1 (cubes_text cubes) → IsBegun 1 (cubes_text cubes) bytes
    → (IsClosed other ⊎ IsOlder sha256 1 other) → StandsAt sha256 (pair_content (kept_of_cubes cubes) (whole_place second 1 bytes)) (open_gate ∷ bytes) other
begun_stands second cubes bytes other declares fits begun behind =
    let head = header_bytes sha256 1 (cubes_text cubes) in
    let none : List Round = [] in
    let tail : List ℕ = shut_gate ∷ [] in
    let parts : open_gate ∷ bytes ≡ (head ++ []) ++ tail = begun.are ∙ ap (λ (b : List ℕ). b ++ tail) (sym (append-nil head)) in
    record {
      stands = record {
        cubes = cubes;
        declares = declares;
        header = fits;
        rounds = none;
        chain = tt;
        are = refl;
        gate = shut_gate;
        rest = [];
        shut = λ e. zero_apart e;
        whole = parts;
      };
      end = omega (arith, ap length parts, length-append (head ++ []) tail);
      most = omega arith;
      behind = behind;
    }
  where
    zero_apart : shut_gate ≡ open_gate → ⊥
    zero_apart e = omega (arith, e)
