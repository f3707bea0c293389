-- What the files of a store stand for while a round is written.
use Rattle.std.proofs.Common.{◌≡◌, ℕ, List, [], ◌∷◌, ◌++◌, length, inl, inr, sym, ap, subst, ◌∙◌, append_assoc, arith}
use Rattle.std.proofs.lemmas.List.{length-append}
use Rattle.cube_language.specs.Cubes.{cubes_text}
use Rattle.cube_rounds.specs.declared.round.Round.{Round}
use Rattle.cube_rounds.specs.Bytes.{round_bytes}
use Rattle.cube_rounds.specs.Demands.{FitsRound}
use Rattle.cube_rounds.specs.Headers.{open_gate, shut_gate, header_bytes}
use Rattle.cube_rounds.specs.Stands.{Kept, kept_of_cubes, kept_with, kept_with_all, rounds_bytes, file_bytes, FileStands, IsCurrent}
use Rattle.cube_rounds.proofs.OneMore.{kept_more, follow_more, bytes_more}
use Rattle.sha2.specs.Sha256.{sha256}
use Rattle.store_reading.specs.declared.pair.StorePlace.{StorePlace}
use Rattle.store_reading.specs.Pairs.{pair_content, StandsAt}
use Rattle.gate_writes.specs.Gates.{EndsShut, EndsOpen, Appending}
use Rattle.round_store.specs.States.{place_behind, MayFollowKept, IsEither}

-- What stands before the gate at which a file ends.
abbrev pub front_of : (kept : Kept) (place : StorePlace) (file other : List ℕ) → StandsAt sha256 (pair_content kept place) file other → List ℕ
front_of kept place file other s = file_bytes sha256 place.generation s.stands.cubes s.stands.rounds

pub ends_shut : (kept : Kept) (place : StorePlace) (file other : List ℕ) (s : StandsAt sha256 (pair_content kept place) file other) → EndsShut (front_of kept place file other s) file
ends_shut kept place file other s = record { gate = s.stands.gate; rest = s.stands.rest; shut = s.stands.shut; whole = s.stands.whole }

-- A file with a gate that is shut behind the same front stands for the same.
still_stands : (generation : ℕ) (kept : Kept) (file c : List ℕ) (s : FileStands sha256 generation kept file) → EndsShut (file_bytes sha256 generation s.cubes s.rounds) c → FileStands sha256 generation kept c
still_stands generation kept file c s shut = record {
  cubes = s.cubes;
  declares = s.declares;
  header = s.header;
  rounds = s.rounds;
  chain = s.chain;
  are = s.are;
  gate = shut.gate;
  rest = shut.rest;
  shut = shut.shut;
  whole = shut.whole;
}

pub still_current : (kept : Kept) (place : StorePlace) (file other : List ℕ) (s : StandsAt sha256 (pair_content kept place) file other) (c : List ℕ)
    → EndsShut (front_of kept place file other s) c → IsCurrent sha256 kept c other
still_current kept place file other s c shut = record {
  generation = place.generation;
  stands = still_stands place.generation kept file c s.stands shut;
  most = s.most;
  behind = s.behind;
}

pub current_with : (kept : Kept) (place : StorePlace) (file other : List ℕ) (s : StandsAt sha256 (pair_content kept place) file other) (round : Round) → MayFollowKept kept round → (bytes c : List ℕ)
    → bytes ≡ round_bytes sha256 kept.cubes round ++ shut_gate ∷ [] → EndsOpen (front_of kept place file other s) bytes c
    → StandsAt sha256 (pair_content (kept_with kept round) (place_behind place (length bytes))) c other
current_with kept place file other s round follows bytes c bytes-are opened =
    let stands = s.stands in
    let begun = kept_of_cubes stands.cubes in
    let same : kept ≡ kept_with_all begun stands.rounds = stands.are in
    let head = header_bytes sha256 place.generation (cubes_text stands.cubes) in
    let text = round_bytes sha256 kept.cubes round in
    let before = rounds_bytes sha256 stands.cubes stands.rounds in
    let after = rounds_bytes sha256 stands.cubes (stands.rounds ++ round ∷ []) in
    let more : after ≡ before ++ (open_gate ∷ text) =
    bytes_more sha256 begun stands.rounds round
    ∙ ap (λ (k : Kept). before ++ open_gate ∷ round_bytes sha256 k.cubes round) (sym same) in
    let tail = shut_gate ∷ opened.rest in
    let parts : bytes ++ opened.rest ≡ text ++ tail = ap (λ (b : List ℕ). b ++ opened.rest) bytes-are ∙ append_assoc text (shut_gate ∷ []) opened.rest in
    let whole : c ≡ (head ++ after) ++ tail =
    opened.whole
    ∙ append_assoc head before (open_gate ∷ (bytes ++ opened.rest))
    ∙ ap (λ (b : List ℕ). head ++ (before ++ open_gate ∷ b)) parts
    ∙ ap (λ (b : List ℕ). head ++ b) (sym (append_assoc before (open_gate ∷ text) tail) ∙ ap (λ (b : List ℕ). b ++ tail) (sym more))
    ∙ sym (append_assoc head after tail) in
    record {
      stands = record {
        cubes = stands.cubes;
        declares = stands.declares;
        header = stands.header;
        rounds = stands.rounds ++ round ∷ [];
        chain = follow_more begun stands.rounds round stands.chain (follows.from ∙ ap (λ (k : Kept). k.epoch) same)
            (subst (λ (k : Kept). FitsRound k.cubes k.names round) same follows.fits);
        are = ap (λ (k : Kept). kept_with k round) same ∙ sym (kept_more begun stands.rounds round);
        gate = shut_gate;
        rest = opened.rest;
        shut = λ e. zero_apart e;
        whole = whole;
      };
      end = omega (arith, s.end, length-append head before, length-append head after, ap length more, length-append before (open_gate ∷ text), ap length bytes-are, length-append text (shut_gate ∷ []));
      most = s.most;
      behind = s.behind;
    }
  where
    zero_apart : shut_gate ≡ open_gate → ⊥
    zero_apart e = omega (arith, e)

pub is_current : (kept : Kept) (place : StorePlace) (file other : List ℕ) → StandsAt sha256 (pair_content kept place) file other → IsCurrent sha256 kept file other
is_current kept place file other s = record { generation = place.generation; stands = s.stands; most = s.most; behind = s.behind }

-- While a round is put behind the others, the file stands for what was kept or for what is to be kept.
pub appending_stands : (kept : Kept) (place : StorePlace) (file other : List ℕ) (s : StandsAt sha256 (pair_content kept place) file other) (round : Round) → MayFollowKept kept round → (bytes : List ℕ)
    → bytes ≡ round_bytes sha256 kept.cubes round ++ shut_gate ∷ [] → (c : List ℕ) → Appending (front_of kept place file other s) bytes c → IsEither kept (kept_with kept round) other c
appending_stands kept place file other s round follows bytes bytes-are c (inl shut) = inl (still_current kept place file other s c shut)
appending_stands kept place file other s round follows bytes bytes-are c (inr opened) =
    inr (is_current (kept_with kept round) (place_behind place (length bytes)) c other (current_with kept place file other s round follows bytes c bytes-are opened))
