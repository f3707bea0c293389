-- A file with one round more.
use Rattle.std.proofs.Common.{◌≡◌, ℕ, List, [], ◌∷◌, ◌++◌, refl, sym, ap, subst, ◌∙◌, append_assoc}
use Rattle.std.proofs.lemmas.List.{append-nil}
use Rattle.cube_language.specs.declared.decl.Decl.{Decl}
use Rattle.cube_language.specs.Cubes.{cubes_text}
use Rattle.cube_rounds.specs.declared.round.Round.{Round}
use Rattle.cube_rounds.specs.Bytes.{round_bytes}
use Rattle.cube_rounds.specs.Demands.{FitsRound}
use Rattle.cube_rounds.specs.Headers.{open_gate, header_bytes}
use Rattle.cube_rounds.specs.Stands.{Kept, kept_of_cubes, kept_with, kept_with_all, RoundsMayFollow, rounds_bytes, HeadersStand, RoundsFollow}

pub headers_stand : HeadersStand
headers_stand digest generation cubes gate rest declares fits shut =
    record {
      cubes = cubes;
      declares = declares;
      header = fits;
      rounds = [];
      chain = tt;
      are = refl;
      gate = gate;
      rest = rest;
      shut = shut;
      whole = refl;
    }

pub kept_more : (kept : Kept) (rounds : List Round) (round : Round)
    → kept_with_all kept (rounds ++ round ∷ []) ≡ kept_with (kept_with_all kept rounds) round
kept_more kept [] round = refl
kept_more kept (first ∷ rounds) round = kept_more (kept_with kept first) rounds round

pub follow_more : (kept : Kept) (rounds : List Round) (round : Round) → RoundsMayFollow kept rounds
    → round.from ≡ (kept_with_all kept rounds).epoch
    → FitsRound (kept_with_all kept rounds).cubes (kept_with_all kept rounds).names round
    → RoundsMayFollow kept (rounds ++ round ∷ [])
follow_more kept [] round chain from fits = (from, fits, tt)
follow_more kept (first ∷ rounds) round chain from fits =
    (chain.0, chain.1, follow_more (kept_with kept first) rounds round chain.2 from fits)

-- A round behind its open gate.
abbrev pub behind_gate : (List ℕ → List ℕ) → List Decl → Round → List ℕ
behind_gate digest cubes round = open_gate ∷ round_bytes digest cubes round

pub bytes_more : (digest : List ℕ → List ℕ) (kept : Kept) (rounds : List Round) (round : Round)
    → rounds_bytes digest kept.cubes (rounds ++ round ∷ [])
    ≡ rounds_bytes digest kept.cubes rounds ++ behind_gate digest (kept_with_all kept rounds).cubes round
bytes_more digest kept [] round = ap (λ (b : List ℕ). open_gate ∷ b) (append-nil (round_bytes digest kept.cubes round))
bytes_more digest kept (first ∷ rounds) round =
    let next = kept_with kept first in
    let bytes = round_bytes digest kept.cubes first in
    ap (λ (b : List ℕ). open_gate ∷ b) (
    ap (λ (b : List ℕ). bytes ++ b) (bytes_more digest next rounds round)
    ∙ sym (append_assoc bytes (rounds_bytes digest next.cubes rounds)
    (behind_gate digest (kept_with_all next rounds).cubes round)))

pub rounds_follow : RoundsFollow
rounds_follow digest generation kept file round gate rest s from fits shut =
    let begun = kept_of_cubes s.cubes in
    let same : kept ≡ kept_with_all begun s.rounds = s.are in
    let head = header_bytes digest generation (cubes_text s.cubes) in
    let bytes = round_bytes digest kept.cubes round in
    let before = rounds_bytes digest s.cubes s.rounds in
    let after = rounds_bytes digest s.cubes (s.rounds ++ round ∷ []) in
    let more : after ≡ before ++ (open_gate ∷ bytes) =
    bytes_more digest begun s.rounds round
    ∙ ap (λ (k : Kept). before ++ behind_gate digest k.cubes round) (sym same) in
    record {
      cubes = s.cubes;
      declares = s.declares;
      header = s.header;
      rounds = s.rounds ++ round ∷ [];
      chain = follow_more begun s.rounds round s.chain (from ∙ ap (λ (k : Kept). k.epoch) same)
          (subst (λ (k : Kept). FitsRound k.cubes k.names round) same fits);
      are = ap (λ (k : Kept). kept_with k round) same ∙ sym (kept_more begun s.rounds round);
      gate = gate;
      rest = rest;
      shut = shut;
      whole =
          append_assoc head before (open_gate ∷ (bytes ++ gate ∷ rest))
          ∙ ap (λ (b : List ℕ). head ++ b)
          (sym (append_assoc before (open_gate ∷ bytes) (gate ∷ rest))
          ∙ ap (λ (b : List ℕ). b ++ gate ∷ rest) (sym more))
          ∙ sym (append_assoc head after (gate ∷ rest));
    }
