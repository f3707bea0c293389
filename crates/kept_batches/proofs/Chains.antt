-- The parts of a brick in rounds that fit: at most one a round, each of epochs above those before it.
use Rattle.std.proofs.Common.{◌≡◌, ℕ, ◌+◌, ◌<◌, ◌≤◌, ◌==◌, false, List, [], ◌∷◌, ◌++◌, Option, Some, None, filter, slice_get, refl, sym, subst, ◌∙◌, inl, inr, arith}
use Rattle.std.specs.List.{AllByRecursion}
use Rattle.std.specs.Option.{option_map_or}
use Rattle.std.proofs.lemmas.Bool.{cases_Bool, cond-true, cond-false, eqb-true}
use Rattle.std.proofs.lemmas.Bool.Decides.{nat_tests}
use Rattle.std.proofs.lemmas.List.Elements.{filter-append}
use Rattle.cube_values.specs.declared.shape.CubeShape.{CubeShape}
use Rattle.cube_rounds.specs.declared.round.Round.{Round}
use Rattle.cube_rounds.specs.declared.round.RoundCube.{RoundCube}
use Rattle.cube_rounds.specs.Bricks.{BrickPart}
use Rattle.cube_rounds.specs.Demands.{AreRising, IsOfEpochs}
use Rattle.cube_rounds.specs.KeptRows.{parts_of_brick}
use Rattle.kept_batches.specs.RoundsFit.{FitsPart, RoundsFit, parts_of_cube, parts_of_rounds}
use Rattle.kept_batches.proofs.Alls.{all_append, all_of}
use Rattle.kept_batches.proofs.Joined.{AreChained}

-- The parts of a brick among parts.
abbrev pub of_brick : ℕ → List BrickPart → List BrickPart
of_brick number parts = filter (λ part. part.brick == number) parts

in_cube : (number : ℕ) (o : Option RoundCube)
    → option_map_or (λ (cube : RoundCube). filter (λ (b : BrickPart). b.brick == number) cube.bricks) o []
    ≡ of_brick number (option_map_or (λ (cube : RoundCube). cube.bricks) o [])
in_cube number None = refl
in_cube number (Some cube) = refl

-- The parts of a brick in rounds are those among the cube's.
pub parts_among : (place number : ℕ) (rounds : List Round)
    → parts_of_brick place number rounds ≡ of_brick number (parts_of_rounds place rounds)
parts_among place number [] = refl
parts_among place number (round ∷ rounds) =
    (λ k. in_cube number (slice_get round.cubes place) k ++ parts_among place number rounds k)
    ∙ sym (filter-append (λ (part : BrickPart). part.brick == number) (parts_of_cube place round)
    (parts_of_rounds place rounds))

none_below : (number low : ℕ) (parts : List BrickPart) → AreRising low parts → number < low → of_brick number parts ≡ []
none_below number low [] rising lt = refl
none_below number low (part ∷ parts) rising lt =
    let le = rising.0 in
    let other : (part.brick == number) ≡ false = grind (arith, nat_tests) in
    cond-false (part.brick == number) (part ∷ of_brick number parts) (of_brick number parts) other
    ∙ none_below number (part.brick + 1) parts rising.1 (omega arith)

chained_from : (from upto : ℕ) (parts : List BrickPart) → from ≤ upto → AreChained upto parts → AreChained from parts
chained_from from upto [] le chain = tt
chained_from from upto (part ∷ parts) le chain =
    let here = chain.1 in
    let later = here.later in (
      chain.0,
      record {
        later = omega arith;
        leads = here.leads;
        epochs = all_of (IsOfEpochs upto chain.0) (IsOfEpochs from chain.0)
            (λ e is. let above = is.above in record { above = omega arith; within = is.within })
            part.entries here.epochs;
      },
      chain.2,
    )

one_a_round : (shape : CubeShape) (number low from epoch : ℕ) (parts rest : List BrickPart) → from ≤ epoch
    → AreRising low parts → AllByRecursion (FitsPart shape from epoch) parts
    → AreChained epoch rest → AreChained from (of_brick number parts ++ rest)
one_a_round shape number low from epoch [] rest le rising fit chain = chained_from from epoch rest le chain
one_a_round shape number low from epoch (part ∷ parts) rest le rising fit chain =
    let others = of_brick number parts in
    elim (cases_Bool (part.brick == number)) [
      | inl yes' ↦
          let same : part.brick ≡ number = eqb-true part.brick number yes' in
          let alone : of_brick number (part ∷ parts) ≡ part ∷ [] =
          cond-true (part.brick == number) (part ∷ others) others yes'
          ∙ λ k. part ∷ none_below number (part.brick + 1) parts rising.1 (omega arith) k in
          subst (λ (xs : List BrickPart). AreChained from (xs ++ rest)) (sym alone)
          (epoch, record { later = le; leads = fit.0.vector.leads; epochs = fit.0.epochs }, chain)
      | inr no' ↦
          subst (λ (xs : List BrickPart). AreChained from (xs ++ rest))
          (sym (cond-false (part.brick == number) (part ∷ others) others no'))
          (one_a_round shape number (part.brick + 1) from epoch parts rest le rising.1 fit.1 chain)
    ]

pub rounds_chained : (shape : CubeShape) (place number from : ℕ) (rounds : List Round)
    → RoundsFit shape place from rounds → AreChained from (of_brick number (parts_of_rounds place rounds))
rounds_chained shape place number from [] fit = tt
rounds_chained shape place number from (round ∷ rounds) fit =
    let here = fit.0 in
    let own = parts_of_cube place round in
    let others = parts_of_rounds place rounds in
    let rest = rounds_chained shape place number round.epoch rounds fit.1 in
    subst (AreChained from) (sym (filter-append (λ (part : BrickPart). part.brick == number) own others))
    (one_a_round shape number 0 from round.epoch own (of_brick number others) here.later here.rising here.parts rest)

-- What holds of each part that fits holds of all parts of rounds that fit.
pub parts_fit : (shape : CubeShape) (place from : ℕ) (P : BrickPart → Type 0)
    → ((low epoch : ℕ) (part : BrickPart) → FitsPart shape low epoch part → P part) → (rounds : List Round)
    → RoundsFit shape place from rounds → AllByRecursion P (parts_of_rounds place rounds)
parts_fit shape place from P f [] fit = tt
parts_fit shape place from P f (round ∷ rounds) fit =
    all_append P (parts_of_cube place round) (parts_of_rounds place rounds)
    (all_of (FitsPart shape from round.epoch) P (f from round.epoch) (parts_of_cube place round) fit.0.parts)
    (parts_fit shape place round.epoch P f rounds fit.1)
