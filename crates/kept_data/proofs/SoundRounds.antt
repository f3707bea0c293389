-- What rounds have lies in the cubes, also in those of later rounds.
use Rattle.std.proofs.Common.{◌≡◌, ℕ, ◌<◌, List, [], ◌∷◌, ◌++◌, length, map, Some, refl, sym, subst, ◌∙◌, arith}
use Rattle.std.specs.Prelude.{slice_get}
use Rattle.std.specs.List.{zip}
use Rattle.std.proofs.lemmas.List.{length-append}
use Rattle.std.proofs.lemmas.List.Elements.{All-nil, All-push, All-weaker}
use Rattle.std.proofs.lemmas.Option.{same_Some, slice_get_within}
use Rattle.std.proofs.lemmas.Slice.Zip.{AllZip-long, length-zip}
use Rattle.cube_language.specs.declared.decl.Decl.{Decl}
use Rattle.cube_rounds.specs.declared.round.RoundCube.{RoundCube}
use Rattle.cube_rounds.specs.declared.round.Round.{Round}
use Rattle.cube_rounds.specs.Demands.{DimNames, names_with, no_names, FitNames, FitsRoundCube, FitsRound}
use Rattle.cube_rounds.specs.Stands.{Kept, kept_of_cubes, kept_with, kept_with_all, names_behind, RoundsMayFollow}
use Rattle.kept_data.specs.KeptFiles.{IsKeptByFile}
use Rattle.kept_data.specs.KeptNames.{HasKeptNames}
use Rattle.kept_data.specs.KeptRounds.{RoundsLead, LiesInCube, LieInCubes}
use Rattle.kept_data.specs.SoundKept.{IsSoundKept, HasSoundRounds}
use Rattle.kept_data.proofs.SoundCubes.{names_with_made, names_after, dims_of, sound_first, sound_more}
use Rattle.kept_data.proofs.PartsLie.{cube_lies, still_lies}
use Rattle.kept_data.proofs.ZippedLists.{fit_get, zip_get, made_of, front_get}

-- ---- a cube before and behind a round

-- What a round has of the cube at a place, the names before it, and those behind it.
pub record IsChanged (cubes : List Decl) (names : List DimNames) (round : Round) (place : ℕ) (cube : Decl) (lists : DimNames) : Type 0 where
  pub old : DimNames
  pub part : RoundCube
  pub old_is : slice_get (names ++ map no_names round.made) place ≡ Some old
  pub part_is : slice_get round.cubes place ≡ Some part
  pub fits : FitsRoundCube round.from round.epoch cube old part
  pub long : length old ≡ length part.names
  pub lists_are : names_with old part.names ≡ lists

changed : (kept : Kept) (round : Round) (place : ℕ) (cube : Decl) (lists : DimNames) → IsSoundKept kept → FitsRound kept.cubes kept.names round
    → slice_get (kept.cubes ++ round.made) place ≡ Some cube → slice_get (names_behind kept.names round) place ≡ Some lists
    → IsChanged kept.cubes kept.names round place cube lists
changed kept round place cube lists sound fits cube-is lists-is =
    let cubes = kept.cubes ++ round.made in
    let names = kept.names ++ map no_names round.made in
    let made = made_of (λ (l : DimNames) (part : RoundCube). names_with l part.names) names round.cubes place lists lists-is in
    let fit : FitsRoundCube round.from round.epoch cube made.one made.other =
    fit_get (λ c part. FitsRoundCube round.from round.epoch c.0 c.1 part) (zip cubes names) round.cubes place (cube, made.one) made.other fits.cubes
    (zip_get cubes names place cube made.one cube-is made.left) made.right in
    let dims : length made.one ≡ length cube.dims =
    fit_get (λ (c : Decl) (l : DimNames). length l ≡ length c.dims) cubes names place cube made.one (dims_of cubes names (names_with_made kept.cubes round.made kept.names sound.names)) cube-is made.left in
    record {
      old = made.one;
      part = made.other;
      old_is = made.left;
      part_is = made.right;
      fits = fit;
      long = omega (arith, dims, AllZip-long FitNames (zip cube.dims made.one) made.other.names fit.names, length-zip cube.dims made.one);
      lists_are = made.is;
    }

-- ---- what earlier rounds have, and the new one

earlier_lies : (kept : Kept) (round earlier : Round) → IsSoundKept kept → FitsRound kept.cubes kept.names round → LieInCubes kept.cubes kept.names earlier
    → LieInCubes (kept.cubes ++ round.made) (names_behind kept.names round) earlier
earlier_lies kept round earlier sound fits lie = record {
  few = omega (arith, lie.few, length-append kept.cubes round.made);
  each = λ place cube lists part cube-is lists-is part-is.
      let c = changed kept round place cube lists sound fits cube-is lists-is in
      let within : place < length earlier.cubes = slice_get_within earlier.cubes place part part-is in
      let among : place < length kept.cubes = omega (arith, within, lie.few) in
      let named : place < length kept.names = omega (arith, among, AllZip-long (λ (cube : Decl) (l : DimNames). length l ≡ length cube.dims) kept.cubes kept.names sound.lists) in
      let cube-was : slice_get kept.cubes place ≡ Some cube = sym (front_get kept.cubes round.made place among) ∙ cube-is in
      let old-was : slice_get kept.names place ≡ Some c.old = sym (front_get kept.names (map no_names round.made) place named) ∙ c.old_is in
      subst (λ (l : DimNames). LiesInCube cube l earlier part) c.lists_are
      (still_lies cube c.old c.part.names earlier part c.long (lie.each place cube c.old part cube-was old-was part-is));
}

new_lies : (kept : Kept) (round : Round) → IsSoundKept kept → FitsRound kept.cubes kept.names round
    → LieInCubes (kept.cubes ++ round.made) (names_behind kept.names round) round
new_lies kept round sound fits =
    let cubes = kept.cubes ++ round.made in
    let names = kept.names ++ map no_names round.made in
    record {
      few = omega (arith, AllZip-long (λ c part. FitsRoundCube round.from round.epoch c.0 c.1 part) (zip cubes names) round.cubes fits.cubes, length-zip cubes names);
      each = λ place cube lists part cube-is lists-is part-is.
          let c = changed kept round place cube lists sound fits cube-is lists-is in
          let same : c.part ≡ part = same_Some c.part part (sym c.part_is ∙ part-is) in
          let fit : HasKeptNames cube lists =
          fit_get HasKeptNames cubes (names_behind kept.names round) place cube lists (names_after kept.cubes kept.names round sound.names fits) cube-is lists-is in
          coe 0 1 (i. LiesInCube cube (c.lists_are i) round (same i))
          (cube_lies cube c.old round c.part (subst (λ (l : DimNames). HasKeptNames cube l) (sym c.lists_are) fit) c.fits);
    }

-- ---- round by round

lead_more : (from mid : ℕ) (rounds : List Round) (round : Round) → RoundsLead from rounds mid → round.from ≡ mid → mid < round.epoch
    → RoundsLead from (rounds ++ round ∷ []) round.epoch
lead_more from mid [] round lead is up = (is ∙ sym lead, omega (arith, lead, up), refl)
lead_more from mid (first ∷ rounds) round lead is up = (lead.0, lead.1, lead_more first.epoch mid rounds round lead.2 is up)

rounds_first : (cubes : List Decl) → HasSoundRounds (kept_of_cubes cubes)
rounds_first cubes = record { lead = refl; small = omega arith; lie = All-nil (LieInCubes cubes (map no_names cubes)) }

rounds_more : (kept : Kept) (round : Round) → IsSoundKept kept → HasSoundRounds kept → round.from ≡ kept.epoch → FitsRound kept.cubes kept.names round
    → HasSoundRounds (kept_with kept round)
rounds_more kept round sound rounds from fits =
    let cubes = kept.cubes ++ round.made in
    let names = names_behind kept.names round in
    record {
      lead = lead_more 0 kept.epoch kept.rounds round rounds.lead from (omega (arith, from, fits.epochs));
      small = fits.small;
      lie = All-push (LieInCubes cubes names) kept.rounds round
          (All-weaker (LieInCubes kept.cubes kept.names) (LieInCubes cubes names) (λ earlier lie. earlier_lies kept round earlier sound fits lie) kept.rounds rounds.lie)
          (new_lies kept round sound fits);
    }

rounds_all : (kept : Kept) (rounds : List Round) → IsSoundKept kept → HasSoundRounds kept → RoundsMayFollow kept rounds → HasSoundRounds (kept_with_all kept rounds)
rounds_all kept [] sound has chain = has
rounds_all kept (round ∷ rounds) sound has chain =
    rounds_all (kept_with kept round) rounds (sound_more kept round sound chain.1) (rounds_more kept round sound has chain.0 chain.1) chain.2

pub file_rounds : (kept : Kept) → IsKeptByFile kept → HasSoundRounds kept
file_rounds kept by =
    coe 1 0 (i. HasSoundRounds (by.are i)) (rounds_all (kept_of_cubes by.cubes) by.rounds (sound_first by.cubes by.declares) (rounds_first by.cubes) by.chain)
