-- What is kept stays fit for reading, round by round.
use Rattle.std.proofs.Common.{◌≡◌, ℕ, zero, suc, ◌<◌, List, [], ◌∷◌, ◌++◌, length, map, get_or, All, refl, sym, ap, ◌∙◌, arith}
use Rattle.std.specs.List.{zip, AllZip}
use Rattle.std.proofs.lemmas.List.{length-map}
use Rattle.std.proofs.lemmas.List.Elements.{All-append}
use Rattle.std.proofs.lemmas.Slice.Zip.{length-zip}
use Rattle.cube_language.specs.declared.decl.Decl.{Decl}
use Rattle.cube_language.specs.Cubes.{IsStorable}
use Rattle.cube_rounds.specs.declared.round.RoundCube.{RoundCube}
use Rattle.cube_rounds.specs.declared.round.Round.{Round}
use Rattle.cube_rounds.specs.Demands.{DimNames, names_with, no_names, HaveDims, FitsRoundCube, FitsRound}
use Rattle.cube_rounds.specs.Stands.{Kept, kept_with}
use Rattle.round_reading.proofs.PayloadLaws.{no_names_dims}
use Rattle.store_reading.specs.Parts.{HaveNameLists, all_names_with}
use Rattle.store_reading.specs.Rounds.{IsReadable}

zip_all_length : {A B : Type 0} (R : A → B → Type 0) (xs : List A) (ys : List B) → AllZip R xs ys → length xs ≡ length ys
zip_all_length R [] [] all = refl
zip_all_length R [] (y ∷ ys) all = absurd all
zip_all_length R (x ∷ xs) [] all = absurd all
zip_all_length R (x ∷ xs) (y ∷ ys) all = ap suc (zip_all_length R xs ys all.1)

zip_all_append : {A B : Type 0} (R : A → B → Type 0) (xs more : List A) (ys others : List B) → AllZip R xs ys → AllZip R more others → AllZip R (xs ++ more) (ys ++ others)
zip_all_append R [] more [] others a b = b
zip_all_append R [] more (y ∷ ys) others a b = absurd a
zip_all_append R (x ∷ xs) more [] others a b = absurd a
zip_all_append R (x ∷ xs) more (y ∷ ys) others a b = (a.0, zip_all_append R xs more ys others a.1 b)

part_fits : (from epoch : ℕ) (cube : Decl) (lists : DimNames) (part : RoundCube) → length lists ≡ length cube.dims → FitsRoundCube from epoch cube lists part
    → length lists ≡ length part.names
part_fits from epoch cube lists part same fits =
    omega (arith, length-zip cube.dims lists, zip_all_length _ (zip cube.dims lists) part.names fits.names)

names_fit : (from epoch : ℕ) (cubes : List Decl) (names : List DimNames) (parts : List RoundCube) → HaveDims cubes names
    → AllZip (λ c part. FitsRoundCube from epoch c.0 c.1 part) (zip cubes names) parts → HaveNameLists names parts
names_fit from epoch [] [] [] dims fits = tt
names_fit from epoch [] [] (part ∷ parts) dims fits = absurd fits
names_fit from epoch [] (lists ∷ names) parts dims fits = absurd dims
names_fit from epoch (cube ∷ cubes) [] parts dims fits = absurd dims
names_fit from epoch (cube ∷ cubes) (lists ∷ names) [] dims fits = absurd fits
names_fit from epoch (cube ∷ cubes) (lists ∷ names) (part ∷ parts) dims fits =
    (part_fits from epoch cube lists part dims.0 fits.0, names_fit from epoch cubes names parts dims.1 fits.1)

with_long : (lists more : DimNames) → length lists ≡ length more → length (names_with lists more) ≡ length lists
with_long lists more same = length-map (zip lists more) (λ d. d.0 ++ d.1) ∙ omega (arith, length-zip lists more)

dims_more : (cubes : List Decl) (names : List DimNames) (parts : List RoundCube) → HaveDims cubes names → HaveNameLists names parts → HaveDims cubes (all_names_with names parts)
dims_more [] [] [] dims fit = tt
dims_more [] [] (part ∷ parts) dims fit = absurd fit
dims_more [] (lists ∷ names) parts dims fit = absurd dims
dims_more (cube ∷ cubes) [] parts dims fit = absurd dims
dims_more (cube ∷ cubes) (lists ∷ names) [] dims fit = absurd fit
dims_more (cube ∷ cubes) (lists ∷ names) (part ∷ parts) dims fit =
    (with_long lists part.names fit.0 ∙ dims.0, dims_more cubes names parts dims.1 fit.1)

dims_with_made : (kept : Kept) (made : List Decl) → HaveDims kept.cubes kept.names → HaveDims (kept.cubes ++ made) (kept.names ++ map no_names made)
dims_with_made kept made dims = zip_all_append (λ cube lists. length lists ≡ length cube.dims) kept.cubes made kept.names (map no_names made) dims (no_names_dims made)

-- A round that may follow has a list of names for each list that there is.
pub round_names_fit : (kept : Kept) (round : Round) → FitsRound kept.cubes kept.names round → HaveNameLists (kept.names ++ map no_names round.made) round.cubes
round_names_fit kept round fits =
    names_fit round.from round.epoch (kept.cubes ++ round.made) (kept.names ++ map no_names round.made) round.cubes (dims_with_made kept round.made fits.dims) fits.cubes

pub readable_more : (kept : Kept) (round : Round) → IsReadable kept → FitsRound kept.cubes kept.names round → IsReadable (kept_with kept round)
readable_more kept round readable fits = record {
  storable = All-append IsStorable kept.cubes round.made readable.storable fits.made.declared.storable;
  dims = dims_more (kept.cubes ++ round.made) (kept.names ++ map no_names round.made) round.cubes (dims_with_made kept round.made fits.dims) (round_names_fit kept round fits);
}

pub fit_length : (names : List DimNames) (parts : List RoundCube) → HaveNameLists names parts → length names ≡ length parts
fit_length names parts fit = zip_all_length _ names parts fit

pub fit_at : (names : List DimNames) (parts : List RoundCube) (i : ℕ) (d : DimNames) (e : RoundCube) → HaveNameLists names parts → i < length parts
    → length (get_or names i d) ≡ length (get_or parts i e).names
fit_at [] [] i d e fit lt = absurd (omega arith)
fit_at [] (part ∷ parts) i d e fit lt = absurd fit
fit_at (lists ∷ names) [] i d e fit lt = absurd fit
fit_at (lists ∷ names) (part ∷ parts) zero d e fit lt = fit.0
fit_at (lists ∷ names) (part ∷ parts) (suc i) d e fit lt = fit_at names parts i d e fit.1 (omega arith)
