-- Rounds that were stored one after the other, as each kept cube has them.
use Rattle.std.proofs.Common.{◌≡◌, ◌⊎◌, ℕ, zero, suc, ◌<◌, ◌≤◌, ◌==◌, Bool, true, false, List, [], ◌∷◌, ◌++◌, Option, Some, None, if◌then◌else◌, length, map, filter, slice_get, MatchBool, FitsSigned, w64, refl, sym, subst, ◌∙◌, inl, inr, append_assoc, arith}
use Rattle.std.specs.List.{zip, AllZip, AllByRecursion}
use Rattle.std.specs.Option.{option_map_or}
use Rattle.std.proofs.lemmas.List.{append-nil, length-map}
use Rattle.std.proofs.lemmas.Option.{same_Some}
use Rattle.std.proofs.lemmas.Slice.Zip.{AllZip-long}
use Rattle.cube_values.specs.declared.row.CodedRow.{CodedRow}
use Rattle.cube_language.specs.declared.decl.DimDecl.{DimDecl}
use Rattle.cube_language.specs.declared.decl.Decl.{Decl}
use Rattle.cube_language.specs.Cubes.{sizes_of}
use Rattle.cube_schema.specs.Schemas.{cube_of}
use Rattle.brick_address.specs.Addresses.{AreCoords}
use Rattle.cube_rounds.specs.declared.round.Round.{Round}
use Rattle.cube_rounds.specs.declared.round.RoundCube.{RoundCube}
use Rattle.cube_rounds.specs.Bricks.{BrickPart}
use Rattle.cube_rounds.specs.Demands.{AreNewNames, AreRising, DimNames, FitNames, FitsBrick, FitsRound, FitsRoundCube, FitsRow, HaveDims, IsCoordBelow, coord_limit, coord_limits, names_with, no_names}
use Rattle.cube_rounds.specs.KeptRows.{parts_in, parts_of_brick}
use Rattle.cube_rounds.specs.Stands.{Kept, kept_of_cubes, kept_with, kept_with_all, RoundsMayFollow}
use Rattle.kept_batches.specs.RoundsFit.{FitsPart, FitsShape, LiesInBrick, RoundsFit, parts_of_cube}
use Rattle.kept_batches.specs.StoredRounds.{AreRoundsOf, FilesHaveFittingRounds, StoredRoundsFit}
use Rattle.kept_batches.proofs.Alls.{all_of}

-- coordinates below their limits are coordinates of the cube
limit_within : (text : Bool) (cardinality : ℕ) (earlier names : List (List ℕ))
    → MatchBool text (AreNewNames cardinality earlier names) (names ≡ [])
    → (if text then length (earlier ++ names) else cardinality) ≤ cardinality
limit_within true cardinality earlier names fit = fit.most
limit_within false cardinality earlier names fit = omega arith

coords_fit : (dims : List DimDecl) (earlier names : DimNames) (coords : List ℕ) → length earlier ≡ length dims
    → AllZip FitNames (zip dims earlier) names
    → AllZip IsCoordBelow (map coord_limit (zip dims (names_with earlier names))) coords
    → AreCoords (sizes_of dims) coords
coords_fit [] earlier names [] long fit below = tt
coords_fit [] earlier names (coord ∷ coords) long fit below = absurd below
coords_fit (dim ∷ dims) [] names coords long fit below = absurd (omega arith)
coords_fit (dim ∷ dims) (e ∷ earlier) [] coords long fit below = absurd fit
coords_fit (dim ∷ dims) (e ∷ earlier) (n ∷ names) [] long fit below = absurd below
coords_fit (dim ∷ dims) (e ∷ earlier) (n ∷ names) (coord ∷ coords) long fit below =
    let within = limit_within dim.text dim.cardinality e n fit.0 in
    let less = below.0.below in
    (omega (arith, within, less), coords_fit dims earlier names coords (omega arith) fit.1 below.1)

row_fits : (cube : Decl) (earlier : DimNames) (part : RoundCube) (brick : ℕ) (row : CodedRow)
    → length earlier ≡ length cube.dims → AllZip FitNames (zip cube.dims earlier) part.names
    → FitsRow cube (coord_limits cube (names_with earlier part.names)) brick row → LiesInBrick (cube_of cube) brick row
row_fits cube earlier part brick row long names fit = record {
  coords = record {
    of_cube = coords_fit cube.dims earlier part.names row.coords long names fit.coords;
    of_brick = fit.place;
  };
  metrics = AllZip-long (λ name number. FitsSigned w64 number) cube.metrics row.metrics fit.metrics;
}

part_fits : (from epoch : ℕ) (cube : Decl) (earlier : DimNames) (part : RoundCube) → length earlier ≡ length cube.dims
    → FitsRoundCube from epoch cube earlier part
    → AllByRecursion (FitsPart (cube_of cube) from epoch) part.bricks
part_fits from epoch cube earlier part long fit =
    let limits = coord_limits cube (names_with earlier part.names) in
    all_of (FitsBrick cube limits from epoch) (FitsPart (cube_of cube) from epoch)
    (λ b is. record {
      number = is.number;
      vector = is.vector;
      epochs = is.epochs;
      rows = all_of (FitsRow cube limits b.brick) (LiesInBrick (cube_of cube) b.brick)
          (λ row r. row_fits cube earlier part b.brick row long fit.names r) b.rows is.rows;
    })
    part.bricks fit.bricks

-- What stands at a place of two lists side by side.
record StandAt {A B C : Type 0} (D : A → B → Type 0) (P : A × B → C → Type 0) (xs : List A) (i : ℕ) (p : C)
    : Type 0 where
  first : A
  second : B
  there : slice_get xs i ≡ Some first
  beside : D first second
  fits : P (first, second) p

at_place : {A B C : Type 0} (D : A → B → Type 0) (P : A × B → C → Type 0) (xs : List A) (ys : List B) (ps : List C)
    (i : ℕ) (p : C) → AllZip D xs ys → AllZip P (zip xs ys) ps → slice_get ps i ≡ Some p → StandAt D P xs i p
at_place D P xs ys [] i p d all is = absurd cc
at_place D P [] [] (q ∷ ps) i p d all is = absurd all
at_place D P [] (y ∷ ys) (q ∷ ps) i p d all is = absurd d
at_place D P (x ∷ xs) [] (q ∷ ps) i p d all is = absurd d
at_place D P (x ∷ xs) (y ∷ ys) (q ∷ ps) zero p d all is = record {
  first = x;
  second = y;
  there = refl;
  beside = d.0;
  fits = subst (P (x, y)) (same_Some q p is) all.0;
}
at_place D P (x ∷ xs) (y ∷ ys) (q ∷ ps) (suc i) p d all is =
    let next = at_place D P xs ys ps i p d.1 all.1 is in
    record { first = next.first; second = next.second; there = next.there; beside = next.beside; fits = next.fits }

zips_append : {A B : Type 0} (R : A → B → Type 0) (xs more : List A) (ys others : List B) → AllZip R xs ys
    → AllZip R more others → AllZip R (xs ++ more) (ys ++ others)
zips_append R [] more [] others a b = b
zips_append R [] more (y ∷ ys) others a b = absurd a
zips_append R (x ∷ xs) more [] others a b = absurd a
zips_append R (x ∷ xs) more (y ∷ ys) others a b = (a.0, zips_append R xs more ys others a.1 b)

made_dims : (made : List Decl) → HaveDims made (map no_names made)
made_dims [] = tt
made_dims (cube ∷ made) = (length-map cube.dims (λ dim. []), made_dims made)

-- A list of names for each dimension of a cube.
abbrev HasDims : Decl → DimNames → Type 0
HasDims cube lists = length lists ≡ length cube.dims

-- A part of a round fits a cube with its names.
abbrev PartFits : Round → Decl × DimNames → RoundCube → Type 0
PartFits round c part = FitsRoundCube round.from round.epoch c.0 c.1 part

-- The cube at a place of which a round has a part, and that the part fits it.
record HasPart (before : List Decl) (round : Round) (place : ℕ) (part : RoundCube) : Type 0 where
  cube : Decl
  there : slice_get (before ++ round.made) place ≡ Some cube
  rising : AreRising 0 part.bricks
  parts : AllByRecursion (FitsPart (cube_of cube) round.from round.epoch) part.bricks

round_at : (before : List Decl) (names : List DimNames) (round : Round) (place : ℕ) (part : RoundCube)
    → FitsRound before names round → slice_get round.cubes place ≡ Some part → HasPart before round place part
round_at before names round place part fits is =
    let none = map no_names round.made in
    let lists = zips_append HasDims before round.made names none fits.dims (made_dims round.made) in
    let at = at_place HasDims (PartFits round) (before ++ round.made) (names ++ none) round.cubes place part lists
    fits.cubes is in
    record {
      cube = at.first;
      there = at.there;
      rising = at.fits.rising;
      parts = part_fits round.from round.epoch at.first at.second part at.beside at.fits;
    }

-- cubes stay where they are
get_front : {A : Type 0} (xs ys : List A) (i : ℕ) (x : A) → slice_get xs i ≡ Some x → slice_get (xs ++ ys) i ≡ Some x
get_front [] ys i x is = absurd cc
get_front (y ∷ xs) ys zero x is = is
get_front (y ∷ xs) ys (suc i) x is = get_front xs ys i x is

cubes_stay : (kept : Kept) (rounds : List Round) (place : ℕ) (cube : Decl) → slice_get kept.cubes place ≡ Some cube
    → slice_get (kept_with_all kept rounds).cubes place ≡ Some cube
cubes_stay kept [] place cube is = is
cubes_stay kept (round ∷ rounds) place cube is =
    cubes_stay (kept_with kept round) rounds place cube (get_front kept.cubes round.made place cube is)

shape_fits : (kept : Kept) (round : Round) (rounds : List Round) (place : ℕ) (cube : Decl)
    → FitsRound kept.cubes kept.names round
    → slice_get (kept_with_all (kept_with kept round) rounds).cubes place ≡ Some cube → (o : Option RoundCube)
    → slice_get round.cubes place ≡ o
    → FitsShape (cube_of cube) place round.from round
shape_fits kept round rounds place cube fits last None is =
    let less = fits.epochs in
    let none : [] ≡ parts_of_cube place round = λ k. option_map_or (λ (c : RoundCube). c.bricks) (sym is k) [] in
    record {
      later = omega arith;
      rising = subst (AreRising 0) none tt;
      parts = subst (AllByRecursion (FitsPart (cube_of cube) round.from round.epoch)) none tt;
    }
shape_fits kept round rounds place cube fits last (Some part) is =
    let less = fits.epochs in
    let at = round_at kept.cubes kept.names round place part fits is in
    let same : at.cube ≡ cube =
    same_Some at.cube cube (sym (cubes_stay (kept_with kept round) rounds place at.cube at.there) ∙ last) in
    let some : part.bricks ≡ parts_of_cube place round =
    λ k. option_map_or (λ (c : RoundCube). c.bricks) (sym is k) [] in
    record {
      later = omega arith;
      rising = subst (AreRising 0) some at.rising;
      parts = subst (AllByRecursion (FitsPart (cube_of cube) round.from round.epoch)) some
          (subst (λ (d : Decl). AllByRecursion (FitsPart (cube_of d) round.from round.epoch) part.bricks)
          same at.parts);
    }

rounds_fit : (kept : Kept) (rounds : List Round) (place : ℕ) (cube : Decl) → RoundsMayFollow kept rounds
    → slice_get (kept_with_all kept rounds).cubes place ≡ Some cube
    → RoundsFit (cube_of cube) place kept.epoch rounds
rounds_fit kept [] place cube chain last = tt
rounds_fit kept (round ∷ rounds) place cube chain last =
    let here = shape_fits kept round rounds place cube chain.1 last (slice_get round.cubes place) refl in (
      subst (λ (from : ℕ). FitsShape (cube_of cube) place from round) chain.0 here,
      rounds_fit (kept_with kept round) rounds place cube chain.2 last,
    )

-- rounds have nothing of places without a cube
none_in_round : (kept : Kept) (round : Round) (rounds : List Round) (place number : ℕ)
    → FitsRound kept.cubes kept.names round
    → slice_get (kept_with_all (kept_with kept round) rounds).cubes place ≡ None → (o : Option RoundCube)
    → slice_get round.cubes place ≡ o
    → parts_in place number round ≡ []
none_in_round kept round rounds place number fits last None is =
    λ k. option_map_or (λ (c : RoundCube). filter (λ (b : BrickPart). b.brick == number) c.bricks) (is k) []
none_in_round kept round rounds place number fits last (Some part) is =
    let at = round_at kept.cubes kept.names round place part fits is in
    let there = cubes_stay (kept_with kept round) rounds place at.cube at.there in cc

no_others : (kept : Kept) (rounds : List Round) (place number : ℕ) → RoundsMayFollow kept rounds
    → slice_get (kept_with_all kept rounds).cubes place ≡ None
    → parts_of_brick place number rounds ≡ []
no_others kept [] place number chain last = refl
no_others kept (round ∷ rounds) place number chain last =
    let here = none_in_round kept round rounds place number chain.1 last (slice_get round.cubes place) refl in
    let rest = no_others (kept_with kept round) rounds place number chain.2 last in λ k. here k ++ rest k

-- epochs rise from round to round
end_later : (kept : Kept) (rounds : List Round) → RoundsMayFollow kept rounds
    → kept.epoch ≤ (kept_with_all kept rounds).epoch
end_later kept [] chain = omega arith
end_later kept (round ∷ rounds) chain =
    let rest = end_later (kept_with kept round) rounds chain.2 in
    let less = chain.1.epochs in omega (arith, rest, less, chain.0)

ends_within : (kept : Kept) (rounds : List Round) → RoundsMayFollow kept rounds
    → AllByRecursion (λ round. round.epoch ≤ (kept_with_all kept rounds).epoch) rounds
ends_within kept [] chain = tt
ends_within kept (round ∷ rounds) chain =
    (end_later (kept_with kept round) rounds chain.2, ends_within (kept_with kept round) rounds chain.2)

has_begun : (kept : Kept) (rounds : List Round) → RoundsMayFollow kept rounds
    → (rounds ≡ []) ⊎ (0 < (kept_with_all kept rounds).epoch)
has_begun kept [] chain = inl refl
has_begun kept (round ∷ rounds) chain =
    let rest = end_later (kept_with kept round) rounds chain.2 in
    let less = chain.1.epochs in inr (omega (arith, rest, less))

all_kept : (kept : Kept) (rounds : List Round) → (kept_with_all kept rounds).rounds ≡ kept.rounds ++ rounds
all_kept kept [] = sym (append-nil kept.rounds)
all_kept kept (round ∷ rounds) = all_kept (kept_with kept round) rounds ∙ append_assoc kept.rounds (round ∷ []) rounds

pub stored_rounds_fit : StoredRoundsFit
stored_rounds_fit cubes rounds chain = record {
  same = all_kept (kept_of_cubes cubes) rounds;
  fit = λ place cube is. rounds_fit (kept_of_cubes cubes) rounds place cube chain is;
  others = λ place number is. no_others (kept_of_cubes cubes) rounds place number chain is;
  end = ends_within (kept_of_cubes cubes) rounds chain;
  begun = has_begun (kept_of_cubes cubes) rounds chain;
}

pub files_have_fitting_rounds : FilesHaveFittingRounds
files_have_fitting_rounds digest generation kept file s =
    let fit = stored_rounds_fit s.cubes s.rounds s.chain in
    let same : kept.rounds ≡ s.rounds = (λ k. (s.are k).rounds) ∙ fit.same in
    subst (AreRoundsOf kept) (sym same) (subst (λ (k : Kept). AreRoundsOf k s.rounds) (sym s.are) fit)
