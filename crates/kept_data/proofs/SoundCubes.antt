-- What is kept has sound cubes and names, round by round.
use Rattle.std.proofs.Common.{◌≡◌, ℕ, ◌<◌, ◌≤◌, ◌^◌, Bool, true, false, List, [], ◌∷◌, ◌++◌, length, map, IsUtf8, refl, sym, ap, ◌∙◌, arith, take, inl, inr, append_assoc}
use Rattle.std.specs.Prelude.{MatchBool}
use Rattle.std.specs.List.{zip, AllZip}
use Rattle.std.proofs.lemmas.List.{append-nil, length-append, length-map, map-append, take_all, take-append-le}
use Rattle.std.proofs.lemmas.List.Elements.{All-nil, All-append, All-weaker, All-from_recursion}
use Rattle.std.proofs.lemmas.Slice.Zip.{AllZip-long}
use Rattle.cube_language.specs.declared.bad_row.TheConstants.{TEXT_BYTES}
use Rattle.cube_language.specs.declared.decl.DimDecl.{DimDecl}
use Rattle.cube_language.specs.declared.decl.Decl.{Decl}
use Rattle.cube_language.specs.Cubes.{cubes_text, first_repeated, IsStorable}
use Rattle.cube_language.specs.CubesText.{Line, Skipped, Cube, Dim, Metric, cube_names, cubes_in, Declares}
use Rattle.cube_rounds.specs.declared.round.RoundCube.{RoundCube}
use Rattle.cube_rounds.specs.declared.round.Round.{Round}
use Rattle.cube_rounds.specs.Demands.{DimNames, names_with, no_names, cube_names_of, AreNewNames, FitNames, FitsRoundCube, FitsRound, HaveDims}
use Rattle.cube_rounds.specs.Stands.{Kept, kept_of_cubes, kept_with, kept_with_all, names_behind, RoundsMayFollow, FileStands, Stands}
use Rattle.cube_rounds.proofs.OneMore.{kept_more, follow_more}
use Rattle.cube_schema.proofs.Canonical.{canonical_declares}
use Rattle.kept_data.specs.KeptFiles.{IsKeptByFile}
use Rattle.kept_data.specs.KeptNames.{AreKeptNames, FitKeptNames, HasKeptNames, HaveKeptNames}
use Rattle.kept_data.specs.SoundKept.{IsSoundKept}
use Rattle.kept_data.proofs.ApartNames.{apart_joined}
use Rattle.kept_data.proofs.ZippedLists.{fit_append, fit_weaker}

-- ---- what a file keeps

pub declared_kept : (text : List ℕ) (cubes : List Decl) → Declares text cubes → IsKeptByFile (kept_of_cubes cubes)
declared_kept text cubes declares = record { cubes = cubes; declares = canonical_declares text cubes declares; rounds = []; chain = tt; are = refl }

pub round_kept : (kept : Kept) (round : Round) → IsKeptByFile kept → round.from ≡ kept.epoch → FitsRound kept.cubes kept.names round
    → IsKeptByFile (kept_with kept round)
round_kept kept round by from fits =
    let begun = kept_of_cubes by.cubes in
    record {
      cubes = by.cubes;
      declares = by.declares;
      rounds = by.rounds ++ round ∷ [];
      chain = follow_more begun by.rounds round by.chain (from ∙ ap (λ (k : Kept). k.epoch) by.are)
          (coe 0 1 (i. FitsRound (by.are i).cubes (by.are i).names round) fits);
      are = ap (λ (k : Kept). kept_with k round) by.are ∙ sym (kept_more begun by.rounds round);
    }

pub file_kept : (digest : List ℕ → List ℕ) (generation : ℕ) (kept : Kept) (file : List ℕ) → FileStands digest generation kept file → IsKeptByFile kept
file_kept digest generation kept file stands =
    record { cubes = stands.cubes; declares = stands.declares; rounds = stands.rounds; chain = stands.chain; are = stands.are }

pub either_kept : (digest : List ℕ → List ℕ) (kept : Kept) (first second : List ℕ) → Stands digest kept first second → IsKeptByFile kept
either_kept digest kept first second (inl current) = file_kept digest current.generation kept first current.stands
either_kept digest kept first second (inr current) = file_kept digest current.generation kept second current.stands

-- ---- the parts of a file

declared_same : (kept : Kept) (rounds : List Round) → (kept_with_all kept rounds).declared ≡ kept.declared
declared_same kept [] = refl
declared_same kept (round ∷ rounds) = declared_same (kept_with kept round) rounds

front_same : (n : ℕ) (kept : Kept) (rounds : List Round) → n ≤ length kept.cubes → take n (kept_with_all kept rounds).cubes ≡ take n kept.cubes
front_same n kept [] within = refl
front_same n kept (round ∷ rounds) within =
    front_same n (kept_with kept round) rounds (omega (arith, within, length-append kept.cubes round.made)) ∙ take-append-le n kept.cubes round.made within

pub header_cubes : (kept : Kept) (by : IsKeptByFile kept) → by.cubes ≡ take kept.declared kept.cubes
header_cubes kept by =
    let begun = kept_of_cubes by.cubes in
    let all = kept_with_all begun by.rounds in
    sym (ap (λ (k : Kept). take k.declared k.cubes) by.are
    ∙ ap (λ n. take n all.cubes) (declared_same begun by.rounds)
    ∙ front_same (length by.cubes) begun by.rounds (omega arith)
    ∙ take_all (length by.cubes) by.cubes (omega arith))

rounds_same : (kept : Kept) (rounds : List Round) → (kept_with_all kept rounds).rounds ≡ kept.rounds ++ rounds
rounds_same kept [] = sym (append-nil kept.rounds)
rounds_same kept (round ∷ rounds) = rounds_same (kept_with kept round) rounds ∙ append_assoc kept.rounds (round ∷ []) rounds

pub file_has_rounds : (kept : Kept) (by : IsKeptByFile kept) → by.rounds ≡ kept.rounds
file_has_rounds kept by = sym (ap (λ (k : Kept). k.rounds) by.are ∙ rounds_same (kept_of_cubes by.cubes) by.rounds)

epoch_up : (kept : Kept) (rounds : List Round) → RoundsMayFollow kept rounds → kept.epoch ≤ (kept_with_all kept rounds).epoch
epoch_up kept [] chain = omega arith
epoch_up kept (round ∷ rounds) chain =
    let up = epoch_up (kept_with kept round) rounds chain.2 in
    omega (arith, up, chain.0, chain.1.epochs)

cubes_alone : (cubes : List Decl) (rounds : List Round) → RoundsMayFollow (kept_of_cubes cubes) rounds → (kept_with_all (kept_of_cubes cubes) rounds).epoch ≡ 0
    → kept_with_all (kept_of_cubes cubes) rounds ≡ kept_of_cubes cubes
cubes_alone cubes [] chain none = refl
cubes_alone cubes (round ∷ rounds) chain none =
    let up = epoch_up (kept_with (kept_of_cubes cubes) round) rounds chain.2 in
    absurd (omega (arith, up, chain.1.epochs, none))

pub begun_alone : (kept : Kept) → IsKeptByFile kept → kept.epoch ≡ 0 → kept ≡ kept_of_cubes kept.cubes
begun_alone kept by none =
    let alone : kept ≡ kept_of_cubes by.cubes = by.are ∙ cubes_alone by.cubes by.rounds by.chain (sym (ap (λ (k : Kept). k.epoch) by.are) ∙ none) in
    alone ∙ ap (λ (k : Kept). kept_of_cubes k.cubes) (sym alone)

-- ---- names of dimensions

more_names : (cardinality : ℕ) (names more : List (List ℕ)) → AreKeptNames cardinality names → AreNewNames cardinality names more
    → AreKeptNames cardinality (names ++ more)
more_names cardinality names more kept new = record {
  texts = All-append IsUtf8 names more kept.texts (All-from_recursion IsUtf8 more new.texts);
  short = All-append (λ name. length name ≤ TEXT_BYTES) names more kept.short
      (All-weaker (λ name. length name < 2 ^ 8) (λ name. length name ≤ TEXT_BYTES) (λ name small. omega (arith, small)) more
      (All-from_recursion (λ name. length name < 2 ^ 8) more new.short));
  differ = apart_joined names more kept.differ new.apart;
  few = new.most;
}

fit_more : (text : Bool) (cardinality : ℕ) (names more : List (List ℕ)) → MatchBool text (AreKeptNames cardinality names) (names ≡ [])
    → MatchBool text (AreNewNames cardinality names more) (more ≡ []) → MatchBool text (AreKeptNames cardinality (names ++ more)) (names ++ more ≡ [])
fit_more true cardinality names more kept new = more_names cardinality names more kept new
fit_more false cardinality names more kept new = λ i. kept i ++ new i

lists_more : (dims : List DimDecl) (lists news : DimNames) → AllZip FitKeptNames dims lists → AllZip FitNames (zip dims lists) news
    → AllZip FitKeptNames dims (map (λ d. d.0 ++ d.1) (zip lists news))
lists_more [] [] [] kept new = tt
lists_more [] [] (more ∷ news) kept new = absurd new
lists_more [] (names ∷ lists) news kept new = absurd kept
lists_more (dim ∷ dims) [] news kept new = absurd kept
lists_more (dim ∷ dims) (names ∷ lists) [] kept new = absurd new
lists_more (dim ∷ dims) (names ∷ lists) (more ∷ news) kept new =
    (fit_more dim.text dim.cardinality names more kept.0 new.0, lists_more dims lists news kept.1 new.1)

fit_none : (text : Bool) (cardinality : ℕ) → MatchBool text (AreKeptNames cardinality []) (◌≡◌ {A = List (List ℕ)} [] [])
fit_none true cardinality = record { texts = All-nil IsUtf8; short = All-nil (λ name. length name ≤ TEXT_BYTES); differ = refl; few = omega arith }
fit_none false cardinality = refl

none_fit : (dims : List DimDecl) → AllZip FitKeptNames dims (map (λ dim. []) dims)
none_fit [] = tt
none_fit (dim ∷ dims) = (fit_none dim.text dim.cardinality, none_fit dims)

-- ---- names of cubes

made_fit : (made : List Decl) → HaveKeptNames made (map no_names made)
made_fit [] = tt
made_fit (cube ∷ made) = (none_fit cube.dims, made_fit made)

cubes_more : (from epoch : ℕ) (cubes : List Decl) (names : List DimNames) (parts : List RoundCube) → HaveKeptNames cubes names
    → AllZip (λ c part. FitsRoundCube from epoch c.0 c.1 part) (zip cubes names) parts
    → HaveKeptNames cubes (map (λ c. names_with c.0 c.1.names) (zip names parts))
cubes_more from epoch [] [] [] kept fits = tt
cubes_more from epoch [] [] (part ∷ parts) kept fits = absurd fits
cubes_more from epoch [] (lists ∷ names) parts kept fits = absurd kept
cubes_more from epoch (cube ∷ cubes) [] parts kept fits = absurd kept
cubes_more from epoch (cube ∷ cubes) (lists ∷ names) [] kept fits = absurd fits
cubes_more from epoch (cube ∷ cubes) (lists ∷ names) (part ∷ parts) kept fits =
    (lists_more cube.dims lists part.names kept.0 fits.0.names, cubes_more from epoch cubes names parts kept.1 fits.1)

-- The names before a round, with those of its new cubes.
pub names_with_made : (cubes made : List Decl) (names : List DimNames) → HaveKeptNames cubes names → HaveKeptNames (cubes ++ made) (names ++ map no_names made)
names_with_made cubes made names kept = fit_append HasKeptNames cubes made names (map no_names made) kept (made_fit made)

pub names_after : (cubes : List Decl) (names : List DimNames) (round : Round) → HaveKeptNames cubes names → FitsRound cubes names round
    → HaveKeptNames (cubes ++ round.made) (names_behind names round)
names_after cubes names round kept fits =
    cubes_more round.from round.epoch (cubes ++ round.made) (names ++ map no_names round.made) round.cubes (names_with_made cubes round.made names kept) fits.cubes

-- A list of names for each dimension.
pub dims_of : (cubes : List Decl) (names : List DimNames) → HaveKeptNames cubes names → HaveDims cubes names
dims_of cubes names kept = fit_weaker HasKeptNames (λ cube lists. length lists ≡ length cube.dims) (λ cube lists fit. AllZip-long FitKeptNames cube.dims lists fit) cubes names kept

-- ---- cubes

names_in : (lines : List Line) → cube_names lines ≡ cube_names_of (cubes_in lines)
names_in [] = refl
names_in (Skipped ∷ lines) = names_in lines
names_in (Cube name ∷ lines) = ap (λ names. name ∷ names) (names_in lines)
names_in (Dim d ∷ lines) = names_in lines
names_in (Metric name ∷ lines) = names_in lines

pub sound_first : (cubes : List Decl) → Declares (cubes_text cubes) cubes → IsSoundKept (kept_of_cubes cubes)
sound_first cubes declares =
    let names : cube_names declares.lines ≡ cube_names_of cubes = names_in declares.lines ∙ ap (λ (ds : List Decl). cube_names_of ds) (sym declares.are) in
    record {
      few = omega (arith, declares.few, ap (λ (n : List (List ℕ)). length n) names, length-map cubes (λ (cube : Decl). cube.name));
      differ = ap first_repeated (sym names) ∙ declares.names;
      storable = declares.storable;
      declared = omega arith;
      lists = dims_of cubes (map no_names cubes) (made_fit cubes);
      names = made_fit cubes;
    }

pub sound_more : (kept : Kept) (round : Round) → IsSoundKept kept → FitsRound kept.cubes kept.names round → IsSoundKept (kept_with kept round)
sound_more kept round sound fits =
    let names = names_after kept.cubes kept.names round sound.names fits in
    record {
      few = fits.made.most;
      differ = ap first_repeated (map-append (λ (cube : Decl). cube.name) kept.cubes round.made)
          ∙ apart_joined (cube_names_of kept.cubes) (cube_names_of round.made) sound.differ fits.made.apart;
      storable = All-append IsStorable kept.cubes round.made sound.storable fits.made.declared.storable;
      declared = omega (arith, sound.declared, length-append kept.cubes round.made);
      lists = dims_of (kept.cubes ++ round.made) (names_behind kept.names round) names;
      names = names;
    }

sound_all : (kept : Kept) (rounds : List Round) → IsSoundKept kept → RoundsMayFollow kept rounds → IsSoundKept (kept_with_all kept rounds)
sound_all kept [] sound chain = sound
sound_all kept (round ∷ rounds) sound chain = sound_all (kept_with kept round) rounds (sound_more kept round sound chain.1) chain.2

pub file_sound : (kept : Kept) → IsKeptByFile kept → IsSoundKept kept
file_sound kept by = coe 1 0 (i. IsSoundKept (by.are i)) (sound_all (kept_of_cubes by.cubes) by.rounds (sound_first by.cubes by.declares) by.chain)
