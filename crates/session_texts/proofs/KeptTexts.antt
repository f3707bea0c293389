-- What was told of kept texts, where they are taken, kept, or more calls come.
use Rattle.std.proofs.Common.{◌≡◌, ◌⊎◌, ◌∙◌, ℕ, zero, suc, ◌<◌, ◌≤◌, List, [], ◌∷◌, length, get_or, set, replicate, Option, Some, None, Bool, true, false, cond, refl, sym, ap, subst, inl, inr}
use Rattle.std.specs.Prelude.{IfSome}
use Rattle.std.specs.Str.{bytes_eq}
use Rattle.std.proofs.lemmas.Slice.Eq.{bytes_eq-Decides}
use Rattle.std.proofs.lemmas.Bool.{cases_eq, cases_lt}
use Rattle.std.proofs.lemmas.List.{get_or-set_other, get_or-set_same, length-map, length-replicate, set_past}
use Rattle.std.proofs.lemmas.Option.{none-some, same_Some}
use mathlib.Core.List.{IsPrefix}
use Rattle.cube_language.specs.declared.decl.DimDecl.{DimDecl}
use Rattle.core_program.specs.CoreFits.{CoreEntry}
use Rattle.core_names.specs.KnownNumbers.{TextsByDim, AreNumbersTold}
use Rattle.core_names.proofs.GivenCodes.{none-told, still-told}
use Rattle.row_encoding.specs.FinalCodes.{dim_at}
use Rattle.core_cubes.proofs.StandingCubes.{found-later}
use Rattle.session_texts.specs.declared.texts.FoundCube.{FoundCube}
use Rattle.session_texts.specs.declared.texts.TextsOfCube.{TextsOfCube}
use Rattle.session_texts.specs.ToldTexts.{AreAllTextsTold, AreCubeTextsTold, AreKeptTextsTold, AreOfDimensions, AreTextsTold, IsFoundCube, KeptTexts, cardinalities, kept_at, last_named}

-- ---- more calls

all-later : (own now : List CoreEntry) (cubes : List (Option TextsOfCube)) → IsPrefix own now
    → AreAllTextsTold own cubes → AreAllTextsTold now cubes
all-later own now cubes begins told place cube is =
    let k = told place cube is in
    record {
      dims = k.dims;
      sizes = k.sizes;
      told = record {
        long = k.told.long;
        right = subst (λ (l : List CoreEntry). AreNumbersTold l place k.dims cube.texts) begins.1
            (still-told own begins.0 place k.dims cube.texts k.told.right);
      };
    }

-- ---- what is kept

none-kept : (count place : ℕ) → kept_at (replicate count None) place ≡ None
none-kept zero place = refl
none-kept (suc count) zero = refl
none-kept (suc count) (suc place) = none-kept count place

none-of-them : (own : List CoreEntry) (count : ℕ) (cubes : List (Option TextsOfCube)) → cubes ≡ replicate count None
    → AreAllTextsTold own cubes
none-of-them own count cubes are place cube is =
    absurd (none-some cube (sym (ap (λ (l : List (Option TextsOfCube)). kept_at l place) are ∙ none-kept count place) ∙ is))

at-place : (cubes : List (Option TextsOfCube)) (place : ℕ) (o : Option TextsOfCube) (cube : TextsOfCube)
    → (place < length cubes) ⊎ (length cubes ≤ place) → kept_at (set cubes place o) place ≡ Some cube
    → (o ≡ Some cube) ⊎ (kept_at cubes place ≡ Some cube)
at-place cubes place o cube (inl within) is = inl (sym (get_or-set_same cubes place o None within) ∙ is)
at-place cubes place o cube (inr past) is =
    inr (sym (ap (λ (l : List (Option TextsOfCube)). kept_at l place) (set_past cubes place o past)) ∙ is)

within-or-past : (place n : ℕ) → (place < n) ⊎ (n ≤ place)
within-or-past place n = elim (cases_lt place n) [
  | inl within ↦ inl within
  | inr past ↦ inr past
]

set-told : (own : List CoreEntry) (cubes : List (Option TextsOfCube)) (place : ℕ) (o : Option TextsOfCube)
    → AreAllTextsTold own cubes → ((cube : TextsOfCube) → o ≡ Some cube → AreKeptTextsTold own place cube)
    → AreAllTextsTold own (set cubes place o)
set-told own cubes place o told its p cube is =
    elim (cases_eq p place) [
      | inl same ↦
          let is_here : kept_at (set cubes place o) place ≡ Some cube =
          sym (ap (λ (n : ℕ). kept_at (set cubes place o) n) same) ∙ is
          in
          let here : AreKeptTextsTold own place cube =
          elim (at-place cubes place o cube (within-or-past place (length cubes)) is_here) [
            | inl new ↦ its cube new
            | inr old ↦ told place cube old
          ]
          in
          subst (λ (n : ℕ). AreKeptTextsTold own n cube) (sym same) here
      | inr other ↦
          let o_is : (p ≡ place → ⊥) = other in
          told p cube (sym (get_or-set_other cubes place p o None o_is) ∙ is)
    ]

-- Where nothing is kept of a place any more.
without : (own : List CoreEntry) (cubes now : List (Option TextsOfCube)) (place : ℕ) → now ≡ set cubes place None
    → AreAllTextsTold own cubes → AreAllTextsTold own now
without own cubes now place is told =
    subst (λ (l : List (Option TextsOfCube)). AreAllTextsTold own l) (sym is)
    (set-told own cubes place None told (λ cube no. absurd (none-some cube no)))

-- Where texts are kept.
with-more : (own : List CoreEntry) (cubes now : List (Option TextsOfCube)) (place : ℕ) (cube : TextsOfCube)
    (dims : List DimDecl) → now ≡ set cubes place (Some cube) → AreAllTextsTold own cubes → AreOfDimensions dims cube
    → AreCubeTextsTold own place dims cube.texts → AreAllTextsTold own now
with-more own cubes now place cube dims is told sizes its =
    subst (λ (l : List (Option TextsOfCube)). AreAllTextsTold own l) (sym is)
    (set-told own cubes place (Some cube) told (λ other same.
    subst (λ (t : TextsOfCube). AreKeptTextsTold own place t) (same_Some cube other same)
    (record { dims = dims; sizes = sizes; told = its })))

-- ---- what is taken

as-many : (dims : List DimDecl) → length (cardinalities dims) ≡ length dims
as-many dims = length-map dims (λ (d : DimDecl). d.cardinality)

cardinality-at : (dims : List DimDecl) (dim : ℕ) → (dim_at dims dim).cardinality ≡ get_or (cardinalities dims) dim 0
cardinality-at [] dim = refl
cardinality-at (d ∷ dims) zero = refl
cardinality-at (d ∷ dims) (suc dim) = cardinality-at dims dim

pub kept_told : (own : List CoreEntry) (cubes : List (Option TextsOfCube)) (place : ℕ) (dims : List DimDecl)
    (cube : TextsOfCube) → AreAllTextsTold own cubes → kept_at cubes place ≡ Some cube → AreOfDimensions dims cube
    → AreCubeTextsTold own place dims cube.texts
kept_told own cubes place dims cube told is sizes =
    let k = told place cube is in
    let same : cardinalities k.dims ≡ cardinalities dims = sym k.sizes ∙ sizes in
    record {
      long = k.told.long ∙ sym (as-many k.dims) ∙ ap (λ (l : List ℕ). length l) same
          ∙ as-many dims;
      right = λ dim text number known.
          let r = k.told.right dim text number known in
          record {
            told = r.told;
            below = subst (λ (n : ℕ). number < n)
                (cardinality-at k.dims dim ∙ ap (λ (l : List ℕ). get_or l dim 0) same ∙ sym (cardinality-at dims dim)) r.below;
          };
    }

pub fresh_told : (own : List CoreEntry) (place : ℕ) (dims : List DimDecl) (sizes : List ℕ) (known : TextsByDim)
    → sizes ≡ cardinalities dims → known ≡ replicate (length sizes) [] → AreCubeTextsTold own place dims known
fresh_told own place dims sizes known are none =
    subst (λ (t : TextsByDim). AreCubeTextsTold own place dims t) (sym none)
    (record {
      long = length-replicate (length sizes) [] ∙ ap (λ (l : List ℕ). length l) are
          ∙ as-many dims;
      right = none-told own place (length sizes) dims;
    })

-- ---- all that is kept

found-still : (own now : List CoreEntry) (last : Option FoundCube) → IsPrefix own now → IfSome last (IsFoundCube own)
    → IfSome last (IsFoundCube now)
found-still own now None more found = tt
found-still own now (Some cube) more found = found-later own now cube.name cube.place cube.schema more found

pub texts-later : (own now : List CoreEntry) (kept : KeptTexts) → IsPrefix own now → AreTextsTold own kept
    → AreTextsTold now kept
texts-later own now kept begins told = record {
  found = found-still own now kept.last begins told.found;
  texts = all-later own now kept.cubes begins told.texts;
}

pub none_told : (own : List CoreEntry) (count : ℕ) (kept : KeptTexts) → kept.last ≡ None
    → kept.cubes ≡ replicate count None → AreTextsTold own kept
none_told own count kept none are = record {
  found = subst (λ (last : Option FoundCube). IfSome last (IsFoundCube own)) (sym none) tt;
  texts = none-of-them own count kept.cubes are;
}

pub told_without : (own : List CoreEntry) (kept now : KeptTexts) (place : ℕ)
    → now ≡ record kept { cubes = set kept.cubes place None } → AreTextsTold own kept → AreTextsTold own now
told_without own kept now place is told =
    subst (AreTextsTold own) (sym is)
    (record { found = told.found; texts = without own kept.cubes (set kept.cubes place None) place refl told.texts })

pub told_with : (own : List CoreEntry) (kept now : KeptTexts) (place : ℕ) (cube : TextsOfCube) (dims : List DimDecl)
    → now ≡ record kept { cubes = set kept.cubes place (Some cube) } → AreTextsTold own kept → AreOfDimensions dims cube
    → AreCubeTextsTold own place dims cube.texts → AreTextsTold own now
told_with own kept now place cube dims is told sizes its =
    subst (AreTextsTold own) (sym is)
    (record {
      found = told.found;
      texts = with-more own kept.cubes (set kept.cubes place (Some cube)) place cube dims refl told.texts sizes its;
    })

-- The cube that was found last is kept no more, or another one is.

pub told_no_cube : (own : List CoreEntry) (kept now : KeptTexts) → now ≡ record kept { last = None }
    → AreTextsTold own kept → AreTextsTold own now
told_no_cube own kept now is told =
    subst (AreTextsTold own) (sym is) (record { found = tt; texts = told.texts })

pub told_cube : (own : List CoreEntry) (kept now : KeptTexts) (cube : FoundCube)
    → now ≡ record kept { last = Some cube } → AreTextsTold own kept → IsFoundCube own cube → AreTextsTold own now
told_cube own kept now cube is told found =
    subst (AreTextsTold own) (sym is) (record { found = found; texts = told.texts })

-- A cube that is given by its name has the name, and the session found it.

if-named : (own : List CoreEntry) (name : List ℕ) (cube : FoundCube) (named : Bool) → bytes_eq cube.name name ≡ named
    → IsFoundCube own cube
    → IfSome (cond named (Some cube) None) (λ c. (c.name ≡ name) × IsFoundCube own c)
if-named own name cube true is found = ((bytes_eq-Decides cube.name name).0 is, found)
if-named own name cube false is found = tt

found-so : (own : List CoreEntry) (name : List ℕ) (last : Option FoundCube) → IfSome last (IsFoundCube own)
    → IfSome (last_named name last) (λ c. (c.name ≡ name) × IsFoundCube own c)
found-so own name None found = tt
found-so own name (Some cube) found = if-named own name cube (bytes_eq cube.name name) refl found

pub found_by_name : (own : List CoreEntry) (name : List ℕ) (kept : KeptTexts) (result : Option FoundCube)
    → result ≡ last_named name kept.last → AreTextsTold own kept
    → IfSome result (λ c. (c.name ≡ name) × IsFoundCube own c)
found_by_name own name kept result is told =
    subst (λ (o : Option FoundCube). IfSome o (λ c. (c.name ≡ name) × IsFoundCube own c)) (sym is)
    (found-so own name kept.last told.found)
