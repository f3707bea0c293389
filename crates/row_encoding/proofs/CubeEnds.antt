-- Dictionaries that get no more names.
use Rattle.std.proofs.Common.{◌≡◌, ◌⊎◌, ℕ, ◌<◌, ◌≤◌, zero, suc, List, [], ◌∷◌, length, map, get_or, refl, sym, ap, ◌∙◌, subst, inl, inr, arith}
use Rattle.std.proofs.lemmas.List.{take_all}
use Rattle.std.proofs.lemmas.Option.{unwrap_or-slice_get}
use Rattle.std.specs.List.{AllZip}
use Rattle.cube_language.specs.declared.decl.Decl.{Decl}
use Rattle.names_dict.specs.Dictionaries.{Dictionary, dictionaries_of, dictionary_at, dictionary_in, names_of}
use Rattle.condition_spans.specs.Codes.{lists_at, texts_at}
use Rattle.row_encoding.specs.FinalCodes.{dim_at}
use Rattle.row_encoding.specs.DictsAsEncoder.{IsDictionaryOf, MayBecome, MayEndAsTheyAre, NoneSuit}
use Rattle.row_encoding.proofs.CubeSteps.{zip_at, zip_length}

pub none_suit : NoneSuit
none_suit zero d = inl refl
none_suit (suc place) d = inl refl

read_mapped : {X Y : Type 0} (f : X → Y) (xs : List X) (i : ℕ) (d : X) → get_or (map f xs) i (f d) ≡ f (get_or xs i d)
read_mapped f [] i d = refl
read_mapped f (x ∷ xs) zero d = refl
read_mapped f (x ∷ xs) (suc i) d = read_mapped f xs i d

lists_of : (cubes : List (List Dictionary)) (place : ℕ) → lists_at (names_of cubes) place ≡ map (λ (d : Dictionary). d.names) (dictionaries_of cubes place)
lists_of cubes place =
    unwrap_or-slice_get (names_of cubes) place [] ∙ read_mapped (λ (dims : List Dictionary). map (λ (d : Dictionary). d.names) dims) cubes place []

names_in : (cubes : List (List Dictionary)) (place dim : ℕ) → texts_at (lists_at (names_of cubes) place) dim ≡ (dictionary_at cubes place dim).names
names_in cubes place dim =
    ap (λ (lists : List (List (List ℕ))). texts_at lists dim) (lists_of cubes place)
    ∙ unwrap_or-slice_get (map (λ (d : Dictionary). d.names) (dictionaries_of cubes place)) dim []
    ∙ read_mapped (λ (d : Dictionary). d.names) (dictionaries_of cubes place) dim (dictionary_in [] 0)

few_names : (d : Decl) (dims : List Dictionary) (dim : ℕ) → (dims ≡ []) ⊎ AllZip IsDictionaryOf d.dims dims → dim < length dims
    → length (dictionary_in dims dim).names ≤ (dictionary_in dims dim).cardinality
few_names d dims dim (inl none) below = let l = ap length none in absurd (omega (arith, l, below))
few_names d dims dim (inr fit) below =
    let l = zip_length IsDictionaryOf d.dims dims fit in
    (zip_at IsDictionaryOf d.dims dims dim (dim_at [] 0) (dictionary_in [] 0) fit (omega (arith, l, below))).few

pub may_end_as_they_are : MayEndAsTheyAre
may_end_as_they_are cubes suits place dim below =
    let (d, suit) = suits place in
    subst (λ (names : List (List ℕ)). MayBecome (dictionary_at cubes place dim) names) (sym (names_in cubes place dim))
    (record {
      first = take_all (length (dictionary_at cubes place dim).names) (dictionary_at cubes place dim).names (omega arith);
      few = few_names d (dictionaries_of cubes place) dim suit below;
    })
