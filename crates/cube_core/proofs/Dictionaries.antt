-- The dictionaries after a name got a code: that of its dimension has changed, the others have not.
use Rattle.std.proofs.Common.{◌≡◌, ◌≢◌, ◌⊎◌, ◌∙◌, ℕ, zero, suc, ◌+◌, ◌-◌, ◌<◌, ◌≤◌, Bool, true, false, true≢false, nat_lt, ltb-true, ltb-false, List, [], ◌∷◌, ◌++◌, length, get_or, set, replicate, inl, inr, refl, sym, ap, arith, if◌then◌else◌, get_or-set_same, get_or-set_other, get_or-append-add, append_assoc}
use Rattle.std.proofs.lemmas.List.{get_or_past}
use Rattle.std.proofs.lemmas.Bool.{false≢true}
use Rattle.cube_values.specs.declared.shape.CubeShape.{CubeShape}
use Rattle.cube_values.specs.declared.shape.Size.{Size}
use Rattle.names_dict.specs.declared.code.Code.{Code}
use Rattle.names_dict.specs.Dictionaries.{Dictionary, code_of, with_code, empty_dictionaries, new_dictionaries, dictionary_in, dictionaries_of, dictionary_for, made_dictionaries, with_dictionaries, encoded_dictionaries, IsEncoded}

-- The dictionaries of a cube are in their place, and those of the others are as before.

front-same : {X : Type 0} (xs ys : List X) (k : ℕ) (d : X) → k < length xs → get_or (xs ++ ys) k d ≡ get_or xs k d
front-same [] ys k d l = absurd (omega (arith, l))
front-same (x ∷ xs) ys zero d l = refl
front-same (x ∷ xs) ys (suc k) d l = front-same xs ys k d (omega (arith, l))

after-missing : {X : Type 0} (n : ℕ) (x y : X) → get_or (replicate n y ++ x ∷ []) n y ≡ x
after-missing zero x y = refl
after-missing (suc n) x y = after-missing n x y

among-missing : {X : Type 0} (n k : ℕ) (x y : X) → k ≢ n → get_or (replicate n y ++ x ∷ []) k y ≡ y
among-missing zero zero x y other = absurd (other refl)
among-missing zero (suc k) x y other = refl
among-missing (suc n) zero x y other = refl
among-missing (suc n) (suc k) x y other = among-missing n k x y (λ same. other (ap suc same))

below-or-not : (a b : ℕ) → (a < b) ⊎ (b ≤ a)
below-or-not a b = at (nat_lt a b) refl
  where
    at : (t : Bool) → nat_lt a b ≡ t → (a < b) ⊎ (b ≤ a)
    at true is = inl (ltb-true a b is)
    at false is = inr (ltb-false a b is)

lt-says : (t : Bool) (a b : ℕ) → nat_lt a b ≡ t → (t ≡ true → a < b) × (t ≡ false → b ≤ a)
lt-says true a b is = ((λ e. ltb-true a b is), (λ e. absurd (true≢false e)))
lt-says false a b is = ((λ e. absurd (false≢true e)), (λ e. ltb-false a b is))

-- Where an item stands behind missing ones.
behind : (cubes : List (List Dictionary)) (n k : ℕ) (dims : List Dictionary)
    → get_or (cubes ++ replicate n [] ++ dims ∷ []) k [] ≡ get_or (cubes ++ (replicate n [] ++ dims ∷ [])) k []
behind cubes n k dims = ap (λ (xs : List (List Dictionary)). get_or xs k []) (append_assoc cubes (replicate n []) (dims ∷ []))

own-place : (t : Bool) (cubes : List (List Dictionary)) (cube : ℕ) (dims : List Dictionary)
    → (t ≡ true → cube < length cubes) → (t ≡ false → length cubes ≤ cube)
    → get_or (if t then set cubes cube dims else cubes ++ replicate (cube - length cubes) [] ++ dims ∷ []) cube [] ≡ dims
own-place true cubes cube dims below above = get_or-set_same cubes cube dims [] (below refl)
own-place false cubes cube dims below above =
    let high = above refl in
    let at : length cubes + (cube - length cubes) ≡ cube = omega (arith, high) in
    ap (λ n. get_or (cubes ++ replicate (cube - length cubes) [] ++ dims ∷ []) n []) (sym at)
    ∙ behind cubes (cube - length cubes) (length cubes + (cube - length cubes)) dims
    ∙ get_or-append-add cubes (replicate (cube - length cubes) [] ++ dims ∷ []) (cube - length cubes) []
    ∙ after-missing (cube - length cubes) dims []

other-place : (t : Bool) (cubes : List (List Dictionary)) (cube k : ℕ) (dims : List Dictionary)
    → (t ≡ true → cube < length cubes) → (t ≡ false → length cubes ≤ cube) → k ≢ cube
    → get_or (if t then set cubes cube dims else cubes ++ replicate (cube - length cubes) [] ++ dims ∷ []) k []
    ≡ get_or cubes k []
other-place true cubes cube k dims below above other = get_or-set_other cubes cube k dims [] other
other-place false cubes cube k dims below above other = at (below-or-not k (length cubes))
  where
    high : length cubes ≤ cube
    high = above refl

    at : (k < length cubes) ⊎ (length cubes ≤ k)
        → get_or (cubes ++ replicate (cube - length cubes) [] ++ dims ∷ []) k [] ≡ get_or cubes k []
    at (inl low) = behind cubes (cube - length cubes) k dims ∙ front-same cubes (replicate (cube - length cubes) [] ++ dims ∷ []) k [] low
    at (inr past) =
        let place : length cubes + (k - length cubes) ≡ k = omega (arith, past) in
        behind cubes (cube - length cubes) k dims
        ∙ ap (λ n. get_or (cubes ++ (replicate (cube - length cubes) [] ++ dims ∷ [])) n []) (sym place)
        ∙ get_or-append-add cubes (replicate (cube - length cubes) [] ++ dims ∷ []) (k - length cubes) []
        ∙ among-missing (cube - length cubes) (k - length cubes) dims [] (λ same. other (omega (arith, high, past, same)))
        ∙ sym (get_or_past cubes k [] past)

pub placed-own : (cubes : List (List Dictionary)) (cube : ℕ) (dims : List Dictionary)
    → dictionaries_of (with_dictionaries cubes cube dims) cube ≡ dims
placed-own cubes cube dims =
    let says = lt-says (nat_lt cube (length cubes)) cube (length cubes) refl in
    own-place (nat_lt cube (length cubes)) cubes cube dims says.0 says.1

pub placed-other : (cubes : List (List Dictionary)) (cube k : ℕ) (dims : List Dictionary) → k ≢ cube
    → dictionaries_of (with_dictionaries cubes cube dims) k ≡ dictionaries_of cubes k
placed-other cubes cube k dims other =
    let says = lt-says (nat_lt cube (length cubes)) cube (length cubes) refl in
    other-place (nat_lt cube (length cubes)) cubes cube k dims says.0 says.1 other

-- Dictionaries that are made stay made.
set-made : (shape : CubeShape) (ys : List Dictionary) (dim : ℕ) (v : Dictionary) → new_dictionaries shape ≡ ys
    → made_dictionaries shape (set ys dim v) ≡ set ys dim v
set-made shape [] dim v new = new
set-made shape (y ∷ ys) zero v new = refl
set-made shape (y ∷ ys) (suc dim) v new = refl

made-stays : (shape : CubeShape) (xs : List Dictionary) (dim : ℕ) (v : Dictionary)
    → made_dictionaries shape (set (made_dictionaries shape xs) dim v) ≡ set (made_dictionaries shape xs) dim v
made-stays shape [] dim v = set-made shape (new_dictionaries shape) dim v refl
made-stays shape (x ∷ xs) zero v = refl
made-stays shape (x ∷ xs) (suc dim) v = refl

-- The dictionary of the name's dimension has its code; where there is no such dimension the code is Full.
pub coded-own : (dims : List Dictionary) (dim : ℕ) (name : List ℕ) (code : Code)
    → code ≡ code_of (dictionary_in dims dim) name
    → dictionary_in (encoded_dictionaries dim name dims code) dim ≡ with_code (dictionary_in dims dim) name code
coded-own [] dim name code is = sym (ap (with_code (record { cardinality = 0; names = [] }) name) is)
coded-own (d ∷ dims) zero name code is = refl
coded-own (d ∷ dims) (suc dim) name code is = coded-own dims dim name code is

pub coded-other : (dims : List Dictionary) (dim k : ℕ) (name : List ℕ) (code : Code) → k ≢ dim
    → dictionary_in (encoded_dictionaries dim name dims code) k ≡ dictionary_in dims k
coded-other dims dim k name code other =
    get_or-set_other dims dim k (with_code (dictionary_in dims dim) name code) (record { cardinality = 0; names = [] }) other

-- The dictionaries of the name's cube.
pub encoded-own : (shape : CubeShape) (names new : List (List Dictionary)) (cube dim k : ℕ) (name : List ℕ) (code : Code)
    → IsEncoded shape cube dim name names new code
    → dictionary_for shape new cube k
    ≡ dictionary_in (encoded_dictionaries dim name (made_dictionaries shape (dictionaries_of names cube)) code) k
encoded-own shape names new cube dim k name code is =
    let dims = made_dictionaries shape (dictionaries_of names cube) in
    let v = with_code (dictionary_in dims dim) name code in
    ap (λ (n : List (List Dictionary)). dictionary_for shape n cube k) is
    ∙ ap (λ (ds : List Dictionary). dictionary_in (made_dictionaries shape ds) k) (placed-own names cube (set dims dim v))
    ∙ ap (λ (ds : List Dictionary). dictionary_in ds k) (made-stays shape (dictionaries_of names cube) dim v)

-- A dictionary that is not made has no names.
empty-names : (sizes : List Size) (texts : List Bool) (dim : ℕ) → (dictionary_in (empty_dictionaries sizes texts) dim).names ≡ []
empty-names [] texts dim = refl
empty-names (s ∷ sizes) [] dim = refl
empty-names (s ∷ sizes) (t ∷ texts) zero = refl
empty-names (s ∷ sizes) (t ∷ texts) (suc dim) = empty-names sizes texts dim

pub names-same : (shape : CubeShape) (dims : List Dictionary) (dim : ℕ)
    → (dictionary_in dims dim).names ≡ (dictionary_in (made_dictionaries shape dims) dim).names
names-same shape [] dim = sym (empty-names shape.shape.sizes shape.texts dim)
names-same shape (d ∷ dims) dim = refl
