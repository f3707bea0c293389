-- A dictionary that is given names, one after the other.
use Rattle.std.proofs.Common.{◌≡◌, ℕ, zero, suc, ◌-◌, ◌<◌, cond, List, [], ◌∷◌, ◌++◌, length, set, replicate, refl, sym, ap, subst, ◌∙◌, arith, get_or-set_same}
use Rattle.std.proofs.lemmas.Bool.{lt-ltb}
use Rattle.std.proofs.lemmas.List.{length-append, length-set, set-set, set-get_or}
use Rattle.cube_values.specs.declared.shape.CubeShape.{CubeShape}
use Rattle.names_dict.specs.declared.code.Code.{Code}
use Rattle.names_dict.specs.declared.code.Code.TheVariants.{Added}
use Rattle.names_dict.specs.Dictionaries.{Dictionary, IsSoundDictionary, code_of, with_code, dictionary_in, dictionaries_of, dictionary_at, dictionary_for, made_dictionaries, with_dictionaries, IsEncoded, IsCodeFor}
use Rattle.names_dict.proofs.Places.{added_code}
use Rattle.kept_data.specs.KeptDicts.{with_names, with_names_at}
use Rattle.kept_data.proofs.ApartNames.{not_found}

abbrev pub nameless : Dictionary
nameless = record { cardinality = 0; names = [] }

cube_within : (cubes : List (List Dictionary)) (cube dim : ℕ) → dim < length (dictionaries_of cubes cube) → cube < length cubes
cube_within [] cube dim lt = absurd (omega arith)
cube_within (dims ∷ cubes) zero dim lt = omega arith
cube_within (dims ∷ cubes) (suc cube) dim lt = let rest = cube_within cubes cube dim lt in omega (arith, rest)

none_named : (d : Dictionary) → d.names ≡ [] → with_names d [] ≡ d
none_named d none = λ i. record { cardinality = d.cardinality; names = sym none i }

-- Before the first name.
pub no_names_yet : (cubes : List (List Dictionary)) (cube dim : ℕ) → (dictionary_at cubes cube dim).names ≡ [] → cubes ≡ with_names_at cubes cube dim []
no_names_yet cubes cube dim none =
    sym (ap (λ (d : Dictionary). set cubes cube (set (dictionaries_of cubes cube) dim d)) (none_named (dictionary_at cubes cube dim) none)
    ∙ ap (λ (dims : List Dictionary). set cubes cube dims) (set-get_or (dictionaries_of cubes cube) dim nameless)
    ∙ set-get_or cubes cube [])

stay_made : (shape : CubeShape) (dims : List Dictionary) → 0 < length dims → made_dictionaries shape dims ≡ dims
stay_made shape [] some = absurd (omega arith)
stay_made shape (d ∷ dims) some = refl

-- The dictionaries of the cube, of which one has got some names.
partly_named : (shape : CubeShape) (cubes : List (List Dictionary)) (cube dim : ℕ) (names : List (List ℕ)) → dim < length (dictionaries_of cubes cube)
    → made_dictionaries shape (dictionaries_of (with_names_at cubes cube dim names) cube)
    ≡ set (dictionaries_of cubes cube) dim (with_names (dictionary_at cubes cube dim) names)
partly_named shape cubes cube dim names lt =
    let dims = dictionaries_of cubes cube in
    let named = set dims dim (with_names (dictionary_at cubes cube dim) names) in
    ap (made_dictionaries shape) (get_or-set_same cubes cube named [] (cube_within cubes cube dim lt))
    ∙ stay_made shape named (omega (arith, lt, length-set dims dim (with_names (dictionary_at cubes cube dim) names)))

that_named : (shape : CubeShape) (cubes : List (List Dictionary)) (cube dim : ℕ) (names : List (List ℕ)) → dim < length (dictionaries_of cubes cube)
    → dictionary_for shape (with_names_at cubes cube dim names) cube dim ≡ with_names (dictionary_at cubes cube dim) names
that_named shape cubes cube dim names lt =
    ap (λ (dims : List Dictionary). dictionary_in dims dim) (partly_named shape cubes cube dim names lt)
    ∙ get_or-set_same (dictionaries_of cubes cube) dim (with_names (dictionary_at cubes cube dim) names) nameless lt

-- The next name is to be added.
next_code : (d : Dictionary) (front : List (List ℕ)) (name : List ℕ) (back : List (List ℕ)) → IsSoundDictionary (with_names d (front ++ name ∷ back))
    → Added (length front) ≡ code_of (with_names d front) name
next_code d front name back sound =
    added_code (with_names d front) name (length front) (sym (not_found front name back sound.distinct)) refl
    (omega (arith, sound.fits, length-append front (name ∷ back)))

placed : (cubes new : List (List Dictionary)) (cube : ℕ) (dims more : List Dictionary) → cube < length cubes
    → new ≡ with_dictionaries (set cubes cube dims) cube more → new ≡ set cubes cube more
placed cubes new cube dims more lt is =
    let old = set cubes cube dims in
    is
    ∙ ap (λ b. cond b (set old cube more) (old ++ replicate (cube - length old) [] ++ more ∷ [])) (lt-ltb cube (length old) (omega (arith, lt, length-set cubes cube dims)))
    ∙ set-set cubes cube dims more

-- One name more.
name_added : (shape : CubeShape) (cubes new : List (List Dictionary)) (cube dim : ℕ) (front : List (List ℕ)) (name : List ℕ) (back : List (List ℕ)) (code : Code)
    → dim < length (dictionaries_of cubes cube) → IsSoundDictionary (with_names (dictionary_at cubes cube dim) (front ++ name ∷ back))
    → IsCodeFor shape (with_names_at cubes cube dim front) cube dim name code → IsEncoded shape cube dim name (with_names_at cubes cube dim front) new code
    → new ≡ with_names_at cubes cube dim (front ++ name ∷ [])
name_added shape cubes new cube dim front name back code lt sound code-is is =
    let d = dictionary_at cubes cube dim in
    let dims = dictionaries_of cubes cube in
    let added : code ≡ Added (length front) = code-is ∙ ap (λ (e : Dictionary). code_of e name) (that_named shape cubes cube dim front lt) ∙ sym (next_code d front name back sound) in
    let made = partly_named shape cubes cube dim front lt in
    let there : dictionary_in (set dims dim (with_names d front)) dim ≡ with_names d front = get_or-set_same dims dim (with_names d front) nameless lt in
    let whole : new ≡ with_dictionaries (with_names_at cubes cube dim front) cube (set dims dim (with_names d (front ++ name ∷ []))) =
    is
    ∙ ap (λ (ds : List Dictionary). with_dictionaries (with_names_at cubes cube dim front) cube (set ds dim (with_code (dictionary_in ds dim) name code))) made
    ∙ (λ i. with_dictionaries (with_names_at cubes cube dim front) cube (set (set dims dim (with_names d front)) dim (with_code (there i) name (added i))))
    ∙ ap (λ (ds : List Dictionary). with_dictionaries (with_names_at cubes cube dim front) cube ds) (set-set dims dim (with_names d front) (with_names d (front ++ name ∷ []))) in
    placed cubes new cube (set dims dim (with_names d front)) (set dims dim (with_names d (front ++ name ∷ []))) (cube_within cubes cube dim lt) whole

pub one_name_more : (shape : CubeShape) (cubes current new : List (List Dictionary)) (cube dim : ℕ) (front : List (List ℕ)) (name : List ℕ) (back names : List (List ℕ)) (code : Code)
    → current ≡ with_names_at cubes cube dim front → dim < length (dictionaries_of cubes cube) → names ≡ front ++ name ∷ back
    → IsSoundDictionary (with_names (dictionary_at cubes cube dim) names) → IsCodeFor shape current cube dim name code → IsEncoded shape cube dim name current new code
    → new ≡ with_names_at cubes cube dim (front ++ name ∷ [])
one_name_more shape cubes current new cube dim front name back names code so_far lt parts sound code-is is =
    name_added shape cubes new cube dim front name back code lt
    (subst (λ (all : List (List ℕ)). IsSoundDictionary (with_names (dictionary_at cubes cube dim) all)) parts sound)
    (subst (λ (old : List (List Dictionary)). IsCodeFor shape old cube dim name code) so_far code-is)
    (subst (λ (old : List (List Dictionary)). IsEncoded shape cube dim name old new code) so_far is)
