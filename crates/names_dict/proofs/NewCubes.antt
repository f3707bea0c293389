-- The dictionaries of a new cube, one dimension after the other.
use Rattle.std.proofs.Common.{◌≡◌, ◌↔◌, IsTrue, ℕ, zero, suc, ◌+◌, ◌<◌, Bool, true, false, true≢false, All, Some, slice_get, refl, subst, arith, cond, List, [], ◌∷◌, ◌++◌, length, get_or, drop, sym, ap, ◌∙◌, append_assoc}
use Rattle.std.proofs.lemmas.Bool.{false≢true}
use Rattle.std.proofs.lemmas.List.{drop_more, append-nil, nil_from_length}
use Rattle.std.proofs.lemmas.List.Elements.{All-head, All-tail}
use Rattle.cube_values.specs.Shapes.{IsSoundCube, IsSoundSize}
use Rattle.cube_values.specs.declared.shape.CubeShape.{CubeShape}
use Rattle.cube_values.specs.declared.shape.Size.{Size}
use Rattle.names_dict.specs.Dictionaries.{Dictionary, empty_dictionaries, dictionary_in, dictionary_for, dictionaries_of, made_dictionaries, IsTextDimension, IsToBeAdded}
use Rattle.names_dict.proofs.Places.{added_code}

pub one_more : (made : List Dictionary) (sizes : List Size) (texts : List Bool) (total : List Dictionary) (dim most : ℕ) (s : Size) (text : Bool)
    → made ++ empty_dictionaries (drop dim sizes) (drop dim texts) ≡ total → dim < length sizes → dim < length texts
    → most ≡ cond (get_or texts dim text) (get_or sizes dim s).cardinality 0
    → (made ++ record { cardinality = most; names = [] } ∷ []) ++ empty_dictionaries (drop (dim + 1) sizes) (drop (dim + 1) texts) ≡ total
one_more made sizes texts total dim most s text h l m e =
    append_assoc made (record { cardinality = most; names = [] } ∷ []) (empty_dictionaries (drop (dim + 1) sizes) (drop (dim + 1) texts))
    ∙ ap (λ n. made ++ record { cardinality = n; names = [] } ∷ empty_dictionaries (drop (dim + 1) sizes) (drop (dim + 1) texts)) e
    ∙ sym (λ i. made ++ empty_dictionaries (drop_more sizes dim s l i) (drop_more texts dim text m i))
    ∙ h

pub all_made : (made : List Dictionary) (sizes : List Size) (texts : List Bool) (total : List Dictionary) (dim : ℕ)
    → made ++ empty_dictionaries (drop dim sizes) (drop dim texts) ≡ total → drop dim sizes ≡ [] → made ≡ total
all_made made sizes texts total dim h d = sym (append-nil made) ∙ sym (λ i. made ++ empty_dictionaries (d i) (drop dim texts)) ∙ h

-- ---- a cube's first name

empty_at : (sizes : List Size) (texts : List Bool) (dim : ℕ) → All IsSoundSize sizes → length texts ≡ length sizes → slice_get texts dim ≡ Some true
    → (s : Size) × IsSoundSize s × (dictionary_in (empty_dictionaries sizes texts) dim ≡ record { cardinality = s.cardinality; names = [] })
empty_at [] [] dim sound long text = absurd (cc)
empty_at [] (t ∷ texts) dim sound long text = absurd (omega arith)
empty_at (s ∷ sizes) [] dim sound long text = absurd (omega arith)
empty_at (s ∷ sizes) (t ∷ texts) zero sound long text =
    let yes : t ≡ true = cc in
    (s, All-head IsSoundSize s sizes sound, (λ i. record { cardinality = cond (yes i) s.cardinality 0; names = [] }))
empty_at (s ∷ sizes) (t ∷ texts) (suc dim) sound long text = empty_at sizes texts dim (All-tail IsSoundSize s sizes sound) (omega arith) text

-- it is to be added
pub first_added : (shape : CubeShape) (cubes : List (List Dictionary)) (cube dim : ℕ) (name : List ℕ) → IsSoundCube shape → IsTextDimension shape dim → length (dictionaries_of cubes cube) ≡ 0
    → IsToBeAdded (dictionary_for shape cubes cube dim) name
first_added shape cubes cube dim name sound text none =
    let (s, size, is) = empty_at shape.shape.sizes shape.texts dim sound.shape.sizes sound.flags text in
    let dims : made_dictionaries shape (dictionaries_of cubes cube) ≡ empty_dictionaries shape.shape.sizes shape.texts = ap (made_dictionaries shape) (nil_from_length (dictionaries_of cubes cube) none) in
    subst (λ (d : Dictionary). IsToBeAdded d name) (sym (ap (λ (ds : List Dictionary). dictionary_in ds dim) dims ∙ is))
    (sym (added_code (record { cardinality = s.cardinality; names = [] }) name 0 refl refl (omega (arith, size.range, size.fits))))

pub not_made : (made : Bool) (n : ℕ) → (IsTrue made ↔ (0 < n)) → made ≡ false → n ≡ 0
not_made true n h e = absurd (true≢false e)
not_made false zero h e = refl
not_made false (suc n) h e = absurd (false≢true (h.1 (omega arith)))
