-- The shape of what can be stored is sound.
use Rattle.std.proofs.Common.{◌≡◌, ℕ, ◌+◌, ◌^◌, ◌≤◌, ◌<◌, Bool, true, false, cond, ◌||◌, List, [], ◌∷◌, ◌++◌, length, get_or, take, map, Option, Some, None, refl, sym, ap, ◌∙◌, arith}
use Rattle.std.specs.Prelude.{All, find, nat_lt}
use Rattle.std.specs.Option.{option_map}
use Rattle.std.proofs.lemmas.Bool.{or_parts, ltb-false}
use Rattle.std.proofs.lemmas.Bool.Decides.{nat_tests}
use Rattle.std.proofs.lemmas.List.{take_more, take_all, map_more, length-map}
use Rattle.std.proofs.lemmas.List.Elements.{All-nil, All-cons, All-head, All-tail, All-append}
use Rattle.cube_values.specs.declared.shape.Size.{Size}
use Rattle.cube_values.specs.Shapes.{IsSoundSize, IsSoundShape, IsSoundCube, bricks_of}
use Rattle.cube_language.specs.declared.decl.DimDecl.{DimDecl}
use Rattle.cube_language.specs.declared.decl.Decl.{Decl}
use Rattle.cube_language.specs.declared.cubes_fault.SchemaFault.{SchemaFault}
use Rattle.cube_language.specs.declared.cubes_fault.SchemaFault.TheVariants.{DuplicateName, ZeroCardinality, RangeTooLarge, TooManyBricks, TooManyColumns}
use Rattle.cube_language.specs.Cubes.{has_zero, has_large_range, first_some, first_repeated, column_names, duplicate_in, zero_in, large_range_in, many_bricks_in, many_columns_in, no_metric_in, IsStorable, size_of, sizes_of}
use Rattle.cube_schema.specs.Dimensions.{AreNotZero}
use Rattle.cube_schema.proofs.Bricks.{none_found}

first_none : {A : Type 0} (found : Option A) (others : List (Option A)) → first_some (found ∷ others) ≡ None → (found ≡ None) × (first_some others ≡ None)
first_none None others none = (refl, none)
first_none (Some x) others none = absurd cc

unmapped_none : {A B : Type 0} (f : A → B) (found : Option A) → option_map f found ≡ None → found ≡ None
unmapped_none f None none = refl
unmapped_none f (Some x) none = absurd cc

not_chosen : {A : Type 0} (b : Bool) (x : A) → cond b (Some x) None ≡ None → b ≡ false
not_chosen true x none = absurd cc
not_chosen false x none = refl

-- What holds of a declaration that can be stored.
pub record StorableParts (d : Decl) : Type 0 where
  pub distinct : first_repeated (column_names d) ≡ None
  pub coords : AreNotZero d.dims
  pub ranges : find has_large_range d.dims ≡ None
  pub bricks : bricks_of (sizes_of d.dims) ≤ 2 ^ 62
  pub dims : length d.dims ≤ 16
  pub metrics : length d.metrics ≤ 16

pub parts_of : (d : Decl) → IsStorable d → StorableParts d
parts_of d storable =
    let last : List (Option SchemaFault) = no_metric_in d ∷ [] in
    let p = first_none (duplicate_in d) (zero_in d ∷ large_range_in d ∷ many_bricks_in d ∷ many_columns_in d ∷ last) storable in
    let q = first_none (zero_in d) (large_range_in d ∷ many_bricks_in d ∷ many_columns_in d ∷ last) p.1 in
    let r = first_none (large_range_in d) (many_bricks_in d ∷ many_columns_in d ∷ last) q.1 in
    let s = first_none (many_bricks_in d) (many_columns_in d ∷ last) r.1 in
    let t = first_none (many_columns_in d) last s.1 in
    let bricks = not_chosen (nat_lt (2 ^ 62) (bricks_of (sizes_of d.dims))) TooManyBricks s.0 in
    let columns = or_parts (nat_lt 16 (length d.dims)) (nat_lt 16 (length d.metrics)) (not_chosen (nat_lt 16 (length d.dims) || nat_lt 16 (length d.metrics)) TooManyColumns t.0) in
    record {
      distinct = unmapped_none DuplicateName (first_repeated (column_names d)) p.0;
      coords = unmapped_none (λ dim. ZeroCardinality dim.name) (find has_zero d.dims) q.0;
      ranges = unmapped_none (λ dim. RangeTooLarge dim.name) (find has_large_range d.dims) r.0;
      bricks = ltb-false _ _ bricks;
      dims = ltb-false _ _ columns.0;
      metrics = ltb-false _ _ columns.1;
    }

sound_size : (dim : DimDecl) → has_zero dim ≡ false → has_large_range dim ≡ false → dim.cardinality < 2 ^ 32 → IsSoundSize (size_of dim)
sound_size dim coords range small = record { range = grind (arith, nat_tests); fits = grind (arith, nat_tests); small = small }

sound_sizes : (dims : List DimDecl) → AreNotZero dims → find has_large_range dims ≡ None → All (λ (dim : DimDecl). dim.cardinality < 2 ^ 32) dims → All IsSoundSize (sizes_of dims)
sound_sizes [] coords ranges small = All-nil IsSoundSize
sound_sizes (dim ∷ dims) coords ranges small =
    let P : DimDecl → Type 0 = λ d. d.cardinality < 2 ^ 32 in
    let c = none_found has_zero dim dims coords in
    let r = none_found has_large_range dim dims ranges in
    All-cons IsSoundSize (size_of dim) (sizes_of dims) (sound_size dim c.0 r.0 (All-head P dim dims small)) (sound_sizes dims c.1 r.1 (All-tail P dim dims small))

pub sound_shape : (d : Decl) → IsStorable d → All (λ (dim : DimDecl). dim.cardinality < 2 ^ 32) d.dims → IsSoundShape (record { sizes = sizes_of d.dims })
sound_shape d storable small =
    let parts = parts_of d storable in
    record { sizes = sound_sizes d.dims parts.coords parts.ranges small; bricks = parts.bricks; dims = omega (arith, parts.dims, length-map d.dims size_of) }

-- The sizes and kinds of dimensions so far.
pub record AreSoFar (dims : List DimDecl) (sizes : List Size) (texts : List Bool) : Type 0 where
  pub sizes_are : sizes ≡ sizes_of dims
  pub texts_are : texts ≡ map (λ dim. dim.text) dims
  pub small : All (λ (dim : DimDecl). dim.cardinality < 2 ^ 32) dims

pub one_more : (dims : List DimDecl) (i : ℕ) (dim : DimDecl) (size : Size) (sizes after : List Size) (texts texts_after : List Bool) → i < length dims → dim ≡ get_or dims i dim → dim.cardinality < 2 ^ 32 → size ≡ size_of dim → AreSoFar (take i dims) sizes texts
    → after ≡ sizes ++ size ∷ [] → texts_after ≡ texts ++ dim.text ∷ [] → AreSoFar (take (i + 1) dims) after texts_after
one_more dims i dim size sizes after texts texts_after lt is small size_is so_far more more_texts =
    let P : DimDecl → Type 0 = λ d. d.cardinality < 2 ^ 32 in
    let kind : DimDecl → Bool = λ d. d.text in
    record {
      sizes_are = more ∙ (λ i. so_far.sizes_are i ++ (size_is ∙ ap size_of is) i ∷ []) ∙ sym (map_more size_of dims i dim lt);
      texts_are = more_texts ∙ (λ i. so_far.texts_are i ++ (is i).text ∷ []) ∙ sym (map_more kind dims i dim lt);
      small = rw (take_more dims i dim lt) (All-append P (take i dims) (get_or dims i dim ∷ []) so_far.small (All-cons P (get_or dims i dim) [] (rw (sym is) small) (All-nil P)));
    }

pub sound_cube : (d : Decl) (i : ℕ) (sizes : List Size) (texts : List Bool) (metrics : ℕ) → IsStorable d → length d.dims ≤ i → AreSoFar (take i d.dims) sizes texts → metrics ≡ length d.metrics
    → IsSoundCube (record { shape = record { sizes = sizes }; texts = texts; metrics = metrics })
sound_cube d i sizes texts metrics storable le so_far count =
    let whole : AreSoFar d.dims sizes texts = rw (take_all i d.dims le) at so_far in
    let shape : IsSoundShape (record { sizes = sizes }) = rw whole.sizes_are (sound_shape d storable whole.small) in
    let kind : DimDecl → Bool = λ dim. dim.text in
    let flags : length texts ≡ length sizes = ap length whole.texts_are ∙ length-map d.dims kind ∙ sym (length-map d.dims size_of) ∙ sym (ap length whole.sizes_are) in
    let few = (parts_of d storable).metrics in
    record { shape = shape; flags = flags; metrics = rw count few }
