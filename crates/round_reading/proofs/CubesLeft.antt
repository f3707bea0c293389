-- Cubes, as loops go over them.
use Rattle.std.proofs.Common.{◌≡◌, ℕ, zero, suc, ◌+◌, ◌<◌, ◌≤◌, List, [], ◌∷◌, ◌++◌, length, map, take, get_or, All, replicate, refl, sym, ap, subst, ◌∙◌, arith}
use Rattle.std.proofs.lemmas.List.{take_more, take_all}
use Rattle.std.proofs.lemmas.List.Elements.{All-push}
use Rattle.cube_language.specs.declared.decl.DimDecl.{DimDecl}
use Rattle.cube_language.specs.declared.decl.Decl.{Decl}
use Rattle.cube_language.specs.Cubes.{IsStorable}
use Rattle.cube_rounds.specs.Demands.{DimNames, no_names, HaveDims}
use Rattle.round_reading.proofs.PayloadLaws.{no_names_dims}

pub one_storable : (cubes : List Decl) (i : ℕ) (cube : Decl) → i < length cubes → cube ≡ get_or cubes i cube → IsStorable cube → All IsStorable (take i cubes) → All IsStorable (take (i + 1) cubes)
one_storable cubes i cube lt is storable so_far =
    let more : take i cubes ++ cube ∷ [] ≡ take (i + 1) cubes = ap (λ (c : Decl). take i cubes ++ c ∷ []) is ∙ sym (take_more cubes i cube lt) in
    subst (All IsStorable) more (All-push IsStorable (take i cubes) cube so_far storable)

pub all_storable : (cubes : List Decl) (i : ℕ) → length cubes ≤ i → All IsStorable (take i cubes) → All IsStorable cubes
all_storable cubes i le so_far = subst (All IsStorable) (take_all i cubes le) so_far

-- As many empty lists as dimensions.
replicated : (dims : List DimDecl) → ◌≡◌ {A = DimNames} (replicate (length dims) []) (map (λ dim. []) dims)
replicated [] = refl
replicated (dim ∷ dims) = ap (λ (l : DimNames). [] ∷ l) (replicated dims)

pub names_none : (cube : Decl) (n : ℕ) (lists : DimNames) → n ≡ length cube.dims → lists ≡ replicate n [] → lists ≡ no_names cube
names_none cube n lists same is = is ∙ ap (λ (k : ℕ). replicate k []) same ∙ replicated cube.dims

named_none : (cubes : List Decl) (names : List DimNames) → names ≡ map no_names cubes → HaveDims cubes names
named_none cubes names is = subst (HaveDims cubes) (sym is) (no_names_dims cubes)

pub named_upto : (cubes : List Decl) (names : List DimNames) (i : ℕ) → length cubes ≤ i → names ≡ map no_names (take i cubes) → HaveDims cubes names
named_upto cubes names i le so_far = named_none cubes names (so_far ∙ ap (map no_names) (take_all i cubes le))

dims_at : (cubes : List Decl) (names : List DimNames) (i : ℕ) (d : Decl) (e : DimNames) → HaveDims cubes names → i < length cubes → length (get_or names i e) ≡ length (get_or cubes i d).dims
dims_at [] names i d e dims lt = absurd (omega arith)
dims_at (cube ∷ cubes) [] i d e dims lt = absurd dims
dims_at (cube ∷ cubes) (lists ∷ names) zero d e dims lt = dims.0
dims_at (cube ∷ cubes) (lists ∷ names) (suc i) d e dims lt = dims_at cubes names i d e dims.1 (omega arith)

-- A cube and its names at one place.
pub dims_of : (cubes : List Decl) (names : List DimNames) (i : ℕ) (d : Decl) (e : DimNames) → HaveDims cubes names → i < length cubes → d ≡ get_or cubes i d → e ≡ get_or names i e → length e ≡ length d.dims
dims_of cubes names i d e dims lt d-is e-is =
    ap (λ (x : DimNames). length x) e-is ∙ dims_at cubes names i d e dims lt ∙ ap (λ (c : Decl). length c.dims) (sym d-is)

-- What was lent of an item is the item.
pub lent : {A : Type 0} (xs : List A) (i : ℕ) (r e : A) → e ≡ r → r ≡ get_or xs i r → e ≡ get_or xs i e
lent xs i r e same is = same ∙ is ∙ ap (get_or xs i) (sym same)
