-- Cubes, dimensions and bricks by their places: which have texts, how many names they have, and what was copied of them.
use Rattle.std.proofs.Common.{◌≡◌, ◌∙◌, ℕ, zero, suc, ◌+◌, ◌≤◌, Bool, List, [], ◌∷◌, ◌++◌, length, map, get_or, slice_get, slice_index_or, Option, Some, if◌then◌else◌, refl, sym, ap, arith, eq-eqb, ne_eqb}
use Rattle.std.specs.Option.{option_map_or}
use Rattle.std.proofs.lemmas.Option.{none-some, same_Some}
use Rattle.brick_map.specs.Copied.{part_numbered}
use Rattle.cube_language.specs.declared.decl.Decl.{Decl}
use Rattle.cube_language.specs.declared.decl.DimDecl.{DimDecl}
use Rattle.cube_rounds.specs.Bricks.{BrickPart}
use Rattle.cube_rounds.specs.Demands.{AreRising, DimNames, no_names}
use Rattle.cube_schema.specs.Schemas.{cube_of}
use Rattle.copied_rounds.specs.CopiedRounds.{names_of_dim}
use Rattle.following_rounds.proofs.ByPlaces.{mapped}
use Rattle.joined_copies.specs.JoinedCopies.{ShardCopy}
use Rattle.round_copies.specs.RoundCopies.{texts_by_cube}
use Rattle.shard_events.specs.ShardsInRuns.{view_of_copies}
use Rattle.shard_views.specs.Views.{part_view}

-- Which dimensions have texts.

abbrev pub texts_of : Decl → List Bool
texts_of cube = map (λ dim. dim.text) cube.dims

pub texts-are : (cubes made : List Decl) → texts_by_cube (map cube_of cubes) made ≡ map texts_of (cubes ++ made)
texts-are [] made = refl
texts-are (d ∷ cubes) made = ap (λ (l : List (List Bool)). texts_of d ∷ l) (texts-are cubes made)

-- How many names they have: a cube that was made has none.

list-at : (lists : DimNames) (dim : ℕ) (list : List (List ℕ)) → slice_get lists dim ≡ Some list
    → get_or lists dim [] ≡ list
list-at [] dim list is = absurd (none-some list is)
list-at (x ∷ lists) zero list is = same_Some x list is
list-at (x ∷ lists) (suc dim) list is = list-at lists dim list is

none-kept : (made : List Decl) (cube dim : ℕ) (lists : DimNames) (list : List (List ℕ))
    → slice_get (map no_names made) cube ≡ Some lists → slice_get lists dim ≡ Some list → 0 ≡ length list
none-kept made cube dim lists list is is_list =
    let from = mapped no_names made cube lists is in
    let none =
    mapped (λ (d : DimDecl). []) from.item.dims dim list (ap (λ (l : DimNames). slice_get l dim) from.gives ∙ is_list)
    in
    ap (λ (l : List (List ℕ)). length l) none.gives

pub counts-are : (names : List DimNames) (made : List Decl) (cube dim : ℕ) (lists : DimNames) (list : List (List ℕ))
    → slice_get (names ++ map no_names made) cube ≡ Some lists → slice_get lists dim ≡ Some list
    → length (names_of_dim names cube dim) ≡ length list
counts-are [] made cube dim lists list is is_list = none-kept made cube dim lists list is is_list
counts-are (x ∷ names) made zero dim lists list is is_list =
    ap (λ (l : DimNames). length (get_or l dim [])) (same_Some x lists is)
    ∙ ap (λ (l : List (List ℕ)). length l) (list-at lists dim list is_list)
counts-are (x ∷ names) made (suc cube) dim lists list is is_list = counts-are names made cube dim lists list is is_list

-- What was copied of a brick: where parts rise by number, each is the one of its number.

rises-to : (least : ℕ) (parts : List BrickPart) (k : ℕ) (part : BrickPart) → AreRising least parts
    → slice_get parts k ≡ Some part → least ≤ part.brick
rises-to least [] k part rise is = absurd (none-some part is)
rises-to least (b ∷ parts) zero part rise is =
    coe 0 1 (i. least ≤ (same_Some b part is i).brick) rise.0
rises-to least (b ∷ parts) (suc k) part rise is =
    let next = rises-to (b.brick + 1) parts k part rise.1 is in
    let from = rise.0 in
    omega (arith, next, from)

numbered-itself : (least : ℕ) (parts : List BrickPart) (k : ℕ) (part : BrickPart) → AreRising least parts
    → slice_get parts k ≡ Some part → part_numbered part.brick parts ≡ Some part
numbered-itself least [] k part rise is = absurd (none-some part is)
numbered-itself least (b ∷ parts) zero part rise is =
    let same = same_Some b part is in
    ap (λ (p : BrickPart). part_numbered p.brick (b ∷ parts)) (sym same)
    ∙ ap (λ (t : Bool). if t then Some b else part_numbered b.brick parts) (eq-eqb b.brick b.brick refl)
    ∙ is
numbered-itself least (b ∷ parts) (suc k) part rise is =
    let from = rises-to (b.brick + 1) parts k part rise.1 is in
    ap (λ (t : Bool). if t then Some b else part_numbered part.brick parts)
    (ne_eqb b.brick part.brick (λ same. absurd (omega (arith, same, from))))
    ∙ numbered-itself (b.brick + 1) parts k part rise.1 is

pub index-at : (lists : ShardCopy) (cube : ℕ) (parts : List BrickPart) → slice_get lists cube ≡ Some parts
    → slice_index_or lists cube [] ≡ parts
index-at [] cube parts is = absurd (none-some parts is)
index-at (x ∷ lists) zero parts is = same_Some x parts is
index-at (x ∷ lists) (suc cube) parts is = index-at lists cube parts is

pub part-shown : (lists : ShardCopy) (cube : ℕ) (parts : List BrickPart) (k : ℕ) (part : BrickPart)
    → slice_get lists cube ≡ Some parts → AreRising 0 parts → slice_get parts k ≡ Some part
    → view_of_copies lists cube part.brick ≡ part_view part
part-shown lists cube parts k part is rise there =
    ap (λ (l : List BrickPart). option_map_or part_view (part_numbered part.brick l) []) (index-at lists cube parts is)
    ∙ ap (λ (p : Option BrickPart). option_map_or part_view p []) (numbered-itself 0 parts k part rise there)
