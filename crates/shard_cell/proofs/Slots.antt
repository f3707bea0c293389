-- The bricks of a cube of which nothing came yet, what calls make of those of a cube, and what is found among them.
use Rattle.std.proofs.Common.{◌≡◌, ℕ, ◌+◌, ◌≤◌, Bool, cond, ◌<◌, zero, suc, List, [], ◌∷◌, ◌++◌, length, take, get_or, filter, Option, Some, None, refl, sym, ap, subst, ◌∙◌, arith, inr}
use Rattle.std.specs.List.{AllZip}
use Rattle.std.proofs.lemmas.List.{take_more}
use Rattle.std.proofs.lemmas.Slice.Zip.{all_zipped_more}
use Rattle.cube_values.specs.declared.query.BoundQuery.{BoundQuery}
use Rattle.cube_values.specs.declared.row.CodedRow.{CodedRow}
use Rattle.cube_values.specs.declared.shape.CubeShape.{CubeShape}
use Rattle.cube_values.specs.declared.shape.Size.{Size}
use Rattle.cube_values.specs.declared.snapshot.Snapshot.{Snapshot}
use Rattle.cube_values.specs.declared.span.Span.{Span}
use Rattle.cube_rounds.specs.Bricks.{BrickPart}
use Rattle.agg_fold.specs.declared.groups.Groups.{Groups}
use Rattle.agg_fold.specs.Standing.{Gains, StandsFor}
use Rattle.brick_map.specs.declared.deletion.Deletion.{Deletion}
use Rattle.brick_map.specs.Births.{BrickContent, CubeState, brick_in, content_with_mark, content_with_rows, has_brick, rows_count, rows_of_brick, cube_sizes}
use Rattle.brick_map.specs.Cubes.{HasSameBricks}
use Rattle.shard_cell.specs.Answers.{brick_rows_apart, brick_rows_shown}
use Rattle.shard_cell.specs.Slots.{AreGroupsOf, HasSameSlot, IsSlotAfter, IsSlotCopy, slot_brick, untouched}

pub slot_same : (slot : Option CubeState) → HasSameSlot slot slot
slot_same slot = record { bricks = λ number. refl; rows = refl; waits = refl }

-- bricks are made where there were none
pub made_same : (shape : CubeShape) (made : CubeState) → made ≡ record { shape = shape; bricks = []; recent = [] } → HasSameSlot None (Some made)
made_same shape made e =
    subst (λ (cube : CubeState). HasSameSlot None (Some cube)) (sym e) (record { bricks = λ number. refl; rows = refl; waits = refl })

-- a call that changed nothing
pub same_then : (old : Option CubeState) (mid new : CubeState) → HasSameSlot old (Some mid) → HasSameBricks mid new → new.recent ≡ mid.recent → HasSameSlot old (Some new)
same_then old mid new same h recent = record {
  bricks = λ number. h.same number ∙ same.bricks number;
  rows = h.count ∙ same.rows;
  waits = recent ∙ same.waits;
}

-- rows are appended to a cube of this shape
pub appended_in : (shape : CubeShape) (epoch : ℕ) (rows : List CodedRow) (old : Option CubeState) (mid new : CubeState) → HasSameSlot old (Some mid) → mid.shape ≡ shape → ((number : ℕ) → brick_in new number ≡ content_with_rows epoch (rows_of_brick (cube_sizes mid) number rows) (brick_in mid number)) → (number : ℕ) → brick_in new number ≡ content_with_rows epoch (rows_of_brick shape.shape.sizes number rows) (slot_brick old number)
appended_in shape epoch rows old mid new same is h number =
    h number ∙ (λ t. content_with_rows epoch (rows_of_brick (is t).shape.sizes number rows) (same.bricks number t))

-- a box is deleted from a cube of this shape
pub deleted_in : (shape : CubeShape) (epoch : ℕ) (box : Span) (old : Option CubeState) (mid new : CubeState) → HasSameSlot old (Some mid) → mid.shape ≡ shape → ((number : ℕ) → brick_in new number ≡ cond (has_brick (cube_sizes mid) box number) (content_with_mark epoch (brick_in mid number)) (brick_in mid number)) → (number : ℕ) → brick_in new number ≡ cond (has_brick shape.shape.sizes box number) (content_with_mark epoch (slot_brick old number)) (slot_brick old number)
deleted_in shape epoch box old mid new same is h number =
    h number ∙ (λ t. cond (has_brick (is t).shape.sizes box number) (content_with_mark epoch (same.bricks number t)) (same.bricks number t))

-- each brick of a cube is changed
pub changed_in : (change : BrickContent → BrickContent) (stays : Deletion → Bool) (old new : CubeState) → ((number : ℕ) → brick_in new number ≡ change (brick_in old number)) → new.recent ≡ filter stays old.recent → rows_count new.bricks ≤ rows_count old.bricks → new.shape ≡ old.shape → IsSlotAfter change stays (Some old) (Some new)
changed_in change stays old new bricks waits fewer shape = record { bricks = bricks; waits = waits; fewer = fewer; shape = λ s h. shape ∙ h }

pub changed_none : (change : BrickContent → BrickContent) (stays : Deletion → Bool) → change untouched ≡ untouched → IsSlotAfter change stays None None
changed_none change stays e = record { bricks = λ number. sym e; waits = refl; fewer = omega arith; shape = λ s h. h }

-- groups that gained rows, of groups of no rows
pub groups_found : (query : BoundQuery) (sizes : List Size) (most : ℕ) (each : ℕ → List CodedRow) (rows : List CodedRow) (g h : Groups) → StandsFor query [] g → Gains query rows g h → length rows ≤ most → ((number : ℕ) → rows_of_brick sizes number rows ≡ each number) → AreGroupsOf query sizes most each h
groups_found query sizes most each rows g h none gains few by = record { rows = rows; stands = gains [] none; few = few; by_brick = by }

-- groups of no rows
pub groups_none : (query : BoundQuery) (sizes : List Size) (most : ℕ) (each : ℕ → List CodedRow) (g : Groups) → StandsFor query [] g → ((number : ℕ) → each number ≡ []) → AreGroupsOf query sizes most each g
groups_none query sizes most each g none by = record { rows = []; stands = none; few = omega arith; by_brick = λ number. sym (by number) }

-- no more rows than more
pub groups_fewer : (query : BoundQuery) (sizes : List Size) (most more : ℕ) (each : ℕ → List CodedRow) (g : Groups) → most ≤ more → AreGroupsOf query sizes most each g → AreGroupsOf query sizes more each g
groups_fewer query sizes most more each g l h = record { rows = h.rows; stands = h.stands; few = omega (arith, h.few); by_brick = h.by_brick }

-- what is found where other snapshots and another cube are the same
pub shown_moved : (query : BoundQuery) (sizes : List Size) (most more : ℕ) (seen : Snapshot) (slot there : Option CubeState) (g : Groups) → most ≤ more → slot ≡ there → AreGroupsOf query sizes most (λ number. brick_rows_shown query.span seen (slot_brick slot number)) g → AreGroupsOf query sizes more (λ number. brick_rows_shown query.span seen (slot_brick there number)) g
shown_moved query sizes most more seen slot there g l e h =
    subst (λ (s : Option CubeState). AreGroupsOf query sizes more (λ number. brick_rows_shown query.span seen (slot_brick s number)) g) e
    (groups_fewer query sizes most more (λ number. brick_rows_shown query.span seen (slot_brick slot number)) g l h)

pub apart_moved : (query : BoundQuery) (sizes : List Size) (most more : ℕ) (one other first second : Snapshot) (slot there : Option CubeState) (g : Groups) → most ≤ more → slot ≡ there → one ≡ first → other ≡ second → AreGroupsOf query sizes most (λ number. brick_rows_apart query.span one other (slot_brick slot number)) g → AreGroupsOf query sizes more (λ number. brick_rows_apart query.span first second (slot_brick there number)) g
apart_moved query sizes most more one other first second slot there g l e p q h =
    let each : Snapshot → Snapshot → Option CubeState → ℕ → List CodedRow = λ a b s number. brick_rows_apart query.span a b (slot_brick s number) in
    subst (λ (a : Snapshot). AreGroupsOf query sizes more (each a second there) g) p
    (subst (λ (b : Snapshot). AreGroupsOf query sizes more (each one b there) g) q
    (subst (λ (s : Option CubeState). AreGroupsOf query sizes more (each one other s) g) e
    (groups_fewer query sizes most more (each one other slot) g l h)))

-- what a round has of each cube
pub none_copied : (from to : ℕ) → IsSlotCopy from to None []
none_copied from to = record { rising = tt; each = λ number. inr refl; there = λ number. tt }

pub copied_at : (from to : ℕ) (cubes : List (Option CubeState)) (parts : List (List BrickPart)) → AllZip (IsSlotCopy from to) cubes parts → (cube : ℕ) → IsSlotCopy from to (get_or cubes cube None) (get_or parts cube [])
copied_at from to [] [] h cube = none_copied from to
copied_at from to [] (p ∷ parts) h cube = absurd h
copied_at from to (x ∷ cubes) [] h cube = absurd h
copied_at from to (x ∷ cubes) (p ∷ parts) h zero = h.0
copied_at from to (x ∷ cubes) (p ∷ parts) h (suc cube) = copied_at from to cubes parts h.1 cube

pub long_copied : (from to : ℕ) (cubes : List (Option CubeState)) (parts : List (List BrickPart)) → AllZip (IsSlotCopy from to) cubes parts → length parts ≡ length cubes
long_copied from to [] [] h = refl
long_copied from to [] (p ∷ parts) h = absurd h
long_copied from to (x ∷ cubes) [] h = absurd h
long_copied from to (x ∷ cubes) (p ∷ parts) h = ap suc (long_copied from to cubes parts h.1)

pub copied_more : (from to : ℕ) (cubes : List (Option CubeState)) (old new : List (List BrickPart)) (i : ℕ) (slot : Option CubeState) (parts : List BrickPart) → i < length cubes → slot ≡ get_or cubes i slot → new ≡ old ++ parts ∷ [] → IsSlotCopy from to slot parts → AllZip (IsSlotCopy from to) (take i cubes) old → AllZip (IsSlotCopy from to) (take (i + 1) cubes) new
copied_more from to cubes old new i slot parts l is e one h =
    let more = all_zipped_more (IsSlotCopy from to) (take i cubes) old slot parts h one in
    let front : take i cubes ++ slot ∷ [] ≡ take (i + 1) cubes = ap (λ (s : Option CubeState). take i cubes ++ s ∷ []) is ∙ sym (take_more cubes i slot l) in
    subst (λ (n : List (List BrickPart)). AllZip (IsSlotCopy from to) (take (i + 1) cubes) n) (sym e) (subst (λ (c : List (Option CubeState)). AllZip (IsSlotCopy from to) c (old ++ parts ∷ [])) front more)
