-- What was copied, as a round.
use Rattle.std.proofs.Common.{◌≡◌, ◌∙◌, ◌⊎◌, ℕ, zero, suc, ◌+◌, ◌%◌, ◌<◌, ◌==◌, Bool, true, false, List, [], ◌∷◌, length, map, get_or, slice_get, slice_index_or, All, Option, Some, None, IfSome, Contains, if◌then◌else◌, inl, inr, refl, sym, ap, subst, arith, eq-eqb, eqb-true, ne_eqb}
use Rattle.std.proofs.lemmas.Option.{none-some, same_Some}
use Rattle.std.specs.List.{AllByRecursion}
use Rattle.std.specs.Option.{option_map_or}
use Rattle.brick_map.specs.Copied.{part_numbered}
use Rattle.core_program.specs.ClientCalls.{desk_entry}
use Rattle.core_cells.specs.declared.desk.DeskAnswer.TheVariants as answer
use Rattle.core_cells.specs.declared.desk.DeskCall.TheVariants as call
use Rattle.core_program.specs.CoreFits.{CoreEntry}
use Rattle.cube_core.specs.declared.cell.CoreCell.{CoreCell}
use Rattle.cube_language.specs.declared.decl.Decl.{Decl}
use Rattle.cube_rounds.specs.Bricks.{BrickPart}
use Rattle.cube_rounds.specs.Demands.{AreRising, DimNames}
use Rattle.cube_rounds.specs.declared.round.Round.{Round}
use Rattle.cube_rounds.specs.declared.round.RoundCube.{RoundCube}
use Rattle.cube_values.specs.declared.shape.CubeShape.{CubeShape}
use Rattle.job_groups.specs.AskedEach.{HasMore}
use Rattle.joined_copies.specs.JoinedCopies.{AreJoined, AreJoinedByCube, AreRisingByCube, ShardCopy, copy_of_cube, parts_of_brick_in}
use Rattle.joined_copies.proofs.RisingParts.{within-or}
use Rattle.linked_shards.specs.declared.cell.CoreShard.{CoreShard}
use Rattle.round_copies.proofs.CopyTurns.{get-mapped}
use Rattle.round_copies.proofs.RoundGoes.{AreToldOf}
use Rattle.round_copies.specs.RoundCopies.{AreCubesOfRound, AreSoundBricks, HasCubes, HasMoreWith, HasRows, HaveNamesTold, IsCopiedRound, IsRoundOfCopies, IsSoundCopy, bricks_of_round, first_epoch, texts_by_cube}
use Rattle.round_copies.specs.WithinRounds.{KnowsOfFlusher}
use Rattle.round_copies.specs.declared.span.RoundSpan.{RoundSpan}
use Rattle.shard_events.specs.ShardsInRuns.{IsWholePart, view_of_copies}
use Rattle.shard_views.specs.Views.{part_view}

-- The part of a number is the first of those of the brick.

abbrev first_in : List BrickPart → Option BrickPart
first_in [] = None
first_in (part ∷ parts) = Some part

first-here : (own : Bool) (part : BrickPart) (found : Option BrickPart) (parts : List BrickPart) → found ≡ first_in parts
    → (if own then Some part else found) ≡ first_in (if own then part ∷ parts else parts)
first-here true part found parts is = refl
first-here false part found parts is = is

numbered-first : (brick : ℕ) (parts : List BrickPart) → part_numbered brick parts ≡ first_in (parts_of_brick_in brick parts)
numbered-first brick [] = refl
numbered-first brick (part ∷ parts) =
    first-here (part.brick == brick) part (part_numbered brick parts) (parts_of_brick_in brick parts) (numbered-first brick parts)

same-or : {X : Type 0} (xs : List X) (k : ℕ) (d : X) → slice_index_or xs k d ≡ get_or xs k d
same-or [] k d = refl
same-or (x ∷ xs) zero d = refl
same-or (x ∷ xs) (suc k) d = same-or xs k d

index-at : (lists : List (List BrickPart)) (cube : ℕ) (parts : List BrickPart) → slice_get lists cube ≡ Some parts
    → slice_index_or lists cube [] ≡ parts
index-at [] cube parts is = absurd (none-some parts is)
index-at (x ∷ lists) zero parts is = same_Some x parts is
index-at (x ∷ lists) (suc cube) parts is = index-at lists cube parts is

list-there : (lists : List (List BrickPart)) (cube : ℕ) → cube < length lists → slice_get lists cube ≡ Some (slice_index_or lists cube [])
list-there [] cube low = absurd (omega (arith, low))
list-there (parts ∷ lists) zero low = refl
list-there (parts ∷ lists) (suc cube) low = list-there lists cube (omega (arith, low))

-- Where parts rise by number, each is the one of its number: what holds of those that are found holds of all.

numbered-none : (least brick : ℕ) (parts : List BrickPart) → AreRising least parts → brick < least → part_numbered brick parts ≡ None
numbered-none least brick [] rise low = refl
numbered-none least brick (part ∷ parts) rise low =
    let from = rise.0 in
    ap (λ (b : Bool). if b then Some part else part_numbered brick parts)
    (ne_eqb part.brick brick (λ same. absurd (omega (arith, same, low, from))))
    ∙ numbered-none (part.brick + 1) brick parts rise.1 (omega (arith, low, from))

whole-behind : (part : BrickPart) (found : Option BrickPart) (own : Bool) → (own ≡ true → found ≡ None)
    → IfSome (if own then Some part else found) IsWholePart → IfSome found IsWholePart
whole-behind part found true none whole = subst (λ (p : Option BrickPart). IfSome p IsWholePart) (sym (none refl)) tt
whole-behind part found false none whole = whole

all-whole : (least : ℕ) (parts : List BrickPart) → AreRising least parts → ((brick : ℕ) → IfSome (part_numbered brick parts) IsWholePart)
    → AllByRecursion IsWholePart parts
all-whole least [] rise whole = tt
all-whole least (part ∷ parts) rise whole =
    let n = part.brick in (
      subst (λ (b : Bool). IfSome (if b then Some part else part_numbered n parts) IsWholePart) (eq-eqb n n refl) (whole n),
      all-whole (n + 1) parts rise.1
          (λ brick. whole-behind part (part_numbered brick parts) (n == brick)
          (λ is. let same = eqb-true n brick is in numbered-none (n + 1) brick parts rise.1 (omega (arith, same))) (whole brick)),
    )

sound-at : (copies : List ShardCopy) → All IsSoundCopy copies → (number : ℕ) → IsSoundCopy (slice_index_or copies number [])
sound-at copies all number = go (within-or copies number [])
  where
    go : (number < length copies) ⊎ (slice_index_or copies number [] ≡ []) → IsSoundCopy (slice_index_or copies number [])
    go (inl low) = all number [] low
    go (inr none) = subst IsSoundCopy (sym none) (record { rising = λ cube. tt; whole = λ cube brick. tt })

-- Of a brick there is joined what its own shard copied.
joined-part : (copies : List ShardCopy) (cube : ℕ) (parts : List BrickPart) → AreJoined copies cube parts → (brick : ℕ)
    → part_numbered brick parts ≡ part_numbered brick (copy_of_cube cube (slice_index_or copies (brick % length copies) []))
joined-part copies cube parts joined brick =
    numbered-first brick parts
    ∙ ap first_in (joined.each brick)
    ∙ sym (numbered-first brick (copy_of_cube cube (slice_index_or copies (brick % length copies) [])))

joined-sound : (copies : List ShardCopy) (cube : ℕ) (parts : List BrickPart) → AreJoined copies cube parts → AreRising 0 parts
    → All IsSoundCopy copies → AreSoundBricks parts
joined-sound copies cube parts joined rise sound = record {
  rising = rise;
  whole = all-whole 0 parts rise
      (λ brick.
      subst (λ (p : Option BrickPart). IfSome p IsWholePart) (sym (joined-part copies cube parts joined brick))
      ((sound-at copies sound (brick % length copies)).whole cube brick));
}

-- What is joined shows of a brick what its shard's copy shows.
pub joined-view : (copies : List ShardCopy) (lists : List (List BrickPart)) (cube brick : ℕ) → AreJoinedByCube copies lists
    → cube < length lists
    → view_of_copies lists cube brick ≡ view_of_copies (get_or copies (brick % length copies) []) cube brick
joined-view copies lists cube brick joined low =
    let parts = slice_index_or lists cube [] in
    ap (λ (p : Option BrickPart). option_map_or part_view p [])
    (joined-part copies cube parts (joined cube parts (list-there lists cube low)) brick)
    ∙ ap (λ (c : ShardCopy). view_of_copies c cube brick) (same-or copies (brick % length copies) [])

pub round-of-copies : (span : RoundSpan) (copies : List ShardCopy) (made : List Decl) (names : List DimNames)
    (lists : List (List BrickPart)) (cubes : List RoundCube) (from : ℕ) → AreJoinedByCube copies lists
    → (All AreRisingByCube copies → AreRisingByCube lists) → AreCubesOfRound names lists cubes → from ≡ first_epoch span
    → IsRoundOfCopies span copies made names (record { from = from; epoch = span.epoch; made = made; cubes = cubes })
round-of-copies span copies made names lists cubes from joined rise are begins = record {
  begins = begins;
  ends = refl;
  listed = refl;
  told = are.names;
  joined = subst (AreJoinedByCube copies) (sym are.bricks) joined;
  rising = λ all. subst AreRisingByCube (sym are.bricks) (rise all);
}

same-length : (cubes : List RoundCube) → length cubes ≡ length (map (λ part. part.bricks) cubes)
same-length [] = refl
same-length (part ∷ cubes) = ap suc (same-length cubes)

pub copied-round : (cells : List (CoreCell CoreShard)) (caller client : ℕ) (before own : List CoreEntry) (span : RoundSpan)
    (shapes : List CubeShape) (counts : List (List ℕ)) (copies : List ShardCopy) (many : ℕ) (made : List Decl) (names : List DimNames)
    (round : Round) → KnowsOfFlusher cells caller client own (HasCubes span copies many counts) → All IsSoundCopy copies
    → IsRoundOfCopies span copies made names round
    → (earlier : List CoreEntry) → HasMore before earlier → KnowsOfFlusher cells caller client earlier (HasRows span copies)
    → HasMoreWith earlier own (AreToldOf caller (length shapes) counts (texts_by_cube shapes made) made names)
    → IsCopiedRound cells caller client before own span shapes counts round
copied-round cells caller client before own span shapes counts copies many made names round knows sound is earlier behind rows told = record {
  begins = is.begins;
  ends = is.ends;
  knows = λ o log run es later of.
      let has = knows o log run es later of in
      record {
        copied = has.copied;
        rows = λ cube brick low.
            let count = same-length round.cubes in
            joined-view copies (bricks_of_round round) cube brick is.joined (omega (arith, low, count)) ∙ sym (has.rows cube brick);
      };
  bricks = λ cube part there.
      let at = get-mapped (λ part. part.bricks) round.cubes cube part there in
      joined-sound copies cube part.bricks (is.joined cube part.bricks at)
      (subst (AreRising 0) (index-at (bricks_of_round round) cube part.bricks at) (is.rising (λ k d low. (sound k d low).rising) cube)) sound;
  earlier = earlier;
  behind = behind;
  later = told.later;
  whole = told.whole;
  copies = copies;
  rows = rows;
  joined = is.joined;
  made = subst (λ (l : List Decl). Contains told.later (desk_entry caller (call.CubesFrom (length shapes)) (answer.Cubes l)))
      (sym is.listed) told.are.made;
  names = coe 0 1 (i. HaveNamesTold caller told.later counts (texts_by_cube shapes (sym is.listed i)) (sym is.told i)) told.are.names;
}
