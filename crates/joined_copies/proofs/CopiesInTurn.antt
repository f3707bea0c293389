-- The shards' copies one after the other, and cube by cube.
use Rattle.std.proofs.Common.{◌≡◌, ◌∙◌, ◌⊎◌, ℕ, zero, suc, ◌+◌, ◌%◌, ◌≤◌, List, [], ◌∷◌, ◌++◌, length, map, drop, slice_get, slice_index_or, Some, inl, inr, refl, sym, ap, subst, arith}
use Rattle.std.proofs.lemmas.List.{length-append}
use Rattle.std.proofs.lemmas.Option.{none-some, same_Some}
use Rattle.cube_rounds.specs.Bricks.{BrickPart}
use Rattle.joined_copies.specs.JoinedCopies.{AreJoined, AreJoinedByCube, ShardCopy, copy_of_cube, parts_from, parts_of_brick_in}

-- Some shards are done, and this is what is left.
pub record IsTaking (initial : List ShardCopy) (number : ℕ) (left : List ShardCopy) (taken : List BrickPart)
    (behind : List ShardCopy) (capacity : ℕ) : Type 0 where
  pub count : number + length left ≡ length initial
  pub done : length behind ≡ number
  pub room : length initial ≤ capacity
  pub parts : taken ++ parts_from (length initial) number left ≡ parts_from (length initial) 0 initial
  pub rest : behind ++ map (drop 1) left ≡ map (drop 1) initial

-- Some cubes are done, and these are left.
pub record IsJoining (initial : List ShardCopy) (cubes cube : ℕ) (left : List ShardCopy) (lists : List (List BrickPart))
    (capacity : ℕ) : Type 0 where
  pub rest : left ≡ map (drop cube) initial
  pub done : length lists ≡ cube
  pub room : cubes ≤ capacity
  pub joined : AreJoinedByCube initial lists

drop-none : (initial : List ShardCopy) → initial ≡ map (drop 0) initial
drop-none [] = refl
drop-none (copy ∷ copies) = ap (λ (l : List ShardCopy). copy ∷ l) (drop-none copies)

pub joining-none : (initial : List ShardCopy) (cubes : ℕ) (lists : List (List BrickPart)) (capacity : ℕ) → lists ≡ [] → cubes ≤ capacity
    → IsJoining initial cubes 0 initial lists capacity
joining-none initial cubes lists capacity none room = record {
  rest = drop-none initial;
  done = ap length none;
  room = room;
  joined = λ cube parts is. absurd (none-some parts (ap (λ (l : List (List BrickPart)). slice_get l cube) (sym none) ∙ is));
}

one-more : (n : ℕ) → suc (n + 1) ≡ suc n + 1
one-more n = omega arith

drop-more : {X : Type 0} (n : ℕ) (xs : List X) → drop 1 (drop n xs) ≡ drop (n + 1) xs
drop-more zero xs = refl
drop-more (suc n) [] = ap (λ (m : ℕ). drop m []) (one-more n)
drop-more (suc n) (x ∷ xs) = drop-more n xs ∙ ap (λ (m : ℕ). drop m (x ∷ xs)) (one-more n)

drop-each : (n : ℕ) (copies : List ShardCopy) → map (drop 1) (map (drop n) copies) ≡ map (drop (n + 1)) copies
drop-each n [] = refl
drop-each n (copy ∷ copies) = λ i. drop-more n copy i ∷ drop-each n copies i

first-left : (n : ℕ) (copy : ShardCopy) → copy_of_cube 0 (drop n copy) ≡ copy_of_cube n copy
first-left zero copy = refl
first-left (suc n) [] = refl
first-left (suc n) (parts ∷ copy) = first-left n copy

cube-left : (n j : ℕ) (copies : List ShardCopy)
    → copy_of_cube 0 (slice_index_or (map (drop n) copies) j []) ≡ copy_of_cube n (slice_index_or copies j [])
cube-left n j [] = refl
cube-left n zero (copy ∷ copies) = first-left n copy
cube-left n (suc j) (copy ∷ copies) = cube-left n j copies

as-many : (n : ℕ) (copies : List ShardCopy) → length (map (drop n) copies) ≡ length copies
as-many n [] = refl
as-many n (copy ∷ copies) = ap suc (as-many n copies)

joined-left : (initial : List ShardCopy) (cube : ℕ) (parts : List BrickPart) → AreJoined (map (drop cube) initial) 0 parts
    → AreJoined initial cube parts
joined-left initial cube parts joined = record {
  order = joined.order;
  each = λ brick.
      joined.each brick
      ∙ ap (λ (n : ℕ). parts_of_brick_in brick (copy_of_cube 0 (slice_index_or (map (drop cube) initial) (brick % n) [])))
      (as-many cube initial)
      ∙ ap (parts_of_brick_in brick) (cube-left cube (brick % length initial) initial);
}

get-pushed : {X : Type 0} (xs : List X) (x y : X) (k : ℕ) → slice_get (xs ++ x ∷ []) k ≡ Some y
    → (slice_get xs k ≡ Some y) ⊎ ((k ≡ length xs) × (x ≡ y))
get-pushed [] x y zero is = inr (refl, same_Some x y is)
get-pushed [] x y (suc k) is = absurd (none-some y is)
get-pushed (z ∷ xs) x y zero is = inl is
get-pushed (z ∷ xs) x y (suc k) is = go (get-pushed xs x y k is)
  where
    go : (slice_get xs k ≡ Some y) ⊎ ((k ≡ length xs) × (x ≡ y)) → (slice_get xs k ≡ Some y) ⊎ ((suc k ≡ suc (length xs)) × (x ≡ y))
    go (inl there) = inl there
    go (inr last) = inr (ap suc last.0, last.1)

joined-push : (initial : List ShardCopy) (lists : List (List BrickPart)) (parts : List BrickPart) → AreJoinedByCube initial lists
    → AreJoined initial (length lists) parts → AreJoinedByCube initial (lists ++ parts ∷ [])
joined-push initial lists parts joined last cube found is = go (get-pushed lists parts found cube is)
  where
    go : (slice_get lists cube ≡ Some found) ⊎ ((cube ≡ length lists) × (parts ≡ found)) → AreJoined initial cube found
    go (inl there) = joined cube found there
    go (inr at) = coe 0 1 (i. AreJoined initial (sym at.0 i) (at.1 i)) last

pub joining-next : (initial : List ShardCopy) (cubes cube : ℕ) (left : List ShardCopy) (lists : List (List BrickPart)) (capacity now : ℕ)
    (parts : List BrickPart) (rest : List ShardCopy) (new : List (List BrickPart)) → IsJoining initial cubes cube left lists capacity
    → AreJoined left 0 parts → rest ≡ map (drop 1) left → new ≡ lists ++ parts ∷ [] → now ≡ capacity
    → IsJoining initial cubes (cube + 1) rest new now
joining-next initial cubes cube left lists capacity now parts rest new was joined rest-is new-is same =
    let done = was.done in
    let room = was.room in
    let grown = ap length new-is ∙ length-append lists (parts ∷ []) in
    let own = joined-left initial cube parts (subst (λ (l : List ShardCopy). AreJoined l 0 parts) was.rest joined) in
    record {
      rest = rest-is ∙ ap (map (drop 1)) was.rest ∙ drop-each cube initial;
      done = omega (arith, done, grown);
      room = omega (arith, room, same);
      joined = subst (AreJoinedByCube initial) (sym new-is)
          (joined-push initial lists parts was.joined (subst (λ (n : ℕ). AreJoined initial n parts) (sym done) own));
    }
