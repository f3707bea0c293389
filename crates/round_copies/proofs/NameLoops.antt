-- The flusher copies the names of one dimension after the other.
use Rattle.std.proofs.Common.{◌≡◌, ◌∙◌, ◌⊎◌, ℕ, zero, suc, ◌+◌, Bool, true, false, List, [], ◌∷◌, ◌++◌, length, map, slice_get, get_or, Option, Some, append_assoc, append-nil, inl, inr, refl, sym, ap, subst, arith}
use Rattle.std.specs.Option.{option_map_or}
use Rattle.std.proofs.lemmas.List.{length-append, length-map}
use Rattle.std.proofs.lemmas.List.Elements.{Contains-append_left, Contains-append_right}
use Rattle.std.proofs.lemmas.Option.{none-some, same_Some}
use Rattle.core_program.specs.ClientCalls.{names_entry}
use Rattle.core_cells.specs.declared.names.NamesAnswer.{NamesAnswer}
use Rattle.core_cells.specs.declared.names.NamesAnswer.TheVariants as told
use Rattle.core_cells.specs.declared.names.NamesCall.TheVariants as names
use Rattle.core_program.specs.Flushing.{IsFlusherOf}
use Rattle.core_program.specs.CoreFits.{CoreEntry}
use Rattle.cube_core.specs.declared.cell.CoreCell.{CoreCell}
use Rattle.cube_language.specs.declared.decl.Decl.{Decl}
use Rattle.cube_rounds.specs.Demands.{DimNames}
use Rattle.cube_values.specs.declared.shape.CubeShape.{CubeShape}
use Rattle.flusher_rounds.specs.RoundStates.{after_names_call}
use Rattle.linked_shards.specs.CellShards.{CoreShardStands}
use Rattle.linked_shards.specs.declared.cell.CoreShard.{CoreShard}
use Rattle.round_copies.proofs.FlusherSteps.{copy-within, known-by-names, more-more, more-none, stays-more, stays-none, within-by-names}
use Rattle.round_copies.proofs.RoundSteps.{names-copied}
use Rattle.round_copies.specs.RoundCopies.{AreNamesTold, GoesOnCopying, HasCubes, HasMoreWith, HasNamesTold, HaveNamesTold, texts_by_cube}
use Rattle.round_copies.specs.WithinRounds.{HasHistory, KnowsOfFlusher, StaysWithinRound}
use Rattle.round_copies.specs.declared.span.RoundSpan.{RoundSpan}
use Rattle.shard_events.specs.ShardsInRuns.{FitsShard, ShardAnswerSays}

module _ (span : RoundSpan) (client : ℕ) where
  pub goes-none : (cells : List (CoreCell CoreShard)) (caller : ℕ) (own : List CoreEntry) → HasHistory cells caller own
      → GoesOnCopying span client cells caller own cells caller own
  goes-none cells caller own history = record {
    same_cells = refl;
    same_caller = refl;
    more = more-none cells caller client own;
    within = stays-none cells caller client own;
    history = history;
    keeps = λ copies cubes counts knows. knows;
  }

  pub goes-more : (cells mid_cells new_cells : List (CoreCell CoreShard)) (caller mid_caller new_caller : ℕ) (own mid now : List CoreEntry)
      → GoesOnCopying span client cells caller own mid_cells mid_caller mid
      → GoesOnCopying span client mid_cells mid_caller mid new_cells new_caller now
      → GoesOnCopying span client cells caller own new_cells new_caller now
  goes-more cells mid_cells new_cells caller mid_caller new_caller own mid now first second = record {
    same_cells = second.same_cells ∙ first.same_cells;
    same_caller = second.same_caller ∙ first.same_caller;
    more = more-more new_cells new_caller client own mid now first.more second.more;
    within = stays-more new_cells new_caller client own mid now second.more
        (coe 1 0 (i. StaysWithinRound (second.same_cells i) (second.same_caller i) client own mid) first.within) second.within;
    history = second.history;
    keeps = λ copies cubes counts knows. second.keeps copies cubes counts (first.keeps copies cubes counts knows);
  }

  pub still-flusher : (shards : ℕ) (cells new_cells : List (CoreCell CoreShard)) (caller new_caller : ℕ) → new_cells ≡ cells
      → new_caller ≡ caller → IsFlusherOf FitsShard CoreShardStands ShardAnswerSays cells caller client shards
      → IsFlusherOf FitsShard CoreShardStands ShardAnswerSays new_cells new_caller client shards
  still-flusher shards cells new_cells caller new_caller same_cells same_caller flush =
      coe 1 0 (i. IsFlusherOf FitsShard CoreShardStands ShardAnswerSays (same_cells i) (same_caller i) client shards) flush

  -- One call.
  pub list-goes : (cells new_cells : List (CoreCell CoreShard)) (caller new_caller : ℕ) (own now : List CoreEntry) (cube dim count : ℕ)
      (said : NamesAnswer) (result : Option (List (List ℕ)))
      → (flush : (shards : ℕ) × IsFlusherOf FitsShard CoreShardStands ShardAnswerSays cells caller client shards)
      → new_cells ≡ cells → new_caller ≡ caller → now ≡ own ++ names_entry caller (names.CopyFrom cube dim count) said ∷ []
      → said ≡ option_map_or told.Copied result told.NoMemory → HasHistory new_cells new_caller now
      → GoesOnCopying span client cells caller own new_cells new_caller now
  list-goes cells new_cells caller new_caller own now cube dim count said result flush same_cells same_caller is said-is history = record {
    same_cells = same_cells;
    same_caller = same_caller;
    more = record { more = names_entry caller (names.CopyFrom cube dim count) said ∷ []; whole = is };
    within = coe 1 0 (i. StaysWithinRound (same_cells i) (same_caller i) client own now)
        (within-by-names cells caller client flush.0 flush.1 own now (names.CopyFrom cube dim count) said is
        (copy-within cube dim count said));
    history = history;
    keeps = λ copies cubes counts knows.
        coe 1 0 (i. KnowsOfFlusher (same_cells i) (same_caller i) client now (HasCubes span copies cubes counts))
        (known-by-names cells caller client flush.0 flush.1 own now (names.CopyFrom cube dim count) said is
        (HasCubes span copies cubes counts) (HasCubes span copies cubes counts) knows
        (λ o k has.
        subst (λ (a : NamesAnswer). HasCubes span copies cubes counts o (after_names_call o (names.CopyFrom cube dim count) a k))
        (sym said-is) (names-copied span copies cubes counts cube dim count result o k has)));
  }

-- What was told by some calls was told by these and more.

told-before : (caller : ℕ) (first second : List CoreEntry) (cube dim count : ℕ) (text : Bool) (list : List (List ℕ))
    → AreNamesTold caller first cube dim count text list → AreNamesTold caller (first ++ second) cube dim count text list
told-before caller first second cube dim count true list was =
    Contains-append_left first second (names_entry caller (names.CopyFrom cube dim count) (told.Copied list)) was
told-before caller first second cube dim count false list was = was

told-behind : (caller : ℕ) (first second : List CoreEntry) (cube dim count : ℕ) (text : Bool) (list : List (List ℕ))
    → AreNamesTold caller second cube dim count text list → AreNamesTold caller (first ++ second) cube dim count text list
told-behind caller first second cube dim count true list was =
    Contains-append_right first second (names_entry caller (names.CopyFrom cube dim count) (told.Copied list)) was
told-behind caller first second cube dim count false list was = was

-- No more calls, and those of two turns.

with-none : (own : List CoreEntry) (Are : List CoreEntry → Type 0) → Are [] → HasMoreWith own own Are
with-none own Are are = record { later = []; whole = sym (append-nil own); are = are }

with-both : (own mid now : List CoreEntry) (First Second Both : List CoreEntry → Type 0) → HasMoreWith own mid First
    → HasMoreWith mid now Second
    → ((first second : List CoreEntry) → First first → Second second → Both (first ++ second)) → HasMoreWith own now Both
with-both own mid now First Second Both was did joins = record {
  later = was.later ++ did.later;
  whole = did.whole
      ∙ ap (λ (l : List CoreEntry). l ++ did.later) was.whole
      ∙ append_assoc own was.later did.later;
  are = joins was.later did.later was.are did.are;
}

get-pushed : {X : Type 0} (xs : List X) (x y : X) (k : ℕ) → slice_get (xs ++ x ∷ []) k ≡ Some y
    → (slice_get xs k ≡ Some y) ⊎ ((k ≡ length xs) × (x ≡ y))
get-pushed [] x y zero is = inr (refl, same_Some x y is)
get-pushed [] x y (suc k) is = absurd (none-some y is)
get-pushed (z ∷ xs) x y zero is = inl is
get-pushed (z ∷ xs) x y (suc k) is = go (get-pushed xs x y k is)
  where
    go : (slice_get xs k ≡ Some y) ⊎ ((k ≡ length xs) × (x ≡ y)) → (slice_get xs k ≡ Some y) ⊎ ((suc k ≡ suc (length xs)) × (x ≡ y))
    go (inl there) = inl there
    go (inr last) = inr (ap suc last.0, last.1)

-- The first dimensions of a cube are done, each by some of the calls.
pub record AreDimsTold (caller : ℕ) (own : List CoreEntry) (cube : ℕ) (counts : List ℕ) (texts : List Bool) (lists : DimNames)
    (dim : ℕ) : Type 0 where
  pub done : length lists ≡ dim
  pub each : (d : ℕ) (text : Bool) (list : List (List ℕ)) → slice_get texts d ≡ Some text → slice_get lists d ≡ Some list
      → AreNamesTold caller own cube d (get_or counts d 0) text list

pub dims-none : (caller : ℕ) (own : List CoreEntry) (cube : ℕ) (counts : List ℕ) (texts : List Bool) (lists : DimNames) → lists ≡ []
    → HasMoreWith own own (λ later. AreDimsTold caller later cube counts texts lists 0)
dims-none caller own cube counts texts lists none =
    with-none own (λ later. AreDimsTold caller later cube counts texts lists 0)
    (record {
      done = ap length none;
      each = λ d text list is at. absurd (none-some list (ap (λ (l : DimNames). slice_get l d) (sym none) ∙ at));
    })

dims-joined : (caller new_caller : ℕ) (first second : List CoreEntry) (cube : ℕ) (counts : List ℕ) (texts : List Bool)
    (lists new : DimNames) (dim : ℕ) (text : Bool) (list : List (List ℕ)) → new_caller ≡ caller → slice_get texts dim ≡ Some text
    → new ≡ lists ++ list ∷ [] → AreDimsTold caller first cube counts texts lists dim
    → AreNamesTold new_caller second cube dim (get_or counts dim 0) text list
    → AreDimsTold new_caller (first ++ second) cube counts texts new (dim + 1)
dims-joined caller new_caller first second cube counts texts lists new dim text list same at is was said =
    let done = was.done in
    let grown = ap length is ∙ length-append lists (list ∷ []) in
    record {
      done = omega (arith, done, grown);
      each = λ d flag found is-flag there.
          (go d flag found is-flag (get-pushed lists list found d (ap (λ (l : DimNames). slice_get l d) (sym is) ∙ there)));
    }
  where
    go : (d : ℕ) (flag : Bool) (found : List (List ℕ)) → slice_get texts d ≡ Some flag
        → (slice_get lists d ≡ Some found) ⊎ ((d ≡ length lists) × (list ≡ found))
        → AreNamesTold new_caller (first ++ second) cube d (get_or counts d 0) flag found
    go d flag found is-flag (inl there) =
        subst (λ (n : ℕ). AreNamesTold n (first ++ second) cube d (get_or counts d 0) flag found) (sym same)
        (told-before caller first second cube d (get_or counts d 0) flag found (was.each d flag found is-flag there))
    go d flag found is-flag (inr last) =
        let here = last.0 ∙ was.done in
        let same-flag = same_Some text flag (sym at ∙ ap (slice_get texts) (sym here) ∙ is-flag) in
        coe 0 1 (i. AreNamesTold new_caller (first ++ second) cube (sym here i) (get_or counts (sym here i) 0) (same-flag i) (last.1 i))
        (told-behind new_caller first second cube dim (get_or counts dim 0) text list said)

pub dims-next : (caller new_caller : ℕ) (own mid now : List CoreEntry) (cube : ℕ) (counts : List ℕ) (texts : List Bool)
    (lists new : DimNames) (dim : ℕ) (text : Bool) (list : List (List ℕ))
    → HasMoreWith own mid (λ later. AreDimsTold caller later cube counts texts lists dim)
    → new_caller ≡ caller → slice_get texts dim ≡ Some text
    → HasMoreWith mid now (λ later. AreNamesTold new_caller later cube dim (get_or counts dim 0) text list) → new ≡ lists ++ list ∷ []
    → HasMoreWith own now (λ later. AreDimsTold new_caller later cube counts texts new (dim + 1))
dims-next caller new_caller own mid now cube counts texts lists new dim text list was same at said is =
    with-both own mid now (λ later. AreDimsTold caller later cube counts texts lists dim)
    (λ later. AreNamesTold new_caller later cube dim (get_or counts dim 0) text list)
    (λ later. AreDimsTold new_caller later cube counts texts new (dim + 1)) was said
    (λ first second. dims-joined caller new_caller first second cube counts texts lists new dim text list same at is)

pub dims-all : (caller : ℕ) (own now : List CoreEntry) (cube : ℕ) (counts : List ℕ) (texts : List Bool) (lists : DimNames) (dim : ℕ)
    → HasMoreWith own now (λ later. AreDimsTold caller later cube counts texts lists dim) → dim ≡ length texts
    → HasMoreWith own now (λ later. HasNamesTold caller later cube counts texts lists)
dims-all caller own now cube counts texts lists dim was all =
    record { later = was.later; whole = was.whole; are = record { dims = was.are.done ∙ all; each = was.are.each } }

-- The first cubes are done.

names-before : (caller : ℕ) (first second : List CoreEntry) (cube : ℕ) (counts : List ℕ) (texts : List Bool) (lists : DimNames)
    → HasNamesTold caller first cube counts texts lists → HasNamesTold caller (first ++ second) cube counts texts lists
names-before caller first second cube counts texts lists was = record {
  dims = was.dims;
  each = λ d text list is at. told-before caller first second cube d (get_or counts d 0) text list (was.each d text list is at);
}

names-behind : (caller : ℕ) (first second : List CoreEntry) (cube : ℕ) (counts : List ℕ) (texts : List Bool) (lists : DimNames)
    → HasNamesTold caller second cube counts texts lists → HasNamesTold caller (first ++ second) cube counts texts lists
names-behind caller first second cube counts texts lists was = record {
  dims = was.dims;
  each = λ d text list is at. told-behind caller first second cube d (get_or counts d 0) text list (was.each d text list is at);
}

pub all-behind : (caller : ℕ) (first second : List CoreEntry) (counts : List (List ℕ)) (texts : List (List Bool)) (lists : List DimNames)
    → HaveNamesTold caller second counts texts lists → HaveNamesTold caller (first ++ second) counts texts lists
all-behind caller first second counts texts lists was = record {
  cubes = was.cubes;
  each = λ c flags dims is at. names-behind caller first second c (get_or counts c []) flags dims (was.each c flags dims is at);
}

pub record AreCubesTold (caller : ℕ) (own : List CoreEntry) (counts : List (List ℕ)) (texts : List (List Bool)) (lists : List DimNames)
    (cube : ℕ) : Type 0 where
  pub done : length lists ≡ cube
  pub each : (c : ℕ) (flags : List Bool) (dims : DimNames) → slice_get texts c ≡ Some flags → slice_get lists c ≡ Some dims
      → HasNamesTold caller own c (get_or counts c []) flags dims

pub cubes-none : (caller : ℕ) (own : List CoreEntry) (counts : List (List ℕ)) (texts : List (List Bool)) (lists : List DimNames)
    → lists ≡ [] → HasMoreWith own own (λ later. AreCubesTold caller later counts texts lists 0)
cubes-none caller own counts texts lists none =
    with-none own (λ later. AreCubesTold caller later counts texts lists 0)
    (record {
      done = ap length none;
      each = λ c flags dims is at. absurd (none-some dims (ap (λ (l : List DimNames). slice_get l c) (sym none) ∙ at));
    })

cubes-joined : (caller new_caller : ℕ) (first second : List CoreEntry) (counts : List (List ℕ)) (texts : List (List Bool))
    (lists new : List DimNames) (cube : ℕ) (flags : List Bool) (dims : DimNames) → new_caller ≡ caller → slice_get texts cube ≡ Some flags
    → new ≡ lists ++ dims ∷ [] → AreCubesTold caller first counts texts lists cube
    → HasNamesTold new_caller second cube (get_or counts cube []) flags dims
    → AreCubesTold new_caller (first ++ second) counts texts new (cube + 1)
cubes-joined caller new_caller first second counts texts lists new cube flags dims same at is was said =
    let done = was.done in
    let grown = ap length is ∙ length-append lists (dims ∷ []) in
    record {
      done = omega (arith, done, grown);
      each = λ c fs found is-flags there.
          (go c fs found is-flags (get-pushed lists dims found c (ap (λ (l : List DimNames). slice_get l c) (sym is) ∙ there)));
    }
  where
    go : (c : ℕ) (fs : List Bool) (found : DimNames) → slice_get texts c ≡ Some fs
        → (slice_get lists c ≡ Some found) ⊎ ((c ≡ length lists) × (dims ≡ found))
        → HasNamesTold new_caller (first ++ second) c (get_or counts c []) fs found
    go c fs found is-flags (inl there) =
        subst (λ (n : ℕ). HasNamesTold n (first ++ second) c (get_or counts c []) fs found) (sym same)
        (names-before caller first second c (get_or counts c []) fs found (was.each c fs found is-flags there))
    go c fs found is-flags (inr last) =
        let here = last.0 ∙ was.done in
        let same-flags = same_Some flags fs (sym at ∙ ap (slice_get texts) (sym here) ∙ is-flags) in
        coe 0 1 (i. HasNamesTold new_caller (first ++ second) (sym here i) (get_or counts (sym here i) []) (same-flags i) (last.1 i))
        (names-behind new_caller first second cube (get_or counts cube []) flags dims said)

pub cubes-next : (caller new_caller : ℕ) (own mid now : List CoreEntry) (counts : List (List ℕ)) (texts : List (List Bool))
    (lists new : List DimNames) (cube : ℕ) (flags : List Bool) (dims : DimNames)
    → HasMoreWith own mid (λ later. AreCubesTold caller later counts texts lists cube)
    → new_caller ≡ caller → slice_get texts cube ≡ Some flags
    → HasMoreWith mid now (λ later. HasNamesTold new_caller later cube (get_or counts cube []) flags dims) → new ≡ lists ++ dims ∷ []
    → HasMoreWith own now (λ later. AreCubesTold new_caller later counts texts new (cube + 1))
cubes-next caller new_caller own mid now counts texts lists new cube flags dims was same at said is =
    with-both own mid now (λ later. AreCubesTold caller later counts texts lists cube)
    (λ later. HasNamesTold new_caller later cube (get_or counts cube []) flags dims)
    (λ later. AreCubesTold new_caller later counts texts new (cube + 1)) was said
    (λ first second. cubes-joined caller new_caller first second counts texts lists new cube flags dims same at is)

pub cubes-all : (caller : ℕ) (own now : List CoreEntry) (counts : List (List ℕ)) (texts : List (List Bool)) (lists : List DimNames)
    (cube : ℕ) → HasMoreWith own now (λ later. AreCubesTold caller later counts texts lists cube) → cube ≡ length texts
    → HasMoreWith own now (λ later. HaveNamesTold caller later counts texts lists)
cubes-all caller own now counts texts lists cube was all =
    record { later = was.later; whole = was.whole; are = record { cubes = was.are.done ∙ all; each = was.are.each } }

-- So many cubes.
pub cubes-count : (shapes : List CubeShape) (made : List Decl) → length (texts_by_cube shapes made) ≡ length shapes + length made
cubes-count shapes made =
    length-append (map (λ shape. shape.texts) shapes) (map (λ cube. map (λ dim. dim.text) cube.dims) made)
    ∙ (λ i. length-map shapes (λ shape. shape.texts) i + length-map made (λ cube. map (λ dim. dim.text) cube.dims) i)
