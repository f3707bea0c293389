-- The flusher was told of what it copied: of its round's cubes, and of the names with those of the round.
use Rattle.std.proofs.Common.{◌≡◌, ◌∙◌, ℕ, zero, suc, ◌+◌, ◌<◌, ◌≤◌, ◌==◌, ◌&&◌, Bool, true, false, List, [], ◌∷◌, ◌++◌, length, map, get_or, slice_get, Some, Contains, length-append, refl, sym, ap, subst, arith, eq-eqb}
use Rattle.std.specs.List.{zip}
use Rattle.std.proofs.lemmas.List.{length-map}
use Rattle.std.proofs.lemmas.List.Elements.{Contains-append_right}
use Rattle.std.proofs.lemmas.Option.{slice_get_within}
use Rattle.core_program.specs.ClientCalls.{desk_entry, names_entry}
use Rattle.copied_rounds.proofs.KeptPlaces.{counts-are}
use Rattle.copied_rounds.specs.CopiedRounds.{HaveShapesAndCounts, names_of_dim}
use Rattle.cube_core.specs.Links.{AreEventsOf}
use Rattle.core_cells.specs.declared.desk.DeskAnswer.TheVariants as said
use Rattle.core_cells.specs.declared.desk.DeskCall.TheVariants as asked
use Rattle.core_cells.specs.declared.names.NamesAnswer.TheVariants as told
use Rattle.core_cells.specs.declared.names.NamesCall.TheVariants as naming
use Rattle.core_events.proofs.Knowledge.{known-by-calls}
use Rattle.core_events.specs.Clients.{ClientState, after_client_call, calls_of, client_after_call, client_state, greater_of, greater_where, state_from_calls}
use Rattle.core_events.specs.Events.{Opening, CubesFrom, CopyFrom, ClientCall, OnDesk, OnNames, CoreEvent, By, At}
use Rattle.core_program.proofs.FlusherCalls.{is-client}
use Rattle.core_program.proofs.KnownCalls.{go-on-from, known-before}
use Rattle.cube_core.specs.BoardCells.{IsEntryEvent, IsEventOf, client_of}
use Rattle.core_program.specs.CoreFits.{CoreEntry}
use Rattle.core_program.specs.Flushing.{IsFlusherOf}
use Rattle.core_program.specs.Knowing.{IsLaterRun}
use Rattle.cube_core.specs.declared.cell.CoreAnswer.{CoreAnswer}
use Rattle.cube_core.specs.declared.cell.CoreAnswer.TheVariants as answer
use Rattle.cube_core.specs.declared.cell.CoreCall.{CoreCall}
use Rattle.cube_core.specs.declared.cell.CoreCall.TheVariants as call
use Rattle.cube_core.specs.declared.cell.CoreCell.{CoreCell}
use Rattle.cube_language.specs.declared.decl.Decl.{Decl}
use Rattle.cube_rounds.specs.Demands.{DimNames, names_with, no_names}
use Rattle.cube_rounds.specs.Stands.{names_behind}
use Rattle.cube_rounds.specs.declared.round.Round.{Round}
use Rattle.cube_rounds.specs.declared.round.RoundCube.{RoundCube}
use Rattle.cube_schema.specs.Schemas.{cube_of}
use Rattle.cube_values.specs.declared.shape.CubeShape.{CubeShape}
use Rattle.following_rounds.proofs.ByPlaces.{mapped, some-at, zipped}
use Rattle.job_groups.specs.AskedEach.{HasMore}
use Rattle.known_cubes.proofs.OwnCalls.{cubes-rise, names-rise, own-caller, state-after, told-own}
use Rattle.linked_shards.specs.CellShards.{CoreShardStands}
use Rattle.shard_events.specs.ShardsInRuns.{FitsShard, ShardAnswerSays}
use Rattle.linked_shards.specs.declared.cell.CoreShard.{CoreShard}
use Rattle.round_copies.proofs.CopyTurns.{get-mapped}
use Rattle.round_copies.specs.RoundCopies.{AreNamesTold, IsCopiedRound, IsToldOf, count_at, texts_by_cube}
use Rattle.round_copies.specs.WithinRounds.{KnowsOfFlusher}
use Rattle.round_copies.specs.declared.span.RoundSpan.{RoundSpan}
use Rattle.round_store.specs.Counts.{counts_of}

-- What a client knows of does not become less by more events.

module _ (o : Opening) (client : ℕ) (known : ClientState → ℕ)
    (rises : (c : ClientCall) (k : ClientState) → known k ≤ known (after_client_call o client c k)) where
  by-call : (own : Bool) (c : ClientCall) (k : ClientState) → known k ≤ known (client_after_call o own client c k)
  by-call true c k = rises c k
  by-call false c k = omega arith

  still-known : (newer es : List CoreEvent) → known (client_state o client es) ≤ known (client_state o client (newer ++ es))
  still-known [] es = omega arith
  still-known (By b c ∷ newer) es =
      let first = still-known newer es in
      let next = by-call (b == client) c (client_state o client (newer ++ es)) in
      omega (arith, first, next)
  still-known (At mail move ∷ newer) es = still-known newer es

pub told-stays : (o : Opening) (client cubes : ℕ) (counts : List (List ℕ)) (newer es : List CoreEvent)
    → IsToldOf cubes counts (state_from_calls o client (calls_of client es))
    → IsToldOf cubes counts (state_from_calls o client (calls_of client (newer ++ es)))
told-stays o client cubes counts newer es told =
    subst (λ (k : ClientState). IsToldOf cubes counts k) (known-by-calls o client (newer ++ es))
    (let was = subst (λ (k : ClientState). IsToldOf cubes counts k) (sym (known-by-calls o client es)) told in
    record {
      listed =
          let listed = was.listed in
          let rise = still-known o client (λ k. k.cubes) (cubes-rise o client) newer es in
          omega (arith, listed, rise);
      names = λ cube dim.
          let named = was.names cube dim in
          let rise = still-known o client (λ k. k.names cube dim) (names-rise o client cube dim) newer es in
          omega (arith, named, rise);
    })

-- A number that is above none that another one is not above is no greater.
all-below : (n k : ℕ) → ((low : ℕ) → low < n → low < k) → n ≤ k
all-below zero k each = omega arith
all-below (suc n) k each = let last = each n (omega arith) in omega (arith, last)

-- What one entry tells: so many cubes, or so many names.

data TellsOfCubes (place : ℕ) (made : List Decl) : CoreCall → CoreAnswer → Type 0 where
  by_list : TellsOfCubes place made (call.Desk (asked.CubesFrom place)) (answer.Desk (said.Cubes made))

data TellsOfList (cube dim count : ℕ) (list : List (List ℕ)) : CoreCall → CoreAnswer → Type 0 where
  by_copy : TellsOfList cube dim count list (call.Names (naming.CopyFrom cube dim count)) (answer.Names (told.Copied list))

number-below : (cube dim low least n : ℕ) → low < least → low < greater_where (cube == cube && dim == dim) (Some least) n
number-below cube dim low least n below =
    let here : (cube == cube && dim == dim) ≡ true = λ i. eq-eqb cube cube refl i && eq-eqb dim dim refl i in
    let most : low < greater_of (Some least) n = omega (arith, below) in
    subst (λ (b : Bool). low < greater_where b (Some least) n) (sym here) most

module _ (o : Opening) where
  abbrev event : List CoreEvent → CoreEntry → CoreEvent → Type 0
  event es e x = IsEntryEvent FitsShard CoreShardStands ShardAnswerSays o es e x

  tells-cubes : (es : List CoreEvent) (b k : ℕ) {c : CoreCall} {a : CoreAnswer} (x : CoreEvent) (place low : ℕ) (made : List Decl)
      → low < place + length made → TellsOfCubes place made c a
      → IsEventOf FitsShard CoreShardStands ShardAnswerSays o es b k c a x
      → low < (client_state o (client_of o b) (x ∷ es)).cubes
  tells-cubes es b k x place low made below by_list is =
      let client = client_of o b in
      let most : low < greater_of (Some (place + length made)) (client_state o client es).cubes = omega (arith, below) in
      subst (λ (state : ClientState). low < state.cubes)
      (sym (state-after o client (OnDesk (CubesFrom place made)) x es is.2)) most

  tells-list : (es : List CoreEvent) (b k : ℕ) {c : CoreCall} {a : CoreAnswer} (x : CoreEvent) (cube dim count low : ℕ)
      (list : List (List ℕ)) → low < count + length list → TellsOfList cube dim count list c a
      → IsEventOf FitsShard CoreShardStands ShardAnswerSays o es b k c a x
      → low < (client_state o (client_of o b) (x ∷ es)).names cube dim
  tells-list es b k x cube dim count low list below by_copy is =
      let client = client_of o b in
      subst (λ (state : ClientState). low < state.names cube dim)
      (sym (state-after o client (OnNames (CopyFrom cube dim count list)) x es is.1))
      (number-below cube dim low (count + length list) ((client_state o client es).names cube dim) below)

-- How long a list is at a place.

dim-within : (lists : DimNames) (dim n : ℕ) → ((list : List (List ℕ)) → slice_get lists dim ≡ Some list → length list ≤ n)
    → length (get_or lists dim []) ≤ n
dim-within [] dim n each = omega arith
dim-within (x ∷ lists) zero n each = each x refl
dim-within (x ∷ lists) (suc dim) n each = dim-within lists dim n each

lists-within : (names : List DimNames) (cube dim n : ℕ)
    → ((lists : DimNames) (list : List (List ℕ)) → slice_get names cube ≡ Some lists → slice_get lists dim ≡ Some list
    → length list ≤ n)
    → length (names_of_dim names cube dim) ≤ n
lists-within [] cube dim n each = omega arith
lists-within (x ∷ names) zero dim n each = dim-within x dim n (λ list is. each x list refl is)
lists-within (x ∷ names) (suc cube) dim n each = lists-within names cube dim n each

length-of : (lists : DimNames) (dim : ℕ) → get_or (map length lists) dim 0 ≡ length (get_or lists dim [])
length-of [] dim = refl
length-of (list ∷ lists) zero = refl
length-of (list ∷ lists) (suc dim) = length-of lists dim

pub count-of : (names : List DimNames) (cube dim : ℕ)
    → count_at (counts_of names) cube dim ≡ length (names_of_dim names cube dim)
count-of [] cube dim = refl
count-of (lists ∷ names) zero dim = length-of lists dim
count-of (lists ∷ names) (suc cube) dim = count-of names cube dim

module _ (cells : List (CoreCell CoreShard)) (caller client shards : ℕ)
    (flush : IsFlusherOf FitsShard CoreShardStands ShardAnswerSays cells caller client shards)
    (before own : List CoreEntry) (more : HasMore before own)
    (span : RoundSpan) (shapes : List CubeShape) (counts : List (List ℕ)) (round : Round)
    (taken : IsCopiedRound cells caller client before own span shapes counts round)
    (cubes : List Decl) (names : List DimNames) (have : HaveShapesAndCounts cubes names shapes counts)
    (known : KnowsOfFlusher cells caller client before (λ o k. IsToldOf (length shapes) counts k))
    (o : Opening) (log : List CoreEntry) (run es : List CoreEvent)
    (later : IsLaterRun FitsShard CoreShardStands ShardAnswerSays cells o caller own log run)
    (are : AreEventsOf (IsEntryEvent FitsShard CoreShardStands ShardAnswerSays o) own es) where
  abbrev state : ClientState
  state = state_from_calls o client (calls_of client es)

  first-told : IsToldOf (length shapes) counts state
  first-told =
      let now = subst (λ (l : List CoreEntry). AreEventsOf (IsEntryEvent FitsShard CoreShardStands ShardAnswerSays o) l es) more.whole are in
      let then = subst (λ (l : List CoreEntry). IsLaterRun FitsShard CoreShardStands ShardAnswerSays cells o caller l log run) more.whole later in
      let g = go-on-from FitsShard CoreShardStands ShardAnswerSays cells o before more.more es now in
      let was =
      known-before FitsShard CoreShardStands ShardAnswerSays cells caller client before more.more
      (λ p calls. IsToldOf (length shapes) counts (state_from_calls p client calls)) known o log run es then g
      in
      subst (λ (l : List CoreEvent). IsToldOf (length shapes) counts (state_from_calls o client (calls_of client l))) (sym g.whole)
      (told-stays o client (length shapes) counts g.newer g.before was)

  among : (e : CoreEntry) → Contains taken.later e → Contains own e
  among e has = subst (λ (l : List CoreEntry). Contains l e) (sym taken.whole) (Contains-append_right taken.earlier taken.later e has)

  abbrev same : client ≡ client_of o caller
  same = (is-client FitsShard CoreShardStands ShardAnswerSays cells caller client shards flush).client_is o log later.opens

  cubes-told : length shapes + length round.made ≤ state.cubes
  cubes-told = all-below (length shapes + length round.made) state.cubes (λ low below.
      let e = desk_entry caller (asked.CubesFrom (length shapes)) (said.Cubes round.made) in
      told-own o client (λ k. k.cubes) (cubes-rise o client) (event o) caller low (TellsOfCubes (length shapes) round.made)
      (λ earlier e x by is tells.
      subst (λ (n : ℕ). low < (client_state o n (x ∷ earlier)).cubes) (ap (client_of o) by ∙ sym same)
      (tells-cubes o earlier e.caller e.cell x (length shapes) low round.made below tells is))
      own es e (own-caller caller own log later.begins) are (among e taken.made) by_list)

  list-told : (cube dim count : ℕ) (list : List (List ℕ))
      → Contains taken.later (names_entry caller (naming.CopyFrom cube dim count) (told.Copied list))
      → count + length list ≤ state.names cube dim
  list-told cube dim count list made = all-below (count + length list) (state.names cube dim) (λ low below.
      let e = names_entry caller (naming.CopyFrom cube dim count) (told.Copied list) in
      told-own o client (λ k. k.names cube dim) (names-rise o client cube dim) (event o) caller low (TellsOfList cube dim count list)
      (λ earlier e x by is tells.
      subst (λ (n : ℕ). low < (client_state o n (x ∷ earlier)).names cube dim) (ap (client_of o) by ∙ sym same)
      (tells-list o earlier e.caller e.cell x cube dim count low list below tells is))
      own es e (own-caller caller own log later.begins) are (among e made) by_copy)

  names-told : (cube dim : ℕ) (text : Bool) (list : List (List ℕ))
      → AreNamesTold caller taken.later cube dim (count_at counts cube dim) text list
      → count_at counts cube dim + length list ≤ state.names cube dim
  names-told cube dim true list made = list-told cube dim (count_at counts cube dim) list made
  names-told cube dim false list none =
      let was = first-told.names cube dim in
      let empty = ap (λ (l : List (List ℕ)). length l) none in
      omega (arith, was, empty)

  -- The names of a dimension with those of the round.
  dim-told : (cube dim : ℕ) (lists : DimNames) (list : List (List ℕ)) → slice_get (names_behind names round) cube ≡ Some lists
      → slice_get lists dim ≡ Some list → length list ≤ state.names cube dim
  dim-told cube dim lists list is is_list =
      let from =
      mapped (λ (c : DimNames × RoundCube). names_with c.0 c.1.names) (zip (names ++ map no_names round.made) round.cubes) cube lists is
      in
      let both = zipped (names ++ map no_names round.made) round.cubes cube from.item from.there in
      let of_dim =
      mapped (λ (d : List (List ℕ) × List (List ℕ)). d.0 ++ d.1) (zip from.item.0 from.item.1.names) dim list
      (ap (λ (all : DimNames). slice_get all dim) from.gives ∙ is_list)
      in
      let lists_at = zipped from.item.0 from.item.1.names dim of_dim.item of_dim.there in
      let first = of_dim.item.0 in
      let next = of_dim.item.1 in
      let texts = texts_by_cube shapes round.made in
      let part_at = get-mapped (λ (part : RoundCube). part.names) round.cubes cube from.item.1 both.1 in
      let within = slice_get_within (map (λ (part : RoundCube). part.names) round.cubes) cube from.item.1.names part_at in
      let long = taken.names.cubes in
      let flags = some-at texts cube (omega (arith, within, long)) in
      let of_cube = taken.names.each cube flags.0 from.item.1.names flags.1 part_at in
      let dim_within = slice_get_within from.item.1.names dim next lists_at.1 in
      let dims_long = of_cube.dims in
      let flag = some-at flags.0 dim (omega (arith, dim_within, dims_long)) in
      let most = names-told cube dim flag.0 next (of_cube.each dim flag.0 next flag.1 lists_at.1) in
      let count = have.counts_are cube dim ∙ counts-are names round.made cube dim from.item.0 first both.0 lists_at.0 in
      let whole = ap (λ (l : List (List ℕ)). length l) of_dim.gives in
      let sum = length-append first next in
      omega (arith, most, count, whole, sum)

  pub told-with-round : IsToldOf (length (cubes ++ round.made)) (counts_of (names_behind names round)) state
  told-with-round = record {
    listed =
        let all = cubes-told in
        let shapes_are = ap (λ (l : List CubeShape). length l) have.shapes_are in
        let many = length-map cubes cube_of in
        let sum = length-append cubes round.made in
        omega (arith, all, shapes_are, many, sum);
    names = λ cube dim.
        let most = lists-within (names_behind names round) cube dim (state.names cube dim) (dim-told cube dim) in
        let count = count-of (names_behind names round) cube dim in
        omega (arith, most, count);
  }
