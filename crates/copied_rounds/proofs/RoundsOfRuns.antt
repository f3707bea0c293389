-- A round of what the flusher copied is one of each run that goes on from its calls.
use Rattle.std.proofs.Common.{◌≡◌, ◌∙◌, ℕ, Bool, true, false, List, [], ◌++◌, length, map, drop, slice_get, Some, MatchBool, sym, ap, subst}
use Rattle.std.specs.List.{zip, AllByRecursion}
use Rattle.std.specs.Option.{option_map_or}
use Rattle.std.proofs.lemmas.List.{length-map}
use Rattle.std.proofs.lemmas.Option.{slice_get_within}
use Rattle.core_program.proofs.ClientRuns.{client-run}
use Rattle.core_program.proofs.FlusherCalls.{is-client}
use Rattle.core_program.proofs.KnownCalls.{earlier-run}
use Rattle.core_program.specs.Flushing.{IsFlusherOf}
use Rattle.core_program.specs.Knowing.{IsLaterRun}
use Rattle.core_events.specs.Cells.{desk_of, dictionary_of}
use Rattle.core_events.specs.Clients.{client_state}
use Rattle.core_events.specs.Events.{Opening, CoreEvent}
use Rattle.core_events.specs.ShardView.{ShardView}
use Rattle.core_serial.specs.Copies.{HasCopied, copies_by}
use Rattle.core_program.specs.CoreFits.{CoreEntry}
use Rattle.copied_rounds.proofs.KeptPlaces.{counts-are, index-at, part-shown, texts-are, texts_of}
use Rattle.copied_rounds.proofs.ToldSince.{cubes-since, earlier-calls, known-now, log_then, moment, names-since, run-then}
use Rattle.copied_rounds.specs.CopiedRounds.{AreKeptInRuns, HasAllCopies, HaveShapesAndCounts, IsRoundBehindKept, OpenForRounds}
use Rattle.cube_core.specs.declared.cell.CoreCell.{CoreCell}
use Rattle.cube_language.specs.declared.decl.Decl.{Decl}
use Rattle.cube_language.specs.declared.decl.DimDecl.{DimDecl}
use Rattle.brick_map.specs.Copied.{part_numbered}
use Rattle.cube_rounds.specs.Bricks.{BrickPart}
use Rattle.cube_rounds.specs.Demands.{DimNames, FitsRound, no_names}
use Rattle.cube_rounds.specs.Stands.{names_behind}
use Rattle.cube_rounds.specs.declared.round.Round.{Round}
use Rattle.cube_rounds.specs.declared.round.RoundCube.{RoundCube}
use Rattle.cube_schema.specs.Schemas.{cube_of}
use Rattle.cube_values.specs.declared.shape.CubeShape.{CubeShape}
use Rattle.following_rounds.proofs.ByPlaces.{all-by-places, at-place, zipped}
use Rattle.following_rounds.proofs.KeptLists.{kept-with-round}
use Rattle.following_rounds.proofs.WholeRounds.{round-fits}
use Rattle.following_rounds.specs.FollowingRounds.{IsKeptAfter, HoldsSince, IsCopiedCube, IsCopiedPart, IsStorableRound}
use Rattle.linked_shards.specs.CellShards.{CanCallCoreShard, CoreShardStands, CoreShardStep, linked-shards}
use Rattle.linked_shards.specs.declared.cell.CoreShard.{CoreShard}
use Rattle.round_copies.proofs.CopiedRound.{joined-view}
use Rattle.round_copies.proofs.CopyTurns.{get-mapped}
use Rattle.round_copies.specs.RoundCopies.{AreNamesTold, HasRows, IsCopiedRound, bricks_of_round, count_at, texts_by_cube}
use Rattle.round_copies.specs.WithinRounds.{HasHistory}
use Rattle.round_copies.specs.declared.span.RoundSpan.{RoundSpan}
use Rattle.shard_events.specs.ShardsInRuns.{FitsShard, IsWholePart, ShardAnswerSays}
use Rattle.shard_views.specs.Views.{part_view}

module _ (cells : List (CoreCell CoreShard)) (caller client shards : ℕ)
    (flush : IsFlusherOf FitsShard CoreShardStands ShardAnswerSays cells caller client shards)
    (before own : List CoreEntry)
    (span : RoundSpan) (shapes : List CubeShape) (counts : List (List ℕ)) (round : Round)
    (taken : IsCopiedRound cells caller client before own span shapes counts round)
    (cubes : List Decl) (names : List DimNames)
    (have : HaveShapesAndCounts cubes names shapes counts) where
  module _ (o : Opening) (kept : AreKeptInRuns cells o caller before cubes names) (log : List CoreEntry)
      (run : List CoreEvent)
      (later : IsLaterRun FitsShard CoreShardStands ShardAnswerSays cells o caller own log run) where
    abbrev goes : IsLaterRun FitsShard CoreShardStands ShardAnswerSays cells o caller (taken.earlier ++ taken.later) log run
    goes =
        subst (λ (l : List CoreEntry). IsLaterRun FitsShard CoreShardStands ShardAnswerSays cells o caller l log run)
        taken.whole later

    abbrev copied : List CoreEvent
    copied = moment cells caller o taken.earlier taken.later log run goes

    abbrev copies : ShardView
    copies = copies_by o (client_state o client copied).group.answers

    has-rows : HasRows span taken.copies o (client_state o client copied)
    has-rows =
        known-now cells caller o client shards flush (HasRows span taken.copies) taken.earlier
        (log_then cells caller o taken.earlier taken.later log run goes) copied taken.rows
        (run-then cells caller o taken.earlier taken.later log run goes)
        (earlier-calls cells caller o taken.earlier taken.later log run goes)

    has-copied : HasCopied o.shards round.from round.epoch (client_state o client copied).group
    has-copied =
        coe 1 0 (i. HasCopied o.shards (taken.begins i) (taken.ends i) (client_state o client copied).group)
        has-rows.copied.copied

    -- The shape of each cube, and the number of its names.

    texts : texts_by_cube shapes round.made ≡ map texts_of (cubes ++ round.made)
    texts = ap (λ (l : List CubeShape). texts_by_cube l round.made) have.shapes_are ∙ texts-are cubes round.made

    many-shapes : length shapes ≡ length cubes
    many-shapes = ap (λ (l : List CubeShape). length l) have.shapes_are ∙ length-map cubes cube_of

    many-parts : length round.cubes ≡ length (cubes ++ round.made)
    many-parts =
        sym (length-map round.cubes (λ (part : RoundCube). part.names)) ∙ taken.names.cubes
        ∙ ap (λ (l : List (List Bool)). length l) texts
        ∙ length-map (cubes ++ round.made) texts_of

    -- The cubes and the names.

    made-since : HoldsSince copied run (λ es. round.made ≡ drop (length cubes) (desk_of o es).cubes)
    made-since =
        subst (λ (n : ℕ). HoldsSince copied run (λ es. round.made ≡ drop n (desk_of o es).cubes)) many-shapes
        (cubes-since cells caller o taken.earlier taken.later log run goes (length shapes) round.made taken.made)

    told-since : (cube dim count : ℕ) (t : Bool) (first list : List (List ℕ)) → count ≡ length first
        → AreNamesTold caller taken.later cube dim count t list
        → MatchBool t (HoldsSince copied run (λ es. list ≡ drop (length first) (dictionary_of o cube dim es).names))
        (list ≡ [])
    told-since cube dim count true first list many told =
        subst (λ (n : ℕ). HoldsSince copied run (λ es. list ≡ drop n (dictionary_of o cube dim es).names)) many
        (names-since cells caller o taken.earlier taken.later log run goes cube dim count list told)
    told-since cube dim count false first list many none = none

    -- The bricks.
    part-copied : (cube : ℕ) (part : RoundCube) → slice_get round.cubes cube ≡ Some part
        → AllByRecursion (IsCopiedPart copies cube) part.bricks
    part-copied cube part is =
        let sound = taken.bricks cube part is in
        let at = get-mapped (λ (c : RoundCube). c.bricks) round.cubes cube part is in
        let low = slice_get_within (bricks_of_round round) cube part.bricks at in
        all-by-places (IsCopiedPart copies cube) part.bricks
        (λ k b is_b.
        let whole = at-place IsWholePart part.bricks k b sound.whole is_b in
        record {
          some = whole.some;
          vector = whole.vector;
          same = sym (part-shown (bricks_of_round round) cube part.bricks k b at sound.rising is_b)
              ∙ joined-view taken.copies (bricks_of_round round) cube b.brick taken.joined low
              ∙ sym (has-rows.rows cube b.brick);
        })

    cube-copied : (cube : ℕ) (c : Decl × DimNames) (part : RoundCube)
        → slice_get (zip (cubes ++ round.made) (names ++ map no_names round.made)) cube ≡ Some c
        → slice_get round.cubes cube ≡ Some part
        → IsCopiedCube o copied run copies cube c.0 c.1 part
    cube-copied cube c part is is_part =
        let places = zipped (cubes ++ round.made) (names ++ map no_names round.made) cube c is in
        let flags =
        ap (λ (l : List (List Bool)). slice_get l cube) texts
        ∙ get-mapped texts_of (cubes ++ round.made) cube c.0 places.0
        in
        let told =
        taken.names.each cube (texts_of c.0) part.names flags
        (get-mapped (λ (p : RoundCube). p.names) round.cubes cube part is_part)
        in
        record {
          dims = told.dims ∙ length-map c.0.dims (λ (d : DimDecl). d.text);
          each = λ dim d first list is_dim is_first is_list.
              told-since cube dim (count_at counts cube dim) d.text first list
              (have.counts_are cube dim ∙ counts-are names round.made cube dim c.1 first places.1 is_first)
              (told.each dim d.text list (get-mapped (λ (d : DimDecl). d.text) c.0.dims dim d is_dim) is_list);
          bricks = part-copied cube part is_part;
          rising = (taken.bricks cube part is_part).rising;
        }

    all-copied : (cube : ℕ) (part : RoundCube) → slice_get round.cubes cube ≡ Some part
        → HasAllCopies copies cube part.bricks
    all-copied cube part is =
        let at = get-mapped (λ (c : RoundCube). c.bricks) round.cubes cube part is in
        let low = slice_get_within (bricks_of_round round) cube part.bricks at in
        record {
          sound = taken.bricks cube part is;
          same = λ brick.
              ap (λ (l : List BrickPart). option_map_or part_view (part_numbered brick l) [])
              (sym (index-at (bricks_of_round round) cube part.bricks at))
              ∙ joined-view taken.copies (bricks_of_round round) cube brick taken.joined low
              ∙ sym (has-rows.rows cube brick);
        }

    -- What was kept before the calls that copied is so at that moment.
    kept-then : IsKeptAfter o copied cubes names
    kept-then =
        let log_now = log_then cells caller o taken.earlier taken.later log run goes in
        let then = run-then cells caller o taken.earlier taken.later log run goes in
        kept log_now copied
        (earlier-run FitsShard CoreShardStands ShardAnswerSays cells o caller before taken.behind.more log_now copied
        (subst (λ (l : List CoreEntry). IsLaterRun FitsShard CoreShardStands ShardAnswerSays cells o caller l log_now copied)
        taken.behind.whole then))

    pub round-of-run : IsRoundBehindKept o run client cubes names round
    round-of-run = record {
      copied = copied;
      kept = kept-then;
      taken = record { rows = has-copied; made = made-since; parts = many-parts; each = cube-copied };
      all = all-copied;
    }

  pub kept-with-copies : (o : Opening) → AreKeptInRuns cells o caller before cubes names
      → AreKeptInRuns cells o caller own (cubes ++ round.made) (names_behind names round)
  kept-with-copies o kept log run later =
      let behind = round-of-run o kept log run later in
      kept-with-round o behind.copied run client cubes names round behind.kept behind.taken

  pub round-may-follow : ((o : Opening) → AreKeptInRuns cells o caller before cubes names)
      → ((o : Opening) → OpenForRounds cells o caller own) → HasHistory cells caller own → IsStorableRound round
      → FitsRound cubes names round
  round-may-follow kept open_for history storable =
      let first = flush.opening history.log in
      let acts = is-client FitsShard CoreShardStands ShardAnswerSays cells caller client shards flush in
      let r =
      client-run FitsShard CoreShardStands ShardAnswerSays CanCallCoreShard CoreShardStep linked-shards cells caller
      client own first.0 acts history first.1
      in
      let behind = round-of-run first.0 (kept first.0) history.log r.run r.is_later in
      round-fits first.0 behind.copied r.run client cubes names round r.is_later.is_run
      (open_for first.0 history.log r.run r.is_later) behind.kept behind.taken storable
