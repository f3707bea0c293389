-- A query that is bound by names which were copied after a reader was opened is bound at the reader.
use Rattle.std.proofs.Common.{◌≡◌, ℕ, List, Some, slice_get, sym, subst}
use mathlib.Core.List.{IsPrefix}
use Rattle.core_watches.proofs.PassedMoments.{came-later, later-of, passing, reader-then}
use Rattle.core_watches.specs.BoundReaders.{HasReader, IsBoundInRuns}
use Rattle.condition_spans.specs.Codes.{lists_at}
use Rattle.copied_names.specs.CopiedNames.{AreCopiedBetween}
use Rattle.core_agreements.specs.NamedQueries.{EndAs}
use Rattle.core_events.specs.Cells.{desk_of}
use Rattle.core_program.specs.CoreFits.{CoreEntry}
use Rattle.core_program.specs.Knowing.{IsClientOf, IsSessionOf}
use Rattle.core_records.specs.CoreRecords.{names_left}
use Rattle.cube_core.specs.declared.cell.CoreCell.{CoreCell}
use Rattle.cube_language.specs.Misfits.{FitsCube}
use Rattle.cube_language.specs.declared.decl.Decl.{Decl}
use Rattle.cube_language.specs.declared.statement.Statement.{Statement}
use Rattle.cube_values.specs.declared.query.BoundQuery.{BoundQuery}
use Rattle.known_cubes.proofs.ToldCubes.{desk-has}
use Rattle.known_cubes.specs.KnownCubes.{IsToldOfCube}
use Rattle.linked_shards.specs.CellShards.{CoreShardStands}
use Rattle.shard_events.specs.ShardsInRuns.{FitsShard, ShardAnswerSays}
use Rattle.linked_shards.specs.declared.cell.CoreShard.{CoreShard}
use Rattle.query_plan.specs.Bindings.{IsQueryOn}
use Rattle.query_plan.specs.Ties.{AreDistinct}
use Rattle.session_watches.specs.KnownReaders.{HoldersHave}
use Rattle.watch_holds.specs.HolderStates.{HeldReaders}

pub bound-at-reader : (cells : List (CoreCell CoreShard)) (caller session number epoch place : ℕ) (own now : List CoreEntry)
    (readers : HeldReaders) (name : List ℕ) (d : Decl) (s : Statement) (names : List (List (List (List ℕ))))
    (query : BoundQuery) → IsClientOf FitsShard CoreShardStands ShardAnswerSays cells caller session
    → IsSessionOf FitsShard CoreShardStands ShardAnswerSays cells session → IsPrefix own now
    → HoldersHave FitsShard CoreShardStands ShardAnswerSays cells caller session own readers
    → HasReader number epoch readers → IsToldOfCube own name place d → FitsCube d s
    → AreCopiedBetween FitsShard CoreShardStands ShardAnswerSays cells caller own now place d names
    → AreDistinct (lists_at names place) → query.cube ≡ place → IsQueryOn d names s query
    → IsBoundInRuns cells caller now number epoch names d s query
bound-at-reader cells caller session number epoch place own now readers name d s names query acts of_run more have has
    told fits copied distinct at bound o log run later =
    let before = later-of cells caller session o own now log run more later in
    let p = passing cells caller session o own log run before in
    let es = p.0 in
    let m = p.1 in
    let newer = came-later cells caller session o own log run es m in
    let there = desk-has FitsShard CoreShardStands ShardAnswerSays o cells caller own m.earlier es name place d m.run_then told in
    let same = sym at in
    record {
      later = newer.0;
      es = es;
      goes_on = newer.1;
      held = reader-then cells caller session acts o own log run es m readers number epoch (of_run o log before.opens) have has;
      bound = record {
        cube_is = subst (λ (n : ℕ). slice_get (desk_of o es).cubes n ≡ Some d) same there.0;
        fits = fits;
        distinct = subst (λ (n : ℕ). AreDistinct (lists_at names n)) same distinct;
        bound = bound;
        since =
            subst (λ (n : ℕ). EndAs d (lists_at (names_left o es) n) (lists_at names n)) same
            (copied.since o log run es later m);
        until =
            subst (λ (n : ℕ). EndAs d (lists_at names n) (lists_at (names_left o run) n)) same
            (copied.until o log run later);
      };
    }

pub still-bound : (cells : List (CoreCell CoreShard)) (caller number epoch : ℕ) (own now : List CoreEntry) (d : Decl)
    (s : Statement) (names : List (List (List (List ℕ)))) (query : BoundQuery) → IsPrefix own now
    → IsBoundInRuns cells caller own number epoch names d s query
    → IsBoundInRuns cells caller now number epoch names d s query
still-bound cells caller number epoch own now d s names query more bound o log run later =
    bound o log run (later-of cells caller 0 o own now log run more later)
