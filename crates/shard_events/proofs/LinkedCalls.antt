-- The calls on a shard are events of the core.
use Rattle.std.proofs.Common.{◌≡◌, ℕ, ◌%◌, ◌≤◌, ◌^◌, ◌==◌, List, [], refl, sym, arith, slice_index_or}
use Rattle.cube_values.specs.declared.query.BoundQuery.{BoundQuery}
use Rattle.cube_values.specs.declared.row.CodedRow.{CodedRow}
use Rattle.cube_values.specs.declared.shape.CubeShape.{CubeShape}
use Rattle.cube_values.specs.Shapes.{bricks_of}
use Rattle.agg_fold.specs.declared.groups.Groups.{Groups}
use Rattle.brick_map.specs.Copied.{part_numbered}
use Rattle.cube_core.specs.declared.shard.ShardAnswer.{ShardAnswer}
use Rattle.cube_core.specs.declared.shard.ShardAnswer.TheVariants as answer
use Rattle.cube_core.specs.declared.shard.ShardCall.{ShardCall}
use Rattle.cube_core.specs.declared.shard.ShardCall.TheVariants as call
use Rattle.core_events.specs.Clients.{reader_up_to}
use Rattle.core_events.specs.Events.{Opening}
use Rattle.core_events.specs.Jobs.{CoreJob, JobOutcome, Done, ShardFull, Found, Compared, Copied, OutOfMemory}
use Rattle.core_events.specs.Runs.{rows_in_span, rows_shown_besides, sight_of_reader}
use Rattle.core_events.specs.ShardView.{ShardView, brick_rows_seen}
use Rattle.cube_core.specs.BoardCells.{call_job, IsCallInRun, IsShardStep, view_after_work}
use Rattle.shard_cell.specs.Answers.{brick_rows_apart, brick_rows_shown, reader_at}
use Rattle.shard_cell.specs.Shards.{ShardState, HasShapeAt, cube_at, shard_brick}
use Rattle.shard_cell.specs.Slots.{HasShape}
use Rattle.shard_events.proofs.ShardAnswers.{shards_answer_as_viewed}
use Rattle.shard_events.specs.ShardCalls.{CanAskShard, CanCallShard, HasGroupsOf, ShardStep}
use Rattle.shard_events.specs.ShardsInRuns.{AreGroupsFor, FitsQuery, FitsShard, IsShapeInRun, ShardAnswerSays, ShardsAreLinked, StandsInRun, view_of_copies}
use Rattle.shard_events.proofs.BrickCopies.{brick_copied, none_past, part_is_whole, there_by_shape}
use Rattle.shard_events.proofs.CallSteps.{all_uniform, appended_stands, by_bricks, marked_stands, purged_stands, rolled_stands}
use Rattle.shard_events.proofs.OwnViews.{compared_idle, copied_idle, found_idle, full_idle, full_view, memory_idle, same_stands, viewed_whole}
use Rattle.shard_events.proofs.RowlessBricks.{none_apart, none_found}

-- a shape of the run is that of the shard
shape_at : (o : Opening) (number low cube : ℕ) (shape : CubeShape) (s : ShardState) (view : ShardView) → StandsInRun o number low s view
    → IsShapeInRun o cube shape → HasShapeAt shape cube s
shape_at o number low cube shape s view h f = record {
  place = f.place;
  sound = f.sound;
  same = coe 1 0 (i. HasShape (f.same i) (cube_at s cube)) (h.shapes cube);
}

can_ask : (o : Opening) (number low : ℕ) (shape : CubeShape) (query : BoundQuery) (s : ShardState) (view : ShardView) → StandsInRun o number low s view
    → FitsQuery o shape query → CanAskShard s shape query
can_ask o number low shape query s view h f = record {
  shape_known = shape_at o number low query.cube shape s view h f.of_run;
  sound = f.sound;
  parts = f.parts;
}

takes : (o : Opening) (number low : ℕ) (s : ShardState) (view : ShardView) (c : ShardCall) → StandsInRun o number low s view
    → FitsShard o number c → CanCallShard s c
takes o number low s view (call.Append cube shape epoch rows) h f = (shape_at o number low cube shape s view h f.of_run, f.of_cube)
takes o number low s view (call.DropBox cube shape epoch span) h f = (shape_at o number low cube shape s view h f.0, f.1, f.2)
takes o number low s view (call.Scan shape query snapshot) h f = can_ask o number low shape query s view h f
takes o number low s view (call.Delta shape query from to) h f = can_ask o number low shape query s view h f
takes o number low s view (call.Rollback epoch) h f = tt
takes o number low s view (call.Purge epoch) h f = tt
takes o number low s view (call.CopyRound from to) h f = tt

abbrev StepOf : Opening → ℕ → ℕ → ShardCall → ShardAnswer → ShardView → ShardState → Type 0
StepOf o number low c a view new = IsShardStep StandsInRun ShardAnswerSays o number low c a view new

-- nothing changed
stays : (o : Opening) (number low : ℕ) (s new : ShardState) (view : ShardView) (job : CoreJob) (outcome : JobOutcome) → StandsInRun o number low s view
    → new ≡ s → ((cube brick : ℕ) → view_after_work o number job outcome view cube brick ≡ view cube brick)
    → StandsInRun o number low new (view_after_work o number job outcome view)
stays o number low s new view job outcome h same idle =
    coe 1 0 (i. StandsInRun o number low (same i) (view_after_work o number job outcome view))
    (same_stands o number low low s s view (view_after_work o number job outcome view) (omega arith) h refl h.shapes (λ cube brick. refl)
    (λ cube brick is. idle cube brick))

groups_few : (query : BoundQuery) (s : ShardState) (shape : CubeShape) (each : ℕ → List CodedRow) (groups : Groups) → s.limit ≤ 2 ^ 40
    → (g : HasGroupsOf s shape query each groups) → AreGroupsFor query g.rows groups
groups_few query s shape each groups le g = record { stands = g.stands; few = (let few = g.few in omega (arith, few, le)) }

steps : (o : Opening) (number low : ℕ) (s new : ShardState) (view : ShardView) (c : ShardCall) (a : ShardAnswer) → StandsInRun o number low s view
    → FitsShard o number c → IsCallInRun low c view → ShardStep s c a new → StepOf o number low c a view new
steps o number low s new view (call.Append cube shape epoch rows) answer.Done h f r step = record {
  outcome = Done;
  said = refl;
  answers = tt;
  after = appended_stands o number low cube epoch shape rows.rows s new view f.of_run f.of_shard r.safe h step.0 step.1;
}
steps o number low s new view (call.Append cube shape epoch rows) (answer.ShardFull n) h f r step =
    let job = call_job (call.Append cube shape epoch rows) in record {
      outcome = ShardFull n;
      said = refl;
      answers = tt;
      after = same_stands o number low low s new view (view_after_work o number job (ShardFull n) view) (omega arith) h step.0.limit
          (step.0.shapes o.shapes (sym f.of_run.same) h.shapes) step.1.bricks
          (λ other brick is. full_idle o job n other brick (view other brick) (number == brick % o.shards));
    }
steps o number low s new view (call.Append cube shape epoch rows) answer.NoMemory h f r step =
    let job = call_job (call.Append cube shape epoch rows) in record {
      outcome = OutOfMemory;
      said = refl;
      answers = tt;
      after = same_stands o number low low s new view (view_after_work o number job OutOfMemory view) (omega arith) h step.0.limit
          (step.0.shapes o.shapes (sym f.of_run.same) h.shapes) step.1.bricks
          (λ other brick is. memory_idle o job other brick (view other brick) (number == brick % o.shards));
    }
steps o number low s new view (call.DropBox cube shape epoch span) answer.Done h f r step = record {
  outcome = Done;
  said = refl;
  answers = tt;
  after = marked_stands o number low cube epoch shape span s new view f.0 r.safe h step.0 step.1;
}
steps o number low s new view (call.DropBox cube shape epoch span) answer.NoMemory h f r step =
    let job = call_job (call.DropBox cube shape epoch span) in record {
      outcome = OutOfMemory;
      said = refl;
      answers = tt;
      after = same_stands o number low low s new view (view_after_work o number job OutOfMemory view) (omega arith) h step.0.limit
          (step.0.shapes o.shapes (sym f.0.same) h.shapes) step.1.bricks
          (λ other brick is. memory_idle o job other brick (view other brick) (number == brick % o.shards));
    }
steps o number low s new view (call.Scan shape query snapshot) (answer.Scanned found) h f r step =
    let job = call_job (call.Scan shape query snapshot) in
    let g = step.1 in
    let viewed = shards_answer_as_viewed low s (full_view o number s view) (viewed_whole o number low s view h) in
    record {
      outcome = Found g.rows;
      said = groups_few query s shape (λ brick. brick_rows_shown query.span snapshot (shard_brick s query.cube brick)) found.groups h.limit g;
      answers = by_bricks o number low query.cube shape s view g.rows (brick_rows_shown query.span snapshot)
          (λ xs. rows_in_span query.span (brick_rows_seen snapshot xs)) f.of_run h g.by_brick (none_found query.span snapshot)
          (λ brick. viewed.scanned query.cube brick query.span snapshot (all_uniform low snapshot r.safe));
      after = stays o number low s new view job (Found g.rows) h step.0
          (λ cube brick. found_idle o job g.rows cube brick (view cube brick) (number == brick % o.shards));
    }
steps o number low s new view (call.Scan shape query snapshot) answer.NoMemory h f r step =
    let job = call_job (call.Scan shape query snapshot) in record {
      outcome = OutOfMemory;
      said = refl;
      answers = tt;
      after = stays o number low s new view job OutOfMemory h step
          (λ cube brick. memory_idle o job cube brick (view cube brick) (number == brick % o.shards));
    }
steps o number low s new view (call.Delta shape query from to) (answer.Changed change) h f r step =
    let job = call_job (call.Delta shape query from to) in
    let came = step.1 in
    let went = step.2 in
    let viewed = shards_answer_as_viewed low s (full_view o number s view) (viewed_whole o number low s view h) in
    let before = all_uniform low (reader_up_to from) r.safe.0 in
    let after = all_uniform low (reader_up_to to) r.safe.1 in
    record {
      outcome = Compared came.rows went.rows;
      said = (
        groups_few query s shape (λ brick. brick_rows_apart query.span (reader_at to) (reader_at from) (shard_brick s query.cube brick)) change.came.groups h.limit came,
        groups_few query s shape (λ brick. brick_rows_apart query.span (reader_at from) (reader_at to) (shard_brick s query.cube brick)) change.went.groups h.limit went,
      );
      answers = record {
        comes = by_bricks o number low query.cube shape s view came.rows (brick_rows_apart query.span (reader_at to) (reader_at from))
            (λ xs. rows_in_span query.span (rows_shown_besides (sight_of_reader to) (sight_of_reader from) xs)) f.of_run h came.by_brick
            (none_apart query.span (reader_at to) (reader_at from))
            (λ brick. viewed.compared query.cube brick query.span (reader_at to) (reader_at from) after before);
        goes = by_bricks o number low query.cube shape s view went.rows (brick_rows_apart query.span (reader_at from) (reader_at to))
            (λ xs. rows_in_span query.span (rows_shown_besides (sight_of_reader from) (sight_of_reader to) xs)) f.of_run h went.by_brick
            (none_apart query.span (reader_at from) (reader_at to))
            (λ brick. viewed.compared query.cube brick query.span (reader_at from) (reader_at to) before after);
      };
      after = stays o number low s new view job (Compared came.rows went.rows) h step.0
          (λ cube brick. compared_idle o job came.rows went.rows cube brick (view cube brick) (number == brick % o.shards));
    }
steps o number low s new view (call.Delta shape query from to) answer.NoMemory h f r step =
    let job = call_job (call.Delta shape query from to) in record {
      outcome = OutOfMemory;
      said = refl;
      answers = tt;
      after = stays o number low s new view job OutOfMemory h step
          (λ cube brick. memory_idle o job cube brick (view cube brick) (number == brick % o.shards));
    }
steps o number low s new view (call.Rollback epoch) answer.Done h f r step = record {
  outcome = Done;
  said = refl;
  answers = tt;
  after = rolled_stands o number low epoch s new view r.safe h step.0 step.1;
}
steps o number low s new view (call.Purge epoch) answer.Done h f r step = record {
  outcome = Done;
  said = refl;
  answers = tt;
  after = purged_stands o number low epoch s new view r.safe h step.0 step.1;
}
steps o number low s new view (call.CopyRound from to) (answer.Copied copies) h f r step =
    let job = call_job (call.CopyRound from to) in record {
      outcome = Copied (view_of_copies copies);
      said = record {
        same = λ cube brick. refl;
        rising = λ cube. (step.1 cube).rising;
        whole = λ cube brick. part_is_whole from to brick (shard_brick s cube brick) (h.whole cube brick)
            (part_numbered brick (slice_index_or copies cube [])) ((step.1 cube).each brick);
      };
      answers = record {
        own = λ cube brick own. brick_copied low from to brick (shard_brick s cube brick) (view cube brick)
            (record {
              whole = h.whole cube brick;
              later = h.later cube brick;
              alike = h.own cube brick own;
              later_view = r.later cube brick;
              begins = r.safe.0;
              above = r.safe.1;
            }) (part_numbered brick (slice_index_or copies cube [])) ((step.1 cube).each brick);
        others = λ cube brick past.
            let found = part_numbered brick (slice_index_or copies cube []) in
            none_past (bricks_of (o.shapes cube).shape.sizes) brick found
            (there_by_shape (o.shapes cube) (cube_at s cube) brick found (h.shapes cube) ((step.1 cube).there brick)) past;
      };
      after = stays o number low s new view job (Copied (view_of_copies copies)) h step.0
          (λ cube brick. copied_idle o job (view_of_copies copies) cube brick (view cube brick) (number == brick % o.shards));
    }
steps o number low s new view (call.CopyRound from to) answer.NoMemory h f r step =
    let job = call_job (call.CopyRound from to) in record {
      outcome = OutOfMemory;
      said = refl;
      answers = tt;
      after = stays o number low s new view job OutOfMemory h step
          (λ cube brick. memory_idle o job cube brick (view cube brick) (number == brick % o.shards));
    }
steps o number low s new view c a h f r step = absurd step

pub shards_are_linked : ShardsAreLinked
shards_are_linked = record {
  takes = takes;
  steps = steps;
  alike = λ o number low later s view other le same h.
      same_stands o number low later s s view other le h refl h.shapes (λ cube brick. refl) same;
}
