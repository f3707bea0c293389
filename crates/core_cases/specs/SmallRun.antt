-- A small run: a session puts a row and commits, and then reads it. One shard, one session, one cube with a dimension
-- of numbers and a metric.
use Rattle.std.specs.Prelude.{List, [], ◌∷◌, false, pos}
use Rattle.cube_values.specs.declared.query.BoundItem.TheVariants.{Count}
use Rattle.cube_values.specs.declared.query.BoundQuery.{BoundQuery}
use Rattle.cube_values.specs.declared.row.CodedRow.{CodedRow}
use Rattle.cube_values.specs.declared.shape.CubeShape.{CubeShape}
use Rattle.cube_values.specs.declared.snapshot.Snapshot.{Snapshot}
use Rattle.cube_values.specs.declared.span.Part.TheVariants.{All}
use Rattle.cube_language.specs.declared.decl.Decl.{Decl}
use Rattle.core_events.specs.Jobs.{CoreJob, Append, Scan, Done, Found}
use Rattle.core_events.specs.Events.{Opening, OnDesk, OpenWrite, OpenRead, Commit, Post, Fetch, Take, Work, Reply, CoreEvent, By, At}

abbrev pub small_shape : CubeShape
small_shape = record {
  shape = record { sizes = record { cardinality = 4; range = 2 } ∷ [] };
  texts = false ∷ [];
  metrics = 1;
}

abbrev pub small_decl : Decl
small_decl = record {
  name = [];
  dims = record { name = []; text = false; cardinality = 4; range = 2 } ∷ [];
  metrics = [] ∷ [];
}

abbrev pub small_opening : Opening
small_opening = record {
  shards = 1;
  sessions = 1;
  safe = 0;
  cubes = small_decl ∷ [];
  shapes = λ cube. small_shape;
  names = λ cube dim. record { cardinality = 0; names = [] };
  rows = λ cube. [];
}

-- Coordinate 3 lies in brick 1.
abbrev pub small_row : CodedRow
small_row = record { coords = 3 ∷ []; metrics = pos 7 ∷ [] }

abbrev pub small_query : BoundQuery
small_query = record { cube = 0; span = record { parts = All ∷ [] }; group = []; items = Count ∷ [] }

abbrev pub small_reader : Snapshot
small_reader = record { epoch = 1; deps = []; own = false }

abbrev pub small_put : CoreJob
small_put = Append 0 1 (small_row ∷ [])

abbrev pub small_scan : CoreJob
small_scan = Scan small_query small_reader

-- The first statement, the newest event first.
abbrev pub small_write : List CoreEvent
small_write =
    By 1 (OnDesk (Commit 1 1))
    ∷ By 1 (Fetch 0 Done)
    ∷ At 0 (Reply 1 Done)
    ∷ At 0 (Work small_put Done)
    ∷ At 0 (Take 1 small_put)
    ∷ By 1 (Post 0 small_put)
    ∷ By 1 (OnDesk (OpenWrite 1 1 []))
    ∷ []

-- The second, up to the answer.
abbrev pub small_events : List CoreEvent
small_events =
    By 1 (Fetch 0 (Found (small_row ∷ [])))
    ∷ At 0 (Reply 1 (Found (small_row ∷ [])))
    ∷ At 0 (Work small_scan (Found (small_row ∷ [])))
    ∷ At 0 (Take 1 small_scan)
    ∷ By 1 (Post 0 small_scan)
    ∷ By 1 (OnDesk (OpenRead 1 2 1))
    ∷ small_write
