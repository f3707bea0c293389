-- A run with all that the core has: a session makes a cube, opens the reader of a watch, puts a row and commits, asks
-- what changed for the watch, has a round saved and purges, and then reads. One shard, one session, and the flusher.
use Rattle.std.specs.Prelude.{ℕ, ◌==◌, List, [], ◌∷◌, false, if◌then◌else◌}
use Rattle.cube_values.specs.declared.snapshot.Snapshot.{Snapshot}
use Rattle.cube_language.specs.declared.decl.Decl.{Decl}
use Rattle.cube_journal.specs.declared.counters.Counters.{Counters}
use Rattle.cube_journal.specs.declared.note.Note.TheVariants.{Flushed, Purged}
use Rattle.aosi_desk.specs.declared.answer.RoundAnswer.TheVariants.{Target}
use Rattle.aosi_desk.specs.declared.answer.RoundEnd.TheVariants.{Safe}
use Rattle.aosi_desk.specs.declared.cube.CubeAnswer.TheVariants.{Created}
use Rattle.core_events.specs.ShardView.{ShardView, entries_of_round}
use Rattle.core_events.specs.Jobs.{CoreJob, Append, Scan, Delta, Purge, CopyRound, Flush, JobOutcome, Done, Found, Compared, Copied}
use Rattle.core_events.specs.Events.{Opening, OnDesk, OpenWrite, OpenRead, Commit, CloseRead, TakeNote, CreateCube, CubesFrom, RoundOpen, RoundClose, Post, Fetch, Take, Work, Reply, CoreEvent, By, At}
use Rattle.core_events.specs.Cells.{shard_view_of}
use Rattle.core_cases.specs.SmallRun.{small_shape, small_row, small_query}

-- A cube c with a dimension d of numbers, and a metric m.
abbrev pub whole_cube : Decl
whole_cube = record {
  name = 99 ∷ [];
  dims = record { name = 100 ∷ []; text = false; cardinality = 4; range = 2 } ∷ [];
  metrics = (109 ∷ []) ∷ [];
}

-- There are no cubes at first.
abbrev pub whole_opening : Opening
whole_opening = record {
  shards = 1;
  sessions = 1;
  safe = 0;
  cubes = [];
  shapes = λ cube. small_shape;
  names = λ cube dim. record { cardinality = 0; names = [] };
  rows = λ cube. [];
}

abbrev pub whole_put : CoreJob
whole_put = Append 0 2 (small_row ∷ [])

abbrev pub whole_delta : CoreJob
whole_delta = Delta small_query 1 2

-- The row came, and none went.
abbrev pub whole_change : JobOutcome
whole_change = Compared (small_row ∷ []) []

abbrev pub whole_copy : CoreJob
whole_copy = CopyRound 0 2

abbrev pub whole_purge : CoreJob
whole_purge = Purge 2

abbrev pub whole_reader : Snapshot
whole_reader = record { epoch = 2; deps = []; own = false }

abbrev pub whole_scan : CoreJob
whole_scan = Scan small_query whole_reader

-- The counters behind the round.
abbrev pub whole_counters : Counters
whole_counters = record { ec = 3; lce = 2; lse = 2; pending = [] }

-- A cube is made, the reader of a watch opens under the first holder's number, and a writer opens; the newest event
-- first.
abbrev pub whole_opened : List CoreEvent
whole_opened =
    By 1 (OnDesk (OpenWrite 3 2 []))
    ∷ By 1 (OnDesk (OpenRead 17 2 1))
    ∷ By 1 (OnDesk (CreateCube 1 whole_cube (Created 1 0)))
    ∷ []

-- A worker takes a job of a client and does it, and the client fetches its answer.
abbrev pub posted_and_taken : ℕ → CoreJob → List CoreEvent → List CoreEvent
posted_and_taken client job es = At 0 (Take client job) ∷ By client (Post 0 job) ∷ es

abbrev pub done_and_fetched : ℕ → CoreJob → JobOutcome → List CoreEvent → List CoreEvent
done_and_fetched client job outcome es =
    By client (Fetch 0 outcome) ∷ At 0 (Reply client outcome) ∷ At 0 (Work job outcome) ∷ es

-- The row is put.
abbrev pub whole_written : List CoreEvent
whole_written =
    By 1 (OnDesk (Commit 3 2)) ∷ done_and_fetched 1 whole_put Done (posted_and_taken 1 whole_put whole_opened)

-- The next reader of the watch opens under the second holder's number, and asks what changed.
abbrev pub whole_asked : List CoreEvent
whole_asked = posted_and_taken 1 whole_delta (By 1 (OnDesk (OpenRead 33 4 2)) ∷ whole_written)

abbrev pub whole_watched : List CoreEvent
whole_watched = By 1 (OnDesk (CloseRead 17 4)) ∷ done_and_fetched 1 whole_delta whole_change whole_asked

-- A round is asked of the flusher, which asks the shard for its rows.
abbrev pub whole_round : List CoreEvent
whole_round = posted_and_taken 2 whole_copy (
    By 2 (OnDesk (RoundOpen (Target 0 2))) ∷ At 1 (Take 1 Flush) ∷ By 1 (Post 1 Flush) ∷ whole_watched
    )

-- What the shard has for it, of the brick that has a row.
abbrev pub whole_rows : ShardView
whole_rows cube brick =
    if 1 == brick then entries_of_round 0 2 (shard_view_of whole_opening whole_round cube brick) else []

-- The round is saved, and the session is told.
abbrev pub whole_saved : List CoreEvent
whole_saved =
    By 1 (OnDesk (TakeNote (Flushed 1 5) whole_counters))
    ∷ By 1 (Fetch 1 Done)
    ∷ At 1 (Reply 1 Done)
    ∷ By 2 (OnDesk (RoundClose 2 Safe))
    ∷ By 2 (OnDesk (CubesFrom 0 (whole_cube ∷ [])))
    ∷ done_and_fetched 2 whole_copy (Copied whole_rows) whole_round

-- The session purges.
abbrev pub whole_purged : List CoreEvent
whole_purged =
    By 1 (OnDesk (TakeNote (Purged 1 6 2) whole_counters))
    ∷ done_and_fetched 1 whole_purge Done (posted_and_taken 1 whole_purge whole_saved)

-- It reads.
abbrev pub whole_reads : List CoreEvent
whole_reads = posted_and_taken 1 whole_scan (By 1 (OnDesk (OpenRead 1 7 2)) ∷ whole_purged)

abbrev pub whole_events : List CoreEvent
whole_events = done_and_fetched 1 whole_scan (Found (small_row ∷ [])) whole_reads
