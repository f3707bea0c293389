-- What was posted to the shard of a brick: each batch as a run of its rows in the brick, each box that has the brick as
-- a mark.
-- Source: AOSI (ICDE 2018), appends and deletions of a transaction; batches and boxes are this project's own.
use Rattle.std.specs.Prelude.{ℕ, ◌%◌, Bool, true, false, ◌&&◌, ◌||◌, ◌==◌, List, [], ◌∷◌, ◌++◌, if◌then◌else◌}
use Rattle.core_events.specs.ShardView.{BrickEntry, RowRun, RowMark}
use Rattle.core_events.specs.Jobs.{CoreJob, Append, DropBox}
use Rattle.core_events.specs.Events.{Opening, ClientCall, OnDesk, OpenWrite, Post, CoreEvent, By, At}
use Rattle.core_events.specs.Cells.{rows_of_brick, box_has_brick}

-- What a job is for a brick of its shard.
abbrev pub entries_of_job : Opening → ℕ → ℕ → CoreJob → List BrickEntry
entries_of_job o cube brick (Append other epoch rows) =
    if other == cube then RowRun epoch (rows_of_brick o cube brick rows) ∷ [] else []
entries_of_job o cube brick (DropBox other epoch box) =
    if other == cube && box_has_brick o cube box brick then RowMark epoch ∷ [] else []
entries_of_job o cube brick job = []

abbrev pub posted_after_post : Bool → List BrickEntry → List BrickEntry → List BrickEntry
posted_after_post true new posted = new ++ posted
posted_after_post false new posted = posted

abbrev pub posted_after : Opening → ℕ → ℕ → ClientCall → List BrickEntry → List BrickEntry
posted_after o cube brick (Post mail job) posted =
    posted_after_post (mail == brick % o.shards) (entries_of_job o cube brick job) posted
posted_after o cube brick call posted = posted

-- The newest first. The kept rows are the first run.
abbrev pub posted_of : Opening → List CoreEvent → ℕ → ℕ → List BrickEntry
posted_of o [] cube brick = RowRun o.safe (rows_of_brick o cube brick (o.rows cube)) ∷ []
posted_of o (By a call ∷ es) cube brick = posted_after o cube brick call (posted_of o es cube brick)
posted_of o (At mail move ∷ es) cube brick = posted_of o es cube brick

-- The same by the calls of one client.
abbrev pub posted_by_calls : Opening → List ClientCall → ℕ → ℕ → List BrickEntry
posted_by_calls o [] cube brick = []
posted_by_calls o (call ∷ calls) cube brick = posted_after o cube brick call (posted_by_calls o calls cube brick)

-- One of the calls opened the writer of the epoch.
abbrev pub opens_writer : ℕ → ClientCall → Bool
opens_writer epoch (OnDesk (OpenWrite statement other deps)) = other == epoch
opens_writer epoch call = false

abbrev pub has_opened : ℕ → List ClientCall → Bool
has_opened epoch [] = false
has_opened epoch (call ∷ calls) = opens_writer epoch call || has_opened epoch calls
