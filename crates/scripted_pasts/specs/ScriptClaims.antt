-- What is asked of the runs for which a session's statements are promised their replies.
-- Source: this project's own. A promise of what was done speaks of every run that begins with it, as with prophecy
-- variables (Abadi and Lamport, 1991).
use Rattle.std.specs.Prelude.{◌≡◌, ℕ, List}
use Rattle.core_agreements.specs.ScriptedRuns.{IsScriptedRun, OpensWithCubes}
use Rattle.core_events.specs.Cells.{desk_of}
use Rattle.core_events.specs.Events.{Opening, CoreEvent}
use Rattle.core_records.specs.CoreRecords.{RunScripts}

-- A run opens with the cubes that it has, and a round follows after so many commits of a session. What a session posts
-- stands for its statements in each such run, whatever the others do.
pub record OpensForScripts (every : ℕ) (o : Opening) (given : RunScripts) (es : List CoreEvent) : Type 0 where
  pub opens : OpensWithCubes o (desk_of o es).cubes
  pub every_is : given.round_every ≡ every

-- In a run of scripts what every session posted stands for its statements. A query sees what all sessions did, and so
-- it is answered by the record in such runs.
pub record IsRunOfScripts (every : ℕ) (o : Opening) (given : RunScripts) (es : List CoreEvent) : Type 0 where
  pub run : IsScriptedRun o given es
  pub every_is : given.round_every ≡ every
