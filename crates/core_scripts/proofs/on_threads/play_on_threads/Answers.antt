use Rattle.std.proofs.Common.{◌+◌, ℕ, List, vec_capacity, arith}
use Rattle.std.proofs.lemmas.Result.{IfOk-weaker}
use Rattle.core_scripts.specs.GivenScripts.{HavePlayedOnThreads}
use Rattle.core_scripts.specs.PlayedWhole.{MayPlay}
use Rattle.core_scripts.specs.ScriptWorks.{HasPlayedOut}
use Rattle.core_scripts.specs.declared.work.ScriptWork.{ScriptWork}
use Rattle.cube_core.specs.declared.cell.CoreCell.{CoreCell}
use Rattle.linked_shards.specs.declared.cell.CoreShard.{CoreShard}
use Rattle.threaded_core.specs.RanCores.{HasRunOnThreads, MayRun}
use Rattle.core_scripts.proofs.BegunWorks.{works-may-begin}
use Rattle.core_scripts.proofs.on_threads.play_on_threads.Goals as goal

pub run_core-requires-clause-may : goal.run_core-requires-clause-may
run_core-requires-clause-may g c =
    let size = c.args.size in
    let core = c.requires.core in
    let cells = c.args.cells.items in
    let works = c.args.works.items in
    let serves = c.an_opened_core_serves_its_sessions.ensures in
    let may :
    MayRun {W = ScriptWork g.row.H.Denot g.row.G.Denot} {M = g.row.M.Denot}
    (λ (w : ScriptWork g.row.H.Denot g.row.G.Denot) (callers : ℕ) (there : List (CoreCell CoreShard)) (caller : ℕ).
    MayPlay w.size.shards w.size.sessions w.player w.script.items w.closing.items w.replies.items
    (vec_capacity w.replies) callers there caller)
    g.M.MakesRounds.serves g.M.MakesRounds.has_kept size.shards size.sessions cells works c.args.maker =
    record {
      some = c.requires.some;
      opened = record { kept = core.kept; over = core.over; opens = core.opens };
      as_many = c.requires.as_many;
      begin =
          works-may-begin size works c.requires.works c.requires.as_many (size.sessions + 2 + size.shards) cells
          (omega arith)
          (λ session first last.
          serves.served core.kept size.shards size.sessions session cells core.by_file core.over core.opens
          c.requires.some first last)
          (serves.rows core.kept size.shards size.sessions cells core.by_file core.over);
      keeps = c.requires.keeps;
    }
    in
    λ lifetimes outlives. may

pub returns-clause-played : goal.returns-clause-played
returns-clause-played g c =
    let size = c.args.size in
    let core = c.requires.core in
    let cells = c.args.cells.items in
    let works = c.args.works.items in
    let shelf = g.H.Shelf in
    let makes = g.M.MakesRounds in
    IfOk-weaker c.run_core.result
    (HasRunOnThreads (HasPlayedOut shelf.told shelf.fault_count shelf.absence_count) makes.serves makes.has_kept
    makes.becomes size.shards size.sessions cells works c.args.maker)
    (HavePlayedOnThreads shelf.told shelf.fault_count shelf.absence_count makes.serves makes.has_kept makes.becomes size
    cells works c.args.maker)
    (λ ran run.
    record {
      run = run;
      on_record = λ every shelves of_sessions tells begun whole o opened.
          c.scripts_on_threads_end_in_a_run.ensures core.kept size.shards size.sessions every cells works shelves
          c.args.maker ran core.by_file core.over core.opens of_sessions tells run begun whole o opened;
    })
    c.run_core.ensures.run
