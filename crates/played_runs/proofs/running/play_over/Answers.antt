use Rattle.std.proofs.Common.{map, refl, unwrap_or}
use Rattle.core_scripts.specs.ScriptWorks.{script_in}
use Rattle.core_scripts.specs.ScriptsOnThreads.{replies_in}
use Rattle.opened_core.specs.Openings.{opening_over}
use Rattle.played_runs.proofs.WholeRuns.{few-scripts, left-by-scripts, made-by, rounds-at}
use Rattle.played_runs.specs.ReadySessions.{script_ready}
use Rattle.played_runs.proofs.running.play_over.Goals as goal

pub returns-in-Ok-clause-left : goal.returns-in-Ok-clause-left
returns-in-Ok-clause-left g c =
    let shelf = g.H.Shelf in
    let makes = g.M.MakesRounds in
    let made = g.met.M.MakesRounds g.world.𝓛 g.world.𝓜 g.world.𝓡 ((λ s x. x), (λ x. x), (λ x. x), λ x. x) in
    let kept = c.args.kept.now in
    let size = c.args.size in
    let every = unwrap_or c.args.round_every 0 in
    let cells = c.args.cells.items in
    let given = c.args.shelves.items in
    let ready = c.args.room.scripts.items in
    let works = c.give_shelves-works.result.works.items in
    let rest = c.give_shelves-works.result.rest.items in
    let gave = c.give_shelves-works.ensures in
    let ran = c.in-Ok.ran in
    let h = c.in-Ok.ensures.played in
    let out = c.played_run.ensures in
    let law = c.what_is_left_is_on_record.ensures in
    let o = opening_over kept size.shards size.sessions h.run.log in
    let opened = c.requires.opens h.run.log in
    let l = h.run.runs o opened in
    let tells = map shelf.told given in
    let scripts = map script_in works in
    let replies = map replies_in ran.sessions.items in
    left-by-scripts shelf.told shelf.fault_count shelf.absence_count makes.serves makes.has_kept makes.becomes kept size
    every cells works rest given c.args.maker ran gave.long c.requires.sessions gave.ready
    (rounds-at c.args.round_every size.sessions works gave.long gave.rounds) gave.shelves c.requires.opens h
    c.requires.keeps (map script_ready ready) gave.scripts (few-scripts ready c.requires.ready) c.played_run.result
    out.shelves out.replies out.whole.0 out.journal out.counters out.names out.shards out.last_round out.maker
    (made-by makes.serves makes.has_kept makes.becomes ran.flushed size.shards size.sessions c.args.maker ran.maker
    ran.last_round cells _ _ h.run.order.flushes (made.stays c.args.maker))
    (law.legal kept size.shards size.sessions h.run.left h.run.log ran.left l)
    (law.safe kept size.shards size.sessions h.run.left h.run.log ran.left l)
    (λ long p saved ends.
    law.run kept size.shards size.sessions every h.run.left h.run.log ran.left tells scripts replies c.requires.kept l
    long p saved ends)
    (λ p few. law.few kept size.shards size.sessions every h.run.log tells scripts replies l.to.es p few)
    (λ epoch how said begun last saved scripted merge.
    c.runs_on_threads_end_with_all_safe.ensures size.shards size.sessions epoch cells works c.args.maker ran o how said
    h.run l opened refl begun last saved scripted merge)
    c.replies_tell_the_counts.ensures.each
