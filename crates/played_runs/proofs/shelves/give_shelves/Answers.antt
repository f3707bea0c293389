use Rattle.std.proofs.Common.{◌≡◌, ◌∙◌, ◌+◌, ◌∷◌, ◌++◌, ℕ, List, length, map, sym, ap, subst, arith}
use Rattle.std.specs.List.{AllByRecursion}
use Rattle.core_scripts.proofs.BegunWorks.{one-work-more}
use Rattle.core_scripts.specs.GivenScripts.{AreReadyWorks, IsReadyWork}
use Rattle.core_scripts.specs.ScriptWorks.{script_in}
use Rattle.core_scripts.specs.declared.work.ScriptWork.{ScriptWork}
use Rattle.cube_run.specs.RunRecords.{Sentence}
use Rattle.script_sentences.specs.Sentences.{sentence_of}
use Rattle.played_runs.proofs.Lists.{all-behind, first-out, moved-on, one-out}
use Rattle.played_runs.specs.ReadySessions.{HasRounds, IsReadyScript, script_ready, shelf_of}
use Rattle.played_runs.specs.declared.rooms.ReadyScript.{ReadyScript}
use Rattle.played_runs.proofs.shelves.give_shelves.Goals as goal

pub sessions-preserved : goal.sessions-preserved
sessions-preserved g c =
    let held = c.sessions.invariant in
    let below = c.sessions-test.true in
    let size = c.args.size in
    let works = c.sessions.works.items in
    let now = c.push_reserved.new.self.items in
    let work = c.new.result in
    let made = c.new.ensures in
    let put = c.push_reserved.ensures in
    let left = held.left in
    let many = held.shelves in
    let long = held.long in
    let room = held.room in
    let longer = put.len in
    let same_room = put.capacity in
    let scripts =
    first-out c.sessions.left.items c.remove-script.new.self.items c.remove-script.result (omega (arith, below, left))
    c.remove-script.ensures.value c.remove-script.ensures.items
    in
    let shelves =
    first-out c.sessions.rest.items c.remove-shelf.new.self.items c.remove-shelf.result (omega (arith, below, many))
    c.remove-shelf.ensures.value c.remove-shelf.ensures.items
    in
    let fewer_scripts = one-out c.sessions.left.items c.remove-script.new.self.items c.remove-script.result scripts in
    let fewer_shelves = one-out c.sessions.rest.items c.remove-shelf.new.self.items c.remove-shelf.result shelves in
    let says : script_in work ≡ script_ready c.remove-script.result =
    λ i. map sentence_of (made.script i).items ++ map sentence_of (made.closing i).items in
    let number : c.sessions.number + 1 ≡ 1 + length works = omega (arith, long) in
    record {
      left = omega (arith, fewer_scripts, left);
      scripts = (subst (λ (xs : List ReadyScript). AllByRecursion IsReadyScript xs) scripts held.scripts).1;
      shelves = omega (arith, fewer_shelves, many);
      long = omega (arith, longer, long);
      room = omega (arith, same_room, room);
      capacity = c.remove-shelf.ensures.capacity ∙ held.capacity;
      ready = subst (λ (xs : List (ScriptWork g.row.H.Denot g.row.G.Denot)). AreReadyWorks size 1 xs) (sym put.items)
          (one-work-more size 1 works work held.ready (subst (λ (n : ℕ). IsReadyWork size n work) number made.ready));
      rounds = subst
          (λ (xs : List (ScriptWork g.row.H.Denot g.row.G.Denot)). AllByRecursion (HasRounds c.args.round_every) xs)
          (sym put.items) (all-behind (HasRounds c.args.round_every) works work held.rounds made.every);
      same = moved-on script_in works now work (map script_ready c.sessions.left.items)
          (map script_ready c.remove-script.new.self.items) (map script_ready c.args.scripts.items) put.items
          (ap (λ (xs : List ReadyScript). map script_ready xs) scripts
          ∙ ap (λ (s : List Sentence). s ∷ map script_ready c.remove-script.new.self.items) (sym says))
          held.same;
      given = moved-on shelf_of works now work c.sessions.rest.items c.remove-shelf.new.self.items c.args.shelves.items
          put.items
          (shelves ∙ ap (λ (s : g.row.H.Denot). s ∷ c.remove-shelf.new.self.items) (sym made.shelf)) held.given;
    }
