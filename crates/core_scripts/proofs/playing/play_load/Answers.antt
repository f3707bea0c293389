use Rattle.std.proofs.Common.{refl}
use Rattle.core_loads.specs.ShelfLoads.{ShelfSeen}
use Rattle.core_scripts.proofs.LoadsPlayed.{load-counts-absences, load-counts-faults, plays-load}
use Rattle.core_scripts.proofs.PlayedOn.{held-if}
use Rattle.core_scripts.specs.declared.player.ScriptPlayer.{ScriptPlayer}
use Rattle.core_scripts.proofs.playing.play_load.Goals as goal

pub returns-clause-faults : goal.returns-clause-faults
returns-clause-faults g c =
    let before = c.args.caller.now in
    let cells = g.P.CellCaller.opening before in
    let caller = g.P.CellCaller.number before in
    let old = c.args.player.now in
    let after = c.load.new.caller in
    let said = c.load.ensures in
    let shelf = c.args.shelf.now in
    let seen : ShelfSeen = record {
      told = g.H.Shelf.told shelf;
      calls = g.H.Shelf.call_list shelf;
      new_calls = g.H.Shelf.call_list c.load.new.shelf;
      faults = g.H.Shelf.fault_count shelf;
      new_faults = g.H.Shelf.fault_count c.load.new.shelf;
      absences = g.H.Shelf.absence_count shelf;
      new_absences = g.H.Shelf.absence_count c.load.new.shelf;
    } in
    let new : ScriptPlayer =
    record { session = c.load.new.session; watch = old.watch; texts = c.load.new.texts } in
    let own = g.P.CellCaller.own before in
    let now = g.P.CellCaller.own after in
    let is = c.requires.playing in
    load-counts-faults cells caller old new own now c.args.statement.now c.requires.form seen said.more refl is.told
    is.script is.replies is.is_playing c.load.result said.performed

pub returns-clause-absences : goal.returns-clause-absences
returns-clause-absences g c =
    let before = c.args.caller.now in
    let cells = g.P.CellCaller.opening before in
    let caller = g.P.CellCaller.number before in
    let old = c.args.player.now in
    let after = c.load.new.caller in
    let said = c.load.ensures in
    let shelf = c.args.shelf.now in
    let seen : ShelfSeen = record {
      told = g.H.Shelf.told shelf;
      calls = g.H.Shelf.call_list shelf;
      new_calls = g.H.Shelf.call_list c.load.new.shelf;
      faults = g.H.Shelf.fault_count shelf;
      new_faults = g.H.Shelf.fault_count c.load.new.shelf;
      absences = g.H.Shelf.absence_count shelf;
      new_absences = g.H.Shelf.absence_count c.load.new.shelf;
    } in
    let new : ScriptPlayer =
    record { session = c.load.new.session; watch = old.watch; texts = c.load.new.texts } in
    let own = g.P.CellCaller.own before in
    let now = g.P.CellCaller.own after in
    let is = c.requires.playing in
    load-counts-absences cells caller old new own now c.args.statement.now c.requires.form seen said.more refl is.told
    is.script is.replies is.is_playing c.load.result said.performed

pub returns-clause-plays : goal.returns-clause-plays
returns-clause-plays g c =
    let before = c.args.caller.now in
    let cells = g.P.CellCaller.opening before in
    let caller = g.P.CellCaller.number before in
    let old = c.args.player.now in
    let after = c.load.new.caller in
    let said = c.load.ensures in
    let shelf = c.args.shelf.now in
    let seen : ShelfSeen = record {
      told = g.H.Shelf.told shelf;
      calls = g.H.Shelf.call_list shelf;
      new_calls = g.H.Shelf.call_list c.load.new.shelf;
      faults = g.H.Shelf.fault_count shelf;
      new_faults = g.H.Shelf.fault_count c.load.new.shelf;
      absences = g.H.Shelf.absence_count shelf;
      new_absences = g.H.Shelf.absence_count c.load.new.shelf;
    } in
    let new : ScriptPlayer =
    record { session = c.load.new.session; watch = old.watch; texts = c.load.new.texts } in
    let own = g.P.CellCaller.own before in
    let now = g.P.CellCaller.own after in
    plays-load cells caller old new own now c.args.statement.now c.requires.form seen said.more refl c.load.result
    said.readers
    (held-if cells caller old new own now c.load.result (g.P.CellCaller.opening after) (g.P.CellCaller.number after)
    said.opening said.number said.holds)
    (λ told goes. said.texts) said.performed
