use Rattle.std.proofs.Common.{◌∙◌, List, length, vec_capacity, sym, refl, ap, arith}
use Rattle.std.specs.Vec.Iter.{into_iter_items}
use Rattle.core_scripts.proofs.PlayedTexts.{ShelfNow, StandsInTexts, all-counted, stands-at-first, stands-at-next}
use Rattle.core_scripts.specs.PlayingSessions.{PlaysOn}
use Rattle.core_watches.specs.BoundReaders.{OpenWithRowsOfCubes}
use Rattle.script_sentences.specs.Sentences.{sentence_of}
use Rattle.script_sentences.specs.declared.said.Said.{Said}
use Rattle.core_scripts.proofs.scripts.play_texts.Goals as goal

pub play_said-requires-clause-rows : goal.play_said-requires-clause-rows
play_said-requires-clause-rows g c = coe 1 0 (i. OpenWithRowsOfCubes (c.script.invariant.5 i)) c.requires.rows

pub script-init : goal.script-init
script-init g c =
    let cells = g.P.CellCaller.opening c.args.caller.now in
    let caller = g.P.CellCaller.number c.args.caller.now in
    let own = g.P.CellCaller.own c.args.caller.now in
    let player = c.args.player.now in
    let script = c.args.script.items in
    let replies = c.args.replies.now in
    let shelf : ShelfNow = record {
      told = g.H.Shelf.told c.args.shelf.now;
      faults = g.H.Shelf.fault_count c.args.shelf.now;
      absences = g.H.Shelf.absence_count c.args.shelf.now;
    } in
    let gives = c.into_iter-said-iterator.ensures.into_iter_gives in (
      tt,
      tt,
      coe 1 0 (i. StandsInTexts cells caller script shelf player own replies.items (gives.0 i) own replies.items
          (vec_capacity replies) shelf player)
          (stands-at-first cells caller script own replies.items (vec_capacity replies) shelf player c.requires.few
          c.requires.proper c.requires.room c.requires.playing),
      gives.1 ∙ c.args.script.ok.0 ∙ ap (λ (xs : List Said). length xs) (sym gives.0),
      c.requires.board,
      refl,
      refl,
      refl,
      refl,
    )

pub returns-clause-counts : goal.returns-clause-counts
returns-clause-counts g c =
    let first : ShelfNow = record {
      told = g.H.Shelf.told c.args.shelf.now;
      faults = g.H.Shelf.fault_count c.args.shelf.now;
      absences = g.H.Shelf.absence_count c.args.shelf.now;
    } in
    let shelf : ShelfNow = record {
      told = g.H.Shelf.told c.script.shelf;
      faults = g.H.Shelf.fault_count c.script.shelf;
      absences = g.H.Shelf.absence_count c.script.shelf;
    } in
    let left = into_iter_items c.script.said-iterator in
    let long = c.script.invariant.3 in
    let none = c.in-None.ensures.steps.0 in
    all-counted (g.P.CellCaller.opening c.args.caller.now) (g.P.CellCaller.number c.args.caller.now)
    c.args.script.items first c.args.player.now (g.P.CellCaller.own c.args.caller.now) c.args.replies.now.items
    (g.P.CellCaller.own c.script.caller) c.script.replies.items (vec_capacity c.script.replies) shelf c.script.player
    left (omega (arith, long, none)) c.script.invariant.2

pub script-preserved : goal.script-preserved
script-preserved g c =
    let cells = g.P.CellCaller.opening c.args.caller.now in
    let caller = g.P.CellCaller.number c.args.caller.now in
    let own = g.P.CellCaller.own c.script.caller in
    let now = g.P.CellCaller.own c.play_said.new.caller in
    let said = c.in-Replied.ensures in
    let first : ShelfNow = record {
      told = g.H.Shelf.told c.args.shelf.now;
      faults = g.H.Shelf.fault_count c.args.shelf.now;
      absences = g.H.Shelf.absence_count c.args.shelf.now;
    } in
    let shelf : ShelfNow = record {
      told = g.H.Shelf.told c.script.shelf;
      faults = g.H.Shelf.fault_count c.script.shelf;
      absences = g.H.Shelf.absence_count c.script.shelf;
    } in
    let next : ShelfNow = record {
      told = g.H.Shelf.told c.play_said.new.shelf;
      faults = g.H.Shelf.fault_count c.play_said.new.shelf;
      absences = g.H.Shelf.absence_count c.play_said.new.shelf;
    } in
    let was = g.P.CellCaller.own c.args.caller.now in
    let answered = c.args.replies.now.items in
    let here =
    coe 0 1 (i. StandsInTexts cells caller c.args.script.items first c.args.player.now was answered
    (c.in-Some.ensures.steps.0 i) own c.script.replies.items (vec_capacity c.script.replies) shelf c.script.player)
    c.script.invariant.2
    in (
      tt,
      tt,
      coe 1 0 (i. StandsInTexts cells caller c.args.script.items first c.args.player.now was answered
          (into_iter_items c.next.new.self) now c.push_reserved.new.self.items (c.push_reserved.ensures.capacity i) next
          c.play_said.new.player)
          (stands-at-next cells caller c.args.script.items first c.args.player.now was answered c.in-Some.said
          (into_iter_items c.next.new.self) own now c.script.replies.items c.push_reserved.new.self.items
          c.in-Replied.reply (vec_capacity c.script.replies) shelf next c.script.player c.play_said.new.player here
          (record {
            more = said.more;
            same = said.same;
            later = said.later;
            count_faults = said.faults;
            count_absences = said.absences;
            plays =
                coe 0 1 (i. PlaysOn shelf.told (c.script.invariant.5 i) (c.script.invariant.6 i) c.script.player own
                (sentence_of c.in-Some.said) c.play_said.new.player now c.in-Replied.reply) said.plays;
          })
          c.push_reserved.ensures.items),
      let long = c.script.invariant.3 in
          let gone = c.in-Some.ensures.steps.1 in
          let short = ap (λ (left : List Said). length left) c.in-Some.ensures.steps.0 in
          omega (arith, long, gone, short),
      said.board,
      said.opening ∙ c.script.invariant.5,
      said.number ∙ c.script.invariant.6,
      said.others ∙ c.script.invariant.7,
      c.push_reserved.ensures.capacity ∙ c.script.invariant.8,
    )
