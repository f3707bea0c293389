use Rattle.std.proofs.Common.{◌∙◌, ◌-◌, ap, length, refl, ℕ, List}
use Rattle.core_names.specs.AskedNames.{GoOnByNames}
use Rattle.cube_core.specs.declared.cell.CoreCell.{CoreCell}
use Rattle.cube_language.specs.declared.decl.Decl.{Decl}
use Rattle.cube_values.specs.Batches.{Batch}
use Rattle.linked_shards.specs.declared.cell.CoreShard.{CoreShard}
use Rattle.core_names.specs.StaysAsWhoAsks.{asks-both}
use Rattle.loaded_batches.specs.LoadFronts.{HasTakenAll, HasTooManyBad, TakesInTheEnd}
use Rattle.loaded_batches.specs.LoadTexts.{HasAskedForSuch}
use Rattle.loaded_batches.proofs.LookedAtTexts.{asked-both, such-of}
use Rattle.loaded_batches.proofs.RestOfRecords.{more-by-names, rest-begins, rest-ends, rest-goes-on, rest-many}
use Rattle.loaded_batches.proofs.TurnsOfCallers.{before-of, now-of}
use Rattle.loaded_batches.proofs.rest.take_rest.Goals as goal

pub batches-init : goal.batches-init
batches-init g c = record {
  board = c.requires.board;
  opening = refl;
  number = refl;
  others = refl;
  may = c.requires.may;
  front =
      rest-begins (g.P.CellCaller.opening c.args.caller.now) (g.P.CellCaller.number c.args.caller.now) c.args.place
      c.args.cube.now c.args.allowed (g.P.CellCaller.own c.args.caller.now) c.args.load.now c.args.bad.now
      c.new-rows.result c.requires.few c.requires.counted c.requires.cube
      (ap (λ (b : Batch). b.dims) c.new-rows.ensures ∙ c.len.ensures ∙ ap (λ (d : Decl). length d.dims) c.decl-decl.ensures.decl)
      (ap (λ (b : Batch). b.width) c.new-rows.ensures ∙ c.len-2.ensures
      ∙ ap (λ (d : Decl). length d.metrics) c.decl-decl.ensures.decl);
}

pub batches-preserved : goal.batches-preserved
batches-preserved g c =
    let opening = g.P.CellCaller.opening in
    let number = g.P.CellCaller.number in
    let own = g.P.CellCaller.own in
    let inv = c.batches.invariant in
    let e = c.load_rows_by_caller.ensures in
    let ok = c.in_ok-load_rows_by_caller.ensures in
    let new = c.load_rows_by_caller.new in
    let ended = c.in_ok-load_rows_by_caller.field-0 in
    let opens = e.opening ∙ inv.opening in
    let numbers = e.number ∙ inv.number in
    let asks = coe 0 1 (i. GoOnByNames (inv.number i) (own c.batches.caller) (own new.caller)) e.asks in
    let asked = before-of (λ (cells : List (CoreCell CoreShard)) (n : ℕ).
    HasAskedForSuch cells n c.args.place c.args.cube.now (c.args.allowed - c.batches.bad.count) c.batches.load
    (own c.batches.caller) (own new.caller)) opens numbers
    (λ p k t has. such-of (opening new.caller) (number new.caller) c.args.place c.args.cube.now
    (c.args.allowed - c.batches.bad.count) c.batches.load (own c.batches.caller) (own new.caller) p k t
    (e.asked p k t has)) in
    let takes = before-of (λ (cells : List (CoreCell CoreShard)) (n : ℕ).
    TakesInTheEnd cells n c.args.place c.args.cube.now c.args.allowed (own new.caller) c.batches.load new.load c.batches.bad
    new.bad new.batch.rows ended) opens numbers ok.batch in
    record {
      board = e.board;
      opening = opens;
      number = numbers;
      others = e.others ∙ inv.others;
      may = e.may;
      front = rest-goes-on (opening c.args.caller.now) (number c.args.caller.now) c.args.place c.args.cube.now c.args.allowed
          (own c.args.caller.now) (own c.batches.caller) (own new.caller) c.args.load.now c.batches.load new.load
          c.args.bad.now c.batches.bad new.bad c.batches.rows new.batch ended inv.front asks ok.goes_on ok.counted
          asked ok.ended takes c.in-Full.is ok.dims ok.width;
    }

pub returns-in-End-clause-rest : goal.returns-in-End-clause-rest
returns-in-End-clause-rest g c =
    let opening = g.P.CellCaller.opening in
    let number = g.P.CellCaller.number in
    let own = g.P.CellCaller.own in
    let inv = c.batches.invariant in
    let e = c.load_rows_by_caller.ensures in
    let ok = c.in_ok-load_rows_by_caller.ensures in
    let new = c.load_rows_by_caller.new in
    let ended = c.in_ok-load_rows_by_caller.field-0 in
    let opens = e.opening ∙ inv.opening in
    let numbers = e.number ∙ inv.number in
    let asks = coe 0 1 (i. GoOnByNames (inv.number i) (own c.batches.caller) (own new.caller)) e.asks in
    let asked = before-of (λ (cells : List (CoreCell CoreShard)) (n : ℕ).
    HasAskedForSuch cells n c.args.place c.args.cube.now (c.args.allowed - c.batches.bad.count) c.batches.load
    (own c.batches.caller) (own new.caller)) opens numbers
    (λ p k t has. such-of (opening new.caller) (number new.caller) c.args.place c.args.cube.now
    (c.args.allowed - c.batches.bad.count) c.batches.load (own c.batches.caller) (own new.caller) p k t
    (e.asked p k t has)) in
    let takes = before-of (λ (cells : List (CoreCell CoreShard)) (n : ℕ).
    TakesInTheEnd cells n c.args.place c.args.cube.now c.args.allowed (own new.caller) c.batches.load new.load c.batches.bad
    new.bad new.batch.rows ended) opens numbers ok.batch in
    now-of (λ (cells : List (CoreCell CoreShard)) (n : ℕ).
    HasTakenAll cells n c.args.place c.args.cube.now c.args.allowed (own new.caller) c.args.load.now new.load c.args.bad.now
    new.bad) opens numbers
    (rest-ends (opening c.args.caller.now) (number c.args.caller.now) c.args.place c.args.cube.now c.args.allowed
    (own c.args.caller.now) (own c.batches.caller) (own new.caller) c.args.load.now c.batches.load new.load
    c.args.bad.now c.batches.bad new.bad c.batches.rows new.batch ended inv.front asks ok.goes_on ok.counted asked
    ok.ended takes c.in-End.is)

pub returns-in-TooMany-clause-rest : goal.returns-in-TooMany-clause-rest
returns-in-TooMany-clause-rest g c =
    let opening = g.P.CellCaller.opening in
    let number = g.P.CellCaller.number in
    let own = g.P.CellCaller.own in
    let inv = c.batches.invariant in
    let e = c.load_rows_by_caller.ensures in
    let ok = c.in_ok-load_rows_by_caller.ensures in
    let new = c.load_rows_by_caller.new in
    let ended = c.in_ok-load_rows_by_caller.field-0 in
    let opens = e.opening ∙ inv.opening in
    let numbers = e.number ∙ inv.number in
    let asks = coe 0 1 (i. GoOnByNames (inv.number i) (own c.batches.caller) (own new.caller)) e.asks in
    let asked = before-of (λ (cells : List (CoreCell CoreShard)) (n : ℕ).
    HasAskedForSuch cells n c.args.place c.args.cube.now (c.args.allowed - c.batches.bad.count) c.batches.load
    (own c.batches.caller) (own new.caller)) opens numbers
    (λ p k t has. such-of (opening new.caller) (number new.caller) c.args.place c.args.cube.now
    (c.args.allowed - c.batches.bad.count) c.batches.load (own c.batches.caller) (own new.caller) p k t
    (e.asked p k t has)) in
    let takes = before-of (λ (cells : List (CoreCell CoreShard)) (n : ℕ).
    TakesInTheEnd cells n c.args.place c.args.cube.now c.args.allowed (own new.caller) c.batches.load new.load c.batches.bad
    new.bad new.batch.rows ended) opens numbers ok.batch in
    now-of (λ (cells : List (CoreCell CoreShard)) (n : ℕ).
    HasTooManyBad cells n c.args.place c.args.cube.now c.args.allowed (own new.caller) c.args.load.now new.load
    c.args.bad.now new.bad) opens numbers
    (rest-many (opening c.args.caller.now) (number c.args.caller.now) c.args.place c.args.cube.now c.args.allowed
    (own c.args.caller.now) (own c.batches.caller) (own new.caller) c.args.load.now c.batches.load new.load
    c.args.bad.now c.batches.bad new.bad c.batches.rows new.batch ended inv.front asks ok.goes_on ok.counted asked
    ok.ended takes c.in-TooMany.is)

pub returns-in_err-load_rows_by_caller-clause-asks : goal.returns-in_err-load_rows_by_caller-clause-asks
returns-in_err-load_rows_by_caller-clause-asks g c =
    let own = g.P.CellCaller.own in
    let inv = c.batches.invariant in
    asks-both (g.P.CellCaller.number c.args.caller.now) (own c.args.caller.now) (own c.batches.caller)
    (own c.load_rows_by_caller.new.caller) inv.front.asks
    (coe 0 1 (i. GoOnByNames (inv.number i) (own c.batches.caller) (own c.load_rows_by_caller.new.caller))
    c.load_rows_by_caller.ensures.asks)

pub returns-in-End-clause-asks : goal.returns-in-End-clause-asks
returns-in-End-clause-asks g c =
    let own = g.P.CellCaller.own in
    let inv = c.batches.invariant in
    asks-both (g.P.CellCaller.number c.args.caller.now) (own c.args.caller.now) (own c.batches.caller)
    (own c.load_rows_by_caller.new.caller) inv.front.asks
    (coe 0 1 (i. GoOnByNames (inv.number i) (own c.batches.caller) (own c.load_rows_by_caller.new.caller))
    c.load_rows_by_caller.ensures.asks)

pub returns-in-TooMany-clause-asks : goal.returns-in-TooMany-clause-asks
returns-in-TooMany-clause-asks g c =
    let own = g.P.CellCaller.own in
    let inv = c.batches.invariant in
    asks-both (g.P.CellCaller.number c.args.caller.now) (own c.args.caller.now) (own c.batches.caller)
    (own c.load_rows_by_caller.new.caller) inv.front.asks
    (coe 0 1 (i. GoOnByNames (inv.number i) (own c.batches.caller) (own c.load_rows_by_caller.new.caller))
    c.load_rows_by_caller.ensures.asks)

pub returns-in_err-load_rows_by_caller-clause-asked : goal.returns-in_err-load_rows_by_caller-clause-asked
returns-in_err-load_rows_by_caller-clause-asked g c =
    let opening = g.P.CellCaller.opening in
    let number = g.P.CellCaller.number in
    let own = g.P.CellCaller.own in
    let inv = c.batches.invariant in
    let e = c.load_rows_by_caller.ensures in
    let new = c.load_rows_by_caller.new in
    let opens = e.opening ∙ inv.opening in
    let numbers = e.number ∙ inv.number in
    let asks = coe 0 1 (i. GoOnByNames (inv.number i) (own c.batches.caller) (own new.caller)) e.asks in
    let asked = before-of (λ (cells : List (CoreCell CoreShard)) (n : ℕ).
    HasAskedForSuch cells n c.args.place c.args.cube.now (c.args.allowed - c.batches.bad.count) c.batches.load
    (own c.batches.caller) (own new.caller)) opens numbers
    (λ p k t has. such-of (opening new.caller) (number new.caller) c.args.place c.args.cube.now
    (c.args.allowed - c.batches.bad.count) c.batches.load (own c.batches.caller) (own new.caller) p k t
    (e.asked p k t has)) in
    now-of (λ (cells : List (CoreCell CoreShard)) (n : ℕ).
    HasAskedForSuch cells n c.args.place c.args.cube.now (c.args.allowed - c.args.bad.now.count) c.args.load.now
    (own c.args.caller.now) (own new.caller)) opens numbers
    (asked-both (opening c.args.caller.now) (number c.args.caller.now) c.args.place c.args.cube.now c.args.allowed
    (own c.args.caller.now) (own c.batches.caller) (own new.caller)
    (more-by-names (number c.args.caller.now) (own c.batches.caller) (own new.caller) asks) c.args.load.now
    c.batches.load c.args.bad.now c.batches.bad inv.front.some.rows inv.front.some.taken inv.front.asked asked)

pub returns-in-End-clause-asked : goal.returns-in-End-clause-asked
returns-in-End-clause-asked g c =
    let opening = g.P.CellCaller.opening in
    let number = g.P.CellCaller.number in
    let own = g.P.CellCaller.own in
    let inv = c.batches.invariant in
    let e = c.load_rows_by_caller.ensures in
    let new = c.load_rows_by_caller.new in
    let opens = e.opening ∙ inv.opening in
    let numbers = e.number ∙ inv.number in
    let asks = coe 0 1 (i. GoOnByNames (inv.number i) (own c.batches.caller) (own new.caller)) e.asks in
    let asked = before-of (λ (cells : List (CoreCell CoreShard)) (n : ℕ).
    HasAskedForSuch cells n c.args.place c.args.cube.now (c.args.allowed - c.batches.bad.count) c.batches.load
    (own c.batches.caller) (own new.caller)) opens numbers
    (λ p k t has. such-of (opening new.caller) (number new.caller) c.args.place c.args.cube.now
    (c.args.allowed - c.batches.bad.count) c.batches.load (own c.batches.caller) (own new.caller) p k t
    (e.asked p k t has)) in
    now-of (λ (cells : List (CoreCell CoreShard)) (n : ℕ).
    HasAskedForSuch cells n c.args.place c.args.cube.now (c.args.allowed - c.args.bad.now.count) c.args.load.now
    (own c.args.caller.now) (own new.caller)) opens numbers
    (asked-both (opening c.args.caller.now) (number c.args.caller.now) c.args.place c.args.cube.now c.args.allowed
    (own c.args.caller.now) (own c.batches.caller) (own new.caller)
    (more-by-names (number c.args.caller.now) (own c.batches.caller) (own new.caller) asks) c.args.load.now
    c.batches.load c.args.bad.now c.batches.bad inv.front.some.rows inv.front.some.taken inv.front.asked asked)

pub returns-in-TooMany-clause-asked : goal.returns-in-TooMany-clause-asked
returns-in-TooMany-clause-asked g c =
    let opening = g.P.CellCaller.opening in
    let number = g.P.CellCaller.number in
    let own = g.P.CellCaller.own in
    let inv = c.batches.invariant in
    let e = c.load_rows_by_caller.ensures in
    let new = c.load_rows_by_caller.new in
    let opens = e.opening ∙ inv.opening in
    let numbers = e.number ∙ inv.number in
    let asks = coe 0 1 (i. GoOnByNames (inv.number i) (own c.batches.caller) (own new.caller)) e.asks in
    let asked = before-of (λ (cells : List (CoreCell CoreShard)) (n : ℕ).
    HasAskedForSuch cells n c.args.place c.args.cube.now (c.args.allowed - c.batches.bad.count) c.batches.load
    (own c.batches.caller) (own new.caller)) opens numbers
    (λ p k t has. such-of (opening new.caller) (number new.caller) c.args.place c.args.cube.now
    (c.args.allowed - c.batches.bad.count) c.batches.load (own c.batches.caller) (own new.caller) p k t
    (e.asked p k t has)) in
    now-of (λ (cells : List (CoreCell CoreShard)) (n : ℕ).
    HasAskedForSuch cells n c.args.place c.args.cube.now (c.args.allowed - c.args.bad.now.count) c.args.load.now
    (own c.args.caller.now) (own new.caller)) opens numbers
    (asked-both (opening c.args.caller.now) (number c.args.caller.now) c.args.place c.args.cube.now c.args.allowed
    (own c.args.caller.now) (own c.batches.caller) (own new.caller)
    (more-by-names (number c.args.caller.now) (own c.batches.caller) (own new.caller) asks) c.args.load.now
    c.batches.load c.args.bad.now c.batches.bad inv.front.some.rows inv.front.some.taken inv.front.asked asked)
