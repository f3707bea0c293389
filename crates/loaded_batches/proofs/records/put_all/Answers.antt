use Rattle.std.proofs.Common.{◌∙◌, ℕ, List, subst, sym, ◌-◌}
use Rattle.core_names.specs.AskedNames.{GoOnByNames}
use Rattle.core_program.specs.Knowing.{IsClientOf}
use Rattle.cube_core.specs.declared.cell.CoreCell.{CoreCell}
use Rattle.linked_shards.specs.CellShards.{CoreShardStands}
use Rattle.linked_shards.specs.declared.cell.CoreShard.{CoreShard}
use Rattle.session_groups.specs.ShardGroups.{HoldsOpenWriter}
use Rattle.shard_events.specs.ShardsInRuns.{FitsShard, ShardAnswerSays}
use Rattle.loaded_batches.specs.LoadEnds.{AreStored}
use Rattle.loaded_batches.specs.LoadFronts.{HasTakenSome, IsAfterTurns}
use Rattle.loaded_batches.specs.LoadTexts.{AsksForSuch, HasAskedForSuch}
use Rattle.loaded_batches.proofs.EndedRecords.{ends-many, ends-stored}
use Rattle.loaded_batches.proofs.HeldWriters.{open-by-names}
use Rattle.loaded_batches.proofs.LoadingMoments.{loading-both, loading-by-names}
use Rattle.loaded_batches.proofs.LookedAtTexts.{none-bad-yet, such-both, such-by-entries}
use Rattle.loaded_batches.proofs.RestEnds.{all-ended, all-held}
use Rattle.loaded_batches.proofs.RestOfRecords.{more-by-names}
use Rattle.loaded_batches.proofs.TurnsOfCallers.{before-of, now-of}
use Rattle.loaded_batches.proofs.records.put_all.Goals as goal

pub returns-in-Done-clause-holds : goal.returns-in-Done-clause-holds
returns-in-Done-clause-holds g c =
    let opening = g.P.CellCaller.opening in
    let number = g.P.CellCaller.number in
    let own = g.P.CellCaller.own in
    let e = c.load_turns.ensures in
    let new = c.load_turns.new in
    let after = coe 0 1 (i. IsAfterTurns (opening new.caller) (number new.caller) c.args.session c.args.place c.args.cube.now
    c.args.allowed c.args.writer.now (own c.args.caller.now) (own new.caller) c.args.records new.load c.none-bad.result
    new.bad (c.in-Done.is i)) c.in_ok-load_turns.ensures.turns in
    after.holds

pub returns-in-Done-clause-ended : goal.returns-in-Done-clause-ended
returns-in-Done-clause-ended g c =
    let opening = g.P.CellCaller.opening in
    let number = g.P.CellCaller.number in
    let own = g.P.CellCaller.own in
    let e = c.load_turns.ensures in
    let new = c.load_turns.new in
    let after = coe 0 1 (i. IsAfterTurns (opening new.caller) (number new.caller) c.args.session c.args.place c.args.cube.now
    c.args.allowed c.args.writer.now (own c.args.caller.now) (own new.caller) c.args.records new.load c.none-bad.result
    new.bad (c.in-Done.is i)) c.in_ok-load_turns.ensures.turns in
    subst (λ (n : ℕ). AreStored (opening new.caller) (number new.caller) c.args.session c.args.place c.args.writer.now
    c.args.cube.now c.args.allowed c.args.records (own c.args.caller.now) (own new.caller) (n - new.bad.count) new.bad)
    (sym c.number.ensures)
    (ends-stored (opening new.caller) (number new.caller) c.args.session c.args.place c.args.writer.now c.args.cube.now
    c.args.allowed (own c.args.caller.now) (own new.caller) c.args.records new.load c.none-bad.result new.bad
    c.none-bad.ensures c.requires.begins e.may.name e.may.cube e.may.named after)

pub returns-in-TooMany-clause-ended : goal.returns-in-TooMany-clause-ended
returns-in-TooMany-clause-ended g c =
    let opening = g.P.CellCaller.opening in
    let number = g.P.CellCaller.number in
    let own = g.P.CellCaller.own in
    let e = c.load_turns.ensures in
    let new = c.load_turns.new in
    let after = coe 0 1 (i. IsAfterTurns (opening new.caller) (number new.caller) c.args.session c.args.place c.args.cube.now
    c.args.allowed c.args.writer.now (own c.args.caller.now) (own new.caller) c.args.records new.load c.none-bad.result
    new.bad (c.in-TooMany.is i)) c.in_ok-load_turns.ensures.turns in
    ends-many (opening new.caller) (number new.caller) c.args.session c.args.place c.args.writer.now c.args.cube.now
    c.args.allowed (own c.args.caller.now) (own new.caller) c.args.records new.load c.none-bad.result new.bad
    c.none-bad.ensures c.requires.begins after

pub refuse_full-requires-clause-cube : goal.refuse_full-requires-clause-cube
refuse_full-requires-clause-cube g c =
    let opening = g.P.CellCaller.opening in
    let number = g.P.CellCaller.number in
    let own = g.P.CellCaller.own in
    let e = c.load_turns.ensures in
    let new = c.load_turns.new in
    let after = coe 0 1 (i. IsAfterTurns (opening new.caller) (number new.caller) c.args.session c.args.place c.args.cube.now
    c.args.allowed c.args.writer.now (own c.args.caller.now) (own new.caller) c.args.records new.load c.none-bad.result
    new.bad (c.in-ShardFull.is i)) c.in_ok-load_turns.ensures.turns in
    after.taken.goes.cube ∙ c.requires.cube

pub refuse_full-requires-clause-few : goal.refuse_full-requires-clause-few
refuse_full-requires-clause-few g c =
    let opening = g.P.CellCaller.opening in
    let number = g.P.CellCaller.number in
    let own = g.P.CellCaller.own in
    let e = c.load_turns.ensures in
    let new = c.load_turns.new in
    let after = coe 0 1 (i. IsAfterTurns (opening new.caller) (number new.caller) c.args.session c.args.place c.args.cube.now
    c.args.allowed c.args.writer.now (own c.args.caller.now) (own new.caller) c.args.records new.load c.none-bad.result
    new.bad (c.in-ShardFull.is i)) c.in_ok-load_turns.ensures.turns in
    after.taken.few

pub refuse_full-requires-clause-counted : goal.refuse_full-requires-clause-counted
refuse_full-requires-clause-counted g c =
    let opening = g.P.CellCaller.opening in
    let number = g.P.CellCaller.number in
    let own = g.P.CellCaller.own in
    let e = c.load_turns.ensures in
    let new = c.load_turns.new in
    let after = coe 0 1 (i. IsAfterTurns (opening new.caller) (number new.caller) c.args.session c.args.place c.args.cube.now
    c.args.allowed c.args.writer.now (own c.args.caller.now) (own new.caller) c.args.records new.load c.none-bad.result
    new.bad (c.in-ShardFull.is i)) c.in_ok-load_turns.ensures.turns in
    after.taken.counted

pub returns-clause-goes : goal.returns-clause-goes
returns-clause-goes g c =
    let opening = g.P.CellCaller.opening in
    let number = g.P.CellCaller.number in
    let own = g.P.CellCaller.own in
    let e = c.load_turns.ensures in
    let new = c.load_turns.new in
    let r = c.refuse_full.ensures in
    let last = c.refuse_full.new in
    let cells = opening c.args.caller.now in
    let caller = number c.args.caller.now in
    let opens = r.opening ∙ e.opening in
    let numbers = r.number ∙ e.number in
    let acts = before-of (λ (cs : List (CoreCell CoreShard)) (n : ℕ).
    IsClientOf FitsShard CoreShardStands ShardAnswerSays cs n c.args.session) e.opening e.number e.may.client in
    let asks = coe 0 1 (i. GoOnByNames (e.number i) (own new.caller) (own last.caller)) r.asks in
    loading-both cells caller c.args.session c.args.place c.args.writer.now.epoch (own c.args.caller.now)
    (own new.caller) (own last.caller) e.goes
    (loading-by-names cells caller c.args.session c.args.place c.args.writer.now.epoch acts (own new.caller)
    (own last.caller) asks)

pub returns-clause-held : goal.returns-clause-held
returns-clause-held g c =
    let opening = g.P.CellCaller.opening in
    let number = g.P.CellCaller.number in
    let own = g.P.CellCaller.own in
    let e = c.load_turns.ensures in
    let new = c.load_turns.new in
    let r = c.refuse_full.ensures in
    let last = c.refuse_full.new in
    let cells = opening c.args.caller.now in
    let caller = number c.args.caller.now in
    let opens = r.opening ∙ e.opening in
    let numbers = r.number ∙ e.number in
    let acts = before-of (λ (cs : List (CoreCell CoreShard)) (n : ℕ).
    IsClientOf FitsShard CoreShardStands ShardAnswerSays cs n c.args.session) e.opening e.number e.may.client in
    let asks = coe 0 1 (i. GoOnByNames (e.number i) (own new.caller) (own last.caller)) r.asks in
    now-of (λ (cs : List (CoreCell CoreShard)) (n : ℕ).
    HoldsOpenWriter cs n c.args.session (own last.caller) c.args.writer.now) opens numbers
    (open-by-names cells caller c.args.session acts c.args.writer.now (own new.caller) (own last.caller) asks
    (before-of (λ (cs : List (CoreCell CoreShard)) (n : ℕ).
    HoldsOpenWriter cs n c.args.session (own new.caller) c.args.writer.now) e.opening e.number e.holds))

pub returns-clause-holds : goal.returns-clause-holds
returns-clause-holds g c =
    let opening = g.P.CellCaller.opening in
    let number = g.P.CellCaller.number in
    let own = g.P.CellCaller.own in
    let e = c.load_turns.ensures in
    let new = c.load_turns.new in
    let after = coe 0 1 (i. IsAfterTurns (opening new.caller) (number new.caller) c.args.session c.args.place c.args.cube.now
    c.args.allowed c.args.writer.now (own c.args.caller.now) (own new.caller) c.args.records new.load c.none-bad.result
    new.bad (c.in-ShardFull.is i)) c.in_ok-load_turns.ensures.turns in
    let r = c.refuse_full.ensures in
    let last = c.refuse_full.new in
    let cells = opening c.args.caller.now in
    let caller = number c.args.caller.now in
    let opens = r.opening ∙ e.opening in
    let numbers = r.number ∙ e.number in
    let acts = before-of (λ (cs : List (CoreCell CoreShard)) (n : ℕ).
    IsClientOf FitsShard CoreShardStands ShardAnswerSays cs n c.args.session) e.opening e.number e.may.client in
    let asks = coe 0 1 (i. GoOnByNames (e.number i) (own new.caller) (own last.caller)) r.asks in
    let more = more-by-names caller (own new.caller) (own last.caller) asks in
    let some = now-of (λ (cs : List (CoreCell CoreShard)) (n : ℕ).
    HasTakenSome cs n c.args.place c.args.cube.now c.args.allowed (own new.caller) c.args.records new.load
    c.none-bad.result new.bad) r.opening r.number after in
    all-held (opening last.caller) (number last.caller) c.args.session c.args.place c.args.writer.now c.args.cube.now
    c.args.allowed (own c.args.caller.now) (own new.caller) (own last.caller) more c.args.records new.load last.load
    c.none-bad.result new.bad last.bad c.none-bad.ensures c.requires.begins some (returns-clause-held g c)
    c.refuse_full.result r.ended

pub returns-clause-ended : goal.returns-clause-ended
returns-clause-ended g c =
    let opening = g.P.CellCaller.opening in
    let number = g.P.CellCaller.number in
    let own = g.P.CellCaller.own in
    let e = c.load_turns.ensures in
    let new = c.load_turns.new in
    let after = coe 0 1 (i. IsAfterTurns (opening new.caller) (number new.caller) c.args.session c.args.place c.args.cube.now
    c.args.allowed c.args.writer.now (own c.args.caller.now) (own new.caller) c.args.records new.load c.none-bad.result
    new.bad (c.in-ShardFull.is i)) c.in_ok-load_turns.ensures.turns in
    let r = c.refuse_full.ensures in
    let last = c.refuse_full.new in
    let cells = opening c.args.caller.now in
    let caller = number c.args.caller.now in
    let opens = r.opening ∙ e.opening in
    let numbers = r.number ∙ e.number in
    let acts = before-of (λ (cs : List (CoreCell CoreShard)) (n : ℕ).
    IsClientOf FitsShard CoreShardStands ShardAnswerSays cs n c.args.session) e.opening e.number e.may.client in
    let asks = coe 0 1 (i. GoOnByNames (e.number i) (own new.caller) (own last.caller)) r.asks in
    let more = more-by-names caller (own new.caller) (own last.caller) asks in
    let some = now-of (λ (cs : List (CoreCell CoreShard)) (n : ℕ).
    HasTakenSome cs n c.args.place c.args.cube.now c.args.allowed (own new.caller) c.args.records new.load
    c.none-bad.result new.bad) r.opening r.number after in
    all-ended (opening last.caller) (number last.caller) c.args.session c.args.place c.args.writer.now c.args.cube.now
    c.args.allowed (own c.args.caller.now) (own new.caller) (own last.caller) more c.args.records new.load last.load
    c.none-bad.result new.bad last.bad c.none-bad.ensures c.requires.begins some c.refuse_full.result r.ended

pub returns-in_err-load_turns-clause-asked : goal.returns-in_err-load_turns-clause-asked
returns-in_err-load_turns-clause-asked g c =
    subst (λ (left : ℕ). AsksForSuch (g.P.CellCaller.opening c.args.caller.now)
    (g.P.CellCaller.number c.args.caller.now) c.args.place c.args.cube.now c.args.session left c.args.records
    (g.P.CellCaller.own c.args.caller.now) (g.P.CellCaller.own c.load_turns.new.caller))
    (sym (none-bad-yet c.args.allowed c.none-bad.result c.none-bad.ensures)) c.load_turns.ensures.asked

pub returns-in-Done-clause-asked : goal.returns-in-Done-clause-asked
returns-in-Done-clause-asked g c =
    subst (λ (left : ℕ). AsksForSuch (g.P.CellCaller.opening c.args.caller.now)
    (g.P.CellCaller.number c.args.caller.now) c.args.place c.args.cube.now c.args.session left c.args.records
    (g.P.CellCaller.own c.args.caller.now) (g.P.CellCaller.own c.load_turns.new.caller))
    (sym (none-bad-yet c.args.allowed c.none-bad.result c.none-bad.ensures)) c.load_turns.ensures.asked

pub returns-in-TooMany-clause-asked : goal.returns-in-TooMany-clause-asked
returns-in-TooMany-clause-asked g c =
    subst (λ (left : ℕ). AsksForSuch (g.P.CellCaller.opening c.args.caller.now)
    (g.P.CellCaller.number c.args.caller.now) c.args.place c.args.cube.now c.args.session left c.args.records
    (g.P.CellCaller.own c.args.caller.now) (g.P.CellCaller.own c.load_turns.new.caller))
    (sym (none-bad-yet c.args.allowed c.none-bad.result c.none-bad.ensures)) c.load_turns.ensures.asked

pub returns-clause-asked : goal.returns-clause-asked
returns-clause-asked g c =
    let opening = g.P.CellCaller.opening in
    let number = g.P.CellCaller.number in
    let own = g.P.CellCaller.own in
    let e = c.load_turns.ensures in
    let new = c.load_turns.new in
    let after = coe 0 1 (i. IsAfterTurns (opening new.caller) (number new.caller) c.args.session c.args.place
    c.args.cube.now
    c.args.allowed c.args.writer.now (own c.args.caller.now) (own new.caller) c.args.records new.load c.none-bad.result
    new.bad (c.in-ShardFull.is i)) c.in_ok-load_turns.ensures.turns in
    let r = c.refuse_full.ensures in
    let last = c.refuse_full.new in
    let cells = opening c.args.caller.now in
    let caller = number c.args.caller.now in
    let acts = before-of (λ (cs : List (CoreCell CoreShard)) (n : ℕ).
    IsClientOf FitsShard CoreShardStands ShardAnswerSays cs n c.args.session) e.opening e.number e.may.client in
    let asks = coe 0 1 (i. GoOnByNames (e.number i) (own new.caller) (own last.caller)) r.asks in
    let more = more-by-names caller (own new.caller) (own last.caller) asks in
    let some = before-of (λ (cs : List (CoreCell CoreShard)) (n : ℕ).
    HasTakenSome cs n c.args.place c.args.cube.now c.args.allowed (own new.caller) c.args.records new.load
    c.none-bad.result new.bad) e.opening e.number after in
    let asked = before-of (λ (cs : List (CoreCell CoreShard)) (n : ℕ).
    HasAskedForSuch cs n c.args.place c.args.cube.now (c.args.allowed - new.bad.count) new.load (own new.caller)
    (own last.caller)) (r.opening ∙ e.opening) (r.number ∙ e.number) r.asked in
    subst (λ (left : ℕ). AsksForSuch cells caller c.args.place c.args.cube.now c.args.session left c.args.records
    (own c.args.caller.now) (own last.caller))
    (sym (none-bad-yet c.args.allowed c.none-bad.result c.none-bad.ensures))
    (such-both cells caller c.args.place c.args.cube.now c.args.allowed (own c.args.caller.now) (own new.caller)
    (own last.caller) more c.args.records new.load c.none-bad.result new.bad some.rows some.taken c.args.session e.asked
    (such-by-entries cells caller c.args.place c.args.cube.now (c.args.allowed - new.bad.count) c.args.session new.load
    (own new.caller) (own last.caller) acts more asked))
