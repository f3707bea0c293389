use Rattle.std.proofs.Common.{◌∙◌, ◌+◌, ◌-◌, refl, ℕ, List, IfOk, subst, sym}
use Rattle.core_names.specs.CoreEncoders.{MayAskForCodes}
use Rattle.core_states.specs.LeftBehind.{AsksForNone, GoOnByCalls}
use Rattle.cube_core.specs.declared.cell.CoreCell.{CoreCell}
use Rattle.job_groups.specs.AskedEach.{AreShardMails}
use Rattle.linked_shards.specs.CellShards.{CoreShardStands}
use Rattle.linked_shards.specs.declared.cell.CoreShard.{CoreShard}
use Rattle.posted_pasts.specs.PostsAdded.{AddsNoOperation, LearnsThat}
use Rattle.session_batches.specs.RowsOut.{HoldsRowsOut}
use Rattle.shard_events.specs.ShardsInRuns.{FitsShard, ShardAnswerSays}
use Rattle.loaded_batches.specs.LoadFronts.{HasTakenSome, HasTooManyBad, HoldsAfterTurn, IsAfterLast, IsAfterTurn, IsAfterTurns, MayBeFetchedAfter}
use Rattle.loaded_batches.specs.LoadTexts.{AsksForSuch}
use Rattle.loaded_batches.specs.LoadingCalls.{GoesOnLoading}
use Rattle.loaded_batches.specs.declared.turns.LoadTurn.TheVariants as turn
use Rattle.loaded_batches.proofs.HeldWriters.{none-out-yet}
use Rattle.loaded_batches.proofs.LoadTurns.{last-fetched, turn-behind, turns-begin}
use Rattle.loaded_batches.proofs.LookedAtTexts.{such-both, such-none, such-then-none}
use Rattle.loaded_batches.proofs.LoadingMoments.{loading-both, loading-none}
use Rattle.loaded_batches.proofs.ToldRows.{may-ask-still}
use Rattle.loaded_batches.proofs.TurnsOfCallers.{before-of, now-of}
use Rattle.loaded_batches.proofs.batches.load_turns.Goals as goal

pub turns-init : goal.turns-init
turns-init g c =
    let cells = g.P.CellCaller.opening c.args.caller.now in
    let caller = g.P.CellCaller.number c.args.caller.now in
    let own = g.P.CellCaller.own c.args.caller.now in
    record {
      board = c.requires.board;
      opening = refl;
      number = refl;
      others = refl;
      goes = loading-none cells caller c.args.session c.args.place c.args.writer.now.epoch own;
      asked =
          such-none cells caller c.args.place c.args.cube.now (c.args.allowed - c.args.bad.now.count) c.args.session
          c.args.load.now own;
      may = c.requires.may;
      cube = c.requires.cube;
      put =
          turns-begin cells caller c.args.session c.args.place c.args.cube.now c.args.allowed c.args.writer.now own
          c.args.load.now c.args.bad.now c.requires.few c.requires.counted;
      out = c.none-out.ensures.fetched c.args.size.now.shards;
      holds =
          subst (λ (l : List ℕ). HoldsRowsOut cells caller c.args.session own c.args.writer.now l)
          (sym c.none-out.ensures.shards)
          (none-out-yet cells caller c.args.session own c.args.writer.now c.requires.holds);
    }

pub load_turn-requires-clause-mails : goal.load_turn-requires-clause-mails
load_turn-requires-clause-mails g c =
    let inv = c.turns.invariant in
    now-of (λ (cells : List (CoreCell CoreShard)) (n : ℕ).
    AreShardMails FitsShard CoreShardStands ShardAnswerSays cells c.args.session c.args.size.now.shards
    (2 + c.args.size.now.shards)) inv.opening inv.number c.requires.mails

pub load_turn-requires-clause-holds : goal.load_turn-requires-clause-holds
load_turn-requires-clause-holds g c =
    let inv = c.turns.invariant in
    now-of (λ (cells : List (CoreCell CoreShard)) (n : ℕ).
    HoldsRowsOut cells n c.args.session (g.P.CellCaller.own c.turns.caller) c.args.writer.now c.turns.out.shards.items)
    inv.opening inv.number inv.holds

pub turns-preserved : goal.turns-preserved
turns-preserved g c =
    let opening = g.P.CellCaller.opening in
    let number = g.P.CellCaller.number in
    let own = g.P.CellCaller.own in
    let inv = c.turns.invariant in
    let e = c.load_turn.ensures in
    let new = c.load_turn.new in
    let opens = e.opening ∙ inv.opening in
    let numbers = e.number ∙ inv.number in
    let cells = opening c.args.caller.now in
    let caller = number c.args.caller.now in
    let first = own c.args.caller.now in
    let goes = before-of (λ (cs : List (CoreCell CoreShard)) (n : ℕ).
    GoesOnLoading cs n c.args.session c.args.place c.args.writer.now.epoch (own c.turns.caller) (own new.caller))
    inv.opening inv.number e.goes in
    let after = before-of (λ (cs : List (CoreCell CoreShard)) (n : ℕ).
    IsAfterTurn cs n c.args.session c.args.place c.args.cube.now c.args.allowed c.args.writer.now (own c.turns.caller)
    (own new.caller) c.turns.load new.load c.turns.bad new.bad (turn.Posted c.in-Posted.posted c.in-Posted.last)) opens numbers
    (coe 0 1 (i. IsAfterTurn (opening new.caller) (number new.caller) c.args.session c.args.place c.args.cube.now
    c.args.allowed c.args.writer.now (own c.turns.caller) (own new.caller) c.turns.load new.load c.turns.bad new.bad
    (c.in-Posted.is i)) c.in_ok-posted.ensures.turn) in
    let behind = turn-behind cells caller c.args.session c.args.place c.args.cube.now c.args.allowed c.args.writer.now
    first (own c.turns.caller) (own new.caller) goes.more c.args.load.now c.turns.load new.load
    c.args.bad.now c.turns.bad new.bad inv.put (turn.Posted c.in-Posted.posted c.in-Posted.last) after in
    record {
      board = e.board;
      opening = opens;
      number = numbers;
      others = e.others ∙ inv.others;
      goes =
          loading-both cells caller c.args.session c.args.place c.args.writer.now.epoch first (own c.turns.caller)
          (own new.caller) inv.goes goes;
      asked =
          such-both cells caller c.args.place c.args.cube.now c.args.allowed first (own c.turns.caller) (own new.caller)
          goes.more c.args.load.now c.turns.load c.args.bad.now c.turns.bad inv.put.rows inv.put.taken c.args.session inv.asked
          (before-of (λ (cs : List (CoreCell CoreShard)) (n : ℕ).
          AsksForSuch cs n c.args.place c.args.cube.now c.args.session (c.args.allowed - c.turns.bad.count) c.turns.load
          (own c.turns.caller) (own new.caller)) inv.opening inv.number e.asked);
      may = e.may;
      cube = after.0.taken.goes.cube ∙ inv.cube;
      put = behind.0;
      out =
          coe 0 1 (i. MayBeFetchedAfter c.args.size.now.shards (c.in-Posted.is i)) c.in_ok-posted.ensures.out;
      holds =
          before-of (λ (cs : List (CoreCell CoreShard)) (n : ℕ).
          HoldsRowsOut cs n c.args.session (own new.caller) c.args.writer.now c.in-Posted.posted.shards.items) opens numbers
          (coe 0 1 (i. HoldsAfterTurn (opening new.caller) (number new.caller) c.args.session (own new.caller)
          c.args.writer.now (c.in-Posted.is i)) c.in_ok-posted.ensures.holds);
    }

pub returns-in_err-posted-clause-goes : goal.returns-in_err-posted-clause-goes
returns-in_err-posted-clause-goes g c =
    let opening = g.P.CellCaller.opening in
    let number = g.P.CellCaller.number in
    let own = g.P.CellCaller.own in
    let inv = c.turns.invariant in
    let e = c.load_turn.ensures in
    let new = c.load_turn.new in
    let opens = e.opening ∙ inv.opening in
    let numbers = e.number ∙ inv.number in
    let cells = opening c.args.caller.now in
    let caller = number c.args.caller.now in
    let first = own c.args.caller.now in
    let goes = before-of (λ (cs : List (CoreCell CoreShard)) (n : ℕ).
    GoesOnLoading cs n c.args.session c.args.place c.args.writer.now.epoch (own c.turns.caller) (own new.caller))
    inv.opening inv.number e.goes in
    loading-both cells caller c.args.session c.args.place c.args.writer.now.epoch first (own c.turns.caller)
    (own new.caller) inv.goes goes

pub returns-in_err-posted-clause-asked : goal.returns-in_err-posted-clause-asked
returns-in_err-posted-clause-asked g c =
    let opening = g.P.CellCaller.opening in
    let number = g.P.CellCaller.number in
    let own = g.P.CellCaller.own in
    let inv = c.turns.invariant in
    let e = c.load_turn.ensures in
    let new = c.load_turn.new in
    let opens = e.opening ∙ inv.opening in
    let numbers = e.number ∙ inv.number in
    let cells = opening c.args.caller.now in
    let caller = number c.args.caller.now in
    let first = own c.args.caller.now in
    let goes = before-of (λ (cs : List (CoreCell CoreShard)) (n : ℕ).
    GoesOnLoading cs n c.args.session c.args.place c.args.writer.now.epoch (own c.turns.caller) (own new.caller))
    inv.opening inv.number e.goes in
    such-both cells caller c.args.place c.args.cube.now c.args.allowed first (own c.turns.caller) (own new.caller)
    goes.more c.args.load.now c.turns.load c.args.bad.now c.turns.bad inv.put.rows inv.put.taken c.args.session inv.asked
    (before-of (λ (cs : List (CoreCell CoreShard)) (n : ℕ).
    AsksForSuch cs n c.args.place c.args.cube.now c.args.session (c.args.allowed - c.turns.bad.count) c.turns.load
    (own c.turns.caller) (own new.caller)) inv.opening inv.number e.asked)

pub returns-in-TooMany-clause-goes : goal.returns-in-TooMany-clause-goes
returns-in-TooMany-clause-goes g c =
    let opening = g.P.CellCaller.opening in
    let number = g.P.CellCaller.number in
    let own = g.P.CellCaller.own in
    let inv = c.turns.invariant in
    let e = c.load_turn.ensures in
    let new = c.load_turn.new in
    let opens = e.opening ∙ inv.opening in
    let numbers = e.number ∙ inv.number in
    let cells = opening c.args.caller.now in
    let caller = number c.args.caller.now in
    let first = own c.args.caller.now in
    let goes = before-of (λ (cs : List (CoreCell CoreShard)) (n : ℕ).
    GoesOnLoading cs n c.args.session c.args.place c.args.writer.now.epoch (own c.turns.caller) (own new.caller))
    inv.opening inv.number e.goes in
    loading-both cells caller c.args.session c.args.place c.args.writer.now.epoch first (own c.turns.caller)
    (own new.caller) inv.goes goes

pub returns-in-TooMany-clause-asked : goal.returns-in-TooMany-clause-asked
returns-in-TooMany-clause-asked g c =
    let opening = g.P.CellCaller.opening in
    let number = g.P.CellCaller.number in
    let own = g.P.CellCaller.own in
    let inv = c.turns.invariant in
    let e = c.load_turn.ensures in
    let new = c.load_turn.new in
    let opens = e.opening ∙ inv.opening in
    let numbers = e.number ∙ inv.number in
    let cells = opening c.args.caller.now in
    let caller = number c.args.caller.now in
    let first = own c.args.caller.now in
    let goes = before-of (λ (cs : List (CoreCell CoreShard)) (n : ℕ).
    GoesOnLoading cs n c.args.session c.args.place c.args.writer.now.epoch (own c.turns.caller) (own new.caller))
    inv.opening inv.number e.goes in
    such-both cells caller c.args.place c.args.cube.now c.args.allowed first (own c.turns.caller) (own new.caller)
    goes.more c.args.load.now c.turns.load c.args.bad.now c.turns.bad inv.put.rows inv.put.taken c.args.session inv.asked
    (before-of (λ (cs : List (CoreCell CoreShard)) (n : ℕ).
    AsksForSuch cs n c.args.place c.args.cube.now c.args.session (c.args.allowed - c.turns.bad.count) c.turns.load
    (own c.turns.caller) (own new.caller)) inv.opening inv.number e.asked)

pub returns-in-ShardFull-clause-goes : goal.returns-in-ShardFull-clause-goes
returns-in-ShardFull-clause-goes g c =
    let opening = g.P.CellCaller.opening in
    let number = g.P.CellCaller.number in
    let own = g.P.CellCaller.own in
    let inv = c.turns.invariant in
    let e = c.load_turn.ensures in
    let new = c.load_turn.new in
    let opens = e.opening ∙ inv.opening in
    let numbers = e.number ∙ inv.number in
    let cells = opening c.args.caller.now in
    let caller = number c.args.caller.now in
    let first = own c.args.caller.now in
    let goes = before-of (λ (cs : List (CoreCell CoreShard)) (n : ℕ).
    GoesOnLoading cs n c.args.session c.args.place c.args.writer.now.epoch (own c.turns.caller) (own new.caller))
    inv.opening inv.number e.goes in
    loading-both cells caller c.args.session c.args.place c.args.writer.now.epoch first (own c.turns.caller)
    (own new.caller) inv.goes goes

pub returns-in-ShardFull-clause-asked : goal.returns-in-ShardFull-clause-asked
returns-in-ShardFull-clause-asked g c =
    let opening = g.P.CellCaller.opening in
    let number = g.P.CellCaller.number in
    let own = g.P.CellCaller.own in
    let inv = c.turns.invariant in
    let e = c.load_turn.ensures in
    let new = c.load_turn.new in
    let opens = e.opening ∙ inv.opening in
    let numbers = e.number ∙ inv.number in
    let cells = opening c.args.caller.now in
    let caller = number c.args.caller.now in
    let first = own c.args.caller.now in
    let goes = before-of (λ (cs : List (CoreCell CoreShard)) (n : ℕ).
    GoesOnLoading cs n c.args.session c.args.place c.args.writer.now.epoch (own c.turns.caller) (own new.caller))
    inv.opening inv.number e.goes in
    such-both cells caller c.args.place c.args.cube.now c.args.allowed first (own c.turns.caller) (own new.caller)
    goes.more c.args.load.now c.turns.load c.args.bad.now c.turns.bad inv.put.rows inv.put.taken c.args.session inv.asked
    (before-of (λ (cs : List (CoreCell CoreShard)) (n : ℕ).
    AsksForSuch cs n c.args.place c.args.cube.now c.args.session (c.args.allowed - c.turns.bad.count) c.turns.load
    (own c.turns.caller) (own new.caller)) inv.opening inv.number e.asked)

pub returns-in-TooMany-clause-holds : goal.returns-in-TooMany-clause-holds
returns-in-TooMany-clause-holds g c =
    let opening = g.P.CellCaller.opening in
    let number = g.P.CellCaller.number in
    let own = g.P.CellCaller.own in
    let new = c.load_turn.new in
    coe 0 1 (i. HoldsAfterTurn (opening new.caller) (number new.caller) c.args.session (own new.caller)
    c.args.writer.now (c.in-TooMany.is i)) c.in_ok-posted.ensures.holds

pub returns-in-TooMany-clause-turns : goal.returns-in-TooMany-clause-turns
returns-in-TooMany-clause-turns g c =
    let opening = g.P.CellCaller.opening in
    let number = g.P.CellCaller.number in
    let own = g.P.CellCaller.own in
    let inv = c.turns.invariant in
    let e = c.load_turn.ensures in
    let new = c.load_turn.new in
    let opens = e.opening ∙ inv.opening in
    let numbers = e.number ∙ inv.number in
    let cells = opening c.args.caller.now in
    let caller = number c.args.caller.now in
    let first = own c.args.caller.now in
    let goes = before-of (λ (cs : List (CoreCell CoreShard)) (n : ℕ).
    GoesOnLoading cs n c.args.session c.args.place c.args.writer.now.epoch (own c.turns.caller) (own new.caller))
    inv.opening inv.number e.goes in
    let after = before-of (λ (cs : List (CoreCell CoreShard)) (n : ℕ).
    IsAfterTurn cs n c.args.session c.args.place c.args.cube.now c.args.allowed c.args.writer.now (own c.turns.caller)
    (own new.caller) c.turns.load new.load c.turns.bad new.bad turn.TooMany) opens numbers
    (coe 0 1 (i. IsAfterTurn (opening new.caller) (number new.caller) c.args.session c.args.place c.args.cube.now
    c.args.allowed c.args.writer.now (own c.turns.caller) (own new.caller) c.turns.load new.load c.turns.bad new.bad
    (c.in-TooMany.is i)) c.in_ok-posted.ensures.turn) in
    let behind = turn-behind cells caller c.args.session c.args.place c.args.cube.now c.args.allowed c.args.writer.now
    first (own c.turns.caller) (own new.caller) goes.more c.args.load.now c.turns.load new.load
    c.args.bad.now c.turns.bad new.bad inv.put turn.TooMany after in
    now-of (λ (cs : List (CoreCell CoreShard)) (n : ℕ).
    HasTooManyBad cs n c.args.place c.args.cube.now c.args.allowed (own new.caller) c.args.load.now new.load
    c.args.bad.now new.bad) opens numbers behind

pub returns-in-ShardFull-clause-holds : goal.returns-in-ShardFull-clause-holds
returns-in-ShardFull-clause-holds g c =
    let opening = g.P.CellCaller.opening in
    let number = g.P.CellCaller.number in
    let own = g.P.CellCaller.own in
    let new = c.load_turn.new in
    coe 0 1 (i. HoldsAfterTurn (opening new.caller) (number new.caller) c.args.session (own new.caller)
    c.args.writer.now (c.in-ShardFull.is i)) c.in_ok-posted.ensures.holds

pub returns-in-ShardFull-clause-turns : goal.returns-in-ShardFull-clause-turns
returns-in-ShardFull-clause-turns g c =
    let opening = g.P.CellCaller.opening in
    let number = g.P.CellCaller.number in
    let own = g.P.CellCaller.own in
    let inv = c.turns.invariant in
    let e = c.load_turn.ensures in
    let new = c.load_turn.new in
    let opens = e.opening ∙ inv.opening in
    let numbers = e.number ∙ inv.number in
    let cells = opening c.args.caller.now in
    let caller = number c.args.caller.now in
    let first = own c.args.caller.now in
    let goes = before-of (λ (cs : List (CoreCell CoreShard)) (n : ℕ).
    GoesOnLoading cs n c.args.session c.args.place c.args.writer.now.epoch (own c.turns.caller) (own new.caller))
    inv.opening inv.number e.goes in
    let after = before-of (λ (cs : List (CoreCell CoreShard)) (n : ℕ).
    IsAfterTurn cs n c.args.session c.args.place c.args.cube.now c.args.allowed c.args.writer.now (own c.turns.caller)
    (own new.caller) c.turns.load new.load c.turns.bad new.bad (turn.ShardFull c.in-ShardFull.shard c.in-ShardFull.rows)) opens numbers
    (coe 0 1 (i. IsAfterTurn (opening new.caller) (number new.caller) c.args.session c.args.place c.args.cube.now
    c.args.allowed c.args.writer.now (own c.turns.caller) (own new.caller) c.turns.load new.load c.turns.bad new.bad
    (c.in-ShardFull.is i)) c.in_ok-posted.ensures.turn) in
    let behind = turn-behind cells caller c.args.session c.args.place c.args.cube.now c.args.allowed c.args.writer.now
    first (own c.turns.caller) (own new.caller) goes.more c.args.load.now c.turns.load new.load
    c.args.bad.now c.turns.bad new.bad inv.put (turn.ShardFull c.in-ShardFull.shard c.in-ShardFull.rows) after in
    now-of (λ (cs : List (CoreCell CoreShard)) (n : ℕ).
    HasTakenSome cs n c.args.place c.args.cube.now c.args.allowed (own new.caller) c.args.load.now new.load
    c.args.bad.now new.bad) opens numbers behind

pub end_turns-requires-clause-client : goal.end_turns-requires-clause-client
end_turns-requires-clause-client g c =
    c.load_turn.ensures.may.client

pub end_turns-requires-clause-mails : goal.end_turns-requires-clause-mails
end_turns-requires-clause-mails g c =
    let opening = g.P.CellCaller.opening in
    let number = g.P.CellCaller.number in
    let own = g.P.CellCaller.own in
    let inv = c.turns.invariant in
    let e = c.load_turn.ensures in
    let new = c.load_turn.new in
    let opens = e.opening ∙ inv.opening in
    let numbers = e.number ∙ inv.number in
    let cells = opening c.args.caller.now in
    let caller = number c.args.caller.now in
    let first = own c.args.caller.now in
    let goes = before-of (λ (cs : List (CoreCell CoreShard)) (n : ℕ).
    GoesOnLoading cs n c.args.session c.args.place c.args.writer.now.epoch (own c.turns.caller) (own new.caller))
    inv.opening inv.number e.goes in
    now-of (λ (cs : List (CoreCell CoreShard)) (n : ℕ).
    AreShardMails FitsShard CoreShardStands ShardAnswerSays cs c.args.session c.args.size.now.shards
    (2 + c.args.size.now.shards)) opens numbers c.requires.mails

pub end_turns-requires-clause-out : goal.end_turns-requires-clause-out
end_turns-requires-clause-out g c =
    coe 0 1 (i. MayBeFetchedAfter c.args.size.now.shards (c.in-Posted.is i)) c.in_ok-posted.ensures.out

pub end_turns-requires-clause-holds : goal.end_turns-requires-clause-holds
end_turns-requires-clause-holds g c =
    let opening = g.P.CellCaller.opening in
    let number = g.P.CellCaller.number in
    let own = g.P.CellCaller.own in
    let new = c.load_turn.new in
    coe 0 1 (i. HoldsAfterTurn (opening new.caller) (number new.caller) c.args.session (own new.caller)
    c.args.writer.now (c.in-Posted.is i)) c.in_ok-posted.ensures.holds

pub returns-then-last-clause-goes : goal.returns-then-last-clause-goes
returns-then-last-clause-goes g c =
    let opening = g.P.CellCaller.opening in
    let number = g.P.CellCaller.number in
    let own = g.P.CellCaller.own in
    let inv = c.turns.invariant in
    let e = c.load_turn.ensures in
    let new = c.load_turn.new in
    let opens = e.opening ∙ inv.opening in
    let numbers = e.number ∙ inv.number in
    let cells = opening c.args.caller.now in
    let caller = number c.args.caller.now in
    let first = own c.args.caller.now in
    let goes = before-of (λ (cs : List (CoreCell CoreShard)) (n : ℕ).
    GoesOnLoading cs n c.args.session c.args.place c.args.writer.now.epoch (own c.turns.caller) (own new.caller))
    inv.opening inv.number e.goes in
    let f = c.end_turns.ensures in
    let last = c.end_turns.new in
    loading-both cells caller c.args.session c.args.place c.args.writer.now.epoch first (own new.caller)
    (own last.caller)
    (loading-both cells caller c.args.session c.args.place c.args.writer.now.epoch first (own c.turns.caller)
    (own new.caller) inv.goes goes)
    (before-of (λ (cs : List (CoreCell CoreShard)) (n : ℕ).
    GoesOnLoading cs n c.args.session c.args.place c.args.writer.now.epoch (own new.caller) (own last.caller)) opens numbers
    (f.goes c.args.place c.args.writer.now.epoch))

pub returns-then-last-clause-asked : goal.returns-then-last-clause-asked
returns-then-last-clause-asked g c =
    let opening = g.P.CellCaller.opening in
    let number = g.P.CellCaller.number in
    let own = g.P.CellCaller.own in
    let inv = c.turns.invariant in
    let e = c.load_turn.ensures in
    let new = c.load_turn.new in
    let opens = e.opening ∙ inv.opening in
    let numbers = e.number ∙ inv.number in
    let cells = opening c.args.caller.now in
    let caller = number c.args.caller.now in
    let first = own c.args.caller.now in
    let goes = before-of (λ (cs : List (CoreCell CoreShard)) (n : ℕ).
    GoesOnLoading cs n c.args.session c.args.place c.args.writer.now.epoch (own c.turns.caller) (own new.caller))
    inv.opening inv.number e.goes in
    let f = c.end_turns.ensures in
    let last = c.end_turns.new in
    such-then-none cells caller c.args.place c.args.cube.now (c.args.allowed - c.args.bad.now.count) c.args.session
    c.args.load.now first (own new.caller) (own last.caller) (f.goes c.args.place 0).more
    (such-both cells caller c.args.place c.args.cube.now c.args.allowed first (own c.turns.caller) (own new.caller)
    goes.more c.args.load.now c.turns.load c.args.bad.now c.turns.bad inv.put.rows inv.put.taken c.args.session inv.asked
    (before-of (λ (cs : List (CoreCell CoreShard)) (n : ℕ).
    AsksForSuch cs n c.args.place c.args.cube.now c.args.session (c.args.allowed - c.turns.bad.count) c.turns.load
    (own c.turns.caller) (own new.caller)) inv.opening inv.number e.asked))
    (before-of (λ (cs : List (CoreCell CoreShard)) (n : ℕ).
    GoOnByCalls FitsShard CoreShardStands ShardAnswerSays cs n c.args.session AsksForNone (own new.caller)
    (own last.caller)) opens numbers f.none)

pub returns-then-last-clause-may : goal.returns-then-last-clause-may
returns-then-last-clause-may g c =
    let opening = g.P.CellCaller.opening in
    let number = g.P.CellCaller.number in
    let own = g.P.CellCaller.own in
    let inv = c.turns.invariant in
    let e = c.load_turn.ensures in
    let new = c.load_turn.new in
    let opens = e.opening ∙ inv.opening in
    let numbers = e.number ∙ inv.number in
    let cells = opening c.args.caller.now in
    let caller = number c.args.caller.now in
    let first = own c.args.caller.now in
    let goes = before-of (λ (cs : List (CoreCell CoreShard)) (n : ℕ).
    GoesOnLoading cs n c.args.session c.args.place c.args.writer.now.epoch (own c.turns.caller) (own new.caller))
    inv.opening inv.number e.goes in
    let f = c.end_turns.ensures in
    let last = c.end_turns.new in
    now-of (λ (cs : List (CoreCell CoreShard)) (n : ℕ).
    MayAskForCodes FitsShard CoreShardStands ShardAnswerSays cs n (own last.caller) c.args.session new.known c.args.place
    c.args.cube.now) f.opening f.number
    (may-ask-still (opening new.caller) (number new.caller) c.args.session c.args.place (own new.caller)
    (own last.caller) c.args.cube.now new.known (f.goes c.args.place 0).more e.may)

pub returns-then-last-clause-turns : goal.returns-then-last-clause-turns
returns-then-last-clause-turns g c =
    let opening = g.P.CellCaller.opening in
    let number = g.P.CellCaller.number in
    let own = g.P.CellCaller.own in
    let inv = c.turns.invariant in
    let e = c.load_turn.ensures in
    let new = c.load_turn.new in
    let opens = e.opening ∙ inv.opening in
    let numbers = e.number ∙ inv.number in
    let cells = opening c.args.caller.now in
    let caller = number c.args.caller.now in
    let first = own c.args.caller.now in
    let goes = before-of (λ (cs : List (CoreCell CoreShard)) (n : ℕ).
    GoesOnLoading cs n c.args.session c.args.place c.args.writer.now.epoch (own c.turns.caller) (own new.caller))
    inv.opening inv.number e.goes in
    let f = c.end_turns.ensures in
    let last = c.end_turns.new in
    let after = before-of (λ (cs : List (CoreCell CoreShard)) (n : ℕ).
    IsAfterTurn cs n c.args.session c.args.place c.args.cube.now c.args.allowed c.args.writer.now (own c.turns.caller)
    (own new.caller) c.turns.load new.load c.turns.bad new.bad (turn.Posted c.in-Posted.posted c.in-Posted.last)) opens numbers
    (coe 0 1 (i. IsAfterTurn (opening new.caller) (number new.caller) c.args.session c.args.place c.args.cube.now
    c.args.allowed c.args.writer.now (own c.turns.caller) (own new.caller) c.turns.load new.load c.turns.bad new.bad
    (c.in-Posted.is i)) c.in_ok-posted.ensures.turn) in
    let behind = turn-behind cells caller c.args.session c.args.place c.args.cube.now c.args.allowed c.args.writer.now
    first (own c.turns.caller) (own new.caller) goes.more c.args.load.now c.turns.load new.load
    c.args.bad.now c.turns.bad new.bad inv.put (turn.Posted c.in-Posted.posted c.in-Posted.last) after in
    now-of (λ (cs : List (CoreCell CoreShard)) (n : ℕ).
    IfOk c.end_turns.result (IsAfterTurns cs n c.args.session c.args.place c.args.cube.now c.args.allowed
    c.args.writer.now first (own last.caller) c.args.load.now new.load c.args.bad.now new.bad)) (f.opening ∙ opens)
    (f.number ∙ numbers)
    (last-fetched cells caller c.args.session c.args.place c.args.cube.now c.args.allowed c.args.writer.now first
    (own new.caller) (own last.caller) c.args.load.now new.load c.args.bad.now new.bad c.end_turns.result
    (f.goes c.args.place 0).more
    (before-of (λ (cs : List (CoreCell CoreShard)) (n : ℕ).
    LearnsThat FitsShard CoreShardStands ShardAnswerSays AddsNoOperation cs n c.args.session (own new.caller)
    (own last.caller)) opens numbers f.adds)
    behind.0 (behind.1 c.if-last.true)
    (before-of (λ (cs : List (CoreCell CoreShard)) (n : ℕ).
    IfOk c.end_turns.result (IsAfterLast cs n c.args.session (own last.caller) c.args.writer.now)) (f.opening ∙ opens)
    (f.number ∙ numbers) f.stop))

pub returns-in_err-end_turns-clause-goes : goal.returns-in_err-end_turns-clause-goes
returns-in_err-end_turns-clause-goes g c =
    let opening = g.P.CellCaller.opening in
    let number = g.P.CellCaller.number in
    let own = g.P.CellCaller.own in
    let inv = c.turns.invariant in
    let f = c.end_turns-2.ensures in
    let last = c.end_turns-2.new in
    let cells = opening c.args.caller.now in
    let caller = number c.args.caller.now in
    let first = own c.args.caller.now in
    loading-both cells caller c.args.session c.args.place c.args.writer.now.epoch first (own c.turns.caller)
    (own last.caller) inv.goes
    (before-of (λ (cs : List (CoreCell CoreShard)) (n : ℕ).
    GoesOnLoading cs n c.args.session c.args.place c.args.writer.now.epoch (own c.turns.caller) (own last.caller))
    inv.opening inv.number (f.goes c.args.place c.args.writer.now.epoch))

pub returns-in_err-end_turns-clause-asked : goal.returns-in_err-end_turns-clause-asked
returns-in_err-end_turns-clause-asked g c =
    let opening = g.P.CellCaller.opening in
    let number = g.P.CellCaller.number in
    let own = g.P.CellCaller.own in
    let inv = c.turns.invariant in
    let f = c.end_turns-2.ensures in
    let last = c.end_turns-2.new in
    let cells = opening c.args.caller.now in
    let caller = number c.args.caller.now in
    let first = own c.args.caller.now in
    such-then-none cells caller c.args.place c.args.cube.now (c.args.allowed - c.args.bad.now.count) c.args.session
    c.args.load.now first (own c.turns.caller) (own last.caller) (f.goes c.args.place 0).more inv.asked
    (before-of (λ (cs : List (CoreCell CoreShard)) (n : ℕ).
    GoOnByCalls FitsShard CoreShardStands ShardAnswerSays cs n c.args.session AsksForNone (own c.turns.caller)
    (own last.caller)) inv.opening inv.number f.none)

pub returns-in_err-end_turns-clause-may : goal.returns-in_err-end_turns-clause-may
returns-in_err-end_turns-clause-may g c =
    let opening = g.P.CellCaller.opening in
    let number = g.P.CellCaller.number in
    let own = g.P.CellCaller.own in
    let inv = c.turns.invariant in
    let f = c.end_turns-2.ensures in
    let last = c.end_turns-2.new in
    let cells = opening c.args.caller.now in
    let caller = number c.args.caller.now in
    let first = own c.args.caller.now in
    now-of (λ (cs : List (CoreCell CoreShard)) (n : ℕ).
    MayAskForCodes FitsShard CoreShardStands ShardAnswerSays cs n (own last.caller) c.args.session c.turns.known
    c.args.place c.args.cube.now) f.opening f.number
    (may-ask-still (opening c.turns.caller) (number c.turns.caller) c.args.session c.args.place (own c.turns.caller)
    (own last.caller) c.args.cube.now c.turns.known (f.goes c.args.place 0).more inv.may)

pub returns-clause-goes : goal.returns-clause-goes
returns-clause-goes g c =
    let opening = g.P.CellCaller.opening in
    let number = g.P.CellCaller.number in
    let own = g.P.CellCaller.own in
    let inv = c.turns.invariant in
    let f = c.end_turns-2.ensures in
    let last = c.end_turns-2.new in
    let cells = opening c.args.caller.now in
    let caller = number c.args.caller.now in
    let first = own c.args.caller.now in
    loading-both cells caller c.args.session c.args.place c.args.writer.now.epoch first (own c.turns.caller)
    (own last.caller) inv.goes
    (before-of (λ (cs : List (CoreCell CoreShard)) (n : ℕ).
    GoesOnLoading cs n c.args.session c.args.place c.args.writer.now.epoch (own c.turns.caller) (own last.caller))
    inv.opening inv.number (f.goes c.args.place c.args.writer.now.epoch))

pub returns-clause-asked : goal.returns-clause-asked
returns-clause-asked g c =
    let opening = g.P.CellCaller.opening in
    let number = g.P.CellCaller.number in
    let own = g.P.CellCaller.own in
    let inv = c.turns.invariant in
    let f = c.end_turns-2.ensures in
    let last = c.end_turns-2.new in
    let cells = opening c.args.caller.now in
    let caller = number c.args.caller.now in
    let first = own c.args.caller.now in
    such-then-none cells caller c.args.place c.args.cube.now (c.args.allowed - c.args.bad.now.count) c.args.session
    c.args.load.now first (own c.turns.caller) (own last.caller) (f.goes c.args.place 0).more inv.asked
    (before-of (λ (cs : List (CoreCell CoreShard)) (n : ℕ).
    GoOnByCalls FitsShard CoreShardStands ShardAnswerSays cs n c.args.session AsksForNone (own c.turns.caller)
    (own last.caller)) inv.opening inv.number f.none)

pub returns-clause-may : goal.returns-clause-may
returns-clause-may g c =
    let opening = g.P.CellCaller.opening in
    let number = g.P.CellCaller.number in
    let own = g.P.CellCaller.own in
    let inv = c.turns.invariant in
    let f = c.end_turns-2.ensures in
    let last = c.end_turns-2.new in
    let cells = opening c.args.caller.now in
    let caller = number c.args.caller.now in
    let first = own c.args.caller.now in
    now-of (λ (cs : List (CoreCell CoreShard)) (n : ℕ).
    MayAskForCodes FitsShard CoreShardStands ShardAnswerSays cs n (own last.caller) c.args.session c.turns.known
    c.args.place c.args.cube.now) f.opening f.number
    (may-ask-still (opening c.turns.caller) (number c.turns.caller) c.args.session c.args.place (own c.turns.caller)
    (own last.caller) c.args.cube.now c.turns.known (f.goes c.args.place 0).more inv.may)
