use Rattle.std.proofs.Common.{◌∙◌, ◌+◌, ◌++◌, [], ◌∷◌, false, append-nil, None, Some, refl, sym}
use Rattle.aosi_desk.specs.declared.answer.RoundAnswer.TheVariants.{Nothing}
use Rattle.core_program.specs.Flushing.{IsFlusherOf}
use Rattle.flush_loop.proofs.OpenedAndClosed.{opening_entry, plain-round}
use Rattle.flush_loop.specs.MadeRounds.{KnowsBetween, LearnsOfOwnRound}
use Rattle.flush_loop.specs.PlainRounds.{KnowsAfterOpening}
use Rattle.flush_loop.specs.RoundResults.{loses_store}
use Rattle.job_groups.specs.AskedEach.{AreShardMails}
use Rattle.linked_shards.specs.CellShards.{CoreShardStands}
use Rattle.round_copies.specs.WithinRounds.{HasHistory}
use Rattle.round_copies.specs.declared.span.RoundSpan.{RoundSpan}
use Rattle.shard_events.specs.ShardsInRuns.{FitsShard, ShardAnswerSays}
use Rattle.stored_rounds.proofs.ClosedRounds.{loses-so, more-by-round, round-learnt}
use Rattle.stored_rounds.proofs.OwnRounds.{counts-then, kept-by-asking, kept-in-runs, ready-then, rounds-by-asking, stands-then}
use Rattle.stored_rounds.specs.OwnKnowledge.{ClosesRound, IsReadyForRound, IsRoundOfRuns, KeepsOnByRound}
use Rattle.stored_rounds.specs.RoundsInStore.{EndsAs}
use Rattle.stored_rounds.proofs.stored.StoredRounds.make_stored_round.Goals as goal

pub returns-in-None-clause-learns : goal.returns-in-None-clause-learns
returns-in-None-clause-learns g c =
    let own = g.P.CellCaller.own in
    let mid = own c.open_round.new.caller in
    plain-round FitsShard CoreShardStands ShardAnswerSays (g.P.CellCaller.opening c.args.caller.now)
    (g.P.CellCaller.number c.args.caller.now) (c.args.size.now.sessions + 1) c.args.size.now.shards c.requires.flusher None
    (own c.args.caller.now) mid mid c.in-None.ensures.own (sym (append-nil mid))

pub returns-in-None-clause-kept : goal.returns-in-None-clause-kept
returns-in-None-clause-kept g c =
    let cells = g.P.CellCaller.opening c.args.caller.now in
    let number = g.P.CellCaller.number c.args.caller.now in
    let client = c.args.size.now.sessions + 1 in
    let shards = c.args.size.now.shards in
    let own = g.P.CellCaller.own c.args.caller.now in
    let now = g.P.CellCaller.own c.open_round.new.caller in
    let view = g.D.Disk.view in
    let m = c.args.self.now in
    let did = c.in-None.ensures in
    λ begun held. kept-in-runs cells number client shards c.requires.flusher view begun m held.kept now
    (kept-by-asking cells number client shards c.requires.flusher view begun m None own now did.own held c.requires.between)
    (stands-then cells number client shards c.requires.flusher view begun m None own now did.own held c.requires.between
    (coe 0 1 (i. HasHistory (did.opening i) (did.number i) now) did.history))
    (rounds-by-asking cells number client shards c.requires.flusher view begun m None own now did.own held c.requires.between)
    (counts-then cells number client shards c.requires.flusher view begun m None own now did.own held c.requires.between
    (coe 0 1 (i. HasHistory (did.opening i) (did.number i) now) did.history))
    (coe 0 1 (i. KnowsBetween FitsShard CoreShardStands ShardAnswerSays (did.opening i) (did.number i) client false now) did.knows)

pub returns-in-None-clause-ends : goal.returns-in-None-clause-ends
returns-in-None-clause-ends g c =
    let did = c.in-None.ensures in
    let now = g.P.CellCaller.own c.open_round.new.caller in (
      c.requires.kept.1.kept,
      (
        stands-then (g.P.CellCaller.opening c.args.caller.now) (g.P.CellCaller.number c.args.caller.now)
            (c.args.size.now.sessions + 1) c.args.size.now.shards c.requires.flusher g.D.Disk.view c.requires.kept.0 c.args.self.now None
            (g.P.CellCaller.own c.args.caller.now) now did.own c.requires.kept.1 c.requires.between
            (coe 0 1 (i. HasHistory (did.opening i) (did.number i) now) did.history),
        refl,
      ),
    )

pub returns-in-Some-Nothing-clause-learns : goal.returns-in-Some-Nothing-clause-learns
returns-in-Some-Nothing-clause-learns g c =
    let own = g.P.CellCaller.own in
    let mid = own c.open_round.new.caller in
    plain-round FitsShard CoreShardStands ShardAnswerSays (g.P.CellCaller.opening c.args.caller.now)
    (g.P.CellCaller.number c.args.caller.now) (c.args.size.now.sessions + 1) c.args.size.now.shards c.requires.flusher
    (Some (Nothing c.in-Some-Nothing.epoch))
    (own c.args.caller.now) mid mid
    (c.in-Some-Nothing.ensures.own
    ∙ (λ i. own c.args.caller.now
    ++ opening_entry (g.P.CellCaller.number c.args.caller.now) (Some (c.in-Some-Nothing.field-0-is i)) ∷ []))
    (sym (append-nil mid))

pub returns-in-Some-Nothing-clause-kept : goal.returns-in-Some-Nothing-clause-kept
returns-in-Some-Nothing-clause-kept g c =
    let cells = g.P.CellCaller.opening c.args.caller.now in
    let number = g.P.CellCaller.number c.args.caller.now in
    let client = c.args.size.now.sessions + 1 in
    let shards = c.args.size.now.shards in
    let own = g.P.CellCaller.own c.args.caller.now in
    let now = g.P.CellCaller.own c.open_round.new.caller in
    let view = g.D.Disk.view in
    let m = c.args.self.now in
    let asked = Some c.in-Some-Nothing.field-0 in
    let did = c.in-Some-Nothing.ensures in
    λ begun held. kept-in-runs cells number client shards c.requires.flusher view begun m held.kept now
    (kept-by-asking cells number client shards c.requires.flusher view begun m asked own now did.own held c.requires.between)
    (stands-then cells number client shards c.requires.flusher view begun m asked own now did.own held c.requires.between
    (coe 0 1 (i. HasHistory (did.opening i) (did.number i) now) did.history))
    (rounds-by-asking cells number client shards c.requires.flusher view begun m asked own now did.own held c.requires.between)
    (counts-then cells number client shards c.requires.flusher view begun m asked own now did.own held
    c.requires.between (coe 0 1 (i. HasHistory (did.opening i) (did.number i) now) did.history))
    (coe 0 1
    (i. KnowsAfterOpening FitsShard CoreShardStands ShardAnswerSays (did.opening i) (did.number i) client
    (Some (c.in-Some-Nothing.field-0-is i)) now) did.knows)

pub returns-in-Some-Nothing-clause-ends : goal.returns-in-Some-Nothing-clause-ends
returns-in-Some-Nothing-clause-ends g c =
    let did = c.in-Some-Nothing.ensures in
    let now = g.P.CellCaller.own c.open_round.new.caller in (
      c.requires.kept.1.kept,
      (
        stands-then (g.P.CellCaller.opening c.args.caller.now) (g.P.CellCaller.number c.args.caller.now)
            (c.args.size.now.sessions + 1) c.args.size.now.shards c.requires.flusher g.D.Disk.view c.requires.kept.0 c.args.self.now
            (Some c.in-Some-Nothing.field-0) (g.P.CellCaller.own c.args.caller.now) now did.own c.requires.kept.1
            c.requires.between (coe 0 1 (i. HasHistory (did.opening i) (did.number i) now) did.history),
        refl,
      ),
    )

pub keep_and_close-requires-clause-flusher : goal.keep_and_close-requires-clause-flusher
keep_and_close-requires-clause-flusher g c =
    let did = c.in-Some-Target.ensures in
    coe 1 0
    (i. IsFlusherOf FitsShard CoreShardStands ShardAnswerSays (did.opening i) (did.number i) (c.args.size.now.sessions + 1)
    c.args.size.now.shards) c.requires.flusher

pub keep_and_close-requires-clause-mails : goal.keep_and_close-requires-clause-mails
keep_and_close-requires-clause-mails g c =
    coe 1 0
    (i. AreShardMails FitsShard CoreShardStands ShardAnswerSays (c.in-Some-Target.ensures.opening i) (c.args.size.now.sessions + 1)
    c.args.size.now.shards (2 + c.args.size.now.shards)) c.requires.mails

pub keep_and_close-requires-clause-round : goal.keep_and_close-requires-clause-round
keep_and_close-requires-clause-round g c =
    let caller = c.open_round.new.caller in
    coe 0 1
    (i. KnowsAfterOpening FitsShard CoreShardStands ShardAnswerSays (g.P.CellCaller.opening caller) (g.P.CellCaller.number caller)
    (c.args.size.now.sessions + 1) (Some (c.in-Some-Target.field-0-is i)) (g.P.CellCaller.own caller)) c.in-Some-Target.ensures.knows

pub keep_and_close-requires-clause-ready : goal.keep_and_close-requires-clause-ready
keep_and_close-requires-clause-ready g c =
    let client = c.args.size.now.sessions + 1 in
    let from = c.in-Some-Target.from in
    let epoch = c.in-Some-Target.epoch in
    let now = g.P.CellCaller.own c.open_round.new.caller in
    let view = g.D.Disk.view in
    let m = c.args.self.now in
    let held = c.requires.kept.1 in
    let did = c.in-Some-Target.ensures in
    let span : RoundSpan = record { from = from; epoch = epoch; whole = c.wants_whole-whole.result } in (
      held.kept,
      coe 1 0 (i. IsReadyForRound (did.opening i) (did.number i) client now view span m held.kept)
          (ready-then (g.P.CellCaller.opening c.args.caller.now) (g.P.CellCaller.number c.args.caller.now) client
          c.args.size.now.shards c.requires.flusher view c.requires.kept.0 m (Some c.in-Some-Target.field-0) (g.P.CellCaller.own c.args.caller.now) now
          did.own held c.requires.between (coe 0 1 (i. HasHistory (did.opening i) (did.number i) now) did.history) from epoch
          (λ i. Some (c.in-Some-Target.field-0-is i)) c.requires.serves span refl c.wants_whole-whole.ensures),
    )

pub returns-in-Some-Target-clause-more : goal.returns-in-Some-Target-clause-more
returns-in-Some-Target-clause-more g c =
    let cells = g.P.CellCaller.opening c.args.caller.now in
    let number = g.P.CellCaller.number c.args.caller.now in
    let own = g.P.CellCaller.own in
    let client = c.args.size.now.sessions + 1 in
    let epoch = c.in-Some-Target.epoch in
    let asked = Some c.in-Some-Target.field-0 in
    let did = c.in-Some-Target.ensures in
    let how = c.keep_and_close.result in
    let mid = own c.open_round.new.caller in
    let now = own c.keep_and_close.new.caller in
    more-by-round cells number client c.args.size.now.shards c.requires.flusher epoch how (own c.args.caller.now) mid now
    (opening_entry number asked) did.own
    (coe 0 1 (i. ClosesRound (did.opening i) (did.number i) client mid epoch how now) c.keep_and_close.ensures.closes)

pub returns-in-Some-Target-clause-learns : goal.returns-in-Some-Target-clause-learns
returns-in-Some-Target-clause-learns g c =
    let cells = g.P.CellCaller.opening c.args.caller.now in
    let number = g.P.CellCaller.number c.args.caller.now in
    let own = g.P.CellCaller.own in
    let client = c.args.size.now.sessions + 1 in
    let from = c.in-Some-Target.from in
    let epoch = c.in-Some-Target.epoch in
    let did = c.in-Some-Target.ensures in
    let how = c.keep_and_close.result in
    let first = own c.args.caller.now in
    let mid = own c.open_round.new.caller in
    let now = own c.keep_and_close.new.caller in
    coe 1 0
    (i. LearnsOfOwnRound FitsShard CoreShardStands ShardAnswerSays cells number client (c.result_of_end.ensures i) first now)
    (round-learnt cells number client c.args.size.now.shards c.requires.flusher from epoch how first mid now
    (did.own ∙ (λ i. first ++ opening_entry number (Some (c.in-Some-Target.field-0-is i)) ∷ []))
    (coe 0 1 (i. ClosesRound (did.opening i) (did.number i) client mid epoch how now) c.keep_and_close.ensures.closes))

pub returns-in-Some-Target-clause-between : goal.returns-in-Some-Target-clause-between
returns-in-Some-Target-clause-between g c =
    let now = c.keep_and_close.new.caller in
    let how = c.keep_and_close.result in
    let lost = loses-so c.in-Some-Target.epoch how ∙ sym (λ i. loses_store (c.result_of_end.ensures i)) in
    coe 0 1
    (i. KnowsBetween FitsShard CoreShardStands ShardAnswerSays (g.P.CellCaller.opening now) (g.P.CellCaller.number now)
    (c.args.size.now.sessions + 1) (lost i) (g.P.CellCaller.own now)) c.keep_and_close.ensures.between

pub returns-in-Some-Target-clause-ends : goal.returns-in-Some-Target-clause-ends
returns-in-Some-Target-clause-ends g c =
    let now = c.keep_and_close.new.caller in
    let ends = c.keep_and_close.ensures.ends in (
      ends.0,
      coe 1 0
          (i. EndsAs g.D.Disk.view
          (IsRoundOfRuns (g.P.CellCaller.opening now) (g.P.CellCaller.number now) (c.args.size.now.sessions + 1) (g.P.CellCaller.own now))
          (c.result_of_end.ensures i) ends.0 c.args.self.now c.keep_and_close.new.self) ends.1,
    )

pub returns-in-Some-Target-clause-kept : goal.returns-in-Some-Target-clause-kept
returns-in-Some-Target-clause-kept g c =
    let cells = g.P.CellCaller.opening c.args.caller.now in
    let number = g.P.CellCaller.number c.args.caller.now in
    let client = c.args.size.now.sessions + 1 in
    let shards = c.args.size.now.shards in
    let from = c.in-Some-Target.from in
    let epoch = c.in-Some-Target.epoch in
    let own = g.P.CellCaller.own c.args.caller.now in
    let mid = g.P.CellCaller.own c.open_round.new.caller in
    let now = g.P.CellCaller.own c.keep_and_close.new.caller in
    let view = g.D.Disk.view in
    let m = c.args.self.now in
    let new = c.keep_and_close.new.self in
    let asked = Some c.in-Some-Target.field-0 in
    let did = c.in-Some-Target.ensures in
    let span : RoundSpan = record { from = from; epoch = epoch; whole = c.wants_whole-whole.result } in
    λ begun held. coe 0 1 (i. KeepsOnByRound (did.opening i) (did.number i) client mid view span m new now)
    c.keep_and_close.ensures.kept begun held.kept
    (ready-then cells number client shards c.requires.flusher view begun m asked own mid did.own held c.requires.between
    (coe 0 1 (i. HasHistory (did.opening i) (did.number i) mid) did.history) from epoch
    (λ i. Some (c.in-Some-Target.field-0-is i)) c.requires.serves span refl c.wants_whole-whole.ensures)
    (rounds-by-asking cells number client shards c.requires.flusher view begun m asked own mid did.own held c.requires.between)
    (counts-then cells number client shards c.requires.flusher view begun m asked own mid did.own held
    c.requires.between (coe 0 1 (i. HasHistory (did.opening i) (did.number i) mid) did.history))
