use Rattle.std.proofs.Common.{ℕ, [], ◌∷◌, ◌∙◌, inl, inr, refl, sym, subst}
use Rattle.core_watches.proofs.WatchingLeaves.{left-both, left-closing, left-opening, left-plainly, left-unopened}
use Rattle.core_watches.specs.BoundReaders.{OpenWithRowsOfCubes}
use Rattle.core_watches.specs.WatchingCalls.{LeavesByWatching}
use Rattle.core_watches.specs.WatchEnds.{given_up, no_memory_entry, reader_closed, reader_opened}
use Rattle.core_program.specs.Knowing.{IsClientOf, IsSessionOf}
use Rattle.core_states.proofs.Holding.{held_for, holds-on, ready-for-mode}
use Rattle.core_states.proofs.LeftCalls.{longer-front}
use Rattle.core_watches.proofs.Ends.{keeps-shown, show-done, show-given-up, show-unread}
use Rattle.core_watches.proofs.KeptOn.{still-bound-there, still-keeps, still-shown, still-watches}
use Rattle.core_watches.proofs.RefusedSo.{then-refused-so}
use Rattle.core_watches.specs.KeptWatches.{IsRefusedSo, kept_on_record}
use Rattle.cube_journal.specs.declared.refusal.Refusal.TheVariants as cause
use Rattle.linked_shards.specs.CellShards.{CoreShardStands}
use Rattle.scripted_pasts.specs.Served.{IsServed}
use Rattle.session_desk.specs.Executed.{IfReplied}
use Rattle.session_replies.specs.Modes.{mode_of}
use Rattle.shard_events.specs.ShardsInRuns.{FitsShard, ShardAnswerSays}
use Rattle.shard_statements.specs.OverShards.{LeavesOverShards}
use Rattle.watch_holds.specs.HolderStates.{IsHolderOf, OneReader, TwoReaders}
use Rattle.watched_queries.proofs.WatchOutcomes.{few-session, other-is-apart, other-is-holder}
use Rattle.core_watches.proofs.showing.show_counted.Goals as goal

pub open_holder-requires-clause-client : goal.open_holder-requires-clause-client
open_holder-requires-clause-client g c = c.requires.served.client

pub open_holder-requires-clause-session : goal.open_holder-requires-clause-session
open_holder-requires-clause-session g c = c.requires.served.is_session

pub other_number-holder-requires-clause-few : goal.other_number-holder-requires-clause-few
other_number-holder-requires-clause-few g c =
    few-session (g.P.CellCaller.opening c.args.caller.now) (g.P.CellCaller.number c.args.caller.now)
    c.args.session.now.number c.requires.served.client c.requires.served.is_session

pub other_number-holder-requires-clause-holder : goal.other_number-holder-requires-clause-holder
other_number-holder-requires-clause-holder g c =
    c.requires.keeps.bound.watch.sound.holder

pub open_holder-requires-clause-ready : goal.open_holder-requires-clause-ready
open_holder-requires-clause-ready g c =
    let mode = mode_of c.args.session.now.mode in
    let before = c.args.caller.now in (
      held_for mode,
      ready-for-mode FitsShard CoreShardStands ShardAnswerSays (g.P.CellCaller.opening before) (g.P.CellCaller.number before)
          c.args.session.now.number (g.P.CellCaller.own before) mode c.requires.holds,
    )

pub open_holder-requires-clause-holder : goal.open_holder-requires-clause-holder
open_holder-requires-clause-holder g c =
    let session = c.args.session.now.number in
    let older = c.args.kept.now.watch.holder in
    subst (λ (n : ℕ). IsHolderOf session n) (sym c.other_number-holder.ensures) (other-is-holder session older)

pub open_holder-requires-clause-free : goal.open_holder-requires-clause-free
open_holder-requires-clause-free g c =
    let session = c.args.session.now in
    let w = c.args.kept.now.watch in (
      OneReader w.holder w.epoch,
      (λ same. other-is-apart session.number w.holder c.requires.keeps.bound.watch.sound.holder
          (same ∙ c.other_number-holder.ensures)),
      c.requires.keeps.reader,
    )

pub follow_shown-requires-clause-served : goal.follow_shown-requires-clause-served
follow_shown-requires-clause-served g c =
    coe 1 0 (i. IsServed (c.open_holder.ensures.opening i) (c.open_holder.ensures.number i) c.args.session.now.number
    c.args.size.now.shards) c.requires.served

pub follow_shown-requires-clause-ready : goal.follow_shown-requires-clause-ready
follow_shown-requires-clause-ready g c =
    let mode = mode_of c.args.session.now.mode in
    let before = c.args.caller.now in (
      held_for mode,
      c.open_holder.ensures.same.ready (held_for mode) (ready-for-mode FitsShard CoreShardStands ShardAnswerSays (g.P.CellCaller.opening before) (g.P.CellCaller.number before)
          c.args.session.now.number (g.P.CellCaller.own before) mode c.requires.holds),
    )

pub follow_shown-requires-clause-rows : goal.follow_shown-requires-clause-rows
follow_shown-requires-clause-rows g c =
    coe 1 0 (i. OpenWithRowsOfCubes (c.open_holder.ensures.opening i)) c.requires.rows

pub follow_shown-requires-clause-holder : goal.follow_shown-requires-clause-holder
follow_shown-requires-clause-holder g c =
    let session = c.args.session.now.number in
    let older = c.args.kept.now.watch.holder in
    subst (λ (n : ℕ). IsHolderOf session n) (sym c.other_number-holder.ensures) (other-is-holder session older)

pub follow_shown-requires-clause-readers : goal.follow_shown-requires-clause-readers
follow_shown-requires-clause-readers g c =
    let session = c.args.session.now in
    let w = c.args.kept.now.watch in
    c.in-Some.ensures.opened (OneReader w.holder w.epoch) (λ same. other-is-apart session.number w.holder c.requires.keeps.bound.watch.sound.holder
    (same ∙ c.other_number-holder.ensures)) c.requires.keeps.reader

pub follow_shown-requires-clause-bound : goal.follow_shown-requires-clause-bound
follow_shown-requires-clause-bound g c =
    let opening = g.P.CellCaller.opening in
    let number = g.P.CellCaller.number in
    let own = g.P.CellCaller.own in
    let before = c.args.caller.now in
    let session = c.args.session.now in
    let w = c.args.kept.now.watch in
    let mid = c.open_holder.new.caller in
    let kept = c.args.kept.now in
    still-bound-there (opening before) (opening mid) (number before) (number mid) session.number c.open_holder.ensures.opening
    c.open_holder.ensures.number (own before) (own mid) (_, sym c.in-Some.ensures.own) kept.cube kept.asked w c.requires.keeps.bound

pub follow_shown-requires-clause-watches : goal.follow_shown-requires-clause-watches
follow_shown-requires-clause-watches g c =
    let opening = g.P.CellCaller.opening in
    let number = g.P.CellCaller.number in
    let own = g.P.CellCaller.own in
    let before = c.args.caller.now in
    let session = c.args.session.now in
    let w = c.args.kept.now.watch in
    let mid = c.open_holder.new.caller in
    let kept = c.args.kept.now in
    still-watches (own before) (own mid) kept.asked w.query.cube kept.cube (_, sym c.in-Some.ensures.own)
    c.requires.keeps.watches

pub close_holder-requires-clause-client : goal.close_holder-requires-clause-client
close_holder-requires-clause-client g c =
    let first = c.open_holder.ensures in
    let next = c.follow_shown.ensures in
    coe 1 0 (i. IsClientOf FitsShard CoreShardStands ShardAnswerSays ((next.opening ∙ first.opening) i)
    ((next.number ∙ first.number) i) c.args.session.now.number) c.requires.served.client

pub close_holder-requires-clause-session : goal.close_holder-requires-clause-session
close_holder-requires-clause-session g c =
    let first = c.open_holder.ensures in
    let next = c.follow_shown.ensures in
    coe 1 0 (i. IsSessionOf FitsShard CoreShardStands ShardAnswerSays ((next.opening ∙ first.opening) i)
    c.args.session.now.number) c.requires.served.is_session

pub close_holder-requires-clause-ready : goal.close_holder-requires-clause-ready
close_holder-requires-clause-ready g c =
    let mode = mode_of c.args.session.now.mode in
    let before = c.args.caller.now in (
      held_for mode,
      c.follow_shown.ensures.same.ready (held_for mode) (c.open_holder.ensures.same.ready (held_for mode)
          (ready-for-mode FitsShard CoreShardStands ShardAnswerSays (g.P.CellCaller.opening before)
          (g.P.CellCaller.number before) c.args.session.now.number (g.P.CellCaller.own before) mode c.requires.holds)),
    )

pub close_holder-requires-clause-holder : goal.close_holder-requires-clause-holder
close_holder-requires-clause-holder g c =
    c.requires.keeps.bound.watch.sound.holder

pub close_holder-requires-clause-reads : goal.close_holder-requires-clause-reads
close_holder-requires-clause-reads g c =
    let session = c.args.session.now in
    let w = c.args.kept.now.watch in
    let holder = c.other_number-holder.result in
    let epoch = c.in-Some.epoch in
    let both = TwoReaders w.holder w.epoch holder epoch in
    let reads =
    c.follow_shown.ensures.holders both
    (c.in-Some.ensures.opened (OneReader w.holder w.epoch) (λ same. other-is-apart session.number w.holder c.requires.keeps.bound.watch.sound.holder
    (same ∙ c.other_number-holder.ensures)) c.requires.keeps.reader)
    in
    (both, inl refl, reads)

pub give_up-requires-clause-served : goal.give_up-requires-clause-served
give_up-requires-clause-served g c =
    let first = c.open_holder.ensures in
    let next = c.follow_shown.ensures in
    coe 1 0 (i. IsServed ((next.opening ∙ first.opening) i) ((next.number ∙ first.number) i) c.args.session.now.number
    c.args.size.now.shards) c.requires.served

pub give_up-requires-clause-holds : goal.give_up-requires-clause-holds
give_up-requires-clause-holds g c =
    let opening = g.P.CellCaller.opening in
    let number = g.P.CellCaller.number in
    let own = g.P.CellCaller.own in
    let before = c.args.caller.now in
    let session = c.args.session.now in
    let w = c.args.kept.now.watch in
    let mid = c.open_holder.new.caller in
    let then = c.follow_shown.new.caller in
    holds-on FitsShard CoreShardStands ShardAnswerSays (opening mid) (number mid) session.number (own mid) (opening then)
    (number then) (own then) (mode_of session.mode) c.follow_shown.ensures.same
    (holds-on FitsShard CoreShardStands ShardAnswerSays (opening before) (number before) session.number (own before)
    (opening mid) (number mid) (own mid) (mode_of session.mode) c.open_holder.ensures.same c.requires.holds)

pub give_up-requires-clause-holder : goal.give_up-requires-clause-holder
give_up-requires-clause-holder g c =
    let session = c.args.session.now.number in
    let older = c.args.kept.now.watch.holder in
    subst (λ (n : ℕ). IsHolderOf session n) (sym c.other_number-holder.ensures) (other-is-holder session older)

pub give_up-requires-clause-reads : goal.give_up-requires-clause-reads
give_up-requires-clause-reads g c =
    let session = c.args.session.now in
    let w = c.args.kept.now.watch in
    let holder = c.other_number-holder.result in
    let epoch = c.in-Some.epoch in
    let both = TwoReaders w.holder w.epoch holder epoch in
    let reads =
    c.follow_shown.ensures.holders both
    (c.in-Some.ensures.opened (OneReader w.holder w.epoch) (λ same. other-is-apart session.number w.holder c.requires.keeps.bound.watch.sound.holder
    (same ∙ c.other_number-holder.ensures)) c.requires.keeps.reader)
    in
    (both, inr refl, reads)

pub refuse_so-requires-clause-served : goal.refuse_so-requires-clause-served
refuse_so-requires-clause-served g c =
    coe 1 0 (i. IsServed (c.open_holder.ensures.opening i) (c.open_holder.ensures.number i) c.args.session.now.number
    c.args.size.now.shards) c.requires.served

pub refuse_so-requires-clause-holds : goal.refuse_so-requires-clause-holds
refuse_so-requires-clause-holds g c =
    let opening = g.P.CellCaller.opening in
    let number = g.P.CellCaller.number in
    let own = g.P.CellCaller.own in
    let before = c.args.caller.now in
    let session = c.args.session.now in
    let w = c.args.kept.now.watch in
    let mid = c.open_holder.new.caller in
    holds-on FitsShard CoreShardStands ShardAnswerSays (opening before) (number before) session.number (own before)
    (opening mid) (number mid) (own mid) (mode_of session.mode) c.open_holder.ensures.same c.requires.holds

pub returns-in-Ok-clause-holds : goal.returns-in-Ok-clause-holds
returns-in-Ok-clause-holds g c =
    let opening = g.P.CellCaller.opening in
    let number = g.P.CellCaller.number in
    let own = g.P.CellCaller.own in
    let before = c.args.caller.now in
    let session = c.args.session.now in
    let w = c.args.kept.now.watch in
    let mid = c.open_holder.new.caller in
    let then = c.follow_shown.new.caller in
    let end = c.close_holder.new.caller in
    let closed = c.close_holder.ensures in
    holds-on FitsShard CoreShardStands ShardAnswerSays (opening then) (number then) session.number (own then) (opening end)
    (number end) (own end) (mode_of session.mode) closed.same
    (holds-on FitsShard CoreShardStands ShardAnswerSays (opening mid) (number mid) session.number (own mid) (opening then)
    (number then) (own then) (mode_of session.mode) c.follow_shown.ensures.same
    (holds-on FitsShard CoreShardStands ShardAnswerSays (opening before) (number before) session.number (own before)
    (opening mid) (number mid) (own mid) (mode_of session.mode) c.open_holder.ensures.same c.requires.holds))

pub returns-in-Ok-clause-prefix : goal.returns-in-Ok-clause-prefix
returns-in-Ok-clause-prefix g c =
    let own = g.P.CellCaller.own in
    let mid = own c.open_holder.new.caller in
    let then = own c.follow_shown.new.caller in
    let end = own c.close_holder.new.caller in
    longer-front (own c.args.caller.now) mid end (_, sym c.in-Some.ensures.own)
    (longer-front mid then end c.follow_shown.ensures.left.more (_, sym c.close_holder.ensures.own))

pub returns-in-Ok-clause-keeps : goal.returns-in-Ok-clause-keeps
returns-in-Ok-clause-keeps g c =
    let opening = g.P.CellCaller.opening in
    let number = g.P.CellCaller.number in
    let own = g.P.CellCaller.own in
    let before = c.args.caller.now in
    let session = c.args.session.now in
    let w = c.args.kept.now.watch in
    let mid = c.open_holder.new.caller in
    let then = c.follow_shown.new.caller in
    let end = c.close_holder.new.caller in
    let closed = c.close_holder.ensures in
    let kept = c.args.kept.now in
    let holder = c.other_number-holder.result in
    let epoch = c.in-Some.epoch in
    let both = TwoReaders w.holder w.epoch holder epoch in
    let reads =
    c.follow_shown.ensures.holders both
    (c.in-Some.ensures.opened (OneReader w.holder w.epoch) (λ same. other-is-apart session.number w.holder c.requires.keeps.bound.watch.sound.holder
    (same ∙ c.other_number-holder.ensures)) c.requires.keeps.reader)
    in
    let at =
    still-shown (opening then) (opening end) (number then) (number end) session.number closed.opening closed.number (own then)
    (own end) (_, sym closed.own) holder epoch w.query.cube kept.cube kept.asked c.in-Ok.shown c.in-Ok.ensures.shown
    in
    let more =
    longer-front (own before) (own mid) (own end) (_, sym c.in-Some.ensures.own)
    (longer-front (own mid) (own then) (own end) c.follow_shown.ensures.left.more (_, sym closed.own))
    in
    keeps-shown (opening end) (opening end) (number end) (number end) refl refl session (own end) (own end) kept.asked kept.cube
    holder epoch w.query.cube c.in-Ok.shown (closed.older w.epoch holder epoch reads) at
    (still-watches (own before) (own end) kept.asked w.query.cube kept.cube more c.requires.keeps.watches)

pub returns-in-Ok-clause-ends : goal.returns-in-Ok-clause-ends
returns-in-Ok-clause-ends g c =
    let opening = g.P.CellCaller.opening in
    let number = g.P.CellCaller.number in
    let own = g.P.CellCaller.own in
    let before = c.args.caller.now in
    let session = c.args.session.now in
    let w = c.args.kept.now.watch in
    let mid = c.open_holder.new.caller in
    let then = c.follow_shown.new.caller in
    let end = c.close_holder.new.caller in
    let closed = c.close_holder.ensures in
    let kept = c.args.kept.now in
    let holder = c.other_number-holder.result in
    let epoch = c.in-Some.epoch in
    let first = c.open_holder.ensures in
    let next = c.follow_shown.ensures in
    let p = next.opening ∙ first.opening in
    let q = next.number ∙ first.number in
    let opened =
    left-both (opening before) (number before) session.number (own before) (own mid) (own then)
    (reader_opened session holder epoch ∷ []) []
    (left-opening (opening before) (number before) session.number c.requires.served.client holder session.statements (own before)
    (own mid) epoch c.in-Some.ensures.own)
    (left-plainly (opening before) (number before) session.number (own mid) (own then) []
    (coe 0 1 (i. LeavesOverShards (first.opening i) (first.number i) session.number (own mid) (own then) []) next.left))
    in
    let at =
    still-shown (opening then) (opening end) (number then) (number end) session.number closed.opening closed.number (own then)
    (own end) (_, sym closed.own) holder epoch w.query.cube kept.cube kept.asked c.in-Ok.shown c.in-Ok.ensures.shown
    in
    show-done (opening before) (opening end) (number before) (number end) (closed.opening ∙ p) (closed.number ∙ q) session
    (own before) (own end) (kept_on_record kept) kept.cube holder epoch w.query.cube c.in-Ok.shown c.other_number-holder.ensures
    (left-both (opening before) (number before) session.number (own before) (own then) (own end)
    (reader_opened session holder epoch ∷ []) (reader_closed session w.holder ∷ []) opened
    (coe 0 1 (i. LeavesByWatching (p i) (q i) session.number (own then) (own end) (reader_closed session w.holder ∷ []))
    (left-closing (opening then) (number then) session.number
    (coe 1 0 (i. IsClientOf FitsShard CoreShardStands ShardAnswerSays (p i) (q i) session.number) c.requires.served.client)
    w.holder session.statements (own then) (own end) closed.own)))
    at

pub returns-in-Err-clause-prefix : goal.returns-in-Err-clause-prefix
returns-in-Err-clause-prefix g c =
    let own = g.P.CellCaller.own in
    let mid = own c.open_holder.new.caller in
    let then = own c.follow_shown.new.caller in
    let now = own c.give_up.new.caller in
    longer-front (own c.args.caller.now) mid now (_, sym c.in-Some.ensures.own)
    (longer-front mid then now c.follow_shown.ensures.left.more c.give_up.ensures.prefix)

pub returns-in-Err-clause-keeps : goal.returns-in-Err-clause-keeps
returns-in-Err-clause-keeps g c =
    let opening = g.P.CellCaller.opening in
    let number = g.P.CellCaller.number in
    let own = g.P.CellCaller.own in
    let before = c.args.caller.now in
    let session = c.args.session.now in
    let w = c.args.kept.now.watch in
    let mid = c.open_holder.new.caller in
    let then = c.follow_shown.new.caller in
    let end = c.give_up.new.caller in
    let said = c.give_up.ensures in
    let first = c.open_holder.ensures in
    let next = c.follow_shown.ensures in
    let kept = c.args.kept.now in
    let holder = c.other_number-holder.result in
    let epoch = c.in-Some.epoch in
    let both = TwoReaders w.holder w.epoch holder epoch in
    let reads =
    c.follow_shown.ensures.holders both
    (c.in-Some.ensures.opened (OneReader w.holder w.epoch) (λ same. other-is-apart session.number w.holder c.requires.keeps.bound.watch.sound.holder
    (same ∙ c.other_number-holder.ensures)) c.requires.keeps.reader)
    in
    let more =
    longer-front (own before) (own mid) (own end) (_, sym c.in-Some.ensures.own)
    (longer-front (own mid) (own then) (own end) next.left.more said.prefix)
    in
    still-keeps (opening before) (opening end) (number before) (number end) session.number
    (said.opening ∙ next.opening ∙ first.opening) (said.number ∙ next.number ∙ first.number) (own before) (own end) more kept
    (said.newer w.holder w.epoch epoch reads) c.requires.keeps

pub returns-in-Err-clause-ends : goal.returns-in-Err-clause-ends
returns-in-Err-clause-ends g c =
    let opening = g.P.CellCaller.opening in
    let number = g.P.CellCaller.number in
    let own = g.P.CellCaller.own in
    let before = c.args.caller.now in
    let session = c.args.session.now in
    let w = c.args.kept.now.watch in
    let mid = c.open_holder.new.caller in
    let then = c.follow_shown.new.caller in
    let kept = c.args.kept.now in
    let holder = c.other_number-holder.result in
    let epoch = c.in-Some.epoch in
    let first = c.open_holder.ensures in
    let next = c.follow_shown.ensures in
    let p = next.opening ∙ first.opening in
    let q = next.number ∙ first.number in
    let opened =
    left-both (opening before) (number before) session.number (own before) (own mid) (own then)
    (reader_opened session holder epoch ∷ []) []
    (left-opening (opening before) (number before) session.number c.requires.served.client holder session.statements (own before)
    (own mid) epoch c.in-Some.ensures.own)
    (left-plainly (opening before) (number before) session.number (own mid) (own then) []
    (coe 0 1 (i. LeavesOverShards (first.opening i) (first.number i) session.number (own mid) (own then) []) next.left))
    in
    let now = own c.give_up.new.caller in
    let closing = reader_closed session holder ∷ no_memory_entry session ∷ [] in
    show-given-up (opening before) (number before) session (own before) now (kept_on_record kept) kept.cube epoch
    c.give_up.result
    (subst (λ (h : ℕ). IfReplied c.give_up.result (IsRefusedSo (opening before) (number before) session.number (own before) now
    (given_up session h epoch) cause.NoMemory)) c.other_number-holder.ensures
    (then-refused-so (opening before) (number before) session.number (own before) (own then) now
    (reader_opened session holder epoch ∷ []) closing cause.NoMemory c.give_up.result opened
    (coe 0 1 (i. IfReplied c.give_up.result (IsRefusedSo (p i) (q i) session.number (own then) now closing cause.NoMemory))
    c.give_up.ensures.refused)))

pub returns-in-None-clause-prefix : goal.returns-in-None-clause-prefix
returns-in-None-clause-prefix g c =
    let own = g.P.CellCaller.own in
    longer-front (own c.args.caller.now) (own c.open_holder.new.caller) (own c.refuse_so.new.caller)
    (_, sym c.in-None.ensures.own) c.refuse_so.ensures.prefix

pub returns-in-None-clause-keeps : goal.returns-in-None-clause-keeps
returns-in-None-clause-keeps g c =
    let opening = g.P.CellCaller.opening in
    let number = g.P.CellCaller.number in
    let own = g.P.CellCaller.own in
    let before = c.args.caller.now in
    let session = c.args.session.now in
    let w = c.args.kept.now.watch in
    let mid = c.open_holder.new.caller in
    let kept = c.args.kept.now in
    let end = c.refuse_so.new.caller in
    let said = c.refuse_so.ensures in
    let first = c.open_holder.ensures in
    let one = OneReader w.holder w.epoch in
    still-keeps (opening before) (opening end) (number before) (number end) session.number (said.opening ∙ first.opening)
    (said.number ∙ first.number) (own before) (own end)
    (longer-front (own before) (own mid) (own end) (_, sym c.in-None.ensures.own) said.prefix) kept
    (said.holders one (c.in-None.ensures.none one c.requires.keeps.reader)) c.requires.keeps

pub returns-in-None-clause-ends : goal.returns-in-None-clause-ends
returns-in-None-clause-ends g c =
    let opening = g.P.CellCaller.opening in
    let number = g.P.CellCaller.number in
    let own = g.P.CellCaller.own in
    let before = c.args.caller.now in
    let session = c.args.session.now in
    let w = c.args.kept.now.watch in
    let mid = c.open_holder.new.caller in
    let kept = c.args.kept.now in
    let now = own c.refuse_so.new.caller in
    let first = c.open_holder.ensures in
    show-unread (opening before) (number before) session (own before) now (kept_on_record kept) kept.cube c.refuse_so.result
    (then-refused-so (opening before) (number before) session.number (own before) (own mid) now [] (no_memory_entry session ∷ [])
    cause.NoMemory c.refuse_so.result
    (left-unopened (opening before) (number before) session.number c.requires.served.client c.other_number-holder.result
    session.statements (own before) (own mid) c.in-None.ensures.own)
    (coe 0 1 (i. IfReplied c.refuse_so.result (IsRefusedSo (first.opening i) (first.number i) session.number (own mid) now
    (no_memory_entry session ∷ []) cause.NoMemory)) c.refuse_so.ensures.refused))
