use Rattle.std.proofs.Common.{ℕ, [], ◌∷◌, ◌∙◌, inl, refl, sym, subst}
use Rattle.core_watches.proofs.WatchingLeaves.{left-both, left-opening, left-plainly, left-unopened}
use Rattle.core_watches.specs.WatchEnds.{given_up, no_memory_entry, reader_closed, reader_opened}
use Rattle.core_states.proofs.Holding.{held_for, holds-on, ready-for-mode}
use Rattle.core_states.proofs.LeftCalls.{longer-front}
use Rattle.core_watches.proofs.Ends.{keeps-shown, watch-begun, watch-given-up, watch-unread, watches-told}
use Rattle.core_watches.proofs.KeptOn.{still-told}
use Rattle.core_watches.proofs.RefusedSo.{then-refused-so}
use Rattle.core_watches.specs.KeptWatches.{IsRefusedSo}
use Rattle.cube_journal.specs.declared.refusal.Refusal.TheVariants as cause
use Rattle.linked_shards.specs.CellShards.{CoreShardStands}
use Rattle.scripted_pasts.specs.Served.{IsServed}
use Rattle.session_desk.specs.Executed.{IfReplied}
use Rattle.session_replies.specs.Modes.{mode_of}
use Rattle.session_watches.proofs.KeptHolders.{leading-held}
use Rattle.shard_events.specs.ShardsInRuns.{FitsShard, ShardAnswerSays}
use Rattle.shard_statements.specs.OverShards.{LeavesOverShards}
use Rattle.watch_holds.specs.HolderStates.{LeadingReader, NoReader}
use Rattle.watched_queries.proofs.WatchOutcomes.{few-session}
use Rattle.core_watches.proofs.watching.watch_fitting.Goals as goal

pub open_holder-requires-clause-client : goal.open_holder-requires-clause-client
open_holder-requires-clause-client g c = c.requires.served.client

pub open_holder-requires-clause-session : goal.open_holder-requires-clause-session
open_holder-requires-clause-session g c = c.requires.served.is_session

pub first_number-holder-requires : goal.first_number-holder-requires
first_number-holder-requires g c =
    few-session (g.P.CellCaller.opening c.args.caller.now) (g.P.CellCaller.number c.args.caller.now)
    c.args.session.now.number c.requires.served.client c.requires.served.is_session

pub open_holder-requires-clause-ready : goal.open_holder-requires-clause-ready
open_holder-requires-clause-ready g c =
    let mode = mode_of c.args.session.now.mode in
    let before = c.args.caller.now in (
      held_for mode,
      ready-for-mode FitsShard CoreShardStands ShardAnswerSays (g.P.CellCaller.opening before) (g.P.CellCaller.number before)
          c.args.session.now.number (g.P.CellCaller.own before) mode c.requires.holds,
    )

pub open_holder-requires-clause-holder : goal.open_holder-requires-clause-holder
open_holder-requires-clause-holder g c = inl c.first_number-holder.ensures

pub open_holder-requires-clause-free : goal.open_holder-requires-clause-free
open_holder-requires-clause-free g c = (NoReader, tt, c.requires.none)

pub begin_shown-requires-clause-served : goal.begin_shown-requires-clause-served
begin_shown-requires-clause-served g c =
    coe 1 0 (i. IsServed (c.open_holder.ensures.opening i) (c.open_holder.ensures.number i) c.args.session.now.number
    c.args.size.now.shards) c.requires.served

pub begin_shown-requires-clause-ready : goal.begin_shown-requires-clause-ready
begin_shown-requires-clause-ready g c =
    let mode = mode_of c.args.session.now.mode in
    let before = c.args.caller.now in (
      held_for mode,
      c.open_holder.ensures.same.ready (held_for mode)
          (ready-for-mode FitsShard CoreShardStands ShardAnswerSays (g.P.CellCaller.opening before)
          (g.P.CellCaller.number before) c.args.session.now.number (g.P.CellCaller.own before) mode c.requires.holds),
    )

pub begin_shown-requires-clause-holder : goal.begin_shown-requires-clause-holder
begin_shown-requires-clause-holder g c = inl c.first_number-holder.ensures

pub begin_shown-requires-clause-leads : goal.begin_shown-requires-clause-leads
begin_shown-requires-clause-leads g c = c.in-Some.ensures.opened NoReader tt c.requires.none

pub begin_shown-requires-clause-told : goal.begin_shown-requires-clause-told
begin_shown-requires-clause-told g c =
    let own = g.P.CellCaller.own in
    let told = c.requires.told in (
      told.0,
      still-told (own c.args.caller.now) (own c.open_holder.new.caller) told.0 c.args.place c.args.cube
          (_, sym c.in-Some.ensures.own) told.2,
    )

pub give_up-requires-clause-served : goal.give_up-requires-clause-served
give_up-requires-clause-served g c =
    let first = c.open_holder.ensures in
    let then = c.begin_shown.ensures in
    coe 1 0 (i. IsServed (then.opening i) (then.number i) c.args.session.now.number c.args.size.now.shards)
    (coe 1 0 (i. IsServed (first.opening i) (first.number i) c.args.session.now.number c.args.size.now.shards)
    c.requires.served)

pub give_up-requires-clause-holds : goal.give_up-requires-clause-holds
give_up-requires-clause-holds g c =
    let opening = g.P.CellCaller.opening in
    let number = g.P.CellCaller.number in
    let own = g.P.CellCaller.own in
    let before = c.args.caller.now in
    let mid = c.open_holder.new.caller in
    let then = c.begin_shown.new.caller in
    let session = c.args.session.now in
    holds-on FitsShard CoreShardStands ShardAnswerSays (opening mid) (number mid) session.number (own mid) (opening then)
    (number then) (own then) (mode_of session.mode) c.begin_shown.ensures.same
    (holds-on FitsShard CoreShardStands ShardAnswerSays (opening before) (number before) session.number (own before)
    (opening mid) (number mid) (own mid) (mode_of session.mode) c.open_holder.ensures.same c.requires.holds)

pub give_up-requires-clause-holder : goal.give_up-requires-clause-holder
give_up-requires-clause-holder g c = inl c.first_number-holder.ensures

pub give_up-requires-clause-reads : goal.give_up-requires-clause-reads
give_up-requires-clause-reads g c =
    let leads = LeadingReader c.first_number-holder.result c.in-Some.epoch in
    (leads, refl, c.begin_shown.ensures.holders leads (c.in-Some.ensures.opened NoReader tt c.requires.none))

pub refuse_so-requires-clause-served : goal.refuse_so-requires-clause-served
refuse_so-requires-clause-served g c =
    coe 1 0 (i. IsServed (c.open_holder.ensures.opening i) (c.open_holder.ensures.number i) c.args.session.now.number
    c.args.size.now.shards) c.requires.served

pub refuse_so-requires-clause-holds : goal.refuse_so-requires-clause-holds
refuse_so-requires-clause-holds g c =
    let opening = g.P.CellCaller.opening in
    let number = g.P.CellCaller.number in
    let own = g.P.CellCaller.own in
    let before = c.args.caller.now in
    let mid = c.open_holder.new.caller in
    let session = c.args.session.now in
    holds-on FitsShard CoreShardStands ShardAnswerSays (opening before) (number before) session.number (own before)
    (opening mid) (number mid) (own mid) (mode_of session.mode) c.open_holder.ensures.same c.requires.holds

pub returns-in-Ok-clause-holds : goal.returns-in-Ok-clause-holds
returns-in-Ok-clause-holds g c =
    let opening = g.P.CellCaller.opening in
    let number = g.P.CellCaller.number in
    let own = g.P.CellCaller.own in
    let before = c.args.caller.now in
    let mid = c.open_holder.new.caller in
    let then = c.begin_shown.new.caller in
    let session = c.args.session.now in
    holds-on FitsShard CoreShardStands ShardAnswerSays (opening mid) (number mid) session.number (own mid) (opening then)
    (number then) (own then) (mode_of session.mode) c.begin_shown.ensures.same
    (holds-on FitsShard CoreShardStands ShardAnswerSays (opening before) (number before) session.number (own before)
    (opening mid) (number mid) (own mid) (mode_of session.mode) c.open_holder.ensures.same c.requires.holds)

pub returns-in-Ok-clause-prefix : goal.returns-in-Ok-clause-prefix
returns-in-Ok-clause-prefix g c =
    let own = g.P.CellCaller.own in
    longer-front (own c.args.caller.now) (own c.open_holder.new.caller) (own c.begin_shown.new.caller)
    (_, sym c.in-Some.ensures.own) c.begin_shown.ensures.left.more

pub returns-in-Ok-clause-kept : goal.returns-in-Ok-clause-kept
returns-in-Ok-clause-kept g c =
    let opening = g.P.CellCaller.opening in
    let number = g.P.CellCaller.number in
    let own = g.P.CellCaller.own in
    let before = c.args.caller.now in
    let then = c.begin_shown.new.caller in
    let session = c.args.session.now in
    let holder = c.first_number-holder.result in
    let epoch = c.in-Some.epoch in
    let more =
    longer-front (own before) (own c.open_holder.new.caller) (own then) (_, sym c.in-Some.ensures.own) c.begin_shown.ensures.left.more
    in
    keeps-shown (opening then) (opening then) (number then) (number then) refl refl session (own then) (own then)
    c.args.statement c.args.cube holder epoch c.args.place c.in-Ok.shown
    (leading-held FitsShard CoreShardStands ShardAnswerSays (opening then) (number then) session.number holder epoch (own then)
    (c.begin_shown.ensures.holders (LeadingReader holder epoch) (c.in-Some.ensures.opened NoReader tt c.requires.none)))
    c.in-Ok.ensures.shown
    (watches-told c.args.statement c.args.place c.args.cube (own before) (own then) more c.requires.form c.requires.fits
    c.requires.told)

pub returns-in-Ok-clause-done : goal.returns-in-Ok-clause-done
returns-in-Ok-clause-done g c =
    let opening = g.P.CellCaller.opening in
    let number = g.P.CellCaller.number in
    let own = g.P.CellCaller.own in
    let before = c.args.caller.now in
    let mid = c.open_holder.new.caller in
    let then = c.begin_shown.new.caller in
    let session = c.args.session.now in
    let holder = c.first_number-holder.result in
    let epoch = c.in-Some.epoch in
    let first = c.open_holder.ensures in
    let p = c.begin_shown.ensures.opening ∙ first.opening in
    let q = c.begin_shown.ensures.number ∙ first.number in
    watch-begun (opening before) (opening then) (number before) (number then) p q session (own before) (own then)
    c.args.statement c.args.cube holder epoch c.args.place c.in-Ok.shown c.requires.fits c.first_number-holder.ensures
    (left-both (opening before) (number before) session.number (own before) (own mid) (own then)
    (reader_opened session holder epoch ∷ []) []
    (left-opening (opening before) (number before) session.number c.requires.served.client holder session.statements (own before)
    (own mid) epoch c.in-Some.ensures.own)
    (left-plainly (opening before) (number before) session.number (own mid) (own then) []
    (coe 0 1 (i. LeavesOverShards (first.opening i) (first.number i) session.number (own mid) (own then) [])
    c.begin_shown.ensures.left)))
    c.in-Ok.ensures.shown

pub returns-in-Err-clause-prefix : goal.returns-in-Err-clause-prefix
returns-in-Err-clause-prefix g c =
    let own = g.P.CellCaller.own in
    let mid = own c.open_holder.new.caller in
    let then = own c.begin_shown.new.caller in
    let now = own c.give_up.new.caller in
    longer-front (own c.args.caller.now) mid now (_, sym c.in-Some.ensures.own)
    (longer-front mid then now c.begin_shown.ensures.left.more c.give_up.ensures.prefix)

pub returns-in-Err-clause-none : goal.returns-in-Err-clause-none
returns-in-Err-clause-none g c =
    let opening = g.P.CellCaller.opening in
    let number = g.P.CellCaller.number in
    let own = g.P.CellCaller.own in
    let then = c.begin_shown.new.caller in
    let holder = c.first_number-holder.result in
    let epoch = c.in-Some.epoch in
    c.give_up.ensures.last epoch
    (leading-held FitsShard CoreShardStands ShardAnswerSays (opening then) (number then) c.args.session.now.number holder epoch
    (own then)
    (c.begin_shown.ensures.holders (LeadingReader holder epoch) (c.in-Some.ensures.opened NoReader tt c.requires.none)))

pub returns-in-Err-clause-refused : goal.returns-in-Err-clause-refused
returns-in-Err-clause-refused g c =
    let opening = g.P.CellCaller.opening in
    let number = g.P.CellCaller.number in
    let own = g.P.CellCaller.own in
    let before = c.args.caller.now in
    let mid = c.open_holder.new.caller in
    let then = c.begin_shown.new.caller in
    let now = own c.give_up.new.caller in
    let session = c.args.session.now in
    let holder = c.first_number-holder.result in
    let epoch = c.in-Some.epoch in
    let first = c.open_holder.ensures in
    let p = c.begin_shown.ensures.opening ∙ first.opening in
    let q = c.begin_shown.ensures.number ∙ first.number in
    let closing = reader_closed session holder ∷ no_memory_entry session ∷ [] in
    watch-given-up (opening before) (number before) session (own before) now c.args.statement c.args.cube epoch
    c.give_up.result
    (subst (λ (h : ℕ). IfReplied c.give_up.result (IsRefusedSo (opening before) (number before) session.number (own before) now
    (given_up session h epoch) cause.NoMemory)) c.first_number-holder.ensures
    (then-refused-so (opening before) (number before) session.number (own before) (own then) now
    (reader_opened session holder epoch ∷ []) closing cause.NoMemory c.give_up.result
    (left-both (opening before) (number before) session.number (own before) (own mid) (own then)
    (reader_opened session holder epoch ∷ []) []
    (left-opening (opening before) (number before) session.number c.requires.served.client holder session.statements (own before)
    (own mid) epoch c.in-Some.ensures.own)
    (left-plainly (opening before) (number before) session.number (own mid) (own then) []
    (coe 0 1 (i. LeavesOverShards (first.opening i) (first.number i) session.number (own mid) (own then) [])
    c.begin_shown.ensures.left)))
    (coe 0 1 (i. IfReplied c.give_up.result (IsRefusedSo (p i) (q i) session.number (own then) now closing cause.NoMemory))
    c.give_up.ensures.refused)))

pub returns-in-None-clause-prefix : goal.returns-in-None-clause-prefix
returns-in-None-clause-prefix g c =
    let own = g.P.CellCaller.own in
    longer-front (own c.args.caller.now) (own c.open_holder.new.caller) (own c.refuse_so.new.caller)
    (_, sym c.in-None.ensures.own) c.refuse_so.ensures.prefix

pub returns-in-None-clause-none : goal.returns-in-None-clause-none
returns-in-None-clause-none g c = c.refuse_so.ensures.holders NoReader (c.in-None.ensures.none NoReader c.requires.none)

pub returns-in-None-clause-refused : goal.returns-in-None-clause-refused
returns-in-None-clause-refused g c =
    let opening = g.P.CellCaller.opening in
    let number = g.P.CellCaller.number in
    let own = g.P.CellCaller.own in
    let before = c.args.caller.now in
    let mid = c.open_holder.new.caller in
    let now = own c.refuse_so.new.caller in
    let session = c.args.session.now in
    let first = c.open_holder.ensures in
    watch-unread (opening before) (number before) session (own before) now c.args.statement c.args.cube c.refuse_so.result
    (then-refused-so (opening before) (number before) session.number (own before) (own mid) now [] (no_memory_entry session ∷ [])
    cause.NoMemory c.refuse_so.result
    (left-unopened (opening before) (number before) session.number c.requires.served.client c.first_number-holder.result
    session.statements (own before) (own mid) c.in-None.ensures.own)
    (coe 0 1 (i. IfReplied c.refuse_so.result (IsRefusedSo (first.opening i) (first.number i) session.number (own mid) now
    (no_memory_entry session ∷ []) cause.NoMemory)) c.refuse_so.ensures.refused))
