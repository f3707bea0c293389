use Rattle.std.proofs.Common.{◌+◌, Bool, false, sym, subst}
use Rattle.core_events.specs.Cells.{Took}
use Rattle.core_events.specs.Jobs.{Flush}
use Rattle.core_program.specs.Flushing.{KnowsPart, MayReplyTo}
use Rattle.cube_core.specs.declared.jobs.JobAnswer.TheVariants as reply
use Rattle.flush_loop.proofs.ServedFlushes.{after-own-round, between-known, kept-by-reply, may-say, more-and-more, one-more, served-by-round}
use Rattle.flush_loop.specs.FlushTurns.{LearnsOfService}
use Rattle.flush_loop.specs.MadeRounds.{KnowsBetween}
use Rattle.flush_loop.specs.RoundResults.{loses_store}
use Rattle.flusher_mail.specs.FlusherMail.{HasFlush, HasNoFlush, LearnsOfReply, reply_entry}
use Rattle.flush_loop.proofs.service.make_asked_round.Goals as goal

pub make_round-ended-requires-clause-between : goal.make_round-ended-requires-clause-between
make_round-ended-requires-clause-between g c =
    between-known g.S.LinkedShard.fits g.S.LinkedShard.stands g.S.LinkedShard.says (g.P.CellCaller.opening c.args.caller.now)
    (g.P.CellCaller.number c.args.caller.now) (c.args.size.now.sessions + 1) c.args.size.now.shards c.requires.flusher (Took c.args.to Flush) false
    (g.P.CellCaller.own c.args.caller.now) c.requires.taken

pub reply_flush-requires-clause-may : goal.reply_flush-requires-clause-may
reply_flush-requires-clause-may g c =
    let F = g.S.LinkedShard.fits in
    let T = g.S.LinkedShard.stands in
    let A = g.S.LinkedShard.says in
    let cells = g.P.CellCaller.opening c.args.caller.now in
    let number = g.P.CellCaller.number c.args.caller.now in
    let client = c.args.size.now.sessions + 1 in
    let made = c.make_round-ended.ensures in
    let mid = g.P.CellCaller.own c.make_round-ended.new.caller in
    coe 1 0 (i. KnowsPart F T A (made.opening i) (made.number i) mid (MayReplyTo A c.args.to (reply.Flush (c.answer_to_flush.ensures i))))
    (may-say F T A cells number client c.args.size.now.shards c.requires.flusher c.make_round-ended.result (g.P.CellCaller.own c.args.caller.now) mid
    made.more made.learns
    (coe 0 1 (i. KnowsBetween F T A (made.opening i) (made.number i) client (loses_store c.make_round-ended.result) mid) made.between)
    c.args.to c.requires.taken)

pub returns-clause-more : goal.returns-clause-more
returns-clause-more g c =
    let own = g.P.CellCaller.own in
    let mid = c.make_round-ended.new.caller in
    let shards = c.args.size.now.shards in
    more-and-more (own c.args.caller.now) (own mid) (own c.reply_flush.new.caller) c.make_round-ended.ensures.more
    (one-more (own mid) (own c.reply_flush.new.caller)
    (reply_entry (g.P.CellCaller.number mid) (2 + shards + shards) c.args.to c.answer_to_flush.result) c.reply_flush.ensures.own)

pub returns-clause-learns : goal.returns-clause-learns
returns-clause-learns g c =
    let F = g.S.LinkedShard.fits in
    let T = g.S.LinkedShard.stands in
    let A = g.S.LinkedShard.says in
    let own = g.P.CellCaller.own in
    let cells = g.P.CellCaller.opening c.args.caller.now in
    let number = g.P.CellCaller.number c.args.caller.now in
    let shards = c.args.size.now.shards in
    let client = c.args.size.now.sessions + 1 in
    let made = c.make_round-ended.ensures in
    let mid = c.make_round-ended.new.caller in
    let ended = c.make_round-ended.result in
    subst (λ (b : Bool). LearnsOfService F T A cells number client shards false c.args.to b (own c.args.caller.now) (own c.reply_flush.new.caller))
    (sym c.has_lost_store.ensures)
    (served-by-round F T A cells number client shards c.requires.flusher ended (own c.args.caller.now) (own mid) made.more made.learns
    (coe 0 1 (i. KnowsBetween F T A (made.opening i) (made.number i) client (loses_store ended) (own mid)) made.between) c.args.to
    (own c.reply_flush.new.caller)
    (one-more (own mid) (own c.reply_flush.new.caller)
    (reply_entry (g.P.CellCaller.number mid) (2 + shards + shards) c.args.to c.answer_to_flush.result) c.reply_flush.ensures.own)
    (coe 0 1 (i. LearnsOfReply F T A (made.opening i) (made.number i) shards c.args.to (c.answer_to_flush.ensures i) (own mid)
    (own c.reply_flush.new.caller)) c.reply_flush.ensures.learns))

pub returns-clause-free : goal.returns-clause-free
returns-clause-free g c =
    let F = g.S.LinkedShard.fits in
    let T = g.S.LinkedShard.stands in
    let A = g.S.LinkedShard.says in
    let own = g.P.CellCaller.own in
    let now = c.reply_flush.new.caller in
    let shards = c.args.size.now.shards in
    let client = c.args.size.now.sessions + 1 in
    let made = c.make_round-ended.ensures in
    let mid = c.make_round-ended.new.caller in
    let ended = c.make_round-ended.result in
    subst (λ (b : Bool). KnowsPart F T A (g.P.CellCaller.opening now) (g.P.CellCaller.number now) (own now) (HasNoFlush b)) (sym c.has_lost_store.ensures)
    (c.reply_flush.ensures.after (loses_store ended)
    (coe 1 0 (i. KnowsPart F T A (made.opening i) (made.number i) (own mid) (HasFlush c.args.to (loses_store ended)))
    (after-own-round F T A (g.P.CellCaller.opening c.args.caller.now) (g.P.CellCaller.number c.args.caller.now) client shards c.requires.flusher ended
    (own c.args.caller.now) (own mid) made.more made.learns
    (coe 0 1 (i. KnowsBetween F T A (made.opening i) (made.number i) client (loses_store ended) (own mid)) made.between)
    (Took c.args.to Flush) c.requires.taken)))

pub returns-clause-kept : goal.returns-clause-kept
returns-clause-kept g c =
    let F = g.S.LinkedShard.fits in
    let T = g.S.LinkedShard.stands in
    let A = g.S.LinkedShard.says in
    let own = g.P.CellCaller.own in
    let first = c.args.caller.now in
    let mid = c.make_round-ended.new.caller in
    let now = c.reply_flush.new.caller in
    let shards = c.args.size.now.shards in
    let client = c.args.size.now.sessions + 1 in
    let made = c.make_round-ended.ensures in
    let did = c.reply_flush.ensures in
    λ begun held. kept-by-reply F T A (g.P.CellCaller.opening first) (g.P.CellCaller.number first) client shards c.args.to c.answer_to_flush.result
    (own mid) (own now) (g.M.MakesRounds.has_kept begun c.make_round-ended.new.self)
    (one-more (own mid) (own now) (reply_entry (g.P.CellCaller.number mid) (2 + shards + shards) c.args.to c.answer_to_flush.result) did.own)
    (coe 0 1 (i. LearnsOfReply F T A (made.opening i) (made.number i) shards c.args.to c.answer_to_flush.result (own mid) (own now)) did.learns)
    (made.kept begun held)
