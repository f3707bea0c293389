use Rattle.std.proofs.Common.{◌+◌, true}
use Rattle.cube_core.specs.declared.jobs.FlushAnswer.TheVariants as flush
use Rattle.flush_loop.proofs.ServedFlushes.{may-refuse, one-more, served-by-none}
use Rattle.flusher_mail.specs.FlusherMail.{reply_entry}
use Rattle.flush_loop.proofs.service.refuse_flush.Goals as goal

pub reply_flush-requires-clause-may : goal.reply_flush-requires-clause-may
reply_flush-requires-clause-may g c =
    may-refuse g.S.LinkedShard.fits g.S.LinkedShard.stands g.S.LinkedShard.says (g.P.CellCaller.opening c.args.caller.now)
    (g.P.CellCaller.number c.args.caller.now) (c.args.size.now.sessions + 1) c.args.size.now.shards c.args.to (g.P.CellCaller.own c.args.caller.now)
    c.requires.taken

pub returns-clause-more : goal.returns-clause-more
returns-clause-more g c =
    let shards = c.args.size.now.shards in
    one-more (g.P.CellCaller.own c.args.caller.now) (g.P.CellCaller.own c.reply_flush.new.caller)
    (reply_entry (g.P.CellCaller.number c.args.caller.now) (2 + shards + shards) c.args.to flush.StoreFailed) c.reply_flush.ensures.own

pub returns-clause-learns : goal.returns-clause-learns
returns-clause-learns g c =
    served-by-none g.S.LinkedShard.fits g.S.LinkedShard.stands g.S.LinkedShard.says (g.P.CellCaller.opening c.args.caller.now)
    (g.P.CellCaller.number c.args.caller.now) (c.args.size.now.sessions + 1) c.args.size.now.shards c.args.to (g.P.CellCaller.own c.args.caller.now)
    (g.P.CellCaller.own c.reply_flush.new.caller) c.reply_flush.ensures.learns

pub returns-clause-free : goal.returns-clause-free
returns-clause-free g c = c.reply_flush.ensures.after true c.requires.taken
