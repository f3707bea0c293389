use Rattle.std.proofs.Common.{◌+◌, [], ◌∷◌, refl, arith}
use Rattle.core_states.proofs.Refused.{either-more, either-plain, if-refused, refuses-memory}
use Rattle.core_states.specs.ExecutedInCore.{ExecutesInCore}
use Rattle.cube_journal.specs.Refusals.{code}
use Rattle.cube_journal.specs.declared.journal_entry.JournalEntry.TheVariants as entry
use Rattle.cube_journal.specs.declared.refusal.Refusal.TheVariants as refusal
use Rattle.cube_journal.specs.declared.reply.Reply.{Reply}
use Rattle.cube_run.specs.RunRecords.{Sentence}
use Rattle.core_states.proofs.Refused.{counted}
use Rattle.core_states.proofs.refusals.refuse_memory.Goals as goal

pub returns-clause-executed : goal.returns-clause-executed
returns-clause-executed g c =
    let session = c.args.session.now in
    let own = (g.P.CellCaller.own c.args.caller.now) in
    let now = g.P.CellCaller.own c.refuse_plainly.new.caller in
    if-refused g.S.LinkedShard.fits g.S.LinkedShard.stands g.S.LinkedShard.says (g.P.CellCaller.opening c.args.caller.now) (g.P.CellCaller.number c.args.caller.now) session own now
    c.refuse_plainly.result (refusal.NoMemory)
    (λ (said : Reply). (sentence : Sentence)
    → ExecutesInCore g.S.LinkedShard.fits g.S.LinkedShard.stands g.S.LinkedShard.says (g.P.CellCaller.opening c.args.caller.now) (g.P.CellCaller.number c.args.caller.now) sentence
    session own (counted session) now said)
    c.refuse_plainly.ensures.said c.refuse_plainly.ensures.left
    (λ left sentence. refuses-memory g.S.LinkedShard.fits g.S.LinkedShard.stands g.S.LinkedShard.says (g.P.CellCaller.opening c.args.caller.now) (g.P.CellCaller.number c.args.caller.now) session own now sentence left)

pub returns-clause-more : goal.returns-clause-more
returns-clause-more g c =
    let few = c.requires.counted in
    record { number = refl; statements = refl; every = refl; counted = omega (arith, few) }

pub returns-clause-plain : goal.returns-clause-plain
returns-clause-plain g c =
    either-plain g.S.LinkedShard.fits g.S.LinkedShard.stands g.S.LinkedShard.says (g.P.CellCaller.opening c.args.caller.now) (g.P.CellCaller.number c.args.caller.now)
    c.args.session.now.number (g.P.CellCaller.own c.args.caller.now) (g.P.CellCaller.own c.refuse_plainly.new.caller)
    (entry.Refused c.args.session.now.number (c.args.session.now.statements + 1) (code (refusal.NoMemory)) ∷ [])
    c.refuse_plainly.result c.refuse_plainly.ensures.left c.refuse_plainly.ensures.stopped

pub returns-clause-goes_on : goal.returns-clause-goes_on
returns-clause-goes_on g c =
    either-more g.S.LinkedShard.fits g.S.LinkedShard.stands g.S.LinkedShard.says (g.P.CellCaller.opening c.args.caller.now) (g.P.CellCaller.number c.args.caller.now)
    c.args.session.now.number (g.P.CellCaller.own c.args.caller.now) (g.P.CellCaller.own c.refuse_plainly.new.caller)
    (entry.Refused c.args.session.now.number (c.args.session.now.statements + 1) (code (refusal.NoMemory)) ∷ [])
    c.refuse_plainly.result c.refuse_plainly.ensures.left c.refuse_plainly.ensures.stopped
