use Rattle.std.proofs.Common.{[], ◌∷◌}
use Rattle.core_watches.proofs.RefusedSo.{holders-either, prefix-either, refused-so}
use Rattle.cube_journal.specs.Refusals.{code}
use Rattle.cube_journal.specs.declared.journal_entry.JournalEntry.TheVariants as entry
use Rattle.core_watches.proofs.refusing.refuse_so.Goals as goal

pub refuse_plainly-requires-clause-client : goal.refuse_plainly-requires-clause-client
refuse_plainly-requires-clause-client g c = c.requires.served.client

pub refuse_plainly-requires-clause-session : goal.refuse_plainly-requires-clause-session
refuse_plainly-requires-clause-session g c = c.requires.served.is_session

pub returns-clause-prefix : goal.returns-clause-prefix
returns-clause-prefix g c =
    let before = c.args.caller.now in
    let after = c.refuse_plainly.new.caller in
    let session = c.args.session.now in
    prefix-either (g.P.CellCaller.opening before) (g.P.CellCaller.number before) session.number (g.P.CellCaller.own before)
    (g.P.CellCaller.own after) (entry.Refused session.number session.statements (code c.args.refusal) ∷ [])
    c.refuse_plainly.result c.refuse_plainly.ensures.left c.refuse_plainly.ensures.stopped

pub returns-clause-holders : goal.returns-clause-holders
returns-clause-holders g c =
    let before = c.args.caller.now in
    let after = c.refuse_plainly.new.caller in
    let session = c.args.session.now in
    holders-either (g.P.CellCaller.opening before) (g.P.CellCaller.number before) session.number (g.P.CellCaller.own before)
    (g.P.CellCaller.own after) (entry.Refused session.number session.statements (code c.args.refusal) ∷ [])
    (g.P.CellCaller.opening after) (g.P.CellCaller.number after) c.refuse_plainly.ensures.opening c.refuse_plainly.ensures.number
    c.refuse_plainly.result c.refuse_plainly.ensures.left c.refuse_plainly.ensures.stopped

pub returns-clause-refused : goal.returns-clause-refused
returns-clause-refused g c =
    let before = c.args.caller.now in
    let after = c.refuse_plainly.new.caller in
    let session = c.args.session.now in
    refused-so (g.P.CellCaller.opening before) (g.P.CellCaller.number before) session.number (g.P.CellCaller.own before)
    (g.P.CellCaller.own after) (entry.Refused session.number session.statements (code c.args.refusal) ∷ []) c.args.refusal
    c.refuse_plainly.result c.refuse_plainly.ensures.said c.refuse_plainly.ensures.left
