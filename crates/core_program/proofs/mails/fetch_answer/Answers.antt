use Rattle.std.proofs.Common.{◌∙◌, ◌+◌, ℕ, [], ◌∷◌, ◌++◌, ap}
use Rattle.mail_cell.specs.declared.answer.Fetched.TheVariants.{Got, NotYet}
use Rattle.core_program.proofs.Waiting.{learns-it, waits-on}
use Rattle.core_program.specs.ClientCalls.{ask_entry}
use Rattle.core_program.specs.Knowing.{Knows, MayFetchFrom}
use Rattle.core_program.proofs.mails.fetch_answer.Goals as goal

pub ask_for_answer-requires-clause-may : goal.ask_for_answer-requires-clause-may
ask_for_answer-requires-clause-may g c =
    let held = c.asks.invariant in
    coe 1 0 (i. Knows g.S.LinkedShard.fits g.S.LinkedShard.stands g.S.LinkedShard.says (held.1 i) (held.2 i) c.args.client
    (g.P.CellCaller.own c.asks.caller) (MayFetchFrom c.args.client c.args.number)) held.4.knows

pub asks-preserved : goal.asks-preserved
asks-preserved g c =
    let held = c.asks.invariant in
    let asked = c.in-NotYet.ensures in
    let own = g.P.CellCaller.own in
    let cells = g.P.CellCaller.opening c.args.caller.now in
    let caller = g.P.CellCaller.number c.args.caller.now in
    let cell = 2 + c.args.size.now.shards + c.args.number in (
      asked.board,
      asked.opening ∙ held.1,
      asked.number ∙ held.2,
      asked.others ∙ held.3,
      waits-on g.S.LinkedShard.fits g.S.LinkedShard.stands g.S.LinkedShard.says cells caller c.args.client c.args.number cell (own c.args.caller.now)
          (own c.asks.caller) (own c.ask_for_answer.new.caller) held.4
          (asked.own ∙ ap (λ (n : ℕ). own c.asks.caller ++ ask_entry n c.args.client cell NotYet ∷ []) held.2)
          (λ o log es opens are. c.clients_learn_by_each_call.ensures.waiting cells caller c.args.client c.args.number cell (own c.asks.caller) o log es
          c.requires.client c.requires.mail opens are),
    )

pub returns-in-Got-clause-learns : goal.returns-in-Got-clause-learns
returns-in-Got-clause-learns g c =
    let held = c.asks.invariant in
    let asked = c.in-Got.ensures in
    let own = g.P.CellCaller.own in
    let cells = g.P.CellCaller.opening c.args.caller.now in
    let caller = g.P.CellCaller.number c.args.caller.now in
    let cell = 2 + c.args.size.now.shards + c.args.number in
    learns-it g.S.LinkedShard.fits g.S.LinkedShard.stands g.S.LinkedShard.says cells caller c.args.client c.args.number cell (own c.args.caller.now)
    (own c.asks.caller) (own c.ask_for_answer.new.caller) c.in-Got.said held.4
    (asked.own ∙ ap (λ (n : ℕ). own c.asks.caller ++ ask_entry n c.args.client cell (Got c.in-Got.said) ∷ []) held.2)
    (λ o log es opens are. c.clients_learn_by_each_call.ensures.fetch cells caller c.args.client c.args.number cell (own c.asks.caller) c.in-Got.said o log es
    c.requires.client c.requires.mail opens are)
