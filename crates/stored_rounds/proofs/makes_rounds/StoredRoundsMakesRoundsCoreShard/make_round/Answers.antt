use Rattle.std.proofs.Common.{◌+◌, [], ◌∷◌, refl}
use Rattle.stored_rounds.proofs.ClosedRounds.{ends-anyway}
use Rattle.stored_rounds.specs.OwnKnowledge.{IsRoundOfRuns}
use Rattle.stored_rounds.proofs.makes_rounds.StoredRoundsMakesRoundsCoreShard.make_round.Goals as goal

pub returns-clause-becomes : goal.returns-clause-becomes
returns-clause-becomes g c =
    let made = c.make_stored_round.ensures.ends in
    let now = c.make_stored_round.new.caller in
    record {
      steps = c.make_stored_round.new.self ∷ [];
      are = (
        record {
          result = c.make_stored_round.result;
          kept = made.0;
          ends = ends-anyway g.D.Disk.view
              (IsRoundOfRuns (g.P.CellCaller.opening now) (g.P.CellCaller.number now) (c.args.size.now.sessions + 1)
              (g.P.CellCaller.own now))
              c.make_stored_round.result made.0 c.args.self.now c.make_stored_round.new.self made.1;
        },
        refl,
      );
    }
