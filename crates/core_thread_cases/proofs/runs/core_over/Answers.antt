use Rattle.std.proofs.Common.{◌+◌, List, slice_index_or, refl, sym, subst, arith}
use Rattle.core_events.specs.Clients.{calls_of}
use Rattle.core_events.specs.Events.{CoreEvent}
use Rattle.core_program.specs.declared.size.CoreSize.{CoreSize}
use Rattle.flush_loop.specs.PlainRounds.{HasLostNone}
use Rattle.core_thread_cases.specs.Sessions.{MayAskRounds}
use Rattle.core_thread_cases.proofs.runs.core_over.Goals as goal

pub returns-in-Ok : goal.returns-in-Ok
returns-in-Ok c =
    let kept = c.args.kept.now in let size = c.args.size in let cells = c.in-Ok.cells.items in
    let over = c.in-Ok.ensures.cells in let opens = c.in-Ok.ensures.opens in
    let e = c.an_opened_core_knows_its_callers.ensures in
    record {
      some = c.requires.some_shards;
      opened = record { kept = kept; over = over; opens = opens };
      as_many = c.requires.long;
      begin = λ k d lt. (
        sym (c.requires.numbers k d lt),
        subst (λ (s : CoreSize). MayAskRounds s.shards s.sessions (size.sessions + 2 + size.shards) cells
            (slice_index_or c.args.sessions.items k d).session)
            (sym (c.requires.sizes k d lt))
            (subst (λ n. MayAskRounds size.shards size.sessions (size.sessions + 2 + size.shards) cells n)
            (sym (c.requires.numbers k d lt))
            (record {
              all = omega arith;
              client = e.client kept size.shards size.sessions (1 + k) cells over opens (omega (arith, lt));
              session = e.session kept size.shards size.sessions (1 + k) cells over (omega arith) (omega (arith, lt));
              mail = e.mail kept size.shards size.sessions size.shards cells over (omega arith);
              serves = e.serves kept size.shards size.sessions (1 + k) size.shards cells over (omega (arith, lt));
            })),
      );
      keeps = record {
        serves_core = tt;
        kept = record {
          kept = kept;
          in_runs = λ o log run es later are.
              subst (λ (l : List CoreEvent). HasLostNone o (calls_of (size.sessions + 1) l)) are refl;
        };
      };
    }
