use Rattle.std.proofs.Common.{[], refl, arith}
use Rattle.core_steps.proofs.begins.sessions_begin_on_a_core.Goals as goal

pub returns : goal.returns
returns c = λ cells session of some le.
    let known = c.an_opened_core_knows_its_callers.ensures in
    record {
      on_core = record {
        client = known.client of.kept 2 3 session cells of.over of.opens le;
        by_number = known.session of.kept 2 3 session cells of.over some le;
        mails = known.mails of.kept 2 3 session cells of.over (omega (arith, le));
        flush_mail = known.mail of.kept 2 3 2 cells of.over (omega arith);
        flush_serves = known.serves of.kept 2 3 session 2 cells of.over le;
        storable = c.an_opened_core_knows_its_cubes.ensures of.kept 2 3 cells of.by_file of.over;
      };
      holds = c.sessions_begin_with_nothing.ensures cells session session;
      history = record {
        log = [];
        run = record { fitting = tt; leads = λ k x at. (x, refl) };
        mine = refl;
      };
    }
