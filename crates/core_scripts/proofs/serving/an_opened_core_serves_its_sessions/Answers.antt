use Rattle.std.proofs.Common.{arith}
use Rattle.core_scripts.proofs.serving.an_opened_core_serves_its_sessions.Goals as goal

pub returns-clause-served : goal.returns-clause-served
returns-clause-served c = λ kept shards sessions session cells by_file over opens some first last.
    let knows = c.an_opened_core_knows_its_callers.ensures in
    record {
      some = some;
      client = knows.client kept shards sessions session cells over opens last;
      is_session = knows.session kept shards sessions session cells over first last;
      mails = knows.mails kept shards sessions session cells over (omega (arith, last));
      flush_mail = knows.mail kept shards sessions shards cells over (omega arith);
      flush_serves = knows.serves kept shards sessions session shards cells over last;
      storable = c.an_opened_core_knows_its_cubes.ensures kept shards sessions cells by_file over;
      named = λ o log run opened are is_run.
          c.an_opened_core_has_its_dictionaries.ensures kept shards sessions cells by_file over o log run opened are is_run;
    }

pub returns-clause-rows : goal.returns-clause-rows
returns-clause-rows c = λ kept shards sessions cells by_file over o log opened cube.
    c.an_opened_core_has_the_kept_rows.ensures.rows kept shards sessions cells by_file over o log opened cube
