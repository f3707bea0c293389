use Rattle.session_batches.proofs.GoneOut.{none-to-fetch}
use Rattle.session_batches.proofs.rows_out.RowsOut.none.Goals as goal

pub returns-clause-fetched : goal.returns-clause-fetched
returns-clause-fetched c = λ shards. none-to-fetch shards (record { shards = c.new.result; answers = c.new-2.result }) c.new.ensures.items c.new-2.ensures.items
