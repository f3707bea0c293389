use Rattle.opened_callers.proofs.ToldSizes.{client-is, flusher-client, flusher-is, mail-is, mails-are, serves-low, session-is, worker-is}
use Rattle.opened_callers.proofs.law.an_opened_core_knows_its_callers.Goals as goal

pub returns-clause-client : goal.returns-clause-client
returns-clause-client c = λ kept shards sessions caller cells over opened le. client-is kept shards sessions cells over opened caller le

pub returns-clause-worker : goal.returns-clause-worker
returns-clause-worker c = λ kept shards sessions number cells over opened lt. worker-is kept shards sessions cells over opened number lt

pub returns-clause-flusher : goal.returns-clause-flusher
returns-clause-flusher c = λ kept shards sessions cells over opened. flusher-is kept shards sessions cells over opened

pub returns-clause-mail : goal.returns-clause-mail
returns-clause-mail c = λ kept shards sessions number cells over le. mail-is kept shards sessions cells over number le

pub returns-clause-mails : goal.returns-clause-mails
returns-clause-mails c = λ kept shards sessions client cells over le. mails-are kept shards sessions cells over client le

pub returns-clause-serves : goal.returns-clause-serves
returns-clause-serves c = λ kept shards sessions client number cells over le. serves-low kept shards sessions cells over client number le

pub returns-clause-flusher_client : goal.returns-clause-flusher_client
returns-clause-flusher_client c = λ kept shards sessions cells over opened. flusher-client kept shards sessions cells over opened

pub returns-clause-session : goal.returns-clause-session
returns-clause-session c = λ kept shards sessions session cells over some le.
    session-is kept shards sessions cells over session some le
