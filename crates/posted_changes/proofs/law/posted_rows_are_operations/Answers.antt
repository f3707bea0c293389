use Rattle.posted_changes.proofs.LearnedPosts.{nothing-elsewhere, posts-learned, rows-learned}
use Rattle.posted_changes.proofs.law.posted_rows_are_operations.Goals as goal

pub returns-clause-rows : goal.returns-clause-rows
returns-clause-rows c = λ cells caller session shards cube epoch shape rows told own now learns.
    rows-learned cells caller session shards cube epoch shape rows told own now learns

pub returns-clause-epoch : goal.returns-clause-epoch
returns-clause-epoch c = λ cells caller session shards cube epoch shape rows told own now learns.
    nothing-elsewhere cells caller session shards cube epoch shape rows told own now learns

pub returns-clause-posts : goal.returns-clause-posts
returns-clause-posts c = λ cells caller session shards cube epoch shape rows own now learns.
    posts-learned cells caller session shards cube epoch shape rows own now learns
