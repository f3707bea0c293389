use Rattle.core_agreements.proofs.PostsLeave.{posts-leave}
use Rattle.core_agreements.proofs.law.posts_leave_what_operations_leave.Goals as goal

pub returns : goal.returns
returns c = posts-leave
