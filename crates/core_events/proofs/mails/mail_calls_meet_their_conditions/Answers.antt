use Rattle.core_events.proofs.MayMails.{may-post, may-reply}
use Rattle.core_events.proofs.mails.mail_calls_meet_their_conditions.Goals as goal

pub returns-clause-posts : goal.returns-clause-posts
returns-clause-posts c = may-post

pub returns-clause-replies : goal.returns-clause-replies
returns-clause-replies c = may-reply
