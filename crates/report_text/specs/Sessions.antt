-- The replies of sessions.
-- Source: this project's own.
use Rattle.std.specs.Prelude.{◌≤◌, List, length}
use Rattle.std.specs.Global.{Vec}
use Rattle.cube_language.specs.declared.piece.TheConstants.{MOST_STATEMENTS}
use Rattle.cube_journal.specs.declared.reply.Reply.{Reply}

-- The replies to the statements of one session.
abbrev pub replies_of : Vec Reply → List Reply
replies_of replies = replies.items

-- There are no more of them than a script can have statements.
abbrev pub HasFewReplies : Vec Reply → Type 0
HasFewReplies replies = length replies.items ≤ MOST_STATEMENTS
