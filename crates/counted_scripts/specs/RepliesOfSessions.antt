-- The replies of a session among those of all.
-- Source: this project's own.
use Rattle.std.specs.Prelude.{ℕ, ◌-◌, List, [], slice_get, unwrap_or}
use Rattle.cube_journal.specs.declared.reply.Reply.{Reply}

-- The replies to the statements of a session, counted from 1.
abbrev pub replies_of_session : List (List Reply) → ℕ → List Reply
replies_of_session replies session = unwrap_or (slice_get replies (session - 1)) []
