use Rattle.std.proofs.Common.{◌≡◌, ◌+◌, ◌++◌, drop, map}
use Rattle.cube_journal.specs.WholeText.{sessions_text}
use Rattle.report_text.specs.Sessions.{replies_of}
use Rattle.report_text.proofs.whole.put_sessions.Given as goal

abbrev pub invariant-sessions : goal.invariant-sessions
invariant-sessions l =
    l.out.items ++ sessions_text (l.first + l.i) (map replies_of (drop l.i l.sessions))
    ≡ l.fn.out.items ++ sessions_text l.first (map replies_of l.sessions)
