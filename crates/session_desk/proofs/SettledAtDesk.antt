-- What comes of the epochs before the session's next change is settled.
use Rattle.std.proofs.Common.{◌≡◌, ℕ, ◌≤◌, true, List, sym, subst, arith}
use Rattle.std.specs.List.{AllByRecursion}
use Rattle.cube_journal.specs.Counters.{JournalState, journal_state}
use Rattle.cube_journal.specs.declared.counters.OpenSnapshot.{OpenSnapshot}
use Rattle.cube_run.specs.SessionStates.{Mode, Idle, Open, Aborted}
use Rattle.one_session.specs.Behind.{IsSettled}
use Rattle.one_session.specs.Pasts.{Beginning, SessionPast}
use Rattle.aosi_desk.specs.State.{state_of}
use Rattle.session_replies.specs.Modes.{mode_of}
use Rattle.session_desk.specs.AtDesk.{IsServing, change_epoch}
use Rattle.session_desk.specs.Standing.{StandsBehind, World}

abbrev WritesFrom : ℕ → List OpenSnapshot → Type 0
WritesFrom bound os = AllByRecursion (λ (o : OpenSnapshot). o.snapshot.own ≡ true → bound ≤ o.snapshot.epoch) os

settled : (s : JournalState) (safe : ℕ) (mode : Mode) → IsServing s safe mode
    → IsSettled s mode (change_epoch s mode)
settled s safe Idle h = record {
  next = omega arith;
  writers = subst (WritesFrom s.ec) (sym h.snapshots) tt;
  mode_is = tt;
}
settled s safe (Open writer) h =
    let last = h.writer.last in
    record {
      next = omega (arith, last);
      writers = subst (WritesFrom writer.epoch) (sym h.snapshots) ((λ own. omega arith), tt);
      mode_is = omega arith;
    }
settled s safe (Aborted epoch) h = record {
  next = omega arith;
  writers = subst (WritesFrom s.ec) (sym h.snapshots) tt;
  mode_is = tt;
}

pub settled_at_desk : (beginning : Beginning) (past : SessionPast) (now : World) (safe : ℕ)
    → StandsBehind beginning past now
    → IsServing (state_of now.desk.register) safe (mode_of now.session.mode)
    → IsSettled (journal_state beginning.safe past.journal) (mode_of now.session.mode)
    (change_epoch (state_of now.desk.register) (mode_of now.session.mode))
settled_at_desk beginning past now safe h serving =
    subst (λ (s : JournalState). IsSettled s (mode_of now.session.mode)
    (change_epoch (state_of now.desk.register) (mode_of now.session.mode)))
    (λ i. journal_state (h.safe i) (h.journal i))
    (settled (state_of now.desk.register) safe (mode_of now.session.mode) serving)
