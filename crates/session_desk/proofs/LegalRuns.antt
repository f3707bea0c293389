-- The journal of a run that has ended is legal.
use Rattle.std.proofs.Common.{◌≡◌, ◌∙◌, List, sym, subst}
use Rattle.std.specs.Prelude.{map}
use Rattle.cube_journal.specs.Legal.{CubesAllowAll}
use Rattle.cube_journal.specs.declared.journal_entry.JournalEntry.{JournalEntry}
use Rattle.cube_run.specs.RunRecords.{IsLegalRun, RunRecord, name_of_entry}
use Rattle.cube_run.specs.SessionStates.{SessionState}
use Rattle.one_session.specs.Pasts.{Beginning, GoesOn, SessionPast}
use Rattle.aosi_desk.specs.Desks.{DeskState, decl_names}
use Rattle.session_desk.specs.Ended.{HasEnded}
use Rattle.session_desk.specs.Standing.{StandsBehind, World}
use Rattle.session_desk.proofs.Agreeing.{agree_then, none_agree}

pub legal_run : (beginning : Beginning) (past : SessionPast) (now : World) (state : SessionState) (desk : DeskState)
    (run : RunRecord) → StandsBehind beginning past now → HasEnded beginning past state desk
    → GoesOn beginning past run → run.journal ≡ desk.register.journal → IsLegalRun run
legal_run beginning past now state desk run stands ended g is = record {
  by_counters = g.legal;
  by_cubes =
      subst (λ (es : List JournalEntry). CubesAllowAll (decl_names run.cubes) (map (name_of_entry run) es) es)
      (sym (is ∙ ended.journal))
      (agree_then run run.cubes now.desk.cubes now.desk.cubes past.journal ended.added (stands.agrees run g)
      (none_agree run now.desk.cubes ended.added ended.speaks_of_none)).allowed;
}
