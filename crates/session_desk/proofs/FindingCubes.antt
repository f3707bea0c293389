-- A statement finds its cube in each run that goes on.
use Rattle.std.proofs.Common.{◌≡◌, ◌∙◌, ℕ, List, slice_get, Some, sym, subst}
use Rattle.cube_language.specs.declared.decl.Decl.{Decl}
use Rattle.cube_language.specs.declared.statement.Statement.{Statement}
use Rattle.cube_journal.specs.declared.journal_entry.JournalEntry.{JournalEntry}
use Rattle.cube_run.specs.RunRecords.{RunRecord, Says, cube_called, cube_needed, cubes_at}
use Rattle.cube_run.specs.SessionSteps.{journal_before}
use Rattle.std.specs.Prelude.{IsSome}
use Rattle.condition_spans.specs.Codes.{lists_at}
use Rattle.one_session.specs.Behind.{cubes_behind, last_step}
use Rattle.one_session.specs.Changes.{AreNamedApart}
use Rattle.one_session.specs.Pasts.{Beginning, GoesOn, IsOneMore, SessionPast}
use Rattle.one_session.proofs.Backwards.{goes_on_before}
use Rattle.one_session.proofs.Befores.{cube_stands}
use Rattle.one_session.proofs.CubesBehind.{cubes_stay}
use Rattle.one_session.proofs.Declared.{declaration_stays, names_stay}
use Rattle.one_session.proofs.Entries.{longer_by_one}
use Rattle.session_replies.specs.RowSteps.{IsOnCube, final_names}
use Rattle.session_desk.specs.Standing.{StandsBehind, World, session_state}

-- The desk has the cubes that are behind.
cubes_are : (beginning : Beginning) (past : SessionPast) (now : World) (run : RunRecord)
    → StandsBehind beginning past now → GoesOn beginning past run → now.desk.cubes ≡ cubes_behind beginning past
cubes_are beginning past now run h g =
    sym (h.cubes run g) ∙ cubes_stay beginning past run g h.done.turn h.owned

pub finds_its_cube : (beginning : Beginning) (before after : SessionPast) (now : World) (s : Statement)
    (added : List JournalEntry) (run : RunRecord) (place : ℕ) (d : Decl)
    → StandsBehind beginning before now → IsOneMore before after (Says s) added → GoesOn beginning after run
    → AreNamedApart now.desk.cubes → slice_get now.desk.cubes place ≡ Some d → cube_needed s ≡ Some d.name
    → IsOnCube run (last_step after (session_state now.session) (Says s) added) s d
finds_its_cube beginning before after now s added run place d h m g apart is needed =
    let on = goes_on_before beginning before after (Says s) added run m g in
    let cubes = cubes_are beginning before now run h on in
    let there : slice_get (cubes_behind beginning before) place ≡ Some d =
    subst (λ (ds : List Decl). slice_get ds place ≡ Some d) cubes is
    in
    record {
      needed = needed;
      stands =
          subst (λ (n : ℕ). IsSome (cube_called (cubes_at run (journal_before 1 n run.journal)) d.name))
          (sym (longer_by_one before after (Says s) added m))
          (cube_stands beginning before after (Says s) added run place d h.done.turn h.owned m g there);
      declared =
          declaration_stays beginning before run place d on h.done.turn h.owned (subst AreNamedApart cubes apart) there;
    }

pub finds_its_names : (beginning : Beginning) (past : SessionPast) (now : World) (run : RunRecord) (place : ℕ) (d : Decl)
    → StandsBehind beginning past now → GoesOn beginning past run
    → AreNamedApart now.desk.cubes → slice_get now.desk.cubes place ≡ Some d
    → final_names run d ≡ lists_at run.names place
finds_its_names beginning past now run place d h g apart is =
    let cubes = cubes_are beginning past now run h g in
    names_stay beginning past run place d g h.done.turn h.owned (subst AreNamedApart cubes apart)
    (subst (λ (ds : List Decl). slice_get ds place ≡ Some d) cubes is)
