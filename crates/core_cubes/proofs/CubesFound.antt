-- A search for the cube of a name finds it, or refuses the statement.
use Rattle.std.proofs.Common.{◌≡◌, ◌∙◌, ℕ, ◌+◌, List, [], ◌∷◌, ◌++◌, Option, Some, None, inl, inr, refl, sym, ap, subst, append-nil}
use Rattle.std.specs.Prelude.{IfErr, IfOk, OnOk, Result, Ok, Err}
use Rattle.aosi_desk.specs.declared.cube.CubeFound.{CubeFound}
use Rattle.aosi_desk.specs.declared.cube.CubeFound.TheVariants.{Found, Unknown}
use Rattle.core_program.specs.ClientCalls.{desk_entry}
use Rattle.core_program.specs.Knowing.{IsClientOf, IsSessionOf}
use Rattle.core_cells.specs.declared.desk.DeskAnswer.TheVariants as answer
use Rattle.core_cells.specs.declared.desk.DeskCall.{DeskCall}
use Rattle.core_cells.specs.declared.desk.DeskCall.TheVariants as call
use Rattle.core_cubes.proofs.CallsForStatements.{spoken}
use Rattle.core_cubes.proofs.CallsGoOn.{adds-by-call, go-on-by-call}
use Rattle.core_cubes.proofs.ExecutedBy.{refuses-so}
use Rattle.core_cubes.specs.ExecutedWatched.{ExecutesWatched}
use Rattle.core_cubes.proofs.StandingCubes.{stands-before}
use Rattle.core_cubes.specs.MadeAndFound.{IsRefusedByName, cube_or_refusal}
use Rattle.core_cubes.specs.StandingCubes.{HasFound, StandsBefore}
use Rattle.core_cubes.specs.StatementCalls.{IsCallFor}
use Rattle.core_cubes.specs.declared.naming.NamedCube.{NamedCube}
use Rattle.core_events.specs.Clients.{ClientState}
use Rattle.core_events.specs.Events.{Opening}
use Rattle.core_events.specs.Jobs.{CoreJob, JobOutcome}
use Rattle.core_events.specs.ShardView.{ShardView}
use Rattle.cube_core.specs.DeskEvents.{desk_event}
use Rattle.core_program.specs.CoreFits.{CoreEntry}
use Rattle.core_states.proofs.LeftCalls.{left-by-call}
use Rattle.core_states.proofs.Refused.{counted}
use Rattle.core_states.specs.LeftBehind.{GoOnByCalls, LeavesBehind}
use Rattle.core_states.specs.declared.session.CoreSession.{CoreSession}
use Rattle.cube_core.specs.declared.cell.CoreCell.{CoreCell}
use Rattle.cube_core.specs.declared.shard.ShardAnswer.{ShardAnswer}
use Rattle.cube_core.specs.declared.shard.ShardCall.{ShardCall}
use Rattle.cube_journal.specs.declared.refusal.Refusal.TheVariants as refusal
use Rattle.cube_journal.specs.declared.reply.Reply.TheVariants as reply
use Rattle.cube_language.specs.declared.statement.Statement.{Statement}
use Rattle.cube_run.specs.RunRecords.{cube_needed}
use Rattle.cube_run.specs.SessionStates.{KeptWatch}
use Rattle.cube_run.specs.StepOutcomes.{refused_by_mode, refused_by_watch}
use Rattle.known_cubes.proofs.ToldCubes.{told-newest}
use Rattle.known_cubes.specs.KnownCubes.{IsToldOfCube, by_search}
use Rattle.session_desk.specs.Executed.{IfReplied, OnStopped}
use Rattle.session_desk.specs.declared.answered.Answered.{Answered}
use Rattle.session_desk.specs.declared.answered.Answered.TheVariants.{Replied, Stopped}
use Rattle.session_replies.proofs.Refusing.{unknown_cube}
use Rattle.session_replies.specs.Modes.{mode_of}

-- A refusal for want of memory is one of those that a search has.
pub memory-by-name : (name : List ℕ) (result : Answered)
    → IfReplied result (λ said. said ≡ reply.Refused refusal.NoMemory) → IfReplied result (IsRefusedByName name)
memory-by-name name (Replied said) is = inr is
memory-by-name name Stopped is = tt

pub said-by-search : (found : CubeFound) (name : List ℕ)
    → IfErr (cube_or_refusal found name) (λ answered. IfReplied answered (IsRefusedByName name))
said-by-search (Found place decl) name = tt
said-by-search Unknown name = inl refl

-- Whatever comes of it, the session is counted.
pub counts-either-way : (session : CoreSession) (result : Result NamedCube Answered)
    → OnOk result (counted session ≡ record session { statements = session.statements + 1 })
counts-either-way session (Ok cube) = refl
counts-either-way session (Err answered) = tt

module _ {S : Type 0} (fits : Opening → ℕ → ShardCall → Type 0) (stands : Opening → ℕ → ℕ → S → ShardView → Type 0)
    (says : CoreJob → ShardAnswer → JobOutcome → Type 0) (cells : List (CoreCell S)) (caller : ℕ)
    (session : CoreSession) (acts : IsClientOf fits stands says cells caller session.number)
    (own now : List CoreEntry) (s : Statement) (name : List ℕ) where
  abbrev find : DeskCall
  find = call.FindCube session.number (session.statements + 1) name

  -- The desk was asked for the name, and found this.
  abbrev Asked : CubeFound → Type 0
  Asked found = now ≡ own ++ desk_entry caller find (answer.Found found) ∷ []

  abbrev Left : Type 0
  Left = LeavesBehind fits stands says cells caller session.number own now []

  pub left-by-search : (found : CubeFound) → Asked found → OnOk (cube_or_refusal found name) Left
  left-by-search (Found place decl) is =
      left-by-call fits stands says cells caller session.number acts own now 0
      find (answer.Found (Found place decl)) is
      (λ o log run es later are. tt) (λ k. tt)
  left-by-search Unknown is = tt

  pub told-by-search : (found : CubeFound) → Asked found
      → IfOk (cube_or_refusal found name) (λ cube. IsToldOfCube now name cube.place cube.decl)
  told-by-search (Found place decl) is =
      subst (λ (l : List CoreEntry). IsToldOfCube l name place decl) (sym is)
      (told-newest own
      (desk_entry caller find (answer.Found (Found place decl)))
      name place decl (by_search session.number (session.statements + 1)))
  told-by-search Unknown is = tt

  pub found-by-search : (found : CubeFound) → Asked found
      → IfOk (cube_or_refusal found name) (λ cube. HasFound now name cube.place cube.decl)
  found-by-search (Found place decl) is = record {
    before = own;
    caller = caller;
    session = session.number;
    statement = session.statements + 1;
    begins = ([], append-nil (own ++ desk_entry caller find (answer.Found (Found place decl)) ∷ []) ∙ sym is);
  }
  found-by-search Unknown is = tt

  pub stands-by-search : (of_run : IsSessionOf fits stands says cells session.number) (found : CubeFound) → Asked found
      → IfOk (cube_or_refusal found name) (λ cube. StandsBefore fits stands says cells caller session.number
      (session.statements + 1) own now name cube.place cube.decl)
  stands-by-search of_run (Found place decl) is =
      stands-before fits stands says cells caller session.number acts of_run own now (session.statements + 1) name place
      decl is (session.statements + 1)
  stands-by-search of_run Unknown is = tt

  pub stopped-by-search : (found : CubeFound)
      → IfErr (cube_or_refusal found name) (λ answered. OnStopped answered Left)
  stopped-by-search (Found place decl) = tt
  stopped-by-search Unknown = tt

  module _ (needs : cube_needed s ≡ Some name) where
    one-call : (found : CubeFound) (k : ClientState) → IsCallFor (session.statements + 1) s
        (desk_event session.number k find (answer.Found found))
    one-call (Found place decl) k = record { speaks = tt; posts = tt; asks = tt; readers = tt }
    one-call Unknown k = record { speaks = (refl, spoken s name needs); posts = tt; asks = tt; readers = tt }

    pub calls-by-search : (found : CubeFound) → Asked found
        → GoOnByCalls fits stands says cells caller session.number (IsCallFor (session.statements + 1) s) own now
    calls-by-search found is =
        go-on-by-call fits stands says cells caller session.number acts own now
        find (answer.Found found) is
        (IsCallFor (session.statements + 1) s) (one-call found)

    refuses-unknown : refused_by_mode (mode_of session.mode) s ≡ None → Asked Unknown
        → ExecutesWatched fits stands says cells caller s session own (counted session) now
        (reply.Refused (refusal.UnknownCube name))
    refuses-unknown may is =
        refuses-so fits stands says cells caller s 2 (reply.Refused (refusal.UnknownCube name)) session own now
        (desk_entry caller find (answer.Found Unknown) ∷ [], sym is)
        (adds-by-call fits stands says cells caller session.number acts own now
        find (answer.Found Unknown) is 0
        (λ o log run es later are. tt))
        (λ watch lets run step same at.
        unknown_cube run step (mode_of session.mode) s name at may
        (ap (λ (w : Option KeptWatch). refused_by_watch w s) same ∙ lets) needs)

    pub executed-by-search : (found : CubeFound) → refused_by_mode (mode_of session.mode) s ≡ None → Asked found
        → IfErr (cube_or_refusal found name) (λ answered. IfReplied answered
        (ExecutesWatched fits stands says cells caller s session own (counted session) now))
    executed-by-search (Found place decl) may is = tt
    executed-by-search Unknown may is = refuses-unknown may is
