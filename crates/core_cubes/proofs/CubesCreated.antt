-- A CREATE CUBE is answered by what the desk gave, and its session is told of the cube that it made.
use Rattle.std.proofs.Common.{◌≡◌, ◌∙◌, ℕ, ◌+◌, List, [], ◌∷◌, ◌++◌, Option, Some, None, refl, sym, ap, subst, arith}
use mathlib.Core.List.{IsPrefix}
use Rattle.aosi_desk.specs.declared.cube.CubeAnswer.{CubeAnswer}
use Rattle.aosi_desk.specs.declared.cube.CubeAnswer.TheVariants.{Created, Exists, TooMany}
use Rattle.core_program.specs.ClientCalls.{desk_entry}
use Rattle.core_program.specs.Knowing.{IsClientOf}
use Rattle.core_cells.specs.declared.desk.DeskAnswer.TheVariants as answer
use Rattle.core_cells.specs.declared.desk.DeskCall.{DeskCall}
use Rattle.core_cells.specs.declared.desk.DeskCall.TheVariants as call
use Rattle.core_cubes.proofs.CallsGoOn.{adds-by-call}
use Rattle.core_cubes.proofs.ExecutedBy.{executes-watched, refuses-so, whatever-watch}
use Rattle.core_cubes.specs.ExecutedWatched.{ExecutesWatched}
use Rattle.core_cubes.specs.MadeAndFound.{IsToldWhereMade}
use Rattle.core_events.specs.Events.{Opening}
use Rattle.core_events.specs.Jobs.{CoreJob, JobOutcome}
use Rattle.core_events.specs.ShardView.{ShardView}
use Rattle.core_states.specs.OwnCalls.{desk_leaves}
use Rattle.core_program.specs.CoreFits.{CoreEntry}
use Rattle.core_states.proofs.Growing.{parts-of}
use Rattle.core_states.proofs.Refused.{counted}
use Rattle.core_states.specs.ExecutedInCore.{ExecutesInCore}
use Rattle.core_states.specs.LeftBehind.{AddsEntries}
use Rattle.core_states.specs.declared.session.CoreSession.{CoreSession}
use Rattle.cube_core.specs.declared.cell.CoreCell.{CoreCell}
use Rattle.cube_core.specs.declared.shard.ShardAnswer.{ShardAnswer}
use Rattle.cube_core.specs.declared.shard.ShardCall.{ShardCall}
use Rattle.cube_journal.specs.declared.journal_entry.JournalEntry.{JournalEntry}
use Rattle.cube_journal.specs.declared.journal_entry.JournalEntry.TheVariants as entry
use Rattle.cube_journal.specs.declared.refusal.Refusal.{Refusal}
use Rattle.cube_journal.specs.declared.refusal.Refusal.TheVariants as refusal
use Rattle.cube_journal.specs.declared.reply.Reply.{Reply}
use Rattle.cube_journal.specs.declared.reply.Reply.TheVariants as reply
use Rattle.cube_language.specs.Cubes.{schema_fault}
use Rattle.cube_language.specs.declared.decl.Decl.{Decl}
use Rattle.cube_language.specs.declared.statement.Statement.TheVariants.{CreateCube}
use Rattle.cube_run.specs.RunRecords.{RunRecord, Says}
use Rattle.cube_run.specs.RunText.{IsReply}
use Rattle.cube_run.specs.SessionStates.{KeptWatch, Mode, Idle, mode_after, watch_after}
use Rattle.cube_run.specs.SessionSteps.{SessionStep}
use Rattle.cube_run.specs.StepOutcomes.{refused_by_watch}
use Rattle.known_cubes.proofs.ToldCubes.{told-newest}
use Rattle.known_cubes.specs.KnownCubes.{IsToldOfCube, by_making}
use Rattle.session_desk.specs.CubeReplies.{created_reply}
use Rattle.session_desk.specs.Executed.{IfReplied}
use Rattle.session_desk.specs.declared.answered.Answered.{Answered}
use Rattle.session_desk.specs.declared.answered.Answered.TheVariants.{Replied, Stopped}
use Rattle.session_replies.proofs.Answers.{created}
use Rattle.session_replies.proofs.Ends.{no_watch}
use Rattle.session_replies.proofs.Refusing.{cube_exists, too_many_cubes}
use Rattle.session_replies.specs.Modes.{mode_of}
use Rattle.session_replies.specs.StepParts.{IsStep}

made-keeps-watch : (watch : Option KeptWatch) (d : Decl) (entries : List JournalEntry)
    → watch ≡ watch_after watch (Says (CreateCube d)) entries
made-keeps-watch None d entries = refl
made-keeps-watch (Some kept) d entries = refl

pub no-watch-refuses : (d : Decl) (watch : Option KeptWatch) → refused_by_watch watch (CreateCube d) ≡ None
no-watch-refuses d watch = no_watch watch (CreateCube d) refl (λ kept. refl)

-- A refusal tells of no cube.
pub refusal-tells-none : (own : List CoreEntry) (d : Decl) (r : Refusal) (result : Answered)
    → IfReplied result (λ said. said ≡ reply.Refused r) → IfReplied result (IsToldWhereMade own d)
refusal-tells-none own d r (Replied said) is = subst (IsToldWhereMade own d) (sym is) tt
refusal-tells-none own d r Stopped is = tt

module _ {S : Type 0} (fits : Opening → ℕ → ShardCall → Type 0) (stands : Opening → ℕ → ℕ → S → ShardView → Type 0)
    (says : CoreJob → ShardAnswer → JobOutcome → Type 0) (cells : List (CoreCell S)) (caller : ℕ)
    (session : CoreSession) (idle : mode_of session.mode ≡ Idle) (d : Decl) (storable : schema_fault d ≡ None)
    (own now : List CoreEntry) where
  abbrev Watched : Reply → Type 0
  Watched said = ExecutesWatched fits stands says cells caller (CreateCube d) session own (counted session) now said

  abbrev Adds : JournalEntry → Type 0
  Adds e = AddsEntries fits stands says cells caller session.number own now (e ∷ [])

  makes : (epoch : ℕ) → IsPrefix own now → Adds (entry.Cube session.number (session.statements + 1) epoch)
      → Watched (reply.Created epoch)
  makes epoch more adds =
      let number : ℕ = session.statements + 1 in
      let added : List JournalEntry = entry.Cube session.number number epoch ∷ [] in
      let none : session.commits ≡ session.commits + 0 = omega arith in
      executes-watched fits stands says cells caller (CreateCube d) session (counted session) own now added
      (reply.Created epoch) (record {
        more = more;
        entries = adds;
        statements = refl;
        numbered = (omega arith, omega arith, tt);
        becomes = λ watch i. record {
          mode = (idle ∙ sym (ap (λ (m : Mode). mode_after m added) idle)) i;
          watch = made-keeps-watch watch d added i;
          commits = none i;
        };
        answers = λ watch lets run step at.
            created run step d epoch
            (parts-of session (counted session) watch Idle (Says (CreateCube d)) (λ i j. entry.Cube i j epoch ∷ []) step
            idle at) storable;
      })

  refuses-by-desk : (n : ℕ) (r : Refusal) → IsPrefix own now
      → Adds (entry.Refused session.number (session.statements + 1) n)
      → ((run : RunRecord) (step : SessionStep)
      → IsStep step Idle (Says (CreateCube d)) (entry.Refused step.session step.number n ∷ [])
      → schema_fault d ≡ None → IsReply run step (reply.Refused r))
      → Watched (reply.Refused r)
  refuses-by-desk n r more adds answers =
      refuses-so fits stands says cells caller (CreateCube d) n (reply.Refused r) session own now more adds
      (λ watch lets run step same is. answers run step
      (subst (λ (m : Mode). IsStep step m (Says (CreateCube d)) (entry.Refused step.session step.number n ∷ [])) idle is)
      storable)

  abbrev create : DeskCall
  create = call.CreateCube session.number (session.statements + 1) d

  -- The desk was asked, and gave this.
  abbrev Asked : CubeAnswer → Type 0
  Asked made = now ≡ own ++ desk_entry caller create (answer.Created made) ∷ []

  more-by : (made : CubeAnswer) → Asked made → IsPrefix own now
  more-by made is =
      (desk_entry caller create (answer.Created made) ∷ [], sym is)

  module _ (acts : IsClientOf fits stands says cells caller session.number) where
    adds-by : (made : CubeAnswer) → Asked made
        → AddsEntries fits stands says cells caller session.number own now
        (desk_leaves session.number 0 create (answer.Created made))
    adds-by made is =
        adds-by-call fits stands says cells caller session.number acts own now
        create (answer.Created made) is 0
        (λ o log run es later are. tt)

    watched-made : (made : CubeAnswer) → Asked made → Watched (created_reply made d.name)
    watched-made (Created epoch place) is =
        makes epoch (more-by (Created epoch place) is) (adds-by (Created epoch place) is)
    watched-made Exists is =
        refuses-by-desk 19 (refusal.CubeExists d.name) (more-by Exists is) (adds-by Exists is)
        (λ run step at sound. cube_exists run step d at sound)
    watched-made TooMany is =
        refuses-by-desk 21 refusal.TooManyCubes (more-by TooMany is) (adds-by TooMany is)
        (λ run step at sound. too_many_cubes run step d at sound)

    pub answers-made : (made : CubeAnswer) → Asked made
        → ExecutesInCore fits stands says cells caller (Says (CreateCube d)) session own (counted session) now
        (created_reply made d.name)
    answers-made made is =
        whatever-watch fits stands says cells caller (CreateCube d) session (counted session) own now
        (created_reply made d.name) (no-watch-refuses d) (watched-made made is)

  pub told-made : (made : CubeAnswer) → Asked made → IsToldWhereMade now d (created_reply made d.name)
  told-made (Created epoch place) is = (
    place,
    subst (λ (l : List CoreEntry). IsToldOfCube l d.name place d) (sym is)
        (told-newest own
        (desk_entry caller create (answer.Created (Created epoch place)))
        d.name place d (by_making session.number (session.statements + 1) epoch refl)),
  )
  told-made Exists is = tt
  told-made TooMany is = tt
