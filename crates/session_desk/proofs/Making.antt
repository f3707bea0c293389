-- CREATE CUBE.
use Rattle.std.proofs.Common.{◌≡◌, ◌∙◌, ℕ, ◌+◌, ◌-◌, ◌<◌, ◌≤◌, true, false, length, List, [], ◌∷◌, Option, Some, None, slice_get, refl, sym, ap, subst, arith}
use Rattle.std.specs.List.{cons_option}
use Rattle.std.specs.Option.{option_and_then}
use Rattle.std.proofs.Math.Nat.{add-zero}
use Rattle.cube_language.specs.Cubes.{schema_fault}
use Rattle.cube_language.specs.declared.cubes_fault.SchemaFault.{SchemaFault}
use Rattle.cube_language.specs.declared.decl.Decl.{Decl}
use Rattle.cube_language.specs.declared.statement.Statement.TheVariants.{CreateCube}
use Rattle.cube_journal.specs.Counters.{JournalState, state_after}
use Rattle.cube_journal.specs.declared.journal_entry.JournalEntry.{JournalEntry}
use Rattle.cube_journal.specs.declared.journal_entry.JournalEntry.TheVariants as entry
use Rattle.cube_journal.specs.declared.refusal.Refusal.TheVariants as refusal
use Rattle.cube_journal.specs.declared.reply.Reply.TheVariants as reply
use Rattle.cube_journal.proofs.Orders.{state-with}
use Rattle.cube_run.specs.RunRecords.{RunRecord, Sentence, Says, declaration_in, made_by, script_of, statement_said}
use Rattle.cube_run.specs.RunTransactions.{epoch_done, operation_at}
use Rattle.cube_run.specs.SessionStates.{Mode, Idle, mode_after}
use Rattle.one_session.specs.Behind.{last_step}
use Rattle.one_session.specs.Pasts.{last_number}
use Rattle.one_session.proofs.Entries.{longer_by_one}
use Rattle.aosi_desk.specs.State.{state_of}
use Rattle.cube_language.specs.CubesText.{cubes_limit}
use Rattle.cube_journal.specs.Legal.{has_cube}
use Rattle.aosi_desk.specs.Desks.{DeskState, cube_answer, decl_names, desk_after_answer, desk_with_cube}
use Rattle.aosi_desk.proofs.Kept.{cube_allowed, exists_fits, names_more, too_many_fits}
use Rattle.aosi_desk.specs.declared.cube.CubeAnswer.{CubeAnswer}
use Rattle.aosi_desk.specs.declared.cube.CubeAnswer.TheVariants.{Created, Exists, TooMany}
use Rattle.session_desk.specs.CubeReplies.{created_reply}
use Rattle.session_replies.specs.Modes.{mode_of}
use Rattle.session_replies.proofs.Answers.{created}
use Rattle.session_replies.proofs.Refusing.{cube_exists, faulty_cube, too_many_cubes}
use Rattle.session_desk.specs.declared.session.Session.{Session}
use Rattle.session_desk.specs.AtDesk.{IsAtDesk, IsServing, change_epoch}
use Rattle.session_desk.specs.Executed.{ExecutesAtDesk}
use Rattle.session_desk.specs.Standing.{session_state}
use Rattle.session_desk.proofs.Agreeing.{none_for, one_for}
use Rattle.session_desk.proofs.CubesGiven.{existing_there, full_there, made_there}
use Rattle.session_desk.proofs.Growing.{executes_with, grown}
use Rattle.session_desk.proofs.Refused.{Refuses, at_refused, refused_stays}
use Rattle.session_desk.proofs.Replying.{counted, refuses_next}
use Rattle.session_desk.proofs.Staying.{stay_executes}

-- A session makes a cube at its desk.
pub record Creates (d : Decl) (desk : DeskState) (session : Session) (new_desk : DeskState) (now : Session)
    : Type 0 where
  pub was : mode_of session.mode ≡ Idle
  pub room : length desk.cubes < cubes_limit
  pub new_name : has_cube (decl_names desk.cubes) d.name ≡ false
  pub desk_is : new_desk ≡ desk_with_cube desk 1 now.statements (state_of desk.register).ec d
  pub mode_is : now.mode ≡ session.mode
  pub statements : now.statements ≡ session.statements + 1
  pub commits : now.commits ≡ session.commits
  pub every : now.round_every ≡ session.round_every

state_created : (d : Decl) (desk : DeskState) (session : Session) (new_desk : DeskState) (now : Session)
    → Creates d desk session new_desk now
    → state_of new_desk.register
    ≡ state_after (state_of desk.register) (entry.Cube 1 now.statements (state_of desk.register).ec)
state_created d desk session new_desk now h =
    ap (λ (x : DeskState). state_of x.register) h.desk_is
    ∙ state-with desk.register.safe desk.register.journal (entry.Cube 1 now.statements (state_of desk.register).ec)

serves_created : (s : JournalState) (safe statement : ℕ) → IsServing s safe Idle
    → IsServing (state_after s (entry.Cube 1 statement s.ec)) safe Idle
serves_created s safe statement h = record {
  snapshots = h.snapshots;
  pending = h.pending;
  writer = tt;
  kept = let kept = h.kept in omega (arith, kept);
  round = h.round;
  store = h.store;
}

pub at_created : (d : Decl) (desk : DeskState) (session : Session) (new_desk : DeskState) (now : Session)
    → IsAtDesk desk session → Creates d desk session new_desk now → IsAtDesk new_desk now
at_created d desk session new_desk now at h =
    let s = state_of desk.register in
    record {
      alone = ap (λ (x : DeskState). x.register.sessions) h.desk_is ∙ at.alone;
      serving =
          coe 1 0 (i. IsServing (state_created d desk session new_desk now h i)
          (ap (λ (x : DeskState). x.register.safe) h.desk_is i) ((ap mode_of h.mode_is ∙ h.was) i))
          (serves_created s desk.register.safe now.statements
          (subst (IsServing s desk.register.safe) h.was at.serving));
      counted =
          let counted = at.counted in
          let more = h.statements in
          let same = h.commits in
          omega (arith, counted, more, same);
    }

made_here : (d : Decl) (run : RunRecord) (statement epoch : ℕ)
    → slice_get (script_of run 1) (statement - 1) ≡ Some (Says (CreateCube d))
    → cons_option (made_by run (entry.Cube 1 statement epoch)) [] ≡ d ∷ []
made_here d run statement epoch h =
    ap (λ (o : Option Sentence). cons_option (option_and_then declaration_in (option_and_then statement_said o)) []) h

pub create_executes : (d : Decl) (desk : DeskState) (session : Session) (new_desk : DeskState) (now : Session)
    → Creates d desk session new_desk now → schema_fault d ≡ None
    → ExecutesAtDesk (Says (CreateCube d)) desk session new_desk now (reply.Created (state_of desk.register).ec)
create_executes d desk session new_desk now h sound =
    let s = state_of desk.register in
    let entries : List JournalEntry = entry.Cube 1 now.statements s.ec ∷ [] in
    executes_with (Says (CreateCube d)) entries (d ∷ []) desk session new_desk now (reply.Created s.ec)
    (record {
      safe = ap (λ (x : DeskState). x.register.safe) h.desk_is;
      journal = ap (λ (x : DeskState). x.register.journal) h.desk_is;
      cubes = ap (λ (x : DeskState). x.cubes) h.desk_is;
      statements = h.statements;
      every = h.every;
      becomes = (λ i. record {
        mode = (ap mode_of h.mode_is ∙ h.was ∙ ap (λ (m : Mode). mode_after m entries) (sym h.was)) i;
        watch = None;
        commits = (h.commits ∙ sym (add-zero session.commits)) i;
      });
      own = (omega arith, omega arith, tt);
      owners = refl;
      makes = λ run said. made_here d run now.statements s.ec said;
      agrees =
          one_for (CreateCube d) now.statements desk.cubes new_desk.cubes (λ n. entry.Cube 1 n s.ec) d.name
          (λ run. refl) refl (cube_allowed desk.cubes d 1 now.statements s.ec h.room h.new_name)
          (names_more desk.cubes new_desk.cubes d (ap (λ (x : DeskState). x.cubes) h.desk_is));
      epochs =
          let ec : (state_of new_desk.register).ec ≡ s.ec + 1 =
          ap (λ (t : JournalState). t.ec) (state_created d desk session new_desk now h)
          in
          subst (λ (m : Mode). change_epoch s m
          ≤ change_epoch (state_of new_desk.register) (mode_of now.mode)) (sym h.was)
          (subst (λ (m : Mode). s.ec ≤ change_epoch (state_of new_desk.register) m)
          (sym (ap mode_of h.mode_is ∙ h.was)) (omega (arith, ec)));
      no_change = λ catalog number file.
          ap (λ (m : Mode). operation_at number (epoch_done m entries) None) h.was;
    })
    (λ beginning past names done run stands more on.
    let after = grown past (Says (CreateCube d)) entries in
    let number : now.statements ≡ last_number after =
    h.statements ∙ ap (λ (n : ℕ). n + 1) (sym stands.number)
    ∙ sym (longer_by_one past after (Says (CreateCube d)) entries more)
    in
    created run (last_step after (session_state session) (Says (CreateCube d)) entries) d s.ec (record {
      mode_is = h.was;
      sentence_is = refl;
      entries_are = (λ i. entry.Cube 1 (number i) s.ec ∷ []);
    }) sound)

-- A cube that cannot be made.
pub refuses_faulty : (d : Decl) (fault : SchemaFault) (desk : DeskState) (session : Session) (new_desk : DeskState)
    (now : Session) → mode_of session.mode ≡ Idle → Refuses 20 desk session new_desk now
    → schema_fault d ≡ Some fault
    → ExecutesAtDesk (Says (CreateCube d)) desk session new_desk now (reply.Refused (refusal.BadCube fault))
refuses_faulty d fault desk session new_desk now was h is =
    let added : List JournalEntry = entry.Refused 1 now.statements 20 ∷ [] in
    stay_executes (Says (CreateCube d)) added (λ n. entry.Refused 1 n 20) desk session new_desk now
    (reply.Refused (refusal.BadCube fault)) (refused_stays 20 desk session new_desk now h)
    (none_for (Says (CreateCube d)) now.statements desk.cubes added refl)
    (λ beginning past names done run stands more on step.
    faulty_cube run
    (last_step (grown past (Says (CreateCube d)) added) (session_state session) (Says (CreateCube d)) added) d fault
    (record { mode_is = step.mode_is ∙ was; sentence_is = step.sentence_is; entries_are = step.entries_are }) is)

pub refuses_existing : (d : Decl) (desk : DeskState) (session : Session) (new_desk : DeskState)
    (now : Session) → mode_of session.mode ≡ Idle → Refuses 19 desk session new_desk now → schema_fault d ≡ None
    → has_cube (decl_names desk.cubes) d.name ≡ true
    → ExecutesAtDesk (Says (CreateCube d)) desk session new_desk now (reply.Refused (refusal.CubeExists d.name))
refuses_existing d desk session new_desk now was h is has =
    let added : List JournalEntry = entry.Refused 1 now.statements 19 ∷ [] in
    stay_executes (Says (CreateCube d)) added (λ n. entry.Refused 1 n 19) desk session new_desk now
    (reply.Refused (refusal.CubeExists d.name)) (refused_stays 19 desk session new_desk now h)
    (one_for (CreateCube d) now.statements desk.cubes desk.cubes (λ n. entry.Refused 1 n 19) d.name (λ run. refl) refl
    (exists_fits desk.cubes d.name has) refl)
    (λ beginning past names done run stands more on step.
    cube_exists run
    (last_step (grown past (Says (CreateCube d)) added) (session_state session) (Says (CreateCube d)) added) d
    (record { mode_is = step.mode_is ∙ was; sentence_is = step.sentence_is; entries_are = step.entries_are }) is)

pub refuses_too_many : (d : Decl) (desk : DeskState) (session : Session) (new_desk : DeskState)
    (now : Session) → mode_of session.mode ≡ Idle → Refuses 21 desk session new_desk now → schema_fault d ≡ None
    → length desk.cubes ≡ cubes_limit → has_cube (decl_names desk.cubes) d.name ≡ false
    → ExecutesAtDesk (Says (CreateCube d)) desk session new_desk now (reply.Refused refusal.TooManyCubes)
refuses_too_many d desk session new_desk now was h is full none =
    let added : List JournalEntry = entry.Refused 1 now.statements 21 ∷ [] in
    stay_executes (Says (CreateCube d)) added (λ n. entry.Refused 1 n 21) desk session new_desk now
    (reply.Refused refusal.TooManyCubes) (refused_stays 21 desk session new_desk now h)
    (one_for (CreateCube d) now.statements desk.cubes desk.cubes (λ n. entry.Refused 1 n 21) d.name (λ run. refl) refl
    (too_many_fits desk.cubes d.name full none) refl)
    (λ beginning past names done run stands more on step.
    too_many_cubes run
    (last_step (grown past (Says (CreateCube d)) added) (session_state session) (Says (CreateCube d)) added) d
    (record { mode_is = step.mode_is ∙ was; sentence_is = step.sentence_is; entries_are = step.entries_are }) is)

makes_next : (d : Decl) (desk : DeskState) (session : Session) (new_desk : DeskState) (epoch place : ℕ)
    → mode_of session.mode ≡ Idle → length desk.cubes ≤ cubes_limit → Created epoch place ≡ cube_answer desk d.name
    → new_desk ≡ desk_after_answer desk 1 (session.statements + 1) d (Created epoch place)
    → Creates d desk session new_desk (counted session)
makes_next d desk session new_desk epoch place was few answer desk_is = record {
  was = was;
  room = (made_there desk d.name epoch place few answer).room;
  new_name = (made_there desk d.name epoch place few answer).new_name;
  desk_is =
      desk_is
      ∙ ap (λ (e : ℕ). desk_with_cube desk 1 (session.statements + 1) e d)
      (made_there desk d.name epoch place few answer).epoch_is;
  mode_is = refl;
  statements = refl;
  commits = refl;
  every = refl;
}

-- What the desk gave is answered.
pub answers_made : (d : Decl) (desk : DeskState) (session : Session) (new_desk : DeskState) (answer : CubeAnswer)
    → mode_of session.mode ≡ Idle → length desk.cubes ≤ cubes_limit → schema_fault d ≡ None
    → answer ≡ cube_answer desk d.name
    → new_desk ≡ desk_after_answer desk 1 (session.statements + 1) d answer
    → ExecutesAtDesk (Says (CreateCube d)) desk session new_desk (counted session) (created_reply answer d.name)
answers_made d desk session new_desk (Created epoch place) was few sound answer desk_is =
    subst (λ (e : ℕ). ExecutesAtDesk (Says (CreateCube d)) desk session new_desk (counted session) (reply.Created e))
    (sym (made_there desk d.name epoch place few answer).epoch_is)
    (create_executes d desk session new_desk (counted session)
    (makes_next d desk session new_desk epoch place was few answer desk_is) sound)
answers_made d desk session new_desk Exists was few sound answer desk_is =
    refuses_existing d desk session new_desk (counted session) was
    (refuses_next 19 desk session desk new_desk refl desk_is) sound (existing_there desk d.name answer)
answers_made d desk session new_desk TooMany was few sound answer desk_is =
    refuses_too_many d desk session new_desk (counted session) was
    (refuses_next 21 desk session desk new_desk refl desk_is) sound (full_there desk d.name answer).full
    (full_there desk d.name answer).new_name

pub at_answer : (d : Decl) (desk : DeskState) (session : Session) (new_desk : DeskState) (answer : CubeAnswer)
    → IsAtDesk desk session → mode_of session.mode ≡ Idle → length desk.cubes ≤ cubes_limit
    → answer ≡ cube_answer desk d.name
    → new_desk ≡ desk_after_answer desk 1 (session.statements + 1) d answer → IsAtDesk new_desk (counted session)
at_answer d desk session new_desk (Created epoch place) at was few answer desk_is =
    at_created d desk session new_desk (counted session) at
    (makes_next d desk session new_desk epoch place was few answer desk_is)
at_answer d desk session new_desk Exists at was few answer desk_is =
    at_refused 19 desk session new_desk (counted session) at
    (refuses_next 19 desk session desk new_desk refl desk_is)
at_answer d desk session new_desk TooMany at was few answer desk_is =
    at_refused 21 desk session new_desk (counted session) at
    (refuses_next 21 desk session desk new_desk refl desk_is)
