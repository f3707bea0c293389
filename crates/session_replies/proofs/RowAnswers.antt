-- The replies to statements on rows.
use Rattle.std.proofs.Common.{◌≡◌, ℕ, zero, suc, true, List, [], ◌∷◌, Option, Some, None, IsSome, refl}
use Rattle.std.proofs.lemmas.Bool.{false≢true}
use Rattle.cube_values.specs.declared.snapshot.Snapshot.{Snapshot}
use Rattle.cube_values.specs.declared.value.Value.{Value}
use Rattle.cube_language.specs.declared.statement.Cond.{Cond}
use Rattle.cube_language.specs.declared.statement.Item.{Item}
use Rattle.cube_language.specs.declared.statement.Key.{Key}
use Rattle.cube_language.specs.declared.statement.Test.{Test}
use Rattle.cube_language.specs.declared.statement.Statement.{Statement}
use Rattle.cube_language.specs.declared.statement.Statement.TheVariants.{Select, Insert, Load, Delete}
use Rattle.cube_journal.specs.Refusals.{code}
use Rattle.cube_journal.specs.declared.journal_entry.AbortCause.{AbortCause}
use Rattle.cube_journal.specs.declared.journal_entry.JournalEntry.{JournalEntry}
use Rattle.cube_journal.specs.declared.journal_entry.JournalEntry.TheVariants as entry
use Rattle.cube_journal.specs.declared.refusal.Refusal.{Refusal}
use Rattle.cube_journal.specs.declared.reply.Reply.{Reply}
use Rattle.cube_journal.specs.declared.reply.Reply.TheVariants as reply
use Rattle.cube_run.specs.Merge.{HasCube, IsOutcome, RoundFollows, looked_for_cube, round_is_due}
use Rattle.cube_run.specs.RunRecords.{RunRecord, Says, catalog_of, cube_called, cube_needed, cubes_at}
use Rattle.cube_run.specs.RunText.{IsReply, done_reply}
use Rattle.cube_run.specs.SessionStates.{KeptWatch, Mode, Idle, Open}
use Rattle.cube_run.specs.SessionSteps.{SessionStep, journal_before}
use Rattle.cube_run.specs.StatementEntries.{Done, RefusedWith, cause_of, change_idle, change_idle_ended, change_open, change_open_ended, is_change, is_select, leaves_refused, own_cause_of, select_idle, select_open}
use Rattle.cube_run.specs.StepOutcomes.{Meets, all_passed, IsMisfitOf, MayEnd, data_refusal, refused_by_mode, refused_by_watch, refused_declaration, told_unknown}
use Rattle.session_replies.specs.Modes.{round_follows}
use Rattle.session_replies.specs.RowEntries.{IsRoundAfter, lone_refusal, open_abort, own_abort, own_commit, own_reading}
use Rattle.session_replies.specs.StepParts.{IsStep}
use Rattle.session_replies.proofs.Ends.{bound_none, by_parts, no_entries, with_parts}
use Rattle.session_replies.proofs.Refusing.{refused}

-- What reads or changes rows is refused neither by a mode that has not failed, nor by a watch, nor as a declaration.
pub record OnRows (s : Statement) : Type 0 where
  pub idle : refused_by_mode Idle s ≡ None
  pub open_too : (writer : Snapshot) → refused_by_mode (Open writer) s ≡ None
  pub watch : (watch : Option KeptWatch) → refused_by_watch watch s ≡ None
  pub declaration : (entries : List JournalEntry) → refused_declaration entries s ≡ None

select_watch : (items : List Item) (cube : List ℕ) (conds : List Cond) (group : List (List ℕ)) (having : List Test)
    (order : List Key) (limit : Option ℕ) (watch : Option KeptWatch)
    → refused_by_watch watch (Select items cube conds group having order limit) ≡ None
select_watch items cube conds group having order limit None = refl
select_watch items cube conds group having order limit (Some kept) = refl

insert_watch : (cube : List ℕ) (rows : List (List Value)) (watch : Option KeptWatch)
    → refused_by_watch watch (Insert cube rows) ≡ None
insert_watch cube rows None = refl
insert_watch cube rows (Some kept) = refl

load_watch : (cube path : List ℕ) (reject : ℕ) (watch : Option KeptWatch)
    → refused_by_watch watch (Load cube path reject) ≡ None
load_watch cube path reject None = refl
load_watch cube path reject (Some kept) = refl

delete_watch : (cube : List ℕ) (conds : List Cond) (watch : Option KeptWatch)
    → refused_by_watch watch (Delete cube conds) ≡ None
delete_watch cube conds None = refl
delete_watch cube conds (Some kept) = refl

pub change_on_rows : (s : Statement) → is_change s ≡ true → OnRows s
change_on_rows (Insert cube rows) h = record {
  idle = refl;
  open_too = λ writer. refl;
  watch = insert_watch cube rows;
  declaration = λ entries. refl;
}
change_on_rows (Load cube path reject) h = record {
  idle = refl;
  open_too = λ writer. refl;
  watch = load_watch cube path reject;
  declaration = λ entries. refl;
}
change_on_rows (Delete cube conds) h = record {
  idle = refl;
  open_too = λ writer. refl;
  watch = delete_watch cube conds;
  declaration = λ entries. refl;
}
change_on_rows s h = absurd (false≢true h)

pub select_on_rows : (s : Statement) → is_select s ≡ true → OnRows s
select_on_rows (Select items cube conds group having order limit) h = record {
  idle = refl;
  open_too = λ writer. refl;
  watch = select_watch items cube conds group having order limit;
  declaration = λ entries. refl;
}
select_on_rows s h = absurd (false≢true h)

select_data : (run : RunRecord) (step : SessionStep) (s : Statement) → is_select s ≡ true
    → data_refusal (catalog_of run) step.file (Says s) ≡ None
select_data run step (Select items cube conds group having order limit) h = refl
select_data run step s h = absurd (false≢true h)

-- The cube stands before the step with its parts too.
cube_there : (run : RunRecord) (step p : SessionStep) (name : Option (List ℕ)) → step.session ≡ p.session
    → step.number ≡ p.number → HasCube run step name → HasCube run p name
cube_there run step p None session number h = tt
cube_there run step p (Some name) session number h =
    coe 0 1 (i. IsSome (cube_called (cubes_at run (journal_before (session i) (number i) run.journal)) name)) h

pub done_as : (run : RunRecord) (step : SessionStep) (mode : Mode) (s : Statement) (entries : List JournalEntry)
    (said : Reply) → IsStep step mode (Says s) entries → IsOutcome run (with_parts step mode (Says s) entries) Done
    → said ≡ done_reply run (with_parts step mode (Says s) entries) s → IsReply run step said
done_as run step mode s entries said h ends is =
    by_parts run step mode (Says s) entries said h (record { outcome = Done; ends = ends; is = is })

due_alone : (n i j : ℕ) (step : SessionStep) (s : Statement) (epoch : ℕ) (deps : List ℕ) (round : List JournalEntry)
    → RoundFollows i j (round_follows n step.state.commits) round
    → RoundFollows i j
    (round_is_due n (with_parts step Idle (Says s)
    (entry.Begin step.session step.number epoch deps ∷ entry.Committed step.session step.number epoch ∷ round))) round
due_alone zero i j step s epoch deps round h = h
due_alone (suc n) i j step s epoch deps round h = h

-- A statement on rows that is not refused up to its binding meets what its data refuse it for.
pub meets_data : (run : RunRecord) (step : SessionStep) (mode : Mode) (s : Statement) (entries : List JournalEntry)
    (first : Option Refusal) → OnRows s → refused_by_mode mode s ≡ None → told_unknown entries s ≡ None
    → IsMisfitOf (catalog_of run) (Says s) None → data_refusal (catalog_of run) step.file (Says s) ≡ first
    → Meets (catalog_of run) (with_parts step mode (Says s) entries) first
meets_data run step mode s entries first rows may told fits given = record {
  binding = None;
  meets = record {
    misfit = None;
    is_misfit = fits;
    is =
        bound_none (with_parts step mode (Says s) entries) s may (rows.watch step.state.watch) told
        (rows.declaration entries);
  };
  is = given;
}

pub changed_alone : (run : RunRecord) (step : SessionStep) (s : Statement) (epoch : ℕ) (deps : List ℕ)
    (round : List JournalEntry) (said : Reply)
    → IsStep step Idle (Says s) (own_commit step epoch deps round) → is_change s ≡ true
    → IsRoundAfter run step round
    → IsMisfitOf (catalog_of run) (Says s) None → data_refusal (catalog_of run) step.file (Says s) ≡ None
    → HasCube run step (cube_needed s)
    → said ≡ done_reply run (with_parts step Idle (Says s) (own_commit step epoch deps round)) s
    → IsReply run step said
changed_alone run step s epoch deps round said h change due fits given cube is =
    let rows = change_on_rows s change in
    let entries : List JournalEntry = own_commit step epoch deps round in
    let p = with_parts step Idle (Says s) entries in
    done_as run step Idle s entries said h
    (record {
      ends = all_passed (meets_data run step Idle s entries None rows rows.idle refl fits given);
      leaves = change_idle epoch deps change;
      round = due_alone run.round_every step.session step.number step s epoch deps round due;
      cube = λ looked. cube_there run step p (cube_needed s) refl refl cube;
    })
    is

pub changed_inside : (run : RunRecord) (step : SessionStep) (s : Statement) (writer : Snapshot) (said : Reply)
    → IsStep step (Open writer) (Says s) [] → is_change s ≡ true
    → IsMisfitOf (catalog_of run) (Says s) None → data_refusal (catalog_of run) step.file (Says s) ≡ None
    → HasCube run step (cube_needed s) → said ≡ done_reply run (with_parts step (Open writer) (Says s) []) s
    → IsReply run step said
changed_inside run step s writer said h change fits given cube is =
    let rows = change_on_rows s change in
    let p = with_parts step (Open writer) (Says s) [] in
    done_as run step (Open writer) s [] said h
    (record {
      ends = all_passed (meets_data run step (Open writer) s [] None rows (rows.open_too writer) refl fits given);
      leaves = change_open change;
      round = no_entries run p refl;
      cube = λ looked. cube_there run step p (cube_needed s) refl refl cube;
    })
    is

pub read_alone : (run : RunRecord) (step : SessionStep) (s : Statement) (epoch : ℕ) (said : Reply)
    → IsStep step Idle (Says s) (own_reading step epoch) → is_select s ≡ true
    → IsMisfitOf (catalog_of run) (Says s) None → HasCube run step (cube_needed s)
    → said ≡ done_reply run (with_parts step Idle (Says s) (own_reading step epoch)) s → IsReply run step said
read_alone run step s epoch said h select fits cube is =
    let rows = select_on_rows s select in
    let entries : List JournalEntry = own_reading step epoch in
    let p = with_parts step Idle (Says s) entries in
    done_as run step Idle s entries said h
    (record {
      ends =
          all_passed
          (meets_data run step Idle s entries None rows rows.idle refl fits (select_data run step s select));
      leaves = select_idle epoch select;
      round = no_entries run p refl;
      cube = λ looked. cube_there run step p (cube_needed s) refl refl cube;
    })
    is

pub read_inside : (run : RunRecord) (step : SessionStep) (s : Statement) (writer : Snapshot) (said : Reply)
    → IsStep step (Open writer) (Says s) [] → is_select s ≡ true → IsMisfitOf (catalog_of run) (Says s) None
    → HasCube run step (cube_needed s) → said ≡ done_reply run (with_parts step (Open writer) (Says s) []) s
    → IsReply run step said
read_inside run step s writer said h select fits cube is =
    let rows = select_on_rows s select in
    let p = with_parts step (Open writer) (Says s) [] in
    done_as run step (Open writer) s [] said h
    (record {
      ends =
          all_passed
          (meets_data run step (Open writer) s [] None rows (rows.open_too writer) refl fits
          (select_data run step s select));
      leaves = select_open select;
      round = no_entries run p refl;
      cube = λ looked. cube_there run step p (cube_needed s) refl refl cube;
    })
    is

-- A refusal that leaves nothing else; one that ends a change with its own transaction; and one that ends it with the
-- transaction that was open.
pub refusal_noted : (run : RunRecord) (step : SessionStep) (mode : Mode) (s : Statement) (r : Refusal)
    → IsStep step mode (Says s) (lone_refusal step (code r)) → leaves_refused mode r ≡ true
    → MayEnd (catalog_of run) (with_parts step mode (Says s) (lone_refusal step (code r))) (RefusedWith r)
    → (looked_for_cube (RefusedWith r) ≡ true → HasCube run step (cube_needed s))
    → IsReply run step (reply.Refused r)
refusal_noted run step mode s r h leaves may cube =
    let p = with_parts step mode (Says s) (lone_refusal step (code r)) in
    refused run step mode (Says s) r h leaves may
    (λ looked. cube_there run step p (cube_needed s) refl refl (cube looked))

pub ended_alone : (run : RunRecord) (step : SessionStep) (s : Statement) (r : Refusal) (epoch : ℕ) (deps : List ℕ)
    (cause : AbortCause) → IsStep step Idle (Says s) (own_abort step epoch deps cause)
    → is_change s ≡ true → own_cause_of r ≡ Some cause
    → MayEnd (catalog_of run) (with_parts step Idle (Says s) (own_abort step epoch deps cause)) (RefusedWith r)
    → (looked_for_cube (RefusedWith r) ≡ true → HasCube run step (cube_needed s))
    → IsReply run step (reply.Refused r)
ended_alone run step s r epoch deps cause h change is may cube =
    let entries : List JournalEntry = own_abort step epoch deps cause in
    let p = with_parts step Idle (Says s) entries in
    by_parts run step Idle (Says s) entries (reply.Refused r) h (record {
      outcome = RefusedWith r;
      ends = record {
        ends = may;
        leaves = change_idle_ended epoch deps cause change is;
        round = no_entries run p refl;
        cube = λ looked. cube_there run step p (cube_needed s) refl refl (cube looked);
      };
      is = refl;
    })

pub ended_inside : (run : RunRecord) (step : SessionStep) (s : Statement) (r : Refusal) (writer : Snapshot)
    (cause : AbortCause) → IsStep step (Open writer) (Says s) (open_abort step writer.epoch cause)
    → is_change s ≡ true → cause_of r ≡ Some cause
    → MayEnd (catalog_of run) (with_parts step (Open writer) (Says s) (open_abort step writer.epoch cause))
    (RefusedWith r)
    → (looked_for_cube (RefusedWith r) ≡ true → HasCube run step (cube_needed s))
    → IsReply run step (reply.Refused r)
ended_inside run step s r writer cause h change is may cube =
    let entries : List JournalEntry = open_abort step writer.epoch cause in
    let p = with_parts step (Open writer) (Says s) entries in
    by_parts run step (Open writer) (Says s) entries (reply.Refused r) h (record {
      outcome = RefusedWith r;
      ends = record {
        ends = may;
        leaves = change_open_ended cause change is;
        round = no_entries run p refl;
        cube = λ looked. cube_there run step p (cube_needed s) refl refl (cube looked);
      };
      is = refl;
    })
