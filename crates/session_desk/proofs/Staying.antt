-- A statement that leaves its session in the mode that it was in, by one entry of its own.
use Rattle.std.proofs.Common.{◌≡◌, ◌∙◌, ℕ, ◌+◌, ◌≤◌, Bool, true, false, cond, List, [], ◌∷◌, Option, Some, None, refl, sym, ap, subst, arith}
use Rattle.std.specs.List.{count_by, filter_map, list_all}
use Rattle.std.proofs.Math.Nat.{add-zero}
use Rattle.std.specs.Option.{IsSomeAnd}
use Rattle.cube_language.specs.declared.statement.Statement.TheVariants.{Watch}
use Rattle.cube_journal.specs.Entries.{statement_of}
use Rattle.cube_journal.specs.Counters.{JournalState}
use Rattle.cube_journal.specs.declared.journal_entry.JournalEntry.{JournalEntry}
use Rattle.cube_journal.specs.declared.journal_entry.JournalEntry.TheVariants as entry
use Rattle.cube_journal.specs.declared.reply.Reply.{Reply}
use Rattle.cube_run.specs.RunRecords.{RunRecord, Sentence, Says, SaysNone, made_by}
use Rattle.cube_run.specs.RunText.{IsReply}
use Rattle.cube_run.specs.RunTransactions.{DoneOperation, epoch_done, operation_asked, operation_at}
use Rattle.cube_run.specs.SessionStates.{Mode, Idle, Open, Aborted, is_commit, mode_after, watch_after}
use Rattle.cube_run.specs.SessionSteps.{session_part}
use Rattle.played_scripts.specs.PlayedRuns.{AreNumbered}
use Rattle.one_session.specs.Behind.{last_step}
use Rattle.one_session.specs.Pasts.{Beginning, GoesOn, IsOneMore, SessionPast, has_one_owner, last_number}
use Rattle.one_session.proofs.Entries.{longer_by_one}
use Rattle.aosi_desk.specs.State.{state_of}
use Rattle.aosi_desk.specs.Desks.{DeskState}
use Rattle.session_replies.specs.Modes.{mode_of}
use Rattle.session_replies.specs.StepParts.{IsStep}
use Rattle.session_desk.specs.declared.session.Session.{Session}
use Rattle.session_desk.specs.AtDesk.{IsAtDesk, IsServing, change_epoch, desk_with_entries}
use Rattle.session_desk.specs.Executed.{ExecutesAtDesk}
use Rattle.session_desk.specs.Standing.{StandsBehind, session_state}
use Rattle.session_desk.proofs.Agreeing.{AgreeFor}
use Rattle.session_desk.proofs.Growing.{executes, grown, world_of}

-- An entry changes no session's mode, commits nothing and changes no row.
pub record IsStill (e : JournalEntry) : Type 0 where
  pub mode : (mode : Mode) → mode_after mode (e ∷ []) ≡ mode
  pub watch : (sentence : Sentence) → watch_after None sentence (e ∷ []) ≡ None
  pub commit : is_commit e ≡ false
  pub epoch : (mode : Mode) → epoch_done mode (e ∷ []) ≡ None

refused_mode : (session statement code : ℕ) (mode : Mode)
    → mode_after mode (entry.Refused session statement code ∷ []) ≡ mode
refused_mode session statement code Idle = refl
refused_mode session statement code (Open writer) = refl
refused_mode session statement code (Aborted epoch) = refl

refused_epoch : (session statement code : ℕ) (mode : Mode)
    → epoch_done mode (entry.Refused session statement code ∷ []) ≡ None
refused_epoch session statement code Idle = refl
refused_epoch session statement code (Open writer) = refl
refused_epoch session statement code (Aborted epoch) = refl

refused_watch : (session statement code : ℕ) (sentence : Sentence)
    → watch_after None sentence (entry.Refused session statement code ∷ []) ≡ None
refused_watch session statement code (SaysNone place) = refl
refused_watch session statement code (Says (Watch items cube conds group)) = refl
refused_watch session statement code (Says s) = refl

pub refused_still : (session statement code : ℕ) → IsStill (entry.Refused session statement code)
refused_still session statement code = record {
  mode = refused_mode session statement code;
  watch = refused_watch session statement code;
  commit = refl;
  epoch = refused_epoch session statement code;
}

flushed_mode : (session statement : ℕ) (mode : Mode) → mode_after mode (entry.Flushed session statement ∷ []) ≡ mode
flushed_mode session statement Idle = refl
flushed_mode session statement (Open writer) = refl
flushed_mode session statement (Aborted epoch) = refl

flushed_epoch : (session statement : ℕ) (mode : Mode) → epoch_done mode (entry.Flushed session statement ∷ []) ≡ None
flushed_epoch session statement Idle = refl
flushed_epoch session statement (Open writer) = refl
flushed_epoch session statement (Aborted epoch) = refl

flushed_watch : (session statement : ℕ) (sentence : Sentence)
    → watch_after None sentence (entry.Flushed session statement ∷ []) ≡ None
flushed_watch session statement (SaysNone place) = refl
flushed_watch session statement (Says (Watch items cube conds group)) = refl
flushed_watch session statement (Says s) = refl

pub flushed_still : (session statement : ℕ) → IsStill (entry.Flushed session statement)
flushed_still session statement = record {
  mode = flushed_mode session statement;
  watch = flushed_watch session statement;
  commit = refl;
  epoch = flushed_epoch session statement;
}

purged_mode : (session statement at : ℕ) (mode : Mode) → mode_after mode (entry.Purged session statement at ∷ []) ≡ mode
purged_mode session statement at Idle = refl
purged_mode session statement at (Open writer) = refl
purged_mode session statement at (Aborted epoch) = refl

purged_epoch : (session statement at : ℕ) (mode : Mode)
    → epoch_done mode (entry.Purged session statement at ∷ []) ≡ None
purged_epoch session statement at Idle = refl
purged_epoch session statement at (Open writer) = refl
purged_epoch session statement at (Aborted epoch) = refl

purged_watch : (session statement at : ℕ) (sentence : Sentence)
    → watch_after None sentence (entry.Purged session statement at ∷ []) ≡ None
purged_watch session statement at (SaysNone place) = refl
purged_watch session statement at (Says (Watch items cube conds group)) = refl
purged_watch session statement at (Says s) = refl

pub purged_still : (session statement at : ℕ) → IsStill (entry.Purged session statement at)
purged_still session statement at = record {
  mode = purged_mode session statement at;
  watch = purged_watch session statement at;
  commit = refl;
  epoch = purged_epoch session statement at;
}

show_mode : (session statement : ℕ) (mode : Mode) → mode_after mode (entry.Show session statement ∷ []) ≡ mode
show_mode session statement Idle = refl
show_mode session statement (Open writer) = refl
show_mode session statement (Aborted epoch) = refl

show_epoch : (session statement : ℕ) (mode : Mode) → epoch_done mode (entry.Show session statement ∷ []) ≡ None
show_epoch session statement Idle = refl
show_epoch session statement (Open writer) = refl
show_epoch session statement (Aborted epoch) = refl

show_watch : (session statement : ℕ) (sentence : Sentence)
    → watch_after None sentence (entry.Show session statement ∷ []) ≡ None
show_watch session statement (SaysNone place) = refl
show_watch session statement (Says (Watch items cube conds group)) = refl
show_watch session statement (Says s) = refl

pub show_still : (session statement : ℕ) → IsStill (entry.Show session statement)
show_still session statement = record {
  mode = show_mode session statement;
  watch = show_watch session statement;
  commit = refl;
  epoch = show_epoch session statement;
}

-- What the desk and the session have after such a statement, whose own entry is this for its number.
pub record Stays (added : List JournalEntry) (own : ℕ → JournalEntry) (desk : DeskState) (session : Session)
    (new_desk : DeskState) (now : Session) : Type 0 where
  pub desk_is : new_desk ≡ desk_with_entries desk added
  pub mode_is : now.mode ≡ session.mode
  pub statements : now.statements ≡ session.statements + 1
  pub commits : now.commits ≡ session.commits
  pub every : now.round_every ≡ session.round_every
  pub part : session_part 1 added ≡ own now.statements ∷ []
  pub numbered : statement_of (own now.statements) ≡ Some now.statements
  pub owners : list_all has_one_owner added ≡ true
  pub no_cube : (run : RunRecord) → filter_map (made_by run) added ≡ []
  pub still : IsStill (own now.statements)
  pub next : (state_of new_desk.register).ec ≡ (state_of desk.register).ec

-- The reply that follows from such a step.
abbrev pub Tells : Sentence → List JournalEntry → (ℕ → JournalEntry) → DeskState → Session → Reply → Type 0
Tells sentence added own desk session said =
    (beginning : Beginning) (past : SessionPast) (names : List (List (List (List ℕ)))) (done : List DoneOperation)
    (run : RunRecord) → StandsBehind beginning past (world_of desk names session done)
    → IsOneMore past (grown past sentence added) sentence added
    → GoesOn beginning (grown past sentence added) run
    → IsStep (last_step (grown past sentence added) (session_state session) sentence added) (mode_of session.mode)
    sentence (own (last_number (grown past sentence added)) ∷ [])
    → IsReply run (last_step (grown past sentence added) (session_state session) sentence added) said

same_epoch : (s t : JournalState) (mode : Mode) → t.ec ≡ s.ec → change_epoch s mode ≤ change_epoch t mode
same_epoch s t Idle h = omega (arith, h)
same_epoch s t (Open writer) h = omega arith
same_epoch s t (Aborted epoch) h = omega (arith, h)

numbered_one : (n : ℕ) (e : JournalEntry) → statement_of e ≡ Some n → AreNumbered n n (e ∷ [])
numbered_one n e h =
    subst (λ (o : Option ℕ). IsSomeAnd o (λ j. (n ≤ j) × (j ≤ n) × AreNumbered j n [])) (sym h)
    (omega arith, omega arith, tt)

no_commits : (e : JournalEntry) → is_commit e ≡ false → count_by is_commit (e ∷ []) ≡ 0
no_commits e h = ap (λ (b : Bool). 0 + cond b 1 0) h

pub stay_executes : (sentence : Sentence) (added : List JournalEntry) (own : ℕ → JournalEntry) (desk : DeskState)
    (session : Session) (new_desk : DeskState) (now : Session) (said : Reply)
    → Stays added own desk session new_desk now → AgreeFor sentence now.statements desk.cubes added desk.cubes
    → Tells sentence added own desk session said
    → ExecutesAtDesk sentence desk session new_desk now said
stay_executes sentence added own desk session new_desk now said h agrees tells =
    let mode = mode_of session.mode in
    executes sentence added desk session new_desk now said
    (record {
      desk_is = h.desk_is;
      statements = h.statements;
      every = h.every;
      becomes = (λ i. record {
        mode =
            (ap mode_of h.mode_is ∙ sym (h.still.mode mode)
            ∙ ap (λ (es : List JournalEntry). mode_after mode es) (sym h.part)) i;
        watch =
            (sym (h.still.watch sentence)
            ∙ ap (λ (es : List JournalEntry). watch_after None sentence es) (sym h.part)) i;
        commits =
            (h.commits ∙ sym (add-zero session.commits)
            ∙ ap (λ (n : ℕ). session.commits + n) (sym (no_commits (own now.statements) h.still.commit))
            ∙ ap (λ (es : List JournalEntry). session.commits + count_by is_commit es) (sym h.part)) i;
      });
      own =
          subst (AreNumbered now.statements now.statements) (sym h.part)
          (numbered_one now.statements (own now.statements) h.numbered);
      owners = h.owners;
      no_cube = h.no_cube;
      agrees = agrees;
      epochs =
          subst (λ (m : Mode). change_epoch (state_of desk.register) mode
          ≤ change_epoch (state_of new_desk.register) m) (sym (ap mode_of h.mode_is))
          (same_epoch (state_of desk.register) (state_of new_desk.register) mode h.next);
      no_change = λ catalog number file.
          ap (λ (es : List JournalEntry).
          operation_at number (epoch_done mode es) (operation_asked catalog file sentence)) h.part
          ∙ ap (λ (o : Option ℕ). operation_at number o (operation_asked catalog file sentence)) (h.still.epoch mode);
    })
    (λ beginning past names done run stands more on.
    let after = grown past sentence added in
    let number : now.statements ≡ last_number after =
    h.statements ∙ ap (λ (n : ℕ). n + 1) (sym stands.number) ∙ sym (longer_by_one past after sentence added more)
    in
    tells beginning past names done run stands more on (record {
      mode_is = refl;
      sentence_is = refl;
      entries_are = h.part ∙ ap (λ (n : ℕ). own n ∷ []) number;
    }))

-- The desk still serves the session.
pub at_stays : (added : List JournalEntry) (own : ℕ → JournalEntry) (desk : DeskState) (session : Session)
    (new_desk : DeskState) (now : Session) → IsAtDesk desk session → Stays added own desk session new_desk now
    → IsServing (state_of new_desk.register) desk.register.safe (mode_of session.mode) → IsAtDesk new_desk now
at_stays added own desk session new_desk now at h serving = record {
  alone = ap (λ (d : DeskState). d.register.sessions) h.desk_is ∙ at.alone;
  serving =
      coe 1 0 (i. IsServing (state_of new_desk.register) (ap (λ (d : DeskState). d.register.safe) h.desk_is i)
      (ap mode_of h.mode_is i)) serving;
  counted =
      let counted = at.counted in
      let more = h.statements in
      let same = h.commits in
      omega (arith, counted, more, same);
}
