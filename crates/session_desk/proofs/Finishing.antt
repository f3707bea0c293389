-- COMMIT and ROLLBACK.
use Rattle.std.proofs.Common.{◌≡◌, ◌∙◌, ℕ, ◌+◌, ◌≤◌, Bool, true, false, cond, List, [], ◌∷◌, ◌++◌, None, refl, sym, ap, subst, arith}
use Rattle.std.specs.Prelude.{fold, unwrap_or}
use Rattle.std.specs.List.{count_by, filter_map, list_all, list_any}
use Rattle.std.specs.Option.{option_map_or}
use Rattle.std.proofs.Math.Nat.{add-zero}
use Rattle.std.proofs.lemmas.List.Sums.{fold-append, sum_by_from}
use Rattle.cube_values.specs.declared.snapshot.Snapshot.{Snapshot}
use Rattle.cube_language.specs.declared.statement.Statement.TheVariants.{Commit, Rollback}
use Rattle.cube_journal.specs.Counters.{JournalState, held_by, state_after}
use Rattle.cube_journal.specs.declared.counters.OpenSnapshot.{OpenSnapshot}
use Rattle.cube_journal.specs.declared.journal_entry.AbortCause.TheVariants as abort
use Rattle.cube_journal.specs.declared.journal_entry.JournalEntry.{JournalEntry}
use Rattle.cube_journal.specs.declared.journal_entry.JournalEntry.TheVariants as entry
use Rattle.cube_journal.specs.declared.reply.Reply.TheVariants as reply
use Rattle.cube_run.specs.Merge.{RoundFollows}
use Rattle.cube_run.specs.RunRecords.{RunRecord, Says, made_by}
use Rattle.cube_run.specs.RunText.{IsReply}
use Rattle.cube_run.specs.RunTransactions.{epoch_done, operation_at}
use Rattle.cube_run.specs.SessionStates.{Mode, Open, Aborted, is_commit, mode_after}
use Rattle.cube_run.specs.SessionSteps.{session_part}
use Rattle.cube_run.specs.StatementEntries.{round_done, round_without_memory}
use Rattle.played_scripts.specs.PlayedRuns.{AreNumbered}
use Rattle.one_session.specs.Behind.{last_step}
use Rattle.one_session.specs.Pasts.{has_one_owner, last_number}
use Rattle.one_session.proofs.Entries.{longer_by_one}
use Rattle.aosi_desk.specs.State.{after_abort, after_commit, held_epoch, state_of}
use Rattle.aosi_desk.specs.Desks.{DeskState, desk_over, speaks_of_cubes}
use Rattle.session_replies.specs.declared.mode.SessionMode.{SessionMode}
use Rattle.session_replies.specs.declared.mode.SessionMode.TheVariants as variant
use Rattle.session_replies.specs.Modes.{mode_of, round_follows}
use Rattle.session_replies.proofs.Answers.{cleared, committed, rolled_back}
use Rattle.session_desk.specs.declared.session.Session.{Session}
use Rattle.session_desk.specs.AtDesk.{IsAtDesk, IsOpenAt, IsServing, change_epoch, desk_with_entries}
use Rattle.session_desk.specs.Entries.{FollowsCommit, HasFollowed, RoundAfter, is_done, round_entries, wants_memory}
use Rattle.session_desk.specs.Executed.{ExecutesAtDesk}
use Rattle.session_desk.specs.Standing.{session_state}
use Rattle.session_desk.proofs.Agreeing.{none_for}
use Rattle.session_desk.proofs.Growing.{executes, grown}
use Rattle.session_desk.proofs.RoundEntries.{desk_more, round_cubes, round_epoch, round_owners, round_part, round_speaks, state_more}

-- The writer of a mode that has a transaction open with an epoch.
pub record HasOpen (m : SessionMode) (epoch : ℕ) : Type 0 where
  pub writer : Snapshot
  pub mode_is : m ≡ variant.Open writer
  pub epoch_is : epoch ≡ writer.epoch

pub open_of : (m : SessionMode) (epoch : ℕ) → IsOpenAt m epoch → HasOpen m epoch
open_of (variant.Open writer) epoch h = record { writer = writer; mode_is = refl; epoch_is = h }
open_of variant.Idle epoch h = absurd h
open_of (variant.Aborted at) epoch h = absurd h

pub held_here : (s : JournalState) (safe : ℕ) (writer : Snapshot) → IsServing s safe (Open writer)
    → held_epoch s 1 ≡ writer.epoch
held_here s safe writer h =
    ap (λ (os : List OpenSnapshot). option_map_or (λ (h : Snapshot). h.epoch) (held_by os 1) 0) h.snapshots

-- What stands after a commit is a round's, or nothing.
pub record Rear (statement : ℕ) (is_due : Bool) (s : JournalState) (added : List JournalEntry) : Type 0 where
  pub follows : RoundFollows 1 statement is_due (session_part 1 added)
  pub numbered : AreNumbered statement statement (session_part 1 added)
  pub commits : count_by is_commit (session_part 1 added) ≡ 0
  pub owners : list_all has_one_owner added ≡ true
  pub cubes : (run : RunRecord) → filter_map (made_by run) added ≡ []
  pub speaks_of_none : list_any speaks_of_cubes added ≡ false
  pub epoch : (fold state_after s added).ec ≡ s.ec

fold_more : (s : JournalState) (es more : List JournalEntry)
    → fold state_after s (es ++ more) ≡ fold state_after (fold state_after s es) more
fold_more s es more = fold-append state_after s es more

rear_of_round : (statement : ℕ) (s : JournalState) {added : List JournalEntry} → RoundAfter statement s added
    → Rear statement true s added
rear_of_round statement s (is_done epoch) =
    let rest : List JournalEntry = entry.Flushed 1 statement ∷ entry.Purged 1 statement epoch ∷ [] in
    let part : session_part 1 (round_entries s ++ rest) ≡ rest = round_part s rest in
    record {
      follows = subst (RoundFollows 1 statement true) (sym part) (round_done epoch);
      numbered =
          subst (AreNumbered statement statement) (sym part)
          (omega arith, omega arith, (omega arith, omega arith, tt));
      commits = ap (count_by is_commit) part;
      owners = round_owners s rest;
      cubes = round_cubes s rest;
      speaks_of_none = round_speaks s rest;
      epoch = ap (λ (t : JournalState). t.ec) (fold_more s (round_entries s) rest) ∙ round_epoch s;
    }
rear_of_round statement s wants_memory = record {
  follows = round_without_memory;
  numbered = (omega arith, omega arith, tt);
  commits = refl;
  owners = refl;
  cubes = λ run. refl;
  speaks_of_none = refl;
  epoch = refl;
}

pub rear_after : (statement : ℕ) (s : JournalState) (is_due : Bool) (added : List JournalEntry)
    → FollowsCommit statement s is_due added → Rear statement is_due s added
rear_after statement s true added h = rear_of_round statement s h
rear_after statement s false added h =
    subst (Rear statement false s) (sym h) (record {
      follows = refl;
      numbered = tt;
      commits = refl;
      owners = refl;
      cubes = λ run. refl;
      speaks_of_none = refl;
      epoch = refl;
    })

-- A session commits its transaction at the desk.
pub record Commits (epoch : ℕ) (desk : DeskState) (session : Session) (new_desk : DeskState) (now : Session)
    : Type 0 where
  pub was_open : HasOpen session.mode epoch
  pub added : List JournalEntry
  pub desk_is : new_desk ≡ desk_with_entries desk (entry.Committed 1 now.statements epoch ∷ added)
  pub mode_is : now.mode ≡ variant.Idle
  pub statements : now.statements ≡ session.statements + 1
  pub commits : now.commits ≡ session.commits + 1
  pub every : now.round_every ≡ session.round_every
  pub follows : FollowsCommit now.statements
      (state_after (state_of desk.register) (entry.Committed 1 now.statements epoch))
      (round_follows (unwrap_or session.round_every 0) session.commits) added

-- What the desk has come to then.
state_committed : (epoch : ℕ) (desk : DeskState) (session : Session) (new_desk : DeskState) (now : Session)
    → (h : Commits epoch desk session new_desk now)
    → state_of new_desk.register
    ≡ fold state_after (state_after (state_of desk.register) (entry.Committed 1 now.statements epoch)) h.added
state_committed epoch desk session new_desk now h =
    ap (λ (d : DeskState). state_of d.register) h.desk_is
    ∙ state_more desk (entry.Committed 1 now.statements epoch ∷ h.added)

pub serving_open : (desk : DeskState) (session : Session) (epoch : ℕ) → IsAtDesk desk session
    → (o : HasOpen session.mode epoch) → IsServing (state_of desk.register) desk.register.safe (Open o.writer)
serving_open desk session epoch at o =
    subst (IsServing (state_of desk.register) desk.register.safe) (ap mode_of o.mode_is) at.serving

pub commit_executes : (epoch : ℕ) (desk : DeskState) (session : Session) (new_desk : DeskState) (now : Session)
    → IsAtDesk desk session → Commits epoch desk session new_desk now
    → ExecutesAtDesk (Says Commit) desk session new_desk now (reply.Committed epoch)
commit_executes epoch desk session new_desk now at h =
    let s = state_of desk.register in
    let writer = h.was_open.writer in
    let was : mode_of session.mode ≡ Open writer = ap mode_of h.was_open.mode_is in
    let entries : List JournalEntry = entry.Committed 1 now.statements epoch ∷ h.added in
    let part : List JournalEntry = entry.Committed 1 now.statements epoch ∷ session_part 1 h.added in
    let is_due = round_follows (unwrap_or session.round_every 0) session.commits in
    let tail = rear_after now.statements (state_after s (entry.Committed 1 now.statements epoch)) is_due h.added h.follows in
    let serving = serving_open desk session epoch at h.was_open in
    executes (Says Commit) entries desk session new_desk now (reply.Committed epoch)
    (record {
      desk_is = h.desk_is;
      statements = h.statements;
      every = h.every;
      becomes = (λ i. record {
        mode = (ap mode_of h.mode_is ∙ ap (λ (m : Mode). mode_after m part) (sym was)) i;
        watch = None;
        commits =
            (h.commits ∙ ap (λ (n : ℕ). session.commits + (1 + n)) (sym tail.commits)
            ∙ ap (λ (n : ℕ). session.commits + n)
            (sym (sum_by_from (λ (e : JournalEntry). cond (is_commit e) 1 0) 1 (session_part 1 h.added)))) i;
      });
      own = (omega arith, omega arith, tail.numbered);
      owners = tail.owners;
      no_cube = tail.cubes;
      agrees = none_for (Says Commit) now.statements desk.cubes entries tail.speaks_of_none;
      epochs =
          let last = serving.writer.last in
          let ec : (state_of new_desk.register).ec ≡ s.ec =
          ap (λ (t : JournalState). t.ec) (state_committed epoch desk session new_desk now h) ∙ tail.epoch
          in
          subst (λ (m : Mode). change_epoch s m
          ≤ change_epoch (state_of new_desk.register) (mode_of now.mode)) (sym was)
          (subst (λ (m : Mode). writer.epoch ≤ change_epoch (state_of new_desk.register) m)
          (sym (ap mode_of h.mode_is)) (omega (arith, last, ec)));
      no_change = λ catalog number file.
          ap (λ (m : Mode). operation_at number (epoch_done m part) None) was;
    })
    (λ beginning past names done run stands more on.
    let after = grown past (Says Commit) entries in
    let step = last_step after (session_state session) (Says Commit) entries in
    let number : now.statements ≡ last_number after =
    h.statements ∙ ap (λ (n : ℕ). n + 1) (sym stands.number) ∙ sym (longer_by_one past after (Says Commit) entries more)
    in
    let every : unwrap_or session.round_every 0 ≡ run.round_every = sym stands.every ∙ sym on.round_every in
    subst (λ (e : ℕ). IsReply run step (reply.Committed e)) (sym h.was_open.epoch_is)
    (committed run step writer (session_part 1 h.added)
    (record {
      mode_is = was;
      sentence_is = refl;
      entries_are = (λ i. entry.Committed 1 (number i) (h.was_open.epoch_is i) ∷ session_part 1 h.added);
    })
    (coe 0 1 (i. RoundFollows 1 (number i) (round_follows (every i) session.commits) (session_part 1 h.added))
    tail.follows)))

-- A session rolls its transaction back at the desk.
pub record RollsBack (epoch : ℕ) (desk : DeskState) (session : Session) (new_desk : DeskState) (now : Session)
    : Type 0 where
  pub was_open : HasOpen session.mode epoch
  pub desk_is : new_desk ≡ desk_with_entries desk (entry.Aborted 1 now.statements epoch abort.Asked ∷ [])
  pub mode_is : now.mode ≡ variant.Idle
  pub statements : now.statements ≡ session.statements + 1
  pub commits : now.commits ≡ session.commits
  pub every : now.round_every ≡ session.round_every

state_rolled : (epoch : ℕ) (desk : DeskState) (session : Session) (new_desk : DeskState) (now : Session)
    → RollsBack epoch desk session new_desk now
    → state_of new_desk.register
    ≡ state_after (state_of desk.register) (entry.Aborted 1 now.statements epoch abort.Asked)
state_rolled epoch desk session new_desk now h =
    ap (λ (d : DeskState). state_of d.register) h.desk_is
    ∙ state_more desk (entry.Aborted 1 now.statements epoch abort.Asked ∷ [])

pub rolls_back : (epoch : ℕ) (desk : DeskState) (session : Session) (new_desk : DeskState) (now : Session)
    → IsAtDesk desk session → RollsBack epoch desk session new_desk now
    → ExecutesAtDesk (Says Rollback) desk session new_desk now (reply.RolledBack epoch)
rolls_back epoch desk session new_desk now at h =
    let s = state_of desk.register in
    let writer = h.was_open.writer in
    let was : mode_of session.mode ≡ Open writer = ap mode_of h.was_open.mode_is in
    let entries : List JournalEntry = entry.Aborted 1 now.statements epoch abort.Asked ∷ [] in
    let serving = serving_open desk session epoch at h.was_open in
    executes (Says Rollback) entries desk session new_desk now (reply.RolledBack epoch)
    (record {
      desk_is = h.desk_is;
      statements = h.statements;
      every = h.every;
      becomes = (λ i. record {
        mode = (ap mode_of h.mode_is ∙ ap (λ (m : Mode). mode_after m entries) (sym was)) i;
        watch = None;
        commits = (h.commits ∙ sym (add-zero session.commits)) i;
      });
      own = (omega arith, omega arith, tt);
      owners = refl;
      no_cube = λ run. refl;
      agrees = none_for (Says Rollback) now.statements desk.cubes entries refl;
      epochs =
          let last = serving.writer.last in
          let ec : (state_of new_desk.register).ec ≡ s.ec =
          ap (λ (t : JournalState). t.ec) (state_rolled epoch desk session new_desk now h)
          in
          subst (λ (m : Mode). change_epoch s m
          ≤ change_epoch (state_of new_desk.register) (mode_of now.mode)) (sym was)
          (subst (λ (m : Mode). writer.epoch ≤ change_epoch (state_of new_desk.register) m)
          (sym (ap mode_of h.mode_is)) (omega (arith, last, ec)));
      no_change = λ catalog number file.
          ap (λ (m : Mode). operation_at number (epoch_done m entries) None) was;
    })
    (λ beginning past names done run stands more on.
    let after = grown past (Says Rollback) entries in
    let step = last_step after (session_state session) (Says Rollback) entries in
    let number : now.statements ≡ last_number after =
    h.statements ∙ ap (λ (n : ℕ). n + 1) (sym stands.number)
    ∙ sym (longer_by_one past after (Says Rollback) entries more)
    in
    subst (λ (e : ℕ). IsReply run step (reply.RolledBack e)) (sym h.was_open.epoch_is)
    (rolled_back run step writer
    (record {
      mode_is = was;
      sentence_is = refl;
      entries_are = (λ i. entry.Aborted 1 (number i) (h.was_open.epoch_is i) abort.Asked ∷ []);
    })))

-- A session leaves a transaction behind that a fault ended.
pub record Clears (epoch : ℕ) (desk : DeskState) (session : Session) (new_desk : DeskState) (now : Session)
    : Type 0 where
  pub was : session.mode ≡ variant.Aborted epoch
  pub desk_is : new_desk ≡ desk_with_entries desk (entry.Cleared 1 now.statements ∷ [])
  pub mode_is : now.mode ≡ variant.Idle
  pub statements : now.statements ≡ session.statements + 1
  pub commits : now.commits ≡ session.commits
  pub every : now.round_every ≡ session.round_every

state_cleared : (epoch : ℕ) (desk : DeskState) (session : Session) (new_desk : DeskState) (now : Session)
    → Clears epoch desk session new_desk now → state_of new_desk.register ≡ state_of desk.register
state_cleared epoch desk session new_desk now h =
    ap (λ (d : DeskState). state_of d.register) h.desk_is ∙ state_more desk (entry.Cleared 1 now.statements ∷ [])

pub clear_executes : (epoch : ℕ) (desk : DeskState) (session : Session) (new_desk : DeskState) (now : Session)
    → Clears epoch desk session new_desk now
    → ExecutesAtDesk (Says Rollback) desk session new_desk now (reply.RolledBack epoch)
clear_executes epoch desk session new_desk now h =
    let s = state_of desk.register in
    let was : mode_of session.mode ≡ Aborted epoch = ap mode_of h.was in
    let entries : List JournalEntry = entry.Cleared 1 now.statements ∷ [] in
    executes (Says Rollback) entries desk session new_desk now (reply.RolledBack epoch)
    (record {
      desk_is = h.desk_is;
      statements = h.statements;
      every = h.every;
      becomes = (λ i. record {
        mode = (ap mode_of h.mode_is ∙ ap (λ (m : Mode). mode_after m entries) (sym was)) i;
        watch = None;
        commits = (h.commits ∙ sym (add-zero session.commits)) i;
      });
      own = (omega arith, omega arith, tt);
      owners = refl;
      no_cube = λ run. refl;
      agrees = none_for (Says Rollback) now.statements desk.cubes entries refl;
      epochs =
          let ec : (state_of new_desk.register).ec ≡ s.ec =
          ap (λ (t : JournalState). t.ec) (state_cleared epoch desk session new_desk now h)
          in
          subst (λ (m : Mode). change_epoch s m
          ≤ change_epoch (state_of new_desk.register) (mode_of now.mode)) (sym was)
          (subst (λ (m : Mode). s.ec ≤ change_epoch (state_of new_desk.register) m)
          (sym (ap mode_of h.mode_is)) (omega (arith, ec)));
      no_change = λ catalog number file.
          ap (λ (m : Mode). operation_at number (epoch_done m entries) None) was;
    })
    (λ beginning past names done run stands more on.
    let after = grown past (Says Rollback) entries in
    let number : now.statements ≡ last_number after =
    h.statements ∙ ap (λ (n : ℕ). n + 1) (sym stands.number)
    ∙ sym (longer_by_one past after (Says Rollback) entries more)
    in
    cleared run (last_step after (session_state session) (Says Rollback) entries) epoch
    (record {
      mode_is = was;
      sentence_is = refl;
      entries_are = (λ i. entry.Cleared 1 (number i) ∷ []);
    }))

-- A session without its transaction, after one statement more and so many commits more.
abbrev pub without_transaction : Session → ℕ → Session
without_transaction session more = record {
  mode = variant.Idle;
  statements = session.statements + 1;
  commits = session.commits + more;
  round_every = session.round_every;
}

pub held_open : (desk : DeskState) (session : Session) (epoch : ℕ) → IsAtDesk desk session
    → HasOpen session.mode epoch → held_epoch (state_of desk.register) 1 ≡ epoch
held_open desk session epoch at o =
    held_here (state_of desk.register) desk.register.safe o.writer (serving_open desk session epoch at o)
    ∙ sym o.epoch_is

pub rolls_back_open : (epoch : ℕ) (desk : DeskState) (session : Session) (new_desk : DeskState)
    → IsAtDesk desk session → IsOpenAt session.mode epoch
    → new_desk ≡ desk_over desk (after_abort desk.register 1 (session.statements + 1) abort.Asked)
    → ExecutesAtDesk (Says Rollback) desk session new_desk
    (record {
      mode = variant.Idle;
      statements = session.statements + 1;
      commits = session.commits;
      round_every = session.round_every;
    })
    (reply.RolledBack epoch)
rolls_back_open epoch desk session new_desk at is desk_is =
    let o = open_of session.mode epoch is in
    let now : Session = record {
      mode = variant.Idle;
      statements = session.statements + 1;
      commits = session.commits;
      round_every = session.round_every;
    } in
    rolls_back epoch desk session new_desk now at (record {
      was_open = o;
      desk_is =
          desk_is
          ∙ ap (λ (e : ℕ). desk_with_entries desk (entry.Aborted 1 (session.statements + 1) e abort.Asked ∷ []))
          (held_open desk session epoch at o);
      mode_is = refl;
      statements = refl;
      commits = refl;
      every = refl;
    })

pub commits_open : (epoch : ℕ) (desk : DeskState) (session : Session) (middle new_desk : DeskState) (is_due : Bool)
    → IsAtDesk desk session → IsOpenAt session.mode epoch
    → middle ≡ desk_over desk (after_commit desk.register 1 (session.statements + 1))
    → is_due ≡ round_follows (unwrap_or session.round_every 0) session.commits
    → HasFollowed (session.statements + 1) is_due middle new_desk
    → ExecutesAtDesk (Says Commit) desk session new_desk (without_transaction session 1) (reply.Committed epoch)
commits_open epoch desk session middle new_desk is_due at is middle_is due f =
    let o = open_of session.mode epoch is in
    let number = session.statements + 1 in
    let ended : middle ≡ desk_with_entries desk (entry.Committed 1 number epoch ∷ []) =
    middle_is
    ∙ ap (λ (e : ℕ). desk_with_entries desk (entry.Committed 1 number e ∷ [])) (held_open desk session epoch at o)
    in
    commit_executes epoch desk session new_desk (without_transaction session 1) at (record {
      was_open = o;
      added = f.added;
      desk_is =
          f.desk_is
          ∙ ap (λ (d : DeskState). desk_with_entries d f.added) ended
          ∙ desk_more desk (entry.Committed 1 number epoch ∷ []) f.added;
      mode_is = refl;
      statements = refl;
      commits = refl;
      every = refl;
      follows =
          coe 0 1 (i. FollowsCommit number ((ap (λ (d : DeskState). state_of d.register) ended
          ∙ state_more desk (entry.Committed 1 number epoch ∷ [])) i) (due i) f.added) f.follows;
    })
