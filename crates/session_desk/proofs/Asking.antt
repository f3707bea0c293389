-- FLUSH, PURGE and SHOW EPOCHS.
use Rattle.std.proofs.Common.{◌≡◌, ◌∙◌, ℕ, ◌+◌, true, List, [], ◌∷◌, ◌++◌, refl, sym, ap, subst, append_assoc, append-nil}
use Rattle.std.specs.Prelude.{fold}
use Rattle.std.proofs.lemmas.List.Elements.{filter-append}
use Rattle.std.proofs.lemmas.List.Sums.{fold-append}
use Rattle.cube_language.specs.declared.statement.Statement.TheVariants.{Flush, Purge, ShowEpochs}
use Rattle.cube_journal.specs.Counters.{JournalState, counters, journal_state, state_after}
use Rattle.cube_journal.specs.Legal.{WasFlushed, WasSafe}
use Rattle.cube_journal.specs.declared.counters.Counters.{Counters}
use Rattle.cube_journal.specs.declared.journal_entry.JournalEntry.{JournalEntry}
use Rattle.cube_journal.specs.declared.journal_entry.JournalEntry.TheVariants as entry
use Rattle.cube_journal.specs.declared.reply.Reply.{Reply}
use Rattle.cube_journal.specs.declared.reply.Reply.TheVariants as reply
use Rattle.cube_run.specs.RunRecords.{RunRecord, Sentence, Says}
use Rattle.cube_run.specs.RunText.{IsReply, state_before}
use Rattle.cube_run.specs.SessionSteps.{belongs_to, journal_before, session_part}
use Rattle.played_scripts.specs.PlayedRuns.{AreNumbered}
use Rattle.one_session.specs.Behind.{last_step}
use Rattle.one_session.specs.Pasts.{Beginning, GoesOn, IsInTurn, IsOneMore, SessionPast, last_number}
use Rattle.one_session.proofs.Befores.{before_first}
use Rattle.one_session.proofs.Entries.{longer_by_one}
use Rattle.aosi_desk.specs.State.{state_of}
use Rattle.aosi_desk.specs.Desks.{DeskState, desk_with_entry}
use Rattle.session_replies.specs.Modes.{mode_of}
use Rattle.session_replies.proofs.Answers.{flushed, purged, shown}
use Rattle.session_desk.specs.declared.session.Session.{Session}
use Rattle.session_desk.specs.AtDesk.{IsAtDesk, IsServing, desk_with_entries}
use Rattle.session_desk.specs.Entries.{round_entries}
use Rattle.session_desk.specs.declared.answered.Answered.{Answered}
use Rattle.session_desk.specs.declared.answered.Answered.TheVariants.{Replied, Stopped}
use Rattle.session_desk.specs.Executed.{ExecutesAtDesk, IfReplied, OnStopped}
use Rattle.session_desk.specs.Standing.{session_state}
use Rattle.session_desk.proofs.Agreeing.{none_for}
use Rattle.session_desk.proofs.Growing.{grown}
use Rattle.session_desk.proofs.Replying.{at_kept, counted}
use Rattle.session_desk.proofs.RoundEntries.{desk_more, keeps, round_cubes, round_epoch, round_is_safe, round_keeps, round_of_none, round_owners, round_part, round_speaks, state_more}
use Rattle.session_desk.proofs.Staying.{Stays, at_stays, flushed_still, purged_still, show_still, stay_executes}

-- After a round that nothing can go wrong with a FLUSH may be noted, and at any place a PURGE at LSE.
pub flush_fits : (safe : ℕ) (journal whole : List JournalEntry) (s : JournalState)
    → whole ≡ journal ++ round_entries s → WasFlushed 1 whole
flush_fits safe journal whole s h = record {
  earlier = journal;
  later = round_entries s;
  parts = record { whole = h; others = round_of_none s };
  round = round_is_safe s;
}

pub purge_fits : (safe epoch : ℕ) (journal : List JournalEntry) → epoch ≡ (journal_state safe journal).lse
    → WasSafe safe 1 epoch journal
purge_fits safe epoch journal h = record {
  earlier = journal;
  later = [];
  parts = record { whole = sym (append-nil journal); others = refl };
  lse = sym h;
}

-- The journal before a statement whose own entry stands behind the flusher's.
before_own : (beginning : Beginning) (past : SessionPast) (sentence : Sentence) (front : List JournalEntry)
    (e : JournalEntry) (run : RunRecord) → IsInTurn past → session_part 1 front ≡ []
    → belongs_to 1 e ≡ true
    → IsOneMore past (grown past sentence (front ++ e ∷ [])) sentence (front ++ e ∷ [])
    → GoesOn beginning (grown past sentence (front ++ e ∷ [])) run
    → journal_before 1 (last_number past + 1) run.journal ≡ past.journal ++ front
before_own beginning past sentence front e run turn none own more on =
    let before : SessionPast = record {
      sentences = past.sentences;
      files = past.files;
      journal = past.journal ++ front;
      names = past.names;
    } in
    let after = grown past sentence (front ++ e ∷ []) in
    let part : session_part 1 before.journal ≡ session_part 1 past.journal =
    filter-append (belongs_to 1) past.journal front
    ∙ ap (λ (es : List JournalEntry). session_part 1 past.journal ++ es) none
    ∙ append-nil (session_part 1 past.journal)
    in
    before_first beginning before after sentence e [] run
    (subst (AreNumbered 1 (last_number past)) (sym part) turn)
    (record {
      sentences = more.sentences;
      files = more.files;
      journal = sym (append_assoc past.journal front (e ∷ []));
      own =
          subst (AreNumbered (last_number past + 1) (last_number past + 1))
          (filter-append (belongs_to 1) front (e ∷ [])
          ∙ ap (λ (es : List JournalEntry). es ++ session_part 1 (e ∷ [])) none) more.own;
      names = more.names;
    })
    own on

-- The session's statement adds its own entry behind those of the flusher's.
pub record Adds (front : List JournalEntry) (e : ℕ → JournalEntry) (desk : DeskState) (session : Session)
    (new_desk : DeskState) (now : Session) : Type 0 where
  pub desk_is : new_desk ≡ desk_with_entries desk (front ++ e now.statements ∷ [])
  pub mode_is : now.mode ≡ session.mode
  pub statements : now.statements ≡ session.statements + 1
  pub commits : now.commits ≡ session.commits
  pub every : now.round_every ≡ session.round_every

flush_stays : (desk : DeskState) (session : Session) (new_desk : DeskState) (now : Session)
    → Adds (round_entries (state_of desk.register)) (entry.Flushed 1) desk session new_desk now
    → Stays (round_entries (state_of desk.register) ++ entry.Flushed 1 now.statements ∷ []) (entry.Flushed 1) desk
    session new_desk now
flush_stays desk session new_desk now h =
    let s = state_of desk.register in
    let rest : List JournalEntry = entry.Flushed 1 now.statements ∷ [] in
    record {
      desk_is = h.desk_is;
      mode_is = h.mode_is;
      statements = h.statements;
      commits = h.commits;
      every = h.every;
      part = round_part s rest;
      numbered = refl;
      owners = round_owners s rest;
      no_cube = round_cubes s rest;
      still = flushed_still 1 now.statements;
      next =
          ap (λ (d : DeskState). (state_of d.register).ec) h.desk_is
          ∙ ap (λ (t : JournalState). t.ec) (state_more desk (round_entries s ++ rest))
          ∙ ap (λ (t : JournalState). t.ec) (fold-append state_after s (round_entries s) rest)
          ∙ round_epoch s;
    }

pub at_flushed : (desk : DeskState) (session : Session) (new_desk : DeskState) (now : Session) → IsAtDesk desk session
    → Adds (round_entries (state_of desk.register)) (entry.Flushed 1) desk session new_desk now
    → IsAtDesk new_desk now
at_flushed desk session new_desk now at h =
    let s = state_of desk.register in
    let rest : List JournalEntry = entry.Flushed 1 now.statements ∷ [] in
    let state : state_of new_desk.register ≡ fold state_after s (round_entries s) =
    ap (λ (d : DeskState). state_of d.register) h.desk_is
    ∙ state_more desk (round_entries s ++ rest)
    ∙ fold-append state_after s (round_entries s) rest
    in
    at_stays (round_entries s ++ rest) (entry.Flushed 1) desk session new_desk now at
    (flush_stays desk session new_desk now h)
    (subst (λ (t : JournalState). IsServing t desk.register.safe (mode_of session.mode)) (sym state)
    (round_keeps s desk.register.safe (mode_of session.mode) at.serving))

pub flushes : (desk : DeskState) (session : Session) (new_desk : DeskState) (now : Session) (epoch : ℕ)
    → Adds (round_entries (state_of desk.register)) (entry.Flushed 1) desk session new_desk now
    → epoch ≡ (journal_state desk.register.safe (desk.register.journal ++ round_entries (state_of desk.register))).lse
    → ExecutesAtDesk (Says Flush) desk session new_desk now (reply.Flushed epoch)
flushes desk session new_desk now epoch h is =
    let front = round_entries (state_of desk.register) in
    let added : List JournalEntry = front ++ entry.Flushed 1 now.statements ∷ [] in
    stay_executes (Says Flush) added (entry.Flushed 1) desk session new_desk now (reply.Flushed epoch)
    (flush_stays desk session new_desk now h)
    (none_for (Says Flush) now.statements desk.cubes added
    (round_speaks (state_of desk.register) (entry.Flushed 1 now.statements ∷ [])))
    (λ beginning past names done run stands more on told.
    let after = grown past (Says Flush) added in
    let step = last_step after (session_state session) (Says Flush) added in
    let number : last_number after ≡ last_number past + 1 = longer_by_one past after (Says Flush) added more in
    let none : session_part 1 front ≡ [] =
    ap (λ (es : List JournalEntry). session_part 1 es) (sym (append-nil front))
    ∙ round_part (state_of desk.register) []
    in
    let before : journal_before 1 (last_number after) run.journal ≡ desk.register.journal ++ front =
    ap (λ (n : ℕ). journal_before 1 n run.journal) number
    ∙ before_own beginning past (Says Flush) front (entry.Flushed 1 now.statements) run stands.done.turn none refl more on
    ∙ ap (λ (es : List JournalEntry). es ++ front) (sym stands.journal)
    in
    let lse : (state_before run step).lse ≡ epoch =
    (λ i. (journal_state (on.safe i) (before i)).lse)
    ∙ ap (λ (safe : ℕ). (journal_state safe (desk.register.journal ++ front)).lse) (sym stands.safe)
    ∙ sym is
    in
    subst (λ (e : ℕ). IsReply run step (reply.Flushed e)) lse (flushed run step (mode_of session.mode) told))

purge_stays : (desk : DeskState) (session : Session) (new_desk : DeskState) (now : Session) (epoch : ℕ)
    → Adds [] (λ n. entry.Purged 1 n epoch) desk session new_desk now
    → Stays (entry.Purged 1 now.statements epoch ∷ []) (λ n. entry.Purged 1 n epoch) desk session new_desk now
purge_stays desk session new_desk now epoch h = record {
  desk_is = h.desk_is;
  mode_is = h.mode_is;
  statements = h.statements;
  commits = h.commits;
  every = h.every;
  part = refl;
  numbered = refl;
  owners = refl;
  no_cube = λ run. refl;
  still = purged_still 1 now.statements epoch;
  next =
      ap (λ (d : DeskState). (state_of d.register).ec) h.desk_is
      ∙ ap (λ (t : JournalState). t.ec) (state_more desk (entry.Purged 1 now.statements epoch ∷ []));
}

pub purges : (desk : DeskState) (session : Session) (new_desk : DeskState) (now : Session) (epoch : ℕ)
    → Adds [] (λ n. entry.Purged 1 n epoch) desk session new_desk now
    → ExecutesAtDesk (Says Purge) desk session new_desk now (reply.Purged epoch)
purges desk session new_desk now epoch h =
    let added : List JournalEntry = entry.Purged 1 now.statements epoch ∷ [] in
    stay_executes (Says Purge) added (λ n. entry.Purged 1 n epoch) desk session new_desk now (reply.Purged epoch)
    (purge_stays desk session new_desk now epoch h)
    (none_for (Says Purge) now.statements desk.cubes added refl)
    (λ beginning past names done run stands more on told.
    purged run (last_step (grown past (Says Purge) added) (session_state session) (Says Purge) added)
    (mode_of session.mode) epoch told)

show_stays : (desk : DeskState) (session : Session) (new_desk : DeskState) (now : Session)
    → Adds [] (entry.Show 1) desk session new_desk now
    → Stays (entry.Show 1 now.statements ∷ []) (entry.Show 1) desk session new_desk now
show_stays desk session new_desk now h = record {
  desk_is = h.desk_is;
  mode_is = h.mode_is;
  statements = h.statements;
  commits = h.commits;
  every = h.every;
  part = refl;
  numbered = refl;
  owners = refl;
  no_cube = λ run. refl;
  still = show_still 1 now.statements;
  next =
      ap (λ (d : DeskState). (state_of d.register).ec) h.desk_is
      ∙ ap (λ (t : JournalState). t.ec) (state_more desk (entry.Show 1 now.statements ∷ []));
}

pub shows : (desk : DeskState) (session : Session) (new_desk : DeskState) (now : Session) (told : Counters)
    → Adds [] (entry.Show 1) desk session new_desk now
    → told ≡ counters desk.register.safe desk.register.journal
    → ExecutesAtDesk (Says ShowEpochs) desk session new_desk now (reply.Epochs told)
shows desk session new_desk now counted h is =
    let added : List JournalEntry = entry.Show 1 now.statements ∷ [] in
    stay_executes (Says ShowEpochs) added (entry.Show 1) desk session new_desk now (reply.Epochs counted)
    (show_stays desk session new_desk now h)
    (none_for (Says ShowEpochs) now.statements desk.cubes added refl)
    (λ beginning past names done run stands more on told.
    let after = grown past (Says ShowEpochs) added in
    let step = last_step after (session_state session) (Says ShowEpochs) added in
    let number : last_number after ≡ last_number past + 1 = longer_by_one past after (Says ShowEpochs) added more in
    let before : journal_before 1 (last_number after) run.journal ≡ desk.register.journal =
    ap (λ (n : ℕ). journal_before 1 n run.journal) number
    ∙ before_first beginning past after (Says ShowEpochs) (entry.Show 1 now.statements) [] run stands.done.turn more
    refl on
    ∙ sym stands.journal
    in
    let same : counters run.safe (journal_before 1 (last_number after) run.journal) ≡ counted =
    (λ i. counters (on.safe i) (before i))
    ∙ ap (λ (safe : ℕ). counters safe desk.register.journal) (sym stands.safe)
    ∙ sym is
    in
    subst (λ (c : Counters). IsReply run step (reply.Epochs c)) same (shown run step (mode_of session.mode) told))

flush_adds : (desk : DeskState) (session : Session) (middle new_desk : DeskState)
    → middle ≡ desk_with_entries desk (round_entries (state_of desk.register))
    → new_desk ≡ desk_with_entry middle (entry.Flushed 1 (session.statements + 1))
    → Adds (round_entries (state_of desk.register)) (entry.Flushed 1) desk session new_desk (counted session)
flush_adds desk session middle new_desk made noted = record {
  desk_is =
      noted
      ∙ ap (λ (d : DeskState). desk_with_entries d (entry.Flushed 1 (session.statements + 1) ∷ [])) made
      ∙ desk_more desk (round_entries (state_of desk.register)) (entry.Flushed 1 (session.statements + 1) ∷ []);
  mode_is = refl;
  statements = refl;
  commits = refl;
  every = refl;
}

-- A round is made, and a FLUSH noted or not.
pub flush_executes : (result : Answered) (desk : DeskState) (session : Session) (middle new_desk : DeskState)
    → middle ≡ desk_with_entries desk (round_entries (state_of desk.register))
    → IfReplied result (λ said. new_desk ≡ desk_with_entry middle (entry.Flushed 1 (session.statements + 1)))
    → IfReplied result (λ said. said ≡ reply.Flushed (state_of middle.register).lse)
    → IfReplied result (ExecutesAtDesk (Says Flush) desk session new_desk (counted session))
flush_executes (Replied said) desk session middle new_desk made noted is =
    subst (λ (r : Reply). ExecutesAtDesk (Says Flush) desk session new_desk (counted session) r) (sym is)
    (flushes desk session new_desk (counted session) (state_of middle.register).lse
    (flush_adds desk session middle new_desk made noted)
    (ap (λ (d : DeskState). (state_of d.register).lse) made))
flush_executes Stopped desk session middle new_desk made noted is = tt

pub at_flush : (result : Answered) (desk : DeskState) (session : Session) (middle new_desk : DeskState)
    → IsAtDesk desk session
    → middle ≡ desk_with_entries desk (round_entries (state_of desk.register))
    → IfReplied result (λ said. new_desk ≡ desk_with_entry middle (entry.Flushed 1 (session.statements + 1)))
    → OnStopped result (new_desk ≡ middle) → IsAtDesk new_desk (counted session)
at_flush (Replied said) desk session middle new_desk at made noted stopped =
    at_flushed desk session new_desk (counted session) at (flush_adds desk session middle new_desk made noted)
at_flush Stopped desk session middle new_desk at made noted stopped =
    at_kept desk new_desk session
    (keeps desk new_desk (round_entries (state_of desk.register)) (stopped ∙ made)
    (round_keeps (state_of desk.register))) at
