-- A statement on rows is executed where its entries say so.
use Rattle.std.proofs.Common.{◌≡◌, ◌∙◌, ℕ, ◌+◌, ◌≤◌, Bool, true, false, ◌==◌, List, [], ◌∷◌, ◌++◌, Option, Some, None, refl, sym, ap, subst, arith, append_assoc, append-nil, if◌then◌else◌}
use Rattle.std.specs.Prelude.{unwrap_or}
use Rattle.std.specs.List.{filter_map}
use Rattle.std.proofs.lemmas.Bool.Decides.{nat_tests}
use Rattle.std.proofs.lemmas.List.Elements.{filter_map-append}
use Rattle.cube_language.specs.declared.decl.Decl.{Decl}
use Rattle.cube_journal.specs.declared.journal_entry.JournalEntry.{JournalEntry}
use Rattle.cube_journal.specs.declared.reply.Reply.{Reply}
use Rattle.cube_run.specs.RunRecords.{LoadedFile, RunRecord, Sentence, made_by}
use Rattle.cube_run.specs.RunText.{IsReply}
use Rattle.cube_run.specs.RunTransactions.{DoneOperation}
use Rattle.cube_run.specs.SessionStates.{SessionState, session_after}
use Rattle.cube_run.specs.SessionSteps.{session_part}
use Rattle.played_scripts.specs.PlayedRuns.{AreNumbered}
use Rattle.one_session.specs.Behind.{HasDone, HaveDone, last_step, run_so_far}
use Rattle.one_session.specs.Changes.{AreInEpochOrder}
use Rattle.one_session.specs.Pasts.{Beginning, GoesOn, IsOneMore, NamesOnlyCome, SessionPast, last_number}
use Rattle.one_session.proofs.Backwards.{goes_on_before}
use Rattle.one_session.proofs.CubesBehind.{cubes_behind_more}
use Rattle.one_session.proofs.Entries.{longer_by_one}
use Rattle.one_session.proofs.InOrder.{order_kept, order_more}
use Rattle.one_session.proofs.Steps.{change_more, no_change_more}
use Rattle.aosi_desk.specs.Desks.{DeskState}
use Rattle.session_desk.specs.declared.session.Session.{Session}
use Rattle.session_desk.specs.CubesBefore.{AgreeWithCubes}
use Rattle.session_desk.specs.Executed.{HasExecuted}
use Rattle.session_desk.specs.RowsDone.{AddsEntries, EpochsRise, done_with, next_change, past_with}
use Rattle.session_desk.specs.Standing.{StandsBehind, session_state}
use Rattle.session_desk.proofs.Agreeing.{agree_then, none_agree}
use Rattle.session_desk.proofs.Growing.{all_more, never_fall_more, world_of}

-- The files behind stay.
file_stays : (n number : ℕ) (file old : LoadedFile) → number ≤ n → (if number == n + 1 then file else old) ≡ old
file_stays n number file old l =
    let other : (number == n + 1) ≡ false = grind (arith, nat_tests, l) in
    ap (λ (b : Bool). if b then file else old) other

-- The statement is one more.
pub one_more_with : (past : SessionPast) (sentence : Sentence) (file : LoadedFile) (added : List JournalEntry)
    (names : List (List (List (List ℕ)))) (session now : Session)
    → last_number past ≡ session.statements → now.statements ≡ session.statements + 1
    → AreNumbered now.statements now.statements (session_part 1 added) → NamesOnlyCome past.names names
    → IsOneMore past (past_with past sentence file added names) sentence added
one_more_with past sentence file added names session now number statements own come = record {
  sentences = refl;
  files = λ n l. file_stays (last_number past) n file (past.files n) l.1;
  journal = refl;
  own =
      let is : now.statements ≡ last_number past + 1 = omega (arith, number, statements) in
      subst (λ (n : ℕ). AreNumbered n n (session_part 1 added)) is own;
  names = come;
}

order_after : (before after : SessionPast) (sentence : Sentence) (added : List JournalEntry) (done : List DoneOperation)
    (operation : Option DoneOperation) (low high : ℕ) → IsOneMore before after sentence added
    → AreInEpochOrder before done low → EpochsRise operation low high (session_part 1 after.journal)
    → AreInEpochOrder after (done_with done operation) high
order_after before after sentence added done None low high m h rise =
    let kept = order_kept before after sentence added done low m h in
    record { epochs = never_fall_more 0 low high done rise kept.epochs; begun = kept.begun }
order_after before after sentence added done (Some o) low high m h rise =
    let more = order_more before after sentence added done low o m h rise.above rise.begun in
    record { epochs = never_fall_more 0 o.epoch high (done ++ o ∷ []) rise.below more.epochs; begun = more.begun }

done_after : (beginning : Beginning) (before after : SessionPast) (done : List DoneOperation) (state : SessionState)
    (sentence : Sentence) (added : List JournalEntry) (operation : Option DoneOperation)
    → HaveDone beginning before done state → IsOneMore before after sentence added
    → HasDone beginning after (last_step after state sentence added) operation
    → HaveDone beginning after (done_with done operation) (session_after state sentence (session_part 1 added))
done_after beginning before after done state sentence added None h m does =
    no_change_more beginning before after done state sentence added h m does
done_after beginning before after done state sentence added (Some o) h m does =
    change_more beginning before after done state sentence added o h m does

pub executes_on_rows : (beginning : Beginning) (past : SessionPast) (sentence : Sentence) (file : LoadedFile)
    (added : List JournalEntry) (desk : DeskState) (session : Session) (new_desk : DeskState) (now : Session)
    (names new_names : List (List (List (List ℕ)))) (done : List DoneOperation) (operation : Option DoneOperation)
    (said : Reply)
    → StandsBehind beginning past (world_of desk names session done)
    → AddsEntries sentence added desk session new_desk now → NamesOnlyCome names new_names
    → EpochsRise operation (next_change desk session) (next_change new_desk now)
    (session_part 1 (past.journal ++ added))
    → HasDone beginning (past_with past sentence file added new_names)
    (last_step (past_with past sentence file added new_names) (session_state session) sentence added) operation
    → ((run : RunRecord) → GoesOn beginning (past_with past sentence file added new_names) run
    → IsReply run (last_step (past_with past sentence file added new_names) (session_state session) sentence added)
    said)
    → HasExecuted beginning past sentence (world_of desk names session done)
    (world_of new_desk new_names now (done_with done operation)) said
executes_on_rows beginning past sentence file added desk session new_desk now names new_names done operation said h g come
    rise does answers =
    let after = past_with past sentence file added new_names in
    let state = session_state session in
    let come_on : NamesOnlyCome past.names new_names =
    subst (λ (lists : List (List (List (List ℕ)))). NamesOnlyCome lists new_names) (sym h.names) come
    in
    let more = one_more_with past sentence file added new_names session now h.number g.statements g.own come_on in
    let have = done_after beginning past after done state sentence added operation h.done more does in
    let order = order_after past after sentence added done operation (next_change desk session)
    (next_change new_desk now) more h.order rise in
    record {
      after = after;
      added = added;
      more = more;
      becomes = g.becomes;
      answers = answers;
      stands = record {
        safe = ap (λ (d : DeskState). d.register.safe) g.desk_is ∙ h.safe;
        journal =
            ap (λ (d : DeskState). d.register.journal) g.desk_is
            ∙ ap (λ (es : List JournalEntry). es ++ added) h.journal;
        there =
            cubes_behind_more beginning past after sentence added h.done.turn h.owned more
            ∙ ap (λ (cubes : List Decl). cubes ++ filter_map (made_by (run_so_far beginning after)) added) h.there
            ∙ ap (λ (cubes : List Decl). desk.cubes ++ cubes) (g.no_cube (run_so_far beginning after))
            ∙ append-nil desk.cubes
            ∙ sym (ap (λ (d : DeskState). d.cubes) g.desk_is);
        cubes = λ run on.
            ap (λ (cubes : List Decl). run.cubes ++ cubes) (filter_map-append (made_by run) past.journal added)
            ∙ sym (append_assoc run.cubes (filter_map (made_by run) past.journal) (filter_map (made_by run) added))
            ∙ ap (λ (cubes : List Decl). cubes ++ filter_map (made_by run) added)
            (h.cubes run (goes_on_before beginning past after sentence added run more on))
            ∙ ap (λ (cubes : List Decl). desk.cubes ++ cubes) (g.no_cube run)
            ∙ append-nil desk.cubes
            ∙ sym (ap (λ (d : DeskState). d.cubes) g.desk_is);
        agrees = λ run on.
            agree_then run run.cubes desk.cubes new_desk.cubes past.journal added
            (h.agrees run (goes_on_before beginning past after sentence added run more on))
            (subst (AgreeWithCubes run desk.cubes added) (sym (ap (λ (d : DeskState). d.cubes) g.desk_is))
            (none_agree run desk.cubes added g.speaks_of_none));
        names = refl;
        number =
            longer_by_one past after sentence added more ∙ ap (λ (n : ℕ). n + 1) h.number ∙ sym g.statements;
        every = h.every ∙ ap (λ (o : Option ℕ). unwrap_or o 0) (sym g.every);
        owned = all_more past.journal added h.owned g.owners;
        done = subst (HaveDone beginning after (done_with done operation)) (sym g.becomes) have;
        order = order;
      };
    }

-- The file of the statement is what stands behind the session.
pub has_its_file : (beginning : Beginning) (past : SessionPast) (sentence : Sentence) (file : LoadedFile)
    (added : List JournalEntry) (desk : DeskState) (session : Session) (new_desk : DeskState) (now : Session)
    (names new_names : List (List (List (List ℕ)))) (done : List DoneOperation) (operation : Option DoneOperation)
    (said : Reply)
    (h : StandsBehind beginning past (world_of desk names session done))
    (g : AddsEntries sentence added desk session new_desk now) (come : NamesOnlyCome names new_names)
    (rise : EpochsRise operation (next_change desk session) (next_change new_desk now)
    (session_part 1 (past.journal ++ added)))
    (does : HasDone beginning (past_with past sentence file added new_names)
    (last_step (past_with past sentence file added new_names) (session_state session) sentence added) operation)
    (answers : (run : RunRecord) → GoesOn beginning (past_with past sentence file added new_names) run
    → IsReply run (last_step (past_with past sentence file added new_names) (session_state session) sentence added)
    said)
    → (executes_on_rows beginning past sentence file added desk session new_desk now names new_names done operation said
    h g come rise does answers).after.files (last_number past + 1) ≡ file
unfolding executes_on_rows
has_its_file beginning past sentence file added desk session new_desk now names new_names done operation said h g come
    rise does answers =
    let same : (last_number past + 1 == last_number past + 1) ≡ true = grind (arith, nat_tests) in
    ap (λ (b : Bool). if b then file else past.files (last_number past + 1)) same
