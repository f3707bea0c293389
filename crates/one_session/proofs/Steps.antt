-- One statement more, in the runs that go on with it.
use Rattle.std.proofs.Common.{◌≡◌, ◌∙◌, ◌+◌, ◌-◌, List, [], ◌∷◌, ◌++◌, length, slice_get, unwrap_or, Option, Some, None, refl, sym, ap, subst, arith, append_assoc, append-nil}
use Rattle.std.specs.List.{cons_option, filter_map}
use Rattle.std.proofs.lemmas.List.Elements.{filter_map-append}
use Rattle.cube_journal.specs.declared.journal_entry.JournalEntry.{JournalEntry}
use Rattle.cube_journal.specs.declared.reply.Reply.{Reply}
use Rattle.cube_run.specs.RunRecords.{RunRecord, Sentence, catalog_of, script_of}
use Rattle.cube_run.specs.RunText.{IsReply}
use Rattle.cube_run.specs.RunTransactions.{DoneOperation, operation_done, session_operations}
use Rattle.cube_run.specs.SessionStates.{SessionState, fresh_session, session_after}
use Rattle.cube_run.specs.SessionSteps.{SessionStep, last_state, session_part, step_at, steps_of}
use Rattle.played_scripts.specs.Promises.{IsExecuted}
use Rattle.played_scripts.proofs.Steps.{last_state_more, steps_more}
use Rattle.one_session.specs.Behind.{HasDone, HaveDone, last_step}
use Rattle.one_session.specs.Pasts.{Beginning, GoesOn, IsInTurn, IsOneMore, SessionPast, last_number, nothing_behind}
use Rattle.one_session.proofs.Backwards.{goes_on_before, in_turn_after}
use Rattle.one_session.proofs.Entries.{last_entries, longer_by_one}

-- The step of the statement that came last is the same in each run that goes on.
same_step : (beginning : Beginning) (before after : SessionPast) (state : SessionState) (sentence : Sentence)
    (added : List JournalEntry) (run : RunRecord) → IsInTurn before → IsOneMore before after sentence added
    → GoesOn beginning after run
    → step_at run 1 (last_number before + 1) state sentence ≡ last_step after state sentence added
same_step beginning before after state sentence added run turn m g =
    let number : last_number before + 1 ≡ last_number after = sym (longer_by_one before after sentence added m) in
    let file : run.file 1 (last_number before + 1) ≡ after.files (last_number after) =
    ap (run.file 1) number ∙ g.files (last_number after) (omega (arith, number), omega arith)
    in
    let entries = last_entries beginning before after sentence added run m turn g in
    (λ i. record {
      session = 1;
      number = number i;
      sentence = sentence;
      file = file i;
      state = state;
      entries = entries i;
    })

pub there : {X : Type 0} (front : List X) (x : X) (back : List X) → slice_get (front ++ x ∷ back) (length front) ≡ Some x
there [] x back = refl
there (y ∷ front) x back = there front x back

pub executed : (beginning : Beginning) (before after : SessionPast) (state : SessionState) (sentence : Sentence)
    (added : List JournalEntry) (said : Reply)
    → IsInTurn before → IsOneMore before after sentence added
    → ((run : RunRecord) → GoesOn beginning after run → IsReply run (last_step after state sentence added) said)
    → IsExecuted (GoesOn beginning) 1 (last_number before + 1) state sentence before after said
    (session_after state sentence (session_part 1 added))
executed beginning before after state sentence added said turn m answers = record {
  entries = session_part 1 added;
  earlier = λ run g. goes_on_before beginning before after sentence added run m g;
  stands = λ run g.
      let at : last_number before + 1 - 1 ≡ last_number before = omega arith in
      ap (slice_get (script_of run 1)) at
      ∙ ap (λ (scripts : List (List Sentence)). slice_get (unwrap_or (slice_get scripts 0) []) (last_number before)) g.script
      ∙ ap (λ (ss : List Sentence). slice_get (ss ++ g.rest) (last_number before)) m.sentences
      ∙ ap (λ (ss : List Sentence). slice_get ss (last_number before)) (append_assoc before.sentences (sentence ∷ []) g.rest)
      ∙ there before.sentences sentence g.rest;
  leaves = λ run g. last_entries beginning before after sentence added run m turn g;
  becomes = refl;
  answers = λ run g.
      subst (λ (step : SessionStep). IsReply run step said)
      (sym (same_step beginning before after state sentence added run turn m g))
      (answers run g);
}

-- The steps behind, with one more.
one_step_more : (beginning : Beginning) (before after : SessionPast) (done : List DoneOperation) (state : SessionState)
    (sentence : Sentence) (added : List JournalEntry) (run : RunRecord) → HaveDone beginning before done state
    → IsOneMore before after sentence added → GoesOn beginning after run
    → steps_of run 1 after.sentences ≡ steps_of run 1 before.sentences ++ last_step after state sentence added ∷ []
one_step_more beginning before after done state sentence added run h m g =
    let front = steps_of run 1 before.sentences in
    let at : 1 + last_number before ≡ last_number before + 1 = omega arith in
    ap (steps_of run 1) m.sentences
    ∙ steps_more run 1 1 fresh_session before.sentences sentence
    ∙ (λ i. front ++ step_at run 1 (at i)
    (h.becomes run (goes_on_before beginning before after sentence added run m g) i) sentence ∷ [])
    ∙ ap (λ (step : SessionStep). front ++ step ∷ [])
    (same_step beginning before after state sentence added run h.turn m g)

pub nothing_done : (beginning : Beginning) → HaveDone beginning (nothing_behind beginning) [] fresh_session
nothing_done beginning = record { turn = tt; operations = λ run g. refl; becomes = λ run g. refl }

operations_more : (beginning : Beginning) (before after : SessionPast) (done : List DoneOperation)
    (state : SessionState) (sentence : Sentence) (added : List JournalEntry) (o : Option DoneOperation)
    → HaveDone beginning before done state → IsOneMore before after sentence added
    → HasDone beginning after (last_step after state sentence added) o → (run : RunRecord) → GoesOn beginning after run
    → session_operations run 1 after.sentences ≡ done ++ cons_option o []
operations_more beginning before after done state sentence added o h m does run g =
    ap (filter_map (operation_done (catalog_of run)))
    (one_step_more beginning before after done state sentence added run h m g)
    ∙ filter_map-append (operation_done (catalog_of run)) (steps_of run 1 before.sentences)
    (last_step after state sentence added ∷ [])
    ∙ (λ i. h.operations run (goes_on_before beginning before after sentence added run m g) i
    ++ cons_option (does run g i) [])

state_more : (beginning : Beginning) (before after : SessionPast) (done : List DoneOperation)
    (state : SessionState) (sentence : Sentence) (added : List JournalEntry)
    → HaveDone beginning before done state → IsOneMore before after sentence added
    → (run : RunRecord) → GoesOn beginning after run
    → last_state fresh_session (steps_of run 1 after.sentences) ≡ session_after state sentence (session_part 1 added)
state_more beginning before after done state sentence added h m run g =
    ap (last_state fresh_session) (one_step_more beginning before after done state sentence added run h m g)
    ∙ last_state_more fresh_session (steps_of run 1 before.sentences) (last_step after state sentence added)

pub no_change_more : (beginning : Beginning) (before after : SessionPast) (done : List DoneOperation)
    (state : SessionState) (sentence : Sentence) (added : List JournalEntry)
    → HaveDone beginning before done state → IsOneMore before after sentence added
    → HasDone beginning after (last_step after state sentence added) None
    → HaveDone beginning after done (session_after state sentence (session_part 1 added))
no_change_more beginning before after done state sentence added h m does = record {
  turn = in_turn_after before after sentence added m h.turn;
  operations = λ run g.
      operations_more beginning before after done state sentence added None h m does run g ∙ append-nil done;
  becomes = state_more beginning before after done state sentence added h m;
}

pub change_more : (beginning : Beginning) (before after : SessionPast) (done : List DoneOperation)
    (state : SessionState) (sentence : Sentence) (added : List JournalEntry) (operation : DoneOperation)
    → HaveDone beginning before done state → IsOneMore before after sentence added
    → HasDone beginning after (last_step after state sentence added) (Some operation)
    → HaveDone beginning after (done ++ operation ∷ []) (session_after state sentence (session_part 1 added))
change_more beginning before after done state sentence added operation h m does = record {
  turn = in_turn_after before after sentence added m h.turn;
  operations = operations_more beginning before after done state sentence added (Some operation) h m does;
  becomes = state_more beginning before after done state sentence added h m;
}
