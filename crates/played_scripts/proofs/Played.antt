-- Scripts statement by statement, and the journal of played scripts.
use Rattle.std.proofs.Common.{◌≡◌, ◌∙◌, ℕ, suc, ◌+◌, ◌-◌, ◌<◌, ◌≤◌, List, [], ◌∷◌, ◌++◌, length, filter, take, slice_get, Some, refl, sym, ap, arith, append_assoc, append-nil, length-append}
use Rattle.std.specs.List.{AllZip, AllByRecursion, enumerate_from, flat_map}
use Rattle.std.proofs.lemmas.List.Elements.{filter-append}
use Rattle.cube_journal.specs.WholeText.{whole_text}
use Rattle.cube_journal.specs.declared.journal_entry.JournalEntry.{JournalEntry}
use Rattle.cube_journal.specs.declared.reply.Reply.{Reply}
use Rattle.cube_run.specs.Merge.{HasOutcome, IsMerge, SessionMerges, end_of}
use Rattle.cube_run.specs.RunRecords.{RunRecord, Sentence, script_of}
use Rattle.cube_run.specs.RunText.{AreSessionReplies, IsReply, IsText}
use Rattle.cube_run.specs.SessionStates.{SessionState, fresh_session, session_after}
use Rattle.cube_run.specs.SessionSteps.{SessionStep, entries_of, is_of_statement, last_state, session_part, state_after_step, step_at, steps_from, steps_of}
use Rattle.played_scripts.specs.PlayedRuns.{AreNumbered, HasPlayed, HavePlayed}
use Rattle.played_scripts.specs.Promises.{IsExecuted, IsPlayed}
use Rattle.played_scripts.proofs.Numbered.{all_of_one, parted}
use Rattle.played_scripts.proofs.Steps.{last_state_more, steps_more, take_more, zip_more}

pub nothing_played : {Past : Type 0} (goes_on : Past → RunRecord → Type 0) (session : ℕ) (past : Past)
    → IsPlayed goes_on session [] past [] fresh_session
nothing_played goes_on session past =
    record { begins = λ run h. refl; answers = λ run h. tt; becomes = λ run h. refl }

pub one_more_played : {Past : Type 0} (goes_on : Past → RunRecord → Type 0) (session : ℕ) (script : List Sentence)
    (sentence : Sentence) (before after : Past) (replies : List Reply) (said : Reply) (state next : SessionState)
    → IsPlayed goes_on session script before replies state
    → IsExecuted goes_on session (length script + 1) state sentence before after said next
    → IsPlayed goes_on session (script ++ sentence ∷ []) after (replies ++ said ∷ []) next
one_more_played goes_on session script sentence before after replies said state next p e = record {
  begins = λ run h.
      let old = p.begins run (e.earlier run h) in
      let there : slice_get (script_of run session) (length script) ≡ Some sentence =
      (let here : length script ≡ length script + 1 - 1 = omega arith in
      ap (slice_get (script_of run session)) here ∙ e.stands run h)
      in
      let longer : length (script ++ sentence ∷ []) ≡ length script + 1 = length-append script (sentence ∷ []) in
      let next : length script + 1 ≡ suc (length script) = omega arith in
      ap (λ (n : ℕ). take n (script_of run session)) longer
      ∙ ap (λ (n : ℕ). take n (script_of run session)) next
      ∙ take_more (script_of run session) (length script) sentence there
      ∙ ap (λ (ss : List Sentence). ss ++ sentence ∷ []) old;
  answers = λ run h.
      let old = e.earlier run h in
      let more = steps run old in
      coe 1 0 (i. AllZip (IsReply run) (more i) (replies ++ said ∷ []))
      (zip_more (IsReply run) (steps_of run session script)
      replies (step_at run session (length script + 1) state sentence) said (p.answers run old) (e.answers run h));
  becomes = λ run h.
      let old = e.earlier run h in
      ap (last_state fresh_session) (steps run old)
      ∙ last_state_more fresh_session (steps_of run session script)
      (step_at run session (length script + 1) state sentence)
      ∙ ap (session_after state sentence) (e.leaves run h)
      ∙ sym e.becomes;
} where
  steps : (run : RunRecord) → goes_on before run
      → steps_of run session (script ++ sentence ∷ [])
      ≡ steps_of run session script ++ step_at run session (length script + 1) state sentence ∷ []
  steps run old =
      let count : 1 + length script ≡ length script + 1 = omega arith in
      steps_more run session 1 fresh_session script sentence
      ∙ ap (λ (n : ℕ). steps_of run session script
      ++ step_at run session n (last_state fresh_session (steps_of run session script)) sentence ∷ []) count
      ∙ ap (λ (s : SessionState). steps_of run session script ++ step_at run session (length script + 1) s sentence ∷ [])
      (p.becomes run old)

-- Numbered entries are those of the statements of a script, one after the other, and then those of the number behind.
grouped : (run : RunRecord) (session number : ℕ) (state : SessionState) (script : List Sentence)
    (part : List JournalEntry) → AreNumbered number (number + length script) part
    → ((i : ℕ) → number ≤ i → filter (is_of_statement i) part ≡ entries_of session i run.journal)
    → part ≡ flat_map (λ step. step.entries) (steps_from run session number state script)
    ++ entries_of session (number + length script) run.journal
grouped run session number state [] part h same =
    let here : number + 0 ≡ number = omega arith in
    sym (all_of_one number part (coe 0 1 (i. AreNumbered number (here i) part) h))
    ∙ same number (omega arith)
    ∙ ap (λ (n : ℕ). entries_of session n run.journal) (sym here)
grouped run session number state (sentence ∷ script) part h same =
    let last = number + length (sentence ∷ script) in
    let r = parted number last part h in
    let own : filter (is_of_statement number) part ≡ r.front =
    ap (filter (is_of_statement number)) r.whole
    ∙ filter-append (is_of_statement number) r.front r.back
    ∙ (λ i. r.here i ++ r.none i)
    ∙ append-nil r.front
    in
    let later : (i : ℕ) → number + 1 ≤ i → filter (is_of_statement i) r.back ≡ entries_of session i run.journal =
    λ i l.
    sym (ap (filter (is_of_statement i)) r.whole
    ∙ filter-append (is_of_statement i) r.front r.back
    ∙ ap (λ (es : List JournalEntry). es ++ filter (is_of_statement i) r.back) (r.others i (omega (arith, l))))
    ∙ same i (omega (arith, l))
    in
    let count : last ≡ number + 1 + length script = omega arith in
    let next = state_after_step (step_at run session number state sentence) in
    let rest =
    grouped run session (number + 1) next script r.back
    (coe 0 1 (i. AreNumbered (number + 1) (count i) r.back) r.later) later
    in
    let groups = flat_map (λ step. step.entries) (steps_from run session (number + 1) next script) in
    let mine = entries_of session number run.journal in
    r.whole
    ∙ (λ i. (sym own ∙ same number (omega arith)) i ++ rest i)
    ∙ sym (append_assoc mine groups (entries_of session (number + 1 + length script) run.journal))
    ∙ ap (λ (n : ℕ). mine ++ groups ++ entries_of session n run.journal) (sym count)

-- Each reply tells that its statement has an outcome.
outcomes : (run : RunRecord) (steps : List SessionStep) (replies : List Reply) → AllZip (IsReply run) steps replies
    → AllByRecursion (HasOutcome run) steps
outcomes run [] replies h = tt
outcomes run (step ∷ steps) [] h = absurd h
outcomes run (step ∷ steps) (said ∷ replies) h = ((h.0.outcome, h.0.ends), outcomes run steps replies h.1)

session_merges : (run : RunRecord) (session : ℕ) (script : List Sentence) (replies : List Reply)
    → HasPlayed run session script replies → SessionMerges run session script
session_merges run session script replies p =
    let count : length script + 1 ≡ 1 + length script = omega arith in
    let steps = steps_of run session script in
    record {
      statements = outcomes run steps replies p.answers;
      whole =
          grouped run session 1 fresh_session script (session_part session run.journal)
          (coe 0 1 (i. AreNumbered 1 (count i) (session_part session run.journal)) p.order) (λ i l. refl)
          ∙ ap (λ (n : ℕ). flat_map (λ step. step.entries) steps ++ entries_of session n run.journal) (sym count)
          ∙ ap (λ (es : List JournalEntry). flat_map (λ step. step.entries) steps ++ es) p.ending;
    }

each_merges : (run : RunRecord) (scripts : List (ℕ × List Sentence)) (replies : List (List Reply))
    → AllZip (λ p said. HasPlayed run p.0 p.1 said) scripts replies
    → AllByRecursion (λ p. SessionMerges run p.0 p.1) scripts
each_merges run [] replies h = tt
each_merges run (p ∷ scripts) [] h = absurd h
each_merges run (p ∷ scripts) (said ∷ replies) h =
    (session_merges run p.0 p.1 said h.0, each_merges run scripts replies h.1)

each_answers : (run : RunRecord) (scripts : List (ℕ × List Sentence)) (replies : List (List Reply))
    → AllZip (λ p said. HasPlayed run p.0 p.1 said) scripts replies → AllZip (AreSessionReplies run) scripts replies
each_answers run [] [] h = tt
each_answers run [] (said ∷ replies) h = absurd h
each_answers run (p ∷ scripts) [] h = absurd h
each_answers run (p ∷ scripts) (said ∷ replies) h = (h.0.answers, each_answers run scripts replies h.1)

pub merge_of_played : (run : RunRecord) (replies : List (List Reply)) → HavePlayed run replies → IsMerge run
merge_of_played run replies h =
    record { sessions = each_merges run (enumerate_from 1 run.scripts) replies h.sessions; others = h.owners }

pub text_of_played : (run : RunRecord) (replies : List (List Reply)) → HavePlayed run replies
    → IsText run (whole_text run.safe replies run.journal)
text_of_played run replies h = record {
  replies = replies;
  answers = each_answers run (enumerate_from 1 run.scripts) replies h.sessions;
  whole = refl;
}
