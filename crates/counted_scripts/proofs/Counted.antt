-- Where the counts of a shelf go on by LOADs, they go on by all replies.
use Rattle.std.proofs.Common.{◌≡◌, ℕ, zero, suc, ◌+◌, ◌-◌, List, [], ◌∷◌, slice_get, unwrap_or, refl}
use Rattle.std.specs.List.{AllZip, enumerate_from}
use Rattle.cube_language.specs.declared.statement.Statement.TheVariants.{Load}
use Rattle.cube_journal.specs.declared.reply.Reply.{Reply}
use Rattle.cube_run.specs.RunRecords.{RunRecord, Says, SaysNone, Sentence, script_of}
use Rattle.cube_run.specs.RunText.{IsReply}
use Rattle.cube_run.specs.SessionStates.{SessionState, fresh_session}
use Rattle.cube_run.specs.SessionSteps.{state_after_step, step_at, steps_from, steps_of}
use Rattle.loaded_files.specs.CountedReplies.{CountsAbsence, CountsEach, CountsFault, GainsReplies}
use Rattle.played_scripts.specs.PlayedRuns.{HasPlayed, HavePlayed}
use Rattle.counted_scripts.proofs.OtherReplies.{SaysNoFile, absences_stay, faults_stay, others_say_none}
use Rattle.counted_scripts.specs.CountedLoads.{CountsFor, CountsInTurn}
use Rattle.counted_scripts.specs.RepliesOfSessions.{replies_of_session}

-- For a count that stays with each reply that does not say that a file is not there or could not be read.
module _ (Counts : Reply → ℕ → ℕ → Type 0)
    (stays : (said : Reply) (before now : ℕ) → SaysNoFile said → now ≡ before → Counts said before now)
    (run : RunRecord) where
  by_statement : (session number : ℕ) (state : SessionState) (sentence : Sentence) (said : Reply) (before now : ℕ)
      → IsReply run (step_at run session number state sentence) said → CountsFor Counts sentence said before now
      → Counts said before now
  by_statement session number state (Says (Load cube path reject)) said before now r counts = counts
  by_statement session number state (SaysNone at) said before now r counts =
      stays said before now (others_say_none run (step_at run session number state (SaysNone at)) said r refl) counts
  by_statement session number state sentence said before now r counts =
      stays said before now (others_say_none run (step_at run session number state sentence) said r refl) counts

  by_statements : (session number : ℕ) (state : SessionState) (script : List Sentence) (replies : List Reply)
      (before now : ℕ) → AllZip (IsReply run) (steps_from run session number state script) replies
      → CountsInTurn Counts script replies before now → CountsEach Counts replies before now
  by_statements session number state [] [] before now answers counts = counts
  by_statements session number state [] (said ∷ replies) before now answers counts = absurd answers
  by_statements session number state (sentence ∷ script) [] before now answers counts = absurd answers
  by_statements session number state (sentence ∷ script) (said ∷ replies) before now answers counts = (
    counts.0,
    by_statement session number state sentence said before counts.0 answers.0 counts.1,
    by_statements session (number + 1) (state_after_step (step_at run session number state sentence)) script replies
        counts.0 now answers.1 counts.2,
  )

  pub by_script : (session : ℕ) (script : List Sentence) (replies : List Reply) (before now : ℕ)
      → AllZip (IsReply run) (steps_of run session script) replies → CountsInTurn Counts script replies before now
      → CountsEach Counts replies before now
  by_script session script replies before now answers counts =
      by_statements session 1 fresh_session script replies before now answers counts

  -- In the session at a place among those from a number on.
  pub by_session : (first : ℕ) (scripts : List (List Sentence)) (all : List (List Reply)) (place before now : ℕ)
      → AllZip (λ p said. HasPlayed run p.0 p.1 said) (enumerate_from first scripts) all
      → CountsInTurn Counts (unwrap_or (slice_get scripts place) []) (unwrap_or (slice_get all place) []) before now
      → CountsEach Counts (unwrap_or (slice_get all place) []) before now
  by_session first [] [] place before now played counts = counts
  by_session first [] (replies ∷ all) place before now played counts = absurd played
  by_session first (script ∷ scripts) [] place before now played counts = absurd played
  by_session first (script ∷ scripts) (replies ∷ all) zero before now played counts =
      by_script first script replies before now played.0.answers counts
  by_session first (script ∷ scripts) (replies ∷ all) (suc place) before now played counts =
      by_session (first + 1) scripts all place before now played.1 counts

pub script_gains : (run : RunRecord) (session : ℕ) (script : List Sentence) (replies : List Reply)
    (faults new_faults absences new_absences : ℕ) → AllZip (IsReply run) (steps_of run session script) replies
    → CountsInTurn CountsFault script replies faults new_faults
    → CountsInTurn CountsAbsence script replies absences new_absences
    → GainsReplies [] replies faults new_faults absences new_absences
script_gains run session script replies faults new_faults absences new_absences answers by_faults by_absences =
    record {
      gained = replies;
      are = refl;
      count_faults = by_script CountsFault faults_stay run session script replies faults new_faults answers by_faults;
      count_absences =
          by_script CountsAbsence absences_stay run session script replies absences new_absences answers by_absences;
    }

pub session_gains : (run : RunRecord) (all : List (List Reply)) (session : ℕ)
    (faults new_faults absences new_absences : ℕ) → HavePlayed run all
    → CountsInTurn CountsFault (script_of run session) (replies_of_session all session) faults new_faults
    → CountsInTurn CountsAbsence (script_of run session) (replies_of_session all session) absences new_absences
    → GainsReplies [] (replies_of_session all session) faults new_faults absences new_absences
session_gains run all session faults new_faults absences new_absences played by_faults by_absences =
    record {
      gained = replies_of_session all session;
      are = refl;
      count_faults =
          by_session CountsFault faults_stay run 1 run.scripts all (session - 1) faults new_faults played.sessions
          by_faults;
      count_absences =
          by_session CountsAbsence absences_stay run 1 run.scripts all (session - 1) absences new_absences
          played.sessions by_absences;
    }
