-- What a statement other than a LOAD is answered counts neither a fault nor an absence of a file.
use Rattle.std.proofs.Common.{◌≡◌, ℕ, true, false, sym, subst}
use Rattle.std.proofs.lemmas.Bool.{true_from_ne_false}
use Rattle.cube_language.specs.declared.statement.Statement.{Statement}
use Rattle.cube_language.specs.declared.statement.Statement.TheVariants.{Select}
use Rattle.cube_journal.specs.declared.refusal.Refusal.TheVariants as refusal
use Rattle.cube_journal.specs.declared.reply.Reply.{Reply}
use Rattle.cube_journal.specs.declared.reply.Reply.TheVariants as reply
use Rattle.cube_run.specs.RunRecords.{RunRecord, Says, SaysNone, Sentence, catalog_of}
use Rattle.cube_run.specs.RunText.{IsReply, done_reply, reply_of}
use Rattle.cube_run.specs.SessionSteps.{SessionStep}
use Rattle.cube_run.specs.StatementEntries.{Done, Outcome, RefusedWith}
use Rattle.cube_run.specs.StepOutcomes.{is_load}
use Rattle.loaded_files.specs.CountedReplies.{CountsAbsence, CountsFault}
use Rattle.counted_scripts.proofs.FileRefusals.{EndsWithNoFile, IsOfNoFile, others_end_with_no_file}

-- A reply does not say that a file is not there or could not be read.
abbrev pub SaysNoFile : Reply → Type 0
SaysNoFile (reply.Refused r) = IsOfNoFile r
SaysNoFile said = Unit {0}

done_says_none : (run : RunRecord) (step : SessionStep) (s : Statement) → SaysNoFile (done_reply run step s)
done_says_none run step (Select items cube conds group having order limit) = tt
done_says_none run step s = tt

reply_says_none : (run : RunRecord) (step : SessionStep) (sentence : Sentence) (outcome : Outcome)
    → EndsWithNoFile outcome → SaysNoFile (reply_of run step sentence outcome)
reply_says_none run step sentence (RefusedWith r) none = none
reply_says_none run step (Says s) Done none = done_says_none run step s
reply_says_none run step (SaysNone at) Done none = tt

pub others_say_none : (run : RunRecord) (step : SessionStep) (said : Reply) → IsReply run step said
    → is_load step.sentence ≡ false → SaysNoFile said
others_say_none run step said r other =
    subst SaysNoFile (sym r.is)
    (reply_says_none run step step.sentence r.outcome
    (others_end_with_no_file (catalog_of run) step r.ends.ends other))

-- A reply that does say so is that to a LOAD.
pub only_loads : (run : RunRecord) (step : SessionStep) (said : Reply) → (SaysNoFile said → ⊥) → IsReply run step said
    → is_load step.sentence ≡ true
only_loads run step said says r =
    true_from_ne_false (is_load step.sentence) (λ other. says (others_say_none run step said r other))

-- With any other reply a count stays.
pub faults_stay : (said : Reply) (before now : ℕ) → SaysNoFile said → now ≡ before → CountsFault said before now
faults_stay (reply.Refused refusal.ReadFault) before now none same = absurd none
faults_stay said before now none same = same

pub absences_stay : (said : Reply) (before now : ℕ) → SaysNoFile said → now ≡ before → CountsAbsence said before now
absences_stay (reply.Refused refusal.NoSuchFile) before now none same = absurd none
absences_stay said before now none same = same
