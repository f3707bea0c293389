-- How a step ends that its parts tell.
use Rattle.std.proofs.Common.{◌≡◌, ℕ, ◌+◌, ◌%◌, ◌==◌, zero, suc, Bool, false, ◌&&◌, List, [], ◌∷◌, Option, Some, None, refl, sym, ap, subst}
use Rattle.std.specs.List.{list_any}
use Rattle.cube_language.specs.declared.misfit.Misfit.{Misfit}
use Rattle.cube_language.specs.declared.statement.Statement.{Statement}
use Rattle.cube_journal.specs.declared.journal_entry.JournalEntry.{JournalEntry}
use Rattle.cube_journal.specs.declared.refusal.Refusal.{Refusal}
use Rattle.cube_journal.specs.declared.reply.Reply.{Reply}
use Rattle.cube_run.specs.Merge.{RoundFollows, round_is_due}
use Rattle.cube_run.specs.RunRecords.{RunRecord, Sentence, Says, catalog_of}
use Rattle.cube_run.specs.RunText.{IsReply}
use Rattle.cube_run.specs.SessionStates.{KeptWatch, Mode, is_commit}
use Rattle.cube_run.specs.SessionSteps.{SessionStep}
use Rattle.cube_run.specs.StepOutcomes.{Meets, bound_refusal, refused_by_mode, refused_by_watch, refused_declaration, told_unknown}
use Rattle.cube_language.specs.Cubes.{first_some}
use Rattle.session_replies.specs.StepParts.{IsStep}
use Rattle.session_replies.proofs.Fitting.{misfit_of}

-- The step with these parts.
abbrev pub with_parts : SessionStep → Mode → Sentence → List JournalEntry → SessionStep
with_parts step mode sentence entries = record {
  session = step.session;
  number = step.number;
  sentence = sentence;
  file = step.file;
  state = record { mode = mode; watch = step.state.watch; commits = step.state.commits };
  entries = entries;
}

-- A step is one with its parts.
pub same_parts : (step : SessionStep) (mode : Mode) (sentence : Sentence) (entries : List JournalEntry)
    → IsStep step mode sentence entries → step ≡ with_parts step mode sentence entries
same_parts step mode sentence entries h =
    (λ i. with_parts step (h.mode_is i) (h.sentence_is i) (h.entries_are i))

-- A step is answered as one with its parts.
pub by_parts : (run : RunRecord) (step : SessionStep) (mode : Mode) (sentence : Sentence) (entries : List JournalEntry)
    (said : Reply) → IsStep step mode sentence entries → IsReply run (with_parts step mode sentence entries) said
    → IsReply run step said
by_parts run step mode sentence entries said h is =
    subst (λ (s : SessionStep). IsReply run s said) (sym (same_parts step mode sentence entries h)) is

-- No round is due where nothing is committed.
pub no_round : (n : ℕ) (step : SessionStep) → list_any is_commit step.entries ≡ false → round_is_due n step ≡ false
no_round zero step h = refl
no_round (suc n) step h = ap (λ (b : Bool). b && ((step.state.commits + 1) % suc n == 0)) h

pub no_entries : (run : RunRecord) (step : SessionStep) → list_any is_commit step.entries ≡ false
    → RoundFollows step.session step.number (round_is_due run.round_every step) []
no_entries run step h =
    subst (λ (due : Bool). RoundFollows step.session step.number due []) (sym (no_round run.round_every step h)) refl

-- What has nothing to do with a watch is refused by none.
pub no_watch : (watch : Option KeptWatch) (s : Statement) → refused_by_watch None s ≡ None
    → ((kept : KeptWatch) → refused_by_watch (Some kept) s ≡ None) → refused_by_watch watch s ≡ None
no_watch None s a b = a
no_watch (Some kept) s a b = b kept

-- A statement is refused by nothing up to its binding.
pub bound_none : (step : SessionStep) (s : Statement) → refused_by_mode step.state.mode s ≡ None
    → refused_by_watch step.state.watch s ≡ None → told_unknown step.entries s ≡ None
    → refused_declaration step.entries s ≡ None → bound_refusal step (Says s) None ≡ None
bound_none step s a b c d = (λ i. first_some (a i ∷ b i ∷ c i ∷ None ∷ d i ∷ []))

-- The first refusal at a binding, whichever misfit there is.
pub refused_at : (run : RunRecord) (step : SessionStep) (r : Refusal)
    → ((misfit : Option Misfit) → bound_refusal step step.sentence misfit ≡ Some r)
    → Meets (catalog_of run) step (Some r)
refused_at run step r h =
    let m = misfit_of (catalog_of run) step.sentence in
    record {
      binding = Some r;
      meets = record { misfit = m.0; is_misfit = m.1; is = h m.0 };
      is = refl;
    }
