-- The reply to a statement that its session's watch refuses, or that asks for a watch where there is none.
use Rattle.std.proofs.Common.{◌≡◌, ◌∙◌, ℕ, true, false, List, [], ◌∷◌, Option, Some, None, refl, sym, ap}
use Rattle.std.specs.Option.{option_map}
use Rattle.std.proofs.lemmas.Bool.{false≢true}
use Rattle.std.proofs.lemmas.Option.{none-some, same_Some}
use Rattle.cube_journal.specs.Refusals.{code, of_misfit}
use Rattle.cube_journal.specs.declared.journal_entry.JournalEntry.{JournalEntry}
use Rattle.cube_journal.specs.declared.journal_entry.JournalEntry.TheVariants as entry
use Rattle.cube_journal.specs.declared.refusal.Refusal.{Refusal}
use Rattle.cube_journal.specs.declared.refusal.Refusal.TheVariants as refusal
use Rattle.cube_journal.specs.declared.reply.Reply.TheVariants as reply
use Rattle.cube_language.specs.Cubes.{first_some}
use Rattle.cube_language.specs.declared.statement.Statement.{Statement}
use Rattle.cube_language.specs.declared.statement.Statement.TheVariants.{ShowWatch, Watch}
use Rattle.cube_run.specs.Merge.{HasCube, looked_for_cube}
use Rattle.cube_run.specs.RunRecords.{RunRecord, Says, cube_needed}
use Rattle.cube_run.specs.RunText.{IsReply}
use Rattle.cube_run.specs.SessionStates.{Aborted, Idle, KeptWatch, Mode, Open, watch_after}
use Rattle.cube_run.specs.SessionSteps.{SessionStep}
use Rattle.cube_run.specs.StatementEntries.{RefusedWith, is_change, leaves_refused}
use Rattle.cube_run.specs.StepOutcomes.{refused_by_mode, refused_by_watch, refused_declaration, refused_first, told_unknown}
use Rattle.session_replies.proofs.Ends.{refused_at}
use Rattle.session_replies.proofs.Refusing.{refused}

-- What a refusal by a watch, or for want of one, leaves as it is.
pub record IsWatchRefusal (watch : Option KeptWatch) (s : Statement) (r : Refusal) : Type 0 where
  pub no_change : is_change s ≡ false
  pub leaves : (mode : Mode) → leaves_refused mode r ≡ true
  pub keeps : (i j n : ℕ) → watch ≡ watch_after watch (Says s) (entry.Refused i j n ∷ [])
  pub cube : (run : RunRecord) (step : SessionStep) → looked_for_cube (RefusedWith r) ≡ true
      → HasCube run step (cube_needed s)

open-leaves : (mode : Mode) → leaves_refused mode refusal.WatchOpen ≡ true
open-leaves Idle = refl
open-leaves (Open writer) = refl
open-leaves (Aborted epoch) = refl

none-leaves : (mode : Mode) → leaves_refused mode refusal.NoWatch ≡ true
none-leaves Idle = refl
none-leaves (Open writer) = refl
none-leaves (Aborted epoch) = refl

pub watch-refusal : (watch : Option KeptWatch) (s : Statement) (r : Refusal) → refused_by_watch watch s ≡ Some r
    → IsWatchRefusal watch s r
watch-refusal (Some kept) (Watch items cube conds group) r is =
    let same : refusal.WatchOpen ≡ r = same_Some refusal.WatchOpen r is in
    record {
      no_change = refl;
      leaves = λ mode. ap (λ (x : Refusal). leaves_refused mode x) (sym same) ∙ open-leaves mode;
      keeps = λ i j n. refl;
      cube = λ run step looked.
          absurd (false≢true (ap (λ (x : Refusal). looked_for_cube (RefusedWith x)) same ∙ looked));
    }
watch-refusal None ShowWatch r is =
    let same : refusal.NoWatch ≡ r = same_Some refusal.NoWatch r is in
    record {
      no_change = refl;
      leaves = λ mode. ap (λ (x : Refusal). leaves_refused mode x) (sym same) ∙ none-leaves mode;
      keeps = λ i j n. refl;
      cube = λ run step looked. tt;
    }
watch-refusal watch s r is = absurd (none-some r is)

-- It is answered so, by the entry that it leaves.
pub refused-by-watch : (run : RunRecord) (step : SessionStep) (s : Statement) (r : Refusal)
    → refused_by_mode step.state.mode s ≡ None → refused_by_watch step.state.watch s ≡ Some r
    → step.sentence ≡ Says s → step.entries ≡ entry.Refused step.session step.number (code r) ∷ []
    → IsReply run step (reply.Refused r)
refused-by-watch run step s r may is says leaves =
    let w = watch-refusal step.state.watch s r is in
    let added : List JournalEntry = entry.Refused step.session step.number (code r) ∷ [] in
    let p : SessionStep = record {
      session = step.session;
      number = step.number;
      sentence = Says s;
      file = step.file;
      state = step.state;
      entries = added;
    } in
    refused run step step.state.mode (Says s) r (record { mode_is = refl; sentence_is = says; entries_are = leaves })
    (w.leaves step.state.mode)
    (refused_first r (refused_at run p r
    (λ misfit k. first_some (may k ∷ is k ∷ told_unknown added s ∷ option_map of_misfit misfit
    ∷ refused_declaration added s ∷ []))))
    (w.cube run p)
