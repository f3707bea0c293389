-- A statement that its session's watch refuses is performed.
use Rattle.std.proofs.Common.{◌≡◌, ℕ, ◌+◌, List, [], ◌∷◌, Option, Some, None, refl, sym, subst, arith}
use Rattle.core_watches.proofs.Performing.{performs}
use Rattle.core_watches.proofs.WatchesPerformed.{refused-keeps, step-is, step_of}
use Rattle.core_program.specs.CoreFits.{CoreEntry}
use Rattle.core_records.specs.CoreRecords.{record_of}
use Rattle.core_states.proofs.Refused.{counted}
use Rattle.core_states.specs.declared.session.CoreSession.{CoreSession}
use Rattle.core_watches.proofs.WatchRefusals.{refused-by-watch, watch-refusal}
use Rattle.core_watches.specs.KeptWatches.{IsRefusedSo}
use Rattle.cube_core.specs.declared.cell.CoreCell.{CoreCell}
use Rattle.cube_journal.specs.Refusals.{code}
use Rattle.cube_journal.specs.declared.journal_entry.JournalEntry.{JournalEntry}
use Rattle.cube_journal.specs.declared.journal_entry.JournalEntry.TheVariants as entry
use Rattle.cube_journal.specs.declared.refusal.Refusal.{Refusal}
use Rattle.cube_journal.specs.declared.reply.Reply.{Reply}
use Rattle.cube_journal.specs.declared.reply.Reply.TheVariants as reply
use Rattle.cube_language.specs.declared.statement.Statement.{Statement}
use Rattle.cube_run.specs.RunRecords.{Says}
use Rattle.cube_run.specs.RunText.{IsReply}
use Rattle.cube_run.specs.SessionStates.{KeptWatch}
use Rattle.cube_run.specs.SessionSteps.{SessionStep}
use Rattle.cube_run.specs.StepOutcomes.{refused_by_mode, refused_by_watch}
use Rattle.linked_shards.specs.declared.cell.CoreShard.{CoreShard}
use Rattle.scripted_pasts.specs.Performed.{WhateverFile}
use Rattle.scripted_pasts.specs.Served.{PerformsOverShards}
use Rattle.session_desk.specs.Executed.{IfReplied}
use Rattle.session_desk.specs.declared.answered.Answered.{Answered}
use Rattle.session_desk.specs.declared.answered.Answered.TheVariants.{Replied, Stopped}
use Rattle.session_replies.specs.Modes.{mode_of}

module _ (cells : List (CoreCell CoreShard)) (caller : ℕ) (session : CoreSession) (own now : List CoreEntry) (r : Refusal)
    (watch : Option KeptWatch) (s : Statement) (may : refused_by_mode (mode_of session.mode) s ≡ None)
    (is : refused_by_watch watch s ≡ Some r) where
  abbrev added : List JournalEntry
  added = entry.Refused session.number (session.statements + 1) (code r) ∷ []

  none : session.commits ≡ session.commits + 0
  none = omega arith

  so-performed : (said : Reply) → IsRefusedSo cells caller session.number own now added r said
      → PerformsOverShards cells caller WhateverFile (Says s) session watch own (counted session) watch now said
  so-performed said refused =
      let w = watch-refusal watch s r is in
      subst (λ (x : Reply). PerformsOverShards cells caller WhateverFile (Says s) session watch own (counted session) watch now
      x) (sym refused.said_is)
      (performs cells caller s session (counted session) watch watch own now added (reply.Refused r) w.no_change (record {
        left = refused.left;
        statements = refl;
        numbered = (omega arith, omega arith, tt);
        becomes = λ k. record {
          mode = refused-keeps (mode_of session.mode) session.number (session.statements + 1) (code r) k;
          watch = w.keeps session.number (session.statements + 1) (code r) k;
          commits = none k;
        };
        answers = λ past o given events step run is_step.
            subst (λ (x : SessionStep). IsReply (record_of o given events) x (reply.Refused r))
            (sym (step-is session watch s added step is_step))
            (refused-by-watch (record_of o given events) (step_of session watch s added step) s r may is refl refl);
      }))

pub by-watch : (cells : List (CoreCell CoreShard)) (caller : ℕ) (session : CoreSession) (own now : List CoreEntry) (r : Refusal)
    (result : Answered)
    → IfReplied result (IsRefusedSo cells caller session.number own now
    (entry.Refused session.number (session.statements + 1) (code r) ∷ []) r)
    → IfReplied result (λ said. (watch : Option KeptWatch) (s : Statement) → refused_by_mode (mode_of session.mode) s ≡ None
    → refused_by_watch watch s ≡ Some r
    → PerformsOverShards cells caller WhateverFile (Says s) session watch own (counted session) watch now said)
by-watch cells caller session own now r (Replied said) refused = λ watch s may is.
    so-performed cells caller session own now r watch s may is said refused
by-watch cells caller session own now r Stopped refused = tt
