-- A WATCH of a session that has a watch, and a SHOW WATCH of one that has none.
use Rattle.std.proofs.Common.{◌≡◌, ◌∙◌, ℕ, true, List, Option, Some, None, refl, ap}
use Rattle.std.proofs.lemmas.Bool.{false≢true}
use Rattle.core_program.specs.CoreFits.{CoreEntry}
use Rattle.core_states.specs.declared.session.CoreSession.{CoreSession}
use Rattle.core_watches.specs.KeptWatches.{kept_on_record, watch_on_record}
use Rattle.core_watches.specs.declared.kept.CoreWatch.{CoreWatch}
use Rattle.cube_core.specs.declared.cell.CoreCell.{CoreCell}
use Rattle.cube_journal.specs.declared.refusal.Refusal.{Refusal}
use Rattle.cube_journal.specs.declared.refusal.Refusal.TheVariants.{NoWatch, WatchOpen}
use Rattle.cube_language.specs.declared.statement.Statement.{Statement}
use Rattle.cube_language.specs.declared.statement.Statement.TheVariants.{ShowWatch, Watch}
use Rattle.cube_run.specs.RunRecords.{Says}
use Rattle.cube_run.specs.SessionStates.{KeptWatch}
use Rattle.cube_run.specs.StatementEntries.{is_watch}
use Rattle.cube_run.specs.StepOutcomes.{refused_by_mode, refused_by_watch}
use Rattle.linked_shards.specs.declared.cell.CoreShard.{CoreShard}
use Rattle.scripted_pasts.specs.Performed.{WhateverFile}
use Rattle.scripted_pasts.specs.Served.{PerformsOverShards}
use Rattle.session_desk.specs.Executed.{IfReplied}
use Rattle.session_desk.specs.declared.answered.Answered.{Answered}
use Rattle.session_desk.specs.declared.answered.Answered.TheVariants.{Replied, Stopped}
use Rattle.session_replies.specs.Modes.{mode_of}

refuses-open : (kept : KeptWatch) (s : Statement) → is_watch s ≡ true → refused_by_watch (Some kept) s ≡ Some WatchOpen
refuses-open kept (Watch items cube conds group) form = refl
refuses-open kept s form = absurd (false≢true form)

module _ (cells : List (CoreCell CoreShard)) (caller : ℕ) (old new : CoreSession) (own now : List CoreEntry) where
  -- It is performed where it is refused by whatever refuses it.
  abbrev IsRefusedBy : Refusal → Answered → Type 0
  IsRefusedBy r result = IfReplied result (λ said. (watch : Option KeptWatch) (s : Statement)
      → refused_by_mode (mode_of old.mode) s ≡ None → refused_by_watch watch s ≡ Some r
      → PerformsOverShards cells caller WhateverFile (Says s) old watch own new watch now said)

  pub refused-open : (s : Statement) (kept : Option CoreWatch) (k : CoreWatch) → kept ≡ Some k → is_watch s ≡ true
      → refused_by_mode (mode_of old.mode) s ≡ None → (result : Answered) → IsRefusedBy WatchOpen result
      → IfReplied result (PerformsOverShards cells caller WhateverFile (Says s) old (watch_on_record kept) own new
      (watch_on_record kept) now)
  refused-open s kept k is form may (Replied said) performed =
      performed (watch_on_record kept) s may
      (ap (λ (x : Option CoreWatch). refused_by_watch (watch_on_record x) s) is ∙ refuses-open (kept_on_record k) s form)
  refused-open s kept k is form may Stopped performed = tt

  pub refused-none : (kept : Option CoreWatch) → kept ≡ None → refused_by_mode (mode_of old.mode) ShowWatch ≡ None
      → (result : Answered) → IsRefusedBy NoWatch result
      → IfReplied result (PerformsOverShards cells caller WhateverFile (Says ShowWatch) old (watch_on_record kept) own new
      (watch_on_record kept) now)
  refused-none kept is may (Replied said) performed =
      performed (watch_on_record kept) ShowWatch may
      (ap (λ (x : Option CoreWatch). refused_by_watch (watch_on_record x) ShowWatch) is)
  refused-none kept is may Stopped performed = tt
