-- The calls of a session go on speaking by its script.
use Rattle.std.proofs.Common.{◌≡◌, ◌∙◌, ℕ, ◌+◌, ◌-◌, List, [], ◌∷◌, ◌++◌, length, slice_get, Some, sym, ap, subst, arith, append_assoc, append-nil}
use Rattle.std.specs.List.{AllByRecursion}
use Rattle.std.specs.Option.{option_and_then}
use mathlib.Core.List.{IsPrefix}
use Rattle.core_program.proofs.KnownCalls.{earlier-run}
use Rattle.core_program.specs.Knowing.{IsLaterRun}
use Rattle.core_cubes.proofs.CallsForStatements.{all-speak}
use Rattle.core_cubes.specs.StatementCalls.{IsCallFor}
use Rattle.core_events.specs.Clients.{calls_of}
use Rattle.core_events.specs.Events.{Opening, ClientCall, CoreEvent}
use Rattle.core_events.specs.Jobs.{CoreJob, JobOutcome}
use Rattle.core_events.specs.ShardView.{ShardView}
use Rattle.core_program.specs.CoreFits.{CoreEntry}
use Rattle.core_records.specs.ScriptedCalls.{SpeaksByScript, statement_in}
use Rattle.core_states.proofs.PlainCalls.{speak-by-script}
use Rattle.core_states.specs.LeftBehind.{AddsCalls, GoOnByCalls, IsPlainCall}
use Rattle.cube_core.specs.declared.cell.CoreCell.{CoreCell}
use Rattle.cube_core.specs.declared.shard.ShardAnswer.{ShardAnswer}
use Rattle.cube_core.specs.declared.shard.ShardCall.{ShardCall}
use Rattle.cube_language.specs.declared.statement.Statement.{Statement}
use Rattle.cube_run.specs.RunRecords.{Sentence, Says, statement_said}
use Rattle.one_session.proofs.Steps.{there}
use Rattle.scripted_pasts.proofs.QuietLearns.{quiet-speak}
use Rattle.scripted_pasts.specs.QuietCalls.{IsQuietCall}
use Rattle.scripted_pasts.specs.SpokenCalls.{SpeakBySentences}

-- The statement of a script behind some others has the number after theirs.
pub at-its-number : (before rest : List Sentence) (s : Statement) (count : ℕ) → count ≡ length before
    → statement_in (before ++ Says s ∷ rest) (count + 1) ≡ Some s
at-its-number before rest s count is =
    let place : count + 1 - 1 ≡ length before = omega (arith, is) in
    ap (λ (n : ℕ). option_and_then statement_said (slice_get (before ++ Says s ∷ rest) n)) place
    ∙ ap (option_and_then statement_said) (there before (Says s) rest)

module _ {S : Type 0} (fits : Opening → ℕ → ShardCall → Type 0) (stands : Opening → ℕ → ℕ → S → ShardView → Type 0)
    (says : CoreJob → ShardAnswer → JobOutcome → Type 0) (cells : List (CoreCell S)) (caller session : ℕ) where
  abbrev Speak : List Sentence → List CoreEntry → Type 0
  Speak sentences own = SpeakBySentences fits stands says cells caller session sentences own

  abbrev GoOn : (ClientCall → Type 0) → List CoreEntry → List CoreEntry → Type 0
  GoOn Is own now = GoOnByCalls fits stands says cells caller session Is own now

  pub no-calls-speak : (sentences : List Sentence) → Speak sentences []
  no-calls-speak sentences o log run es later are rest =
      subst (λ (events : List CoreEvent). AllByRecursion (SpeaksByScript (sentences ++ rest)) (calls_of session events))
      are tt

  -- With more calls, each of which speaks by a script that goes on by these statements.
  pub speak-more : (Is : ClientCall → Type 0) (before more after : List Sentence) (own now : List CoreEntry)
      → after ≡ before ++ more → IsPrefix own now → GoOn Is own now
      → ((rest : List Sentence) (added past : List ClientCall) → AllByRecursion Is added
      → AllByRecursion (SpeaksByScript (before ++ (more ++ rest))) past
      → AllByRecursion (SpeaksByScript (before ++ (more ++ rest))) (added ++ past))
      → Speak before own → Speak after now
  speak-more Is before more after own now is longer goes each speak o log run es later are rest =
      let a : AddsCalls fits stands says Is o session own es = goes o log run es later are in
      let earlier : IsLaterRun fits stands says cells o caller own log run =
      earlier-run fits stands says cells o caller own longer.0 log run
      (subst (λ (l : List CoreEntry). IsLaterRun fits stands says cells o caller l log run) (sym longer.1) later)
      in
      let script : after ++ rest ≡ before ++ (more ++ rest) =
      ap (λ (ss : List Sentence). ss ++ rest) is ∙ append_assoc before more rest
      in
      coe 1 0 (i. AllByRecursion (SpeaksByScript (script i)) (a.calls i))
      (each rest a.added (calls_of session a.before) a.each (speak o log run a.before earlier a.events (more ++ rest)))

  -- With quiet calls, and no statement more.
  pub quiet-calls-speak : (sentences : List Sentence) (own now : List CoreEntry) → IsPrefix own now
      → GoOn IsQuietCall own now → Speak sentences own → Speak sentences now
  quiet-calls-speak sentences own now longer goes speak =
      speak-more IsQuietCall sentences [] sentences own now (sym (append-nil sentences)) longer goes
      (λ rest added past each before. quiet-speak (sentences ++ rest) added past each before) speak

  -- With plain calls and one statement more.
  pub plain-calls-speak : (before after : List Sentence) (sentence : Sentence) (own now : List CoreEntry)
      → after ≡ before ++ sentence ∷ [] → IsPrefix own now → GoOn IsPlainCall own now → Speak before own
      → Speak after now
  plain-calls-speak before after sentence own now is longer goes speak =
      speak-more IsPlainCall before (sentence ∷ []) after own now is longer goes
      (λ rest added past each spoken. speak-by-script (before ++ sentence ∷ rest) added past each spoken) speak

  -- With the calls of the statement more.
  pub statement-calls-speak : (before after : List Sentence) (s : Statement) (count : ℕ) (own now : List CoreEntry)
      → count ≡ length before → after ≡ before ++ Says s ∷ [] → IsPrefix own now
      → GoOn (IsCallFor (count + 1) s) own now
      → Speak before own → Speak after now
  statement-calls-speak before after s count own now counted is longer goes speak =
      speak-more (IsCallFor (count + 1) s) before (Says s ∷ []) after own now is longer goes
      (λ rest added past each spoken.
      all-speak (before ++ Says s ∷ rest) (count + 1) s (at-its-number before rest s count counted) added past each
      spoken) speak
