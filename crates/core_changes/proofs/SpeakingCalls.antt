-- The calls of a session speak by its script with those of one statement more.
use Rattle.std.proofs.Common.{◌≡◌, ◌∙◌, ℕ, ◌+◌, ◌-◌, List, [], ◌∷◌, ◌++◌, length, Option, Some, IsSomeAnd, slice_get, sym, ap, subst, arith, append_assoc}
use Rattle.std.specs.List.{AllByRecursion}
use Rattle.std.specs.Option.{option_and_then}
use Rattle.aosi_desk.specs.declared.cube.CubeFound.TheVariants.{Found, Unknown}
use Rattle.core_cubes.specs.StatementCalls.{SpeaksFor}
use Rattle.core_events.specs.Clients.{calls_of}
use Rattle.core_events.specs.Events.{OpenWrite, OpenRead, Commit, AbortEnd, CloseRead, TakeNote, CreateCube, FindCube, CubesFrom, CountersNow, RoundOpen, RoundClose, StoreFailed, ClientCall, OnDesk, OnNames, Post, Fetch, CloseMail, NoChange}
use Rattle.core_program.proofs.KnownCalls.{earlier-run}
use Rattle.core_program.specs.CoreFits.{CoreEntry}
use Rattle.core_program.specs.Knowing.{IsLaterRun}
use Rattle.core_records.specs.ScriptedCalls.{SpeaksByScript, statement_in}
use Rattle.core_states.specs.LeftBehind.{AddsCalls}
use Rattle.cube_core.specs.declared.cell.CoreCell.{CoreCell}
use Rattle.cube_journal.specs.declared.journal_entry.JournalEntry.{JournalEntry}
use Rattle.cube_language.specs.declared.statement.Statement.{Statement}
use Rattle.cube_run.specs.RunRecords.{Says, Sentence, name_spoken_of, statement_said}
use Rattle.linked_shards.specs.CellShards.{CoreShardStands}
use Rattle.shard_events.specs.ShardsInRuns.{FitsShard, ShardAnswerSays}
use Rattle.linked_shards.specs.declared.cell.CoreShard.{CoreShard}
use Rattle.one_session.proofs.Steps.{there}
use Rattle.core_changes.specs.CallsOfChanges.{IsCallOfChange, LeavesForChange}
use Rattle.scripted_pasts.specs.SpokenCalls.{SpeakBySentences}

module _ (script : List Sentence) (number : ℕ) (s : Statement) (stands : statement_in script number ≡ Some s) where
  at-number : (statement : ℕ) → statement ≡ number → statement_in script statement ≡ Some s
  at-number statement is = ap (statement_in script) is ∙ stands

  one-speaks : (c : ClientCall) → SpeaksFor number s c → SpeaksByScript script c
  one-speaks (OnDesk (CreateCube statement decl said)) is =
      at-number statement is.0 ∙ ap (λ (x : Statement). Some x) is.1
  one-speaks (OnDesk (FindCube statement name Unknown)) is =
      subst (λ (o : Option Statement). IsSomeAnd o (λ x. name_spoken_of x ≡ name)) (sym (at-number statement is.0)) is.1
  one-speaks (OnDesk (FindCube statement name (Found place decl))) is = tt
  one-speaks (OnDesk (OpenWrite statement epoch deps)) is = tt
  one-speaks (OnDesk (OpenRead holder statement epoch)) is = tt
  one-speaks (OnDesk (Commit statement epoch)) is = tt
  one-speaks (OnDesk (AbortEnd statement epoch cause)) is = tt
  one-speaks (OnDesk (CloseRead holder statement)) is = tt
  one-speaks (OnDesk (TakeNote note counters)) is = tt
  one-speaks (OnDesk (CubesFrom place cubes)) is = tt
  one-speaks (OnDesk (CountersNow counters)) is = tt
  one-speaks (OnDesk (RoundOpen answer)) is = tt
  one-speaks (OnDesk (RoundClose epoch end)) is = tt
  one-speaks (OnDesk (StoreFailed failed)) is = tt
  one-speaks (OnNames c) is = tt
  one-speaks (Post mail job) is = tt
  one-speaks (Fetch mail said) is = tt
  one-speaks (CloseMail mail) is = tt
  one-speaks NoChange is = tt

  all-speak : (added past : List ClientCall) → AllByRecursion (IsCallOfChange number s) added
      → AllByRecursion (SpeaksByScript script) past → AllByRecursion (SpeaksByScript script) (added ++ past)
  all-speak [] past each before = before
  all-speak (c ∷ added) past each before = (one-speaks c each.0.speaks, all-speak added past each.1 before)

module _ (cells : List (CoreCell CoreShard)) (caller session : ℕ) (s : Statement) (own now : List CoreEntry)
    (added : List JournalEntry) where
  pub speak-with : (before : List Sentence)
      → LeavesForChange cells caller session (length before + 1) s own now added
      → SpeakBySentences FitsShard CoreShardStands ShardAnswerSays cells caller session before own
      → SpeakBySentences FitsShard CoreShardStands ShardAnswerSays cells caller session (before ++ Says s ∷ []) now
  speak-with before left speaks = λ o log run es later are rest.
      let a : AddsCalls FitsShard CoreShardStands ShardAnswerSays (IsCallOfChange (length before + 1) s) o session own es =
      left.calls o log run es later are
      in
      let earlier : IsLaterRun FitsShard CoreShardStands ShardAnswerSays cells o caller own log run =
      earlier-run FitsShard CoreShardStands ShardAnswerSays cells o caller own left.more.0 log run
      (subst (λ (l : List CoreEntry). IsLaterRun FitsShard CoreShardStands ShardAnswerSays cells o caller l log run)
      (sym left.more.1) later)
      in
      let script : List Sentence = before ++ Says s ∷ rest in
      let place : length before + 1 - 1 ≡ length before = omega arith in
      let stands : statement_in script (length before + 1) ≡ Some s =
      ap (λ (n : ℕ). option_and_then statement_said (slice_get script n)) place
      ∙ ap (λ (o : Option Sentence). option_and_then statement_said o) (there before (Says s) rest)
      in
      let whole : (before ++ Says s ∷ []) ++ rest ≡ script = append_assoc before (Says s ∷ []) rest in
      subst (λ (l : List Sentence). AllByRecursion (SpeaksByScript l) (calls_of session es)) (sym whole)
      (subst (λ (cs : List ClientCall). AllByRecursion (SpeaksByScript script) cs) (sym a.calls)
      (all-speak script (length before + 1) s stands a.added (calls_of session a.before) a.each
      (speaks o log run a.before earlier a.events (Says s ∷ rest))))
