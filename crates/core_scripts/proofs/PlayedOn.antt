-- A session goes on playing its script by a statement that it performs.
use Rattle.std.proofs.Common.{◌≡◌, ℕ, List, Option, None, Some, refl}
use mathlib.Core.List.{IsPrefix}
use Rattle.core_program.specs.CoreFits.{CoreEntry}
use Rattle.counted_scripts.specs.CountedLoads.{CountsFor}
use Rattle.core_scripts.specs.PlayingSessions.{IsOnRows, PlaysOn, TouchesNoRows, Watches}
use Rattle.core_scripts.specs.ToldFiles.{IsFileTold, ShelfTold, files_told}
use Rattle.core_scripts.specs.declared.player.ScriptPlayer.{ScriptPlayer}
use Rattle.core_states.specs.ExecutedInCore.{HasOneMore}
use Rattle.core_states.specs.StandingInCore.{HoldsForMode}
use Rattle.core_watches.proofs.KeptOn.{watch-kept}
use Rattle.core_watches.specs.KeptWatches.{KeepsWatchOrNone, watch_on_record}
use Rattle.cube_core.specs.declared.cell.CoreCell.{CoreCell}
use Rattle.cube_journal.specs.declared.reply.Reply.{Reply}
use Rattle.cube_language.specs.declared.statement.Statement.{Statement}
use Rattle.cube_language.specs.declared.statement.Statement.TheVariants as asked
use Rattle.cube_run.specs.RunRecords.{LoadedFile, Says, Sentence}
use Rattle.cube_run.specs.SessionStates.{KeptWatch}
use Rattle.cube_run.specs.StepOutcomes.{refused_by_watch}
use Rattle.linked_shards.specs.CellShards.{CoreShardStands}
use Rattle.linked_shards.specs.declared.cell.CoreShard.{CoreShard}
use Rattle.scripted_pasts.proofs.PlayedMore.{one-more-played, performs-as}
use Rattle.scripted_pasts.specs.Performed.{WhateverFile}
use Rattle.scripted_pasts.specs.Served.{LeavesItsWatch, PerformsOverShards, PerformsWatchedOverShards}
use Rattle.session_desk.specs.Executed.{IfReplied}
use Rattle.session_desk.specs.declared.answered.Answered.{Answered}
use Rattle.session_desk.specs.declared.answered.Answered.TheVariants.{Replied, Stopped}
use Rattle.session_replies.specs.Modes.{mode_of}
use Rattle.session_texts.proofs.KeptTexts.{texts-later}
use Rattle.session_texts.specs.ToldTexts.{AreTextsTold}
use Rattle.shard_events.specs.ShardsInRuns.{FitsShard, ShardAnswerSays}

-- ---- statements without a file

abbrev pub HasNoFile : Statement → Type 0
HasNoFile (asked.Load cube path reject) = ⊥
HasNoFile s = Unit {0}

none-told : (told : ShelfTold) (s : Statement) (said : Reply) → HasNoFile s → (file : LoadedFile)
    → IsFileTold told (Says s) said file
none-told told (asked.Load cube path reject) said none file = absurd none
none-told told s said none file = tt

pub counts-none : (Counts : Reply → ℕ → ℕ → Type 0) (s : Statement) (said : Reply) (n : ℕ) → HasNoFile s
    → CountsFor Counts (Says s) said n n
counts-none Counts (asked.Load cube path reject) said n none = absurd none
counts-none Counts s said n none = refl

pub untouched-has-none : (s : Statement) → TouchesNoRows s → HasNoFile s
untouched-has-none (asked.Load cube path reject) is = absurd is
untouched-has-none s is = tt

pub on-rows-has-none : (s : Statement) → IsOnRows s → HasNoFile s
on-rows-has-none (asked.Load cube path reject) is = absurd is
on-rows-has-none s is = tt

pub watching-has-none : (s : Statement) → Watches s → HasNoFile s
watching-has-none (asked.Load cube path reject) is = absurd is
watching-has-none s is = tt

pub counts-stay : (Counts : Reply → ℕ → ℕ → Type 0) (s : Statement) (answered : Answered) (n : ℕ) → HasNoFile s
    → IfReplied answered (λ said. CountsFor Counts (Says s) said n n)
counts-stay Counts s (Replied said) n none = counts-none Counts s said n none
counts-stay Counts s Stopped n none = tt

-- ---- statements that every watch lets

abbrev pub LetsEach : Statement → Type 0
LetsEach s = (watch : Option KeptWatch) → refused_by_watch watch s ≡ None

pub untouched-is-let : (s : Statement) → TouchesNoRows s → LetsEach s
untouched-is-let (asked.Watch items cube conds group) is watch = absurd is
untouched-is-let asked.ShowWatch is watch = absurd is
untouched-is-let s is None = refl
untouched-is-let s is (Some kept) = refl

pub on-rows-is-let : (s : Statement) → IsOnRows s → LetsEach s
on-rows-is-let (asked.Watch items cube conds group) is watch = absurd is
on-rows-is-let asked.ShowWatch is watch = absurd is
on-rows-is-let s is None = refl
on-rows-is-let s is (Some kept) = refl

-- ---- one statement more

module _ (cells : List (CoreCell CoreShard)) (caller : ℕ) (old new : ScriptPlayer) (own now : List CoreEntry) where
  abbrev pub Holds : Type 0
  Holds = HoldsForMode FitsShard CoreShardStands ShardAnswerSays cells caller new.session.number now
      (mode_of new.session.mode)

  abbrev pub Keeps : ScriptPlayer → List CoreEntry → Type 0
  Keeps player calls = KeepsWatchOrNone cells caller player.session.number calls player.watch

  -- So it is, of cells and a caller that are the same.
  abbrev pub HoldsThere : List (CoreCell CoreShard) → ℕ → Type 0
  HoldsThere there k = HoldsForMode FitsShard CoreShardStands ShardAnswerSays there k new.session.number now
      (mode_of new.session.mode)

  pub held-here : (there : List (CoreCell CoreShard)) (k : ℕ) → there ≡ cells → k ≡ caller → HoldsThere there k → Holds
  held-here there k same also holds =
      coe 0 1 (i. HoldsForMode FitsShard CoreShardStands ShardAnswerSays (same i) (also i) new.session.number now
      (mode_of new.session.mode)) holds

  pub always-held : (answered : Answered) → Holds → IfReplied answered (λ said. Holds)
  always-held (Replied said) holds = holds
  always-held Stopped holds = tt

  pub held-if : (answered : Answered) (there : List (CoreCell CoreShard)) (k : ℕ) → there ≡ cells → k ≡ caller
      → IfReplied answered (λ said. HoldsThere there k) → IfReplied answered (λ said. Holds)
  held-if (Replied said) there k same also holds = held-here there k same also holds
  held-if Stopped there k same also holds = tt

  -- Texts that were told before are told with more calls.
  abbrev pub TextsGo : Type 0
  TextsGo = AreTextsTold own old.texts → IsPrefix own now → AreTextsTold now new.texts

  pub kept-here : (there : List (CoreCell CoreShard)) (k : ℕ) → there ≡ cells → k ≡ caller
      → KeepsWatchOrNone there k new.session.number now new.watch → Keeps new now
  kept-here there k same also keeps =
      coe 0 1 (i. KeepsWatchOrNone (same i) (also i) new.session.number now new.watch) keeps

  abbrev pub KeepsOn : Type 0
  KeepsOn = Keeps old own → IsPrefix own now → Keeps new now

  abbrev pub Performing : (LoadedFile → Type 0) → Sentence → Reply → Type 0
  Performing IsFile sentence said =
      PerformsOverShards cells caller IsFile sentence old.session (watch_on_record old.watch) own new.session
      (watch_on_record new.watch) now said

  pub plays-on : (told : ShelfTold) (sentence : Sentence) (said : Reply) → HasOneMore old.session new.session → Holds
      → KeepsOn → TextsGo → Performing (IsFileTold told sentence said) sentence said
      → PlaysOn told cells caller old own sentence new now said
  plays-on told sentence said m holds keeps texts performs script replies h =
      let p = performs h.played.past h.played.stands_there h.played.counted in
      record {
        holds = holds;
        keeps = keeps h.keeps p.goes_on;
        texts = texts h.texts p.goes_on;
        counted = m.counted;
        played =
            one-more-played FitsShard CoreShardStands ShardAnswerSays cells caller (files_told told) old.session
            new.session (watch_on_record old.watch) (watch_on_record new.watch) own now script replies sentence said m
            h.played performs;
      }

  -- So it is of a statement that is performed with whatever file.
  pub plays-without-file : (told : ShelfTold) (sentence : Sentence) (said : Reply)
      → ((file : LoadedFile) → IsFileTold told sentence said file) → HasOneMore old.session new.session → Holds
      → KeepsOn → TextsGo → Performing WhateverFile sentence said
      → PlaysOn told cells caller old own sentence new now said
  plays-without-file told sentence said each m holds keeps texts performs =
      plays-on told sentence said m holds keeps texts
      (performs-as FitsShard CoreShardStands ShardAnswerSays cells caller WhateverFile (IsFileTold told sentence said)
      old.session new.session (watch_on_record old.watch) (watch_on_record new.watch) own now sentence said
      (λ file any. each file) performs)

  -- A watch is kept by calls that leave it.
  pub keeps-on : HasOneMore old.session new.session → new.watch ≡ old.watch
      → LeavesItsWatch cells caller old.session.number own now → KeepsOn
  keeps-on m same leaves keeps goes =
      coe 1 0 (i. KeepsWatchOrNone cells caller (m.number i) now (same i))
      (watch-kept cells caller old.session.number own now goes old.watch leaves keeps)

  pub texts-go : new.texts ≡ old.texts → TextsGo
  texts-go same told goes = coe 1 0 (i. AreTextsTold now (same i)) (texts-later own now old.texts goes told)

  -- What a statement is that the watch lets, and that leaves the watch as it is.
  pub record IsBeside (s : Statement) : Type 0 where
    pub no_file : HasNoFile s
    pub lets : LetsEach s
    pub more : HasOneMore old.session new.session
    pub same : new.watch ≡ old.watch
    pub leaves : LeavesItsWatch cells caller old.session.number own now

  performs-beside : (s : Statement) (said : Reply) → IsBeside s
      → PerformsWatchedOverShards cells caller WhateverFile s old.session own new.session now said
      → Performing WhateverFile (Says s) said
  performs-beside s said b performs =
      coe 1 0 (i. PerformsOverShards cells caller WhateverFile (Says s) old.session (watch_on_record old.watch) own
      new.session (watch_on_record (b.same i)) now said)
      (performs (watch_on_record old.watch) (b.lets (watch_on_record old.watch)))

  pub plays-beside : (s : Statement) (answered : Answered) → IsBeside s
      → IfReplied answered (λ said. Holds) → TextsGo
      → IfReplied answered (PerformsWatchedOverShards cells caller WhateverFile s old.session own new.session now)
      → IfReplied answered (λ said. (told : ShelfTold) → PlaysOn told cells caller old own (Says s) new now said)
  plays-beside s (Replied said) b holds texts performs = λ told.
      plays-without-file told (Says s) said (none-told told s said b.no_file) b.more holds
      (keeps-on b.more b.same b.leaves) texts (performs-beside s said b performs)
  plays-beside s Stopped b holds texts performs = tt

  -- WATCH and SHOW WATCH keep another watch.
  pub plays-watching : (s : Statement) (answered : Answered) → Watches s → HasOneMore old.session new.session → Holds
      → Keeps new now → TextsGo
      → IfReplied answered (Performing WhateverFile (Says s))
      → IfReplied answered (λ said. (told : ShelfTold) → PlaysOn told cells caller old own (Says s) new now said)
  plays-watching s (Replied said) is m holds keeps texts performs = λ told.
      plays-without-file told (Says s) said (none-told told s said (watching-has-none s is)) m holds
      (λ before goes. keeps) texts performs
  plays-watching s Stopped is m holds keeps texts performs = tt

-- What is played with whatever files is played with those of a shelf.
pub plays-as-told : (cells : List (CoreCell CoreShard)) (caller : ℕ) (old new : ScriptPlayer) (own now : List CoreEntry)
    (sentence : Sentence) (told : ShelfTold) (answered : Answered)
    → IfReplied answered (λ said. (told : ShelfTold) → PlaysOn told cells caller old own sentence new now said)
    → IfReplied answered (PlaysOn told cells caller old own sentence new now)
plays-as-told cells caller old new own now sentence told (Replied said) plays = plays told
plays-as-told cells caller old new own now sentence told Stopped plays = tt
