-- A core that ran on threads: main ended its run by a purge, and the flusher went on to its last round behind the
-- sessions' last calls.
use Rattle.std.proofs.Common.{◌≡◌, ◌∙◌, ℕ, ◌+◌, ◌-◌, ◌<◌, ◌≤◌, Bool, true, false, List, [], ◌∷◌, ◌++◌, length, append_assoc, append-nil, Option, Some, None, IsSomeAnd, refl, sym, ap, arith}
use Rattle.std.proofs.lemmas.List.{length-append}
use Rattle.std.proofs.lemmas.List.Elements.{filter-append}
use Rattle.std.proofs.lemmas.Option.{none-some}
use mathlib.Core.List.{IsPrefix}
use Rattle.cube_journal.specs.declared.counters.Counters.{Counters}
use Rattle.core_events.specs.Events.{Opening}
use Rattle.core_program.specs.CoreFits.{CoreEntry, OpensCells}
use Rattle.flush_loop.specs.FlushTurns.{LearnsOfFlushes}
use Rattle.flush_loop.specs.MadeRounds.{KeptClaim}
use Rattle.flush_loop.specs.declared.round_result.RoundResult.{RoundResult}
use Rattle.linked_shards.specs.CellShards.{CoreShardStands}
use Rattle.run_threads.specs.CoreWorks.{HasClosedShards, MayClose, OpeningCells, PurgesAtEnd}
use Rattle.shard_events.specs.ShardsInRuns.{FitsShard, ShardAnswerSays}
use Rattle.threaded_core.specs.CoreParts.{IsLeftByRun}
use Rattle.threaded_core.specs.RanCores.{FlusherEnds, HasRunOnThreads, SessionDone}
use Rattle.threaded_core.specs.declared.cores.RanCore.{RanCore}
use Rattle.turn_board.specs.History.{is_by_caller, of_caller}
use Rattle.run_ends.specs.RunEnds.{EndsBefore, EndsByPurge, FlushesLast, IsEndedRun, a_session, the_flusher}

-- ---- histories that go on

-- A caller that makes no call behind a moment makes none behind a later one.
made-between : (caller : ℕ) (moment later log : List CoreEntry) → IsPrefix moment later → IsPrefix later log
    → of_caller caller moment ≡ of_caller caller log → of_caller caller later ≡ of_caller caller log
made-between caller moment later log first second same =
    let parts = sym (ap (of_caller caller) first.1) ∙ filter-append (is_by_caller caller) moment first.0 in
    let whole = sym (ap (of_caller caller) second.1) ∙ filter-append (is_by_caller caller) later second.0 in
    let a = ap length parts in
    let b = ap length whole in
    let c = ap length same in
    let d = length-append (of_caller caller moment) (of_caller caller first.0) in
    let e = length-append (of_caller caller later) (of_caller caller second.0) in
    let none : length (of_caller caller second.0) ≡ 0 = omega (arith, a, b, c, d, e) in
    sym (whole ∙ ap (λ (l : List CoreEntry). of_caller caller later ++ l) (no-item (of_caller caller second.0) none)
    ∙ append-nil (of_caller caller later))
  where
    no-item : (l : List CoreEntry) → length l ≡ 0 → l ≡ []
    no-item [] none = refl
    no-item (x ∷ l) none = absurd (omega (arith, none))

prefix-then : (xs ys zs : List CoreEntry) → IsPrefix xs ys → IsPrefix ys zs → IsPrefix xs zs
prefix-then xs ys zs p q =
    (p.0 ++ q.0, sym (append_assoc xs p.0 q.0) ∙ ap (λ (l : List CoreEntry). l ++ q.0) p.1 ∙ q.1)

some-item : {X : Type 0} (xs : List X) (k : ℕ) → k < length xs → X
some-item [] k low = absurd (omega (arith, low))
some-item (x ∷ xs) k low = x

-- ---- what main and the flusher have done

-- A run that opens with the cells has the shards that main knows of.
same-shards : (o : Opening) (shards sessions callers : ℕ) (cells : OpeningCells) (log : List CoreEntry)
    → MayClose shards sessions callers cells → OpensCells FitsShard CoreShardStands ShardAnswerSays o cells log
    → shards ≡ o.shards
same-shards o shards sessions callers cells log may opens =
    let is = may.mail.cell_is o log opens in omega (arith, is)

-- Where the sessions had begun main tells the counters that it read.
counters-told : (shards : ℕ) (cells : OpeningCells) (told : Option Counters) (own now : List CoreEntry)
    → PurgesAtEnd shards cells true told own now → (counters : Counters) × (told ≡ Some counters)
counters-told shards cells (Some counters) own now h = (counters, refl)
counters-told shards cells None own now h = absurd h

abbrev Learns : OpeningCells → ℕ → ℕ → ℕ → RoundResult → List CoreEntry → Type 0
Learns cells caller client mail how own =
    LearnsOfFlushes FitsShard CoreShardStands ShardAnswerSays cells caller client mail (Some how) [] own

-- A flusher with a last round had begun.
flusher-learns : {M : Type 0} (serves : M → OpeningCells → Type 0) (has_kept : M → M → KeptClaim)
    (becomes : M → M → Type 0) (began : Bool) (shards sessions : ℕ) (before after : M) (last : Option RoundResult) (how : RoundResult)
    (cells : OpeningCells) (caller : ℕ) (own : List CoreEntry)
    → FlusherEnds serves has_kept becomes began shards sessions before after last cells caller own → last ≡ Some how
    → Learns cells caller (sessions + 1) shards how own
flusher-learns serves has_kept becomes true shards sessions before after last how cells caller own h is =
    coe 0 1 (i. LearnsOfFlushes FitsShard CoreShardStands ShardAnswerSays cells caller (sessions + 1) shards (is i) []
    own) h.learns
flusher-learns serves has_kept becomes false shards sessions before after last how cells caller own h is =
    absurd (none-some how (sym h.2 ∙ is))

pub some-and : {X : Type 0} (P : X → Type 0) (x : Option X) (y : X) → x ≡ Some y → P y → IsSomeAnd x P
some-and P x y is p = coe 1 0 (i. IsSomeAnd (is i) P) p

-- ---- the run

module _ {W M : Type 0} {done : SessionDone W} {serves : M → OpeningCells → Type 0} {has_kept : M → M → KeptClaim}
    {becomes : M → M → Type 0} (shards sessions : ℕ) (cells : OpeningCells) (works : List W) (maker : M)
    (ran : RanCore W M) (h : HasRunOnThreads done serves has_kept becomes shards sessions cells works maker ran)
    (o : Opening) (opens : OpensCells FitsShard CoreShardStands ShardAnswerSays o cells h.log)
    (same : o.sessions ≡ sessions) where
  shards-are : shards ≡ o.shards
  shards-are = same-shards o shards sessions (sessions + 2 + shards) cells h.log h.order.stops.may opens

  -- A session, by its place among the works.
  by-place : (k : ℕ) → k < sessions → of_caller (1 + k) h.order.played ≡ of_caller (1 + k) h.log
  by-place k low =
      let many = h.order.as_many in
      (h.order.plays k (some-item ran.sessions.items k (omega (arith, low, many))) low).all

  session-ended : (session : ℕ) → 1 ≤ session → session ≤ sessions
      → of_caller session h.order.played ≡ of_caller session h.log
  session-ended session first last =
      let place : 1 + (session - 1) ≡ session = omega (arith, first) in
      coe 0 1 (i. of_caller (place i) h.order.played ≡ of_caller (place i) h.log)
      (by-place (session - 1) (omega (arith, first, last)))

  ended : (caller : ℕ) → EndsBefore shards sessions caller
      → of_caller caller h.order.flushed ≡ of_caller caller h.log
  ended caller (a_session n first last) =
      made-between n h.order.played h.order.flushed h.log h.order.before_flusher h.order.before_main
      (session-ended n first last)
  ended caller the_flusher = h.order.all_rounds

  pub told : ran.began ≡ true → (counters : Counters) × (ran.counters ≡ Some counters)
  told began =
      counters-told shards cells ran.counters (of_caller 0 h.order.flushed) h.order.closes.purged
      (coe 0 1 (i. PurgesAtEnd shards cells (began i) ran.counters (of_caller 0 h.order.flushed) h.order.closes.purged)
      h.order.closes.purges)

  by-purge : (counters : Counters) → ran.began ≡ true → ran.counters ≡ Some counters
      → EndsByPurge shards sessions counters cells h.log
  by-purge counters began shown = record {
    moment = h.order.flushed;
    goes_on = h.order.before_main;
    ended = λ caller is. ended caller is;
    ends = coe 0 1 (i. HasClosedShards shards (began i) (shown i) cells (of_caller 0 h.order.flushed)
        (of_caller 0 h.log)) h.order.closes;
  }

  pub ended-run : (counters : Counters) (r : IsLeftByRun o h.log h.left ran.left) → ran.began ≡ true
      → ran.counters ≡ Some counters → IsEndedRun o counters (sessions + 2 + shards) cells h.left h.log r.to.es
  ended-run counters r began shown = record {
    opens = opens;
    history = h.history;
    events = r.to.events;
    run = r.to.run;
    stand = r.to.stand;
    ends = coe 0 1 (i. EndsByPurge (shards-are i) (sym same i) counters cells h.log) (by-purge counters began shown);
  }

  pub flushes-last : (how : RoundResult) → ran.last_round ≡ Some how → FlushesLast o how cells h.log
  flushes-last how is = record {
    moment = h.order.played;
    goes_on = prefix-then h.order.played h.order.flushed h.log h.order.before_flusher h.order.before_main;
    main_waits = h.order.main_waits;
    played = λ session s.
        let first = s.first in
        let last = s.last in
        session-ended session first (omega (arith, last, same));
    flushed =
        coe 0 1 (i. Learns cells (sym same i + 1 + shards-are i) (sym same i + 1) (shards-are i) how
        (of_caller (sym same i + 1 + shards-are i) h.log))
        (flusher-learns serves has_kept becomes ran.flushed shards sessions maker ran.maker ran.last_round how cells
        (sessions + 1 + shards) (of_caller (sessions + 1 + shards) h.log) h.order.flushes is);
  }

  pub ended-at : (r : IsLeftByRun o h.log h.left ran.left) → ran.began ≡ true
      → IsSomeAnd ran.counters (λ counters. IsEndedRun o counters (sessions + 2 + shards) cells h.left h.log r.to.es)
  ended-at r began =
      let t = told began in
      some-and (λ (counters : Counters). IsEndedRun o counters (sessions + 2 + shards) cells h.left h.log r.to.es)
      ran.counters t.0 t.1 (ended-run t.0 r began t.1)
