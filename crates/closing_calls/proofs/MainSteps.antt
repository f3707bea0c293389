-- What main knows after one more call.
use Rattle.std.proofs.Common.{◌≡◌, ◌∙◌, ℕ, ◌+◌, ◌≤◌, zero, suc, true, List, [], ◌∷◌, ◌++◌, append_assoc, append-nil, max, refl, sym, ap, subst, arith}
use Rattle.core_program.specs.ClientCalls.{close_entry, desk_entry}
use Rattle.closing_calls.specs.ClosingCalls.{MainIsReady, MainStays, close_entries}
use Rattle.cube_core.specs.Links.{AreEventsOf}
use Rattle.cube_core.specs.BoardCells.{IsEntryEvent}
use Rattle.core_cells.specs.declared.desk.DeskAnswer.TheVariants as answer
use Rattle.core_cells.specs.declared.desk.DeskCall.TheVariants as call
use Rattle.core_program.proofs.KnownCalls.{close-learns, desk-learns, earlier-run}
use Rattle.core_program.specs.Knowing.{GoOnBy, IsClientOf, IsLaterRun, IsMailAt}
use Rattle.core_events.specs.Clients.{ClientState, calls_of, state_from_calls}
use Rattle.core_events.specs.Events.{Opening, CloseMail, CountersNow, OnDesk, ClientCall, CoreEvent}
use Rattle.core_events.specs.Groups.{is_ready}
use Rattle.core_program.specs.CoreFits.{CoreEntry, OpensCells}
use Rattle.cube_core.specs.declared.cell.CoreCell.{CoreCell}
use Rattle.cube_journal.specs.declared.counters.Counters.{Counters}
use Rattle.linked_shards.specs.CellShards.{CoreShardStands}
use Rattle.linked_shards.specs.declared.cell.CoreShard.{CoreShard}
use Rattle.session_requests.specs.SessionRequests.{KnowsSafe}
use Rattle.shard_events.specs.ShardsInRuns.{FitsShard, ShardAnswerSays}

module _ (cells : List (CoreCell CoreShard)) (own now : List CoreEntry) (e : CoreEntry) (is : now ≡ own ++ e ∷ []) where
  abbrev Later : Opening → List CoreEntry → List CoreEntry → List CoreEvent → Type 0
  Later o mine log run = IsLaterRun FitsShard CoreShardStands ShardAnswerSays cells o 0 mine log run

  abbrev Of : Opening → List CoreEntry → List CoreEvent → Type 0
  Of o mine es = AreEventsOf (IsEntryEvent FitsShard CoreShardStands ShardAnswerSays o) mine es

  before-it : (o : Opening) (log : List CoreEntry) (run : List CoreEvent) → Later o now log run → Later o own log run
  before-it o log run later =
      earlier-run FitsShard CoreShardStands ShardAnswerSays cells o 0 own (e ∷ []) log run
      (subst (λ (l : List CoreEntry). Later o l log run) is later)

  -- By a call that leaves its group and takes nothing from what it was told of LSE.
  stays-by : (last : Opening → List ClientCall → ClientCall)
      → ((o : Opening) (log : List CoreEntry) (run es : List CoreEvent) → Later o now log run → Of o now es
      → GoOnBy FitsShard CoreShardStands ShardAnswerSays cells o 0 own es (last o))
      → ((o : Opening) (past : List ClientCall) → is_ready o.shards (state_from_calls o 0 past).group ≡ true
      → is_ready o.shards (state_from_calls o 0 (last o past ∷ past)).group ≡ true)
      → ((o : Opening) (past : List ClientCall) (epoch : ℕ) → epoch ≤ (state_from_calls o 0 past).lse
      → epoch ≤ (state_from_calls o 0 (last o past ∷ past)).lse)
      → MainStays cells own cells now
  stays-by last goes ready safe = record {
    ready = λ knows o log run es later are.
        let g = goes o log run es later are in
        subst (λ (calls : List ClientCall). is_ready o.shards (state_from_calls o 0 calls).group ≡ true) (sym g.calls)
        (ready o (calls_of 0 g.before) (knows o log run g.before (before-it o log run later) g.events));
    safe = λ epoch knows o log run es later are.
        let g = goes o log run es later are in
        subst (λ (calls : List ClientCall). epoch ≤ (state_from_calls o 0 calls).lse) (sym g.calls)
        (safe o (calls_of 0 g.before) epoch (knows o log run g.before (before-it o log run later) g.events));
  }

under-max : (epoch n m : ℕ) → epoch ≤ n → epoch ≤ max n m
under-max epoch n m low = omega (arith, low)

-- It reads the counters.
pub stays-by-counters : (cells : List (CoreCell CoreShard)) (own now : List CoreEntry) (shown : Counters)
    → IsClientOf FitsShard CoreShardStands ShardAnswerSays cells 0 0
    → now ≡ own ++ desk_entry 0 call.Counters (answer.Counted shown) ∷ [] → MainStays cells own cells now
stays-by-counters cells own now shown acts is =
    stays-by cells own now (desk_entry 0 call.Counters (answer.Counted shown)) is (λ o past. OnDesk (CountersNow shown))
    (λ o log run es later are.
    desk-learns FitsShard CoreShardStands ShardAnswerSays cells 0 0 acts own call.Counters (answer.Counted shown) o log es later.opens
    (subst (λ (l : List CoreEntry). AreEventsOf (IsEntryEvent FitsShard CoreShardStands ShardAnswerSays o) l es) is are))
    (λ o past ready. ready)
    (λ o past epoch low. under-max epoch (state_from_calls o 0 past).lse shown.lse low)

-- It closes a mail.
pub stays-by-close : (cells : List (CoreCell CoreShard)) (number cell : ℕ) (own now : List CoreEntry)
    → IsMailAt FitsShard CoreShardStands ShardAnswerSays cells number cell → now ≡ own ++ close_entry 0 cell ∷ []
    → MainStays cells own cells now
stays-by-close cells number cell own now at is =
    stays-by cells own now (close_entry 0 cell) is (λ o past. CloseMail number)
    (λ o log run es later are.
    close-learns FitsShard CoreShardStands ShardAnswerSays cells number cell own o log es at later.opens
    (subst (λ (l : List CoreEntry). AreEventsOf (IsEntryEvent FitsShard CoreShardStands ShardAnswerSays o) l es) is are))
    (λ o past ready. ready)
    (λ o past epoch low. low)

pub stays-on : (cells : List (CoreCell CoreShard)) (own : List CoreEntry) → MainStays cells own cells own
stays-on cells own = record { ready = λ knows. knows; safe = λ epoch knows. knows }

pub stays-then : (cells : List (CoreCell CoreShard)) (own mid now : List CoreEntry) → MainStays cells own cells mid
    → MainStays cells mid cells now → MainStays cells own cells now
stays-then cells own mid now one two =
    record { ready = λ knows. two.ready (one.ready knows); safe = λ epoch knows. two.safe epoch (one.safe epoch knows) }

-- It closes the mails of shards, one after the other.
one-behind : (n : ℕ) → n + 1 ≡ suc n
one-behind n = omega arith

pub closed-none : (first : ℕ) (own : List CoreEntry) → own ≡ own ++ close_entries first 0
closed-none first own = sym (append-nil own)

pub closed-more : (first number : ℕ) (own now next : List CoreEntry) → now ≡ own ++ close_entries first number
    → next ≡ now ++ close_entry 0 (first + number) ∷ [] → next ≡ own ++ close_entries first (number + 1)
closed-more first number own now next closed is =
    is
    ∙ ap (λ (l : List CoreEntry). l ++ close_entry 0 (first + number) ∷ []) closed
    ∙ append_assoc own (close_entries first number) (close_entry 0 (first + number) ∷ [])
    ∙ ap (λ (n : ℕ). own ++ close_entries first n) (sym (one-behind number))
