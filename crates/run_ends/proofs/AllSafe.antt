-- A run that main ended by a purge, behind a last round that saved all, ends with all safe: so the desk and the shards
-- that are left show.
use Rattle.std.proofs.Common.{◌≡◌, ◌∙◌, ℕ, zero, suc, ◌+◌, ◌<◌, ◌%◌, List, [], ◌∷◌, length, slice_get, Some, sym, ap, arith}
use Rattle.std.specs.List.Sorted.{IsPermutation}
use Rattle.std.proofs.lemmas.Option.{none-some, same_Some}
use lib.ListN.{get_elem?}
use mathlib.Core.Option.{some}
use Rattle.aosi_desk.specs.Desks.{DeskState}
use Rattle.brick_map.specs.Births.{rows_of_brick}
use Rattle.condition_spans.specs.Codes.{lists_at}
use Rattle.core_agreements.specs.ScriptedRuns.{IsScriptedRun}
use Rattle.core_events.specs.Cells.{desk_of}
use Rattle.core_events.specs.Events.{Opening, CoreEvent}
use Rattle.core_records.specs.CoreRecords.{RunScripts, record_of}
use Rattle.core_records.proofs.CubesOnRecord.{cubes-are}
use Rattle.core_serial.proofs.Entries.{run-safe}
use Rattle.cube_core.specs.BoardCells.{cell_of_shard}
use Rattle.core_program.specs.CoreFits.{CoreEntry}
use Rattle.cube_core.specs.declared.cell.CoreCell.{CoreCell}
use Rattle.cube_core.specs.declared.cell.CoreCell.TheVariants as cell
use Rattle.cube_journal.specs.Counters.{counters as counters_of}
use Rattle.cube_journal.specs.declared.counters.Counters.{Counters}
use Rattle.cube_language.specs.declared.decl.Decl.{Decl}
use Rattle.cube_run.specs.RunRecords.{catalog_of}
use Rattle.flush_loop.specs.declared.round_result.RoundResult.{RoundResult}
use Rattle.last_rounds.specs.SavedEpochs.{HasSaved, SessionsHoldNothing}
use Rattle.linked_shards.specs.declared.cell.CoreShard.{CoreShard}
use Rattle.run_threads.specs.CoreWorks.{OpeningCells}
use Rattle.shut_shards.specs.ShutShards.{IsShardIn, ShardsHoldRowsFor, rows_in_shard}
use Rattle.threaded_core.specs.CoreParts.{BeginWith, HoldParts}
use Rattle.threaded_core.specs.declared.cores.CoreLeft.{CoreLeft}
use Rattle.run_ends.specs.AllSafeEnds.{AreAllSafe, EndsWithAllSafe, HaveNoMarks, HoldRowsOfCube, IsShardAt, rows_on_record}
use Rattle.run_ends.specs.RunEnds.{FlushesLast, IsEndedRun}
use Rattle.run_ends.proofs.RecordedEnds.{all-rows, no-marks, no-safe-marks, shown-counters}
use Rattle.run_ends.proofs.WholeEnds.{last-shown, lse-shown, pending-shown, safe-shown}

-- ---- shards by their numbers

in-cell : (shards : List CoreShard) (cells : List (CoreCell CoreShard)) (number : ℕ) (s : CoreShard)
    → BeginWith shards cells → IsShardAt shards number s → get_elem? cells number ≡ some (cell.Shard s)
in-cell [] cells number s begin at = absurd (none-some s at)
in-cell (x ∷ shards) [] number s begin at = absurd begin
in-cell (x ∷ shards) (y ∷ cells) zero s begin at =
    ap (λ (z : CoreCell CoreShard). some z) (begin.0 ∙ ap (λ (t : CoreShard). cell.Shard t) (same_Some x s at))
in-cell (x ∷ shards) (y ∷ cells) (suc number) s begin at = in-cell shards cells number s begin.1 at

is-among : (shards : List CoreShard) (number : ℕ) (s : CoreShard) → IsShardAt shards number s → number < length shards
is-among [] number s at = absurd (none-some s at)
is-among (x ∷ shards) zero s at = omega arith
is-among (x ∷ shards) (suc number) s at = let rest = is-among shards number s at in omega (arith, rest)

module _ (o : Opening) (counters : Counters) (callers : ℕ) (opening cells : OpeningCells) (log : List CoreEntry)
    (es : List CoreEvent) (r : IsEndedRun o counters callers opening cells log es) (left : CoreLeft)
    (parts : HoldParts cells left.desk left.names left.shards.items) (desk_is : left.desk ≡ desk_of o es)
    (many : length left.shards.items ≡ o.shards) where
  shard-in : (number : ℕ) (s : CoreShard) → IsShardAt left.shards.items number s → IsShardIn cells number s
  shard-in number s at =
      let place : cell_of_shard number ≡ suc (suc number) = omega arith in
      ap (λ (k : ℕ). get_elem? cells k) place
      ∙ ap (λ (l : List (CoreCell CoreShard)). get_elem? l (suc (suc number))) parts.whole
      ∙ in-cell left.shards.items parts.behind number s parts.shards_are at

  of-run : (number : ℕ) (s : CoreShard) → IsShardAt left.shards.items number s → number < o.shards
  of-run number s at = let low = is-among left.shards.items number s at in omega (arith, low, many)

  own-brick : (number brick : ℕ) → brick % length left.shards.items ≡ number → brick % o.shards ≡ number
  own-brick number brick here = coe 0 1 (i. brick % many i ≡ number) here

  module _ (given : RunScripts) (scripted : IsScriptedRun o given es) (how : RoundResult) (epoch : ℕ)
      (h : FlushesLast o how opening log) (nothing : SessionsHoldNothing o es) (is : HasSaved epoch how) where
    all-is-safe : AreAllSafe counters
    all-is-safe =
        let lse = lse-shown o how counters callers opening cells log es r h nothing epoch is in
        let next = safe-shown o how counters callers opening cells log es r h nothing epoch is in
        record {
          none_pending = pending-shown o how counters callers opening cells log es r h nothing epoch is;
          committed = omega (arith, lse, next);
          safe = lse;
        }

    no-marks-left : HaveNoMarks left.shards.items counters.lse
    no-marks-left = record {
      own = λ number cube brick s at here.
          no-marks o counters callers opening cells log es r number cube brick s
          (safe-shown o how counters callers opening cells log es r h nothing epoch is) (of-run number s at)
          (shard-in number s at) (own-brick number brick here);
      waiting = λ number s at.
          no-safe-marks o counters callers opening cells log es r number s (of-run number s at)
          (shard-in number s at);
    }

    module _ (cube : ℕ) (d : Decl) (cube_is : slice_get (catalog_of (record_of o given es)).cubes cube ≡ Some d) where
      at-desk : slice_get (desk_of o es).cubes cube ≡ Some d
      at-desk =
          ap (λ (cubes : List Decl). slice_get cubes cube) (sym (cubes-are o given es es r.run scripted.follow))
          ∙ cube_is

      in-cells : ShardsHoldRowsFor rows_in_shard o cells d (lists_at (record_of o given es).names cube) cube
          (rows_on_record (record_of o given es) counters.lse d.name)
      in-cells =
          all-rows o counters callers opening cells log es r given cube d scripted cube_is
          (safe-shown o how counters callers opening cells log es r h nothing epoch is)

      rows-left : HoldRowsOfCube left.shards.items cube d (lists_at (record_of o given es).names cube)
          (rows_on_record (record_of o given es) counters.lse d.name)
      rows-left =
          let held = in-cells in
          record {
            rows = held.rows;
            stand = held.stand;
            own = λ number brick s at here.
                coe 0 1 (i. IsPermutation (rows_in_shard s.shard cube brick)
                (rows_of_brick (scripted.opens.shapes cube d at-desk i).shape.sizes brick held.rows))
                (held.own number brick s (shard-in number s at) (own-brick number brick here));
            others = λ number brick s at apart.
                held.others number brick s (shard-in number s at)
                (λ here. apart (coe 1 0 (i. brick % many i ≡ number) here));
          }

    pub ends-with-all-safe : EndsWithAllSafe (record_of o given es) counters left.desk left.shards.items
    ends-with-all-safe = record {
      journal_is = ap (λ (d : DeskState). d.register.journal) desk_is;
      counters_are =
          shown-counters o counters callers opening cells log es r
          ∙ ap (λ (safe : ℕ). counters_of safe (desk_of o es).register.journal) (run-safe o es);
      last_round = last-shown o how counters callers opening cells log es r h nothing epoch is;
      all_safe = all-is-safe;
      some_shards = (let some = r.opens.limits.some in omega (arith, some, many));
      no_marks = no-marks-left;
      rows = rows-left;
    }
