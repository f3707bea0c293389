-- Calls of a LOAD that ask only for texts of records at which it looks, one after the other.
use Rattle.std.proofs.Common.{◌≡◌, ◌⊎◌, inl, inr, ℕ, ◌-◌, List, [], arith}
use mathlib.Core.List.{IsPrefix}
use Rattle.core_events.specs.Events.{Opening, ClientCall}
use Rattle.core_names.specs.AskedNames.{HasAskedFor}
use Rattle.core_names.specs.NamesInTheEnd.{MayLeaveNames}
use Rattle.core_program.specs.CoreFits.{CoreEntry}
use Rattle.core_program.specs.Knowing.{IsClientOf}
use Rattle.core_states.specs.LeftBehind.{AsksForNone, GoOnByCalls}
use Rattle.csv_load.specs.Loads.{LoadState}
use Rattle.cube_core.specs.declared.cell.CoreCell.{CoreCell}
use Rattle.cube_language.specs.declared.decl.Decl.{Decl}
use Rattle.cube_values.specs.declared.row.CodedRow.{CodedRow}
use Rattle.scripted_pasts.proofs.AskingOnly.{only-entries, only-none, only-plain}
use Rattle.scripted_pasts.specs.AskedTexts.{AsksOnly}
use Rattle.linked_shards.specs.CellShards.{CoreShardStands}
use Rattle.linked_shards.specs.declared.cell.CoreShard.{CoreShard}
use Rattle.row_encoding.proofs.LookedTexts.{looked_at_behind}
use Rattle.row_encoding.specs.CodedLoads.{HaveTextLookedAt, Tell}
use Rattle.row_encoding.specs.declared.load.BadRecords.{BadRecords}
use Rattle.shard_events.specs.ShardsInRuns.{FitsShard, ShardAnswerSays}
use Rattle.loaded_batches.specs.LoadFronts.{HasTakenSoFar}
use Rattle.loaded_batches.specs.LoadTexts.{AsksForSuch, HasAskedForSuch, IsLoadText}
use Rattle.loaded_batches.proofs.LoadingMoments.{learns-both}
use Rattle.loaded_batches.proofs.TakenRecords.{may-leave-before, taken-still}

-- None is bad yet.
pub none-bad-yet : (allowed : ℕ) (bad : BadRecords) → Tell bad [] → allowed ≡ allowed - bad.count
none-bad-yet allowed bad none =
    let zero_bad = none.count in
    omega (arith, zero_bad)

-- Texts of either kind are of a third.
asks-join : (A B C : ℕ → ℕ → List ℕ → Type 0) → ((cube dim : ℕ) (text : List ℕ) → A cube dim text → C cube dim text)
    → ((cube dim : ℕ) (text : List ℕ) → B cube dim text → C cube dim text) → (session : ℕ) (o : Opening)
    (a b c : List ClientCall) → AsksOnly A session o a b → AsksOnly B session o b c → AsksOnly C session o a c
asks-join A B C first second session o a b c one two cube dim text asked =
    elim (two cube dim text asked) [
      | inl old ↦
          elim (one cube dim text old) [
            | inl before ↦ inl before
            | inr is ↦ inr (first cube dim text is)
          ]
      | inr is ↦ inr (second cube dim text is)
    ]

module _ (cells : List (CoreCell CoreShard)) (caller place : ℕ) (d : Decl) where
  abbrev Text : List CoreEntry → ℕ → LoadState → ℕ → ℕ → List ℕ → Type 0
  Text now allowed load = IsLoadText cells caller place d now allowed load

  -- An own call asks for one that it did before, or for such.
  pub such-of : (allowed : ℕ) (load : LoadState) (own now : List CoreEntry) (cube dim : ℕ) (text : List ℕ)
      → HasAskedFor own cube dim text ⊎ ((cube ≡ place) × HaveTextLookedAt
      (MayLeaveNames FitsShard CoreShardStands ShardAnswerSays cells caller now) place d allowed load dim text)
      → HasAskedFor own cube dim text ⊎ Text now allowed load cube dim text
  such-of allowed load own now cube dim text h =
      elim h [
        | inl old ↦ inl old
        | inr is ↦ inr (record { here = is.0; looked = is.1 })
      ]

  -- Such a text is one after more calls.
  text-later : (own now : List CoreEntry) → IsPrefix own now → (allowed : ℕ) (load : LoadState) (cube dim : ℕ)
      (text : List ℕ) → Text own allowed load cube dim text → Text now allowed load cube dim text
  text-later own now more allowed load cube dim text h = record {
    here = h.here;
    looked = record {
      before = h.looked.before;
      fields = h.looked.fields;
      rest = h.looked.rest;
      are = h.looked.are;
      row = h.looked.row;
      here = h.looked.here;
      looked = λ names may.
          h.looked.looked names (may-leave-before cells caller place d allowed own now more names may);
    };
  }

  module _ (allowed : ℕ) where
    -- One behind some records is one of all.
    text-behind : (now : List CoreEntry) (start load : LoadState) (before bad : BadRecords) (rows : List CodedRow)
        → HasTakenSoFar cells caller place d allowed now start load before bad rows → (cube dim : ℕ) (text : List ℕ)
        → Text now (allowed - bad.count) load cube dim text → Text now (allowed - before.count) start cube dim text
    text-behind now start load before bad rows h cube dim text is = record {
      here = is.here;
      looked =
          looked_at_behind (MayLeaveNames FitsShard CoreShardStands ShardAnswerSays cells caller now) place d allowed
          start load before bad rows h.goes h.taken dim text is.looked;
    }

    module _ (own mid now : List CoreEntry) (more : IsPrefix mid now) (start load : LoadState)
        (before bad : BadRecords) (rows : List CodedRow)
        (taken : HasTakenSoFar cells caller place d allowed mid start load before bad rows) where
      then-later : (cube dim : ℕ) (text : List ℕ) → Text now (allowed - bad.count) load cube dim text
          → Text now (allowed - before.count) start cube dim text
      then-later =
          text-behind now start load before bad rows
          (taken-still cells caller place d allowed mid now more start load before bad rows taken)

      -- By own calls, and by more behind some records.
      pub asked-both : HasAskedForSuch cells caller place d (allowed - before.count) start own mid
          → HasAskedForSuch cells caller place d (allowed - bad.count) load mid now
          → HasAskedForSuch cells caller place d (allowed - before.count) start own now
      asked-both one two cube dim text has =
          elim (two cube dim text has) [
            | inl old ↦
                elim (one cube dim text old) [
                  | inl first ↦ inl first
                  | inr is ↦ inr (text-later mid now more (allowed - before.count) start cube dim text is)
                ]
            | inr is ↦ inr (then-later cube dim text is)
          ]

      -- So it is in each run that goes on.
      pub such-both : (session : ℕ) → AsksForSuch cells caller place d session (allowed - before.count) start own mid
          → AsksForSuch cells caller place d session (allowed - bad.count) load mid now
          → AsksForSuch cells caller place d session (allowed - before.count) start own now
      such-both session =
          learns-both cells caller session (AsksOnly (Text mid (allowed - before.count) start))
          (AsksOnly (Text now (allowed - bad.count) load)) (AsksOnly (Text now (allowed - before.count) start))
          (asks-join (Text mid (allowed - before.count) start) (Text now (allowed - bad.count) load)
          (Text now (allowed - before.count) start) (text-later mid now more (allowed - before.count) start) then-later
          session)
          own mid now more

    module _ (session : ℕ) (load : LoadState) where
      pub such-none : (own : List CoreEntry) → AsksForSuch cells caller place d session allowed load own own
      such-none own =
          only-none FitsShard CoreShardStands ShardAnswerSays cells caller session (Text own allowed load) own

      pub such-by-entries : (own now : List CoreEntry)
          → IsClientOf FitsShard CoreShardStands ShardAnswerSays cells caller session → IsPrefix own now
          → HasAskedForSuch cells caller place d allowed load own now
          → AsksForSuch cells caller place d session allowed load own now
      such-by-entries own now acts more asked =
          only-entries FitsShard CoreShardStands ShardAnswerSays cells caller session (Text now allowed load) own now
          acts
          more asked

      -- Calls that ask for none may follow.
      pub such-then-none : (own mid now : List CoreEntry) → IsPrefix mid now
          → AsksForSuch cells caller place d session allowed load own mid
          → GoOnByCalls FitsShard CoreShardStands ShardAnswerSays cells caller session AsksForNone mid now
          → AsksForSuch cells caller place d session allowed load own now
      such-then-none own mid now more one none =
          learns-both cells caller session (AsksOnly (Text mid allowed load)) (AsksOnly (Text now allowed load))
          (AsksOnly (Text now allowed load))
          (asks-join (Text mid allowed load) (Text now allowed load) (Text now allowed load)
          (text-later mid now more allowed load) (λ cube dim text is. is) session)
          own mid now more one
          (only-plain FitsShard CoreShardStands ShardAnswerSays cells caller session (Text now allowed load) mid now
          none)
