-- What holds of a run over a store since it was taken, by the disks as they were before.
use Rattle.std.proofs.Common.{inl, inr, ◌≤◌, ℕ, true≢false, List, Option, Some, None, IfSome, IsSome, ◌↔◌, refl, sym}
use Rattle.cube_journal.specs.declared.journal_entry.JournalEntry.{JournalEntry}
use Rattle.cube_rounds.specs.Stands.{Kept}
use Rattle.cube_run.specs.RunRecords.{RunRecord}
use Rattle.outside_disk.specs.Views.{View}
use Rattle.recorded_images.specs.AtEveryMoment.{KeepAtEveryMoment, TwoDisks}
use Rattle.recorded_images.specs.RecordedImages.{StandForEvents, StandForRecord}
use Rattle.round_store.specs.States.{WhereTold}
use Rattle.stored_rounds.proofs.FaultCounts.{rose-since}
use Rattle.cubrick_top.specs.KeptRuns.{KeepRecord, KeepRun}
use Rattle.cubrick_top.specs.LostRounds.{LosesByFault}

where-told : (a b c d : Option (List ℕ)) (P : Type 0) → (IsSome a → IsSome c) → (IsSome b → IsSome d)
    → IfSome c (λ f. IfSome d (λ g. P)) → IfSome a (λ f. IfSome b (λ g. P))
where-told None b c d P first second holds = tt
where-told (Some f) None c d P first second holds = tt
where-told (Some f) (Some g) None d P first second holds = absurd (true≢false (sym (first refl)))
where-told (Some f) (Some g) (Some h) None P first second holds = absurd (true≢false (sym (second refl)))
where-told (Some f) (Some g) (Some h) (Some k) P first second holds = holds

module _ {D : Type 0} (view : D → View) (before between now : TwoDisks D) where
  -- The disks tell their files where they did, and count on.
  module _ (first : IsSome (view before.first).told ↔ IsSome (view between.first).told)
      (second : IsSome (view before.second).told ↔ IsSome (view between.second).told) where
    told-earlier : (P : Type 0) → WhereTold (view between.first) (view between.second) (λ f g. P)
        → WhereTold (view before.first) (view before.second) (λ f g. P)
    told-earlier P holds =
        where-told (view before.first).told (view before.second).told (view between.first).told
        (view between.second).told P first.0 second.0 holds

    pub record-earlier : (run : RunRecord) → KeepRecord view between between now run
        → KeepRecord view before between now run
    record-earlier run keeps =
        told-earlier
        (KeepAtEveryMoment view (StandForRecord run) run.safe between now run.journal) keeps

    pub run-earlier : (kept : Kept) (shards sessions : ℕ) (journal : List JournalEntry)
        → KeepRun view between between now kept shards sessions journal
        → KeepRun view before between now kept shards sessions journal
    run-earlier kept shards sessions journal keeps = record {
      o = keeps.o;
      run = keeps.run;
      is_run = keeps.is_run;
      at_every_moment =
          told-earlier
          (KeepAtEveryMoment view (StandForEvents keeps.o keeps.run) keeps.o.safe between now journal)
          keeps.at_every_moment;
    }

  -- What rose since then has risen since before.
  pub lost-earlier : (view before.first).faults ≤ (view between.first).faults
      → (view before.second).faults ≤ (view between.second).faults → (journal : List JournalEntry)
      → LosesByFault view between now journal → LosesByFault view before now journal
  lost-earlier first second journal loses lost = elim (loses lost) [
    | inl rose ↦
        inl (rose-since (view before.first).faults (view between.first).faults (view now.first).faults first rose)
    | inr rose ↦
        inr (rose-since (view before.second).faults (view between.second).faults (view now.second).faults second rose)
  ]
