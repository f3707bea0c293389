-- What a store keeps of a run up to an epoch, by the run's record or by its events alone, and two images that stand for
-- it.
-- Source: AOSI (ICDE 2018), LSE and recovery; that two files are kept is this project's own.
use mathlib.Core.List.{IsPrefix}
use Rattle.std.specs.Prelude.{◌≡◌, ℕ, Bool, false, List, slice_get, Some}
use Rattle.std.specs.List.{list_any}
use Rattle.cube_language.specs.declared.decl.Decl.{Decl}
use Rattle.cube_journal.specs.Counters.{counters, store_failed_after}
use Rattle.cube_journal.specs.declared.journal_entry.JournalEntry.{JournalEntry}
use Rattle.cube_run.specs.FinalNames.{names_at}
use Rattle.cube_run.specs.RunRecords.{RunRecord, catalog_of}
use Rattle.cube_rounds.specs.Demands.{DimNames, HaveDims}
use Rattle.cube_rounds.specs.Stands.{Kept, Stands}
use Rattle.condition_spans.specs.Codes.{lists_at}
use Rattle.core_events.specs.Events.{Opening, CoreEvent}
use Rattle.core_agreements.specs.PostsForOperations.{StandForAll}
use Rattle.following_rounds.specs.FollowingRounds.{IsKeptAfter}
use Rattle.opened_core.specs.KeptShards.{kept_in_cube}
use Rattle.outside_disk.specs.Views.{View}
use Rattle.round_store.specs.States.{WhereTold}
use Rattle.run_ends.specs.AllSafeEnds.{rows_on_record}
use Rattle.sha2.specs.Sha256.{sha256}
use Rattle.stored_rounds.specs.RoundsInStore.{HasContentOfRun}

-- The latest safe epoch, by the journal on record.
abbrev pub lse_on_record : RunRecord → ℕ
lse_on_record run = (counters run.safe run.journal).lse

-- A round was lost to a disk: by one of these entries the store has failed.
abbrev pub has_lost_store : List JournalEntry → Bool
has_lost_store journal = list_any (store_failed_after false) journal

-- It ends at the epoch. Its cubes are those with which the run began and the first that it made. It has a list of names
-- for each dimension of each of them, the first of those in the end. All its rows of a cube stand for what a reader at
-- the epoch sees of the transactions on record, each as often, and so they do by its own names.
pub record IsKeptOnRecord (run : RunRecord) (epoch : ℕ) (kept : Kept) : Type 0 where
  pub ends : kept.epoch ≡ epoch
  pub opening : IsPrefix run.cubes kept.cubes
  pub cubes : IsPrefix kept.cubes (catalog_of run).cubes
  pub dims : HaveDims kept.cubes kept.names
  pub names : (cube dim : ℕ) (lists : DimNames) (list : List (List ℕ)) → slice_get kept.names cube ≡ Some lists
      → slice_get lists dim ≡ Some list → IsPrefix list (names_at run.names cube dim)
  pub rows : (cube : ℕ) (d : Decl) → slice_get (catalog_of run).cubes cube ≡ Some d
      → StandForAll d (lists_at run.names cube) (kept_in_cube kept cube) (rows_on_record run epoch d.name)
  pub named : (cube : ℕ) (d : Decl) → slice_get kept.cubes cube ≡ Some d
      → StandForAll d (lists_at kept.names cube) (kept_in_cube kept cube) (rows_on_record run epoch d.name)

-- Two images stand for what is kept up to an epoch of the run on record.
pub record StandForRecord (run : RunRecord) (epoch : ℕ) (one two : List ℕ) : Type 0 where
  pub kept : Kept
  pub stand : Stands sha256 kept one two
  pub on_record : IsKeptOnRecord run epoch kept

-- A run of which there is no record, since a session did not play its script to the end, has its events alone. What is
-- kept of it up to an epoch has the first of its cubes and names, and the rows of what is committed up to the epoch.
pub record IsKeptOfEvents (o : Opening) (run : List CoreEvent) (epoch : ℕ) (kept : Kept) : Type 0 where
  pub ends : kept.epoch ≡ epoch
  pub first : IsKeptAfter o run kept.cubes kept.names
  pub content : HasContentOfRun o run kept

-- Two images stand for what is kept up to an epoch of a run with these events.
pub record StandForEvents (o : Opening) (run : List CoreEvent) (epoch : ℕ) (one two : List ℕ) : Type 0 where
  pub kept : Kept
  pub stand : Stands sha256 kept one two
  pub of_events : IsKeptOfEvents o run epoch kept

-- Where two disks told their files before, this holds of each two of their images now.
abbrev pub HoldsOfImages : View → View → View → View → (List ℕ → List ℕ → Type 0) → Type 0
HoldsOfImages first second new_first new_second P =
    WhereTold first second (λ f g. (one two : List ℕ) → new_first.image one → new_second.image two → P one two)
