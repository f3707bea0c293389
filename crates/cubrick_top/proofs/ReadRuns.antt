-- How a run ended whose first shelf gave the cubes file and the scripts, by how it ended from there on.
use Rattle.std.proofs.Common.{◌≡◌, ◌∙◌, ◌⊎◌, inl, inr, ℕ, ◌≤◌, Bool, true, false, List, [], ◌∷◌, length, map, Option, Some, None, is_some, IsSome, ◌↔◌, Ok, Err, ap, sym, arith}
use Rattle.std.specs.Global.{Vec}
use Rattle.std.specs.List.{AllByRecursion}
use Rattle.cube_language.specs.declared.decl.Decl.{Decl}
use Rattle.cube_rounds.specs.Stands.{Kept}
use Rattle.cube_journal.specs.declared.journal_entry.JournalEntry.{JournalEntry}
use Rattle.cube_run.specs.RunRecords.{RunRecord, Sentence}
use Rattle.cube_values.specs.declared.call_error.CallError.TheVariants as call
use Rattle.opened_store.specs.Meanwhile.{AreUntouched, KeepTo, MayBeTaken}
use Rattle.opened_store.specs.Opened.{TakesStore}
use Rattle.opened_store.specs.declared.fault.StoreFault.{StoreFault}
use Rattle.opened_store.specs.declared.fault.StoreFault.TheVariants as store
use Rattle.outside.specs.Counts.{Rose}
use Rattle.outside.specs.ShelfCalls.{ShelfCall}
use Rattle.outside_disk.specs.Views.{View}
use Rattle.played_runs.specs.ReadySessions.{sentences_of}
use Rattle.played_runs.specs.RunsOnRecord.{AreFilesOf, LeavesLegal}
use Rattle.round_store.specs.States.{WhereTold}
use Rattle.run_files.specs.Readings.{IsToldAs}
use Rattle.run_files.specs.RunFiles.{RunFile}
use Rattle.run_inputs.specs.ReadInputs.{GiveRunInput, ReadsAll, files_of_run}
use Rattle.run_inputs.specs.declared.inputs.RunInput.{RunInput}
use Rattle.run_words.specs.declared.command.RunCommand.{RunCommand}
use Rattle.run_words.specs.declared.command.StoreName.{StoreName}
use Rattle.script_sentences.specs.declared.said.Said.{Said}
use Rattle.cubrick_top.specs.KeptRuns.{KeepRecord, KeepRun}
use Rattle.cubrick_top.specs.LostRounds.{LosesByFault}
use Rattle.cubrick_top.specs.OpenedEnds.{BeginsWith, HasNoStore, KeepsRecord, KeepsRun, LosesRoundsByFault, OpenedEnds, disks_in, no_memory, no_store, played}
use Rattle.cubrick_top.specs.PlayedEnds.{HasText, LeavesNothing, PlayedEnds, UsesNoShelf}
use Rattle.cubrick_top.specs.RunEnds.{ReadsInput, first_or}
use Rattle.cubrick_top.specs.declared.fault.Fault.{Fault}
use Rattle.cubrick_top.specs.declared.fault.Fault.TheVariants as fault
use Rattle.cubrick_top.specs.declared.fault.Finish.{Finish}
use Rattle.cubrick_top.specs.declared.surroundings.Outside.{Outside}
use Rattle.cubrick_top.proofs.ReadShelves.{go-on-as}

-- Shelves of which the first counts as another.
unused-as : {H : Type 0} (fault_count absence_count : H → ℕ) (x y : H) (ys after : List H)
    → fault_count x ≡ fault_count y → absence_count x ≡ absence_count y
    → UsesNoShelf fault_count absence_count (x ∷ ys) after → UsesNoShelf fault_count absence_count (y ∷ ys) after
unused-as fault_count absence_count x y ys after faults absences h = record {
  others = h.others;
  faults = h.faults ∙ ap (λ (n : ℕ). n ∷ map fault_count ys) faults;
  absences = h.absences ∙ ap (λ (n : ℕ). n ∷ map absence_count ys) absences;
}

module _ {H : Type 0} (told : H → Option (List (List ℕ × List ℕ))) (fault_count absence_count : H → ℕ) (x y : H)
    (ys : List H) (same : told x ≡ told y) (faults : fault_count x ≡ fault_count y)
    (absences : absence_count x ≡ absence_count y) (after : List H) (scripts : List (List Sentence))
    (some : 1 ≤ length scripts) (kept : Kept) (every : ℕ) (finish : Finish) (HoldsOfRecord : RunRecord → Type 0)
    (HoldsOfRun : List JournalEntry → Type 0) where
  text-as : (saved : Bool) (shards : ℕ) (text : List ℕ)
      → HasText told fault_count absence_count HoldsOfRecord HoldsOfRun saved kept shards every scripts (x ∷ ys) after
      finish text
      → HasText told fault_count absence_count HoldsOfRecord HoldsOfRun saved kept shards every scripts (y ∷ ys) after
      finish text
  text-as saved shards text h = record {
    takes = h.takes;
    all_shards = h.all_shards;
    replies = h.replies;
    run = record {
      file = h.run.file;
      names = h.run.names;
      files = coe 0 1 (i. AreFilesOf (same i ∷ map told ys) scripts h.replies h.run.file) h.run.files;
      final = h.run.final;
      in_full = h.run.in_full;
      ends = h.run.ends;
    };
    run_kept = h.run_kept;
    shelves =
        go-on-as told fault_count absence_count x y ys same faults absences after h.replies (length scripts) some true
        h.shelves;
    text_is = h.text_is;
  }

  no-session-as : (LeavesNothing finish × UsesNoShelf fault_count absence_count (x ∷ ys) after)
      ⊎ (LeavesLegal kept finish.journal.items × HoldsOfRun finish.journal.items)
      → (LeavesNothing finish × UsesNoShelf fault_count absence_count (y ∷ ys) after)
      ⊎ (LeavesLegal kept finish.journal.items × HoldsOfRun finish.journal.items)
  no-session-as (inl none) = inl (none.0, unused-as fault_count absence_count x y ys after faults absences none.1)
  no-session-as (inr legal) = inr legal

  pub played-as : (stored : Bool) (shards : ℕ) (taken now : Option (List ℕ)) (f : Option Fault)
      → PlayedEnds told fault_count absence_count HoldsOfRecord HoldsOfRun stored kept shards every scripts (x ∷ ys)
      after finish taken now f
      → PlayedEnds told fault_count absence_count HoldsOfRecord HoldsOfRun stored kept shards every scripts (y ∷ ys)
      after finish taken now f
  played-as stored shards taken now None h = (h.0, text-as true shards h.0 h.1, h.2, h.3)
  played-as stored shards taken now (Some (fault.Store store.DiskFault)) h =
      (h.0, h.1, text-as false shards h.1 h.2, h.3, h.4)
  played-as stored shards taken now (Some (fault.Store (store.ShardFull shard rows))) h =
      (h.0, h.1, unused-as fault_count absence_count x y ys after faults absences h.2, h.3)
  played-as stored shards taken now (Some fault.OutputFault) h = (h.0, text-as false shards h.0 h.1, h.2)
  played-as stored shards taken now (Some fault.NoMemory) (inl h) = inl (h.0, no-session-as h.1)
  played-as stored shards taken now (Some fault.NoMemory) (inr h) =
      inr (h.0, text-as false shards h.0 h.1, h.2, h.3)
  played-as stored shards taken now f h = absurd h

module _ {H D : Type 0} (view : D → View) (before read : Outside H D) (first : read.disk ≡ before.disk)
    (second : read.other ≡ before.other) (asked : Option StoreName) (cubes : List Decl) (after : Outside H D) where
  no-store-as : (cause : StoreFault) → HasNoStore view asked cubes read after cause
      → HasNoStore view asked cubes before after cause
  no-store-as cause h = record {
    store = h.store;
    is_asked = h.is_asked;
    takes =
        coe 0 1 (i. TakesStore h.store.is_new cubes (view (first i)) (view (second i)) (Err (call.Fault cause)))
        h.takes;
    failed = λ is.
        coe 0 1 (i. Rose (view (first i)).faults (view after.disk).faults
        ⊎ Rose (view (second i)).faults (view after.other).faults) (h.failed is);
    meanwhile =
        coe 0 1 (i. WhereTold (view (first i)) (view (second i)) (λ f g.
        KeepTo (MayBeTaken h.store.is_new cubes f g) f (view (first i)) (view after.disk) (view (second i))
        (view after.other))) h.meanwhile;
  }

  abbrev begins-with : (a : Option StoreName) (kept : Kept) → BeginsWith view a cubes kept read after
      → BeginsWith view a cubes kept before after
  begins-with None kept h = (h.0, h.1 ∙ first, h.2 ∙ second)
  begins-with (Some name) kept h = record {
    opened = h.opened;
    takes = coe 0 1 (i. TakesStore name.is_new cubes (view (first i)) (view (second i)) (Ok h.opened)) h.takes;
    keeps = h.keeps;
    between = h.between;
    meanwhile =
        coe 0 1 (i. WhereTold (view (first i)) (view (second i)) (λ f g.
        KeepTo (MayBeTaken name.is_new cubes f g) f (view (first i)) (view h.between.disk) (view (second i))
        (view h.between.other))) h.meanwhile;
    first_tells = coe 0 1 (i. IsSome (view (first i)).told ↔ IsSome (view h.between.disk).told) h.first_tells;
    second_tells = coe 0 1 (i. IsSome (view (second i)).told ↔ IsSome (view h.between.other).told) h.second_tells;
    ends = h.ends;
  }

  abbrev begins-as : (kept : Kept) → BeginsWith view asked cubes kept read after
      → BeginsWith view asked cubes kept before after
  begins-as kept h = begins-with asked kept h

  -- The disks keep the run from the same moment on.
  kept-as : (kept : Kept) (told : H → Option (List (List ℕ × List ℕ))) (fault_count absence_count : H → ℕ)
      (shards every : ℕ) (scripts : List (List Sentence)) (shelves : List H) (taken now : Option (List ℕ))
      (finish : Finish) (begins : BeginsWith view asked cubes kept read after)
      → PlayedEnds told fault_count absence_count (KeepsRecord view asked cubes kept read after begins)
      (KeepsRun view asked cubes kept read after begins shards (length scripts)) (is_some asked) kept shards every
      scripts shelves after.shelves.items finish taken now finish.fault
      → PlayedEnds told fault_count absence_count
      (KeepsRecord view asked cubes kept before after (begins-as kept begins))
      (KeepsRun view asked cubes kept before after (begins-as kept begins) shards (length scripts)) (is_some asked)
      kept shards every scripts shelves after.shelves.items finish taken now finish.fault
  kept-as kept told fault_count absence_count shards every scripts shelves taken now finish begins ends =
      by asked begins ends
    where
      by : (a : Option StoreName) (b : BeginsWith view a cubes kept read after)
          → PlayedEnds told fault_count absence_count (KeepsRecord view a cubes kept read after b)
          (KeepsRun view a cubes kept read after b shards (length scripts)) (is_some a) kept shards every scripts
          shelves after.shelves.items finish taken now finish.fault
          → PlayedEnds told fault_count absence_count
          (KeepsRecord view a cubes kept before after (begins-with a kept b))
          (KeepsRun view a cubes kept before after (begins-with a kept b) shards (length scripts)) (is_some a) kept
          shards every scripts shelves after.shelves.items finish taken now finish.fault
      by None b h = h
      by (Some name) b h =
          coe 0 1 (i. PlayedEnds told fault_count absence_count
          (λ run. KeepRecord view (record { first = first i; second = second i }) (disks_in b.between) (disks_in after)
          run)
          (λ journal. KeepRun view (record { first = first i; second = second i }) (disks_in b.between) (disks_in after)
          kept shards (length scripts) journal) true kept shards every scripts shelves after.shelves.items finish taken
          now finish.fault) h

  lost-as : (a : Option StoreName) (journal : List JournalEntry) → LosesRoundsByFault view a read after journal
      → LosesRoundsByFault view a before after journal
  lost-as None journal loses = loses
  lost-as (Some name) journal loses =
      coe 0 1 (i. LosesByFault view (record { first = first i; second = second i }) (disks_in after) journal) loses

module _ {H D : Type 0} (view : D → View) (told : H → Option (List (List ℕ × List ℕ)))
    (fault_count absence_count : H → ℕ) (asked : Option StoreName) (cubes : List Decl) (shards every : ℕ)
    (scripts : List (List Sentence))
    (some : 1 ≤ length scripts) (before after : Outside H D) (taken now : Option (List ℕ)) (finish : Finish) (x y : H)
    (ys : List H) (same : told x ≡ told y) (faults : fault_count x ≡ fault_count y)
    (absences : absence_count x ≡ absence_count y) (were : before.shelves.items ≡ y ∷ ys) where
  no-shelf-as : (read : Outside H D) → read.shelves.items ≡ x ∷ ys
      → UsesNoShelf fault_count absence_count read.shelves.items after.shelves.items
      → UsesNoShelf fault_count absence_count before.shelves.items after.shelves.items
  no-shelf-as read are unused =
      coe 1 0 (i. UsesNoShelf fault_count absence_count (were i) after.shelves.items)
      (unused-as fault_count absence_count x y ys after.shelves.items faults absences
      (coe 0 1 (i. UsesNoShelf fault_count absence_count (are i) after.shelves.items) unused))

  pub opened-as : {read : Outside H D}
      → OpenedEnds view told fault_count absence_count asked cubes shards every scripts read after taken now finish
      → read.shelves.items ≡ x ∷ ys → read.disk ≡ before.disk → read.other ≡ before.other
      → OpenedEnds view told fault_count absence_count asked cubes shards every scripts before after taken now finish
  opened-as {read} (no_store cause is none nothing unused gained) are first second =
      no_store cause is (no-store-as view before read first second asked cubes after cause none) nothing
      (no-shelf-as read are unused) gained
  opened-as {read} (no_memory is untouched nothing unused gained) are first second =
      no_memory is
      (coe 0 1 (i. AreUntouched (view (first i)) (view after.disk) (view (second i)) (view after.other)) untouched)
      nothing (no-shelf-as read are unused) gained
  opened-as {read} (played kept begins ends lost) are first second =
      played kept (begins-as view before read first second asked cubes after kept begins)
      (kept-as view before read first second asked cubes after kept told fault_count absence_count shards every scripts
      before.shelves.items taken now finish begins
      (coe 1 0 (i. PlayedEnds told fault_count absence_count
      (KeepsRecord view asked cubes kept read after begins)
      (KeepsRun view asked cubes kept read after begins shards (length scripts)) (is_some asked) kept shards every
      scripts (were i) after.shelves.items finish taken now finish.fault)
      (played-as told fault_count absence_count x y ys same faults absences after.shelves.items scripts some kept every
      finish (KeepsRecord view asked cubes kept read after begins)
      (KeepsRun view asked cubes kept read after begins shards (length scripts)) (is_some asked) shards taken now
      finish.fault
      (coe 0 1 (i. PlayedEnds told fault_count absence_count (KeepsRecord view asked cubes kept read after begins)
      (KeepsRun view asked cubes kept read after begins shards (length scripts)) (is_some asked) kept shards every
      scripts (are i) after.shelves.items finish taken now finish.fault) ends))))
      (lost-as view before read first second asked cubes after asked finish.journal.items lost)

-- What the first shelf gave is what it told before.
pub reads-input : {H D : Type 0} (told : H → Option (List (List ℕ × List ℕ))) (call_list : H → Option (List ShelfCall))
    (fault_count absence_count : H → ℕ) (view : D → View) (command : RunCommand) (before : Outside H D) (y : H)
    (ys : List H) (input : RunInput) {cubes : List ℕ} {scripts : List (List ℕ)} {calls now : Option (List ShelfCall)}
    → ReadsAll (GiveRunInput cubes scripts) (told y) calls now (files_of_run cubes scripts) input
    → cubes ≡ command.cubes → scripts ≡ command.scripts → before.shelves.items ≡ y ∷ ys
    → ReadsInput told call_list fault_count absence_count view command before input
reads-input told call_list fault_count absence_count view command before y ys input read cubes_are scripts_are were =
    record {
      reading = read.reading;
      as_told =
          coe 0 1 (i. AllByRecursion (λ (file : RunFile).
          IsToldAs (first_or None (map told (sym were i))) file (read.reading file))
          (files_of_run (cubes_are i) (scripts_are i))) read.read.as_told;
      given = coe 0 1 (i. GiveRunInput (cubes_are i) (scripts_are i) read.reading input) read.given;
    }

pub some-sentences : (scripts : List (Vec Said)) → 1 ≤ length scripts → 1 ≤ length (map sentences_of scripts)
some-sentences [] some = some
some-sentences (x ∷ scripts) some = omega arith
