-- How a run over generated rows ended, by what was played and what was written.
use Rattle.std.proofs.Common.{◌≡◌, ◌∙◌, inr, ℕ, Bool, true, false, List, [], ◌∷◌, length, map, Option, Some, None, unwrap_or, refl, ap}
use Rattle.std.specs.Bool.{OnTrue}
use Rattle.cube_journal.specs.declared.journal_entry.JournalEntry.{JournalEntry}
use Rattle.cube_journal.specs.declared.reply.Reply.{Reply}
use Rattle.cube_language.specs.declared.decl.Decl.{Decl}
use Rattle.cube_rounds.specs.Stands.{Kept, kept_of_cubes}
use Rattle.flush_loop.specs.declared.round_result.RoundResult.{RoundResult}
use Rattle.linked_shards.specs.declared.cell.CoreShard.{CoreShard}
use Rattle.names_dict.specs.Dictionaries.{Dictionary}
use Rattle.played_runs.specs.ReadySessions.{sentences_of}
use Rattle.played_runs.specs.RunsOnRecord.{IsRunOver, has_saved}
use Rattle.run_inputs.specs.declared.inputs.RunInput.{RunInput}
use Rattle.run_words.specs.declared.command.GenerateCommand.{GenerateCommand}
use Rattle.cubrick_top.specs.Generated.{GeneratedEnds, HasClosingLines, HasGeneratedText, IsWrittenFirst, PlaysGenerated, ReadsGenerated, generated_shelves}
use Rattle.cubrick_top.specs.declared.fault.Fault.{Fault}
use Rattle.cubrick_top.specs.declared.fault.Fault.TheVariants as fault
use Rattle.cubrick_top.specs.declared.fault.Finish.{Finish}

-- A run over the cubes that were read plays the generated scripts.
pub plays : (command : GenerateCommand) (input : RunInput) → ReadsGenerated command.rows input
    → {kept : Kept} {cubes : List Decl} {tells : List (Option (List (List ℕ × List ℕ)))}
    → cubes ≡ input.cubes.items → kept ≡ kept_of_cubes cubes → tells ≡ generated_shelves command.rows
    → (whole : Bool) (replies : List (List Reply)) (names : List (List Dictionary)) (journal : List JournalEntry)
    (saved : Bool) (shards : List CoreShard) → length shards ≡ command.settings.shards
    → OnTrue whole (IsRunOver kept (unwrap_or command.settings.round_every 0) tells
    (map sentences_of input.scripts.items) replies names journal saved shards)
    → OnTrue whole (PlaysGenerated command replies names journal saved shards)
plays command input read cubes_are kept_is told true replies names journal saved shards all run = record {
  input = input;
  read = read;
  all_shards = all;
  run =
      coe 0 1 (i. IsRunOver ((kept_is ∙ ap kept_of_cubes cubes_are) i) (unwrap_or command.settings.round_every 0)
      (told i) (map sentences_of input.scripts.items) replies names journal saved shards) run;
}
plays command input read cubes_are kept_is told false replies names journal saved shards all run = tt

module _ (command : GenerateCommand) (taken now : Option (List ℕ)) (finish : Finish) (replies : List (List Reply))
    (names : List (List Dictionary)) (journal : List JournalEntry) (last : Option RoundResult)
    (shards : List CoreShard) (text : List ℕ) (names_are : finish.names ≡ names)
    (journal_is : finish.journal.items ≡ journal) (shards_are : finish.shards.items ≡ shards)
    (shown : HasClosingLines command.rows replies journal text) where
  as-saved : (saved : Bool) → OnTrue saved (has_saved last ≡ true)
      → PlaysGenerated command replies names journal (has_saved last) shards
      → PlaysGenerated command replies names journal saved shards
  as-saved true is p = coe 0 1 (i. PlaysGenerated command replies names journal (is i) shards) p
  as-saved false is p = record {
    input = p.input;
    read = p.read;
    all_shards = p.all_shards;
    run = record {
      file = p.run.file;
      names = p.run.names;
      files = p.run.files;
      final = p.run.final;
      in_full = p.run.in_full;
      ends = tt;
    };
  }

  has-text : (saved : Bool) → OnTrue saved (has_saved last ≡ true)
      → PlaysGenerated command replies names journal (has_saved last) shards
      → HasGeneratedText command saved finish text
  has-text saved is p = record {
    replies = replies;
    plays =
        coe 1 0 (i. PlaysGenerated command replies (names_are i) (journal_is i) saved (shards_are i))
        (as-saved saved is p);
    shown = coe 1 0 (i. HasClosingLines command.rows replies (journal_is i) text) shown;
  }

  ended : PlaysGenerated command replies names journal (has_saved last) shards → (f : Option Fault)
      → (f ≡ None → has_saved last ≡ true) → IsWrittenFirst taken text now f → GeneratedEnds command taken now finish f
  ended p None saved gained = (text, has-text true (saved refl) p, gained)
  ended p (Some fault.OutputFault) saved gained = (text, has-text false tt p, gained)
  ended p (Some fault.NoMemory) saved gained = inr (text, has-text false tt p, gained)
  ended p f saved gained = absurd gained

  pub ended-whole : (whole : Bool) → whole ≡ true
      → OnTrue whole (PlaysGenerated command replies names journal (has_saved last) shards) → (f : Option Fault)
      → (f ≡ None → has_saved last ≡ true) → IsWrittenFirst taken text now f → GeneratedEnds command taken now finish f
  ended-whole true is p f saved gained = ended p f saved gained
  ended-whole false is p f saved gained = absurd (cc)
