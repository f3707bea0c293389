-- How a run over what is kept ended, from what was written of its text.
use Rattle.std.proofs.Common.{◌≡◌, ◌⊎◌, inl, inr, ℕ, ◌≤◌, Bool, true, false, List, [], ◌++◌, ◌∷◌, ◌∙◌, drop, length, map, slice_index_or, suc, Option, Some, None, append-nil, refl, sym, ap, arith}
use Rattle.std.specs.Bool.{OnTrue}
use Rattle.std.specs.Global.{Vec}
use Rattle.std.specs.List.{All, AllByRecursion}
use Rattle.std.proofs.lemmas.List.{length-map}
use Rattle.std.proofs.lemmas.List.Elements.{All-from_recursion}
use Rattle.aosi_desk.specs.Desks.{DeskState}
use Rattle.core_program.specs.declared.size.CoreSize.{CoreSize}
use Rattle.cube_journal.specs.Counters.{counters}
use Rattle.cube_journal.specs.WholeText.{whole_text}
use Rattle.cube_journal.specs.declared.journal_entry.JournalEntry.{JournalEntry}
use Rattle.cube_journal.specs.declared.reply.Reply.{Reply}
use Rattle.cube_language.specs.declared.piece.TheConstants.{MOST_STATEMENTS}
use Rattle.cube_rounds.specs.Stands.{Kept}
use Rattle.cube_run.specs.RunRecords.{RunRecord, Sentence}
use Rattle.cube_values.specs.declared.call_error.CallError.{CallError}
use Rattle.cube_values.specs.declared.call_error.CallError.TheVariants as call
use Rattle.flush_loop.specs.MadeRounds.{KeptClaim}
use Rattle.flush_loop.specs.declared.round_result.RoundResult.{RoundResult}
use Rattle.linked_shards.specs.declared.cell.CoreShard.{CoreShard}
use Rattle.names_dict.specs.Dictionaries.{Dictionary}
use Rattle.opened_core.specs.KeptShards.{TakeAllKept}
use Rattle.opened_core.specs.Openings.{opening_over}
use Rattle.opened_core.specs.declared.full.FullShard.{FullShard}
use Rattle.opened_store.specs.declared.fault.StoreFault.TheVariants as store
use Rattle.outside.specs.Output.{Gained}
use Rattle.played_runs.specs.LeftByRuns.{IsFullFor, IsLeftByScripts}
use Rattle.played_runs.specs.ReadySessions.{said_in, sentences_of}
use Rattle.played_runs.specs.RunsOnRecord.{HasPlayedOver, IsRunOver, LeavesLegal, has_saved, run_over}
use Rattle.played_runs.specs.Shelves.{ShelvesGoOn}
use Rattle.played_runs.specs.declared.running.PlayedRun.{PlayedRun}
use Rattle.report_text.specs.Sessions.{HasFewReplies}
use Rattle.script_sentences.specs.declared.said.Said.{Said}
use Rattle.cubrick_top.specs.KeptRuns.{HasKeptOfRecord, HasKeptOfRun}
use Rattle.cubrick_top.specs.PlayedEnds.{HasText, IsLeft, LeavesNothing, PlayedEnds, UsesNoShelf}
use Rattle.cubrick_top.specs.Unplayed.{fault_of_full}
use Rattle.cubrick_top.specs.declared.fault.Fault.{Fault}
use Rattle.cubrick_top.specs.declared.fault.Fault.TheVariants as fault
use Rattle.cubrick_top.specs.declared.fault.Finish.{Finish}

few-item : (sessions : List (Vec Reply))
    → AllByRecursion (λ (said : List Reply). length said ≤ MOST_STATEMENTS) (map said_in sessions)
    → AllByRecursion HasFewReplies sessions
few-item [] all = tt
few-item (x ∷ sessions) all = (all.0, few-item sessions all.1)

-- No session has more replies than fit a text.
pub few-replies : (sessions : List (Vec Reply))
    → AllByRecursion (λ (said : List Reply). length said ≤ MOST_STATEMENTS) (map said_in sessions)
    → All HasFewReplies sessions
few-replies sessions all = All-from_recursion HasFewReplies sessions (few-item sessions all)

pub few-if-whole : (whole : Bool) (sessions : List (Vec Reply))
    → OnTrue whole (AllByRecursion (λ (said : List Reply). length said ≤ MOST_STATEMENTS) (map said_in sessions))
    → OnTrue whole (All HasFewReplies sessions)
few-if-whole true sessions all = few-replies sessions all
few-if-whole false sessions all = tt

-- A run over what is kept, of whose record something holds.
pub record IsHeldRun (HoldsOfRecord : RunRecord → Type 0) (kept : Kept) (every : ℕ)
    (tells : List (Option (List (List ℕ × List ℕ)))) (scripts : List (List Sentence)) (replies : List (List Reply))
    (names : List (List Dictionary)) (journal : List JournalEntry) (saved : Bool) (shards : List CoreShard)
    : Type 0 where
  pub run : IsRunOver kept every tells scripts replies names journal saved shards
  pub holds : HoldsOfRecord (run_over kept scripts run.file every run.names journal)

is-so : (b : Bool) (P : Type 0) → b ≡ true → OnTrue b P → P
is-so true P is h = h
is-so false P is h = absurd (cc)

module _ {H : Type 0} (told : H → Option (List (List ℕ × List ℕ))) (fault_count absence_count : H → ℕ)
    (HoldsOfRecord : RunRecord → Type 0) (HoldsOfRun : List JournalEntry → Type 0) (stored : Bool) (kept : Kept)
    (shards every : ℕ) (scripts : List (List Sentence)) (before after : List H) (finish : Finish)
    (taken now : Option (List ℕ)) (replies : List (List Reply)) (whole : Bool) (last : Option RoundResult)
    (takes : TakeAllKept kept shards) (all : length finish.shards.items ≡ shards)
    (legal : LeavesLegal kept finish.journal.items) (of_run : HoldsOfRun finish.journal.items)
    (run : OnTrue whole (IsHeldRun HoldsOfRecord kept every (map told before) scripts replies finish.names
    finish.journal.items (has_saved last) finish.shards.items))
    (shelves : ShelvesGoOn told fault_count absence_count (length scripts) whole replies before after) where
  abbrev text : List ℕ
  text = whole_text kept.epoch replies finish.journal.items

  with-text : (saved : Bool) → whole ≡ true
      → OnTrue saved (has_saved last ≡ true)
      → HasText told fault_count absence_count HoldsOfRecord HoldsOfRun saved kept shards every scripts before after
      finish text
  with-text saved is is_saved = record {
    takes = takes;
    all_shards = all;
    replies = replies;
    run = (held saved is_saved is).run;
    run_kept = (held saved is_saved is).holds;
    shelves =
        coe 0 1 (i. ShelvesGoOn told fault_count absence_count (length scripts) (is i) replies before after) shelves;
    text_is = refl;
  }
    where
      as-saved : (b : Bool) → OnTrue b (has_saved last ≡ true)
          → IsHeldRun HoldsOfRecord kept every (map told before) scripts replies finish.names finish.journal.items
          (has_saved last) finish.shards.items
          → IsHeldRun HoldsOfRecord kept every (map told before) scripts replies finish.names finish.journal.items b
          finish.shards.items
      as-saved true saved r =
          coe 0 1 (i. IsHeldRun HoldsOfRecord kept every (map told before) scripts replies finish.names
          finish.journal.items (saved i) finish.shards.items) r
      as-saved false saved r = record {
        run = record {
          file = r.run.file;
          names = r.run.names;
          files = r.run.files;
          final = r.run.final;
          in_full = r.run.in_full;
          ends = tt;
        };
        holds = r.holds;
      }

      held : (b : Bool) → OnTrue b (has_saved last ≡ true) → whole ≡ true
          → IsHeldRun HoldsOfRecord kept every (map told before) scripts replies finish.names finish.journal.items b
          finish.shards.items
      held b saved is = as-saved b saved (is-so whole _ is run)

  -- What was written tells how the run ended.
  pub ended : (f : Option Fault) → IsLeft stored whole finish.journal.items last text taken now f
      → PlayedEnds told fault_count absence_count HoldsOfRecord HoldsOfRun stored kept shards every scripts before
      after finish taken now f
  ended None left = (text, with-text true left.0 left.2.1, left.1, left.2.0)
  ended (Some (fault.Store store.DiskFault)) left =
      (left.2.0, text, with-text false left.0 tt, left.1, left.2.1)
  ended (Some fault.OutputFault) left = (text, with-text false left.0 tt, left.1)
  ended (Some fault.NoMemory) (inl none) = inl (none, inr (legal, of_run))
  ended (Some fault.NoMemory) (inr all) = inr (text, with-text false all.0 tt, all.1, all.2.0)
  ended f left = absurd left

-- Shelves of which each tells what it told.
pub same-told : {H T : Type 0} (told : H → T) (before after : List H) → length after ≡ length before
    → ((k : ℕ) (d : H) → told (slice_index_or after k d) ≡ told (slice_index_or before k d))
    → map told after ≡ map told before
same-told told [] [] many tell = refl
same-told told [] (y ∷ after) many tell = absurd (omega (arith, many))
same-told told (x ∷ before) [] many tell = absurd (omega (arith, many))
same-told told (x ∷ before) (y ∷ after) many tell =
    let first : told y ≡ told x = tell 0 y in
    let rest = same-told told before after (omega (arith, many)) (λ k d. tell (suc k) d) in
    λ i. first i ∷ rest i

-- A sink that was given nothing gained nothing.
pub nothing-gained : (taken : Option (List ℕ)) → Gained taken [] taken
nothing-gained taken before is = is ∙ ap Some (sym (append-nil before))

-- Shelves that are given back were not used.
pub given-back : {H : Type 0} (fault_count absence_count : H → ℕ) (before after : List H) → after ≡ before
    → UsesNoShelf fault_count absence_count before after
given-back fault_count absence_count before after same = record {
  others = ap (drop 1) same;
  faults = ap (map fault_count) same;
  absences = ap (map absence_count) same;
}

module _ {H : Type 0} (told : H → Option (List (List ℕ × List ℕ))) (fault_count absence_count : H → ℕ)
    (HoldsOfRecord : RunRecord → Type 0) (HoldsOfRun : List JournalEntry → Type 0) where
  -- How a run ended that no session began.
  pub unplayed-ended : (stored : Bool) (kept : Kept) (shards every : ℕ) (scripts : List (List Sentence))
      (before after : List H) (cause : CallError FullShard) (finish : Finish) (taken : Option (List ℕ))
      → finish.fault ≡ Some (fault_of_full cause) → IsFullFor kept shards cause → LeavesNothing finish → after ≡ before
      → PlayedEnds told fault_count absence_count HoldsOfRecord HoldsOfRun stored kept shards every scripts before
      after finish taken taken finish.fault
  unplayed-ended stored kept shards every scripts before after cause finish taken is full nothing same =
      coe 1 0 (i. PlayedEnds told fault_count absence_count HoldsOfRecord HoldsOfRun stored kept shards every scripts
      before after finish taken taken (is i)) (by-cause cause full)
    where
      by-cause : (c : CallError FullShard) → IsFullFor kept shards c
          → PlayedEnds told fault_count absence_count HoldsOfRecord HoldsOfRun stored kept shards every scripts before
          after finish taken taken (Some (fault_of_full c))
      by-cause (call.Fault too_full) f =
          (f, nothing, given-back fault_count absence_count before after same, nothing-gained taken)
      by-cause call.NoMemory f =
          inl (nothing-gained taken, inl (nothing, given-back fault_count absence_count before after same))

-- How a run ended that left this, from what was written of its text. What its maker of rounds has kept of it is kept of
-- its record, or of the run itself.
module _ {H M : Type 0} (told : H → Option (List (List ℕ × List ℕ))) (fault_count absence_count : H → ℕ)
    (has_kept : M → M → KeptClaim) (becomes : M → M → Type 0) (stored : Bool) (kept : Kept) (size : CoreSize)
    (shards every : ℕ) (scripts : List (Vec Said)) (before : List H) (maker : M) (ran : PlayedRun H M)
    (many : length scripts ≡ size.sessions) (asked : size.shards ≡ shards)
    (left : IsLeftByScripts told fault_count absence_count has_kept becomes kept size every (map sentences_of scripts)
    before maker ran) where
  abbrev said : List (List Sentence)
  said = map sentences_of scripts

  abbrev replies : List (List Reply)
  replies = map said_in ran.replies.items

  abbrev OfRecord : RunRecord → Type 0
  OfRecord run = HasKeptOfRecord has_kept maker ran.maker run

  abbrev OfRun : List JournalEntry → Type 0
  OfRun journal = HasKeptOfRun has_kept maker ran.maker kept shards (length said) journal

  sessions : size.sessions ≡ length said
  sessions = sym (length-map scripts sentences_of ∙ many)

  of-run : OfRun ran.journal.items
  of-run =
      let single = left.of_run in
      coe 0 1 (i. HasKeptOfRun has_kept maker ran.maker kept (asked i) (sessions i) ran.journal.items)
      (record {
        o = opening_over kept size.shards size.sessions single.log;
        run = single.by_run.to.es;
        is_run = record {
          log = single.log;
          over = refl;
          is_run = single.by_run.to.run;
          journal_is = single.journal_is ∙ ap (λ (desk : DeskState). desk.register.journal) single.by_run.desk;
        };
        keeps = single.keeps;
      })

  abbrev Played : Type 0
  Played =
      HasPlayedOver kept every (map told before) said replies ran.names ran.journal.items (has_saved ran.last_round)
      ran.shards.items (opening_over kept size.shards size.sessions left.of_run.log) left.of_run.by_run.to.es

  abbrev Held : Type 0
  Held =
      IsHeldRun OfRecord kept every (map told before) said replies ran.names ran.journal.items
      (has_saved ran.last_round) ran.shards.items

  held : Played → Held
  held plays = record {
    run = plays.on_record.over;
    holds = record {
      o = opening_over kept size.shards size.sessions left.of_run.log;
      given = plays.played.given;
      run = left.of_run.by_run.to.es;
      scripted = plays.played.run;
      same = plays.on_record.same;
      keeps = left.of_run.keeps;
    };
  }

  held-if : (whole : Bool) → OnTrue whole Played → OnTrue whole Held
  held-if true plays = held plays
  held-if false plays = tt

  pub played-ended : (after : List H) (finish : Finish) (taken now : Option (List ℕ)) → TakeAllKept kept shards
      → finish.journal.items ≡ ran.journal.items → finish.names ≡ ran.names → finish.shards ≡ ran.shards
      → after ≡ ran.shelves.items
      → ((safe : ℕ) → ran.counters ≡ counters safe ran.journal.items
      → IsLeft stored ran.whole ran.journal.items ran.last_round (whole_text safe replies ran.journal.items) taken now
      finish.fault)
      → PlayedEnds told fault_count absence_count OfRecord OfRun stored kept shards every said before after finish
      taken now finish.fault
  played-ended after finish taken now takes journal names same_shards shelves written =
      let of_run = left.of_run in
      let all : length finish.shards.items ≡ shards =
      ap (λ (s : Vec CoreShard). length s.items) (same_shards ∙ of_run.shards_are) ∙ of_run.by_run.as_many ∙ asked in
      ended told fault_count absence_count OfRecord OfRun stored kept shards every said before after finish taken now
      replies ran.whole ran.last_round takes all (coe 1 0 (i. LeavesLegal kept (journal i)) left.legal)
      (coe 1 0 (i. OfRun (journal i)) of-run)
      (coe 1 0 (i. OnTrue ran.whole (IsHeldRun OfRecord kept every (map told before) said replies (names i)
      (journal i) (has_saved ran.last_round) ((same_shards i).items))) (held-if ran.whole of_run.plays))
      (coe 0 1 (i. ShelvesGoOn told fault_count absence_count (sessions i) ran.whole replies before (sym shelves i))
      left.shelves_go_on)
      finish.fault
      (coe 1 0 (i. IsLeft stored ran.whole (journal i) ran.last_round (whole_text kept.epoch replies (journal i))
      taken now finish.fault) (written kept.epoch left.counted))
