-- A work that is halfway, and goes on to its end.
use Rattle.std.proofs.Common.{◌≡◌, ◌∙◌, ℕ, ◌+◌, ◌≤◌, Bool, true, false, List, [], ◌∷◌, ◌++◌, length, map, refl, sym, ap, arith, append-nil}
use Rattle.std.specs.Bool.{OnTrue}
use Rattle.std.specs.List.{AllByRecursion}
use Rattle.std.specs.Prelude.{vec_capacity, vec_len, ◌==◌}
use Rattle.std.proofs.lemmas.Bool.{eqb-true}
use Rattle.std.specs.Global.{Vec}
use Rattle.core_program.specs.CoreFits.{CoreEntry}
use Rattle.core_program.specs.declared.size.CoreSize.{CoreSize}
use Rattle.core_scripts.specs.PlayedWhole.{CountsOfShelf, CountsOn, MayPlay, PlaysOnToTheEnd, PlaysToTheEnd}
use Rattle.core_scripts.specs.PlayingSessions.{IsPlaying, PlaysThrough}
use Rattle.core_scripts.specs.ScriptWorks.{HasPlayedOut, IsHalfway, script_in}
use Rattle.core_scripts.specs.ToldFiles.{ShelfTold}
use Rattle.core_scripts.specs.declared.work.ScriptWork.{ScriptWork}
use Rattle.cube_core.specs.declared.cell.CoreCell.{CoreCell}
use Rattle.cube_journal.specs.declared.reply.Reply.{Reply}
use Rattle.cube_language.specs.declared.piece.TheConstants.{MOST_STATEMENTS}
use Rattle.cube_run.specs.RunRecords.{Sentence}
use Rattle.linked_shards.specs.declared.cell.CoreShard.{CoreShard}
use Rattle.script_sentences.specs.GivenTexts.{IsProperSaid}
use Rattle.script_sentences.specs.Sentences.{sentence_of}
use Rattle.script_sentences.specs.declared.said.Said.{Said}
use Rattle.scripted_pasts.specs.Performed.{every_of}
use Rattle.scripted_pasts.specs.Served.{IsServed}

pub on-true-then : (b : Bool) (P Q : Type 0) → (P → Q) → OnTrue b P → OnTrue b Q
on-true-then true P Q to p = to p
on-true-then false P Q to p = tt

pub on-true : (b : Bool) (P : Type 0) → (b ≡ true → P) → OnTrue b P
on-true true P p = p refl
on-true false P p = tt

pub from-true : (b : Bool) (P : Type 0) → b ≡ true → OnTrue b P → P
from-true true P is p = p
from-true false P is p = absurd cc

pub on-false : (b : Bool) (P : Type 0) → b ≡ false → OnTrue b P
on-false true P e = absurd cc
on-false false P e = tt

-- Before a script nothing is counted.
pub no-counts : (replies : List Reply) (faults absences : ℕ) → replies ≡ []
    → CountsOfShelf [] replies faults faults absences absences
no-counts replies faults absences none =
    coe 1 0 (i. CountsOfShelf [] (none i) faults faults absences absences)
    (record { count_faults = refl; count_absences = refl })

-- A list without an item.
nothing-in : (texts : List Said) → length texts ≡ 0 → texts ≡ []
nothing-in [] none = refl
nothing-in (text ∷ texts) none = absurd (omega (arith, none))

pub nothing-left : (texts : Vec Said) → true ≡ (vec_len texts == 0) → texts.items ≡ []
nothing-left texts none =
    let long = texts.ok.0 in
    let zero_long = eqb-true (vec_len texts) 0 (sym none) in
    nothing-in texts.items (omega (arith, long, zero_long))

-- What a work that is halfway has for its closing part.
pub record MayGoOn {H G : Type 0} (work : ScriptWork H G) (closing : Vec Said) (callers : ℕ)
    (cells : List (CoreCell CoreShard)) (caller : ℕ) : Type 0 where
  pub all : work.size.sessions + 2 + work.size.shards ≤ callers
  pub served : IsServed cells caller work.player.session.number work.size.shards
  pub is_session : work.player.session.number ≤ work.size.sessions
  pub few : work.player.session.statements + length closing.items ≤ MOST_STATEMENTS
  pub proper : AllByRecursion IsProperSaid closing.items
  pub fits : length work.replies.items + length closing.items ≤ vec_capacity work.replies

module _ {H G : Type 0} (told : H → ShelfTold) (fault_count absence_count : H → ℕ) (cells : List (CoreCell CoreShard))
    (caller : ℕ) where
  -- ---- all at once

  -- Without a closing part, what was played of a script is all.
  module _ (before : ScriptWork H G) (texts : Vec Said) (script_is : texts ≡ before.script)
      (none : before.closing.items ≡ []) where
    no-closing : map sentence_of texts.items ≡ script_in before
    no-closing =
        ap (λ (v : Vec Said). map sentence_of v.items) script_is
        ∙ sym (append-nil (map sentence_of before.script.items))
        ∙ ap (λ (left : List Said). map sentence_of before.script.items ++ map sentence_of left) (sym none)

    pub played-at-once : {after : ScriptWork H G} {own : List CoreEntry} (was : List CoreEntry)
        → told after.shelf ≡ told before.shelf
        → fault_count before.shelf ≤ fault_count after.shelf → after.halfway ≡ false → before.replies.items ≡ []
        → IsPlaying (told before.shelf) cells caller before.player was [] []
        → OnTrue after.whole (PlaysOnToTheEnd (told before.shelf) cells caller before.player was before.replies.items
        (map sentence_of texts.items) after.replies.items own)
        → OnTrue after.whole (CountsOn (map sentence_of texts.items) before.replies.items after.replies.items
        (fault_count before.shelf) (fault_count after.shelf) (absence_count before.shelf) (absence_count after.shelf))
        → HasPlayedOut told fault_count absence_count before after cells caller own
    played-at-once {after} {own} was same later over no_replies playing ends counts = record {
      same = same;
      later = later;
      halfway = on-false after.halfway _ over;
      whole = on-true-then after.whole _ _
          (λ (e : PlaysOnToTheEnd (told before.shelf) cells caller before.player was before.replies.items
          (map sentence_of texts.items) after.replies.items own).
          coe 0 1 (i. PlaysToTheEnd (told before.shelf) cells caller before.player.session.number
          (every_of before.player.session) (no-closing i) after.replies.items own)
          (e [] (coe 1 0 (i. IsPlaying (told before.shelf) cells caller before.player was [] (no_replies i)) playing)))
          ends;
      counts = on-true-then after.whole _ _
          (λ (e : CountsOn (map sentence_of texts.items) before.replies.items after.replies.items
          (fault_count before.shelf) (fault_count after.shelf) (absence_count before.shelf)
          (absence_count after.shelf)).
          coe 0 1 (i. CountsOfShelf (no-closing i) after.replies.items (fault_count before.shelf)
          (fault_count after.shelf) (absence_count before.shelf) (absence_count after.shelf))
          (e [] (fault_count before.shelf) (absence_count before.shelf)
          (no-counts before.replies.items (fault_count before.shelf) (absence_count before.shelf) no_replies)))
          counts;
    }

  -- ---- up to the closing part

  module _ (before : ScriptWork H G) (texts : Vec Said) (script_is : texts ≡ before.script) (callers : ℕ)
      (may : MayPlay before.size.shards before.size.sessions before.player before.script.items before.closing.items
      before.replies.items (vec_capacity before.replies) callers cells caller) where
    -- Its script was played, and the closing part is left.
    pub played-halfway : {after : ScriptWork H G} {own : List CoreEntry} (was : List CoreEntry)
        (there : List (CoreCell CoreShard)) (acting : ℕ) → there ≡ cells → acting ≡ caller
        → told after.shelf ≡ told before.shelf → fault_count before.shelf ≤ fault_count after.shelf
        → after.whole ≡ false → after.size ≡ before.size → after.closing ≡ before.closing
        → after.player.session.number ≡ before.player.session.number
        → every_of after.player.session ≡ every_of before.player.session
        → vec_capacity after.replies ≡ vec_capacity before.replies
        → OnTrue after.halfway
        (after.player.session.statements ≡ before.player.session.statements + length texts.items)
        → OnTrue after.halfway (length after.replies.items ≡ length before.replies.items + length texts.items)
        → IsPlaying (told before.shelf) cells caller before.player was [] []
        → OnTrue after.halfway (PlaysThrough (told before.shelf) there acting before.player was before.replies.items
        (map sentence_of texts.items) after.player own after.replies.items)
        → OnTrue after.halfway (CountsOn (map sentence_of texts.items) before.replies.items after.replies.items
        (fault_count before.shelf) (fault_count after.shelf) (absence_count before.shelf) (absence_count after.shelf))
        → HasPlayedOut told fault_count absence_count before after cells caller own
    played-halfway {after} {own} was there acting there_is acting_is same later not_whole size_is closing_is number_is
        every_is capacity more answered playing plays counts = record {
          same = same;
          later = later;
          halfway = on-true after.halfway _
              (λ is.
              let long = ap (λ (v : Vec Said). length v.items) script_is in
              let statements = from-true after.halfway _ is more in
              let replied = from-true after.halfway _ is answered in
              let none = ap (λ (replies : List Reply). length replies) may.no_replies in
              let fresh = may.fresh.statements in
              let few = may.few in
              let fits = may.fits in
              let at_first =
              coe 1 0 (i. IsPlaying (told before.shelf) (there_is i) (acting_is i) before.player was [] (may.no_replies i))
              playing
              in
              let then : PlaysThrough (told before.shelf) there acting before.player was before.replies.items
              (map sentence_of texts.items) after.player own after.replies.items =
              from-true after.halfway _ is plays
              in
              let counted : CountsOn (map sentence_of texts.items) before.replies.items after.replies.items
              (fault_count before.shelf) (fault_count after.shelf) (absence_count before.shelf)
              (absence_count after.shelf) =
              from-true after.halfway _ is counts
              in
              record {
                size_is = size_is;
                closing_is = closing_is;
                number_is = number_is;
                every_is = every_is;
                few = omega (arith, long, statements, fresh, few);
                fits = omega (arith, long, replied, none, fits, capacity);
                playing =
                    coe 0 1 (i. IsPlaying (told before.shelf) (there_is i) (acting_is i) after.player own
                    (map sentence_of (script_is i).items) after.replies.items) (then [] at_first);
                counts =
                    coe 0 1 (i. CountsOfShelf (map sentence_of (script_is i).items) after.replies.items
                    (fault_count before.shelf) (fault_count after.shelf) (absence_count before.shelf)
                    (absence_count after.shelf))
                    (counted [] (fault_count before.shelf) (absence_count before.shelf)
                    (no-counts before.replies.items (fault_count before.shelf) (absence_count before.shelf) may.no_replies));
              });
          whole = on-false after.whole _ not_whole;
          counts = on-false after.whole _ not_whole;
        }

  -- ---- halfway

  module _ (first before : ScriptWork H G) (own : List CoreEntry)
      (d : HasPlayedOut told fault_count absence_count first before cells caller own) (half : before.halfway ≡ true) where
    pub it-is-halfway : IsHalfway told fault_count absence_count first before cells caller own
    it-is-halfway =
        coe 0 1 (i. OnTrue (half i) (IsHalfway told fault_count absence_count first before cells caller own)) d.halfway

    pub halfway-playing : IsPlaying (told before.shelf) cells caller before.player own (map sentence_of first.script.items)
        before.replies.items
    halfway-playing =
        coe 1 0 (i. IsPlaying (d.same i) cells caller before.player own (map sentence_of first.script.items)
        before.replies.items) it-is-halfway.playing

    -- What is asked for its closing part.
    pub may-go-on : (closing : Vec Said) → closing ≡ before.closing → (callers : ℕ)
        → MayPlay first.size.shards first.size.sessions first.player first.script.items first.closing.items
        first.replies.items (vec_capacity first.replies) callers cells caller
        → MayGoOn before closing callers cells caller
    may-go-on closing closing_is callers may =
        let h = it-is-halfway in
        let sessions = ap (λ (s : CoreSize). s.sessions) h.size_is in
        let shards = ap (λ (s : CoreSize). s.shards) h.size_is in
        let long = ap (λ (texts : Vec Said). length texts.items) (closing_is ∙ h.closing_is) in
        let all = may.all in
        let same = h.number_is in
        let is = may.is_session in
        let few = h.few in
        let fits = h.fits in
        record {
          all = omega (arith, all, sessions, shards);
          served = coe 1 0 (i. IsServed cells caller (h.number_is i) (h.size_is i).shards) may.served;
          is_session = omega (arith, sessions, same, is);
          few = omega (arith, long, few);
          proper = coe 1 0 (i. AllByRecursion IsProperSaid ((closing_is ∙ h.closing_is) i).items) may.proper_closing;
          fits = omega (arith, long, fits);
        }

    -- Its closing part was played behind its script.
    pub finished : {after : ScriptWork H G} {now : List CoreEntry} (closing : Vec Said) → closing ≡ before.closing
        → told after.shelf ≡ told before.shelf
        → fault_count before.shelf ≤ fault_count after.shelf → after.halfway ≡ false
        → OnTrue after.whole (PlaysOnToTheEnd (told before.shelf) cells caller before.player own before.replies.items
        (map sentence_of closing.items) after.replies.items now)
        → OnTrue after.whole (CountsOn (map sentence_of closing.items) before.replies.items after.replies.items
        (fault_count before.shelf) (fault_count after.shelf) (absence_count before.shelf) (absence_count after.shelf))
        → HasPlayedOut told fault_count absence_count first after cells caller now
    finished {after} {now} closing closing_is same later over ends counts =
        let h = it-is-halfway in
        let earlier = d.later in
        record {
          same = same ∙ d.same;
          later = omega (arith, earlier, later);
          halfway = on-false after.halfway _ over;
          whole = on-true-then after.whole _ _
              (λ (e : PlaysOnToTheEnd (told before.shelf) cells caller before.player own before.replies.items
              (map sentence_of closing.items) after.replies.items now).
              coe 0 1 (i. PlaysToTheEnd (d.same i) cells caller (h.number_is i) (h.every_is i)
              (map sentence_of first.script.items ++ map sentence_of ((closing_is ∙ h.closing_is) i).items) after.replies.items now)
              (e (map sentence_of first.script.items) halfway-playing)) ends;
          counts = on-true-then after.whole _ _
              (λ (e : CountsOn (map sentence_of closing.items) before.replies.items after.replies.items
              (fault_count before.shelf) (fault_count after.shelf) (absence_count before.shelf)
              (absence_count after.shelf)).
              coe 0 1 (i. CountsOfShelf
              (map sentence_of first.script.items ++ map sentence_of ((closing_is ∙ h.closing_is) i).items) after.replies.items
              (fault_count first.shelf) (fault_count after.shelf) (absence_count first.shelf)
              (absence_count after.shelf))
              (e (map sentence_of first.script.items) (fault_count first.shelf) (absence_count first.shelf) h.counts))
              counts;
        }
