-- A script is played text by text.
use Rattle.std.proofs.Common.{◌≡◌, ◌∙◌, ℕ, ◌+◌, ◌≤◌, List, [], ◌∷◌, ◌++◌, length, map, Option, None, Some, refl, sym, ap, subst, arith, append_assoc, append-nil, length-append}
use Rattle.std.specs.List.{AllByRecursion}
use Rattle.core_program.specs.CoreFits.{CoreEntry}
use Rattle.core_endings.specs.ScriptEnds.{HoldsReaderUnder, IsWatchUnder}
use Rattle.counted_scripts.specs.CountedLoads.{CountsFor, CountsInTurn}
use Rattle.core_scripts.specs.PlayedWhole.{CountsOfShelf, CountsOn}
use Rattle.core_scripts.specs.PlayingSessions.{IsPlaying, PlaysOn, PlaysThrough, holder_kept}
use Rattle.script_sentences.specs.GivenTexts.{IsProperSaid}
use Rattle.core_scripts.specs.ToldFiles.{ShelfTold}
use Rattle.core_scripts.specs.declared.player.ScriptPlayer.{ScriptPlayer}
use Rattle.core_states.specs.ExecutedInCore.{HasOneMore}
use Rattle.core_watches.specs.KeptWatches.{KeepsWatchOrNone, watch_on_record}
use Rattle.core_watches.specs.declared.kept.CoreWatch.{CoreWatch}
use Rattle.cube_core.specs.declared.cell.CoreCell.{CoreCell}
use Rattle.cube_journal.specs.declared.reply.Reply.{Reply}
use Rattle.cube_language.specs.declared.piece.TheConstants.{MOST_STATEMENTS}
use Rattle.cube_run.specs.RunRecords.{Sentence}
use Rattle.linked_shards.specs.declared.cell.CoreShard.{CoreShard}
use Rattle.loaded_files.specs.CountedReplies.{CountsAbsence, CountsFault}
use Rattle.script_sentences.specs.Sentences.{sentence_of}
use Rattle.script_sentences.specs.declared.said.Said.{Said}
use Rattle.scripted_pasts.specs.Performed.{every_of}
use Rattle.std.specs.Prelude.{IfSome, unwrap_or}

-- ---- counts

one-more : (Counts : Reply → ℕ → ℕ → Type 0) (script : List Sentence) (replies : List Reply) (sentence : Sentence)
    (said : Reply) (before middle now : ℕ) → CountsInTurn Counts script replies before middle
    → CountsFor Counts sentence said middle now
    → CountsInTurn Counts (script ++ sentence ∷ []) (replies ++ said ∷ []) before now
one-more Counts [] [] sentence said before middle now h one =
    (now, subst (λ (n : ℕ). CountsFor Counts sentence said n now) h one, refl)
one-more Counts (s ∷ script) (r ∷ replies) sentence said before middle now h one =
    (h.0, h.1, one-more Counts script replies sentence said h.0 middle now h.2 one)
one-more Counts [] (r ∷ replies) sentence said before middle now h one = absurd h
one-more Counts (s ∷ script) [] sentence said before middle now h one = absurd h

-- ---- in the loop

-- What a shelf tells of its files, and its counts.
pub record ShelfNow : Type 0 where
  pub told : ShelfTold
  pub faults : ℕ
  pub absences : ℕ

module _ (cells : List (CoreCell CoreShard)) (caller : ℕ) where
  -- Some of the texts are played behind what was played before, and these are left.
  pub record StandsInTexts (script : List Said) (first : ShelfNow) (old : ScriptPlayer) (was : List CoreEntry)
      (said : List Reply) (left : List Said) (own : List CoreEntry) (replies : List Reply) (room : ℕ) (shelf : ShelfNow)
      (at : ScriptPlayer) : Type 0 where
    pub few : at.session.statements + length left ≤ MOST_STATEMENTS
    pub proper : AllByRecursion IsProperSaid left
    pub fits : length replies + length left ≤ room
    pub same : shelf.told ≡ first.told
    pub later : first.faults ≤ shelf.faults
    pub number_is : at.session.number ≡ old.session.number
    pub every_is : every_of at.session ≡ every_of old.session
    pub statements : at.session.statements + length left ≡ old.session.statements + length script
    pub answered : length replies + length left ≡ length said + length script
    pub so_far : List Sentence
    pub rest : so_far ++ map sentence_of left ≡ map sentence_of script
    pub before : List Sentence
    pub playing : IsPlaying first.told cells caller at own before replies
    pub plays : PlaysThrough first.told cells caller old was said so_far at own replies
    pub counts : CountsOn so_far said replies first.faults shelf.faults first.absences shelf.absences

  pub stands-at-first : (script : List Said) (own : List CoreEntry) (replies : List Reply) (room : ℕ) (shelf : ShelfNow)
      (at : ScriptPlayer) → at.session.statements + length script ≤ MOST_STATEMENTS → AllByRecursion IsProperSaid script
      → length replies + length script ≤ room
      → ((before : List Sentence) × IsPlaying shelf.told cells caller at own before replies)
      → StandsInTexts script shelf at own replies script own replies room shelf at
  stands-at-first script own replies room shelf at few proper fits plays = record {
    few = few;
    proper = proper;
    fits = fits;
    same = refl;
    later = omega arith;
    number_is = refl;
    every_is = refl;
    statements = refl;
    answered = refl;
    so_far = [];
    rest = refl;
    before = plays.0;
    playing = plays.1;
    plays = λ before p. coe 1 0 (i. IsPlaying shelf.told cells caller at own (append-nil before i) replies) p;
    counts = λ before faults absences c.
        coe 1 0 (i. CountsOfShelf (append-nil before i) replies faults shelf.faults absences shelf.absences) c;
  }

  -- One text more was played and answered.
  pub record GoesOnWith (said : Said) (reply : Reply) (shelf next : ShelfNow) (at to : ScriptPlayer)
      (own now : List CoreEntry) : Type 0 where
    pub more : HasOneMore at.session to.session
    pub same : next.told ≡ shelf.told
    pub later : shelf.faults ≤ next.faults
    pub count_faults : CountsFor CountsFault (sentence_of said) reply shelf.faults next.faults
    pub count_absences : CountsFor CountsAbsence (sentence_of said) reply shelf.absences next.absences
    pub plays : PlaysOn shelf.told cells caller at own (sentence_of said) to now reply

  module _ (script : List Said) (first : ShelfNow) (old : ScriptPlayer) (was : List CoreEntry) (before_said : List Reply)
      (text : Said) (left : List Said) (own now : List CoreEntry) (replies new_replies : List Reply) (reply : Reply)
      (room : ℕ) (shelf next : ShelfNow) (at to : ScriptPlayer)
      (h : StandsInTexts script first old was before_said (text ∷ left) own replies room shelf at)
      (g : GoesOnWith text reply shelf next at to own now) (more : new_replies ≡ replies ++ reply ∷ []) where
    abbrev sentence : Sentence
    sentence = sentence_of text

    -- Whatever was played, the text is played behind it.
    plays-next : (before : List Sentence) → IsPlaying first.told cells caller at own before replies
        → IsPlaying first.told cells caller to now (before ++ sentence ∷ []) new_replies
    plays-next before p =
        coe 1 0 (i. IsPlaying first.told cells caller to now (before ++ sentence ∷ []) (more i))
        (coe 0 1 (i. PlaysOn (h.same i) cells caller at own sentence to now reply) g.plays before replies p)

    counts-next : (before : List Sentence) (faults absences : ℕ)
        → CountsOfShelf before replies faults shelf.faults absences shelf.absences
        → CountsOfShelf (before ++ sentence ∷ []) new_replies faults next.faults absences next.absences
    counts-next before faults absences c =
        coe 1 0 (i. CountsOfShelf (before ++ sentence ∷ []) (more i) faults next.faults absences next.absences)
        (record {
          count_faults =
              one-more CountsFault before replies sentence reply faults shelf.faults next.faults c.count_faults
              g.count_faults;
          count_absences =
              one-more CountsAbsence before replies sentence reply absences shelf.absences next.absences
              c.count_absences g.count_absences;
        })

    pub stands-at-next : StandsInTexts script first old was before_said left now new_replies room next to
    stands-at-next =
        let few = h.few in
        let fits = h.fits in
        let longer = ap (λ (rs : List Reply). length rs) more ∙ length-append replies (reply ∷ []) in
        let one = g.more.statements in
        let earlier = h.later in
        let later = g.later in
        let statements = h.statements in
        let answered = h.answered in
        record {
          few = omega (arith, few, one);
          proper = h.proper.1;
          fits = omega (arith, fits, longer);
          same = g.same ∙ h.same;
          later = omega (arith, earlier, later);
          number_is = g.more.number ∙ h.number_is;
          every_is = ap (λ (e : Option ℕ). unwrap_or e 0) g.more.every ∙ h.every_is;
          statements = omega (arith, one, statements);
          answered = omega (arith, longer, answered);
          so_far = h.so_far ++ sentence ∷ [];
          rest = append_assoc h.so_far (sentence ∷ []) (map sentence_of left) ∙ h.rest;
          before = h.before ++ sentence ∷ [];
          playing = plays-next h.before h.playing;
          plays = λ before p.
              coe 0 1 (i. IsPlaying first.told cells caller to now (append_assoc before h.so_far (sentence ∷ []) i)
              new_replies) (plays-next (before ++ h.so_far) (h.plays before p));
          counts = λ before faults absences c.
              coe 0 1 (i. CountsOfShelf (append_assoc before h.so_far (sentence ∷ []) i) new_replies faults next.faults
              absences next.absences)
              (counts-next (before ++ h.so_far) faults absences (h.counts before faults absences c));
        }

  -- Where none is left all are played.
  module _ (script : List Said) (first : ShelfNow) (old : ScriptPlayer) (was : List CoreEntry) (said : List Reply)
      (own : List CoreEntry) (replies : List Reply) (room : ℕ) (shelf : ShelfNow) (at : ScriptPlayer) where
    all-said : (left : List Said) → length left ≡ 0
        → (h : StandsInTexts script first old was said left own replies room shelf at) → h.so_far ≡ map sentence_of script
    all-said [] none h = sym (append-nil h.so_far) ∙ h.rest
    all-said (text ∷ left) none h = absurd (omega (arith, none))

    pub all-played : (left : List Said) → length left ≡ 0
        → StandsInTexts script first old was said left own replies room shelf at
        → PlaysThrough first.told cells caller old was said (map sentence_of script) at own replies
    all-played left none h =
        coe 0 1 (i. PlaysThrough first.told cells caller old was said (all-said left none h i) at own replies) h.plays

    pub all-counted : (left : List Said) → length left ≡ 0
        → StandsInTexts script first old was said left own replies room shelf at
        → CountsOn (map sentence_of script) said replies first.faults shelf.faults first.absences shelf.absences
    all-counted left none h =
        coe 0 1 (i. CountsOn (all-said left none h i) said replies first.faults shelf.faults first.absences
        shelf.absences) h.counts

  -- ---- the end

  -- The reader of a watch is held as the end of a script asks.
  pub reader-at-end : (session : ℕ) (own : List CoreEntry) (watch : Option CoreWatch)
      → KeepsWatchOrNone cells caller session own watch
      → IfSome (holder_kept watch) (HoldsReaderUnder cells caller session own)
  reader-at-end session own None keeps = tt
  reader-at-end session own (Some kept) keeps = record {
    is_holder = keeps.bound.watch.sound.holder;
    epoch = kept.watch.epoch;
    reader = keeps.reader;
  }

pub watch-at-end : (watch : Option CoreWatch) → IsWatchUnder (holder_kept watch) (watch_on_record watch)
watch-at-end None = tt
watch-at-end (Some kept) = refl
