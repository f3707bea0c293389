-- The shelves of sessions once their works are done.
use Rattle.std.proofs.Common.{◌≡◌, ◌∙◌, inl, inr, ℕ, ◌+◌, ◌<◌, ◌≤◌, Bool, true, false, List, [], ◌++◌, length, map, get_or, sym, ap, arith, length-append}
use Rattle.std.proofs.lemmas.Bool.Decides.{leb_tells}
use Rattle.std.specs.Bool.{OnTrue}
use Rattle.core_scripts.proofs.PlayedWorks.{element-at}
use Rattle.core_scripts.specs.PlayedWhole.{CountsOfShelf}
use Rattle.core_scripts.specs.ScriptWorks.{HasPlayedOut, script_in}
use Rattle.core_scripts.specs.ScriptsOnThreads.{AreWhole, replies_in}
use Rattle.core_scripts.specs.ToldFiles.{ShelfTold}
use Rattle.core_scripts.specs.declared.work.ScriptWork.{ScriptWork}
use Rattle.core_program.specs.CoreFits.{CoreEntry}
use Rattle.cube_journal.specs.declared.reply.Reply.{Reply}
use Rattle.loaded_files.specs.CountedReplies.{GainsReplies}
use Rattle.run_threads.specs.CoreWorks.{OpeningCells}
use Rattle.threaded_callers.specs.Ends.{EndsAs}
use Rattle.threaded_core.specs.CallerEnds.{EndsBy}
use Rattle.played_runs.proofs.Lists.{behind-front, in-front, length-mapped}
use Rattle.played_runs.specs.ReadySessions.{shelf_of}
use Rattle.played_runs.specs.Shelves.{ShelvesGoOn}

module _ {H G : Type 0} (told : H → ShelfTold) (fault_count absence_count : H → ℕ) (cells : OpeningCells) where
  -- ---- of one work

  work-tells : (began : Bool) (caller : ℕ) (own : List CoreEntry) (before after : ScriptWork H G)
      → EndsAs (HasPlayedOut told fault_count absence_count) cells began caller own before after
      → told after.shelf ≡ told before.shelf
  work-tells true caller own before after ends = ends.same
  work-tells false caller own before after ends = ap (λ (w : ScriptWork H G). told w.shelf) ends.1

  work-later : (began : Bool) (caller : ℕ) (own : List CoreEntry) (before after : ScriptWork H G)
      → EndsAs (HasPlayedOut told fault_count absence_count) cells began caller own before after
      → fault_count before.shelf ≤ fault_count after.shelf
  work-later true caller own before after ends = ends.later
  work-later false caller own before after ends =
      let same = ap (λ (w : ScriptWork H G). fault_count w.shelf) ends.1 in
      omega (arith, same)

  work-counts : (began whole : Bool) (caller : ℕ) (own : List CoreEntry) (before after : ScriptWork H G) → began ≡ true
      → after.whole ≡ true
      → EndsAs (HasPlayedOut told fault_count absence_count) cells began caller own before after
      → CountsOfShelf (script_in before) (replies_in after) (fault_count before.shelf) (fault_count after.shelf)
      (absence_count before.shelf) (absence_count after.shelf)
  work-counts began whole caller own before after begun is ends =
      let out =
      coe 0 1 (i. EndsAs (HasPlayedOut told fault_count absence_count) cells (begun i) caller own before after) ends
      in
      coe 0 1 (i. OnTrue (is i) (CountsOfShelf (script_in before) (replies_in after) (fault_count before.shelf)
      (fault_count after.shelf) (absence_count before.shelf) (absence_count after.shelf))) out.counts

  -- ---- of all

  module _ (sessions : ℕ) (played log : List CoreEntry) (began : Bool) (works after : List (ScriptWork H G))
      (rest : List H)
      (many : length works ≡ sessions) (as_many : length after ≡ sessions)
      (plays : (k : ℕ) (d : ScriptWork H G) → k < sessions
      → EndsBy (HasPlayedOut told fault_count absence_count) cells played log began (1 + k) (get_or works k d)
      (get_or after k d)) where
    abbrev old : List H
    old = map shelf_of works ++ rest

    abbrev new : List H
    new = map shelf_of after ++ rest

    shelf-then : (k : ℕ) (d : H) (e : ScriptWork H G) → k < sessions → get_or old k d ≡ (get_or works k e).shelf
    shelf-then k d e lt = in-front shelf_of works rest k d e (omega (arith, lt, many))

    shelf-now : (k : ℕ) (d : H) (e : ScriptWork H G) → k < sessions → get_or new k d ≡ (get_or after k e).shelf
    shelf-now k d e lt = in-front shelf_of after rest k d e (omega (arith, lt, as_many))

    other-now : (k : ℕ) (d : H) → sessions ≤ k → get_or new k d ≡ get_or old k d
    other-now k d le =
        let one = length-mapped shelf_of after in
        let two = length-mapped shelf_of works in
        behind-front (map shelf_of after) (map shelf_of works) rest k d (omega (arith, one, two, many, as_many))
        (omega (arith, one, as_many, le))

    some-work : (k : ℕ) → k < sessions → ScriptWork H G
    some-work k lt = element-at works k (omega (arith, lt, many))

    tells : (k : ℕ) (d : H) → told (get_or new k d) ≡ told (get_or old k d)
    tells k d = elim (leb_tells sessions k) [
      | inr below ↦
          let lt = below.1 in
          let e = some-work k lt in
          ap told (shelf-now k d e lt)
          ∙ work-tells began (1 + k) _ (get_or works k e) (get_or after k e) (plays k e lt).ends
          ∙ ap told (sym (shelf-then k d e lt))
      | inl past ↦ ap told (other-now k d past.1)
    ]

    later : (k : ℕ) (d : H) → fault_count (get_or old k d) ≤ fault_count (get_or new k d)
    later k d = elim (leb_tells sessions k) [
      | inr below ↦
          let lt = below.1 in
          let e = some-work k lt in
          let now = ap fault_count (shelf-now k d e lt) in
          let then = ap fault_count (shelf-then k d e lt) in
          let le = work-later began (1 + k) _ (get_or works k e) (get_or after k e) (plays k e lt).ends in
          omega (arith, now, then, le)
      | inl past ↦ let same = ap fault_count (other-now k d past.1) in omega (arith, same)
    ]

    -- The counts of a session's shelf, as its work has them.
    pub counts-at : began ≡ true → AreWhole sessions after → (k : ℕ) (d : H) (e : ScriptWork H G) → k < sessions
        → CountsOfShelf (script_in (get_or works k e)) (replies_in (get_or after k e)) (fault_count (get_or old k d))
        (fault_count (get_or new k d)) (absence_count (get_or old k d)) (absence_count (get_or new k d))
    counts-at begun whole k d e lt =
        let now = shelf-now k d e lt in
        let then = shelf-then k d e lt in
        coe 1 0 (i. CountsOfShelf (script_in (get_or works k e)) (replies_in (get_or after k e))
        (fault_count (then i)) (fault_count (now i)) (absence_count (then i)) (absence_count (now i)))
        (work-counts began true (1 + k) _ (get_or works k e) (get_or after k e) begun (whole k e lt)
        (plays k e lt).ends)

    pub shelves-go-on : (whole : Bool) (replies : List (List Reply))
        → OnTrue whole ((k : ℕ) (d : H) → k < sessions
        → GainsReplies [] (get_or replies k []) (fault_count (get_or old k d)) (fault_count (get_or new k d))
        (absence_count (get_or old k d)) (absence_count (get_or new k d)))
        → ShelvesGoOn told fault_count absence_count sessions whole replies old new
    shelves-go-on whole replies counted = record {
      as_many =
          let one = length-append (map shelf_of after) rest in
          let two = length-append (map shelf_of works) rest in
          let a = length-mapped shelf_of after in
          let b = length-mapped shelf_of works in
          omega (arith, one, two, a, b, many, as_many);
      tell = tells;
      later = later;
      counted = counted;
      others = other-now;
    }
