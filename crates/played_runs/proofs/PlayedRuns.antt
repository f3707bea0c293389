-- Scripts that were played on threads over what is kept, and what their run left.
use Rattle.std.proofs.Common.{◌≡◌, ◌∙◌, ℕ, ◌+◌, ◌-◌, ◌<◌, ◌≤◌, Bool, true, false, List, ◌++◌, length, map, get_or, None, unwrap_or, refl, sym, ap, arith, length-append}
use Rattle.std.specs.Bool.{OnTrue}
use Rattle.std.specs.List.{AllByRecursion}
use Rattle.core_events.specs.Events.{CoreEvent, IsSession, Opening}
use Rattle.core_scripts.proofs.PlayedWorks.{element-at}
use Rattle.core_scripts.specs.GivenScripts.{AreReadyWorks, HavePlayedOnThreads}
use Rattle.core_scripts.proofs.BegunWorks.{work-at}
use Rattle.core_scripts.specs.ScriptsOnThreads.{AreOfSessions, AreShelvesOf, files_of_shelves, replies_in}
use Rattle.core_scripts.specs.ScriptWorks.{script_in}
use Rattle.core_scripts.specs.ToldFiles.{ShelfTold, files_told}
use Rattle.core_scripts.specs.declared.work.ScriptWork.{ScriptWork}
use Rattle.core_program.specs.CoreFits.{OpensCells}
use Rattle.core_program.specs.declared.size.CoreSize.{CoreSize}
use Rattle.cube_journal.specs.declared.reply.Reply.{Reply}
use Rattle.cube_run.specs.RunRecords.{Sentence}
use Rattle.flush_loop.specs.MadeRounds.{KeptClaim}
use Rattle.linked_shards.specs.CellShards.{CoreShardStands}
use Rattle.run_threads.specs.CoreWorks.{OpeningCells}
use Rattle.scripted_ends.specs.PlayedHistories.{IsPlayedRun, of_session}
use Rattle.scripted_pasts.specs.PlayedScripts.{AreKnownFiles, FileClaim}
use Rattle.shard_events.specs.ShardsInRuns.{FitsShard, ShardAnswerSays}
use Rattle.threaded_core.specs.declared.cores.RanCore.{RanCore}
use Rattle.played_runs.proofs.Lists.{all-at, in-front, length-mapped, mapped-place}
use Rattle.played_runs.specs.ReadySessions.{IsWhole, shelf_of}
use Rattle.played_runs.specs.RunsOnRecord.{told_to}

-- With the same files a run was played whatever else is said of them.
pub with-files : (IsFile Other : ℕ → FileClaim) (every : ℕ) (scripts : List (List Sentence))
    (replies : List (List Reply)) (o : Opening) (es : List CoreEvent)
    → ((session : ℕ) → IsSession o session → IsFile session ≡ Other session)
    → IsPlayedRun IsFile every scripts replies o es → IsPlayedRun Other every scripts replies o es
with-files IsFile Other every scripts replies o es same p = record {
  given = p.given;
  scripts_are = p.scripts_are;
  every_is = p.every_is;
  files = λ session is.
      coe 0 1 (i. AreKnownFiles (same session is i) (of_session scripts session) (of_session replies session)
      (p.given.file session)) (p.files session is);
  run = p.run;
  played = p.played;
  legal = p.legal;
  merge = p.merge;
  text = p.text;
  names = p.names;
  fit = p.fit;
}

module _ {H G M : Type 0} (told : H → ShelfTold) (fault_count absence_count : H → ℕ)
    (serves : M → OpeningCells → Type 0)
    (has_kept : M → M → KeptClaim) (becomes : M → M → Type 0) (size : CoreSize) (every : ℕ) (cells : OpeningCells)
    (works : List (ScriptWork H G)) (rest given : List H) (maker : M) (ran : RanCore (ScriptWork H G) M)
    (many : length works ≡ size.sessions) (some : 1 ≤ size.sessions) (ready : AreReadyWorks size 1 works)
    (rounds : (k : ℕ) (d : ScriptWork H G) → k < size.sessions
    → unwrap_or (get_or works k d).player.session.round_every 0 ≡ every)
    (shelves : map shelf_of works ++ rest ≡ given)
    (h : HavePlayedOnThreads told fault_count absence_count serves has_kept becomes size cells works maker ran) where
  first-work : ScriptWork H G
  first-work = element-at works 0 (omega (arith, many, some))

  -- The shelves that the sessions have, counted from 1.
  abbrev shelf-of-session : ℕ → H
  shelf-of-session session = get_or given (session - 1) first-work.shelf

  of-sessions : AreOfSessions size.sessions every works
  of-sessions = record {
    as_many = many;
    numbers = λ k d lt. (work-at size 1 works k d ready (omega (arith, lt, many))).number_is;
    rounds = rounds;
  }

  shelves-of : AreShelvesOf size.sessions works shelf-of-session
  shelves-of k d lt =
      let there : 1 + k - 1 ≡ k = omega arith in
      ap (λ n. get_or given n first-work.shelf) there
      ∙ ap (λ (all : List H). get_or all k first-work.shelf) (sym shelves)
      ∙ in-front shelf_of works rest k first-work.shelf d (omega (arith, lt, many))

  told-so : (o : Opening) → o.sessions ≡ size.sessions → (session : ℕ) → IsSession o session
      → files_of_shelves told shelf-of-session session ≡ files_told (told_to (map told given) session)
  told-so o same session is =
      let low = is.first in
      let high = is.last in
      let longer = ap (λ (all : List H). length all) shelves in
      let both = length-append (map shelf_of works) rest in
      let front = length-mapped shelf_of works in
      ap files_told
      (sym (mapped-place told given (session - 1) first-work.shelf None
      (omega (arith, low, high, same, longer, both, front, many))))

  -- However a run opens, it was played with the files of these shelves.
  pub played-over : (o : Opening) → o.sessions ≡ size.sessions → ran.began ≡ true
      → AllByRecursion IsWhole ran.sessions.items
      → (opens : OpensCells FitsShard CoreShardStands ShardAnswerSays o cells h.run.log)
      → IsPlayedRun (λ session. files_told (told_to (map told given) session)) every (map script_in works)
      (map replies_in ran.sessions.items) o (h.run.runs o opens).to.es
  played-over o same begun whole opens =
      with-files (files_of_shelves told shelf-of-session) (λ session. files_told (told_to (map told given) session))
      every (map script_in works) (map replies_in ran.sessions.items) o (h.run.runs o opens).to.es (told-so o same)
      (h.on_record every shelf-of-session of-sessions shelves-of begun
      (λ k d lt.
      let longer = h.run.order.as_many in
      all-at IsWhole ran.sessions.items k d whole (omega (arith, lt, longer))) o opens)

pub on-true : (b : Bool) (P : Type 0) → (b ≡ true → P) → OnTrue b P
on-true true P h = h refl
on-true false P h = tt
