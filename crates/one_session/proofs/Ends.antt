-- The end of a script.
use Rattle.std.proofs.Common.{◌≡◌, ◌∙◌, ℕ, ◌+◌, true, List, [], ◌∷◌, ◌++◌, Option, Some, None, sym, ap, arith}
use Rattle.std.specs.List.{AllZip, enumerate_from, list_all}
use Rattle.std.proofs.lemmas.List.Elements.{filter-append}
use Rattle.cube_journal.specs.declared.journal_entry.JournalEntry.{JournalEntry}
use Rattle.cube_journal.specs.declared.reply.Reply.{Reply}
use Rattle.cube_run.specs.Merge.{has_owner}
use Rattle.cube_run.specs.RunRecords.{RunRecord}
use Rattle.cube_run.specs.SessionStates.{KeptWatch, Mode, Idle, Open, Aborted, SessionState}
use Rattle.cube_run.specs.SessionSteps.{belongs_to, entries_of, session_part}
use Rattle.cube_run.specs.StatementEntries.{script_end}
use Rattle.played_scripts.specs.PlayedRuns.{AreNumbered, HasPlayed, HavePlayed}
use Rattle.played_scripts.specs.Promises.{IsPlayed}
use Rattle.played_scripts.proofs.Numbered.{all_of_one}
use Rattle.one_session.specs.Pasts.{Beginning, GoesOn, IsInTurn, SessionPast, last_number}
use Rattle.one_session.proofs.Entries.{entries_of_both, none_later, numbered_more}

pub end_numbered : (j : ℕ) (mode : Mode) (watch : Option KeptWatch) → AreNumbered j j (script_end 1 j mode watch)
end_numbered j Idle None = tt
end_numbered j Idle (Some kept) = (omega arith, omega arith, tt)
end_numbered j (Open writer) None = (omega arith, omega arith, tt)
end_numbered j (Open writer) (Some kept) = (omega arith, omega arith, (omega arith, omega arith, tt))
end_numbered j (Aborted epoch) None = tt
end_numbered j (Aborted epoch) (Some kept) = (omega arith, omega arith, tt)

pub has_played : (beginning : Beginning) (past : SessionPast) (run : RunRecord) (replies : List Reply)
    (state : SessionState) (added : List JournalEntry)
    → IsPlayed (GoesOn beginning) 1 past.sentences past replies state → IsInTurn past → GoesOn beginning past run
    → run.scripts ≡ past.sentences ∷ [] → run.journal ≡ past.journal ++ added
    → session_part 1 added ≡ script_end 1 (last_number past + 1) state.mode state.watch
    → list_all (has_owner run) run.journal ≡ true → HavePlayed run (replies ∷ [])
has_played beginning past run replies state added p turn g scripts journal ends owners = record {
  sessions =
      coe 1 0 (i. AllZip (λ q said. HasPlayed run q.0 q.1 said) (enumerate_from 1 (scripts i)) (replies ∷ []))
      (played, tt);
  owners = owners;
} where
  own : AreNumbered (last_number past + 1) (last_number past + 1) (session_part 1 added)
  own =
      coe 1 0 (i. AreNumbered (last_number past + 1) (last_number past + 1) (ends i))
      (end_numbered (last_number past + 1) state.mode state.watch)

  part : session_part 1 run.journal ≡ session_part 1 past.journal ++ session_part 1 added
  part = ap (session_part 1) journal ∙ filter-append (belongs_to 1) past.journal added

  played : HasPlayed run 1 past.sentences replies
  played = record {
    answers = p.answers run g;
    ending =
        ap (entries_of 1 (last_number past + 1)) journal
        ∙ entries_of_both 1 (last_number past + 1) past.journal added
        ∙ (λ i. none_later (last_number past + 1) 1 (last_number past) (session_part 1 past.journal) (omega arith) turn i
        ++ all_of_one (last_number past + 1) (session_part 1 added) own i)
        ∙ ends
        ∙ sym (ap (λ (s : SessionState). script_end 1 (last_number past + 1) s.mode s.watch) (p.becomes run g));
    order =
        coe 1 0 (i. AreNumbered 1 (last_number past + 1) (part i))
        (numbered_more 1 (last_number past) (session_part 1 past.journal) (session_part 1 added) (omega arith) turn own);
  }
