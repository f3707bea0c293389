-- A session has played its script: from nothing, by one statement more, and after quiet calls.
use Rattle.std.proofs.Common.{◌≡◌, ◌∙◌, ℕ, ◌+◌, ◌≤◌, ◌<◌, List, [], ◌∷◌, ◌++◌, length, Option, None, unwrap_or, refl, sym, ap, subst, arith, append-nil}
use Rattle.std.specs.List.{AllZip, enumerate_from}
use Rattle.core_events.specs.Events.{Opening}
use Rattle.core_events.specs.Jobs.{CoreJob, JobOutcome}
use Rattle.core_events.specs.ShardView.{ShardView}
use Rattle.core_states.proofs.CallEntries.{none-left}
use Rattle.core_states.proofs.LongerPasts.{executed, longer-by-one}
use Rattle.core_states.specs.CorePasts.{CorePast, last_number, nothing_behind}
use Rattle.core_states.specs.OwnCalls.{OwnCallsLeave}
use Rattle.core_states.specs.RunsFrom.{GoesOn}
use Rattle.core_program.specs.CoreFits.{CoreEntry}
use Rattle.core_states.proofs.LeftCalls.{longer-front}
use Rattle.core_states.specs.ExecutedInCore.{HasOneMore}
use Rattle.core_states.specs.StandingInCore.{state_of_session}
use Rattle.core_states.specs.declared.session.CoreSession.{CoreSession}
use Rattle.cube_core.specs.declared.cell.CoreCell.{CoreCell}
use Rattle.cube_core.specs.declared.shard.ShardAnswer.{ShardAnswer}
use Rattle.cube_core.specs.declared.shard.ShardCall.{ShardCall}
use Rattle.cube_journal.specs.declared.journal_entry.JournalEntry.{JournalEntry}
use Rattle.cube_journal.specs.declared.reply.Reply.{Reply}
use Rattle.cube_run.specs.RunRecords.{LoadedFile, Sentence}
use Rattle.cube_run.specs.SessionStates.{KeptWatch, SessionState, fresh_session}
use Rattle.played_scripts.proofs.Played.{nothing_played, one_more_played}
use Rattle.played_scripts.specs.Promises.{IsExecuted, IsPlayed}
use Rattle.scripted_pasts.proofs.NamesMore.{nothing-named, with-calls as names-with-calls}
use Rattle.posted_pasts.proofs.PostsMore.{nothing-posted, with-calls}
use Rattle.scripted_pasts.proofs.QuietLearns.{quiet-asks, quiet-learns}
use Rattle.scripted_pasts.proofs.SpokenMore.{no-calls-speak, quiet-calls-speak}
use Rattle.scripted_pasts.specs.BehindScripts.{StandsForScript}
use Rattle.scripted_pasts.specs.Performed.{HasPerformed, Performs, every_of}
use Rattle.scripted_pasts.specs.PlayedScripts.{AreKnownFiles, FileClaim, HasPlayedScript}
use Rattle.scripted_pasts.specs.QuietCalls.{LeavesQuietly}
use Rattle.scripted_pasts.specs.ScriptClaims.{IsRunOfScripts, OpensForScripts}

-- ---- files

files-more : (IsFile : FileClaim) (before after : ℕ → LoadedFile) (sentence : Sentence) (said : Reply) (n : ℕ)
    (script : List Sentence) (replies : List Reply)
    → ((number : ℕ) → n ≤ number → number < n + length script → after number ≡ before number)
    → IsFile (n + length script) sentence said (after (n + length script))
    → AllZip (λ p said. IsFile p.0 p.1 said (before p.0)) (enumerate_from n script) replies
    → AllZip (λ p said. IsFile p.0 p.1 said (after p.0)) (enumerate_from n (script ++ sentence ∷ []))
    (replies ++ said ∷ [])
files-more IsFile before after sentence said n [] [] same last are =
    let here : n + 0 ≡ n = omega arith in (coe 0 1 (i. IsFile (here i) sentence said (after (here i))) last, tt)
files-more IsFile before after sentence said n [] (x ∷ replies) same last are = absurd are
files-more IsFile before after sentence said n (s ∷ script) [] same last are = absurd are
files-more IsFile before after sentence said n (s ∷ script) (x ∷ replies) same last are =
    let count : n + length (s ∷ script) ≡ n + 1 + length script = omega arith in (
      subst (λ (file : LoadedFile). IsFile n s x file) (sym (same n (omega arith) (omega arith))) are.0,
      files-more IsFile before after sentence said (n + 1) script replies
          (λ number low high. same number (omega (arith, low)) (omega (arith, high)))
          (coe 0 1 (i. IsFile (count i) sentence said (after (count i))) last) are.1,
    )

module _ {S : Type 0} (fits : Opening → ℕ → ShardCall → Type 0) (stands : Opening → ℕ → ℕ → S → ShardView → Type 0)
    (says : CoreJob → ShardAnswer → JobOutcome → Type 0) (cells : List (CoreCell S)) (caller : ℕ) where
  abbrev For : ℕ → ℕ → List CoreEntry → CorePast → SessionState → Type 0
  For session every own past state = StandsForScript fits stands says cells caller session own every past state

  abbrev Plays : ℕ → ℕ → List Sentence → CorePast → List Reply → SessionState → Type 0
  Plays session every script past replies state =
      IsPlayed (GoesOn fits stands says cells caller session (IsRunOfScripts every)) session script past replies state

  -- ---- from nothing

  pub nothing-for-script : (session every : ℕ) → For session every [] nothing_behind fresh_session
  nothing-for-script session every = record {
    stands_there = record {
      turn = tt;
      begins = ([], refl);
      leaves = none-left fits stands says cells caller session;
    };
    posts = nothing-posted fits stands says cells caller session (OpensForScripts every);
    names = nothing-named fits stands says cells caller session (OpensForScripts every);
    speaks = no-calls-speak fits stands says cells caller session [];
  }

  pub none-played : (IsFile : FileClaim) (session : CoreSession) → state_of_session session None ≡ fresh_session
      → session.statements ≡ 0
      → HasPlayedScript fits stands says cells caller IsFile session None [] [] []
  none-played IsFile session fresh none = record {
    past = nothing_behind;
    sentences = refl;
    counted = none;
    stands_there =
        coe 1 0 (i. For session.number (every_of session) [] nothing_behind (fresh i))
        (nothing-for-script session.number (every_of session));
    played =
        coe 1 0 (i. Plays session.number (every_of session) [] nothing_behind [] (fresh i))
        (nothing_played (GoesOn fits stands says cells caller session.number (IsRunOfScripts (every_of session)))
        session.number nothing_behind);
    files = tt;
  }

  -- ---- one statement more

  performed-plays : (session every : ℕ) (IsFile : LoadedFile → Type 0) (past : CorePast) (state next : SessionState)
      (sentence : Sentence) (own now : List CoreEntry) (said : Reply) (replies : List Reply)
      → For session every own past state → Plays session every past.sentences past replies state
      → (p : HasPerformed fits stands says cells caller session every IsFile past state sentence own now next said)
      → Plays session every p.after.sentences p.after (replies ++ said ∷ []) next
  performed-plays session every IsFile past state next sentence own now said replies b played p =
      let goes_on = GoesOn fits stands says cells caller session (IsRunOfScripts every) in
      let done : IsExecuted goes_on session (length past.sentences + 1) state sentence past p.after said next =
      subst (λ (s : SessionState). IsExecuted goes_on session (length past.sentences + 1) state sentence past p.after
      said s) (sym p.becomes)
      (executed fits stands says cells caller session (IsRunOfScripts every) past p.after state sentence p.added said
      b.stands_there.turn p.more p.answers)
      in
      coe 1 0 (i. Plays session every (p.more.sentences i) p.after (replies ++ said ∷ []) next)
      (one_more_played goes_on session past.sentences sentence past p.after replies said state next played done)

  performed-files : (session every : ℕ) (IsFile : FileClaim) (past : CorePast) (state next : SessionState)
      (script : List Sentence) (sentence : Sentence) (own now : List CoreEntry) (said : Reply) (replies : List Reply)
      → past.sentences ≡ script
      → (p : HasPerformed fits stands says cells caller session every (IsFile (length script + 1) sentence said) past
      state sentence own now next said)
      → AreKnownFiles IsFile script replies past.files
      → AreKnownFiles IsFile (script ++ sentence ∷ []) (replies ++ said ∷ []) p.after.files
  performed-files session every IsFile past state next script sentence own now said replies is p files =
      let count : length past.sentences ≡ length script = ap (λ (ss : List Sentence). length ss) is in
      let first : length script + 1 ≡ 1 + length script = omega arith in
      let last : last_number p.after ≡ 1 + length script =
      longer-by-one past p.after sentence p.added p.more ∙ ap (λ (n : ℕ). n + 1) count ∙ first
      in
      files-more IsFile past.files p.after.files sentence said 1 script replies
      (λ number low high. p.more.files number (low, omega (arith, high, count)))
      (coe 0 1 (i. IsFile (first i) sentence said (p.after.files (last i))) p.file) files

  pub one-more-played : (IsFile : FileClaim) (old new : CoreSession) (watch kept : Option KeptWatch)
      (own now : List CoreEntry) (script : List Sentence) (replies : List Reply) (sentence : Sentence) (said : Reply)
      → HasOneMore old new
      → HasPlayedScript fits stands says cells caller IsFile old watch own script replies
      → Performs fits stands says cells caller (IsFile (length script + 1) sentence said) sentence old watch own new
      kept now said
      → HasPlayedScript fits stands says cells caller IsFile new kept now (script ++ sentence ∷ [])
      (replies ++ said ∷ [])
  one-more-played IsFile old new watch kept own now script replies sentence said m h performs =
      let before = state_of_session old watch in
      let next = state_of_session new kept in
      let p :
      HasPerformed fits stands says cells caller old.number (every_of old) (IsFile (length script + 1) sentence said)
      h.past before sentence own now next said =
      performs h.past h.stands_there h.counted
      in
      let every : every_of new ≡ every_of old = ap (λ (e : Option ℕ). unwrap_or e 0) m.every in
      record {
        past = p.after;
        sentences = p.more.sentences ∙ ap (λ (ss : List Sentence). ss ++ sentence ∷ []) h.sentences;
        counted =
            m.statements
            ∙ ap (λ (n : ℕ). n + 1) h.counted
            ∙ sym (longer-by-one h.past p.after sentence p.added p.more);
        stands_there = coe 1 0 (i. For (m.number i) (every i) now p.after next) p.stands_then;
        played =
            coe 1 0 (i. Plays (m.number i) (every i) p.after.sentences p.after (replies ++ said ∷ []) next)
            (performed-plays old.number (every_of old) (IsFile (length script + 1) sentence said) h.past before next
            sentence own now said replies h.stands_there h.played p);
        files =
            performed-files old.number (every_of old) IsFile h.past before next script sentence own now said replies
            h.sentences p h.files;
      }

  -- What is so of each file of which something is known is known of the file.
  pub performs-as : (Is Are : LoadedFile → Type 0) (old new : CoreSession) (watch kept : Option KeptWatch)
      (own now : List CoreEntry) (sentence : Sentence) (said : Reply) → ((file : LoadedFile) → Is file → Are file)
      → Performs fits stands says cells caller Is sentence old watch own new kept now said
      → Performs fits stands says cells caller Are sentence old watch own new kept now said
  performs-as Is Are old new watch kept own now sentence said are performs past b counted =
      let p :
      HasPerformed fits stands says cells caller old.number (every_of old) Is past (state_of_session old watch)
      sentence own now (state_of_session new kept) said =
      performs past b counted
      in
      record {
        after = p.after;
        added = p.added;
        more = p.more;
        becomes = p.becomes;
        goes_on = p.goes_on;
        stands_then = p.stands_then;
        file = are (p.after.files (last_number p.after)) p.file;
        answers = p.answers;
      }

  -- ---- quiet calls

  pub quiet-for-script : (session every : ℕ) (past : CorePast) (state : SessionState) (own now : List CoreEntry)
      → LeavesQuietly fits stands says cells caller session own now []
      → For session every own past state → For session every now past state
  quiet-for-script session every past state own now left b = record {
    stands_there = record {
      turn = b.stands_there.turn;
      begins = longer-front past.own own now b.stands_there.begins left.more;
      leaves =
          subst (λ (es : List JournalEntry). OwnCallsLeave fits stands says cells caller session now es)
          (append-nil past.entries) (left.entries past.entries b.stands_there.leaves);
    };
    posts =
        with-calls fits stands says cells caller session (OpensForScripts every) past own now state left.more
        (quiet-learns fits stands says cells caller session own now left.calls) b.posts;
    names =
        names-with-calls fits stands says cells caller session (OpensForScripts every) past own now left.more
        (quiet-asks fits stands says cells caller session own now left.calls) b.names;
    speaks = quiet-calls-speak fits stands says cells caller session past.sentences own now left.more left.calls
        b.speaks;
  }

  pub played-stays : (IsFile : FileClaim) (session : CoreSession) (watch : Option KeptWatch) (own now : List CoreEntry)
      (script : List Sentence) (replies : List Reply)
      → LeavesQuietly fits stands says cells caller session.number own now []
      → HasPlayedScript fits stands says cells caller IsFile session watch own script replies
      → HasPlayedScript fits stands says cells caller IsFile session watch now script replies
  played-stays IsFile session watch own now script replies left h = record {
    past = h.past;
    sentences = h.sentences;
    counted = h.counted;
    stands_there =
        quiet-for-script session.number (every_of session) h.past (state_of_session session watch) own now left
        h.stands_there;
    played = h.played;
    files = h.files;
  }
