-- What the answers of shards to a round have of each brick.
use Rattle.std.proofs.Common.{◌≡◌, ℕ, ◌%◌, ◌==◌, Bool, true, false, List, [], ◌∷◌, refl, sym, eqb-true, if◌then◌else◌}
use Rattle.std.specs.List.{Contains}
use Rattle.std.proofs.lemmas.List.Elements.{All-contains, All-from_recursion, All-nil, All-weaker, recursion_from_All}
use Rattle.core_serial.specs.Copies.{HasCopied, copies_by, copy_in}
use Rattle.core_serial.proofs.FetchedAnswers.{AnswersFit, run-answers}
use Rattle.core_events.specs.Cells.{shard_view_of, Took, worker_of}
use Rattle.core_events.specs.Clients.{client_state, ends_group}
use Rattle.core_events.specs.Events.{Opening, flusher, ClientCall, WorkerMove, CoreEvent, By, At}
use Rattle.core_events.specs.Fitting.{FlushSays, round_progress}
use Rattle.core_events.specs.Groups.{GroupKind, NoGroup, Puts, Drops, Asks, Compares, RollsBack, Purges, Copies, Flushes, Received, kind_of}
use Rattle.core_events.specs.Jobs.{CoreJob, Append, DropBox, Scan, Delta, Rollback, Purge, CopyRound, Flush, JobOutcome, Done, ShardFull, Found, Compared, Copied, StoreLost, OutOfMemory}
use Rattle.core_events.specs.Runs.{IsCoreRun, ShardSays}
use Rattle.core_events.specs.ShardView.{BrickEntry, rows_appended}
use Rattle.core_events.proofs.RoundEntries.{IsOfRound}
use Rattle.copied_rows.specs.CopiedRows.{IsPlacedRow, IsCopiedBrick, KeptAreCubeRows}
use Rattle.copied_rows.proofs.ShardRows.{rows-later, shard-rows}

nothing : (o : Opening) (es : List CoreEvent) (from to cube brick : ℕ) → IsCopiedBrick o es from to cube brick []
nothing o es from to cube brick = record {
  epochs = All-nil (IsOfRound from to);
  rows = All-nil (IsPlacedRow o es cube brick);
  others = λ past. refl;
}

copy-later : (o : Opening) (es : List CoreEvent) (e : CoreEvent) (from to cube brick : ℕ) (copy : List BrickEntry)
    → IsCopiedBrick o es from to cube brick copy → IsCopiedBrick o (e ∷ es) from to cube brick copy
copy-later o es e from to cube brick copy f = record {
  epochs = f.epochs;
  rows = All-from_recursion (IsPlacedRow o (e ∷ es) cube brick) (rows_appended copy)
      (rows-later o es cube brick e (rows_appended copy) (recursion_from_All (IsPlacedRow o es cube brick) (rows_appended copy) f.rows));
  others = f.others;
}

-- What is claimed of an answer, by what its group does.
abbrev KindClaim : Opening → List CoreEvent → ℕ → GroupKind → JobOutcome → Type 0
KindClaim o es mail (Copies from to) answer = KeptAreCubeRows o → (cube brick : ℕ) → brick % o.shards ≡ mail
    → IsCopiedBrick o es from to cube brick (copy_in answer cube brick)
KindClaim o es mail kind answer = Unit {0}

abbrev CopyClaim : Opening → List CoreEvent → ℕ → ℕ → CoreJob → JobOutcome → Type 0
CopyClaim o es a mail job answer = KindClaim o es mail (kind_of job) answer

kind-later : (o : Opening) (es : List CoreEvent) (e : CoreEvent) (mail : ℕ) (kind : GroupKind) (answer : JobOutcome) → KindClaim o es mail kind answer
    → KindClaim o (e ∷ es) mail kind answer
kind-later o es e mail (Copies from to) answer f = λ kept cube brick here.
    copy-later o es e from to cube brick (copy_in answer cube brick) (f kept cube brick here)
kind-later o es e mail NoGroup answer f = tt
kind-later o es e mail Puts answer f = tt
kind-later o es e mail (Drops cube box) answer f = tt
kind-later o es e mail (Asks query snapshot) answer f = tt
kind-later o es e mail (Compares query from to) answer f = tt
kind-later o es e mail RollsBack answer f = tt
kind-later o es e mail (Purges epoch) answer f = tt
kind-later o es e mail Flushes answer f = tt

copy-given : (o : Opening) (es : List CoreEvent) (a mail : ℕ) (job : CoreJob) (answer : JobOutcome) → IsCoreRun o es
    → ShardSays o mail (shard_view_of o es) job answer → CopyClaim o es a mail job answer
copy-given o es a mail (Append cube epoch rows) answer run says = tt
copy-given o es a mail (DropBox cube epoch box) answer run says = tt
copy-given o es a mail (Scan query snapshot) answer run says = tt
copy-given o es a mail (Delta query from to) answer run says = tt
copy-given o es a mail (Rollback epoch) answer run says = tt
copy-given o es a mail (Purge epoch) answer run says = tt
copy-given o es a mail (CopyRound from to) (Copied copy) run says = λ kept cube brick here.
    let entries = shard_view_of o es cube brick in
    let said = says.own cube brick here in record {
      epochs = said.epochs;
      rows = All-weaker (Contains (rows_appended entries)) (IsPlacedRow o es cube brick)
          (λ row among. All-contains (IsPlacedRow o es cube brick) (rows_appended entries) row (shard-rows o es cube brick run kept) among)
          (rows_appended (copy cube brick)) said.rows;
      others = says.others cube brick;
    }
copy-given o es a mail (CopyRound from to) Done run says = λ kept cube brick here. nothing o es from to cube brick
copy-given o es a mail (CopyRound from to) (ShardFull rows) run says = λ kept cube brick here. nothing o es from to cube brick
copy-given o es a mail (CopyRound from to) (Found rows) run says = λ kept cube brick here. nothing o es from to cube brick
copy-given o es a mail (CopyRound from to) (Compared came went) run says = λ kept cube brick here. nothing o es from to cube brick
copy-given o es a mail (CopyRound from to) StoreLost run says = λ kept cube brick here. nothing o es from to cube brick
copy-given o es a mail (CopyRound from to) OutOfMemory run says = λ kept cube brick here. nothing o es from to cube brick
copy-given o es a mail Flush answer run says = tt

copy-flushed : (o : Opening) (es : List CoreEvent) (a mail : ℕ) (said : JobOutcome) → IsCoreRun o es → worker_of mail es ≡ Took a Flush
    → FlushSays (round_progress o es) (client_state o (flusher o) es).store_lost said → CopyClaim o es a mail Flush said
copy-flushed o es a mail said run took says = tt

copy-call : (o : Opening) (es : List CoreEvent) (a b mail : ℕ) (call : ClientCall) (job : CoreJob) (answer : JobOutcome)
    → IsCoreRun o (By b call ∷ es) → kind_of job ≡ (client_state o a es).group.kind → (b ≡ a → ends_group call ≡ false)
    → CopyClaim o es a mail job answer → CopyClaim o (By b call ∷ es) a mail job answer
copy-call o es a b mail call job answer run kind goes f = kind-later o es (By b call) mail (kind_of job) answer f

copy-move : (o : Opening) (es : List CoreEvent) (a other mail : ℕ) (move : WorkerMove) (job : CoreJob) (answer : JobOutcome)
    → IsCoreRun o (At other move ∷ es) → kind_of job ≡ (client_state o a es).group.kind
    → CopyClaim o es a mail job answer → CopyClaim o (At other move ∷ es) a mail job answer
copy-move o es a other mail move job answer run kind f = kind-later o es (At other move) mail (kind_of job) answer f

-- The answers of all shards.

answers-copies : (o : Opening) (es : List CoreEvent) (a from to cube brick : ℕ) (answers : List Received) → KeptAreCubeRows o
    → AnswersFit CopyClaim copy-given copy-flushed copy-call copy-move o es a (Copies from to) answers
    → IsCopiedBrick o es from to cube brick (copies_by o answers cube brick)
answers-copies o es a from to cube brick [] kept f = nothing o es from to cube brick
answers-copies o es a from to cube brick (r ∷ older) kept f = at (r.mail == brick % o.shards) refl (answers-copies o es a from to cube brick older kept f.1)
  where
    at : (here : Bool) → (r.mail == brick % o.shards) ≡ here → IsCopiedBrick o es from to cube brick (copies_by o older cube brick)
        → IsCopiedBrick o es from to cube brick (if here then copy_in r.answer cube brick else copies_by o older cube brick)
    at true is rest =
        let claim = coe 0 1 (i. KindClaim o es r.mail (f.0.of_kind i) r.answer) f.0.claim in
        claim kept cube brick (sym (eqb-true r.mail (brick % o.shards) is))
    at false is rest = rest

pub copied-bricks : (o : Opening) (es : List CoreEvent) (a from to cube brick : ℕ) → IsCoreRun o es → KeptAreCubeRows o
    → HasCopied o.shards from to (client_state o a es).group
    → IsCopiedBrick o es from to cube brick (copies_by o (client_state o a es).group.answers cube brick)
copied-bricks o es a from to cube brick run kept h =
    let g = (client_state o a es).group in
    answers-copies o es a from to cube brick g.answers kept
    (coe 0 1 (i. AnswersFit CopyClaim copy-given copy-flushed copy-call copy-move o es a (h.copies i) g.answers)
    (run-answers CopyClaim copy-given copy-flushed copy-call copy-move o es a run))
