-- What is on record of a run decides its text.
use Rattle.std.proofs.Common.{◌≡◌, ℕ, List, [], ◌∷◌, refl, ap, sym, ◌∙◌}
use Rattle.std.specs.List.{AllZip, AllByRecursion, enumerate_from}
use Rattle.cube_journal.specs.declared.reply.Reply.{Reply}
use Rattle.cube_journal.specs.WholeText.{whole_text}
use Rattle.cube_run.specs.Merge.{HasOutcome, IsMerge, SessionMerges}
use Rattle.cube_run.specs.RunRecords.{RunRecord, Sentence}
use Rattle.cube_run.specs.RunText.{IsReply, AreSessionReplies, IsText, reply_of}
use Rattle.cube_run.specs.SessionSteps.{SessionStep, steps_of}
use Rattle.cube_run.proofs.OneOutcome.{one-outcome}

-- Lists that stand in a relation to one list, of which each item has one partner at most, are one.
one-zip : {A B : Type 0} (R : A → B → Type 0) → ((x : A) (y z : B) → R x y → R x z → y ≡ z) → (xs : List A)
    (ys zs : List B) → AllZip R xs ys → AllZip R xs zs → ys ≡ zs
one-zip R one [] [] [] p q = refl
one-zip R one [] (y ∷ ys) zs p q = absurd p
one-zip R one [] [] (z ∷ zs) p q = absurd q
one-zip R one (x ∷ xs) [] zs p q = absurd p
one-zip R one (x ∷ xs) (y ∷ ys) [] p q = absurd q
one-zip R one (x ∷ xs) (y ∷ ys) (z ∷ zs) p q =
    ap (λ (w : _). w ∷ ys) (one x y z p.0 q.0) ∙ ap (λ (ws : _). z ∷ ws) (one-zip R one xs ys zs p.1 q.1)

one-reply : (run : RunRecord) (step : SessionStep) (a b : Reply) → IsReply run step a → IsReply run step b → a ≡ b
one-reply run step a b p q =
    p.is ∙ (ap (reply_of run step step.sentence) (one-outcome run step p.outcome q.outcome p.ends q.ends) ∙ sym q.is)

one-session : (run : RunRecord) (s : ℕ × List Sentence) (a b : List Reply) → AreSessionReplies run s a
    → AreSessionReplies run s b → a ≡ b
one-session run s a b p q = one-zip (IsReply run) (one-reply run) (steps_of run s.0 s.1) a b p q

pub one-text : (run : RunRecord) (a b : List ℕ) → IsText run a → IsText run b → a ≡ b
one-text run a b p q =
    let same =
    one-zip (AreSessionReplies run) (one-session run) (enumerate_from 1 run.scripts) p.replies q.replies p.answers
    q.answers
    in
    p.whole ∙ (ap (λ (replies : List (List Reply)). whole_text run.safe replies run.journal) same ∙ sym q.whole)

-- Of items that each have a partner there is the list of partners.
some-zip : {A B : Type 0} (R : A → B → Type 0) (P : A → Type 0) → ((x : A) → P x → (y : B) × R x y) → (xs : List A)
    → AllByRecursion P xs → (ys : List B) × AllZip R xs ys
some-zip R P some [] p = ([], tt)
some-zip R P some (x ∷ xs) p =
    let first = some x p.0 in
    let rest = some-zip R P some xs p.1 in
    (first.0 ∷ rest.0, (first.1, rest.1))

some-reply : (run : RunRecord) (step : SessionStep) → HasOutcome run step → (said : Reply) × IsReply run step said
some-reply run step e =
    (reply_of run step step.sentence e.0, record { outcome = e.0; ends = e.1; is = refl })

some-session : (run : RunRecord) (s : ℕ × List Sentence) → SessionMerges run s.0 s.1
    → (replies : List Reply) × AreSessionReplies run s replies
some-session run s m = some-zip (IsReply run) (HasOutcome run) (some-reply run) (steps_of run s.0 s.1) m.statements

pub some-text : (run : RunRecord) → IsMerge run → (text : List ℕ) × IsText run text
some-text run m =
    let all =
    some-zip (AreSessionReplies run) (λ s. SessionMerges run s.0 s.1) (some-session run)
    (enumerate_from 1 run.scripts) m.sessions
    in
    (whole_text run.safe all.0 run.journal, record { replies = all.0; answers = all.1; whole = refl })
