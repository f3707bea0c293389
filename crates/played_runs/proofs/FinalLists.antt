-- Lists of names and of replies in the end of a run.
use Rattle.std.proofs.Common.{◌≡◌, ℕ, zero, suc, ◌+◌, ◌≤◌, Bool, List, [], ◌∷◌, length, map, slice_get, unwrap_or, refl, ap, arith}
use Rattle.std.specs.List.{AllByRecursion, AllZip, enumerate_from}
use Rattle.cube_values.specs.declared.shape.CubeShape.{CubeShape}
use Rattle.cube_values.specs.declared.shape.Size.{Size}
use Rattle.cube_language.specs.declared.piece.TheConstants.{MOST_STATEMENTS}
use Rattle.cube_journal.specs.declared.reply.Reply.{Reply}
use Rattle.cube_run.specs.FinalNames.{names_at}
use Rattle.cube_run.specs.RunRecords.{RunRecord, Sentence}
use Rattle.cube_run.specs.RunText.{AreReplies, AreSessionReplies, IsReply}
use Rattle.cube_run.specs.SessionStates.{SessionState, fresh_session}
use Rattle.cube_run.specs.SessionSteps.{steps_from, steps_of}
use Rattle.names_dict.specs.Dictionaries.{Dictionary, dictionary_for, dictionary_in, empty_dictionaries, made_dictionaries, names_of}
use Rattle.played_scripts.specs.PlayedRuns.{HasPlayed, HavePlayed}

-- ---- names

names-in : (dims : List Dictionary) (dim : ℕ)
    → (dictionary_in dims dim).names ≡ unwrap_or (slice_get (map (λ (d : Dictionary). d.names) dims) dim) []
names-in [] dim = refl
names-in (d ∷ dims) zero = refl
names-in (d ∷ dims) (suc dim) = names-in dims dim

no-names : (sizes : List Size) (texts : List Bool) (dim : ℕ)
    → (dictionary_in (empty_dictionaries sizes texts) dim).names ≡ []
no-names [] texts dim = refl
no-names (s ∷ sizes) [] dim = refl
no-names (s ∷ sizes) (t ∷ texts) zero = refl
no-names (s ∷ sizes) (t ∷ texts) (suc dim) = no-names sizes texts dim

of-cube : (shape : CubeShape) (dims : List Dictionary) (dim : ℕ)
    → (dictionary_in (made_dictionaries shape dims) dim).names
    ≡ unwrap_or (slice_get (map (λ (d : Dictionary). d.names) dims) dim) []
of-cube shape [] dim = no-names shape.shape.sizes shape.texts dim
of-cube shape (d ∷ dims) dim = names-in (d ∷ dims) dim

-- The names of a dictionary, made or not yet made, are those at its place.
pub names-there : (shape : CubeShape) (cubes : List (List Dictionary)) (cube dim : ℕ)
    → (dictionary_for shape cubes cube dim).names ≡ names_at (names_of cubes) cube dim
names-there shape [] cube dim = of-cube shape [] dim
names-there shape (dims ∷ cubes) zero dim = of-cube shape dims dim
names-there shape (dims ∷ cubes) (suc cube) dim = names-there shape cubes cube dim

-- ---- replies

each-answers : (run : RunRecord) (scripts : List (ℕ × List Sentence)) (replies : List (List Reply))
    → AllZip (λ p said. HasPlayed run p.0 p.1 said) scripts replies → AllZip (AreSessionReplies run) scripts replies
each-answers run [] [] all = tt
each-answers run [] (said ∷ replies) all = absurd all
each-answers run (p ∷ scripts) [] all = absurd all
each-answers run (p ∷ scripts) (said ∷ replies) all = (all.0.answers, each-answers run scripts replies all.1)

-- The replies with which scripts were played are those to their statements.
pub answers-of-played : (run : RunRecord) (replies : List (List Reply)) → HavePlayed run replies
    → AreReplies run replies
answers-of-played run replies played = each-answers run (enumerate_from 1 run.scripts) replies played.sessions

as-many : {X Y : Type 0} (R : X → Y → Type 0) (xs : List X) (ys : List Y) → AllZip R xs ys → length ys ≡ length xs
as-many R [] [] all = refl
as-many R (x ∷ xs) (y ∷ ys) all = ap suc (as-many R xs ys all.1)
as-many R [] (y ∷ ys) all = absurd all
as-many R (x ∷ xs) [] all = absurd all

step-each : (run : RunRecord) (session number : ℕ) (state : SessionState) (script : List Sentence)
    → length (steps_from run session number state script) ≡ length script
step-each run session number state [] = refl
step-each run session number state (s ∷ script) = ap suc (step-each run session (number + 1) _ script)

one-few : (run : RunRecord) (session : ℕ) (script : List Sentence) (said : List Reply)
    → HasPlayed run session script said → length script ≤ MOST_STATEMENTS → length said ≤ MOST_STATEMENTS
one-few run session script said played few =
    let many = as-many (IsReply run) (steps_of run session script) said played.answers in
    let steps = step-each run session 1 fresh_session script in
    omega (arith, many, steps, few)

-- No session has more replies than a script has statements.
pub few-replies : (run : RunRecord) (from : ℕ) (scripts : List (List Sentence)) (replies : List (List Reply))
    → AllZip (λ p said. HasPlayed run p.0 p.1 said) (enumerate_from from scripts) replies
    → AllByRecursion (λ (script : List Sentence). length script ≤ MOST_STATEMENTS) scripts
    → AllByRecursion (λ (said : List Reply). length said ≤ MOST_STATEMENTS) replies
few-replies run from [] [] all few = tt
few-replies run from [] (said ∷ replies) all few = absurd all
few-replies run from (script ∷ scripts) [] all few = absurd all
few-replies run from (script ∷ scripts) (said ∷ replies) all few = (
  one-few run from script said all.0 few.0,
  few-replies run (from + 1) scripts replies all.1 few.1,
)
