-- The outcomes of the shards' copies, one after the other.
use Rattle.std.proofs.Common.{◌≡◌, ◌∙◌, ℕ, zero, suc, ◌+◌, ◌%◌, ◌<◌, ◌≤◌, ◌||◌, Bool, false, List, [], ◌∷◌, length, map, replicate, get_or, slice_get, slice_index_or, All, Some, if◌then◌else◌, refl, sym, ap, arith, eq-eqb, ne_eqb}
use Rattle.std.specs.List.{list_any}
use Rattle.std.proofs.lemmas.Nat.{mod_below}
use Rattle.std.proofs.lemmas.Option.{none-some, same_Some, slice_get_within}
use Rattle.cube_core.specs.BoardCells.{AnswerSays, call_job}
use Rattle.core_serial.specs.Copies.{copies_by, copy_in}
use Rattle.core_events.specs.Events.{Opening}
use Rattle.core_events.specs.Groups.{Received, kind_of}
use Rattle.core_events.specs.Jobs.{CopyRound, Copied, JobOutcome, is_refusal}
use Rattle.cube_core.specs.declared.jobs.JobAnswer.{JobAnswer}
use Rattle.cube_core.specs.declared.shard.ShardCall.{ShardCall}
use Rattle.cube_core.specs.declared.shard.ShardCall.TheVariants as call
use Rattle.job_groups.specs.AskedEach.{AreOfOneKind, StandForEach, kind_of_calls, received}
use Rattle.joined_copies.specs.JoinedCopies.{ShardCopy}
use Rattle.linked_shards.specs.CellShards.{CoreShardStands}
use Rattle.round_copies.specs.CopyAnswers.{copy_answer}
use Rattle.round_copies.specs.RoundCopies.{IsSoundCopy}
use Rattle.shard_events.specs.ShardsInRuns.{FitsShard, ShardAnswerSays, view_of_copies}

-- The same call for each shard.

pub get-same : (n k : ℕ) (c d : ShardCall) → slice_get (replicate n c) k ≡ Some d → c ≡ d
get-same zero k c d is = absurd (none-some d is)
get-same (suc n) zero c d is = same_Some c d is
get-same (suc n) (suc k) c d is = get-same n k c d is

there-same : (n k : ℕ) (c : ShardCall) → k < n → slice_get (replicate n c) k ≡ Some c
there-same zero k c low = absurd (omega (arith, low))
there-same (suc n) zero c low = refl
there-same (suc n) (suc k) c low = there-same n k c (omega (arith, low))

pub kind-same : (n : ℕ) (c : ShardCall) → 1 ≤ n → kind_of_calls (replicate n c) ≡ kind_of (call_job c)
kind-same zero c some = absurd (omega (arith, some))
kind-same (suc n) c some = refl

pub one-kind : (n : ℕ) (c : ShardCall) → AreOfOneKind (replicate n c)
one-kind zero c number d is = absurd (none-some d is)
one-kind (suc n) c number d is = ap (λ (x : ShardCall). kind_of (call_job x)) (sym (get-same (suc n) number c d is))

-- Items by their places.

pub get-mapped : {X Y : Type 0} (f : X → Y) (xs : List X) (k : ℕ) (x : X) → slice_get xs k ≡ Some x → slice_get (map f xs) k ≡ Some (f x)
get-mapped f [] k x is = absurd (none-some x is)
get-mapped f (y ∷ xs) zero x is = ap (λ z. Some (f z)) (same_Some y x is)
get-mapped f (y ∷ xs) (suc k) x is = get-mapped f xs k x is

get-there : {X : Type 0} (xs : List X) (k : ℕ) → k < length xs → (x : X) × (slice_get xs k ≡ Some x)
get-there [] k low = absurd (omega (arith, low))
get-there (x ∷ xs) zero low = (x, refl)
get-there (x ∷ xs) (suc k) low = get-there xs k (omega (arith, low))

index-there : {X : Type 0} (xs : List X) (k : ℕ) (d : X) → k < length xs → slice_get xs k ≡ Some (slice_index_or xs k d)
index-there [] k d low = absurd (omega (arith, low))
index-there (x ∷ xs) zero d low = refl
index-there (x ∷ xs) (suc k) d low = index-there xs k d (omega (arith, low))

get-or-there : {X : Type 0} (xs : List X) (k : ℕ) (x d : X) → slice_get xs k ≡ Some x → get_or xs k d ≡ x
get-or-there [] k x d is = absurd (none-some x is)
get-or-there (y ∷ xs) zero x d is = same_Some y x is
get-or-there (y ∷ xs) (suc k) x d is = get-or-there xs k x d is

-- What an answer that is a copy stands for.

copy-said : (from to : ℕ) (copy : ShardCopy) (outcome : JobOutcome) → AnswerSays ShardAnswerSays (CopyRound from to) (copy_answer copy) outcome
    → (cube brick : ℕ) → copy_in outcome cube brick ≡ view_of_copies copy cube brick
copy-said from to copy (Copied view) says cube brick = says.same cube brick
copy-said from to copy outcome says cube brick = absurd says

copy-none : (from to : ℕ) (copy : ShardCopy) (outcome : JobOutcome) → AnswerSays ShardAnswerSays (CopyRound from to) (copy_answer copy) outcome
    → is_refusal outcome ≡ false
copy-none from to copy (Copied view) says = refl
copy-none from to copy outcome says = absurd says

copy-sound : (from to : ℕ) (copy : ShardCopy) (outcome : JobOutcome) → AnswerSays ShardAnswerSays (CopyRound from to) (copy_answer copy) outcome
    → IsSoundCopy copy
copy-sound from to copy (Copied view) says = record { rising = says.rising; whole = says.whole }
copy-sound from to copy outcome says = absurd says

none-refused : (outcomes : List JobOutcome)
    → ((k : ℕ) (outcome : JobOutcome) → slice_get outcomes k ≡ Some outcome → is_refusal outcome ≡ false)
    → list_any is_refusal outcomes ≡ false
none-refused [] each = refl
none-refused (outcome ∷ outcomes) each =
    λ i. each 0 outcome refl i || none-refused outcomes (λ k x is. each (suc k) x is) i

-- A brick's copy is that of the outcome of its shard.
module _ (o : Opening) (cube brick : ℕ) where
  passed-over : (outcomes : List JobOutcome) (number : ℕ) (older : List Received) → brick % o.shards < number
      → copies_by o (received number outcomes older) cube brick ≡ copies_by o older cube brick
  passed-over [] number older low = refl
  passed-over (outcome ∷ outcomes) number older low =
      passed-over outcomes (number + 1) (record { mail = number; answer = outcome } ∷ older) (omega (arith, low))
      ∙ ap (λ (b : Bool). if b then copy_in outcome cube brick else copies_by o older cube brick)
      (ne_eqb number (brick % o.shards) (λ same. absurd (omega (arith, same, low))))

  by-place : (outcomes : List JobOutcome) (number behind : ℕ) (older : List Received) (outcome : JobOutcome)
      → slice_get outcomes behind ≡ Some outcome → brick % o.shards ≡ number + behind
      → copies_by o (received number outcomes older) cube brick ≡ copy_in outcome cube brick
  by-place [] number behind older outcome is at = absurd (none-some outcome is)
  by-place (x ∷ outcomes) number zero older outcome is at =
      passed-over outcomes (number + 1) (record { mail = number; answer = x } ∷ older) (omega (arith, at))
      ∙ ap (λ (b : Bool). if b then copy_in x cube brick else copies_by o older cube brick)
      (eq-eqb number (brick % o.shards) (omega (arith, at)))
      ∙ ap (λ (y : JobOutcome). copy_in y cube brick) (same_Some x outcome is)
  by-place (x ∷ outcomes) number (suc behind) older outcome is at =
      by-place outcomes (number + 1) behind (record { mail = number; answer = x } ∷ older) outcome is (omega (arith, at))

-- Answers that are all copies.
module _ (shards from to : ℕ) (copies : List ShardCopy) (answers : List JobAnswer) (outcomes : List JobOutcome)
    (many : length copies ≡ shards) (same : answers ≡ map copy_answer copies) (each : length outcomes ≡ shards)
    (stand : StandForEach FitsShard CoreShardStands ShardAnswerSays (replicate shards (call.CopyRound from to)) answers outcomes) where
  said-at : (k : ℕ) (copy : ShardCopy) (outcome : JobOutcome) → k < shards → slice_get copies k ≡ Some copy
      → slice_get outcomes k ≡ Some outcome → AnswerSays ShardAnswerSays (CopyRound from to) (copy_answer copy) outcome
  said-at k copy outcome low is at =
      stand k (call.CopyRound from to) (copy_answer copy) outcome (there-same shards k (call.CopyRound from to) low)
      (ap (λ (l : List JobAnswer). slice_get l k) same ∙ get-mapped copy_answer copies k copy is) at

  pub all-copied : list_any is_refusal outcomes ≡ false
  all-copied =
      none-refused outcomes
      (λ k outcome at.
      let low = slice_get_within outcomes k outcome at in
      let copy = get-there copies k (omega (arith, low, many, each)) in
      copy-none from to copy.0 outcome (said-at k copy.0 outcome (omega (arith, low, each)) copy.1 at))

  pub all-sound : All IsSoundCopy copies
  all-sound k d low =
      let copy = slice_index_or copies k d in
      let outcome = get-there outcomes k (omega (arith, low, many, each)) in
      copy-sound from to copy outcome.0
      (said-at k copy outcome.0 (omega (arith, low, many)) (index-there copies k d low) outcome.1)

  pub copies-shown : (o : Opening) (cube brick : ℕ) → o.shards ≡ shards → 1 ≤ shards
      → copies_by o (received 0 outcomes []) cube brick ≡ view_of_copies (get_or copies (brick % length copies) []) cube brick
  copies-shown o cube brick of some =
      let j = brick % o.shards in
      let low : j < o.shards = mod_below brick o.shards (omega (arith, of, some)) in
      let outcome = get-there outcomes j (omega (arith, low, each, of)) in
      let copy = get-there copies j (omega (arith, low, many, of)) in
      by-place o cube brick outcomes 0 j [] outcome.0 outcome.1 (omega arith)
      ∙ copy-said from to copy.0 outcome.0 (said-at j copy.0 outcome.0 (omega (arith, low, of)) copy.1 outcome.1) cube brick
      ∙ ap (λ (c : ShardCopy). view_of_copies c cube brick) (sym (get-or-there copies j copy.0 [] copy.1))
      ∙ ap (λ (n : ℕ). view_of_copies (get_or copies (brick % n) []) cube brick) (of ∙ sym many)
