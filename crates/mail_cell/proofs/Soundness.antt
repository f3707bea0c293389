-- A mail stays sound where its posted jobs and one place change together.
use Rattle.std.proofs.Common.{◌≡◌, ◌≢◌, ℕ, ◌+◌, ◌<◌, ◌≤◌, Bool, List, [], ◌∷◌, ◌++◌, length, set, get_or, inl, inr, refl, sym, ◌∙◌, ap, cond, ◌==◌, arith, length-set, get_or-set_same, get_or-set_other}
use Rattle.std.specs.List.{sum_by}
use Rattle.std.proofs.lemmas.List.{get_or_past, length_push, set-get_or}
use Rattle.std.proofs.lemmas.List.Sums.{sum_by-cons, sum_by_push, sum_by-set}
use Rattle.std.proofs.lemmas.Bool.{cases_eq, cases_lt}
use Rattle.std.proofs.lemmas.Bool.Decides.{nat_tests}
use Rattle.mail_cell.specs.declared.place.Post.{Post}
use Rattle.mail_cell.specs.declared.place.Place.{Place}
use Rattle.mail_cell.specs.declared.place.Place.TheVariants.{Idle, Waiting, Out, Answered}
use Rattle.mail_cell.specs.State.{mail_state, jobs_of, jobs_at, IsSound}

-- Only with Waiting goes a posted job.
pub waits : {A : Type 0} (place : Place A) → 0 < jobs_at place → place ≡ Waiting
waits Waiting some = refl
waits Idle some = absurd (omega arith)
waits Out some = absurd (omega arith)
waits (Answered answer) some = absurd (omega arith)

-- With no place go two.
one_at_most : {A : Type 0} (place : Place A) → jobs_at place ≤ 1
one_at_most Waiting = omega arith
one_at_most Idle = omega arith
one_at_most Out = omega arith
one_at_most (Answered answer) = omega arith

-- So the posted jobs are no more than the places.
jobs_fit : {A : Type 0} → (places : List (Place A)) → sum_by jobs_at places ≤ length places
jobs_fit [] = omega arith
jobs_fit (place ∷ places) = rw (sum_by-cons jobs_at place places) (omega (arith, one_at_most place, jobs_fit places))

module _ {J A : Type 0} (posted : List (Post J)) (places : List (Place A)) (closed : Bool) (sound : IsSound (mail_state posted places closed)) where
  -- Where a client's place is written, the jobs of the others stay, and those of the client are what goes with its new place.
  pub sound_with : (next : List (Post J)) (client : ℕ) (place : Place A) → client < length places
      → ((other : ℕ) → other ≢ client → jobs_of other next ≡ jobs_of other posted)
      → jobs_of client next ≡ jobs_at place
      → length next + jobs_at (get_or places client Idle) ≡ length posted + jobs_at place
      → IsSound (mail_state next (set places client place) closed)
  sound_with next client place known others own total = record {
    one_each = λ other. elim (cases_eq other client) [
      | inl same ↦ rw same (own ∙ ap jobs_at (sym (get_or-set_same places client place Idle known)))
      | inr differs ↦ others other differs ∙ sound.one_each other ∙ ap jobs_at (sym (get_or-set_other places client other place Idle differs))
    ];
    no_other = let written = sum_by-set jobs_at places client place Idle known in let before = sound.no_other in omega arith;
  }

  -- A client that has nothing leaves room for a job.
  pub has_room : (client : ℕ) → client < length places → get_or places client Idle ≡ Idle → length posted < length places
  has_room client known idle =
      let written = sum_by-set jobs_at places client Waiting Idle known in
      let was = ap jobs_at idle in
      let fit = jobs_fit (set places client Waiting) in
      let same = length-set places client Waiting in
      let before = sound.no_other in
      omega arith

  -- It stays sound when a client that has nothing posts.
  pub sound_posted : (client : ℕ) (job : J) → client < length places → get_or places client Idle ≡ Idle
      → IsSound (mail_state (posted ++ record { client = client; job = job } ∷ []) (set places client Waiting) closed)
  sound_posted client job known idle =
      let before = sound.one_each client in
      let was = ap jobs_at idle in
      let more = λ (other : ℕ). sum_by_push (λ post. cond (post.client == other) 1 0) posted (record { client = client; job = job }) in
      sound_with _ client Waiting known
      (λ other differs. grind (arith, nat_tests, more other))
      (grind (arith, nat_tests, more client))
      (let longer = length_push posted (record { client = client; job = job }) in omega arith)

  -- It stays sound when an answer is fetched.
  pub sound_fetched : (client : ℕ) (answer : A) → client < length places → get_or places client Idle ≡ Answered answer
      → IsSound (mail_state posted (set places client Idle) closed)
  sound_fetched client answer known held =
      let before = ap jobs_at held in
      sound_with posted client Idle known (λ other differs. refl) (sound.one_each client ∙ before) (omega arith)

  -- It stays sound when a place is written as it was.
  pub sound_same : (client : ℕ) (place : Place A) → place ≡ get_or places client Idle → IsSound (mail_state posted (set places client place) closed)
  sound_same client place same = rw same (rw (set-get_or places client Idle) sound)

module _ {J A : Type 0} (post : Post J) (rest : List (Post J)) (places : List (Place A)) (closed : Bool) (sound : IsSound (mail_state (post ∷ rest) places closed)) where
  -- A client's jobs are those of the rest, and one more where the oldest is its own.
  one_more : (client : ℕ) → jobs_of client (post ∷ rest) ≡ cond (post.client == client) 1 0 + jobs_of client rest
  one_more client = sum_by-cons (λ p. cond (p.client == client) 1 0) post rest

  -- The place of the oldest job's client is Waiting.
  pub oldest_waits : get_or places post.client Idle ≡ Waiting
  oldest_waits = waits _ (let before = sound.one_each post.client in grind (arith, nat_tests, one_more post.client))

  -- That client is one of the mail's.
  pub oldest_known : post.client < length places
  oldest_known = elim (cases_lt post.client (length places)) [
    | inl known ↦ known
    | inr past ↦ let outside = get_or_past places post.client Idle past in let waiting = oldest_waits in cc
  ]

  -- It stays sound when the oldest job is taken.
  pub sound_taken : IsSound (mail_state rest (set places post.client Out) closed)
  sound_taken =
      let was = ap jobs_at oldest_waits in
      let before = sound.one_each post.client in
      sound_with (post ∷ rest) places closed sound rest post.client Out oldest_known
      (λ other differs. grind (arith, nat_tests, one_more other))
      (grind (arith, nat_tests, one_more post.client))
      (omega arith)
