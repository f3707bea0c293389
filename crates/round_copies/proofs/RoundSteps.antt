-- The flusher's states as its copies lead from one to the next.
use Rattle.std.proofs.Common.{◌≡◌, ◌⊎◌, ℕ, ◌+◌, ◌<◌, ◌≤◌, ◌==◌, ◌&&◌, Bool, true, false, max, List, length, Option, Some, None, if◌then◌else◌, inl, inr, refl, sym, subst, arith}
use Rattle.std.specs.Option.{option_map_or}
use Rattle.cube_language.specs.declared.decl.Decl.{Decl}
use Rattle.core_cells.specs.declared.desk.DeskAnswer.TheVariants as answer
use Rattle.core_cells.specs.declared.desk.DeskCall.TheVariants as call
use Rattle.core_cells.specs.declared.names.NamesAnswer.TheVariants as told
use Rattle.core_cells.specs.declared.names.NamesCall.TheVariants as names
use Rattle.core_events.specs.Clients.{ClientState, greater_where}
use Rattle.core_events.specs.Events.{Opening, flusher}
use Rattle.core_events.specs.Groups.{Copies, JobGroup, has_refusal}
use Rattle.cube_core.specs.DeskEvents.{FitsDeskCall}
use Rattle.cube_core.specs.NamesEvents.{FitsNamesCall}
use Rattle.flusher_rounds.proofs.Rounds.{copied, listed, may-list, may-name, named, no-names, refused}
use Rattle.flusher_rounds.specs.RoundStates.{after_names_call}
use Rattle.joined_copies.specs.JoinedCopies.{ShardCopy}
use Rattle.round_copies.specs.RoundCopies.{HasCubes, HasOpened, HasRows, IsToldOf, IsWithin, count_at, first_epoch}
use Rattle.round_copies.specs.declared.span.RoundSpan.{RoundSpan}
use Rattle.cube_core.proofs.Snapshots.{no-memory}
use Rattle.cube_core.specs.GroupEnds.{HasAllAnswers}
use Rattle.cube_core.specs.HoldStates.{after_desk_call}

pub begins-there : (whole : Bool) (from : ℕ) → ((if whole then 0 else from) ≡ from) ⊎ ((if whole then 0 else from) ≡ 0)
begins-there true from = inr refl
begins-there false from = inl refl

-- The rows.

-- Once all shards have answered, the round is open whatever they answered.
pub within-answers : (refuses : Bool) (span : RoundSpan) (o : Opening) (k : ClientState) (g : JobGroup) → has_refusal g.answers ≡ refuses
    → HasOpened span o k → HasAllAnswers o.shards (Copies (first_epoch span) span.epoch) g → IsWithin span o (record k { group = g })
within-answers true span o k g is has all =
    (false, (refused o span.from span.epoch (first_epoch span) k g has all is).has.within)
within-answers false span o k g is has all =
    (false, (copied o span.from span.epoch (first_epoch span) k g has all is).within)

pub told-in-group : (cubes : ℕ) (counts : List (List ℕ)) (k : ClientState) (g : JobGroup) → IsToldOf cubes counts k
    → IsToldOf cubes counts (record k { group = g })
told-in-group cubes counts k g is = record { listed = is.listed; names = is.names }

-- The cubes.

pub record HasRowsAndPlace (span : RoundSpan) (copies : List ShardCopy) (place : ℕ) (counts : List (List ℕ)) (o : Opening)
    (k : ClientState) : Type 0 where
  pub has : HasRows span copies o k
  pub is_told : IsToldOf place counts k

pub may-list-cubes : (span : RoundSpan) (copies : List ShardCopy) (place : ℕ) (counts : List (List ℕ)) (o : Opening) (k : ClientState)
    → HasRowsAndPlace span copies place counts o k → FitsDeskCall o (flusher o) (call.CubesFrom place) k
may-list-cubes span copies place counts o k is =
    may-list o span.from span.epoch (first_epoch span) place false k is.has.copied is.is_told.listed

most : (n m : ℕ) → m ≤ max n m
most n m = omega arith

pub cubes-listed : (span : RoundSpan) (copies : List ShardCopy) (place : ℕ) (counts : List (List ℕ)) (cubes : List Decl) (o : Opening)
    (k : ClientState) → HasRowsAndPlace span copies place counts o k → HasCubes span copies (place + length cubes) counts o
    (after_desk_call o (flusher o) (call.CubesFrom place) (answer.Cubes cubes) k)
cubes-listed span copies place counts cubes o k is = record {
  copied = (listed o span.from span.epoch (first_epoch span) place false cubes k is.has.copied).stands;
  rows = is.has.rows;
  told = record { listed = most k.cubes (place + length cubes); names = is.is_told.names };
}

pub open-with-rows : (span : RoundSpan) (copies : List ShardCopy) (place : ℕ) (counts : List (List ℕ)) (result : Option (List Decl))
    (o : Opening) (k : ClientState) → HasRowsAndPlace span copies place counts o k
    → IsWithin span o (after_desk_call o (flusher o) (call.CubesFrom place) (option_map_or answer.Cubes result answer.NoMemory) k)
open-with-rows span copies place counts (Some cubes) o k is =
    (true, (listed o span.from span.epoch (first_epoch span) place false cubes k is.has.copied).stands.within)
open-with-rows span copies place counts None o k is =
    subst (IsWithin span o) (sym (no-memory o (flusher o) (call.CubesFrom place) k)) (false, is.has.copied.within)

-- The names.

pub may-copy-names : (span : RoundSpan) (copies : List ShardCopy) (cubes : ℕ) (counts : List (List ℕ)) (cube dim number : ℕ)
    → cube < cubes → number ≡ count_at counts cube dim → (o : Opening) (k : ClientState) → HasCubes span copies cubes counts o k
    → FitsNamesCall o (flusher o) (names.CopyFrom cube dim number) k
may-copy-names span copies cubes counts cube dim number low is o k has =
    let there = has.told.listed in
    let begins = has.told.names cube dim in
    may-name o span.from span.epoch (first_epoch span) cube dim number k has.copied (omega (arith, low, there)) (omega (arith, is, begins))

where-more : (here : Bool) (m n : ℕ) → n ≤ greater_where here (Some m) n
where-more true m n = omega arith
where-more false m n = omega arith

at-most : (a b c : ℕ) → a ≤ b → b ≤ c → a ≤ c
at-most a b c first second = omega (arith, first, second)

pub names-copied : (span : RoundSpan) (copies : List ShardCopy) (cubes : ℕ) (counts : List (List ℕ)) (cube dim number : ℕ)
    (result : Option (List (List ℕ))) (o : Opening) (k : ClientState) → HasCubes span copies cubes counts o k
    → HasCubes span copies cubes counts o
    (after_names_call o (names.CopyFrom cube dim number) (option_map_or told.Copied result told.NoMemory) k)
names-copied span copies cubes counts cube dim number (Some list) o k has = record {
  copied = named o span.from span.epoch (first_epoch span) cube dim number list k has.copied;
  rows = has.rows;
  told = record {
    listed = has.told.listed;
    names = λ c d.
        at-most (count_at counts c d) (k.names c d)
        ((after_names_call o (names.CopyFrom cube dim number) (told.Copied list) k).names c d) (has.told.names c d)
        (where-more (cube == c && dim == d) (number + length list) (k.names c d));
  };
}
names-copied span copies cubes counts cube dim number None o k has =
    subst (λ (state : ClientState). HasCubes span copies cubes counts o state)
    (sym (no-names o (names.CopyFrom cube dim number) k)) has
