-- What the desk and the dictionaries told stands in the flusher's last call.
use Rattle.std.proofs.Common.{◌≡◌, ℕ, ◌+◌, List, [], ◌∷◌, ◌++◌, length, Option, Some, None, sym, subst}
use Rattle.std.specs.Prelude.{IfOk, Result}
use Rattle.std.specs.Option.{ok_or, option_map_or}
use Rattle.core_program.specs.ClientCalls.{desk_entry, names_entry}
use Rattle.core_cells.specs.declared.desk.DeskAnswer.{DeskAnswer}
use Rattle.core_cells.specs.declared.desk.DeskAnswer.TheVariants as answer
use Rattle.core_cells.specs.declared.desk.DeskCall.TheVariants as call
use Rattle.core_cells.specs.declared.names.NamesAnswer.{NamesAnswer}
use Rattle.core_cells.specs.declared.names.NamesAnswer.TheVariants as told
use Rattle.core_cells.specs.declared.names.NamesCall.TheVariants as names
use Rattle.core_program.specs.CoreFits.{CoreEntry}
use Rattle.cube_language.specs.declared.decl.Decl.{Decl}
use Rattle.core_events.specs.Events.{flusher}
use Rattle.core_program.specs.Flushing.{IsFlusherOf}
use Rattle.cube_core.specs.declared.cell.CoreCell.{CoreCell}
use Rattle.joined_copies.specs.JoinedCopies.{ShardCopy}
use Rattle.linked_shards.specs.CellShards.{CoreShardStands}
use Rattle.linked_shards.specs.declared.cell.CoreShard.{CoreShard}
use Rattle.round_copies.proofs.FlusherSteps.{known-by-desk}
use Rattle.round_copies.proofs.RoundSteps.{HasRowsAndPlace, cubes-listed, open-with-rows}
use Rattle.round_copies.specs.RoundCopies.{HasCubes, HasRows, IsToldOf, IsWithin}
use Rattle.round_copies.specs.WithinRounds.{KnowsOfFlusher}
use Rattle.round_copies.specs.declared.span.RoundSpan.{RoundSpan}
use Rattle.cube_core.specs.HoldStates.{after_desk_call}
use Rattle.shard_events.specs.ShardsInRuns.{FitsShard, ShardAnswerSays}

list-found : {E : Type 0} (caller new_caller place : ℕ) (own now : List CoreEntry) (said : DeskAnswer) (found : Option (List Decl))
    (error : E) → new_caller ≡ caller → now ≡ own ++ desk_entry caller (call.CubesFrom place) said ∷ []
    → said ≡ option_map_or answer.Cubes found answer.NoMemory
    → IfOk (ok_or found error) (λ made. now ≡ own ++ desk_entry new_caller (call.CubesFrom place) (answer.Cubes made) ∷ [])
list-found caller new_caller place own now said (Some made) error same is said-is =
    coe 1 0 (i. now ≡ own ++ desk_entry (same i) (call.CubesFrom place) (sym said-is i) ∷ []) is
list-found caller new_caller place own now said None error same is said-is = tt

pub list-there : {E : Type 0} {result : Result (List Decl) E} (error : E) (caller new_caller place : ℕ) (own now : List CoreEntry)
    (said : DeskAnswer) (found : Option (List Decl)) → result ≡ ok_or found error → new_caller ≡ caller
    → now ≡ own ++ desk_entry caller (call.CubesFrom place) said ∷ [] → said ≡ option_map_or answer.Cubes found answer.NoMemory
    → IfOk result (λ made. now ≡ own ++ desk_entry new_caller (call.CubesFrom place) (answer.Cubes made) ∷ [])
list-there error caller new_caller place own now said found ends same is said-is =
    subst (λ r. IfOk r (λ made. now ≡ own ++ desk_entry new_caller (call.CubesFrom place) (answer.Cubes made) ∷ [])) (sym ends)
    (list-found caller new_caller place own now said found error same is said-is)

names-found : {E : Type 0} (caller new_caller cube dim count : ℕ) (own now : List CoreEntry) (said : NamesAnswer)
    (found : Option (List (List ℕ))) (error : E) → new_caller ≡ caller
    → now ≡ own ++ names_entry caller (names.CopyFrom cube dim count) said ∷ []
    → said ≡ option_map_or told.Copied found told.NoMemory
    → IfOk (ok_or found error) (λ list. now ≡ own ++ names_entry new_caller (names.CopyFrom cube dim count) (told.Copied list) ∷ [])
names-found caller new_caller cube dim count own now said (Some list) error same is said-is =
    coe 1 0 (i. now ≡ own ++ names_entry (same i) (names.CopyFrom cube dim count) (sym said-is i) ∷ []) is
names-found caller new_caller cube dim count own now said None error same is said-is = tt

pub names-there : {E : Type 0} {result : Result (List (List ℕ)) E} (error : E) (caller new_caller cube dim count : ℕ)
    (own now : List CoreEntry) (said : NamesAnswer) (found : Option (List (List ℕ))) → result ≡ ok_or found error → new_caller ≡ caller
    → now ≡ own ++ names_entry caller (names.CopyFrom cube dim count) said ∷ []
    → said ≡ option_map_or told.Copied found told.NoMemory
    → IfOk result (λ list. now ≡ own ++ names_entry new_caller (names.CopyFrom cube dim count) (told.Copied list) ∷ [])
names-there error caller new_caller cube dim count own now said found ends same is said-is =
    subst (λ r. IfOk r (λ list. now ≡ own ++ names_entry new_caller (names.CopyFrom cube dim count) (told.Copied list) ∷ [])) (sym ends)
    (names-found caller new_caller cube dim count own now said found error same is said-is)

-- Before the cubes are listed it has the rows of each shard, and was told of so many cubes.
pub both-known : (cells : List (CoreCell CoreShard)) (caller client : ℕ) (own : List CoreEntry) (span : RoundSpan) (place : ℕ)
    (copies : List ShardCopy) (counts : List (List ℕ)) → KnowsOfFlusher cells caller client own (HasRows span copies)
    → KnowsOfFlusher cells caller client own (λ o k. IsToldOf place counts k)
    → KnowsOfFlusher cells caller client own (HasRowsAndPlace span copies place counts)
both-known cells caller client own span place copies counts rows told_of o log run es later are =
    record { has = rows o log run es later are; is_told = told_of o log run es later are }

cubes-found : {E : Type 0} (cells new_cells : List (CoreCell CoreShard)) (caller new_caller client shards : ℕ)
    (flush : IsFlusherOf FitsShard CoreShardStands ShardAnswerSays cells caller client shards) (span : RoundSpan) (place : ℕ)
    (own now : List CoreEntry) (said : DeskAnswer) (found : Option (List Decl)) (error : E) → new_cells ≡ cells → new_caller ≡ caller
    → now ≡ own ++ desk_entry caller (call.CubesFrom place) said ∷ [] → said ≡ option_map_or answer.Cubes found answer.NoMemory
    → IfOk (ok_or found error) (λ made. (copies : List ShardCopy) (counts : List (List ℕ))
    → KnowsOfFlusher cells caller client own (HasRows span copies)
    → KnowsOfFlusher cells caller client own (λ o k. IsToldOf place counts k)
    → KnowsOfFlusher new_cells new_caller client now (HasCubes span copies (place + length made) counts))
cubes-found cells new_cells caller new_caller client shards flush span place own now said (Some made) error same_cells same_caller is said-is =
    λ copies counts rows told_of.
    coe 1 0 (i. KnowsOfFlusher (same_cells i) (same_caller i) client now (HasCubes span copies (place + length made) counts))
    (known-by-desk cells caller client shards flush own now (call.CubesFrom place) said is
    (HasRowsAndPlace span copies place counts) (HasCubes span copies (place + length made) counts)
    (both-known cells caller client own span place copies counts rows told_of)
    (λ o k was.
    subst
    (λ (a : DeskAnswer). HasCubes span copies (place + length made) counts o (after_desk_call o (flusher o) (call.CubesFrom place) a k))
    (sym said-is) (cubes-listed span copies place counts made o k was)))
cubes-found cells new_cells caller new_caller client shards flush span place own now said None error same_cells same_caller is said-is = tt

pub cubes-known : {E : Type 0} {result : Result (List Decl) E} (error : E) (cells new_cells : List (CoreCell CoreShard))
    (caller new_caller client shards : ℕ)
    (flush : IsFlusherOf FitsShard CoreShardStands ShardAnswerSays cells caller client shards) (span : RoundSpan) (place : ℕ)
    (own now : List CoreEntry) (said : DeskAnswer) (found : Option (List Decl)) → result ≡ ok_or found error → new_cells ≡ cells
    → new_caller ≡ caller → now ≡ own ++ desk_entry caller (call.CubesFrom place) said ∷ []
    → said ≡ option_map_or answer.Cubes found answer.NoMemory
    → IfOk result (λ made. (copies : List ShardCopy) (counts : List (List ℕ))
    → KnowsOfFlusher cells caller client own (HasRows span copies)
    → KnowsOfFlusher cells caller client own (λ o k. IsToldOf place counts k)
    → KnowsOfFlusher new_cells new_caller client now (HasCubes span copies (place + length made) counts))
cubes-known error cells new_cells caller new_caller client shards flush span place own now said found ends same_cells same_caller is
    said-is =
    subst
    (λ r. IfOk r (λ made. (copies : List ShardCopy) (counts : List (List ℕ))
    → KnowsOfFlusher cells caller client own (HasRows span copies)
    → KnowsOfFlusher cells caller client own (λ o k. IsToldOf place counts k)
    → KnowsOfFlusher new_cells new_caller client now (HasCubes span copies (place + length made) counts))) (sym ends)
    (cubes-found cells new_cells caller new_caller client shards flush span place own now said found error same_cells same_caller is said-is)

pub open-known : (cells new_cells : List (CoreCell CoreShard)) (caller new_caller client shards : ℕ)
    (flush : IsFlusherOf FitsShard CoreShardStands ShardAnswerSays cells caller client shards) (span : RoundSpan) (place : ℕ)
    (own now : List CoreEntry) (said : DeskAnswer) (found : Option (List Decl)) (copies : List ShardCopy) (counts : List (List ℕ))
    → new_cells ≡ cells → new_caller ≡ caller → now ≡ own ++ desk_entry caller (call.CubesFrom place) said ∷ []
    → said ≡ option_map_or answer.Cubes found answer.NoMemory → KnowsOfFlusher cells caller client own (HasRows span copies)
    → KnowsOfFlusher cells caller client own (λ o k. IsToldOf place counts k)
    → KnowsOfFlusher new_cells new_caller client now (IsWithin span)
open-known cells new_cells caller new_caller client shards flush span place own now said found copies counts same_cells same_caller is said-is
    rows told_of =
    coe 1 0 (i. KnowsOfFlusher (same_cells i) (same_caller i) client now (IsWithin span))
    (known-by-desk cells caller client shards flush own now (call.CubesFrom place) said is
    (HasRowsAndPlace span copies place counts) (IsWithin span)
    (both-known cells caller client own span place copies counts rows told_of)
    (λ o k was.
    subst (λ (a : DeskAnswer). IsWithin span o (after_desk_call o (flusher o) (call.CubesFrom place) a k)) (sym said-is)
    (open-with-rows span copies place counts found o k was)))
