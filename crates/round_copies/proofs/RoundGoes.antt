-- The calls of a whole copy, one after the other.
use Rattle.std.proofs.Common.{◌≡◌, ◌∙◌, ℕ, ◌+◌, Bool, true, false, List, [], ◌∷◌, ◌++◌, append_assoc, length, Contains, sym, ap}
use Rattle.std.specs.Prelude.{Result, Ok, Err, OnOk}
use Rattle.std.proofs.lemmas.List.Elements.{Contains-append_left, Contains-push}
use Rattle.core_program.specs.ClientCalls.{desk_entry}
use Rattle.core_cells.specs.declared.desk.DeskAnswer.TheVariants as answer
use Rattle.core_cells.specs.declared.desk.DeskCall.TheVariants as call
use Rattle.core_program.specs.CoreFits.{CoreEntry}
use Rattle.cube_core.specs.declared.cell.CoreCell.{CoreCell}
use Rattle.cube_language.specs.declared.decl.Decl.{Decl}
use Rattle.cube_rounds.specs.Demands.{DimNames}
use Rattle.job_groups.specs.AskedEach.{HasMore}
use Rattle.joined_copies.specs.JoinedCopies.{ShardCopy}
use Rattle.linked_shards.specs.declared.cell.CoreShard.{CoreShard}
use Rattle.round_copies.proofs.FlusherSteps.{more-more, stays-more}
use Rattle.round_copies.proofs.NameLoops.{all-behind}
use Rattle.round_copies.specs.RoundCopies.{HasCubes, HasMoreWith, HasOpened, HasRows, HaveNamesTold, IsToldOf, IsWithin}
use Rattle.round_copies.specs.WithinRounds.{KnowsOfFlusher, StaysWithinRound}
use Rattle.round_copies.specs.declared.span.RoundSpan.{RoundSpan}

-- What holds whatever the result.
pub on-ok : {T E P : Type 0} (r : Result T E) → P → OnOk r P
on-ok (Ok x) p = p
on-ok (Err e) p = tt

-- By some calls the flusher goes on within its round.
pub record GoesWithin (client : ℕ) (cells : List (CoreCell CoreShard)) (caller : ℕ) (own : List CoreEntry)
    (new_cells : List (CoreCell CoreShard)) (new_caller : ℕ) (now : List CoreEntry) : Type 0 where
  pub same_cells : new_cells ≡ cells
  pub same_caller : new_caller ≡ caller
  pub more : HasMore own now
  pub within : StaysWithinRound new_cells new_caller client own now

pub went : {client : ℕ} {cells new_cells : List (CoreCell CoreShard)} {caller new_caller : ℕ} {own now : List CoreEntry}
    → new_cells ≡ cells → new_caller ≡ caller → HasMore own now → StaysWithinRound new_cells new_caller client own now
    → GoesWithin client cells caller own new_cells new_caller now
went same_cells same_caller more within =
    record { same_cells = same_cells; same_caller = same_caller; more = more; within = within }

pub went-both : {client : ℕ} {cells mid_cells new_cells : List (CoreCell CoreShard)} {caller mid_caller new_caller : ℕ}
    {own mid now : List CoreEntry} → GoesWithin client cells caller own mid_cells mid_caller mid
    → GoesWithin client mid_cells mid_caller mid new_cells new_caller now
    → GoesWithin client cells caller own new_cells new_caller now
went-both {client} {cells} {mid_cells} {new_cells} {caller} {mid_caller} {new_caller} {own} {mid} {now} first second = record {
  same_cells = second.same_cells ∙ first.same_cells;
  same_caller = second.same_caller ∙ first.same_caller;
  more = more-more new_cells new_caller client own mid now first.more second.more;
  within = stays-more new_cells new_caller client own mid now second.more
      (coe 1 0 (i. StaysWithinRound (second.same_cells i) (second.same_caller i) client own mid) first.within) second.within;
}

-- What calls told of cubes behind so many, and of names.
pub record AreToldOf (caller count : ℕ) (counts : List (List ℕ)) (texts : List (List Bool)) (cubes : List Decl) (lists : List DimNames)
    (own : List CoreEntry) : Type 0 where
  pub made : Contains own (desk_entry caller (call.CubesFrom count) (answer.Cubes cubes))
  pub names : HaveNamesTold caller own counts texts lists

-- After the rows came the call on the desk, and behind it those on the names.
pub told-behind-rows : (caller new_caller place count : ℕ) (own mid now : List CoreEntry) (counts : List (List ℕ)) (texts : List (List Bool))
    (cubes : List Decl) (lists : List DimNames) → new_caller ≡ caller → place ≡ count
    → mid ≡ own ++ desk_entry caller (call.CubesFrom place) (answer.Cubes cubes) ∷ []
    → HasMoreWith mid now (λ later. HaveNamesTold new_caller later counts texts lists)
    → HasMoreWith own now (AreToldOf new_caller count counts texts cubes lists)
told-behind-rows caller new_caller place count own mid now counts texts cubes lists same at listed named =
    let entry = desk_entry caller (call.CubesFrom place) (answer.Cubes cubes) in
    record {
      later = entry ∷ named.later;
      whole = named.whole
          ∙ ap (λ (l : List CoreEntry). l ++ named.later) listed
          ∙ append_assoc own (entry ∷ []) named.later;
      are = record {
        made = coe 0 1 (i. Contains (entry ∷ named.later) (desk_entry (sym same i) (call.CubesFrom (at i)) (answer.Cubes cubes)))
            (Contains-append_left (entry ∷ []) named.later entry (Contains-push [] entry));
        names = all-behind new_caller (entry ∷ []) named.later counts texts lists named.are;
      };
    }

-- What the flusher knows between its calls.
module _ (cells : List (CoreCell CoreShard)) (caller client : ℕ) (own : List CoreEntry) where
  pub told-at : (place count : ℕ) (counts : List (List ℕ)) → place ≡ count
      → KnowsOfFlusher cells caller client own (λ o k. IsToldOf count counts k)
      → KnowsOfFlusher cells caller client own (λ o k. IsToldOf place counts k)
  told-at place count counts at knows =
      coe 1 0 (i. KnowsOfFlusher cells caller client own (λ o k. IsToldOf (at i) counts k)) knows

  module _ (span : RoundSpan) where
    -- The round is open, before its rows are copied and after its cubes are.

    pub open-at-first : KnowsOfFlusher cells caller client own (HasOpened span) → KnowsOfFlusher cells caller client own (IsWithin span)
    open-at-first knows o log run es later are = (false, (knows o log run es later are).within)

    module _ (copies : List ShardCopy) (counts : List (List ℕ)) where
      pub open-with-cubes : (cubes : ℕ) → KnowsOfFlusher cells caller client own (HasCubes span copies cubes counts)
          → KnowsOfFlusher cells caller client own (IsWithin span)
      open-with-cubes cubes knows o log run es later are = (true, (knows o log run es later are).copied.within)

      pub rows-known : (new_cells : List (CoreCell CoreShard)) (new_caller : ℕ) → new_cells ≡ cells → new_caller ≡ caller
          → KnowsOfFlusher cells caller client own (HasRows span copies)
          → KnowsOfFlusher new_cells new_caller client own (HasRows span copies)
      rows-known new_cells new_caller same_cells same_caller knows =
          coe 1 0 (i. KnowsOfFlusher (same_cells i) (same_caller i) client own (HasRows span copies)) knows

      pub cubes-known : (place count : ℕ) (made seen : List Decl) → place ≡ count → seen ≡ made
          → KnowsOfFlusher cells caller client own (HasCubes span copies (place + length made) counts)
          → KnowsOfFlusher cells caller client own (HasCubes span copies (count + length seen) counts)
      cubes-known place count made seen at same knows =
          coe 0 1 (i. KnowsOfFlusher cells caller client own (HasCubes span copies (at i + length (sym same i)) counts)) knows
