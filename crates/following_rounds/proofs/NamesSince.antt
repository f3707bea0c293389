-- The names of a dictionary behind earlier ones are new.
use Rattle.std.proofs.Common.{◌≡◌, ◌∙◌, ◌<◌, ◌≤◌, ◌^◌, ℕ, true, List, [], ◌∷◌, ◌++◌, length, drop, IsUtf8, if◌then◌else◌, sym, ap, arith, append_assoc, length-append}
use mathlib.Core.List.{IsPrefix}
use Rattle.std.specs.List.{AllByRecursion}
use Rattle.std.proofs.Math.Seq.{drop-append_seam}
use Rattle.std.proofs.lemmas.List.Elements.{recursion_from_All}
use Rattle.cube_language.specs.declared.bad_row.TheConstants.{TEXT_BYTES}
use Rattle.cube_language.specs.declared.decl.DimDecl.{DimDecl}
use Rattle.cube_language.specs.Cubes.{first_repeated}
use Rattle.cube_rounds.specs.Demands.{AreNewNames}
use Rattle.core_events.specs.Cells.{dictionary_of}
use Rattle.core_events.specs.Events.{Opening, CoreEvent}
use Rattle.core_events.specs.Runs.{IsCoreRun}
use Rattle.core_events.proofs.Names.{names-grow}
use Rattle.core_records.specs.OpeningNames.{SuitsDimension}
use Rattle.core_records.proofs.NamesOnRecord.{suits-run}
use Rattle.following_rounds.proofs.NewNames.{new-behind}

short-behind : (xs ys : List (List ℕ)) → AllByRecursion (λ (name : List ℕ). length name ≤ TEXT_BYTES) (xs ++ ys)
    → AllByRecursion (λ (name : List ℕ). length name < 2 ^ 8) ys
short-behind [] [] all = tt
short-behind [] (name ∷ ys) all =
    let short : length name ≤ 255 = all.0 in
    (omega (arith, short), short-behind [] ys all.1)
short-behind (x ∷ xs) ys all = short-behind xs ys all.1

pub new-names : (o : Opening) (es : List CoreEvent) (cube dim : ℕ) (d : DimDecl) (earlier names : List (List ℕ))
    → IsCoreRun o es → SuitsDimension d (o.names cube dim) → d.text ≡ true
    → (dictionary_of o cube dim es).names ≡ earlier ++ names → AllByRecursion IsUtf8 names
    → AreNewNames d.cardinality earlier names
new-names o es cube dim d earlier names run opens text are utf8 =
    let suits = suits-run o es cube dim d run opens in
    let room : (dictionary_of o cube dim es).cardinality ≡ d.cardinality =
    suits.room ∙ (λ i. if text i then d.cardinality else 0)
    in
    let short =
    recursion_from_All (λ (name : List ℕ). length name ≤ TEXT_BYTES) (dictionary_of o cube dim es).names suits.short
    in
    record {
      texts = utf8;
      short =
          short-behind earlier names
          (coe 0 1 (i. AllByRecursion (λ (name : List ℕ). length name ≤ TEXT_BYTES) (are i)) short);
      apart = new-behind earlier names (ap first_repeated (sym are) ∙ suits.distinct);
      most = coe 0 1 (i. length (are i) ≤ room i) suits.fits;
    }

-- The names that a dictionary has since the copies, and that there are no fewer than there were.
pub record StandBehind (o : Opening) (copied es : List CoreEvent) (cube dim : ℕ) (earlier names : List (List ℕ))
    : Type 0 where
  pub whole : (dictionary_of o cube dim es).names ≡ earlier ++ names
  pub grown : length (dictionary_of o cube dim copied).names ≤ length (earlier ++ names)

pub stand-behind : (o : Opening) (copied since : List CoreEvent) (cube dim : ℕ) (earlier names : List (List ℕ))
    → IsPrefix earlier (dictionary_of o cube dim copied).names
    → names ≡ drop (length earlier) (dictionary_of o cube dim (since ++ copied)).names
    → StandBehind o copied (since ++ copied) cube dim earlier names
stand-behind o copied since cube dim earlier names first are =
    let grows = names-grow o cube dim since copied in
    let now : (dictionary_of o cube dim (since ++ copied)).names ≡ earlier ++ (first.0 ++ grows.0) =
    grows.1 ∙ ap (λ (xs : List (List ℕ)). xs ++ grows.0) (sym first.1) ∙ append_assoc earlier first.0 grows.0
    in
    let behind : names ≡ first.0 ++ grows.0 =
    are ∙ ap (drop (length earlier)) now ∙ drop-append_seam earlier (first.0 ++ grows.0)
    in
    let whole = now ∙ ap (λ (xs : List (List ℕ)). earlier ++ xs) (sym behind) in
    let long = ap length grows.1 ∙ length-append (dictionary_of o cube dim copied).names grows.0 in
    let same = ap length whole in
    record { whole = whole; grown = omega (arith, long, same) }
