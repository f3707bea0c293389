-- Cells over what is kept, one after the other, and the run that opens with them.
use Rattle.std.proofs.Common.{◌≡◌, ◌∙◌, ℕ, ◌+◌, ◌<◌, ◌≤◌, ◌^◌, List, [], ◌∷◌, ◌++◌, length, true, Option, inl, inr, ◌⊎◌, refl, sym, ap, subst, arith, eq-eqb, ne_eqb, Bool, if◌then◌else◌}
use Rattle.std.proofs.lemmas.List.{length-append, length-replicate}
use Rattle.std.proofs.lemmas.List.Elements.{All-from_recursion}
use Rattle.std.proofs.lemmas.Option.{slice_get_cases}
use Rattle.std.specs.List.{All, AllByRecursion}
use Rattle.std.specs.Option.{option_map_or}
use lib.ListN.{get_elem?}
use mathlib.Core.Option.{some, some-ne-none}
use Rattle.cube_values.specs.declared.row.CodedRow.{CodedRow}
use Rattle.cube_values.specs.declared.shape.CubeShape.{CubeShape}
use Rattle.cube_language.specs.declared.decl.Decl.{Decl}
use Rattle.cube_schema.specs.Schemas.{cube_of}
use Rattle.cube_rounds.specs.Stands.{Kept}
use Rattle.brick_address.specs.Addresses.{AreCoords}
use Rattle.mail_cell.specs.State.{MailState, new_mail}
use Rattle.mail_cell.specs.declared.place.Place.TheVariants.{Idle}
use Rattle.names_dict.specs.Dictionaries.{Dictionary, dictionary_for}
use Rattle.turn_board.proofs.Places.{at_end}
use Rattle.core_events.proofs.Counts.{in-order}
use Rattle.cube_core.specs.BoardCells.{AnswerSays, JobsSuit, StandsInCell, job_asked}
use Rattle.core_events.specs.Events.{Opening, IsOpening}
use Rattle.cube_core.specs.MailEvents.{IsMailCellOf, clients_of}
use Rattle.cube_core.specs.MailCells.{IsPlaceIn}
use Rattle.core_program.specs.CoreFits.{CoreEntry}
use Rattle.cube_core.specs.declared.cell.CoreCell.{CoreCell}
use Rattle.cube_core.specs.declared.cell.CoreCell.TheVariants as cell
use Rattle.cube_core.specs.declared.jobs.Job.{Job}
use Rattle.cube_core.specs.declared.jobs.JobAnswer.{JobAnswer}
use Rattle.linked_shards.specs.CellShards.{CoreShardStands}
use Rattle.linked_shards.specs.declared.cell.CoreShard.{CoreShard}
use Rattle.shard_events.specs.ShardsInRuns.{FitsShard, ShardAnswerSays}
use Rattle.opened_core.proofs.KeptFacts.{KeptLaws, coords-where, none-where, zero-where}
use Rattle.opened_core.proofs.OpenedShards.{index-same}
use Rattle.opened_core.proofs.OpenedViews.{shape-is, stands-opened}
use Rattle.opened_core.specs.KeptShards.{HoldsKept, kept_in_cube, kept_count}
use Rattle.opened_core.specs.Openings.{AreCellsOver, HasLimits, IsCellOver, OpenOver, no_shape, opening_over, shape_made}

-- The first cells, so many.
pub record AreFirstCells (kept : Kept) (shards sessions count : ℕ) (cells : List (CoreCell CoreShard)) : Type 0 where
  pub long : length cells ≡ count
  pub each : (k : ℕ) (x : CoreCell CoreShard) → get_elem? cells k ≡ some x → IsCellOver kept shards sessions k x

-- The first shards take what is kept.
abbrev pub FirstTakeAll : Kept → ℕ → ℕ → Type 0
FirstTakeAll kept shards count = (shard : ℕ) → shard < count → kept_count kept shards shard (length kept.cubes) ≤ 2 ^ 40

pub one-more : (kept : Kept) (shards sessions count : ℕ) (cells : List (CoreCell CoreShard)) (x : CoreCell CoreShard)
    → AreFirstCells kept shards sessions count cells → IsCellOver kept shards sessions count x
    → AreFirstCells kept shards sessions (count + 1) (cells ++ x ∷ [])
one-more kept shards sessions count cells x first is = record {
  long = let one = length-append cells (x ∷ []) in let long = first.long in omega (arith, one, long);
  each = λ k y there. at k y (at_end cells x y k there);
} where
  at : (k : ℕ) (y : CoreCell CoreShard) → (get_elem? cells k ≡ some y) ⊎ ((k ≡ length cells) × (x ≡ y)) → IsCellOver kept shards sessions k y
  at k y (inl earlier) = first.each k y earlier
  at k y (inr end) =
      subst (λ (z : CoreCell CoreShard). IsCellOver kept shards sessions k z) end.1
      (subst (λ (n : ℕ). IsCellOver kept shards sessions n x) (sym (end.0 ∙ first.long)) is)

pub no-cells : (kept : Kept) (shards sessions : ℕ) → AreFirstCells kept shards sessions 0 []
no-cells kept shards sessions = record { long = refl; each = λ k x there. absurd (some-ne-none x (sym there)) }

pub next-takes : (kept : Kept) (shards number : ℕ) → FirstTakeAll kept shards number → kept_count kept shards number (length kept.cubes) ≤ 2 ^ 40
    → FirstTakeAll kept shards (number + 1)
next-takes kept shards number first here shard below = at (in-order shard number)
  where
    at : (shard < number) ⊎ ((shard ≡ number) ⊎ (number < shard)) → kept_count kept shards shard (length kept.cubes) ≤ 2 ^ 40
    at (inl low) = first shard low
    at (inr (inl same)) = subst (λ (n : ℕ). kept_count kept shards n (length kept.cubes) ≤ 2 ^ 40) (sym same) here
    at (inr (inr high)) = absurd (omega (arith, below, high))

-- An empty mail.
mail-opens : (o : Opening) (number : ℕ) (m : MailState Job JobAnswer) → m ≡ new_mail (clients_of o number)
    → IsMailCellOf job_asked (AnswerSays ShardAnswerSays) o number [] m × JobsSuit FitsShard o number m.posted
mail-opens o number m is =
    subst (λ (s : MailState Job JobAnswer). IsMailCellOf job_asked (AnswerSays ShardAnswerSays) o number [] s × JobsSuit FitsShard o number s.posted) (sym is) (
      record {
        of = record {
          posted = refl;
          places = λ client below.
              subst (λ p. IsPlaceIn (AnswerSays ShardAnswerSays) p number client []) (sym (index-same Idle (clients_of o number) client))
              (record { letter = refl; worker = refl; reply = refl });
          closed = refl;
        };
        clients = length-replicate (clients_of o number) Idle;
      },
      tt,
    )

module _ (kept : Kept) (laws : KeptLaws kept) (shards sessions : ℕ) (limits : HasLimits kept shards sessions) (log : List CoreEntry) where
  abbrev o : Opening
  o = opening_over kept shards sessions log

  cell-stands : (k : ℕ) (x : CoreCell CoreShard) → IsCellOver kept shards sessions k x → StandsInCell FitsShard CoreShardStands ShardAnswerSays o k x []
  cell-stands k (cell.Desk desk alloc) is = (is.0, is.1)
  cell-stands k (cell.Names names) is =
      (is.0, λ cube dim. ap (λ (d : List (List Dictionary)). dictionary_for (shape_made kept.cubes log cube) d cube dim) is.1)
  cell-stands k (cell.Shard s) is = (is.0, is.1, is.2, stands-opened kept laws shards sessions log is.0 s.shard is.3)
  cell-stands k (cell.Mail m) is = let opens = mail-opens o is.0 m is.3 in (is.0, is.1, opens.0, opens.1)

  rows-fit : (place : ℕ) → All (λ (row : CodedRow). AreCoords (o.shapes place).shape.sizes row.coords) (kept_in_cube kept place)
  rows-fit place =
      All-from_recursion (λ (row : CodedRow). AreCoords (o.shapes place).shape.sizes row.coords) (kept_in_cube kept place) (elim (slice_get_cases kept.cubes place).1 [
        | inl there ↦
            subst (λ (shape : CubeShape). AllByRecursion (λ (row : CodedRow). AreCoords shape.shape.sizes row.coords) (kept_in_cube kept place))
            (sym (shape-is kept.cubes log place there.0 there.2)) (coords-where kept laws place there.0 there.2 (λ b. true))
        | inr none ↦
            subst (λ (rows : List CodedRow). AllByRecursion (λ (row : CodedRow). AreCoords (o.shapes place).shape.sizes row.coords) rows)
            (sym (none-where kept laws (λ b. true) place none.1)) tt
      ])

  is-opening : IsOpening o
  is-opening = record {
    some = limits.some_shards;
    shards = limits.few_shards;
    sessions = limits.few_sessions;
    safe = limits.small;
    cubes = laws.sound.few;
    rows = rows-fit;
    none = λ is place. zero-where kept laws is (λ b. true) place;
  }

pub open-over : (kept : Kept) (shards sessions : ℕ) (cells : List (CoreCell CoreShard)) → KeptLaws kept → HasLimits kept shards sessions
    → AreCellsOver kept shards sessions cells → OpenOver kept shards sessions cells
open-over kept shards sessions cells laws limits over log = record {
  limits = is-opening kept laws shards sessions limits log;
  long = over.long;
  stand = λ k x there. cell-stands kept laws shards sessions limits log k x (over.each k x there);
  shapes = λ place decl is. ap (λ (d : Option Decl). option_map_or cube_of d no_shape) is;
}

-- One shard more.
pub next-shard : (kept : Kept) (shards sessions number : ℕ) (cells new : List (CoreCell CoreShard)) (s : CoreShard)
    → AreFirstCells kept shards sessions (2 + number) cells → FirstTakeAll kept shards number → number < shards
    → HoldsKept kept shards number s.shard → kept_count kept shards number (length kept.cubes) ≤ 2 ^ 40 → new ≡ cells ++ cell.Shard s ∷ []
    → AreFirstCells kept shards sessions (2 + (number + 1)) new × FirstTakeAll kept shards (number + 1)
next-shard kept shards sessions number cells new s first takes below holds few is = (
  subst (λ (l : List (CoreCell CoreShard)). AreFirstCells kept shards sessions (2 + (number + 1)) l) (sym is)
      (subst (λ (n : ℕ). AreFirstCells kept shards sessions n (cells ++ cell.Shard s ∷ [])) (count number)
      (one-more kept shards sessions (2 + number) cells (cell.Shard s) first (number, refl, below, holds))),
  next-takes kept shards number takes few,
) where
  count : (n : ℕ) → 2 + n + 1 ≡ 2 + (n + 1)
  count n = omega arith

-- One mail more.
pub next-mail : (kept : Kept) (shards sessions number : ℕ) (cells new : List (CoreCell CoreShard)) (m : MailState Job JobAnswer)
    → AreFirstCells kept shards sessions (2 + shards + number) cells → number < shards → m ≡ new_mail (sessions + 2)
    → new ≡ cells ++ cell.Mail m ∷ [] → AreFirstCells kept shards sessions (2 + shards + (number + 1)) new
next-mail kept shards sessions number cells new m first below empty is =
    subst (λ (l : List (CoreCell CoreShard)). AreFirstCells kept shards sessions (2 + shards + (number + 1)) l) (sym is)
    (subst (λ (n : ℕ). AreFirstCells kept shards sessions n (cells ++ cell.Mail m ∷ [])) (count number)
    (one-more kept shards sessions (2 + shards + number) cells (cell.Mail m) first (
      number,
      refl,
      omega (arith, below),
      empty ∙ ap (λ (b : Bool). new_mail (if b then sessions + 1 else sessions + 2))
          (sym (ne_eqb number shards (λ same. absurd (omega (arith, below, same))))),
    )))
  where
    count : (n : ℕ) → 2 + shards + n + 1 ≡ 2 + shards + (n + 1)
    count n = omega arith

-- The flusher's mail is the last.
pub all-cells : (kept : Kept) (shards sessions number : ℕ) (cells new : List (CoreCell CoreShard)) (m : MailState Job JobAnswer)
    → AreFirstCells kept shards sessions (2 + shards + number) cells → number ≡ shards → m ≡ new_mail (sessions + 1)
    → new ≡ cells ++ cell.Mail m ∷ [] → AreCellsOver kept shards sessions new
all-cells kept shards sessions number cells new m first at-end empty is =
    let all =
    one-more kept shards sessions (2 + shards + number) cells (cell.Mail m) first (
      number,
      refl,
      omega (arith, at-end),
      empty ∙ ap (λ (b : Bool). new_mail (if b then sessions + 1 else sessions + 2))
          (sym (eq-eqb number shards at-end)),
    )
    in
    subst (λ (l : List (CoreCell CoreShard)). AreCellsOver kept shards sessions l) (sym is)
    (record { long = let long = all.long in omega (arith, long, at-end); each = all.each })
