-- Entries of parts of a brick, joined: they are a vector over the rows of all.
use Rattle.std.proofs.Common.{◌≡◌, ℕ, ◌+◌, ◌<◌, ◌≤◌, Bool, true, false, ◌&&◌, List, [], ◌∷◌, ◌++◌, length, inl, inr, refl, sym, ap, subst, ◌∙◌, arith}
use Rattle.std.specs.Prelude.{◌==◌}
use Rattle.std.specs.List.{AllByRecursion}
use Rattle.std.proofs.lemmas.Bool.{eqb-true, eq-eqb, cases_Bool}
use Rattle.std.proofs.lemmas.List.{length-append}
use Rattle.cube_values.specs.declared.entry.Entry.{Entry}
use Rattle.cube_values.specs.declared.entry.Entry.TheVariants.{Run, Mark}
use Rattle.cube_values.specs.EpochsVector.{maker, rows_after, with_rows_after, is_one_with, Leads, NeighboursApart, IsVector}
use Rattle.cube_rounds.specs.Bricks.{BrickPart}
use Rattle.cube_rounds.specs.Demands.{IsOfEpochs}
use Rattle.cube_rounds.specs.KeptRows.{entries_behind, entries_joined, rows_joined}

-- ---- entries behind more rows

leads_behind : (rows from to : ℕ) (entries : List Entry) → Leads from entries to → Leads (rows + from) (entries_behind rows entries) (rows + to)
leads_behind rows from to [] leads = ap (λ n. rows + n) leads
leads_behind rows from to (Run epoch end ∷ entries) leads = (omega (arith, leads.0), leads_behind rows end to entries leads.1)
leads_behind rows from to (Mark epoch at ∷ entries) leads = (ap (λ n. rows + n) leads.0, leads_behind rows from to entries leads.1)

same_test : (a b : Bool) → (a ≡ true → b ≡ true) → (b ≡ true → a ≡ true) → a ≡ b
same_test true b there back = sym (there refl)
same_test false true there back = back refl
same_test false false there back = refl

shifted_test : (rows a b : ℕ) → (rows + a == rows + b) ≡ (a == b)
shifted_test rows a b =
    same_test (rows + a == rows + b) (a == b)
    (λ same. eq-eqb a b (let e = eqb-true (rows + a) (rows + b) same in omega arith))
    (λ same. eq-eqb (rows + a) (rows + b) (ap (λ n. rows + n) (eqb-true a b same)))

behind_one : (rows : ℕ) (a b : Entry) → is_one_with (with_rows_after a (rows + rows_after a)) (with_rows_after b (rows + rows_after b)) ≡ is_one_with a b
behind_one rows (Run epoch end) (Run next more) = refl
behind_one rows (Run epoch end) (Mark next more) = refl
behind_one rows (Mark epoch at) (Run next more) = refl
behind_one rows (Mark epoch at) (Mark next more) = ap (λ t. epoch == next && t) (shifted_test rows at more)

apart_behind : (rows : ℕ) (entries : List Entry) → NeighboursApart entries → NeighboursApart (entries_behind rows entries)
apart_behind rows [] apart = tt
apart_behind rows (a ∷ []) apart = tt
apart_behind rows (a ∷ b ∷ entries) apart = (behind_one rows a b ∙ apart.0, apart_behind rows (b ∷ entries) apart.1)

behind_maker : (rows : ℕ) (entry : Entry) → maker (with_rows_after entry (rows + rows_after entry)) ≡ maker entry
behind_maker rows (Run epoch end) = refl
behind_maker rows (Mark epoch at) = refl

epochs_behind : (rows from epoch low high : ℕ) (entries : List Entry) → low ≤ from → epoch ≤ high → AllByRecursion (IsOfEpochs from epoch) entries
    → AllByRecursion (IsOfEpochs low high) (entries_behind rows entries)
epochs_behind rows from epoch low high [] under over all = tt
epochs_behind rows from epoch low high (entry ∷ entries) under over all = (
  record { above = omega (arith, all.0.above, behind_maker rows entry, under); within = omega (arith, all.0.within, behind_maker rows entry, over) },
  epochs_behind rows from epoch low high entries under over all.1,
)

-- ---- one list behind another

leads_then : (from mid to : ℕ) (xs ys : List Entry) → Leads from xs mid → Leads mid ys to → Leads from (xs ++ ys) to
leads_then from mid to [] ys one two = subst (λ n. Leads n ys to) (sym one) two
leads_then from mid to (Run epoch end ∷ xs) ys one two = (one.0, leads_then end mid to xs ys one.1 two)
leads_then from mid to (Mark epoch at ∷ xs) ys one two = (one.0, leads_then from mid to xs ys one.1 two)

other_number : (a b : ℕ) → a < b → (a == b) ≡ false
other_number a b less =
    elim (cases_Bool (a == b)) [
      | inl same ↦ absurd (omega (arith, eqb-true a b same, less))
      | inr other ↦ other
    ]

not_both : (a b : Bool) → a ≡ false → (a && b) ≡ false
not_both a b other = ap (λ t. t && b) other

-- Entries of two epochs are not one.
never_one : (a b : Entry) → maker a < maker b → is_one_with a b ≡ false
never_one (Run epoch end) (Run next more) less = other_number epoch next less
never_one (Run epoch end) (Mark next more) less = refl
never_one (Mark epoch at) (Run next more) less = refl
never_one (Mark epoch at) (Mark next more) less = not_both (epoch == next) (at == more) (other_number epoch next less)

apart_then : (low mid high : ℕ) (xs ys : List Entry) → AllByRecursion (IsOfEpochs low mid) xs → AllByRecursion (IsOfEpochs mid high) ys
    → NeighboursApart xs → NeighboursApart ys → NeighboursApart (xs ++ ys)
apart_then low mid high [] ys one two left right = right
apart_then low mid high (a ∷ []) [] one two left right = tt
apart_then low mid high (a ∷ []) (b ∷ ys) one two left right = (never_one a b (omega (arith, one.0.within, two.0.above)), right)
apart_then low mid high (a ∷ b ∷ xs) ys one two left right = (left.0, apart_then low mid high (b ∷ xs) ys one.1 two left.1 right)

all_append : {X : Type 0} (P : X → Type 0) (xs ys : List X) → AllByRecursion P xs → AllByRecursion P ys → AllByRecursion P (xs ++ ys)
all_append P [] ys one two = two
all_append P (x ∷ xs) ys one two = (one.0, all_append P xs ys one.1 two)

epochs_wider : (from epoch low high : ℕ) (entries : List Entry) → low ≤ from → epoch ≤ high → AllByRecursion (IsOfEpochs from epoch) entries → AllByRecursion (IsOfEpochs low high) entries
epochs_wider from epoch low high [] under over all = tt
epochs_wider from epoch low high (entry ∷ entries) under over all =
    (record { above = omega (arith, all.0.above, under); within = omega (arith, all.0.within, over) }, epochs_wider from epoch low high entries under over all.1)

-- ---- parts one after the other

-- A part has a vector over its rows, of epochs above one and up to another.
pub record IsPartOf (from epoch : ℕ) (b : BrickPart) : Type 0 where
  pub vector : IsVector b.entries (length b.rows)
  pub epochs : AllByRecursion (IsOfEpochs from epoch) b.entries

-- Each part has epochs above those of the parts before it.
abbrev pub PartsLead : ℕ → List BrickPart → ℕ → Type 0
PartsLead low [] high = low ≤ high
PartsLead low (b ∷ parts) high = (from epoch : ℕ) × (low ≤ from) × (from ≤ epoch) × IsPartOf from epoch b × PartsLead epoch parts high

parts_up : (low high : ℕ) (parts : List BrickPart) → PartsLead low parts high → low ≤ high
parts_up low high [] lead = lead
parts_up low high (b ∷ parts) lead = let up = parts_up lead.1 high parts lead.5 in omega (arith, lead.2, lead.3, up)

pub record AreJoined (rows low high : ℕ) (parts : List BrickPart) : Type 0 where
  pub leads : Leads rows (entries_joined rows parts) (rows + length (rows_joined parts))
  pub apart : NeighboursApart (entries_joined rows parts)
  pub epochs : AllByRecursion (IsOfEpochs low high) (entries_joined rows parts)

pub are_joined : (rows low high : ℕ) (parts : List BrickPart) → PartsLead low parts high → AreJoined rows low high parts
are_joined rows low high [] lead = record { leads = omega arith; apart = tt; epochs = tt }
are_joined rows low high (b ∷ parts) lead =
    let from = lead.0 in
    let epoch = lead.1 in
    let part = lead.4 in
    let more = length b.rows in
    let rest = are_joined (rows + more) epoch high parts lead.5 in
    let one = entries_behind rows b.entries in
    let two = entries_joined (rows + more) parts in
    let up = parts_up epoch high parts lead.5 in
    let first : Leads rows one (rows + more) = subst (λ n. Leads n one (rows + more)) (plus_zero rows) (leads_behind rows 0 more b.entries part.vector.leads) in
    let second : Leads (rows + more) two (rows + length (rows_joined (b ∷ parts))) =
    subst (λ n. Leads (rows + more) two n) (omega (arith, length-append b.rows (rows_joined parts))) rest.leads in
    let here : AllByRecursion (IsOfEpochs low epoch) one = epochs_behind rows from epoch low epoch b.entries lead.2 (omega arith) part.epochs in
    record {
      leads = leads_then rows (rows + more) (rows + length (rows_joined (b ∷ parts))) one two first second;
      apart = apart_then low epoch high one two here rest.epochs (apart_behind rows b.entries part.vector.apart) rest.apart;
      epochs = all_append (IsOfEpochs low high) one two (epochs_wider low epoch low high one (omega arith) up here)
          (epochs_wider epoch high low high two (omega (arith, lead.2, lead.3)) (omega arith) rest.epochs);
    }
  where
    plus_zero : (n : ℕ) → n + 0 ≡ n
    plus_zero n = omega arith

pub joined_vector : (low high : ℕ) (parts : List BrickPart) → AreJoined 0 low high parts → IsVector (entries_joined 0 parts) (length (rows_joined parts))
joined_vector low high parts joined = record { leads = subst (λ n. Leads 0 (entries_joined 0 parts) n) (zero_plus (length (rows_joined parts))) joined.leads; apart = joined.apart }
  where
    zero_plus : (n : ℕ) → 0 + n ≡ n
    zero_plus n = omega arith
