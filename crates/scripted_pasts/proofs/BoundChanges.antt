-- A statement that changes rows and is not told that there is no such cube was bound; the texts of a DELETE are those of its conditions.
use Rattle.std.proofs.Common.{◌≡◌, ◌∙◌, ◌⊎◌, inl, inr, ℕ, zero, suc, ◌+◌, ◌-◌, ◌<◌, ◌≤◌, Bool, true, false, ◌==◌, List, [], ◌∷◌, ◌++◌, Contains, get_or, length, map, take, Option, Some, None, Result, Ok, slice_get, refl, sym, ap, subst, arith, append-nil, append_assoc, if◌then◌else◌}
use Rattle.std.specs.List.{cons_option, enumerate_from, filter_map, flat_map}
use Rattle.std.specs.Option.{option_map}
use Rattle.std.specs.Str.{bytes_eq}
use Rattle.std.proofs.lemmas.Bool.{false≢true}
use Rattle.std.proofs.lemmas.Option.{get_or_from_slice_get, none-some, same_Some}
use Rattle.std.proofs.lemmas.Slice.Eq.{bytes_eq-Decides}
use Rattle.cube_values.specs.declared.operation.Condition.{Condition}
use Rattle.cube_values.specs.declared.operation.ValueTest.{ValueTest}
use Rattle.cube_values.specs.declared.row.Row.{Row}
use Rattle.cube_values.specs.declared.value.Value.{Value}
use Rattle.cube_values.specs.declared.value.Value.TheVariants.{Text}
use Rattle.cube_language.specs.Misfits.{FitsCube, cond_name, cond_test}
use Rattle.cube_language.specs.ResolvedNames.{dim_place, resolved_cond, resolved_region}
use Rattle.cube_language.specs.declared.bad_row.BadRow.{BadRow}
use Rattle.cube_language.specs.declared.bad_row.TheConstants.{TEXT_BYTES}
use Rattle.cube_language.specs.declared.decl.Decl.{Decl}
use Rattle.cube_language.specs.declared.decl.DimDecl.{DimDecl}
use Rattle.cube_language.specs.declared.statement.Cond.{Cond}
use Rattle.cube_language.specs.declared.statement.Cond.TheVariants.{Equal, In, Between}
use Rattle.cube_language.specs.declared.statement.Statement.{Statement}
use Rattle.cube_language.specs.declared.statement.Statement.TheVariants.{Select, Insert, Load, Delete, Begin, Commit, Rollback, Flush, Purge, ShowEpochs, CreateCube, Watch, ShowWatch}
use Rattle.std.proofs.lemmas.Bool.Decides.{nat_tests}
use Rattle.cube_journal.specs.Refusals.{code}
use Rattle.cube_journal.specs.declared.journal_entry.JournalEntry.{JournalEntry}
use Rattle.cube_journal.specs.declared.journal_entry.JournalEntry.TheVariants as entry
use Rattle.cube_journal.specs.declared.refusal.Refusal.{Refusal}
use Rattle.cube_journal.specs.declared.refusal.Refusal.TheVariants as refusal
use Rattle.cube_journal.specs.declared.reply.Reply.{Reply}
use Rattle.cube_journal.specs.declared.reply.Reply.TheVariants as reply
use Rattle.cube_run.specs.FinalNames.{Compares, IsBound, LooksAt, Offers, by_delete, by_insert, by_load}
use Rattle.cube_run.specs.LoadedRows.{judged_record, load_records, records_looked_at}
use Rattle.cube_run.specs.RunRecords.{LoadedFile, Missing, TooLarge, Records, RunRecord, Says, Sentence, catalog_of, cube_needed, declaration_of, names_of_cube}
use Rattle.cube_run.specs.RunText.{IsReply, reply_of}
use Rattle.cube_run.specs.SessionStates.{KeptWatch, Mode, SessionState, fresh_session}
use Rattle.cube_run.specs.SessionSteps.{SessionStep, all_steps, last_state, state_after_step, step_at, steps_from, steps_of}
use Rattle.cube_run.specs.StatementEntries.{Done, Leaves, Outcome, RefusedWith, entries_to_commit, other_refusal}
use Rattle.cube_run.specs.StepOutcomes.{IsMisfitOf, MeetsAtBinding, begins_refused, bound_refusal, refused_by_mode, told_unknown}
use Rattle.names_dict.specs.Dictionaries.{Dictionary}
use Rattle.condition_spans.specs.CodedConditions.{values_of_test}
use Rattle.condition_spans.specs.Codes.{lists_at}
use Rattle.query_plan.proofs.FirstPlaces.{found}
use Rattle.row_encoding.specs.CodedTexts.{ComparesWith}
use Rattle.row_encoding.specs.DictsAsEncoder.{MayEndWith}
use Rattle.session_replies.proofs.Ends.{bound_none}
use Rattle.session_replies.proofs.RowAnswers.{OnRows}

equal_is : (a b : ℕ) → (a == b) ≡ true → a ≡ b
equal_is a b is = grind (arith, nat_tests, is)

-- ---- that a statement was bound

begins_same : (n : ℕ) (entries : List JournalEntry)
    → begins_refused n (entries_to_commit entries) ≡ begins_refused n entries
begins_same n [] = refl
begins_same n (entry.Committed session statement epoch ∷ later) = refl
begins_same n (entry.Refused session statement found ∷ later) = refl
begins_same n (e ∷ later) = refl

-- An outcome is a refusal of this number.
abbrev IsRefusalOf : ℕ → Outcome → Type 0
IsRefusalOf n Done = ⊥
IsRefusalOf n (RefusedWith r) = code r ≡ n

refused_is : {i j : ℕ} {mode : Mode} {watch : Option KeptWatch} {sentence : Sentence} {outcome : Outcome}
    {entries : List JournalEntry} (n : ℕ) → Leaves i j mode watch sentence outcome entries
    → begins_refused n entries ≡ true → IsRefusalOf n outcome
refused_is n (other_refusal {r = r} may) h = equal_is (code r) n h
refused_is n leaves h = absurd (false≢true h)

-- A statement that is not answered that there is no such cube has not met that.
pub not_told : (run : RunRecord) (step : SessionStep) (s : Statement) (said : Reply) → step.sentence ≡ Says s
    → IsReply run step said → ((r : Refusal) → said ≡ reply.Refused r → code r ≡ 2 → ⊥)
    → told_unknown step.entries s ≡ None
not_told run step s said says h other = at (begins_refused 2 step.entries) refl
  where
    by_outcome : (outcome : Outcome) → said ≡ reply_of run step (Says s) outcome → IsRefusalOf 2 outcome → ⊥
    by_outcome Done is two = two
    by_outcome (RefusedWith r) is two = other r is two

    at : (b : Bool) → begins_refused 2 step.entries ≡ b
        → (if b then option_map refusal.UnknownCube (cube_needed s) else None) ≡ None
    at false is = refl
    at true is =
        absurd (by_outcome h.outcome (h.is ∙ ap (λ (x : Sentence). reply_of run step x h.outcome) says)
        (refused_is 2 h.ends.leaves (begins_same 2 step.entries ∙ is)))

pub meets_binding : (run : RunRecord) (step : SessionStep) (s : Statement) (said : Reply) → step.sentence ≡ Says s
    → IsReply run step said → ((r : Refusal) → said ≡ reply.Refused r → code r ≡ 2 → ⊥) → OnRows s
    → refused_by_mode step.state.mode s ≡ None → IsMisfitOf (catalog_of run) (Says s) None
    → MeetsAtBinding (catalog_of run) step None
meets_binding run step s said says h other rows may fits = record {
  misfit = None;
  is_misfit = subst (λ (x : Sentence). IsMisfitOf (catalog_of run) x None) (sym says) fits;
  is =
      ap (λ (x : Sentence). bound_refusal step x None) says
      ∙ bound_none step s may (rows.watch step.state.watch) (not_told run step s said says h other)
      (rows.declaration step.entries);
}

-- ---- what a DELETE compares with

from_resolved : (d : Decl) (conds : List Cond) (condition : Condition)
    → Contains (filter_map (resolved_cond d) conds) condition
    → (c : Cond) × Contains conds c × (resolved_cond d c ≡ Some condition)
from_resolved d [] condition (k, l, at) = absurd (omega (arith, l))
from_resolved d (c ∷ conds) condition one = at (resolved_cond d c) refl one (from_resolved d conds condition)
  where
    later : (e : Cond) × Contains conds e × (resolved_cond d e ≡ Some condition)
        → (e : Cond) × Contains (c ∷ conds) e × (resolved_cond d e ≡ Some condition)
    later (e, (k, l, at), is) = (e, (suc k, omega (arith, l), at), is)

    at : (o : Option Condition) → resolved_cond d c ≡ o
        → Contains (cons_option o (filter_map (resolved_cond d) conds)) condition
        → (Contains (filter_map (resolved_cond d) conds) condition
        → (e : Cond) × Contains conds e × (resolved_cond d e ≡ Some condition))
        → (e : Cond) × Contains (c ∷ conds) e × (resolved_cond d e ≡ Some condition)
    at None is one rest = later (rest one)
    at (Some x) is (zero, l, here) rest = (c, (0, omega arith, refl), is ∙ ap (λ (y : Condition). Some y) here)
    at (Some x) is (suc k, l, here) rest = later (rest (k, omega (arith, l), here))

placed_as : (o : Option ℕ) (c : Cond) (condition : Condition)
    → option_map (λ (p : ℕ). record { place = p; test = cond_test c }) o ≡ Some condition
    → (o ≡ Some condition.place) × (cond_test c ≡ condition.test)
placed_as None c condition is = absurd (none-some condition is)
placed_as (Some p) c condition is =
    let same = same_Some (record { place = p; test = cond_test c }) condition is in
    (ap (λ (x : Condition). Some x.place) same, ap (λ (x : Condition). x.test) same)

named_so : (d : Decl) (name : List ℕ) (place : ℕ) (dim : DimDecl) → dim_place d name ≡ Some place
    → slice_get d.dims place ≡ Some dim → name ≡ dim.name
named_so d name place dim is there =
    let place_of = found (λ (e : DimDecl). bytes_eq e.name name) 0 d.dims place is in
    let same : place - 0 ≡ place = omega arith in
    sym ((bytes_eq-Decides dim.name name).0
    (ap (λ (e : DimDecl). bytes_eq e.name name)
    (sym (ap (λ (k : ℕ). get_or d.dims k dim) same ∙ get_or_from_slice_get d.dims place dim dim there))
    ∙ place_of.passes dim))

is_only : {X : Type 0} (x y : X) → Contains (x ∷ []) y → x ≡ y
is_only x y (zero, below, same) = same
is_only x y (suc k, below, same) = absurd (omega (arith, below))

compares_so : (c : Cond) (name text : List ℕ) → cond_name c ≡ name
    → Contains (values_of_test (cond_test c)) (Text text) → Compares name text c
compares_so (Equal column wanted) name text is one = (is, is_only wanted (Text text) one)
compares_so (In column wanted) name text is one = (is, one)
compares_so (Between column low high) name text is (k, l, at) = absurd (omega (arith, l))

-- A text of conditions on places is one of a condition on a column.
pub deleted_text : (d : Decl) (place : ℕ) (dim : DimDecl) (conds : List Cond) (text : List ℕ)
    → slice_get d.dims place ≡ Some dim → ComparesWith (resolved_region d conds).conditions place text
    → (c : Cond) × Contains conds c × Compares dim.name text c
deleted_text d place dim conds text there h =
    let from = from_resolved d conds h.condition h.one in
    let placed = placed_as (dim_place d (cond_name from.0)) from.0 h.condition from.2 in
    let at = placed.0 ∙ ap (λ (p : ℕ). Some p) h.here in (
      from.0,
      from.1,
      compares_so from.0 dim.name text (named_so d (cond_name from.0) place dim at there)
          (subst (λ (t : ValueTest). Contains (values_of_test t) (Text text)) (sym placed.1) h.compares),
    )
