-- The replies to statements that are refused and leave nothing else.
use Rattle.std.proofs.Common.{◌≡◌, ℕ, true, false, List, [], ◌∷◌, Some, None, refl, ap, sym, subst, ◌∙◌}
use Rattle.std.specs.Option.{option_map}
use Rattle.std.proofs.lemmas.Bool.{both_ways}
use Rattle.std.proofs.lemmas.Option.{none-some, same_Some}
use Rattle.cube_language.specs.Cubes.{schema_fault, first_some}
use Rattle.cube_language.specs.declared.cubes_fault.SchemaFault.{SchemaFault}
use Rattle.cube_language.specs.declared.decl.Decl.{Decl}
use Rattle.cube_language.specs.declared.statement.Statement.{Statement}
use Rattle.cube_language.specs.declared.statement.Statement.TheVariants.{Begin, Commit, Rollback, Flush, Purge, ShowEpochs, CreateCube}
use Rattle.cube_journal.specs.Refusals.{code, of_misfit}
use Rattle.cube_journal.specs.declared.journal_entry.JournalEntry.{JournalEntry}
use Rattle.cube_journal.specs.declared.journal_entry.JournalEntry.TheVariants as entry
use Rattle.cube_journal.specs.declared.refusal.Refusal.{Refusal}
use Rattle.cube_journal.specs.declared.refusal.Refusal.TheVariants as refusal
use Rattle.cube_journal.specs.declared.reply.Reply.TheVariants as reply
use Rattle.cube_run.specs.Merge.{HasCube, looked_for_cube}
use Rattle.std.specs.Option.{option_and_then}
use Rattle.cube_run.specs.RunRecords.{RunRecord, Sentence, Says, SaysNone, catalog_of, cube_needed, statement_said}
use Rattle.cube_run.specs.RunText.{IsReply}
use Rattle.cube_run.specs.SessionStates.{Mode, Idle, Open, Aborted}
use Rattle.cube_run.specs.SessionSteps.{SessionStep}
use Rattle.cube_run.specs.StatementEntries.{RefusedWith, leaves_refused, other_refusal}
use Rattle.cube_run.specs.StepOutcomes.{IsMisfitOf, MayEnd, bound_refusal, no_memory, refused_by_mode, refused_by_watch, refused_declaration, refused_first, told_unknown}
use Rattle.session_replies.specs.StepParts.{IsStep}
use Rattle.session_replies.proofs.Ends.{by_parts, no_entries, no_watch, refused_at, with_parts}

-- A statement that is refused so, may be, and leaves a Refused alone.
pub refused : (run : RunRecord) (step : SessionStep) (mode : Mode) (sentence : Sentence) (r : Refusal)
    → IsStep step mode sentence (entry.Refused step.session step.number (code r) ∷ [])
    → leaves_refused mode r ≡ true
    → MayEnd (catalog_of run)
    (with_parts step mode sentence (entry.Refused step.session step.number (code r) ∷ [])) (RefusedWith r)
    → (looked_for_cube (RefusedWith r) ≡ true
    → HasCube run (with_parts step mode sentence (entry.Refused step.session step.number (code r) ∷ []))
    (option_and_then cube_needed (statement_said sentence)))
    → IsReply run step (reply.Refused r)
refused run step mode sentence r h leaves may cube =
    let entries : List JournalEntry = entry.Refused step.session step.number (code r) ∷ [] in
    by_parts run step mode sentence entries (reply.Refused r) h (record {
      outcome = RefusedWith r;
      ends = record {
        ends = may;
        leaves = other_refusal leaves;
        round = no_entries run (with_parts step mode sentence entries) refl;
        cube = cube;
      };
      is = refl;
    })

memory_leaves : (mode : Mode) → leaves_refused mode refusal.NoMemory ≡ true
memory_leaves Idle = refl
memory_leaves (Open writer) = refl
memory_leaves (Aborted epoch) = refl

pub without_memory : (run : RunRecord) (step : SessionStep) (mode : Mode) (sentence : Sentence)
    → IsStep step mode sentence (entry.Refused step.session step.number 16 ∷ [])
    → IsReply run step (reply.Refused refusal.NoMemory)
without_memory run step mode sentence h =
    refused run step mode sentence refusal.NoMemory h (memory_leaves mode) no_memory (λ looked. absurd (both_ways false refl looked))

syntax_leaves : (mode : Mode) (at : ℕ) → leaves_refused mode (refusal.Syntax (record { at = at })) ≡ true
syntax_leaves Idle at = refl
syntax_leaves (Open writer) at = refl
syntax_leaves (Aborted epoch) at = refl

pub spells_none : (run : RunRecord) (step : SessionStep) (mode : Mode) (at : ℕ)
    → IsStep step mode (SaysNone at) (entry.Refused step.session step.number 1 ∷ [])
    → IsReply run step (reply.Refused (refusal.Syntax (record { at = at })))
spells_none run step mode at h =
    let r : Refusal = refusal.Syntax (record { at = at }) in
    refused run step mode (SaysNone at) r h (syntax_leaves mode at)
    (refused_first r (refused_at run (with_parts step mode (SaysNone at) (entry.Refused step.session step.number 1 ∷ [])) r
    (λ misfit. refl)))
    (λ looked. absurd (both_ways false refl looked))

-- What a mode refuses a statement for leaves a Refused, and where it was looked for a cube, the statement needs none.
mode_leaves : (mode : Mode) (s : Statement) (r : Refusal) → refused_by_mode mode s ≡ Some r
    → leaves_refused mode r ≡ true
mode_leaves Idle Commit r h = ap (leaves_refused Idle) (sym (same_Some refusal.NoTransaction r h))
mode_leaves Idle Rollback r h = ap (leaves_refused Idle) (sym (same_Some refusal.NoTransaction r h))
mode_leaves Idle s r h = absurd (none-some r h)
mode_leaves (Open writer) Begin r h =
    ap (leaves_refused (Open writer)) (sym (same_Some refusal.TransactionOpen r h))
mode_leaves (Open writer) (CreateCube d) r h =
    ap (leaves_refused (Open writer)) (sym (same_Some refusal.TransactionOpen r h))
mode_leaves (Open writer) s r h = absurd (none-some r h)
mode_leaves (Aborted epoch) Rollback r h = absurd (none-some r h)
mode_leaves (Aborted epoch) Flush r h = absurd (none-some r h)
mode_leaves (Aborted epoch) Purge r h = absurd (none-some r h)
mode_leaves (Aborted epoch) ShowEpochs r h = absurd (none-some r h)
mode_leaves (Aborted epoch) s r h =
    ap (leaves_refused (Aborted epoch)) (sym (same_Some refusal.TransactionAborted r h))

mode_cube : (run : RunRecord) (step : SessionStep) (mode : Mode) (s : Statement) (r : Refusal)
    → refused_by_mode mode s ≡ Some r → looked_for_cube (RefusedWith r) ≡ true → HasCube run step (cube_needed s)
mode_cube run step Idle Commit r h looked = tt
mode_cube run step Idle Rollback r h looked = tt
mode_cube run step Idle s r h looked = absurd (none-some r h)
mode_cube run step (Open writer) Begin r h looked = tt
mode_cube run step (Open writer) (CreateCube d) r h looked = tt
mode_cube run step (Open writer) s r h looked = absurd (none-some r h)
mode_cube run step (Aborted epoch) Rollback r h looked = absurd (none-some r h)
mode_cube run step (Aborted epoch) Flush r h looked = absurd (none-some r h)
mode_cube run step (Aborted epoch) Purge r h looked = absurd (none-some r h)
mode_cube run step (Aborted epoch) ShowEpochs r h looked = absurd (none-some r h)
mode_cube run step (Aborted epoch) s r h looked =
    absurd (both_ways false refl
    (ap (λ (x : Refusal). looked_for_cube (RefusedWith x)) (same_Some refusal.TransactionAborted r h) ∙ looked))

pub refused_by_its_mode : (run : RunRecord) (step : SessionStep) (mode : Mode) (s : Statement) (r : Refusal)
    → IsStep step mode (Says s) (entry.Refused step.session step.number (code r) ∷ [])
    → refused_by_mode mode s ≡ Some r → IsReply run step (reply.Refused r)
refused_by_its_mode run step mode s r h is =
    let p = with_parts step mode (Says s) (entry.Refused step.session step.number (code r) ∷ []) in
    refused run step mode (Says s) r h (mode_leaves mode s r is)
    (refused_first r (refused_at run p r
    (λ misfit i. first_some (is i ∷ refused_by_watch step.state.watch s ∷ told_unknown p.entries s
    ∷ option_map of_misfit misfit ∷ refused_declaration p.entries s ∷ []))))
    (mode_cube run p mode s r is)

name_leaves : (mode : Mode) (name : List ℕ) → leaves_refused mode (refusal.UnknownCube name) ≡ true
name_leaves Idle name = refl
name_leaves (Open writer) name = refl
name_leaves (Aborted epoch) name = refl

pub unknown_cube : (run : RunRecord) (step : SessionStep) (mode : Mode) (s : Statement) (name : List ℕ)
    → IsStep step mode (Says s) (entry.Refused step.session step.number 2 ∷ [])
    → refused_by_mode mode s ≡ None → refused_by_watch step.state.watch s ≡ None
    → cube_needed s ≡ Some name → IsReply run step (reply.Refused (refusal.UnknownCube name))
unknown_cube run step mode s name h may watch needs =
    let p = with_parts step mode (Says s) (entry.Refused step.session step.number 2 ∷ []) in
    let r : Refusal = refusal.UnknownCube name in
    refused run step mode (Says s) r h (name_leaves mode name)
    (refused_first r (refused_at run p r
    (λ misfit i. first_some (may i ∷ watch i ∷ option_map refusal.UnknownCube (needs i)
    ∷ option_map of_misfit misfit ∷ refused_declaration p.entries s ∷ []))))
    (λ looked. absurd (both_ways false refl looked))

-- A CREATE CUBE has no cube to fail on.
declared_at : (run : RunRecord) (step : SessionStep) (d : Decl) (r : Refusal) → step.sentence ≡ Says (CreateCube d)
    → bound_refusal step step.sentence None ≡ Some r → MayEnd (catalog_of run) step (RefusedWith r)
declared_at run step d r says is = refused_first r (record {
  binding = Some r;
  meets = record {
    misfit = None;
    is_misfit = subst (λ (s : Sentence). IsMisfitOf (catalog_of run) s None) (sym says) refl;
    is = is;
  };
  is = refl;
})

pub faulty_cube : (run : RunRecord) (step : SessionStep) (d : Decl) (fault : SchemaFault)
    → IsStep step Idle (Says (CreateCube d)) (entry.Refused step.session step.number 20 ∷ [])
    → schema_fault d ≡ Some fault → IsReply run step (reply.Refused (refusal.BadCube fault))
faulty_cube run step d fault h is =
    let p = with_parts step Idle (Says (CreateCube d)) (entry.Refused step.session step.number 20 ∷ []) in
    let r : Refusal = refusal.BadCube fault in
    let watch = no_watch step.state.watch (CreateCube d) refl (λ kept. refl) in
    refused run step Idle (Says (CreateCube d)) r h refl
    (declared_at run p d r refl
    (λ i. first_some (None ∷ watch i ∷ None ∷ None
    ∷ first_some (option_map refusal.BadCube (is i) ∷ None ∷ None ∷ []) ∷ [])))
    (λ looked. tt)

pub cube_exists : (run : RunRecord) (step : SessionStep) (d : Decl)
    → IsStep step Idle (Says (CreateCube d)) (entry.Refused step.session step.number 19 ∷ [])
    → schema_fault d ≡ None → IsReply run step (reply.Refused (refusal.CubeExists d.name))
cube_exists run step d h is =
    let p = with_parts step Idle (Says (CreateCube d)) (entry.Refused step.session step.number 19 ∷ []) in
    let r : Refusal = refusal.CubeExists d.name in
    let watch = no_watch step.state.watch (CreateCube d) refl (λ kept. refl) in
    refused run step Idle (Says (CreateCube d)) r h refl
    (declared_at run p d r refl
    (λ i. first_some (None ∷ watch i ∷ None ∷ None
    ∷ first_some (option_map refusal.BadCube (is i) ∷ Some r ∷ None ∷ []) ∷ [])))
    (λ looked. tt)

pub too_many_cubes : (run : RunRecord) (step : SessionStep) (d : Decl)
    → IsStep step Idle (Says (CreateCube d)) (entry.Refused step.session step.number 21 ∷ [])
    → schema_fault d ≡ None → IsReply run step (reply.Refused refusal.TooManyCubes)
too_many_cubes run step d h is =
    let p = with_parts step Idle (Says (CreateCube d)) (entry.Refused step.session step.number 21 ∷ []) in
    let r : Refusal = refusal.TooManyCubes in
    let watch = no_watch step.state.watch (CreateCube d) refl (λ kept. refl) in
    refused run step Idle (Says (CreateCube d)) r h refl
    (declared_at run p d r refl
    (λ i. first_some (None ∷ watch i ∷ None ∷ None
    ∷ first_some (option_map refusal.BadCube (is i) ∷ None ∷ Some r ∷ []) ∷ [])))
    (λ looked. tt)
