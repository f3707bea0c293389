-- The operations of a transaction are those of its session's own calls.
use Rattle.std.proofs.Common.{◌≡◌, ◌⊎◌, ◌∙◌, ℕ, ◌≤◌, ◌==◌, Bool, true, false, List, [], ◌∷◌, inl, inr, refl, sym, ap, arith, eqb-true, if◌then◌else◌}
use Rattle.std.proofs.lemmas.Bool.{false≢true, eqb-false}
use Rattle.core_events.specs.ShardView.{RowMark}
use Rattle.core_events.specs.Events.{Opening, ClientCall, OnDesk, OnNames, Post, Fetch, CloseMail, NoChange, CoreEvent, By, At}
use Rattle.core_events.specs.Groups.{has_ended}
use Rattle.core_events.specs.Clients.{ClientState, client_state, state_from_calls, calls_of}
use Rattle.core_events.specs.Cells.{counters_of_run}
use Rattle.core_events.specs.Fitting.{FitsCall}
use Rattle.core_events.specs.Runs.{IsCoreRun}
use Rattle.core_events.specs.Serial.{CubeOperation, operations_after, operations_of}
use Rattle.core_events.proofs.Knowledge.{known-by-calls}
use Rattle.core_events.proofs.Finished.{or-is}
use Rattle.core_serial.specs.PostedEntries.{opens_writer, has_opened}
use Rattle.core_serial.proofs.Fates.{HasFate, fates-move}
use Rattle.core_serial.proofs.OwnPosts.{opens-next, post-other}
use Rattle.core_serial.proofs.PostedJobs.{fate-below}
use Rattle.core_serial.specs.OwnOperations.{operations_by_calls}
use Rattle.core_serial.proofs.PostedOperations.{other-operations, none-from-ec, job-fate, fate-call}

-- An epoch without a fate has no operations in a client's calls.

abbrev NoneOrFate : Opening → ℕ → List CoreEvent → List CubeOperation → ℕ → Type 0
NoneOrFate o cube es operations e = (operations ≡ []) ⊎ HasFate o es e

after-none : (o : Opening) (es : List CoreEvent) (b cube e : ℕ) (begins : Bool) (call : ClientCall) (operations : List CubeOperation)
    → IsCoreRun o (By b call ∷ es) → NoneOrFate o cube es operations e
    → NoneOrFate o cube es (operations_after cube e begins call operations) e
after-none o es b cube e begins (Post mail job) operations run (inr fate) = inr fate
after-none o es b cube e begins (Post mail job) operations run (inl none) = elim (job-fate o es b mail e job run.0 run.1.fits) [
  | inl other ↦ inl (other-operations cube e begins job operations other ∙ none)
  | inr fate ↦ inr fate
]
after-none o es b cube e begins (OnDesk call) operations run f = f
after-none o es b cube e begins (OnNames call) operations run f = f
after-none o es b cube e begins (Fetch mail answer) operations run f = f
after-none o es b cube e begins (CloseMail mail) operations run f = f
after-none o es b cube e begins NoChange operations run f = f

call-none : (own : Bool) (o : Opening) (es : List CoreEvent) (a b cube e : ℕ) (call : ClientCall) (calls : List ClientCall)
    → IsCoreRun o (By b call ∷ es) → NoneOrFate o cube es (operations_by_calls o a cube calls e) e
    → NoneOrFate o cube es (operations_by_calls o a cube (if own then call ∷ calls else calls) e) e
call-none true o es a b cube e call calls run f =
    after-none o es b cube e (has_ended o.shards (state_from_calls o a calls).group) call (operations_by_calls o a cube calls e) run f
call-none false o es a b cube e call calls run f = f

own-none : (o : Opening) (es : List CoreEvent) (a cube e : ℕ) → IsCoreRun o es
    → NoneOrFate o cube es (operations_by_calls o a cube (calls_of a es) e) e
own-none o [] a cube e run = inl refl
own-none o (By b call ∷ es) a cube e run = elim (call-none (b == a) o es a b cube e call (calls_of a es) run (own-none o es a cube e run.0)) [
  | inl none ↦ inl none
  | inr fate ↦ inr (fate-call o b call es e fate)
]
own-none o (At mail move ∷ es) a cube e run = elim (own-none o es a cube e run.0) [
  | inl none ↦ inl none
  | inr fate ↦ inr (fates-move o mail move es (RowMark e ∷ []) (fate, tt)).0
]

own-from-ec : (o : Opening) (es : List CoreEvent) (a cube e : ℕ) → IsCoreRun o es → (counters_of_run o es).ec ≤ e
    → operations_by_calls o a cube (calls_of a es) e ≡ []
own-from-ec o es a cube e run high = elim (own-none o es a cube e run) [
  | inl none ↦ none
  | inr fate ↦ absurd (let low = fate-below o es e run fate in omega (arith, low, high))
]

-- The call that opens a transaction is no operation.
opener-does-nothing : (cube e epoch : ℕ) (begins : Bool) (call : ClientCall) (operations : List CubeOperation) → opens_writer epoch call ≡ true
    → operations_after cube e begins call operations ≡ operations
opener-does-nothing cube e epoch begins (OnDesk call) operations is = refl
opener-does-nothing cube e epoch begins (OnNames call) operations is = refl
opener-does-nothing cube e epoch begins (Post mail job) operations is = absurd (false≢true is)
opener-does-nothing cube e epoch begins (Fetch mail answer) operations is = refl
opener-does-nothing cube e epoch begins (CloseMail mail) operations is = refl
opener-does-nothing cube e epoch begins NoChange operations is = refl

-- A call of a client that did not open the epoch.
call-other : (o : Opening) (es : List CoreEvent) (a b e cube : ℕ) (call : ClientCall) → IsCoreRun o es → FitsCall o b call (client_state o b es)
    → has_opened e (calls_of a es) ≡ true → (b ≡ a → ⊥) → operations_of o cube (By b call ∷ es) e ≡ operations_of o cube es e
call-other o es a b e cube (Post mail job) run f opened apart =
    other-operations cube e (has_ended o.shards (client_state o b es).group) job (operations_of o cube es e)
    (post-other o es a b e mail job run f opened apart)
call-other o es a b e cube (OnDesk call) run f opened apart = refl
call-other o es a b e cube (OnNames call) run f opened apart = refl
call-other o es a b e cube (Fetch mail answer) run f opened apart = refl
call-other o es a b e cube (CloseMail mail) run f opened apart = refl
call-other o es a b e cube NoChange run f opened apart = refl

step-own : (own : Bool) (o : Opening) (es : List CoreEvent) (a b e cube : ℕ) (call : ClientCall) → (b == a) ≡ own → IsCoreRun o (By b call ∷ es)
    → (has_opened e (calls_of a es) ≡ true → operations_of o cube es e ≡ operations_by_calls o a cube (calls_of a es) e)
    → has_opened e (if own then call ∷ calls_of a es else calls_of a es) ≡ true
    → operations_of o cube (By b call ∷ es) e ≡ operations_by_calls o a cube (if own then call ∷ calls_of a es else calls_of a es) e
step-own true o es a b e cube call is run before opened =
    let calls = calls_of a es in
    let begins = has_ended o.shards (state_from_calls o a calls).group in
    let same : operations_of o cube (By b call ∷ es) e ≡ operations_after cube e begins call (operations_of o cube es e) =
    ap (λ (k : ClientState). operations_after cube e (has_ended o.shards k.group) call (operations_of o cube es e))
    (ap (λ (c : ℕ). client_state o c es) (eqb-true b a is) ∙ known-by-calls o a es)
    in
    elim (or-is (opens_writer e call) (has_opened e calls) opened) [
      | inl new ↦
          (let next = (opens-next o b e call es run new).0 in
          same
          ∙ opener-does-nothing cube e e begins call (operations_of o cube es e) new
          ∙ none-from-ec o es cube e run.0 (omega (arith, next))
          ∙ sym (own-from-ec o es a cube e run.0 (omega (arith, next)))
          ∙ sym (opener-does-nothing cube e e begins call (operations_by_calls o a cube calls e) new))
      | inr old ↦ same ∙ ap (operations_after cube e begins call) (before old)
    ]
step-own false o es a b e cube call is run before opened =
    call-other o es a b e cube call run.0 run.1.fits opened (eqb-false b a is) ∙ before opened

pub own-operations : (o : Opening) (es : List CoreEvent) (a e cube : ℕ) → IsCoreRun o es → has_opened e (calls_of a es) ≡ true
    → operations_of o cube es e ≡ operations_by_calls o a cube (calls_of a es) e
own-operations o [] a e cube run opened = absurd (false≢true opened)
own-operations o (By b call ∷ es) a e cube run opened =
    step-own (b == a) o es a b e cube call refl run (own-operations o es a e cube run.0) opened
own-operations o (At mail move ∷ es) a e cube run opened = own-operations o es a e cube run.0 opened
