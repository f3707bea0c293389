-- Plain calls are such of any statement. The calls of a statement add no operation, and speak by its script.
use Rattle.std.proofs.Common.{◌≡◌, ◌∙◌, ℕ, List, [], ◌∷◌, ◌++◌, Option, Some, refl, sym, ap, subst, unwrap_or}
use Rattle.std.specs.List.{AllByRecursion}
use Rattle.std.specs.Option.{IsSomeAnd}
use Rattle.std.proofs.lemmas.Option.{none-some}
use Rattle.aosi_desk.specs.declared.cube.CubeFound.TheVariants.{Found, Unknown}
use Rattle.core_cubes.specs.StatementCalls.{IsCallFor, PostsNoChange, SpeaksFor}
use Rattle.core_events.specs.Events.{Opening, OpenWrite, OpenRead, Commit, AbortEnd, CloseRead, TakeNote, CreateCube, FindCube, CubesFrom, CountersNow, RoundOpen, RoundClose, StoreFailed, Encode, FindName, CopyFrom, ClientCall, OnDesk, OnNames, Post, Fetch, CloseMail, NoChange}
use Rattle.core_events.specs.Jobs.{Append, DropBox, Scan, Delta, Rollback, Purge, CopyRound, Flush}
use Rattle.core_records.specs.ScriptedCalls.{SpeaksByScript, statement_in}
use Rattle.core_serial.specs.OwnOperations.{operations_by_calls}
use Rattle.core_states.specs.LeftBehind.{AsksForNone, IsPlainCall, LeavesReaders}
use Rattle.cube_language.specs.declared.statement.Statement.{Statement}
use Rattle.cube_language.specs.declared.statement.Statement.TheVariants as asked
use Rattle.cube_run.specs.RunRecords.{Sentence, cube_needed, name_spoken_of}

plain-speaks : (number : ℕ) (s : Statement) (c : ClientCall) → IsPlainCall c → SpeaksFor number s c
plain-speaks number s (OnDesk (CreateCube statement decl said)) plain = absurd plain
plain-speaks number s (OnDesk (FindCube statement name Unknown)) plain = absurd plain
plain-speaks number s (OnDesk (FindCube statement name (Found place decl))) plain = tt
plain-speaks number s (OnDesk (OpenWrite statement epoch deps)) plain = tt
plain-speaks number s (OnDesk (OpenRead holder statement epoch)) plain = tt
plain-speaks number s (OnDesk (Commit statement epoch)) plain = tt
plain-speaks number s (OnDesk (AbortEnd statement epoch cause)) plain = tt
plain-speaks number s (OnDesk (CloseRead holder statement)) plain = tt
plain-speaks number s (OnDesk (TakeNote note counters)) plain = tt
plain-speaks number s (OnDesk (CubesFrom place cubes)) plain = tt
plain-speaks number s (OnDesk (CountersNow counters)) plain = tt
plain-speaks number s (OnDesk (RoundOpen answer)) plain = tt
plain-speaks number s (OnDesk (RoundClose epoch end)) plain = tt
plain-speaks number s (OnDesk (StoreFailed failed)) plain = tt
plain-speaks number s (OnNames c) plain = tt
plain-speaks number s (Post mail job) plain = tt
plain-speaks number s (Fetch mail said) plain = tt
plain-speaks number s (CloseMail mail) plain = tt
plain-speaks number s NoChange plain = tt

plain-posts : (c : ClientCall) → IsPlainCall c → PostsNoChange c
plain-posts (OnDesk c) plain = tt
plain-posts (OnNames c) plain = tt
plain-posts (Post mail (Append cube epoch rows)) plain = absurd plain
plain-posts (Post mail (DropBox cube epoch box)) plain = absurd plain
plain-posts (Post mail (Scan query s)) plain = tt
plain-posts (Post mail (Delta query from to)) plain = tt
plain-posts (Post mail (Rollback at)) plain = tt
plain-posts (Post mail (Purge at)) plain = tt
plain-posts (Post mail (CopyRound from to)) plain = tt
plain-posts (Post mail Flush) plain = tt
plain-posts (Fetch mail said) plain = tt
plain-posts (CloseMail mail) plain = tt
plain-posts NoChange plain = tt

plain-readers : (c : ClientCall) → IsPlainCall c → LeavesReaders c
plain-readers (OnDesk (OpenRead holder statement epoch)) plain = absurd plain
plain-readers (OnDesk (CloseRead holder statement)) plain = absurd plain
plain-readers (OnDesk (OpenWrite statement epoch deps)) plain = tt
plain-readers (OnDesk (Commit statement epoch)) plain = tt
plain-readers (OnDesk (AbortEnd statement epoch cause)) plain = tt
plain-readers (OnDesk (TakeNote note counters)) plain = tt
plain-readers (OnDesk (CreateCube statement decl said)) plain = tt
plain-readers (OnDesk (FindCube statement name found)) plain = tt
plain-readers (OnDesk (CubesFrom place cubes)) plain = tt
plain-readers (OnDesk (CountersNow counters)) plain = tt
plain-readers (OnDesk (RoundOpen answer)) plain = tt
plain-readers (OnDesk (RoundClose epoch end)) plain = tt
plain-readers (OnDesk (StoreFailed failed)) plain = tt
plain-readers (OnNames c) plain = tt
plain-readers (Post mail job) plain = tt
plain-readers (Fetch mail said) plain = tt
plain-readers (CloseMail mail) plain = tt
plain-readers NoChange plain = tt

pub plain-asks : (c : ClientCall) → IsPlainCall c → AsksForNone c
plain-asks (OnNames (Encode cube dim name code)) plain = absurd plain
plain-asks (OnNames (FindName cube dim name number)) plain = tt
plain-asks (OnNames (CopyFrom cube dim from names)) plain = tt
plain-asks (OnDesk c) plain = tt
plain-asks (Post mail job) plain = tt
plain-asks (Fetch mail said) plain = tt
plain-asks (CloseMail mail) plain = tt
plain-asks NoChange plain = tt

pub plain-for : (number : ℕ) (s : Statement) (c : ClientCall) → IsPlainCall c → IsCallFor number s c
plain-for number s c plain = record {
  speaks = plain-speaks number s c plain;
  posts = plain-posts c plain;
  asks = plain-asks c plain;
  readers = plain-readers c plain;
}

-- A statement that needs a cube speaks of its name.
pub spoken : (s : Statement) (name : List ℕ) → cube_needed s ≡ Some name → name_spoken_of s ≡ name
spoken (asked.CreateCube decl) name needs = absurd (none-some name needs)
spoken s name needs = ap (λ (o : Option (List ℕ)). unwrap_or o []) needs

pub no-operation : (o : Opening) (session cube epoch number : ℕ) (s : Statement) (added past : List ClientCall)
    → AllByRecursion (IsCallFor number s) added
    → operations_by_calls o session cube (added ++ past) epoch ≡ operations_by_calls o session cube past epoch
no-operation o session cube epoch number s [] past each = refl
no-operation o session cube epoch number s (OnDesk c ∷ added) past each =
    no-operation o session cube epoch number s added past each.1
no-operation o session cube epoch number s (OnNames c ∷ added) past each =
    no-operation o session cube epoch number s added past each.1
no-operation o session cube epoch number s (Fetch mail said ∷ added) past each =
    no-operation o session cube epoch number s added past each.1
no-operation o session cube epoch number s (CloseMail mail ∷ added) past each =
    no-operation o session cube epoch number s added past each.1
no-operation o session cube epoch number s (NoChange ∷ added) past each =
    no-operation o session cube epoch number s added past each.1
no-operation o session cube epoch number s (Post mail (Append other at rows) ∷ added) past each = absurd each.0.posts
no-operation o session cube epoch number s (Post mail (DropBox other at box) ∷ added) past each = absurd each.0.posts
no-operation o session cube epoch number s (Post mail (Scan query snapshot) ∷ added) past each =
    no-operation o session cube epoch number s added past each.1
no-operation o session cube epoch number s (Post mail (Delta query from to) ∷ added) past each =
    no-operation o session cube epoch number s added past each.1
no-operation o session cube epoch number s (Post mail (Rollback at) ∷ added) past each =
    no-operation o session cube epoch number s added past each.1
no-operation o session cube epoch number s (Post mail (Purge at) ∷ added) past each =
    no-operation o session cube epoch number s added past each.1
no-operation o session cube epoch number s (Post mail (CopyRound from to) ∷ added) past each =
    no-operation o session cube epoch number s added past each.1
no-operation o session cube epoch number s (Post mail Flush ∷ added) past each =
    no-operation o session cube epoch number s added past each.1

module _ (script : List Sentence) (number : ℕ) (s : Statement) (stands : statement_in script number ≡ Some s) where
  at-number : (statement : ℕ) → statement ≡ number → statement_in script statement ≡ Some s
  at-number statement is = ap (statement_in script) is ∙ stands

  one-speaks : (c : ClientCall) → SpeaksFor number s c → SpeaksByScript script c
  one-speaks (OnDesk (CreateCube statement decl said)) is =
      at-number statement is.0 ∙ ap (λ (x : Statement). Some x) is.1
  one-speaks (OnDesk (FindCube statement name Unknown)) is =
      subst (λ (o : Option Statement). IsSomeAnd o (λ x. name_spoken_of x ≡ name)) (sym (at-number statement is.0)) is.1
  one-speaks (OnDesk (FindCube statement name (Found place decl))) is = tt
  one-speaks (OnDesk (OpenWrite statement epoch deps)) is = tt
  one-speaks (OnDesk (OpenRead holder statement epoch)) is = tt
  one-speaks (OnDesk (Commit statement epoch)) is = tt
  one-speaks (OnDesk (AbortEnd statement epoch cause)) is = tt
  one-speaks (OnDesk (CloseRead holder statement)) is = tt
  one-speaks (OnDesk (TakeNote note counters)) is = tt
  one-speaks (OnDesk (CubesFrom place cubes)) is = tt
  one-speaks (OnDesk (CountersNow counters)) is = tt
  one-speaks (OnDesk (RoundOpen answer)) is = tt
  one-speaks (OnDesk (RoundClose epoch end)) is = tt
  one-speaks (OnDesk (StoreFailed failed)) is = tt
  one-speaks (OnNames c) is = tt
  one-speaks (Post mail job) is = tt
  one-speaks (Fetch mail said) is = tt
  one-speaks (CloseMail mail) is = tt
  one-speaks NoChange is = tt

  pub all-speak : (added past : List ClientCall) → AllByRecursion (IsCallFor number s) added
      → AllByRecursion (SpeaksByScript script) past → AllByRecursion (SpeaksByScript script) (added ++ past)
  all-speak [] past each before = before
  all-speak (c ∷ added) past each before = (one-speaks c each.0.speaks, all-speak added past each.1 before)
