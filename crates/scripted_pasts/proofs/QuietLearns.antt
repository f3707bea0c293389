-- Plain calls are quiet. Quiet calls add no operation, speak by any script, and leave entries one after the other.
use Rattle.std.proofs.Common.{◌∙◌, ℕ, List, [], ◌∷◌, ◌++◌, refl, ap, subst, append_assoc}
use Rattle.std.specs.List.{AllByRecursion}
use Rattle.core_program.specs.ClientCalls.{desk_entry}
use Rattle.core_cells.specs.declared.desk.DeskAnswer.TheVariants as answer
use Rattle.core_cells.specs.declared.desk.DeskCall.TheVariants as desk
use Rattle.core_cubes.proofs.CallsForStatements.{plain-asks}
use Rattle.core_cubes.proofs.CallsGoOn.{adds-by-call, go-on-as, go-on-by-call, go-on-then}
use Rattle.core_events.specs.Events.{Opening, ClientCall, OnDesk, OnNames, Post, Fetch, CloseMail, NoChange}
use Rattle.core_events.specs.Jobs.{CoreJob, Append, DropBox, Scan, Delta, Rollback, Purge, CopyRound, Flush, JobOutcome}
use Rattle.core_events.specs.Clients.{calls_of}
use Rattle.core_events.specs.ShardView.{ShardView}
use Rattle.core_states.specs.OwnCalls.{OwnCallsLeave}
use Rattle.core_program.specs.CoreFits.{CoreEntry}
use Rattle.core_program.specs.Knowing.{IsClientOf}
use Rattle.core_records.specs.ScriptedCalls.{SpeaksByScript}
use Rattle.core_serial.specs.OwnOperations.{operations_by_calls}
use Rattle.core_states.proofs.PlainCalls.{speak-by-script}
use Rattle.core_states.proofs.LeftCalls.{longer-front}
use Rattle.core_states.specs.LeftBehind.{AddsCalls, AsksForNone, GoOnByCalls, IsPlainCall, LeavesBehind}
use Rattle.cube_core.specs.declared.cell.CoreCell.{CoreCell}
use Rattle.cube_core.specs.declared.shard.ShardAnswer.{ShardAnswer}
use Rattle.cube_core.specs.declared.shard.ShardCall.{ShardCall}
use Rattle.cube_journal.specs.declared.journal_entry.JournalEntry.{JournalEntry}
use Rattle.cube_journal.specs.declared.journal_entry.JournalEntry.TheVariants as entry
use Rattle.cube_run.specs.RunRecords.{Sentence}
use Rattle.posted_pasts.proofs.AddedCalls.{without-changes}
use Rattle.posted_pasts.specs.PostsAdded.{AddsNoOperation, LearnsThat, PostsNoChange}
use Rattle.scripted_pasts.specs.QuietCalls.{IsQuietCall, LeavesQuietly}

plain-posts : (c : ClientCall) → IsPlainCall c → PostsNoChange c
plain-posts (OnDesk c) plain = tt
plain-posts (OnNames c) plain = tt
plain-posts (Post mail (Append cube epoch rows)) plain = absurd plain
plain-posts (Post mail (DropBox cube epoch box)) plain = absurd plain
plain-posts (Post mail (Scan query s)) plain = tt
plain-posts (Post mail (Delta query from to)) plain = tt
plain-posts (Post mail (Rollback at)) plain = tt
plain-posts (Post mail (Purge at)) plain = tt
plain-posts (Post mail (CopyRound from to)) plain = tt
plain-posts (Post mail Flush) plain = tt
plain-posts (Fetch mail said) plain = tt
plain-posts (CloseMail mail) plain = tt
plain-posts NoChange plain = tt

pub plain-is-quiet : (c : ClientCall) → IsPlainCall c → IsQuietCall c
plain-is-quiet c plain = record {
  posts = plain-posts c plain;
  asks = plain-asks c plain;
  speaks = λ script. (speak-by-script script (c ∷ []) [] (plain, tt) tt).0;
}

each-posts : (added : List ClientCall) → AllByRecursion IsQuietCall added → AllByRecursion PostsNoChange added
each-posts [] each = tt
each-posts (c ∷ added) each = (each.0.posts, each-posts added each.1)

pub quiet-speak : (script : List Sentence) (added past : List ClientCall) → AllByRecursion IsQuietCall added
    → AllByRecursion (SpeaksByScript script) past → AllByRecursion (SpeaksByScript script) (added ++ past)
quiet-speak script [] past each before = before
quiet-speak script (c ∷ added) past each before =
    (each.0.speaks script, quiet-speak script added past each.1 before)

module _ {S : Type 0} (fits : Opening → ℕ → ShardCall → Type 0) (stands : Opening → ℕ → ℕ → S → ShardView → Type 0)
    (says : CoreJob → ShardAnswer → JobOutcome → Type 0) (cells : List (CoreCell S)) (caller session : ℕ) where
  -- Calls of a kind that adds no operation add none.
  pub kind-learns : (Is : ClientCall → Type 0) (own now : List CoreEntry)
      → ((o : Opening) (added past : List ClientCall) → AllByRecursion Is added
      → AddsNoOperation session o past (added ++ past))
      → GoOnByCalls fits stands says cells caller session Is own now
      → LearnsThat fits stands says AddsNoOperation cells caller session own now
  kind-learns Is own now none goes = λ o log run es later are.
      let a : AddsCalls fits stands says Is o session own es = goes o log run es later are in
      record {
        before = a.before;
        events = a.events;
        adds = λ cube epoch.
            ap (λ (calls : List ClientCall). operations_by_calls o session cube calls epoch) a.calls
            ∙ none o a.added (calls_of session a.before) a.each cube epoch;
      }

  pub quiet-learns : (own now : List CoreEntry)
      → GoOnByCalls fits stands says cells caller session IsQuietCall own now
      → LearnsThat fits stands says AddsNoOperation cells caller session own now
  quiet-learns own now goes =
      kind-learns IsQuietCall own now
      (λ o added past each. without-changes o session added past (each-posts added each)) goes

  pub quiet-asks : (own now : List CoreEntry)
      → GoOnByCalls fits stands says cells caller session IsQuietCall own now
      → GoOnByCalls fits stands says cells caller session AsksForNone own now
  quiet-asks own now goes =
      go-on-as fits stands says cells caller session IsQuietCall AsksForNone own now (λ c quiet. quiet.asks) goes

  abbrev Quietly : List CoreEntry → List CoreEntry → List JournalEntry → Type 0
  Quietly own now added = LeavesQuietly fits stands says cells caller session own now added

  pub quietly-by-plain : (own now : List CoreEntry) (added : List JournalEntry)
      → LeavesBehind fits stands says cells caller session own now added → Quietly own now added
  quietly-by-plain own now added left = record {
    more = left.more;
    entries = left.entries;
    calls = go-on-as fits stands says cells caller session IsPlainCall IsQuietCall own now plain-is-quiet left.plain;
  }

  pub quietly-closed : (holder statement : ℕ) (own : List CoreEntry)
      → IsClientOf fits stands says cells caller session
      → Quietly own (own ++ desk_entry caller (desk.CloseRead holder statement) answer.Done ∷ [])
      (entry.ReadEnd holder statement ∷ [])
  quietly-closed holder statement own acts =
      let close = desk_entry caller (desk.CloseRead holder statement) answer.Done in
      record {
        more = (close ∷ [], refl);
        entries =
            adds-by-call fits stands says cells caller session acts own (own ++ close ∷ [])
            (desk.CloseRead holder statement) answer.Done refl 0 (λ o log run es later are. tt);
        calls =
            go-on-by-call fits stands says cells caller session acts own (own ++ close ∷ [])
            (desk.CloseRead holder statement) answer.Done refl IsQuietCall
            (λ k. record { posts = tt; asks = tt; speaks = λ script. tt });
      }

  pub quietly-then : (own mid now : List CoreEntry) (added more : List JournalEntry) → Quietly own mid added
      → Quietly mid now more → Quietly own now (added ++ more)
  quietly-then own mid now added more one two = record {
    more = longer-front own mid now one.more two.more;
    entries = λ entries leave.
        subst (λ (es : List JournalEntry). OwnCallsLeave fits stands says cells caller session now es)
        (append_assoc entries added more) (two.entries (entries ++ added) (one.entries entries leave));
    calls = go-on-then fits stands says cells caller session IsQuietCall own mid now two.more one.calls two.calls;
  }
