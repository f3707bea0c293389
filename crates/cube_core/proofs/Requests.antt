-- A session has its shards purge, and asks for a round.
use Rattle.std.proofs.Common.{◌≡◌, ◌∙◌, ℕ, ◌≤◌, Bool, true, false, not, ◌&&◌, [], ◌∷◌, Option, Some, if◌then◌else◌, refl, ap}
use Rattle.std.proofs.lemmas.Bool.{or_right}
use Rattle.cube_values.specs.declared.snapshot.Snapshot.{Snapshot}
use Rattle.cube_journal.specs.declared.note.Note.TheVariants as note
use Rattle.core_events.specs.Clients.{ClientState, after_client_call}
use Rattle.core_events.specs.Events.{Opening, Fetch, IsSession, Post}
use Rattle.core_events.specs.Fitting.{MayNote}
use Rattle.core_events.specs.Groups.{JobGroup, Flushes, Purges, has_all_below, has_ended, has_number, has_refusal, is_complete, is_empty, is_ready, is_spoiled, mails_of}
use Rattle.core_events.specs.Jobs.{Done, Flush, JobOutcome, Purge, StoreLost}
use Rattle.cube_core.specs.GroupEnds.{HasAllAnswers, MayBeginBy, with_round_answer}
use Rattle.cube_core.specs.HoldStates.{IsReadyWith}
use Rattle.cube_core.proofs.Groups.{in-group, ready-ended}
use Rattle.cube_core.proofs.Snapshots.{same-number}

-- Purges.

pub may-purge : (o : Opening) (a mail epoch : ℕ) (own : Option Snapshot) (k : ClientState) → IsSession o a
    → IsReadyWith o a own k → epoch ≤ k.lse → MayBeginBy o a mail (Purge epoch) k
may-purge o a mail epoch own k session r low = record {
  ended = ready-ended o.shards k.group r.ready;
  begins = r.ready;
  bears = λ g. (session.last, low);
}

purge-ready : (shards epoch : ℕ) (g : JobGroup) → HasAllAnswers shards (Purges epoch) g → is_ready shards g ≡ true
purge-ready shards epoch g all =
    (λ i. (is_empty (all.fetched.none_out i)
    && is_complete shards (all.fetched.kind_is i) (has_refusal g.answers) (mails_of g.answers))
    && not (is_spoiled (all.fetched.kind_is i) (has_refusal g.answers)))
    ∙ ap (λ (b : Bool). b && true) (or_right (has_refusal g.answers) (has_all_below shards (mails_of g.answers)) all.all)

pub purged : (o : Opening) (a epoch : ℕ) (own : Option Snapshot) (k : ClientState) (g : JobGroup)
    → IsReadyWith o a own k → HasAllAnswers o.shards (Purges epoch) g → IsReadyWith o a own (record k { group = g })
purged o a epoch own k g r all =
    record { holds = in-group a own k g r.holds; ready = purge-ready o.shards epoch g all }

pub may-note-purge : (o : Opening) (a statement epoch : ℕ) (k : ClientState) (g : JobGroup)
    → HasAllAnswers o.shards (Purges epoch) g → has_refusal g.answers ≡ false → has_number k.shown epoch ≡ true
    → MayNote o a (note.Purged a statement epoch) (record k { group = g })
may-note-purge o a statement epoch k g all none shown = (
  refl,
  record {
    purges = all.fetched.kind_is;
    done = record { all = all.all; fetched = ap is_empty all.fetched.none_out; none = none };
    shown = shown;
  },
)

-- Rounds.

pub may-ask : (o : Opening) (a mail : ℕ) (own : Option Snapshot) (k : ClientState) → IsSession o a
    → IsReadyWith o a own k → MayBeginBy o a mail Flush k
may-ask o a mail own k session r = record {
  ended = ready-ended o.shards k.group r.ready;
  begins = r.ready;
  bears = λ g. record { first = session.first; last = session.last };
}

pub learns : (o : Opening) (a mail : ℕ) (outcome : JobOutcome) (k : ClientState) → has_ended o.shards k.group ≡ true
    → after_client_call o a (Fetch mail outcome) (after_client_call o a (Post mail Flush) k)
    ≡ with_round_answer mail outcome k
learns o a mail outcome k ended =
    (λ i. after_client_call o a (Fetch mail outcome) (record k {
      group = if ended i then record { kind = Flushes; waits = mail ∷ []; answers = [] }
          else record k.group { waits = mail ∷ k.group.waits };
    }))
    ∙ (λ i. record k {
      group = record {
        kind = Flushes;
        waits = if not (same-number mail i) then mail ∷ [] else [];
        answers = record { mail = mail; answer = outcome } ∷ [];
      };
      flush = Some outcome;
    })

pub answered : (o : Opening) (a mail : ℕ) (outcome : JobOutcome) (own : Option Snapshot) (k : ClientState)
    → IsReadyWith o a own k → IsReadyWith o a own (with_round_answer mail outcome k)
answered o a mail outcome own k r =
    record { holds = record { held = r.holds.held; leader = r.holds.leader }; ready = refl }

pub may-note-round : (o : Opening) (a mail statement : ℕ) (k : ClientState)
    → MayNote o a (note.Flushed a statement) (with_round_answer mail Done k)
may-note-round o a mail statement k = (refl, refl)

pub may-refuse : (o : Opening) (a mail statement : ℕ) (k : ClientState)
    → MayNote o a (note.Refused a statement 17) (with_round_answer mail StoreLost k)
may-refuse o a mail statement k = (refl, record { other = refl; store = λ is. refl })
