-- A session's groups of jobs, before the first job and after the last answer.
use Rattle.std.proofs.Common.{◌≡◌, ◌∙◌, ◌⊎◌, ℕ, ◌<◌, Bool, true, false, not, ◌&&◌, List, length, All, Option, Some, inl, inr, refl, ap}
use Rattle.std.proofs.lemmas.Bool.{and_parts, or_right}
use Rattle.std.proofs.lemmas.List.Elements.{All-weaker}
use Rattle.cube_values.specs.declared.query.BoundQuery.{BoundQuery}
use Rattle.cube_values.specs.declared.row.CodedRow.{CodedRow}
use Rattle.cube_values.specs.declared.snapshot.Snapshot.{Snapshot}
use Rattle.cube_values.specs.declared.span.Span.{Span}
use Rattle.core_events.specs.Cells.{sizes_of_cube}
use Rattle.core_events.specs.Clients.{ClientState}
use Rattle.core_events.specs.Events.{Opening, IsSession}
use Rattle.core_events.specs.Fitting.{CutsNoBrick, IsQueryOf, MayPutRow}
use Rattle.core_events.specs.Groups.{Asks, Drops, GroupKind, JobGroup, Puts, RollsBack, has_all_below, has_ended, has_refusal, is_complete, is_empty, is_ready, is_spoiled, mails_of}
use Rattle.core_events.specs.Jobs.{Append, DropBox, Rollback, Scan}
use Rattle.cube_core.specs.GroupEnds.{HasAllAnswers, HasWritten, MayBeginBy}
use Rattle.cube_core.specs.HoldStates.{HasRolledBack, HasSpoiledWrite, HoldsOwn, IsReadyWith, IsWriting}
use Rattle.cube_core.proofs.Snapshots.{owns-writer}

-- A group that is ready has ended.
pub ready-ended : (shards : ℕ) (g : JobGroup) → is_ready shards g ≡ true → has_ended shards g ≡ true
ready-ended shards g ready = (and_parts (has_ended shards g) (not (is_spoiled g.kind (has_refusal g.answers))) ready).0

-- In another group the session holds what it held.
pub in-group : (a : ℕ) (own : Option Snapshot) (k : ClientState) (g : JobGroup) → HoldsOwn a own k
    → HoldsOwn a own (record k { group = g })
in-group a own k g holds = record { held = holds.held; leader = holds.leader }

-- Scans.

pub may-scan : (o : Opening) (a mail : ℕ) (query : BoundQuery) (s : Snapshot) (k : ClientState) → IsSession o a
    → IsReadyWith o a (Some s) k → IsQueryOf o query k → MayBeginBy o a mail (Scan query s) k
may-scan o a mail query s k session r sound = record {
  ended = ready-ended o.shards k.group r.ready;
  begins = r.ready;
  bears = λ g. record {
    session = session;
    sound = record { there = sound.there; sound = sound.sound };
    held = inl r.holds.held;
  };
}

scan-ready : (shards : ℕ) (query : BoundQuery) (s : Snapshot) (g : JobGroup) → HasAllAnswers shards (Asks query s) g
    → is_ready shards g ≡ true
scan-ready shards query s g all =
    (λ i. (is_empty (all.fetched.none_out i)
    && is_complete shards (all.fetched.kind_is i) (has_refusal g.answers) (mails_of g.answers))
    && not (is_spoiled (all.fetched.kind_is i) (has_refusal g.answers)))
    ∙ ap (λ (b : Bool). b && true) (or_right (has_refusal g.answers) (has_all_below shards (mails_of g.answers)) all.all)

pub scanned : (o : Opening) (a : ℕ) (query : BoundQuery) (s : Snapshot) (own : Option Snapshot) (k : ClientState)
    (g : JobGroup) → IsReadyWith o a own k → HasAllAnswers o.shards (Asks query s) g
    → IsReadyWith o a own (record k { group = g })
scanned o a query s own k g r all =
    record { holds = in-group a own k g r.holds; ready = scan-ready o.shards query s g all }

-- Writes.

pub may-put : (o : Opening) (a mail cube : ℕ) (rows : List CodedRow) (s : Snapshot) (k : ClientState) → IsSession o a
    → IsWriting o a s k → cube < k.cubes → All (MayPutRow o cube mail k) rows
    → MayBeginBy o a mail (Append cube s.epoch rows) k
may-put o a mail cube rows s k session w there of_cube = record {
  ended = ready-ended o.shards k.group w.ready.ready;
  begins = w.ready.ready;
  bears = λ g. record {
    session = session;
    writer = owns-writer a s.epoch s k w.ready.holds.held w.writer refl;
    there = there;
    of_cube = All-weaker (MayPutRow o cube mail k) (MayPutRow o cube mail (record k { group = g }))
        (λ row may. record { coords = may.coords; of_shard = may.of_shard; metrics = may.metrics; names = may.names })
        rows of_cube;
  };
}

pub may-delete : (o : Opening) (a mail cube : ℕ) (box : Span) (s : Snapshot) (k : ClientState) → IsSession o a
    → IsWriting o a s k → cube < k.cubes → length box.parts ≡ length (sizes_of_cube o cube) → CutsNoBrick o cube box
    → MayBeginBy o a mail (DropBox cube s.epoch box) k
may-delete o a mail cube box s k session w there parts aligned = record {
  ended = ready-ended o.shards k.group w.ready.ready;
  begins = w.ready.ready;
  bears = λ g. record {
    session = session;
    writer = owns-writer a s.epoch s k w.ready.holds.held w.writer refl;
    there = there;
    parts = parts;
    aligned = aligned;
  };
}

-- What is left of a group that wrote.
record IsWholeWrite (shards : ℕ) (g : JobGroup) : Type 0 where
  ended : has_ended shards g ≡ true
  spoils : is_spoiled g.kind (has_refusal g.answers) ≡ has_refusal g.answers

whole : (shards : ℕ) (kind : GroupKind) (g : JobGroup) → HasWritten shards kind g → IsWholeWrite shards g
whole shards Puts g h = record {
  ended = λ i. is_empty (h.none_out i) && is_complete shards (h.kind_is i) (has_refusal g.answers) (mails_of g.answers);
  spoils = ap (λ (kind : GroupKind). is_spoiled kind (has_refusal g.answers)) h.kind_is;
}
whole shards (Drops cube box) g h = record {
  ended =
      (λ i. is_empty (h.fetched.none_out i)
      && is_complete shards (h.fetched.kind_is i) (has_refusal g.answers) (mails_of g.answers))
      ∙ or_right (has_refusal g.answers) (has_all_below shards (mails_of g.answers)) h.all;
  spoils = ap (λ (kind : GroupKind). is_spoiled kind (has_refusal g.answers)) h.fetched.kind_is;
}
whole shards kind g h = absurd h

pub written : (o : Opening) (a : ℕ) (s : Snapshot) (k : ClientState) (kind : GroupKind) (g : JobGroup)
    → IsWriting o a s k → HasWritten o.shards kind g → has_refusal g.answers ≡ false
    → IsWriting o a s (record k { group = g })
written o a s k kind g w h none =
    let done = whole o.shards kind g h in
    record {
      ready = record {
        holds = in-group a (Some s) k g w.ready.holds;
        ready = λ i. done.ended i && not ((done.spoils ∙ none) i);
      };
      writer = w.writer;
    }

pub spoiled : (o : Opening) (a : ℕ) (s : Snapshot) (k : ClientState) (kind : GroupKind) (g : JobGroup)
    → IsWriting o a s k → HasWritten o.shards kind g → has_refusal g.answers ≡ true
    → HasSpoiledWrite o a s (record k { group = g })
spoiled o a s k kind g w h some =
    let done = whole o.shards kind g h in
    record {
      holds = in-group a (Some s) k g w.ready.holds;
      writer = w.writer;
      ended = done.ended;
      spoiled = done.spoils ∙ some;
    }

-- Rollbacks.

record IsEndedWriter (o : Opening) (a : ℕ) (s : Snapshot) (k : ClientState) : Type 0 where
  holds : HoldsOwn a (Some s) k
  writer : s.own ≡ true
  ended : has_ended o.shards k.group ≡ true

ended-writer : (o : Opening) (a : ℕ) (s : Snapshot) (k : ClientState) → IsWriting o a s k ⊎ HasSpoiledWrite o a s k
    → IsEndedWriter o a s k
ended-writer o a s k (inl w) =
    record { holds = w.ready.holds; writer = w.writer; ended = ready-ended o.shards k.group w.ready.ready }
ended-writer o a s k (inr w) = record { holds = w.holds; writer = w.writer; ended = w.ended }

pub may-roll-back : (o : Opening) (a mail : ℕ) (s : Snapshot) (k : ClientState) → IsSession o a
    → IsWriting o a s k ⊎ HasSpoiledWrite o a s k → MayBeginBy o a mail (Rollback s.epoch) k
may-roll-back o a mail s k session h =
    let w = ended-writer o a s k h in
    record {
      ended = w.ended;
      begins = w.ended;
      bears = λ g. (session, owns-writer a s.epoch s k w.holds.held w.writer refl);
    }

pub rolled-back : (o : Opening) (a : ℕ) (s : Snapshot) (k : ClientState) (g : JobGroup)
    → IsWriting o a s k ⊎ HasSpoiledWrite o a s k → HasAllAnswers o.shards RollsBack g → has_refusal g.answers ≡ false
    → HasRolledBack o a s (record k { group = g })
rolled-back o a s k g h all none =
    let w = ended-writer o a s k h in
    record {
      holds = in-group a (Some s) k g w.holds;
      writer = w.writer;
      rolls = all.fetched.kind_is;
      done = record { all = all.all; fetched = ap is_empty all.fetched.none_out; none = none };
    }
