-- A session opens and ends its own snapshot.
use Rattle.std.proofs.Common.{◌≡◌, ◌∙◌, ◌≢◌, ℕ, ◌==◌, Bool, true, false, ◌||◌, List, [], Option, Some, None, IsSomeAnd, inl, refl, sym, ap, subst, eq-eqb, ne_eqb, if◌then◌else◌}
use Rattle.std.specs.Option.{option_map_or}
use Rattle.std.proofs.lemmas.Option.{none-some}
use Rattle.cube_values.specs.declared.snapshot.Snapshot.{Snapshot}
use Rattle.cube_journal.specs.declared.journal_entry.AbortCause.{AbortCause}
use Rattle.core_cells.specs.declared.desk.DeskAnswer.{DeskAnswer}
use Rattle.core_cells.specs.declared.desk.DeskAnswer.TheVariants as answer
use Rattle.core_cells.specs.declared.desk.DeskCall.{DeskCall}
use Rattle.core_cells.specs.declared.desk.DeskCall.TheVariants as call
use Rattle.core_events.proofs.Lookups.{held-under-append, held-under-without, with_one, without_one}
use Rattle.core_events.specs.Clients.{Holding, ClientState, held_under, holds_with, holds_without, opening_client, others_hold, reader_up_to, writer_at}
use Rattle.core_events.specs.Events.{Opening, IsSession}
use Rattle.core_events.specs.Fitting.{FitsCall, OwnsWriter}
use Rattle.cube_core.specs.DeskEvents.{FitsDeskCall, desk_event, own_epoch}
use Rattle.cube_core.specs.HoldStates.{ComesTo, EndsOwn, HasRolledBack, IsIdle, IsReading, IsReadyWith, IsWriting, after_desk_call, with_own_entry}

pub same-number : (a : ℕ) → (a == a) ≡ true
same-number a = eq-eqb a a refl

-- One more snapshot under its own number, and none.
held-with : (a : ℕ) (s : Snapshot) (holds : List Holding) → held_under a holds ≡ None
    → held_under a (holds_with a s holds) ≡ Some s
held-with a s holds free =
    held-under-append holds (record { number = a; snapshot = s }) a ∙ (λ i. with_one (free i) (same-number a i) s)

held-without : (a : ℕ) (holds : List Holding) → held_under a (holds_without a holds) ≡ None
held-without a holds =
    held-under-without holds a a ∙ ap (λ (out : Bool). without_one out (held_under a holds)) (same-number a)

-- Behind an entry of its own it is ready, with what it now holds.
pub entered : (o : Opening) (a : ℕ) (own : Option Snapshot) (holds : List Holding) (k : ClientState)
    → held_under a holds ≡ own → k.leader ≢ Some a → IsReadyWith o a own (with_own_entry holds k)
entered o a own holds k held leader = record { holds = record { held = held; leader = leader }; ready = refl }

pub begins : (o : Opening) (a : ℕ) → IsIdle o a (opening_client o)
begins o a = record { holds = record { held = refl; leader = none-some a }; ready = refl }

-- It opens.

write-fits : (o : Opening) (a statement : ℕ) (k : ClientState) → IsSession o a → IsIdle o a k → (said : DeskAnswer)
    → FitsCall o a (desk_event a k (call.OpenWrite a statement) said) k
write-fits o a statement k session idle (answer.Opened s) =
    record { session = session; under = inl refl; free = idle.holds.held; ready = idle.ready }
write-fits o a statement k session idle said = tt

pub may-write : (o : Opening) (a statement : ℕ) (k : ClientState) → IsSession o a → IsIdle o a k
    → FitsDeskCall o a (call.OpenWrite a statement) k
may-write o a statement k session idle = record { number = refl; event = write-fits o a statement k session idle }

read-fits : (o : Opening) (a statement : ℕ) (k : ClientState) → IsSession o a → IsIdle o a k → (said : DeskAnswer)
    → FitsCall o a (desk_event a k (call.OpenRead a statement) said) k
read-fits o a statement k session idle (answer.Opened s) =
    record { session = session; under = inl refl; free = idle.holds.held; ready = idle.ready }
read-fits o a statement k session idle said = tt

pub may-read : (o : Opening) (a statement : ℕ) (k : ClientState) → IsSession o a → IsIdle o a k
    → FitsDeskCall o a (call.OpenRead a statement) k
may-read o a statement k session idle = record { number = tt; event = read-fits o a statement k session idle }

pub writes : (o : Opening) (a statement : ℕ) (s : Snapshot) (k : ClientState) → IsIdle o a k
    → ComesTo o a (call.OpenWrite a statement) (answer.Opened s) k
    (with_own_entry (holds_with a (writer_at s.epoch s.deps) k.holds) k) (IsWriting o a (writer_at s.epoch s.deps))
writes o a statement s k idle =
    let w = writer_at s.epoch s.deps in
    record {
      stands = record {
        ready = entered o a (Some w) (holds_with a w k.holds) k
            (held-with a w k.holds idle.holds.held) idle.holds.leader;
        writer = refl;
      };
      knows = refl;
    }

read-known : (o : Opening) (a statement : ℕ) (s : Snapshot) (k : ClientState)
    → after_desk_call o a (call.OpenRead a statement) (answer.Opened s) k
    ≡ with_own_entry (holds_with a (reader_up_to s.epoch) k.holds) k
read-known o a statement s k = λ i. record (with_own_entry (holds_with a (reader_up_to s.epoch) k.holds) k) {
  leader = if same-number a i || others_hold a k.holds then k.leader else Some a;
  flush = if same-number a i then None else k.flush;
  shown = if same-number a i then [] else k.shown;
}

pub reads : (o : Opening) (a statement : ℕ) (s : Snapshot) (k : ClientState) → IsIdle o a k
    → ComesTo o a (call.OpenRead a statement) (answer.Opened s) k
    (with_own_entry (holds_with a (reader_up_to s.epoch) k.holds) k) (IsReading o a (reader_up_to s.epoch))
reads o a statement s k idle =
    let r = reader_up_to s.epoch in
    let known = read-known o a statement s k in
    record {
      stands = subst (IsReading o a r) (sym known)
          (record {
            ready = entered o a (Some r) (holds_with a r k.holds) k
                (held-with a r k.holds idle.holds.held) idle.holds.leader;
            reader = refl;
          });
      knows = known;
    }

-- Without memory nothing changes.
pub no-memory : (o : Opening) (a : ℕ) (c : DeskCall) (k : ClientState) → after_desk_call o a c answer.NoMemory k ≡ k
no-memory o a (call.OpenWrite session statement) k = refl
no-memory o a (call.OpenRead number statement) k = refl
no-memory o a (call.Commit session statement) k = refl
no-memory o a (call.AbortEnd session statement cause) k = refl
no-memory o a (call.CloseRead number statement) k = refl
no-memory o a (call.Note note) k = refl
no-memory o a (call.CreateCube session statement decl) k = refl
no-memory o a (call.FindCube session statement name) k = refl
no-memory o a (call.CubesFrom place) k = refl
no-memory o a call.RoundOpen k = refl
no-memory o a (call.RoundClose epoch end) k = refl
no-memory o a call.Counters k = refl
no-memory o a call.StoreFailed k = refl

-- It ends.

own-epoch-is : (a : ℕ) (s : Snapshot) (k : ClientState) → held_under a k.holds ≡ Some s → own_epoch a k ≡ s.epoch
own-epoch-is a s k held = ap (λ (own : Option Snapshot). option_map_or (λ (h : Snapshot). h.epoch) own 0) held

pub owns-writer : (a epoch : ℕ) (s : Snapshot) (k : ClientState) → held_under a k.holds ≡ Some s → s.own ≡ true
    → s.epoch ≡ epoch → OwnsWriter a epoch k
owns-writer a epoch s k held writer at =
    subst (λ (own : Option Snapshot). IsSomeAnd own (λ h. (h.own ≡ true) × (h.epoch ≡ epoch))) (sym held) (writer, at)

ended : (o : Opening) (a : ℕ) (k : ClientState) → k.leader ≢ Some a
    → IsIdle o a (with_own_entry (holds_without a k.holds) k)
ended o a k leader = entered o a None (holds_without a k.holds) k (held-without a k.holds) leader

commit-fits : (o : Opening) (a statement : ℕ) (s : Snapshot) (k : ClientState) → IsSession o a → IsWriting o a s k
    → (said : DeskAnswer) → FitsCall o a (desk_event a k (call.Commit a statement) said) k
commit-fits o a statement s k session w answer.Done =
    let held = w.ready.holds.held in record {
      session = session;
      writer = owns-writer a (own_epoch a k) s k held w.writer (sym (own-epoch-is a s k held));
      ready = w.ready.ready;
    }
commit-fits o a statement s k session w said = tt

pub commits : (o : Opening) (a statement : ℕ) (s : Snapshot) (k : ClientState) → IsSession o a → IsWriting o a s k
    → EndsOwn o a (call.Commit a statement) k
commits o a statement s k session w = record {
  fits = record { number = refl; event = commit-fits o a statement s k session w };
  done = record { stands = ended o a k w.ready.holds.leader; knows = refl };
}

abort-fits : (o : Opening) (a statement : ℕ) (cause : AbortCause) (s : Snapshot) (k : ClientState) → IsSession o a
    → HasRolledBack o a s k → (said : DeskAnswer)
    → FitsCall o a (desk_event a k (call.AbortEnd a statement cause) said) k
abort-fits o a statement cause s k session r answer.Done =
    let held = r.holds.held in record {
      session = session;
      writer = owns-writer a (own_epoch a k) s k held r.writer (sym (own-epoch-is a s k held));
      rolls = r.rolls;
      done = r.done;
    }
abort-fits o a statement cause s k session r said = tt

pub aborts : (o : Opening) (a statement : ℕ) (cause : AbortCause) (s : Snapshot) (k : ClientState) → IsSession o a
    → HasRolledBack o a s k → EndsOwn o a (call.AbortEnd a statement cause) k
aborts o a statement cause s k session r = record {
  fits = record { number = refl; event = abort-fits o a statement cause s k session r };
  done = record { stands = ended o a k r.holds.leader; knows = refl };
}

close-fits : (o : Opening) (a statement : ℕ) (s : Snapshot) (k : ClientState) → IsSession o a → IsReading o a s k
    → (said : DeskAnswer) → FitsCall o a (desk_event a k (call.CloseRead a statement) said) k
close-fits o a statement s k session r answer.Done = record {
  session = session;
  under = inl refl;
  reader = subst (λ (own : Option Snapshot). IsSomeAnd own (λ h. h.own ≡ false)) (sym r.ready.holds.held) r.reader;
  ready = r.ready.ready;
}
close-fits o a statement s k session r said = tt

not-leading : (a : ℕ) (leader : Option ℕ) → leader ≢ Some a → option_map_or (λ l. l == a) leader false ≡ false
not-leading a None apart = refl
not-leading a (Some l) apart = ne_eqb l a (λ same. apart (ap Some same))

close-known : (o : Opening) (a statement : ℕ) (k : ClientState) → k.leader ≢ Some a
    → after_desk_call o a (call.CloseRead a statement) answer.Done k ≡ with_own_entry (holds_without a k.holds) k
close-known o a statement k leader = λ i. record (with_own_entry (holds_without a k.holds) k) {
  leader = if not-leading a k.leader leader i then None else k.leader;
  flush = if same-number a i then None else k.flush;
  shown = if same-number a i then [] else k.shown;
}

pub closes : (o : Opening) (a statement : ℕ) (s : Snapshot) (k : ClientState) → IsSession o a → IsReading o a s k
    → EndsOwn o a (call.CloseRead a statement) k
closes o a statement s k session r =
    let leader = r.ready.holds.leader in
    let known = close-known o a statement k leader in
    record {
      fits = record { number = tt; event = close-fits o a statement s k session r };
      done = record { stands = subst (IsIdle o a) (sym known) (ended o a k leader); knows = known };
    }
