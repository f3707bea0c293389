-- A session's own snapshot stays when its holders open and close readers, and these stay by its other calls.
use Rattle.std.proofs.Common.{◌≡◌, ◌∙◌, ◌≢◌, ℕ, ◌==◌, Bool, true, false, ◌||◌, List, Option, Some, None, inl, inr, if◌then◌else◌, refl, sym, ap, subst}
use Rattle.std.specs.Option.{option_map_or}
use Rattle.std.proofs.lemmas.Option.{none-some, same_Some}
use Rattle.cube_values.specs.declared.snapshot.Snapshot.{Snapshot}
use Rattle.core_cells.specs.declared.desk.DeskAnswer.TheVariants as answer
use Rattle.core_cells.specs.declared.desk.DeskCall.TheVariants as call
use Rattle.core_events.proofs.Lookups.{held-under-append, held-under-without, with_one, without_one}
use Rattle.core_events.specs.Clients.{Holding, ClientState, after_client_call, held_under, holds_with, holds_without, leader_after, others_hold, reader_up_to}
use Rattle.core_events.specs.Events.{Opening, OpenWrite, OpenRead, Commit, AbortEnd, CloseRead, TakeNote, CreateCube, FindCube, CubesFrom, CountersNow, RoundOpen, RoundClose, StoreFailed, ClientCall, OnDesk, OnNames, Post, Fetch, CloseMail, NoChange}
use Rattle.cube_core.specs.HoldStates.{IsReadyWith, IsUnderOwnNumber, after_desk_call}
use Rattle.cube_core.proofs.Snapshots.{same-number}
use Rattle.cube_core.proofs.Staying.{holders-stay}
use Rattle.watch_holds.specs.HolderStates.{HasReaders, HeldReaders, HoldReaders, IsHolderOf, LeadingReader, LeadsAtMost, NoReader, OneReader, TwoReaders}
use Rattle.watch_holds.proofs.OtherHolds.{apart, not-own}

-- The own snapshot.

with-none : (held : Option Snapshot) (s : Snapshot) → with_one held false s ≡ held
with-none (Some x) s = refl
with-none None s = refl

own-with : (a number epoch : ℕ) (holds : List Holding) → number ≢ a
    → held_under a (holds_with number (reader_up_to epoch) holds) ≡ held_under a holds
own-with a number epoch holds other =
    held-under-append holds (record { number = number; snapshot = reader_up_to epoch }) a
    ∙ ap (λ (here : Bool). with_one (held_under a holds) here (reader_up_to epoch)) (apart number a other)
    ∙ with-none (held_under a holds) (reader_up_to epoch)

own-without : (a number : ℕ) (holds : List Holding) → number ≢ a
    → held_under a (holds_without number holds) ≡ held_under a holds
own-without a number holds other =
    held-under-without holds number a ∙ ap (λ (out : Bool). without_one out (held_under a holds)) (apart number a other)

not-led : (a number : ℕ) (kept : Bool) (leader : Option ℕ) → number ≢ a → leader ≢ Some a
    → (if kept then leader else Some number) ≢ Some a
not-led a number true leader other before = before
not-led a number false leader other before = λ same. other (same_Some number a same)

still-not-led : (a : ℕ) (gone : Bool) (leader : Option ℕ) → leader ≢ Some a → (if gone then None else leader) ≢ Some a
still-not-led a true leader before = none-some a
still-not-led a false leader before = before

pub opened-stays : (o : Opening) (a number statement : ℕ) (s : Snapshot) (own : Option Snapshot) (k : ClientState)
    → IsHolderOf a number → IsReadyWith o a own k
    → IsReadyWith o a own (after_desk_call o a (call.OpenRead number statement) (answer.Opened s) k)
opened-stays o a number statement s own k holder r =
    let other = not-own a number holder in
    record {
      holds = record {
        held = own-with a number s.epoch k.holds other ∙ r.holds.held;
        leader = not-led a number (number == a || others_hold a k.holds) k.leader other r.holds.leader;
      };
      ready = refl;
    }

pub closed-stays : (o : Opening) (a number statement : ℕ) (own : Option Snapshot) (k : ClientState)
    → IsHolderOf a number → IsReadyWith o a own k
    → IsReadyWith o a own (after_desk_call o a (call.CloseRead number statement) answer.Done k)
closed-stays o a number statement own k holder r = record {
  holds = record {
    held = own-without a number k.holds (not-own a number holder) ∙ r.holds.held;
    leader = still-not-led a (option_map_or (λ l. l == number) k.leader false) k.leader r.holds.leader;
  };
  ready = refl;
}

-- The holders.

none-leads : (a number : ℕ) (leader : Option ℕ) → IsHolderOf a number → LeadsAtMost number leader → leader ≢ Some a
none-leads a number leader holder (inl none) = λ same. none-some a (sym none ∙ same)
none-leads a number leader holder (inr this) = λ same. not-own a number holder (same_Some number a (sym this ∙ same))

own-leads-not : (a : ℕ) (readers : HeldReaders) (holds : List Holding) (leader : Option ℕ)
    → HoldReaders a holds leader readers → leader ≢ Some a
own-leads-not a NoReader holds leader h = λ same. none-some a (sym h.leads ∙ same)
own-leads-not a (LeadingReader number epoch) holds leader h = none-leads a number leader h.0.holder h.0.leads
own-leads-not a (OneReader number epoch) holds leader h = none-leads a number leader h.holder h.leads
own-leads-not a (TwoReaders older from newer to) holds leader h = none-leads a older leader h.first h.leads

as-held : (a : ℕ) (readers : HeldReaders) (holds later : List Holding) (leader next : Option ℕ)
    → holds_without a later ≡ holds_without a holds → next ≡ leader → HoldReaders a holds leader readers
    → HoldReaders a later next readers
as-held a NoReader holds later leader next same led h = record { others = same ∙ h.others; leads = led ∙ h.leads }
as-held a (LeadingReader number epoch) holds later leader next same led h = (
  record { holder = h.0.holder; others = same ∙ h.0.others; leads = subst (LeadsAtMost number) (sym led) h.0.leads },
  led ∙ h.1,
)
as-held a (OneReader number epoch) holds later leader next same led h =
    record { holder = h.holder; others = same ∙ h.others; leads = subst (LeadsAtMost number) (sym led) h.leads }
as-held a (TwoReaders older from newer to) holds later leader next same led h = record {
  first = h.first;
  second = h.second;
  apart = h.apart;
  others = same ∙ h.others;
  leads = subst (LeadsAtMost older) (sym led) h.leads;
}

leads-another : (a : ℕ) (leader : Option ℕ) → leader ≢ Some a → option_map_or (λ l. l == a) leader false ≡ false
leads-another a None other = refl
leads-another a (Some l) other = apart l a (λ same. other (ap Some same))

leader-stays : (a : ℕ) (c : ClientCall) (holds : List Holding) (leader : Option ℕ) → IsUnderOwnNumber a c
    → leader ≢ Some a → leader_after a c holds leader ≡ leader
leader-stays a (OnDesk (OpenRead number statement epoch)) holds leader own other =
    (λ i. if own i == a || others_hold a holds then leader else Some (own i))
    ∙ ap (λ (b : Bool). if b || others_hold a holds then leader else Some a) (same-number a)
leader-stays a (OnDesk (CloseRead number statement)) holds leader own other =
    (λ i. if option_map_or (λ (l : ℕ). l == own i) leader false then None else leader)
    ∙ ap (λ (b : Bool). if b then None else leader) (leads-another a leader other)
leader-stays a (OnDesk (OpenWrite statement epoch deps)) holds leader own other = refl
leader-stays a (OnDesk (Commit statement epoch)) holds leader own other = refl
leader-stays a (OnDesk (AbortEnd statement epoch cause)) holds leader own other = refl
leader-stays a (OnDesk (TakeNote note counters)) holds leader own other = refl
leader-stays a (OnDesk (CreateCube statement decl answer)) holds leader own other = refl
leader-stays a (OnDesk (FindCube statement name answer)) holds leader own other = refl
leader-stays a (OnDesk (CubesFrom place cubes)) holds leader own other = refl
leader-stays a (OnDesk (CountersNow counters)) holds leader own other = refl
leader-stays a (OnDesk (RoundOpen answer)) holds leader own other = refl
leader-stays a (OnDesk (RoundClose epoch end)) holds leader own other = refl
leader-stays a (OnDesk (StoreFailed failed)) holds leader own other = refl
leader-stays a (OnNames c) holds leader own other = refl
leader-stays a (Post mail job) holds leader own other = refl
leader-stays a (Fetch mail answer) holds leader own other = refl
leader-stays a (CloseMail mail) holds leader own other = refl
leader-stays a NoChange holds leader own other = refl

pub readers-stay : (o : Opening) (a : ℕ) (c : ClientCall) (readers : HeldReaders) (k : ClientState)
    → IsUnderOwnNumber a c → HasReaders a readers k → HasReaders a readers (after_client_call o a c k)
readers-stay o a c readers k own h =
    as-held a readers k.holds (after_client_call o a c k).holds k.leader (after_client_call o a c k).leader
    (holders-stay o a c k own) (leader-stays a c k.holds k.leader own (own-leads-not a readers k.holds k.leader h)) h
