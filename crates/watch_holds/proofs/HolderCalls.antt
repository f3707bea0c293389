-- A session opens and closes readers under the numbers of its holders.
use Rattle.std.proofs.Common.{◌≡◌, ◌∙◌, ◌≢◌, ℕ, ◌==◌, Bool, true, false, ◌||◌, List, [], ◌∷◌, Option, Some, None, IsSomeAnd, inl, inr, if◌then◌else◌, refl, sym, ap, subst}
use Rattle.std.specs.Option.{option_map_or}
use Rattle.cube_values.specs.declared.snapshot.Snapshot.{Snapshot}
use Rattle.core_cells.specs.declared.desk.DeskAnswer.{DeskAnswer}
use Rattle.core_cells.specs.declared.desk.DeskAnswer.TheVariants as answer
use Rattle.core_cells.specs.declared.desk.DeskCall.TheVariants as call
use Rattle.core_events.specs.Clients.{Holding, ClientState, held_under, holds_with, opening_client, others_hold, reader_up_to}
use Rattle.core_events.specs.Events.{Opening, IsSession}
use Rattle.core_events.specs.Fitting.{FitsCall}
use Rattle.cube_core.specs.DeskEvents.{FitsDeskCall, desk_event}
use Rattle.cube_core.specs.HoldStates.{IsReadyWith, after_desk_call}
use Rattle.cube_core.proofs.Snapshots.{same-number}
use Rattle.watch_holds.specs.HolderStates.{HasReaderUnder, HasReaders, HeldReaders, HoldReaders, HoldsOneReader, HoldsTwoReaders, IsFreeBeside, IsHolderOf, LeadingReader, LeadsAtMost, NoReader, OneReader, TwoReaders, reader_under, readers_with}
use Rattle.watch_holds.proofs.OtherHolds.{apart, held-behind, held-first, held-in-others, none-hold, not-own, others-less, others-with, some-hold, without-behind, without-first}

pub begins : (o : Opening) (a : ℕ) → HasReaders a NoReader (opening_client o)
begins o a = record { others = refl; leads = refl }

-- A number that is free.

none-beside : (a number : ℕ) (readers : HeldReaders) (holds : List Holding) (leader : Option ℕ)
    → HoldReaders a holds leader readers → IsHolderOf a number → IsFreeBeside number readers
    → held_under number holds ≡ None
none-beside a number NoReader holds leader h holder free = held-in-others a number holds [] (not-own a number holder) h.others
none-beside a number (LeadingReader other epoch) holds leader h holder free =
    held-in-others a number holds (reader_under other epoch ∷ []) (not-own a number holder) h.0.others
    ∙ held-behind other number epoch [] free
none-beside a number (OneReader other epoch) holds leader h holder free =
    held-in-others a number holds (reader_under other epoch ∷ []) (not-own a number holder) h.others
    ∙ held-behind other number epoch [] free
none-beside a number (TwoReaders older from newer to) holds leader h holder free = absurd free

open-fits : (o : Opening) (a number statement : ℕ) (own : Option Snapshot) (readers : HeldReaders) (k : ClientState)
    → IsSession o a → IsReadyWith o a own k → HasReaders a readers k → IsHolderOf a number → IsFreeBeside number readers
    → (said : DeskAnswer) → FitsCall o a (desk_event a k (call.OpenRead number statement) said) k
open-fits o a number statement own readers k session r h holder free (answer.Opened s) = record {
  session = session;
  under = inr holder;
  free = none-beside a number readers k.holds k.leader h holder free;
  ready = r.ready;
}
open-fits o a number statement own readers k session r h holder free said = tt

pub may-open : (o : Opening) (a number statement : ℕ) (own : Option Snapshot) (readers : HeldReaders) (k : ClientState)
    → IsSession o a → IsReadyWith o a own k → HasReaders a readers k → IsHolderOf a number → IsFreeBeside number readers
    → FitsDeskCall o a (call.OpenRead number statement) k
may-open o a number statement own readers k session r h holder free =
    record { number = tt; event = open-fits o a number statement own readers k session r h holder free }

-- It is opened.

leader-with : (a number : ℕ) (some : Bool) (holds : List Holding) (leader : Option ℕ) → number ≢ a
    → others_hold a holds ≡ some
    → (if number == a || others_hold a holds then leader else Some number) ≡ (if some then leader else Some number)
leader-with a number some holds leader other is = λ i. if apart number a other i || is i then leader else Some number

second-reader : (a other from number epoch : ℕ) (holds : List Holding) (leader : Option ℕ)
    → HoldsOneReader a holds leader other from → IsHolderOf a number → other ≢ number
    → HoldsTwoReaders a (holds_with number (reader_up_to epoch) holds)
    (if number == a || others_hold a holds then leader else Some number) other from number epoch
second-reader a other from number epoch holds leader h holder free =
    let new = not-own a number holder in
    record {
      first = h.holder;
      second = holder;
      apart = free;
      others = others-with a number epoch holds (reader_under other from ∷ []) new h.others;
      leads = subst (LeadsAtMost other)
          (sym (leader-with a number true holds leader new (some-hold a holds (reader_under other from) [] h.others)))
          h.leads;
    }

pub opened : (o : Opening) (a number statement : ℕ) (s : Snapshot) (readers : HeldReaders) (k : ClientState)
    → HasReaders a readers k → IsHolderOf a number → IsFreeBeside number readers
    → HasReaders a (readers_with number s.epoch readers)
    (after_desk_call o a (call.OpenRead number statement) (answer.Opened s) k)
opened o a number statement s NoReader k h holder free =
    let new = not-own a number holder in
    let leads = leader-with a number false k.holds k.leader new (none-hold a k.holds h.others) in (
      record {
        holder = holder;
        others = others-with a number s.epoch k.holds [] new h.others;
        leads = inr leads;
      },
      leads,
    )
opened o a number statement s (LeadingReader other from) k h holder free =
    second-reader a other from number s.epoch k.holds k.leader h.0 holder free
opened o a number statement s (OneReader other from) k h holder free =
    second-reader a other from number s.epoch k.holds k.leader h holder free
opened o a number statement s (TwoReaders older from newer to) k h holder free = absurd free

-- A number under which a reader is held.

record ReadsUnder (a number : ℕ) (holds : List Holding) : Type 0 where
  holder : IsHolderOf a number
  epoch : ℕ
  held : held_under number holds ≡ Some (reader_up_to epoch)

one-read : (a number epoch : ℕ) (holds : List Holding) (leader : Option ℕ) → HoldsOneReader a holds leader number epoch
    → ReadsUnder a number holds
one-read a number epoch holds leader h = record {
  holder = h.holder;
  epoch = epoch;
  held = held-in-others a number holds (reader_under number epoch ∷ []) (not-own a number h.holder) h.others
      ∙ held-first number epoch [];
}

reads-under : (a number : ℕ) (readers : HeldReaders) (holds : List Holding) (leader : Option ℕ)
    → HoldReaders a holds leader readers → HasReaderUnder number readers → ReadsUnder a number holds
reads-under a number NoReader holds leader h under = absurd under
reads-under a number (LeadingReader other epoch) holds leader h under =
    subst (λ (n : ℕ). ReadsUnder a n holds) under (one-read a other epoch holds leader h.0)
reads-under a number (OneReader other epoch) holds leader h under =
    subst (λ (n : ℕ). ReadsUnder a n holds) under (one-read a other epoch holds leader h)
reads-under a number (TwoReaders older from newer to) holds leader h (inl under) =
    subst (λ (n : ℕ). ReadsUnder a n holds) under (record {
      holder = h.first;
      epoch = from;
      held = held-in-others a older holds (reader_under older from ∷ reader_under newer to ∷ []) (not-own a older h.first) h.others
          ∙ held-first older from (reader_under newer to ∷ []);
    })
reads-under a number (TwoReaders older from newer to) holds leader h (inr under) =
    subst (λ (n : ℕ). ReadsUnder a n holds) under (record {
      holder = h.second;
      epoch = to;
      held = held-in-others a newer holds (reader_under older from ∷ reader_under newer to ∷ []) (not-own a newer h.second) h.others
          ∙ held-behind older newer from (reader_under newer to ∷ []) h.apart
          ∙ held-first newer to [];
    })

close-fits : (o : Opening) (a number statement : ℕ) (own : Option Snapshot) (readers : HeldReaders) (k : ClientState)
    → IsSession o a → IsReadyWith o a own k → HasReaders a readers k → HasReaderUnder number readers
    → (said : DeskAnswer) → FitsCall o a (desk_event a k (call.CloseRead number statement) said) k
close-fits o a number statement own readers k session r h under answer.Done =
    let reads = reads-under a number readers k.holds k.leader h under in
    record {
      session = session;
      under = inr reads.holder;
      reader = subst (λ (held : Option Snapshot). IsSomeAnd held (λ s. s.own ≡ false)) (sym reads.held) refl;
      ready = r.ready;
    }
close-fits o a number statement own readers k session r h under said = tt

pub may-close : (o : Opening) (a number statement : ℕ) (own : Option Snapshot) (readers : HeldReaders) (k : ClientState)
    → IsSession o a → IsReadyWith o a own k → HasReaders a readers k → HasReaderUnder number readers
    → FitsDeskCall o a (call.CloseRead number statement) k
may-close o a number statement own readers k session r h under =
    record { number = tt; event = close-fits o a number statement own readers k session r h under }

-- It is closed.

abbrev leader_without : ℕ → Option ℕ → Option ℕ
leader_without number leader = if option_map_or (λ l. l == number) leader false then None else leader

leads-no-more : (number : ℕ) (leader : Option ℕ) → LeadsAtMost number leader → leader_without number leader ≡ None
leads-no-more number leader (inl none) = ap (leader_without number) none
leads-no-more number leader (inr this) =
    ap (leader_without number) this ∙ ap (λ (own : Bool). if own then None else Some number) (same-number number)

leads-still : (other number : ℕ) (leader : Option ℕ) → other ≢ number → LeadsAtMost other leader
    → LeadsAtMost other (leader_without number leader)
leads-still other number leader is (inl none) = inl (ap (leader_without number) none)
leads-still other number leader is (inr this) =
    inr (ap (leader_without number) this ∙ ap (λ (own : Bool). if own then None else Some other) (apart other number is))

pub last-closed : (o : Opening) (a number statement epoch : ℕ) (k : ClientState) → HasReaders a (OneReader number epoch) k
    → HasReaders a NoReader (after_desk_call o a (call.CloseRead number statement) answer.Done k)
last-closed o a number statement epoch k h = record {
  others = others-less a number k.holds (reader_under number epoch ∷ []) h.others ∙ without-first number epoch [];
  leads = leads-no-more number k.leader h.leads;
}

pub older-closed : (o : Opening) (a older from newer to statement : ℕ) (k : ClientState)
    → HasReaders a (TwoReaders older from newer to) k
    → HasReaders a (OneReader newer to) (after_desk_call o a (call.CloseRead older statement) answer.Done k)
older-closed o a older from newer to statement k h = record {
  holder = h.second;
  others = others-less a older k.holds (reader_under older from ∷ reader_under newer to ∷ []) h.others
      ∙ without-first older from (reader_under newer to ∷ [])
      ∙ without-behind newer older to [] (λ same. h.apart (sym same));
  leads = inl (leads-no-more older k.leader h.leads);
}

pub newer-closed : (o : Opening) (a older from newer to statement : ℕ) (k : ClientState)
    → HasReaders a (TwoReaders older from newer to) k
    → HasReaders a (OneReader older from) (after_desk_call o a (call.CloseRead newer statement) answer.Done k)
newer-closed o a older from newer to statement k h = record {
  holder = h.first;
  others = others-less a newer k.holds (reader_under older from ∷ reader_under newer to ∷ []) h.others
      ∙ without-behind older newer from (reader_under newer to ∷ []) h.apart
      ∙ ap (λ (l : List Holding). reader_under older from ∷ l) (without-first newer to []);
  leads = leads-still older newer k.leader h.apart h.leads;
}
