-- A register at its opening, and its rounds.
use Rattle.std.proofs.Common.{◌≡◌, ◌≢◌, ◌⊎◌, ℕ, zero, suc, ◌+◌, ◌-◌, ◌<◌, ◌≤◌, ◌^◌, ◌==◌, Bool, true, false, List, [], ◌∷◌, ◌++◌, length, replicate, Option, Some, None, cond, refl, subst, sym, ◌∙◌, ap, inl, inr, arith, if◌then◌else◌}
use Rattle.std.specs.List.{count_by}
use Rattle.std.proofs.lemmas.List.Sums.{sum_by-cons}
use Rattle.cube_journal.specs.declared.counters.OpenSnapshot.{OpenSnapshot}
use Rattle.cube_journal.specs.declared.journal_entry.JournalEntry.{JournalEntry}
use Rattle.cube_journal.specs.declared.journal_entry.JournalEntry.TheVariants as entry
use Rattle.cube_journal.specs.Counters.{JournalState, journal_state, oldest_bound, lce, target}
use Rattle.cube_journal.specs.Order.{NeverFalls, IsInOrder}
use Rattle.linked_roll.specs.declared.ticket.Ticket.{Ticket}
use Rattle.linked_roll.specs.Members.{Member}
use Rattle.aosi_desk.specs.Holds.{hold_of, pending_ticket, is_writer, HoldFits, HoldsFit, WritersCount}
use Rattle.aosi_desk.specs.Fits.{Contents, FitsJournal, opening_contents, entries_owed, round_owed, without_round}
use Rattle.aosi_desk.specs.declared.answer.RoundEnd.{RoundEnd}
use Rattle.aosi_desk.specs.declared.answer.RoundEnd.TheVariants.{Safe, Lost}
use Rattle.cube_journal.specs.declared.journal_entry.LostCause.TheVariants.{Disk, Memory}
use Rattle.aosi_desk.specs.declared.hold.Hold.{Hold}
use Rattle.aosi_desk.specs.declared.hold.Hold.TheVariants.{Free}
use Rattle.aosi_desk.proofs.Openings.{length-added}

all_free : (m n : ℕ) → hold_of (replicate m Free) n ≡ Free
all_free zero n = refl
all_free (suc m) zero = refl
all_free (suc m) (suc n) = all_free m n

none_writes : (m : ℕ) → count_by is_writer (replicate m Free) ≡ 0
none_writes zero = refl
none_writes (suc m) = omega (arith, none_writes m, sum_by-cons (λ x. cond (is_writer x) 1 0) Free (replicate m Free))

replicate_length : (m : ℕ) → length (replicate m Free) ≡ m
replicate_length zero = refl
replicate_length (suc m) = omega (arith, replicate_length m)

some_none : {A : Type 0} (a : A) → Some a ≢ None
some_none a same = cc

holds_of_none : (m : ℕ) → HoldsFit (replicate m Free) [] []
holds_of_none m = record {
  held = tt;
  fit = λ n. subst (λ (h : Hold). HoldFits [] [] n h) (sym (all_free m n)) tt;
  own = λ a b t has has_too. absurd (some_none t (sym has ∙ ap pending_ticket (all_free m a)));
}

writers_of_none : (m sessions : ℕ) → WritersCount (replicate m Free) sessions 0
writers_of_none m sessions = record {
  few = λ n above. ap is_writer (all_free m n);
  first = ap is_writer (all_free m 0);
  count = none_writes m;
}

-- The fields of an empty journal agree with it.
pub fits_opening : (sessions safe : ℕ) → sessions ≤ 16 → safe ≤ 2 ^ 61
    → FitsJournal (opening_contents safe) sessions safe
fits_opening sessions safe few low = record {
  legal = tt;
  state = record { ec = refl; lse = refl; round = refl; store_failed = refl; snapshots = refl; pending = refl };
  sizes = record { holds = replicate_length 49; few = few; low = low; ec = omega arith };
  holds = holds_of_none 49;
  writers = writers_of_none 49 sessions;
  rise = omega arith;
  snapshot_tickets = tt;
  pending_tickets = tt;
}

first_bound : (low high : ℕ) (snapshots : List OpenSnapshot) → NeverFalls low snapshots high
    → low ≤ oldest_bound snapshots high
first_bound low high [] bounds = bounds
first_bound low high (o ∷ snapshots) bounds = bounds.0

-- LSE is not above the target.
pub lse_to_target : (s : JournalState) → IsInOrder s → s.lse ≤ target s
lse_to_target s order = first_bound s.lse (lce s) s.snapshots order.bounds

pub opened_room : (k new : Contents) (epoch room : ℕ) → k.round ≡ None
    → new ≡ record k { round = Some epoch; journal = k.journal ++ entry.Round epoch ∷ [] }
    → length k.journal + (entries_owed k + 2) ≤ room → length new.journal + (entries_owed new + 0) ≤ room
opened_room k new epoch room none new_is enough =
    let owed : round_owed k.round ≡ 0 = ap round_owed none in
    subst (λ (x : Contents). length x.journal + (entries_owed x + 0) ≤ room) (sym new_is)
    (omega (arith, enough, length-added k.journal (entry.Round epoch)))

pub noted_room : (k new : Contents) (e : JournalEntry) (more room : ℕ) → 1 ≤ more
    → new ≡ record k { journal = k.journal ++ e ∷ [] }
    → length k.journal + (entries_owed k + more) ≤ room → length new.journal + (entries_owed new + 0) ≤ room
noted_room k new e more room some new_is enough =
    subst (λ (x : Contents). length x.journal + (entries_owed x + 0) ≤ room) (sym new_is)
    (omega (arith, enough, length-added k.journal e))

pub closed_room : (k mid new : Contents) (epoch : ℕ) (end : RoundEnd) (e : JournalEntry) (room : ℕ)
    → k.round ≡ Some epoch
    → mid ≡ without_round k epoch end → new ≡ record mid { journal = mid.journal ++ e ∷ [] }
    → length k.journal + (entries_owed k + 0) ≤ room → length new.journal + (entries_owed new + 0) ≤ room
closed_room k mid new epoch end e room is mid_is new_is enough =
    let owed : round_owed k.round ≡ 1 = ap round_owed is in
    subst (λ (x : Contents). length x.journal + (entries_owed x + 0) ≤ room)
    (sym (new_is ∙ ap (λ (m : Contents). record m { journal = m.journal ++ e ∷ [] }) mid_is))
    (closes end owed)
  where
    closes : (end : RoundEnd) → round_owed k.round ≡ 1
        → length ((without_round k epoch end).journal ++ e ∷ [])
        + (length (without_round k epoch end).snapshots + round_owed (without_round k epoch end).round + 0) ≤ room
    closes Safe owed = omega (arith, enough, length-added k.journal e)
    closes (Lost Disk) owed = omega (arith, enough, length-added k.journal e)
    closes (Lost Memory) owed = omega (arith, enough, length-added k.journal e)

pub opening_room : (k : Contents) (safe room : ℕ) → k ≡ opening_contents safe
    → length k.journal + (entries_owed k + 0) ≤ room
opening_room k safe room is =
    subst (λ (x : Contents). length x.journal + (entries_owed x + 0) ≤ room) (sym is) (omega arith)
