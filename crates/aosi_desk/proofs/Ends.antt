-- The fields agree with the journal after a snapshot ends, and after a round is opened or closed.
use Rattle.std.proofs.Common.{◌≡◌, ◌≢◌, ℕ, ◌+◌, ◌-◌, ◌<◌, ◌≤◌, ◌==◌, not, Bool, true, false, List, [], ◌∷◌, ◌++◌, length, set, filter, Option, Some, None, refl, subst, sym, ◌∙◌, ap, arith, length-append}
use Rattle.std.specs.Option.{IsSomeAnd}
use Rattle.std.proofs.lemmas.List.{length-set}
use Rattle.cube_journal.specs.declared.counters.OpenSnapshot.{OpenSnapshot}
use Rattle.cube_journal.specs.declared.journal_entry.AbortCause.{AbortCause}
use Rattle.cube_journal.specs.declared.journal_entry.LostCause.{LostCause}
use Rattle.cube_journal.specs.declared.journal_entry.LostCause.TheVariants.{Disk, Memory}
use Rattle.cube_journal.specs.declared.journal_entry.JournalEntry.{JournalEntry}
use Rattle.cube_journal.specs.declared.journal_entry.JournalEntry.TheVariants as entry
use Rattle.cube_journal.specs.Counters.{JournalState, journal_state, state_after, held_by, snapshots_without, target}
use Rattle.cube_journal.specs.Legal.{CountersAllow, MayAskRound}
use Rattle.linked_roll.specs.declared.ticket.Ticket.{Ticket}
use Rattle.linked_roll.specs.Members.{Member, item_by_ticket, items, members_without, TicketsDiffer}
use Rattle.linked_roll.proofs.Tickets.{item_by_ticket-before_taken, TicketsDiffer-taken, length-taken}
use Rattle.aosi_desk.specs.State.{end_entry}
use Rattle.aosi_desk.specs.Holds.{hold_of, pending_ticket, snapshot_ticket, is_writer, HoldsFit, WritersCount, Rise}
use Rattle.aosi_desk.specs.Fits.{Contents, ShowsState, FitsSizes, FitsJournal, without_round}
use Rattle.aosi_desk.specs.declared.answer.RoundEnd.{RoundEnd}
use Rattle.aosi_desk.specs.declared.answer.RoundEnd.TheVariants.{Safe, Lost}
use Rattle.aosi_desk.specs.declared.hold.Hold.{Hold}
use Rattle.aosi_desk.specs.declared.hold.Hold.TheVariants.{Free, Reader, Writer}
use Rattle.aosi_desk.proofs.Held.{open_taken}
use Rattle.aosi_desk.proofs.HoldsFits.{HoldsFit-ended}
use Rattle.aosi_desk.proofs.Pending.{Rise-taken, pending_taken, WritersCount-fewer, WritersCount-same}
use Rattle.aosi_desk.proofs.Sessions.{ReaderOf, WriterOf, reader_of, writer_of}
use Rattle.aosi_desk.proofs.Openings.{Laws, length-added}

some_same : {A : Type 0} (a b : A) → Some a ≡ Some b → a ≡ b
some_same a b same = cc

module _ (laws : Laws) (k : Contents) (sessions safe : ℕ) (fits : FitsJournal k sessions safe) where
  abbrev s : JournalState
  s = journal_state safe k.journal

  -- The reader of a session ends.
  pub fits_read_end : (n statement : ℕ) (t : Ticket) → n < length k.holds → hold_of k.holds n ≡ Reader t
      → FitsJournal (record k {
        snapshots = members_without t k.snapshots;
        holds = set k.holds n Free;
        journal = k.journal ++ entry.ReadEnd n statement ∷ [];
      }) sessions safe
  fits_read_end n statement t within is =
      let e = entry.ReadEnd n statement in
      let has : snapshot_ticket (hold_of k.holds n) ≡ Some t = ap snapshot_ticket is in
      let r = reader_of k.holds k.snapshots k.pending fits.holds n t is in
      record {
        legal = laws.legal safe k.journal e fits.legal
            (subst (λ x. IsSomeAnd x (λ h. h.own ≡ false))
            (sym (ap (λ xs. held_by xs n) (sym fits.state.snapshots) ∙ r.held)) r.own);
        state = subst (ShowsState _) (sym (laws.state safe k.journal e)) (record {
          ec = fits.state.ec;
          lse = fits.state.lse;
          round = fits.state.round;
          store_failed = fits.state.store_failed;
          snapshots =
              open_taken k.holds n t has k.snapshots r.o fits.holds.held fits.snapshot_tickets r.found r.session
              ∙ ap (snapshots_without n) fits.state.snapshots;
          pending = fits.state.pending;
        });
        sizes = record {
          holds = length-set k.holds n Free ∙ fits.sizes.holds;
          few = fits.sizes.few;
          low = fits.sizes.low;
          ec = omega (arith, fits.sizes.ec, length-added k.journal e);
        };
        holds =
            HoldsFit-ended k.holds k.snapshots k.pending k.pending fits.holds fits.snapshot_tickets n within t has
            (λ a w other holds_w. refl);
        writers =
            WritersCount-same k.holds sessions (length k.pending) n Free within (ap is_writer is) refl fits.writers;
        rise = fits.rise;
        snapshot_tickets = TicketsDiffer-taken k.snapshots t fits.snapshot_tickets;
        pending_tickets = fits.pending_tickets;
      }

  -- The writer of a session ends.
  module _ (n : ℕ) (t p : Ticket) (epoch : ℕ) (within : n < length k.holds) (is : hold_of k.holds n ≡ Writer t p)
      (found : item_by_ticket k.pending p ≡ Some epoch) where
    writer : WriterOf k.holds k.snapshots k.pending fits.holds n t p
    writer = writer_of k.holds k.snapshots k.pending fits.holds n t p is

    same_epoch : writer.o.snapshot.epoch ≡ epoch
    same_epoch = some_same writer.o.snapshot.epoch epoch (sym writer.epoch ∙ found)

    held_in_state : held_by s.snapshots n ≡ Some writer.o.snapshot
    held_in_state = ap (λ xs. held_by xs n) (sym fits.state.snapshots) ∙ writer.held

    pub held_is_epoch : (d : ℕ) → IsSomeAnd (held_by s.snapshots n) (λ h. (h.own ≡ true) × (h.epoch ≡ epoch))
    held_is_epoch d =
        subst (λ x. IsSomeAnd x (λ h. (h.own ≡ true) × (h.epoch ≡ epoch))) (sym held_in_state) (writer.own, same_epoch)

    has : snapshot_ticket (hold_of k.holds n) ≡ Some t
    has = ap snapshot_ticket is

    -- The entry ends the writer of the epoch.
    record IsEnd (e : JournalEntry) : Type 0 where
      allowed : CountersAllow safe k.journal e
      after : state_after s e ≡ record s {
        snapshots = snapshots_without n s.snapshots;
        pending = filter (λ x. not (x == epoch)) s.pending;
      }

    fits_end : (e : JournalEntry) → IsEnd e
        → FitsJournal (record k {
          snapshots = members_without t k.snapshots;
          pending = members_without p k.pending;
          holds = set k.holds n Free;
          journal = k.journal ++ e ∷ [];
        }) sessions safe
    fits_end e ends =
        record {
          legal = laws.legal safe k.journal e fits.legal ends.allowed;
          state = subst (ShowsState _) (sym (laws.state safe k.journal e ∙ ends.after)) (record {
            ec = fits.state.ec;
            lse = fits.state.lse;
            round = fits.state.round;
            store_failed = fits.state.store_failed;
            snapshots =
                open_taken k.holds n t has k.snapshots writer.o fits.holds.held fits.snapshot_tickets writer.found
                writer.session
                ∙ ap (snapshots_without n) fits.state.snapshots;
            pending =
                pending_taken 0 k.ec k.pending p epoch fits.rise found
                ∙ ap (filter (λ x. not (x == epoch))) fits.state.pending;
          });
          sizes = record {
            holds = length-set k.holds n Free ∙ fits.sizes.holds;
            few = fits.sizes.few;
            low = fits.sizes.low;
            ec = omega (arith, fits.sizes.ec, length-added k.journal e);
          };
          holds =
              HoldsFit-ended k.holds k.snapshots k.pending (members_without p k.pending) fits.holds
              fits.snapshot_tickets n within t has
              (λ a w other holds_w. item_by_ticket-before_taken k.pending p w
              (λ same. other (fits.holds.own a n w holds_w (ap pending_ticket is ∙ ap Some (sym same)))));
          writers =
              WritersCount-fewer k.holds sessions (length (members_without p k.pending)) n within (ap is_writer is)
              (subst (λ x. WritersCount k.holds sessions x) (length-taken k.pending p epoch found) fits.writers);
          rise = Rise-taken 0 k.ec k.pending p fits.rise;
          snapshot_tickets = TicketsDiffer-taken k.snapshots t fits.snapshot_tickets;
          pending_tickets = TicketsDiffer-taken k.pending p fits.pending_tickets;
        }

    pub fits_committed : (statement : ℕ)
        → FitsJournal (record k {
          snapshots = members_without t k.snapshots;
          pending = members_without p k.pending;
          holds = set k.holds n Free;
          journal = k.journal ++ entry.Committed n statement epoch ∷ [];
        }) sessions safe
    fits_committed statement =
        fits_end (entry.Committed n statement epoch) (record { allowed = held_is_epoch 0; after = refl })

    pub fits_aborted : (statement : ℕ) (cause : AbortCause)
        → FitsJournal (record k {
          snapshots = members_without t k.snapshots;
          pending = members_without p k.pending;
          holds = set k.holds n Free;
          journal = k.journal ++ entry.Aborted n statement epoch cause ∷ [];
        }) sessions safe
    fits_aborted statement cause =
        fits_end (entry.Aborted n statement epoch cause) (record { allowed = held_is_epoch 0; after = refl })

  -- An entry after which only the round, LSE and the store may be others.
  record IsOfRound (e : JournalEntry) (lse : ℕ) (round : Option ℕ) (store_failed : Bool) : Type 0 where
    allowed : CountersAllow safe k.journal e
    after : state_after s e ≡ record s { lse = lse; round = round; store_failed = store_failed }

  fits_round : (e : JournalEntry) (lse : ℕ) (round : Option ℕ) (store_failed : Bool)
      → IsOfRound e lse round store_failed
      → FitsJournal (record k {
        lse = lse;
        round = round;
        store_failed = store_failed;
        journal = k.journal ++ e ∷ [];
      }) sessions safe
  fits_round e lse round store_failed is =
      record {
        legal = laws.legal safe k.journal e fits.legal is.allowed;
        state = subst (ShowsState _) (sym (laws.state safe k.journal e ∙ is.after)) (record {
          ec = fits.state.ec;
          lse = refl;
          round = refl;
          store_failed = refl;
          snapshots = fits.state.snapshots;
          pending = fits.state.pending;
        });
        sizes = record {
          holds = fits.sizes.holds;
          few = fits.sizes.few;
          low = fits.sizes.low;
          ec = omega (arith, fits.sizes.ec, length-added k.journal e);
        };
        holds = fits.holds;
        writers = fits.writers;
        rise = fits.rise;
        snapshot_tickets = fits.snapshot_tickets;
        pending_tickets = fits.pending_tickets;
      }

  -- A round is opened up to its target.
  pub fits_opened : (epoch : ℕ) → MayAskRound s → epoch ≡ target s → s.lse < epoch
      → FitsJournal (record k { round = Some epoch; journal = k.journal ++ entry.Round epoch ∷ [] }) sessions safe
  fits_opened epoch ask is more =
      fits_round (entry.Round epoch) k.lse (Some epoch) k.store_failed (record {
        allowed = record { ask = ask; target = is; more = more };
        after = λ i. record s {
          lse = sym fits.state.lse i;
          round = Some epoch;
          store_failed = sym
              fits.state.store_failed i;
        };
      })

  -- There was nothing to keep.
  pub fits_idle : (epoch : ℕ) → MayAskRound s → epoch ≡ target s → epoch ≡ s.lse
      → FitsJournal (record k { journal = k.journal ++ entry.Idle epoch ∷ [] }) sessions safe
  fits_idle epoch ask is no_more =
      fits_round (entry.Idle epoch) k.lse k.round k.store_failed (record {
        allowed = record { ask = ask; target = is; no_more = no_more };
        after = λ i. record s {
          lse = sym fits.state.lse i;
          round = sym fits.state.round i;
          store_failed = sym fits.state.store_failed i;
        };
      })

  -- The round is closed.
  pub fits_closed : (epoch : ℕ) (end : RoundEnd) → s.round ≡ Some epoch
      → FitsJournal (record (without_round k epoch end) { journal = k.journal ++ end_entry epoch end ∷ [] })
      sessions safe
  fits_closed epoch Safe is =
      fits_round (entry.Safe epoch) epoch None k.store_failed (record {
        allowed = is;
        after = λ i. record s { lse = epoch; round = None; store_failed = sym fits.state.store_failed i };
      })
  fits_closed epoch (Lost Disk) is =
      fits_round (entry.RoundLost epoch Disk) k.lse None true (record {
        allowed = is;
        after = λ i. record s { lse = sym fits.state.lse i; round = None; store_failed = true };
      })
  fits_closed epoch (Lost Memory) is =
      fits_round (entry.RoundLost epoch Memory) k.lse None k.store_failed (record {
        allowed = is;
        after = λ i. record s {
          lse = sym fits.state.lse i;
          round = None;
          store_failed = sym fits.state.store_failed
              i;
        };
      })
