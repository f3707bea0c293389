-- What entries do to the next epoch and to the epochs that are committed.
use Rattle.std.proofs.Common.{◌≡◌, ◌∙◌, ℕ, ◌+◌, ◌≤◌, Bool, true, false, ◌||◌, ◌==◌, List, [], ◌∷◌, ◌++◌, Option, None, fold, refl, sym, ap, subst, arith, append-nil, if◌then◌else◌}
use Rattle.std.specs.List.{list_any}
use Rattle.std.proofs.lemmas.Bool.Decides.{nat_tests}
use Rattle.std.proofs.lemmas.List.Elements.{filter-append}
use Rattle.std.proofs.lemmas.List.Folds.{list_any-append}
use Rattle.cube_journal.specs.Counters.{JournalState, state_after}
use Rattle.cube_journal.specs.Entries.{takes_epoch}
use Rattle.cube_journal.specs.declared.journal_entry.JournalEntry.{JournalEntry}
use Rattle.cube_journal.specs.declared.journal_entry.JournalEntry.TheVariants as entry
use Rattle.cube_run.specs.RunTransactions.{is_commit_of}
use Rattle.cube_run.specs.SessionSteps.{belongs_to, session_part}
use Rattle.aosi_desk.specs.State.{state_of}
use Rattle.aosi_desk.specs.Desks.{DeskState, desk_with_entry}
use Rattle.session_desk.specs.AtDesk.{desk_with_entries}
use Rattle.session_desk.specs.Entries.{round_entries}
use Rattle.session_desk.specs.Moves.{MovesOn, is_committed_at, is_epoch_of}
use Rattle.session_desk.proofs.RoundEntries.{round_part, state_more}

-- ---- tests

pub or_none : (b : Bool) → (b || false) ≡ b
or_none true = refl
or_none false = refl

or_assoc : (a b c : Bool) → ((a || b) || c) ≡ (a || (b || c))
or_assoc true b c = refl
or_assoc false b c = refl

pub same_test : (a b : ℕ) → (a == b) ≡ (b == a)
same_test a b = grind (arith, nat_tests)

-- ---- the next epoch

epoch_rises : (ec : ℕ) (b : Bool) → ec ≤ (if b then ec + 1 else ec)
epoch_rises ec true = omega arith
epoch_rises ec false = omega arith

pub next_rises : (s : JournalState) (es : List JournalEntry) → s.ec ≤ (fold state_after s es).ec
next_rises s [] = omega arith
next_rises s (e ∷ es) =
    let one = epoch_rises s.ec (takes_epoch e) in
    let rest = next_rises (state_after s e) es in
    omega (arith, one, rest)

-- ---- the epochs that are committed

-- These entries commit the transaction of this epoch of the session, if there is one, and no other.
abbrev pub Commit : Option ℕ → List JournalEntry → Type 0
Commit committed es =
    (epoch : ℕ) → list_any (is_commit_of epoch) (session_part 1 es) ≡ is_epoch_of committed epoch

pub moves_by : (committed : Option ℕ) (desk new_desk : DeskState) (es : List JournalEntry)
    → new_desk ≡ desk_with_entries desk es → Commit committed es → MovesOn committed desk new_desk
moves_by committed desk new_desk es h commit = record {
  next =
      subst (λ (s : JournalState). (state_of desk.register).ec ≤ s.ec)
      (sym (ap (λ (d : DeskState). state_of d.register) h ∙ state_more desk es))
      (next_rises (state_of desk.register) es);
  commits = λ epoch.
      ap (λ (d : DeskState). is_committed_at d epoch) h
      ∙ ap (list_any (is_commit_of epoch)) (filter-append (belongs_to 1) desk.register.journal es)
      ∙ list_any-append (is_commit_of epoch) (session_part 1 desk.register.journal) (session_part 1 es)
      ∙ ap (λ (b : Bool). is_committed_at desk epoch || b) (commit epoch);
}

pub moves_same : (desk new_desk : DeskState) → new_desk ≡ desk → MovesOn None desk new_desk
moves_same desk new_desk h = record {
  next = subst (λ (d : DeskState). (state_of desk.register).ec ≤ (state_of d.register).ec) (sym h) (omega arith);
  commits = λ epoch.
      ap (λ (d : DeskState). is_committed_at d epoch) h ∙ sym (or_none (is_committed_at desk epoch));
}

-- What commits nothing may stand after, or before.
pub moves_then : (committed : Option ℕ) (desk middle new_desk : DeskState) → MovesOn committed desk middle
    → MovesOn None middle new_desk → MovesOn committed desk new_desk
moves_then committed desk middle new_desk a b = record {
  next = let first = a.next in let rest = b.next in omega (arith, first, rest);
  commits = λ epoch. b.commits epoch ∙ or_none (is_committed_at middle epoch) ∙ a.commits epoch;
}

pub moves_after : (committed : Option ℕ) (desk middle new_desk : DeskState) → MovesOn None desk middle
    → MovesOn committed middle new_desk → MovesOn committed desk new_desk
moves_after committed desk middle new_desk a b = record {
  next = let first = a.next in let rest = b.next in omega (arith, first, rest);
  commits = λ epoch.
      b.commits epoch
      ∙ ap (λ (b : Bool). b || is_epoch_of committed epoch)
      (a.commits epoch ∙ or_none (is_committed_at desk epoch));
}

pub round_commits : (s : JournalState) (es : List JournalEntry) → Commit None es → Commit None (round_entries s ++ es)
round_commits s es h = λ epoch. ap (list_any (is_commit_of epoch)) (round_part s es) ∙ h epoch

pub moves_round : (desk middle : DeskState)
    → middle ≡ desk_with_entries desk (round_entries (state_of desk.register)) → MovesOn None desk middle
moves_round desk middle made =
    moves_by None desk middle (round_entries (state_of desk.register)) made
    (λ epoch. ap (list_any (is_commit_of epoch)) (round_none (state_of desk.register)))
  where
    round_none : (s : JournalState) → session_part 1 (round_entries s) ≡ []
    round_none s = ap (session_part 1) (sym (append-nil (round_entries s))) ∙ round_part s []

-- ---- one entry that commits nothing

pub moves_flushed : (n : ℕ) (desk new_desk : DeskState)
    → new_desk ≡ desk_with_entry desk (entry.Flushed 1 n) → MovesOn None desk new_desk
moves_flushed n desk new_desk h = moves_by None desk new_desk (entry.Flushed 1 n ∷ []) h (λ epoch. refl)

pub moves_purged : (n at : ℕ) (desk new_desk : DeskState)
    → new_desk ≡ desk_with_entry desk (entry.Purged 1 n at) → MovesOn None desk new_desk
moves_purged n at desk new_desk h = moves_by None desk new_desk (entry.Purged 1 n at ∷ []) h (λ epoch. refl)

pub moves_refused : (n code : ℕ) (desk new_desk : DeskState)
    → new_desk ≡ desk_with_entry desk (entry.Refused 1 n code) → MovesOn None desk new_desk
moves_refused n code desk new_desk h =
    moves_by None desk new_desk (entry.Refused 1 n code ∷ []) h (λ epoch. refl)

pub moves_shown : (n : ℕ) (desk new_desk : DeskState)
    → new_desk ≡ desk_with_entry desk (entry.Show 1 n) → MovesOn None desk new_desk
moves_shown n desk new_desk h = moves_by None desk new_desk (entry.Show 1 n ∷ []) h (λ epoch. refl)

pub moves_cleared : (n : ℕ) (desk new_desk : DeskState)
    → new_desk ≡ desk_with_entry desk (entry.Cleared 1 n) → MovesOn None desk new_desk
moves_cleared n desk new_desk h = moves_by None desk new_desk (entry.Cleared 1 n ∷ []) h (λ epoch. refl)
