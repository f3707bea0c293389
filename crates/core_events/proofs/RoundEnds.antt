-- Only the end of a round changes LSE.
use Rattle.std.proofs.Common.{◌≡◌, ℕ, Bool, true, false, true≢false, refl}
use Rattle.cube_journal.specs.declared.note.Note.TheVariants as note
use Rattle.cube_journal.specs.Counters.{JournalState}
use Rattle.aosi_desk.specs.declared.answer.RoundAnswer.TheVariants.{Target, Nothing}
use Rattle.aosi_desk.specs.declared.cube.CubeAnswer.TheVariants.{Created, Exists, TooMany}
use Rattle.aosi_desk.specs.declared.cube.CubeFound.TheVariants.{Found, Unknown}
use Rattle.core_events.specs.Events.{OpenWrite, OpenRead, Commit, AbortEnd, CloseRead, TakeNote, CreateCube, FindCube, CubesFrom, CountersNow, RoundOpen, RoundClose, StoreFailed, ClientCall, OnDesk, OnNames, Post, Fetch, CloseMail, NoChange}
use Rattle.core_events.proofs.DeskSteps.{client_entry, state_with_entry}

abbrev pub closes_round : ClientCall → Bool
closes_round (OnDesk (RoundClose epoch end)) = true
closes_round call = false

pub lse-same : (b : ℕ) (call : ClientCall) (s : JournalState) → closes_round call ≡ false → (state_with_entry (client_entry b call) s).lse ≡ s.lse
lse-same b (OnDesk (OpenWrite statement epoch deps)) s c = refl
lse-same b (OnDesk (OpenRead number statement epoch)) s c = refl
lse-same b (OnDesk (Commit statement epoch)) s c = refl
lse-same b (OnDesk (AbortEnd statement epoch cause)) s c = refl
lse-same b (OnDesk (CloseRead number statement)) s c = refl
lse-same b (OnDesk (TakeNote (note.Refused session statement code) counters)) s c = refl
lse-same b (OnDesk (TakeNote (note.Cleared session statement) counters)) s c = refl
lse-same b (OnDesk (TakeNote (note.Show session statement) counters)) s c = refl
lse-same b (OnDesk (TakeNote (note.Flushed session statement) counters)) s c = refl
lse-same b (OnDesk (TakeNote (note.Purged session statement epoch) counters)) s c = refl
lse-same b (OnDesk (CreateCube statement decl (Created epoch place))) s c = refl
lse-same b (OnDesk (CreateCube statement decl Exists)) s c = refl
lse-same b (OnDesk (CreateCube statement decl TooMany)) s c = refl
lse-same b (OnDesk (FindCube statement name (Found place decl))) s c = refl
lse-same b (OnDesk (FindCube statement name Unknown)) s c = refl
lse-same b (OnDesk (CubesFrom place cubes)) s c = refl
lse-same b (OnDesk (CountersNow counters)) s c = refl
lse-same b (OnDesk (RoundOpen (Target from epoch))) s c = refl
lse-same b (OnDesk (RoundOpen (Nothing epoch))) s c = refl
lse-same b (OnDesk (RoundClose epoch end)) s c = absurd (true≢false c)
lse-same b (OnDesk (StoreFailed failed)) s c = refl
lse-same b (OnNames call) s c = refl
lse-same b (Post mail job) s c = refl
lse-same b (Fetch mail answer) s c = refl
lse-same b (CloseMail mail) s c = refl
lse-same b NoChange s c = refl
