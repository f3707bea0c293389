-- Which journals a run can leave: each entry agrees with what the entries before it give. One part is judged by the
-- counters, the other by the list of cubes.
-- Source: AOSI (ICDE 2018) for what a transaction takes at its begin and end; the rest is this project's own.
use Rattle.std.specs.Prelude.{◌≡◌, ℕ, ◌<◌, Bool, true, false, List, [], ◌∷◌, ◌++◌, length, None, Some, IsSomeAnd}
use Rattle.std.specs.List.{list_any}
use Rattle.std.specs.Str.{bytes_eq}
use Rattle.cube_language.specs.CubesText.{cubes_limit}
use Rattle.cube_journal.specs.declared.journal_entry.JournalEntry.{JournalEntry}
use Rattle.cube_journal.specs.declared.journal_entry.JournalEntry.TheVariants as entry
use Rattle.cube_journal.specs.Counters.{JournalState, journal_state, lce, target, held_by}
use Rattle.cube_journal.specs.Entries.{is_of_session}

-- A writer opens: it takes EC, with the pending epochs as deps, and its session holds no snapshot.
pub record MayBegin (s : JournalState) (session epoch : ℕ) (deps : List ℕ) : Type 0 where
  pub next : epoch ≡ s.ec
  pub pending : deps ≡ s.pending
  pub free : held_by s.snapshots session ≡ None

-- A reader opens: it takes LCE, and its session or holder number holds no snapshot.
pub record MayRead (s : JournalState) (session epoch : ℕ) : Type 0 where
  pub latest : epoch ≡ lce s
  pub free : held_by s.snapshots session ≡ None

-- A cube is made: it takes EC, and its session holds no snapshot.
pub record MayMakeCube (s : JournalState) (session epoch : ℕ) : Type 0 where
  pub next : epoch ≡ s.ec
  pub free : held_by s.snapshots session ≡ None

-- The session holds the writer of this epoch.
abbrev pub HoldsWriter : JournalState → ℕ → ℕ → Type 0
HoldsWriter s session epoch = IsSomeAnd (held_by s.snapshots session) (λ h. (h.own ≡ true) × (h.epoch ≡ epoch))

-- The session holds a reader.
abbrev pub HoldsReader : JournalState → ℕ → Type 0
HoldsReader s session = IsSomeAnd (held_by s.snapshots session) (λ h. h.own ≡ false)

-- A round is asked for while none is open, and while none was lost to the disk.
pub record MayAskRound (s : JournalState) : Type 0 where
  pub none_open : s.round ≡ None
  pub store : s.store_failed ≡ false

-- A round opens: it goes up to the target, which is above LSE.
pub record MayOpenRound (s : JournalState) (epoch : ℕ) : Type 0 where
  pub ask : MayAskRound s
  pub target : epoch ≡ target s
  pub more : s.lse < epoch

-- There is nothing to keep: the target is LSE.
pub record MayIdle (s : JournalState) (epoch : ℕ) : Type 0 where
  pub ask : MayAskRound s
  pub target : epoch ≡ target s
  pub no_more : epoch ≡ s.lse

-- The journal parts here, and no entry of the later part is the session's.
pub record PartsSince (session : ℕ) (journal earlier later : List JournalEntry) : Type 0 where
  pub whole : journal ≡ earlier ++ later
  pub others : list_any (is_of_session session) later ≡ false

-- The round that is open when these entries begin ends as safe.
abbrev pub ends_safe : List JournalEntry → Bool
ends_safe [] = false
ends_safe (entry.Safe epoch ∷ later) = true
ends_safe (entry.RoundLost epoch cause ∷ later) = false
ends_safe (_ ∷ later) = ends_safe later

-- These entries begin with an Idle, or with a Round that ends as safe.
abbrev pub begins_with_safe_round : List JournalEntry → Bool
begins_with_safe_round [] = false
begins_with_safe_round (entry.Idle epoch ∷ later) = true
begins_with_safe_round (entry.Round epoch ∷ later) = ends_safe later
begins_with_safe_round (_ ∷ later) = false

-- Since the session's previous entry there is an Idle, or a Round and after it its Safe.
pub record WasFlushed (session : ℕ) (journal : List JournalEntry) : Type 0 where
  pub earlier : List JournalEntry
  pub later : List JournalEntry
  pub parts : PartsSince session journal earlier later
  pub round : begins_with_safe_round later ≡ true

-- The epoch was LSE at some place since the session's previous entry.
pub record WasSafe (safe session epoch : ℕ) (journal : List JournalEntry) : Type 0 where
  pub earlier : List JournalEntry
  pub later : List JournalEntry
  pub parts : PartsSince session journal earlier later
  pub lse : (journal_state safe earlier).lse ≡ epoch

-- The entries before a place allow this entry there, by their counters, snapshots and rounds.
abbrev pub CountersAllow : ℕ → List JournalEntry → JournalEntry → Type 0
CountersAllow safe before (entry.Begin session statement epoch deps) =
    MayBegin (journal_state safe before) session epoch deps
CountersAllow safe before (entry.Read session statement epoch) = MayRead (journal_state safe before) session epoch
CountersAllow safe before (entry.ReadEnd session statement) = HoldsReader (journal_state safe before) session
CountersAllow safe before (entry.Committed session statement epoch) =
    HoldsWriter (journal_state safe before) session epoch
CountersAllow safe before (entry.Aborted session statement epoch cause) =
    HoldsWriter (journal_state safe before) session epoch
CountersAllow safe before (entry.Refused session statement code) =
    code ≡ 17 → (journal_state safe before).store_failed ≡ true
CountersAllow safe before (entry.Cleared session statement) = Unit {0}
CountersAllow safe before (entry.Show session statement) = Unit {0}
CountersAllow safe before (entry.Flushed session statement) = WasFlushed session before
CountersAllow safe before (entry.Purged session statement epoch) = WasSafe safe session epoch before
CountersAllow safe before (entry.Cube session statement epoch) = MayMakeCube (journal_state safe before) session epoch
CountersAllow safe before (entry.Round epoch) = MayOpenRound (journal_state safe before) epoch
CountersAllow safe before (entry.Idle epoch) = MayIdle (journal_state safe before) epoch
CountersAllow safe before (entry.Safe epoch) = (journal_state safe before).round ≡ Some epoch
CountersAllow safe before (entry.RoundLost epoch cause) = (journal_state safe before).round ≡ Some epoch

-- Each of the entries that stand after others is allowed by all before it.
abbrev pub CountersAllowAll : ℕ → List JournalEntry → List JournalEntry → Type 0
CountersAllowAll safe before [] = Unit {0}
CountersAllowAll safe before (e ∷ later) = CountersAllow safe before e × CountersAllowAll safe (before ++ e ∷ []) later

-- One of the cubes has this name.
abbrev pub has_cube : List (List ℕ) → List ℕ → Bool
has_cube cubes name = list_any (λ cube. bytes_eq cube name) cubes

-- A cube of a new name may be made while there is a place for it.
pub record MayAddCube (cubes : List (List ℕ)) (name : List ℕ) : Type 0 where
  pub place : length cubes < cubes_limit
  pub new_name : has_cube cubes name ≡ false

-- There are as many cubes as there can be, and none has this name.
pub record IsFullWithout (cubes : List (List ℕ)) (name : List ℕ) : Type 0 where
  pub full : length cubes ≡ cubes_limit
  pub new_name : has_cube cubes name ≡ false

-- A refusal that speaks of the list of cubes agrees with it: 2 says that none has the name, 19 that one has it, 21
-- that there is no place for one more, and none has it.
pub record RefusalFits (cubes : List (List ℕ)) (name : List ℕ) (code : ℕ) : Type 0 where
  pub unknown : code ≡ 2 → has_cube cubes name ≡ false
  pub exists : code ≡ 19 → has_cube cubes name ≡ true
  pub too_many : code ≡ 21 → IsFullWithout cubes name

-- The cubes of these names before a place allow this entry there, whose statement speaks of the cube of this name.
abbrev pub CubesAllow : List (List ℕ) → List ℕ → JournalEntry → Type 0
CubesAllow cubes name (entry.Cube session statement epoch) = MayAddCube cubes name
CubesAllow cubes name (entry.Refused session statement code) = RefusalFits cubes name code
CubesAllow cubes name _ = Unit {0}

-- The names of the cubes after an entry.
abbrev pub cubes_after : List (List ℕ) → List ℕ → JournalEntry → List (List ℕ)
cubes_after cubes name (entry.Cube session statement epoch) = cubes ++ name ∷ []
cubes_after cubes name _ = cubes

-- Each entry, whose statement speaks of the cube of the name in its place, is allowed by the cubes before it.
abbrev pub CubesAllowAll : List (List ℕ) → List (List ℕ) → List JournalEntry → Type 0
CubesAllowAll cubes [] [] = Unit {0}
CubesAllowAll cubes (name ∷ names) (e ∷ later) =
    CubesAllow cubes name e × CubesAllowAll (cubes_after cubes name e) names later
CubesAllowAll cubes names later = ⊥

-- A journal of a run that began with a safe epoch and with cubes of these names. For each entry there is the name of
-- the cube that its statement speaks of; where it speaks of none, any name.
pub record IsLegal (safe : ℕ) (cubes names : List (List ℕ)) (journal : List JournalEntry) : Type 0 where
  pub by_counters : CountersAllowAll safe [] journal
  pub by_cubes : CubesAllowAll cubes names journal
