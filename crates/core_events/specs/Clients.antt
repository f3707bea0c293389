-- What a client knows from its own calls: the snapshots that it holds, its last group of jobs, what the desk showed it.
-- Source: this project's own.
use Rattle.std.specs.Prelude.{ℕ, ◌+◌, Bool, true, false, not, ◌&&◌, ◌||◌, ◌==◌, max, List, [], ◌∷◌, ◌++◌, length, filter, Option, Some, None, if◌then◌else◌}
use Rattle.std.specs.List.{list_any}
use Rattle.std.specs.Option.{option_map_or}
use Rattle.cube_values.specs.declared.snapshot.Snapshot.{Snapshot}
use Rattle.cube_journal.specs.declared.journal_entry.LostCause.TheVariants.{Disk}
use Rattle.aosi_desk.specs.declared.answer.RoundAnswer.{RoundAnswer}
use Rattle.aosi_desk.specs.declared.answer.RoundAnswer.TheVariants.{Target, Nothing}
use Rattle.aosi_desk.specs.declared.answer.RoundEnd.{RoundEnd}
use Rattle.aosi_desk.specs.declared.answer.RoundEnd.TheVariants.{Lost}
use Rattle.aosi_desk.specs.declared.cube.CubeAnswer.{CubeAnswer}
use Rattle.aosi_desk.specs.declared.cube.CubeAnswer.TheVariants.{Created}
use Rattle.aosi_desk.specs.declared.cube.CubeFound.{CubeFound}
use Rattle.aosi_desk.specs.declared.cube.CubeFound.TheVariants.{Found, Unknown}
use Rattle.names_dict.specs.declared.code.Code.{Code}
use Rattle.names_dict.specs.declared.code.Code.TheVariants.{Known, Added, Full}
use Rattle.core_events.specs.Jobs.{JobOutcome}
use Rattle.core_events.specs.Groups.{GroupKind, Flushes, JobGroup, no_group, group_after_post, group_after_fetch}
use Rattle.core_events.specs.Events.{Opening, OpenWrite, OpenRead, Commit, AbortEnd, CloseRead, TakeNote, CreateCube, FindCube, CubesFrom, CountersNow, RoundOpen, RoundClose, NamesEvent, Encode, FindName, CopyFrom, ClientCall, OnDesk, OnNames, Post, Fetch, CoreEvent, By, At}

-- A snapshot that is held under a number: a session's own, or one of its holders'.
pub record Holding : Type 0 where
  pub number : ℕ
  pub snapshot : Snapshot

-- The open round, and whether its cubes are copied, which comes after its rows.
pub record OwnRound : Type 0 where
  pub from : ℕ
  pub epoch : ℕ
  pub has_cubes : Bool

-- What a client knows: what it holds, in the order of opening; the holder that was opened while the other held nothing;
-- its group; the answer of its last FLUSH since its last entry in the journal; the greatest LSE that it was shown; the
-- LSEs that it was shown since its last entry; its open round; whether it lost one to the disk; and how many cubes and
-- names there are at least.
pub record ClientState : Type 0 where
  pub holds : List Holding
  pub leader : Option ℕ
  pub group : JobGroup
  pub flush : Option JobOutcome
  pub lse : ℕ
  pub shown : List ℕ
  pub round : Option OwnRound
  pub store_lost : Bool
  pub cubes : ℕ
  pub names : ℕ → ℕ → ℕ

abbrev pub opening_client : Opening → ClientState
opening_client o = record {
  holds = [];
  leader = None;
  group = no_group;
  flush = None;
  lse = o.safe;
  shown = [];
  round = None;
  store_lost = false;
  cubes = length o.cubes;
  names = λ cube dim. length (o.names cube dim).names;
}

-- The snapshot that is held under a number.
abbrev pub held_under : ℕ → List Holding → Option Snapshot
held_under number [] = None
held_under number (h ∷ holds) = if h.number == number then Some h.snapshot else held_under number holds

abbrev pub holds_without : ℕ → List Holding → List Holding
holds_without number holds = filter (λ h. not (h.number == number)) holds

abbrev pub holds_with : ℕ → Snapshot → List Holding → List Holding
holds_with number snapshot holds = holds ++ record { number = number; snapshot = snapshot } ∷ []

abbrev pub writer_at : ℕ → List ℕ → Snapshot
writer_at epoch deps = record { epoch = epoch; deps = deps; own = true }

abbrev pub reader_up_to : ℕ → Snapshot
reader_up_to epoch = record { epoch = epoch; deps = []; own = false }

-- What it holds after a call: a snapshot that was opened stands behind the others.
abbrev pub holds_after : ℕ → ClientCall → List Holding → List Holding
holds_after a (OnDesk (OpenWrite statement epoch deps)) holds = holds_with a (writer_at epoch deps) holds
holds_after a (OnDesk (OpenRead number statement epoch)) holds = holds_with number (reader_up_to epoch) holds
holds_after a (OnDesk (Commit statement epoch)) holds = holds_without a holds
holds_after a (OnDesk (AbortEnd statement epoch cause)) holds = holds_without a holds
holds_after a (OnDesk (CloseRead number statement)) holds = holds_without number holds
holds_after a call holds = holds

-- Some other number than the session's own holds a snapshot.
abbrev pub others_hold : ℕ → List Holding → Bool
others_hold session holds = list_any (λ h. not (h.number == session)) holds

abbrev pub leader_after : ℕ → ClientCall → List Holding → Option ℕ → Option ℕ
leader_after a (OnDesk (OpenRead number statement epoch)) holds leader =
    if number == a || others_hold a holds then leader else Some number
leader_after a (OnDesk (CloseRead number statement)) holds leader =
    if option_map_or (λ l. l == number) leader false then None else leader
leader_after a call holds leader = leader

-- Looking for a cube leaves an entry in the journal where there is none.
abbrev pub is_not_found : CubeFound → Bool
is_not_found Unknown = true
is_not_found (Found place decl) = false

-- The call leaves an entry of the client itself: one under its own number.
abbrev pub is_own_entry : ℕ → ClientCall → Bool
is_own_entry a (OnDesk (OpenWrite statement epoch deps)) = true
is_own_entry a (OnDesk (OpenRead number statement epoch)) = number == a
is_own_entry a (OnDesk (Commit statement epoch)) = true
is_own_entry a (OnDesk (AbortEnd statement epoch cause)) = true
is_own_entry a (OnDesk (CloseRead number statement)) = number == a
is_own_entry a (OnDesk (TakeNote note counters)) = true
is_own_entry a (OnDesk (CreateCube statement decl answer)) = true
is_own_entry a (OnDesk (FindCube statement name answer)) = is_not_found answer
is_own_entry a call = false

-- No group goes on past a call that opens or ends something, or that leaves an entry.
abbrev pub ends_group : ClientCall → Bool
ends_group (OnDesk (OpenWrite statement epoch deps)) = true
ends_group (OnDesk (OpenRead number statement epoch)) = true
ends_group (OnDesk (Commit statement epoch)) = true
ends_group (OnDesk (AbortEnd statement epoch cause)) = true
ends_group (OnDesk (CloseRead number statement)) = true
ends_group (OnDesk (TakeNote note counters)) = true
ends_group (OnDesk (CreateCube statement decl answer)) = true
ends_group (OnDesk (FindCube statement name answer)) = is_not_found answer
ends_group (OnDesk (RoundOpen answer)) = true
ends_group (OnDesk (RoundClose epoch end)) = true
ends_group call = false

abbrev pub group_after : ℕ → ClientCall → JobGroup → JobGroup
group_after shards (Post mail job) g = group_after_post shards mail job g
group_after shards (Fetch mail answer) g = group_after_fetch mail answer g
group_after shards call g = if ends_group call then no_group else g

-- The answer to a FLUSH is kept besides.
abbrev pub flush_after_fetch : GroupKind → JobOutcome → Option JobOutcome → Option JobOutcome
flush_after_fetch Flushes answer flush = Some answer
flush_after_fetch kind answer flush = flush

abbrev pub flush_after : ℕ → ClientCall → GroupKind → Option JobOutcome → Option JobOutcome
flush_after a (Fetch mail answer) kind flush = flush_after_fetch kind answer flush
flush_after a call kind flush = if is_own_entry a call then None else flush

-- The LSE that an answer shows. Where there is nothing to save, the target is LSE.
abbrev pub lse_in_round : RoundAnswer → ℕ
lse_in_round (Target from epoch) = from
lse_in_round (Nothing epoch) = epoch

abbrev pub lse_in : ClientCall → Option ℕ
lse_in (OnDesk (TakeNote note counters)) = Some counters.lse
lse_in (OnDesk (CountersNow counters)) = Some counters.lse
lse_in (OnDesk (RoundOpen answer)) = Some (lse_in_round answer)
lse_in call = None

abbrev pub with_lse : Option ℕ → List ℕ → List ℕ
with_lse None shown = shown
with_lse (Some lse) shown = lse ∷ shown

abbrev pub greater_of : Option ℕ → ℕ → ℕ
greater_of None n = n
greater_of (Some m) n = max n m

abbrev pub round_in : RoundAnswer → Option OwnRound
round_in (Target from epoch) = Some (record { from = from; epoch = epoch; has_cubes = false })
round_in (Nothing epoch) = None

abbrev pub round_with_cubes : Option OwnRound → Option OwnRound
round_with_cubes None = None
round_with_cubes (Some round) = Some (record round { has_cubes = true })

abbrev pub own_round_after : ClientCall → Option OwnRound → Option OwnRound
own_round_after (OnDesk (RoundOpen answer)) round = round_in answer
own_round_after (OnDesk (RoundClose epoch end)) round = None
own_round_after (OnDesk (CubesFrom place cubes)) round = round_with_cubes round
own_round_after call round = round

abbrev pub is_lost_to_disk : RoundEnd → Bool
is_lost_to_disk (Lost Disk) = true
is_lost_to_disk end = false

abbrev pub store_lost_after : ClientCall → Bool → Bool
store_lost_after (OnDesk (RoundClose epoch end)) lost = is_lost_to_disk end || lost
store_lost_after call lost = lost

-- How many cubes there are at least, by an answer.
abbrev pub cubes_by_answer : CubeAnswer → Option ℕ
cubes_by_answer (Created epoch place) = Some (place + 1)
cubes_by_answer answer = None

abbrev pub cubes_by_place : CubeFound → Option ℕ
cubes_by_place (Found place decl) = Some (place + 1)
cubes_by_place Unknown = None

abbrev pub cubes_at_least : ClientCall → Option ℕ
cubes_at_least (OnDesk (CreateCube statement decl answer)) = cubes_by_answer answer
cubes_at_least (OnDesk (FindCube statement name answer)) = cubes_by_place answer
cubes_at_least (OnDesk (CubesFrom place cubes)) = Some (place + length cubes)
cubes_at_least call = None

-- The number that a name has by its code.
abbrev pub number_by_code : Code → Option ℕ
number_by_code (Known n) = Some n
number_by_code (Added n) = Some n
number_by_code Full = None

-- How many names a dimension has at least, by a number that one of them has.
abbrev pub names_by_number : Option ℕ → Option ℕ
names_by_number None = None
names_by_number (Some n) = Some (n + 1)

-- The same, where the test says that the call is on this dimension.
abbrev pub greater_where : Bool → Option ℕ → ℕ → ℕ
greater_where true more n = greater_of more n
greater_where false more n = n

abbrev pub names_after_call : NamesEvent → (ℕ → ℕ → ℕ) → ℕ → ℕ → ℕ
names_after_call (Encode cube dim name code) names c d =
    greater_where (cube == c && dim == d) (names_by_number (number_by_code code)) (names c d)
names_after_call (FindName cube dim name number) names c d =
    greater_where (cube == c && dim == d) (names_by_number number) (names c d)
names_after_call (CopyFrom cube dim from more) names c d =
    greater_where (cube == c && dim == d) (Some (from + length more)) (names c d)

abbrev pub names_after : ClientCall → (ℕ → ℕ → ℕ) → ℕ → ℕ → ℕ
names_after (OnNames call) names c d = names_after_call call names c d
names_after call names c d = names c d

abbrev pub after_client_call : Opening → ℕ → ClientCall → ClientState → ClientState
after_client_call o a call k = record {
  holds = holds_after a call k.holds;
  leader = leader_after a call k.holds k.leader;
  group = group_after o.shards call k.group;
  flush = flush_after a call k.group.kind k.flush;
  lse = greater_of (lse_in call) k.lse;
  shown = with_lse (lse_in call) (if is_own_entry a call then [] else k.shown);
  round = own_round_after call k.round;
  store_lost = store_lost_after call k.store_lost;
  cubes = greater_of (cubes_at_least call) k.cubes;
  names = names_after call k.names;
}

-- What a client knows after events: those of others change nothing for it.
abbrev pub client_after_call : Opening → Bool → ℕ → ClientCall → ClientState → ClientState
client_after_call o true a call k = after_client_call o a call k
client_after_call o false a call k = k

abbrev pub client_state : Opening → ℕ → List CoreEvent → ClientState
client_state o a [] = opening_client o
client_state o a (By b call ∷ es) = client_after_call o (b == a) a call (client_state o a es)
client_state o a (At mail move ∷ es) = client_state o a es

-- The calls of one client, the newest first, and what it knows from them.
abbrev pub calls_of : ℕ → List CoreEvent → List ClientCall
calls_of a [] = []
calls_of a (By b call ∷ es) = if b == a then call ∷ calls_of a es else calls_of a es
calls_of a (At mail move ∷ es) = calls_of a es

abbrev pub state_from_calls : Opening → ℕ → List ClientCall → ClientState
state_from_calls o a [] = opening_client o
state_from_calls o a (call ∷ calls) = after_client_call o a call (state_from_calls o a calls)
