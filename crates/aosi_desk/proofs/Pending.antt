-- The pending epochs rise, and there is one for each writer.
use Rattle.std.proofs.Common.{◌≡◌, ◌≢◌, ◌⊎◌, ℕ, zero, suc, ◌+◌, ◌-◌, ◌<◌, ◌≤◌, ◌==◌, Bool, true, false, not, List, [], ◌∷◌, ◌++◌, length, set, filter, fold, min, cond, Option, Some, None, refl, subst, sym, ◌∙◌, ap, inl, inr, arith, rules}
use Rattle.std.specs.List.{count_by}
use Rattle.std.proofs.lemmas.Bool.{cases_eq}
use Rattle.std.proofs.lemmas.Bool.Decides.{nat_tests}
use Rattle.std.proofs.lemmas.List.Sums.{sum_by-cons, sum_by-set}
use Rattle.linked_roll.specs.declared.ticket.Ticket.{Ticket}
use Rattle.linked_roll.specs.Members.{Member, item_by_ticket, items, front, members_without, TicketsDiffer}
use Rattle.linked_roll.proofs.Tickets.{ticket_cases, item_by_ticket-here, item_by_ticket-other, members_without-here, members_without-other}
use Rattle.aosi_desk.specs.Holds.{hold_of, is_writer, WritersCount, Rise}
use Rattle.aosi_desk.specs.declared.hold.Hold.{Hold}
use Rattle.aosi_desk.specs.declared.hold.Hold.TheVariants.{Free, Reader, Writer}
use Rattle.aosi_desk.proofs.Held.{hold-same, hold-other}

pub Rise-below : (low high : ℕ) (es : List ℕ) → Rise low es high → low < high
Rise-below low high [] rise = rise
Rise-below low high (e ∷ es) rise = let more = Rise-below e high es rise.1 in omega (arith, rise.0)

pub Rise-higher : (low high more : ℕ) (es : List ℕ) → high ≤ more → Rise low es high → Rise low es more
Rise-higher low high more [] above rise = omega arith
Rise-higher low high more (e ∷ es) above rise = (rise.0, Rise-higher e high more es above rise.1)

Rise-lower : (low less high : ℕ) (es : List ℕ) → less ≤ low → Rise low es high → Rise less es high
Rise-lower low less high [] below rise = omega arith
Rise-lower low less high (e ∷ es) below rise = let first = rise.0 in (omega arith, rise.1)

pub Rise-added : (low high : ℕ) (es : List ℕ) → Rise low es high → Rise low (es ++ high ∷ []) (high + 1)
Rise-added low high [] rise = (rise, omega arith)
Rise-added low high (e ∷ es) rise = (rise.0, Rise-added e high es rise.1)

-- The least of rising epochs and what is above them.
fold-stays : (low : ℕ) (es : List ℕ) (high : ℕ) → Rise low es high → fold min low es ≡ low
fold-stays low [] high rise = refl
fold-stays low (e ∷ es) high rise =
    let least : min low e ≡ low = let first = rise.0 in omega arith in
    ap (λ m. fold min m es) least ∙ fold-stays low es high
    (Rise-lower e low high es (let first = rise.0 in omega arith) rise.1)

pub fold-rise : (low high e : ℕ) (es : List ℕ) → Rise low (e ∷ es) high → fold min high (e ∷ es) ≡ e
fold-rise low high e es rise =
    let below = Rise-below e high es rise.1 in
    let least : min high e ≡ e = omega arith in
    ap (λ m. fold min m es) least ∙ fold-stays e es high rise.1

not_same : (a b : ℕ) → a ≡ b → not (a == b) ≡ false
not_same a b same = grind (arith, nat_tests)

not_other : (a b : ℕ) → a ≢ b → not (a == b) ≡ true
not_other a b differ = grind (arith, nat_tests)

filter-here : (a b : ℕ) (es : List ℕ) → a ≡ b → filter (λ e. not (e == b)) (a ∷ es) ≡ filter (λ e. not (e == b)) es
filter-here a b es same = rw (not_same a b same) refl

filter-other : (a b : ℕ) (es : List ℕ) → a ≢ b → filter (λ e. not (e == b)) (a ∷ es) ≡ a ∷ filter (λ e. not (e == b)) es
filter-other a b es differ = rw (not_other a b differ) refl

-- Epochs above one are all others than it.
filter-above : (low epoch high : ℕ) (es : List ℕ) → epoch ≤ low → Rise low es high
    → filter (λ e. not (e == epoch)) es ≡ es
filter-above low epoch high [] below rise = refl
filter-above low epoch high (e ∷ es) below rise =
    let first = rise.0 in
    filter-other e epoch es (λ same. omega arith)
    ∙ ap (λ left. e ∷ left) (filter-above e epoch high es (omega arith) rise.1)

found_above : (low high : ℕ) (ms : List (Member ℕ)) (t : Ticket) (epoch : ℕ) → Rise low (items ms) high
    → item_by_ticket ms t ≡ Some epoch → low < epoch
found_above low high [] t epoch rise found = absurd (cc)
found_above low high (m ∷ ms) t epoch rise found = elim (ticket_cases m.ticket t) [
  | inl same ↦
      let here : Some m.item ≡ Some epoch =
      sym (item_by_ticket-here m ms) ∙ ap (item_by_ticket (m ∷ ms)) same ∙ found in
      let is : m.item ≡ epoch = cc in
      let first = rise.0 in omega arith
  | inr apart ↦
      let above = found_above m.item high ms t epoch rise.1 (sym (item_by_ticket-other m ms t apart) ∙ found) in
      let first = rise.0 in omega arith
]

-- Without the epoch of a ticket.
pub pending_taken : (low high : ℕ) (ms : List (Member ℕ)) (t : Ticket) (epoch : ℕ) → Rise low (items ms) high
    → item_by_ticket ms t ≡ Some epoch → items (members_without t ms) ≡ filter (λ e. not (e == epoch)) (items ms)
pending_taken low high [] t epoch rise found = refl
pending_taken low high (m ∷ ms) t epoch rise found = elim (ticket_cases m.ticket t) [
  | inl same ↦
      let here : Some m.item ≡ Some epoch =
      sym (item_by_ticket-here m ms) ∙ ap (item_by_ticket (m ∷ ms)) same ∙ found in
      let is : m.item ≡ epoch = cc in
      ap items (members_without-here m ms t same)
      ∙ sym (filter-above m.item epoch high (items ms) (omega arith) rise.1)
      ∙ sym (filter-here m.item epoch (items ms) is)
  | inr apart ↦
      let behind = sym (item_by_ticket-other m ms t apart) ∙ found in
      let above = found_above m.item high ms t epoch rise.1 behind in
      ap items (members_without-other m ms t apart)
      ∙ ap (λ left. m.item ∷ left) (pending_taken m.item high ms t epoch rise.1 behind)
      ∙ sym (filter-other m.item epoch (items ms) (λ same. omega arith))
]

pub Rise-taken : (low high : ℕ) (ms : List (Member ℕ)) (t : Ticket) → Rise low (items ms) high
    → Rise low (items (members_without t ms)) high
Rise-taken low high [] t rise = rise
Rise-taken low high (m ∷ ms) t rise = elim (ticket_cases m.ticket t) [
  | inl same ↦
      subst (λ left. Rise low (items left) high) (sym (members_without-here m ms t same))
      (Rise-lower m.item low high (items ms) (let first = rise.0 in omega arith) rise.1)
  | inr apart ↦
      subst (λ left. Rise low (items left) high) (sym (members_without-other m ms t apart))
      (rise.0, Rise-taken m.item high ms t rise.1)
]

no_weight : (b : Bool) → b ≡ false → cond {A = ℕ} b 1 0 ≡ zero
no_weight true is = absurd (cc)
no_weight false is = refl

one_weight : (b : Bool) → b ≡ true → cond {A = ℕ} b 1 0 ≡ suc zero
one_weight true is = refl
one_weight false is = absurd (cc)

-- Where only the first places have writers, there are no more than these places.
count-few : (holds : List Hold) (k : ℕ) → ((i : ℕ) → k ≤ i → is_writer (hold_of holds i) ≡ false)
    → count_by is_writer holds ≤ k
count-few [] k none = omega arith
count-few (h ∷ holds) zero none =
    let first : is_writer h ≡ false = none 0 (omega arith) in
    let rest = count-few holds 0 (λ i above. none (suc i) (omega arith)) in
    let counted = sum_by-cons (λ x. cond (is_writer x) 1 0) h holds in
    let weight = no_weight (is_writer h) first in
    omega arith
count-few (h ∷ holds) (suc k) none =
    let rest = count-few holds k (λ i above. none (suc i) (omega arith)) in
    let counted = sum_by-cons (λ x. cond (is_writer x) 1 0) h holds in
    let most = weight_most (is_writer h) in
    omega arith
  where
    weight_most : (b : Bool) → cond {A = ℕ} b 1 0 ≤ suc zero
    weight_most true = omega arith
    weight_most false = omega arith

pub WritersCount-most : (holds : List Hold) (sessions pending : ℕ) → WritersCount holds sessions pending
    → pending ≤ sessions
WritersCount-most [] sessions pending writers = let none = writers.count in omega arith
WritersCount-most (h ∷ holds) sessions pending writers =
    let weight = no_weight (is_writer h) writers.first in
    let rest = count-few holds sessions (λ i above. writers.few (suc i) (omega arith)) in
    let counted = sum_by-cons (λ x. cond (is_writer x) 1 0) h holds in
    let all = writers.count in
    omega arith

-- One place is changed.
count-set : (holds : List Hold) (n : ℕ) (h : Hold) → n < length holds
    → count_by is_writer (set holds n h) + cond (is_writer (hold_of holds n)) 1 0 ≡ count_by is_writer holds + cond
    (is_writer h) 1 0
count-set holds n h within = sum_by-set (λ x. cond (is_writer x) 1 0) holds n h Free within

few-set : (holds : List Hold) (n k : ℕ) (h : Hold) → n < length holds
    → ((i : ℕ) → k < i → is_writer (hold_of holds i) ≡ false)
    → (k < n → is_writer h ≡ false) → (i : ℕ) → k < i → is_writer (hold_of (set holds n h) i) ≡ false
few-set holds n k h within few new i above = elim (cases_eq i n) [
  | inl same ↦ ap is_writer (ap (hold_of (set holds n h)) same ∙ hold-same holds n h within)
      ∙ new (subst (λ x. k < x) same above)
  | inr other ↦ ap is_writer (hold-other holds n i h other) ∙ few i above
]

first-set : (holds : List Hold) (n : ℕ) (h : Hold) → n < length holds → is_writer (hold_of holds 0) ≡ false
    → (0 ≡ n → is_writer h ≡ false) → is_writer (hold_of (set holds n h) 0) ≡ false
first-set holds n h within first new = elim (cases_eq 0 n) [
  | inl same ↦ ap is_writer (ap (hold_of (set holds n h)) same ∙ hold-same holds n h within) ∙ new same
  | inr other ↦ ap is_writer (hold-other holds n 0 h other) ∙ first
]

-- A session begins to write.
pub WritersCount-more : (holds : List Hold) (sessions pending n : ℕ) (t p : Ticket) → n < length holds → 1 ≤ n
    → n ≤ sessions
    → is_writer (hold_of holds n) ≡ false → WritersCount holds sessions pending
    → WritersCount (set holds n (Writer t p)) sessions (pending + 1)
WritersCount-more holds sessions pending n t p within low high was writers = record {
  few = few-set holds n sessions (Writer t p) within writers.few (λ above. absurd (omega arith));
  first = first-set holds n (Writer t p) within writers.first (λ same. absurd (omega arith));
  count =
      let counted = count-set holds n (Writer t p) within in
      let old = no_weight (is_writer (hold_of holds n)) was in
      let all = writers.count in
      omega arith;
}

-- A session that writes ends.
pub WritersCount-fewer : (holds : List Hold) (sessions pending n : ℕ) → n < length holds
    → is_writer (hold_of holds n) ≡ true
    → WritersCount holds sessions (pending + 1) → WritersCount (set holds n Free) sessions pending
WritersCount-fewer holds sessions pending n within was writers = record {
  few = few-set holds n sessions Free within writers.few (λ above. refl);
  first = first-set holds n Free within writers.first (λ same. refl);
  count =
      let counted = count-set holds n Free within in
      let old = one_weight (is_writer (hold_of holds n)) was in
      let all = writers.count in
      omega arith;
}

-- A session that does not write opens or ends a reader.
pub WritersCount-same : (holds : List Hold) (sessions pending n : ℕ) (h : Hold) → n < length holds
    → is_writer (hold_of holds n) ≡ false → is_writer h ≡ false → WritersCount holds sessions pending
    → WritersCount (set holds n h) sessions pending
WritersCount-same holds sessions pending n h within was new writers = record {
  few = few-set holds n sessions h within writers.few (λ above. new);
  first = first-set holds n h within writers.first (λ same. new);
  count =
      let counted = count-set holds n h within in
      let old = no_weight (is_writer (hold_of holds n)) was in
      let now = no_weight (is_writer h) new in
      let all = writers.count in
      omega arith;
}

-- The first of rising epochs is the least.
pub least_front : (low high : ℕ) (ms : List (Member ℕ)) (e : ℕ) → Rise low (items ms) high → front ms ≡ Some e
    → (fold min high (items ms) ≡ e) × (low < e)
least_front low high [] e rise is = absurd (cc)
least_front low high (m ∷ ms) e rise is =
    let same : m.item ≡ e = cc in
    (fold-rise low high m.item (items ms) rise ∙ same, subst (λ x. low < x) same rise.0)

pub least_none : (low high : ℕ) (ms : List (Member ℕ)) → Rise low (items ms) high → front ms ≡ None
    → (fold min high (items ms) ≡ high) × (low < high)
least_none low high [] rise is = (refl, rise)
least_none low high (m ∷ ms) rise is = absurd (cc)
