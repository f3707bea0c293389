-- The records that a reader has left, one after the other.
use Rattle.std.proofs.Common.{◌≡◌, ℕ, zero, suc, ◌+◌, ◌<◌, ◌≤◌, Bool, true, false, cond, List, [], ◌∷◌, ◌++◌, length, Option, Some, None, refl, sym, ap, ◌∙◌, inl, inr, arith}
use Rattle.std.specs.Prelude.{◌==◌, IsSome}
use Rattle.std.proofs.lemmas.Bool.{cases_Bool}
use Rattle.csv.specs.Machine.{Read, after_end, ends_at_end, ends_with, field_after, fields_after, in_field, is_end, next_record, start_field, start_record, step}
use Rattle.csv.specs.Reading.{NextIs, ReadRecord, ReadsNext, default_config, is_flexible, has_failed, pending_of, reader_state, records_from, records_next, source_of, took_first}
use Rattle.csv.specs.declared.parser.Action.{Action}
use Rattle.csv.specs.declared.parser.Action.TheVariants as act
use Rattle.csv.specs.declared.parser.Config.{Config}
use Rattle.csv.specs.declared.parser.State.{State}
use Rattle.csv.specs.declared.parser.State.TheVariants as st
use Rattle.csv.specs.declared.parser.Terminator.TheVariants as term
use Rattle.csv.specs.declared.reader.Reader.{Reader}
use Rattle.csv_load.specs.FileRecords.{RecordFields}
use Rattle.csv_load.specs.Sources.{IsBetween, known_records, records_left}

-- ---- the machine stands between two records after one

-- an action that ends a record leaves a state in which the end of the text ends none
abbrev EndsBetween : State × Action → Type 0
EndsBetween q = is_end q.1 ≡ true → ends_at_end q.0 ≡ false

choice : (b : Bool) (x y : State × Action) → EndsBetween x → EndsBetween y → EndsBetween (cond b x y)
choice true x y hx hy = hx
choice false x y hx hy = hy

no_end : (s : State) (a : Action) → is_end a ≡ false → EndsBetween (s, a)
no_end s a goes = λ ends. absurd cc

line_end : (b : Bool) → ends_at_end (cond b st.AfterCr st.StartRecord) ≡ false
line_end true = refl
line_end false = refl

in_field_ends : (c : ℕ) → EndsBetween (in_field default_config c)
in_field_ends c =
    choice (c == 44) (st.StartField, act.EndField)
    (cond (ends_with term.CRLF c) (after_end term.CRLF c, act.EndRecord) (st.InField, act.Copy))
    (no_end st.StartField act.EndField refl)
    (choice (ends_with term.CRLF c) (after_end term.CRLF c, act.EndRecord) (st.InField, act.Copy)
    (λ ends. line_end (c == 13)) (no_end st.InField act.Copy refl))

start_field_ends : (c : ℕ) → EndsBetween (start_field default_config c)
start_field_ends c = choice (c == 34) (st.InQuoted, act.Skip) (in_field default_config c)
    (no_end st.InQuoted act.Skip refl) (in_field_ends c)

start_record_ends : (c : ℕ) → EndsBetween (start_record default_config c)
start_record_ends c = choice (ends_with term.CRLF c) (st.StartRecord, act.Skip) (start_field default_config c)
    (no_end st.StartRecord act.Skip refl) (start_field_ends c)

step_ends : (s : State) (c : ℕ) → EndsBetween (step default_config s c)
step_ends st.StartRecord c = start_record_ends c
step_ends st.StartField c = start_field_ends c
step_ends st.InField c = in_field_ends c
step_ends st.InQuoted c = choice (c == 34) (st.AfterQuote, act.Skip) (st.InQuoted, act.Copy)
    (no_end st.AfterQuote act.Skip refl) (no_end st.InQuoted act.Copy refl)
step_ends st.InEscape c = no_end st.InQuoted act.Copy refl
step_ends st.AfterQuote c = choice (c == 34) (st.InQuoted, act.Copy) (in_field default_config c)
    (no_end st.InQuoted act.Copy refl) (in_field_ends c)
step_ends st.InComment c = choice (c == 10) (st.StartRecord, act.Skip) (st.InComment, act.Skip)
    (no_end st.StartRecord act.Skip refl) (no_end st.InComment act.Skip refl)
step_ends st.AfterCr c = choice (c == 10) (st.StartRecord, act.Skip) (start_record default_config c)
    (no_end st.StartRecord act.Skip refl) (start_record_ends c)

after_record : (s : State) (fields : RecordFields) (field xs : List ℕ) (p : Read)
    → next_record default_config s fields field xs ≡ Some p → ends_at_end p.1 ≡ false
unfolding next_record
after_record s fields field [] p e = elim (cases_Bool (ends_at_end s)) [
  | inl ends ↦
      let found = rw ends at e in
      let same : (fields ++ field ∷ [], st.StartRecord, []) ≡ p = cc in
      ap (λ (q : Read). ends_at_end q.1) (sym same)
  | inr none ↦ let found = rw none at e in absurd cc
]
after_record s fields field (c ∷ rest) p e = elim (cases_Bool (is_end (step default_config s c).1)) [
  | inl ends ↦
      let found = rw ends at e in
      let same : (fields_after (step default_config s c).1 fields field, (step default_config s c).0, rest) ≡ p = cc in
      ap (λ (q : Read). ends_at_end q.1) (sym same) ∙ step_ends s c ends
  | inr goes ↦ after_record (step default_config s c).0 (fields_after (step default_config s c).1 fields field)
      (field_after (step default_config s c).1 c field) rest p (rw goes at e)
]

-- ---- each record takes some bytes

no_longer : (s : State) (fields : RecordFields) (field xs : List ℕ) (p : Read)
    → next_record default_config s fields field xs ≡ Some p → length p.2 ≤ length xs
unfolding next_record
no_longer s fields field [] p e = elim (cases_Bool (ends_at_end s)) [
  | inl ends ↦
      let found = rw ends at e in
      let same : (fields ++ field ∷ [], st.StartRecord, []) ≡ p = cc in
      omega (arith, ap (λ (q : Read). length q.2) same)
  | inr none ↦ let found = rw none at e in absurd cc
]
no_longer s fields field (c ∷ rest) p e = elim (cases_Bool (is_end (step default_config s c).1)) [
  | inl ends ↦
      let found = rw ends at e in
      let same : (fields_after (step default_config s c).1 fields field, (step default_config s c).0, rest) ≡ p = cc in
      omega (arith, ap (λ (q : Read). length q.2) same)
  | inr goes ↦ omega (
    arith,
    no_longer (step default_config s c).0
        (fields_after (step default_config s c).1 fields field) (field_after (step default_config s c).1 c field) rest p
        (rw goes at e),
  )
]

shorter : (s : State) (xs : List ℕ) (p : Read) → ends_at_end s ≡ false
    → next_record default_config s [] [] xs ≡ Some p → length p.2 < length xs
unfolding next_record
shorter s [] p between e = let found = rw between at e in absurd cc
shorter s (c ∷ rest) p between e = elim (cases_Bool (is_end (step default_config s c).1)) [
  | inl ends ↦
      let found = rw ends at e in
      let same : (fields_after (step default_config s c).1 [] [], (step default_config s c).0, rest) ≡ p = cc in
      omega (arith, ap (λ (q : Read). length q.2) same)
  | inr goes ↦ omega (
    arith,
    no_longer (step default_config s c).0 (fields_after (step default_config s c).1 [] [])
        (field_after (step default_config s c).1 c []) rest p (rw goes at e),
  )
]

-- ---- how many records are asked for does not matter, once they are more than the bytes

by_next : (n m : ℕ) (s : State) (xs : List ℕ) (o : Option Read) → next_record default_config s [] [] xs ≡ o
    → ((p : Read) → next_record default_config s [] [] xs ≡ Some p
    → records_from default_config n p.1 p.2 ≡ records_from default_config m p.1 p.2)
    → records_next (records_from default_config n) o ≡ records_next (records_from default_config m) o
by_next n m s xs None e more = refl
by_next n m s xs (Some p) e more = ap (λ (rs : List RecordFields). p.0 ∷ rs) (more p e)

enough : (n m : ℕ) (s : State) (xs : List ℕ) → ends_at_end s ≡ false → length xs < n → length xs < m
    → records_from default_config n s xs ≡ records_from default_config m s xs
unfolding records_from
enough zero m s xs between a b = absurd (omega (arith, a))
enough (suc n) zero s xs between a b = absurd (omega (arith, b))
enough (suc n) (suc m) s xs between a b =
    by_next n m s xs (next_record default_config s [] [] xs) refl (λ p e.
    let less = shorter s xs p between e in
    enough n m p.1 p.2 (after_record s [] [] xs p e) (omega (arith, a, less)) (omega (arith, b, less)))

left_some : (s : State) (xs : List ℕ) (p : Read) → ends_at_end s ≡ false
    → next_record default_config s [] [] xs ≡ Some p → records_left s xs ≡ p.0 ∷ records_left p.1 p.2
unfolding records_from
left_some s xs p between e =
    let more : length xs + 1 ≡ suc (length xs) = omega arith in
    let less = shorter s xs p between e in
    ap (λ n. records_from default_config n s xs) more
    ∙ ap (records_next (records_from default_config (length xs))) e
    ∙ ap (λ (rs : List RecordFields). p.0 ∷ rs)
    (enough (length xs) (length p.2 + 1) p.1 p.2 (after_record s [] [] xs p e) less (omega arith))

left_none : (s : State) (xs : List ℕ) → next_record default_config s [] [] xs ≡ None → records_left s xs ≡ []
unfolding records_from
left_none s xs e =
    let more : length xs + 1 ≡ suc (length xs) = omega arith in
    ap (λ n. records_from default_config n s xs) more ∙ ap (records_next (records_from default_config (length xs))) e

-- ---- one read of a reader

-- what a read that found a record says of the bytes
record Taken (s s2 : State) (a b : Option (List ℕ)) (fields : RecordFields) : Type 0 where
  pub next : known_records s a ≡ fields ∷ known_records s2 b
  pub known : IsSome b
  pub between : ends_at_end s2 ≡ false

taken_by : (s s2 : State) (xs ys : List ℕ) (fields : RecordFields) (o : Option Read) → ends_at_end s ≡ false
    → next_record default_config s [] [] xs ≡ o → NextIs o true fields s2 ys → Taken s s2 (Some xs) (Some ys) fields
taken_by s s2 xs ys fields None between e n = absurd cc
taken_by s s2 xs ys fields (Some p) between e n = record {
  next = left_some s xs p between e ∙ sym (λ i. n.1 i ∷ records_left (n.2 i) (n.3 i));
  known = refl;
  between = ap ends_at_end n.2 ∙ after_record s [] [] xs p e;
}

taken : (cfg : Config) (s s2 : State) (a b : Option (List ℕ)) (fields : RecordFields) → cfg ≡ default_config
    → ends_at_end s ≡ false → IsSome a → ReadsNext cfg s a b true fields s2 → Taken s s2 a b fields
taken cfg s s2 None b fields is between some r = absurd cc
taken cfg s s2 (Some xs) None fields is between some r = absurd r
taken cfg s s2 (Some xs) (Some ys) fields is between some r =
    taken_by s s2 xs ys fields (next_record default_config s [] [] xs) between refl (rw is at r)

none_by : (s s2 : State) (xs ys : List ℕ) (fields : RecordFields) (o : Option Read)
    → next_record default_config s [] [] xs ≡ o → NextIs o false fields s2 ys → records_left s xs ≡ []
none_by s s2 xs ys fields None e n = left_none s xs e
none_by s s2 xs ys fields (Some p) e n = absurd cc

none_left : (cfg : Config) (s s2 : State) (a b : Option (List ℕ)) (fields : RecordFields) → cfg ≡ default_config
    → ReadsNext cfg s a b false fields s2 → known_records s a ≡ []
none_left cfg s s2 None b fields is r = refl
none_left cfg s s2 (Some xs) None fields is r = absurd r
none_left cfg s s2 (Some xs) (Some ys) fields is r =
    none_by s s2 xs ys fields (next_record default_config s [] [] xs) refl (rw is at r)

-- what a read leaves, as the reader sees it
same_source : {R : Type 0} (remaining : R → Option (List ℕ)) (old new : Reader R) (found : Bool)
    (fields : RecordFields) → ReadRecord remaining old new found fields
    → source_of remaining new ≡ pending_of (remaining new.rdr) new
same_source remaining old new found fields r = rw r.1 refl

read_taken : {R : Type 0} (remaining : R → Option (List ℕ)) (old new : Reader R) (fields : RecordFields)
    → IsBetween remaining old → ReadRecord remaining old new true fields
    → Taken old.state new.state (source_of remaining old) (source_of remaining new) fields
read_taken remaining old new fields h r =
    rw (same_source remaining old new true fields r)
    (taken old.config old.state new.state (source_of remaining old)
    (pending_of (remaining new.rdr) new) fields h.config h.between h.known r.0)

pub read_some : {R : Type 0} (remaining : R → Option (List ℕ)) (old new : Reader R) (fields : RecordFields)
    → IsBetween remaining old → ReadRecord remaining old new true fields
    → known_records (reader_state old) (source_of remaining old)
    ≡ fields ∷ known_records (reader_state new) (source_of remaining new)
read_some remaining old new fields h r = (read_taken remaining old new fields h r).next

pub read_on : {R : Type 0} (remaining : R → Option (List ℕ)) (old new : Reader R) (fields : RecordFields)
    → IsBetween remaining old → ReadRecord remaining old new true fields → took_first new ≡ true
    → is_flexible new ≡ is_flexible old → has_failed new ≡ has_failed old
    → IsBetween remaining new
read_on remaining old new fields h r first flexible failed =
    let t = read_taken remaining old new fields h r in
    record {
      config = r.2 ∙ h.config;
      plain = r.3 ∙ h.plain;
      ready = inl first;
      flexible = flexible ∙ h.flexible;
      sound = failed ∙ h.sound;
      known = t.known;
      between = t.between;
    }

pub read_none : {R : Type 0} (remaining : R → Option (List ℕ)) (old new : Reader R) (fields : RecordFields)
    → IsBetween remaining old → ReadRecord remaining old new false fields
    → known_records (reader_state old) (source_of remaining old) ≡ []
read_none remaining old new fields h r =
    none_left old.config old.state new.state (source_of remaining old)
    (pending_of (remaining new.rdr) new) fields h.config r.0
