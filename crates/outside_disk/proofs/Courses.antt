-- What the calls of a DiskMemory do to its course, and so to the disk as all clauses see it.
use Rattle.std.proofs.Common.{◌≡◌, ℕ, suc, ◌+◌, ◌-◌, ◌^◌, ◌<◌, ◌≤◌, ◌⊎◌, Bool, true, false, cond, List, [], ◌∷◌, ◌++◌, length, take, min, Option, Some, Result, Ok, Err, refl, sym, ap, ◌∙◌, subst, add-one, append-nil, inl, inr, ⊎_elim, arith}
use Rattle.std.specs.Prelude.{◌↔◌, nat_le, OnOk, OnErr, IsOk}
use Rattle.std.specs.List.{fold}
use Rattle.std.proofs.lemmas.List.Sums.{fold-append}
use Rattle.std.proofs.lemmas.Bool.Decides.{nat_tests}
use Rattle.std.proofs.lemmas.List.{take-map}
use Rattle.outside.specs.Counts.{next, Rose}
use Rattle.outside_disk.specs.declared.disk.Failed.{Failed}
use Rattle.outside_disk.specs.declared.events.DiskByte.{DiskByte}
use Rattle.outside_disk.specs.declared.events.DiskEvent.{DiskEvent}
use Rattle.outside_disk.specs.declared.events.DiskEvent.TheVariants.{Nothing, Sync, Cut, FailedCut, Write, Byte}
use Rattle.outside_disk.specs.Course.{Course, next_moment, course_after, course_of, byte_events, write_events, WasImage}
use Rattle.outside_disk.specs.DiskBytes.{read_bytes, with_byte, marked_from, IsImage}
use Rattle.outside_disk.specs.Laws.{read_is_image}
use Rattle.outside_disk.specs.Memory.{DiskState, TapeState, tape_course, course_view, disk_view, with_events, fitting_events, Fails, after_call, sync_events, cut_events}
use Rattle.outside_disk.specs.Effects.{Goes, IsSame, Torn, AnyFrom, with_bytes}
use Rattle.outside_disk.specs.Views.{IsSynced}
use Rattle.outside_disk.proofs.Images.{settled_image, read_marked, read_put, unsettled_image, cut_image, bytes_put, write_image, Torn-same, image_long}

-- one moment more, at which each image is an old one after the effect
pub record Moves (effect : List ℕ → List ℕ → Type 0) (old new : Course) : Type 0 where
  pub images : (c : List ℕ) → IsImage new.now c → (d : List ℕ) × IsImage old.now d × effect d c
  pub past : new.past ≡ old.now ∷ old.past

-- the count after a call with this answer
abbrev pub faults_after : {T : Type 0} → Result T Failed → ℕ → ℕ
faults_after (Ok answer) faults = faults
faults_after (Err fault) faults = next faults

rose_next : (n : ℕ) → Rose n (next n)
rose_next n = grind arith

module _ {T : Type 0} (effect : List ℕ → List ℕ → Type 0) where
  -- the course after the call, or the same where the events lacked room
  Goes-moves : (result : Result T Failed) (old new : Course) (n m : ℕ) → Moves effect old new → n ≤ m → m ≡ faults_after result n
      → Goes effect result (course_view old n) (course_view new m)
  Goes-moves result old new n m moves count e = record {
    later = let p = ap length moves.past in omega (arith, p);
    images = moves.images;
    nothing_else = λ t c le left. ⊎_elim (λ now. inr now) (λ was. inl (subst (λ past. WasImage past t c) moves.past was).1) left;
    past = λ t c le left. inr (subst (λ past. WasImage past t c) (sym moves.past) (le, left));
    tells = ((λ h. h), (λ h. h));
    count = count;
    failed = failed result e;
    quiet = quiet result e;
  }
    where
      failed : (result : Result T Failed) → m ≡ faults_after result n → OnErr result (Rose n m)
      failed (Ok answer) e = tt
      failed (Err fault) e = subst (λ k. Rose n k) (sym e) (rose_next n)

      quiet : (result : Result T Failed) → m ≡ faults_after result n → OnOk result (m ≡ n)
      quiet (Ok answer) e = e
      quiet (Err fault) e = tt

  Goes-stays : (result : Result T Failed) (old : Course) (n m : ℕ) → ((c : List ℕ) → IsImage old.now c → effect c c) → n ≤ m → m ≡ faults_after result n
      → Goes effect result (course_view old n) (course_view old m)
  Goes-stays result old n m same count e = record {
    later = omega arith;
    images = λ c im. (c, im, same c im);
    nothing_else = λ t c le left. inl left;
    past = λ t c le left. left;
    tells = ((λ h. h), (λ h. h));
    count = count;
    failed = failed result e;
    quiet = quiet result e;
  }
    where
      failed : (result : Result T Failed) → m ≡ faults_after result n → OnErr result (Rose n m)
      failed (Ok answer) e = tt
      failed (Err fault) e = subst (λ k. Rose n k) (sym e) (rose_next n)

      quiet : (result : Result T Failed) → m ≡ faults_after result n → OnOk result (m ≡ n)
      quiet (Ok answer) e = e
      quiet (Err fault) e = tt

-- events have room or lack it
room_or_none : (room : ℕ) (events : List DiskEvent) → (fitting_events room events ≡ events) ⊎ ((room < length events) × (fitting_events room events ≡ []))
room_or_none room events = at (nat_le (length events) room) refl
  where
    at : (b : Bool) → nat_le (length events) room ≡ b
        → (cond b events [] ≡ events) ⊎ ((room < length events) × (cond b events [] ≡ []))
    at true e = inl refl
    at false e = inr (grind (arith, nat_tests), refl)

-- the course after a call, and its count
pub record After {T : Type 0} (result : Result T Failed) (events : List DiskEvent) (old new : DiskState) : Type 0 where
  pub course : (tape_course new.tape ≡ fold course_after (tape_course old.tape) events)
      ⊎ ((old.tape.room < length events) × (tape_course new.tape ≡ tape_course old.tape))
  pub faults : new.faults ≡ faults_after result old.faults

tape_of : {T : Type 0} (result : Result T Failed) (events : List DiskEvent) (old : DiskState) → (after_call result events old).tape ≡ with_events events old.tape
tape_of (Ok answer) events old = refl
tape_of (Err fault) events old = refl

faults_of : {T : Type 0} (result : Result T Failed) (events : List DiskEvent) (old : DiskState) → (after_call result events old).faults ≡ faults_after result old.faults
faults_of (Ok answer) events old = refl
faults_of (Err fault) events old = refl

pub after : {T : Type 0} (result : Result T Failed) (events : List DiskEvent) (old new : DiskState)
    → new ≡ after_call result (fitting_events old.tape.room events) old → After result events old new
after result events old new e = record {
  course =
      let made = fitting_events old.tape.room events in
      let whole : tape_course new.tape ≡ fold course_after (tape_course old.tape) made =
      ap (λ disk. tape_course disk.tape) e ∙ ap tape_course (tape_of result made old)
      ∙ fold-append course_after _ old.tape.events made in
      ⊎_elim (λ all. inl (whole ∙ ap (fold course_after (tape_course old.tape)) all))
      (λ none. inr (none.0, whole ∙ ap (fold course_after (tape_course old.tape)) none.1)) (room_or_none old.tape.room events);
  faults = ap (λ disk. disk.faults) e ∙ faults_of result (fitting_events old.tape.room events) old;
}

pub Goes-after : {T : Type 0} (effect : List ℕ → List ℕ → Type 0) (result : Result T Failed) (events : List DiskEvent) (old new : DiskState)
    → After result events old new → old.faults ≤ new.faults → Moves effect (tape_course old.tape) (fold course_after (tape_course old.tape) events)
    → ((c : List ℕ) → IsImage (tape_course old.tape).now c → effect c c) → Goes effect result (disk_view old) (disk_view new)
Goes-after effect result events old new call count moves same =
    ⊎_elim
    (λ e. subst (λ k. Goes effect result (disk_view old) (course_view k new.faults)) (sym e)
    (Goes-moves effect result (tape_course old.tape) (fold course_after (tape_course old.tape) events) old.faults new.faults moves count call.faults))
    (λ e. subst (λ k. Goes effect result (disk_view old) (course_view k new.faults)) (sym e.1)
    (Goes-stays effect result (tape_course old.tape) old.faults new.faults same count call.faults))
    call.course

-- what the events do
moves_nothing : (course : Course) → Moves IsSame course (course_after course Nothing)
moves_nothing course = record { images = λ c im. (c, im, refl); past = refl }

moves_sync : (course : Course) → Moves IsSame course (course_after course Sync)
moves_sync course = record {
  images = λ c im. (c, subst (IsImage course.now) (sym (settled_image course.now c im)) (read_is_image course.now), refl);
  past = refl;
}

bytes_course : (course : Course) (at : ℕ) (bytes : List ℕ) → fold course_after course (byte_events at bytes) ≡ record { now = bytes_put at bytes course.now; past = course.past }
bytes_course course at [] = refl
bytes_course course at (byte ∷ bytes) =
    ap (λ k. fold course_after (course_after course (Byte at byte)) (byte_events k bytes)) (add-one at)
    ∙ bytes_course (course_after course (Byte at byte)) (suc at) bytes

pub write_course : (course : Course) (at : ℕ) (bytes : List ℕ)
    → fold course_after course (write_events at bytes) ≡ record { now = bytes_put at bytes course.now; past = course.now ∷ course.past }
write_course course at bytes = bytes_course (course_after course Write) at bytes

moves_write : (course : Course) (at : ℕ) (bytes : List ℕ) → at ≤ length course.now → Moves (Torn at (length bytes)) course (fold course_after course (write_events at bytes))
moves_write course at bytes within =
    subst (Moves (Torn at (length bytes)) course) (sym (write_course course at bytes))
    (record { images = λ c im. write_image at bytes course.now c within im; past = refl })

-- what the calls do
pub goes_nothing : {T : Type 0} (result : Result T Failed) (old new : DiskState) → new ≡ after_call result (fitting_events old.tape.room (Nothing ∷ [])) old
    → old.faults ≤ new.faults → Goes IsSame result (disk_view old) (disk_view new)
goes_nothing result old new e count =
    Goes-after IsSame result (Nothing ∷ []) old new (after result (Nothing ∷ []) old new e) count (moves_nothing (tape_course old.tape)) (λ c im. refl)

pub goes_write : (result : Result Unit Failed) (at : ℕ) (bytes : List ℕ) (old new : DiskState)
    → new ≡ after_call result (fitting_events old.tape.room (write_events at bytes)) old → old.faults ≤ new.faults
    → at ≤ length (tape_course old.tape).now → Goes (Torn at (length bytes)) result (disk_view old) (disk_view new)
goes_write result at bytes old new e count within =
    Goes-after (Torn at (length bytes)) result (write_events at bytes) old new (after result (write_events at bytes) old new e) count
    (moves_write (tape_course old.tape) at bytes within) (λ c im. Torn-same at (length bytes) c)

pub goes_sync : (result : Result Unit Failed) (old new : DiskState) → new ≡ after_call result (fitting_events old.tape.room (sync_events result)) old
    → old.faults ≤ new.faults → Goes IsSame result (disk_view old) (disk_view new)
goes_sync (Ok done) old new e count =
    Goes-after IsSame (Ok done) (Sync ∷ []) old new (after (Ok done) (Sync ∷ []) old new e) count (moves_sync (tape_course old.tape)) (λ c im. refl)
goes_sync (Err fault) old new e count = goes_nothing (Err fault) old new e count

any_same : (len : ℕ) (disk : List DiskByte) (c : List ℕ) → len ≤ length disk → IsImage disk c → AnyFrom len 0 c c
any_same len disk c within im =
    let long = image_long disk c im in record { before = refl; no_shorter = omega (arith, long, within); no_longer = grind arith }

pub goes_cut : (result : Result Unit Failed) (len : ℕ) (old new : DiskState)
    → new ≡ after_call result (fitting_events old.tape.room (cut_events len result)) old → old.faults ≤ new.faults
    → len ≤ length (tape_course old.tape).now → Goes (AnyFrom len 0) result (disk_view old) (disk_view new)
goes_cut (Ok done) len old new e count within =
    let now = (tape_course old.tape).now in
    Goes-after (AnyFrom len 0) (Ok done) (Cut len ∷ []) old new (after (Ok done) (Cut len ∷ []) old new e) count
    (record { images = λ c im. cut_image len now c within im; past = refl }) (λ c im. any_same len now c within im)
goes_cut (Err fault) len old new e count within =
    let now = (tape_course old.tape).now in
    Goes-after (AnyFrom len 0) (Err fault) (FailedCut len ∷ []) old new (after (Err fault) (FailedCut len ∷ []) old new e) count
    (record { images = λ c im. unsettled_image len now c within im; past = refl }) (λ c im. any_same len now c within im)

-- a call that succeeded had room
had_room : (old : DiskState) (cost : ℕ) (result : Result Unit Failed) → IsOk result → (IsOk result ↔ (Fails old cost → ⊥)) → old.tape.room < cost → ⊥
had_room old cost result ok exact lacks = exact.0 ok (inr lacks)

-- what a disk reads as after a call that succeeded
told_after : (events : List DiskEvent) (result : Result Unit Failed) (old new : DiskState) → After result events old new → IsOk result
    → (IsOk result ↔ (Fails old (length events) → ⊥))
    → tape_course new.tape ≡ fold course_after (tape_course old.tape) events
told_after events result old new call ok exact =
    ⊎_elim (λ e. e) (λ none. absurd (had_room old (length events) result ok exact none.0)) call.course

pub told_nothing : {T : Type 0} (result : Result T Failed) (old new : DiskState) → new ≡ after_call result (fitting_events old.tape.room (Nothing ∷ [])) old
    → (disk_view new).told ≡ (disk_view old).told
told_nothing result old new e =
    ⊎_elim (λ k. ap (λ k. Some (read_bytes k.now)) k) (λ none. ap (λ k. Some (read_bytes k.now)) none.1) (after result (Nothing ∷ []) old new e).course

pub told_sync : (result : Result Unit Failed) (old new : DiskState) → new ≡ after_call result (fitting_events old.tape.room (sync_events result)) old
    → (IsOk result ↔ (Fails old 1 → ⊥)) → OnOk result ((disk_view new).told ≡ (disk_view old).told)
told_sync (Ok done) old new e exact =
    ap (λ k. Some (read_bytes k.now)) (told_after (Sync ∷ []) (Ok done) old new (after (Ok done) (Sync ∷ []) old new e) refl exact)
    ∙ ap Some (read_marked 0 true (tape_course old.tape).now)
told_sync (Err fault) old new e exact = tt

pub IsSynced-after : (result : Result Unit Failed) (old new : DiskState) → new ≡ after_call result (fitting_events old.tape.room (sync_events result)) old
    → (IsOk result ↔ (Fails old 1 → ⊥)) → OnOk result (IsSynced (disk_view new))
IsSynced-after (Ok done) old new e exact =
    let course = told_after (Sync ∷ []) (Ok done) old new (after (Ok done) (Sync ∷ []) old new e) refl exact in
    let now = (tape_course old.tape).now in
    subst (λ k. (c : List ℕ) → IsImage k.now c → c ≡ read_bytes k.now) (sym course)
    (λ c im. settled_image now c im ∙ sym (read_marked 0 true now))
IsSynced-after (Err fault) old new e exact = tt

pub told_cut : (result : Result Unit Failed) (len : ℕ) (old new : DiskState) → new ≡ after_call result (fitting_events old.tape.room (cut_events len result)) old
    → (IsOk result ↔ (Fails old 1 → ⊥)) → OnOk result ((disk_view new).told ≡ Some (take len (read_bytes (tape_course old.tape).now)))
told_cut (Ok done) len old new e exact =
    ap (λ k. Some (read_bytes k.now)) (told_after (Cut len ∷ []) (Ok done) old new (after (Ok done) (Cut len ∷ []) old new e) refl exact)
    ∙ ap Some (sym (take-map (λ b. b.byte) len (tape_course old.tape).now))
told_cut (Err fault) len old new e exact = tt

length-byte_events : (at : ℕ) (bytes : List ℕ) → length (byte_events at bytes) ≡ length bytes
length-byte_events at [] = refl
length-byte_events at (byte ∷ bytes) = let rest = length-byte_events (at + 1) bytes in omega (arith, rest)

pub told_write : (result : Result Unit Failed) (at : ℕ) (bytes : List ℕ) (old new : DiskState)
    → new ≡ after_call result (fitting_events old.tape.room (write_events at bytes)) old → (IsOk result ↔ (Fails old (1 + length bytes) → ⊥))
    → at ≤ length (tape_course old.tape).now
    → OnOk result ((disk_view new).told ≡ Some (with_bytes at bytes (read_bytes (tape_course old.tape).now)))
told_write (Ok done) at bytes old new e exact within =
    let events = write_events at bytes in
    let len : 1 + length bytes ≡ length events = let rest = length-byte_events at bytes in omega (arith, rest) in
    let call = after (Ok done) events old new e in
    ap (λ k. Some (read_bytes k.now)) (told_after events (Ok done) old new call refl (rw len at exact) ∙ write_course (tape_course old.tape) at bytes)
    ∙ ap Some (read_put at bytes (tape_course old.tape).now within)
told_write (Err fault) at bytes old new e exact within = tt

-- a write has room or lacks it
pub write_fits : (room at : ℕ) (bytes : List ℕ) → length bytes < room → fitting_events room (write_events at bytes) ≡ write_events at bytes
write_fits room at bytes fits =
    let len = length-byte_events at bytes in
    ⊎_elim (λ all. all) (λ none. absurd (omega (arith, len, none.0, fits))) (room_or_none room (write_events at bytes))

pub write_lacks : (room at : ℕ) (bytes : List ℕ) → room ≤ length bytes → fitting_events room (write_events at bytes) ≡ []
write_lacks room at bytes lacks = at_test (nat_le (length (write_events at bytes)) room) refl
  where
    at_test : (b : Bool) → nat_le (length (write_events at bytes)) room ≡ b → cond b (write_events at bytes) [] ≡ []
    at_test true e = let len = length-byte_events at bytes in absurd (grind (arith, nat_tests, len))
    at_test false e = refl

-- a byte put
pub put_course : (first : List ℕ) (events more : List DiskEvent) (at byte : ℕ) (bytes new : List DiskByte) → more ≡ events ++ Byte at byte ∷ []
    → (course_of first events).now ≡ bytes → new ≡ with_byte at byte bytes → (course_of first more).now ≡ new
put_course first events more at byte bytes new more_is now new_is =
    ap (λ es. (course_of first es).now) more_is
    ∙ ap (λ course. course.now) (fold-append course_after _ events (Byte at byte ∷ []))
    ∙ ap (with_byte at byte) now
    ∙ sym new_is

-- a call that is answered once its events are there
with_none : (tape : TapeState) → with_events [] tape ≡ tape
with_none tape =
    let room : tape.room - 0 ≡ tape.room = omega arith in
    (λ i. record { first = tape.first; events = append-nil tape.events i; room = room i })

pub after_answer : {T : Type 0} (result : Result T Failed) (events made : List DiskEvent) (old : DiskState) (tape : TapeState)
    → tape ≡ with_events events old.tape → made ≡ events → after_call result [] (record old { tape = tape }) ≡ after_call result made old
after_answer (Ok answer) events made old tape e all =
    ap (λ t. record old { tape = t; calls = next old.calls }) (with_none tape ∙ e ∙ ap (λ es. with_events es old.tape) (sym all))
after_answer (Err fault) events made old tape e all =
    ap (λ t. record old { tape = t; calls = next old.calls; faults = next old.faults })
    (with_none tape ∙ e ∙ ap (λ es. with_events es old.tape) (sym all))
