-- One more entry of the journal agrees with the list of cubes.
use Rattle.std.proofs.Common.{◌≡◌, ℕ, ◌<◌, ◌≤◌, ◌==◌, Bool, true, false, ◌||◌, cond, List, [], ◌∷◌, ◌++◌, length, take, None, Some, refl, sym, ap, ◌∙◌, subst, arith, length-append}
use Rattle.std.specs.List.{list_any, All}
use Rattle.std.specs.Str.{bytes_eq}
use Rattle.std.proofs.lemmas.Bool.Decides.{nat_tests, same_from_decides}
use Rattle.std.proofs.lemmas.List.{map-append, length-map, take-append-le, take_all}
use Rattle.std.proofs.lemmas.List.Elements.{All-append, All-nil, All-cons}
use Rattle.std.proofs.lemmas.Slice.Eq.{bytes_eq-Decides}
use Rattle.cube_language.specs.Cubes.{first_repeated, IsStorable}
use Rattle.cube_language.specs.declared.decl.Decl.{Decl}
use Rattle.cube_journal.specs.Legal.{has_cube, CubesAllow, CubesAllowAll, CountersAllowAll, cubes_after, RefusalFits}
use Rattle.cube_journal.specs.declared.journal_entry.JournalEntry.{JournalEntry}
use Rattle.cube_journal.specs.declared.journal_entry.JournalEntry.TheVariants as entry
use Rattle.cube_schema.proofs.Repeated.{repeated-push}
use Rattle.aosi_desk.specs.State.{RegisterState, with_entry, answer_entry, end_entry}
use Rattle.aosi_desk.specs.declared.answer.RoundAnswer.{RoundAnswer}
use Rattle.aosi_desk.specs.declared.answer.RoundAnswer.TheVariants.{Target, Nothing}
use Rattle.aosi_desk.specs.declared.answer.RoundEnd.{RoundEnd}
use Rattle.aosi_desk.specs.declared.answer.RoundEnd.TheVariants.{Safe, Lost}
use Rattle.aosi_desk.specs.Desks.{decl_names, is_cube_code, speaks_of_cubes, cubes_after_all, KeepsCubes, AreCubes, IsLegalDesk}

-- One more entry that the cubes allow.
pub allowed-more : (cubes names : List (List ℕ)) (journal : List JournalEntry) (name : List ℕ) (e : JournalEntry)
    → CubesAllowAll cubes names journal → CubesAllow (cubes_after_all cubes names journal) name e
    → CubesAllowAll cubes (names ++ name ∷ []) (journal ++ e ∷ [])
allowed-more cubes [] [] name e all more = (more, tt)
allowed-more cubes (n ∷ names) (x ∷ journal) name e all more =
    (all.0, allowed-more (cubes_after cubes n x) names journal name e all.1 more)
allowed-more cubes [] (x ∷ journal) name e all more = absurd all
allowed-more cubes (n ∷ names) [] name e all more = absurd all

pub cubes_after_all-more : (cubes names : List (List ℕ)) (journal : List JournalEntry) (name : List ℕ) (e : JournalEntry)
    → CubesAllowAll cubes names journal
    → cubes_after_all cubes (names ++ name ∷ []) (journal ++ e ∷ [])
    ≡ cubes_after (cubes_after_all cubes names journal) name e
cubes_after_all-more cubes [] [] name e all = refl
cubes_after_all-more cubes (n ∷ names) (x ∷ journal) name e all =
    cubes_after_all-more (cubes_after cubes n x) names journal name e all.1
cubes_after_all-more cubes [] (x ∷ journal) name e all = absurd all
cubes_after_all-more cubes (n ∷ names) [] name e all = absurd all

-- The register inside, as it is lent, and with the entry.
pub keeps-more : (inside old new : RegisterState) (opening before after : List Decl) (name : List ℕ) (e : JournalEntry)
    → old ≡ inside → new ≡ with_entry old e → CubesAllow (decl_names before) name e
    → cubes_after (decl_names before) name e ≡ decl_names after
    → KeepsCubes (record { register = inside; cubes = before; opening = opening })
    → KeepsCubes (record { register = new; cubes = after; opening = opening })
keeps-more inside old new opening before after name e lent is allows leads kept =
    let keeps = subst (λ r. KeepsCubes (record { register = r; cubes = before; opening = opening })) (sym lent) kept in
    let more = subst (λ cubes. CubesAllow cubes name e) (sym keeps.leads) allows in
    let first = decl_names opening in
    subst (λ r. KeepsCubes (record { register = r; cubes = after; opening = opening })) (sym is) (record {
      names = keeps.names ++ name ∷ [];
      allowed = allowed-more first keeps.names old.journal name e keeps.allowed more;
      leads = cubes_after_all-more first keeps.names old.journal name e keeps.allowed
          ∙ ap (λ cubes. cubes_after cubes name e) keeps.leads ∙ leads;
    })

or_none : (a b : Bool) → (a || b) ≡ false → (a ≡ false) × (b ≡ false)
or_none true b none = absurd (cc)
or_none false b none = (refl, none)

not_number : (n k : ℕ) → (n == k) ≡ false → n ≡ k → ⊥
not_number n k other same = grind (arith, nat_tests)

other_refusal : (cubes : List (List ℕ)) (name : List ℕ) (n : ℕ) → is_cube_code n ≡ false → RefusalFits cubes name n
other_refusal cubes name n other =
    let both = or_none (n == 2 || n == 19) (n == 21) other in
    let first = or_none (n == 2) (n == 19) both.0 in record {
      unknown = λ is. absurd (not_number n 2 first.0 is);
      exists = λ is. absurd (not_number n 19 first.1 is);
      too_many = λ is. absurd (not_number n 21 both.1 is);
    }

-- An entry that does not speak of the cubes is allowed and leaves them.
pub other_entry : (cubes : List (List ℕ)) (e : JournalEntry) → speaks_of_cubes e ≡ false
    → CubesAllow cubes [] e × (cubes_after cubes [] e ≡ cubes)
other_entry cubes (entry.Begin session statement epoch deps) other = (tt, refl)
other_entry cubes (entry.Read session statement epoch) other = (tt, refl)
other_entry cubes (entry.ReadEnd session statement) other = (tt, refl)
other_entry cubes (entry.Committed session statement epoch) other = (tt, refl)
other_entry cubes (entry.Aborted session statement epoch cause) other = (tt, refl)
other_entry cubes (entry.Refused session statement code) other = (other_refusal cubes [] code other, refl)
other_entry cubes (entry.Cleared session statement) other = (tt, refl)
other_entry cubes (entry.Show session statement) other = (tt, refl)
other_entry cubes (entry.Flushed session statement) other = (tt, refl)
other_entry cubes (entry.Purged session statement epoch) other = (tt, refl)
other_entry cubes (entry.Cube session statement epoch) other = absurd (cc)
other_entry cubes (entry.Round epoch) other = (tt, refl)
other_entry cubes (entry.Idle epoch) other = (tt, refl)
other_entry cubes (entry.Safe epoch) other = (tt, refl)
other_entry cubes (entry.RoundLost epoch cause) other = (tt, refl)

pub keeps-other : (inside old new : RegisterState) (opening cubes : List Decl) (e : JournalEntry) → old ≡ inside
    → new ≡ with_entry old e → speaks_of_cubes e ≡ false
    → KeepsCubes (record { register = inside; cubes = cubes; opening = opening })
    → KeepsCubes (record { register = new; cubes = cubes; opening = opening })
keeps-other inside old new opening cubes e lent is other keeps =
    let fits = other_entry (decl_names cubes) e other in
    keeps-more inside old new opening cubes cubes [] e lent is fits.0 fits.1 keeps

bytes_eq-comm : (a b : List ℕ) → bytes_eq a b ≡ bytes_eq b a
bytes_eq-comm a b =
    let ab = bytes_eq-Decides a b in
    let ba = bytes_eq-Decides b a in
    same_from_decides _ _ ab (λ t. sym (ba.0 t), λ e. ba.1 (sym e))

-- A cube of a new name is one more.
pub are_cubes-more : (cubes : List Decl) (d : Decl) → AreCubes cubes → length cubes < 16
    → has_cube (decl_names cubes) d.name ≡ false → IsStorable d → AreCubes (cubes ++ d ∷ [])
are_cubes-more cubes d are place new_name storable =
    let other : list_any (bytes_eq d.name) (decl_names cubes) ≡ false =
    (λ i. list_any (λ cube. bytes_eq-comm d.name cube i) (decl_names cubes)) ∙ new_name in record {
      few = omega (arith, length-append cubes (d ∷ []));
      differ = ap first_repeated (map-append (λ (x : Decl). x.name) cubes (d ∷ []))
          ∙ repeated-push (decl_names cubes) d.name are.differ ∙ ap (λ b. cond b (Some d.name) None) other;
      storable = All-append IsStorable cubes (d ∷ []) are.storable
          (All-cons IsStorable d [] storable (All-nil IsStorable));
    }

-- No entry of a round speaks of the cubes.
pub answer_entry-other : (answer : RoundAnswer) → speaks_of_cubes (answer_entry answer) ≡ false
answer_entry-other (Target from epoch) = refl
answer_entry-other (Nothing epoch) = refl

pub end_entry-other : (epoch : ℕ) (end : RoundEnd) → speaks_of_cubes (end_entry epoch end) ≡ false
end_entry-other epoch Safe = refl
end_entry-other epoch (Lost cause) = refl

-- The empty journal.
pub keeps-opening : (safe sessions : ℕ) (register : RegisterState) (cubes : List Decl)
    → register ≡ record { safe = safe; sessions = sessions; journal = [] }
    → KeepsCubes (record { register = register; cubes = cubes; opening = cubes })
keeps-opening safe sessions register cubes is =
    subst (λ r. KeepsCubes (record { register = r; cubes = cubes; opening = cubes })) (sym is)
    (record { names = []; allowed = tt; leads = refl })

pub are_cubes-opening : (cubes decls : List Decl) → decls ≡ cubes → length cubes ≤ 16
    → first_repeated (decl_names cubes) ≡ None → All IsStorable decls → AreCubes decls
are_cubes-opening cubes decls same few differ storable = record {
  few = subst (λ x. length x ≤ 16) (sym same) few;
  differ = ap (λ x. first_repeated (decl_names x)) same ∙ differ;
  storable = storable;
}

pub storable-more : (before after : List Decl) (d item : Decl) → after ≡ before ++ d ∷ [] → d ≡ item
    → IsStorable item → All IsStorable before → All IsStorable after
storable-more before after d item is same storable all =
    subst (All IsStorable) (sym is) (All-append IsStorable before (d ∷ []) all
    (All-cons IsStorable d [] (subst IsStorable (sym same) storable) (All-nil IsStorable)))

-- The cubes of the opening are the same where a cube was added, and at the opening all cubes are.
pub opening-more : (opened : ℕ) (before after : List Decl) (d : Decl) → after ≡ before ++ d ∷ []
    → opened ≤ length before → take opened after ≡ take opened before
opening-more opened before after d is within =
    ap (take opened) is ∙ take-append-le opened before (d ∷ []) within

pub keeps-made : (opened : ℕ) (register : RegisterState) (before after : List Decl) (d : Decl)
    → after ≡ before ++ d ∷ [] → opened ≤ length before
    → KeepsCubes (record { register = register; cubes = after; opening = take opened before })
    → KeepsCubes (record { register = register; cubes = after; opening = take opened after })
keeps-made opened register before after d is within =
    subst (λ (first : List Decl). KeepsCubes (record { register = register; cubes = after; opening = first }))
    (sym (opening-more opened before after d is within))

pub within-more : (opened : ℕ) (before after : List Decl) (d : Decl) → after ≡ before ++ d ∷ []
    → opened ≤ length before → opened ≤ length after
within-more opened before after d is within =
    omega (arith, within, ap length is, length-append before (d ∷ []))

pub all-opened : (opened : ℕ) (cubes : List Decl) → opened ≡ length cubes → take opened cubes ≡ cubes
all-opened opened cubes is = take_all opened cubes (omega (arith, is))

pub keeps-opened : (opened : ℕ) (register : RegisterState) (cubes : List Decl) → opened ≡ length cubes
    → KeepsCubes (record { register = register; cubes = cubes; opening = cubes })
    → KeepsCubes (record { register = register; cubes = cubes; opening = take opened cubes })
keeps-opened opened register cubes is =
    subst (λ (first : List Decl). KeepsCubes (record { register = register; cubes = cubes; opening = first }))
    (sym (all-opened opened cubes is))

-- A cube of a new name is made.
pub cube_allowed : (cubes : List Decl) (d : Decl) (session statement epoch : ℕ) → length cubes < 16
    → has_cube (decl_names cubes) d.name ≡ false
    → CubesAllow (decl_names cubes) d.name (entry.Cube session statement epoch)
cube_allowed cubes d session statement epoch place new_name = record {
  place = omega (arith, length-map cubes (λ (x : Decl). x.name), place);
  new_name = new_name;
}

-- The names with that of the cube that was made.
pub names_more : (before after : List Decl) (d : Decl) → after ≡ before ++ d ∷ []
    → decl_names before ++ d.name ∷ [] ≡ decl_names after
names_more before after d is =
    sym (map-append (λ (x : Decl). x.name) before (d ∷ [])) ∙ ap decl_names (sym is)

pub unknown_fits : (cubes : List Decl) (name : List ℕ) → has_cube (decl_names cubes) name ≡ false
    → RefusalFits (decl_names cubes) name 2
unknown_fits cubes name none = record {
  unknown = λ is. none;
  exists = λ is. absurd (omega (arith, is));
  too_many = λ is. absurd (omega (arith, is));
}

pub exists_fits : (cubes : List Decl) (name : List ℕ) → has_cube (decl_names cubes) name ≡ true
    → RefusalFits (decl_names cubes) name 19
exists_fits cubes name has = record {
  unknown = λ is. absurd (omega (arith, is));
  exists = λ is. has;
  too_many = λ is. absurd (omega (arith, is));
}

pub too_many_fits : (cubes : List Decl) (name : List ℕ) → length cubes ≡ 16
    → has_cube (decl_names cubes) name ≡ false → RefusalFits (decl_names cubes) name 21
too_many_fits cubes name full none = record {
  unknown = λ is. absurd (omega (arith, is));
  exists = λ is. absurd (omega (arith, is));
  too_many = λ is. record { full = length-map cubes (λ (x : Decl). x.name) ∙ full; new_name = none };
}

-- A journal that both the counters and the cubes allow.
pub legal_desk : (inside lent : RegisterState) (opening cubes : List Decl) → lent ≡ inside
    → CountersAllowAll lent.safe [] lent.journal
    → KeepsCubes (record { register = inside; cubes = cubes; opening = opening })
    → IsLegalDesk (record { register = inside; cubes = cubes; opening = opening })
legal_desk inside lent opening cubes lent_is legal keeps = record {
  names = keeps.names;
  legal = record {
    by_counters = subst (λ (r : RegisterState). CountersAllowAll r.safe [] r.journal) lent_is legal;
    by_cubes = keeps.allowed;
  };
  leads = keeps.leads;
}
