-- What an entry at the end of a vector of epochs leaves: what it leads to, neighbours, and its list.
use Rattle.std.proofs.Common.{◌≡◌, ℕ, ◌+◌, ◌==◌, ◌&&◌, ◌∙◌, Bool, true, false, List, [], ◌∷◌, ◌++◌, length, get_or, slice_set, if◌then◌else◌, suc, zero, refl, ap, sym, subst, arith}
use Rattle.std.proofs.lemmas.Bool.Decides.{nat_tests}
use Rattle.cube_values.specs.declared.entry.Entry.{Entry}
use Rattle.cube_values.specs.declared.entry.Entry.TheVariants.{Run, Mark}
use Rattle.cube_values.specs.EpochsVector.{IsVector, Leads, NeighboursApart, is_one_with, rows_from, rows_of, vector_with_entry}

-- the rows that entries lead to
pub rows_led : (from : ℕ) (xs : List Entry) (to : ℕ) → Leads from xs to → rows_from from xs ≡ to
rows_led from [] to l = l
rows_led from (Run epoch end ∷ xs) to l = rows_led end xs to l.1
rows_led from (Mark epoch at ∷ xs) to l = rows_led from xs to l.1

pub vector_rows : (xs : List Entry) (rows : ℕ) → IsVector xs rows → rows_of xs ≡ rows
vector_rows xs rows v = rows_led 0 xs rows v.leads

-- what one more entry leads to
lead_end : (last new : Entry) (from to more : ℕ) (b : Bool) → is_one_with last new ≡ b → Leads from (last ∷ []) to → Leads to (new ∷ []) more → Leads from (if b then new ∷ [] else last ∷ new ∷ []) more
lead_end (Run e x) (Run f y) from to more true h l m = (omega (arith, l.0, l.1, m.0), m.1)
lead_end (Mark e x) (Mark f y) from to more true h l m = (grind (arith, l.0, l.1, m.0), omega (arith, l.1, m.1))
lead_end (Run e x) (Mark f y) from to more true h l m = cc
lead_end (Mark e x) (Run f y) from to more true h l m = cc
lead_end (Run e x) (Run f y) from to more false h l m = (l.0, (omega (arith, l.1, m.0), m.1))
lead_end (Mark e x) (Mark f y) from to more false h l m = (l.0, (omega (arith, l.1, m.0), omega (arith, l.1, m.1)))
lead_end (Run e x) (Mark f y) from to more false h l m = (l.0, (omega (arith, l.1, m.0), omega (arith, l.1, m.1)))
lead_end (Mark e x) (Run f y) from to more false h l m = (l.0, (omega (arith, l.1, m.0), m.1))

pub lead_more : (xs : List Entry) (new : Entry) (from to more : ℕ) → Leads from xs to → Leads to (new ∷ []) more → Leads from (vector_with_entry xs new) more
lead_more [] new from to more l m = let P : ℕ → Type 0 = λ n. Leads n (new ∷ []) more in subst P (sym l) m
lead_more (last ∷ []) new from to more l m = lead_end last new from to more (is_one_with last new) refl l m
lead_more (Run e x ∷ next ∷ xs) new from to more l m = (l.0, lead_more (next ∷ xs) new x to more l.1 m)
lead_more (Mark e x ∷ next ∷ xs) new from to more l m = (l.0, lead_more (next ∷ xs) new from to more l.1 m)

-- neighbours of one more entry
one_like : (a last new : Entry) → is_one_with last new ≡ true → is_one_with a new ≡ is_one_with a last
one_like (Run d w) (Run e x) (Run f y) h = let p : f ≡ e = grind (arith, nat_tests) in ap (λ n. d == n) p
one_like (Mark d w) (Mark e x) (Mark f y) h =
    let p : f ≡ e = grind (arith, nat_tests) in
    let q : y ≡ x = grind (arith, nat_tests) in
    λ t. d == p t && w == q t
one_like (Mark d w) (Run e x) (Run f y) h = refl
one_like (Run d w) (Mark e x) (Mark f y) h = refl
one_like a (Run e x) (Mark f y) h = cc
one_like a (Mark e x) (Run f y) h = cc

apart_one : (last new : Entry) (b : Bool) → is_one_with last new ≡ b → NeighboursApart (if b then new ∷ [] else last ∷ new ∷ [])
apart_one last new true h = tt
apart_one last new false h = (h, tt)

apart_two : (a last new : Entry) (b : Bool) → is_one_with last new ≡ b → is_one_with a last ≡ false → NeighboursApart (a ∷ (if b then new ∷ [] else last ∷ new ∷ []))
apart_two a last new true h k = (one_like a last new h ∙ k, tt)
apart_two a last new false h k = (k, (h, tt))

pub apart_more : (xs : List Entry) (new : Entry) → NeighboursApart xs → NeighboursApart (vector_with_entry xs new)
apart_more [] new k = tt
apart_more (last ∷ []) new k = apart_one last new (is_one_with last new) refl
apart_more (a ∷ last ∷ []) new k = apart_two a last new (is_one_with last new) refl k.0
apart_more (a ∷ b ∷ c ∷ xs) new k = (k.0, apart_more (b ∷ c ∷ xs) new k.1)

-- a vector with one more entry
pub vector_more : (xs : List Entry) (new : Entry) (rows more : ℕ) → IsVector xs rows → Leads rows (new ∷ []) more → IsVector (vector_with_entry xs new) more
vector_more xs new rows more v m = record {
  leads = lead_more xs new 0 rows more v.leads m;
  apart = apart_more xs new v.apart;
}

-- the list with one more entry, where it takes the place of the last and where it comes after it
pub put_over : (xs : List Entry) (n : ℕ) (d new : Entry) → length xs ≡ n + 1 → is_one_with (get_or xs n d) new ≡ true → slice_set xs n new ≡ vector_with_entry xs new
put_over [] n d new l h = absurd (omega arith)
put_over (x ∷ []) zero d new l h = let f : is_one_with x new ≡ true = h in rw f
put_over (x ∷ []) (suc n) d new l h = absurd (omega arith)
put_over (x ∷ y ∷ xs) zero d new l h = absurd (omega arith)
put_over (x ∷ y ∷ xs) (suc n) d new l h = ap (λ t. x ∷ t) (put_over (y ∷ xs) n d new (omega arith) h)

pub put_after : (xs : List Entry) (n : ℕ) (d new : Entry) → length xs ≡ n + 1 → is_one_with (get_or xs n d) new ≡ false → xs ++ new ∷ [] ≡ vector_with_entry xs new
put_after [] n d new l h = absurd (omega arith)
put_after (x ∷ []) zero d new l h = let f : is_one_with x new ≡ false = h in rw f
put_after (x ∷ []) (suc n) d new l h = absurd (omega arith)
put_after (x ∷ y ∷ xs) zero d new l h = absurd (omega arith)
put_after (x ∷ y ∷ xs) (suc n) d new l h = ap (λ t. x ∷ t) (put_after (y ∷ xs) n d new (omega arith) h)

pub put_first : (xs : List Entry) (new : Entry) → length xs ≡ 0 → xs ++ new ∷ [] ≡ vector_with_entry xs new
put_first [] new l = refl
put_first (x ∷ xs) new l = absurd (omega arith)
