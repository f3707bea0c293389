-- Deletions, rollbacks and purges commute with births: what they make of a newborn brick is the newborn brick of what
-- they make of the deletions that wait.
use Rattle.std.proofs.Common.{◌≡◌, ℕ, ◌==◌, ◌&&◌, ◌||◌, Bool, true, false, not, cond, List, [], ◌∷◌, ◌++◌, map, filter, fold, refl, sym, ap, ◌∙◌, ◌⊎◌, inl, inr, arith, subst}
use Rattle.std.specs.List.{items_where_true}
use Rattle.std.proofs.lemmas.Bool.Decides.{nat_tests}
use Rattle.std.proofs.lemmas.List.{map-append}
use Rattle.std.proofs.lemmas.List.Elements.{filter-append}
use Rattle.std.proofs.lemmas.List.Sums.{fold-append}
use Rattle.cube_values.specs.declared.entry.Entry.{Entry}
use Rattle.cube_values.specs.declared.entry.Entry.TheVariants.{Run, Mark}
use Rattle.cube_values.specs.declared.row.CodedRow.{CodedRow}
use Rattle.cube_values.specs.declared.shape.Size.{Size}
use Rattle.cube_values.specs.EpochsVector.{maker, is_one_with, vector_with_entry}
use Rattle.epochs_vector.specs.Without.{recounted_entry, staying_bits, entries_without}
use Rattle.purge_plan.specs.Purged.{is_old_mark, with_merged_entry, with_counted_entry, spared_bits, purged_entries}
use Rattle.brick_map.specs.declared.deletion.Deletion.{Deletion}
use Rattle.brick_map.specs.Births.{BrickContent, has_brick, birth_marks, newborn, content_with_mark, content_without, content_purged}

-- marks before the first row
abbrev pub AreMarks : List Entry → Type 0
AreMarks [] = Unit {0}
AreMarks (Run epoch end ∷ entries) = ⊥
AreMarks (Mark epoch at ∷ entries) = (at ≡ 0) × AreMarks entries

-- one mark behind others is a new one, or the last once more
same_mark : (e f : ℕ) → (e == f && 0 == 0) ≡ true → Mark e 0 ≡ Mark f 0
same_mark e f h = let p : e ≡ f = grind (arith, nat_tests) in ap (λ n. Mark n 0) p

pub record IsAgain (marks : List Entry) (mark : Entry) : Type 0 where
  pub before : List Entry
  pub is : marks ≡ before ++ mark ∷ []
  pub same : vector_with_entry marks mark ≡ marks

abbrev IsPut : List Entry → Entry → Type 0
IsPut marks mark = (vector_with_entry marks mark ≡ marks ++ mark ∷ []) ⊎ IsAgain marks mark

put_last : (e f : ℕ) (b : Bool) → (e == f && 0 == 0) ≡ b → IsPut (Mark e 0 ∷ []) (Mark f 0)
put_last e f true h = inr (record {
  before = [];
  is = ap (λ m. m ∷ []) (same_mark e f h);
  same = ap (λ b. cond b (Mark f 0 ∷ []) (Mark e 0 ∷ Mark f 0 ∷ [])) h ∙ ap (λ m. m ∷ []) (sym (same_mark e f h));
})
put_last e f false h = inl (ap (λ b. cond b (Mark f 0 ∷ []) (Mark e 0 ∷ Mark f 0 ∷ [])) h)

put_more : (a b : Entry) (marks : List Entry) (mark : Entry) → IsPut (b ∷ marks) mark → IsPut (a ∷ b ∷ marks) mark
put_more a b marks mark (inl e) = inl (ap (λ l. a ∷ l) e)
put_more a b marks mark (inr h) = inr (record {
  before = a ∷ h.before;
  is = ap (λ l. a ∷ l) h.is;
  same = ap (λ l. a ∷ l) h.same;
})

put_mark : (marks : List Entry) (f : ℕ) → AreMarks marks → IsPut marks (Mark f 0)
put_mark [] f h = inl refl
put_mark (Run e end ∷ marks) f h = absurd h
put_mark (Mark e at ∷ []) f h = let P : ℕ → Type 0 = λ n. IsPut (Mark e n ∷ []) (Mark f 0) in subst P (sym h.0) (put_last e f (e == f && 0 == 0) refl)
put_mark (Mark e at ∷ b ∷ marks) f h = put_more (Mark e at) b marks (Mark f 0) (put_mark (b ∷ marks) f h.1)

-- a mark put twice
one_self : (f : ℕ) → (f == f && 0 == 0) ≡ true
one_self f = grind (arith, nat_tests)

pub behind : (a b : Entry) (marks : List Entry) (m k : Entry) → vector_with_entry (a ∷ vector_with_entry (b ∷ marks) m) k ≡ a ∷ vector_with_entry (vector_with_entry (b ∷ marks) m) k
behind a b [] m k = by_test (is_one_with b m) where
  by_test : (t : Bool) → vector_with_entry (a ∷ cond t (m ∷ []) (b ∷ m ∷ [])) k ≡ a ∷ vector_with_entry (cond t (m ∷ []) (b ∷ m ∷ [])) k
  by_test true = refl
  by_test false = refl
behind a b (c ∷ marks) m k = refl

put_twice : (marks : List Entry) (f : ℕ) → vector_with_entry (vector_with_entry marks (Mark f 0)) (Mark f 0) ≡ vector_with_entry marks (Mark f 0)
put_twice [] f = ap (λ b. cond b (Mark f 0 ∷ []) (Mark f 0 ∷ Mark f 0 ∷ [])) (one_self f)
put_twice (a ∷ []) f = by_test (put_twice [] f) (is_one_with a (Mark f 0)) where
  by_test : vector_with_entry (Mark f 0 ∷ []) (Mark f 0) ≡ Mark f 0 ∷ [] → (t : Bool) → vector_with_entry (cond t (Mark f 0 ∷ []) (a ∷ Mark f 0 ∷ [])) (Mark f 0) ≡ cond t (Mark f 0 ∷ []) (a ∷ Mark f 0 ∷ [])
  by_test again true = again
  by_test again false = ap (λ l. a ∷ l) again
put_twice (a ∷ b ∷ marks) f = behind a b marks (Mark f 0) (Mark f 0) ∙ ap (λ l. a ∷ l) (put_twice (b ∷ marks) f)

-- marks stay marks
marks_last : (e f : ℕ) (b : Bool) → AreMarks (cond b (Mark f 0 ∷ []) (Mark e 0 ∷ Mark f 0 ∷ []))
marks_last e f true = (refl, tt)
marks_last e f false = (refl, (refl, tt))

pub marks_put : (marks : List Entry) (f : ℕ) → AreMarks marks → AreMarks (vector_with_entry marks (Mark f 0))
marks_put [] f h = (refl, tt)
marks_put (Run e end ∷ marks) f h = absurd h
marks_put (Mark e at ∷ []) f h = let P : ℕ → Type 0 = λ n. AreMarks (vector_with_entry (Mark e n ∷ []) (Mark f 0)) in subst P (sym h.0) (marks_last e f (e == f && 0 == 0))
marks_put (Mark e at ∷ b ∷ marks) f h = (h.0, marks_put (b ∷ marks) f h.1)

pub marks_all : (acc marks : List Entry) → AreMarks acc → AreMarks marks → AreMarks (fold vector_with_entry acc marks)
marks_all acc [] a h = a
marks_all acc (Run e end ∷ marks) a h = absurd h
marks_all acc (Mark e at ∷ marks) a h = let P : ℕ → Type 0 = λ n. AreMarks (fold vector_with_entry (vector_with_entry acc (Mark e n)) marks) in subst P (sym h.0) (marks_all (vector_with_entry acc (Mark e 0)) marks (marks_put acc e a) h.1)

-- Of marks put one after another those that pass a test are those that pass it, put one after another.
abbrev left : (Entry → Bool) → List Entry → List Entry
left test marks = fold vector_with_entry [] (filter test marks)

left_behind : (test : Entry → Bool) (marks : List Entry) (m : Entry) → left test (marks ++ m ∷ []) ≡ cond (test m) (vector_with_entry (left test marks) m) (left test marks)
left_behind test marks m =
    ap (fold vector_with_entry []) (filter-append test marks (m ∷ []))
    ∙ fold-append vector_with_entry [] (filter test marks) (filter test (m ∷ []))
    ∙ by_test (test m) where
      by_test : (b : Bool) → fold vector_with_entry (left test marks) (cond b (m ∷ []) []) ≡ cond b (vector_with_entry (left test marks) m) (left test marks)
      by_test true = refl
      by_test false = refl

left_again : (test : Entry → Bool) (before : List Entry) (f : ℕ) → let marks = before ++ Mark f 0 ∷ [] in left test marks ≡ cond (test (Mark f 0)) (vector_with_entry (left test marks) (Mark f 0)) (left test marks)
left_again test before f = by_test (test (Mark f 0)) (left_behind test before (Mark f 0)) where
  by_test : (b : Bool) → left test (before ++ Mark f 0 ∷ []) ≡ cond b (vector_with_entry (left test before) (Mark f 0)) (left test before) → left test (before ++ Mark f 0 ∷ []) ≡ cond b (vector_with_entry (left test (before ++ Mark f 0 ∷ [])) (Mark f 0)) (left test (before ++ Mark f 0 ∷ []))
  by_test true e = e ∙ sym (put_twice (left test before) f) ∙ ap (λ l. vector_with_entry l (Mark f 0)) (sym e)
  by_test false e = refl

left_put : (test : Entry → Bool) (marks : List Entry) (f : ℕ) → IsPut marks (Mark f 0) → left test (vector_with_entry marks (Mark f 0)) ≡ cond (test (Mark f 0)) (vector_with_entry (left test marks) (Mark f 0)) (left test marks)
left_put test marks f (inl e) = ap (left test) e ∙ left_behind test marks (Mark f 0)
left_put test marks f (inr h) =
    let again = left_again test h.before f in
    let P : List Entry → Type 0 = λ l. left test l ≡ cond (test (Mark f 0)) (vector_with_entry (left test l) (Mark f 0)) (left test l) in
    ap (left test) h.same ∙ subst P (sym h.is) again

pub left_marks : (test : Entry → Bool) (acc marks : List Entry) → AreMarks acc → AreMarks marks → left test (fold vector_with_entry acc marks) ≡ fold vector_with_entry (left test acc) (filter test marks)
left_marks test acc [] a h = refl
left_marks test acc (Run e end ∷ marks) a h = absurd h
left_marks test acc (Mark e at ∷ marks) a h =
    let P : ℕ → Type 0 = λ n. left test (fold vector_with_entry (vector_with_entry acc (Mark e n)) marks) ≡ fold vector_with_entry (left test acc) (filter test (Mark e n ∷ marks)) in
    subst P (sym h.0)
    (left_marks test (vector_with_entry acc (Mark e 0)) marks (marks_put acc e a) h.1
    ∙ ap (λ l. fold vector_with_entry l (filter test marks)) (left_put test acc e (put_mark acc e a))
    ∙ by_test (test (Mark e 0))) where
      by_test : (b : Bool) → fold vector_with_entry (cond b (vector_with_entry (left test acc) (Mark e 0)) (left test acc)) (filter test marks) ≡ fold vector_with_entry (left test acc) (cond b (Mark e 0 ∷ filter test marks) (filter test marks))
      by_test true = refl
      by_test false = refl

-- the marks of a birth
pub birth_are_marks : (sizes : List Size) (recent : List Deletion) (number : ℕ) → AreMarks (birth_marks sizes recent number)
birth_are_marks sizes [] number = tt
birth_are_marks sizes (d ∷ recent) number = by_test (birth_are_marks sizes recent number) (has_brick sizes d.span number) where
  by_test : AreMarks (birth_marks sizes recent number) → (b : Bool) → AreMarks (map (λ (d : Deletion). Mark d.epoch 0) (cond b (d ∷ filter (λ d. has_brick sizes d.span number) recent) (filter (λ d. has_brick sizes d.span number) recent)))
  by_test again true = (refl, again)
  by_test again false = again

abbrev mark_of : Deletion → Entry
mark_of d = Mark d.epoch 0

abbrev waits : List Size → ℕ → Deletion → Bool
waits sizes number d = has_brick sizes d.span number

abbrev born : List Entry → BrickContent
born marks = record { rows = []; entries = fold vector_with_entry [] marks }

abbrev others_than : ℕ → Entry → Bool
others_than epoch e = not (maker e == epoch)

abbrev later_than : ℕ → Entry → Bool
later_than epoch e = not (is_old_mark epoch e)

-- a test of marks and a test of deletions
pub birth_filtered : (sizes : List Size) (test : Entry → Bool) (keep : Deletion → Bool) → ((d : Deletion) → test (Mark d.epoch 0) ≡ keep d) → (recent : List Deletion) (number : ℕ) → filter test (birth_marks sizes recent number) ≡ birth_marks sizes (filter keep recent) number
birth_filtered sizes test keep same [] number = refl
birth_filtered sizes test keep same (d ∷ recent) number = by_tests (birth_filtered sizes test keep same recent number) (has_brick sizes d.span number) refl (keep d) refl where
  by_tests : filter test (map mark_of (filter (waits sizes number) recent)) ≡ map mark_of (filter (waits sizes number) (filter keep recent)) → (h : Bool) → waits sizes number d ≡ h → (k : Bool) → keep d ≡ k → filter test (map mark_of (cond h (d ∷ filter (waits sizes number) recent) (filter (waits sizes number) recent))) ≡ map mark_of (filter (waits sizes number) (cond k (d ∷ filter keep recent) (filter keep recent)))
  by_tests again true eh true ek =
      ap (λ b. cond b (mark_of d ∷ filter test (map mark_of (filter (waits sizes number) recent))) (filter test (map mark_of (filter (waits sizes number) recent)))) (same d ∙ ek)
      ∙ ap (λ l. mark_of d ∷ l) again
      ∙ sym (ap (λ b. map mark_of (cond b (d ∷ filter (waits sizes number) (filter keep recent)) (filter (waits sizes number) (filter keep recent)))) eh)
  by_tests again true eh false ek =
      ap (λ b. cond b (mark_of d ∷ filter test (map mark_of (filter (waits sizes number) recent))) (filter test (map mark_of (filter (waits sizes number) recent)))) (same d ∙ ek)
      ∙ again
  by_tests again false eh true ek =
      again
      ∙ sym (ap (λ b. map mark_of (cond b (d ∷ filter (waits sizes number) (filter keep recent)) (filter (waits sizes number) (filter keep recent)))) eh)
  by_tests again false eh false ek = again

-- marks before the first row stay there
recount_one : (bits : List Bool) (e : ℕ) → recounted_entry bits (Mark e 0) ≡ Mark e 0
recount_one bits e = refl

recounted : (bits : List Bool) (test : Entry → Bool) (marks : List Entry) → AreMarks marks → map (recounted_entry bits) (filter test marks) ≡ filter test marks
recounted bits test [] h = refl
recounted bits test (Run e end ∷ marks) h = absurd h
recounted bits test (Mark e at ∷ marks) h =
    let P : ℕ → Type 0 = λ n. map (recounted_entry bits) (filter test (Mark e n ∷ marks)) ≡ filter test (Mark e n ∷ marks) in
    subst P (sym h.0) (by_test (recounted bits test marks h.1) (test (Mark e 0))) where
      by_test : map (recounted_entry bits) (filter test marks) ≡ filter test marks → (b : Bool) → map (recounted_entry bits) (cond b (Mark e 0 ∷ filter test marks) (filter test marks)) ≡ cond b (Mark e 0 ∷ filter test marks) (filter test marks)
      by_test again true = λ t. recount_one bits e t ∷ again t
      by_test again false = again

none_left : (bits : List Bool) → let none : List CodedRow = [] in items_where_true bits none ≡ none
none_left [] = refl
none_left (b ∷ bits) = refl

filtered_marks : (test : Entry → Bool) (marks : List Entry) → AreMarks marks → AreMarks (filter test marks)
filtered_marks test [] h = tt
filtered_marks test (Run e end ∷ marks) h = absurd h
filtered_marks test (Mark e at ∷ marks) h = by_test (filtered_marks test marks h.1) (test (Mark e at)) where
  by_test : AreMarks (filter test marks) → (b : Bool) → AreMarks (cond b (Mark e at ∷ filter test marks) (filter test marks))
  by_test again true = (h.0, again)
  by_test again false = again

-- a purge puts marks one after another as every vector does
or_false : (b : Bool) → (b || false) ≡ b
or_false true = refl
or_false false = refl

merged_mark : (p : ℕ) (marks : List Entry) (f : ℕ) → AreMarks marks → with_merged_entry p marks (Mark f 0) ≡ vector_with_entry marks (Mark f 0)
merged_mark p [] f h = refl
merged_mark p (Run e end ∷ marks) f h = absurd h
merged_mark p (Mark e at ∷ []) f h = ap (λ b. cond b (Mark f 0 ∷ []) (Mark e at ∷ Mark f 0 ∷ [])) (or_false (is_one_with (Mark e at) (Mark f 0)))
merged_mark p (Mark e at ∷ b ∷ marks) f h = ap (λ l. Mark e at ∷ l) (merged_mark p (b ∷ marks) f h.1)

counted_marks : (p : ℕ) (acc marks : List Entry) → AreMarks acc → AreMarks marks → fold (with_counted_entry p) acc marks ≡ fold vector_with_entry acc marks
counted_marks p acc [] a h = refl
counted_marks p acc (Run e end ∷ marks) a h = absurd h
counted_marks p acc (Mark e at ∷ marks) a h =
    let P : ℕ → Type 0 = λ n. fold (with_counted_entry p) (with_counted_entry p acc (Mark e n)) marks ≡ fold vector_with_entry (vector_with_entry acc (Mark e n)) marks in
    subst P (sym h.0)
    (ap (λ l. fold (with_counted_entry p) l marks) (merged_mark p acc e a)
    ∙ counted_marks p (vector_with_entry acc (Mark e 0)) marks (marks_put acc e a) h.1)

-- The three calls on a newborn brick.
pub born_deleted : (sizes : List Size) (recent : List Deletion) (d : Deletion) (number : ℕ) → newborn sizes (recent ++ d ∷ []) number ≡ cond (has_brick sizes d.span number) (content_with_mark d.epoch (newborn sizes recent number)) (newborn sizes recent number)
born_deleted sizes recent d number =
    ap born (ap (map mark_of) (filter-append (waits sizes number) recent (d ∷ [])) ∙ map-append mark_of (filter (waits sizes number) recent) (filter (waits sizes number) (d ∷ [])))
    ∙ by_test (has_brick sizes d.span number) where
      by_test : (b : Bool) → born (map mark_of (filter (waits sizes number) recent) ++ map mark_of (cond b (d ∷ []) [])) ≡ cond b (content_with_mark d.epoch (newborn sizes recent number)) (newborn sizes recent number)
      by_test true = λ t. record { rows = []; entries = fold-append vector_with_entry [] (map mark_of (filter (waits sizes number) recent)) (Mark d.epoch 0 ∷ []) t }
      by_test false = λ t. record { rows = []; entries = fold-append vector_with_entry [] (map mark_of (filter (waits sizes number) recent)) [] t }

pub born_without : (sizes : List Size) (recent : List Deletion) (epoch number : ℕ) → newborn sizes (filter (λ d. not (d.epoch == epoch)) recent) number ≡ content_without epoch (newborn sizes recent number)
born_without sizes recent epoch number = λ t. record {
  rows = sym (none_left (staying_bits epoch (newborn sizes recent number).entries)) t;
  entries = entries t;
} where
  marks : AreMarks (birth_marks sizes recent number)
  marks = birth_are_marks sizes recent number

  entries : fold vector_with_entry [] (birth_marks sizes (filter (λ d. not (d.epoch == epoch)) recent) number) ≡ entries_without epoch (newborn sizes recent number).entries
  entries =
      ap (fold vector_with_entry []) (sym (birth_filtered sizes (others_than epoch) (λ d. not (d.epoch == epoch)) (λ d. refl) recent number))
      ∙ sym (left_marks (others_than epoch) [] (birth_marks sizes recent number) tt marks)
      ∙ ap (fold vector_with_entry []) (sym (recounted (staying_bits epoch (newborn sizes recent number).entries) (others_than epoch) (newborn sizes recent number).entries (marks_all [] (birth_marks sizes recent number) tt marks)))

pub born_purged : (sizes : List Size) (recent : List Deletion) (epoch number : ℕ) → newborn sizes (filter (λ d. not (is_old_mark epoch (Mark d.epoch 0))) recent) number ≡ content_purged epoch (newborn sizes recent number)
born_purged sizes recent epoch number = λ t. record {
  rows = sym (none_left (spared_bits epoch (newborn sizes recent number).entries)) t;
  entries = entries t;
} where
  marks : AreMarks (birth_marks sizes recent number)
  marks = birth_are_marks sizes recent number

  now_marks : AreMarks (newborn sizes recent number).entries
  now_marks = marks_all [] (birth_marks sizes recent number) tt marks

  entries : fold vector_with_entry [] (birth_marks sizes (filter (λ d. not (is_old_mark epoch (Mark d.epoch 0))) recent) number) ≡ purged_entries epoch (newborn sizes recent number).entries
  entries =
      ap (fold vector_with_entry []) (sym (birth_filtered sizes (later_than epoch) (λ d. not (is_old_mark epoch (Mark d.epoch 0))) (λ d. refl) recent number))
      ∙ sym (left_marks (later_than epoch) [] (birth_marks sizes recent number) tt marks)
      ∙ sym (counted_marks epoch [] (filter (later_than epoch) (newborn sizes recent number).entries) tt (filtered_marks (later_than epoch) (newborn sizes recent number).entries now_marks))
      ∙ ap (fold (with_counted_entry epoch) []) (sym (recounted (spared_bits epoch (newborn sizes recent number).entries) (later_than epoch) (newborn sizes recent number).entries now_marks))
