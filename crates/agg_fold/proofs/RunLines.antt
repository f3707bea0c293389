-- What is kept of a run, group by group, and the line that it gives.
use Rattle.std.proofs.Common.{◌≡◌, inl, false, length-take-le, ℕ, zero, suc, ◌+◌, ◌<◌, ◌≤◌, ◌^◌, ℤ, List, [], ◌∷◌, ◌++◌, length, map, filter, take, drop, All, FitsSigned, slice_get, unwrap_or, get_or, Some, refl, sym, ap, ◌∙◌, subst, arith}
use Rattle.std.specs.Int.{w64}
use Rattle.std.specs.List.{flat_map, zip, AllByRecursion, IsDistinct}
use Rattle.std.specs.Ordering.{is_lt}
use Rattle.std.specs.Str.{bytes_eq}
use Rattle.std.proofs.lemmas.Cmp.{tied_itself}
use Rattle.std.proofs.lemmas.List.{append-nil, take_more, length-map}
use Rattle.std.proofs.lemmas.List.Concat.{flat_map-append}
use Rattle.std.proofs.lemmas.List.Elements.{All-append, All-nil, All-map, All-filter, All-weaker, All-take}
use Rattle.std.proofs.lemmas.List.Folds.{flat_map-map, length-flat_map-take}
use Rattle.std.proofs.lemmas.List.Sums.{length-filter, count_by-le-length}
use Rattle.std.proofs.lemmas.Option.{slice_get-get_or, unwrap_or-slice_get}
use Rattle.cube_values.specs.declared.query.BoundQuery.{BoundQuery}
use Rattle.cube_values.specs.declared.row.CodedRow.{CodedRow}
use Rattle.cube_values.specs.declared.value.Value.{Value}
use Rattle.cube_values.specs.Values.{values_cmp}
use Rattle.agg_fold.specs.declared.finish.Named.{Named}
use Rattle.agg_fold.specs.declared.groups.Groups.{Groups}
use Rattle.agg_fold.specs.Tallies.{number_for, AreFew}
use Rattle.agg_fold.specs.Coded.{IsQueryRow, coded_key, metrics_with}
use Rattle.agg_fold.specs.Places.{is_among}
use Rattle.agg_fold.specs.Standing.{StandsFor}
use Rattle.agg_fold.specs.Tables.{key_at, values_of, AreSorted, IsIn, AreNamed, line_of, table_lines, run_metrics, line_of_tallies, BeginOtherwise, IsRun}
use Rattle.agg_fold.proofs.Lines.{line_is}
use Rattle.agg_fold.proofs.Order.{values_total}
use Rattle.agg_fold.proofs.Parted.{length_parted, metrics_among}
use Rattle.agg_fold.proofs.Runs.{ends_run, once_take, run_agrees, rest_named}
use Rattle.agg_fold.proofs.Standing.{count_at}

pub key_here : (keys : List (List ℕ)) (n : Named) → n.place < length keys → slice_get keys n.place ≡ Some (key_at keys n)
key_here keys n h = slice_get-get_or keys n.place [] h ∙ ap Some (sym (unwrap_or-slice_get keys n.place []))

module _ (group : List ℕ) (rows : List CodedRow) (keys : List (List ℕ)) (run : List Named) (i : ℕ) (d : Named) (h : i < length run) where
  pub run_more : run_metrics group rows keys (take (i + 1) run) ≡ run_metrics group rows keys (take i run) ++ metrics_with group rows (key_at keys (get_or run i d))
  run_more =
      let f = λ (n : Named). metrics_with group rows (key_at keys n) in
      ap (flat_map f) (take_more run i d h) ∙ flat_map-append f (take i run) (get_or run i d ∷ []) ∙ ap (λ (m : List (List ℤ)). flat_map f (take i run) ++ m) (append-nil (f (get_or run i d)))

  pub run_bound : length (run_metrics group rows keys (take i run)) + length (metrics_with group rows (key_at keys (get_or run i d))) ≤ length (run_metrics group rows keys run)
  run_bound = length-flat_map-take (λ (n : Named). metrics_with group rows (key_at keys n)) run i d h

all_flat : (P : List ℤ → Type 0) (f : Named → List (List ℤ)) → ((n : Named) → All P (f n)) → (ns : List Named) → All P (flat_map f ns)
all_flat P f h [] = All-nil P
all_flat P f h (n ∷ ns) = All-append P (f n) (flat_map f ns) (h n) (all_flat P f h ns)

pub few_of_run : (query : BoundQuery) (rows : List CodedRow) (keys : List (List ℕ)) (run : List Named) → length (run_metrics query.group rows keys run) < 2 ^ 63 → All (IsQueryRow query) rows → All (λ item. AreFew item (run_metrics query.group rows keys run)) query.items
few_of_run query rows keys run few taken k d within =
    let fits = λ (m : List ℤ). FitsSigned w64 (number_for (get_or query.items k d) m) in
    record {
      fit = all_flat fits (λ (n : Named). metrics_with query.group rows (key_at keys n))
          (λ n. All-map fits (λ (row : CodedRow). row.metrics) (filter (λ row. bytes_eq (coded_key query.group row.coords) (key_at keys n)) rows)
          (All-filter (λ row. bytes_eq (coded_key query.group row.coords) (key_at keys n)) (λ row. fits row.metrics) rows (All-weaker (IsQueryRow query) (λ row. fits row.metrics) (λ row h. h.fit k d within) rows taken))) run;
      few = few;
    }

-- ---- one run

low_first : (ns : List Named) (d : Named) → 0 < length ns → AreSorted (values_of ns) → AllByRecursion (λ w. is_lt (values_cmp w (get_or ns 0 d).values) ≡ false) (values_of ns)
low_first [] d h s = tt
low_first (n ∷ ns) d h s = (ap is_lt (tied_itself values_total n.values), s.0)

first_in : (ns : List Named) (d : Named) → 0 < length ns → IsIn (get_or ns 0 d).values (values_of ns)
first_in [] d h = absurd (omega arith)
first_in (n ∷ ns) d h = inl refl

first_some : (ns : List Named) (d : Named) (n : ℕ) → 0 < length ns → BeginOtherwise (get_or ns 0 d).values (drop n ns) → 0 < n
first_some [] d n h b = absurd (omega arith)
first_some (m ∷ ns) d zero h b = absurd (b refl)
first_some (m ∷ ns) d (suc n) h b = omega arith

first_same : (ns : List Named) (d : Named) (n : ℕ) → 0 < n → get_or (take n ns) 0 d ≡ get_or ns 0 d
first_same ns d zero h = absurd (omega arith)
first_same [] d (suc n) h = refl
first_same (m ∷ ns) d (suc n) h = refl

pub among_few : (group : List ℕ) (rows : List CodedRow) (ks : List (List ℕ)) → length (metrics_among group rows ks) ≤ length rows
among_few group rows ks =
    let test = λ (row : CodedRow). is_among ks (coded_key group row.coords) in
    omega (arith, length-map (filter test rows) (λ (row : CodedRow). row.metrics), length-filter test rows, count_by-le-length test rows)

pub run_few : (group : List ℕ) (rows : List CodedRow) (keys : List (List ℕ)) (run : List Named) → IsDistinct bytes_eq (map (key_at keys) run) → length (run_metrics group rows keys run) ≤ length rows
run_few group rows keys run once =
    omega (arith, ap length (flat_map-map (metrics_with group rows) (key_at keys) run), length_parted group rows (map (key_at keys) run) once, among_few group rows (map (key_at keys) run))

pub run_some : (query : BoundQuery) (rows : List CodedRow) (groups : Groups) (run : List Named) (d : Named) → StandsFor query rows groups → All (λ n. n.place < length groups.keys) run → All (λ n. 0 < unwrap_or (slice_get groups.counts.items n.place) 0) run → 0 < length run → 0 < length (run_metrics query.group rows groups.keys run)
run_some query rows groups run d s within some h =
    let first = get_or run 0 d in
    let n = count_at query.items (metrics_with query.group rows) groups s.totals first.place (key_at groups.keys first) (key_here groups.keys first (within 0 d h)) 0 in
    omega (arith, some 0 d h, unwrap_or-slice_get groups.counts.items first.place 0, n, run_bound query.group rows groups.keys run 0 d h)

module _ (lists : List (List (List ℕ))) (query : BoundQuery) (rows : List CodedRow) (groups : Groups) (ns : List Named) (d : Named) (n : ℕ) (v : List Value)
    (h : 0 < length ns) (first : v ≡ (get_or ns 0 d).values) (s : StandsFor query rows groups) (r : AreNamed lists query rows groups ns) (run : IsRun v ns n) where
  low : AllByRecursion (λ w. is_lt (values_cmp w v) ≡ false) (values_of ns)
  low = subst (λ (u : List Value). AllByRecursion (λ w. is_lt (values_cmp w u) ≡ false) (values_of ns)) (sym first) (low_first ns d h r.sorted)

  pub run_rest : AreNamed lists query rows groups (drop n ns)
  run_rest = rest_named lists query rows groups ns r v n low run s.taken

  some_n : 0 < n
  some_n = first_some ns d n h (subst (λ (u : List Value). BeginOtherwise u (drop n ns)) first run.ended)

  pub run_lines_of : table_lines lists query rows ns ≡ line_of_tallies query v (run_metrics query.group rows groups.keys (take n ns)) ∷ table_lines lists query rows (drop n ns)
  run_lines_of =
      let ks = map (key_at groups.keys) (take n ns) in
      let flat : flat_map (metrics_with query.group rows) ks ≡ run_metrics query.group rows groups.keys (take n ns) = flat_map-map (metrics_with query.group rows) (key_at groups.keys) (take n ns) in
      let long : 0 < length (take n ns) = omega (arith, length-take-le n ns run.within, some_n) in
      let some : 0 < length (run_metrics query.group rows groups.keys (take n ns)) = run_some query rows groups (take n ns) d s (All-take (λ m. m.place < length groups.keys) n ns r.within) (All-take (λ m. 0 < unwrap_or (slice_get groups.counts.items m.place) 0) n ns r.some) long in
      ap (map (line_of lists query rows)) (ends_run v n ns some_n run.within run.same run.ended)
      ∙ (λ i. (line_is lists query v ks rows (once_take (key_at groups.keys) n ns r.once) s.taken
      (run_agrees lists query rows groups ns r v n low run s.taken (subst (λ (u : List Value). IsIn u (values_of ns)) (sym first) (first_in ns d h))) (omega (arith, ap length flat, some))
      ∙ ap (line_of_tallies query v) flat) i ∷ table_lines lists query rows (drop n ns))
