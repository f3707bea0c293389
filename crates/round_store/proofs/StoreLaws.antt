-- A store of what is kept stays one, round by round.
use Rattle.std.proofs.Common.{◌≡◌, ℕ, ◌+◌, ◌^◌, ◌<◌, ◌≤◌, List, [], ◌∷◌, ◌++◌, length, map, take, refl, sym, ap, subst, ◌∙◌, arith}
use Rattle.std.proofs.lemmas.List.{length-append, length-take-le, take-append-le, take_all, map-append}
use Rattle.cube_language.specs.declared.decl.Decl.{Decl}
use Rattle.cube_language.specs.Cubes.{cubes_text}
use Rattle.cube_language.specs.CubesText.{Declares}
use Rattle.cube_rounds.specs.declared.round.Round.{Round}
use Rattle.cube_rounds.specs.Demands.{DimNames, no_names}
use Rattle.cube_rounds.specs.Stands.{Kept, kept_of_cubes, kept_with, kept_with_all}
use Rattle.store_reading.specs.Parts.{HaveNameLists, all_names_with}
use Rattle.store_reading.proofs.Growing.{round_names_fit}
use Rattle.round_store.specs.Counts.{counts_of, counts_with}
use Rattle.round_store.specs.States.{StoreState, header_cubes, IsStoreOf, MayFollowKept}
use Rattle.round_store.proofs.CountLaws.{counts_of_none, counts_more}

-- The state behind a round of the current file.
pub store_with : (s new : StoreState) (kept : Kept) (round : Round) → IsStoreOf s kept → MayFollowKept kept round
    → new.cubes ≡ s.cubes ++ round.made → new.counts ≡ counts_with s.counts round.cubes → new.declared ≡ s.declared → new.rounds ≡ s.rounds + 1
    → IsStoreOf new (kept_with kept round)
store_with s new kept round is follows cubes counts declared rounds =
    let header : header_cubes (kept_with kept round) ≡ header_cubes kept = take-append-le kept.declared kept.cubes round.made is.within in
    record {
      cubes = cubes ∙ ap (λ (c : List Decl). c ++ round.made) is.cubes;
      declared = declared ∙ is.declared;
      rounds = omega (arith, rounds, is.rounds, length-append kept.rounds (round ∷ []));
      counts = counts ∙ ap (λ (c : List (List ℕ)). counts_with c round.cubes) is.counts ∙ counts_more kept.names round.made round.cubes (round_names_fit kept round follows.fits);
      within = omega (arith, is.within, length-append kept.cubes round.made);
      declares = subst (λ (c : List Decl). Declares (cubes_text c) c) (sym header) is.declares;
      long = subst (λ (c : List Decl). length (cubes_text c) < 2 ^ 32) (sym header) is.long;
    }

-- The state behind a whole round.
pub store_of_whole : (s new : StoreState) (kept : Kept) (round : Round) → IsStoreOf s kept → MayFollowKept (kept_of_cubes (header_cubes kept)) round
    → new.cubes ≡ take s.declared s.cubes ++ round.made → new.counts ≡ counts_with [] round.cubes → new.declared ≡ s.declared → new.rounds ≡ 1
    → IsStoreOf new (kept_with (kept_of_cubes (header_cubes kept)) round)
store_of_whole s new kept round is follows cubes counts declared rounds =
    let head = header_cubes kept in
    let begun = kept_of_cubes head in
    let long : length head ≡ kept.declared = length-take-le kept.declared kept.cubes is.within in
    let same : take s.declared s.cubes ≡ head = (λ i. take (is.declared i) (is.cubes i)) in
    let header : take (length head) (head ++ round.made) ≡ head = take-append-le (length head) head round.made (omega arith) ∙ take_all (length head) head (omega arith) in
    let fit : HaveNameLists (map no_names (head ++ round.made)) round.cubes = subst (λ (n : List DimNames). HaveNameLists n round.cubes) (sym (map-append no_names head round.made)) (round_names_fit begun round follows.fits) in
    record {
      cubes = cubes ∙ ap (λ (c : List Decl). c ++ round.made) same;
      declared = declared ∙ is.declared ∙ sym long;
      rounds = rounds;
      counts = counts ∙ counts_of_none (head ++ round.made) round.cubes fit ∙ ap (λ (n : List DimNames). counts_of (all_names_with n round.cubes)) (map-append no_names head round.made);
      within = omega (arith, length-append head round.made);
      declares = subst (λ (c : List Decl). Declares (cubes_text c) c) (sym header) is.declares;
      long = subst (λ (c : List Decl). length (cubes_text c) < 2 ^ 32) (sym header) is.long;
    }

-- What rounds leave of the header's cubes.
pub cubes_stay : (kept : Kept) (rounds : List Round) → kept.declared ≤ length kept.cubes
    → (header_cubes (kept_with_all kept rounds) ≡ header_cubes kept) × ((kept_with_all kept rounds).declared ≡ kept.declared) × (kept.declared ≤ length (kept_with_all kept rounds).cubes)
cubes_stay kept [] within = (refl, refl, within)
cubes_stay kept (round ∷ rounds) within =
    let more = cubes_stay (kept_with kept round) rounds (omega (arith, within, length-append kept.cubes round.made)) in
    (more.0 ∙ take-append-le kept.declared kept.cubes round.made within, more.1, more.2)
