-- A cube that is there is the one of its name in each run that goes on, and its dictionaries are those at its place.
use Rattle.std.proofs.Common.{◌≡◌, ◌∙◌, ℕ, zero, suc, ◌+◌, Bool, true, false, cond, List, [], ◌∷◌, ◌++◌, Option, Some, slice_get, unwrap_or, refl, sym, ap, arith, append_assoc}
use Rattle.std.specs.List.{filter_map, position_from}
use Rattle.std.specs.Option.{option_and_then}
use Rattle.std.specs.Str.{bytes_eq}
use Rattle.std.proofs.lemmas.List.Elements.{filter_map-append}
use Rattle.std.proofs.lemmas.Option.{none-some, same_Some}
use Rattle.cube_language.specs.declared.decl.Decl.{Decl}
use Rattle.cube_run.specs.RunRecords.{RunRecord, catalog_of, cube_called, cubes_at, declaration_of, made_by, names_of_cube}
use Rattle.condition_spans.specs.Codes.{lists_at}
use Rattle.one_session.specs.Behind.{cubes_behind}
use Rattle.one_session.specs.Changes.{AreNamedApart}
use Rattle.one_session.specs.Pasts.{Beginning, GoesOn, IsInTurn, IsOwned, SessionPast}
use Rattle.one_session.proofs.Coded.{other_name, same_name}
use Rattle.one_session.proofs.CubesBehind.{cubes_stay}

-- Only one place has the name.
abbrev IsAlone : List Decl → ℕ → Decl → Type 0
IsAlone cubes cube d = (a : ℕ) (e : Decl) → slice_get cubes a ≡ Some e → e.name ≡ d.name → a ≡ cube

first_is : (x d : Decl) → Some x ≡ Some d → bytes_eq x.name d.name ≡ true
first_is x d h = ap (λ (y : Decl). bytes_eq y.name d.name) (same_Some x d h) ∙ same_name d.name

first_is_not : (x d : Decl) (cubes : List Decl) (cube : ℕ) → IsAlone (x ∷ cubes) (suc cube) d
    → bytes_eq x.name d.name ≡ false
first_is_not x d cubes cube alone =
    other_name x.name d.name (λ same. let no = alone 0 x refl same in omega (arith, no))

alone_behind : (x d : Decl) (cubes : List Decl) (cube : ℕ) → IsAlone (x ∷ cubes) (suc cube) d → IsAlone cubes cube d
alone_behind x d cubes cube alone = λ a e h same. let is = alone (suc a) e h same in omega (arith, is)

called_is : (cubes more : List Decl) (cube : ℕ) (d : Decl) → slice_get cubes cube ≡ Some d → IsAlone cubes cube d
    → cube_called (cubes ++ more) d.name ≡ Some d
called_is [] more cube d h alone = absurd (none-some d h)
called_is (x ∷ cubes) more zero d h alone =
    ap (λ (b : Bool). cond b (Some x) (cube_called (cubes ++ more) d.name)) (first_is x d h) ∙ h
called_is (x ∷ cubes) more (suc cube) d h alone =
    ap (λ (b : Bool). cond b (Some x) (cube_called (cubes ++ more) d.name)) (first_is_not x d cubes cube alone)
    ∙ called_is cubes more cube d h (alone_behind x d cubes cube alone)

place_is : (cubes more : List Decl) (cube n : ℕ) (d : Decl) → slice_get cubes cube ≡ Some d → IsAlone cubes cube d
    → position_from (λ e. bytes_eq e.name d.name) n (cubes ++ more) ≡ Some (n + cube)
place_is [] more cube n d h alone = absurd (none-some d h)
place_is (x ∷ cubes) more zero n d h alone =
    let here : n ≡ n + 0 = omega arith in
    ap (λ (b : Bool). cond b (Some n) (position_from (λ e. bytes_eq e.name d.name) (n + 1) (cubes ++ more)))
    (first_is x d h)
    ∙ ap (λ (k : ℕ). Some k) here
place_is (x ∷ cubes) more (suc cube) n d h alone =
    let there : n + 1 + cube ≡ n + suc cube = omega arith in
    ap (λ (b : Bool). cond b (Some n) (position_from (λ e. bytes_eq e.name d.name) (n + 1) (cubes ++ more)))
    (first_is_not x d cubes cube alone)
    ∙ place_is cubes more cube (n + 1) d h (alone_behind x d cubes cube alone)
    ∙ ap (λ (k : ℕ). Some k) there

all_cubes : (beginning : Beginning) (past : SessionPast) (run : RunRecord) → (g : GoesOn beginning past run)
    → IsInTurn past → IsOwned past
    → (catalog_of run).cubes ≡ cubes_behind beginning past ++ filter_map (made_by run) g.later
all_cubes beginning past run g turn owned =
    ap (cubes_at run) g.journal
    ∙ ap (λ (made : List Decl). run.cubes ++ made) (filter_map-append (made_by run) past.journal g.later)
    ∙ sym (append_assoc run.cubes (filter_map (made_by run) past.journal) (filter_map (made_by run) g.later))
    ∙ ap (λ (cubes : List Decl). cubes ++ filter_map (made_by run) g.later)
    (cubes_stay beginning past run g turn owned)

alone : (cubes : List Decl) (cube : ℕ) (d : Decl) → AreNamedApart cubes → slice_get cubes cube ≡ Some d
    → IsAlone cubes cube d
alone cubes cube d apart is = λ a e h same. apart a cube e d h is same

pub declaration_stays : (beginning : Beginning) (past : SessionPast) (run : RunRecord) (cube : ℕ) (d : Decl)
    → GoesOn beginning past run → IsInTurn past → IsOwned past → AreNamedApart (cubes_behind beginning past)
    → slice_get (cubes_behind beginning past) cube ≡ Some d → declaration_of (catalog_of run) d.name ≡ d
declaration_stays beginning past run cube d g turn owned apart is =
    ap (λ (o : Option Decl). unwrap_or o (record { name = d.name; dims = []; metrics = [] }))
    (ap (λ (cubes : List Decl). cube_called cubes d.name) (all_cubes beginning past run g turn owned)
    ∙ called_is (cubes_behind beginning past) (filter_map (made_by run) g.later) cube d is
    (alone (cubes_behind beginning past) cube d apart is))

pub names_stay : (beginning : Beginning) (past : SessionPast) (run : RunRecord) (cube : ℕ) (d : Decl)
    → GoesOn beginning past run → IsInTurn past → IsOwned past → AreNamedApart (cubes_behind beginning past)
    → slice_get (cubes_behind beginning past) cube ≡ Some d
    → names_of_cube (catalog_of run) d.name ≡ lists_at run.names cube
names_stay beginning past run cube d g turn owned apart is =
    ap (λ (o : Option ℕ). unwrap_or (option_and_then (slice_get run.names) o) [])
    (ap (position_from (λ e. bytes_eq e.name d.name) 0) (all_cubes beginning past run g turn owned)
    ∙ place_is (cubes_behind beginning past) (filter_map (made_by run) g.later) cube 0 d is
    (alone (cubes_behind beginning past) cube d apart is)
    ∙ ap (λ (k : ℕ). Some k) zero_more)
  where
    zero_more : 0 + cube ≡ cube
    zero_more = omega arith
