-- What is known of the names that were read, and the limits by them.
use Rattle.std.proofs.Common.{◌≡◌, ℕ, zero, suc, ◌+◌, ◌<◌, ◌≤◌, Bool, true, false, cond, List, [], ◌∷◌, ◌++◌, length, map, take, get_or, Ok, Err, refl, sym, ap, subst, ◌∙◌, append_assoc, arith}
use Rattle.std.specs.Prelude.{MatchBool, nat_le}
use Rattle.std.specs.List.{zip, AllZip}
use Rattle.std.proofs.lemmas.Bool.{leb-true}
use Rattle.std.proofs.lemmas.List.{length-append, append-nil, take_all}
use Rattle.cube_language.specs.declared.decl.DimDecl.{DimDecl}
use Rattle.cube_language.specs.Cubes.{sizes_of}
use Rattle.cube_rounds.specs.Demands.{DimNames, names_with, coord_limit}
use Rattle.round_fields.specs.Reading.{with_test, list_with, repeat_step, each_step, eight_from}
use Rattle.round_fields.proofs.FieldLaws.{passed, bind_ok, ok_is}
use Rattle.round_reading.specs.Limits.{AreLimits, HasNameRoom}
use Rattle.round_reading.specs.Payload.{name_from, name_step, names_from, dim_names_from, dim_step}

names_counted : (earlier : List (List ℕ)) (n : ℕ) (s : List (List ℕ)) (bytes : List ℕ) (after : List (List ℕ)) (rest : List ℕ)
    → repeat_step (name_step earlier) n s bytes ≡ Ok (after, rest) → length after ≡ length s + n
unfolding repeat_step
names_counted earlier zero s bytes after rest e =
    let same : s ≡ after = ap (λ (p : List (List ℕ) × List ℕ). p.0) (ok_is ℕ (s, bytes) (after, rest) e) in omega (arith, ap length same)
names_counted earlier (suc n) s bytes after rest e =
    let a = bind_ok (name_step earlier s bytes) (λ x. repeat_step (name_step earlier) n x.0 x.1) (after, rest) e in
    let b = bind_ok (name_from (earlier ++ s) bytes) (λ x. Ok (list_with s x.0, x.1)) a.0 a.1 in
    let same : list_with s b.0.0 ≡ a.0.0 = ap (λ (p : List (List ℕ) × List ℕ). p.0) (ok_is ℕ (list_with s b.0.0, b.0.1) a.0 b.2) in
    let others = names_counted earlier n a.0.0 a.0.1 after rest a.2 in
    omega (arith, others, ap length same, length-append s (b.0.0 ∷ []))

names_within : (cardinality : ℕ) (earlier : List (List ℕ)) (bytes : List ℕ) (names : List (List ℕ)) (rest : List ℕ)
    → names_from cardinality earlier bytes ≡ Ok (names, rest) → length earlier + length names ≤ cardinality
unfolding names_from
names_within cardinality earlier bytes names rest e =
    let room : ℕ → Bool = λ n. nat_le (length earlier + n) cardinality in
    let a = bind_ok (with_test room eight_from bytes) (λ count. repeat_step (name_step earlier) count.0 [] count.1) (names, rest) e in
    let b = bind_ok (eight_from bytes) (λ x. cond (room x.0) (Ok x) (Err (length bytes))) a.0 a.1 in
    let p = passed (room b.0.0) (length bytes) b.0 a.0 b.2 in
    let fits : length earlier + a.0.0 ≤ cardinality = subst (λ (q : ℕ × List ℕ). length earlier + q.0 ≤ cardinality) p.1 (leb-true _ _ p.0) in
    omega (arith, fits, names_counted earlier a.0.0 [] a.0.1 names rest a.2)

by_kind : (text : Bool) (cardinality : ℕ) (earlier : List (List ℕ)) (bytes : List ℕ) (names : List (List ℕ)) (rest : List ℕ)
    → cond text (names_from cardinality earlier bytes) (Ok ([], bytes)) ≡ Ok (names, rest)
    → MatchBool text (length earlier + length names ≤ cardinality) (Unit {0})
by_kind true cardinality earlier bytes names rest e = names_within cardinality earlier bytes names rest e
by_kind false cardinality earlier bytes names rest e = tt

record Lists (dims : List (DimDecl × List (List ℕ))) (before after : DimNames) : Type 0 where
  pub new : DimNames
  pub are : after ≡ before ++ new
  pub room : AllZip HasNameRoom dims new

each_room : (dims : List (DimDecl × List (List ℕ))) (before : DimNames) (bytes : List ℕ) (after : DimNames) (rest : List ℕ)
    → each_step dim_step dims before bytes ≡ Ok (after, rest) → Lists dims before after
unfolding each_step
each_room [] before bytes after rest e =
    record { new = []; are = sym (ap (λ (p : DimNames × List ℕ). p.0) (ok_is ℕ (before, bytes) (after, rest) e)) ∙ sym (append-nil before); room = tt }
each_room (d ∷ dims) before bytes after rest e =
    let a = bind_ok (dim_step d before bytes) (λ x. each_step dim_step dims x.0 x.1) (after, rest) e in
    let b = bind_ok (dim_names_from d bytes) (λ x. Ok (list_with before x.0, x.1)) a.0 a.1 in
    let same : list_with before b.0.0 ≡ a.0.0 = ap (λ (p : DimNames × List ℕ). p.0) (ok_is ℕ (list_with before b.0.0, b.0.1) a.0 b.2) in
    let room = by_kind d.0.text d.0.cardinality d.1 bytes b.0.0 b.0.1 b.1 in
    let others = each_room dims a.0.0 a.0.1 after rest a.2 in
    record {
      new = b.0.0 ∷ others.new;
      are = others.are ∙ ap (λ (s : DimNames). s ++ others.new) (sym same) ∙ append_assoc before (b.0.0 ∷ []) others.new;
      room = (room, others.room);
    }

-- The names that were read have room.
pub dims_room : (dims : List (DimDecl × List (List ℕ))) (bytes : List ℕ) (lists : DimNames) (rest : List ℕ)
    → each_step dim_step dims [] bytes ≡ Ok (lists, rest) → AllZip HasNameRoom dims lists
dims_room dims bytes lists rest e = let r = each_room dims [] bytes lists rest e in subst (AllZip HasNameRoom dims) (sym r.are) r.room

-- ---- limits

-- There are names for each dimension.
pub room_length : (dims : List DimDecl) (earlier names : DimNames) → length earlier ≡ length dims → AllZip HasNameRoom (zip dims earlier) names → length names ≡ length dims
room_length [] [] [] same room = refl
room_length [] [] (list ∷ names) same room = absurd room
room_length [] (first ∷ earlier) names same room = absurd (omega arith)
room_length (dim ∷ dims) [] names same room = absurd (omega arith)
room_length (dim ∷ dims) (first ∷ earlier) [] same room = absurd room
room_length (dim ∷ dims) (first ∷ earlier) (list ∷ names) same room = ap suc (room_length dims earlier names (omega arith) room.1)

pub room_at : (dims : List DimDecl) (earlier names : DimNames) (i : ℕ) (d : DimDecl) (e n : List (List ℕ)) → length earlier ≡ length dims → AllZip HasNameRoom (zip dims earlier) names
    → i < length dims → HasNameRoom (get_or dims i d, get_or earlier i e) (get_or names i n)
room_at [] earlier names i d e n same room lt = absurd (omega arith)
room_at (dim ∷ dims) [] names i d e n same room lt = absurd (omega arith)
room_at (dim ∷ dims) (first ∷ earlier) [] i d e n same room lt = absurd room
room_at (dim ∷ dims) (first ∷ earlier) (list ∷ names) zero d e n same room lt = room.0
room_at (dim ∷ dims) (first ∷ earlier) (list ∷ names) (suc i) d e n same room lt = room_at dims earlier names i d e n (omega arith) room.1 (omega arith)

pub room_here : (dims : List DimDecl) (earlier names : DimNames) (i : ℕ) (d : DimDecl) (e n : List (List ℕ)) → length earlier ≡ length dims → AllZip HasNameRoom (zip dims earlier) names
    → i < length dims → d ≡ get_or dims i d → e ≡ get_or earlier i e → n ≡ get_or names i n → HasNameRoom (d, e) n
room_here dims earlier names i d e n same room lt d-is e-is n-is =
    subst (λ (x : DimDecl). HasNameRoom (x, e) n) (sym d-is)
    (subst (λ (x : List (List ℕ)). HasNameRoom (get_or dims i d, x) n) (sym e-is)
    (subst (λ (x : List (List ℕ)). HasNameRoom (get_or dims i d, get_or earlier i e) x) (sym n-is) (room_at dims earlier names i d e n same room lt)))

-- The limits of so many dimensions.
abbrev pub limits_so_far : ℕ → List DimDecl → DimNames → DimNames → List ℕ
limits_so_far i dims earlier names = map coord_limit (take i (zip dims (names_with earlier names)))

one_more : (dims : List DimDecl) (earlier names : DimNames) (i : ℕ) (d : DimDecl) (e n : List (List ℕ)) → length earlier ≡ length dims → length names ≡ length dims → i < length dims
    → limits_so_far (suc i) dims earlier names ≡ limits_so_far i dims earlier names ++ coord_limit (get_or dims i d, get_or earlier i e ++ get_or names i n) ∷ []
one_more [] earlier names i d e n same long lt = absurd (omega arith)
one_more (dim ∷ dims) [] names i d e n same long lt = absurd (omega arith)
one_more (dim ∷ dims) (first ∷ earlier) [] i d e n same long lt = absurd (omega arith)
one_more (dim ∷ dims) (first ∷ earlier) (list ∷ names) zero d e n same long lt = refl
one_more (dim ∷ dims) (first ∷ earlier) (list ∷ names) (suc i) d e n same long lt =
    ap (λ (l : List ℕ). coord_limit (dim, first ++ list) ∷ l) (one_more dims earlier names i d e n (omega arith) (omega arith) (omega arith))

pub limits_more : (dims : List DimDecl) (earlier names : DimNames) (i : ℕ) (d : DimDecl) (e n : List (List ℕ)) (limits : List ℕ) → length earlier ≡ length dims → AllZip HasNameRoom (zip dims earlier) names
    → i < length dims → d ≡ get_or dims i d → e ≡ get_or earlier i e → n ≡ get_or names i n
    → limits ≡ limits_so_far i dims earlier names → limits ++ coord_limit (d, e ++ n) ∷ [] ≡ limits_so_far (i + 1) dims earlier names
limits_more dims earlier names i d e n limits same room lt d-is e-is n-is so_far =
    let step : i + 1 ≡ suc i = omega arith in
    (λ j. so_far j ++ coord_limit (d-is j, e-is j ++ n-is j) ∷ [])
    ∙ sym (one_more dims earlier names i d e n same (room_length dims earlier names same room) lt)
    ∙ ap (λ (k : ℕ). limits_so_far k dims earlier names) (sym step)

zip_with : (dims : List DimDecl) (earlier names : DimNames) → length earlier ≡ length dims → length names ≡ length dims → length (zip dims (names_with earlier names)) ≡ length dims
zip_with [] [] [] same long = refl
zip_with [] [] (list ∷ names) same long = absurd (omega arith)
zip_with [] (first ∷ earlier) names same long = absurd (omega arith)
zip_with (dim ∷ dims) [] names same long = absurd (omega arith)
zip_with (dim ∷ dims) (first ∷ earlier) [] same long = absurd (omega arith)
zip_with (dim ∷ dims) (first ∷ earlier) (list ∷ names) same long = ap suc (zip_with dims earlier names (omega arith) (omega arith))

pub limits_all : (dims : List DimDecl) (earlier names : DimNames) (i : ℕ) (limits : List ℕ) → length earlier ≡ length dims → AllZip HasNameRoom (zip dims earlier) names → length dims ≤ i
    → limits ≡ limits_so_far i dims earlier names → limits ≡ map coord_limit (zip dims (names_with earlier names))
limits_all dims earlier names i limits same room le so_far =
    so_far ∙ ap (map coord_limit) (take_all i (zip dims (names_with earlier names)) (omega (arith, zip_with dims earlier names same (room_length dims earlier names same room))))

limit_within : (text : Bool) (cardinality : ℕ) (earlier names : List (List ℕ)) → MatchBool text (length earlier + length names ≤ cardinality) (Unit {0}) → cond text (length (earlier ++ names)) cardinality ≤ cardinality
limit_within true cardinality earlier names room = omega (arith, room, length-append earlier names)
limit_within false cardinality earlier names room = omega arith

-- The limits are within the cardinalities.
pub limits_within : (dims : List DimDecl) (earlier names : DimNames) → length earlier ≡ length dims → AllZip HasNameRoom (zip dims earlier) names
    → AreLimits (map coord_limit (zip dims (names_with earlier names))) (sizes_of dims)
limits_within [] [] [] same room = tt
limits_within [] [] (list ∷ names) same room = absurd room
limits_within [] (first ∷ earlier) names same room = absurd (omega arith)
limits_within (dim ∷ dims) [] names same room = absurd (omega arith)
limits_within (dim ∷ dims) (first ∷ earlier) [] same room = absurd room
limits_within (dim ∷ dims) (first ∷ earlier) (list ∷ names) same room =
    (limit_within dim.text dim.cardinality first list room.0, limits_within dims earlier names (omega arith) room.1)
