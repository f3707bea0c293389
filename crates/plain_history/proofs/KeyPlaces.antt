-- A key is looked for among the keys of rows, from the front.
use Rattle.std.proofs.Common.{◌≡◌, ℕ, ◌+◌, ◌<◌, List, [], ◌∷◌, ◌++◌, map, length, take, drop, get_or, refl, sym, ap, ◌∙◌, add-one, drop-cons, arith}
use Rattle.std.proofs.lemmas.List.{map-append, take-append-drop, take_more}
use Rattle.std.specs.declared.cmp.Ordering.TheVariants.{Equal}
use Rattle.cube_values.specs.declared.query.BoundItem.{BoundItem}
use Rattle.cube_values.specs.declared.row.Row.{Row}
use Rattle.cube_values.specs.declared.value.Value.{Value}
use Rattle.cube_values.specs.Values.{values_cmp}
use Rattle.cube_values.specs.Answer.{with_key, rows_of_key, item_of, table_of}

-- the rest from place i begins with what stands there
from_place : {X : Type 0} (xs : List X) (i : ℕ) (x : X) → i < length xs → x ≡ get_or xs i x → drop i xs ≡ x ∷ drop (i + 1) xs
from_place xs i x h e = let d = drop-cons xs i x h in let a = add-one i in cc

-- the key stands at place i: nothing changes
pub stands_there : {X : Type 0} (f : X → List Value) (xs : List X) (i : ℕ) (x r : X) → i < length xs → x ≡ get_or xs i x → values_cmp (f r) (f x) ≡ Equal
    → map f xs ≡ map f (take i xs) ++ with_key (map f (drop i xs)) (f r)
stands_there f xs i x r h e equal =
    ap (map f) (sym (take-append-drop i xs))
    ∙ map-append f (take i xs) (drop i xs)
    ∙ ap (λ ks. map f (take i xs) ++ ks) (rw (from_place xs i x h e, equal) refl)

-- without a group all rows have the one key
all_alike : (rows : List Row) → rows_of_key [] rows [] ≡ rows
all_alike [] = refl
all_alike (row ∷ rows) = ap (λ rs. row ∷ rs) (all_alike rows)

-- so they make one line
pub one_line_is : (group : List ℕ) (items : List BoundItem) (rows : List Row) → length group < 1 → map (item_of rows) items ∷ [] ≡ table_of group items rows
one_line_is [] items rows h = ap (λ rs. map (item_of rs) items ∷ []) (sym (all_alike rows))
one_line_is (place ∷ group) items rows h = absurd (omega arith)

-- what is made of the keys of the first places, with one more
pub one_more_key : {X Y : Type 0} (g : List Value → Y) (f : X → List Value) (xs : List X) (i : ℕ) (x : X) (ys : List Y) → i < length xs → x ≡ get_or xs i x
    → ys ≡ map g (map f (take i xs)) → ys ++ g (f x) ∷ [] ≡ map g (map f (take (i + 1) xs))
one_more_key g f xs i x ys h e so_far =
    ap (λ zs. zs ++ g (f x) ∷ []) so_far
    ∙ sym (map-append g (map f (take i xs)) (f x ∷ []))
    ∙ ap (map g) (sym (map-append f (take i xs) (x ∷ [])))
    ∙ ap (λ z. map g (map f (take i xs ++ z ∷ []))) e
    ∙ ap (λ zs. map g (map f zs)) (sym (take_more xs i x h))
