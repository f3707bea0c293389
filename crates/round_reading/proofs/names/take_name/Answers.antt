use Rattle.std.proofs.Common.{List, ℕ, [], ◌∷◌, ◌++◌, ◌≡◌, ap, sym, ◌∙◌, append_assoc}
use Rattle.std.specs.List.{list_any}
use Rattle.std.specs.Str.{bytes_eq}
use Rattle.round_reading.proofs.names.take_name.Goals as goal

pub returns-in_ok-push-in-Some-clause-known : goal.returns-in_ok-push-in-Some-clause-known
returns-in_ok-push-in-Some-clause-known c = λ earlier has q.
    let names = c.args.names.now.items in
    let name = c.in_ok-name.name.now in
    let known = rw c.in-Some.is at (c.in_ok-text.ensures.known (earlier ++ names) has) in
    let same = rw c.in-Some.is at c.in_ok-text.ensures.text in
    let items : c.push.new.self.items ≡ names ++ name ∷ [] =
    c.in_ok-push-in-Some.ensures.items ∙ ap (λ (t : List ℕ). names ++ t ∷ []) (c.in_ok-new-in-Some.ensures ∙ same) in
    known q ∙ ap (list_any (bytes_eq q.now)) (append_assoc earlier names (name ∷ []) ∙ ap (λ (l : List (List ℕ)). earlier ++ l) (sym items))
