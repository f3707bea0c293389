use Rattle.std.proofs.Common.{◌++◌, ap, sym, ◌∙◌, arith, string_bytes}
use Rattle.std.proofs.lemmas.Str.Pattern.{split_parts, strip_prefix_char}
use Rattle.sql_tree.proofs.Halves.{none_halved, stripped_is, halved_more}
use Rattle.sql_tree.proofs.quote.halved.Goals as goal

pub quotes-preserved : goal.quotes-preserved
quotes-preserved c =
    let is = c.in-Some.is in
    let parts = rw is at (split_parts 39 c.quotes.left.now c.split_once.result c.split_once.ensures.cases (omega arith)) in
    let next = stripped_is c.strip_prefix.result c.in-Some.behind c.unwrap_or-left.result (strip_prefix_char 39 c.in-Some.behind.now c.strip_prefix.result c.strip_prefix.ensures.cases (omega arith)) c.unwrap_or-left.ensures in
    let pushed = c.in_ok-push.ensures.bytes ∙ ap (λ quote. string_bytes c.push_str.new.self ++ quote) (c.in_ok-push.ensures.ascii (omega arith)) in
    (c.unwrap_or-left.utf8, halved_more _ _ _ c.quotes.left.now c.in-Some.front.now c.in-Some.behind.now _ _ parts.0 parts.1 c.in_ok-push_str.ensures.bytes pushed next c.quotes.invariant.1)

pub returns : goal.returns
returns c =
    let is = c.in_default.is in
    let none = rw is at (split_parts 39 c.quotes.left.now c.split_once.result c.split_once.ensures.cases (omega arith)) in
    c.in_ok-push_str-2.ensures.bytes ∙ ap (λ rest. string_bytes c.quotes.text ++ rest) (sym (none_halved c.quotes.left.now none)) ∙ c.quotes.invariant.1
