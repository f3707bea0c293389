use Rattle.std.proofs.Common.{◌<◌, arith, length, subst, List, sym, ap, ◌∙◌, Ok}
use Rattle.std.proofs.lemmas.List.{length-map}
use Rattle.std.proofs.lemmas.Result.{err_from_is_err_and}
use Rattle.cube_language.specs.Symbols.{symbols_of, symbol_of}
use Rattle.cube_language.specs.declared.token.Token.{Token}
use Rattle.sql_tree.specs.Places.{AreIn}
use Rattle.sql_tree.proofs.Lists.{IsListing, listing_none, listing_more, listing_done, listing_fails}
use Rattle.sql_tree.proofs.phrase.listed.Goals as goal

pub parts-init : goal.parts-init
parts-init g c = (subst (λ parts. IsListing c.args.between g.T.Phrase.reading (symbols_of c.args.text.now c.args.tokens.now) parts (symbols_of c.args.text.now c.args.tokens.now)) (sym (c.from_vec-parts.ensures ∙ c.in_ok-with_capacity.ensures.items)) (listing_none c.args.between g.T.Phrase.reading (symbols_of c.args.text.now c.args.tokens.now)), c.requires, omega arith)

pub returns-in_err-part-clause-read : goal.returns-in_err-part-clause-read
returns-in_err-part-clause-read g c =
    let p = err_from_is_err_and c.from_residual-in_err-part.result c.from_residual-in_err-part.ensures.1 in
    rw (p.1, p.2) (listing_fails c.args.between g.T.Phrase.reading (symbols_of c.args.text.now c.args.tokens.now) c.parts.parts (symbols_of c.args.text.now c.parts.left.now) c.in_err-part.field-0.0 c.parts.invariant.0 c.in_err-part.ensures.read)

pub parts-preserved : goal.parts-preserved
parts-preserved g c =
    let text = c.args.text.now in
    let left = c.parts.left.now in
    let behind = c.in-Some.behind.now in
    let begins = c.in-Some.ensures.some in
    let rest = c.in_ok-part.ensures.rest in
    let read = c.in_ok-part.ensures.read ∙ ap (λ (ts : List Token). Ok (c.in_ok-part.part, symbols_of text ts)) begins.1 in
    let less : length (symbols_of text behind) < length (symbols_of text left) = omega (arith, length-map behind (symbol_of text), length-map left (symbol_of text), ap length begins.1, rest.1) in
    let more = listing_more c.args.between g.T.Phrase.reading (symbols_of text c.args.tokens.now) c.parts.parts (symbols_of text left) (symbols_of text behind) c.in_ok-part.part (symbol_of text begins.0) c.parts.invariant.0 read begins.2 less in
    (rw c.in_ok-push.ensures.ok more, (subst (AreIn text) begins.1 rest.0).1, omega (arith, ap length begins.1, rest.1, c.parts.invariant.2))

pub returns-in-None-clause-read : goal.returns-in-None-clause-read
returns-in-None-clause-read g c =
    let text = c.args.text.now in
    rw c.in_ok-push.ensures.ok
    (listing_done c.args.between g.T.Phrase.reading (symbols_of text c.args.tokens.now) c.parts.parts (symbols_of text c.parts.left.now) (symbols_of text c.in_ok-part.rest.now) c.in_ok-part.part c.parts.invariant.0 c.in_ok-part.ensures.read c.in-None.ensures.none)
