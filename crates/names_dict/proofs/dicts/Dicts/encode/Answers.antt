use Rattle.std.proofs.Common.{◌≡◌, false, length, rules}
use Rattle.names_dict.specs.Dictionaries.{dictionaries_of}
use Rattle.names_dict.proofs.NewCubes.{first_added, not_made}
use Rattle.names_dict.proofs.Places.{at_any_err}
use Rattle.names_dict.proofs.dicts.Dicts.encode.Goals as goal

pub returns-in_err-dims-clause-wanted : goal.returns-in_err-dims-clause-wanted
returns-in_err-dims-clause-wanted c =
    let no : c.are_made.result ≡ false = search rules in
    at_any_err c.from_residual.result _ (first_added c.args.shape.now c.args.self.now c.args.cube c.args.dim c.args.name.now c.requires.sound c.requires.text (not_made c.are_made.result (length (dictionaries_of c.args.self.now c.args.cube)) c.are_made.ensures no))

pub returns-in_err-put-clause-wanted : goal.returns-in_err-put-clause-wanted
returns-in_err-put-clause-wanted c =
    let no : c.are_made.result ≡ false = search rules in
    at_any_err c.from_residual-in_err-put.result _ (first_added c.args.shape.now c.args.self.now c.args.cube c.args.dim c.args.name.now c.requires.sound c.requires.text (not_made c.are_made.result (length (dictionaries_of c.args.self.now c.args.cube)) c.are_made.ensures no))
