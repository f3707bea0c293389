use Rattle.std.proofs.Common.{◌+◌, ◌++◌, List, [], drop, sym, ap, subst, ◌∙◌, arith}
use Rattle.std.proofs.lemmas.List.{drop_all, append-nil}
use Rattle.cube_values.specs.declared.row.CodedRow.{CodedRow}
use Rattle.agg_fold.specs.Standing.{StandsFor}
use Rattle.agg_fold.proofs.GroupRows.{rows_among, among_none, among_all, part_step, stand_moved}
use Rattle.agg_fold.proofs.groups.Groups.remove.Goals as goal

pub groups-init : goal.groups-init
groups-init c = λ rest more s t. subst (λ (rs : List CodedRow). StandsFor c.args.query.now (rest ++ rs) c.args.self.now) (sym (among_all c.args.query.now.group c.args.other.now.keys more t.named)) s

pub take_group-requires-clause-held : goal.take_group-requires-clause-held
take_group-requires-clause-held c =
    let h = c.requires.held in
    let query = c.args.query.now in
    let other = c.args.other.now in
    let i = c.groups.theirs in
    record {
      rest = h.rest ++ rows_among query.group h.more (drop (i + 1) other.keys);
      more = h.more;
      part = h.part;
      whole = part_step query h.rest h.more other c.groups.self h.part i (omega arith) (c.groups.invariant h.rest h.more (stand_moved query h.rows (h.rest ++ h.more) c.args.self.now h.made h.whole) h.part);
    }

pub groups-preserved : goal.groups-preserved
groups-preserved c = λ rest more s t.
    let query = c.args.query.now in
    let other = c.args.other.now in
    let i = c.groups.theirs in
    c.take_group.ensures (rest ++ rows_among query.group more (drop (i + 1) other.keys)) more t (part_step query rest more other c.groups.self t i (omega arith) (c.groups.invariant rest more s t))

pub returns : goal.returns
returns c = λ rows more rest made t s.
    let query = c.args.query.now in
    let other = c.args.other.now in
    let none = ap (rows_among query.group more) (drop_all c.groups.theirs other.keys (omega arith)) ∙ among_none query.group more in
    subst (λ (rs : List CodedRow). StandsFor query rs c.groups.self) (ap (λ (w : List CodedRow). rest ++ w) none ∙ append-nil rest)
    (c.groups.invariant rest more (stand_moved query rows (rest ++ more) c.args.self.now made s) t)
