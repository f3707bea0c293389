use Rattle.std.proofs.Common.{◌≡◌, length, ap, ◌∙◌, arith}
use Rattle.std.proofs.lemmas.List.{length-append}
use Rattle.cube_rounds.specs.Bytes.{payload_bytes}
use Rattle.round_text.proofs.Fronts.{length-front, length_put}
use Rattle.round_text.proofs.round_writing.body_of.Goals as goal

pub set_length-requires : goal.set_length-requires
set_length-requires c =
    let front : length c.in_ok-out.out.items ≡ 24 =
    ap length c.in_ok-out.ensures ∙ length-front c.args.round.now.epoch c.args.round.now.from 0 in
    omega (arith, ap length c.in_ok-put_payload.ensures, length-append c.in_ok-out.out.items (payload_bytes c.args.cubes.now c.args.round.now), front)

pub returns : goal.returns
returns c =
    c.set_length.ensures
    ∙ length_put c.args.round.now.epoch c.args.round.now.from c.in_ok-out.out.items (payload_bytes c.args.cubes.now c.args.round.now)
    c.put_payload.new.out.items c.in_ok-out.ensures c.in_ok-put_payload.ensures
