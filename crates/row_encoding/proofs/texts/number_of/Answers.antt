use Rattle.std.proofs.Common.{◌<◌, arith, length}
use Rattle.cube_language.specs.declared.bad_row.TheConstants.{TEXT_BYTES}
use Rattle.condition_spans.specs.Codes.{lists_at}
use Rattle.row_encoding.specs.FinalCodes.{dim_at}
use Rattle.row_encoding.proofs.TextNumbers.{final_number_code, long_code}
use Rattle.row_encoding.proofs.TextPlaces.{has_place}
use Rattle.row_encoding.proofs.texts.number_of.Goals as goal

pub returns-then-len-gt-TEXT_BYTES-clause-number : goal.returns-then-len-gt-TEXT_BYTES-clause-number
returns-then-len-gt-TEXT_BYTES-clause-number g c = λ names end are.
    let long : TEXT_BYTES < length c.args.text.now = grind (arith, c.len.ensures, c.if-len-gt-TEXT_BYTES.true) in
    long_code (lists_at names c.args.place) c.args.dim c.args.text.now are long

pub returns-then-len-gt-TEXT_BYTES-clause-place : goal.returns-then-len-gt-TEXT_BYTES-clause-place
returns-then-len-gt-TEXT_BYTES-clause-place g c = λ names end short.
    let long : TEXT_BYTES < length c.args.text.now = grind (arith, c.len.ensures, c.if-len-gt-TEXT_BYTES.true) in
    absurd (omega (arith, long, short))

pub returns-clause-place : goal.returns-clause-place
returns-clause-place g c =
    has_place c.encode_text.result (g.E.Encoder.may_end c.encode_text.new.encoder) c.args.place c.args.dim (dim_at c.args.cube.now.dims c.args.dim) c.as_str.result.now c.args.text.now
    c.as_str.ensures.bytes c.encode_text.ensures.number

pub returns-clause-number : goal.returns-clause-number
returns-clause-number g c =
    final_number_code c.encode_text.result (g.E.Encoder.may_end c.encode_text.new.encoder) c.args.place c.args.dim (dim_at c.args.cube.now.dims c.args.dim) c.as_str.result.now c.args.text.now
    c.as_str.ensures.bytes c.encode_text.ensures.number
