use Rattle.std.proofs.Common.{◌≡◌, ◌≤◌, ◌++◌, length, take, get_or, sym, ap, append_assoc, ◌∙◌, arith}
use Rattle.std.proofs.lemmas.List.{length-append, take_all}
use Rattle.std.proofs.lemmas.List.Elements.{All-get_or, length_all_zip}
use Rattle.std.proofs.lemmas.List.Sums.{sum_by_more_le}
use Rattle.packed_words.specs.Numbers.{low_bits}
use Rattle.packed_words.specs.Words.{PackedBits}
use Rattle.packed_words.specs.Rows.{HasWidth, row_bits}
use Rattle.packed_words.proofs.RowLists.{row_bits_more, row_taken}
use Rattle.packed_words.proofs.packed_rows.push_numbers.Goals as goal

pub push-requires-clause-width : goal.push-requires-clause-width
push-requires-clause-width c =
    let l = c.numbers in
    let narrow = All-get_or (λ w. w ≤ 32) c.args.widths.now l.i 0 (omega arith) c.requires.narrow in
    omega (arith, narrow)

pub push-requires-clause-room : goal.push-requires-clause-room
push-requires-clause-room c =
    let l = c.numbers in
    let widths = c.args.widths.now in
    let numbers = c.args.row.now in
    let long = length_all_zip HasWidth numbers widths c.requires.numbers in
    let bits = ap (λ (b : PackedBits). length b.bits) l.invariant ∙ length-append c.args.bits.now.bits (row_bits (take l.i widths) (take l.i numbers)) in
    let taken = row_taken widths numbers l.i long in
    let more = sum_by_more_le (λ x. x) widths l.i 0 (omega arith) in
    omega (arith, bits, taken, more, ap (λ (b : PackedBits). b.room) l.invariant, c.requires.room)

pub numbers-preserved : goal.numbers-preserved
numbers-preserved c =
    let l = c.numbers in
    let widths = c.args.widths.now in
    let numbers = c.args.row.now in
    let bits = c.args.bits.now in
    let width = get_or widths l.i 0 in
    let long = length_all_zip HasWidth numbers widths c.requires.numbers in
    let front = row_bits (take l.i widths) (take l.i numbers) in
    let more = row_bits_more widths numbers l.i (omega arith) (omega (arith, long)) in
    let value : c.from.result ≡ get_or numbers l.i 0 = c.from.ensures in
    c.push.ensures
    ∙ ap (λ (b : PackedBits). record b { bits = b.bits ++ low_bits width c.from.result }) l.invariant
    ∙ (λ t. record bits { bits = (bits.bits ++ front) ++ low_bits width (value t) })
    ∙ (λ t. record bits { bits = append_assoc bits.bits front (low_bits width (get_or numbers l.i 0)) t })
    ∙ (λ t. record bits { bits = bits.bits ++ sym more t })

pub returns : goal.returns
returns c =
    let l = c.numbers in
    let widths = c.args.widths.now in
    let numbers = c.args.row.now in
    let long = length_all_zip HasWidth numbers widths c.requires.numbers in
    let all : length widths ≤ l.i = omega arith in
    let every : length numbers ≤ l.i = omega (arith, long) in
    l.invariant ∙ (λ t. record c.args.bits.now { bits = c.args.bits.now.bits ++ row_bits (take_all l.i widths all t) (take_all l.i numbers every t) })
