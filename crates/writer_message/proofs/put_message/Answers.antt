use Prim.Native.Nat.{◌+◌, ◌≤◌}
use Rattle.writer_lines.proofs.Lines.{all_lines_short}
use Rattle.writer_message.proofs.Message.{banner_short, message_put}
use Rattle.writer_row.proofs.Rows.{all_row_short}
use Rattle.value.specs.Texts.{rooms_in}
use borrow.Author.Rules.{rules}
use lib.ListN.{length}
use mathlib.Core.Path.{◌≡◌}
use native.Mathlib.Omega.{arith}
use Rattle.writer_message.proofs.put_message.Goals as goal

pub put-head-requires : goal.put-head-requires
put-head-requires c =
    omega (arith, c.requires.0, banner_short c.args.l)

pub put_byte-body-requires : goal.put_byte-body-requires
put_byte-body-requires c =
    let banner_end : c.put-head.result ≤ c.args.at + 88 = omega (arith, banner_short c.args.l, c.put-head.ensures.0) in
    omega (arith, c.requires.0, banner_end)

pub put_lines-above-requires : goal.put_lines-above-requires
put_lines-above-requires c =
    let banner_end : c.put-head.result ≤ c.args.at + 88 = omega (arith, banner_short c.args.l, c.put-head.ensures.0) in
    let empty_end : c.put_byte-body.result ≤ c.args.at + 89 = omega (arith, banner_end, c.put_byte-body.ensures.0) in
    (omega (arith, c.requires.0, empty_end), c.requires.1)

pub put_text-from-requires : goal.put_text-from-requires
put_text-from-requires c =
    let sixteen : length c.args.rooms.gradients ≡ 16 = search rules in
    let banner_end : c.put-head.result ≤ c.args.at + 88 = omega (arith, banner_short c.args.l, c.put-head.ensures.0) in
    let empty_end : c.put_byte-body.result ≤ c.args.at + 89 = omega (arith, banner_end, c.put_byte-body.ensures.0) in
    let lines_end : c.put_lines-above.result ≤ c.args.at + 18289 = omega (arith, empty_end, all_lines_short c.args.l _ _ c.requires.1 sixteen, c.put_lines-above.ensures.0) in
    omega (arith, c.requires.0, lines_end)

pub put_row-to-requires : goal.put_row-to-requires
put_row-to-requires c =
    let sixteen : length c.args.rooms.gradients ≡ 16 = search rules in
    let banner_end : c.put-head.result ≤ c.args.at + 88 = omega (arith, banner_short c.args.l, c.put-head.ensures.0) in
    let empty_end : c.put_byte-body.result ≤ c.args.at + 89 = omega (arith, banner_end, c.put_byte-body.ensures.0) in
    let lines_end : c.put_lines-above.result ≤ c.args.at + 18289 = omega (arith, empty_end, all_lines_short c.args.l _ _ c.requires.1 sixteen, c.put_lines-above.ensures.0) in
    let above_end : c.put_text-from.result ≤ c.args.at + 18295 = omega (arith, lines_end, c.put_text-from.ensures.0) in
    (omega (arith, c.requires.0, above_end), c.requires.1)

pub put_text-requires : goal.put_text-requires
put_text-requires c =
    let sixteen : length c.args.rooms.gradients ≡ 16 = search rules in
    let banner_end : c.put-head.result ≤ c.args.at + 88 = omega (arith, banner_short c.args.l, c.put-head.ensures.0) in
    let empty_end : c.put_byte-body.result ≤ c.args.at + 89 = omega (arith, banner_end, c.put_byte-body.ensures.0) in
    let lines_end : c.put_lines-above.result ≤ c.args.at + 18289 = omega (arith, empty_end, all_lines_short c.args.l _ _ c.requires.1 sixteen, c.put_lines-above.ensures.0) in
    let above_end : c.put_text-from.result ≤ c.args.at + 18295 = omega (arith, lines_end, c.put_text-from.ensures.0) in
    let row_end : c.put_row-to.result ≤ c.args.at + 37195 = omega (arith, above_end, all_row_short c.args.l _ _ c.requires.1 sixteen, c.put_row-to.ensures.0) in
    omega (arith, c.requires.0, row_end)

pub returns : goal.returns
returns c =
    message_put c.args.l (rooms_in c.args.rooms) c.args.cells c.args.out.now _ _ c.put-head.new.out _ c.put_byte-body.new.out
    _ c.put_lines-above.new.out _ c.put_text-from.new.out _ c.put_row-to.new.out _ _ c.put-head.ensures c.put_byte-body.ensures
    c.put_lines-above.ensures c.put_text-from.ensures c.put_row-to.ensures c.put_text.ensures
