use Prim.Native.Nat.{◌+◌, ◌≤◌}
use Rattle.writer_lines.proofs.Copies.{all_lines_small}
use Rattle.writer_message.proofs.Message.{banner_short, row_small, written_put}
use Rattle.layout.specs.Layouts.{size_of}
use Rattle.text_lines.specs.Places.{column_in}
use native.Mathlib.Omega.{arith}
use Rattle.writer_message.proofs.put_copied.Goals as goal

pub put_byte-body-requires : goal.put_byte-body-requires
put_byte-body-requires c =
    let banner_low : c.put-head.result ≤ c.args.at + 88 = omega (arith, c.put-head.ensures.0, banner_short c.args.l) in
    omega (arith, c.requires.0, banner_low)

pub put_text_lines-listed-requires : goal.put_text_lines-listed-requires
put_text_lines-listed-requires c =
    let banner_low : c.put-head.result ≤ c.args.at + 88 = omega (arith, c.put-head.ensures.0, banner_short c.args.l) in
    (omega (arith, c.requires.0, banner_low, c.put_byte-body.ensures.0), c.requires.1, c.requires.2)

pub put_text-from-requires : goal.put_text-from-requires
put_text-from-requires c =
    let banner_low : c.put-head.result ≤ c.args.at + 88 = omega (arith, c.put-head.ensures.0, banner_short c.args.l) in
    let lines_low : c.put_text_lines-listed.result ≤ c.args.at + 214329 = let small = all_lines_small c.args.l _ c.args.places c.requires.1 c.requires.2 in
    omega (arith, banner_low, c.put_byte-body.ensures.0, c.put_text_lines-listed.ensures.0, small) in
    omega (arith, c.requires.0, lines_low)

pub put_text-past-requires : goal.put_text-past-requires
put_text-past-requires c =
    let banner_low : c.put-head.result ≤ c.args.at + 88 = omega (arith, c.put-head.ensures.0, banner_short c.args.l) in
    let lines_low : c.put_text_lines-listed.result ≤ c.args.at + 214329 = let small = all_lines_small c.args.l _ c.args.places c.requires.1 c.requires.2 in
    omega (arith, banner_low, c.put_byte-body.ensures.0, c.put_text_lines-listed.ensures.0, small) in
    let above_low : c.put_text-from.result ≤ c.args.at + 214335 = omega (arith, lines_low, c.put_text-from.ensures.0) in
    omega (arith, c.requires.0, above_low, row_small _ _ c.requires.3 c.requires.2)

pub put_text-requires : goal.put_text-requires
put_text-requires c =
    let banner_low : c.put-head.result ≤ c.args.at + 88 = omega (arith, c.put-head.ensures.0, banner_short c.args.l) in
    let lines_low : c.put_text_lines-listed.result ≤ c.args.at + 214329 = let small = all_lines_small c.args.l _ c.args.places c.requires.1 c.requires.2 in
    omega (arith, banner_low, c.put_byte-body.ensures.0, c.put_text_lines-listed.ensures.0, small) in
    let above_low : c.put_text-from.result ≤ c.args.at + 214335 = omega (arith, lines_low, c.put_text-from.ensures.0) in
    omega (arith, c.requires.0, above_low, c.put_text-past.ensures.0, row_small _ _ c.requires.3 c.requires.2)

pub returns : goal.returns
returns c =
    let a = c.args in
    written_put a.l (column_in (size_of a.l) a.file.now a.places) a.out.now _ _ c.put-head.new.out _ c.put_byte-body.new.out
    _ c.put_text_lines-listed.new.out _ c.put_text-from.new.out _ c.put_text-past.new.out _ _
    c.put-head.ensures c.put_byte-body.ensures c.put_text_lines-listed.ensures c.put_text-from.ensures
    _ c.requires.3.holds c.put_text-past.ensures c.put_text.ensures

pub put-head-requires : goal.put-head-requires
put-head-requires c = omega (arith, c.requires.0, banner_short c.args.l)
