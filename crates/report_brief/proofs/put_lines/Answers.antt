use Prim.Native.Nat.{◌+◌, ◌≤◌}
use Rattle.report_brief.proofs.Puts.{six_put}
use Rattle.text_keyline.proofs.Putting.{line_length}
use Rattle.report_brief.proofs.Sizes.{head_length, unit_length, instant_length}
use Rattle.text.specs.Bytes.{bytes}
use lib.ListN.{length}
use mathlib.Core.Path.{◌≡◌, ap}
use native.Mathlib.Omega.{arith}
use borrow.Author.Rules.{rules}
use Rattle.report_brief.proofs.put_lines.Goals as goal

pub put_line-third-requires : goal.put_line-third-requires
put_line-third-requires c =
    let head_far : c.put_head-head.result ≤ c.args.at + 35 = omega (arith, c.put_head-head.ensures.0, head_length c.type_of.result c.args.b.number) in
    let unit_short : length c.front.result.now ≤ 16 = let b = c.args.b in
    let u : length b.unit ≡ 16 = search rules in
    omega (arith, ap length c.front.ensures, unit_length b.size b.unit u) in
    omega (arith, head_far, unit_short)

pub put_text-fourth-requires : goal.put_text-fourth-requires
put_text-fourth-requires c =
    let unit_short : length c.front.result.now ≤ 16 = let b = c.args.b in
    let u : length b.unit ≡ 16 = search rules in
    omega (arith, ap length c.front.ensures, unit_length b.size b.unit u) in
    let head_far : c.put_head-head.result ≤ c.args.at + 35 = omega (arith, c.put_head-head.ensures.0, head_length c.type_of.result c.args.b.number) in
    let unit_far : c.put_line-third.result ≤ c.args.at + 57 = omega (arith, c.put_line-third.ensures.0, line_length (bytes "unit=") c.front.result.now, unit_short, head_far) in
    omega (arith, unit_far)

pub put_instant-fifth-requires : goal.put_instant-fifth-requires
put_instant-fifth-requires c =
    let unit_short : length c.front.result.now ≤ 16 = let b = c.args.b in
    let u : length b.unit ≡ 16 = search rules in
    omega (arith, ap length c.front.ensures, unit_length b.size b.unit u) in
    let head_far : c.put_head-head.result ≤ c.args.at + 35 = omega (arith, c.put_head-head.ensures.0, head_length c.type_of.result c.args.b.number) in
    let unit_far : c.put_line-third.result ≤ c.args.at + 57 = omega (arith, c.put_line-third.ensures.0, line_length (bytes "unit=") c.front.result.now, unit_short, head_far) in
    let start_far : c.put_text-fourth.result ≤ c.args.at + 63 = omega (arith, c.put_text-fourth.ensures.0, unit_far) in
    omega (arith, start_far)

pub put_text-sixth-requires : goal.put_text-sixth-requires
put_text-sixth-requires c =
    let unit_short : length c.front.result.now ≤ 16 = let b = c.args.b in
    let u : length b.unit ≡ 16 = search rules in
    omega (arith, ap length c.front.ensures, unit_length b.size b.unit u) in
    let head_far : c.put_head-head.result ≤ c.args.at + 35 = omega (arith, c.put_head-head.ensures.0, head_length c.type_of.result c.args.b.number) in
    let unit_far : c.put_line-third.result ≤ c.args.at + 57 = omega (arith, c.put_line-third.ensures.0, line_length (bytes "unit=") c.front.result.now, unit_short, head_far) in
    let start_far : c.put_text-fourth.result ≤ c.args.at + 63 = omega (arith, c.put_text-fourth.ensures.0, unit_far) in
    let first_far : c.put_instant-fifth.result ≤ c.args.at + 73 = let v = c.args.b.start in
    omega (arith, c.put_instant-fifth.ensures.0, instant_length v, start_far) in
    omega (arith, first_far)

pub put_instant-last-requires : goal.put_instant-last-requires
put_instant-last-requires c =
    let unit_short : length c.front.result.now ≤ 16 = let b = c.args.b in
    let u : length b.unit ≡ 16 = search rules in
    omega (arith, ap length c.front.ensures, unit_length b.size b.unit u) in
    let head_far : c.put_head-head.result ≤ c.args.at + 35 = omega (arith, c.put_head-head.ensures.0, head_length c.type_of.result c.args.b.number) in
    let unit_far : c.put_line-third.result ≤ c.args.at + 57 = omega (arith, c.put_line-third.ensures.0, line_length (bytes "unit=") c.front.result.now, unit_short, head_far) in
    let start_far : c.put_text-fourth.result ≤ c.args.at + 63 = omega (arith, c.put_text-fourth.ensures.0, unit_far) in
    let first_far : c.put_instant-fifth.result ≤ c.args.at + 73 = let v = c.args.b.start in
    omega (arith, c.put_instant-fifth.ensures.0, instant_length v, start_far) in
    let end_far : c.put_text-sixth.result ≤ c.args.at + 78 = omega (arith, c.put_text-sixth.ensures.0, first_far) in
    omega (arith, end_far)

pub put_byte-requires : goal.put_byte-requires
put_byte-requires c =
    let unit_short : length c.front.result.now ≤ 16 = let b = c.args.b in
    let u : length b.unit ≡ 16 = search rules in
    omega (arith, ap length c.front.ensures, unit_length b.size b.unit u) in
    let head_far : c.put_head-head.result ≤ c.args.at + 35 = omega (arith, c.put_head-head.ensures.0, head_length c.type_of.result c.args.b.number) in
    let unit_far : c.put_line-third.result ≤ c.args.at + 57 = omega (arith, c.put_line-third.ensures.0, line_length (bytes "unit=") c.front.result.now, unit_short, head_far) in
    let start_far : c.put_text-fourth.result ≤ c.args.at + 63 = omega (arith, c.put_text-fourth.ensures.0, unit_far) in
    let first_far : c.put_instant-fifth.result ≤ c.args.at + 73 = let v = c.args.b.start in
    omega (arith, c.put_instant-fifth.ensures.0, instant_length v, start_far) in
    let end_far : c.put_text-sixth.result ≤ c.args.at + 78 = omega (arith, c.put_text-sixth.ensures.0, first_far) in
    let last_far : c.put_instant-last.result ≤ c.args.at + 88 = let v = c.args.b.end in
    omega (arith, c.put_instant-last.ensures.0, instant_length v, end_far) in
    omega (arith, last_far, c.requires)

pub returns : goal.returns
returns c =
    let a = c.args in
    let type = c.type_of in
    let code = c.front in
    six_put
    a.b
    a.out.now
    _
    _
    c.put_head-head.new.out
    _
    c.put_line-third.new.out
    _
    c.put_text-fourth.new.out
    _
    c.put_instant-fifth.new.out
    _
    c.put_text-sixth.new.out
    _
    c.put_instant-last.new.out
    _
    _
    type.result
    code.result.now
    type.ensures
    code.ensures
    c.put_head-head.ensures
    c.put_line-third.ensures
    c.put_text-fourth.ensures
    c.put_instant-fifth.ensures
    c.put_text-sixth.ensures
    c.put_instant-last.ensures
    c.put_byte.ensures
