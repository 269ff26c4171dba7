use Prim.Native.Nat.{◌+◌, ◌≤◌, ◌<◌}
use Rattle.plan_row.proofs.Readers.{At, bad_ca, ca_told, at_two, bad_ioa, ioa_told, at_three, twice, bad_unit, unit_from, at_four, bad_type, at_five}
use Rattle.plan_row.proofs.Readers.{good_row}
use Rattle.text_keyline.specs.Keylines.{below}
use Rattle.text.specs.Bytes.{any}
use Rattle.text.specs.Puts.{limit}
use lib.ListN.{length}
use mathlib.Core.List.{[]}
use mathlib.Core.Path.{refl}
use native.Mathlib.Omega.{arith}
use Rattle.plan_row.proofs.row_at.Goals as goal

pub number_line-requires : goal.number_line-requires
unfolding any
number_line-requires c = refl

pub returns-in_default : goal.returns-in_default
returns-in_default c = search bad_ca

pub overflow_add-second : goal.overflow_add-second
overflow_add-second c =
    let short : length c.args.s.now < limit = omega arith in
    let two : At c.args.s.now (c.in-Some.ca.end + 1) (below c.args.s.now) = search at_two in
    omega (arith, short, two.inside)

pub slice_bounds-number_line-count : goal.slice_bounds-number_line-count
slice_bounds-number_line-count c =
    let two : At c.args.s.now (c.in-Some.ca.end + 1) (below c.args.s.now) = search at_two in
    two.inside

pub slice_bounds-number_line-start : goal.slice_bounds-number_line-start
slice_bounds-number_line-start c =
    let two : At c.args.s.now (c.in-Some.ca.end + 1) (below c.args.s.now) = search at_two in
    two.inside

pub number_line-requires-2 : goal.number_line-requires-2
unfolding any
number_line-requires-2 c = refl

pub returns-in_default-number_line : goal.returns-in_default-number_line
returns-in_default-number_line c = search bad_ioa

pub key_of-key-requires : goal.key_of-key-requires
key_of-key-requires c =
    let n = c.number_line in
    let m = c.number_line-2 in (
      omega (arith, ca_told [] c.args.s.now _ n.ensures _ c.in-Some.is),
      (ioa_told [] c.args.s.now _ n.ensures _ c.in-Some.is _ m.ensures _ c.in-Some-number_line.is).1,
    )

pub returns-then-stands : goal.returns-then-stands
returns-then-stands c =
    twice _ _ _ c.number_line.ensures _ c.in-Some.is
    _ c.number_line-2.ensures _ c.in-Some-number_line.is _ _ c.key_of-key.ensures
    c.stands.ensures c.if-stands.true

pub overflow_add-third : goal.overflow_add-third
overflow_add-third c =
    let short : length c.args.s.now < limit = omega arith in
    let three : At c.args.s.now ((c.in-Some.ca.end + 1) + c.in-Some-number_line.ioa.end + 1) (below (below c.args.s.now)) = search at_three in
    omega (arith, short, three.inside)

pub overflow_add-third-2 : goal.overflow_add-third-2
overflow_add-third-2 c =
    let short : length c.args.s.now < limit = omega arith in
    let three : At c.args.s.now ((c.in-Some.ca.end + 1) + c.in-Some-number_line.ioa.end + 1) (below (below c.args.s.now)) = search at_three in
    omega (arith, short, three.inside)

pub slice_bounds-unit_line-count : goal.slice_bounds-unit_line-count
slice_bounds-unit_line-count c =
    let three : At c.args.s.now ((c.in-Some.ca.end + 1) + c.in-Some-number_line.ioa.end + 1) (below (below c.args.s.now)) = search at_three in
    three.inside

pub slice_bounds-unit_line-start : goal.slice_bounds-unit_line-start
slice_bounds-unit_line-start c =
    let three : At c.args.s.now ((c.in-Some.ca.end + 1) + c.in-Some-number_line.ioa.end + 1) (below (below c.args.s.now)) = search at_three in
    three.inside

pub returns-in_default-unit_line : goal.returns-in_default-unit_line
returns-in_default-unit_line c = search bad_unit

pub overflow_add-fourth : goal.overflow_add-fourth
overflow_add-fourth c =
    let short : length c.args.s.now < limit = omega arith in
    let four : At c.args.s.now (((c.in-Some.ca.end + 1) + c.in-Some-number_line.ioa.end + 1) + c.in-Some-unit_line.c + 1) (below (below (below c.args.s.now))) = search at_four in
    omega (arith, short, four.inside)

pub overflow_add-fourth-2 : goal.overflow_add-fourth-2
overflow_add-fourth-2 c =
    let short : length c.args.s.now < limit = omega arith in
    let four : At c.args.s.now (((c.in-Some.ca.end + 1) + c.in-Some-number_line.ioa.end + 1) + c.in-Some-unit_line.c + 1) (below (below (below c.args.s.now))) = search at_four in
    omega (arith, short, four.inside)

pub slice_bounds-type_line-count : goal.slice_bounds-type_line-count
slice_bounds-type_line-count c =
    let four : At c.args.s.now (((c.in-Some.ca.end + 1) + c.in-Some-number_line.ioa.end + 1) + c.in-Some-unit_line.c + 1) (below (below (below c.args.s.now))) = search at_four in
    four.inside

pub slice_bounds-type_line-start : goal.slice_bounds-type_line-start
slice_bounds-type_line-start c =
    let four : At c.args.s.now (((c.in-Some.ca.end + 1) + c.in-Some-number_line.ioa.end + 1) + c.in-Some-unit_line.c + 1) (below (below (below c.args.s.now))) = search at_four in
    four.inside

pub returns-in_default-type_line : goal.returns-in_default-type_line
returns-in_default-type_line c = search bad_type

pub overflow_add-result : goal.overflow_add-result
overflow_add-result c =
    let short : length c.args.s.now < limit = omega arith in
    let h : ((c.in-Some.ca.end + 1) + c.in-Some-number_line.ioa.end + 1) + 5 ≤ length c.args.s.now = search unit_from in
    omega (arith, short)

pub overflow_add-result-2 : goal.overflow_add-result-2
overflow_add-result-2 c =
    let short : length c.args.s.now < limit = omega arith in
    let four : At c.args.s.now (((c.in-Some.ca.end + 1) + c.in-Some-number_line.ioa.end + 1) + c.in-Some-unit_line.c + 1) (below (below (below c.args.s.now))) = search at_four in
    omega (arith, short, four.inside)

pub overflow_add-result-3 : goal.overflow_add-result-3
overflow_add-result-3 c =
    let short : length c.args.s.now < limit = omega arith in
    let five : At c.args.s.now ((((c.in-Some.ca.end + 1) + c.in-Some-number_line.ioa.end + 1) + c.in-Some-unit_line.c + 1) + 8) (below (below (below (below c.args.s.now)))) = search at_five in
    omega (arith, short, five.inside)

pub returns : goal.returns
returns c = search good_row
