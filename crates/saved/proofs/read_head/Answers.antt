use Prim.Native.Nat.{◌+◌, ◌-◌, ◌≤◌, ◌<◌}
use Rattle.saved.proofs.Heading.{bad_form, form_inside, bad_unit, unit_inside, unit_size, bad_head, floor_to, end_inside, orders_at, good_head}
use Rattle.saved.proofs.Items.{broken_item}
use Rattle.saved.proofs.Opening.{bad_answer, good_answer}
use Rattle.saved.specs.Saved.{nothing}
use Rattle.saved_lines.specs.declared.Table.TheVariants.{Form, Head as HeadTable}
use Rattle.saved_lines.specs.Items.{item_by}
use Rattle.text.proofs.Cuts.{length_part}
use Rattle.text.specs.Puts.{limit}
use lib.ListN.{length, take, drop}
use mathlib.Core.Path.{refl, sym, ap, ◌∙◌}
use native.Mathlib.Nat.{le_refl}
use native.Mathlib.Omega.{arith}
use Rattle.saved.proofs.read_head.Goals as goal

pub overflow_add-result : goal.overflow_add-result
overflow_add-result c =
    omega (arith, (broken_item Form nothing _ _ (ap item_by (sym c.in-Err.is) ∙ c.read_item.ensures) refl).few)

pub returns-in-Err : goal.returns-in-Err
returns-in-Err c =
    bad_answer _ _ _ (bad_form _ _ (ap item_by (sym c.in-Err.is) ∙ c.read_item.ensures) refl) refl

pub slice_bounds-second-count : goal.slice_bounds-second-count
slice_bounds-second-count c =
    let second_from : c.in-Ok.form.end ≤ length c.args.s.now = form_inside _ _ (ap item_by (sym c.in-Ok.is) ∙ c.read_item.ensures) refl in
    second_from

pub slice_bounds-second-start : goal.slice_bounds-second-start
slice_bounds-second-start c =
    let second_from : c.in-Ok.form.end ≤ length c.args.s.now = form_inside _ _ (ap item_by (sym c.in-Ok.is) ∙ c.read_item.ensures) refl in
    second_from

pub returns-in_default : goal.returns-in_default
returns-in_default c =
    bad_answer _ _ _
    (bad_unit _ _ (ap item_by (sym c.in-Ok.is) ∙ c.read_item.ensures) refl _ c.unit_line.ensures c.in_default.is)
    refl

pub overflow_add-third : goal.overflow_add-third
overflow_add-third c =
    let short : length c.args.s.now < limit = omega arith in
    let unit_ends : (5 ≤ c.in-Some.e) × (c.in-Some.e < length (take (length c.args.s.now - c.in-Ok.form.end) (drop c.in-Ok.form.end c.args.s.now))) = unit_inside _ _ (ap item_by (sym c.in-Ok.is) ∙ c.read_item.ensures) refl _ c.unit_line.ensures _ c.in-Some.is in
    let s = c.args.s.now in
    omega (arith, short, unit_ends.1, length_part c.in-Ok.form.end (length s) s (le_refl (length s)))

pub slice_bounds-third-count : goal.slice_bounds-third-count
slice_bounds-third-count c =
    let unit_ends : (5 ≤ c.in-Some.e) × (c.in-Some.e < length (take (length c.args.s.now - c.in-Ok.form.end) (drop c.in-Ok.form.end c.args.s.now))) = unit_inside _ _ (ap item_by (sym c.in-Ok.is) ∙ c.read_item.ensures) refl _ c.unit_line.ensures _ c.in-Some.is in
    omega (arith, unit_ends.1)

pub slice_bounds-third-start : goal.slice_bounds-third-start
slice_bounds-third-start c =
    let unit_ends : (5 ≤ c.in-Some.e) × (c.in-Some.e < length (take (length c.args.s.now - c.in-Ok.form.end) (drop c.in-Ok.form.end c.args.s.now))) = unit_inside _ _ (ap item_by (sym c.in-Ok.is) ∙ c.read_item.ensures) refl _ c.unit_line.ensures _ c.in-Some.is in
    omega (arith, unit_ends.1)

pub overflow_add-result-in-Err-read_item : goal.overflow_add-result-in-Err-read_item
overflow_add-result-in-Err-read_item c =
    omega (arith, (broken_item HeadTable nothing _ _ (ap item_by (sym c.in-Err-read_item.is) ∙ c.read_item-2.ensures) refl).few)

pub returns-in-Err-read_item : goal.returns-in-Err-read_item
returns-in-Err-read_item c =
    bad_answer _ _ _
    (bad_head _ _ (ap item_by (sym c.in-Ok.is) ∙ c.read_item.ensures) refl _ c.unit_line.ensures _ c.in-Some.is _ (ap item_by (sym c.in-Err-read_item.is) ∙ c.read_item-2.ensures) refl)
    refl

pub overflow_sub-result : goal.overflow_sub-result
overflow_sub-result c =
    let unit_ends : (5 ≤ c.in-Some.e) × (c.in-Some.e < length (take (length c.args.s.now - c.in-Ok.form.end) (drop c.in-Ok.form.end c.args.s.now))) = unit_inside _ _ (ap item_by (sym c.in-Ok.is) ∙ c.read_item.ensures) refl _ c.unit_line.ensures _ c.in-Some.is in
    unit_ends.0

pub slice_bounds-keep-count : goal.slice_bounds-keep-count
slice_bounds-keep-count c =
    let unit_ends : (5 ≤ c.in-Some.e) × (c.in-Some.e < length (take (length c.args.s.now - c.in-Ok.form.end) (drop c.in-Ok.form.end c.args.s.now))) = unit_inside _ _ (ap item_by (sym c.in-Ok.is) ∙ c.read_item.ensures) refl _ c.unit_line.ensures _ c.in-Some.is in
    unit_ends.0

pub slice_bounds-keep-start : goal.slice_bounds-keep-start
slice_bounds-keep-start c =
    let unit_ends : (5 ≤ c.in-Some.e) × (c.in-Some.e < length (take (length c.args.s.now - c.in-Ok.form.end) (drop c.in-Ok.form.end c.args.s.now))) = unit_inside _ _ (ap item_by (sym c.in-Ok.is) ∙ c.read_item.ensures) refl _ c.unit_line.ensures _ c.in-Some.is in
    unit_ends.0

pub slice_bounds-keep-end : goal.slice_bounds-keep-end
slice_bounds-keep-end c =
    let unit_ends : (5 ≤ c.in-Some.e) × (c.in-Some.e < length (take (length c.args.s.now - c.in-Ok.form.end) (drop c.in-Ok.form.end c.args.s.now))) = unit_inside _ _ (ap item_by (sym c.in-Ok.is) ∙ c.read_item.ensures) refl _ c.unit_line.ensures _ c.in-Some.is in
    omega (arith, unit_ends.1)

pub overflow_cast-result : goal.overflow_cast-result
overflow_cast-result c =
    omega (
      arith,
      floor_to _ _ (ap item_by (sym c.in-Ok.is) ∙ c.read_item.ensures) refl _ c.unit_line.ensures _ c.in-Some.is
          _ (ap item_by (sym c.in-Ok-read_item.is) ∙ c.read_item-2.ensures) refl,
    )

pub overflow_add-result-2 : goal.overflow_add-result-2
overflow_add-result-2 c =
    let short : length c.args.s.now < limit = omega arith in
    let orders_from : c.in-Ok.form.end + c.in-Some.e + 1 + c.in-Ok-read_item.head.end ≤ length c.args.s.now = end_inside _ _ (ap item_by (sym c.in-Ok.is) ∙ c.read_item.ensures) refl _ c.unit_line.ensures _ c.in-Some.is
    _ (ap item_by (sym c.in-Ok-read_item.is) ∙ c.read_item-2.ensures) refl in
    omega (arith, short, orders_from)

pub overflow_add-result-3 : goal.overflow_add-result-3
overflow_add-result-3 c =
    let short : length c.args.s.now < limit = omega arith in
    let orders_from : c.in-Ok.form.end + c.in-Some.e + 1 + c.in-Ok-read_item.head.end ≤ length c.args.s.now = end_inside _ _ (ap item_by (sym c.in-Ok.is) ∙ c.read_item.ensures) refl _ c.unit_line.ensures _ c.in-Some.is
    _ (ap item_by (sym c.in-Ok-read_item.is) ∙ c.read_item-2.ensures) refl in
    omega (arith, short, orders_from)

pub overflow_add-result-4 : goal.overflow_add-result-4
overflow_add-result-4 c =
    let short : length c.args.s.now < limit = omega arith in
    let orders_from : c.in-Ok.form.end + c.in-Some.e + 1 + c.in-Ok-read_item.head.end ≤ length c.args.s.now = end_inside _ _ (ap item_by (sym c.in-Ok.is) ∙ c.read_item.ensures) refl _ c.unit_line.ensures _ c.in-Some.is
    _ (ap item_by (sym c.in-Ok-read_item.is) ∙ c.read_item-2.ensures) refl in
    omega (arith, short, orders_from)

pub returns : goal.returns
returns c =
    let is_form = ap item_by (sym c.in-Ok.is) ∙ c.read_item.ensures in
    let is_head = ap item_by (sym c.in-Ok-read_item.is) ∙ c.read_item-2.ensures in
    let d = c.unit_line in
    let is_unit = c.in-Some.is in
    good_answer _ _ _ _ _ _ _ _
    (good_head _ _ is_form refl _ d.ensures _ is_unit _ is_head refl)
    (unit_size _ _ is_form refl _ d.ensures _ is_unit)
    c.keep.ensures
    (orders_at _ _ is_form refl _ d.ensures _ is_unit _ is_head refl)
