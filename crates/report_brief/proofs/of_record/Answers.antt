use Prim.Native.Nat.{◌≤◌}
use Rattle.report_brief.proofs.Fields.{end_within, brief_is}
use borrow.Author.Rules.{rules}
use native.Mathlib.Omega.{arith}
use Rattle.report_brief.proofs.of_record.Goals as goal

pub overflow_sub-end_field : goal.overflow_sub-end_field
overflow_sub-end_field c =
    let within : (1 ≤ c.end_field.result) × (c.end_field.result ≤ 26) = end_within c.args.r.layout _ c.end_field.ensures in
    within.0

pub offset_bounds-cells-end_field : goal.offset_bounds-cells-end_field
offset_bounds-cells-end_field c =
    let within : (1 ≤ c.end_field.result) × (c.end_field.result ≤ 26) = end_within c.args.r.layout _ c.end_field.ensures in
    let q = within in search rules

pub bounds-cells-end_field : goal.bounds-cells-end_field
bounds-cells-end_field c =
    let within : (1 ≤ c.end_field.result) × (c.end_field.result ≤ 26) = end_within c.args.r.layout _ c.end_field.ensures in
    let q = within in omega (arith, q.0, q.1)

pub returns : goal.returns
returns c =
    brief_is c.args.r _ _ c.end_field.ensures c.of_reading.ensures
