use Prim.Native.Nat.{◌<◌}
use Rattle.value_number.proofs.Parts.{blanks_inside, part_plus, sign_inside, part_minus}
use Rattle.value_number.specs.Parts.{is_of_number}
use borrow.Author.Rules.{rules}
use lib.ListN.{length}
use mathlib.Core.Bool.{false}
use mathlib.Core.Path.{◌≡◌, sym, ◌∙◌}
use native.Mathlib.Omega.{arith}
use Rattle.value_number.proofs.read_part.Goals as goal

pub overflow_add-from : goal.overflow_add-from
overflow_add-from c =
    let other : is_of_number c.args.sep ≡ false = sym c.is_of_number.ensures ∙ c.if-is_of_number.false in
    let sign_fits : c.past_blanks-from.result < length c.args.s.now = sign_inside c.args.sep other c.args.s.now c.args.at _ c.requires
    c.past_blanks-from.ensures (sym c.is_at.ensures ∙ c.if-is_at.true) in
    let fits = sign_fits in search rules

pub unsigned_part-requires : goal.unsigned_part-requires
unsigned_part-requires c =
    let other : is_of_number c.args.sep ≡ false = sym c.is_of_number.ensures ∙ c.if-is_of_number.false in
    let sign_fits : c.past_blanks-from.result < length c.args.s.now = sign_inside c.args.sep other c.args.s.now c.args.at _ c.requires
    c.past_blanks-from.ensures (sym c.is_at.ensures ∙ c.if-is_at.true) in
    (omega (arith, sign_fits), other)

pub returns-then-is_at : goal.returns-then-is_at
returns-then-is_at c =
    let other : is_of_number c.args.sep ≡ false = sym c.is_of_number.ensures ∙ c.if-is_of_number.false in
    part_minus c.args.sep other c.args.s.now c.args.at _ c.requires
    c.past_blanks-from.ensures (sym c.is_at.ensures ∙ c.if-is_at.true) _ c.unsigned_part.ensures

pub unsigned_part-requires-2 : goal.unsigned_part-requires-2
unsigned_part-requires-2 c =
    let other : is_of_number c.args.sep ≡ false = sym c.is_of_number.ensures ∙ c.if-is_of_number.false in (
      blanks_inside c.args.sep other c.args.s.now c.args.at _ c.requires
          c.past_blanks-from.ensures,
      other,
    )

pub returns : goal.returns
returns c =
    let other : is_of_number c.args.sep ≡ false = sym c.is_of_number.ensures ∙ c.if-is_of_number.false in
    part_plus c.args.sep other c.args.s.now c.args.at _ c.requires
    c.past_blanks-from.ensures _ (sym c.is_at.ensures ∙ c.if-is_at.false) c.unsigned_part-2.ensures
