use Rattle.std.specs.Prelude.{Some}
use Prim.Native.Nat.{◌+◌}
use Rattle.value_list.proofs.Cuts.{begin, too_many, ends, bad_part, next_part, too_few}
use Rattle.value_list.proofs.Lines.{part_bad, part_read, no_numbers, are_numbers}
use Rattle.value_list.specs.Forms.{amount_of}
use Rattle.text.specs.Bytes.{part, first_of, trim}
use borrow.Author.Rules.{rules}
use lib.IntN.{pos}
use lib.ListN.{length-set, drop}
use mathlib.Core.Path.{◌≡◌, refl, sym, ap, ◌∙◌}
use mir.Syntax.{w32}
use mir.Val.{to_z, of_z}
use mir.ValLaws.{to_z-of_z}
use native.Mathlib.Omega.{arith}
use Rattle.value_list.proofs.few.read.Goals as goal

pub loop-n-init : goal.loop-n-init
loop-n-init c = (refl, begin amount_of c.args.sep (pos 0) c.args.s.now 4)

pub returns-in_err-part : goal.returns-in_err-part
returns-in_err-part c =
    c.from_residual.ensures ∙ no_numbers _ _ _ _ (bad_part amount_of _ _ _ _ _ _ _ c.loop-n.invariant.1 refl _ _
    (part_bad _ _ _ c.loop-n.invariant.1.inside (sym c.in_err-part.was ∙ c.read_part.ensures)))

pub returns-then-count-least : goal.returns-then-count-least
returns-then-count-least c =
    let was_read : (c.in_ok-part.part.end ≡ c.loop-n.at + first_of c.args.sep (drop c.loop-n.at c.args.s.now)) × (amount_of (trim (part c.loop-n.at c.in_ok-part.part.end c.args.s.now)) ≡ Some (to_z w32 (of_z w32 c.in_ok-part.part.number))) = rw (to_z-of_z w32 c.in_ok-part.part.number (search rules))
    (part_read _ c.args.s.now c.loop-n.at c.loop-n.invariant.1.inside _ _ (sym c.in_ok-part.was ∙ c.read_part.ensures)) in
    no_numbers _ _ _ _ (too_few amount_of _ _ _ _ _ _ _ c.loop-n.invariant.1 was_read.0 (to_z w32 (of_z w32 c.in_ok-part.part.number)) (omega arith) was_read.1
    c.if-part-s.true _ _ c.if-count-least.true)

pub returns-then-part-s : goal.returns-then-part-s
returns-then-part-s c =
    let was_read : (c.in_ok-part.part.end ≡ c.loop-n.at + first_of c.args.sep (drop c.loop-n.at c.args.s.now)) × (amount_of (trim (part c.loop-n.at c.in_ok-part.part.end c.args.s.now)) ≡ Some (to_z w32 (of_z w32 c.in_ok-part.part.number))) = rw (to_z-of_z w32 c.in_ok-part.part.number (search rules))
    (part_read _ c.args.s.now c.loop-n.at c.loop-n.invariant.1.inside _ _ (sym c.in_ok-part.was ∙ c.read_part.ensures)) in
    ap Some c.are.ensures
    ∙ are_numbers _ _ _ _ _ _ _ _ (to_z w32 (of_z w32 c.in_ok-part.part.number)) c.loop-n.invariant.0 c.loop-n.invariant.1 was_read.0 was_read.1
    c.if-part-s.true (omega arith) c.if-count-least.false (omega arith)

pub overflow_add-at : goal.overflow_add-at
overflow_add-at c =
    let was_read : (c.in_ok-part.part.end ≡ c.loop-n.at + first_of c.args.sep (drop c.loop-n.at c.args.s.now)) × (amount_of (trim (part c.loop-n.at c.in_ok-part.part.end c.args.s.now)) ≡ Some (to_z w32 (of_z w32 c.in_ok-part.part.number))) = rw (to_z-of_z w32 c.in_ok-part.part.number (search rules))
    (part_read _ c.args.s.now c.loop-n.at c.loop-n.invariant.1.inside _ _ (sym c.in_ok-part.was ∙ c.read_part.ensures)) in
    omega (arith, ends amount_of _ _ c.args.s.now c.loop-n.at c.loop-n.n c.loop-n.values c.in_ok-part.part.end c.loop-n.invariant.1 was_read.0)

pub loop-n-preserved : goal.loop-n-preserved
loop-n-preserved c =
    let was_read : (c.in_ok-part.part.end ≡ c.loop-n.at + first_of c.args.sep (drop c.loop-n.at c.args.s.now)) × (amount_of (trim (part c.loop-n.at c.in_ok-part.part.end c.args.s.now)) ≡ Some (to_z w32 (of_z w32 c.in_ok-part.part.number))) = rw (to_z-of_z w32 c.in_ok-part.part.number (search rules))
    (part_read _ c.args.s.now c.loop-n.at c.loop-n.invariant.1.inside _ _ (sym c.in_ok-part.was ∙ c.read_part.ensures)) in (
      length-set c.loop-n.values c.loop-n.n (to_z w32 (of_z w32 c.in_ok-part.part.number)) ∙ c.loop-n.invariant.0,
      next_part amount_of _ _ _ _ _ _ _ c.loop-n.invariant.1 was_read.0 (to_z w32 (of_z w32 c.in_ok-part.part.number)) (omega arith) was_read.1 c.if-part-s.false,
    )

pub returns : goal.returns
returns c =
    no_numbers _ _ _ _ (too_many amount_of _ _ _ _ _ _ _ _ c.loop-n.invariant.1 (omega arith))
