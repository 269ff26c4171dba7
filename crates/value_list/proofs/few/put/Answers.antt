use Prim.Native.Nat.{◌+◌, ◌≤◌}
use Rattle.value_list.proofs.Lines.{held_at}
use Rattle.value_list.proofs.Puts.{begin_put, same_room, next_put, all_put, none_put, place_near}
use Rattle.value_list.specs.Forms.{list_of, numbers_text}
use Rattle.value_number.proofs.RoundTrip.{number_short}
use Rattle.value_number.specs.Number.{number_text}
use Rattle.text.proofs.Runs.{puts, puts_of}
use borrow.Author.Rules.{rules}
use lib.IntN.{pos}
use lib.ListN.{length-drop, get_or}
use mathlib.Core.Path.{◌≡◌, refl, sym, ◌∙◌}
use mir.Syntax.{w32}
use mir.Val.{to_z, of_z}
use mir.ValLaws.{to_z-of_z}
use native.Mathlib.Omega.{arith}
use Rattle.value_list.proofs.few.put.Goals as goal

pub returns-then-n-eq0 : goal.returns-then-n-eq0
unfolding numbers_text
returns-then-n-eq0 c =
    none_put number_text c.args.sep (list_of c.args.x) c.args.out.now c.args.at (sym c.held-n.ensures.0 ∙ c.if-n-eq0.true)

pub loop-i-init : goal.loop-i-init
loop-i-init c = begin_put number_text _ _ _ _

pub put_byte-q-requires : goal.put_byte-q-requires
put_byte-q-requires c =
    let near : c.loop-i.p ≤ c.args.at + 51 = let x = c.args.x in
    omega (
      arith,
      place_near number_text c.args.sep 12 number_short c.loop-i.invariant,
      length-drop 1 (list_of x),
      c.held-n.ensures,
      c.put-p.ensures.0,
      number_short (to_z w32 (of_z w32 x.first)),
    ) in
    let n = near in search rules

pub put-p-requires-in-loop-i : goal.put-p-requires-in-loop-i
put-p-requires-in-loop-i c =
    let near : c.loop-i.p ≤ c.args.at + 51 = let x = c.args.x in
    omega (
      arith,
      place_near number_text c.args.sep 12 number_short c.loop-i.invariant,
      length-drop 1 (list_of x),
      c.held-n.ensures,
      c.put-p.ensures.0,
      number_short (to_z w32 (of_z w32 x.first)),
    ) in
    let n = near in search rules

pub loop-i-preserved : goal.loop-i-preserved
loop-i-preserved c =
    let at_next : to_z w32 (of_z w32 c.nth.result) ≡ get_or (list_of c.args.x) c.loop-i.i (pos 0) = to_z-of_z w32 c.nth.result (record { sfits = c.nth.type_inv }) ∙ c.nth.ensures
    ∙ held_at c.args.x c.loop-i.i (omega (
      arith,
      c.loop-i-test.true,
      c.held-n.ensures,
    )) in
    let h = c.held-n.ensures in
    next_put number_text _ (pos 0) _ c.loop-i.invariant at_next (omega arith) (puts_of 1 refl c.put_byte-q.ensures) (puts c.put-p-in-loop-i.ensures)

pub shape_of-out : goal.shape_of-out
shape_of-out c = let k = same_room _ _ c.loop-i.invariant in search rules

pub returns : goal.returns
unfolding numbers_text
returns c =
    let at_first : to_z w32 (of_z w32 c.args.x.first) ≡ get_or (list_of c.args.x) 0 (pos 0) = let x = c.args.x in
    to_z-of_z w32 x.first (search rules) ∙ held_at x 0 (omega (arith, c.held-n.ensures, c.if-n-eq0.false)) in
    let h = c.held-n.ensures in
    all_put number_text _ (pos 0) _ at_first (omega (arith, c.if-n-eq0.false)) (puts c.put-p.ensures)
    c.loop-i.invariant (omega arith)
