use Rattle.layout.proofs.Labels.{few}
use Rattle.layout.specs.Layouts.{size_of}
use Rattle.reader.proofs.Going.{stops, goes_on, ends}
use Rattle.reader_fill.proofs.Steps.{Head, start}
use Rattle.record.specs.declared.Cell.{Cell}
use mathlib.Core.List.{List}
use mathlib.Core.Path.{refl, sym, subst}
use native.Mathlib.Omega.{arith}
use Rattle.reader.proofs.fill.Goals as goal

pub loop-k-init : goal.loop-k-init
loop-k-init c =
    let a = c.args in
    subst (λ (cells : List Cell). Head a.l a.file.now a.places.now (size_of a.l) 0 cells) (sym c.requires.blank)
    (record { n_is = refl; room = refl; placed = c.requires.placed; sofar = start _ _ })

pub offset_bounds-places-k : goal.offset_bounds-places-k
offset_bounds-places-k c = let h = few c.args.l in record { fits = omega (arith, h) }

pub bounds-places-k : goal.bounds-places-k
bounds-places-k c = let h = few c.args.l in omega (arith, h)

pub value_in-requires : goal.value_in-requires
value_in-requires c =
    let p = c.requires.placed in
    (p.ordered _ (omega arith) (omega arith), p.inside _ (omega arith) (omega arith))

pub returns-in_default-clause-first_bad : goal.returns-in_default-clause-first_bad
returns-in_default-clause-first_bad c =
    (stops _ _ _ _ c.requires.gradients _ _ _ c.loop-k.invariant (omega arith) _ c.value_in.ensures c.in_default.is).0

pub returns-in_default-clause-filled : goal.returns-in_default-clause-filled
returns-in_default-clause-filled c =
    (stops _ _ _ _ c.requires.gradients _ _ _ c.loop-k.invariant (omega arith) _ c.value_in.ensures c.in_default.is).1

pub offset_bounds-cells-k : goal.offset_bounds-cells-k
offset_bounds-cells-k c = let h = few c.args.l in record { fits = omega (arith, h) }

pub bounds-cells-k : goal.bounds-cells-k
bounds-cells-k c = let h = few c.args.l in omega (arith, h, c.loop-k.invariant.room)

pub loop-k-preserved : goal.loop-k-preserved
loop-k-preserved c =
    goes_on _ _ _ _ c.requires.gradients _ _ _ c.loop-k.invariant (omega arith) _ c.value_in.ensures _ c.in-Some.is

pub returns-clause-first_bad : goal.returns-clause-first_bad
returns-clause-first_bad c = (ends _ _ _ _ c.requires.gradients _ _ _ c.loop-k.invariant (omega arith)).0

pub returns-clause-filled : goal.returns-clause-filled
returns-clause-filled c = (ends _ _ _ _ c.requires.gradients _ _ _ c.loop-k.invariant (omega arith)).1
