use Rattle.value.specs.declared.Shape.TheVariants.{IsId, IsUnit, IsWhen, IsAmount, IsCount, IsReason, IsNote, IsTriples, IsVoltage, IsRegulator, IsChange, IsReactive}
use Rattle.value_fits.proofs.ByNumber.{same_number, other_type, other_shape}
use Rattle.value_fits.specs.Fits.{fits}
use borrow.Author.Rules.{rules}
use mathlib.Core.Path.{◌≡◌, refl}
use mir.Syntax.{w32}
use mir.ValLaws.{to_z-of_z}
use Rattle.value_fits.proofs.fits.Goals as goal

pub returns-in-Blank : goal.returns-in-Blank
unfolding fits
returns-in-Blank c = rw c.in-Blank.is

pub returns-then-eq : goal.returns-then-eq
unfolding fits
returns-then-eq c =
    let is : c.args.s ≡ IsId c.args.t = search rules in
    rw (c.in-Id.is, is, same_number c.args.t)

pub returns-else-eq : goal.returns-else-eq
unfolding fits
returns-else-eq c =
    let other : c.args.s ≡ IsId c.args.t → ⊥ = λ e. search rules in
    rw (c.in-Id.is, other_type c.args.s c.args.t other) c.if-eq.false

pub returns-then-eq-2 : goal.returns-then-eq-2
unfolding fits
returns-then-eq-2 c =
    let is : c.args.s ≡ IsUnit = search rules in
    rw (c.in-Unit.is, is, c.is_unit.ensures)

pub returns-else-eq-2 : goal.returns-else-eq-2
unfolding fits
returns-else-eq-2 c =
    let other : c.args.s ≡ IsUnit → ⊥ = λ e. search rules in
    rw (c.in-Unit.is, other_shape c.args.s 1 refl other) c.if-eq-2.false

pub returns-then-eq-3 : goal.returns-then-eq-3
unfolding fits
returns-then-eq-3 c =
    let is : c.args.s ≡ IsWhen = search rules in
    rw (c.in-When.is, is, c.is_real.ensures)

pub returns-else-eq-3 : goal.returns-else-eq-3
unfolding fits
returns-else-eq-3 c =
    let other : c.args.s ≡ IsWhen → ⊥ = λ e. search rules in
    rw (c.in-When.is, other_shape c.args.s 2 refl other) c.if-eq-3.false

pub returns-then-eq-4 : goal.returns-then-eq-4
unfolding fits
returns-then-eq-4 c =
    let is : c.args.s ≡ IsAmount = search rules in
    rw (c.in-Amount.is, is, c.is_amount.ensures, to_z-of_z w32 c.in-Amount.x (search rules))

pub returns-else-eq-4 : goal.returns-else-eq-4
unfolding fits
returns-else-eq-4 c =
    let other : c.args.s ≡ IsAmount → ⊥ = λ e. search rules in
    rw (c.in-Amount.is, other_shape c.args.s 3 refl other) c.if-eq-4.false

pub returns-then-eq-5 : goal.returns-then-eq-5
unfolding fits
returns-then-eq-5 c =
    let is : c.args.s ≡ IsCount = search rules in
    rw (c.in-Count.is, is)

pub returns-else-eq-5 : goal.returns-else-eq-5
unfolding fits
returns-else-eq-5 c =
    let other : c.args.s ≡ IsCount → ⊥ = λ e. search rules in
    rw (c.in-Count.is, other_shape c.args.s 4 refl other) c.if-eq-5.false

pub returns-then-eq-6 : goal.returns-then-eq-6
unfolding fits
returns-then-eq-6 c =
    let is : c.args.s ≡ IsReason = search rules in
    rw (c.in-Reason.is, is, c.is_kept.ensures)

pub returns-else-eq-6 : goal.returns-else-eq-6
unfolding fits
returns-else-eq-6 c =
    let other : c.args.s ≡ IsReason → ⊥ = λ e. search rules in
    rw (c.in-Reason.is, other_shape c.args.s 5 refl other) c.if-eq-6.false

pub returns-then-eq-7 : goal.returns-then-eq-7
unfolding fits
returns-then-eq-7 c =
    let is : c.args.s ≡ IsNote = search rules in
    rw (c.in-Note.is, is, c.is_kept-then-eq-7.ensures)

pub returns-else-eq-7 : goal.returns-else-eq-7
unfolding fits
returns-else-eq-7 c =
    let other : c.args.s ≡ IsNote → ⊥ = λ e. search rules in
    rw (c.in-Note.is, other_shape c.args.s 6 refl other) c.if-eq-7.false

pub returns-then-eq-8 : goal.returns-then-eq-8
unfolding fits
returns-then-eq-8 c =
    let is : c.args.s ≡ IsTriples = search rules in
    rw (c.in-Triples.is, is, c.are_listed-then-eq-8.ensures)

pub returns-else-eq-8 : goal.returns-else-eq-8
unfolding fits
returns-else-eq-8 c =
    let other : c.args.s ≡ IsTriples → ⊥ = λ e. search rules in
    rw (c.in-Triples.is, other_shape c.args.s 10 refl other) c.if-eq-8.false

pub returns-then-eq-9 : goal.returns-then-eq-9
unfolding fits
returns-then-eq-9 c =
    let is : c.args.s ≡ IsVoltage = search rules in
    rw (c.in-Voltage.is, is, c.is_amount-then-eq-9.ensures, to_z-of_z w32 c.in-Voltage.x.0 (search rules))

pub returns-else-eq-9 : goal.returns-else-eq-9
unfolding fits
returns-else-eq-9 c =
    let other : c.args.s ≡ IsVoltage → ⊥ = λ e. search rules in
    rw (c.in-Voltage.is, other_shape c.args.s 11 refl other) c.if-eq-9.false

pub returns-then-eq-10 : goal.returns-then-eq-10
unfolding fits
returns-then-eq-10 c =
    let is : c.args.s ≡ IsRegulator = search rules in
    rw (c.in-Regulator.is, is, c.is_amount-then-eq-10.ensures, to_z-of_z w32 c.in-Regulator.x.0 (search rules))

pub returns-else-eq-10 : goal.returns-else-eq-10
unfolding fits
returns-else-eq-10 c =
    let other : c.args.s ≡ IsRegulator → ⊥ = λ e. search rules in
    rw (c.in-Regulator.is, other_shape c.args.s 12 refl other) c.if-eq-10.false

pub returns-then-eq-11 : goal.returns-then-eq-11
unfolding fits
returns-then-eq-11 c =
    let is : c.args.s ≡ IsChange = search rules in
    rw (c.in-Change.is, is, c.is_amount-then-eq-11.ensures, to_z-of_z w32 c.in-Change.x.0 (search rules))

pub returns-else-eq-11 : goal.returns-else-eq-11
unfolding fits
returns-else-eq-11 c =
    let other : c.args.s ≡ IsChange → ⊥ = λ e. search rules in
    rw (c.in-Change.is, other_shape c.args.s 13 refl other) c.if-eq-11.false

pub returns-then-eq-12 : goal.returns-then-eq-12
unfolding fits
returns-then-eq-12 c =
    let is : c.args.s ≡ IsReactive = search rules in
    rw (c.in-Reactive.is, is, c.is_amount-then-eq-12.ensures, to_z-of_z w32 c.in-Reactive.x.0 (search rules))

pub returns-else-eq-12 : goal.returns-else-eq-12
unfolding fits
returns-else-eq-12 c =
    let other : c.args.s ≡ IsReactive → ⊥ = λ e. search rules in
    rw (c.in-Reactive.is, other_shape c.args.s 14 refl other) c.if-eq-12.false

pub returns-in-Word : goal.returns-in-Word
unfolding fits
returns-in-Word c = rw (c.in-Word.is, c.is_among.ensures)

pub returns-in-List : goal.returns-in-List
unfolding fits
returns-in-List c = rw (c.in-List.is, c.are_listed.ensures, c.fewest.ensures, c.most.ensures)
