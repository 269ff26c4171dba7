use Rattle.plan_row.proofs.Codes.{code_is, code_one, no_code}
use Rattle.plan_row.specs.Rows.{type_from}
use Rattle.value_name.specs.declared.MessageType.TheVariants.{Cb, Rc, Mg, Eb, Lb, Sr, Vq, Ri, Qr}
use Rattle.text.specs.Bytes.{same}
use borrow.Author.Tests.{ne_eqb}
use mathlib.Core.Path.{refl, sym}
use Rattle.plan_row.proofs.type_of.Goals as goal

pub returns-in-67 : goal.returns-in-67
unfolding same type_from
returns-in-67 c = code_one _ c.args.b 67 66 Cb c.in-67.is refl c.type_if.ensures

pub returns-in-69 : goal.returns-in-69
unfolding same type_from
returns-in-69 c = code_one _ c.args.b 69 66 Eb c.in-69.is refl c.type_if-in-69.ensures

pub returns-in-76 : goal.returns-in-76
unfolding same type_from
returns-in-76 c = code_one _ c.args.b 76 66 Lb c.in-76.is refl c.type_if-in-76.ensures

pub returns-in-77 : goal.returns-in-77
unfolding same type_from
returns-in-77 c = code_one _ c.args.b 77 71 Mg c.in-77.is refl c.type_if-in-77.ensures

pub returns-in-81 : goal.returns-in-81
unfolding same type_from
returns-in-81 c = code_one _ c.args.b 81 82 Qr c.in-81.is refl c.type_if-in-81.ensures

pub returns-then-b-eq67 : goal.returns-then-b-eq67
unfolding same type_from
returns-then-b-eq67 c = code_is _ _ 82 67 Rc c.in-82.is c.if-b-eq67.true refl

pub returns-else-b-eq67 : goal.returns-else-b-eq67
unfolding same type_from
returns-else-b-eq67 c =
    let b = c.args.b in
    code_one _ b 82 73 Ri c.in-82.is (rw (ne_eqb 67 b (λ h. c.if-b-eq67.false (sym h)))) c.type_if-else-b-eq67.ensures

pub returns-in-83 : goal.returns-in-83
unfolding same type_from
returns-in-83 c = code_one _ c.args.b 83 82 Sr c.in-83.is refl c.type_if-in-83.ensures

pub returns-in-86 : goal.returns-in-86
unfolding same type_from
returns-in-86 c = code_one _ c.args.b 86 81 Vq c.in-86.is refl c.type_if-in-86.ensures

pub returns-in_default : goal.returns-in_default
returns-in_default c = no_code _ _ c.in_default.in_default-own.rest
