use Rattle.value_name.specs.Types.{code_of}
use mathlib.Core.Path.{sym, ap}
use Rattle.value_name.proofs.code.Goals as goal

pub returns-in-Cb : goal.returns-in-Cb
returns-in-Cb c = ap code_of (sym c.in-Cb.is)

pub returns-in-Rc : goal.returns-in-Rc
returns-in-Rc c = ap code_of (sym c.in-Rc.is)

pub returns-in-Mg : goal.returns-in-Mg
returns-in-Mg c = ap code_of (sym c.in-Mg.is)

pub returns-in-Eb : goal.returns-in-Eb
returns-in-Eb c = ap code_of (sym c.in-Eb.is)

pub returns-in-Lb : goal.returns-in-Lb
returns-in-Lb c = ap code_of (sym c.in-Lb.is)

pub returns-in-Sr : goal.returns-in-Sr
returns-in-Sr c = ap code_of (sym c.in-Sr.is)

pub returns-in-Vq : goal.returns-in-Vq
returns-in-Vq c = ap code_of (sym c.in-Vq.is)

pub returns-in-Ri : goal.returns-in-Ri
returns-in-Ri c = ap code_of (sym c.in-Ri.is)

pub returns-in-Qr : goal.returns-in-Qr
returns-in-Qr c = ap code_of (sym c.in-Qr.is)
