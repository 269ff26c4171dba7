use Rattle.text.proofs.Cuts.{same_lengths}
use Rattle.text.specs.Bytes.{same}
use borrow.Author.Tests.{ne_eqb}
use lib.ListN.{length}
use lib.Seq.{take_all, take-length}
use mathlib.Core.Path.{ap₂, ◌∙◌}
use native.Mathlib.Omega.{arith}
use Rattle.text.proofs.scan.same.Goals as goal

-- Of one length, they are the same where as many first bytes of both are.
pub returns-then-a-b : goal.returns-then-a-b
returns-then-a-b c =
    let a = c.args in
    c.alike.ensures ∙ ap₂ same (take-length a.a.now) (take_all (length a.a.now) a.b.now (omega arith))

pub returns-else-a-b : goal.returns-else-a-b
returns-else-a-b c = ne_eqb _ _ c.if-a-b.false ∙ same_lengths _ _ c.if-a-b.false
