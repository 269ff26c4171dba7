use Prim.Native.Nat.{ℕ}
use Rattle.text.proofs.Cuts.{starts_short, starts_same}
use Rattle.text.specs.Bytes.{same}
use borrow.Author.Tests.{lt-leb}
use lib.ListN.{length, take}
use lib.Seq.{take-length}
use mathlib.Core.List.{List}
use mathlib.Core.Path.{sym, ap, ◌∙◌}
use Rattle.text.proofs.scan.starts.Goals as goal

-- It begins with a text where as many first bytes as the text has are the same.
pub returns-then-t-s : goal.returns-then-t-s
returns-then-t-s c =
    let a = c.args in
    c.alike.ensures
    ∙ ap (λ (l : List ℕ). same l (take (length a.t.now) a.s.now)) (take-length a.t.now)
    ∙ sym (starts_same a.t.now a.s.now)

pub returns-else-t-s : goal.returns-else-t-s
returns-else-t-s c = lt-leb _ _ c.if-t-s.false ∙ starts_short _ _ c.if-t-s.false
