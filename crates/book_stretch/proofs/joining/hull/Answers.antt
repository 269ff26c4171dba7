use Prim.Native.Nat.{min}
use Rattle.book_stretch.proofs.Arms.{start_first, start_own, end_last, end_own}
use Rattle.book_stretch.specs.Stretches.{stretch}
use borrow.Author.Rules.{rules}
use mathlib.Core.Path.{◌≡◌}
use Rattle.book_stretch.proofs.joining.hull.Goals as goal
use Rattle.book_stretch.proofs.joining.hull.Goals.{else-c-h, then-c-h}

pub returns-then-h-c : goal.returns-then-h-c
returns-then-h-c c =
    let start_chosen : c.if-c-h.h ≡ stretch (min c.args.s.from c.args.c.from) c.args.s.to = elim c.if-c-h.branch [ then-c-h w ↦ search (start_first, rules) | else-c-h w ↦ search (start_own, rules) ] in
    search (end_last, start_chosen, rules)

pub returns-else-h-c : goal.returns-else-h-c
returns-else-h-c c =
    let start_chosen : c.if-c-h.h ≡ stretch (min c.args.s.from c.args.c.from) c.args.s.to = elim c.if-c-h.branch [ then-c-h w ↦ search (start_first, rules) | else-c-h w ↦ search (start_own, rules) ] in
    search (end_own, start_chosen, rules)
