use mathlib.Core.Path.{◌≡◌}
use lib.ListN.{drop}
use Rattle.plan_row.proofs.Addresses.{over}
use Rattle.std.specs.Slice.Iter.{chunks_exact_rest, chunks_exact_size}
use Rattle.text.specs.Bytes.{is, any}
use Rattle.plan_row.proofs.taken.Given as goal

-- It is one of all where it is one of those that are left, of which no four hold what is looked at last.
abbrev pub invariant-loop-four : goal.invariant-loop-four
invariant-loop-four l =
    (chunks_exact_size l.four-iterator ≡ 4)
    × (any (is l.key) l.keys ≡ any (is l.key) (chunks_exact_rest l.four-iterator))
    × (l.rest ≡ over (chunks_exact_rest l.four-iterator))

abbrev pub invariant-loop-k : goal.invariant-loop-k
invariant-loop-k l = any (is l.key) l.keys ≡ any (is l.key) (drop l.k-index l.rest)
