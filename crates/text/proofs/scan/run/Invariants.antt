use Prim.Native.Nat.{◌≤◌}
use Rattle.std.specs.Slice.Iter.{chunks_exact_rest, chunks_exact_size}
use Rattle.text.specs.Bytes.{skip}
use lib.ListN.{length, drop}
use mathlib.Core.Path.{◌≡◌}
use Rattle.text.proofs.scan.run.Given as goal

-- All before n passes, so the whole and the rest come to the same once what passes is skipped.
abbrev pub invariant-loop-eight : goal.invariant-loop-eight
invariant-loop-eight g l =
    record {
      next : (goal.iterator-loop-eight g).can_next l.eight-iterator;
      ends : (goal.iterator-loop-eight g).is_finite l.eight-iterator;
      size : chunks_exact_size l.eight-iterator ≡ 8;
      rest : chunks_exact_rest l.eight-iterator ≡ drop l.n l.s;
      within : l.n ≤ length l.s;
      skips : skip (g.T.ByteTest.passes l.test) l.s ≡ skip (g.T.ByteTest.passes l.test) (drop l.n l.s);
    }
