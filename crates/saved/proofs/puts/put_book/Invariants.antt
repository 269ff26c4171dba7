use Rattle.saved.proofs.Shelving.{Shelved}
use Rattle.saved.proofs.puts.put_book.Given as goal

-- The lines above, then one loop over the orders: each that the book holds could come.
abbrev pub invariant-loop-i : goal.invariant-loop-i
invariant-loop-i l = Shelved l.initial.out l.initial.p l.b l.count l.i l.p l.out
