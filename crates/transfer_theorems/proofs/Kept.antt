-- A host in C keeps the collector: from a fresh one on, the 16 bytes between two units are its state, and give it back. Assumes nothing.
use Prim.Native.Nat.{ℕ}
use Rattle.transfer.proofs.Small.{state_back, fresh_small, taken_small}
use Rattle.transfer.specs.Collect.{fresh}
use Rattle.transfer.specs.States.{collector_in, state_of, Small}
use Rattle.transfer_theorems.specs.Transfers.{Run, start_of, step_of, after_all, AllOctets}
use mathlib.Core.List.{List, [], ◌∷◌}
use mathlib.Core.Path.{◌≡◌}

small_after : (x : Run) (us : List (List ℕ)) → AllOctets us → Small x.collector → Small (after_all x us).collector
unfolding after_all
small_after x [] o h = h
small_after x (s ∷ us) o h = small_after (step_of x s) us o.1 (taken_small x.collector h s o.0 x.room)

pub state_kept : (room : List ℕ) (us : List (List ℕ)) → AllOctets us
    → collector_in (state_of (after_all (start_of fresh room) us).collector) ≡ (after_all (start_of fresh room) us).collector
state_kept room us o = state_back (after_all (start_of fresh room) us).collector (small_after (start_of fresh room) us o fresh_small)
