-- The arm `_`: past the table's last number there is no kind. Assumes nothing.
use Prim.Native.Nat.{ℕ}
use Rattle.layout.specs.Layouts.{kinds_of, kind_at, no_kind}
use Rattle.layout.specs.declared.Layout.{Layout}
use Rattle.text.proofs.Tables.{Missed, no_entry}
use lib.ListN.{length}
use mathlib.Core.Path.{◌≡◌}

pub no_kind_at : (l : Layout) (k : ℕ) → Missed 1 (length (kinds_of l)) k → no_kind ≡ kind_at l k
unfolding kind_at
no_kind_at l k m = no_entry no_kind (kinds_of l) k m
