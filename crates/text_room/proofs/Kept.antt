-- A text in its room. Assumes nothing.
use Prim.Native.Nat.{ℕ, ◌≤◌, ◌<◌}
use Rattle.text.proofs.Runs.{room_put}
use Rattle.text_room.specs.Rooms.{kept_in}
use borrow.Author.Tests.{le-leb, lt-leb}
use lib.ListN.{length, replicate}
use lib.Seq.{sets}
use mathlib.Core.List.{List}
use mathlib.Core.Path.{◌≡◌, ◌∙◌}

-- a text that is too long is not kept
pub not_kept : (n : ℕ) (s : List ℕ) → n < length s → replicate n 0 ≡ kept_in n s
unfolding kept_in
not_kept n s h = rw (lt-leb (length s) n h)

-- a text that was put into a room of zeros
pub is_kept : (n : ℕ) (s m : List ℕ) → length s ≤ n → m ≡ sets (replicate n 0) 0 s → m ≡ kept_in n s
unfolding kept_in
is_kept n s m h e = rw (le-leb (length s) n h) (e ∙ room_put n s h)
