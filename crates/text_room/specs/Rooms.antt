-- A text kept in a room of fixed size. Document 01, "Written form": unused room in a record is zero.
use Rattle.std.specs.Prelude.{ℕ, leb, length, replicate, cond, List}
use Rattle.text.specs.Puts.{room_of}

-- in a room of n bytes: the unused room is zero, and a text that is too long is not kept
unfoldable pub kept_in : ℕ → List ℕ → List ℕ
kept_in n s = cond (leb (length s) n) (room_of n s) (replicate n 0)
