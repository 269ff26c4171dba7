-- Bytes as one number, the first byte the lowest, and the bytes of a number: what one load and one store move. Shown once, over the number of bytes.
use Rattle.std.specs.Prelude.{ℕ, zero, suc, ◌+◌, ◌*◌, ◌/◌, ◌%◌, List, [], ◌∷◌}

-- the number of some bytes
unfoldable pub word_of : List ℕ → ℕ
word_of [] = 0
word_of (b ∷ s) = b + word_of s * 256

-- the k lowest bytes of a number
unfoldable pub bytes_of : ℕ → ℕ → List ℕ
bytes_of zero w = []
bytes_of (suc k) w = w % 256 ∷ bytes_of k (w / 256)
