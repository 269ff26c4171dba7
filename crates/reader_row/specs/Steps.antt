-- Comparing a part of a file with texts, one after another: where the comparison goes on, or that they differ.
use Rattle.std.specs.Prelude.{ℕ, ◌+◌, length, cond, List, None, Option, Some}
use Rattle.text.specs.Bytes.{part, starts}

-- the bytes from at to end begin with t
unfoldable pub step_of : List ℕ → ℕ → ℕ → List ℕ → Option ℕ
step_of file at end t = cond (starts t (part at end file)) (Some (at + length t)) None
