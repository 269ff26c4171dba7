-- An order put in at a place, as a move by one of those from there on and a store. Assumes nothing.
use Prim.Native.Nat.{ℕ, suc, ◌+◌, ◌-◌, ◌≤◌, ◌<◌}
use Rattle.book_shelf.specs.Shelf.{thing, put_in}
use Rattle.std.proofs.lemmas.List.{drop-take}
use lib.ListN.{length, take, drop, set}
use lib.Seq.{paste, take-suc, set_at, append_snoc, length-take-le}
use mathlib.Core.List.{List, ◌++◌, append_assoc}
use mathlib.Core.Path.{◌≡◌, sym}
use native.Mathlib.Numerals.{add-one}
use native.Mathlib.Omega.{arith}

pub put_moved : {A : Type 0} (past : A) (at count : ℕ) (o : A) (l m : List A) → at ≤ count → count < length l → m ≡ paste l (at + 1) (drop at l) (count - at)
    → set m at o ≡ put_in at count o l
unfolding put_in
put_moved past at count o l m h c e =
    let n : at + (count - at) ≡ count = omega (arith, h) in
    let rest : take (count - at) (drop at l) ≡ drop at (take count l) = rw n at (sym (drop-take at (count - at) l)) in
    let end : at + 1 + (count - at) ≡ suc count = omega (arith, h) in
    rw (e, rest, end, add-one at, append_assoc, take-suc l at past (omega (arith, h, c)), append_snoc)
    (set_at (take at l) (thing past at l) (drop at (take count l) ++ drop (suc count) l) o at (length-take-le at l (omega (arith, h, c))))
