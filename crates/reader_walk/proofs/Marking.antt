-- One line more, as the code does it: the cases of `noted_of` and `frame_of`. Assumes nothing.
use Prim.Native.Nat.{ℕ, ◌+◌, ◌-◌, ◌*◌, ◌/◌, ◌%◌, ◌^◌, ◌≤◌, ◌<◌}
use Rattle.text_lines.proofs.Bits.{one_shl}
use Rattle.text_lines.specs.declared.Span.{Span}
use Rattle.reader_walk.specs.State.{noted, noted_of, frame, frame_of}
use Rattle.reader_walk.specs.declared.Frame.{Frame}
use Rattle.reader_walk.specs.declared.Marks.{Marks}
use borrow.Author.Tests.{eq-eqb, ne_eqb}
use lib.Dec.{eqb}
use lib.Pow.{pow-lt}
use mathlib.Core.Bool.{false, cond}
use mathlib.Core.Path.{◌≡◌}
use native.Mathlib.Omega.{arith}

-- ---- the marks

module _ (m : Marks) (k : ℕ) where
  pub note_none : k ≡ 0 → noted 0 m.seen m.again ≡ noted_of m k
  unfolding noted_of
  note_none z = rw (eq-eqb k 0 z)

  pub note_again : (k ≡ 0 → ⊥) → m.seen / 2 ^ (k - 1) % 2 ≡ 1 → (again : ℕ) → again ≡ cond (eqb m.again 0) k m.again
      → noted 0 m.seen again ≡ noted_of m k
  unfolding noted_of
  note_again z h again e = rw (ne_eqb k 0 z, eq-eqb (m.seen / 2 ^ (k - 1) % 2) 1 h, e)

  pub note_new : (k ≡ 0 → ⊥) → k ≤ 26 → (m.seen / 2 ^ (k - 1) % 2 ≡ 1 → ⊥)
      → noted k (m.seen + 1 * 2 ^ (k - 1) % 2 ^ 32) m.again ≡ noted_of m k
  unfolding noted_of
  note_new z l h =
      let b : k - 1 < 32 = omega arith in
      rw (ne_eqb k 0 z, ne_eqb (m.seen / 2 ^ (k - 1) % 2) 1 h, one_shl (k - 1) b)

  -- the sum fits
  pub note_fits : (k ≡ 0 → ⊥) → k ≤ 26 → m.seen < 67108864 → m.seen + 1 * 2 ^ (k - 1) % 2 ^ 32 < 2 ^ 32
  note_fits z l h =
      let b : k - 1 < 32 = omega arith in
      let c : k - 1 < 26 = omega arith in
      rw (one_shl (k - 1) b) (omega (arith, pow-lt c))

-- ---- the frame

module _ (f : Frame) (p : Span) where
  pub frame_row : f.seps ≡ 1 → (row : Span) → row ≡ cond (eqb f.inside 0) p f.row
      → frame f.seps (f.inside + 1) row ≡ frame_of f false p
  unfolding frame_of
  frame_row e row r = rw (eq-eqb f.seps 1 e, r)

  pub frame_out : (f.seps ≡ 1 → ⊥) → f ≡ frame_of f false p
  unfolding frame_of
  frame_out e = rw (ne_eqb f.seps 1 e)
