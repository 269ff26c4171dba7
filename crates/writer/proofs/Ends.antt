-- The ends of a write: written, no room, refused. Assumes nothing.
use Prim.Native.Nat.{ℕ, ◌+◌, ◌-◌, ◌≤◌, ◌<◌}
use Rattle.record.specs.declared.Record.{Record}
use Rattle.text.proofs.Runs.{none_put}
use Rattle.text.specs.Puts.{buffer_of, Puts}
use Rattle.record_check.specs.Validity.{is_valid}
use Rattle.writer.specs.Writer.{fitted, write_of, left_by}
use Rattle.writer.specs.Writer.{Written}
use Rattle.writer.specs.Writer.Written.{Length, Refused}
use Rattle.writer_form.specs.Written.{file_of}
use borrow.Author.Tests.{le-leb, lt-leb}
use lib.ListN.{length, drop, take, drop_of_length-le}
use lib.Seq.{sets, sets-eq, length-take-le}
use mathlib.Core.Bool.{true, false}
use mathlib.Core.List.{List, [], ◌++◌, append-nil}
use mathlib.Core.Path.{◌≡◌, refl, ap, ◌∙◌}
use native.Mathlib.Omega.{arith}

-- ---- a text, put at the front of the output

module _ (t out : List ℕ) where
  abbrev pub Put : Written → List ℕ → Type 0
  Put w m = (w ≡ fitted t (length out)) × (m ≡ buffer_of out 0 t)

  pub put_end : (n : ℕ) (m : List ℕ) → Puts out 0 t n m → length t ≤ length out → Put (Length n) m
  unfolding fitted buffer_of
  put_end n m p h =
      let z : 0 + length t ≤ length out = omega arith in
      rw (le-leb (length t) (length out) h, le-leb (0 + length t) (length out) z) (ap Length (omega (arith, p.0)), p.1 ∙ sets-eq t out 0 z)

  -- the length was asked on an empty part, which came back as it was
  module _ (n : ℕ) (m : List ℕ) (first : Puts [] 0 t n m) where
    part_back : m ++ out ≡ out
    part_back = rw (first.1, none_put 0 t)

    pub full_end : length out < n → Put (Refused 11 n) (m ++ out)
    unfolding fitted buffer_of
    full_end h =
        let e = part_back in
        let g : length out < length t = omega (arith, first.0) in
        let z : length out < 0 + length t = omega arith in
        rw (lt-leb (length t) (length out) g, lt-leb (0 + length t) (length out) z) (ap (Refused 11) (omega (arith, first.0)), e)

    -- as many bytes as the text has are written whole
    whole : length t ≤ length out → sets (take (length t) out) 0 t ≡ t
    whole h =
        let k : length (take (length t) out) ≡ length t = length-take-le (length t) out h in
        let z : 0 + length t ≤ length (take (length t) out) = omega (arith, k) in
        let o : length (take (length t) out) ≤ 0 + length t = omega (arith, k) in
        sets-eq t (take (length t) out) 0 z ∙ rw (drop_of_length-le (take (length t) out) o) (append-nil t)

    pub roomy_end : n ≤ length out → (k : ℕ) (m₂ : List ℕ) → Puts (take (n - 0) (m ++ out)) 0 t k m₂ → Put (Length k) (m₂ ++ drop (n - 0) (m ++ out))
    unfolding fitted buffer_of
    roomy_end h k m₂ p =
        let e = part_back in
        let n_is : n - 0 ≡ length t = omega (arith, first.0) in
        let g : length t ≤ length out = omega (arith, first.0) in
        let z : 0 + length t ≤ length out = omega arith in
        let o : 0 + length t ≡ length t = omega arith in
        let put : m₂ ≡ t = rw (n_is, e) at p.1 ∙ whole g in
        rw (le-leb (length t) (length out) g, le-leb (0 + length t) (length out) z, n_is, e, put, o) (ap Length (omega (arith, p.0)), refl)

-- ---- the writer

module _ (r : Record) (out : List ℕ) where
  abbrev Wrote : Written → List ℕ → Type 0
  Wrote w m = (w ≡ write_of r (length out)) × (m ≡ left_by r out)

  pub invalid_end : is_valid r ≡ false → Wrote (Refused 12 0) out
  unfolding write_of left_by
  invalid_end e = rw e (refl, refl)

  pub valid_end : is_valid r ≡ true → (w : Written) (m : List ℕ) → Put (file_of r) out w m → Wrote w m
  unfolding write_of left_by
  valid_end e w m p = rw e p
