-- The six lines are put into a room of their own, and the front of it into the output where there is room. Assumes nothing.
use Rattle.std.specs.Prelude.{Ok, Err}
use Rattle.refusal.specs.declared.Refusal.TheVariants.{NoRoom}
use Prim.Native.Nat.{ℕ, ◌+◌, ◌≤◌, ◌<◌}
use Rattle.report_brief.proofs.Sizes.{six_of_lem}
use Rattle.report_brief.specs.Brief.{six_of}
use Rattle.report_brief.specs.declared.Brief.{Brief}
use Rattle.text.specs.Puts.{wrote_of, buffer_of}
use borrow.Author.Tests.{le-leb, lt-leb}
use lib.ListN.{length, take, drop, replicate, length-replicate}
use lib.Seq.{sets, sets-eq, take-append_seam}
use mathlib.Core.List.{List}
use mathlib.Core.Path.{◌≡◌, refl, ap, ap₂, ◌∙◌}
use native.Mathlib.Omega.{arith}

-- what was put at the front of a room of 89 bytes is the front of it
front_put : (t part room : List ℕ) (n : ℕ) → n ≤ 89 → n ≡ 0 + length t → room ≡ sets (replicate 89 0) 0 t → part ≡ take n room → part ≡ t
front_put t part room n h e f g =
    let z : 0 + length t ≤ length {A = ℕ} (replicate 89 0) = omega (arith, h, e, length-replicate {A = ℕ} 89 0) in
    let k : n ≡ length t = omega (arith, e) in
    g ∙ ap₂ (λ (i : ℕ) (l : List ℕ). take i l) k (f ∙ sets-eq t (replicate 89 0) 0 z) ∙ take-append_seam t (drop (0 + length t) (replicate 89 0))

module _ (b : Brief) (sized : length b.unit ≡ 16) (out : List ℕ) (n : ℕ) (size : n ≡ 0 + length (six_of b)) where
  pub no_room : length out < n → (Err (NoRoom n) ≡ wrote_of out 0 (six_of b)) × (out ≡ buffer_of out 0 (six_of b))
  unfolding wrote_of buffer_of
  no_room h =
      let k : n ≡ length (six_of b) = omega (arith, size) in
      let g : length out < 0 + length (six_of b) = omega (arith, h, size) in
      rw (k, lt-leb (0 + length (six_of b)) (length out) g) (refl, refl)

  pub written : (room part out₂ : List ℕ) (r : ℕ) → n ≤ length out → room ≡ sets (replicate 89 0) 0 (six_of b) → part ≡ take n room
      → (r ≡ 0 + length part) × (out₂ ≡ sets out 0 part) → (Ok r ≡ wrote_of out 0 (six_of b)) × (out₂ ≡ buffer_of out 0 (six_of b))
  unfolding wrote_of buffer_of
  written room part out₂ r h f p e =
      let t = six_of b in
      let same : part ≡ t = front_put t part room n (omega (arith, size, six_of_lem b sized)) size f p in
      let z : 0 + length t ≤ length out = omega (arith, h, size) in
      let place : r ≡ 0 + length t = e.0 ∙ ap (λ (l : List ℕ). 0 + length l) same in
      rw (place, le-leb (0 + length t) (length out) z) (refl, e.1 ∙ ap (λ (l : List ℕ). sets out 0 l) same ∙ sets-eq t out 0 z)
