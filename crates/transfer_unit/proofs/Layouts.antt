-- What holds of every unit that says something holds of what any unit says: so a segment has the octets that it says, and one at least; and a section is named
-- by an octet. Assumes nothing.
use Prim.Native.Nat.{ℕ, zero, suc, ◌+◌, ◌≤◌, ◌<◌}
use Rattle.text.proofs.Tests.{and_parts, by_test}
use Rattle.transfer_unit.specs.Units.{octet, three, is_ours, file_ready, section_ready, segment, last_of, told_by, octets_of, Octets}
use Rattle.transfer_unit.specs.declared.Told.{Told}
use Rattle.transfer_unit.specs.declared.Told.TheVariants.{FileReady, SectionReady, Segment, LastSegment, LastSection, Other}
use borrow.Author.Tests.{eqb-true, leb-true}
use lib.Dec.{eqb, leb}
use lib.ListN.{length, length-drop}
use mathlib.Core.Bool.{Bool, true, ◌&&◌, cond}
use mathlib.Core.List.{List}
use mathlib.Core.Path.{◌≡◌, sym, subst}
use native.Mathlib.Omega.{arith}

module _ (s : List ℕ) (P : Told → Type 0) (other : P Other) where
  either : (b : Bool) {x y : Told} → (b ≡ true → P x) → P y → P (cond b x y)
  either b {x} {y} f g =
      by_test b (λ e. subst (λ (t : Bool). P (cond t x y)) (sym e) (f e)) (λ e. subst (λ (t : Bool). P (cond t x y)) (sym e) g)

  of_file : P (FileReady (three s 12)) → P (file_ready s)
  unfolding file_ready
  of_file h = either (eqb (length s) 15 && eqb (octet s 15) 0) (λ e. h) other

  of_section : P (SectionReady (octet s 12) (three s 13)) → P (section_ready s)
  unfolding section_ready
  of_section h = either (eqb (length s) 16 && eqb (octet s 16) 0) (λ e. h) other

  of_segment : ((1 ≤ octet s 13) × (length s ≡ 13 + octet s 13) → P (Segment (octet s 12) (octet s 13))) → P (segment s)
  unfolding segment
  of_segment h =
      either (leb 1 (octet s 13) && eqb (length s) (13 + octet s 13))
      (λ e. let p = and_parts (leb 1 (octet s 13)) (eqb (length s) (13 + octet s 13)) e in
      h (leb-true 1 (octet s 13) p.0, eqb-true (length s) (13 + octet s 13) p.1))
      other

  of_last : P (LastSegment (octet s 12) (octet s 14)) → P (LastSection (octet s 12) (octet s 14)) → P (last_of s)
  unfolding last_of
  of_last h k = either (eqb (length s) 14) (λ e. either (eqb (octet s 13) 3) (λ f. h) (either (eqb (octet s 13) 1) (λ f. k) other)) other

  pub told_has : P (FileReady (three s 12)) → P (SectionReady (octet s 12) (three s 13))
      → ((1 ≤ octet s 13) × (length s ≡ 13 + octet s 13) → P (Segment (octet s 12) (octet s 13)))
      → P (LastSegment (octet s 12) (octet s 14)) → P (LastSection (octet s 12) (octet s 14)) → P (told_by s)
  unfolding told_by
  told_has f r g h k =
      either (is_ours s)
      (λ e. either (eqb (octet s 1) 120) (λ e. of_file f)
      (either (eqb (octet s 1) 121) (λ e. of_section r)
      (either (eqb (octet s 1) 123) (λ e. of_last h k)
      (either (eqb (octet s 1) 125) (λ e. of_segment g) other))))
      other

-- ---- a segment's octets

abbrev Long : List ℕ → Told → Type 0
Long s (FileReady n) = Unit {0}
Long s (SectionReady i n) = Unit {0}
Long s (Segment i n) = (1 ≤ n) × (length s ≡ 13 + n)
Long s (LastSegment i k) = Unit {0}
Long s (LastSection i k) = Unit {0}
Long s Other = Unit {0}

told_long : (s : List ℕ) → Long s (told_by s)
told_long s = told_has s (Long s) tt tt tt (λ h. h) tt tt

pub segment_octets : (s : List ℕ) (i n : ℕ) → told_by s ≡ Segment i n → length (octets_of s) ≡ n
segment_octets s i n e = omega (arith, (subst (Long s) e (told_long s)).1, length-drop 13 s)

-- ---- a section's name

pub octet_small : (s : List ℕ) (k : ℕ) → Octets s → octet s k < 256
octet_small s zero h = omega arith
octet_small s (suc k) h = h k

abbrev Named : Told → Type 0
Named (FileReady n) = Unit {0}
Named (SectionReady i n) = Unit {0}
Named (Segment i n) = Unit {0}
Named (LastSegment i k) = i ≤ 255
Named (LastSection i k) = Unit {0}
Named Other = Unit {0}

pub last_named : (s : List ℕ) (i k : ℕ) → Octets s → told_by s ≡ LastSegment i k → i ≤ 255
last_named s i k h e = subst Named e (told_has s Named tt tt tt (λ h. tt) (omega (arith, octet_small s 12 h)) tt)
