-- The ways through the readers of a unit: each test decided as the code decides it. Assumes nothing.
use Prim.Native.Nat.{ℕ, zero, suc, ◌+◌, ◌-◌, ◌<◌}
use Rattle.transfer_unit.specs.Units.{octet, three, is_ours, file_ready, section_ready, segment, last_of, told_by}
use Rattle.transfer_unit.specs.declared.Told.{Told}
use Rattle.transfer_unit.specs.declared.Told.TheVariants.{FileReady, SectionReady, Segment, LastSegment, LastSection, Other}
use borrow.Author.Tests.{eq-eqb, ne_eqb}
use lib.Dec.{eqb, leb}
use lib.ListN.{length, get_or, get_or-eq_default}
use mathlib.Core.Bool.{Bool, true, false, ◌&&◌}
use mathlib.Core.List.{List}
use mathlib.Core.Path.{◌≡◌, refl, sym}
use native.Mathlib.Omega.{arith}

-- ---- an octet

pub octet_none : (s : List ℕ) (k : ℕ) → length s < k → 0 ≡ octet s k
octet_none s zero h = absurd (omega arith)
octet_none s (suc k) h = sym (get_or-eq_default s 0 (omega arith))

pub octet_some : (s : List ℕ) (k : ℕ) → (k ≡ 0 → ⊥) → get_or s (k - 1) 0 ≡ octet s k
octet_some s zero h = absurd (h refl)
octet_some s (suc k) h = let e : suc k - 1 ≡ k = omega arith in rw e

module _ (s : List ℕ) where
  -- ---- file ready and section ready: the length, and the qualifier q

  module _ (q : ℕ) (qualifier : q ≡ octet s 15) where
    pub file_is : (eqb (length s) 15 && eqb q 0) ≡ true → (n : ℕ) → n ≡ three s 12 → FileReady n ≡ file_ready s
    unfolding file_ready
    file_is t n e = rw (← qualifier, t, e)

    pub file_not : (eqb (length s) 15 && eqb q 0) ≡ false → Other ≡ file_ready s
    unfolding file_ready
    file_not t = rw (← qualifier, t)

  module _ (q : ℕ) (qualifier : q ≡ octet s 16) where
    pub section_is : (eqb (length s) 16 && eqb q 0) ≡ true → (i n : ℕ) → i ≡ octet s 12 → n ≡ three s 13 → SectionReady i n ≡ section_ready s
    unfolding section_ready
    section_is t i n e f = rw (← qualifier, t, e, f)

    pub section_not : (eqb (length s) 16 && eqb q 0) ≡ false → Other ≡ section_ready s
    unfolding section_ready
    section_not t = rw (← qualifier, t)

  -- ---- a segment of n octets

  module _ (n : ℕ) (size : n ≡ octet s 13) where
    pub segment_is : (leb 1 n && eqb (length s) (13 + n)) ≡ true → (i : ℕ) → i ≡ octet s 12 → Segment i n ≡ segment s
    unfolding segment
    segment_is t i e = rw (← size, t, e)

    pub segment_not : (leb 1 n && eqb (length s) (13 + n)) ≡ false → Other ≡ segment s
    unfolding segment
    segment_not t = rw (← size, t)

  -- ---- the last of a section, and of the file: the length, and the qualifier q

  pub last_length : (length s ≡ 14 → ⊥) → Other ≡ last_of s
  unfolding last_of
  last_length h = rw (ne_eqb (length s) 14 h)

  module _ (long : length s ≡ 14) (q : ℕ) (qualifier : q ≡ octet s 13) where
    pub last_segment : q ≡ 3 → (i k : ℕ) → i ≡ octet s 12 → k ≡ octet s 14 → LastSegment i k ≡ last_of s
    unfolding last_of
    last_segment h i k e f = rw (eq-eqb (length s) 14 long, ← qualifier, h, e, f)

    pub last_section : q ≡ 1 → (i k : ℕ) → i ≡ octet s 12 → k ≡ octet s 14 → LastSection i k ≡ last_of s
    unfolding last_of
    last_section h i k e f = rw (eq-eqb (length s) 14 long, ← qualifier, h, e, f)

    pub last_other : (Unit {0} × (q ≡ 3 → ⊥)) × (q ≡ 1 → ⊥) → Other ≡ last_of s
    unfolding last_of
    last_other ((u, a), b) = rw (eq-eqb (length s) 14 long, ← qualifier, ne_eqb q 3 a, ne_eqb q 1 b)

  -- ---- any unit: whether it is ours, and its kind k

  module _ (ours : Bool) (are_ours : ours ≡ is_ours s) where
    pub not_ours : ours ≡ false → Other ≡ told_by s
    unfolding told_by
    not_ours h = rw (← are_ours, h)

    module _ (is : ours ≡ true) (k : ℕ) (kind : k ≡ octet s 1) where
      pub is_file : k ≡ 120 → {r : Told} → r ≡ file_ready s → r ≡ told_by s
      unfolding told_by
      is_file h e = rw (← are_ours, is, ← kind, h) e

      pub is_section : k ≡ 121 → {r : Told} → r ≡ section_ready s → r ≡ told_by s
      unfolding told_by
      is_section h e = rw (← are_ours, is, ← kind, h) e

      pub is_last : k ≡ 123 → {r : Told} → r ≡ last_of s → r ≡ told_by s
      unfolding told_by
      is_last h e = rw (← are_ours, is, ← kind, h) e

      pub is_segment : k ≡ 125 → {r : Told} → r ≡ segment s → r ≡ told_by s
      unfolding told_by
      is_segment h e = rw (← are_ours, is, ← kind, h) e

      pub is_none : (((Unit {0} × (k ≡ 120 → ⊥)) × (k ≡ 121 → ⊥)) × (k ≡ 123 → ⊥)) × (k ≡ 125 → ⊥) → Other ≡ told_by s
      unfolding told_by
      is_none ((((u, a), b), d), e) = rw (← are_ours, is, ← kind, ne_eqb k 120 a, ne_eqb k 121 b, ne_eqb k 123 d, ne_eqb k 125 e)
