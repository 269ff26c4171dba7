-- The laws that the four functions cite: the run of bytes that can be printed, what ends a line, a text's place, a separator.
-- Assumes nothing.
use Rattle.std.specs.Prelude.{None, Some}
use Prim.Native.Nat.{ℕ, ◌+◌, ◌-◌, ◌≤◌, ◌<◌}
use Rattle.std.proofs.Math.Bool.{not-not}
use Rattle.text_lines.specs.Lines.{is_sep}
use Rattle.text_lines.specs.Places.{HoldsText, trimmed_at, not_plain, plain_run, break_of}
use Rattle.text_lines.specs.declared.Span.{Span}
use Rattle.text.proofs.Cuts.{drop_step, part_from, part_front, length_part, skip_drop}
use Rattle.text.proofs.Fronts.{run_before}
use Rattle.text.proofs.Trims.{end_take, end_length}
use Rattle.text.specs.Bytes.{part, all, is, is_blank, is_plain, run_of, skip, skip_end, trim}
use borrow.Author.Tests.{ne_eqb}
use lib.Dec.{eqb, leb}
use lib.ListN.{length, get_or, take, drop, drop_of_length-le}
use mathlib.Core.Bool.{true, false, ◌&&◌, and-false}
use mathlib.Core.List.{List, [], ◌∷◌}
use mathlib.Core.Path.{◌≡◌, refl, sym, ap, ap₂, ◌∙◌, subst}
use native.Mathlib.Omega.{arith}

-- ---- the run

-- what can be printed, as what stands before the first byte that cannot
pub run_plain : (s : List ℕ) → run_of is_plain s ≡ plain_run s
run_plain s = run_before is_plain not_plain (λ (x : ℕ). sym (not-not (is_plain x))) s

-- ---- what ends a line

break_feed : (b : ℕ) (cs : List ℕ) → b ≡ 10 → Some 1 ≡ break_of (b ∷ cs)
unfolding break_of
break_feed b [] e = rw e
break_feed b (c ∷ cs) e = rw e

pub break_end : (s : List ℕ) (at : ℕ) → at ≡ length s → Some 0 ≡ break_of (drop at s)
unfolding break_of
break_end s at e = let h : length s ≤ at = omega arith in rw (drop_of_length-le s h)

pub break_line : (s : List ℕ) (at : ℕ) → at ≤ length s → (at ≡ length s → ⊥) → get_or s at 0 ≡ 10 → Some 1 ≡ break_of (drop at s)
break_line s at k n e =
    let h : at < length s = omega arith in
    break_feed (get_or s at 0) (drop (at + 1) s) e ∙ ap break_of (sym (drop_step s at h))

pub break_alone : (s : List ℕ) (at : ℕ) → at + 1 ≡ length s → (get_or s at 0 ≡ 10 → ⊥) → None ≡ break_of (drop at s)
unfolding break_of
break_alone s at e n =
    let h : at < length s = omega arith in
    let k : length s ≤ at + 1 = omega arith in
    rw (drop_step s at h, drop_of_length-le s k, ne_eqb (get_or s at 0) 10 n)

module _ (s : List ℕ) (at : ℕ) (k : at ≤ length s) (n : at ≡ length s → ⊥) (m : at + 1 ≡ length s → ⊥) (l : get_or s at 0 ≡ 10 → ⊥) where
  two : drop at s ≡ get_or s at 0 ∷ get_or s (at + 1) 0 ∷ drop (at + 1 + 1) s
  two =
      let h : at < length s = omega arith in
      let g : at + 1 < length s = omega arith in
      drop_step s at h ∙ ap (λ (r : List ℕ). get_or s at 0 ∷ r) (drop_step s (at + 1) g)

  pub break_pair : (eqb (get_or s at 0) 13 && eqb (get_or s (at + 1) 0) 10) ≡ true → Some 2 ≡ break_of (drop at s)
  unfolding break_of
  break_pair e = rw (two, ne_eqb (get_or s at 0) 10 l, e)

  pub break_bad : (eqb (get_or s at 0) 13 && eqb (get_or s (at + 1) 0) 10) ≡ false → None ≡ break_of (drop at s)
  unfolding break_of
  break_bad e = rw (two, ne_eqb (get_or s at 0) 10 l, e)

-- ---- a text's place

module _ (s : List ℕ) (at end a e : ℕ) (h : at ≤ end) (k : end ≤ length s) (ha : a ≡ length (part at end s) - length (skip is_blank (part at end s)))
    (he : e ≡ length (skip_end is_blank (part (at + a) end s))) where
  pub trim_fits : at + a + e ≤ end
  trim_fits = omega (arith, end_length is_blank (part (at + a) end s), length_part at end s k, length_part (at + a) end s k)

  front : skip is_blank (part at end s) ≡ part (at + a) end s
  front =
      let l = part at end s in
      skip_drop is_blank l ∙ ap (λ (n : ℕ). drop n l) (sym ha) ∙ part_from s at end a

  trimmed_size : e ≡ length (trim (part at end s))
  unfolding trim
  trimmed_size = he ∙ ap (λ (l : List ℕ). length (skip_end is_blank l)) (sym front)

  -- what the code finds is the place of the trimmed text
  pub trimmed_is : record { from = at + a; to = at + a + e } ≡ trimmed_at at (part at end s)
  trimmed_is = ap₂ (λ (m n : ℕ). record { from = at + m; to = at + m + n }) ha trimmed_size

  found_holds : HoldsText s (record { from = at + a; to = at + a + e }) (trim (part at end s))
  unfolding trim
  found_holds =
      let fits = trim_fits in
      record {
        ordered = omega arith;
        inside = omega arith;
        holds =
            sym (part_front s (at + a) end e fits) ∙ ap (λ (n : ℕ). take n (part (at + a) end s)) he
            ∙ sym (end_take is_blank (part (at + a) end s)) ∙ ap (skip_end is_blank) (sym front);
      }

-- and that place holds it
pub trimmed_holds : (s : List ℕ) (at end : ℕ) → at ≤ end → end ≤ length s → HoldsText s (trimmed_at at (part at end s)) (trim (part at end s))
trimmed_holds s at end h k =
    let a = run_of is_blank (part at end s) in
    let e = length (skip_end is_blank (part (at + a) end s)) in
    subst (λ (p : Span). HoldsText s p (trim (part at end s))) (trimmed_is s at end a e h k refl refl) (found_holds s at end a e h k refl refl)

pub span_holds : (s : List ℕ) (at end : ℕ) → at ≤ end → end ≤ length s → (p : Span) → p ≡ trimmed_at at (part at end s) → HoldsText s p (trim (part at end s))
span_holds s at end h k p e = subst (λ (q : Span). HoldsText s q (trim (part at end s))) (sym e) (trimmed_holds s at end h k)

-- ---- a separator

pub sep_other : (t : List ℕ) → all (is 43) t ≡ false → false ≡ is_sep t
unfolding is_sep
sep_other t e = rw (e, and-false (leb 5 (length t)))
