-- What the code asks of a text and of a line, as the definitions say it. Assumes nothing.
use Prim.Native.Nat.{ℕ, ◌+◌, ◌≤◌, ◌<◌}
use Rattle.layout.specs.Layouts.{labels_of, layout_of}
use Rattle.reader_accent.proofs.Table.{accents_good, accent_field_lem}
use Rattle.reader_accent.specs.Accents.{accents_of, accent_field}
use Rattle.text.proofs.Cuts.{drop_step, tail}
use Rattle.text.proofs.Tests.{by_test}
use Rattle.text.specs.Bytes.{is, part, trim, upto}
use Rattle.text_lines.proofs.Allowed.{stops_accent}
use Rattle.text_lines.proofs.Spelt.{opens_by, opens_not}
use Rattle.text_lines.proofs.Steps.{run_length}
use Rattle.text_lines.specs.Entries.{place_of}
use Rattle.text_lines.specs.Places.{plain_run, line_run}
use Rattle.text_lines.specs.Spellings.{is_accented, respell, opens}
use Rattle.value_name.specs.declared.MessageType.{MessageType}
use borrow.Author.Tests.{eq-eqb, ne_eqb}
use lib.Dec.{eqb}
use lib.ListN.{length, get_or, take, drop, length-drop}
use lib.Seq.{drop-drop}
use mathlib.Core.Bool.{Bool, true, false, not}
use mathlib.Core.List.{List}
use mathlib.Core.Path.{◌≡◌, sym, ap, ◌∙◌}
use native.Mathlib.Omega.{arith}

-- ---- a text

module _ (t : MessageType) (x : List ℕ) where
  -- a field that is told is the field of the label's plain spelling
  pub field_told : (k : ℕ) → k ≡ accent_field t x → (k ≡ 0 → ⊥) → k ≡ place_of (labels_of (layout_of t)) (respell (accents_of t) x)
  unfolding accent_field
  field_told k e n =
      by_test (is_accented (accents_of t) x) (λ a. rw a at e) (λ a. absurd (n (rw a at e)))

  -- and none is told of a text that has no accent
  pub none_told : (k : ℕ) → k ≡ accent_field t x → k ≡ 0 → is_accented (accents_of t) x ≡ false
  unfolding accent_field
  none_told k e z =
      by_test (is_accented (accents_of t) x) (λ a. let q : k ≡ place_of (labels_of (layout_of t)) (respell (accents_of t) x) = rw a at e in absurd (omega (arith, q, z, accent_field_lem t x a)))
      (λ a. a)

  pub told_is : (k : ℕ) → k ≡ accent_field t x → not (eqb k 0) ≡ is_accented (accents_of t) x
  unfolding accent_field
  told_is k e =
      by_test (is_accented (accents_of t) x)
      (λ a.
      let q : k ≡ place_of (labels_of (layout_of t)) (respell (accents_of t) x) = rw a at e in
      rw (a, ne_eqb k 0 (λ z. omega (arith, q, z, accent_field_lem t x a))))
      (λ a. let q : k ≡ 0 = rw a at e in rw (a, eq-eqb k 0 q))

-- ---- a line

module _ (t : MessageType) (s : List ℕ) (e : ℕ) (first : e ≡ length (upto (is 61) s)) where
  pub not_open : e ≡ length s → false ≡ opens (accents_of t) (upto (is 10) s)
  not_open h = opens_not (accents_of t) s (accents_good t) e first h

  pub open_by : (e ≡ length s → ⊥) → (x : List ℕ) → x ≡ trim (take e s) → (k : ℕ) → k ≡ accent_field t x → not (eqb k 0) ≡ opens (accents_of t) (upto (is 10) s)
  open_by h x q k f = told_is t x k f ∙ opens_by (accents_of t) s (accents_good t) e first h x q

-- ---- where it ends

module _ (t : MessageType) (s : List ℕ) (at end : ℕ) (inside : at ≤ length s) (run : end ≡ at + plain_run (drop at s)) where
  abbrev left : List ℕ
  left = drop at s

  pub end_near : end ≤ length s
  end_near = omega (arith, run, run_length left, length-drop at s)

  -- it does not open so
  pub ends_plain : opens (accents_of t) (upto (is 10) left) ≡ false → end ≡ at + line_run (accents_of t) left
  unfolding line_run
  ends_plain o = rw o run

  byte_at : end < length s → get_or s end 0 ≡ get_or (drop (plain_run left) left) 0 0
  byte_at h =
      let z : at + plain_run left ≡ end = sym run in
      sym (ap (λ (l : List ℕ). get_or l 0 0) (drop-drop (plain_run left) at s ∙ ap (λ (k : ℕ). drop k s) z ∙ drop_step s end h))

  -- it can open so only where its run stops at E0
  pub ends_whole : end ≡ length s → end ≡ at + line_run (accents_of t) left
  ends_whole h =
      by_test (opens (accents_of t) (upto (is 10) left))
      (λ o. absurd (omega (arith, h, run, (stops_accent (accents_of t) (accents_good t) left o).0, length-drop at s)))
      ends_plain

  pub ends_other : end < length s → (get_or s end 0 ≡ 224 → ⊥) → end ≡ at + line_run (accents_of t) left
  ends_other h n =
      by_test (opens (accents_of t) (upto (is 10) left))
      (λ o. absurd (n (byte_at h ∙ (stops_accent (accents_of t) (accents_good t) left o).1)))
      ends_plain

  pub ends_not : (b : Bool) → b ≡ opens (accents_of t) (upto (is 10) (part at (length s) s)) → b ≡ false → end ≡ at + line_run (accents_of t) left
  ends_not b e n = ends_plain (ap (λ (l : List ℕ). opens (accents_of t) (upto (is 10) l)) (sym (tail s at)) ∙ sym e ∙ n)

  pub ends_far : (b : Bool) → b ≡ opens (accents_of t) (upto (is 10) (part at (length s) s)) → b ≡ true → (k : ℕ)
      → k ≡ plain_run (part (end + 1) (length s) s) → end + 1 + k ≡ at + line_run (accents_of t) left
  unfolding line_run
  ends_far b e y k r =
      let o : opens (accents_of t) (upto (is 10) left) ≡ true = ap (λ (l : List ℕ). opens (accents_of t) (upto (is 10) l)) (sym (tail s at)) ∙ sym e ∙ y in
      let z : at + (plain_run left + 1) ≡ end + 1 = omega (arith, run) in
      let q : k ≡ plain_run (drop (plain_run left + 1) left) =
      r ∙ ap plain_run (tail s (end + 1) ∙ ap (λ (j : ℕ). drop j s) (sym z) ∙ sym (drop-drop (plain_run left + 1) at s)) in
      rw o (omega (arith, run, q))

  pub far_near : end < length s → (k : ℕ) → k ≡ plain_run (part (end + 1) (length s) s) → end + 1 + k ≤ length s
  far_near h k r = omega (arith, r ∙ ap plain_run (tail s (end + 1)), run_length (drop (end + 1) s), length-drop (end + 1) s)
