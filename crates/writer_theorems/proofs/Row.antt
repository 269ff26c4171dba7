-- The row of a column of tidy texts: tidy, and no separator. Assumes nothing.
use Prim.Native.Nat.{ℕ, ◌≤◌}
use Rattle.layout.specs.Rows.{row_fields, text_at, halves, bands_in, pieces_of, tail_text, row_text, row_of}
use Rattle.layout.specs.declared.Layout.{Layout}
use Rattle.layout.specs.declared.Layout.TheVariants.{Market, Mfrr, Revocation, Generic, Exclusion, Limitation, Secondary, VoltVar, Rejection, Reserve}
use Rattle.text_lines.proofs.Leaves.{sep_other}
use Rattle.text_lines.proofs.Tidy.{all_upto, all_past, trim_tidy}
use Rattle.text_lines.specs.Lines.{is_sep}
use Rattle.text.proofs.Cuts.{all_append}
use Rattle.text.proofs.Tables.{all_at}
use Rattle.text.proofs.Tests.{by_test, and_parts}
use Rattle.text.proofs.Trims.{skip_stop, skip_twice, end_stop, end_twice, skip_end_lem, tidy_empty, tidy_parts}
use Rattle.text.specs.Bytes.{all, is, is_blank, is_plain, upto, past, skip, skip_end, trim, tidy}
use borrow.Author.Tests.{leb-true}
use lib.ListN.{length, length-append, length-map}
use mathlib.Core.Bool.{Bool, true, false}
use mathlib.Core.List.{List, [], ◌∷◌, ◌++◌, map, append-nil}
use mathlib.Core.Path.{◌≡◌, refl, sym, ap, ◌∙◌}
use native.Mathlib.Omega.{arith}

-- ---- texts joined by `;` (59)

skip_tidy : (s : List ℕ) → trim s ≡ s → skip is_blank s ≡ s
unfolding trim
skip_tidy s e = ap (skip is_blank) (sym e) ∙ skip_end_lem is_blank (skip is_blank s) ∙ ap (skip_end is_blank) (skip_twice is_blank s) ∙ e

end_tidy : (s : List ℕ) → trim s ≡ s → skip_end is_blank s ≡ s
unfolding trim
end_tidy s e = ap (skip_end is_blank) (sym e) ∙ end_twice is_blank (skip is_blank s) ∙ e

joint_trim : (s t : List ℕ) → trim s ≡ s → trim t ≡ t → trim (s ++ 59 ∷ t) ≡ s ++ 59 ∷ t
unfolding trim
joint_trim s t e h = rw (skip_stop is_blank s 59 t refl, skip_tidy s e, end_stop is_blank s 59 t refl, end_tidy t h)

joint_tidy : (s t : List ℕ) → tidy s ≡ true → tidy t ≡ true → tidy (s ++ 59 ∷ t) ≡ true
unfolding all
joint_tidy s t e h =
    let p = tidy_parts s e in
    let q = tidy_parts t h in
    ap tidy (sym (joint_trim s t p.1 q.1)) ∙ trim_tidy (s ++ 59 ∷ t) (all_append is_plain s (59 ∷ t) p.0 q.0)

text_tidy : (ts : List (List ℕ)) → all tidy ts ≡ true → tidy (row_text ts) ≡ true
unfolding all row_text tail_text
text_tidy [] h = tidy_empty
text_tidy (t ∷ []) h = ap tidy (append-nil t) ∙ (and_parts (tidy t) true h).0
text_tidy (t ∷ u ∷ ts) h =
    let p = and_parts (tidy t) (all tidy (u ∷ ts)) h in
    joint_tidy t (row_text (u ∷ ts)) p.0 (text_tidy (u ∷ ts) p.1)

-- a `;` is no `+` (43)
all_seam : {A : Type 0} (p : A → Bool) (a : List A) (c : A) (b : List A) → p c ≡ false → all p (a ++ c ∷ b) ≡ false
unfolding all
all_seam p [] c b h = rw h
all_seam p (x ∷ a) c b h = by_test (p x) (λ e. rw e (all_seam p a c b h)) (λ e. rw e)

text_no_sep : (ts : List (List ℕ)) → 2 ≤ length ts → is_sep (row_text ts) ≡ false
unfolding row_text tail_text
text_no_sep [] n = absurd (omega arith)
text_no_sep (t ∷ []) n = absurd (omega arith)
text_no_sep (t ∷ u ∷ ts) n = sym (sep_other (t ++ 59 ∷ (u ++ tail_text ts)) (all_seam (is 43) t 59 (u ++ tail_text ts) refl))

-- ---- the pieces of a row

fields_tidy : (col : List (List ℕ)) → all tidy col ≡ true → (ks : List ℕ) → all tidy (map (text_at col) ks) ≡ true
unfolding all
fields_tidy col h [] = refl
fields_tidy col h (k ∷ ks) = rw (all_at tidy ([] ∷ col) k [] (rw tidy_empty h) tidy_empty) (fields_tidy col h ks)

halves_tidy : (s : List ℕ) → tidy s ≡ true → all tidy (halves s) ≡ true
unfolding all
halves_tidy s h =
    let p = (tidy_parts s h).0 in
    rw (trim_tidy (upto (is 59) s) (all_upto (is 59) is_plain s p), trim_tidy (past (is 59) s) (all_past (is 59) is_plain s p))

bands_tidy : (l : Layout) (col : List (List ℕ)) → all tidy col ≡ true → all tidy (bands_in l col) ≡ true
unfolding all
bands_tidy Market col h = refl
bands_tidy Mfrr col h = refl
bands_tidy Revocation col h = refl
bands_tidy Generic col h = refl
bands_tidy Exclusion col h = refl
bands_tidy Limitation col h = refl
bands_tidy Secondary col h = halves_tidy (text_at col 6) (all_at tidy col 5 [] h tidy_empty)
bands_tidy VoltVar col h = refl
bands_tidy Rejection col h = refl
bands_tidy Reserve col h = refl

two_fields : (l : Layout) → 2 ≤ length (row_fields l)
unfolding row_fields
two_fields Market = leb-true _ _ refl
two_fields Mfrr = leb-true _ _ refl
two_fields Revocation = leb-true _ _ refl
two_fields Generic = leb-true _ _ refl
two_fields Exclusion = leb-true _ _ refl
two_fields Limitation = leb-true _ _ refl
two_fields Secondary = leb-true _ _ refl
two_fields VoltVar = leb-true _ _ refl
two_fields Rejection = leb-true _ _ refl
two_fields Reserve = leb-true _ _ refl

-- ---- the row

module _ (l : Layout) (col : List (List ℕ)) where
  pub row_tidy : all tidy col ≡ true → tidy (row_of l col) ≡ true
  unfolding row_of pieces_of
  row_tidy h =
      text_tidy (pieces_of l col)
      (all_append tidy (map (text_at col) (row_fields l)) (bands_in l col) (fields_tidy col h (row_fields l)) (bands_tidy l col h))

  pub row_no_sep : is_sep (row_of l col) ≡ false
  unfolding row_of pieces_of
  row_no_sep =
      text_no_sep (pieces_of l col)
      (omega (arith, two_fields l, length-map (row_fields l) (text_at col), length-append (map (text_at col) (row_fields l)) (bands_in l col)))
