-- The frame of a written file: the row stands between two separators, and no line above them is one. Assumes nothing.
use Prim.Native.Nat.{ℕ}
use Rattle.text_lines.specs.Lines.{is_sep, seps, mark, marked, if_inside, if_outside, inside, outside, framed}
use Rattle.text.proofs.Cuts.{all_append, all_weaker}
use Rattle.text.proofs.Tests.{and_parts}
use Rattle.text.proofs.Trims.{tidy_parts}
use Rattle.text.specs.Bytes.{all, is_plain, skip, skip_end, tidy, trim}
use Rattle.text.specs.Lists.{count, sift}
use Rattle.writer_form.specs.Written.{plus_line, block}
use borrow.Author.Tests.{not-true}
use mathlib.Core.Bool.{Bool, true, false, not, ◌&&◌}
use mathlib.Core.List.{List, [], ◌∷◌, ◌++◌, map, append-nil}
use mathlib.Core.Path.{◌≡◌, refl, ap, ◌∙◌}
use native.Mathlib.Omega.{arith}

-- a line whose text is no separator
abbrev pub no_sep : List ℕ → Bool
no_sep s = not (is_sep (trim s))

-- a line that can stand above the row: printed, and no separator
abbrev pub upper : List ℕ → Bool
upper s = all is_plain s && no_sep s

-- ---- what stands above

module _ (us : List (List ℕ)) where
  outside_over : (ss : List (List ℕ)) → all no_sep ss ≡ true
      → sift if_outside (marked 0 (map trim (ss ++ us))) ≡ map trim ss ++ sift if_outside (marked 0 (map trim us))
  unfolding all marked mark sift if_outside
  outside_over [] h = refl
  outside_over (s ∷ ss) h =
      let p = and_parts (no_sep s) (all no_sep ss) h in
      rw (not-true (is_sep (trim s)) p.0) (ap (λ (ts : List (List ℕ)). trim s ∷ ts) (outside_over ss p.1))

  inside_over : (ss : List (List ℕ)) → all no_sep ss ≡ true → sift if_inside (marked 0 (map trim (ss ++ us))) ≡ sift if_inside (marked 0 (map trim us))
  unfolding all marked mark sift if_inside
  inside_over [] h = refl
  inside_over (s ∷ ss) h =
      let p = and_parts (no_sep s) (all no_sep ss) h in
      rw (not-true (is_sep (trim s)) p.0) (inside_over ss p.1)

  seps_over : (ss : List (List ℕ)) → all no_sep ss ≡ true → count is_sep (map trim (ss ++ us)) ≡ count is_sep (map trim us)
  unfolding all count
  seps_over [] h = refl
  seps_over (s ∷ ss) h =
      let p = and_parts (no_sep s) (all no_sep ss) h in
      rw (not-true (is_sep (trim s)) p.0) (omega (arith, seps_over ss p.1))

-- ---- the block

plus_sep : is_sep plus_line ≡ true
unfolding is_sep all
plus_sep = refl

plus_trim : trim plus_line ≡ plus_line
unfolding trim skip skip_end
plus_trim = refl

module _ (row : List ℕ) (t : trim row ≡ row) (r : is_sep row ≡ false) where
  block_outside : sift if_outside (marked 0 (map trim (block row))) ≡ []
  unfolding block marked mark sift if_outside
  block_outside = rw (t, r, plus_trim, plus_sep)

  block_inside : sift if_inside (marked 0 (map trim (block row))) ≡ row ∷ []
  unfolding block marked mark sift if_inside
  block_inside = rw (t, r, plus_trim, plus_sep)

  block_seps : count is_sep (map trim (block row)) ≡ 2
  unfolding block count
  block_seps = rw (t, r, plus_trim, plus_sep)

block_plain : (row : List ℕ) → all is_plain row ≡ true → all (all is_plain) (block row) ≡ true
unfolding block all
block_plain row e = rw e

-- ---- the whole

module _ (ss : List (List ℕ)) (row : List ℕ) (u : all upper ss ≡ true) (t : tidy row ≡ true) (r : is_sep row ≡ false) where
  no_seps : all no_sep ss ≡ true
  no_seps = all_weaker no_sep upper (λ s e. (and_parts (all is_plain s) (no_sep s) e).1) ss u

  trimmed : trim row ≡ row
  trimmed = (tidy_parts row t).1

  pub plain_is : all (all is_plain) (ss ++ block row) ≡ true
  plain_is =
      all_append (all is_plain) ss (block row)
      (all_weaker (all is_plain) upper (λ s e. (and_parts (all is_plain s) (no_sep s) e).0) ss u)
      (block_plain row (tidy_parts row t).0)

  pub outside_is : outside (map trim (ss ++ block row)) ≡ map trim ss
  unfolding outside
  outside_is =
      outside_over (block row) ss no_seps ∙ ap (λ (ts : List (List ℕ)). map trim ss ++ ts) (block_outside row trimmed r) ∙ append-nil (map trim ss)

  pub inside_is : inside (map trim (ss ++ block row)) ≡ row ∷ []
  unfolding inside
  inside_is = inside_over (block row) ss no_seps ∙ block_inside row trimmed r

  seps_are : seps (map trim (ss ++ block row)) ≡ 2
  unfolding seps
  seps_are = seps_over (block row) ss no_seps ∙ block_seps row trimmed r

  pub framed_is : framed (map trim (ss ++ block row)) ≡ true
  unfolding framed
  framed_is = rw (seps_are, inside_is)
