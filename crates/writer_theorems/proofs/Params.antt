-- A written parameter line: it can stand above the row, and is read as its label and its value. Assumes nothing.
use Rattle.std.specs.Prelude.{Some}
use Prim.Native.Nat.{ℕ, zero, suc, ◌-◌, ◌<◌}
use Rattle.layout_label.specs.Labels.{padded}
use Rattle.layout.proofs.Labels.{GoodLabel}
use Rattle.text_lines.proofs.Params.{trim_front_blanks, head_param, equals_trim, sep_equals}
use Rattle.text_lines.proofs.Spelt.{all_good, respell_plain}
use Rattle.text_lines.specs.Lines.{Param, param, param_of, params, param_in, respelt}
use Rattle.text_lines.specs.Spellings.{Spelling}
use Rattle.writer_theorems.proofs.Entries.{paired}
use Rattle.writer_theorems.proofs.Frame.{no_sep, upper}
use Rattle.text.proofs.Cuts.{any_seam, all_append}
use Rattle.text.proofs.Tests.{and_parts}
use Rattle.text.proofs.Trims.{tidy_parts}
use Rattle.text.specs.Bytes.{all, is, is_blank, is_plain, tidy, trim}
use Rattle.text.specs.Lists.{sift}
use Rattle.writer_form.specs.Written.{after_equals, param_line, param_lines}
use lib.ListN.{length, get_or, replicate}
use mathlib.Core.Bool.{Bool, true, not}
use mathlib.Core.List.{List, [], ◌∷◌, ◌++◌, map, append_assoc}
use mathlib.Core.Path.{◌≡◌, refl, ap, ◌∙◌}
use native.Mathlib.Omega.{arith}

all_replicate : {A : Type 0} (p : A → Bool) (x : A) → p x ≡ true → (n : ℕ) → all p (replicate n x) ≡ true
unfolding all
all_replicate p x e zero = refl
all_replicate p x e (suc n) = rw e (all_replicate p x e n)

after_plain : (s : List ℕ) → all is_plain s ≡ true → all is_plain (61 ∷ after_equals s) ≡ true
unfolding all after_equals
after_plain [] h = refl
after_plain (b ∷ s) h = h

after_trim : (s : List ℕ) → trim (after_equals s) ≡ trim s
unfolding after_equals all
after_trim [] = refl
after_trim (b ∷ s) = trim_front_blanks (32 ∷ []) (b ∷ s) refl

-- ---- one line

module _ (label s : List ℕ) (g : GoodLabel label) (h : tidy s ≡ true) where
  abbrev pad : List ℕ
  pad = replicate (36 - length label) 32

  line_plain : all is_plain (param_line label s) ≡ true
  unfolding param_line padded
  line_plain =
      all_append is_plain (label ++ pad) (61 ∷ after_equals s)
      (all_append is_plain label pad (tidy_parts label g.is_tidy).0 (all_replicate is_plain 32 refl (36 - length label)))
      (after_plain s (tidy_parts s h).0)

  line_no_sep : no_sep (param_line label s) ≡ true
  unfolding param_line
  line_no_sep =
      let x = param_line label s in
      ap not (sep_equals (trim x) (equals_trim x ∙ any_seam (is 61) (padded label) 61 (after_equals s) refl))

  line_upper : upper (param_line label s) ≡ true
  line_upper = rw (line_plain, line_no_sep)

  line_param : param_of (trim (param_line label s)) ≡ Some (param label s)
  unfolding param_line padded
  line_param =
      ap (λ (x : List ℕ). param_of (trim x)) (append_assoc label pad (61 ∷ after_equals s))
      ∙ head_param label pad (after_equals s) (tidy_parts label g.is_tidy).1 g.no_equals (all_replicate is_blank 32 refl (36 - length label))
      ∙ ap (λ (v : List ℕ). Some (param label v)) (after_trim s ∙ (tidy_parts s h).1)

  -- its label has no accent
  line_param_in : (sp : List Spelling) → all_good sp ≡ true → param_in sp (trim (param_line label s)) ≡ Some (param label s)
  unfolding param_in
  line_param_in sp good =
      ap (respelt sp) line_param ∙ ap (λ (x : List ℕ). Some (param x s)) (respell_plain sp label good (tidy_parts label g.is_tidy).0)

-- ---- the lines of a column

abbrev pub Good : List (List ℕ) → Type 0
Good ls = (j : ℕ) → j < length ls → GoodLabel (get_or ls j [])

pub column_upper : (ls col : List (List ℕ)) → Good ls → all tidy col ≡ true → all upper (param_lines ls col) ≡ true
unfolding param_lines all
column_upper [] col g h = refl
column_upper (l ∷ ls) [] g h = refl
column_upper (l ∷ ls) (s ∷ col) g h =
    let p = and_parts (tidy s) (all tidy col) h in
    rw (line_upper l s (g 0 (omega arith)) p.0) (column_upper ls col (λ j b. g (suc j) (omega arith)) p.1)

pub column_params : (sp : List Spelling) → all_good sp ≡ true → (ls col : List (List ℕ)) → Good ls → all tidy col ≡ true
    → params sp (map trim (param_lines ls col)) ≡ paired ls col
unfolding param_lines paired params sift all
column_params sp good [] col g h = refl
column_params sp good (l ∷ ls) [] g h = refl
column_params sp good (l ∷ ls) (s ∷ col) g h =
    let p = and_parts (tidy s) (all tidy col) h in
    rw (line_param_in l s (g 0 (omega arith)) p.0 sp good)
    (ap (λ (ps : List Param). param l s ∷ ps) (column_params sp good ls col (λ j b. g (suc j) (omega arith)) p.1))
