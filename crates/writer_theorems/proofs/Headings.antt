-- The heading of a written file, its banner and the empty line below: lines that can stand above the row and are no parameters. Assumes nothing.
use Prim.Native.Nat.{ℕ}
use Rattle.layout.specs.Banners.{banner_of}
use Rattle.layout.specs.declared.Layout.{Layout}
use Rattle.layout.specs.declared.Layout.TheVariants.{Market, Mfrr, Revocation, Generic, Exclusion, Limitation, Secondary, VoltVar, Rejection, Reserve}
use Rattle.text_lines.proofs.Params.{equals_trim}
use Rattle.text_lines.specs.Lines.{lines, is_sep, params}
use Rattle.reader_theorems.proofs.Alike.{plain_line}
use Rattle.text_lines.specs.Spellings.{Spelling}
use Rattle.writer_theorems.proofs.Frame.{upper}
use Rattle.text.proofs.Cuts.{same_true, all_weaker}
use Rattle.text.proofs.Tests.{and_parts}
use Rattle.text.specs.Bytes.{any, all, is, same, skip, skip_end, trim}
use Rattle.writer_form.specs.Written.{lines_text}
use borrow.Author.Tests.{not-true}
use mathlib.Core.Bool.{Bool, true, not, ◌&&◌}
use mathlib.Core.List.{List, [], ◌∷◌, ◌++◌, map}
use mathlib.Core.Path.{◌≡◌, refl, ◌∙◌}

-- the bytes above the parameter lines
abbrev pub head_text : Layout → List ℕ
head_text l = banner_of l ++ 10 ∷ []

-- and their lines
abbrev pub heading : Layout → List (List ℕ)
heading l = lines (head_text l)

-- a line that can stand above the row, without '='
silent : List ℕ → Bool
silent s = upper s && not (any (is 61) s)

silent_parts : (s : List ℕ) → silent s ≡ true → (upper s ≡ true) × (not (any (is 61) s) ≡ true)
unfolding silent
silent_parts s = and_parts (upper s) (not (any (is 61) s))

-- ---- tests that antt computes over the banners

told : (l : Layout) → same (lines_text (heading l)) (head_text l) && all silent (heading l) ≡ true
unfolding silent banner_of lines lines_text same all any is_sep trim skip skip_end
told Market = refl
told Mfrr = refl
told Revocation = refl
told Generic = refl
told Exclusion = refl
told Limitation = refl
told Secondary = refl
told VoltVar = refl
told Rejection = refl
told Reserve = refl

module _ (l : Layout) where
  parts : (same (lines_text (heading l)) (head_text l) ≡ true) × (all silent (heading l) ≡ true)
  parts = and_parts (same (lines_text (heading l)) (head_text l)) (all silent (heading l)) (told l)

  pub heading_text : lines_text (heading l) ≡ head_text l
  heading_text = same_true (lines_text (heading l)) (head_text l) parts.0

  pub heading_upper : all upper (heading l) ≡ true
  heading_upper = all_weaker upper silent (λ s e. (silent_parts s e).0) (heading l) parts.1

-- ---- they say nothing

silent_params : (sp : List Spelling) (ss us : List (List ℕ)) → all silent ss ≡ true → params sp (map trim (ss ++ us)) ≡ params sp (map trim us)
unfolding all
silent_params sp [] us h = refl
silent_params sp (s ∷ ss) us h =
    let p = and_parts (silent s) (all silent ss) h in
    plain_line sp (trim s) (map trim (ss ++ us)) (equals_trim s ∙ not-true (any (is 61) s) (silent_parts s p.0).1) ∙ silent_params sp ss us p.1

pub heading_params : (sp : List Spelling) (l : Layout) (us : List (List ℕ)) → params sp (map trim (heading l ++ us)) ≡ params sp (map trim us)
heading_params sp l us = silent_params sp (heading l) us (parts l).1
