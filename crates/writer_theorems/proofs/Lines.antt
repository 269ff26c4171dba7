-- A file of lines that each end with LF: its texts are its lines, trimmed, and every byte of it is allowed. Assumes nothing.
use Prim.Native.Nat.{ℕ}
use Rattle.text_lines.specs.Lines.{texts, allowed_upto}
use Rattle.reader_theorems.proofs.Alike.{Written, Lf, file_of, is_clear, text_in, texts_of, allowed_of}
use Rattle.text.proofs.Tests.{and_parts}
use Rattle.text.specs.Bytes.{all, is_plain, trim}
use Rattle.text_lines.specs.Spellings.{Spelling}
use Rattle.writer_form.specs.Written.{lines_text}
use lib.ListN.{length}
use mathlib.Core.Bool.{true}
use mathlib.Core.List.{List, [], ◌∷◌, ◌++◌, map, map-map, append_assoc}
use mathlib.Core.Path.{◌≡◌, refl, sym, ap, ◌∙◌}

pub lines_append : (a b : List (List ℕ)) → lines_text (a ++ b) ≡ lines_text a ++ lines_text b
unfolding lines_text
lines_append [] b = refl
lines_append (s ∷ a) b = ap (λ (t : List ℕ). s ++ (10 ∷ t)) (lines_append a b) ∙ sym (append_assoc s (10 ∷ lines_text a) (lines_text b))

-- ---- as a file whose lines may end otherwise

abbrev fed : List ℕ → Written
fed s = record { line = s; ending = Lf }

as_file : (ss : List (List ℕ)) → lines_text ss ≡ file_of (map fed ss)
unfolding lines_text file_of
as_file [] = refl
as_file (s ∷ ss) = ap (λ (t : List ℕ). s ++ (10 ∷ t)) (as_file ss)

all_clear : (ss : List (List ℕ)) → all (all is_plain) ss ≡ true → all is_clear (map fed ss) ≡ true
unfolding all
all_clear [] h = refl
all_clear (s ∷ ss) h = let p = and_parts (all is_plain s) (all (all is_plain) ss) h in rw p.0 (all_clear ss p.1)

module _ (ss : List (List ℕ)) (h : all (all is_plain) ss ≡ true) where
  pub lines_texts : texts (lines_text ss) ≡ map trim ss
  lines_texts = ap texts (as_file ss) ∙ texts_of (map fed ss) (all_clear ss h) ∙ map-map text_in fed ss

  pub lines_allowed : (sp : List Spelling) → allowed_upto sp (lines_text ss) ≡ length (lines_text ss)
  lines_allowed sp = rw (as_file ss) (allowed_of sp (map fed ss) (all_clear ss h))
