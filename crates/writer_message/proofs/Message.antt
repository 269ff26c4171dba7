-- A message is put as its banner, an empty line, its parameter lines, and its row between separators. Assumes nothing.
use Prim.Native.Nat.{ℕ, ◌+◌, ◌≤◌}
use Rattle.text.specs.Puts.{Puts}
use Rattle.writer_lines.proofs.Lines.{lines_with, lines_of}
use Rattle.layout.specs.Banners.{banner_of}
use Rattle.layout.specs.Rows.{row_of}
use Rattle.layout.specs.declared.Layout.{Layout}
use Rattle.layout.specs.declared.Layout.TheVariants.{Market, Mfrr, Revocation, Generic, Exclusion, Limitation, Secondary, VoltVar, Rejection, Reserve}
use Rattle.text_lines.specs.Places.{part_of, HoldsText}
use Rattle.text_lines.specs.declared.Span.{Span}
use Rattle.record.specs.declared.Cell.{Cell}
use Rattle.text.proofs.Cuts.{length_part}
use Rattle.text.proofs.Runs.{puts, puts_of, then, same_puts}
use Rattle.value.specs.Texts.{Rooms}
use Rattle.writer_form.proofs.Columns.{column_of}
use Rattle.writer_form.specs.Written.{lines_text, plus_line, block, written_of, message_text}
use borrow.Author.Tests.{leb-true}
use lib.ListN.{length}
use lib.Seq.{sets}
use mathlib.Core.List.{List, [], ◌∷◌, ◌++◌}
use mathlib.Core.Path.{◌≡◌, refl, subst}
use native.Mathlib.Omega.{arith}

-- SR's is the longest
pub banner_short : (l : Layout) → length (banner_of l) ≤ 88
unfolding banner_of
banner_short Market = leb-true _ _ refl
banner_short Mfrr = leb-true _ _ refl
banner_short Revocation = leb-true _ _ refl
banner_short Generic = leb-true _ _ refl
banner_short Exclusion = leb-true _ _ refl
banner_short Limitation = leb-true _ _ refl
banner_short Secondary = leb-true _ _ refl
banner_short VoltVar = leb-true _ _ refl
banner_short Rejection = leb-true _ _ refl
banner_short Reserve = leb-true _ _ refl

-- a row of a file has at most as many bytes as the file
pub row_small : (file : List ℕ) (p : Span) {row : List ℕ} → HoldsText file p row → length file ≤ 8192 → length (part_of file p) ≤ 8192
row_small file p h s = omega (arith, length_part p.from p.to file h.inside, h.inside)

-- a separator before the row, with its end, and one after the end of the row
abbrev pub above_row : List ℕ
above_row = plus_line ++ 10 ∷ []

abbrev pub below_row : List ℕ
below_row = 10 ∷ above_row

-- a column of texts
module _ (l : Layout) (col : List (List ℕ)) (out : List ℕ) (at a : ℕ) (l₁ : List ℕ) (b : ℕ) (l₂ : List ℕ)
    (c : ℕ) (l₃ : List ℕ) (d : ℕ) (l₄ : List ℕ) (e : ℕ) (l₅ : List ℕ) (q : ℕ) (m : List ℕ) where
  pub written_put : Puts out at (banner_of l) a l₁ → (b ≡ a + 1) × (l₂ ≡ sets l₁ a (10 ∷ []))
      → Puts l₂ b (lines_text (lines_with l col)) c l₃ → Puts l₃ c above_row d l₄
      → (row : List ℕ) → row ≡ row_of l col → Puts l₄ d row e l₅ → Puts l₅ e below_row q m → Puts out at (written_of l col) q m
  unfolding written_of lines_text block
  written_put banner empty lines above row is put below =
      let own : Puts l₄ d (row_of l col) e l₅ = subst (λ (x : List ℕ). Puts l₄ d x e l₅) is put in
      same_puts (written_of l col) refl
      (then (puts {t = banner_of l} banner)
      (then (then (puts_of {t = 10 ∷ []} 1 refl empty) (puts {t = lines_text (lines_with l col)} lines))
      (then (puts {t = above_row} above) (then (puts {t = row_of l col} own) (puts {t = below_row} below)))))

-- the texts of a record's values
module _ (l : Layout) (r : Rooms) (cells : List Cell) (out : List ℕ) (at a : ℕ) (l₁ : List ℕ) (b : ℕ) (l₂ : List ℕ)
    (c : ℕ) (l₃ : List ℕ) (d : ℕ) (l₄ : List ℕ) (e : ℕ) (l₅ : List ℕ) (q : ℕ) (m : List ℕ) where
  pub message_put : Puts out at (banner_of l) a l₁ → (b ≡ a + 1) × (l₂ ≡ sets l₁ a (10 ∷ []))
      → Puts l₂ b (lines_text (lines_of l r cells)) c l₃ → Puts l₃ c above_row d l₄
      → Puts l₄ d (row_of l (column_of l r cells)) e l₅ → Puts l₅ e below_row q m → Puts out at (message_text l r cells) q m
  unfolding message_text
  message_put banner empty lines above row below =
      written_put l (column_of l r cells) out at a l₁ b l₂ c l₃ d l₄ e l₅ q m banner empty lines above (row_of l (column_of l r cells)) refl row below
