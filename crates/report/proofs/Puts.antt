-- The two lines of a refusal, one after the other. Assumes nothing.
use Prim.Native.Nat.{ℕ}
use Rattle.report_brief.proofs.Puts.{two_put}
use Rattle.text_keyline.specs.Keylines.{line_text}
use Rattle.report.specs.Report.{two_lines}
use Rattle.text.specs.Bytes.{bytes}
use Rattle.text.specs.Digits.{whole_text}
use Rattle.text.specs.Puts.{Puts}
use mathlib.Core.List.{List}

pub refusal_put : (number detail : ℕ) (l : List ℕ) (at a : ℕ) (l₁ : List ℕ) (r : ℕ) (m : List ℕ)
    → Puts l at (line_text (bytes "result=") (whole_text 9 number)) a l₁ → Puts l₁ a (line_text (bytes "detail=") (whole_text 9 detail)) r m
    → Puts l at (two_lines number detail) r m
unfolding two_lines
refusal_put number detail l at a l₁ r m p q =
    two_put (line_text (bytes "result=") (whole_text 9 number)) (line_text (bytes "detail=") (whole_text 9 detail)) l at a l₁ r m p q
