-- The ways through the program's first two lines, and what is printed of the answer. Assumes nothing.
use Rattle.std.specs.Prelude.{None, Option, Some, Result}
use Prim.Native.Nat.{ℕ}
use Rattle.plan_row.specs.Rows.{ca_at, ioa_at}
use Rattle.text.specs.Puts.{Puts}
use Rattle.text_keyline.specs.Keylines.{below}
use Rattle.reader.specs.Reader.{read_of}
use Rattle.reader.specs.Refusals.{Answer}
use Rattle.reader.specs.Said.{answer_by}
use Rattle.record.specs.declared.Record.{Record}
use Rattle.refusal.specs.declared.Refusal.{Refusal}
use Rattle.report.proofs.Fields.{told_report}
use Rattle.report.specs.Program.{at_address, heard_of, printed_of}
use Rattle.report.specs.Report.{report_of, told_as, told_lines}
use Rattle.report_brief.proofs.Puts.{same_text}
use lib.ListN.{length}
use lib.Seq.{sets}
use mathlib.Core.List.{List}
use mathlib.Core.Path.{◌≡◌, refl, sym, ap, ap₂, ◌∙◌}
use native.Mathlib.Omega.{arith}

-- without the first line there is no address, whatever the second is
no_address : (d : Option ℕ) (plan file : List ℕ) → read_of 0 0 plan file ≡ at_address None d plan file
no_address (Some i) plan file = refl
no_address None plan file = refl

module _ (plan input second file : List ℕ) (a : Answer) (d : Option ℕ) (two : second ≡ below input) (three : file ≡ below second) (ca : d ≡ ca_at input) where
  abbrev rest : List ℕ
  rest = below (below input)

  rest_is : file ≡ rest
  rest_is = three ∙ ap below two

  pub no_ca : d ≡ None → a ≡ read_of 0 0 plan file → a ≡ heard_of plan input
  unfolding heard_of
  no_ca n r =
      r
      ∙ ap (read_of 0 0 plan) rest_is
      ∙ no_address (ioa_at (below input)) plan rest
      ∙ ap (λ (x : Option ℕ). at_address x (ioa_at (below input)) plan rest) (sym n ∙ ca)

  module _ (c : ℕ) (is : d ≡ Some c) (e : Option ℕ) (ioa : e ≡ ioa_at second) where
    read_at : (x : Option ℕ) → e ≡ x → at_address (Some c) x plan rest ≡ heard_of plan input
    unfolding heard_of
    read_at x n = ap₂ (λ (x y : Option ℕ). at_address x y plan rest) (sym is ∙ ca) (sym n ∙ ioa ∙ ap ioa_at two)

    pub no_ioa : e ≡ None → a ≡ read_of 0 0 plan file → a ≡ heard_of plan input
    no_ioa n r = r ∙ ap (read_of 0 0 plan) rest_is ∙ read_at None n

    pub both_read : (i : ℕ) → e ≡ Some i → a ≡ read_of c i plan file → a ≡ heard_of plan input
    both_read i y r = r ∙ ap (read_of c i plan) rest_is ∙ read_at (Some i) y

-- what is put at the start, of the answer
pub print_put : (plan input l : List ℕ) (a : Answer) (r : ℕ) (m : List ℕ) → a ≡ heard_of plan input → Puts l 0 (report_of a) r m
    → (r ≡ length (printed_of plan input)) × (m ≡ sets l 0 (printed_of plan input))
unfolding printed_of
print_put plan input l a r m e p =
    let n : r ≡ length (report_of a) = omega (arith, p.0) in
    (n ∙ ap (λ (x : Answer). length (report_of x)) e, p.1 ∙ ap (λ (x : Answer). sets l 0 (report_of x)) e)

-- the same of an answer as it is told
pub told_put : (plan input l : List ℕ) (x : Result Record Refusal) {y : Result Record (ℕ × ℕ)} (r : ℕ) (m : List ℕ)
    → answer_by x ≡ heard_of plan input → y ≡ told_as x → Puts l 0 (told_lines y) r m
    → (r ≡ length (printed_of plan input)) × (m ≡ sets l 0 (printed_of plan input))
told_put plan input l x {y} r m e t p =
    let text : told_lines y ≡ report_of (answer_by x) = ap told_lines t ∙ told_report x in
    print_put plan input l (answer_by x) r m e (same_text (told_lines y) (report_of (answer_by x)) l 0 r m text p)
