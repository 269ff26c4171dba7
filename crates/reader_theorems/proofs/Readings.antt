-- What the reading of an accepted file tells besides: each value is one that its kind may hold, its row is the row of its values, and its cells and
-- triples are those of its record. Assumes nothing.
use Prim.Native.Nat.{ℕ}
use Rattle.layout.specs.Layouts.{size_of}
use Rattle.layout.specs.Rows.{row_of}
use Rattle.plan.specs.Plans.{plan_of, sought_of}
use Rattle.reader.proofs.Readings.{taken, reading_no, reading_yes, content_is, layout_is, column_is, record_is, answers_of, placed_of}
use Rattle.reader.specs.Messages.{given, row_in, layout_in, places_of, values_of, is_bad, column_record}
use Rattle.reader.specs.Reader.{body_column, unit_in, read_of}
use Rattle.reader.specs.Readings.{reading_of}
use Rattle.reader.specs.State.{column_at, concluded}
use Rattle.reader.specs.Readings.{ReadingSaid}
use Rattle.reader_fill.specs.Filled.{record_with}
use Rattle.reader_theorems.proofs.Agreed.{Accepted}
use Rattle.reader_theorems.proofs.Validity.{read_accepted}
use Rattle.text.proofs.Tests.{and_parts, by_eq}
use Rattle.text_lines.proofs.Spots.{text_row_in}
use Rattle.text_lines.specs.Lines.{framed, inside, seps, texts}
use Rattle.text_lines.specs.Places.{HoldsText, Placed}
use Rattle.text_lines.specs.Spots.{row_place}
use borrow.Author.Tests.{eqb-true}
use lib.Dec.{eqb}
use lib.ListN.{length}
use mathlib.Core.Bool.{true, false}
use mathlib.Core.List.{List}
use mathlib.Core.Path.{◌≡◌, refl, sym, ap, ◌∙◌, subst}
use native.Mathlib.Omega.{arith}

pub record Reads (ca ioa : ℕ) (plan file : List ℕ) (x : ReadingSaid) : Type 0 where
  pub places_are : x.number ≡ 0 → x.places ≡ places_of x.layout file
  pub placed : x.number ≡ 0 → Placed (size_of x.layout) file x.places
  pub readable : x.number ≡ 0 → is_bad (values_of x.layout (column_at x.layout file x.places)) ≡ false
  pub own_row : x.number ≡ 0 → HoldsText file x.row (row_of x.layout (column_at x.layout file x.places))
  pub content_is : x.number ≡ 0
      → record_with x.layout (column_at x.layout file x.places) x.cells x.gradients
      ≡ column_record x.layout (column_at x.layout file x.places)
  pub answers : concluded file x ≡ read_of ca ioa plan file

-- the row of a file with one line between its separators
row_there : (file : List ℕ) → framed (texts file) ≡ true → HoldsText file (row_place file) (row_in file)
unfolding framed row_in
row_there file f =
    let one = eqb-true (length (inside (texts file))) 1 (and_parts (eqb (seps (texts file)) 2) (eqb (length (inside (texts file))) 1) f).1 in
    text_row_in file (λ z. omega (arith, one, z))

module _ (c i : ℕ) (plan file : List ℕ) (x : ReadingSaid) (is : x ≡ reading_of c i plan file) where
  -- where it is no refusal, the reader's answer is none
  none_refused : x.number ≡ 0 → (read_of c i plan file).number ≡ 0
  none_refused e =
      by_eq (read_of c i plan file).number 0 (λ z. z) (λ n. absurd (n (sym (ap (λ (y : ReadingSaid). y.number) (is ∙ reading_no c i plan file n)) ∙ e)))

  module _ (e : x.number ≡ 0) where
    z : (read_of c i plan file).number ≡ 0
    z = none_refused e

    taken_is : x ≡ taken (read_of c i plan file).content file
    taken_is = is ∙ reading_yes c i plan file z

    places_here : x.places ≡ places_of x.layout file
    places_here = ap (λ (y : ReadingSaid). y.places) taken_is ∙ ap (λ (y : ReadingSaid). places_of y.layout file) (sym taken_is)

    told : Accepted (sought_of c i (plan_of plan)).message (unit_in (sought_of c i (plan_of plan))) file
    told = read_accepted c i plan file z

    layout_here : x.layout ≡ layout_in (sought_of c i (plan_of plan)).message (given (sought_of c i (plan_of plan)).message file)
    layout_here = ap (λ (y : ReadingSaid). y.layout) taken_is ∙ layout_is c i plan file z

    column_here : column_at x.layout file x.places ≡ body_column (sought_of c i (plan_of plan)).message file
    column_here = ap (λ (y : ReadingSaid). column_at y.layout file y.places) taken_is ∙ column_is c i plan file z

    readable : is_bad (values_of x.layout (column_at x.layout file x.places)) ≡ false
    readable = rw (column_here, layout_here) told.values

    own_row : HoldsText file x.row (row_of x.layout (column_at x.layout file x.places))
    own_row =
        rw (ap (λ (y : ReadingSaid). y.row) taken_is, column_here, layout_here)
        (subst (HoldsText file (row_place file)) told.row_is (row_there file told.frame))

    its_content : record_with x.layout (column_at x.layout file x.places) x.cells x.gradients
        ≡ column_record x.layout (column_at x.layout file x.places)
    its_content =
        ap (λ (y : ReadingSaid). record_with y.layout (column_at y.layout file y.places) y.cells y.gradients) taken_is
        ∙ record_is c i plan file z ∙ content_is c i plan file z ∙ rw (column_here, layout_here) refl

  pub reads_of : Reads c i plan file x
  reads_of =
      record {
        places_are = places_here;
        placed = placed_of c i plan file x is;
        readable = readable;
        own_row = own_row;
        content_is = its_content;
        answers = answers_of c i plan file x is;
      }
