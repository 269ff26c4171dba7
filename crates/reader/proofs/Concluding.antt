-- What was read leads to the answer: from the places to the reading, and from the reading to a refusal or the record. Assumes nothing.
use Rattle.std.specs.Prelude.{Result, Err}
use Prim.Native.Nat.{ℕ}
use Rattle.reader_fill.specs.Filled.{record_with}
use Rattle.layout.specs.declared.Layout.{Layout}
use Rattle.text_lines.specs.Places.{part_of}
use Rattle.text_lines.specs.Spots.{row_place}
use Rattle.text_lines.specs.declared.Span.{Span}
use Rattle.value.specs.declared.Value.TheVariants.{Blank}
use Rattle.value_list.specs.Forms.{no_triple}
use Rattle.reader.specs.Messages.{column_record, places_of}
use Rattle.reader.specs.Reader.{valued, read_of}
use Rattle.reader.specs.Readings.{unread, reading_in, reading_of}
use Rattle.reader.specs.Refusals.{refused, accepted, answer}
use Rattle.reader.specs.Said.{located_by, reading_by}
use Rattle.reader.specs.State.{nowhere, column_at, continued, Locates, finished, Values, concluded}
use Rattle.reader.specs.declared.Located.{Located}
use Rattle.reader.specs.declared.Reading.{Reading}
use Rattle.refusal.proofs.Some.{not_none}
use Rattle.refusal.specs.Numbers.{number_of, detail_of}
use Rattle.refusal.specs.declared.Refusal.{Refusal}
use Rattle.reader.specs.Refusals.{Answer}
use Rattle.reader.specs.State.{LocatedSaid}
use Rattle.reader.specs.Readings.{ReadingSaid}
use Rattle.record.specs.Records.{cell}
use Rattle.record.specs.declared.Record.{Record}
use borrow.Author.Tests.{eq-eqb, ne_eqb}
use lib.ListN.{replicate, take}
use mathlib.Core.List.{List}
use mathlib.Core.Path.{◌≡◌, refl, sym, ap, ap₂, ◌∙◌, subst}

-- ---- the answer of a reading

module _ (file : List ℕ) (x : ReadingSaid) where
  pub concluded_no : (x.number ≡ 0 → ⊥) → refused x.number x.detail ≡ concluded file x
  unfolding concluded finished
  concluded_no n = rw (ne_eqb x.number 0 n)

  pub concluded_yes : x.number ≡ 0 → accepted (record_with x.layout (column_at x.layout file x.places) x.cells x.gradients) ≡ concluded file x
  unfolding concluded finished
  concluded_yes e = rw (eq-eqb x.number 0 e)

-- ---- the reading of the places

-- the answer of refusals 7 to 10 for a unit
abbrev judged_for : List ℕ → LocatedSaid → List ℕ → Answer
judged_for file x unit =
    answer (valued x.layout unit (part_of file x.row) (column_at x.layout file x.places))
    (column_record x.layout (column_at x.layout file x.places))

module _ (file unit : List ℕ) (x : LocatedSaid) where
  continued_no : (x.number ≡ 0 → ⊥) → refused x.number x.detail ≡ continued file unit x
  unfolding continued
  continued_no n = rw (ne_eqb x.number 0 n)

  continued_yes : x.number ≡ 0 → judged_for file x unit ≡ continued file unit x
  unfolding continued
  continued_yes e = rw (eq-eqb x.number 0 e)

-- ---- the reading that the definition gives

refused_in : (n d : ℕ) (file : List ℕ) → (n ≡ 0 → ⊥) → unread n d ≡ reading_in (refused n d) file
unfolding reading_in
refused_in n d file z = rw (ne_eqb n 0 z)

accepted_in : (r : Record) (file : List ℕ)
    → record { number = 0; detail = 0; layout = r.layout; row = row_place file; cells = r.cells; gradients = r.gradients; places = places_of r.layout file }
    ≡ reading_in (accepted r) file
unfolding reading_in
accepted_in r file = refl

pub made : (x : ReadingSaid) {n d : ℕ} {row : Span} {places : List Span} → x.number ≡ n → x.detail ≡ d → x.row ≡ row → x.places ≡ places
    → x ≡ record { number = n; detail = d; layout = x.layout; row = row; cells = x.cells; gradients = x.gradients; places = places }
made x n d row places = rw (sym n, sym d, sym row, sym places)

module _ (c i : ℕ) (plan file : List ℕ) where
  pub refused_reading : (n d : ℕ) {x : ReadingSaid} → x ≡ unread n d → (n ≡ 0 → ⊥) → refused n d ≡ read_of c i plan file → x ≡ reading_of c i plan file
  unfolding reading_of
  refused_reading n d x_is z e = x_is ∙ refused_in n d file z ∙ ap (λ (a : Answer). reading_in a file) e

  pub accepted_reading : (x : ReadingSaid) → x.number ≡ 0 → x.detail ≡ 0 → concluded file x ≡ read_of c i plan file → x.row ≡ row_place file
      → x.places ≡ places_of x.layout file → x ≡ reading_of c i plan file
  unfolding reading_of record_with
  accepted_reading x z d e row places =
      made x z d row places
      ∙ accepted_in (record_with x.layout (column_at x.layout file x.places) x.cells x.gradients) file
      ∙ ap (λ (a : Answer). reading_in a file) (concluded_yes file x z ∙ e)

-- ---- from the places to the reading

module _ (c i : ℕ) (plan file : List ℕ) (x : LocatedSaid) (h : Locates c i plan file x) where
  abbrev col : List (List ℕ)
  col = column_at x.layout file x.places

  -- a refusal of the plan or of the file's lines
  pub refused_located : (x.number ≡ 0 → ⊥)
      → record { number = x.number; detail = x.detail; layout = x.layout; row = x.row; cells = replicate 26 (cell Blank); gradients = replicate 16 no_triple; places = x.places }
      ≡ reading_of c i plan file
  refused_located n =
      let k = h.cleared n in
      refused_reading c i plan file x.number x.detail (rw (k.0, k.1, k.2)) n (continued_no file (take x.size x.unit) x n ∙ h.answers)

  -- what is judged of the values leads to the answer
  values_led : x.number ≡ 0 → (unit : List ℕ) → unit ≡ take x.size x.unit → (y : ReadingSaid) → Values x.layout unit file x.row x.places y
      → concluded file y ≡ read_of c i plan file
  unfolding concluded
  values_led z unit u y v =
      ap₂ (λ (l : Layout) (ps : List Span). finished l (column_at l file ps) y.number y.detail y.cells y.gradients) v.layout_is v.places_are
      ∙ v.judges ∙ ap (judged_for file x) u ∙ continued_yes file (take x.size x.unit) x z ∙ h.answers

  pub values_refused : x.number ≡ 0 → (unit : List ℕ) → unit ≡ take x.size x.unit → (y : ReadingSaid) → Values x.layout unit file x.row x.places y
      → (y.number ≡ 0 → ⊥) → {r : ReadingSaid} → r ≡ unread y.number y.detail → r ≡ reading_of c i plan file
  values_refused z unit u y v n r_is =
      refused_reading c i plan file y.number y.detail r_is n (concluded_no file y n ∙ values_led z unit u y v)

  pub values_read : x.number ≡ 0 → (unit : List ℕ) → unit ≡ take x.size x.unit → (y : ReadingSaid) → Values x.layout unit file x.row x.places y
      → y.number ≡ 0 → y.detail ≡ 0 → y ≡ reading_of c i plan file
  values_read z unit u y v n d =
      let k = h.exact z in
      accepted_reading c i plan file y n d (values_led z unit u y v) (v.row_is ∙ k.1)
      (v.places_are ∙ k.2 ∙ ap (λ (l : Layout). places_of l file) (sym v.layout_is))

-- a refusal of the plan or of the file's lines, as the code has it
pub not_located : (c i : ℕ) (plan file : List ℕ) (y : Result Located Refusal) → Locates c i plan file (located_by y) → (e : Refusal) → y ≡ Err e
    → {r : Result Reading Refusal} → r ≡ Err e → reading_by r ≡ reading_of c i plan file
not_located c i plan file y h e is r_is =
    let at : Locates c i plan file (nowhere (number_of e) (detail_of e)) = subst (λ (z : Result Located Refusal). Locates c i plan file (located_by z)) is h in
    ap reading_by r_is ∙ refused_located c i plan file (nowhere (number_of e) (detail_of e)) at (not_none e)
