-- What the reading of a file tells: every field has its place, the column of its values is what stands there, and it leads to the reader's answer.
-- Assumes nothing.
use Prim.Native.Nat.{ℕ}
use Rattle.layout.proofs.Labels.{few, labels_length}
use Rattle.layout.specs.Layouts.{labels_of, size_of, type_of}
use Rattle.layout.specs.declared.Layout.{Layout}
use Rattle.plan.specs.Plans.{plan_of, sought_of}
use Rattle.reader_fill.specs.Filled.{record_with}
use Rattle.reader_walk.proofs.Told.{Fields, fields_in, placed_by, column_by}
use Rattle.reader_walk.specs.State.{marks_in}
use Rattle.text_lines.specs.Entries.{entries, column}
use Rattle.text_lines.specs.Places.{Placed, column_in}
use Rattle.text_lines.specs.Spots.{row_place}
use Rattle.value_name.specs.declared.MessageType.{MessageType}
use Rattle.reader_accent.specs.Accents.{accents_of}
use Rattle.reader.proofs.Chosen.{type_in}
use Rattle.reader.proofs.Concluding.{concluded_no, concluded_yes}
use Rattle.reader.proofs.Firsts.{given_first, none_given, accepted_none, numbers}
use Rattle.reader.specs.Messages.{given, layout_in, entries_in, places_of, column_record}
use Rattle.reader.specs.Reader.{planned, body_column, record_in, answer_at, read_of}
use Rattle.reader.specs.Readings.{unread, reading_in, reading_of}
use Rattle.reader.specs.Refusals.{refused, accepted}
use Rattle.reader.specs.State.{column_at, concluded}
use Rattle.reader.specs.Refusals.{Answer}
use Rattle.reader.specs.Readings.{ReadingSaid}
use Rattle.record.specs.Records.{record_of}
use Rattle.record.specs.declared.Record.{Record}
use Rattle.text.proofs.Tests.{by_eq}
use borrow.Author.Tests.{eq-eqb, ne_eqb}
use mathlib.Core.List.{List}
use mathlib.Core.Path.{◌≡◌, refl, sym, ap, ◌∙◌, subst}
use native.Mathlib.Omega.{arith}

-- ---- a layout's places in a file

module _ (l : Layout) (file : List ℕ) where
  pub layout_fields : Fields file (labels_of l) (marks_in (accents_of (type_of l)) (labels_of l) file) (places_of l file)
      (entries (labels_of l) (given (type_of l) file))
  unfolding given
  layout_fields = fields_in (accents_of (type_of l)) file (labels_of l) (omega (arith, few l, labels_length l))

  pub places_placed : Placed (size_of l) file (places_of l file)
  places_placed = subst (λ (n : ℕ). Placed n file (places_of l file)) (labels_length l) (placed_by file (labels_of l) _ _ _ layout_fields)

  pub places_column : column_at l file (places_of l file) ≡ column 1 (labels_of l) (entries (labels_of l) (given (type_of l) file))
  places_column =
      ap (λ (n : ℕ). column_in n file (places_of l file)) (sym (labels_length l))
      ∙ column_by file (labels_of l) _ _ _ layout_fields (omega (arith, few l, labels_length l))

-- ---- the two sorts of readings

-- of a record: its places, its values and its triples
abbrev pub taken : Record → List ℕ → ReadingSaid
taken r file =
    record { number = 0; detail = 0; layout = r.layout; row = row_place file; cells = r.cells; gradients = r.gradients; places = places_of r.layout file }

in_refused : (a : Answer) (file : List ℕ) → (a.number ≡ 0 → ⊥) → reading_in a file ≡ unread a.number a.detail
unfolding reading_in
in_refused a file n = rw (ne_eqb a.number 0 n)

in_accepted : (a : Answer) (file : List ℕ) → a.number ≡ 0 → reading_in a file ≡ taken a.content file
unfolding reading_in
in_accepted a file e = rw (eq-eqb a.number 0 e)

-- the record of a file is that of the values at its places
record_back : (l : Layout) (col : List (List ℕ)) → record_with l col (column_record l col).cells (column_record l col).gradients ≡ column_record l col
unfolding record_with column_record record_of
record_back l col = refl

record_layout : (l : Layout) (col : List (List ℕ)) → (column_record l col).layout ≡ l
unfolding column_record record_of
record_layout l col = refl

module _ (c i : ℕ) (plan file : List ℕ) where
  abbrev a : Answer
  a = read_of c i plan file

  module _ (n : a.number ≡ 0 → ⊥) where
    pub reading_no : reading_of c i plan file ≡ unread a.number a.detail
    unfolding reading_of
    reading_no = in_refused a file n

    refused_is : refused a.number a.detail ≡ a
    unfolding read_of answer_at
    refused_is =
        let s = sought_of c i (plan_of plan) in
        let f = given_first (planned s file) (record_in s.message file) n in
        let e = f.says in
        ap (λ (x : Answer). refused x.number x.detail) e ∙ sym e

  module _ (z : a.number ≡ 0) where
    pub reading_yes : reading_of c i plan file ≡ taken a.content file
    unfolding reading_of
    reading_yes = in_accepted a file z

    abbrev t : MessageType
    t = (sought_of c i (plan_of plan)).message

    abbrev l : Layout
    l = layout_in t (given t file)

    abbrev col : List (List ℕ)
    col = body_column (sought_of c i (plan_of plan)).message file

    pub accepted_is : a ≡ accepted (column_record l col)
    unfolding read_of answer_at record_in
    accepted_is =
        let s = sought_of c i (plan_of plan) in
        none_given (record_in s.message file) (accepted_none (planned s file) (record_in s.message file) (numbers s file) z)

    pub content_is : a.content ≡ column_record l col
    content_is = ap (λ (x : Answer). x.content) accepted_is

    pub layout_is : a.content.layout ≡ l
    layout_is = ap (λ (r : Record). r.layout) content_is ∙ record_layout l col

    pub column_is : column_at a.content.layout file (places_of a.content.layout file) ≡ col
    unfolding entries_in
    column_is = ap (λ (k : Layout). column_at k file (places_of k file)) layout_is ∙ places_column l file
        ∙ ap (λ (u : MessageType). column 1 (labels_of l) (entries (labels_of l) (given u file))) (type_in t (given t file))

    -- and its record is that of its values
    pub record_is : record_with a.content.layout (column_at a.content.layout file (places_of a.content.layout file)) a.content.cells a.content.gradients
        ≡ a.content
    record_is = rw (column_is, layout_is, content_is) (record_back l col)

  pub reading_answers : concluded file (reading_of c i plan file) ≡ a
  reading_answers =
      by_eq a.number 0
      (λ z. ap (concluded file) (reading_yes z) ∙ sym (concluded_yes file (taken a.content file) refl) ∙ ap accepted (record_is z ∙ content_is z) ∙ sym (accepted_is z))
      (λ n. ap (concluded file) (reading_no n) ∙ sym (concluded_no file (unread a.number a.detail) n) ∙ refused_is n)

  pub reading_placed : (reading_of c i plan file).number ≡ 0 → Placed (size_of (reading_of c i plan file).layout) file (reading_of c i plan file).places
  reading_placed e =
      by_eq a.number 0 (λ z. rw (reading_yes z) (places_placed a.content.layout file))
      (λ n. absurd (n (sym (ap (λ (x : ReadingSaid). x.number) (reading_no n)) ∙ e)))

-- ---- the same of what the code has

module _ (c i : ℕ) (plan file : List ℕ) (x : ReadingSaid) (is : x ≡ reading_of c i plan file) where
  pub answers_of : concluded file x ≡ read_of c i plan file
  answers_of = ap (concluded file) is ∙ reading_answers c i plan file

  pub placed_of : x.number ≡ 0 → Placed (size_of x.layout) file x.places
  placed_of = rw is (reading_placed c i plan file)
