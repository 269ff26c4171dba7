-- Where a time stands, as the functions tell it: each way to an answer, and that the answer's part lies in its text. Assumes nothing.
use Rattle.std.specs.Prelude.{Result, Ok, Err}
use Rattle.std.specs.Result.{result_err}
use Prim.Native.Nat.{ℕ, ◌≤◌}
use Rattle.value_ask.specs.Values.{is_filled}
use Rattle.report_brief.specs.Brief.{unit_of}
use Rattle.reader_fill.specs.Filled.{record_with}
use Rattle.layout.specs.Layouts.{is_market}
use Rattle.layout.specs.Rows.{text_at}
use Rattle.layout.specs.declared.Layout.{Layout}
use Rattle.reader.proofs.Concluding.{concluded_no, concluded_yes}
use Rattle.reader.specs.Messages.{given, layout_in, places_of, column_record}
use Rattle.reader.specs.Reader.{body_column, record_in, read_of}
use Rattle.reader.specs.Refusals.{refused, accepted}
use Rattle.reader.specs.Readings.{reading_of}
use Rattle.reader.specs.State.{column_at}
use Rattle.reader.specs.Refusals.{Answer}
use Rattle.reader.specs.Readings.{ReadingSaid}
use Rattle.reader_theorems.proofs.Readings.{Reads, reads_of}
use Rattle.record.specs.Records.{field_of}
use Rattle.record.specs.declared.Record.{Record}
use Rattle.times_sheet.proofs.Sheets.{for_good, sheet_part_lem}
use Rattle.times_sheet.specs.Sheet.{is_for, sheet_part}
use Rattle.times_sheet.specs.declared.Part.{Part}
use Rattle.times_sheet.specs.declared.Which.{Which}
use Rattle.text.specs.Bytes.{part}
use Rattle.text_lines.specs.Places.{span_at}
use Rattle.text_lines.specs.declared.Span.{Span}
use Rattle.times.proofs.Fields.{time_holds}
use Rattle.layout.proofs.Markets.{market_is}
use Rattle.times.proofs.Taken.{Taken, taken}
use Rattle.times.proofs.Units.{unit_is}
use Rattle.times.specs.Times.{field_no, time_place, in_file, in_sheet, time_in, time_of, part_in, StandsIn, time_refusal, time_by, refusal_by}
use Rattle.times.specs.declared.Time.{Time}
use Rattle.times.specs.declared.Time.TheVariants.{InFile, InSheet}
use Rattle.refusal.specs.declared.Refusal.{Refusal}
use Rattle.times.specs.Times.TimeSaid.{File, Sheet, Refused}
use Rattle.times.specs.Times.{TimeSaid}
use borrow.Author.Tests.{ne_eqb}
use lib.Dec.{eqb}
use lib.ListN.{length}
use mathlib.Core.Bool.{Bool, true, false, cond}
use mathlib.Core.List.{List, [], ◌∷◌}
use mathlib.Core.Path.{◌≡◌, refl, sym, ap, ◌∙◌, subst}
use native.Mathlib.Omega.{arith}

-- ---- from what the reader judged

module _ (w : Which) (ca ioa : ℕ) (plan file sheet : List ℕ) (x : ReadingSaid) (is : x ≡ reading_of ca ioa plan file) where
  reads : Reads ca ioa plan file x
  reads = reads_of ca ioa plan file x is

  abbrev time : TimeSaid
  time = time_of w ca ioa plan file sheet

  from_answer : (a : Answer) → a ≡ read_of ca ioa plan file → time_in w a file sheet ≡ time
  unfolding time_of
  from_answer a e = ap (λ (b : Answer). time_in w b file sheet) e

  pub refused_told : (x.number ≡ 0 → ⊥) → Refused x.number x.detail ≡ time
  unfolding time_in
  refused_told n = rw (ne_eqb x.number 0 n) at (from_answer (refused x.number x.detail) (concluded_no file x n ∙ reads.answers))

  module _ (yes : x.number ≡ 0) where
    abbrev column : List (List ℕ)
    column = column_at x.layout file x.places

    abbrev body : Record
    body = record_with x.layout column x.cells x.gradients

    answer_is : accepted body ≡ read_of ca ioa plan file
    answer_is = concluded_yes file x yes ∙ reads.answers

    was_taken : Taken (read_of ca ioa plan file) file
    was_taken = taken ca ioa plan file (sym (ap (λ (a : Answer). a.number) answer_is))

    body_as : body ≡ column_record (layout_in was_taken.message (given was_taken.message file)) (body_column was_taken.message file)
    unfolding record_in
    body_as = ap (λ (a : Answer). a.content) answer_is ∙ was_taken.content_is

    -- the tests, one after another
    module _ (b : Bool) (market : b ≡ is_market x.layout) where
      pub not_market : b ≡ false → Refused 16 0 ≡ time
      unfolding time_in record_with
      not_market n = rw (sym market, n) at (from_answer (accepted body) answer_is)

      module _ (u : List ℕ) (g : Bool) (unit : u ≡ text_at column 2) (good : g ≡ is_for u sheet) (yes₂ : b ≡ true) where
        good_is : g ≡ is_for (unit_of body) sheet
        good_is =
            good
            ∙ ap (λ (t : List ℕ). is_for t sheet)
            (unit ∙ sym (unit_is x.layout (layout_in was_taken.message (given was_taken.message file)) column (body_column was_taken.message file) x.cells x.gradients body_as (market_is x.layout (sym market ∙ yes₂)) (reads.readable yes) was_taken.agreed.values))

        market_yes : is_market x.layout ≡ true
        market_yes = sym market ∙ yes₂

        pub bad_sheet : g ≡ false → Refused 14 0 ≡ time
        unfolding time_in record_with
        bad_sheet n = rw (market_yes, sym good_is, n) at (from_answer (accepted body) answer_is)

        module _ (k : ℕ) (f : Bool) (field : k ≡ field_no w) (filled : f ≡ is_filled (field_of x.cells k)) (yes₃ : g ≡ true) where
          good_yes : is_for (unit_of body) sheet ≡ true
          good_yes = sym good_is ∙ yes₃

          filled_is : f ≡ is_filled (field_of x.cells (field_no w))
          filled_is = filled ∙ ap (λ (n : ℕ). is_filled (field_of x.cells n)) field

          -- the reader's place of the field
          place_is : span_at x.places k ≡ time_place w file
          place_is =
              ap (span_at x.places) field
              ∙ ap (λ (ps : List Span). span_at ps (field_no w))
              (reads.places_are yes ∙ ap (λ (l : Layout). places_of l file) (market_is x.layout market_yes))

          pub in_file_told : f ≡ true → File (span_at x.places k).from (span_at x.places k).to ≡ time
          unfolding time_in record_with
          in_file_told y =
              ap in_file place_is
              ∙ rw (market_yes, good_yes, sym filled_is, y) at (from_answer (accepted body) answer_is)

          pub in_sheet_told : f ≡ false → (p : Part) → p ≡ sheet_part w sheet → Sheet p.from p.to ≡ time
          unfolding time_in record_with
          in_sheet_told y p e = ap in_sheet e ∙ rw (market_yes, good_yes, sym filled_is, y) at (from_answer (accepted body) answer_is)

-- ---- the part that was told

module _ (file sheet : List ℕ) (t : Result Time Refusal) (p : Part) where
  pub file_within : t ≡ Ok (InFile p) → StandsIn file sheet (time_by t) → (p.from ≤ p.to) × (p.to ≤ length file)
  file_within e h = subst (λ (x : Result Time Refusal). StandsIn file sheet (time_by x)) e h

  pub sheet_within : t ≡ Ok (InSheet p) → StandsIn file sheet (time_by t) → (p.from ≤ p.to) × (p.to ≤ length sheet)
  sheet_within e h = subst (λ (x : Result Time Refusal). StandsIn file sheet (time_by x)) e h

  pub file_part : t ≡ Ok (InFile p) → part p.from p.to file ≡ part_in (time_by t) file sheet
  file_part e = ap (λ (x : Result Time Refusal). part_in (time_by x) file sheet) (sym e)

  pub sheet_part_of : t ≡ Ok (InSheet p) → part p.from p.to sheet ≡ part_in (time_by t) file sheet
  sheet_part_of e = ap (λ (x : Result Time Refusal). part_in (time_by x) file sheet) (sym e)

pub refusal_said : (t : Result Time Refusal) → refusal_by (result_err t) ≡ time_refusal (time_by t)
refusal_said (Ok (InFile p)) = refl
refusal_said (Ok (InSheet p)) = refl
refusal_said (Err e) = refl

-- ---- it lies in the file or in the sheet

within_cond : (file sheet : List ℕ) (b : Bool) (t u : TimeSaid) → (b ≡ true → StandsIn file sheet t) → (b ≡ false → StandsIn file sheet u)
    → StandsIn file sheet (cond b t u)
within_cond file sheet true t u f g = f refl
within_cond file sheet false t u f g = g refl

time_in_within : (w : Which) (a : Answer) (file sheet : List ℕ) → StandsIn file sheet (time_in w a file sheet)
unfolding time_in
time_in_within w a file sheet =
    within_cond file sheet (eqb a.number 0) _ (Refused a.number a.detail)
    (λ e.
    within_cond file sheet (is_market a.content.layout) _ (Refused 16 0)
    (λ e.
    within_cond file sheet (is_for (unit_of a.content) sheet) _ (Refused 14 0)
    (λ g.
    within_cond file sheet (is_filled (field_of a.content.cells (field_no w))) (in_file (time_place w file)) (in_sheet (sheet_part w sheet))
    (λ e. let h = time_holds w file in (h.ordered, h.inside))
    (λ e. let h = sheet_part_lem sheet (for_good (unit_of a.content) sheet g) w in (omega (arith, h.ordered), h.inside)))
    (λ e. omega arith))
    (λ e. omega arith))
    (λ e. omega arith)

module _ (w : Which) (ca ioa : ℕ) (plan file sheet : List ℕ) where
  pub time_within : StandsIn file sheet (time_of w ca ioa plan file sheet)
  unfolding time_of
  time_within = time_in_within w (read_of ca ioa plan file) file sheet

  -- of what was located
  pub located_within : (t : TimeSaid) → t ≡ time_of w ca ioa plan file sheet → StandsIn file sheet t
  located_within t e = subst (StandsIn file sheet) (sym e) time_within

  pub located_part : (t : TimeSaid) (r : List ℕ) → t ≡ time_of w ca ioa plan file sheet → r ≡ part_in t file sheet
      → r ≡ part_in (time_of w ca ioa plan file sheet) file sheet
  located_part t r e f = f ∙ ap (λ (x : TimeSaid). part_in x file sheet) e
