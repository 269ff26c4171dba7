-- What acceptance says of a file: no condition of refusals 2 to 10 holds, the row and the unit are the body's byte for byte, and the record is the body's.
-- Assumes nothing.
use Rattle.std.specs.Prelude.{None, Option, Some}
use Prim.Native.Nat.{ℕ, ◌≤◌}
use Rattle.layout.specs.Layouts.{labels_of}
use Rattle.layout.specs.Rows.{text_at, row_of}
use Rattle.reader_accent.specs.Accents.{accents_of}
use Rattle.text_lines.proofs.Allowed.{allowed_length}
use Rattle.text_lines.specs.Entries.{again, missing}
use Rattle.text_lines.specs.Lines.{allowed_upto, texts, framed}
use Rattle.value_name.specs.declared.MessageType.{MessageType}
use Rattle.reader.proofs.Firsts.{none_given, accepted_none, reading_numbered}
use Rattle.reader.specs.Messages.{given, row_in, layout_in, entries_in, values_of, is_bad}
use Rattle.reader.specs.Reader.{is_there, valued, labelled, reading, body_column, record_in, message_of}
use Rattle.reader.specs.Refusals.{accepted as taken}
use Rattle.text.specs.Refusals.{Refusal, NoneHolds, next}
use Rattle.record_rules.specs.Rules.{broken_in}
use Rattle.text.proofs.Cuts.{same_true}
use Rattle.text.proofs.Tests.{within_tells}
use Rattle.text.specs.Bytes.{same, within}
use borrow.Author.Tests.{ltb-false, not-false}
use lib.Dec.{ltb}
use lib.ListN.{length}
use mathlib.Core.Bool.{true, false, not}
use mathlib.Core.List.{List, [], ◌∷◌}
use mathlib.Core.Path.{◌≡◌, refl}
use native.Mathlib.Omega.{arith}

pub record Accepted (t : MessageType) (unit file : List ℕ) : Type 0 where
  pub some_bytes : 1 ≤ length file
  pub not_long : length file ≤ 8192
  pub clean : allowed_upto (accents_of t) file ≡ length file
  pub frame : framed (texts file) ≡ true
  pub once : again [] (entries_in t file) ≡ None
  pub complete : missing 1 (labels_of (layout_in t (given t file))) (entries_in t file) ≡ 0
  pub values : is_bad (values_of (layout_in t (given t file)) (body_column t file)) ≡ false
  pub rules : broken_in (record_in t file) ≡ 0
  pub unit_is : unit ≡ text_at (body_column t file) 2
  pub row_is : row_in file ≡ row_of (layout_in t (given t file)) (body_column t file)
  pub answered : message_of t unit file ≡ taken (record_in t file)

top : {x : Refusal} {xs : List Refusal} → NoneHolds (x ∷ xs) → x.holds ≡ false
top (next e n) = e

below : {x : Refusal} {xs : List Refusal} → NoneHolds (x ∷ xs) → NoneHolds xs
below (next e n) = n

not_there : (o : Option ℕ) → is_there o ≡ false → o ≡ None
not_there None e = refl
not_there (Some k) e = cc

not_some : (n : ℕ) → ltb 0 n ≡ false → n ≡ 0
not_some n e = omega (arith, ltb-false 0 n e)

not_other : (s t : List ℕ) → not (same s t) ≡ false → s ≡ t
not_other s t e = same_true s t (not-false (same s t) e)

module _ (t : MessageType) (unit file : List ℕ) (h : (message_of t unit file).number ≡ 0) where
  none_holds : NoneHolds (reading t unit file)
  unfolding message_of
  none_holds = accepted_none (reading t unit file) (record_in t file) (reading_numbered t unit file) h

  pub record_is : message_of t unit file ≡ taken (record_in t file)
  unfolding message_of
  record_is = none_given (record_in t file) none_holds

  pub accepted : Accepted t unit file
  unfolding reading labelled valued record_in
  accepted =
      let n2 = none_holds in
      let n3 = below n2 in
      let n4 = below n3 in
      let n5 = below n4 in
      let n6 = below n5 in
      let n7 = below n6 in
      let n8 = below n7 in
      let n9 = below n8 in
      let size = (within_tells 1 8192 (length file)).0 (not-false (within 1 8192 (length file)) (top n2)) in
      record {
        some_bytes = size.0;
        not_long = size.1;
        clean = omega (arith, allowed_length (accents_of t) file, ltb-false (allowed_upto (accents_of t) file) (length file) (top n3));
        frame = not-false (framed (texts file)) (top n4);
        once = not_there (again [] (entries_in t file)) (top n5);
        complete = not_some (missing 1 (labels_of (layout_in t (given t file))) (entries_in t file)) (top n6);
        values = top n7;
        rules = not_some (broken_in (record_in t file)) (top n8);
        unit_is = not_other unit (text_at (body_column t file) 2) (top n9);
        row_is = not_other (row_in file) (row_of (layout_in t (given t file)) (body_column t file)) (top (below n9));
        answered = record_is;
      }

  -- the row is the body's values byte for byte
  pub row_agrees : row_in file ≡ row_of (layout_in t (given t file)) (body_column t file)
  row_agrees = accepted.row_is

  pub unit_agrees : unit ≡ text_at (body_column t file) 2
  unit_agrees = accepted.unit_is

  pub all_values : is_bad (values_of (layout_in t (given t file)) (body_column t file)) ≡ false
  all_values = accepted.values
