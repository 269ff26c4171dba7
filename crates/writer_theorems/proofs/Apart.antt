-- THE THEOREM: two valid records with the same text are the same record. The banner tells the layout, the lines its column, and the column the record.
-- Assumes nothing.
use Prim.Native.Nat.{ℕ}
use Rattle.layout.specs.Banners.{banner_of}
use Rattle.layout.specs.Layouts.{labels_of, kinds_of, type_of}
use Rattle.layout.specs.declared.Layout.{Layout}
use Rattle.layout.specs.declared.Layout.TheVariants.{Market, Mfrr, Revocation, Generic, Exclusion, Limitation, Secondary, VoltVar, Rejection, Reserve}
use Rattle.text_lines.specs.Entries.{entries, column}
use Rattle.reader.specs.Messages.{given, good_of}
use Rattle.record.specs.Records.{typed, record_of}
use Rattle.record.specs.declared.Record.{Record}
use Rattle.writer_theorems.proofs.Records.{typed_back, record_back}
use Rattle.writer_theorems.proofs.RoundTrip.{file_back}
use Rattle.record_valid.specs.Valid.{texts_of, ValidAs, Valid}
use Rattle.value.specs.declared.Value.{Value}
use Rattle.writer_form.proofs.Values.{file_is}
use Rattle.writer_form.specs.Written.{written_of, file_of}
use lib.Dec.{eqb}
use lib.ListN.{get_or}
use mathlib.Core.Bool.{cond}
use mathlib.Core.List.{List, ◌++◌}
use mathlib.Core.Path.{◌≡◌, refl, sym, ap, ◌∙◌}

-- ---- the bytes at 25 and 34 tell the banners apart

told : ℕ → ℕ → Layout
told a b =
    cond (eqb a 67) (cond (eqb b 42) Market Mfrr)
    (cond (eqb a 82) (cond (eqb b 77) Revocation VoltVar)
    (cond (eqb a 69) (cond (eqb b 42) Generic Exclusion)
    (cond (eqb a 76) Limitation (cond (eqb a 32) Secondary (cond (eqb a 70) Rejection Reserve)))))

layout_from : List ℕ → Layout
layout_from s = told (get_or s 25 0) (get_or s 34 0)

banner_tells : (l : Layout) (s : List ℕ) → layout_from (banner_of l ++ s) ≡ l
unfolding layout_from told banner_of
banner_tells Market s = refl
banner_tells Mfrr s = refl
banner_tells Revocation s = refl
banner_tells Generic s = refl
banner_tells Exclusion s = refl
banner_tells Limitation s = refl
banner_tells Secondary s = refl
banner_tells VoltVar s = refl
banner_tells Rejection s = refl
banner_tells Reserve s = refl

written_tells : (l : Layout) (col : List (List ℕ)) → layout_from (written_of l col) ≡ l
unfolding written_of
written_tells l col = banner_tells l _

-- ---- from the text to the record

column_from : Layout → List ℕ → List (List ℕ)
column_from l file = column 1 (labels_of l) (entries (labels_of l) (given (type_of l) file))

record_from : Layout → List (List ℕ) → Record
record_from l col = record_of l col (good_of (typed 1 (kinds_of l) col))

text_record : List ℕ → Record
text_record file = record_from (layout_from file) (column_from (layout_from file) file)

text_tells : {r : Record} {vs : List Value} → ValidAs r vs → text_record (file_of r) ≡ r
unfolding text_record record_from column_from texts_of
text_tells {r} {vs} v =
    let l : layout_from (file_of r) ≡ r.layout = ap layout_from (file_is v) ∙ written_tells r.layout (texts_of r vs) in
    rw (l, (file_back v).column_is, typed_back 1 v.hold) (record_back v)

pub same_text : (r s : Record) → Valid r → Valid s → file_of r ≡ file_of s → r ≡ s
same_text r s v w e = sym (text_tells v.valid) ∙ ap text_record e ∙ text_tells w.valid
