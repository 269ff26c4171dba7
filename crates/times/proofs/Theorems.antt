-- THE THEOREMS: where a time stands. In the file it is the record's value, in the sheet a number, where the record has none; the two calls refuse alike;
-- and a part is empty exactly on refusal. Assumes nothing.
use Rattle.std.specs.Prelude.{Some}
use Prim.Native.Nat.{ℕ, suc, ◌+◌, ◌≤◌, ◌<◌}
use Rattle.value_ask.proofs.Others.{blank_is}
use Rattle.value_ask.specs.Values.{is_filled}
use Rattle.report_brief.specs.Brief.{unit_of}
use Rattle.layout.proofs.Labels.{labels_length}
use Rattle.layout.specs.Fields.{command, technical, market}
use Rattle.layout.specs.Layouts.{is_market, fields_of, labels_of, kinds_of, kind_at, size_of, type_of}
use Rattle.layout.specs.declared.Layout.TheVariants.{Market}
use Rattle.layout.specs.declared.Layout.{Layout}
use Rattle.text_lines.specs.Entries.{entries, value_at, column}
use Rattle.text_lines.specs.Lines.{Param}
use Rattle.value_name.specs.declared.MessageType.{MessageType}
use Rattle.value_name.specs.declared.MessageType.TheVariants.{Cb}
use Rattle.reader.proofs.Chosen.{type_in}
use Rattle.reader.specs.Messages.{given, layout_in, entries_in, values_of, is_bad, column_record}
use Rattle.reader.specs.Reader.{record_in, read_of}
use Rattle.reader.specs.Refusals.{Answer}
use Rattle.record.specs.Records.{field_of, record_of}
use Rattle.record.specs.declared.Record.{Record}
use Rattle.times_sheet.proofs.Sheets.{for_good, sheet_part_lem}
use Rattle.times_sheet.specs.Sheet.{is_number, is_for, sheet_part}
use Rattle.times_sheet.specs.declared.Part.{Part}
use Rattle.times_sheet.specs.declared.Which.TheVariants.{StartUp, Ramp}
use Rattle.times_sheet.specs.declared.Which.{Which}
use Rattle.text.proofs.Cuts.{length_part}
use Rattle.text.specs.Bytes.{part}
use Rattle.text_lines.specs.declared.Span.{Span}
use Rattle.times.proofs.Fields.{time_holds}
use Rattle.layout.proofs.Markets.{market_is}
use Rattle.times.proofs.Taken.{Taken, taken, field_read, column_value}
use Rattle.times.specs.Times.{field_no, time_place, in_file, in_sheet, time_in, time_of, part_in, time_refusal}
use Rattle.times.specs.Times.TimeSaid.{File, Sheet, Refused}
use Rattle.times.specs.Times.{TimeSaid}
use Rattle.value.specs.Kinds.{value_of}
use Rattle.value.specs.declared.Value.TheVariants.{Blank}
use Rattle.value.specs.declared.Value.{Value}
use borrow.Author.Tests.{eqb-true, eqb-false, ltb-true}
use lib.Dec.{eqb}
use lib.ListN.{length}
use mathlib.Core.Bool.{Bool, true, false, cond, false≢true}
use mathlib.Core.List.{List, [], ◌∷◌}
use mathlib.Core.Path.{◌≡◌, refl, sym, ap, ap₂, ◌∙◌, subst}
use native.Mathlib.Omega.{arith}

-- ---- which way an answer came

-- by the four tests: taken, market, a good sheet, filled
chosen : Bool → Bool → Bool → Bool → Span → Part → ℕ → ℕ → TimeSaid
chosen b m g f p q n d = cond b (cond m (cond g (cond f (in_file p) (in_sheet q)) (Refused 14 0)) (Refused 16 0)) (Refused n d)

apart_file : {n d from to : ℕ} → Refused n d ≡ File from to → ⊥
apart_file e = let z : ◌≡◌ {A = ℕ} 0 1 = cc in omega arith

apart_sheet : {n d from to : ℕ} → Refused n d ≡ Sheet from to → ⊥
apart_sheet e = let z : ◌≡◌ {A = ℕ} 0 1 = cc in omega arith

apart_both : {from to a b : ℕ} → File from to ≡ Sheet a b → ⊥
apart_both e = let z : ◌≡◌ {A = ℕ} 0 1 = cc in omega arith

by_file : (b m g f : Bool) (p : Span) (q : Part) (n d from to : ℕ) → chosen b m g f p q n d ≡ File from to
    → (b ≡ true) × (m ≡ true) × (f ≡ true) × (p.from ≡ from) × (p.to ≡ to)
unfolding chosen
by_file true true true true p q n d from to e = (refl, refl, refl, cc, cc)
by_file true true true false p q n d from to e = absurd (apart_both (sym e))
by_file true true false f p q n d from to e = absurd (apart_file e)
by_file true false g f p q n d from to e = absurd (apart_file e)
by_file false m g f p q n d from to e = absurd (apart_file e)

by_sheet : (b m g f : Bool) (p : Span) (q : Part) (n d from to : ℕ) → chosen b m g f p q n d ≡ Sheet from to
    → (g ≡ true) × (f ≡ false) × (q.from ≡ from) × (q.to ≡ to)
unfolding chosen
by_sheet true true true true p q n d from to e = absurd (apart_both e)
by_sheet true true true false p q n d from to e = (refl, refl, cc, cc)
by_sheet true true false f p q n d from to e = absurd (apart_sheet e)
by_sheet true false g f p q n d from to e = absurd (apart_sheet e)
by_sheet false m g f p q n d from to e = absurd (apart_sheet e)

-- a refusal has a number
by_refusal : (b m g f : Bool) (p : Span) (q : Part) (n d k j : ℕ) → (b ≡ false → n ≡ 0 → ⊥) → chosen b m g f p q n d ≡ Refused k j → (k ≡ 0 → ⊥)
unfolding chosen
by_refusal true true true true p q n d k j h e = absurd (apart_file (sym e))
by_refusal true true true false p q n d k j h e = absurd (apart_sheet (sym e))
by_refusal true true false f p q n d k j h e = let z : 14 ≡ k = cc in λ y. omega arith
by_refusal true false g f p q n d k j h e = let z : 16 ≡ k = cc in λ y. omega arith
by_refusal false m g f p q n d k j h e = let z : n ≡ k = cc in λ y. h refl (z ∙ y)

-- and it goes by the first three tests
same_chosen : (b m g f h : Bool) (p : Span) (q : Part) (s : Span) (t : Part) (n d : ℕ)
    → time_refusal (chosen b m g f p q n d) ≡ time_refusal (chosen b m g h s t n d)
unfolding chosen
same_chosen true true true true true p q s t n d = refl
same_chosen true true true true false p q s t n d = refl
same_chosen true true true false true p q s t n d = refl
same_chosen true true true false false p q s t n d = refl
same_chosen true true false f h p q s t n d = refl
same_chosen true false g f h p q s t n d = refl
same_chosen false m g f h p q s t n d = refl

-- ---- the field of the record

-- the value of a field is what its kind reads of the text of its entry
entry_read : (l : Layout) (ps : List Param) → is_bad (values_of l (column 1 (labels_of l) (entries (labels_of l) ps))) ≡ false → (j : ℕ) → j < size_of l
    → value_of (kind_at l (suc j)) (value_at (suc j) (entries (labels_of l) ps))
    ≡ Some (field_of (column_record l (column 1 (labels_of l) (entries (labels_of l) ps))).cells (suc j))
entry_read l ps e j h =
    let es = entries (labels_of l) ps in
    let n : 1 + j ≡ suc j = omega arith in
    let i : j < length (labels_of l) = omega (arith, labels_length l) in
    ap (value_of (kind_at l (suc j))) (sym (column_value 1 (labels_of l) es j i ∙ ap (λ (m : ℕ). value_at m es) n)) ∙ field_read l (column 1 (labels_of l) es) e j h

-- of a market file that was taken
module _ (a : Answer) (file : List ℕ) (t : Taken a file) (m : is_market a.content.layout ≡ true) where
  abbrev lay : Layout
  lay = layout_in t.message (given t.message file)

  is_market_lem : lay ≡ Market
  unfolding record_in column_record record_of
  is_market_lem = sym (ap (λ (r : Record). r.layout) t.content_is) ∙ market_is a.content.layout m

  is_cb : t.message ≡ Cb
  is_cb = sym (type_in t.message (given t.message file)) ∙ ap type_of is_market_lem

  market_read : (j : ℕ) → j < size_of Market
      → value_of (kind_at Market (suc j)) (value_at (suc j) (entries (labels_of Market) (given Cb file))) ≡ Some (field_of a.content.cells (suc j))
  unfolding record_in entries_in
  market_read j h =
      let i : j < size_of lay = subst (λ (x : Layout). j < size_of x) (sym is_market_lem) h in
      subst (λ (u : MessageType). value_of (kind_at Market (suc j)) (value_at (suc j) (entries (labels_of Market) (given u file))) ≡ Some (field_of a.content.cells (suc j))) is_cb
      (subst (λ (x : Layout). value_of (kind_at x (suc j)) (value_at (suc j) (entries (labels_of x) (given t.message file))) ≡ Some (field_of a.content.cells (suc j))) is_market_lem
      (entry_read lay (given t.message file) t.agreed.values j i ∙ ap (λ (r : Record). Some (field_of r.cells (suc j))) (sym t.content_is)))

time_read : (w : Which) (a : Answer) (file : List ℕ) → Taken a file → is_market a.content.layout ≡ true
    → value_of (kind_at Market (field_no w)) (value_at (field_no w) (entries (labels_of Market) (given Cb file))) ≡ Some (field_of a.content.cells (field_no w))
unfolding fields_of market command technical
time_read StartUp a file t m = market_read a file t m 12 (ltb-true _ _ refl)
time_read Ramp a file t m = market_read a file t m 13 (ltb-true _ _ refl)

-- a field that is filled has a text
filled_some : (w : Which) (s : List ℕ) (v : Value) → value_of (kind_at Market (field_no w)) s ≡ Some v → is_filled v ≡ true → 1 ≤ length s
unfolding value_of kind_at kinds_of fields_of market command technical
filled_some StartUp [] v e f = let z : Blank ≡ v = cc in absurd (false≢true (ap is_filled z ∙ f))
filled_some StartUp (b ∷ s) v e f = omega arith
filled_some Ramp [] v e f = let z : Blank ≡ v = cc in absurd (false≢true (ap is_filled z ∙ f))
filled_some Ramp (b ∷ s) v e f = omega arith

-- ---- the theorems

module _ (w : Which) (ca ioa : ℕ) (plan file sheet : List ℕ) where
  abbrev answer : Answer
  answer = read_of ca ioa plan file

  abbrev value : Value
  value = field_of answer.content.cells (field_no w)

  abbrev time : TimeSaid
  time = time_of w ca ioa plan file sheet

  time_is : chosen (eqb answer.number 0) (is_market answer.content.layout) (is_for (unit_of answer.content) sheet) (is_filled value) (time_place w file) (sheet_part w sheet) answer.number answer.detail ≡ time
  unfolding chosen time_of time_in
  time_is = refl

  -- in the file: the part, read as the field's kind, is the record's value
  pub in_file_lem : (from to : ℕ) → time ≡ File from to
      → (answer.number ≡ 0) × (value_of (kind_at Market (field_no w)) (part from to file) ≡ Some value) × (from < to) × (to ≤ length file)
  in_file_lem from to e =
      let c = by_file _ _ _ _ _ _ _ _ from to (time_is ∙ e) in
      let n = eqb-true answer.number 0 c.0 in
      let h = time_holds w file in
      let k : to ≤ length file = omega (arith, h.inside, c.4) in
      let text : part from to file ≡ value_at (field_no w) (entries (labels_of Market) (given Cb file)) =
      ap₂ (λ (a b : ℕ). part a b file) (sym c.3) (sym c.4) ∙ h.holds in
      let read = ap (value_of (kind_at Market (field_no w))) text ∙ time_read w answer file (taken ca ioa plan file n) c.1 in
      let some = filled_some w (part from to file) value read c.2 in
      (n, read, omega (arith, some, length_part from to file k), k)

  -- in the sheet: the record has no value, and the part is a number
  pub in_sheet_lem : (from to : ℕ) → time ≡ Sheet from to → (value ≡ Blank) × (is_number (part from to sheet) ≡ true) × (from < to) × (to ≤ length sheet)
  in_sheet_lem from to e =
      let c = by_sheet _ _ _ _ _ _ _ _ from to (time_is ∙ e) in
      let h = sheet_part_lem sheet (for_good (unit_of answer.content) sheet c.0) w in (
        blank_is value c.1,
        ap₂ (λ (a b : ℕ). is_number (part a b sheet)) (sym c.2) (sym c.3) ∙ h.number,
        omega (arith, h.ordered, c.2, c.3),
        omega (arith, h.inside, c.3),
      )

  part_some : (t : TimeSaid) → time ≡ t → (time_refusal t).number ≡ 0 → 1 ≤ length (part_in t file sheet)
  part_some (File from to) e n = let p = in_file_lem from to e in omega (arith, p.2, length_part from to file p.3)
  part_some (Sheet from to) e n = let p = in_sheet_lem from to e in omega (arith, p.2, length_part from to sheet p.3)
  part_some (Refused k d) e n = absurd (by_refusal _ _ _ _ _ _ _ _ k d (λ z. eqb-false answer.number 0 z) (time_is ∙ e) n)

  -- a part is empty exactly on refusal
  pub empty_when_refused : ((time_refusal time).number ≡ 0 → 1 ≤ length (part_in time file sheet)) × (((time_refusal time).number ≡ 0 → ⊥) → part_in time file sheet ≡ [])
  empty_when_refused = (part_some time refl, part_none time)
    where
      part_none : (t : TimeSaid) → ((time_refusal t).number ≡ 0 → ⊥) → part_in t file sheet ≡ []
      part_none (File from to) n = absurd (n refl)
      part_none (Sheet from to) n = absurd (n refl)
      part_none (Refused k d) n = refl

-- no refusal depends on which time is asked for
pub same_refusal : (ca ioa : ℕ) (plan file sheet : List ℕ)
    → time_refusal (time_of StartUp ca ioa plan file sheet) ≡ time_refusal (time_of Ramp ca ioa plan file sheet)
same_refusal ca ioa plan file sheet =
    ap time_refusal (sym (time_is StartUp ca ioa plan file sheet)) ∙ same_chosen _ _ _ _ _ _ _ _ _ _ _ ∙ ap time_refusal (time_is Ramp ca ioa plan file sheet)
