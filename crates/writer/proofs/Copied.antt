-- Where each value stands as it is written, the written form of the record is that of the file's own texts. Assumes nothing.
use Prim.Native.Nat.{ℕ, suc, ◌-◌, ◌≤◌, ◌<◌}
use Rattle.reader_fill.proofs.Stored.{SuitsAs, suits}
use Rattle.reader_fill.specs.Filled.{record_with}
use Rattle.layout.proofs.Labels.{kinds_length, kind_at_lem, few}
use Rattle.layout.specs.Layouts.{kinds_of, kind_at, no_kind, size_of, type_of}
use Rattle.layout.specs.Rows.{text_at}
use Rattle.layout.specs.declared.Layout.{Layout}
use Rattle.text_lines.proofs.Columns.{column_length}
use Rattle.value_list.specs.Forms.{gradients_in, kept_triples}
use Rattle.value_list.specs.declared.Triple.{Triple}
use Rattle.value_name.specs.declared.MessageType.{MessageType}
use Rattle.reader.proofs.Concluding.{concluded_yes}
use Rattle.reader.specs.Messages.{values_of, good_of, column_record}
use Rattle.reader.specs.Reader.{read_of}
use Rattle.reader.specs.Readings.{reading_of}
use Rattle.reader.specs.State.{column_at}
use Rattle.reader.specs.Refusals.{Answer}
use Rattle.reader.specs.Readings.{ReadingSaid}
use Rattle.reader_theorems.proofs.Held.{ReadAll, read_all}
use Rattle.reader_theorems.proofs.Held.ReadAll.{end, next}
use Rattle.reader_theorems.proofs.Readings.{Reads, reads_of}
use Rattle.reader_theorems.proofs.Validity.{good_of_lem, read_short}
use Rattle.layout.specs.FieldNumbers.{reason_field, note_field, gradients_field}
use Rattle.record.specs.Records.{cell, cells_of, record_of}
use Rattle.record.specs.declared.Cell.{Cell}
use Rattle.record.specs.declared.Record.{Record}
use Rattle.text.proofs.Tests.{and_parts}
use Rattle.value.proofs.Own.{Beside, read_own}
use Rattle.value.specs.Texts.{Rooms, rooms, value_text, is_written}
use Rattle.value.specs.declared.Kind.{Kind}
use Rattle.value.specs.declared.Shape.{Shape}
use Rattle.value.specs.declared.Shape.TheVariants.{IsId, IsUnit, IsWhen, IsAmount, IsCount, IsReason, IsNote, IsWord}
use Rattle.value.specs.declared.Shape.TheVariants.{IsProfile, IsBands, IsTriples, IsVoltage, IsRegulator, IsChange, IsReactive}
use Rattle.value.specs.declared.Value.{Value}
use Rattle.value.specs.declared.Value.TheVariants.{Blank}
use Rattle.writer.proofs.Ends.{Put}
use Rattle.writer.proofs.Normal.{Normal, taken_held, taken_end}
use Rattle.writer.specs.Copied.{all_written, Copies}
use Rattle.writer.specs.Writer.{Written}
use Rattle.writer_form.proofs.Sizes.{message_small}
use Rattle.writer_form.proofs.Values.{cells_front}
use Rattle.writer_form.specs.Written.{written_of, values_in, message_text}
use lib.ListN.{length, get_or, take, replicate, length-append, length-map, length-replicate}
use mathlib.Core.Bool.{Bool, true}
use mathlib.Core.List.{List, [], ◌∷◌, map}
use mathlib.Core.Path.{◌≡◌, refl, sym, ap, ap₂, ◌∙◌, subst}
use native.Mathlib.Omega.{arith}

-- ---- values that were read

read_length : {ds : List Kind} {ts : List (List ℕ)} {vs : List Value} → ReadAll ds ts vs → length vs ≡ length ds
read_length end = refl
read_length (next e a) = ap suc (read_length a)

no_texts : (ts : List (List ℕ)) → length ts ≡ 0 → [] ≡ ts
no_texts [] h = refl
no_texts (t ∷ ts) h = absurd (omega (arith, h))

-- each from its own text
texts_own : (t : MessageType) (r : Rooms) {ds : List Kind} {ts : List (List ℕ)} {vs : List Value} → ReadAll ds ts vs → length ts ≡ length ds
    → ((j : ℕ) → j < length ds → Beside t r (get_or ds j no_kind).shape (get_or ts j [])) → all_written vs ts ≡ true → map (value_text t r) vs ≡ ts
unfolding all_written
texts_own t r {ts = ts} end h f w = no_texts ts h
texts_own t r (next {d} {ds} {s} {ts} {v} {vs} e a) h f w =
    let o = and_parts (is_written v s) (all_written vs ts) w in
    ap₂ (λ (x : List ℕ) (xs : List (List ℕ)). x ∷ xs) (read_own t r d s v (f 0 (omega arith)) e o.0)
    (texts_own t r a (omega (arith, h)) (λ j i. f (suc j) (omega arith)) o.1)

-- ---- what stands beside the values of a layout: its texts, each at its field

module _ (l : Layout) (col : List (List ℕ)) (g : List Triple) (triples : g ≡ kept_triples (gradients_in (text_at col (gradients_field l)))) where
  abbrev pub own : Rooms
  own = rooms (text_at col 2) (text_at col (reason_field l)) (text_at col (note_field l)) g

  beside : (k : ℕ) (b : Bool) (a : Shape) → SuitsAs l k b a → Beside (type_of l) own a (text_at col k)
  unfolding SuitsAs
  beside k b (IsId u) h = h
  beside k b IsUnit h = ap (text_at col) (sym h)
  beside k b IsWhen h = tt
  beside k b IsAmount h = tt
  beside k b IsCount h = tt
  beside k b IsReason h = ap (text_at col) (sym h.1)
  beside k b IsNote h = ap (text_at col) (sym h.1)
  beside k b (IsWord first last) h = tt
  beside k b IsProfile h = tt
  beside k b IsBands h = tt
  beside k b IsTriples h = triples ∙ ap (λ (j : ℕ). kept_triples (gradients_in (text_at col j))) (sym h)
  beside k b IsVoltage h = tt
  beside k b IsRegulator h = tt
  beside k b IsChange h = tt
  beside k b IsReactive h = tt

  beside_at : (j : ℕ) → j < length (kinds_of l) → Beside (type_of l) own (get_or (kinds_of l) j no_kind).shape (get_or col j [])
  beside_at j h =
      subst (λ (d : Kind). Beside (type_of l) own d.shape (get_or col j [])) (kind_at_lem l j)
      (beside (suc j) (kind_at l (suc j)).blank (kind_at l (suc j)).shape (suits l (suc j) (omega arith) (omega (arith, kinds_length l))))

-- ---- what was read of a file

module _ (ca ioa : ℕ) (plan file : List ℕ) (x : ReadingSaid) (is : x ≡ reading_of ca ioa plan file) (yes : x.number ≡ 0) where
  reads : Reads ca ioa plan file x
  reads = reads_of ca ioa plan file x is

  abbrev column : List (List ℕ)
  column = column_at x.layout file x.places

  abbrev values : List Value
  values = good_of (values_of x.layout column)

  content_is : record_with x.layout column x.cells x.gradients ≡ record_of x.layout column values
  unfolding column_record
  content_is = reads.content_is yes

  cells_are : x.cells ≡ cells_of values
  unfolding record_with record_of
  cells_are = ap (λ (r : Record). r.cells) content_is

  triples_are : x.gradients ≡ kept_triples (gradients_in (text_at column (gradients_field x.layout)))
  unfolding record_with record_of
  triples_are = ap (λ (r : Record). r.gradients) content_is

  all_read : ReadAll (kinds_of x.layout) column values
  unfolding values_of
  all_read = read_all 1 (kinds_of x.layout) column values (good_of_lem (values_of x.layout column) (reads.readable yes))

  values_length : length values ≡ size_of x.layout
  values_length = read_length all_read ∙ kinds_length x.layout

  pub cells_room : length x.cells ≡ 26
  unfolding cells_of
  cells_room = ap length cells_are ∙ simp (length-append, length-map, length-replicate) (omega (arith, values_length, few x.layout))

  values_are : values_in x.layout x.cells ≡ values
  unfolding values_in cells_of
  values_are =
      ap (λ (cells : List Cell). map (λ (c : Cell). c.value) (take (size_of x.layout) cells)) cells_are
      ∙ ap (λ (n : ℕ). map (λ (c : Cell). c.value) (take n (cells_of values))) (sym values_length)
      ∙ cells_front values (replicate (26 - length values) (cell Blank))

  column_full : length column ≡ length (kinds_of x.layout)
  column_full =
      column_length (size_of x.layout) file x.places (omega (arith, few x.layout, (reads.placed yes).long)) ∙ sym (kinds_length x.layout)

  abbrev texts : Rooms
  texts = own x.layout column x.gradients triples_are

  -- each value stands as it is written
  module _ (written : all_written (values_in x.layout x.cells) column ≡ true) where
    column_own : map (value_text (type_of x.layout) texts) values ≡ column
    column_own =
        texts_own (type_of x.layout) texts all_read column_full (beside_at x.layout column x.gradients triples_are)
        (ap (λ (vs : List Value). all_written vs column) (sym values_are) ∙ written)

    -- THE THEOREM: the message is that of the file's own texts
    message_own : message_text x.layout texts x.cells ≡ written_of x.layout column
    unfolding message_text
    message_own =
        ap (λ (vs : List Value). written_of x.layout (map (value_text (type_of x.layout) texts) vs)) values_are ∙ ap (written_of x.layout) column_own

    message_fits : length (message_text x.layout texts x.cells) ≤ 8192
    message_fits =
        message_small x.layout texts x.cells (taken_held ca ioa plan file x is yes _ _ _ _ _ refl refl refl refl refl).hold

    accepts : (read_of ca ioa plan file).number ≡ 0
    accepts = sym (ap (λ (a : Answer). a.number) (concluded_yes file x yes ∙ reads.answers))

    pub copies : Copies x.layout file x.row x.places
    copies =
        record {
          placed = reads.placed yes;
          not_long = read_short ca ioa plan file accepts;
          own_row = reads.own_row yes;
          small = subst (λ (t : List ℕ). length t ≤ 8192) message_own message_fits;
        }

    pub copied_end : (out : List ℕ) (w : Written) (m : List ℕ) → Put (written_of x.layout column) out w m → Normal out (read_of ca ioa plan file) w m
    copied_end out w m p =
        taken_end ca ioa plan file x is yes _ _ _ _ _ refl refl refl refl refl out w m (subst (λ (t : List ℕ). Put t out w m) (sym message_own) p)
