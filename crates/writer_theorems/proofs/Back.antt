-- THEOREM A: a written file is read as the column that it was written from. It says nothing of kinds or records. Assumes nothing.
use Rattle.std.specs.Prelude.{None}
use Prim.Native.Nat.{ℕ, suc}
use Rattle.reader_accent.proofs.Table.{accents_good}
use Rattle.reader_accent.specs.Accents.{accents_of}
use Rattle.reader_line.proofs.Labels.{own_place}
use Rattle.layout.proofs.Labels.{labels_length, good_label}
use Rattle.layout.specs.Banners.{banner_of}
use Rattle.layout.specs.Fields.{command, technical, market, mfrr}
use Rattle.layout.specs.Layouts.{fields_of, labels_of, size_of, type_of, label_at}
use Rattle.layout.specs.Rows.{row_of}
use Rattle.layout.specs.declared.Layout.{Layout}
use Rattle.layout.specs.declared.Layout.TheVariants.{Market, Mfrr, Revocation, Generic, Exclusion, Limitation, Secondary, VoltVar, Rejection, Reserve}
use Rattle.text_lines.specs.Entries.{entries, again, missing, column}
use Rattle.text_lines.specs.Lines.{texts, outside, framed, allowed_upto, param, params}
use Rattle.text_lines.specs.Spellings.{Spelling}
use Rattle.reader.specs.Messages.{given, row_in, is_kind_of_command, layout_in}
use Rattle.writer_theorems.proofs.Entries.{paired, any_label, Placed, numbered, entries_are, none_again, missing_none, column_back}
use Rattle.writer_theorems.proofs.Frame.{upper, plain_is, outside_is, inside_is, framed_is}
use Rattle.writer_theorems.proofs.Headings.{head_text, heading, heading_text, heading_upper, heading_params}
use Rattle.writer_theorems.proofs.Lines.{lines_append, lines_texts, lines_allowed}
use Rattle.writer_theorems.proofs.Params.{Good, column_upper, column_params}
use Rattle.writer_theorems.proofs.Row.{row_tidy, row_no_sep}
use Rattle.text.proofs.Cuts.{all_append}
use Rattle.text.specs.Bytes.{any, all, is_plain, same, trim, tidy}
use Rattle.writer_form.specs.Written.{lines_text, param_lines, block, written_of}
use lib.ListN.{length}
use mathlib.Core.Bool.{Bool, true, false, cond}
use mathlib.Core.List.{List, [], ◌∷◌, ◌++◌, map, append_assoc}
use mathlib.Core.Path.{◌≡◌, refl, sym, ap, ◌∙◌}
use native.Mathlib.Omega.{arith}

-- what the reader makes of a file, up to the column of its values
pub record ReadBack (l : Layout) (col : List (List ℕ)) (file : List ℕ) : Type 0 where
  pub clean : allowed_upto (accents_of (type_of l)) file ≡ length file
  pub is_framed : framed (texts file) ≡ true
  pub row_is : row_in file ≡ row_of l col
  pub layout_is : layout_in (type_of l) (given (type_of l) file) ≡ l
  pub none_twice : again [] (entries (labels_of l) (given (type_of l) file)) ≡ None
  pub none_missing : missing 1 (labels_of l) (entries (labels_of l) (given (type_of l) file)) ≡ 0
  pub column_is : column 1 (labels_of l) (entries (labels_of l) (given (type_of l) file)) ≡ col

-- ---- the labels of a layout

all_good : (l : Layout) → Good (labels_of l)
unfolding label_at
all_good l j h = good_label l (suc j) (omega arith) (omega (arith, h, labels_length l))

all_placed : (l : Layout) → Placed 1 (labels_of l) (labels_of l)
unfolding label_at
all_placed l j h = omega (arith, own_place l (suc j) (all_good l j h).some)

-- of the two layouts of CB, the mFRR layout alone has the label that tells it
abbrev is_kind : List ℕ → Bool
is_kind t = is_kind_of_command (param t [])

market_none : any is_kind (labels_of Market) ≡ false
unfolding any same labels_of fields_of market command technical
market_none = refl

mfrr_some : any is_kind (labels_of Mfrr) ≡ true
unfolding any same labels_of fields_of mfrr
mfrr_some = refl

layout_of : (l : Layout) (col : List (List ℕ)) → length col ≡ length (labels_of l) → layout_in (type_of l) (paired (labels_of l) col) ≡ l
unfolding layout_in
layout_of Market col n = ap (λ (b : Bool). cond b Mfrr Market) (any_label is_kind (labels_of Market) col n ∙ market_none)
layout_of Mfrr col n = ap (λ (b : Bool). cond b Mfrr Market) (any_label is_kind (labels_of Mfrr) col n ∙ mfrr_some)
layout_of Revocation col n = refl
layout_of Generic col n = refl
layout_of Exclusion col n = refl
layout_of Limitation col n = refl
layout_of Secondary col n = refl
layout_of VoltVar col n = refl
layout_of Rejection col n = refl
layout_of Reserve col n = refl

-- ---- the file

module _ (l : Layout) (col : List (List ℕ)) where
  abbrev file : List ℕ
  file = written_of l col

  abbrev row : List ℕ
  row = row_of l col

  -- its lines, those above the row and all
  abbrev above : List (List ℕ)
  above = heading l ++ param_lines (labels_of l) col

  abbrev whole : List (List ℕ)
  whole = above ++ block row

  as_lines : file ≡ lines_text whole
  unfolding written_of lines_text
  as_lines =
      let ps = lines_text (param_lines (labels_of l) col) in
      let b = lines_text (block row) in
      sym
      (lines_append above (block row)
      ∙ ap (λ (t : List ℕ). t ++ b) (lines_append (heading l) (param_lines (labels_of l) col) ∙ ap (λ (t : List ℕ). t ++ ps) (heading_text l))
      ∙ append_assoc (head_text l) ps b
      ∙ append_assoc (banner_of l) (10 ∷ []) (ps ++ b))

  module _ (h : all tidy col ≡ true) where
    above_upper : all upper above ≡ true
    above_upper = all_append upper (heading l) (param_lines (labels_of l) col) (heading_upper l) (column_upper (labels_of l) col (all_good l) h)

    whole_plain : all (all is_plain) whole ≡ true
    whole_plain = plain_is above row above_upper (row_tidy l col h) (row_no_sep l col)

    -- ---- what the reader makes of it

    texts_are : texts file ≡ map trim whole
    texts_are = ap texts as_lines ∙ lines_texts whole whole_plain

    -- with whatever labels that have an accent, and with none
    pub all_clean : (sp : List Spelling) → allowed_upto sp file ≡ length file
    all_clean sp = rw as_lines (lines_allowed whole whole_plain sp)

    frame_is : framed (texts file) ≡ true
    frame_is = ap framed texts_are ∙ framed_is above row above_upper (row_tidy l col h) (row_no_sep l col)

    row_in_lem : row_in file ≡ row
    unfolding row_in
    row_in_lem = rw (texts_are, inside_is above row above_upper (row_tidy l col h) (row_no_sep l col))

    given_is : given (type_of l) file ≡ paired (labels_of l) col
    unfolding given
    given_is =
        ap (λ (ts : List (List ℕ)). params (accents_of (type_of l)) (outside ts)) texts_are
        ∙ ap (params (accents_of (type_of l))) (outside_is above row above_upper (row_tidy l col h) (row_no_sep l col))
        ∙ heading_params (accents_of (type_of l)) l (param_lines (labels_of l) col)
        ∙ column_params (accents_of (type_of l)) (accents_good (type_of l)) (labels_of l) col (all_good l) h

    entries_in : length col ≡ length (labels_of l) → entries (labels_of l) (given (type_of l) file) ≡ numbered 1 col
    entries_in m = ap (entries (labels_of l)) given_is ∙ entries_are 1 (labels_of l) (labels_of l) col (omega arith) (all_placed l) m

-- ---- the theorem

pub written_back : (l : Layout) (col : List (List ℕ)) → length col ≡ size_of l → all tidy col ≡ true → ReadBack l col (written_of l col)
written_back l col n h =
    let ls = labels_of l in
    let m = n ∙ sym (labels_length l) in
    let es = entries_in l col h m in
    record {
      clean = all_clean l col h (accents_of (type_of l));
      is_framed = frame_is l col h;
      row_is = row_in_lem l col h;
      layout_is = ap (layout_in (type_of l)) (given_is l col h) ∙ layout_of l col m;
      none_twice = ap (again []) es ∙ none_again 1 col;
      none_missing = ap (missing 1 ls) es ∙ missing_none 1 ls col m;
      column_is = ap (column 1 ls) es ∙ column_back 1 ls col m;
    }
