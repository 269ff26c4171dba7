-- A line that stops at an accent: as it was read, or to its end where it opens with such a label. Assumes nothing.
use Prim.Native.Nat.{ℕ, zero, suc, ◌+◌, ◌-◌, ◌≤◌, ◌<◌}
use Rattle.reader_accent.proofs.Ends.{ends_plain, ends_whole, ends_other, field_told, none_told}
use Rattle.reader_accent.proofs.Table.{accents_good}
use Rattle.reader_accent.specs.Accents.{accents_of, accent_field}
use Rattle.reader_line.proofs.Meanings.{as_row, as_field, its_field, with_value, value_place}
use Rattle.reader_line.proofs.Tries.{run_part, line_is}
use Rattle.reader_line.specs.Items.{first_labels, second_labels, item, line_from, fielded, item_in, item_of}
use Rattle.reader_line.specs.declared.Item.{Item}
use Rattle.text.proofs.Cuts.{length_part, upto_take}
use Rattle.text.proofs.Tests.{by_test, and_parts}
use Rattle.text.specs.Bytes.{all, any, first_of, is, is_plain, part, trim, upto}
use Rattle.text_lines.proofs.Allowed.{line_run_lem, opens_inside, run_plain}
use Rattle.text_lines.proofs.Params.{sep_equals, equals_trim}
use Rattle.text_lines.proofs.Spelt.{opens_rest, respell_plain}
use Rattle.text_lines.proofs.Tidy.{all_upto, trim_tidy}
use Rattle.text.proofs.Trims.{tidy_parts}
use Rattle.text_lines.specs.Entries.{place_of}
use Rattle.text_lines.specs.Lines.{is_sep}
use Rattle.text_lines.specs.Places.{plain_run, line_run, trimmed_at, value_span}
use Rattle.text_lines.specs.Spellings.{Spelling, is_accented, opens, respell}
use Rattle.text_lines.specs.Spots.{field_in}
use Rattle.text_lines.specs.declared.Span.{Span}
use Rattle.value_name.specs.declared.MessageType.{MessageType}
use Rattle.value_name.specs.declared.MessageType.TheVariants.{Cb, Rc, Mg, Eb, Lb, Sr, Vq, Ri, Qr}
use borrow.Author.Tests.{ne_eqb}
use lib.Dec.{eqb}
use lib.ListN.{length, get_or, take, drop, length-take, length-drop}
use mathlib.Core.Bool.{Bool, true, false, ◌&&◌, false≢true}
use mathlib.Core.List.{List, [], ◌∷◌}
use mathlib.Core.Path.{◌≡◌, refl, sym, ap, ap₂, ◌∙◌}
use native.Mathlib.Omega.{arith}

-- ---- a line of printable bytes has no accent: every list of spellings reads it alike

unspelt : (x : List ℕ) → respell [] x ≡ x
unfolding respell
unspelt x = refl

module _ (t : MessageType) where
  plain_field : (ls : List (List ℕ)) (l : List ℕ) → all is_plain l ≡ true → field_in [] ls l ≡ field_in (accents_of t) ls l
  unfolding field_in
  plain_field ls l h =
      let x = trim (upto (is 61) l) in
      let plain : all is_plain x ≡ true = (tidy_parts x (trim_tidy (upto (is 61) l) (all_upto (is 61) is_plain l h))).0 in
      rw (unspelt x, respell_plain (accents_of t) x (accents_good t) plain)

  plain_item : (n at : ℕ) (l : List ℕ) → all is_plain l ≡ true → item_in [] t n at l ≡ item_in (accents_of t) t n at l
  unfolding item_in
  plain_item n at l h = rw (plain_field (first_labels t) l h, plain_field (second_labels t) l h)

  -- of the row no field is asked for
  row_alike : (at : ℕ) (l : List ℕ) → item_in [] t 1 at l ≡ item_in (accents_of t) t 1 at l
  row_alike at l = sym (as_row [] t 1 at l refl) ∙ as_row (accents_of t) t 1 at l refl

-- a type whose labels have accents has one layout
one_layout : (t : MessageType) (x y : List ℕ) → is_accented (accents_of t) x ≡ true → 0 ≡ place_of (second_labels t) y
unfolding is_accented accents_of any place_of
one_layout Cb x y a = absurd (false≢true a)
one_layout Rc x y a = refl
one_layout Mg x y a = refl
one_layout Eb x y a = refl
one_layout Lb x y a = refl
one_layout Sr x y a = refl
one_layout Vq x y a = refl
one_layout Ri x y a = refl
one_layout Qr x y a = refl

-- what stands before a byte is the same in the first k bytes, where it stands among them
upto_of_take : (p : ℕ → Bool) (r : List ℕ) (k : ℕ) → length (upto p r) < k → upto p (take k r) ≡ upto p r
unfolding upto
upto_of_take p r zero h = absurd (omega (arith, h))
upto_of_take p [] (suc k) h = refl
upto_of_take p (x ∷ r) (suc k) h =
    by_test (p x) (λ e. rw e)
    (λ e. let g : suc (length (upto p r)) < suc k = rw e at h in rw e (ap (λ (l : List ℕ). x ∷ l) (upto_of_take p r k (omega (arith, g)))))

any_of_take : (p : ℕ → Bool) (r : List ℕ) (k : ℕ) → any p r ≡ true → length (upto p r) < k → any p (take k r) ≡ true
unfolding any upto
any_of_take p r zero a h = absurd (omega (arith, h))
any_of_take p [] (suc k) a h = absurd (false≢true a)
any_of_take p (x ∷ r) (suc k) a h =
    by_test (p x) (λ e. rw e) (λ e. let g : suc (length (upto p r)) < suc k = rw e at h in rw e (any_of_take p r k (rw e at a) (omega (arith, g))))

-- ---- what the code finds

module _ (t : MessageType) (file : List ℕ) (at end n : ℕ) (inside : at ≤ length file) (run : end ≡ at + plain_run (drop at file))
    (plain : Item) (plain_is : plain ≡ item_in [] t n at (part at end file)) where
  abbrev sp : List Spelling
  sp = accents_of t

  abbrev left : List ℕ
  left = drop at file

  all_plain : all is_plain (part at end file) ≡ true
  all_plain = ap (all is_plain) (run_part file at end run) ∙ run_plain left

  as_it_was : end ≡ at + line_run sp left → plain ≡ item_of t file at n
  unfolding item_of
  as_it_was e = plain_is ∙ plain_item t n at (part at end file) all_plain ∙ ap (item_in sp t n at) (line_is sp file at end e)

  pub whole_line : end ≡ length file → plain ≡ item_of t file at n
  whole_line h = as_it_was (ends_whole t file at end inside run h)

  pub other_byte : end < length file → (get_or file end 0 ≡ 224 → ⊥) → plain ≡ item_of t file at n
  other_byte h b = as_it_was (ends_other t file at end inside run h b)

  module _ (far : ℕ) (far_is : far ≡ at + line_run sp left) where
    pub same_end : far ≡ end → plain ≡ item_of t file at n
    same_end e = as_it_was (sym e ∙ far_is)

    pub far_inside : far ≤ length file
    far_inside = omega (arith, far_is, (line_run_lem sp (accents_good t) left).inside, length-drop at file)

    pub far_ordered : at ≤ far
    far_ordered = omega (arith, far_is)

    line_here : part at far file ≡ line_from sp file at
    line_here = line_is sp file at far far_is

    pub row_far : n ≡ 1 → (i : Item) → i ≡ item_in [] t 1 at (part at far file) → i ≡ item_of t file at n
    unfolding item_of
    row_far one i e =
        e ∙ row_alike t at (part at far file) ∙ ap₂ (λ (k : ℕ) (l : List ℕ). item_in sp t k at l) (sym one) line_here

    -- it goes on, so that it opens with such a label
    module _ (more : far ≡ end → ⊥) where
      opened : opens sp (upto (is 10) left) ≡ true
      opened = by_test (opens sp (upto (is 10) left)) (λ e. e) (λ e. absurd (more (far_is ∙ sym (ends_plain t file at end inside run e))))

      told : (any (is 61) left ≡ true) × (is_accented sp (trim (upto (is 61) left)) ≡ true)
      told = and_parts (any (is 61) left) (is_accented sp (trim (upto (is 61) left))) (sym (opens_rest sp left (accents_good t)) ∙ opened)

      less : first_of 61 left < line_run sp left
      less = opens_inside sp (accents_good t) left opened

      abbrev line : List ℕ
      line = line_from sp file at

      before_is : upto (is 61) line ≡ upto (is 61) left
      before_is = upto_of_take (is 61) left (line_run sp left) less

      equals : any (is 61) line ≡ true
      equals = any_of_take (is 61) left (line_run sp left) told.0 less

      no_sep : is_sep (trim line) ≡ false
      no_sep = sep_equals (trim line) (equals_trim line ∙ equals)

      module _ (e : ℕ) (e_is : e ≡ first_of 61 (part at far file)) where
        first_is : e ≡ first_of 61 left
        first_is = e_is ∙ ap (first_of 61) line_here ∙ ap length before_is

        pub value_inside : at + e + 1 ≤ far
        value_inside = omega (arith, first_is, less, far_is)

        label_is : part at (at + e) file ≡ upto (is 61) left
        label_is =
            let z : at + e - at ≡ first_of 61 left = omega (arith, first_is) in
            ap (λ (k : ℕ). take k left) z ∙ sym (upto_take (is 61) left)

        module _ (x : List ℕ) (x_is : x ≡ trim (part at (at + e) file)) (k : ℕ) (k_is : k ≡ accent_field t x) where
          label_line : x ≡ trim (upto (is 61) line)
          label_line = x_is ∙ ap trim (label_is ∙ sym before_is)

          accented : is_accented sp x ≡ true
          accented = ap (is_accented sp) (x_is ∙ ap trim label_is) ∙ told.1

          some_field : k ≡ 0 → ⊥
          some_field z = false≢true (sym (none_told t x k k_is z) ∙ accented)

          first_field : k ≡ field_in sp (first_labels t) line
          first_field =
              field_told t x k k_is some_field ∙ ap (λ (y : List ℕ). place_of (first_labels t) (respell sp y)) label_line
              ∙ its_field sp (first_labels t) line equals

          second_field : 0 ≡ field_in sp (second_labels t) line
          second_field = one_layout t x (respell sp (trim (upto (is 61) line))) accented ∙ its_field sp (second_labels t) line equals

          pub field_far : (n ≡ 1 → ⊥) → (v : Span) → v ≡ trimmed_at (at + e + 1) (part (at + e + 1) far file) → item far false k 0 v ≡ item_of t file at n
          unfolding item_of
          field_far ne v v_is =
              let size : far ≡ at + length line = omega (arith, far_is, length-take (line_run sp left) left, (line_run_lem sp (accents_good t) left).inside) in
              let some_left : e ≡ length (part at far file) → ⊥ = λ z. omega (arith, z, value_inside, length_part at far file far_inside) in
              let place = v_is ∙ value_place file at far e far_ordered far_inside e_is some_left ∙ ap (value_span at) line_here in
              let told_field : (eqb k 0 && eqb 0 0) ≡ false = rw (ne_eqb k 0 some_field) in
              with_value far at line k 0 v place told_field
              ∙ ap₂ (λ (f g : ℕ). fielded far f g at line) first_field second_field
              ∙ ap (λ (m : ℕ). fielded m (field_in sp (first_labels t) line) (field_in sp (second_labels t) line) at line) size
              ∙ as_field sp t n at line no_sep ne
