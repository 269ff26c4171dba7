-- What a line is to the reader: a separator, the row, the value of a field, or nothing. Assumes nothing.
use Prim.Native.Nat.{ℕ, suc, ◌+◌, ◌≤◌, ◌<◌}
use Rattle.reader_line.proofs.Labels.{star_foreign, mfrr_alone}
use Rattle.reader_line.specs.Items.{first_labels, second_labels, is_foreign, item, fielded, item_in}
use Rattle.reader_line.specs.declared.Item.{Item}
use Rattle.layout.specs.Layouts.{layout_of}
use Rattle.layout.specs.declared.Layout.TheVariants.{Mfrr}
use Rattle.text_lines.proofs.Leaves.{span_holds}
use Rattle.text_lines.specs.Entries.{place_of}
use Rattle.text_lines.specs.Lines.{is_sep}
use Rattle.text_lines.specs.Places.{HoldsText, no_span, part_of, trimmed_at, value_span}
use Rattle.text_lines.specs.Spellings.{Spelling, respell}
use Rattle.text_lines.specs.Spots.{field_in}
use Rattle.text_lines.specs.declared.Span.{Span}
use Rattle.value_name.specs.declared.MessageType.{MessageType}
use Rattle.value_name.specs.declared.MessageType.TheVariants.{Cb, Rc, Mg, Eb, Lb, Sr, Vq, Ri, Qr}
use Rattle.text.proofs.Cuts.{part_from, length_part, upto_take, past_drop, upto_length}
use Rattle.text.proofs.Tests.{by_test, and_parts, or_right}
use Rattle.text.proofs.Trims.{keep_no}
use Rattle.text.specs.Bytes.{part, upto, past, any, all, is, is_blank, first_of, skip, skip_end, trim}
use borrow.Author.Tests.{eqb-true, ne_eqb}
use lib.Dec.{eqb, leb}
use lib.ListN.{length, get_or, take}
use mathlib.Core.Bool.{Bool, true, false, ◌&&◌, and-false}
use mathlib.Core.List.{List, [], ◌∷◌}
use mathlib.Core.Path.{◌≡◌, refl, sym, ap, ap₂, ◌∙◌}
use native.Mathlib.Omega.{arith}

-- ---- a line is one kind

-- below one separator, and a separator
pub as_row : (sp : List Spelling) (t : MessageType) (n at : ℕ) (l : List ℕ) → eqb n 1 ≡ true
    → item (at + length l) (is_sep (trim l)) 0 0 (trimmed_at at l) ≡ item_in sp t n at l
unfolding item_in
as_row sp t n at l e = rw (or_right (is_sep (trim l)) (eqb n 1) e)

pub as_separator : (sp : List Spelling) (t : MessageType) (n at : ℕ) (l : List ℕ) → is_sep (trim l) ≡ true
    → item (at + length l) true 0 0 (trimmed_at at l) ≡ item_in sp t n at l
unfolding item_in
as_separator sp t n at l e = rw e

-- and any other
pub as_field : (sp : List Spelling) (t : MessageType) (n at : ℕ) (l : List ℕ) → is_sep (trim l) ≡ false → (n ≡ 1 → ⊥)
    → fielded (at + length l) (field_in sp (first_labels t) l) (field_in sp (second_labels t) l) at l ≡ item_in sp t n at l
unfolding item_in
as_field sp t n at l e ne = rw (e, ne_eqb n 1 ne)

-- ---- the same of a line by its ends, and of what the code found at its trimmed place

module _ (t : MessageType) (file : List ℕ) (at end : ℕ) (ordered : at ≤ end) (inside : end ≤ length file) where
  abbrev line : List ℕ
  line = part at end file

  size : end ≡ at + length line
  size = omega (arith, length_part at end file inside)

  module _ (p : Span) (placed : p ≡ trimmed_at at line) where
    pub held : HoldsText file p (trim line)
    held = span_holds file at end ordered inside p placed

    text_is : part_of file p ≡ trim line
    text_is = held.holds

    pub row_is : (s : Bool) → s ≡ is_sep (part_of file p) → item end s 0 0 p ≡ item_in [] t 1 at line
    row_is s e =
        rw (placed, e ∙ ap is_sep text_is) (ap (λ (k : ℕ). item k (is_sep (trim line)) 0 0 (trimmed_at at line)) size ∙ as_row [] t 1 at line refl)

    pub separator_is : (n : ℕ) {s : Bool} → s ≡ is_sep (part_of file p) → s ≡ true → item end true 0 0 p ≡ item_in [] t n at line
    separator_is n e y =
        rw placed
        (ap (λ (k : ℕ). item k true 0 0 (trimmed_at at line)) size ∙ as_separator [] t n at line (sym (ap is_sep text_is) ∙ sym e ∙ y))

    pub field_is : (n : ℕ) {s : Bool} {i : Item} → s ≡ is_sep (part_of file p) → s ≡ false → (n ≡ 1 → ⊥)
        → i ≡ fielded end (field_in [] (first_labels t) line) (field_in [] (second_labels t) line) at line → i ≡ item_in [] t n at line
    field_is n e y ne i_is =
        i_is ∙ ap (λ (k : ℕ). fielded k (field_in [] (first_labels t) line) (field_in [] (second_labels t) line) at line) size
        ∙ as_field [] t n at line (sym (ap is_sep text_is) ∙ sym e ∙ y) ne

  pub below_one : (n : ℕ) {i : Item} → n ≡ 1 → i ≡ item_in [] t 1 at line → i ≡ item_in [] t n at line
  below_one n e h = h ∙ ap (λ (k : ℕ). item_in [] t k at line) (sym e)

-- ---- a text divided at its first '='

pub none_there : (p : ℕ → Bool) (t : List ℕ) → length (upto p t) ≡ length t → any p t ≡ false
unfolding any upto
none_there p [] h = refl
none_there p (x ∷ t) h =
    by_test (p x) (λ e. let z : ◌≡◌ {A = ℕ} 0 (suc (length t)) = rw e at h in absurd (omega (arith, z)))
    (λ e. let z : suc (length (upto p t)) ≡ suc (length t) = rw e at h in rw e (none_there p t (omega (arith, z))))

pub one_there : (p : ℕ → Bool) (t : List ℕ) → (length (upto p t) ≡ length t → ⊥) → any p t ≡ true
unfolding any upto
one_there p [] h = absurd (h refl)
one_there p (x ∷ t) h = by_test (p x) (λ e. rw e) (λ e. rw e (one_there p t (λ q. h (rw e (ap suc q)))))

nobody : (end at : ℕ) (l : List ℕ) → item end false 0 0 no_span ≡ fielded end 0 0 at l
unfolding fielded
nobody end at l = refl

no_field : (ls : List (List ℕ)) (l : List ℕ) → any (is 61) l ≡ false → 0 ≡ field_in [] ls l
unfolding field_in
no_field ls l e = rw e

pub its_field : (sp : List Spelling) (ls : List (List ℕ)) (l : List ℕ) → any (is 61) l ≡ true
    → place_of ls (respell sp (trim (upto (is 61) l))) ≡ field_in sp ls l
unfolding field_in
its_field sp ls l e = rw e

plain_field : (ls : List (List ℕ)) (l : List ℕ) → any (is 61) l ≡ true → place_of ls (trim (upto (is 61) l)) ≡ field_in [] ls l
unfolding respell
plain_field ls l e = its_field [] ls l e

pub with_value : (end at : ℕ) (l : List ℕ) (f g : ℕ) (v : Span) → v ≡ value_span at l → (eqb f 0 && eqb g 0) ≡ false
    → item end false f g v ≡ fielded end f g at l
unfolding fielded
with_value end at l f g v v_is z = rw (z, v_is)

module _ (t : MessageType) (end at : ℕ) (l : List ℕ) (e : ℕ) (he : e ≡ first_of 61 l) where
  abbrev Line : Item → Type 0
  Line i = i ≡ fielded end (field_in [] (first_labels t) l) (field_in [] (second_labels t) l) at l

  -- without '=' there is no field
  pub no_equals : {i : Item} → i ≡ item end false 0 0 no_span → e ≡ length l → Line i
  no_equals i_is h =
      let none_here = none_there (is 61) l (sym he ∙ h) in
      i_is ∙ nobody end at l ∙ ap₂ (λ (a b : ℕ). fielded end a b at l) (no_field (first_labels t) l none_here) (no_field (second_labels t) l none_here)

  module _ (hl : e ≡ length l → ⊥) (label : List ℕ) (Label-is : label ≡ trim (take e l)) (f g : ℕ)
      (hg : g ≡ place_of (second_labels t) label) (hf : f ≡ place_of (first_labels t) label) where
    here : any (is 61) l ≡ true
    here = one_there (is 61) l (λ z. hl (he ∙ z))

    fields_are : fielded end f g at l ≡ fielded end (field_in [] (first_labels t) l) (field_in [] (second_labels t) l) at l
    fields_are =
        let x : label ≡ trim (upto (is 61) l) = Label-is ∙ ap trim (ap (λ (k : ℕ). take k l) he ∙ sym (upto_take (is 61) l)) in
        ap₂ (λ (a b : ℕ). fielded end a b at l) (hf ∙ ap (place_of (first_labels t)) x ∙ plain_field (first_labels t) l here)
        (hg ∙ ap (place_of (second_labels t)) x ∙ plain_field (second_labels t) l here)

    -- a foreign label
    pub no_label : {i : Item} → i ≡ item end false 0 0 no_span → (eqb f 0 && eqb g 0) ≡ true → Line i
    no_label i_is z =
        let w = and_parts (eqb f 0) (eqb g 0) z in
        i_is ∙ nobody end at l ∙ ap₂ (λ (a b : ℕ). fielded end a b at l) (sym (eqb-true f 0 w.0)) (sym (eqb-true g 0 w.1)) ∙ fields_are

    -- a field's label
    pub a_label : (v : Span) → v ≡ value_span at l → (eqb f 0 && eqb g 0) ≡ false → Line (item end false f g v)
    a_label v v_is z = with_value end at l f g v v_is z ∙ fields_are

-- where the value stands, by the line's ends
module _ (file : List ℕ) (at end e : ℕ) (ordered : at ≤ end) (inside : end ≤ length file) (he : e ≡ first_of 61 (part at end file))
    (hl : e ≡ length (part at end file) → ⊥) where
  pub value_fits : at + e + 1 ≤ end
  value_fits = omega (arith, upto_length (is 61) (part at end file), length_part at end file inside)

  pub value_place : trimmed_at (at + e + 1) (part (at + e + 1) end file) ≡ value_span at (part at end file)
  value_place =
      let l = part at end file in
      let m : at + (first_of 61 l + 1) ≡ at + e + 1 = omega (arith, he) in
      let v : part (at + e + 1) end file ≡ past (is 61) l =
      sym (past_drop (is 61) l ∙ part_from file at end (first_of 61 l + 1) ∙ ap (λ (k : ℕ). part k end file) m) in
      ap₂ (λ (k : ℕ) (x : List ℕ). trimmed_at (at + k + 1) x) he v

-- ---- an empty line, and one that begins with an asterisk (42): no separator, and no label's

pub empty_foreign : (s : List ℕ) → length s ≡ 0 → true ≡ is_foreign s
unfolding is_foreign
empty_foreign [] e = refl
empty_foreign (b ∷ s) e = absurd (omega arith)

pub star_told : (s : List ℕ) → (length s ≡ 0 → ⊥) → eqb (get_or s 0 0) 42 ≡ is_foreign s
unfolding is_foreign
star_told [] e = absurd (e refl)
star_told (b ∷ s) e = refl

second_star : (t : MessageType) (x : List ℕ) → place_of (second_labels t) (42 ∷ x) ≡ 0
unfolding place_of
second_star Cb x = star_foreign Mfrr x
second_star Rc x = refl
second_star Mg x = refl
second_star Eb x = refl
second_star Lb x = refl
second_star Sr x = refl
second_star Vq x = refl
second_star Ri x = refl
second_star Qr x = refl

star_trim : (s : List ℕ) → trim (42 ∷ s) ≡ 42 ∷ skip_end is_blank s
unfolding trim skip skip_end
star_trim s = keep_no is_blank 42 (skip_end is_blank s) refl

star_sep : (s : List ℕ) → is_sep (trim (42 ∷ s)) ≡ false
unfolding is_sep all
star_sep s = ap is_sep (star_trim s) ∙ and-false (leb 5 (length (42 ∷ skip_end is_blank s)))

star_field : (ls : List (List ℕ)) (s : List ℕ) → ((y : List ℕ) → place_of ls (42 ∷ y) ≡ 0) → 0 ≡ field_in [] ls (42 ∷ s)
unfolding field_in respell any upto
star_field ls s none_such =
    by_test (any (is 61) s) (λ t. rw (t, star_trim (upto (is 61) s), none_such (skip_end is_blank (upto (is 61) s)))) (λ t. rw t)

empty_sep : is_sep (trim []) ≡ false
unfolding is_sep trim skip skip_end
empty_sep = refl

empty_field : (ls : List (List ℕ)) → 0 ≡ field_in [] ls []
unfolding field_in any
empty_field ls = refl

foreign_is : (t : MessageType) (n at : ℕ) (l : List ℕ) → is_foreign l ≡ true → (n ≡ 1 → ⊥) → item (at + length l) false 0 0 no_span ≡ item_in [] t n at l
unfolding is_foreign
foreign_is t n at [] e ne =
    nobody (at + 0) at [] ∙ ap₂ (λ (a b : ℕ). fielded (at + 0) a b at []) (empty_field (first_labels t)) (empty_field (second_labels t))
    ∙ as_field [] t n at [] empty_sep ne
foreign_is t n at (b ∷ s) e ne =
    let end = at + suc (length s) in
    rw (eqb-true b 42 e)
    (nobody end at (42 ∷ s)
    ∙ ap₂ (λ (a b : ℕ). fielded end a b at (42 ∷ s)) (star_field (first_labels t) s (star_foreign (layout_of t))) (star_field (second_labels t) s (second_star t))
    ∙ as_field [] t n at (42 ∷ s) (star_sep s) ne)

pub passed_over : (t : MessageType) (file : List ℕ) (at end : ℕ) → at ≤ end → end ≤ length file → (n : ℕ) {i : Item} → i ≡ item end false 0 0 no_span
    → is_foreign (part at end file) ≡ true → (n ≡ 1 → ⊥) → i ≡ item_in [] t n at (part at end file)
passed_over t file at end h k n i_is e ne =
    i_is ∙ ap (λ (j : ℕ). item j false 0 0 no_span) (size t file at end h k) ∙ foreign_is t n at (part at end file) e ne

-- ---- a line of a type other than CB has no second field; one of CB that has it past the two shared ones has no first

pub no_first : (t : MessageType) (k : ℕ) (x : List ℕ) → k ≡ place_of (second_labels t) x → 2 < k → 0 ≡ place_of (first_labels t) x
unfolding place_of
no_first Cb k x e h = mfrr_alone x k e h
no_first Rc k x e h = absurd (omega arith)
no_first Mg k x e h = absurd (omega arith)
no_first Eb k x e h = absurd (omega arith)
no_first Lb k x e h = absurd (omega arith)
no_first Sr k x e h = absurd (omega arith)
no_first Vq k x e h = absurd (omega arith)
no_first Ri k x e h = absurd (omega arith)
no_first Qr k x e h = absurd (omega arith)
