-- The table of accented labels: each has one accent, its plain spelling is a label of its type's layout, and it is one of those that the code compares.
-- Assumes nothing.
use Prim.Native.Nat.{ℕ, ◌≤◌}
use Rattle.layout.specs.Fields.{qr, vq}
use Rattle.layout.specs.Layouts.{fields_of, labels_of, layout_of}
use Rattle.reader_accent.specs.Accents.{accents_of, accent_field}
use Rattle.text.proofs.Tests.{by_test}
use Rattle.text.specs.Bytes.{all, any, bytes, past, same, upto}
use Rattle.text_lines.proofs.Spelt.{all_good, one_accent}
use Rattle.text_lines.specs.Entries.{place_of}
use Rattle.text_lines.specs.Spellings.{is_accented, respell}
use Rattle.value_name.specs.declared.MessageType.{MessageType}
use Rattle.value_name.specs.declared.MessageType.TheVariants.{Cb, Rc, Mg, Eb, Lb, Sr, Vq, Ri, Qr}
use borrow.Author.Tests.{leb-true}
use mathlib.Core.Bool.{Bool, true, false, false≢true}
use mathlib.Core.List.{List}
use mathlib.Core.Path.{◌≡◌, refl, sym, ◌∙◌}

pub accents_good : (t : MessageType) → all_good (accents_of t) ≡ true
unfolding all_good one_accent accents_of all any upto past
accents_good Cb = refl
accents_good Rc = refl
accents_good Mg = refl
accents_good Eb = refl
accents_good Lb = refl
accents_good Sr = refl
accents_good Vq = refl
accents_good Ri = refl
accents_good Qr = refl

-- ---- where the plain spellings stand in their layouts

mode_place : place_of (labels_of (layout_of Vq)) (bytes "Modalita funzionamento") ≡ 6
unfolding place_of labels_of fields_of vq same
mode_place = refl

power_place : place_of (labels_of (layout_of Qr)) (bytes "Quantita Riservata (MW)") ≡ 6
unfolding place_of labels_of fields_of qr same
power_place = refl

extent_place : place_of (labels_of (layout_of Qr)) (bytes "Quantita Riservata") ≡ 7
unfolding place_of labels_of fields_of qr same
extent_place = refl

-- ---- the field of a text, by what the code compares

module _ (s : List ℕ) where
  pub is_mode : {b : Bool} → b ≡ same (bytes "Modalità funzionamento") s → b ≡ true → 6 ≡ accent_field Vq s
  unfolding accent_field is_accented respell accents_of any
  is_mode e y = rw (sym e ∙ y) (sym mode_place)

  pub no_mode : {b : Bool} → b ≡ same (bytes "Modalità funzionamento") s → b ≡ false → 0 ≡ accent_field Vq s
  unfolding accent_field is_accented accents_of any
  no_mode e n = rw (sym e ∙ n)

  pub is_power : {b : Bool} → b ≡ same (bytes "Quantità Riservata (MW)") s → b ≡ true → 6 ≡ accent_field Qr s
  unfolding accent_field is_accented respell accents_of any
  is_power e y = rw (sym e ∙ y) (sym power_place)

  module _ {b : Bool} (e : b ≡ same (bytes "Quantità Riservata (MW)") s) (n : b ≡ false) where
    pub is_extent : {d : Bool} → d ≡ same (bytes "Quantità Riservata") s → d ≡ true → 7 ≡ accent_field Qr s
    unfolding accent_field is_accented respell accents_of any
    is_extent f y = rw (sym e ∙ n, sym f ∙ y) (sym extent_place)

    pub no_quantity : {d : Bool} → d ≡ same (bytes "Quantità Riservata") s → d ≡ false → 0 ≡ accent_field Qr s
    unfolding accent_field is_accented accents_of any
    no_quantity f m = rw (sym e ∙ n, sym f ∙ m)

  pub no_accent : (t : MessageType) → (t ≡ Vq → ⊥) → (t ≡ Qr → ⊥) → 0 ≡ accent_field t s
  unfolding accent_field is_accented accents_of any
  no_accent Cb _ _ = refl
  no_accent Rc _ _ = refl
  no_accent Mg _ _ = refl
  no_accent Eb _ _ = refl
  no_accent Lb _ _ = refl
  no_accent Sr _ _ = refl
  no_accent Vq other _ = absurd (other refl)
  no_accent Ri _ _ = refl
  no_accent Qr _ other = absurd (other refl)

-- ---- a label with its accent has a field, and no other text has one

pub accent_field_lem : (t : MessageType) (x : List ℕ) → is_accented (accents_of t) x ≡ true → 1 ≤ place_of (labels_of (layout_of t)) (respell (accents_of t) x)
unfolding is_accented respell accents_of any
accent_field_lem Cb x a = absurd (false≢true a)
accent_field_lem Rc x a = absurd (false≢true a)
accent_field_lem Mg x a = absurd (false≢true a)
accent_field_lem Eb x a = absurd (false≢true a)
accent_field_lem Lb x a = absurd (false≢true a)
accent_field_lem Sr x a = absurd (false≢true a)
accent_field_lem Vq x a =
    by_test (same (bytes "Modalità funzionamento") x) (λ e. rw (e, mode_place) (leb-true _ _ refl)) (λ e. absurd (false≢true (rw e at a)))
accent_field_lem Ri x a = absurd (false≢true a)
accent_field_lem Qr x a =
    by_test (same (bytes "Quantità Riservata (MW)") x) (λ e. rw (e, power_place) (leb-true _ _ refl))
    (λ e.
    by_test (same (bytes "Quantità Riservata") x) (λ f. rw (e, f, extent_place) (leb-true _ _ refl)) (λ f. absurd (false≢true (rw (e, f) at a))))
