-- The row is put as its first value, then each other one after its `;`, and the half-bands of SR after them. Assumes nothing.
use Prim.Native.Nat.{ℕ, suc, ◌+◌, ◌≤◌, ◌<◌}
use Rattle.text.specs.Puts.{Puts}
use Rattle.value_ask.specs.Values.{is_filled}
use Rattle.layout.proofs.Labels.{few}
use Rattle.layout.proofs.Rows.{first_field, row_few, row_some, no_bands, row_fields_lem, row_cut}
use Rattle.layout.specs.Fields.{command, technical, sr}
use Rattle.layout.specs.Layouts.{fields_of, size_of, type_of}
use Rattle.layout.specs.Rows.{row_fields, text_at, halves, bands_in, tail_text, row_text, row_of}
use Rattle.layout.specs.declared.Layout.TheVariants.{Market, Mfrr, Revocation, Generic, Exclusion, Limitation, Secondary, VoltVar, Rejection, Reserve}
use Rattle.layout.specs.declared.Layout.{Layout}
use Rattle.value_name.specs.declared.MessageType.TheVariants.{Sr}
use Rattle.value_name.specs.declared.MessageType.{MessageType}
use Rattle.record.specs.Records.{field_of}
use Rattle.record.specs.declared.Cell.{Cell}
use Rattle.value_put.proofs.Sizes.{text_short}
use Rattle.writer_row.proofs.Halves.{halved, blank_halves}
use Rattle.text.proofs.Runs.{Run, puts, puts_of, puts_none, then, same_puts}
use Rattle.text.proofs.Tests.{by_test}
use Rattle.value.specs.Texts.{Rooms, value_text}
use Rattle.value.specs.declared.Value.{Value}
use Rattle.writer_form.proofs.Columns.{column_of, text_at_lem, field_short}
use Rattle.writer_form.proofs.Joins.{row_first, no_value_more, one_value_more, row_short, first_values}
use Rattle.writer_form.specs.Held.{Held, Halved}
use borrow.Author.Tests.{leb-true}
use lib.Dec.{lit≤}
use lib.ListN.{length, get_or, take, drop, length-append, length-map, get_or-map}
use lib.Seq.{sets, length-sets, take_all}
use mathlib.Core.Bool.{true, false}
use mathlib.Core.List.{List, [], ◌∷◌, ◌++◌, map, append-nil}
use mathlib.Core.Path.{◌≡◌, refl, sym, ap, ◌∙◌}
use native.Mathlib.Numerals.{add-one}
use native.Mathlib.Omega.{arith}

-- ---- the values of the row's fields

-- the texts of those fields
abbrev pub texts_of : Layout → Rooms → List Cell → List (List ℕ)
texts_of l r cells = map (text_at (column_of l r cells)) (row_fields l)

module _ (l : Layout) (r : Rooms) (cells : List Cell) where
  texts_count : length (texts_of l r cells) ≡ length (row_fields l)
  texts_count = length-map (row_fields l) (text_at (column_of l r cells))

  texts_some : 1 ≤ length (texts_of l r cells)
  texts_some = omega (arith, texts_count, row_some l)

  field_text : (i : ℕ) → get_or (texts_of l r cells) i [] ≡ text_at (column_of l r cells) (get_or (row_fields l) i 0)
  field_text i = get_or-map (text_at (column_of l r cells)) (row_fields l) i 0

  value_text_lem : (i k : ℕ) → i < length (row_fields l) → k ≡ get_or (row_fields l) i 0 → get_or (texts_of l r cells) i [] ≡ value_text (type_of l) r (field_of cells k)
  value_text_lem i k h e =
      let w = row_fields_lem l i h in
      rw e (field_text i ∙ text_at_lem l r cells (get_or (row_fields l) i 0) w.0 w.1)

  pub fields_short : Held l r cells → length r.gradients ≡ 16 → length (row_text (texts_of l r cells)) ≤ 18200
  fields_short held g =
      let one : (i : ℕ) → i < length (texts_of l r cells) → length (get_or (texts_of l r cells) i []) ≤ 699 =
      λ i h.
      let w = row_fields_lem l i (omega (arith, texts_count)) in
      rw (field_text i) (omega (arith, field_short l r cells held g (get_or (row_fields l) i 0) w.0 w.1)) in
      omega (arith, row_short (texts_of l r cells) one, texts_count, row_few l)

-- ---- the loop

-- the first value was put, and after it the others up to the place i
pub record Sofar (l : Layout) (r : Rooms) (cells : List Cell) (out : List ℕ) (at i p : ℕ) (m : List ℕ) : Type 0 where
  pub some : 1 ≤ i
  pub near : i ≤ length (row_fields l)
  pub done : Run out at (tail_text (drop 1 (take i (texts_of l r cells)))) p m

module _ (l : Layout) (r : Rooms) (cells : List Cell) (out : List ℕ) (at : ℕ) where
  pub start : Sofar l r cells out at 1 at out
  start =
      record {
        some = omega arith;
        near = row_some l;
        done = rw (no_value_more (texts_of l r cells)) (puts_none out at);
      }

  module _ (i p : ℕ) (m : List ℕ) (s : Sofar l r cells out at i p m) where
    pub same_room : length m ≡ length out
    same_room = ap length s.done.bytes ∙ length-sets out at (tail_text (drop 1 (take i (texts_of l r cells))))

    module _ (h : i < length (row_fields l)) (t : MessageType) (is_type : t ≡ type_of l) (k : ℕ) (f : k ≡ get_or (row_fields l) i 0) (v : Value)
        (z : v ≡ field_of cells k) where
      next : (59 ∷ []) ++ value_text t r v ≡ tail_text (get_or (texts_of l r cells) i [] ∷ [])
      unfolding tail_text
      next =
          ap (λ (x : List ℕ). 59 ∷ x)
          (ap (λ (x : MessageType). value_text x r v) is_type
          ∙ ap (value_text (type_of l) r) z
          ∙ sym (append-nil (get_or (texts_of l r cells) i []) ∙ value_text_lem l r cells i k h f))

      pub turn : (a : ℕ) (l₁ : List ℕ) (q : ℕ) (m' : List ℕ) → (a ≡ p + 1) × (l₁ ≡ sets m p (59 ∷ [])) → Puts l₁ a (value_text t r v) q m'
          → Sofar l r cells out at (i + 1) q m'
      turn a l₁ q m' mark w =
          let done = tail_text (drop 1 (take i (texts_of l r cells))) in
          let more = tail_text (drop 1 (take (suc i) (texts_of l r cells))) in
          let e : done ++ ((59 ∷ []) ++ value_text t r v) ≡ more =
          ap (λ (x : List ℕ). done ++ x) next
          ∙ sym (one_value_more (texts_of l r cells) i s.some (omega (arith, texts_count l r cells))) in
          rw add-one
          record {
            some = omega arith;
            near = h;
            done = puts (same_puts more e (then s.done (then (puts_of {t = 59 ∷ []} 1 refl mark) (puts {t = value_text t r v} w))));
          }

-- with the first value
module _ (l : Layout) (r : Rooms) (cells : List Cell) (out : List ℕ) (at : ℕ) (t : MessageType) (is_type : t ≡ type_of l) (v : Value) (z : v ≡ field_of cells 1)
    (a : ℕ) (l₁ : List ℕ) (w : Puts out at (value_text t r v) a l₁) (i p : ℕ) (m : List ℕ) (s : Sofar l r cells l₁ a i p m) where
  first_text : value_text t r v ≡ get_or (texts_of l r cells) 0 []
  first_text =
      ap (λ (x : MessageType). value_text x r v) is_type
      ∙ ap (value_text (type_of l) r) z
      ∙ sym (value_text_lem l r cells 0 1 (row_some l) (sym (first_field l)))

  pub place_low : Held l r cells → length r.gradients ≡ 16 → p ≤ at + 18200
  place_low held g =
      omega (
        arith,
        w.0,
        ap length first_text,
        s.done.place,
        first_values (texts_of l r cells) i s.some (texts_some l r cells),
        fields_short l r cells held g,
      )

  pub finish : length (row_fields l) ≤ i → Puts out at (row_text (texts_of l r cells)) p m
  finish h =
      let rest = tail_text (drop 1 (take i (texts_of l r cells))) in
      let e : value_text t r v ++ rest ≡ row_text (texts_of l r cells) =
      ap (λ (x : List ℕ). x ++ rest) first_text
      ∙ ap (λ (x : List (List ℕ)). get_or (texts_of l r cells) 0 [] ++ tail_text (drop 1 x)) (take_all i (texts_of l r cells) (omega (arith, texts_count l r cells)))
      ∙ sym (row_first (texts_of l r cells) (texts_some l r cells)) in
      same_puts (row_text (texts_of l r cells)) e (then (puts {t = value_text t r v} w) s.done)

-- the number of a row's field stands among those of all fields
pub number_in : (l : Layout) (i n k : ℕ) → i < n → n ≡ length (row_fields l) → k ≡ get_or (row_fields l) i 0 → (1 ≤ k) × (k ≤ 26)
number_in l i n k h e f =
    let w = row_fields_lem l i (omega arith) in
    (omega (arith, w.0), omega (arith, w.1, few l))

-- ---- the half-bands, put

module _ (t : MessageType) (r : Rooms) (v : Value) (l : List ℕ) (at a : ℕ) (l₁ : List ℕ) (b : ℕ) (m : List ℕ)
    (mark : (a ≡ at + 1) × (l₁ ≡ sets l at (59 ∷ []))) where
  pub put_no_halves : is_filled v ≡ false → (b ≡ a + 1) × (m ≡ sets l₁ a (59 ∷ [])) → Puts l at (tail_text (halves (value_text t r v))) b m
  put_no_halves e w =
      same_puts (tail_text (halves (value_text t r v))) (blank_halves t r v e) (then (puts_of {t = 59 ∷ []} 1 refl mark) (puts_of {t = 59 ∷ []} 1 refl w))

  pub put_two_halves : Halved t r v → is_filled v ≡ true → Puts l₁ a (value_text t r v) b m → Puts l at (tail_text (halves (value_text t r v))) b m
  put_two_halves s e w =
      same_puts (tail_text (halves (value_text t r v))) (sym (s.halves_are e)) (then (puts_of {t = 59 ∷ []} 1 refl mark) (puts {t = value_text t r v} w))

-- ---- the row of a layout

six_text : (r : Rooms) (cells : List Cell) → text_at (column_of Secondary r cells) 6 ≡ value_text Sr r (field_of cells 6)
unfolding fields_of command technical sr
six_text r cells = text_at_lem Secondary r cells 6 (lit≤ tt) (leb-true 6 (size_of Secondary) refl)

module _ (l : Layout) (r : Rooms) (cells : List Cell) (out : List ℕ) (at : ℕ) where
  pub plain_row : (l ≡ Secondary → ⊥) → (p : ℕ) (m : List ℕ) → Puts out at (row_text (texts_of l r cells)) p m
      → Puts out at (row_of l (column_of l r cells)) p m
  unfolding tail_text
  plain_row o p m w =
      let fields = row_text (texts_of l r cells) in
      let e : fields ≡ row_of l (column_of l r cells) =
      sym (row_cut l (column_of l r cells) ∙ ap (λ (x : List (List ℕ)). fields ++ tail_text x) (no_bands l (column_of l r cells) o) ∙ append-nil fields) in
      same_puts (row_of l (column_of l r cells)) e (puts {t = fields} w)

module _ (l : Layout) (s : l ≡ Secondary) (r : Rooms) (cells : List Cell) (v : Value) (z : v ≡ field_of cells 6) where
  pub six_halved : Held l r cells → Halved Sr r v
  six_halved held = rw z (halved r cells (rw s at held))

  pub banded_row : (out : List ℕ) (at a : ℕ) (l₁ : List ℕ) (b : ℕ) (m : List ℕ)
      → Puts out at (row_text (texts_of l r cells)) a l₁ → Puts l₁ a (tail_text (halves (value_text Sr r v))) b m → Puts out at (row_of l (column_of l r cells)) b m
  banded_row out at a l₁ b m w u =
      let fields = row_text (texts_of l r cells) in
      let bands = tail_text (halves (value_text Sr r v)) in
      let e : fields ++ bands ≡ row_of l (column_of l r cells) =
      sym
      (row_cut l (column_of l r cells)
      ∙ ap (λ (x : Layout). fields ++ tail_text (bands_in x (column_of x r cells))) s
      ∙ ap (λ (x : List ℕ). fields ++ tail_text (halves x)) (six_text r cells ∙ ap (value_text Sr r) (sym z))) in
      same_puts (row_of l (column_of l r cells)) e (then (puts {t = fields} w) (puts {t = bands} u))

-- ---- how long it is at most

halves_short : (t : MessageType) (r : Rooms) (v : Value) → Halved t r v → length r.gradients ≡ 16 → length (tail_text (halves (value_text t r v))) ≤ 700
halves_short t r v h g =
    by_test (is_filled v)
    (λ e. rw (h.halves_are e) (omega (arith, text_short t r v h.narrow g)))
    (λ e. rw (sym (blank_halves t r v e)) (omega arith))

bands_short : (l : Layout) (r : Rooms) (cells : List Cell) → Held l r cells → length r.gradients ≡ 16
    → length (tail_text (bands_in l (column_of l r cells))) ≤ 700
unfolding tail_text
bands_short Market r cells held g = omega arith
bands_short Mfrr r cells held g = omega arith
bands_short Revocation r cells held g = omega arith
bands_short Generic r cells held g = omega arith
bands_short Exclusion r cells held g = omega arith
bands_short Limitation r cells held g = omega arith
bands_short Secondary r cells held g = rw (six_text r cells) (halves_short Sr r (field_of cells 6) (halved r cells held) g)
bands_short VoltVar r cells held g = omega arith
bands_short Rejection r cells held g = omega arith
bands_short Reserve r cells held g = omega arith

pub all_row_short : (l : Layout) (r : Rooms) (cells : List Cell) → Held l r cells → length r.gradients ≡ 16 → length (row_of l (column_of l r cells)) ≤ 18900
all_row_short l r cells held g =
    omega (
      arith,
      ap length (row_cut l (column_of l r cells)),
      length-append (row_text (texts_of l r cells)) (tail_text (bands_in l (column_of l r cells))),
      fields_short l r cells held g,
      bands_short l r cells held g,
    )
