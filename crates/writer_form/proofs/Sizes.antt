-- The written form of values that their kinds may hold has 1 to 8,192 bytes: a cap for each shape, and sums along the tables. Assumes nothing.
use Prim.Native.Nat.{ℕ, zero, suc, ◌+◌, ◌≤◌}
use Rattle.value_date.proofs.Back.{date_length}
use Rattle.layout_label.specs.Labels.{padded}
use Rattle.layout.specs.Banners.{banner_of}
use Rattle.layout.specs.Fields.{command, technical, market, mfrr, rc, mg, eb, lb, sr, vq, ri, qr}
use Rattle.layout.specs.Layouts.{fields_of, labels_of, kinds_of, type_of}
use Rattle.layout.specs.Rows.{row_fields, text_at, halves, bands_in, pieces_of, tail_text, row_text, row_of}
use Rattle.layout.specs.declared.Layout.{Layout}
use Rattle.layout.specs.declared.Layout.TheVariants.{Market, Mfrr, Revocation, Generic, Exclusion, Limitation, Secondary, VoltVar, Rejection, Reserve}
use Rattle.value_list.proofs.Texts.{numbers_short, gradients_short}
use Rattle.value_name.proofs.RoundTrip.{identifier_length, sequence_length, unit_size}
use Rattle.value_name.specs.declared.MessageType.{MessageType}
use Rattle.value_number.proofs.RoundTrip.{number_short}
use Rattle.record.specs.declared.Cell.{Cell}
use Rattle.text.proofs.Cuts.{past_drop, upto_length, skip_length}
use Rattle.text.proofs.Trims.{end_length}
use Rattle.text.specs.Bytes.{is, upto, past, skip, is_blank, trim}
use Rattle.record_valid.specs.Valid.{HoldAll}
use Rattle.record_valid.specs.Valid.HoldAll.{end, next}
use Rattle.value.specs.Texts.{Rooms, value_text}
use Rattle.value.specs.Valid.{Fits, Holds}
use Rattle.value.specs.Valid.Fits.{id, unit, when, amount, count, reason, note, chosen, profile, bands, triples, in_kv, kv_word, in_rat, rat_word, in_change}
use Rattle.value.specs.Valid.Fits.{in_mvar, mvar_word}
use Rattle.value.specs.Valid.Holds.{blank, filled}
use Rattle.value.specs.declared.Kind.{Kind}
use Rattle.value.specs.declared.Shape.{Shape}
use Rattle.value.specs.declared.Shape.TheVariants.{IsId, IsUnit, IsWhen, IsAmount, IsCount, IsReason, IsNote, IsWord, IsProfile, IsBands, IsTriples, IsVoltage}
use Rattle.value.specs.declared.Shape.TheVariants.{IsRegulator, IsChange, IsReactive}
use Rattle.value.specs.declared.Value.{Value}
use Rattle.value_word.proofs.RoundTrip.{word_short}
use Rattle.writer_form.specs.Written.{lines_text, after_equals, param_line, param_lines, block, written_of, values_in, message_text}
use borrow.Author.Tests.{leb-true}
use lib.ListN.{length, get_or, length-append, length-drop, length-take}
use mathlib.Core.List.{List, [], ◌∷◌, ◌++◌, map}
use mathlib.Core.Path.{◌≡◌, refl, ap}
use native.Mathlib.Omega.{arith}

-- ---- one value: no text of a shape is longer than its cap

cap : Shape → ℕ
cap (IsId t) = 13
cap IsUnit = 16
cap IsWhen = 21
cap IsAmount = 12
cap IsCount = 10
cap IsReason = 128
cap IsNote = 256
cap (IsWord first last) = 20
cap IsProfile = 51
cap IsBands = 51
cap IsTriples = 623
cap IsVoltage = 20
cap IsRegulator = 20
cap IsChange = 12
cap IsReactive = 20

cap_of : Kind → ℕ
cap_of k = cap k.shape

-- of the field k, from 1, as text_at counts them
cap_at : List Kind → ℕ → ℕ
cap_at ks k = get_or (0 ∷ map cap_of ks) k 0

module _ (t : MessageType) (r : Rooms) where
  fits_cap : {s : Shape} {v : Value} → Fits t r s v → length (value_text t r v) ≤ cap s
  unfolding value_text cap
  fits_cap (id {n} h) = omega (arith, identifier_length t n)
  fits_cap (unit h u) = (unit_size _ u).1
  fits_cap (when {d} e) = omega (arith, date_length d)
  fits_cap (amount {v} h) = number_short v
  fits_cap (count {n} h) = sequence_length n
  fits_cap (reason {n} k) = omega (arith, length-take n r.reason, k.few)
  fits_cap (note {n} k) = omega (arith, length-take n r.note, k.few)
  fits_cap (chosen {w} a b c d) = word_short w
  fits_cap (profile {x} f) = numbers_short x
  fits_cap (bands {x} f) = numbers_short x
  fits_cap (triples {n} f) = gradients_short r.gradients n f.sixteen
  fits_cap (in_kv {v} h) = omega (arith, number_short v)
  fits_cap (kv_word {w} a b) = word_short w
  fits_cap (in_rat {v} h) = omega (arith, number_short v)
  fits_cap (rat_word {w} a b) = word_short w
  fits_cap (in_change {v} h) = number_short v
  fits_cap (in_mvar {v} h) = omega (arith, number_short v)
  fits_cap (mvar_word {w} a b) = word_short w

  holds_cap : {k : Kind} {v : Value} → Holds t r k v → length (value_text t r v) ≤ cap_of k
  unfolding value_text cap_of
  holds_cap (blank e) = omega arith
  holds_cap (filled f) = fits_cap f

-- ---- sums: each text with one byte more, the separator or line feed that stands by it

weigh : {A : Type 0} → (A → ℕ) → List A → ℕ
weigh f [] = 0
weigh f (x ∷ l) = suc (f x) + weigh f l

weigh_append : {A : Type 0} (f : A → ℕ) (l m : List A) → weigh f (l ++ m) ≡ weigh f l + weigh f m
unfolding weigh
weigh_append f [] m = omega arith
weigh_append f (x ∷ l) m = let h = weigh_append f l m in omega arith

weigh_map : {A B : Type 0} (f : A → ℕ) (g : B → A) (h : B → ℕ) → ((b : B) → f (g b) ≤ h b) → (l : List B) → weigh f (map g l) ≤ weigh h l
unfolding weigh
weigh_map f g h le [] = omega arith
weigh_map f g h le (b ∷ l) = let i = weigh_map f g h le l in omega (arith, le b)

lines_weight : (ls : List (List ℕ)) → length (lines_text ls) ≡ weigh length ls
unfolding lines_text weigh
lines_weight [] = refl
lines_weight (l ∷ ls) = omega (arith, length-append l (10 ∷ lines_text ls), lines_weight ls)

tail_weight : (ts : List (List ℕ)) → length (tail_text ts) ≡ weigh length ts
unfolding tail_text weigh
tail_weight [] = refl
tail_weight (t ∷ ts) = omega (arith, length-append t (tail_text ts), tail_weight ts)

row_weight : (ts : List (List ℕ)) → length (row_text ts) ≤ weigh length ts
unfolding row_text weigh
row_weight [] = omega arith
row_weight (t ∷ ts) = omega (arith, length-append t (tail_text ts), tail_weight ts)

-- ---- a column of values, in all and at each field

module _ (t : MessageType) (r : Rooms) where
  column_weight : {ks : List Kind} {vs : List Value} → HoldAll t r ks vs → weigh length (map (value_text t r) vs) ≤ weigh cap_of ks
  unfolding weigh
  column_weight end = omega arith
  column_weight (next h hs) = omega (arith, holds_cap t r h, column_weight hs)

  place_cap : {ks : List Kind} {vs : List Value} → HoldAll t r ks vs → (i : ℕ) → length (get_or (map (value_text t r) vs) i []) ≤ get_or (map cap_of ks) i 0
  place_cap end i = omega arith
  place_cap (next h hs) zero = holds_cap t r h
  place_cap (next h hs) (suc i) = place_cap hs i

  field_cap : {ks : List Kind} {vs : List Value} → HoldAll t r ks vs → (k : ℕ) → length (text_at (map (value_text t r) vs) k) ≤ cap_at ks k
  unfolding cap_at
  field_cap h zero = omega arith
  field_cap h (suc i) = place_cap h i

-- ---- the parameter lines: those of blank values, and the column

bare : List ℕ → ℕ
bare label = length (param_line label [])

after_short : (s : List ℕ) → length (after_equals s) ≤ suc (length s)
unfolding after_equals
after_short [] = omega arith
after_short (b ∷ s) = omega arith

line_short : (label s : List ℕ) → length (param_line label s) ≤ suc (bare label + length s)
unfolding bare param_line
line_short label s =
    let p = padded label in
    omega (arith, length-append p (61 ∷ after_equals s), length-append p (61 ∷ after_equals []), after_short s)

lines_short : (ls col : List (List ℕ)) → weigh length (param_lines ls col) ≤ weigh bare ls + weigh length col
unfolding weigh param_lines
lines_short [] col = omega arith
lines_short (l ∷ ls) [] = omega arith
lines_short (l ∷ ls) (s ∷ col) = omega (arith, line_short l s, lines_short ls col)

-- ---- the row: its fields, and SR's halves

trim_short : (s : List ℕ) → length (trim s) ≤ length s
unfolding trim
trim_short s = omega (arith, end_length is_blank (skip is_blank s), skip_length is_blank s)

halves_short : (v : List ℕ) → weigh length (halves v) ≤ length v + 2
unfolding weigh
halves_short v =
    let n = length (upto (is 59) v) in
    omega (arith, trim_short (upto (is 59) v), trim_short (past (is 59) v), upto_length (is 59) v, ap length (past_drop (is 59) v), length-drop (n + 1) v)

bands_short : (l : Layout) (col : List (List ℕ)) → weigh length (bands_in l col) ≤ length (text_at col 6) + 2
unfolding weigh
bands_short Market col = omega arith
bands_short Mfrr col = omega arith
bands_short Revocation col = omega arith
bands_short Generic col = omega arith
bands_short Exclusion col = omega arith
bands_short Limitation col = omega arith
bands_short Secondary col = halves_short (text_at col 6)
bands_short VoltVar col = omega arith
bands_short Rejection col = omega arith
bands_short Reserve col = omega arith

row_short : (l : Layout) (col : List (List ℕ)) (ks : List Kind) → ((k : ℕ) → length (text_at col k) ≤ cap_at ks k)
    → length (row_of l col) ≤ weigh (cap_at ks) (row_fields l) + cap_at ks 6 + 2
unfolding row_of pieces_of
row_short l col ks h =
    let fields = map (text_at col) (row_fields l) in
    omega (
      arith,
      row_weight (fields ++ bands_in l col),
      weigh_append length fields (bands_in l col),
      weigh_map length (text_at col) (cap_at ks) h (row_fields l),
      bands_short l col,
      h 6,
    )

-- the row between its separators
block_length : (row : List ℕ) → length (lines_text (block row)) ≡ length row + 13
unfolding block weigh
block_length row = omega (arith, lines_weight (block row))

-- ---- the file

written_length : (l : Layout) (col : List (List ℕ))
    → length (written_of l col) ≡ length (banner_of l) + weigh length (param_lines (labels_of l) col) + length (row_of l col) + 14
unfolding written_of weigh
written_length l col =
    let ps = [] ∷ param_lines (labels_of l) col in
    let last = lines_text (block (row_of l col)) in
    omega (arith, length-append (banner_of l) (lines_text ps ++ last), length-append (lines_text ps) last, lines_weight ps, block_length (row_of l col))

pub written_some : (l : Layout) (col : List (List ℕ)) → 1 ≤ length (written_of l col)
written_some l col = omega (arith, written_length l col)

-- the most that a layout's tables allow: 16 for the empty line, the separators' lines, the row's LF and what parts SR's halves
budget : Layout → ℕ
budget l = length (banner_of l) + weigh bare (labels_of l) + weigh cap_of (kinds_of l) + weigh (cap_at (kinds_of l)) (row_fields l) + cap_at (kinds_of l) 6 + 16

in_budget : (l : Layout) → budget l ≤ 8192
unfolding budget weigh bare param_line after_equals padded cap cap_of cap_at banner_of labels_of kinds_of row_fields fields_of market command technical mfrr rc mg eb lb sr vq ri qr
in_budget Market = leb-true _ _ refl
in_budget Mfrr = leb-true _ _ refl
in_budget Revocation = leb-true _ _ refl
in_budget Generic = leb-true _ _ refl
in_budget Exclusion = leb-true _ _ refl
in_budget Limitation = leb-true _ _ refl
in_budget Secondary = leb-true _ _ refl
in_budget VoltVar = leb-true _ _ refl
in_budget Rejection = leb-true _ _ refl
in_budget Reserve = leb-true _ _ refl

pub message_small : (l : Layout) (r : Rooms) (cells : List Cell) → HoldAll (type_of l) r (kinds_of l) (values_in l cells) → length (message_text l r cells) ≤ 8192
unfolding message_text budget
message_small l r cells h =
    let t = type_of l in
    let col = map (value_text t r) (values_in l cells) in
    omega (arith, written_length l col, lines_short (labels_of l) col, column_weight t r h, row_short l col (kinds_of l) (field_cap t r h), in_budget l)
