-- A line that begins with a label, blanks and '=' (61): what the code finds is `head_of`, and the line's parameter is that label and what follows.
-- Assumes nothing.
use Rattle.std.specs.Prelude.{Some}
use Prim.Native.Nat.{ℕ, zero, suc, ◌+◌, ◌-◌, ◌≤◌, ◌<◌}
use Rattle.reader_line.specs.Items.{after_label, head_of, is_printed}
use Rattle.layout_label.specs.Labels.{padded}
use Rattle.text_lines.proofs.Params.{head_param}
use Rattle.text_lines.specs.Lines.{param, param_of}
use Rattle.text_lines.specs.Places.{not_plain, plain_run}
use Rattle.text.proofs.Cuts.{drop_step, tail, skip_drop, skip_length, skip_append, upto_append, all_none, same_refl}
use Rattle.text.proofs.Cuts.{starts_same, starts_short, starts_append, starts_cut, starts_length}
use Rattle.text.proofs.Tests.{by_test, by_le, and_parts}
use Rattle.text.specs.Bytes.{part, any, all, is, is_blank, is_plain, is_upper, skip, starts, trim, upto}
use borrow.Author.Tests.{leb-true, lt-leb, le-leb, eq-eqb, ne_eqb, eqb-true}
use lib.Dec.{eqb, leb}
use lib.ListN.{length, get_or, drop, replicate, length-append, length-drop, length-replicate, drop_of_length-le}
use lib.Seq.{drop-drop, drop-append_seam, take-append_seam}
use mathlib.Core.Bool.{Bool, true, false, not, cond, ◌&&◌, and-true, and-false, false≢true}
use mathlib.Core.List.{List, [], ◌∷◌, ◌++◌, append_assoc}
use mathlib.Core.Path.{◌≡◌, refl, sym, ap, ◌∙◌}
use native.Mathlib.Omega.{arith}

-- ---- what the code finds: the label, of n bytes, then blanks, as many as a

pub no_head : (label s : List ℕ) (n : ℕ) → n ≡ length label → n ≡ 0 → 0 ≡ head_of label s
unfolding head_of
no_head label s n size e = rw (lt-leb 1 (length label) (omega (arith, size, e)))

pub other_head : (label s : List ℕ) → starts label s ≡ false → 0 ≡ head_of label s
unfolding head_of
other_head label s e = rw (e, and-false (leb 1 (length label)))

module _ (label s : List ℕ) (n a : ℕ) (size : n ≡ length label) (st : starts label s ≡ true)
    (ha : a ≡ length (part n (length s) s) - length (skip is_blank (part n (length s) s))) where
  lead_is : a ≡ length (drop (length label) s) - length (skip is_blank (drop (length label) s))
  lead_is = ha ∙ ap (λ (l : List ℕ). length l - length (skip is_blank l)) (tail s n ∙ ap (λ (m : ℕ). drop m s) size)

  pub head_fits : n + a ≤ length s
  head_fits = omega (arith, lead_is, size, starts_length label s st, length-drop (length label) s)

  after_is : after_label label s ≡ drop (n + a) s
  after_is =
      skip_drop is_blank (drop (length label) s)
      ∙ ap (λ (m : ℕ). drop m (drop (length label) s)) (sym lead_is)
      ∙ drop-drop a (length label) s
      ∙ ap (λ (m : ℕ). drop (m + a) s) (sym size)

  byte_is : get_or (after_label label s) 0 0 ≡ get_or (drop (n + a) s) 0 0
  byte_is = ap (λ (l : List ℕ). get_or l 0 0) after_is

  byte_in : n + a < length s → get_or (after_label label s) 0 0 ≡ get_or s (n + a) 0
  byte_in h = byte_is ∙ ap (λ (l : List ℕ). get_or l 0 0) (drop_step s (n + a) h)

  no_equals : is 61 (get_or (after_label label s) 0 0) ≡ false → 0 ≡ head_of label s
  unfolding head_of
  no_equals e = rw (e, and-false (leb 1 (length label) && starts label s))

  pub head_end : n + a ≡ length s → 0 ≡ head_of label s
  head_end e =
      let h : length s ≤ n + a = omega (arith, e) in
      no_equals (ap (λ (x : ℕ). is 61 x) (byte_is ∙ ap (λ (l : List ℕ). get_or l 0 0) (drop_of_length-le s h)))

  pub head_byte : (n + a ≡ length s → ⊥) → (get_or s (n + a) 0 ≡ 61 → ⊥) → 0 ≡ head_of label s
  head_byte m ne =
      let h : n + a < length s = omega (arith, head_fits) in
      no_equals (ap (λ (x : ℕ). is 61 x) (byte_in h) ∙ ne_eqb (get_or s (n + a) 0) 61 ne)

  pub head_here : (n ≡ 0 → ⊥) → (n + a ≡ length s → ⊥) → get_or s (n + a) 0 ≡ 61 → n + a + 1 ≡ head_of label s
  unfolding head_of
  head_here z m e =
      let h : n + a < length s = omega (arith, head_fits) in
      let b : is 61 (get_or (after_label label s) 0 0) ≡ true = ap (λ (x : ℕ). is 61 x) (byte_in h ∙ e) in
      let k : 1 ≤ length label = omega (arith, size) in
      rw (le-leb 1 (length label) k, st, b) (omega (arith, h, ap length after_is, length-drop (n + a) s))

-- ---- as it is printed

all_blanks : (n : ℕ) → all is_blank (replicate n 32) ≡ true
unfolding all
all_blanks zero = refl
all_blanks (suc n) = all_blanks n

pub printed_head : (label s : List ℕ) → length label ≤ 36 → is_printed label s ≡ true → 37 ≡ head_of label s
unfolding is_printed padded head_of skip
printed_head label s h e =
    let p = and_parts (leb 1 (length label)) (starts (padded label ++ 61 ∷ []) s) e in
    let blanks = replicate {A = ℕ} (36 - length label) 32 in
    let v = drop (length (padded label ++ 61 ∷ [])) s in
    let cut : s ≡ label ++ (blanks ++ 61 ∷ v) = starts_cut (padded label ++ 61 ∷ []) s p.1 ∙ simp append_assoc in
    let begun : starts label (label ++ (blanks ++ 61 ∷ v)) ≡ true =
    starts_same label (label ++ (blanks ++ 61 ∷ v)) ∙ rw (take-append_seam label (blanks ++ 61 ∷ v)) (same_refl label) in
    let past : after_label label (label ++ (blanks ++ 61 ∷ v)) ≡ 61 ∷ v =
    ap (skip is_blank) (drop-append_seam label (blanks ++ 61 ∷ v)) ∙ skip_append is_blank blanks (61 ∷ v) (all_blanks (36 - length label)) in
    let size : length (label ++ (blanks ++ 61 ∷ v)) ≡ 37 + length v =
    simp (length-append, length-replicate) (omega arith) in
    rw (cut, p.0, begun, past) (omega (arith, size))

pub short_printed : (label s : List ℕ) → length label ≤ 36 → length s < 37 → false ≡ is_printed label s
unfolding is_printed padded
short_printed label s h k =
    let size : length (padded label ++ 61 ∷ []) ≡ 37 = simp (length-append, length-replicate) (omega arith) in
    rw (sym (starts_short (padded label ++ 61 ∷ []) s (omega (arith, size))), and-false (leb 1 (length label)))

-- past 36 bytes: another than '=', or the label itself is asked
module _ (label s : List ℕ) (size : length (padded label) ≡ 36) (long : 37 ≤ length s) where
  parted : is_printed label s ≡ leb 1 (length label) && (starts (padded label) s && eqb 61 (get_or s 36 0))
  unfolding is_printed starts
  parted =
      let at : drop 36 s ≡ get_or s 36 0 ∷ drop 37 s = drop_step s 36 long in
      ap (λ (b : Bool). leb 1 (length label) && b)
      (starts_append (padded label) (61 ∷ []) s ∙ rw (size, at) (ap (λ (b : Bool). starts (padded label) s && b) (and-true (eqb 61 (get_or s 36 0)))))

  pub other_printed : (get_or s 36 0 ≡ 61 → ⊥) → false ≡ is_printed label s
  other_printed n =
      sym (parted ∙ rw (ne_eqb 61 (get_or s 36 0) (λ e. n (sym e)), and-false (starts (padded label) s)) (and-false (leb 1 (length label))))

  pub no_printed : (n : ℕ) → n ≡ length label → n ≡ 0 → false ≡ is_printed label s
  no_printed n e z = sym (parted ∙ rw (lt-leb 1 (length label) (omega arith)))

  pub is_printed_lem : (n : ℕ) {t : List ℕ} {r : Bool} → n ≡ length label → (n ≡ 0 → ⊥) → get_or s 36 0 ≡ 61 → t ≡ padded label → r ≡ starts t s
      → r ≡ is_printed label s
  is_printed_lem n e z q t_is r_is =
      r_is ∙ ap (λ (t : List ℕ). starts t s) t_is
      ∙ sym (parted ∙ rw (le-leb 1 (length label) (omega arith), eq-eqb 61 (get_or s 36 0) (sym q)) (and-true (starts (padded label) s)))

-- ---- a label begins with a capital letter

unlike : (b x : ℕ) (label s : List ℕ) → eqb b x ≡ false → starts (b ∷ label) (x ∷ s) ≡ false
unfolding starts
unlike b x label s q = rw q

small_head : (label s : List ℕ) → (1 ≤ length label → is_upper (get_or label 0 0) ≡ true) → is_upper (get_or s 0 0) ≡ false → 0 ≡ head_of label s
small_head [] s c e = no_head [] s 0 refl refl
small_head (b ∷ label) [] c e = other_head (b ∷ label) [] (sym (starts_short (b ∷ label) [] (omega arith)))
small_head (b ∷ label) (x ∷ s) c e =
    by_test (eqb b x) (λ q. absurd (false≢true (sym e ∙ ap is_upper (sym (eqb-true b x q)) ∙ c (omega arith))))
    (λ q. other_head (b ∷ label) (x ∷ s) (unlike b x label s q))

pub empty_head : (label s : List ℕ) → length s ≡ 0 → 0 ≡ head_of label s
empty_head label s e =
    by_le 1 (length label) (λ h. other_head label s (sym (starts_short label s (omega arith)))) (λ h. no_head label s (length label) refl (omega arith))

module _ (label s : List ℕ) (c : 1 ≤ length label → is_upper (get_or label 0 0) ≡ true) where
  pub below_head : get_or s 0 0 < 65 → 0 ≡ head_of label s
  below_head h = small_head label s c (rw (lt-leb 65 (get_or s 0 0) h))

  pub above_head : 90 < get_or s 0 0 → 0 ≡ head_of label s
  above_head h = small_head label s c (rw (lt-leb (get_or s 0 0) 90 h, and-false (leb 65 (get_or s 0 0))))

-- ---- below one separator no label is expected

pub row_head : (n h : ℕ) → n ≡ 1 → 0 ≡ cond (eqb n 1) 0 h
row_head n h e = rw (eq-eqb n 1 e)

pub line_head : (n h : ℕ) {r : ℕ} → (n ≡ 1 → ⊥) → r ≡ h → r ≡ cond (eqb n 1) 0 h
line_head n h ne e = e ∙ rw (ne_eqb n 1 ne)

-- ---- what is told by it

record Led (s : List ℕ) : Type 0 where
  front : List ℕ
  blank : all is_blank front ≡ true
  cut : s ≡ front ++ skip is_blank s

led : (s : List ℕ) → Led s
unfolding all skip
led [] = record { front = []; blank = refl; cut = refl }
led (x ∷ s) =
    by_test (is_blank x)
    (λ e. let r = led s in
    record { front = x ∷ r.front; blank = rw e r.blank; cut = rw e (ap (λ (l : List ℕ). x ∷ l) r.cut) })
    (λ e. record { front = []; blank = refl; cut = rw e })

first_byte : (r : List ℕ) → is 61 (get_or r 0 0) ≡ true → r ≡ 61 ∷ drop 1 r
first_byte [] e = absurd (false≢true e)
first_byte (x ∷ r) e = ap (λ (b : ℕ). b ∷ r) (eqb-true x 61 e)

-- a text that begins with a label, blanks and '=', h bytes in all
pub record Headed (label text : List ℕ) (h : ℕ) : Type 0 where
  pub some_label : 1 ≤ length label
  pub front : List ℕ
  pub blank : all is_blank front ≡ true
  pub cut : text ≡ label ++ (front ++ 61 ∷ drop h text)
  pub size : length label + length front + 1 ≡ h

module _ (label text : List ℕ) (h : ℕ) where
  found : leb 1 (length label) && starts label text && is 61 (get_or (after_label label text) 0 0) ≡ true
      → h ≡ length text - length (after_label label text) + 1 → Headed label text h
  found e hh =
      let p = and_parts (leb 1 (length label) && starts label text) (is 61 (get_or (after_label label text) 0 0)) e in
      let q = and_parts (leb 1 (length label)) (starts label text) p.0 in
      let rest = drop (length label) text in
      let after = after_label label text in
      let r = led rest in
      let c = first_byte after p.1 in
      let m = length rest - length after in
      let l1 = starts_length label text q.1 in
      let l2 = length-drop (length label) text in
      let l3 = skip_length is_blank rest in
      let l4 = ap length c in
      let l5 = ap length r.cut ∙ length-append r.front after in
      let n : length label + m + 1 ≡ h = omega (arith, l1, l2, l3, l4, hh) in
      let v : drop 1 after ≡ drop h text =
      ap (drop 1) (skip_drop is_blank rest ∙ drop-drop m (length label) text) ∙ drop-drop 1 (length label + m) text ∙ ap (λ (k : ℕ). drop k text) n in
      record {
        some_label = leb-true 1 (length label) q.0;
        front = r.front;
        blank = r.blank;
        cut =
            starts_cut label text q.1
            ∙ ap (λ (x : List ℕ). label ++ x) (r.cut ∙ ap (λ (x : List ℕ). r.front ++ x) (c ∙ ap (λ (x : List ℕ). 61 ∷ x) v));
        size = omega (arith, l3, l5, n);
      }

  pub headed : h ≡ head_of label text → 0 < h → Headed label text h
  unfolding head_of
  headed e k =
      by_test (leb 1 (length label) && starts label text && is 61 (get_or (after_label label text) 0 0)) (λ t. found t (rw t at e))
      (λ t. let z : h ≡ 0 = rw t at e in absurd (omega (arith, z, k)))

-- ---- a line is the printable bytes of a text: those of a label, blanks and '=' are, so the line goes on behind them

module _ (label text : List ℕ) (h : ℕ) (d : Headed label text h) (plain : all is_plain label ≡ true) where
  pub line_past : upto not_plain text ≡ label ++ (d.front ++ 61 ∷ upto not_plain (drop h text))
  unfolding upto
  line_past =
      let v = drop h text in
      let ours = all_none not_plain is_plain (λ x e. ap not e) label plain in
      let blanks = all_none not_plain is_blank (λ x e. ap not_plain (eqb-true x 32 e)) d.front d.blank in
      ap (upto not_plain) d.cut ∙ upto_append not_plain label (d.front ++ 61 ∷ v) ours
      ∙ ap (λ (x : List ℕ). label ++ x) (upto_append not_plain d.front (61 ∷ v) blanks)

  pub run_past : plain_run text ≡ h + plain_run (drop h text)
  run_past =
      ap length line_past ∙ simp length-append (omega (arith, d.size))

  -- and its parameter is the label with what stands there
  pub line_param : trim label ≡ label → any (is 61) label ≡ false
      → param_of (trim (upto not_plain text)) ≡ Some (param label (trim (upto not_plain (drop h text))))
  line_param t u = ap (λ (x : List ℕ). param_of (trim x)) line_past ∙ head_param label d.front (upto not_plain (drop h text)) t u d.blank
