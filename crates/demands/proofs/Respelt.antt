-- A file by either spelling of a label is answered alike, whatever the answer. Assumes nothing.
use Rattle.std.specs.Prelude.{Some}
use Prim.Native.Nat.{ℕ, ◌<◌}
use Rattle.demands.proofs.Parted.{Alike, lines_same}
use Rattle.demands.specs.Request1.{with_label}
use Rattle.demands.specs.Spaced.{Pairwise, none, next}
use Rattle.layout.specs.Layouts.{labels_of}
use Rattle.reader.specs.Messages.{given, row_in, layout_in, entries_in, column_record}
use Rattle.reader.specs.Reader.{Clean, Sound, labelled, reading, record_in, message_of}
use Rattle.reader.specs.Refusals.{refused, answer}
use Rattle.reader.specs.Refusals.{Answer}
use Rattle.reader_accent.proofs.Table.{accents_good}
use Rattle.reader_accent.specs.Accents.{accents_of}
use Rattle.reader_theorems.proofs.Alike.{sound_reading}
use Rattle.text.proofs.Cuts.{all_append, any_append, any_seam, same_true, all_none}
use Rattle.text.proofs.Tests.{by_test, within_tells}
use Rattle.text.specs.Bytes.{all, any, bytes, is, is_blank, is_plain, past, same, skip, skip_end, trim, upto, within}
use Rattle.text_lines.proofs.Allowed.{allowed_length, below_allowed, spelt_allowed}
use Rattle.text_lines.proofs.Params.{param_of_line, sep_equals, equals_trim, trim_front_blanks, trim_end_blanks}
use Rattle.text_lines.proofs.Spelt.{plain_unaccented, respell_plain}
use Rattle.text_lines.proofs.Steps.{lines_step}
use Rattle.text_lines.specs.Entries.{entries, column}
use Rattle.text_lines.specs.Lines.{Param, param, allowed_upto, push, line_step, lines, text_of, texts, is_sep, respelt, param_in}
use Rattle.text_lines.specs.Spellings.{begins_line, is_accented, respell}
use Rattle.value_name.specs.declared.MessageType.{MessageType}
use Rattle.value_name.specs.declared.MessageType.TheVariants.{Cb, Rc, Mg, Eb, Lb, Sr, Vq, Ri, Qr}
use borrow.Author.Tests.{eqb-true, ne_eqb, ltb-false}
use lib.Dec.{ltb}
use lib.ListN.{length, length-append}
use mathlib.Core.Bool.{true, false, false≢true}
use mathlib.Core.List.{List, [], ◌∷◌, ◌++◌, map, append_assoc}
use mathlib.Core.Path.{◌≡◌, refl, sym, ap, ap₂, ◌∙◌, subst}
use native.Mathlib.Omega.{arith}

-- ---- files with the same row and the same parameters

pub same_given : (t : MessageType) (unit f g : List ℕ) → Sound t f → Sound t g → row_in f ≡ row_in g → given t f ≡ given t g
    → message_of t unit f ≡ message_of t unit g
unfolding record_in entries_in
same_given t unit f g sf sg r e =
    sound_reading t unit f sf ∙ ap₂ by_given r e ∙ sym (sound_reading t unit g sg)
  where
    by_given : List ℕ → List Param → Answer
    by_given row ps =
        let l = layout_in t ps in
        let es = entries (labels_of l) ps in
        answer (labelled l unit row es) (column_record l (column 1 (labels_of l) es))

-- ---- the two spellings of a label

record Spellings (x y : List ℕ) : Type 0 where
  size : length x ≡ length y
  plain : all is_plain y ≡ true
  x_trim : trim x ≡ x
  y_trim : trim y ≡ y
  x_equals : any (is 61) x ≡ false
  y_equals : any (is 61) y ≡ false
  x_feed : any (is 10) x ≡ false
  x_return : any (is 13) x ≡ false

mode : Spellings (bytes "Modalità funzionamento") (bytes "Modalita funzionamento")
unfolding all any trim skip skip_end
mode = record { size = refl; plain = refl; x_trim = refl; y_trim = refl; x_equals = refl; y_equals = refl; x_feed = refl; x_return = refl }

power : Spellings (bytes "Quantità Riservata (MW)") (bytes "Quantita Riservata (MW)")
unfolding all any trim skip skip_end
power = record { size = refl; plain = refl; x_trim = refl; y_trim = refl; x_equals = refl; y_equals = refl; x_feed = refl; x_return = refl }

extent : Spellings (bytes "Quantità Riservata") (bytes "Quantita Riservata")
unfolding all any trim skip skip_end
extent = record { size = refl; plain = refl; x_trim = refl; y_trim = refl; x_equals = refl; y_equals = refl; x_feed = refl; x_return = refl }

spellings : (t : MessageType) (x : List ℕ) → is_accented (accents_of t) x ≡ true → Spellings x (respell (accents_of t) x)
unfolding is_accented respell accents_of any
spellings Cb x a = absurd (false≢true a)
spellings Rc x a = absurd (false≢true a)
spellings Mg x a = absurd (false≢true a)
spellings Eb x a = absurd (false≢true a)
spellings Lb x a = absurd (false≢true a)
spellings Sr x a = absurd (false≢true a)
spellings Vq x a =
    by_test (same (bytes "Modalità funzionamento") x)
    (λ e. rw e (subst (λ (z : List ℕ). Spellings z (bytes "Modalita funzionamento")) (same_true (bytes "Modalità funzionamento") x e) mode))
    (λ e. absurd (false≢true (rw e at a)))
spellings Ri x a = absurd (false≢true a)
spellings Qr x a =
    by_test (same (bytes "Quantità Riservata (MW)") x)
    (λ e. rw e (subst (λ (z : List ℕ). Spellings z (bytes "Quantita Riservata (MW)")) (same_true (bytes "Quantità Riservata (MW)") x e) power))
    (λ e.
    by_test (same (bytes "Quantità Riservata") x)
    (λ f. rw (e, f) (subst (λ (z : List ℕ). Spellings z (bytes "Quantita Riservata")) (same_true (bytes "Quantità Riservata") x f) extent))
    (λ f. absurd (false≢true (rw (e, f) at a))))

-- ---- the texts of a file, from a line on

pushed : (c : ℕ) (ls : List (List ℕ)) → 0 < length (push c ls)
pushed c [] = omega arith
pushed c (l ∷ ls) = omega arith

some_line : (c : ℕ) (bs : List ℕ) → 0 < length (lines (c ∷ bs))
unfolding lines
some_line c bs = by_test (is 10 c) (λ e. rw e (omega arith)) (λ e. rw e (pushed c (lines bs)))

stepped : (b : ℕ) (ls ms : List (List ℕ)) → 0 < length ls → line_step b (ls ++ ms) ≡ line_step b ls ++ ms
stepped b [] ms h = absurd (omega (arith, h))
stepped b (l ∷ ls) ms h = by_test (is 10 b) (λ e. rw e) (λ e. rw e)

lines_below : (b : ℕ) (bs rest : List ℕ) → begins_line (b ∷ bs) ≡ true → lines (b ∷ (bs ++ rest)) ≡ lines (b ∷ bs) ++ lines rest
unfolding lines
lines_below b [] rest h = rw h
lines_below b (c ∷ bs) rest h = ap (line_step b) (lines_below c bs rest h) ∙ stepped b (lines (c ∷ bs)) (lines rest) (some_line c bs)

map_join : (xs ys : List (List ℕ)) → map text_of (xs ++ ys) ≡ map text_of xs ++ map text_of ys
map_join [] ys = refl
map_join (x ∷ xs) ys = ap (λ (l : List (List ℕ)). text_of x ∷ l) (map_join xs ys)

texts_below : (before rest : List ℕ) → begins_line before ≡ true → texts (before ++ rest) ≡ texts before ++ texts rest
unfolding texts lines
texts_below [] rest h = refl
texts_below (b ∷ bs) rest h = ap (map text_of) (lines_below b bs rest h) ∙ map_join (lines (b ∷ bs)) (lines rest)

upto_past : (e : ℕ) (p rest : List ℕ) → any (is e) p ≡ false → is e 61 ≡ false → upto (is e) (p ++ 61 ∷ rest) ≡ p ++ 61 ∷ upto (is e) rest
unfolding any upto
upto_past e [] rest h k = rw k
upto_past e (x ∷ p) rest h k =
    by_test (is e x) (λ t. absurd (false≢true (sym (rw t at h)))) (λ t. rw t (ap (λ (l : List ℕ). x ∷ l) (upto_past e p rest (rw t at h) k)))

past_past : (e : ℕ) (p rest : List ℕ) → any (is e) p ≡ false → is e 61 ≡ false → past (is e) (p ++ 61 ∷ rest) ≡ past (is e) rest
unfolding any past
past_past e [] rest h k = rw k
past_past e (x ∷ p) rest h k = by_test (is e x) (λ t. absurd (false≢true (sym (rw t at h)))) (λ t. rw t (past_past e p rest (rw t at h) k))

-- the line of a label p, with what follows its '='
texts_line : (p rest : List ℕ) → any (is 10) p ≡ false → any (is 13) p ≡ false
    → texts (p ++ 61 ∷ rest) ≡ trim (p ++ 61 ∷ upto (is 13) (upto (is 10) rest)) ∷ texts (past (is 10) rest)
unfolding texts text_of
texts_line p rest f r =
    ap (map text_of) (lines_step (p ++ 61 ∷ rest) (omega (arith, length-append p (61 ∷ rest))))
    ∙ ap₂ (λ (l s : List ℕ). trim (upto (is 13) l) ∷ map text_of (lines s)) (upto_past 10 p rest f refl) (past_past 10 p rest f refl)
    ∙ ap (λ (l : List ℕ). trim l ∷ map text_of (lines (past (is 10) rest))) (upto_past 13 p (upto (is 10) rest) r refl)

-- ---- the answers that the size and the bytes decide

module _ (t : MessageType) (unit file : List ℕ) where
  bad_size : within 1 8192 (length file) ≡ false → message_of t unit file ≡ refused 2 0
  unfolding message_of reading answer
  bad_size e = rw e

  bad_byte : within 1 8192 (length file) ≡ true → ltb (allowed_upto (accents_of t) file) (length file) ≡ true
      → message_of t unit file ≡ refused 3 (allowed_upto (accents_of t) file)
  unfolding message_of reading answer
  bad_byte e b = rw (e, b)

  is_clean : within 1 8192 (length file) ≡ true → ltb (allowed_upto (accents_of t) file) (length file) ≡ false → Clean t file
  is_clean e b =
      let s = (within_tells 1 8192 (length file)).0 e in
      record {
        some_bytes = s.0;
        not_long = s.1;
        clean = omega (arith, allowed_length (accents_of t) file, ltb-false (allowed_upto (accents_of t) file) (length file) b);
      }

-- ---- the theorem

same_pairs : {R : List ℕ → List ℕ → Type 0} → ((s : List ℕ) → R s s) → (ts : List (List ℕ)) {us vs : List (List ℕ)} → Pairwise R us vs
    → Pairwise R (ts ++ us) (ts ++ vs)
same_pairs r [] p = p
same_pairs r (s ∷ ts) p = next (r s) (same_pairs r ts p)

module _ (t : MessageType) (unit before a x b rest : List ℕ) (begins : begins_line before ≡ true) (ha : all is_blank a ≡ true) (hb : all is_blank b ≡ true)
    (accented : is_accented (accents_of t) x ≡ true) where
  abbrev y : List ℕ
  y = respell (accents_of t) x

  both : Spellings x y
  both = spellings t x accented

  abbrev file : List ℕ → List ℕ
  file label = before ++ with_label a label b rest

  abbrev part : List ℕ → List ℕ
  part label = a ++ (label ++ b)

  line_is : (label : List ℕ) → with_label a label b rest ≡ part label ++ 61 ∷ rest
  line_is label = ap (λ (l : List ℕ). a ++ l) (sym (append_assoc label b (61 ∷ rest))) ∙ sym (append_assoc a (label ++ b) (61 ∷ rest))

  file_is : (label : List ℕ) → file label ≡ before ++ (part label ++ 61 ∷ rest)
  file_is label = ap (λ (l : List ℕ). before ++ l) (line_is label)

  -- blanks have neither '=' nor LF nor CR, and can be printed
  blank_plain : (s : List ℕ) → all is_blank s ≡ true → all is_plain s ≡ true
  unfolding all
  blank_plain [] h = refl
  blank_plain (z ∷ s) h =
      by_test (is_blank z) (λ e. rw (ap is_plain (eqb-true z 32 e)) (blank_plain s (rw e at h))) (λ e. absurd (false≢true (rw e at h)))

  blank_none : (e : ℕ) → (e ≡ 32 → ⊥) → (s : List ℕ) → all is_blank s ≡ true → any (is e) s ≡ false
  blank_none e n s h = all_none (is e) is_blank (λ z q. ne_eqb z e (λ w. n (sym w ∙ eqb-true z 32 q))) s h

  plain_none : (e : ℕ) → e < 32 → (s : List ℕ) → all is_plain s ≡ true → any (is e) s ≡ false
  plain_none e h = all_none (is e) is_plain (λ z p. ne_eqb z e (λ q. omega (arith, h, q, ((within_tells 32 126 z).0 p).0)))

  part_none : (e : ℕ) → (e ≡ 32 → ⊥) → (label : List ℕ) → any (is e) label ≡ false → any (is e) (part label) ≡ false
  part_none e n label h = any_append (is e) a (label ++ b) (blank_none e n a ha) (any_append (is e) label b h (blank_none e n b hb))

  part_trim : (label : List ℕ) → trim label ≡ label → trim (part label) ≡ label
  part_trim label h = trim_front_blanks a (label ++ b) ha ∙ trim_end_blanks label b hb ∙ h

  part_plain : all is_plain (part y) ≡ true
  part_plain = all_append is_plain a (y ++ b) (blank_plain a ha) (all_append is_plain y b both.plain (blank_plain b hb))

  sizes : length (part x) ≡ length (part y)
  sizes = omega (arith, length-append a (x ++ b), length-append a (y ++ b), length-append x b, length-append y b, both.size)

  same_size : length (file x) ≡ length (file y)
  same_size =
      omega (
        arith,
        ap length (file_is x),
        ap length (file_is y),
        length-append before (part x ++ 61 ∷ rest),
        length-append before (part y ++ 61 ∷ rest),
        length-append (part x) (61 ∷ rest),
        length-append (part y) (61 ∷ rest),
        sizes,
      )

  same_allowed : allowed_upto (accents_of t) (file x) ≡ allowed_upto (accents_of t) (file y)
  same_allowed =
      let sp = accents_of t in
      let here = spelt_allowed sp (accents_good t) (part x) (part y) rest (part_none 61 (λ q. omega (arith, q)) x both.x_equals) (part_none 61 (λ q. omega (arith, q)) y both.y_equals) sizes
      (ap (is_accented sp) (part_trim x both.x_trim) ∙ accented) part_plain
      (ap (is_accented sp) (part_trim y both.y_trim) ∙ plain_unaccented sp y (accents_good t) both.plain) in
      ap (allowed_upto sp) (file_is x) ∙ below_allowed sp (part x ++ 61 ∷ rest) (part y ++ 61 ∷ rest) here before begins ∙ sym (ap (allowed_upto sp) (file_is y))

  -- the lines
  abbrev value : List ℕ
  value = upto (is 13) (upto (is 10) rest)

  file_texts : (label : List ℕ) → any (is 10) label ≡ false → any (is 13) label ≡ false
      → texts (file label) ≡ texts before ++ (trim (part label ++ 61 ∷ value) ∷ texts (past (is 10) rest))
  file_texts label f r =
      ap texts (file_is label) ∙ texts_below before (part label ++ 61 ∷ rest) begins
      ∙ ap (λ (ts : List (List ℕ)). texts before ++ ts)
      (texts_line (part label) rest (part_none 10 (λ q. omega (arith, q)) label f) (part_none 13 (λ q. omega (arith, q)) label r))

  line_param : (label : List ℕ) → any (is 61) label ≡ false → trim label ≡ label
      → param_in (accents_of t) (trim (part label ++ 61 ∷ value)) ≡ Some (param (respell (accents_of t) label) (trim value))
  unfolding param_in
  line_param label e h =
      ap (respelt (accents_of t)) (param_of_line (part label) value (part_none 61 (λ q. omega (arith, q)) label e))
      ∙ ap (λ (l : List ℕ). Some (param (respell (accents_of t) l) (trim value))) (part_trim label h)

  line_sep : (label : List ℕ) → is_sep (trim (part label ++ 61 ∷ value)) ≡ false
  line_sep label = sep_equals (trim (part label ++ 61 ∷ value)) (equals_trim (part label ++ 61 ∷ value) ∙ any_seam (is 61) (part label) 61 value refl)

  alike : Pairwise (Alike (accents_of t)) (texts (file x)) (texts (file y))
  alike =
      let sp = accents_of t in
      let y_feed = plain_none 10 (omega arith) y both.plain in
      let y_return = plain_none 13 (omega arith) y both.plain in
      let one : Alike sp (trim (part x ++ 61 ∷ value)) (trim (part y ++ 61 ∷ value)) = (
        line_sep x ∙ sym (line_sep y),
        line_param x both.x_equals both.x_trim
            ∙ sym (line_param y both.y_equals both.y_trim ∙ ap (λ (l : List ℕ). Some (param l (trim value))) (respell_plain sp y (accents_good t) both.plain)),
      ) in
      rw (file_texts x both.x_feed both.x_return, file_texts y y_feed y_return)
      (same_pairs {R = Alike sp} (λ s. (refl, refl)) (texts before) (next one (all_same (texts (past (is 10) rest)))))
    where
      all_same : (ts : List (List ℕ)) → Pairwise (Alike (accents_of t)) ts ts
      all_same [] = none
      all_same (s ∷ ts) = next (refl, refl) (all_same ts)

  pub either : row_in (file x) ≡ row_in (file y) → message_of t unit (file x) ≡ message_of t unit (file y)
  either row =
      by_test (within 1 8192 (length (file x)))
      (λ s.
      let s2 = ap (within 1 8192) (sym same_size) ∙ s in
      let same_test = ap₂ ltb same_allowed same_size in
      by_test (ltb (allowed_upto (accents_of t) (file x)) (length (file x)))
      (λ h. bad_byte t unit (file x) s h ∙ ap (refused 3) same_allowed ∙ sym (bad_byte t unit (file y) s2 (sym same_test ∙ h)))
      (λ h. lines_same t unit (file x) (file y) alike (is_clean t unit (file x) s h) (is_clean t unit (file y) s2 (sym same_test ∙ h)) row))
      (λ s. bad_size t unit (file x) s ∙ sym (bad_size t unit (file y) (ap (within 1 8192) (sym same_size) ∙ s)))
