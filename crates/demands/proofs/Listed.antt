-- Files that differ in blanks inside lists are answered alike: a list is read by its parts, trimmed. Assumes nothing.
use Rattle.value.specs.declared.Value.{Value}
use Rattle.std.specs.Prelude.{Option, Some}
use Prim.Native.Nat.{ℕ, zero, suc, ◌+◌}
use Rattle.demands.specs.Spaced.{Pairwise, none, next, parts, triples, SpacedList, same_text, profile, bands, gradients, SpacedEntry}
use Rattle.layout.proofs.Labels.{kind_at_lem}
use Rattle.layout.specs.Fields.{Field}
use Rattle.layout.specs.Layouts.{fields_of, labels_of, kinds_of, kind_at, no_kind}
use Rattle.layout.specs.Rows.{text_at, row_of}
use Rattle.layout.specs.declared.Layout.{Layout}
use Rattle.reader.specs.Messages.{given, row_in, layout_in, entries_in, values_of, is_bad, good_of, column_record}
use Rattle.reader.specs.Reader.{Sound, is_there, number_or, valued, labelled, record_in, message_of}
use Rattle.reader.specs.Refusals.{answer}
use Rattle.text.specs.Refusals.{refusal}
use Rattle.reader.specs.Refusals.{Answer}
use Rattle.reader_theorems.proofs.Alike.{sound_reading}
use Rattle.reader_theorems.proofs.Validity.{tidy_body}
use Rattle.record.proofs.Places.{At, unit_at, reason_at, note_at, gradients_at}
use Rattle.layout.specs.FieldNumbers.{reason_field, note_field, gradients_field}
use Rattle.record.specs.Records.{Typed, joined, typed, bad_of, cells_of, record_of}
use Rattle.record.specs.declared.Record.{Record}
use Rattle.record_rules.specs.Rules.{broken_in}
use Rattle.text.proofs.Tests.{by_test, and_parts}
use Rattle.text.proofs.Trims.{tidy_parts}
use Rattle.text.specs.Bytes.{all, any, is, past, same, skip, skip_end, tidy, trim, upto}
use Rattle.text_lines.proofs.Order.{Alike, missing_same}
use Rattle.text_lines.specs.Entries.{Entry, stands, again, value_at, column}
use Rattle.text_room.specs.Rooms.{kept_in}
use Rattle.value.specs.Kinds.{list_from, triples_from, shape_of, value_of}
use Rattle.value.specs.declared.Kind.{Kind}
use Rattle.value.specs.declared.Shape.TheVariants.{IsUnit, IsReason, IsNote, IsTriples}
use Rattle.value.specs.declared.Shape.{Shape}
use Rattle.value.specs.declared.Value.TheVariants.{Blank}
use Rattle.value_list.proofs.Cuts.{cut_none, cut_some, cut_first}
use Rattle.value_list.specs.Forms.{amount_of, listed, numbers_in, profile_of, bands_of, one_of, one_in, triple_is, triple_in, gradients_read, gradients_in, kept_triples}
use Rattle.value_list.specs.Lists.{cut_at, cons_read, every_of, counted, some_of}
use Rattle.value_list.specs.declared.Triple.{Triple}
use Rattle.value_name.specs.declared.MessageType.{MessageType}
use borrow.Author.Tests.{eqb-true, ne_eqb}
use lib.Dec.{eqb, ltb}
use lib.IntN.{ℤ}
use lib.ListN.{length, get_or}
use mathlib.Core.Bool.{Bool, true, ◌&&◌, ◌||◌, not, cond}
use mathlib.Core.List.{List, [], ◌∷◌, map, map-map}
use mathlib.Core.Logic.{◌⊎◌, inr, ⊎_elim}
use mathlib.Core.Path.{◌≡◌, refl, sym, ap, ap₂, ◌∙◌, subst}
use native.Mathlib.Omega.{arith}

-- ---- a list is read by its parts

-- all that are read, or none where one cannot be
abbrev read_each : {P A : Type 0} → (P → Option A) → List P → Option (List A)
read_each read [] = Some []
read_each read (p ∷ ps) = cons_read (read p) (read_each read ps)

each_map : {P Q A : Type 0} (f : P → Q) (read : Q → Option A) (ps : List P) → read_each (λ (p : P). read (f p)) ps ≡ read_each read (map f ps)
each_map f read [] = refl
each_map f read (p ∷ ps) = ap (cons_read (read (f p))) (each_map f read ps)

every_trimmed : {A : Type 0} (read : List ℕ → Option A) (ps : List (List ℕ)) → every_of read ps ≡ read_each read (map trim ps)
unfolding every_of
every_trimmed read [] = refl
every_trimmed read (p ∷ ps) = ap (cons_read (read (trim p))) (every_trimmed read ps)

some_parts : {A : Type 0} (read : List ℕ → Option A) (sep least most : ℕ) (s : List ℕ)
    → some_of read sep least most s ≡ counted least most (read_each read (parts sep s))
unfolding some_of
some_parts read sep least most s = ap (counted least most) (every_trimmed read (cut_at sep s))

numbers_alike : (sep least most : ℕ) (s t : List ℕ) → parts sep s ≡ parts sep t → numbers_in sep least most s ≡ numbers_in sep least most t
unfolding numbers_in
numbers_alike sep least most s t e =
    ap listed
    (some_parts amount_of sep least most s
    ∙ ap (λ (ps : List (List ℕ)). counted least most (read_each amount_of ps)) e
    ∙ sym (some_parts amount_of sep least most t))

pub lists_alike : (s t : List ℕ) → parts 59 s ≡ parts 59 t → (profile_of s ≡ profile_of t) × (bands_of s ≡ bands_of t)
lists_alike s t e = (numbers_alike 59 1 4 s t e, numbers_alike 59 2 2 s t e)

-- a triple by its own parts
abbrev triple_from : List (List ℕ) → Option Triple
triple_from ps = triple_is (one_of (counted 3 3 (read_each amount_of ps)))

triple_parts : (s : List ℕ) → triple_in s ≡ triple_from (parts 44 s)
unfolding one_in
triple_parts s = ap (λ (o : Option (List ℤ)). triple_is (one_of o)) (some_parts amount_of 44 3 3 s)

some_triples : (s : List ℕ) → some_of triple_in 59 1 16 s ≡ counted 1 16 (read_each triple_from (triples s))
some_triples s =
    some_parts triple_in 59 1 16 s
    ∙ ap (λ (read : List ℕ → Option Triple). counted 1 16 (read_each read (parts 59 s))) (λ i p. triple_parts p i)
    ∙ ap (counted 1 16) (each_map (parts 44) triple_from (parts 59 s))

pub gradients_alike : (s t : List ℕ) → triples s ≡ triples t → gradients_in s ≡ gradients_in t
unfolding gradients_in
gradients_alike s t e =
    ap gradients_read
    (some_triples s
    ∙ ap (λ (ps : List (List (List ℕ))). counted 1 16 (read_each triple_from ps)) e
    ∙ sym (some_triples t))

-- ---- a trimmed text whose one part is empty is empty

-- what is made of one part is made of the whole text
one_part : {B : Type 0} (f : List ℕ → B) (sep : ℕ) (s : List ℕ) (b : B) → map f (cut_at sep s) ≡ b ∷ [] → f s ≡ b
one_part f sep s b h =
    by_test (any (is sep) s)
    (λ y.
    let first = upto (is sep) s in
    let more = cut_first sep (past (is sep) s) in
    let two : map f (cut_at sep s) ≡ map f (first ∷ upto (is sep) (past (is sep) s) ∷ more.0) =
    ap (map f) (cut_some sep s y ∙ ap (λ (ps : List (List ℕ)). first ∷ ps) more.1) in
    cc)
    (λ n. let one : map f (cut_at sep s) ≡ f s ∷ [] = ap (map f) (cut_none sep s n) in cc)

no_text : trim [] ≡ []
unfolding trim skip skip_end
no_text = refl

no_parts : (sep : ℕ) → parts sep [] ≡ [] ∷ []
unfolding cut_at
no_parts sep = ap (λ (t : List ℕ). t ∷ []) no_text

module _ (s : List ℕ) (own : trim s ≡ s) where
  blank_list : (sep : ℕ) → parts sep s ≡ parts sep [] → s ≡ []
  blank_list sep h = sym own ∙ one_part trim sep s [] (h ∙ no_parts sep)

  blank_triples : triples s ≡ triples [] → s ≡ []
  blank_triples h =
      blank_list 44
      (ap (parts 44) (sym own)
      ∙ one_part (λ (p : List ℕ). parts 44 (trim p)) 59 s (parts 44 [])
      (sym (map-map (parts 44) trim (cut_at 59 s)) ∙ h ∙ ap (map (parts 44)) (no_parts 59)))

-- two texts of which each is empty where the other is
blank_both : (s t : List ℕ) → (s ≡ [] → t ≡ []) → (t ≡ [] → s ≡ []) → eqb (length s) 0 ≡ eqb (length t) 0
blank_both [] t f g = ap (λ (u : List ℕ). eqb (length u) 0) (sym (f refl))
blank_both (x ∷ s) [] f g = let no : x ∷ s ≡ [] = g refl in cc
blank_both (x ∷ s) (y ∷ t) f g = ne_eqb (suc (length s)) 0 (λ e. omega (arith, e)) ∙ sym (ne_eqb (suc (length t)) 0 (λ e. omega (arith, e)))

blank_listed : (s t : List ℕ) → trim s ≡ s → trim t ≡ t → parts 59 s ≡ parts 59 t → eqb (length s) 0 ≡ eqb (length t) 0
blank_listed s t p q e = blank_both s t (λ z. blank_list t q 59 (sym e ∙ ap (parts 59) z)) (λ z. blank_list s p 59 (e ∙ ap (parts 59) z))

blank_alike : {a : Shape} {s t : List ℕ} → trim s ≡ s → trim t ≡ t → SpacedList a s t → eqb (length s) 0 ≡ eqb (length t) 0
blank_alike p q (same_text s) = refl
blank_alike p q (profile {s} {t} e) = blank_listed s t p q e
blank_alike p q (bands {s} {t} e) = blank_listed s t p q e
blank_alike p q (gradients {s} {t} e) =
    blank_both s t (λ z. blank_triples t q (sym e ∙ ap triples z)) (λ z. blank_triples s p (e ∙ ap triples z))

-- ---- a value, and a column of values by their kinds

shape_alike : {a : Shape} {s t : List ℕ} → SpacedList a s t → shape_of a s ≡ shape_of a t
unfolding shape_of
shape_alike (same_text s) = refl
shape_alike (profile {s} {t} e) = ap list_from (numbers_alike 59 1 4 s t e)
shape_alike (bands {s} {t} e) = ap list_from (numbers_alike 59 2 2 s t e)
shape_alike (gradients {s} {t} e) = ap triples_from (gradients_alike s t e)

value_alike : (k : Kind) (s t : List ℕ) → trim s ≡ s → trim t ≡ t → SpacedList k.shape s t → value_of k s ≡ value_of k t
unfolding value_of
value_alike k s t p q r = ap₂ (λ (b : Bool) (v : Option Value). cond (k.blank && b) (Some Blank) v) (blank_alike p q r) (shape_alike r)

data SpacedColumn : List Kind → List (List ℕ) → List (List ℕ) → Type 0 where
  last : {ds : List Kind} → SpacedColumn ds [] []
  more : {d : Kind} {ds : List Kind} {s t : List ℕ} {ss ts : List (List ℕ)}
      → SpacedList d.shape s t → SpacedColumn ds ss ts → SpacedColumn (d ∷ ds) (s ∷ ss) (t ∷ ts)

typed_alike : (k : ℕ) {ds : List Kind} {ss ts : List (List ℕ)} → all tidy ss ≡ true → all tidy ts ≡ true → SpacedColumn ds ss ts
    → typed k ds ss ≡ typed k ds ts
unfolding all typed
typed_alike k p q last = refl
typed_alike k p q (more {d} {ds} {s} {t} {ss} {ts} r c) =
    let a = and_parts (tidy s) (all tidy ss) p in
    let b = and_parts (tidy t) (all tidy ts) q in
    ap₂ (joined k) (value_alike d s t (tidy_parts s a.0).1 (tidy_parts t b.0).1 r) (typed_alike (suc k) a.1 b.1 c)

spaced_at : {ds : List Kind} {ss ts : List (List ℕ)} → SpacedColumn ds ss ts → (j : ℕ) → SpacedList (get_or ds j no_kind).shape (get_or ss j []) (get_or ts j [])
spaced_at last j = same_text []
spaced_at (more r c) zero = r
spaced_at (more r c) (suc j) = spaced_at c j

-- ---- the record of a column

-- a shape of which no list is read
abbrev Plain : Shape → Type 0
Plain a = (s t : List ℕ) → SpacedList a s t → s ≡ t

plain_unit : Plain IsUnit
plain_unit s t (same_text u) = refl

plain_reason : Plain IsReason
plain_reason s t (same_text u) = refl

plain_note : Plain IsNote
plain_note s t (same_text u) = refl

module _ (l : Layout) (ss ts : List (List ℕ)) (c : SpacedColumn (kinds_of l) ss ts) where
  field_spaced : (a : Shape) (k : ℕ) → At l a k → SpacedList a (text_at ss k) (text_at ts k)
  field_spaced a k w = rw w.field_is (rw w.shape_is at (spaced_at c w.place))

  -- a field of such a shape, or none
  plain_alike : (a : Shape) (k : ℕ) → Plain a → (k ≡ 0) ⊎ At l a k → text_at ss k ≡ text_at ts k
  plain_alike a k same_of = ⊎_elim (λ (e : k ≡ 0). rw e) (λ (w : At l a k). same_of (text_at ss k) (text_at ts k) (field_spaced a k w))

  unit_alike : text_at ss 2 ≡ text_at ts 2
  unit_alike = plain_alike IsUnit 2 plain_unit (inr (unit_at l))

  list_alike : gradients_in (text_at ss (gradients_field l)) ≡ gradients_in (text_at ts (gradients_field l))
  list_alike =
      ⊎_elim (λ (e : gradients_field l ≡ 0). rw e)
      (λ w. triples_same (text_at ss (gradients_field l)) (text_at ts (gradients_field l)) (field_spaced IsTriples (gradients_field l) w.at))
      (gradients_at l)
    where
      triples_same : (s t : List ℕ) → SpacedList IsTriples s t → gradients_in s ≡ gradients_in t
      triples_same s t (same_text u) = refl
      triples_same s t (gradients e) = gradients_alike s t e

  module _ (neat : all tidy ss ≡ true) (tidied : all tidy ts ≡ true) where
    values_alike : values_of l ss ≡ values_of l ts
    unfolding values_of
    values_alike = typed_alike 1 neat tidied c

    record_alike : column_record l ss ≡ column_record l ts
    unfolding column_record record_of
    record_alike =
        λ i.
        record {
          layout = l;
          cells = cells_of (good_of (values_alike i));
          unit = kept_in 16 (unit_alike i);
          reason = kept_in 128 (plain_alike IsReason (reason_field l) plain_reason (reason_at l) i);
          note = kept_in 256 (plain_alike IsNote (note_field l) plain_note (note_at l) i);
          gradients = kept_triples (list_alike i);
        }

-- ---- the entries of a layout

module _ (l : Layout) where
  stands_alike : (k : ℕ) {es gs : List Entry} → Pairwise (SpacedEntry l) es gs → stands k es ≡ stands k gs
  unfolding stands
  stands_alike k none = refl
  stands_alike k (next r p) = ap₂ (λ (n : ℕ) (b : Bool). eqb k n || b) r.same_field (stands_alike k p)

  again_alike : (seen above : List Entry) {es gs : List Entry} → Alike seen above → Pairwise (SpacedEntry l) es gs → again seen es ≡ again above gs
  unfolding again stands
  again_alike seen above h none = refl
  again_alike seen above h (next {x} {y} r p) =
      let f = r.same_field in
      let twice : stands x.at seen ≡ stands y.at above = h x.at ∙ ap (λ (n : ℕ). stands n above) f in
      let rest = again_alike (x ∷ seen) (y ∷ above) (λ k. ap₂ (λ (n : ℕ) (b : Bool). eqb k n || b) f (h k)) p in
      λ i. cond (twice i) (Some (f i)) (rest i)

  value_spaced : (k : ℕ) {es gs : List Entry} → Pairwise (SpacedEntry l) es gs → SpacedList (kind_at l k).shape (value_at k es) (value_at k gs)
  unfolding value_at
  value_spaced k none = same_text []
  value_spaced k (next {x} {y} r p) =
      let f = ap (eqb k) r.same_field in
      by_test (eqb k x.at)
      (λ e. rw (e, sym f ∙ e)
      (subst (λ (n : ℕ). SpacedList (kind_at l n).shape x.value y.value) (sym (eqb-true k x.at e)) r.spaced_value))
      (λ e. rw (e, sym f ∙ e) (value_spaced k p))

  module _ {es gs : List Entry} (p : Pairwise (SpacedEntry l) es gs) where
    fields_spaced : (k : ℕ) (fs : List Field)
        → ((j m : ℕ) → m ≡ k + j → SpacedList (get_or (map (λ (f : Field). f.kind) fs) j no_kind).shape (value_at m es) (value_at m gs))
        → SpacedColumn (map (λ (f : Field). f.kind) fs) (column k (map (λ (f : Field). f.label) fs) es) (column k (map (λ (f : Field). f.label) fs) gs)
    unfolding column
    fields_spaced k [] h = last
    fields_spaced k (f ∷ fs) h = more (h 0 k (omega arith)) (fields_spaced (suc k) fs (λ j m e. h (suc j) m (omega (arith, e))))

    column_spaced : SpacedColumn (kinds_of l) (column 1 (labels_of l) es) (column 1 (labels_of l) gs)
    unfolding kinds_of labels_of
    column_spaced =
        fields_spaced 1 (fields_of l)
        (λ j m e.
        let at : m ≡ suc j = omega (arith, e) in
        subst (λ (d : Kind). SpacedList d.shape (value_at m es) (value_at m gs)) (ap (kind_at l) at ∙ kind_at_lem l j) (value_spaced m p))

-- ---- the judgment, and two files

abbrev column_of : Layout → List Entry → List (List ℕ)
column_of l es = column 1 (labels_of l) es

abbrev judged : Layout → List ℕ → List ℕ → List Entry → Answer
judged l unit row es = answer (labelled l unit row es) (column_record l (column_of l es))

abbrev is_own : Layout → List ℕ → List Entry → Bool
is_own l row es = same row (row_of l (column_of l es))

judged_alike : (l : Layout) (unit row line : List ℕ) {es gs : List Entry} → Pairwise (SpacedEntry l) es gs
    → all tidy (column_of l es) ≡ true → all tidy (column_of l gs) ≡ true → is_own l row es ≡ is_own l line gs → judged l unit row es ≡ judged l unit line gs
unfolding labelled valued
judged_alike l unit row line {es} {gs} p neat tidied own =
    let ss = column_of l es in
    let ts = column_of l gs in
    let c = column_spaced l p in
    let values = values_alike l ss ts c neat tidied in
    let body = record_alike l ss ts c neat tidied in
    let twice = again_alike l [] [] (λ k. refl) p in
    let missed = missing_same 1 (labels_of l) es gs (λ k. stands_alike l k p) in
    λ i. by_parts (twice i) (missed i) (values i) (body i) (unit_alike l ss ts c i) (own i)
  where
    by_parts : Option ℕ → ℕ → Typed → Record → List ℕ → Bool → Answer
    by_parts twice missed vs r code is_own_so =
        answer
        (refusal 5 (number_or twice) (is_there twice)
        ∷ refusal 6 missed (ltb 0 missed)
        ∷ refusal 7 (bad_of vs) (is_bad vs)
        ∷ refusal 8 (broken_in r) (ltb 0 (broken_in r))
        ∷ refusal 9 0 (not (same unit code))
        ∷ refusal 10 0 (not is_own_so)
        ∷ [])
        r

pub lists_spaced : (t : MessageType) (unit f g : List ℕ) → Sound t f → Sound t g
    → layout_in t (given t f) ≡ layout_in t (given t g)
    → Pairwise (SpacedEntry (layout_in t (given t f))) (entries_in t f) (entries_in t g)
    → is_own (layout_in t (given t f)) (row_in f) (entries_in t f) ≡ is_own (layout_in t (given t g)) (row_in g) (entries_in t g)
    → message_of t unit f ≡ message_of t unit g
unfolding record_in
lists_spaced t unit f g sf sg lay p own =
    let l = layout_in t (given t f) in
    let neat = tidy_body t f sf.clean in
    sound_reading t unit f sf
    ∙ subst
    (λ (m : Layout). all tidy (column_of m (entries_in t g)) ≡ true
    → is_own l (row_in f) (entries_in t f) ≡ is_own m (row_in g) (entries_in t g)
    → judged l unit (row_in f) (entries_in t f) ≡ judged m unit (row_in g) (entries_in t g))
    lay (judged_alike l unit (row_in f) (row_in g) p neat) (tidy_body t g sg.clean) own
    ∙ sym (sound_reading t unit g sg)
