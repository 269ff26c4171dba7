-- A column that was read by its kinds: each value is held by its kind, and the rooms of the record hold the texts of its values.
-- Assumes nothing.
use Rattle.std.specs.Prelude.{None, Option, Some}
use Prim.Native.Nat.{ℕ, zero, suc, ◌≤◌, ◌<◌}
use Rattle.reader_fill.proofs.Gradients.{none_there}
use Rattle.reader_fill.proofs.Records.{not_good, good_is}
use Rattle.reader_fill.proofs.Stored.{kept_in_room, record_stored}
use Rattle.layout.proofs.Labels.{kinds_length, kind_at_lem}
use Rattle.layout.specs.Layouts.{kinds_of, no_kind, type_of}
use Rattle.layout.specs.Rows.{text_at}
use Rattle.layout.specs.declared.Layout.{Layout}
use Rattle.value_list.specs.Forms.{no_triple, gradients_in, kept_triples}
use Rattle.value_name.proofs.RoundTrip.{unit_size}
use Rattle.value_name.specs.Names.{is_unit}
use Rattle.value_name.specs.declared.MessageType.{MessageType}
use Rattle.record.proofs.Places.{At, unit_at, reason_at, note_at}
use Rattle.layout.specs.FieldNumbers.{reason_field, note_field, gradients_field}
use Rattle.record.specs.Records.{Typed, joined, typed, record_of, rooms_of}
use Rattle.record.specs.Records.Typed.{bad, good}
use Rattle.record.specs.declared.Record.{Record}
use Rattle.text_room.specs.Rooms.{kept_in}
use Rattle.record_rules.specs.Rules.{broken_in}
use Rattle.text.proofs.Tests.{by_test, and_parts}
use Rattle.text.specs.Bytes.{all, tidy}
use Rattle.text.specs.Puts.{room_of}
use Rattle.record_valid.specs.Valid.{HoldAll, texts_of, ValidAs}
use Rattle.record_valid.specs.Valid.HoldAll.{end as ends, next as nexts}
use Rattle.value.proofs.Fit.{InRoom, Stored, value_fits}
use Rattle.value.specs.Kinds.{shape_of, value_of}
use Rattle.value.specs.Texts.{Rooms, value_text}
use Rattle.value.specs.declared.Kind.{Kind}
use Rattle.value.specs.declared.Shape.{Shape}
use Rattle.value.specs.declared.Shape.TheVariants.{IsUnit, IsReason, IsNote}
use Rattle.value.specs.declared.Value.{Value}
use Rattle.value.specs.declared.Value.TheVariants.{Blank, Reason, Note, Unit as UnitOf}
use borrow.Author.Tests.{le-leb, leb-true, eqb-true}
use lib.Dec.{eqb, leb}
use lib.ListN.{length, get_or, replicate}
use mathlib.Core.Bool.{Bool, true, false, ◌&&◌, cond}
use mathlib.Core.List.{List, [], ◌∷◌, map}
use mathlib.Core.Logic.{⊎_elim}
use mathlib.Core.Path.{◌≡◌, refl, sym, ap, ◌∙◌, subst}
use native.Mathlib.Omega.{arith}

-- ---- the values of a column

-- each value is what its kind reads of its text
pub data ReadAll : List Kind → List (List ℕ) → List Value → Type 0 where
  end : {ts : List (List ℕ)} → ReadAll [] ts []
  next : {d : Kind} {ds : List Kind} {s : List ℕ} {ts : List (List ℕ)} {v : Value} {vs : List Value}
      → value_of d s ≡ Some v → ReadAll ds ts vs → ReadAll (d ∷ ds) (s ∷ ts) (v ∷ vs)

joined_read : (k : ℕ) (d : Kind) (ds : List Kind) (s : List ℕ) (ts : List (List ℕ)) (vs : List Value) (g : Option Value) (t : Typed)
    → value_of d s ≡ g → joined k g t ≡ good vs → ((ws : List Value) → t ≡ good ws → ReadAll ds ts ws) → ReadAll (d ∷ ds) (s ∷ ts) vs
unfolding joined
joined_read k d ds s ts vs None t q e f = absurd (not_good e)
joined_read k d ds s ts vs (Some v) (bad j) q e f = absurd (not_good e)
joined_read k d ds s ts vs (Some v) (good ws) q e f = subst (ReadAll (d ∷ ds) (s ∷ ts)) (good_is e) (next q (f ws refl))

pub read_all : (k : ℕ) (ds : List Kind) (ts : List (List ℕ)) (vs : List Value) → typed k ds ts ≡ good vs → ReadAll ds ts vs
unfolding typed
read_all k [] ts vs e = subst (ReadAll [] ts) (good_is e) end
read_all k (d ∷ ds) [] vs e = absurd (not_good e)
read_all k (d ∷ ds) (s ∷ ts) vs e =
    joined_read k d ds s ts vs (value_of d s) (typed (suc k) ds ts) refl e (λ ws q. read_all (suc k) ds ts ws q)

pub read_at : {ds : List Kind} {ts : List (List ℕ)} {vs : List Value} → ReadAll ds ts vs → (j : ℕ) → j < length ds
    → value_of (get_or ds j no_kind) (get_or ts j []) ≡ Some (get_or vs j Blank)
read_at end j h = absurd (omega arith)
read_at (next e a) zero h = e
read_at (next e a) (suc j) h = read_at a j (omega arith)

-- where the rooms hold what the kinds ask of them, every value is held by its kind
hold_all : (t : MessageType) (r : Rooms) {ds : List Kind} {ts : List (List ℕ)} {vs : List Value} → ReadAll ds ts vs → all tidy ts ≡ true
    → ((j : ℕ) → j < length ds → Stored t r (get_or ds j no_kind) (get_or ts j [])) → HoldAll t r ds vs
unfolding all
hold_all t r end h f = ends
hold_all t r (next {d} {ds} {s} {ts} {v} {vs} e a) h f =
    let o = and_parts (tidy s) (all tidy ts) h in
    nexts (value_fits t r d s v e o.0 (f 0 (omega arith))) (hold_all t r a o.1 (λ j i. f (suc j) (omega arith)))

-- ---- a text that is kept in a room of n bytes is the text of its value

abbrev KeptAs : MessageType → Rooms → ℕ → List ℕ → Value → Type 0
KeptAs t r n s v = (length s ≤ n) × (value_text t r v ≡ s)

read_is : {a v : Value} → Some a ≡ Some v → a ≡ v
read_is e = cc

not_read : {v : Value} → None ≡ Some v → ⊥
not_read e = let z : ◌≡◌ {A = ℕ} 0 1 = cc in omega arith

empty_is : (s : List ℕ) → length s ≡ 0 → s ≡ []
empty_is [] e = refl
empty_is (b ∷ s) e = absurd (omega (arith, e))

module _ (t : MessageType) (r : Rooms) (s : List ℕ) (v : Value) where
  blank_kept : (n : ℕ) → length s ≡ 0 → Some Blank ≡ Some v → KeptAs t r n s v
  unfolding value_text
  blank_kept n z e = (omega (arith, z), subst (λ (w : Value). value_text t r w ≡ s) (read_is e) (sym (empty_is s z)))

  -- a text that its test lets stand
  made_kept : (n : ℕ) (b : Bool) (a : Value) → cond b (Some a) None ≡ Some v → (b ≡ true → KeptAs t r n s a) → KeptAs t r n s v
  made_kept n true a e f = subst (KeptAs t r n s) (read_is e) (f refl)
  made_kept n false a e f = absurd (not_read e)

  -- blank or not
  kind_kept : (n : ℕ) (k : Kind) (a : Shape) → k.shape ≡ a → value_of k s ≡ Some v → (shape_of a s ≡ Some v → KeptAs t r n s v) → KeptAs t r n s v
  unfolding value_of
  kind_kept n k a q e f =
      by_test (k.blank && eqb (length s) 0)
      (λ b. blank_kept n (eqb-true (length s) 0 (and_parts k.blank (eqb (length s) 0) b).1) (rw b at e))
      (λ b. f (rw (b, q) at e))

  unit_kept : (k : Kind) → k.shape ≡ IsUnit → value_of k s ≡ Some v → InRoom 16 r.unit s → KeptAs t r 16 s v
  unfolding shape_of value_text
  unit_kept k q e i =
      kind_kept 16 k IsUnit q e
      (λ z. made_kept 16 (is_unit s) (UnitOf (length s)) z (λ u. let h = (unit_size s u).1 in (h, i.front h)))

  reason_kept : (k : Kind) → k.shape ≡ IsReason → value_of k s ≡ Some v → InRoom 128 r.reason s → KeptAs t r 128 s v
  unfolding shape_of value_text
  reason_kept k q e i =
      kind_kept 128 k IsReason q e
      (λ z. made_kept 128 (leb (length s) 128) (Reason (length s)) z (λ u. let h = leb-true (length s) 128 u in (h, i.front h)))

  note_kept : (k : Kind) → k.shape ≡ IsNote → value_of k s ≡ Some v → InRoom 256 r.note s → KeptAs t r 256 s v
  unfolding shape_of value_text
  note_kept k q e i =
      kind_kept 256 k IsNote q e
      (λ z. made_kept 256 (leb (length s) 256) (Note (length s)) z (λ u. let h = leb-true (length s) 256 u in (h, i.front h)))

-- ---- the record of a column

map_at : (f : Value → List ℕ) → f Blank ≡ [] → (vs : List Value) (j : ℕ) → get_or (map f vs) j [] ≡ f (get_or vs j Blank)
map_at f e [] j = sym e
map_at f e (v ∷ vs) zero = refl
map_at f e (v ∷ vs) (suc j) = map_at f e vs j

pub no_gradients : (col : List (List ℕ)) (k : ℕ) → k ≡ 0 → kept_triples (gradients_in (text_at col k)) ≡ replicate 16 no_triple
no_gradients col k e = ap kept_triples (sym (none_there col k k refl e))

kept_empty : (n : ℕ) → kept_in n [] ≡ room_of n []
unfolding kept_in
kept_empty n = rw (le-leb 0 n (omega arith))

module _ (l : Layout) (col : List (List ℕ)) (vs : List Value) (read : typed 1 (kinds_of l) col ≡ good vs) where
  abbrev body : Record
  body = record_of l col vs

  abbrev room : Rooms
  room = rooms_of body

  reads : ReadAll (kinds_of l) col vs
  reads = read_all 1 (kinds_of l) col vs read

  stored : (j : ℕ) → j < length (kinds_of l) → Stored (type_of l) room (get_or (kinds_of l) j no_kind) (get_or col j [])
  stored j h = rw (kind_at_lem l j) at (record_stored l col vs (suc j) (omega arith) (omega (arith, kinds_length l)))

  text_of : (j : ℕ) → text_at (texts_of body vs) (suc j) ≡ value_text (type_of l) room (get_or vs j Blank)
  unfolding texts_of value_text record_of
  text_of j = map_at (value_text (type_of l) room) refl vs j

  -- a field whose text is kept in a room of n bytes
  abbrev KeptAt : ℕ → Shape → ℕ → Type 0
  KeptAt n a k = (d : Kind) (v : Value) → d.shape ≡ a → value_of d (text_at col k) ≡ Some v → KeptAs (type_of l) room n (text_at col k) v

  -- its text is short, and is the text of its value
  kept_at : (n : ℕ) (a : Shape) (k : ℕ) → At l a k → KeptAt n a k → (length (text_at col k) ≤ n) × (text_at (texts_of body vs) k ≡ text_at col k)
  kept_at n a k w f =
      let j = w.place in
      let e = w.field_is in
      let p = f (get_or (kinds_of l) j no_kind) (get_or vs j Blank) w.shape_is (rw e (read_at reads j w.inside)) in
      (p.0, rw e (text_of j) ∙ p.1)

  room_of_lem : (n : ℕ) (a : Shape) (k : ℕ) → At l a k → KeptAt n a k → kept_in n (text_at col k) ≡ room_of n (text_at (texts_of body vs) k)
  unfolding kept_in
  room_of_lem n a k w f =
      let p = kept_at n a k w f in
      rw (le-leb (length (text_at col k)) n p.0) (ap (room_of n) (sym p.1))

  -- and where there is no such field, it is empty
  no_room : (n k : ℕ) → k ≡ 0 → kept_in n (text_at col k) ≡ room_of n (text_at (texts_of body vs) k)
  no_room n k e = rw e (kept_empty n)

  unit_is_kept : KeptAt 16 IsUnit 2
  unfolding record_of
  unit_is_kept d v q e = unit_kept (type_of l) room (text_at col 2) v d q e (kept_in_room 16 (text_at col 2))

  unit_room : kept_in 16 (text_at col 2) ≡ room_of 16 (text_at (texts_of body vs) 2)
  unit_room = room_of_lem 16 IsUnit 2 (unit_at l) unit_is_kept

  pub unit_text : text_at (texts_of body vs) 2 ≡ text_at col 2
  unit_text = (kept_at 16 IsUnit 2 (unit_at l) unit_is_kept).1

  reason_is_kept : KeptAt 128 IsReason (reason_field l)
  unfolding record_of
  reason_is_kept d v q e = reason_kept (type_of l) room (text_at col (reason_field l)) v d q e (kept_in_room 128 (text_at col (reason_field l)))

  reason_room : kept_in 128 (text_at col (reason_field l)) ≡ room_of 128 (text_at (texts_of body vs) (reason_field l))
  reason_room = ⊎_elim (no_room 128 (reason_field l)) (λ w. room_of_lem 128 IsReason (reason_field l) w reason_is_kept) (reason_at l)

  note_is_kept : KeptAt 256 IsNote (note_field l)
  unfolding record_of
  note_is_kept d v q e = note_kept (type_of l) room (text_at col (note_field l)) v d q e (kept_in_room 256 (text_at col (note_field l)))

  note_room : kept_in 256 (text_at col (note_field l)) ≡ room_of 256 (text_at (texts_of body vs) (note_field l))
  note_room = ⊎_elim (no_room 256 (note_field l)) (λ w. room_of_lem 256 IsNote (note_field l) w note_is_kept) (note_at l)

  -- so none of these texts is too long for its room
  none_short : (n k : ℕ) → k ≡ 0 → length (text_at col k) ≤ n
  none_short n k e = rw e (omega arith)

  pub unit_short : length (text_at col 2) ≤ 16
  unit_short = (kept_at 16 IsUnit 2 (unit_at l) unit_is_kept).0

  pub reason_short : length (text_at col (reason_field l)) ≤ 128
  reason_short = ⊎_elim (none_short 128 (reason_field l)) (λ w. (kept_at 128 IsReason (reason_field l) w reason_is_kept).0) (reason_at l)

  pub note_short : length (text_at col (note_field l)) ≤ 256
  note_short = ⊎_elim (none_short 256 (note_field l)) (λ w. (kept_at 256 IsNote (note_field l) w note_is_kept).0) (note_at l)

  -- THE LAW: the record of a column of tidy texts that were read, where it breaks no rule, is valid
  pub record_valid : all tidy col ≡ true → broken_in (record_of l col vs) ≡ 0 → ValidAs (record_of l col vs) vs
  unfolding record_of
  record_valid neat z =
      record {
        hold = hold_all (type_of l) room reads neat stored;
        cells_are = refl;
        unit_is = unit_room;
        reason_is = reason_room;
        note_is = note_room;
        no_gradients = no_gradients col (gradients_field l);
        unbroken = z;
      }
