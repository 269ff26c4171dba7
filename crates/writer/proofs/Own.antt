-- A record keeps a text in a room with zeros past it. The text itself can stand for that room: it holds the same values, and they say the same.
-- Assumes nothing.
use Prim.Native.Nat.{ℕ, zero, suc, ◌+◌, ◌-◌, ◌≤◌}
use Rattle.layout.specs.Layouts.{type_of}
use Rattle.layout.specs.declared.Layout.{Layout}
use Rattle.value_list.specs.declared.Triple.{Triple}
use Rattle.value_name.specs.Names.{is_unit_byte, is_unit}
use Rattle.value_name.specs.declared.MessageType.{MessageType}
use Rattle.record.specs.declared.Cell.{Cell}
use Rattle.value_put.specs.Rooms.{Narrow}
use Rattle.text_room.specs.Rooms.{kept_in}
use Rattle.text.proofs.Tests.{and_parts}
use Rattle.text.proofs.Trims.{tidy_parts}
use Rattle.text.specs.Bytes.{within, is_plain, all, tidy}
use Rattle.text.specs.Puts.{room_of}
use Rattle.record_valid.specs.Valid.{HoldAll}
use Rattle.record_valid.specs.Valid.HoldAll.{end as ends, next as nexts}
use Rattle.value.specs.Texts.{Rooms, rooms, value_text}
use Rattle.value.specs.Valid.{Kept, Fits, Holds}
use Rattle.value.specs.Valid.Fits.{id, unit, when, amount, count, reason, note, chosen, profile, bands, triples, in_kv, kv_word, in_rat, rat_word, in_change}
use Rattle.value.specs.Valid.Fits.{in_mvar, mvar_word}
use Rattle.value.specs.Valid.Holds.{blank, filled}
use Rattle.value.specs.declared.Kind.{Kind}
use Rattle.value.specs.declared.Shape.{Shape}
use Rattle.value.specs.declared.Value.{Value}
use Rattle.writer_form.specs.Held.{Held}
use Rattle.writer_form.specs.Written.{written_of, message_text}
use borrow.Author.Tests.{le-leb}
use lib.ListN.{length, take, replicate, length-append, length-replicate}
use mathlib.Core.Bool.{Bool, true, false, false≢true}
use mathlib.Core.List.{List, [], ◌∷◌, ◌++◌, map}
use mathlib.Core.Path.{◌≡◌, refl, sym, ap, ap₂, ◌∙◌, subst}
use native.Mathlib.Omega.{arith}

-- ---- the front of a room

-- the first k of a room are the first k of its text, where none of them is a zero
abbrev Ahead : ℕ → List ℕ → List ℕ → Type 0
Ahead k room s = (k ≤ length s) × (take k s ≡ take k room)

module _ (p : ℕ → Bool) (no_zero : p 0 ≡ false) where
  past_text : (s : List ℕ) (j k : ℕ) → k ≤ length s + j → all p (take k (s ++ replicate j 0)) ≡ true → Ahead k (s ++ replicate j 0) s
  unfolding all
  past_text s j zero h e = (omega arith, refl)
  past_text [] zero (suc k) h e = absurd (omega arith)
  past_text [] (suc j) (suc k) h e = absurd (false≢true (sym no_zero ∙ (and_parts (p 0) (all p (take k (replicate j 0))) e).0))
  past_text (b ∷ s) j (suc k) h e =
      let f = past_text s j k (omega arith) (and_parts (p b) (all p (take k (s ++ replicate j 0))) e).1 in
      (omega (arith, f.0), ap (λ (x : List ℕ). b ∷ x) f.1)

  kept_front : (n : ℕ) (s : List ℕ) → length s ≤ n → (k : ℕ) → k ≤ length (kept_in n s) → all p (take k (kept_in n s)) ≡ true → Ahead k (kept_in n s) s
  unfolding kept_in room_of
  kept_front n s h k i e =
      let z : kept_in n s ≡ s ++ replicate (n - length s) 0 = rw (le-leb (length s) n h) in
      let w : k ≤ length s + (n - length s) =
      omega (
        arith,
        subst (λ (x : List ℕ). k ≤ length x) z i,
        length-append {A = ℕ} s (replicate (n - length s) 0),
        length-replicate {A = ℕ} (n - length s) 0,
      ) in
      rw z (past_text s (n - length s) k w (subst (λ (x : List ℕ). all p (take k x) ≡ true) z e))

-- a text that can stand as a value
kept_own : (n : ℕ) (s : List ℕ) → length s ≤ n → (k : ℕ) → Kept n (kept_in n s) k → Kept n s k × (take k s ≡ take k (kept_in n s))
kept_own n s h k v =
    let f = kept_front is_plain refl n s h k v.inside (tidy_parts (take k (kept_in n s)) v.is_tidy).0 in
    (record { some = v.some; few = v.few; inside = f.0; is_tidy = ap tidy f.1 ∙ v.is_tidy }, f.1)

-- ---- the values

module _ (t : MessageType) (u s n : List ℕ) (g : List Triple) (narrow : Narrow (rooms u s n g)) where
  abbrev own : Rooms
  own = rooms u s n g

  abbrev kept : Rooms
  kept = rooms (kept_in 16 u) (kept_in 128 s) (kept_in 256 n) g

  abbrev Says : Value → Type 0
  Says v = value_text t own v ≡ value_text t kept v

  unit_own : (k : ℕ) → k ≤ length (kept_in 16 u) → is_unit (take k (kept_in 16 u)) ≡ true → Ahead k (kept_in 16 u) u
  unfolding is_unit
  unit_own k h e =
      kept_front is_unit_byte refl 16 u narrow.unit_few k h
      (and_parts (within 1 16 (length (take k (kept_in 16 u)))) (all is_unit_byte (take k (kept_in 16 u))) e).1

  fits_own : {a : Shape} {v : Value} → Fits t kept a v → Fits t own a v × Says v
  unfolding value_text
  fits_own (id h) = (id h, refl)
  fits_own (unit {n = k} h e) = let f = unit_own k h e in (unit f.0 (ap is_unit f.1 ∙ e), f.1)
  fits_own (when e) = (when e, refl)
  fits_own (amount h) = (amount h, refl)
  fits_own (count h) = (count h, refl)
  fits_own (reason {n = k} v) = let f = kept_own 128 s narrow.reason_few k v in (reason f.0, f.1)
  fits_own (note {n = k} v) = let f = kept_own 256 n narrow.note_few k v in (note f.0, f.1)
  fits_own (chosen a b c d) = (chosen a b c d, refl)
  fits_own (profile f) = (profile f, refl)
  fits_own (bands f) = (bands f, refl)
  fits_own (triples f) = (triples f, refl)
  fits_own (in_kv h) = (in_kv h, refl)
  fits_own (kv_word a b) = (kv_word a b, refl)
  fits_own (in_rat h) = (in_rat h, refl)
  fits_own (rat_word a b) = (rat_word a b, refl)
  fits_own (in_change h) = (in_change h, refl)
  fits_own (in_mvar h) = (in_mvar h, refl)
  fits_own (mvar_word a b) = (mvar_word a b, refl)

  holds_own : {k : Kind} {v : Value} → Holds t kept k v → Holds t own k v × Says v
  unfolding value_text
  holds_own (blank b) = (blank b, refl)
  holds_own (filled f) = let w = fits_own f in (filled w.0, w.1)

  all_own : {ks : List Kind} {vs : List Value} → HoldAll t kept ks vs → HoldAll t own ks vs × (map (value_text t own) vs ≡ map (value_text t kept) vs)
  all_own ends = (ends, refl)
  all_own (nexts h hs) =
      let a = holds_own h in
      let b = all_own hs in
      (nexts a.0 b.0, ap₂ (λ (x : List ℕ) (xs : List (List ℕ)). x ∷ xs) a.1 b.1)

-- ---- the message

module _ (l : Layout) (u s n : List ℕ) (g : List Triple) (cells : List Cell) (narrow : Narrow (rooms u s n g))
    (held : Held l (rooms (kept_in 16 u) (kept_in 128 s) (kept_in 256 n) g) cells) where
  pub own_held : Held l (rooms u s n g) cells
  own_held = record { narrow = narrow; hold = (all_own (type_of l) u s n g narrow held.hold).0 }

  pub own_text : message_text l (rooms u s n g) cells ≡ message_text l (rooms (kept_in 16 u) (kept_in 128 s) (kept_in 256 n) g) cells
  unfolding message_text
  own_text = ap (written_of l) (all_own (type_of l) u s n g narrow held.hold).1
