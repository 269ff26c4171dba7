-- The rooms of a record that was read hold what the kinds of its layout ask of them: what the crate value wants of each field, so that
-- what is read there is valid. Assumes nothing.
use Prim.Native.Nat.{ℕ, zero, suc, ◌+◌, ◌≤◌, ◌<◌}
use Rattle.layout.proofs.Labels.{kinds_length, kind_at_lem}
use Rattle.layout.specs.Fields.{command, technical, market, mfrr, rc, mg, eb, lb, sr, vq, ri, qr}
use Rattle.layout.specs.Layouts.{fields_of, kinds_of, kind_at, no_kind, size_of, type_of}
use Rattle.layout.specs.Rows.{text_at}
use Rattle.layout.specs.declared.Layout.{Layout}
use Rattle.layout.specs.declared.Layout.TheVariants.{Market, Mfrr, Revocation, Generic, Exclusion, Limitation, Secondary, VoltVar, Rejection, Reserve}
use Rattle.layout.specs.FieldNumbers.{reason_field, note_field, gradients_field}
use Rattle.record.specs.Records.{record_of, rooms_of}
use Rattle.text_room.specs.Rooms.{kept_in}
use Rattle.value.proofs.Fit.{InRoom, StoredAs, Stored, in_room}
use Rattle.value.specs.declared.Kind.{Kind}
use Rattle.value.specs.declared.Shape.{Shape}
use Rattle.value.specs.declared.Shape.TheVariants.{IsId, IsUnit, IsWhen, IsAmount, IsCount, IsReason, IsNote, IsWord, IsProfile, IsBands, IsTriples, IsVoltage}
use Rattle.value.specs.declared.Shape.TheVariants.{IsRegulator, IsChange, IsReactive}
use Rattle.value.specs.declared.Value.{Value}
use borrow.Author.Tests.{leb-true}
use lib.Dec.{leb}
use lib.ListN.{length, get_or}
use mathlib.Core.Bool.{Bool, true}
use mathlib.Core.List.{List, [], ◌∷◌}
use mathlib.Core.Path.{◌≡◌, refl}
use native.Mathlib.Omega.{arith}

-- ---- the tables: a shape that uses a room stands at that room's field

unfoldable pub SuitsAs : Layout → ℕ → Bool → Shape → Type 0
SuitsAs l k b (IsId u) = u ≡ type_of l
SuitsAs l k b IsUnit = k ≡ 2
SuitsAs l k b IsWhen = Unit
SuitsAs l k b IsAmount = Unit
SuitsAs l k b IsCount = Unit
SuitsAs l k b IsReason = (b ≡ true) × (k ≡ reason_field l)
SuitsAs l k b IsNote = (b ≡ true) × (k ≡ note_field l)
SuitsAs l k b (IsWord first last) = (leb 1 first ≡ true) × (leb last 31 ≡ true)
SuitsAs l k b IsProfile = Unit
SuitsAs l k b IsBands = Unit
SuitsAs l k b IsTriples = k ≡ gradients_field l
SuitsAs l k b IsVoltage = Unit
SuitsAs l k b IsRegulator = Unit
SuitsAs l k b IsChange = Unit
SuitsAs l k b IsReactive = Unit

-- each of the kinds from the field k on
unfoldable AllSuit : Layout → ℕ → List Kind → Type 0
AllSuit l k [] = Unit
AllSuit l k (d ∷ ds) = SuitsAs l k d.blank d.shape × AllSuit l (suc k) ds

all_suit : (l : Layout) → AllSuit l 1 (kinds_of l)
unfolding AllSuit SuitsAs kinds_of fields_of market command technical mfrr rc mg eb lb sr vq ri qr
all_suit Market =
    (refl, (refl, (tt, (tt, (tt, (tt, ((refl, refl), ((refl, refl), ((refl, refl), (tt, (tt, ((refl, refl), (tt, (tt, ((refl, refl), ((refl, refl), (tt, ((refl, refl), (tt, (tt, (tt, (tt, (tt, (tt, (tt, (refl, tt))))))))))))))))))))))))))
all_suit Mfrr = (refl, (refl, (tt, (tt, (tt, (tt, (tt, ((refl, refl), (tt, (tt, (tt, (tt, tt))))))))))))
all_suit Revocation = (refl, (refl, (tt, (tt, (tt, tt)))))
all_suit Generic = (refl, (refl, (tt, (tt, ((refl, refl), ((refl, refl), (tt, tt)))))))
all_suit Exclusion = (refl, (refl, (tt, (tt, ((refl, refl), ((refl, refl), ((refl, refl), (tt, tt))))))))
all_suit Limitation = (refl, (refl, (tt, (tt, (tt, (tt, ((refl, refl), ((refl, refl), ((refl, refl), (tt, tt))))))))))
all_suit Secondary = (refl, (refl, (tt, (tt, ((refl, refl), (tt, ((refl, refl), ((refl, refl), (tt, tt)))))))))
all_suit VoltVar = (refl, (refl, (tt, (tt, ((refl, refl), ((refl, refl), ((refl, refl), (tt, (tt, (tt, (tt, ((refl, refl), (tt, tt)))))))))))))
all_suit Rejection = (refl, (refl, (tt, (tt, ((refl, refl), ((refl, refl), tt))))))
all_suit Reserve = (refl, (refl, (tt, (tt, ((refl, refl), (tt, ((refl, refl), ((refl, refl), (tt, tt)))))))))

suits_at : (l : Layout) (k : ℕ) (ds : List Kind) (j : ℕ) → j < length ds → AllSuit l k ds
    → SuitsAs l (k + j) (get_or ds j no_kind).blank (get_or ds j no_kind).shape
unfolding AllSuit
suits_at l k [] j h a = absurd (omega arith)
suits_at l k (d ∷ ds) zero h a = let e : k + 0 ≡ k = omega arith in rw e a.0
suits_at l k (d ∷ ds) (suc j) h a = let e : k + suc j ≡ suc k + j = omega arith in rw e (suits_at l (suc k) ds j (omega arith) a.1)

pub suits : (l : Layout) (k : ℕ) → 1 ≤ k → k ≤ size_of l → SuitsAs l k (kind_at l k).blank (kind_at l k).shape
suits l zero h j = absurd (omega arith)
suits l (suc k) h j =
    let i : k < length (kinds_of l) = omega (arith, kinds_length l) in
    let e : 1 + k ≡ suc k = omega arith in
    rw (kind_at_lem l k) (rw e at (suits_at l 1 (kinds_of l) k i (all_suit l)))

-- ---- the rooms

pub kept_in_room : (n : ℕ) (s : List ℕ) → InRoom n (kept_in n s) s
unfolding kept_in
kept_in_room n s = in_room n s

module _ (l : Layout) (col : List (List ℕ)) (vs : List Value) where
  stored_as : (k : ℕ) (b : Bool) (a : Shape) → SuitsAs l k b a → StoredAs (type_of l) (rooms_of (record_of l col vs)) b a (text_at col k)
  unfolding SuitsAs StoredAs record_of
  stored_as k b (IsId u) h = h
  stored_as k b IsUnit h = rw h (kept_in_room 16 (text_at col 2))
  stored_as k b IsWhen h = tt
  stored_as k b IsAmount h = tt
  stored_as k b IsCount h = tt
  stored_as k b IsReason h = (h.0, rw h.1 (kept_in_room 128 (text_at col (reason_field l))))
  stored_as k b IsNote h = (h.0, rw h.1 (kept_in_room 256 (text_at col (note_field l))))
  stored_as k b (IsWord first last) h = (leb-true 1 first h.0, leb-true last 31 h.1)
  stored_as k b IsProfile h = tt
  stored_as k b IsBands h = tt
  stored_as k b IsTriples h = rw h
  stored_as k b IsVoltage h = tt
  stored_as k b IsRegulator h = tt
  stored_as k b IsChange h = tt
  stored_as k b IsReactive h = tt

  pub record_stored : (k : ℕ) → 1 ≤ k → k ≤ size_of l → Stored (type_of l) (rooms_of (record_of l col vs)) (kind_at l k) (text_at col k)
  record_stored k h j = stored_as k (kind_at l k).blank (kind_at l k).shape (suits l k h j)
