-- The label that is expected at a turn: where it stands in the layouts of its type. Assumes nothing.
use Prim.Native.Nat.{ℕ, ◌-◌, ◌≤◌, ◌<◌}
use Rattle.reader_line.proofs.Labels.{in_layout, own_place, market_shared, market_foreign, mfrr_foreign}
use Rattle.reader_line.specs.Items.{second_labels, IsExpected}
use Rattle.reader_line.specs.declared.Expected.{Expected}
use Rattle.layout.specs.Layouts.{labels_of, layout_of}
use Rattle.layout.specs.declared.Layout.{Layout}
use Rattle.layout.specs.declared.Layout.TheVariants.{Market, Mfrr}
use Rattle.text_lines.specs.Entries.{place_of}
use Rattle.value_name.specs.declared.MessageType.{MessageType}
use Rattle.value_name.specs.declared.MessageType.TheVariants.{Cb, Rc, Mg, Eb, Lb, Sr, Vq, Ri, Qr}
use mathlib.Core.List.{List}
use mathlib.Core.Path.{◌≡◌, refl, sym, ap, ◌∙◌, subst}
use native.Mathlib.Omega.{arith}

abbrev expected : Layout → ℕ → ℕ → ℕ → Expected
expected l k f g = record { layout = l; field = k; first = f; second = g }

-- ---- CB

pub second_is : (t : MessageType) (x : List ℕ) (k : ℕ) → t ≡ Cb → k ≡ place_of (labels_of Mfrr) x → k ≡ place_of (second_labels t) x
second_is t x k e h = h ∙ ap (λ (u : MessageType). place_of (second_labels u) x) (sym e)

pub market_two : (k : ℕ) → k ≤ 2 → IsExpected Cb (expected Market k k k)
market_two k h = record { first = own_place Market k; second = λ s. market_shared k s h; some_field = λ s. omega (arith, (in_layout Market k s).0) }

pub market_own : (k : ℕ) → 2 < k → IsExpected Cb (expected Market k k 0)
market_own k h = record { first = own_place Market k; second = λ s. market_foreign k h; some_field = λ s. omega arith }

mfrr_field : (k : ℕ) → 2 < k → IsExpected Cb (expected Mfrr k 0 k)
mfrr_field k h = record { first = λ s. mfrr_foreign k h; second = own_place Mfrr k; some_field = λ s. omega arith }

pub mfrr_own : (t : MessageType) (turn : ℕ) → t ≡ Cb → 26 < turn → IsExpected t (expected Mfrr (turn - 24) 0 (turn - 24))
mfrr_own t turn e h =
    let b : 2 < turn - 24 = omega arith in
    subst (λ (u : MessageType). IsExpected u (expected Mfrr (turn - 24) 0 (turn - 24))) (sym e) (mfrr_field (turn - 24) b)

pub of_market : (t : MessageType) (e : Expected) → t ≡ Cb → IsExpected Cb e → IsExpected t e
of_market t e h w = subst (λ (u : MessageType). IsExpected u e) (sym h) w

-- ---- a type with one layout

pub no_second : (t : MessageType) (x : List ℕ) → (t ≡ Cb → ⊥) → 0 ≡ place_of (second_labels t) x
unfolding place_of
no_second Cb x o = absurd (o refl)
no_second Rc x o = refl
no_second Mg x o = refl
no_second Eb x o = refl
no_second Lb x o = refl
no_second Sr x o = refl
no_second Vq x o = refl
no_second Ri x o = refl
no_second Qr x o = refl

pub only_layout : (t : MessageType) (l : Layout) (k : ℕ) → (t ≡ Cb → ⊥) → l ≡ layout_of t
    → IsExpected t (expected l k k 0)
only_layout t l k o e =
    subst (λ (m : Layout). IsExpected t (expected m k k 0)) (sym e)
    (record { first = own_place (layout_of t) k; second = λ s. no_second t _ o; some_field = λ s. omega (arith, (in_layout (layout_of t) k s).0) })
