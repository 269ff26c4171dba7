-- The texts of lists: how long they are, and that they are tidy.
-- Assumes nothing.
use Prim.Native.Nat.{ℕ, ◌≤◌}
use Rattle.value_list.proofs.Back.{list_bytes, never}
use Rattle.value_list.proofs.Lines.{places_of}
use Rattle.value_list.proofs.Puts.{list_short, list_some}
use Rattle.value_list.specs.Forms.{list_of, numbers_text, triple_text, gradients_text, ValidGradients}
use Rattle.value_list.specs.declared.Numbers.{Numbers}
use Rattle.value_list.specs.declared.Triple.{Triple}
use Rattle.value_number.proofs.RoundTrip.{number_bytes, number_some, number_short}
use Rattle.value_number.specs.Number.{number_text}
use Rattle.text.proofs.Cuts.{all_none, all_weaker}
use Rattle.text.proofs.Tests.{within_tells}
use Rattle.text.proofs.Trims.{tidy_none}
use Rattle.text.specs.Bytes.{all, within, is_blank, tidy}
use lib.Dec.{lit≤}
use lib.IntN.{ℤ}
use lib.ListN.{length, take, length-take}
use mathlib.Core.Bool.{true}
use mathlib.Core.List.{List, [], ◌∷◌}
use mathlib.Core.Path.{◌≡◌, refl}
use native.Mathlib.Omega.{arith}

-- ---- how long

pub triple_short : (t : Triple) → length (triple_text t) ≤ 38
unfolding triple_text
triple_short t = list_short number_text 44 12 number_short (t.low ∷ t.high ∷ t.gradient ∷ [])

triple_some : (t : Triple) → 1 ≤ length (triple_text t)
unfolding triple_text
triple_some t = list_some number_text 44 number_some (t.low ∷ t.high ∷ t.gradient ∷ []) (lit≤ tt)

pub numbers_some : (x : Numbers) → 1 ≤ x.count → 1 ≤ length (numbers_text 59 x)
unfolding numbers_text
numbers_some x h =
    list_some number_text 59 number_some (list_of x) (omega (arith, length-take x.count (places_of x)))

pub numbers_short : (x : Numbers) → length (numbers_text 59 x) ≤ 51
unfolding numbers_text
numbers_short x = omega (arith, list_short number_text 59 12 number_short (list_of x), length-take x.count (places_of x))

pub gradients_some : (values : List Triple) (n : ℕ) → ValidGradients values n → 1 ≤ length (gradients_text values n)
unfolding gradients_text
gradients_some values n v =
    list_some triple_text 59 triple_some (take n values) (omega (arith, length-take n values, v.enough, v.sixteen))

pub gradients_short : (values : List Triple) (n : ℕ) → length values ≡ 16 → length (gradients_text values n) ≤ 623
unfolding gradients_text
gradients_short values n h = omega (arith, list_short triple_text 59 38 triple_short (take n values), length-take n values)

-- ---- their bytes

-- more bytes, fewer of a kind
wider : (lo low hi high : ℕ) → low ≤ lo → hi ≤ high → (s : List ℕ) → all (within lo hi) s ≡ true → all (within low high) s ≡ true
wider lo low hi high h k s =
    all_weaker (within low high) (within lo hi)
    (λ b e. let r = (within_tells lo hi b).0 e in (within_tells low high b).1 (omega arith, omega arith))
    s

pub number_wider : (lo hi : ℕ) → lo ≤ 45 → 57 ≤ hi → (v : ℤ) → all (within lo hi) (number_text v) ≡ true
number_wider lo hi h k v = wider 45 lo 57 hi h k (number_text v) (number_bytes v)

-- from ',' to '9'
pub triple_bytes : (t : Triple) → all (within 44 57) (triple_text t) ≡ true
unfolding triple_text
triple_bytes t =
    list_bytes number_text 44 (within 44 57) refl (number_wider 44 57 (lit≤ tt) (lit≤ tt)) (t.low ∷ t.high ∷ t.gradient ∷ [])

-- from ',' to ';' there is no blank, and each can be printed
tidy_between : (s : List ℕ) → all (within 44 59) s ≡ true → tidy s ≡ true
tidy_between s h =
    tidy_none s (wider 44 32 59 126 (lit≤ tt) (lit≤ tt) s h) (all_none is_blank (within 44 59) (never (within 44 59) 32 refl) s h)

pub numbers_tidy : (x : Numbers) → tidy (numbers_text 59 x) ≡ true
unfolding numbers_text
numbers_tidy x =
    tidy_between (numbers_text 59 x) (list_bytes number_text 59 (within 44 59) refl (number_wider 44 59 (lit≤ tt) (lit≤ tt)) (list_of x))

pub gradients_tidy : (values : List Triple) (n : ℕ) → tidy (gradients_text values n) ≡ true
unfolding gradients_text
gradients_tidy values n =
    tidy_between (gradients_text values n)
    (list_bytes triple_text 59 (within 44 59) refl (λ t. wider 44 44 57 59 (lit≤ tt) (lit≤ tt) (triple_text t) (triple_bytes t)) (take n values))
