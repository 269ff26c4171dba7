-- What is struck of an order and its number, both ways: nothing is 0, and its whole time 1. Assumes nothing.
use Prim.Native.Nat.{ℕ, zero, suc, ◌≤◌, ◌<◌}
use Rattle.book_order.specs.Orders.{time_of, is_whole, is_partial}
use Rattle.book_order.specs.declared.Order.{Order}
use Rattle.book_stretch.proofs.Formed.{none_formed, one_formed, whole_is}
use Rattle.book_stretch.proofs.Joins.{none_is}
use Rattle.book_stretch.specs.Stretches.{stretch, no_stretch, lies, are_none, formed_in}
use Rattle.saved.specs.Orders.{struck_in, struck_from}
use Rattle.text.proofs.Tests.{by_test}
use Rattle.text.specs.Bytes.{any, all}
use borrow.Author.Tests.{le-leb, lt-leb, eq-eqb, ne_eqb}
use lib.Dec.{eqb}
use lib.ListN.{set, replicate}
use mathlib.Core.Bool.{Bool, true, false, true≢false}
use mathlib.Core.Path.{◌≡◌, refl, sym}
use native.Mathlib.Omega.{arith}

-- ---- from what is struck

pub struck_to : (b : Bool) → struck_in b ≤ 1
struck_to true = omega arith
struck_to false = omega arith

-- what is well formed, and not struck in part, is that of its number
pub struck_back : (o : Order) → o.start < o.end → formed_in (time_of o) o.struck ≡ true → is_partial o ≡ false
    → struck_from (struck_in (is_whole o)) o.start o.end ≡ o.struck
struck_back o h f p =
    by_test (is_whole o)
    (λ w. rw w (sym (whole_is (time_of o) o.struck f h w)))
    (λ w. by_test (are_none o.struck)
    (λ n. rw w (sym (none_is o.struck n)))
    (λ n. absurd (true≢false (rw (n, w) at p))))

-- ---- from its number

-- the code's two ways to it
pub all_struck : (k start end : ℕ) → k ≡ 1 → set (replicate 4 no_stretch) 0 (stretch start end) ≡ struck_from k start end
all_struck k start end e = rw (eq-eqb k 1 e)

pub none_struck : (k start end : ℕ) → (k ≡ 1 → ⊥) → replicate 4 no_stretch ≡ struck_from k start end
none_struck k start end n = rw (ne_eqb k 1 n)

-- what is read of it is well formed, and has that number
pub number_formed : (c start end : ℕ) → start < end → formed_in (stretch start end) (struck_from c start end) ≡ true
unfolding are_none all
number_formed c start end h = by_test (eqb c 1) (λ e. rw e (one_formed (stretch start end) h)) (λ e. rw e (none_formed (stretch start end) _ refl))

pub number_back : (c start end : ℕ) → c ≤ 1 → start < end → struck_in (any (lies (stretch start end)) (struck_from c start end)) ≡ c
unfolding any
number_back zero start end k h = rw (le-leb 0 start (omega arith), lt-leb end 0 (omega arith))
number_back (suc zero) start end k h = rw (le-leb start start (omega arith), le-leb end end (omega arith))
number_back (suc (suc c)) start end k h = absurd (omega arith)
