-- An order and its values, both ways: those that its lines allow are those of an order that fits there. Assumes nothing.
use Prim.Native.Nat.{ℕ, zero, suc, ◌+◌, ◌-◌, ◌≤◌, ◌<◌}
use Rattle.book_order.specs.Orders.{time_of, is_whole, is_partial, fits_layout, could_come}
use Rattle.book_order.specs.declared.Order.{Order}
use Rattle.book_places.proofs.Leading.{fits_facts, fits_of}
use Rattle.book_places.specs.Places.{fits_after}
use Rattle.book_source.proofs.Bounds.{Bounds, come_tells, fits_command, by_command, market_tells, mfrr_tells}
use Rattle.book_stretch.specs.Stretches.{formed_in}
use Rattle.layout.specs.declared.Layout.{Layout}
use Rattle.layout.specs.declared.Layout.TheVariants.{Market, Mfrr}
use Rattle.saved.proofs.Amounts.{amount_raised, number_lowered}
use Rattle.saved.proofs.Struck.{struck_to, struck_back, number_formed, number_back}
use Rattle.saved.specs.Orders.{kind_in, layout_from, raised, lowered, struck_in, values_of, order_from, Instants}
use Rattle.saved.specs.Saved.{above}
use Rattle.saved_lines.proofs.Seven.{Seven, seven, said}
use Rattle.saved_lines.specs.Items.{Said}
use Rattle.saved_lines.specs.Tables.{apart_of, second_line, next_of}
use Rattle.saved_lines.specs.Values.{zero_amount, MayBe}
use Rattle.saved_lines.specs.declared.Table.TheVariants.{Order as OrderTable}
use Rattle.value_bounds.specs.Bounds.{is_amount, last_instant, most_amount}
use lib.IntN.{ℤ, pos}
use mathlib.Core.Bool.{true, false}
use mathlib.Core.List.{List, [], ◌∷◌}
use mathlib.Core.Path.{◌≡◌, refl}
use native.Mathlib.Omega.{arith}

-- ---- kind and second variation, by the layout

-- what the layout leaves to kind, distance and the second variation
pub record Kinds (l : Layout) (start end : ℕ) (second : ℤ) : Type 0 where
  pub kind_to : kind_in l ≤ 1
  pub back : layout_from (kind_in l) ≡ l
  pub apart : start + apart_of (kind_in l) ≤ end
  pub ends_after : start < end
  pub second_in : MayBe (second_line (kind_in l)) (raised second)
  pub second_amount : is_amount second ≡ true

market_kinds : (start end : ℕ) (second : ℤ) → fits_layout Market (end - start) second ≡ true → Kinds Market start end second
market_kinds start end second e =
    let f = (market_tells (end - start) second).0 e in
    let r = amount_raised second f.1 in
    record {
      kind_to = omega arith;
      back = refl;
      apart = omega (arith, f.0);
      ends_after = omega (arith, f.0);
      second_in = (r.from, r.to, (r.from, r.to));
      second_amount = f.1;
    }

mfrr_kinds : (start end : ℕ) (second : ℤ) → fits_layout Mfrr (end - start) second ≡ true → Kinds Mfrr start end second
unfolding is_amount
mfrr_kinds start end second e =
    let f = (mfrr_tells (end - start) second).0 e in
    rw f.1 (record {
      kind_to = omega arith;
      back = refl;
      apart = omega (arith, f.0);
      ends_after = omega (arith, f.0);
      second_in = (omega arith, omega arith, (omega arith, omega arith));
      second_amount = refl;
    })

pub kinds : (l : Layout) (start end : ℕ) (second : ℤ) → fits_layout l (end - start) second ≡ true → Kinds l start end second
kinds l start end second e =
    by_command (λ (m : Layout). fits_layout m (end - start) second ≡ true → Kinds m start end second)
    (market_kinds start end second) (mfrr_kinds start end second) l (fits_command l (end - start) second e) e

-- ---- from the order

-- an order that is not struck in part is that of its values
pub order_back : (o : Order) → could_come o ≡ true → formed_in (time_of o) o.struck ≡ true → is_partial o ≡ false → order_from (values_of o) ≡ o
unfolding order_from values_of
order_back o e f p =
    let b = (come_tells o).0 e in
    let k = kinds o.layout o.start o.end o.second b.fits in
    λ i. record {
      number = o.number;
      layout = k.back i;
      start = o.start;
      end = o.end;
      first = (amount_raised o.first b.first_amount).back i;
      second = (amount_raised o.second k.second_amount).back i;
      struck = struck_back o k.ends_after f p i;
    }

-- and the lines of an order that fits allow them
pub fits_said : (floor least : ℕ) (o : Order) → fits_after floor least o ≡ true → Said (next_of OrderTable (above least (suc floor))) [] (values_of o)
unfolding values_of
fits_said floor least o e =
    let f = fits_facts floor least o e in
    let b = (come_tells o).0 f.2 in
    let k = kinds o.layout o.start o.end o.second b.fits in
    let v = amount_raised o.first b.first_amount in
    said (above least (suc floor)) _ (record {
      n = o.number;
      k = kind_in o.layout;
      s = o.start;
      e = o.end;
      v = raised o.first;
      w = raised o.second;
      c = struck_in (is_whole o);
      are = refl;
      number_from = f.0;
      number_to = b.number_to;
      kind_to = k.kind_to;
      start_from = b.start_from;
      start_to = omega (arith, k.apart, b.end_to);
      end_past = f.1;
      end_from = k.apart;
      end_to = b.end_to;
      first_in = (v.from, v.to);
      second_in = k.second_in;
      struck_to = struck_to (is_whole o);
    })

-- ---- from the values

-- the second variation of a kind, and the layout
pub record Seconds (k start end w : ℕ) : Type 0 where
  pub fits : fits_layout (layout_from k) (end - start) (lowered w) ≡ true
  pub kind_back : kind_in (layout_from k) ≡ k
  pub ends_after : start < end
  pub second_in : (1 ≤ w) × (w ≤ 1999999999)

seconds : (k start end w : ℕ) → k ≤ 1 → start + apart_of k ≤ end → MayBe (second_line k) w → Seconds k start end w
unfolding is_amount lowered
seconds zero start end w h d m =
    record {
      fits = (market_tells (end - start) (lowered w)).1 (omega (arith, d), (number_lowered w m.0 m.1).amount);
      kind_back = refl;
      ends_after = omega (arith, d);
      second_in = (m.0, m.1);
    }
seconds (suc zero) start end w h d m =
    let e : w ≡ zero_amount = omega (arith, m.0, m.1) in
    record {
      fits = rw e ((mfrr_tells (end - start) (pos 0)).1 (omega (arith, d), refl));
      kind_back = refl;
      ends_after = omega (arith, d);
      second_in = (omega (arith, e), omega (arith, e));
    }
seconds (suc (suc k)) start end w h d m = absurd (omega arith)

-- the order of values that the lines allow fits, and they are its own
pub record Ordered (floor least : ℕ) (vs : List ℕ) : Type 0 where
  pub fits : fits_after floor least (order_from vs) ≡ true
  pub values_back : values_of (order_from vs) ≡ vs
  pub instants : Instants vs
  pub seven_lines : Seven (above least (suc floor)) vs

of_seven : (floor least n k s e v w c : ℕ) → Seven (above least (suc floor)) (n ∷ k ∷ s ∷ e ∷ v ∷ w ∷ c ∷ [])
    → least ≤ n → suc floor ≤ e → s < e → c ≤ 1 → Bounds (order_from (n ∷ k ∷ s ∷ e ∷ v ∷ w ∷ c ∷ []))
    → kind_in (layout_from k) ≡ k → raised (lowered v) ≡ v → raised (lowered w) ≡ w
    → Instants (n ∷ k ∷ s ∷ e ∷ v ∷ w ∷ c ∷ []) → Ordered floor least (n ∷ k ∷ s ∷ e ∷ v ∷ w ∷ c ∷ [])
unfolding order_from values_of
of_seven floor least n k s e v w c q lo past apart one b kind first second i =
    let o = order_from (n ∷ k ∷ s ∷ e ∷ v ∷ w ∷ c ∷ []) in
    record {
      fits = fits_of floor least o lo past ((come_tells o).1 b) (number_formed c s e apart);
      values_back = rw (kind, first, second, number_back c s e one apart);
      instants = i;
      seven_lines = q;
    }

pub said_fits : (floor least : ℕ) (vs : List ℕ) → Said (next_of OrderTable (above least (suc floor))) [] vs → Ordered floor least vs
unfolding order_from
said_fits floor least vs p =
    let q = seven (above least (suc floor)) vs p in
    let last : last_instant ≡ 3155756399 = refl in
    let most : zero_amount + most_amount ≡ 1999999999 = refl in
    let x = seconds q.k q.s q.e q.w q.kind_to q.end_from q.second_in in
    let v = number_lowered q.v q.first_in.0 q.first_in.1 in
    let w = number_lowered q.w x.second_in.0 x.second_in.1 in
    rw q.are (of_seven floor least q.n q.k q.s q.e q.v q.w q.c (rw q.are at q) q.number_from q.end_past
    x.ends_after q.struck_to
    (record {
      number_to = q.number_to;
      start_from = q.start_from;
      start_to = omega (arith, q.start_to);
      end_from = omega (arith, q.start_from, q.end_from);
      end_to = q.end_to;
      first_amount = v.amount;
      fits = x.fits;
    })
    x.kind_back v.back w.back
    (omega (arith, q.start_to), omega (arith, q.end_to), q.first_in.0, q.first_in.1, x.second_in.0, x.second_in.1))
