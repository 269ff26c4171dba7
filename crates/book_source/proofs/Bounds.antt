-- The test of an order as bounds, for each of the two layouts that a command has, and that of a strike. Assumes nothing.
use Prim.Native.Nat.{ℕ, ◌-◌, ◌≤◌, ◌<◌}
use Rattle.value_bounds.specs.Bounds.{is_amount, first_instant, last_instant, most_number}
use Rattle.layout.specs.Layouts.{is_command, is_revocation}
use Rattle.layout.specs.declared.Layout.{Layout}
use Rattle.layout.specs.declared.Layout.TheVariants.{Market, Mfrr, Revocation, Generic, Exclusion, Limitation, Secondary, VoltVar, Rejection, Reserve}
use Rattle.book_order.specs.Orders.{fits_layout, could_come, Strike, could_strike}
use Rattle.book_order.specs.declared.Order.{Order}
use Rattle.text.proofs.Tests.{told, Tells, leb_tells, ltb_tells, itself, ◌and◌, within_tells}
use Rattle.text.proofs.Zeros.{zero_tells}
use lib.IntN.{ℤ, pos}
use mathlib.Core.Bool.{true, false≢true}
use mathlib.Core.Path.{◌≡◌, refl}

-- ---- the two layouts

-- what holds of both holds of every command's
pub by_command : (P : Layout → Type 0) → P Market → P Mfrr → (l : Layout) → is_command l ≡ true → P l
by_command P p q Market e = p
by_command P p q Mfrr e = q
by_command P p q Revocation e = absurd (false≢true e)
by_command P p q Generic e = absurd (false≢true e)
by_command P p q Exclusion e = absurd (false≢true e)
by_command P p q Limitation e = absurd (false≢true e)
by_command P p q Secondary e = absurd (false≢true e)
by_command P p q VoltVar e = absurd (false≢true e)
by_command P p q Rejection e = absurd (false≢true e)
by_command P p q Reserve e = absurd (false≢true e)

pub by_revocation : (P : Layout → Type 0) → P Revocation → (l : Layout) → is_revocation l ≡ true → P l
by_revocation P p Market e = absurd (false≢true e)
by_revocation P p Mfrr e = absurd (false≢true e)
by_revocation P p Revocation e = p
by_revocation P p Generic e = absurd (false≢true e)
by_revocation P p Exclusion e = absurd (false≢true e)
by_revocation P p Limitation e = absurd (false≢true e)
by_revocation P p Secondary e = absurd (false≢true e)
by_revocation P p VoltVar e = absurd (false≢true e)
by_revocation P p Rejection e = absurd (false≢true e)
by_revocation P p Reserve e = absurd (false≢true e)

-- nothing fits another
pub fits_command : (l : Layout) (apart : ℕ) (w : ℤ) → fits_layout l apart w ≡ true → is_command l ≡ true
fits_command Market apart w e = refl
fits_command Mfrr apart w e = refl
fits_command Revocation apart w e = e
fits_command Generic apart w e = e
fits_command Exclusion apart w e = e
fits_command Limitation apart w e = e
fits_command Secondary apart w e = e
fits_command VoltVar apart w e = e
fits_command Rejection apart w e = e
fits_command Reserve apart w e = e

-- ---- what fits them

pub market_tells : (apart : ℕ) (w : ℤ) → Tells (fits_layout Market apart w) ((0 < apart) × (is_amount w ≡ true))
market_tells apart w = ltb_tells 0 apart and itself (is_amount w)

pub mfrr_tells : (apart : ℕ) (w : ℤ) → Tells (fits_layout Mfrr apart w) ((1 < apart) × (w ≡ pos 0))
mfrr_tells apart w = ltb_tells 1 apart and zero_tells w

-- ---- the order

pub record Bounds (o : Order) : Type 0 where
  pub number_to : o.number ≤ most_number
  pub start_from : first_instant ≤ o.start
  pub start_to : o.start ≤ last_instant
  pub end_from : first_instant ≤ o.end
  pub end_to : o.end ≤ last_instant
  pub first_amount : is_amount o.first ≡ true
  pub fits : fits_layout o.layout (o.end - o.start) o.second ≡ true

pub come_tells : (o : Order) → Tells (could_come o) (Bounds o)
unfolding could_come
come_tells o =
    let instant = within_tells first_instant last_instant in
    let amounts = itself (is_amount o.first) and itself (fits_layout o.layout (o.end - o.start) o.second) in
    told
    (leb_tells o.number most_number and (instant o.start and (instant o.end and amounts)))
    (λ p.
    record {
      number_to = p.0;
      start_from = p.1.0.0;
      start_to = p.1.0.1;
      end_from = p.1.1.0.0;
      end_to = p.1.1.0.1;
      first_amount = p.1.1.1.0;
      fits = p.1.1.1.1;
    })
    (λ b. (b.number_to, ((b.start_from, b.start_to), ((b.end_from, b.end_to), (b.first_amount, b.fits)))))

-- ---- the strike

pub record StrikeBounds (s : Strike) : Type 0 where
  pub number_to : s.name.number ≤ most_number
  pub start_from : first_instant ≤ s.over.from
  pub start_to : s.over.from ≤ last_instant
  pub end_from : first_instant ≤ s.over.to
  pub end_to : s.over.to ≤ last_instant
  pub apart : s.over.from < s.over.to

pub revoke_tells : (s : Strike) → Tells (could_strike s) (StrikeBounds s)
unfolding could_strike
revoke_tells s =
    let instant = within_tells first_instant last_instant in
    told
    (leb_tells s.name.number most_number and (instant s.over.from and (instant s.over.to and ltb_tells s.over.from s.over.to)))
    (λ p.
    record {
      number_to = p.0;
      start_from = p.1.0.0;
      start_to = p.1.0.1;
      end_from = p.1.1.0.0;
      end_to = p.1.1.0.1;
      apart = p.1.1.1;
    })
    (λ b. (b.number_to, ((b.start_from, b.start_to), ((b.end_from, b.end_to), b.apart))))
