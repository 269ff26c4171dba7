-- The order of a valid command passes the test, and so does the strike of a valid revocation: so their instants fit 32 bits. Assumes nothing.
use Prim.Native.Nat.{ℕ, ◌-◌, ◌≤◌, ◌<◌}
use Rattle.value_bounds.specs.Bounds.{is_amount}
use Rattle.value_ask.specs.Values.{is_filled, instant_in, amount_in}
use Rattle.layout.specs.Layouts.{is_command, is_revocation}
use Rattle.layout.specs.FieldNumbers.{end_field}
use Rattle.report_brief.specs.Brief.{message_number, start_of, end_of}
use Rattle.book_source.proofs.Bounds.{by_command, by_revocation, market_tells, mfrr_tells, Bounds, come_tells, StrikeBounds, revoke_tells}
use Rattle.book_source.proofs.Fields.{number_in_lem, date_in, amount_in_lem, count_in_lem}
use Rattle.book_source.proofs.Places.{number_at, start_at, end_at, market_amounts, mfrr_amount, revoked_start_at, revoked_end_at, sequence_at}
use Rattle.layout.specs.declared.Layout.{Layout}
use Rattle.layout.specs.declared.Layout.TheVariants.{Market, Mfrr, Revocation}
use Rattle.book_order.specs.Messages.{first_variation, second_variation, order_of, strike_of}
use Rattle.book_order.specs.Orders.{fits_layout, could_come, could_strike}
use Rattle.record.specs.Records.{field_of}
use Rattle.record.specs.declared.Record.{Record}
use Rattle.record_rules.proofs.Steps.{broken_here}
use Rattle.record_rules.specs.Rules.{in_order, ramps, Rule, rule, rules_of, lowest, broken_in}
use Rattle.text.proofs.Tests.{by_test, ltb_tells, leb_tells, ◌and◌}
use Rattle.record_valid.specs.Valid.{Valid}
use Rattle.record_check.proofs.Decides.{valid_tells}
use Rattle.record_check.specs.Validity.{is_valid}
use lib.IntN.{pos}
use mathlib.Core.Bool.{Bool, true, not}
use mathlib.Core.List.{List, ◌∷◌}
use mathlib.Core.Path.{◌≡◌, refl, ap}
use native.Mathlib.Omega.{arith}

-- ---- the first rule of a layout holds where none is broken

first_holds : (b : Bool) (rs : List Rule) → lowest (rule 1 b ∷ rs) ≡ 0 → b ≡ true
first_holds b rs e = by_test b (λ h. h) (λ h. absurd (omega (arith, broken_here 1 b rs refl (ap not h), e)))

-- ---- a valid message

module _ (r : Record) where
  abbrev instant : ℕ → ℕ
  instant k = instant_in (field_of r.cells k)

  -- the record, of a layout
  abbrev of : Layout → Record
  of l = record { layout = l; cells = r.cells; unit = r.unit; reason = r.reason; note = r.note; gradients = r.gradients }

  -- rule 1, of an end that is filled
  rises : (rs : List Rule) → is_filled (field_of r.cells 4) ≡ true → lowest (rule 1 (in_order r.cells) ∷ rs) ≡ 0 → instant 3 < instant 4
  unfolding in_order
  rises rs f e = (ltb_tells (instant 3) (instant 4)).0 (rw f at (first_holds (in_order r.cells) rs e))

  -- ---- a command

  -- what goes by the layout: the variations, and how far start and end are apart
  abbrev Suits : Layout → Type 0
  Suits l =
      (is_amount (first_variation l r.cells) ≡ true)
      × (fits_layout l (instant (end_field l) - instant 3) (second_variation l r.cells) ≡ true)

  market_suits : Valid (of Market) → Suits Market
  unfolding broken_in rules_of
  market_suits w =
      let amounts = market_amounts in
      let ends = date_in (of Market) w (end_at Market refl) in
      let apart = rises _ ends.is_filled_so w.valid.unbroken in (
        amount_in_lem (of Market) w amounts.0,
        (market_tells (instant 4 - instant 3) (amount_in (field_of r.cells 6))).1 (omega arith, amount_in_lem (of Market) w amounts.1),
      )

  mfrr_suits : Valid (of Mfrr) → Suits Mfrr
  unfolding broken_in rules_of ramps
  mfrr_suits w =
      let ramped = ltb_tells (instant 3) (instant 4) and leb_tells (instant 4) (instant 5) and ltb_tells (instant 5) (instant 6) in
      let apart = ramped.0 (first_holds (ramps r.cells) _ w.valid.unbroken) in
      (amount_in_lem (of Mfrr) w mfrr_amount, (mfrr_tells (instant 6 - instant 3) (pos 0)).1 (omega arith, refl))

  in_bounds : Valid r → is_command r.layout ≡ true → Bounds (order_of r)
  unfolding order_of message_number end_of
  in_bounds w c =
      let starts = date_in r w (start_at r.layout c) in
      let ends = date_in r w (end_at r.layout c) in
      let suits = by_command (λ (l : Layout). Valid (of l) → Suits l) market_suits mfrr_suits r.layout c w in
      record {
        number_to = number_in_lem r w (number_at r.layout c);
        start_from = starts.from;
        start_to = starts.to;
        end_from = ends.from;
        end_to = ends.to;
        first_amount = suits.0;
        fits = suits.1;
      }

  -- ---- a revocation

  revoked_apart : Valid (of Revocation) → instant 3 < instant (end_field Revocation)
  unfolding broken_in rules_of
  revoked_apart w =
      let ends = date_in (of Revocation) w (revoked_end_at Revocation refl) in
      rises _ ends.is_filled_so w.valid.unbroken

  strike_in_bounds : Valid r → is_revocation r.layout ≡ true → StrikeBounds (strike_of r)
  unfolding strike_of end_of
  strike_in_bounds w c =
      let starts = date_in r w (revoked_start_at r.layout c) in
      let ends = date_in r w (revoked_end_at r.layout c) in
      record {
        number_to = count_in_lem r w (sequence_at r.layout c);
        start_from = starts.from;
        start_to = starts.to;
        end_from = ends.from;
        end_to = ends.to;
        apart = by_revocation (λ (l : Layout). Valid (of l) → instant 3 < instant (end_field l)) revoked_apart r.layout c w;
      }

-- ---- so each passes its test

pub comes : (r : Record) → is_valid r ≡ true → is_command r.layout ≡ true → could_come (order_of r) ≡ true
comes r e c = (come_tells (order_of r)).1 (in_bounds r ((valid_tells r).0 e) c)

pub instants_fit : (r : Record) → is_valid r ≡ true → is_command r.layout ≡ true → (instant_in (start_of r) ≤ 4294967295) × (instant_in (end_of r) ≤ 4294967295)
unfolding order_of
instants_fit r e c = let b = (come_tells (order_of r)).0 (comes r e c) in omega arith

pub names_fit : (r : Record) → is_valid r ≡ true → is_revocation r.layout ≡ true → could_strike (strike_of r) ≡ true
names_fit r e c = (revoke_tells (strike_of r)).1 (strike_in_bounds r ((valid_tells r).0 e) c)

pub revoked_fit : (r : Record) → is_valid r ≡ true → is_revocation r.layout ≡ true → (instant_in (start_of r) ≤ 4294967295) × (instant_in (end_of r) ≤ 4294967295)
unfolding strike_of
revoked_fit r e c = let b = (revoke_tells (strike_of r)).0 (names_fit r e c) in omega arith
