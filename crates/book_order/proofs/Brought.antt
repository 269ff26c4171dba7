-- The order that a record brings, and the stretch that one strikes, from what is told of the record in brief. Assumes nothing.
use Prim.Native.Nat.{ℕ, ◌≤◌}
use Rattle.value_ask.specs.Values.{instant_in}
use Rattle.report_brief.specs.Brief.{message_number, start_of, end_of, told_of, brief_of}
use Rattle.report_brief.specs.declared.Brief.{Brief}
use Rattle.book_order.specs.Messages.{first_variation, second_variation, order_of, strike_of}
use Rattle.book_stretch.specs.Stretches.{stretch, in_four}
use Rattle.record.specs.declared.Record.{Record}
use lib.IntN.{ℤ}
use mathlib.Core.List.{[]}
use mathlib.Core.Path.{◌≡◌}
use mir.Syntax.{w32}
use mir.Val.{SFits, of_z, to_z}
use mir.ValLaws.{to_z-of_z}

module _ (r : Record) (told : Brief) (e : told ≡ brief_of r) where
  pub start_small : (n : ℕ) → n ≡ instant_in told.start → instant_in (start_of r) ≤ 4294967295 → n ≤ 4294967295
  unfolding brief_of told_of
  start_small n s h = rw (s, e) h

  pub end_small : (n : ℕ) → n ≡ instant_in told.end → instant_in (end_of r) ≤ 4294967295 → n ≤ 4294967295
  unfolding brief_of told_of
  end_small n s h = rw (s, e) h

  pub order_is : (start end : ℕ) (first second : ℤ) → SFits w32 first → SFits w32 second → start ≡ instant_in told.start → end ≡ instant_in told.end
      → first ≡ first_variation r.layout r.cells → second ≡ second_variation r.layout r.cells
      → record {
        number = told.number;
        layout = r.layout;
        start = start;
        end = end;
        first = to_z w32 (of_z w32 first);
        second = to_z w32 (of_z w32 second);
        struck = in_four [];
      } ≡ order_of r
  unfolding brief_of told_of message_number order_of
  order_is start end first second f g s t v w = rw (to_z-of_z w32 first f, to_z-of_z w32 second g, s, t, v, w, e)

  pub stretch_is : (from to : ℕ) → from ≡ instant_in told.start → to ≡ instant_in told.end → stretch from to ≡ (strike_of r).over
  unfolding brief_of told_of strike_of
  stretch_is from to s t = rw (s, t, e)
