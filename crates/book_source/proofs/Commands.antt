-- A command of either layout with any number, dates and variations, and nothing else to choose: valid where these are, as antt computes.
-- Assumes nothing.
use Prim.Native.Nat.{ℕ}
use Rattle.value_bounds.specs.Bounds.{is_amount}
use Rattle.value_date.specs.Date.{is_real, instant_of}
use Rattle.value_date.specs.declared.Date.{Date}
use Rattle.value_fits.specs.Fits.{is_among, is_ranged, is_no_triple, are_triples, is_named, fits, holds}
use Rattle.layout.specs.Fields.{command, technical, market, mfrr}
use Rattle.layout.specs.Layouts.{fields_of, kinds_of}
use Rattle.layout.specs.declared.Layout.{Layout}
use Rattle.layout.specs.declared.Layout.TheVariants.{Market, Mfrr}
use Rattle.value_list.specs.Forms.{no_triple}
use Rattle.value_list.specs.declared.Triple.{Triple}
use Rattle.value_name.specs.Names.{is_unit}
use Rattle.record.specs.Records.{cells_of, field_of}
use Rattle.record.specs.declared.Record.{Record}
use Rattle.record_rules.specs.Rules.{in_order, ramps, updated, profiled, rises, sloped, rules_of, lowest, broken_in}
use Rattle.text.specs.Bytes.{all}
use Rattle.record_check.specs.Validity.{holds_all, are_clear, no_triples, is_sized, is_valid}
use Rattle.value.specs.declared.Value.{Value}
use Rattle.value.specs.declared.Value.TheVariants.{Blank, Id, Unit as UnitOf, When, Amount, Word, Triples}
use Rattle.writer_form.specs.Written.{values_in}
use Rattle.value_word.specs.Names.{w_normale, w_stai, w_no, w_gaudi, w_sa}
use borrow.Author.Tests.{le-leb}
use lib.Dec.{ltb}
use lib.IntN.{ℤ, pos}
use lib.ListN.{replicate}
use mathlib.Core.Bool.{true}
use mathlib.Core.List.{List, [], ◌∷◌, ◌++◌}
use mathlib.Core.Path.{◌≡◌}
use native.Mathlib.Omega.{arith}

-- the number, the unit `A` (65) and the start stand first in every layout
abbrev pub message_with : Layout → ℕ → Date → List Value → List Triple → Record
message_with l n s rest gs =
    record {
      layout = l;
      cells = cells_of (Id n ∷ UnitOf 1 ∷ When s ∷ rest);
      unit = 65 ∷ replicate 15 0;
      reason = replicate 128 0;
      note = replicate 256 0;
      gradients = gs;
    }

abbrev none : Value
none = Amount (pos 0)

-- with the one triple 0,0,0.001
abbrev pub market_command : ℕ → Date → Date → ℤ → ℤ → Record
market_command n s e v w =
    message_with Market n s
    (When e ∷ Amount v ∷ Amount w ∷ Word w_normale ∷ Word w_stai ∷ Word w_no ∷ none ∷ none ∷ Word w_no ∷ Blank ∷ Blank ∷ Word w_no ∷ Word w_no
    ∷ When s ∷ Word w_gaudi ∷ replicate 7 Blank ++ Triples 1 ∷ [])
    (record { low = pos 0; high = pos 0; gradient = pos 1 } ∷ replicate 15 no_triple)

-- the first ramp ends where the second starts
abbrev pub mfrr_command : ℕ → Date → Date → Date → ℤ → Record
mfrr_command n s u e v =
    message_with Mfrr n s (When u ∷ When u ∷ When e ∷ Amount v ∷ Word w_sa ∷ none ∷ none ∷ none ∷ none ∷ []) (replicate 16 no_triple)

module _ (n : ℕ) (s e : Date) (v : ℤ) (low : ltb n 10000000000 ≡ true) (starts : is_real s ≡ true) (ends : is_real e ≡ true) (first : is_amount v ≡ true) where
  pub market_valid : (w : ℤ) → is_amount w ≡ true → ltb (instant_of s) (instant_of e) ≡ true → is_valid (market_command n s e v w) ≡ true
  unfolding is_valid is_sized holds_all are_clear no_triples holds fits is_among is_amount is_ranged is_no_triple are_triples is_named is_unit all kinds_of fields_of market
      command technical values_in cells_of field_of broken_in lowest rules_of in_order updated profiled sloped rises
  market_valid w second before = rw (low, starts, ends, first, second, before)

  pub mfrr_valid : (u : Date) → is_real u ≡ true → ltb (instant_of s) (instant_of u) ≡ true → ltb (instant_of u) (instant_of e) ≡ true
      → is_valid (mfrr_command n s u e v) ≡ true
  unfolding is_valid is_sized holds_all are_clear no_triples holds fits is_among is_amount is_no_triple is_named is_unit all kinds_of fields_of mfrr values_in cells_of field_of
      broken_in lowest rules_of ramps
  mfrr_valid u up rise fall = rw (low, starts, ends, first, up, rise, le-leb (instant_of u) (instant_of u) (omega arith), fall)
