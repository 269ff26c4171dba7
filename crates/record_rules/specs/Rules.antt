-- The rules across fields, by number. Document 01, "Values": rules 1 to 9, on the record, so that validity of a record uses the same ones.
use Rattle.std.specs.Prelude.{ℕ, eqb, leb, ltb, pos, take, Bool, true, false, not, ◌&&◌, ◌||◌, cond, List, [], ◌∷◌}
use Rattle.layout.specs.FieldNumbers.{start_no, end_no, origin_no, update_no, h1_no, h2_no, h3_no, h4_no, h5_no, h6_no, gradients_no, tfin1_no, tini2_no, tfin2_no}
use Rattle.layout.specs.FieldNumbers.{reason_field, readmission_no, maximum_no, minimum_no, reinstatement_no, operation_no, half_bands_no, power_no, extent_no}
use Rattle.layout.specs.declared.Layout.{Layout}
use Rattle.layout.specs.declared.Layout.TheVariants.{Market, Mfrr, Revocation, Generic, Exclusion, Limitation, Secondary, VoltVar, Rejection, Reserve}
use Rattle.value_list.specs.declared.Triple.{Triple}
use Rattle.record.specs.Records.{field_of}
use Rattle.record.specs.declared.Cell.{Cell}
use Rattle.record.specs.declared.Record.{Record}
use Rattle.record_voltvar.specs.Table.{in_table}
use Rattle.value_ask.specs.Values.{is_filled, instant_in, amount_in, is_word, triples_in, list_size, not_negative}
use Rattle.text.specs.Bytes.{all}
use Rattle.value.specs.declared.Value.{Value}
use Rattle.value_word.specs.Names.{w_si, w_no, w_scweb, w_sospensione}
use Rattle.std.specs.Int.Signed.{le_z, lt_z}

-- one holds exactly when the other does
abbrev pub iff : Bool → Bool → Bool
iff true b = b
iff false b = not b

-- one holds only where the other does
abbrev pub only_if : Bool → Bool → Bool
only_if a b = not a || b

-- ---- each rule on the values that it asks for

-- 1. Start before end, by instant, where an end is filled.
abbrev pub ordered : Value → Value → Bool
ordered start end = only_if (is_filled end) (ltb (instant_in start) (instant_in end))

-- 1. mFRR: TINI1 < TFIN1 ≤ TINI2 < TFIN2.
abbrev pub ramped : Value → Value → Value → Value → Bool
ramped tini1 tfin1 tini2 tfin2 =
    ltb (instant_in tini1) (instant_in tfin1) && leb (instant_in tfin1) (instant_in tini2) && ltb (instant_in tini2) (instant_in tfin2)

-- 2. Update date filled exactly with SCWEB.
abbrev pub updates : Value → Value → Bool
updates origin update = iff (is_filled update) (is_word w_scweb origin)

-- a line of four numbers
abbrev pub is_full : Value → Bool
is_full v = eqb (list_size v) 4

-- 3. Below a filled h line all are filled, with four numbers each: the first filled one may have fewer (document 02, A5).
abbrev pub fills : Value → Value → Value → Value → Value → Value → Bool
fills h1 h2 h3 h4 h5 h6 =
    only_if (is_filled h1) (is_full h2)
    && only_if (is_filled h2) (is_full h3)
    && only_if (is_filled h3) (is_full h4)
    && only_if (is_filled h4) (is_full h5)
    && only_if (is_filled h5) (is_full h6)

-- 4. Pmin ≤ Pmax; gradient above 0.
unfoldable pub rises : Triple → Bool
rises t = le_z t.low t.high && lt_z (pos 0) t.gradient

abbrev pub slopes : Value → List Triple → Bool
slopes bands gradients = all rises (take (triples_in bands) gradients)

-- 5. EB reason filled exactly when `Riammissione` is NO.
abbrev pub excludes : Value → Value → Bool
excludes reason again = iff (is_filled reason) (is_word w_no again)

-- 6. LB: SI leaves both limits and the reason blank; NO has a reason and at least one limit; minimum ≤ maximum if both.
abbrev pub limits : Value → Value → Value → Value → Bool
limits high low reason again =
    cond (is_word w_si again) (not (is_filled high) && not (is_filled low) && not (is_filled reason))
    (is_filled reason && (is_filled high || is_filled low) && only_if (is_filled high && is_filled low) (le_z (amount_in low) (amount_in high)))

-- 7. SR: two numbers, neither negative, or blank with SOSPENSIONE only.
abbrev pub bands : Value → Value → Bool
bands action band = cond (is_filled band) (not_negative band) (is_word w_sospensione action)

-- 9. QR: exactly one quantity filled.
abbrev pub quantifies : Value → Value → Bool
quantifies power energy = iff (is_filled power) (not (is_filled energy))

-- ---- and on the fields of a message

module _ (cells : List Cell) where
  unfoldable pub in_order : Bool
  in_order = ordered (field_of cells start_no) (field_of cells end_no)

  unfoldable pub ramps : Bool
  ramps = ramped (field_of cells start_no) (field_of cells tfin1_no) (field_of cells tini2_no) (field_of cells tfin2_no)

  unfoldable pub updated : Bool
  updated = updates (field_of cells origin_no) (field_of cells update_no)

  unfoldable pub profiled : Bool
  profiled =
      fills (field_of cells h1_no) (field_of cells h2_no) (field_of cells h3_no) (field_of cells h4_no) (field_of cells h5_no) (field_of cells h6_no)

  unfoldable pub sloped : List Triple → Bool
  sloped gradients = slopes (field_of cells gradients_no) gradients

  unfoldable pub excluded : Bool
  excluded = excludes (field_of cells (reason_field Exclusion)) (field_of cells readmission_no)

  unfoldable pub limited : Bool
  limited = limits (field_of cells maximum_no) (field_of cells minimum_no) (field_of cells (reason_field Limitation)) (field_of cells reinstatement_no)

  unfoldable pub banded : Bool
  banded = bands (field_of cells operation_no) (field_of cells half_bands_no)

  unfoldable pub quantified : Bool
  quantified = quantifies (field_of cells power_no) (field_of cells extent_no)

-- ---- a rule's number and whether it holds

pub record Rule : Type 0 where
  pub number : ℕ
  pub holds : Bool

abbrev pub rule : ℕ → Bool → Rule
rule n b = record { number = n; holds = b }

-- the rules of a layout, ascending
unfoldable pub rules_of : Layout → List Cell → List Triple → List Rule
rules_of Market cs gs = rule 1 (in_order cs) ∷ rule 2 (updated cs) ∷ rule 3 (profiled cs) ∷ rule 4 (sloped cs gs) ∷ []
rules_of Mfrr cs gs = rule 1 (ramps cs) ∷ []
rules_of Revocation cs gs = rule 1 (in_order cs) ∷ []
rules_of Generic cs gs = rule 1 (in_order cs) ∷ []
rules_of Exclusion cs gs = rule 1 (in_order cs) ∷ rule 5 (excluded cs) ∷ []
rules_of Limitation cs gs = rule 1 (in_order cs) ∷ rule 6 (limited cs) ∷ []
rules_of Secondary cs gs = rule 1 (in_order cs) ∷ rule 7 (banded cs) ∷ []
rules_of VoltVar cs gs = rule 1 (in_order cs) ∷ rule 8 (in_table cs) ∷ []
rules_of Rejection cs gs = rule 1 (in_order cs) ∷ []
rules_of Reserve cs gs = rule 1 (in_order cs) ∷ rule 9 (quantified cs) ∷ []

-- the lowest broken rule; 0 where all hold
unfoldable pub lowest : List Rule → ℕ
lowest [] = 0
lowest (r ∷ rs) = cond r.holds (lowest rs) r.number

-- THE DEFINITION: the lowest broken rule of a record
unfoldable pub broken_in : Record → ℕ
broken_in r = lowest (rules_of r.layout r.cells r.gradients)
