-- Cases that antt computes: for each rule, values that keep it and values that break it.
use Prim.Native.Nat.{ℕ}
use Rattle.value_date.specs.Date.{instant_of, clock_of, passed, days_of, days_in, leap}
use Rattle.layout.specs.declared.Layout.TheVariants.{Limitation, VoltVar}
use Rattle.value_list.specs.declared.Triple.{Triple}
use Rattle.record.specs.Records.{cell, field_of}
use Rattle.record.specs.declared.Cell.{Cell}
use Rattle.record_rules.specs.Rules.{in_order, ramps, updated, profiled, rises, sloped, excluded, limited, banded, quantified, rules_of, lowest}
use Rattle.record_voltvar.specs.Table.{table, form_of, volt_var_line, meets, in_table}
use Rattle.text.specs.Bytes.{any, all}
use Rattle.value.specs.declared.Value.{Value}
use Rattle.value.specs.declared.Value.TheVariants.{Blank, When, Amount, Reason, Word, List as Numbers, Triples, Voltage, Change}
use Rattle.value_word.specs.Names.{w_si, w_no, w_gaudi, w_scweb, w_sospensione, w_inserimento, w_i, w_rts, w_vsrif, w_v_max, w_fino_a_pmin}
use lib.IntN.{ℤ, pos, negsuc}
use lib.ListN.{replicate}
use mathlib.Core.Bool.{Bool, true, false}
use mathlib.Core.List.{List, [], ◌∷◌, ◌++◌, map}
use mathlib.Core.Path.{◌≡◌, refl}

-- values behind n blank fields
abbrev after : ℕ → List Value → List Cell
after n vs = map cell (replicate n Blank ++ vs)

-- an hour of 15 May 2025, in summer time or not
abbrev at : ℕ → Bool → Value
at h l = When (record { year = 2025; month = 5; day = 15; hour = h; minute = 0; second = 0; legal = l })

abbrev two : ℤ → ℤ → Value
two a b = Numbers (record { count = 2; first = a; second = b; third = pos 0; fourth = pos 0 })

abbrev quarters : Value
quarters = Numbers (record { count = 4; first = pos 0; second = pos 250; third = pos 500; fourth = pos 750 })

abbrev triple : ℤ → ℤ → ℤ → Triple
triple l h g = record { low = l; high = h; gradient = g }

abbrev kv : Value
kv = Voltage (record { 0 = pos 380000 })

abbrev v_max : Value
v_max = Word w_v_max

abbrev change : Value
change = Change (record { 0 = pos 2000 })

-- a VQ message of a state, mode RTS, regulation VSRIF, with a voltage and a change
abbrev vsrif : Value → Value → Value → List Cell
vsrif s v c = after 2 (at 10 true ∷ Blank ∷ s ∷ Word w_rts ∷ Word w_vsrif ∷ v ∷ Blank ∷ c ∷ Blank ∷ [])

-- ---- 1. start before end

before : in_order (after 2 (at 10 true ∷ at 11 true ∷ [])) ≡ true
unfolding in_order field_of instant_of clock_of passed days_of days_in leap
before = refl

equal : in_order (after 2 (at 10 true ∷ at 10 true ∷ [])) ≡ false
unfolding in_order field_of instant_of clock_of passed days_of days_in leap
equal = refl

-- ten in summer time is nine in solar time: the instant decides, not the clock
same_instant : in_order (after 2 (at 9 false ∷ at 10 true ∷ [])) ≡ false
unfolding in_order field_of instant_of clock_of passed days_of days_in leap
same_instant = refl

no_end : in_order (after 2 (at 10 true ∷ Blank ∷ [])) ≡ true
unfolding in_order field_of instant_of clock_of passed days_of days_in leap
no_end = refl

-- the first ramp may end where the second starts
meeting : ramps (after 2 (at 9 true ∷ at 10 true ∷ at 10 true ∷ at 11 true ∷ [])) ≡ true
unfolding ramps field_of instant_of clock_of passed days_of days_in leap
meeting = refl

crossing : ramps (after 2 (at 9 true ∷ at 11 true ∷ at 10 true ∷ at 12 true ∷ [])) ≡ false
unfolding ramps field_of instant_of clock_of passed days_of days_in leap
crossing = refl

-- ---- 2. update date, 3. profile, 4. gradients

with_scweb : updated (after 17 (Word w_scweb ∷ at 10 true ∷ [])) ≡ true
unfolding updated field_of
with_scweb = refl

with_gaudi : updated (after 17 (Word w_gaudi ∷ at 10 true ∷ [])) ≡ false
unfolding updated field_of
with_gaudi = refl

from_h5 : profiled (after 23 (quarters ∷ quarters ∷ [])) ≡ true
unfolding profiled field_of
from_h5 = refl

-- the first filled one may have fewer than four, h6 alone too
short_h5 : profiled (after 23 (two (pos 1) (pos 2) ∷ quarters ∷ [])) ≡ true
unfolding profiled field_of
short_h5 = refl

short_h6 : profiled (after 24 (two (pos 1) (pos 2) ∷ [])) ≡ true
unfolding profiled field_of
short_h6 = refl

-- a later one may not
short_below : profiled (after 23 (quarters ∷ two (pos 1) (pos 2) ∷ [])) ≡ false
unfolding profiled field_of
short_below = refl

below_h1 : profiled (after 19 (quarters ∷ Blank ∷ [])) ≡ false
unfolding profiled field_of
below_h1 = refl

-- a triple past the count is not judged
flat : sloped (after 25 (Triples 1 ∷ [])) (triple (pos 5) (pos 5) (pos 1) ∷ triple (pos 0) (pos 0) (pos 0) ∷ []) ≡ true
unfolding sloped field_of rises all
flat = refl

no_gradient : sloped (after 25 (Triples 1 ∷ [])) (triple (negsuc 4) (pos 5) (pos 0) ∷ []) ≡ false
unfolding sloped field_of rises all
no_gradient = refl

-- ---- 5. EB, 6. LB, 7. SR, 9. QR

no_reason : excluded (after 4 (Blank ∷ Blank ∷ Word w_no ∷ [])) ≡ false
unfolding excluded field_of
no_reason = refl

readmitted : excluded (after 4 (Blank ∷ Blank ∷ Word w_si ∷ [])) ≡ true
unfolding excluded field_of
readmitted = refl

one_limit : limited (after 4 (Blank ∷ Amount (pos 5) ∷ Reason 3 ∷ Blank ∷ Word w_no ∷ [])) ≡ true
unfolding limited field_of
one_limit = refl

-- the maximum stands before the minimum
crossed : limited (after 4 (Amount (pos 5) ∷ Amount (pos 6) ∷ Reason 3 ∷ Blank ∷ Word w_no ∷ [])) ≡ false
unfolding limited field_of
crossed = refl

suspended : banded (after 4 (Word w_sospensione ∷ Blank ∷ [])) ≡ true
unfolding banded field_of
suspended = refl

inserted_blank : banded (after 4 (Word w_inserimento ∷ Blank ∷ [])) ≡ false
unfolding banded field_of
inserted_blank = refl

negative : banded (after 4 (Word w_inserimento ∷ two (pos 5) (negsuc 0) ∷ [])) ≡ false
unfolding banded field_of
negative = refl

one_quantity : quantified (after 5 (Blank ∷ Word w_fino_a_pmin ∷ [])) ≡ true
unfolding quantified field_of
one_quantity = refl

no_quantity : quantified (after 5 (Blank ∷ Blank ∷ [])) ≡ false
unfolding quantified field_of
no_quantity = refl

-- ---- 8. VQ

-- row 5: V MAX and a change
row_five : in_table (vsrif (Word w_i) v_max change) ≡ true
unfolding in_table table volt_var_line form_of meets any field_of
row_five = refl

-- no row has a number of kV and a change
kv_and_change : in_table (vsrif (Word w_i) kv change) ≡ false
unfolding in_table table volt_var_line form_of meets any field_of
kv_and_change = refl

-- row 4, without a state: a number of kV, and no word
row_four : in_table (vsrif Blank kv Blank) ≡ true
unfolding in_table table volt_var_line form_of meets any field_of
row_four = refl

word_in_four : in_table (vsrif Blank v_max Blank) ≡ false
unfolding in_table table volt_var_line form_of meets any field_of
word_in_four = refl

-- ---- the lowest broken rule

-- rules 1 and 8 are broken
lowest_one : lowest (rules_of VoltVar (after 2 (at 10 true ∷ at 10 true ∷ [])) []) ≡ 1
unfolding lowest rules_of in_order in_table table volt_var_line form_of meets any field_of instant_of clock_of passed days_of days_in leap
lowest_one = refl

-- rule 6 alone is
lowest_six : lowest (rules_of Limitation (after 2 (at 10 true ∷ at 11 true ∷ Blank ∷ Blank ∷ Reason 3 ∷ Blank ∷ Word w_no ∷ [])) []) ≡ 6
unfolding lowest rules_of in_order limited field_of instant_of clock_of passed days_of days_in leap
lowest_six = refl

none_broken : lowest (rules_of VoltVar (vsrif (Word w_i) v_max change) []) ≡ 0
unfolding lowest rules_of in_order in_table table volt_var_line form_of meets any field_of instant_of clock_of passed days_of days_in leap
none_broken = refl
