-- Which field of a layout holds what: fields are numbered from 1 in printed order (Document 01, "Lines of a message"). That each name is that of its
-- field's label is proved (proofs/FieldNumbers.antt).
use Rattle.std.specs.Prelude.{ℕ}
use Rattle.layout.specs.declared.Layout.{Layout}
use Rattle.layout.specs.declared.Layout.TheVariants.{Market, Mfrr, Revocation, Generic, Exclusion, Limitation, Secondary, VoltVar, Rejection, Reserve}

-- of every layout

abbrev pub identifier_no : ℕ
identifier_no = 1

abbrev pub unit_no : ℕ
unit_no = 2

abbrev pub start_no : ℕ
start_no = 3

-- the end, of every layout but mFRR

abbrev pub end_no : ℕ
end_no = 4

-- of the market layout: variations, start-up and ramp time, origin of the technical data and their update, profile, gradients

abbrev pub first_variation_no : ℕ
first_variation_no = 5

abbrev pub second_variation_no : ℕ
second_variation_no = 6

abbrev pub start_up_no : ℕ
start_up_no = 13

abbrev pub ramp_no : ℕ
ramp_no = 14

abbrev pub origin_no : ℕ
origin_no = 18

abbrev pub update_no : ℕ
update_no = 19

abbrev pub h1_no : ℕ
h1_no = 20

abbrev pub h2_no : ℕ
h2_no = 21

abbrev pub h3_no : ℕ
h3_no = 22

abbrev pub h4_no : ℕ
h4_no = 23

abbrev pub h5_no : ℕ
h5_no = 24

abbrev pub h6_no : ℕ
h6_no = 25

abbrev pub gradients_no : ℕ
gradients_no = 26

-- of mFRR: the ends of its two ramps (TINI1 is its start), its one variation, and `Tipo Comando`

abbrev pub tfin1_no : ℕ
tfin1_no = 4

abbrev pub tini2_no : ℕ
tini2_no = 5

abbrev pub tfin2_no : ℕ
tfin2_no = 6

abbrev pub mfrr_variation_no : ℕ
mfrr_variation_no = 7

abbrev pub tipo_comando_no : ℕ
tipo_comando_no = 8

-- of RC: `Sequenza Comando`

abbrev pub sequence_no : ℕ
sequence_no = 5

-- of EB: `Riammissione`

abbrev pub readmission_no : ℕ
readmission_no = 7

-- of LB: its limits, and `Reintegro`

abbrev pub maximum_no : ℕ
maximum_no = 5

abbrev pub minimum_no : ℕ
minimum_no = 6

abbrev pub reinstatement_no : ℕ
reinstatement_no = 9

-- of SR: operation and half-bands

abbrev pub operation_no : ℕ
operation_no = 5

abbrev pub half_bands_no : ℕ
half_bands_no = 6

-- of VQ: state, mode, regulation, and the four settings

abbrev pub state_no : ℕ
state_no = 5

abbrev pub mode_no : ℕ
mode_no = 6

abbrev pub regulation_no : ℕ
regulation_no = 7

abbrev pub voltage_no : ℕ
voltage_no = 8

abbrev pub regulator_no : ℕ
regulator_no = 9

abbrev pub change_no : ℕ
change_no = 10

abbrev pub reactive_no : ℕ
reactive_no = 11

-- of QR: its quantity in MW, and as a word

abbrev pub power_no : ℕ
power_no = 6

abbrev pub extent_no : ℕ
extent_no = 7

-- ---- what several layouts have, each at a place of its own: 0 where the layout has none. Reasons and notes have no other name than these tables.

abbrev pub end_field : Layout → ℕ
end_field Market = end_no
end_field Mfrr = tfin2_no
end_field Revocation = end_no
end_field Generic = end_no
end_field Exclusion = end_no
end_field Limitation = end_no
end_field Secondary = end_no
end_field VoltVar = end_no
end_field Rejection = end_no
end_field Reserve = end_no

abbrev pub reason_field : Layout → ℕ
reason_field Market = 0
reason_field Mfrr = 0
reason_field Revocation = 0
reason_field Generic = 5
reason_field Exclusion = 5
reason_field Limitation = 7
reason_field Secondary = 7
reason_field VoltVar = 0
reason_field Rejection = 5
reason_field Reserve = 0

abbrev pub note_field : Layout → ℕ
note_field Market = 0
note_field Mfrr = 0
note_field Revocation = 0
note_field Generic = 6
note_field Exclusion = 6
note_field Limitation = 8
note_field Secondary = 8
note_field VoltVar = 12
note_field Rejection = 6
note_field Reserve = 8

abbrev pub gradients_field : Layout → ℕ
gradients_field Market = gradients_no
gradients_field Mfrr = 0
gradients_field Revocation = 0
gradients_field Generic = 0
gradients_field Exclusion = 0
gradients_field Limitation = 0
gradients_field Secondary = 0
gradients_field VoltVar = 0
gradients_field Rejection = 0
gradients_field Reserve = 0
