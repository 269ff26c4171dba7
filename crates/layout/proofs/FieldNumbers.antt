-- Each name is that of its field's label. Assumes nothing.
use Prim.Native.Nat.{ℕ}
use Prim.Native.String.{String}
use Rattle.layout.specs.FieldNumbers.{identifier_no, unit_no, start_no, end_no, first_variation_no, second_variation_no, start_up_no, ramp_no}
use Rattle.layout.specs.FieldNumbers.{origin_no, update_no, h1_no, h2_no, h3_no, h4_no, h5_no, h6_no, gradients_no}
use Rattle.layout.specs.FieldNumbers.{tfin1_no, tini2_no, tfin2_no, mfrr_variation_no, tipo_comando_no, sequence_no, readmission_no}
use Rattle.layout.specs.FieldNumbers.{maximum_no, minimum_no, reinstatement_no, operation_no, half_bands_no}
use Rattle.layout.specs.FieldNumbers.{state_no, mode_no, regulation_no, voltage_no, regulator_no, change_no, reactive_no, power_no, extent_no}
use Rattle.layout.specs.FieldNumbers.{reason_field, note_field}
use Rattle.layout.specs.Fields.{command, technical, market, mfrr, rc, mg, eb, lb, sr, vq, ri, qr}
use Rattle.layout.specs.Layouts.{fields_of, labels_of, label_at}
use Rattle.layout.specs.declared.Layout.{Layout}
use Rattle.layout.specs.declared.Layout.TheVariants.{Market, Mfrr, Revocation, Generic, Exclusion, Limitation, Secondary, VoltVar, Rejection, Reserve}
use Rattle.text.specs.Bytes.{bytes}
use mathlib.Core.Path.{◌≡◌, refl}

abbrev Labels : Layout → ℕ → String → Type 0
Labels l k t = label_at l k ≡ bytes t

pub command_named :
    Labels Market identifier_no "Identificatore messaggio"
    × Labels Market unit_no "Nome UPA/UCA"
    × Labels Market start_no "Data Ora Inizio Comando"
    × Labels Market end_no "Data Ora Fine Comando"
    × Labels Market first_variation_no "Variazione potenza Prog Vinc (TINI)"
    × Labels Market second_variation_no "Variazione potenza Prog Vinc (TFIN)"
unfolding label_at labels_of fields_of market command technical
command_named = (refl, refl, refl, refl, refl, refl)

pub technical_named :
    Labels Market start_up_no "Tempo di avviamento"
    × Labels Market ramp_no "Tempo di rampa"
    × Labels Market origin_no "Origine Dati Tecnici a Trif"
    × Labels Market update_no "Data Ora Aggiornamento Dati a Trif"
    × Labels Market h1_no "Profilo normalizzato di rampa h1"
    × Labels Market h2_no "Profilo normalizzato di rampa h2"
    × Labels Market h3_no "Profilo normalizzato di rampa h3"
    × Labels Market h4_no "Profilo normalizzato di rampa h4"
    × Labels Market h5_no "Profilo normalizzato di rampa h5"
    × Labels Market h6_no "Profilo normalizzato di rampa h6"
    × Labels Market gradients_no "Gradienti (Pmin,Pmax,Grad)"
unfolding label_at labels_of fields_of market command technical
technical_named = (refl, refl, refl, refl, refl, refl, refl, refl, refl, refl, refl)

pub mfrr_named :
    Labels Mfrr start_no "Data Ora Inizio Rampa1 TINI1"
    × Labels Mfrr tfin1_no "Data Ora Fine Rampa1 TFIN1"
    × Labels Mfrr tini2_no "Data Ora Inizio Rampa2 TINI2"
    × Labels Mfrr tfin2_no "Data Ora Fine Rampa2 TFIN2"
    × Labels Mfrr mfrr_variation_no "Variazione potenza al TFIN1"
    × Labels Mfrr tipo_comando_no "Tipo Comando"
unfolding label_at labels_of fields_of mfrr
mfrr_named = (refl, refl, refl, refl, refl, refl)

pub limits_named :
    Labels Revocation sequence_no "Sequenza Comando"
    × Labels Exclusion readmission_no "Riammissione"
    × Labels Limitation maximum_no "Limite Potenza massima"
    × Labels Limitation minimum_no "Limite Potenza Minima"
    × Labels Limitation reinstatement_no "Reintegro"
unfolding label_at labels_of fields_of rc eb lb
limits_named = (refl, refl, refl, refl, refl)

pub settings_named :
    Labels Secondary operation_no "Tipo Operazione"
    × Labels Secondary half_bands_no "Semibande"
    × Labels VoltVar state_no "Stato Sart/Report"
    × Labels VoltVar mode_no "Modalita funzionamento"
    × Labels VoltVar regulation_no "Regolazione"
    × Labels VoltVar voltage_no "Impostazione Sart/Report"
    × Labels VoltVar regulator_no "Impostazione RAT"
    × Labels VoltVar change_no "Variazione"
    × Labels VoltVar reactive_no "Potenza reattiva"
    × Labels Reserve power_no "Quantita Riservata (MW)"
    × Labels Reserve extent_no "Quantita Riservata"
unfolding label_at labels_of fields_of sr vq qr
settings_named = (refl, refl, refl, refl, refl, refl, refl, refl, refl, refl, refl)

pub reasons_named :
    Labels Generic (reason_field Generic) "Motivazione"
    × Labels Exclusion (reason_field Exclusion) "Motivazione"
    × Labels Limitation (reason_field Limitation) "Motivazione"
    × Labels Secondary (reason_field Secondary) "Motivazione"
    × Labels Rejection (reason_field Rejection) "Motivazione"
unfolding label_at labels_of fields_of mg eb lb sr ri
reasons_named = (refl, refl, refl, refl, refl)

pub notes_named :
    Labels Generic (note_field Generic) "Note"
    × Labels Exclusion (note_field Exclusion) "Note"
    × Labels Limitation (note_field Limitation) "Note"
    × Labels Secondary (note_field Secondary) "Note"
    × Labels VoltVar (note_field VoltVar) "Note"
    × Labels Rejection (note_field Rejection) "Note"
    × Labels Reserve (note_field Reserve) "Note"
unfolding label_at labels_of fields_of mg eb lb sr vq ri qr
notes_named = (refl, refl, refl, refl, refl, refl, refl)
