-- The fields of the ten layouts in printed order: label, kind, and whether a blank may stand. Document 01, "Lines of a message" and "Values";
-- labels letter for letter from Annex A.34, 2.3 to 2.11, with plain `a` for an accented one. A word is one of those from the first to the last that
-- are named (value_word/specs/Names.antt).
use Rattle.std.specs.Prelude.{ℕ, true, false, List, [], ◌∷◌, ◌++◌}
use Prim.Native.String.{String}
use Rattle.value_name.specs.declared.MessageType.{MessageType}
use Rattle.value_name.specs.declared.MessageType.TheVariants.{Cb, Rc, Mg, Eb, Lb, Sr, Vq, Ri, Qr}
use Rattle.text.specs.Bytes.{bytes}
use Rattle.value.specs.declared.Kind.{Kind}
use Rattle.value.specs.declared.Shape.{Shape}
use Rattle.value.specs.declared.Shape.TheVariants.{IsId, IsUnit, IsWhen, IsAmount, IsCount, IsReason, IsNote, IsWord, IsProfile, IsBands, IsTriples, IsVoltage}
use Rattle.value.specs.declared.Shape.TheVariants.{IsRegulator, IsChange, IsReactive}
use Rattle.value_word.specs.Names.{w_normale, w_stai, w_mantieni_differenza, w_si, w_no, w_gaudi, w_scweb, w_sa, w_da, w_sospensione, w_programma, w_i, w_e, w_rrt, w_man}
use Rattle.value_word.specs.Names.{w_profilo_memorizzato, w_potenza_reattiva, w_riserva_a_scendere, w_riserva_a_salire, w_fino_a_pmin, w_fino_a_pmax}

pub record Field : Type 0 where
  pub label : List ℕ
  pub kind : Kind

-- a field that must be filled, and one that may be blank
abbrev pub must : String → Shape → Field
must l s = record { label = bytes l; kind = record { shape = s; blank = false } }

abbrev pub may : String → Shape → Field
may l s = record { label = bytes l; kind = record { shape = s; blank = true } }

-- ---- fields of several layouts

abbrev pub identifier : MessageType → Field
identifier t = must "Identificatore messaggio" (IsId t)

abbrev pub unit : Field
unit = must "Nome UPA/UCA" IsUnit

abbrev pub start : Field
start = must "Data Ora Inizio" IsWhen

abbrev pub end : Field
end = must "Data Ora Fine" IsWhen

abbrev pub reason : Field
reason = may "Motivazione" IsReason

abbrev pub note : Field
note = may "Note" IsNote

abbrev pub created : Field
created = must "Data Creazione Msg" IsWhen

abbrev pub yes_no : String → Field
yes_no l = must l (IsWord w_si w_no)

-- ---- the layouts

-- 2.3.1, fields 1 to 12 of the market layout: the command
unfoldable pub command : List Field
command =
    identifier Cb
    ∷ unit
    ∷ must "Data Ora Inizio Comando" IsWhen
    ∷ must "Data Ora Fine Comando" IsWhen
    ∷ must "Variazione potenza Prog Vinc (TINI)" IsAmount
    ∷ must "Variazione potenza Prog Vinc (TFIN)" IsAmount
    ∷ must "Stato Gradiente Comando" (IsWord w_normale w_normale)
    ∷ must "Stato Continuazione Comando" (IsWord w_stai w_mantieni_differenza)
    ∷ must "Richiesta SuperMassimo" (IsWord w_no w_no)
    ∷ must "PV(Data ora Inizio Comando)" IsAmount
    ∷ must "PV(Data ora Fine Comando)" IsAmount
    ∷ yes_no "Ordine di Raccordo"
    ∷ []

-- 2.3.1, fields 13 to 26: times, technical data, profile and gradients
unfoldable pub technical : List Field
technical =
    may "Tempo di avviamento" IsAmount
    ∷ may "Tempo di rampa" IsAmount
    ∷ yes_no "PV finale(TINI)"
    ∷ yes_no "PV finale(TFIN)"
    ∷ must "Data Ora Riferimento Dati (Trif)" IsWhen
    ∷ must "Origine Dati Tecnici a Trif" (IsWord w_gaudi w_scweb)
    ∷ may "Data Ora Aggiornamento Dati a Trif" IsWhen
    ∷ may "Profilo normalizzato di rampa h1" IsProfile
    ∷ may "Profilo normalizzato di rampa h2" IsProfile
    ∷ may "Profilo normalizzato di rampa h3" IsProfile
    ∷ may "Profilo normalizzato di rampa h4" IsProfile
    ∷ may "Profilo normalizzato di rampa h5" IsProfile
    ∷ may "Profilo normalizzato di rampa h6" IsProfile
    ∷ must "Gradienti (Pmin,Pmax,Grad)" IsTriples
    ∷ []

unfoldable pub market : List Field
market = command ++ technical

-- 2.3.2
unfoldable pub mfrr : List Field
mfrr =
    identifier Cb
    ∷ unit
    ∷ must "Data Ora Inizio Rampa1 TINI1" IsWhen
    ∷ must "Data Ora Fine Rampa1 TFIN1" IsWhen
    ∷ must "Data Ora Inizio Rampa2 TINI2" IsWhen
    ∷ must "Data Ora Fine Rampa2 TFIN2" IsWhen
    ∷ must "Variazione potenza al TFIN1" IsAmount
    ∷ must "Tipo Comando" (IsWord w_sa w_da)
    ∷ must "Prifbil (TINI1)" IsAmount
    ∷ must "Prifbil (TFIN1)" IsAmount
    ∷ must "Prifbil (TINI2)" IsAmount
    ∷ must "Prifbil (TFIN2)" IsAmount
    ∷ []

-- 2.4
unfoldable pub rc : List Field
rc =
    identifier Rc
    ∷ unit
    ∷ must "Data Ora Inizio Revoca Comando" IsWhen
    ∷ must "Data Ora Fine Revoca Comando" IsWhen
    ∷ must "Sequenza Comando" IsCount
    ∷ []

-- 2.5
unfoldable pub mg : List Field
mg = identifier Mg ∷ unit ∷ start ∷ end ∷ reason ∷ note ∷ created ∷ []

-- 2.6
unfoldable pub eb : List Field
eb = identifier Eb ∷ unit ∷ start ∷ end ∷ reason ∷ note ∷ yes_no "Riammissione" ∷ created ∷ []

-- 2.7
unfoldable pub lb : List Field
lb =
    identifier Lb
    ∷ unit
    ∷ start
    ∷ end
    ∷ may "Limite Potenza massima" IsAmount
    ∷ may "Limite Potenza Minima" IsAmount
    ∷ reason
    ∷ note
    ∷ yes_no "Reintegro"
    ∷ created
    ∷ []

-- 2.8
unfoldable pub sr : List Field
sr =
    identifier Sr
    ∷ unit
    ∷ start
    ∷ end
    ∷ must "Tipo Operazione" (IsWord w_sospensione w_programma)
    ∷ may "Semibande" IsBands
    ∷ reason
    ∷ note
    ∷ created
    ∷ []

-- 2.9
unfoldable pub vq : List Field
vq =
    identifier Vq
    ∷ unit
    ∷ start
    ∷ may "Data Ora Fine" IsWhen
    ∷ may "Stato Sart/Report" (IsWord w_i w_e)
    ∷ must "Modalita funzionamento" (IsWord w_rrt w_man)
    ∷ may "Regolazione" (IsWord w_profilo_memorizzato w_potenza_reattiva)
    ∷ may "Impostazione Sart/Report" IsVoltage
    ∷ may "Impostazione RAT" IsRegulator
    ∷ may "Variazione" IsChange
    ∷ may "Potenza reattiva" IsReactive
    ∷ note
    ∷ created
    ∷ []

-- 2.10
unfoldable pub ri : List Field
ri = identifier Ri ∷ unit ∷ start ∷ end ∷ reason ∷ note ∷ []

-- 2.11
unfoldable pub qr : List Field
qr =
    identifier Qr
    ∷ unit
    ∷ start
    ∷ end
    ∷ must "Tipo Riserva" (IsWord w_riserva_a_scendere w_riserva_a_salire)
    ∷ may "Quantita Riservata (MW)" IsAmount
    ∷ may "Quantita Riservata" (IsWord w_fino_a_pmin w_fino_a_pmax)
    ∷ note
    ∷ created
    ∷ []
