-- Each name is that of its word. Assumes nothing.
use Prim.Native.Nat.{ℕ}
use Prim.Native.String.{String}
use Rattle.text.specs.Bytes.{bytes}
use Rattle.value_word.specs.Names.{w_normale, w_stai, w_mantieni_differenza, w_si, w_no, w_gaudi, w_scweb, w_sa, w_da, w_sospensione, w_inserimento, w_programma}
use Rattle.value_word.specs.Names.{w_i, w_e, w_rrt, w_rts, w_rat, w_man, w_profilo_memorizzato, w_vsrif, w_tensione_mt, w_potenza_reattiva}
use Rattle.value_word.specs.Names.{w_v_max, w_v_min, w_q_zero, w_max_sovraeccitazione, w_max_sottoeccitazione, w_riserva_a_scendere, w_riserva_a_salire, w_fino_a_pmin}
use Rattle.value_word.specs.Names.{w_fino_a_pmax}
use Rattle.value_word.specs.Words.{command_words, mode_words, setting_words, words, word}
use mathlib.Core.Path.{◌≡◌, refl}

abbrev Spells : ℕ → String → Type 0
Spells w t = word w ≡ bytes t

pub commands_named :
    Spells w_normale "NORMALE"
    × Spells w_stai "STAI"
    × Spells w_mantieni_differenza "MANTIENI DIFFERENZA"
    × Spells w_si "SI"
    × Spells w_no "NO"
    × Spells w_gaudi "GAUDI"
    × Spells w_scweb "SCWEB"
    × Spells w_sa "SA"
    × Spells w_da "DA"
    × Spells w_sospensione "SOSPENSIONE"
    × Spells w_inserimento "INSERIMENTO"
    × Spells w_programma "PROGRAMMA"
unfolding word words command_words mode_words setting_words
commands_named = (refl, refl, refl, refl, refl, refl, refl, refl, refl, refl, refl, refl)

pub modes_named :
    Spells w_i "I"
    × Spells w_e "E"
    × Spells w_rrt "RRT"
    × Spells w_rts "RTS"
    × Spells w_rat "RAT"
    × Spells w_man "MAN"
    × Spells w_profilo_memorizzato "PROFILO MEMORIZZATO"
    × Spells w_vsrif "VSRIF"
    × Spells w_tensione_mt "TENSIONE (MT)"
    × Spells w_potenza_reattiva "POTENZA REATTIVA"
unfolding word words command_words mode_words setting_words
modes_named = (refl, refl, refl, refl, refl, refl, refl, refl, refl, refl)

pub settings_named :
    Spells w_v_max "V MAX"
    × Spells w_v_min "V MIN"
    × Spells w_q_zero "Q=0"
    × Spells w_max_sovraeccitazione "MAX SOVRAECCITAZIONE"
    × Spells w_max_sottoeccitazione "MAX SOTTOECCITAZIONE"
    × Spells w_riserva_a_scendere "RISERVA A SCENDERE"
    × Spells w_riserva_a_salire "RISERVA A SALIRE"
    × Spells w_fino_a_pmin "FINO A PMIN"
    × Spells w_fino_a_pmax "FINO A PMAX"
unfolding word words command_words mode_words setting_words
settings_named = (refl, refl, refl, refl, refl, refl, refl, refl, refl)
