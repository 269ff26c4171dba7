-- The names of the words, as they are printed. Words.antt has the texts; that each name is its word's is proved (proofs/Named.antt).
use Rattle.std.specs.Prelude.{ℕ}

-- what no word is
abbrev pub no_word : ℕ
no_word = 0

-- gradient and continuation, of the market layout

abbrev pub w_normale : ℕ
w_normale = 1

abbrev pub w_stai : ℕ
w_stai = 2

abbrev pub w_mantieni_differenza : ℕ
w_mantieni_differenza = 3

-- yes and no, of CB, EB and LB

abbrev pub w_si : ℕ
w_si = 4

abbrev pub w_no : ℕ
w_no = 5

-- origin of the technical data, of the market layout

abbrev pub w_gaudi : ℕ
w_gaudi = 6

abbrev pub w_scweb : ℕ
w_scweb = 7

-- `Tipo Comando`, of mFRR

abbrev pub w_sa : ℕ
w_sa = 8

abbrev pub w_da : ℕ
w_da = 9

-- operation, of SR

abbrev pub w_sospensione : ℕ
w_sospensione = 10

abbrev pub w_inserimento : ℕ
w_inserimento = 11

abbrev pub w_programma : ℕ
w_programma = 12

-- state, of VQ

abbrev pub w_i : ℕ
w_i = 13

abbrev pub w_e : ℕ
w_e = 14

-- mode, of VQ

abbrev pub w_rrt : ℕ
w_rrt = 15

abbrev pub w_rts : ℕ
w_rts = 16

abbrev pub w_rat : ℕ
w_rat = 17

abbrev pub w_man : ℕ
w_man = 18

-- regulation, of VQ

abbrev pub w_profilo_memorizzato : ℕ
w_profilo_memorizzato = 19

abbrev pub w_vsrif : ℕ
w_vsrif = 20

abbrev pub w_tensione_mt : ℕ
w_tensione_mt = 21

abbrev pub w_potenza_reattiva : ℕ
w_potenza_reattiva = 22

-- voltage and regulator settings, of VQ

abbrev pub w_v_max : ℕ
w_v_max = 23

abbrev pub w_v_min : ℕ
w_v_min = 24

-- reactive power, of VQ

abbrev pub w_q_zero : ℕ
w_q_zero = 25

abbrev pub w_max_sovraeccitazione : ℕ
w_max_sovraeccitazione = 26

abbrev pub w_max_sottoeccitazione : ℕ
w_max_sottoeccitazione = 27

-- reserve, of QR

abbrev pub w_riserva_a_scendere : ℕ
w_riserva_a_scendere = 28

abbrev pub w_riserva_a_salire : ℕ
w_riserva_a_salire = 29

-- quantity, of QR

abbrev pub w_fino_a_pmin : ℕ
w_fino_a_pmin = 30

abbrev pub w_fino_a_pmax : ℕ
w_fino_a_pmax = 31
