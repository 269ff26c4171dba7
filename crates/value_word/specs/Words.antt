-- The constants of the layouts. Document 01, "Values": constants as printed in the layout; `Tipo Comando` is `SA` or `DA`; `V MAX` and `V MIN`
-- with the space, which may be left out where they are read (document 02, A1). They are numbered from 1, once for all layouts, so that what one
-- field may hold is a run of them. 0 is no word.
use Rattle.std.specs.Prelude.{ℕ, zero, suc, ◌-◌, length, get_or, Bool, ◌||◌, cond, List, [], ◌∷◌, ◌++◌, None, Option, Some}
use Rattle.text.specs.Bytes.{bytes, part, same}
use Rattle.text.specs.Words.{word_of}
use Rattle.value_word.specs.Names.{w_v_max, w_v_min}
use Rattle.value_word.specs.declared.Spelling.{Spelling}

-- 1 to 12, of CB, EB, LB and SR: gradient, continuation, SI and NO, origin of data, kind of auction, operation
unfoldable pub command_words : List (List ℕ)
command_words =
    bytes "NORMALE"
    ∷ bytes "STAI"
    ∷ bytes "MANTIENI DIFFERENZA"
    ∷ bytes "SI"
    ∷ bytes "NO"
    ∷ bytes "GAUDI"
    ∷ bytes "SCWEB"
    ∷ bytes "SA"
    ∷ bytes "DA"
    ∷ bytes "SOSPENSIONE"
    ∷ bytes "INSERIMENTO"
    ∷ bytes "PROGRAMMA"
    ∷ []

-- 13 to 22, of VQ: state, mode, regulation
unfoldable pub mode_words : List (List ℕ)
mode_words =
    bytes "I"
    ∷ bytes "E"
    ∷ bytes "RRT"
    ∷ bytes "RTS"
    ∷ bytes "RAT"
    ∷ bytes "MAN"
    ∷ bytes "PROFILO MEMORIZZATO"
    ∷ bytes "VSRIF"
    ∷ bytes "TENSIONE (MT)"
    ∷ bytes "POTENZA REATTIVA"
    ∷ []

-- 23 to 31, of VQ settings and of QR: voltage, reactive power, reserve, quantity
unfoldable pub setting_words : List (List ℕ)
setting_words =
    bytes "V MAX"
    ∷ bytes "V MIN"
    ∷ bytes "Q=0"
    ∷ bytes "MAX SOVRAECCITAZIONE"
    ∷ bytes "MAX SOTTOECCITAZIONE"
    ∷ bytes "RISERVA A SCENDERE"
    ∷ bytes "RISERVA A SALIRE"
    ∷ bytes "FINO A PMIN"
    ∷ bytes "FINO A PMAX"
    ∷ []

unfoldable pub words : List (List ℕ)
words = [] ∷ (command_words ++ (mode_words ++ setting_words))

-- the text of the word w
unfoldable pub word : ℕ → List ℕ
word w = get_or words w []

-- ---- reading: the first of n words from w on that the text is

unfoldable pub word_from : ℕ → ℕ → List ℕ → Option ℕ
word_from zero w s = None
word_from (suc n) w s = cond (same (word w) s) (Some w) (word_from n (suc w) s)

-- one of the words from first to last
abbrev pub word_in : ℕ → ℕ → List ℕ → Option ℕ
word_in first last s = word_from (suc last - first) first s

-- ---- the settings V MAX and V MIN, with the space or, as Annex A.34's own table prints them, without it (document 02, A1)

unfoldable pub volt_in : List ℕ → Option ℕ
volt_in s = cond (same (bytes "VMAX") s) (Some w_v_max) (cond (same (bytes "VMIN") s) (Some w_v_min) (word_in w_v_max w_v_min s))

-- whether a text is one of the two without the space: it is read, and it is not what is written
unfoldable pub is_joined : List ℕ → Bool
is_joined s = same (bytes "VMAX") s || same (bytes "VMIN") s

-- ---- a word as numbers of eight bytes, past its end zero

-- the bytes of a room, of which the word is the first `size`
unfoldable pub room_spelling : ℕ → List ℕ → Spelling
room_spelling size text =
    record { size = size; first = word_of (part 0 8 text); second = word_of (part 8 16 text); last = word_of (part 16 20 text) }

unfoldable pub spelling_of : List ℕ → Spelling
spelling_of w = record { size = length w; first = word_of (part 0 8 w); second = word_of (part 8 16 w); last = word_of (part 16 24 w) }
