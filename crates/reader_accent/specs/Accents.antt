-- Which labels have an accented letter. Document 02, A1: the labels `Quantità` and `Modalità`, of the file's own type (Annex A.34, 2.9 and 2.11).
use Rattle.std.specs.Prelude.{ℕ, cond, List, [], ◌∷◌}
use Rattle.layout.specs.Layouts.{labels_of, layout_of}
use Rattle.text_lines.specs.Entries.{place_of}
use Rattle.text_lines.specs.Spellings.{Spelling, spelling, is_accented, respell}
use Rattle.value_name.specs.declared.MessageType.{MessageType}
use Rattle.value_name.specs.declared.MessageType.TheVariants.{Cb, Rc, Mg, Eb, Lb, Sr, Vq, Ri, Qr}

-- VQ has one, QR two, every other type none
unfoldable pub accents_of : MessageType → List Spelling
accents_of Cb = []
accents_of Rc = []
accents_of Mg = []
accents_of Eb = []
accents_of Lb = []
accents_of Sr = []
accents_of Vq = spelling "Modalita funzionamento" "Modalità funzionamento" ∷ []
accents_of Ri = []
accents_of Qr = spelling "Quantita Riservata (MW)" "Quantità Riservata (MW)" ∷ spelling "Quantita Riservata" "Quantità Riservata" ∷ []

-- the field of such a label: 0 of any other text
unfoldable pub accent_field : MessageType → List ℕ → ℕ
accent_field t x = cond (is_accented (accents_of t) x) (place_of (labels_of (layout_of t)) (respell (accents_of t) x)) 0
