-- Request A1 of document 02, "Accented labels and the short VMAX", sentence by sentence, over the definitions that the contracts name.
-- Bytes: 10 LF, 61 '=', 224 E0.
use Rattle.std.specs.Prelude.{ℕ, ◌+◌, ◌≤◌, ◌<◌, length, get_or, take, true, false, List, [], ◌∷◌, ◌++◌, ◌↔◌, ◌≡◌, None}
use Rattle.demands.specs.Demand2.{type_at, layout_at}
use Rattle.layout.specs.Rows.{row_of}
use Rattle.reader.specs.Messages.{given, row_in}
use Rattle.reader.specs.Reader.{Sound, body_column, read_of}
use Rattle.reader_accent.specs.Accents.{accents_of}
use Rattle.record.specs.declared.Record.{Record}
use Rattle.record_valid.specs.Valid.{Valid}
use Rattle.text.specs.Bytes.{all, any, bytes, first_of, is, is_blank, upto}
use Rattle.text_lines.specs.Lines.{allowed_upto}
use Rattle.text_lines.specs.Spellings.{begins_line, is_accented, respell, opens}
use Rattle.value.specs.Kinds.{shape_of}
use Rattle.value.specs.declared.Shape.{Shape}
use Rattle.value.specs.declared.Shape.TheVariants.{IsVoltage, IsRegulator, IsChange, IsReactive}
use Rattle.value_name.specs.declared.MessageType.{MessageType}
use Rattle.writer.specs.Writer.{normalise_of, normal_left}
use Rattle.writer_form.specs.Written.{file_of}

-- what is left of a file from a line on, with a label between blanks before its first '='
abbrev pub with_label : List ℕ → List ℕ → List ℕ → List ℕ → List ℕ
with_label a label b rest = a ++ (label ++ (b ++ 61 ∷ rest))

-- a kind of value that reads `VMAX` as `V MAX` and `VMIN` as `V MIN`; and one that reads neither
abbrev pub SameSetting : Shape → Type 0
SameSetting k = (shape_of k (bytes "VMAX") ≡ shape_of k (bytes "V MAX")) × (shape_of k (bytes "VMIN") ≡ shape_of k (bytes "V MIN"))

abbrev pub NoSetting : Shape → Type 0
NoSetting k = (shape_of k (bytes "VMAX") ≡ None) × (shape_of k (bytes "VMIN") ≡ None)

pub record Request1 : Type 0 where
  -- "Byte E0 is to be allowed as the accented letter of those labels only", and "E0 stays 3 except inside the trimmed part before its line's first `=`, where
  -- that part is such a label of the file's own type": where all bytes before it are allowed, E0 at the byte j of a line is allowed exactly where the line
  -- opens with such a label and j stands before the '='. (Refusal 3 tells how many bytes are allowed: reader/specs/Reader.antt `reading`)
  pub allowed_exactly : (t : MessageType) (before line : List ℕ) (j : ℕ) → begins_line before ≡ true → any (is 10) (take j line) ≡ false → j < length line
      → get_or line j 0 ≡ 224
      → length before + j ≤ allowed_upto (accents_of t) (before ++ line)
      → length before + j < allowed_upto (accents_of t) (before ++ line) ↔ (opens (accents_of t) (upto (is 10) line) ≡ true) × (j < first_of 61 (upto (is 10) line))
  -- "each label having two spellings": files with the same row and the same parameters, by the plain spelling of their labels, are answered alike
  pub spelt_alike : (ca ioa : ℕ) (plan f g : List ℕ) → Sound (type_at ca ioa plan) f → Sound (type_at ca ioa plan) g
      → row_in f ≡ row_in g
      → given (type_at ca ioa plan) f ≡ given (type_at ca ioa plan) g
      → read_of ca ioa plan f ≡ read_of ca ioa plan g
  -- and a file in which the letter of such a label is the other is answered alike, whatever the answer, a refusal's place too: the two are one byte each
  pub both_spellings : (ca ioa : ℕ) (plan before a x b rest : List ℕ) → begins_line before ≡ true → all is_blank a ≡ true → all is_blank b ≡ true
      → is_accented (accents_of (type_at ca ioa plan)) x ≡ true
      → row_in (before ++ with_label a x b rest) ≡ row_in (before ++ with_label a (respell (accents_of (type_at ca ioa plan)) x) b rest)
      → read_of ca ioa plan (before ++ with_label a x b rest) ≡ read_of ca ioa plan (before ++ with_label a (respell (accents_of (type_at ca ioa plan)) x) b rest)
  -- "both spellings of the settings mean the same", in the two settings and nowhere else
  pub settings_alike : SameSetting IsVoltage × SameSetting IsRegulator
  pub settings_alone : NoSetting IsChange × NoSetting IsReactive
  -- "The writer keeps its spelling.": every byte of what is written is allowed where no label has an accent; and what is answered alike is written alike
  pub written_plain : (r : Record) → Valid r → allowed_upto [] (file_of r) ≡ length (file_of r)
  pub written_alike : (ca ioa : ℕ) (plan f g out : List ℕ) → read_of ca ioa plan f ≡ read_of ca ioa plan g
      → (normalise_of (read_of ca ioa plan f) (length out) ≡ normalise_of (read_of ca ioa plan g) (length out))
      × (normal_left (read_of ca ioa plan f) out ≡ normal_left (read_of ca ioa plan g) out)
  -- "The row is still compared with the body as it came": with the body's own texts
  pub row_as_it_came : (ca ioa : ℕ) (plan file : List ℕ) → (read_of ca ioa plan file).number ≡ 0
      → row_in file ≡ row_of (layout_at ca ioa plan file) (body_column (type_at ca ioa plan) file)
