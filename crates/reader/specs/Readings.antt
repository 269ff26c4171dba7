-- What is read of a message with its texts left in the file: its record's layout, values and triples, and where its row and the value of each field stand.
-- Document 02, A3: "keep, for each label, only where its value begins and ends; read the value from the file itself when it is needed".
use Rattle.std.specs.Prelude.{ℕ, eqb, replicate, cond, List}
use Rattle.layout.specs.declared.Layout.{Layout}
use Rattle.layout.specs.declared.Layout.TheVariants.{Market}
use Rattle.reader.specs.Messages.{places_of}
use Rattle.reader.specs.Reader.{read_of}
use Rattle.reader.specs.Refusals.{Answer}
use Rattle.record.specs.Records.{cell}
use Rattle.record.specs.declared.Cell.{Cell}
use Rattle.text_lines.specs.Places.{no_span}
use Rattle.text_lines.specs.Spots.{row_place}
use Rattle.text_lines.specs.declared.Span.{Span}
use Rattle.value.specs.declared.Value.TheVariants.{Blank}
use Rattle.value_list.specs.Forms.{no_triple}
use Rattle.value_list.specs.declared.Triple.{Triple}

-- what is said of a file: a refusal's number and detail, or the number 0 with the layout, the cells and triples of its record, and the places of its row and of
-- its fields
pub record ReadingSaid : Type 0 where
  pub number : ℕ
  pub detail : ℕ
  pub layout : Layout
  pub row : Span
  pub cells : List Cell
  pub gradients : List Triple
  pub places : List Span

-- of a refusal, its number and detail and nothing of the file
abbrev pub unread : ℕ → ℕ → ReadingSaid
unread n d =
    record {
      number = n;
      detail = d;
      layout = Market;
      row = no_span;
      cells = replicate 26 (cell Blank);
      gradients = replicate 16 no_triple;
      places = replicate 27 no_span;
    }

-- of a file that the reader answered so
unfoldable pub reading_in : Answer → List ℕ → ReadingSaid
reading_in a file =
    cond (eqb a.number 0)
    (record {
      number = 0;
      detail = 0;
      layout = a.content.layout;
      row = row_place file;
      cells = a.content.cells;
      gradients = a.content.gradients;
      places = places_of a.content.layout file;
    })
    (unread a.number a.detail)

-- THE DEFINITION
unfoldable pub reading_of : ℕ → ℕ → List ℕ → List ℕ → ReadingSaid
reading_of ca ioa plan file = reading_in (read_of ca ioa plan file) file
