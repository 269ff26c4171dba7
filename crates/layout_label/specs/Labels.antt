-- A label as the written form pads it (document 01, "Written form": each label padded to 36 bytes), and as words of eight bytes.
use Rattle.std.specs.Prelude.{ℕ, ◌-◌, length, replicate, List, ◌++◌}
use Rattle.layout_label.specs.declared.Label.{Label}
use Rattle.text.specs.Bytes.{part}
use Rattle.text.specs.Words.{word_of, bytes_of}

unfoldable pub padded : List ℕ → List ℕ
padded t = t ++ replicate (36 - length t) 32

-- 36 bytes as words, of which the label is the first `size`
unfoldable pub words_of : ℕ → List ℕ → Label
words_of size text =
    record {
      size = size;
      first = word_of (part 0 8 text);
      second = word_of (part 8 16 text);
      third = word_of (part 16 24 text);
      fourth = word_of (part 24 32 text);
      last = word_of (part 32 36 text);
    }

unfoldable pub label_of : List ℕ → Label
label_of t = words_of (length t) (padded t)

-- the padded text that the words spell
unfoldable pub label_text : Label → List ℕ
label_text l = bytes_of 8 l.first ++ bytes_of 8 l.second ++ bytes_of 8 l.third ++ bytes_of 8 l.fourth ++ bytes_of 4 l.last
