-- Labels that Annex A.34 prints with an accented letter have two spellings: with plain `a`, and with the one byte E0 hex (224). Document 02, A1: "Byte E0 is
-- to be allowed as the accented letter of those labels only, each label having two spellings". Here over any list of such labels. Bytes: 61 '='.
use Rattle.std.specs.Prelude.{ℕ, Bool, true, ◌&&◌, cond, List, [], ◌∷◌}
use Prim.Native.String.{String}
use Rattle.text.specs.Bytes.{any, bytes, first_of, is, same, trim, upto}

pub record Spelling : Type 0 where
  pub plain : List ℕ
  pub accented : List ℕ

abbrev pub spelling : String → String → Spelling
spelling p a = record { plain = bytes p; accented = bytes a }

-- a text is such a label, with its accent
unfoldable pub is_accented : List Spelling → List ℕ → Bool
is_accented sp t = any (λ (s : Spelling). same s.accented t) sp

-- a label by its plain spelling; any other text as it is
unfoldable pub respell : List Spelling → List ℕ → List ℕ
respell [] t = t
respell (s ∷ sp) t = cond (same s.accented t) s.plain (respell sp t)

-- a line whose trimmed part before its first '=' is such a label
unfoldable pub opens : List Spelling → List ℕ → Bool
opens sp l = any (is 61) l && is_accented sp (trim (upto (is 61) l))

-- how many bytes stand before that '=': 0 where the line does not open so
unfoldable pub label_room : List Spelling → List ℕ → ℕ
label_room sp l = cond (opens sp l) (first_of 61 l) 0

-- what stands before the first byte of a line: nothing, or bytes of which the last is LF (10)
abbrev pub begins_line : List ℕ → Bool
begins_line [] = true
begins_line (b ∷ []) = is 10 b
begins_line (b ∷ c ∷ s) = begins_line (c ∷ s)
