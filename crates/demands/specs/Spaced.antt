-- Files that differ in blanks. Document 01, "Lines of a message": label and value are trimmed; "Rules across fields": parts of a list are trimmed.
use Rattle.std.specs.Prelude.{ℕ, List, [], ◌∷◌, map, ◌≡◌, Some}
use Rattle.layout.specs.Layouts.{kind_at}
use Rattle.layout.specs.declared.Layout.{Layout}
use Rattle.text.specs.Bytes.{trim}
use Rattle.text_lines.specs.Entries.{Entry}
use Rattle.text_lines.specs.Lines.{Param, param_of}
use Rattle.value.specs.declared.Shape.{Shape}
use Rattle.value.specs.declared.Shape.TheVariants.{IsProfile, IsBands, IsTriples}
use Rattle.value_list.specs.Lists.{cut_at}

-- one by one
pub data Pairwise {A : Type 0} (R : A → A → Type 0) : List A → List A → Type 0 where
  none : Pairwise R [] []
  next : {x y : A} {xs ys : List A} → R x y → Pairwise R xs ys → Pairwise R (x ∷ xs) (y ∷ ys)

-- ---- blanks about `=`

-- the same line, or a parameter line with the same label and value
pub data SpacedLine : List ℕ → List ℕ → Type 0 where
  same_line : (s : List ℕ) → SpacedLine s s
  same_param : {s t : List ℕ} (p : Param) → param_of s ≡ Some p → param_of t ≡ Some p → SpacedLine s t

-- ---- blanks inside a list

-- its parts, trimmed
abbrev pub parts : ℕ → List ℕ → List (List ℕ)
parts sep s = map trim (cut_at sep s)

-- of gradients: triples between `;` (59), each of numbers between `,` (44)
abbrev pub triples : List ℕ → List (List (List ℕ))
triples s = map (parts 44) (parts 59 s)

-- the same text, or one of a list with the same parts: a profile line, half-bands, gradients
pub data SpacedList : Shape → List ℕ → List ℕ → Type 0 where
  same_text : {a : Shape} (s : List ℕ) → SpacedList a s s
  profile : {s t : List ℕ} → parts 59 s ≡ parts 59 t → SpacedList IsProfile s t
  bands : {s t : List ℕ} → parts 59 s ≡ parts 59 t → SpacedList IsBands s t
  gradients : {s t : List ℕ} → triples s ≡ triples t → SpacedList IsTriples s t

-- the same field of a layout, with such a value
pub record SpacedEntry (l : Layout) (a b : Entry) : Type 0 where
  pub same_field : a.at ≡ b.at
  pub spaced_value : SpacedList (kind_at l a.at).shape a.value b.value
