-- Texts as lists of bytes: what a written text is, tests on bytes, cutting at the first byte of a kind, and trimming.
-- Document 01, "Lines of a message". These are definitions: what they say is to be believed.
use Prim.Native.Char.{code}
use Rattle.std.specs.Prelude.{ℕ, ◌-◌, eqb, leb, length, take, drop, Bool, true, false, ◌&&◌, ◌||◌, cond, List, [], ◌∷◌}
use Prim.Native.String.{String}

-- the bytes of a text that is written here between quotes
abbrev pub bytes : String → List ℕ
bytes String.[] = []
bytes (String.◌∷◌ c s) = code c ∷ bytes s

-- the elements from a up to, not including, e: a part `&s[a..e]`
abbrev pub part : {A : Type 0} → ℕ → ℕ → List A → List A
part a e s = take (e - a) (drop a s)

-- two texts are the same
unfoldable pub same : List ℕ → List ℕ → Bool
same [] [] = true
same [] (y ∷ ys) = false
same (x ∷ xs) [] = false
same (x ∷ xs) (y ∷ ys) = eqb x y && same xs ys

-- s begins with t
unfoldable pub starts : List ℕ → List ℕ → Bool
starts [] s = true
starts (x ∷ t) [] = false
starts (x ∷ t) (y ∷ s) = eqb x y && starts t s

module _ {A : Type 0} (p : A → Bool) where
  -- what stands before the first that p holds of: all where there is none
  unfoldable pub upto : List A → List A
  upto [] = []
  upto (x ∷ xs) = cond (p x) [] (x ∷ upto xs)

  -- what stands after the first that p holds of: nothing where there is none
  unfoldable pub past : List A → List A
  past [] = []
  past (x ∷ xs) = cond (p x) xs (past xs)

  -- p holds of one at least
  unfoldable pub any : List A → Bool
  any [] = false
  any (x ∷ xs) = p x || any xs

  -- p holds of all
  unfoldable pub all : List A → Bool
  all [] = true
  all (x ∷ xs) = p x && all xs

  -- the list from the first that p does not hold of
  unfoldable pub skip : List A → List A
  skip [] = []
  skip (x ∷ xs) = cond (p x) (skip xs) (x ∷ xs)

  -- x in front, unless nothing follows and p holds of x
  abbrev pub keep : A → List A → List A
  keep x [] = cond (p x) [] (x ∷ [])
  keep x (y ∷ ys) = x ∷ y ∷ ys

  -- the list up to the last that p does not hold of
  unfoldable pub skip_end : List A → List A
  skip_end [] = []
  skip_end (x ∷ xs) = keep x (skip_end xs)

-- ---- bytes of a kind

-- the byte b
abbrev pub is : ℕ → ℕ → Bool
is b x = eqb x b

-- from lo to hi
abbrev pub within : ℕ → ℕ → ℕ → Bool
within lo hi b = leb lo b && leb b hi

abbrev pub is_digit : ℕ → Bool
is_digit b = within 48 57 b

abbrev pub is_upper : ℕ → Bool
is_upper b = within 65 90 b

abbrev pub is_lower : ℕ → Bool
is_lower b = within 97 122 b

-- 20 to 7E hex
abbrev pub is_plain : ℕ → Bool
is_plain b = within 32 126 b

-- "Blank" means the space.
abbrev pub is_blank : ℕ → Bool
is_blank b = is 32 b

-- ---- what is made of them

-- how many bytes stand before the first b: all where there is none
abbrev pub first_of : ℕ → List ℕ → ℕ
first_of b s = length (upto (is b) s)

-- how many bytes from the start p holds of
abbrev pub run_of : (ℕ → Bool) → List ℕ → ℕ
run_of p s = length s - length (skip p s)

-- without the blanks at its two ends
unfoldable pub trim : List ℕ → List ℕ
trim s = skip_end is_blank (skip is_blank s)

-- a text that can stand as a value: its bytes can be printed, and it is trimmed
unfoldable pub tidy : List ℕ → Bool
tidy t = all is_plain t && same (trim t) t
