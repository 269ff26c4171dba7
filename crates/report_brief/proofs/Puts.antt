-- A line is put as its key, its value and its end, and the lines are put one after another. Assumes nothing.
use Prim.Native.Nat.{ℕ, ◌+◌}
use Rattle.layout.specs.Layouts.{type_of}
use Rattle.text.specs.Puts.{Puts}
use Rattle.value_name.specs.Types.{code_of}
use Rattle.value_name.specs.declared.MessageType.{MessageType}
use Rattle.value_ask.specs.Values.{is_filled, instant_in}
use Rattle.report_brief.proofs.Fields.{filled_is, blank_is}
use Rattle.report_brief.proofs.Sizes.{head_text}
use Rattle.report_brief.specs.Brief.{instant_text, six_of}
use Rattle.report_brief.specs.declared.Brief.{Brief}
use Rattle.text.proofs.Runs.{puts, puts_none, then, same_puts}
use Rattle.text.specs.Bytes.{bytes}
use Rattle.text_keyline.specs.Keylines.{line_text}
use Rattle.text.specs.Digits.{whole_text}
use Rattle.value.specs.declared.Value.{Value}
use lib.ListN.{take}
use mathlib.Core.Bool.{true, false}
use lib.Seq.{sets}
use mathlib.Core.List.{List, [], ◌∷◌, ◌++◌, append_assoc}
use mathlib.Core.Path.{◌≡◌, refl, sym}

-- what was put, in another writing
pub same_text : (t u l : List ℕ) (at r : ℕ) (m : List ℕ) → t ≡ u → Puts l at t r m → Puts l at u r m
same_text t u l at r m e p = same_puts u e (puts {t = t} p)

-- two texts, one after the other
pub two_put : (t u l : List ℕ) (at a : ℕ) (l₁ : List ℕ) (b : ℕ) (l₂ : List ℕ) → Puts l at t a l₁ → Puts l₁ a u b l₂ → Puts l at (t ++ u) b l₂
two_put t u l at a l₁ b l₂ p q = same_puts (t ++ u) refl (then (puts {t = t} p) (puts {t = u} q))

-- a line that ends where the next begins, in one text
module _ (e r t : List ℕ) where
  head_is : (code n whole : List ℕ) → ((((r ++ t) ++ code) ++ (e ++ n)) ++ whole) ++ e ≡ (r ++ ((t ++ code) ++ e)) ++ ((n ++ whole) ++ e)
  head_is code n whole = simp append_assoc

  six_is : (s st n en : List ℕ) → (((((r ++ t) ++ s) ++ st) ++ (e ++ n)) ++ en) ++ e ≡ ((r ++ t) ++ ((s ++ st) ++ e)) ++ ((n ++ en) ++ e)
  six_is s st n en = simp append_assoc

-- the first three lines: what stands between two values is one text
module _ (l : List ℕ) (at a : ℕ) (l₁ : List ℕ) (b : ℕ) (l₂ : List ℕ) (c : ℕ) (l₃ : List ℕ) (d : ℕ) (l₄ : List ℕ) (r : ℕ) (m : List ℕ) where
  pub head_put : (t : MessageType) (n : ℕ) (code : List ℕ) → code ≡ code_of t
      → Puts l at (bytes "result=0" ++ 10 ∷ bytes "type=") a l₁ → Puts l₁ a code b l₂ → Puts l₂ b (10 ∷ bytes "number=") c l₃
      → Puts l₃ c (whole_text 9 n) d l₄ → (r ≡ d + 1) × (m ≡ sets l₄ d (10 ∷ [])) → Puts l at (head_text t n) r m
  head_put t n code e p q s u w =
      let top = bytes "result=0" ++ 10 ∷ bytes "type=" in
      let key : List ℕ = 10 ∷ bytes "number=" in
      let whole = whole_text 9 n in
      let first = two_put top code l at a l₁ b l₂ p q in
      let second = two_put (top ++ code) key l at b l₂ c l₃ first s in
      let third = two_put (top ++ code ++ key) whole l at c l₃ d l₄ second u in
      let text = head_is (10 ∷ []) (line_text (bytes "result=") (bytes "0")) (bytes "type=") code (bytes "number=") whole in
      same_text (top ++ code ++ key ++ whole ++ 10 ∷ []) (head_text t n) l at r m (rw (sym e) text)
      (two_put (top ++ code ++ key ++ whole) (10 ∷ []) l at d l₄ r m third w)

-- all six
module _ (b : Brief) (l : List ℕ) (at a : ℕ) (l₁ : List ℕ) (c : ℕ) (l₂ : List ℕ) (d : ℕ) (l₃ : List ℕ) where
  module _ (e : ℕ) (l₄ : List ℕ) (f : ℕ) (l₅ : List ℕ) (g : ℕ) (l₆ : List ℕ) (r : ℕ) (m : List ℕ) where
    pub six_put : (t : MessageType) (u : List ℕ) → t ≡ type_of b.layout → u ≡ take b.size b.unit
        → Puts l at (head_text t b.number) a l₁ → Puts l₁ a (line_text (bytes "unit=") u) c l₂
        → Puts l₂ c (bytes "start=") d l₃ → Puts l₃ d (instant_text b.start) e l₄
        → Puts l₄ e (10 ∷ bytes "end=") f l₅ → Puts l₅ f (instant_text b.end) g l₆
        → (r ≡ g + 1) × (m ≡ sets l₆ g (10 ∷ [])) → Puts l at (six_of b) r m
    unfolding six_of
    six_put t u i j p q s v w x y =
        let head = head_text t b.number in
        let unit = line_text (bytes "unit=") u in
        let start = instant_text b.start in
        let end = instant_text b.end in
        let key : List ℕ = 10 ∷ bytes "end=" in
        let four = two_put head unit l at a l₁ c l₂ p q in
        let five = two_put (head ++ unit) (bytes "start=") l at c l₂ d l₃ four s in
        let six = two_put (head ++ unit ++ bytes "start=") start l at d l₃ e l₄ five v in
        let seven = two_put (head ++ unit ++ bytes "start=" ++ start) key l at e l₄ f l₅ six w in
        let eight = two_put (head ++ unit ++ bytes "start=" ++ start ++ key) end l at f l₅ g l₆ seven x in
        let text = six_is (10 ∷ []) head unit (bytes "start=") start (bytes "end=") end in
        same_text (head ++ unit ++ bytes "start=" ++ start ++ key ++ end ++ 10 ∷ []) (six_of b) l at r m (rw (sym i, sym j) text)
        (two_put (head ++ unit ++ bytes "start=" ++ start ++ key ++ end) (10 ∷ []) l at g l₆ r m eight y)

-- an instant, and nothing for a blank
pub instant_put : (v : Value) (n : ℕ) (l : List ℕ) (at r : ℕ) (m : List ℕ) → is_filled v ≡ true → n ≡ instant_in v
    → Puts l at (whole_text 9 n) r m → Puts l at (instant_text v) r m
instant_put v n l at r m e f p = same_text (whole_text 9 n) (instant_text v) l at r m (filled_is v n e f) p

pub blank_put : (v : Value) (l : List ℕ) (at : ℕ) → is_filled v ≡ false → Puts l at (instant_text v) at l
blank_put v l at e = same_puts (instant_text v) (blank_is v e) (puts_none l at)
