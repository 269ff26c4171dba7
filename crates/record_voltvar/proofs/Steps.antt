-- Steps that the code of the table takes: a setting's form, a row by its number, the loop over the rows. Assumes nothing.
use Prim.Native.Nat.{ℕ, ◌+◌, ◌≤◌, ◌<◌}
use Rattle.value_ask.specs.Values.{is_filled, word_number}
use Rattle.text.proofs.Tables.{Missed, above}
use Rattle.text.specs.Bytes.{any}
use Rattle.value.specs.declared.Value.{Value}
use Rattle.record_voltvar.specs.Table.{table, line, form_of}
use borrow.Author.Tests.{not-true, not-false, eq-eqb, ne_eqb}
use lib.ListN.{length, get_or, drop, drop_of_length-le}
use lib.Seq.{drop-cons}
use mathlib.Core.Bool.{Bool, true, false, not}
use mathlib.Core.List.{List}
use mathlib.Core.Path.{◌≡◌, sym, ap, ◌∙◌}
use native.Mathlib.Numerals.{add-one}
use native.Mathlib.Omega.{arith}

-- ---- a setting's form

module _ (v : Value) (f : Bool) (ef : f ≡ is_filled v) where
  pub form_blank : not f ≡ true → 0 ≡ form_of v
  unfolding form_of
  form_blank h = rw (sym ef ∙ not-true f h)

  pub form_number : (w : ℕ) → w ≡ word_number v → not f ≡ false → w ≡ 0 → 1 ≡ form_of v
  unfolding form_of
  form_number w ew h z = rw (sym ef ∙ not-false f h, sym ew, eq-eqb w 0 z)

  pub form_word : (w : ℕ) → w ≡ word_number v → not f ≡ false → (w ≡ 0 → ⊥) → 2 ≡ form_of v
  unfolding form_of
  form_word w ew h z = rw (sym ef ∙ not-false f h, sym ew, ne_eqb w 0 z)

-- ---- the table

-- a row by its number
pub row_at : {k n : ℕ} → k ≡ n → get_or table n (line 0 0 0 0 0 0 0) ≡ get_or table k (line 0 0 0 0 0 0 0)
row_at e = ap (λ (i : ℕ). get_or table i (line 0 0 0 0 0 0 0)) (sym e)

-- the last of the eleven, past the arms of the others
pub row_last : (k : ℕ) → Missed 0 10 k → k < 11 → get_or table 10 (line 0 0 0 0 0 0 0) ≡ get_or table k (line 0 0 0 0 0 0 0)
row_last k m h = let e : k ≡ 10 = omega (arith, above 0 10 k m (omega arith)) in row_at e

module _ {A : Type 0} (p : A → Bool) (d : A) (s : List A) (i : ℕ) (h : i < length s) where
  pub any_here : p (get_or s i d) ≡ true → any p (drop i s) ≡ true
  unfolding any
  any_here e = rw (drop-cons s i d, e)

  pub any_on : p (get_or s i d) ≡ false → any p (drop i s) ≡ any p (drop (i + 1) s)
  unfolding any
  any_on e = rw (add-one, drop-cons s i d, e)

pub any_end : {A : Type 0} (p : A → Bool) (s : List A) (i : ℕ) → length s ≤ i → any p (drop i s) ≡ false
unfolding any
any_end p s i h = rw (drop_of_length-le s h)
