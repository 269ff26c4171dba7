-- A list whose numbers stand in their shortest form and without blanks is read from its own text: once for any separator that no number goes
-- past, for numbers and for triples of them. Assumes nothing.
use Rattle.std.specs.Prelude.{None, Option, Some}
use Prim.Native.Nat.{ℕ, ◌-◌, ◌≤◌}
use Rattle.value_list.proofs.Back.{list_counted}
use Rattle.value_list.proofs.Cuts.{cut_first}
use Rattle.value_list.proofs.RoundTrip.{number_read, room_list}
use Rattle.value_list.specs.Forms.{amount_of, numbers_of, list_of, listed, numbers_in, numbers_text, triple_of, one_of, one_in, triple_is, triple_in, no_triple}
use Rattle.value_list.specs.Forms.{gradients_of, gradients_read, gradients_in, triple_text, gradients_text}
use Rattle.value_list.specs.Lists.{on_first, cut_at, cons_read, every_of, some_of, run_text, list_text}
use Rattle.value_list.specs.declared.Gradients.{Gradients}
use Rattle.value_list.specs.declared.Numbers.{Numbers}
use Rattle.value_list.specs.declared.Triple.{Triple}
use Rattle.value_number.proofs.Own.{short_dark, short_cut, mark_ends, own_past}
use Rattle.value_number.specs.Number.{decimals_past, short_from, are_short, number_text}
use Rattle.text.proofs.Tests.{by_test}
use Rattle.text.proofs.Trims.{trim_none}
use Rattle.text.specs.Bytes.{trim, is_digit}
use borrow.Author.Tests.{eqb-true}
use lib.Dec.{eqb}
use lib.IntN.{ℤ}
use lib.ListN.{length, take, replicate}
use lib.Seq.{take-append_seam}
use mathlib.Core.Bool.{Bool, true, false}
use mathlib.Core.List.{List, [], ◌∷◌, ◌++◌, append-nil}
use mathlib.Core.Path.{◌≡◌, refl, sym, ap, ap₂, ◌∙◌}
use native.Mathlib.Omega.{arith}

-- ---- the parts of a text, with the separator between them, are the text

abbrev parts_text : ℕ → List (List ℕ) → List ℕ
parts_text sep ps = list_text (λ (p : List ℕ). p) sep ps

module _ (sep : ℕ) where
  parts_run : (s : List ℕ) → run_text (λ (p : List ℕ). p) sep (cut_at sep s) ≡ sep ∷ parts_text sep (cut_at sep s)
  unfolding run_text list_text
  parts_run s = rw (cut_first sep s).1

  parts_first : (b : ℕ) (s : List ℕ) → parts_text sep (on_first b (cut_at sep s)) ≡ b ∷ parts_text sep (cut_at sep s)
  unfolding list_text
  parts_first b s = rw (cut_first sep s).1

  parts_join : (s : List ℕ) → parts_text sep (cut_at sep s) ≡ s
  unfolding cut_at list_text run_text
  parts_join [] = refl
  parts_join (b ∷ s) =
      by_test (eqb b sep)
      (λ y. rw y (parts_run s ∙ ap₂ (λ (x : ℕ) (t : List ℕ). x ∷ t) (sym (eqb-true b sep y)) (parts_join s)))
      (λ n. rw n (parts_first b s ∙ ap (λ (t : List ℕ). b ∷ t) (parts_join s)))

-- ---- elements whose own text is read

module _ {A : Type 0} (read : List ℕ → Option A) (text : A → List ℕ) (sep : ℕ) (other : is_digit sep ≡ false) (no_point : eqb sep 46 ≡ false)
    (ends : (e : Bool) → decimals_past sep e ≡ false)
    (own : (p : ℕ) (s : List ℕ) (a : A) → is_digit p ≡ false → read s ≡ Some a → short_from p false s ≡ true → text a ≡ s) where
  part_own : (p : ℕ) (q : List ℕ) (a : A) → is_digit p ≡ false → short_from p false q ≡ true → read (trim q) ≡ Some a → text a ≡ q
  part_own p q a o h e = own p q a o (rw (trim_none q (short_dark p false q h)) at e) h

  -- of one part at least there is one element at least
  run_some : (q : List ℕ) (qs : List (List ℕ)) (l : List A) → every_of read (q ∷ qs) ≡ Some l → run_text text sep l ≡ sep ∷ list_text text sep l
  unfolding every_of cons_read run_text list_text
  run_some q qs l e = go (read (trim q)) (every_of read qs) e
    where
      go : (o : Option A) (r : Option (List A)) → cons_read o r ≡ Some l → run_text text sep l ≡ sep ∷ list_text text sep l
      go None r e = let z : ◌≡◌ {A = ℕ} 0 1 = cc in absurd (omega arith)
      go (Some a) None e = let z : ◌≡◌ {A = ℕ} 0 1 = cc in absurd (omega arith)
      go (Some a) (Some m) e = let n : l ≡ a ∷ m = cc in rw n

  parts_own : (p : ℕ) (q : List ℕ) (qs : List (List ℕ)) (l : List A) → is_digit p ≡ false → short_from p false (parts_text sep (q ∷ qs)) ≡ true
      → every_of read (q ∷ qs) ≡ Some l → list_text text sep l ≡ parts_text sep (q ∷ qs)
  unfolding every_of cons_read run_text list_text
  parts_own p q [] l o h e = go (read (trim q)) refl e
    where
      go : (x : Option A) → read (trim q) ≡ x → cons_read x (Some []) ≡ Some l → list_text text sep l ≡ q ++ []
      go None f e = let z : ◌≡◌ {A = ℕ} 0 1 = cc in absurd (omega arith)
      go (Some a) f e =
          let n : l ≡ a ∷ [] = cc in
          rw n (ap (λ (t : List ℕ). t ++ []) (part_own p q a o (rw (append-nil q) at h) f))
  parts_own p q (r ∷ rs) l o h e = go (read (trim q)) (every_of read (r ∷ rs)) refl refl (parts_own sep r rs) e
    where
      rest : List ℕ
      rest = parts_text sep (r ∷ rs)

      go : (x : Option A) (y : Option (List A)) → read (trim q) ≡ x → every_of read (r ∷ rs) ≡ y
          → ((m : List A) → is_digit sep ≡ false → short_from sep false rest ≡ true → every_of read (r ∷ rs) ≡ Some m → list_text text sep m ≡ rest)
          → cons_read x y ≡ Some l → list_text text sep l ≡ q ++ sep ∷ rest
      go None y f g on e = let z : ◌≡◌ {A = ℕ} 0 1 = cc in absurd (omega arith)
      go (Some a) None f g on e = let z : ◌≡◌ {A = ℕ} 0 1 = cc in absurd (omega arith)
      go (Some a) (Some m) f g on e =
          let n : l ≡ a ∷ m = cc in
          let c = short_cut sep other no_point rest p false q h in
          let next = on m other (rw (ends c.1.0) at c.1.1) g in
          rw n (ap₂ (λ (t u : List ℕ). t ++ u) (part_own p q a o c.0 f) (run_some r rs m g ∙ ap (λ (t : List ℕ). sep ∷ t) next))

  -- behind any byte that is no digit
  pub list_own : (p least most : ℕ) (s : List ℕ) (l : List A) → is_digit p ≡ false → short_from p false s ≡ true → some_of read sep least most s ≡ Some l
      → list_text text sep l ≡ s
  list_own p least most s l o h e =
      let first = cut_first sep s in
      let c = list_counted read sep least most s l e in
      let join = ap (parts_text sep) (sym first.1) ∙ parts_join sep s in
      parts_own p _ first.0 l o (rw (← join) at h) (ap (every_of read) (sym first.1) ∙ c.all_parts) ∙ join

-- ---- numbers, and triples of them

number_past : (p : ℕ) (s : List ℕ) (v : ℤ) → is_digit p ≡ false → amount_of s ≡ Some v → short_from p false s ≡ true → number_text v ≡ s
number_past p s v o e h = own_past p s v o (number_read s v e) h

pub numbers_own : (least most : ℕ) (s : List ℕ) (x : Numbers) → most ≤ 4 → numbers_in 59 least most s ≡ Some x → are_short s ≡ true → numbers_text 59 x ≡ s
unfolding numbers_in numbers_text are_short
numbers_own least most s x k e h = go (some_of amount_of 59 least most s) refl e
  where
    go : (o : Option (List ℤ)) → some_of amount_of 59 least most s ≡ o → listed o ≡ Some x → list_text number_text 59 (list_of x) ≡ s
    go None f e = let z : ◌≡◌ {A = ℕ} 0 1 = cc in absurd (omega arith)
    go (Some l) f e =
        let q : numbers_of l ≡ x = cc in
        let four = (list_counted amount_of 59 least most s l f).few in
        rw (← q) (ap (list_text number_text 59) (room_list l (omega arith))
        ∙ list_own amount_of number_text 59 refl refl (λ d. (mark_ends d).0) number_past 0 least most s l refl h f)

triple_past : (p : ℕ) (s : List ℕ) (t : Triple) → is_digit p ≡ false → triple_in s ≡ Some t → short_from p false s ≡ true → triple_text t ≡ s
unfolding one_in triple_text triple_of
triple_past p s t o e h = go (some_of amount_of 44 3 3 s) refl e
  where
    three : (l : List ℤ) → 3 ≤ length l → length l ≤ 3 → (triple_of l).low ∷ (triple_of l).high ∷ (triple_of l).gradient ∷ [] ≡ l
    three [] a b = absurd (omega arith)
    three (x ∷ []) a b = absurd (omega arith)
    three (x ∷ y ∷ []) a b = absurd (omega arith)
    three (x ∷ y ∷ z ∷ []) a b = refl
    three (x ∷ y ∷ z ∷ w ∷ l) a b = absurd (omega arith)

    go : (x : Option (List ℤ)) → some_of amount_of 44 3 3 s ≡ x → triple_is (one_of x) ≡ Some t
        → list_text number_text 44 (t.low ∷ t.high ∷ t.gradient ∷ []) ≡ s
    go None f e = let z : ◌≡◌ {A = ℕ} 0 1 = cc in absurd (omega arith)
    go (Some l) f e =
        let q : triple_of l ≡ t = cc in
        let c = list_counted amount_of 44 3 3 s l f in
        rw (← q) (ap (list_text number_text 44) (three l c.enough c.few)
        ∙ list_own amount_of number_text 44 refl refl (λ d. (mark_ends d).1) number_past p 3 3 s l o h f)

pub gradients_own : (s : List ℕ) (g : Gradients) → gradients_in s ≡ Some g → are_short s ≡ true → gradients_text g.values g.count ≡ s
unfolding gradients_in gradients_text gradients_of are_short
gradients_own s g e h = go (some_of triple_in 59 1 16 s) refl e
  where
    go : (o : Option (List Triple)) → some_of triple_in 59 1 16 s ≡ o → gradients_read o ≡ Some g
        → list_text triple_text 59 (take g.count g.values) ≡ s
    go None f e = let z : ◌≡◌ {A = ℕ} 0 1 = cc in absurd (omega arith)
    go (Some l) f e =
        let q : gradients_of l ≡ g = cc in
        rw (← q)
        (ap (list_text triple_text 59) (take-append_seam l (replicate (16 - length l) no_triple))
        ∙ list_own triple_in triple_text 59 refl refl (λ d. (mark_ends d).0) triple_past 0 1 16 s l refl h f)
