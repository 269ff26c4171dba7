-- Trimming: its steps from both ends, and what it leaves as it is.
-- Assumes nothing.
use Prim.Native.Nat.{ℕ, ◌-◌, ◌≤◌}
use Rattle.std.specs.List.{prefix_len, take_while}
use Rattle.std.proofs.lemmas.Grind.{reverse_onto}
use Rattle.std.proofs.lemmas.List.{reverse-reverse, length-reverse}
use Rattle.text.proofs.Cuts.{tail, front_count, skip_drop, same_refl, same_true}
use Rattle.text.proofs.Tests.{by_test, and_parts, or_parts}
use Rattle.text.specs.Bytes.{any, all, skip, keep, skip_end, is_blank, is_plain, trim, same, tidy}
use lib.ListN.{length, take, drop, length-append, length-take}
use mathlib.Core.Bool.{Bool, true, false}
use mathlib.Core.List.{List, [], ◌∷◌, ◌++◌, reverse}
use mathlib.Core.Path.{◌≡◌, refl, sym, ap, ◌∙◌}
use native.Mathlib.Omega.{arith}

module _ {A : Type 0} (p : A → Bool) where
  -- ---- skipping from the front

  pub skip_yes : (x : A) (xs : List A) → p x ≡ true → skip p (x ∷ xs) ≡ skip p xs
  unfolding skip
  skip_yes x xs h = rw h

  pub skip_no : (x : A) (xs : List A) → p x ≡ false → skip p (x ∷ xs) ≡ x ∷ xs
  unfolding skip
  skip_no x xs h = rw h

  pub skip_stop : (a : List A) (c : A) (v : List A) → p c ≡ false → skip p (a ++ c ∷ v) ≡ skip p a ++ c ∷ v
  unfolding skip
  skip_stop [] c v h = rw h
  skip_stop (x ∷ a) c v h = by_test (p x) (λ e. rw e (skip_stop a c v h)) (λ e. rw e)

  pub skip_twice : (a : List A) → skip p (skip p a) ≡ skip p a
  unfolding skip
  skip_twice [] = refl
  skip_twice (x ∷ a) = by_test (p x) (λ e. rw e (skip_twice a)) (λ e. rw e (skip_no x a e))

  -- ---- and from the end

  pub keep_no : (x : A) (xs : List A) → p x ≡ false → keep p x xs ≡ x ∷ xs
  keep_no x [] h = rw h
  keep_no x (y ∷ ys) h = refl

  keep_seam : (x : A) (a : List A) (c : A) (v : List A) → keep p x (a ++ c ∷ v) ≡ x ∷ (a ++ c ∷ v)
  keep_seam x [] c v = refl
  keep_seam x (y ∷ a) c v = refl

  pub end_stop : (a : List A) (c : A) (v : List A) → p c ≡ false → skip_end p (a ++ c ∷ v) ≡ a ++ c ∷ skip_end p v
  unfolding skip_end
  end_stop [] c v h = keep_no c (skip_end p v) h
  end_stop (x ∷ a) c v h = rw (end_stop a c v h) (keep_seam x a c (skip_end p v))

  keep_end : (x : A) (xs : List A) → skip_end p xs ≡ xs → skip_end p (keep p x xs) ≡ keep p x xs
  unfolding skip_end
  keep_end x [] e = by_test (p x) (λ h. rw h) (λ h. rw h (rw h))
  keep_end x (y ∷ ys) e = ap (keep p x) e

  pub end_twice : (a : List A) → skip_end p (skip_end p a) ≡ skip_end p a
  unfolding skip_end
  end_twice [] = refl
  end_twice (x ∷ a) = keep_end x (skip_end p a) (end_twice a)

  keep_skip : (x : A) (xs : List A) → p x ≡ true → skip p (keep p x xs) ≡ skip p xs
  unfolding skip
  keep_skip x [] h = rw h
  keep_skip x (y ∷ ys) h = rw h

  pub skip_end_lem : (a : List A) → skip p (skip_end p a) ≡ skip_end p (skip p a)
  unfolding skip skip_end
  skip_end_lem [] = refl
  skip_end_lem (x ∷ a) =
      by_test (p x) (λ e. keep_skip x (skip_end p a) e ∙ skip_end_lem a ∙ sym (ap (skip_end p) (skip_yes x a e)))
      (λ e. rw (e, keep_no x (skip_end p a) e) (rw e))

  end_last : (a : List A) (c : A) → p c ≡ true → skip_end p (a ++ c ∷ []) ≡ skip_end p a
  unfolding skip_end
  end_last [] c h = rw h
  end_last (x ∷ a) c h = ap (keep p x) (end_last a c h)

  end_back : (r : List A) → length (skip_end p (reverse r)) ≡ length r - prefix_len p r
  unfolding skip_end
  end_back [] = refl
  end_back (x ∷ r) =
      by_test (p x)
      (λ e. rw (reverse_onto r x [], e) (omega (arith, ap length (end_last (reverse r) x e), end_back r)))
      (λ e. rw (reverse_onto r x [], e, end_stop (reverse r) x [] e) (omega (arith, length-append (reverse r) (x ∷ []), length-reverse r)))

  -- what is left, by how many p holds of at the end
  pub end_taken : (s : List A) → length s - length (take_while p (reverse s)) ≡ length (skip_end p s)
  end_taken s =
      let r = rw reverse-reverse at (end_back (reverse s)) in
      omega (arith, r, length-reverse s, length-take (prefix_len p (reverse s)) (reverse s))

  keep_take : (x : A) (t s : List A) → t ≡ take (length t) s → keep p x t ≡ take (length (keep p x t)) (x ∷ s)
  keep_take x [] s h = by_test (p x) (λ e. rw e) (λ e. rw e)
  keep_take x (y ∷ ys) s h = ap (λ (l : List A). x ∷ l) h

  pub end_take : (s : List A) → skip_end p s ≡ take (length (skip_end p s)) s
  unfolding skip_end
  end_take [] = refl
  end_take (x ∷ s) = keep_take x (skip_end p s) s (end_take s)

  pub end_length : (s : List A) → length (skip_end p s) ≤ length s
  end_length s = omega (arith, ap length (end_take s), length-take (length (skip_end p s)) s)

  -- where p holds of none, both leave the list
  pub skip_all : (a : List A) → any p a ≡ false → skip p a ≡ a
  unfolding any skip
  skip_all [] n = refl
  skip_all (x ∷ a) n = rw (or_parts (p x) (any p a) n).0

  pub end_all : (a : List A) → any p a ≡ false → skip_end p a ≡ a
  unfolding any skip_end
  end_all [] n = refl
  end_all (x ∷ a) n =
      let o = or_parts (p x) (any p a) n in
      rw (end_all a o.1) (keep_no x a o.0)

-- ---- both ends

-- a prefix of t, what is left of it without the blanks at its end
pub end_count : (t : List ℕ) (e : ℕ) → e ≡ length (skip_end is_blank t) → e ≡ length (take e t)
end_count t e h = front_count t e (omega (arith, end_length is_blank t))

pub trim_law : (s t : List ℕ) (a e : ℕ) → t ≡ take (length s - a) (drop a s) → a ≡ length s - length (skip is_blank s)
    → e ≡ length (skip_end is_blank t) → take e t ≡ trim s
unfolding trim
trim_law s t a e ht ha he =
    let h : t ≡ skip is_blank s = ht ∙ tail s a ∙ ap (λ (n : ℕ). drop n s) ha ∙ sym (skip_drop is_blank s) in
    ap (λ (n : ℕ). take n t) he ∙ sym (end_take is_blank t) ∙ ap (skip_end is_blank) h

-- a text without blanks is its own trim
pub trim_none : (s : List ℕ) → any is_blank s ≡ false → trim s ≡ s
unfolding trim
trim_none s n = ap (skip_end is_blank) (skip_all is_blank s n) ∙ end_all is_blank s n

-- ---- tidy texts

pub tidy_none : (s : List ℕ) → all is_plain s ≡ true → any is_blank s ≡ false → tidy s ≡ true
unfolding tidy
tidy_none s h n = rw (h, trim_none s n) (same_refl s)

pub tidy_empty : tidy [] ≡ true
unfolding tidy all same trim skip skip_end
tidy_empty = refl

pub tidy_parts : (s : List ℕ) → tidy s ≡ true → (all is_plain s ≡ true) × (trim s ≡ s)
unfolding tidy
tidy_parts s e =
    let p = and_parts (all is_plain s) (same (trim s) s) e in
    (p.0, same_true (trim s) s p.1)
