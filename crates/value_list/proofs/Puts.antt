-- Putting a list element by element, and how long its text is, for any element and any text of one.
-- Assumes nothing.
use Prim.Native.Nat.{ℕ, ◌+◌, ◌-◌, ◌*◌, ◌≤◌, ◌<◌}
use Rattle.text.specs.Puts.{Puts}
use Rattle.value_list.specs.Lists.{run_text, list_text}
use Rattle.text.proofs.Runs.{Run, puts_none, then, same_puts, sets_append}
use lib.ListN.{length, get_or, drop, length-append, drop_of_length-le}
use lib.Seq.{sets, length-sets, drop-cons}
use mathlib.Core.List.{List, [], ◌∷◌, ◌++◌}
use mathlib.Core.Path.{◌≡◌, refl, sym, ap, ◌∙◌}
use native.Mathlib.Nat.{mul-suc}
use native.Mathlib.Numerals.{add-one}
use native.Mathlib.Omega.{arith}

module _ {A : Type 0} (text : A → List ℕ) (sep : ℕ) where
  run_step : (l : List A) (i : ℕ) (z : A) → i < length l → run_text text sep (drop i l) ≡ (sep ∷ text (get_or l i z)) ++ run_text text sep (drop (i + 1) l)
  unfolding run_text
  run_step l i z h = rw (add-one i, drop-cons l i z h)

  run_end : (l : List A) (i : ℕ) → length l ≤ i → run_text text sep (drop i l) ≡ []
  unfolding run_text
  run_end l i h = rw (drop_of_length-le l h)

  list_step : (l : List A) (z : A) → 1 ≤ length l → list_text text sep l ≡ text (get_or l 0 z) ++ run_text text sep (drop 1 l)
  unfolding list_text
  list_step [] z h = absurd (omega arith)
  list_step (a ∷ l) z h = refl

  -- ---- the loop: what is put, with what is left put after it, is the whole

  -- the elements from i on are left, p is the place, now the buffer
  pub record Putting (l : List A) (first : List ℕ) (at i p : ℕ) (now : List ℕ) : Type 0 where
    pub place : p + length (run_text text sep (drop i l)) ≡ at + length (run_text text sep (drop 1 l))
    pub bytes : sets now p (run_text text sep (drop i l)) ≡ sets first at (run_text text sep (drop 1 l))

  pub begin_put : (l : List A) (first : List ℕ) (at : ℕ) → Putting l first at 1 at first
  begin_put l first at = record { place = refl; bytes = refl }

  -- the buffer keeps its length
  pub same_room : {l : List A} {first : List ℕ} {at i p : ℕ} {now : List ℕ} → Putting l first at i p now → length now ≡ length first
  same_room {l = l} {first = first} {at = at} {i = i} {p = p} {now = now} f =
      sym (length-sets now p (run_text text sep (drop i l))) ∙ ap length f.bytes ∙ length-sets first at (run_text text sep (drop 1 l))

  -- the separator and the next
  pub next_put : {l : List A} {first : List ℕ} {at i p : ℕ} {now : List ℕ} {q p₂ : ℕ} {now₁ now₂ : List ℕ} (z a : A) → Putting l first at i p now
      → a ≡ get_or l i z → i < length l
      → Run now p (sep ∷ []) q now₁ → Run now₁ q (text a) p₂ now₂ → Putting l first at (i + 1) p₂ now₂
  next_put {l = l} {i = i} {p = p} {now = now} {p₂ = p₂} {now₂ = now₂} z a f ea h e₁ e₂ =
      let r = run_text text sep (drop (i + 1) l) in
      let s : run_text text sep (drop i l) ≡ (sep ∷ text a) ++ r = rw ea (run_step l i z h) in
      let t : Run now p (sep ∷ text a) p₂ now₂ = then e₁ e₂ in
      let w : sets now₂ p₂ r ≡ sets now p ((sep ∷ text a) ++ r) = rw (t.bytes, t.place) (sets_append now p (sep ∷ text a) r) in
      record {
        place = omega (arith, f.place, ap length s, length-append (sep ∷ text a) r, t.place);
        bytes = w ∙ ap (sets now p) (sym s) ∙ f.bytes;
      }

  -- the first element, and then all others
  pub all_put : {l : List A} {first : List ℕ} {at p : ℕ} {now : List ℕ} {i p₂ : ℕ} {now₂ : List ℕ} (z a : A) → a ≡ get_or l 0 z → 1 ≤ length l
      → Run first at (text a) p now → Putting l now p i p₂ now₂ → length l ≤ i → Puts first at (list_text text sep l) p₂ now₂
  all_put {l = l} {p = p} {now = now} {i = i} {p₂ = p₂} {now₂ = now₂} z a ea h e f g =
      let s : run_text text sep (drop i l) ≡ [] = run_end l i g in
      let rest : Run now p (run_text text sep (drop 1 l)) p₂ now₂ =
      record { place = omega (arith, f.place, ap length s); bytes = ap (sets now₂ p₂) (sym s) ∙ f.bytes } in
      same_puts (list_text text sep l) (sym (rw ea (list_step l z h))) (then e rest)

  pub none_put : (l : List A) (first : List ℕ) (at : ℕ) → length l ≡ 0 → Puts first at (list_text text sep l) at first
  unfolding list_text
  none_put [] first at e = same_puts [] refl (puts_none first at)
  none_put (a ∷ l) first at e = absurd (omega arith)

  -- ---- how long it is

  module _ (k : ℕ) (short : (a : A) → length (text a) ≤ k) where
    run_short : (l : List A) → length (run_text text sep l) ≤ (k + 1) * length l
    unfolding run_text
    run_short [] = omega arith
    run_short (a ∷ l) =
        omega (arith, short a, run_short l, length-append (sep ∷ text a) (run_text text sep l), mul-suc (k + 1) (length l))

    pub list_short : (l : List A) → length (list_text text sep l) ≤ (k + 1) * length l - 1
    unfolding list_text
    list_short [] = omega arith
    list_short (a ∷ l) =
        omega (arith, short a, run_short l, length-append (text a) (run_text text sep l), mul-suc (k + 1) (length l))

    -- the place in the loop stays near
    pub place_near : {l : List A} {first : List ℕ} {at i p : ℕ} {now : List ℕ} → Putting l first at i p now → p ≤ at + (k + 1) * length (drop 1 l)
    place_near {l = l} f = omega (arith, f.place, run_short (drop 1 l))

  pub list_some : ((a : A) → 1 ≤ length (text a)) → (l : List A) → 1 ≤ length l → 1 ≤ length (list_text text sep l)
  unfolding list_text
  list_some some [] h = absurd (omega arith)
  list_some some (a ∷ l) h = omega (arith, some a, length-append (text a) (run_text text sep l))
