-- The arms of the tables: the entry at a number, what goes by the layout, and the two parts of the market layout.
-- Assumes nothing.
use Prim.Native.Nat.{ℕ, suc, ◌+◌, ◌-◌, ◌≤◌, ◌<◌}
use Rattle.layout.specs.Fields.{Field, command, technical, market}
use Rattle.layout.specs.declared.Layout.{Layout}
use lib.ListN.{get_or, get_or-append}
use lib.Seq.{get_or-append-add}
use mathlib.Core.List.{◌∷◌, map}
use mathlib.Core.Path.{◌≡◌, sym, ap, ◌∙◌}
use native.Mathlib.Omega.{arith}

-- ---- an arm of a match on a number, and on a layout

pub entry : {A : Type 0} (f : ℕ → A) {k n : ℕ} → k ≡ n → f n ≡ f k
entry f e = ap f (sym e)

pub of_layout : {A : Type 0} (f : Layout → A) {l m : Layout} → l ≡ m → f m ≡ f l
of_layout f e = ap f (sym e)

-- ---- the market layout, of which the two parts are tables from 0

module _ {A : Type 0} (f : Field → A) (d : A) where
  pub command_part : (k : ℕ) → 1 ≤ k → k ≤ 12 → get_or (map f command) (k - 1) d ≡ get_or (d ∷ map f market) k d
  unfolding market command technical
  command_part k h j =
      let e : suc (k - 1) ≡ k = omega arith in
      sym (get_or-append (map f command) (map f technical) d (k - 1) (omega arith)) ∙ ap (λ (n : ℕ). get_or (d ∷ map f market) n d) e

  pub technical_part : (k : ℕ) → 12 < k → get_or (map f technical) (k - 13) d ≡ get_or (d ∷ map f market) k d
  unfolding market command technical
  technical_part k h =
      let e : suc (12 + (k - 13)) ≡ k = omega arith in
      sym (get_or-append-add (map f command) (map f technical) (k - 13) d) ∙ ap (λ (n : ℕ). get_or (d ∷ map f market) n d) e
