-- Steps that the code of the rules takes: `==` of two tests, the lowest broken rule, and that of a layout's cells.
-- Assumes nothing.
use Prim.Native.Nat.{ℕ}
use Rattle.layout.specs.contracts.Layout.{the_type}
use Rattle.layout.specs.declared.Layout.{Layout}
use Rattle.layout.specs.declared.Layout.TheVariants.{Market, Mfrr, Revocation, Generic, Exclusion, Limitation, Secondary, VoltVar, Rejection, Reserve}
use Rattle.value_list.specs.declared.Triple.{Triple}
use Rattle.record.specs.Records.{cell, field_of}
use Rattle.record.specs.declared.Cell.{Cell}
use Rattle.record_rules.specs.Rules.{iff, Rule, rule, lowest, ordered, ramped, updates, fills, slopes, excludes, limits, bands, quantifies}
use Rattle.record_rules.specs.Rules.{in_order, ramps, updated, profiled, sloped, excluded, limited, banded, quantified, rules_of}
use Rattle.value.specs.declared.Value.{Value}
use Rattle.value.specs.declared.Value.TheVariants.{Blank}
use Rattle.record_voltvar.specs.Table.{line_in, volt_var_line, is_row, in_table}
use borrow.Author.Tests.{not-true, not-false}
use denote.Enum.Declared.{tag_of}
use lib.ListN.{get_or}
use mathlib.Core.Bool.{Bool, true, false, not, beq}
use mathlib.Core.List.{List, [], ◌∷◌}
use mathlib.Core.Path.{◌≡◌, refl, sym, ap, ap₂, ◌∙◌}
use types.Run.{OneOf, miss}

-- ---- tests

-- the code's `==` of two tests
beq_iff : (a b : Bool) → beq a b ≡ iff a b
beq_iff true true = refl
beq_iff true false = refl
beq_iff false true = refl
beq_iff false false = refl

pub same_iff : {a b x y : Bool} → a ≡ x → b ≡ y → beq a b ≡ iff x y
same_iff {a} {b} e f = beq_iff a b ∙ ap₂ iff e f

-- ---- the lowest broken rule

module _ (n : ℕ) (b : Bool) (rs : List Rule) where
  -- this one is broken
  lowest_here : b ≡ false → n ≡ lowest (rule n b ∷ rs)
  unfolding lowest
  lowest_here e = rw e

  -- this one holds
  lowest_on : b ≡ true → lowest rs ≡ lowest (rule n b ∷ rs)
  unfolding lowest
  lowest_on e = rw e

  -- as the code finds it: by what a call ensures, and the outcome of the test on it
  pub broken_here : {t : Bool} → t ≡ b → not t ≡ true → n ≡ lowest (rule n b ∷ rs)
  broken_here {t} e h = lowest_here (sym e ∙ not-true t h)

  pub holds_on : {t : Bool} → t ≡ b → not t ≡ false → lowest rs ≡ lowest (rule n b ∷ rs)
  holds_on {t} e h = lowest_on (sym e ∙ not-false t h)

pub lowest_none : 0 ≡ lowest []
unfolding lowest
lowest_none = refl

-- the second of two, by its test
pub then_rule : (first : Rule) (n : ℕ) {r : ℕ} {h b : Bool}
    → r ≡ lowest (first ∷ rule n h ∷ []) → h ≡ b → r ≡ lowest (first ∷ rule n b ∷ [])
then_rule first n e q = rw (sym q) e

-- ---- the lowest broken rule of a layout, by the cells that its rules ask for

abbrev value_at : List Cell → ℕ → Value
value_at cells k = (get_or cells k (cell Blank)).value

-- the layouts that have rule 1 alone: Revocation, Generic and Rejection, by their places
abbrev pub order_only : List ℕ
order_only = 2 ∷ 3 ∷ 8 ∷ []

only_order : (l : Layout) (cells : List Cell) (gs : List Triple) → OneOf order_only (tag_of the_type l) → rule 1 (in_order cells) ∷ [] ≡ rules_of l cells gs
unfolding rules_of
only_order Market cells gs h = absurd (miss order_only 0 tt h)
only_order Mfrr cells gs h = absurd (miss order_only 1 tt h)
only_order Revocation cells gs h = refl
only_order Generic cells gs h = refl
only_order Exclusion cells gs h = absurd (miss order_only 4 tt h)
only_order Limitation cells gs h = absurd (miss order_only 5 tt h)
only_order Secondary cells gs h = absurd (miss order_only 6 tt h)
only_order VoltVar cells gs h = absurd (miss order_only 7 tt h)
only_order Rejection cells gs h = refl
only_order Reserve cells gs h = absurd (miss order_only 9 tt h)

module _ (l : Layout) (cells : List Cell) (gs : List Triple) (r : ℕ) where
  abbrev at : ℕ → Value
  at k = value_at cells k

  abbrev first : Rule
  first = rule 1 (ordered (at 2) (at 3))

  abbrev Lowest : Type 0
  Lowest = r ≡ lowest (rules_of l cells gs)

  pub in_market : l ≡ Market
      → r ≡ lowest
      (first ∷ rule 2 (updates (at 17) (at 18)) ∷ rule 3 (fills (at 19) (at 20) (at 21) (at 22) (at 23) (at 24)) ∷ rule 4 (slopes (at 25) gs) ∷ [])
      → Lowest
  unfolding rules_of in_order updated profiled sloped field_of
  in_market e q = rw e q

  pub by_market : l ≡ Market → r ≡ lowest (rules_of Market cells gs) → Lowest
  by_market e q = rw e q

  pub in_ramps : l ≡ Mfrr → r ≡ lowest (rule 1 (ramped (at 2) (at 3) (at 4) (at 5)) ∷ []) → Lowest
  unfolding rules_of ramps field_of
  in_ramps e q = rw e q

  pub in_exclusion : l ≡ Exclusion → r ≡ lowest (first ∷ rule 5 (excludes (at 4) (at 6)) ∷ []) → Lowest
  unfolding rules_of in_order excluded field_of
  in_exclusion e q = rw e q

  pub in_limitation : l ≡ Limitation → r ≡ lowest (first ∷ rule 6 (limits (at 4) (at 5) (at 6) (at 8)) ∷ []) → Lowest
  unfolding rules_of in_order limited field_of
  in_limitation e q = rw e q

  pub in_secondary : l ≡ Secondary → r ≡ lowest (first ∷ rule 7 (bands (at 4) (at 5)) ∷ []) → Lowest
  unfolding rules_of in_order banded field_of
  in_secondary e q = rw e q

  pub in_volt_var : l ≡ VoltVar → r ≡ lowest (first ∷ rule 8 (is_row (line_in (at 4) (at 5) (at 6) (at 7) (at 8) (at 9) (at 10))) ∷ []) → Lowest
  unfolding rules_of in_order in_table volt_var_line field_of
  in_volt_var e q = rw e q

  -- whatever the gradients: VQ has none
  pub by_volt_var : l ≡ VoltVar → r ≡ lowest (rules_of VoltVar cells []) → Lowest
  unfolding rules_of
  by_volt_var e q = rw e q

  pub in_reserve : l ≡ Reserve → r ≡ lowest (first ∷ rule 9 (quantifies (at 5) (at 6)) ∷ []) → Lowest
  unfolding rules_of in_order quantified field_of
  in_reserve e q = rw e q

  pub in_others : OneOf order_only (tag_of the_type l) → r ≡ lowest (first ∷ []) → Lowest
  unfolding in_order field_of
  in_others h q = q ∙ ap lowest (only_order l cells gs h)
