use Prim.Native.Nat.{◌+◌}
use Rattle.value_number.proofs.Shorts.{short_end, short_blank, short_bad, short_on}
use Rattle.value_number.specs.Number.{before_at, zero_fits, are_short}
use lib.ListN.{get_or}
use mathlib.Core.Bool.{true}
use mathlib.Core.Path.{◌≡◌, refl, sym, ◌∙◌}
use native.Mathlib.Omega.{arith}
use Rattle.value_number.proofs.are_short.Goals as goal
use Rattle.value_number.proofs.are_short.Goals.{then-b-eq48+else-not-zero_fits, else-b-eq48}

pub loop-i-init : goal.loop-i-init
unfolding are_short
loop-i-init c = refl

pub returns-then-b-eq32 : goal.returns-then-b-eq32
returns-then-b-eq32 c =
    let l = c.loop-i in
    short_blank c.args.s.now l.i _ _ (omega arith) c.if-b-eq32.true ∙ sym l.invariant

pub returns-then-not-zero_fits : goal.returns-then-not-zero_fits
returns-then-not-zero_fits c =
    let l = c.loop-i in
    let s = c.args.s.now in
    let bad = sym c.zero_fits.ensures ∙ c.if-not-zero_fits.true in
    short_bad s l.i (before_at l.i s) l.fraction (omega arith) c.if-b-eq48.true bad ∙ sym l.invariant

pub loop-i-preserved : goal.loop-i-preserved
loop-i-preserved c =
    let l = c.loop-i in
    let s = c.args.s.now in
    let fits : get_or s l.i 0 ≡ 48 → zero_fits (before_at l.i s) l.fraction (get_or s (l.i + 1) 0) ≡ true =
    λ e. elim c.if-b-eq48.branch [
      | then-b-eq48+else-not-zero_fits w ↦ sym w.zero_fits.ensures ∙ w.if-not-zero_fits.false
      | else-b-eq48 w ↦ absurd (w.if-b-eq48.false e)
    ] in
    l.invariant ∙ short_on s l.i _ _ (omega arith) c.if-b-eq32.false fits

pub returns : goal.returns
returns c =
    let l = c.loop-i in
    let s = c.args.s.now in
    short_end s l.i _ _ (omega arith) ∙ sym l.invariant
