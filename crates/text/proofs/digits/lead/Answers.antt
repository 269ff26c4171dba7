use Rattle.text.proofs.Cuts.{skip_on}
use Rattle.text.proofs.Numerals.{grows, lead_on, lead_here, lead_end}
use Rattle.text.specs.Bytes.{is_digit}
use Rattle.text.specs.Digits.{number_from}
use mathlib.Core.Path.{◌≡◌, refl, sym, ◌∙◌}
use native.Mathlib.Omega.{arith}
use Rattle.text.proofs.digits.lead.Goals as goal

pub loop-i-init : goal.loop-i-init
unfolding number_from
loop-i-init c = record { below = omega arith; written = refl; skipped = refl }

pub returns-then-not-is_digit : goal.returns-then-not-is_digit
returns-then-not-is_digit c =
    let l = c.loop-i in
    lead_here _ _ _ _ (omega arith) l.invariant.skipped l.invariant.written (omega arith) (sym c.is_digit.ensures ∙ c.if-not-is_digit.true)

pub loop-i-preserved : goal.loop-i-preserved
loop-i-preserved c =
    let l = c.loop-i in
    let s = c.args.s.now in
    let digit_at = sym c.is_digit.ensures ∙ c.if-not-is_digit.false in
    rw c.from.ensures (record {
      below = grows l.i l.value _ l.invariant.below digit_at;
      written = lead_on s l.i l.value (omega arith) l.invariant.written;
      skipped = l.invariant.skipped ∙ skip_on is_digit 0 s l.i (omega arith) digit_at;
    })

pub returns : goal.returns
returns c =
    let l = c.loop-i in
    let e : l.i ≡ c.min-end.result = omega arith in
    rw (← e) (lead_end c.args.s.now c.args.most l.i l.value (omega arith) l.invariant.skipped l.invariant.written (omega arith))
