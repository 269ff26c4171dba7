use Rattle.std.specs.Prelude.{Some}
use Rattle.text.proofs.Cuts.{all_here, all_on, all_end}
use Rattle.text.proofs.Numerals.{refused_empty, refused_long, refused_other, taken, number_step, number_end, grows}
use Rattle.text.specs.Bytes.{is_digit}
use mathlib.Core.Path.{sym, ap, ◌∙◌}
use native.Mathlib.Omega.{arith}
use Rattle.text.proofs.digits.read_digits.Goals as goal

pub returns-then-s-eq0 : goal.returns-then-s-eq0
returns-then-s-eq0 c = refused_empty _ _ c.if-s-eq0.true

pub returns-then-most-s : goal.returns-then-most-s
returns-then-most-s c = refused_long _ _ c.if-most-s.true

pub returns-then-not-is_digit : goal.returns-then-not-is_digit
returns-then-not-is_digit c =
    let s = c.args.s.now in
    let l = c.loop-b in
    let no = sym c.is_digit.ensures ∙ c.if-not-is_digit.true in
    refused_other _ s (sym l.invariant.digits ∙ all_here is_digit 0 s l.b-index (omega arith) no)

pub loop-b-preserved : goal.loop-b-preserved
loop-b-preserved c =
    let s = c.args.s.now in
    let l = c.loop-b in
    let digit_at = sym c.is_digit.ensures ∙ c.if-not-is_digit.false in
    rw c.from.ensures (record {
      below = grows l.b-index l.acc _ l.invariant.below digit_at;
      written = sym (number_step l.acc s l.b-index (omega arith)) ∙ l.invariant.written;
      digits = sym (all_on is_digit 0 s l.b-index (omega arith) digit_at) ∙ l.invariant.digits;
    })

pub returns : goal.returns
returns c =
    let s = c.args.s.now in
    let l = c.loop-b in
    let i = l.b-index in
    ap Some (sym (number_end l.acc s i (omega arith)) ∙ l.invariant.written)
    ∙ taken _ s (omega arith) (omega arith) (sym l.invariant.digits ∙ all_end is_digit s i (omega arith))
