use Rattle.value_number.proofs.Texts.{decimals_none, decimals_some}
use Rattle.value_number.specs.Number.{decimals_text}
use Rattle.text.proofs.Numerals.{length_text}
use Rattle.text.proofs.Runs.{puts, puts_of, puts_none, then, same_puts}
use Rattle.text.specs.Digits.{digits_text}
use mathlib.Core.List.{[], ◌∷◌}
use Rattle.value_number.proofs.put_decimals.Goals as goal

-- The point, then the digits.
pub returns-then-k-eq0 : goal.returns-then-k-eq0
returns-then-k-eq0 c = same_puts _ (decimals_none _ _ c.if-k-eq0.true) (puts_none _ _)

pub returns : goal.returns
returns c =
    let k = c.args.d.size in
    let f = c.args.d.value in
    same_puts (decimals_text k f) (decimals_some k f c.if-k-eq0.false)
    (then {t = 46 ∷ []} {u = digits_text k f} (puts c.put_byte-from.ensures) (puts_of k (length_text k f) c.put_digits.ensures))
