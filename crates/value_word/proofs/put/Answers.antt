use Rattle.text.proofs.Runs.{puts, same_puts}
use Rattle.value_word.proofs.Numbers.{spelt_put}
use Rattle.value_word.proofs.RoundTrip.{word_short}
use Rattle.value_word.specs.Words.{word}
use lib.ListN.{length}
use mathlib.Core.Path.{◌≡◌, ap}
use native.Mathlib.Omega.{arith}
use Rattle.value_word.proofs.put.Goals as goal

pub put_text-requires : goal.put_text-requires
put_text-requires c =
    let written : c.front.result.now ≡ word c.args.w = spelt_put c.spell-m.result c.args.w c.spell-m.ensures c.put_word.ensures c.put_word-2.ensures
    c.put_word-3.ensures c.front.ensures in
    omega (arith, ap length written, word_short c.args.w)

pub returns : goal.returns
returns c =
    let written : c.front.result.now ≡ word c.args.w = spelt_put c.spell-m.result c.args.w c.spell-m.ensures c.put_word.ensures c.put_word-2.ensures
    c.put_word-3.ensures c.front.ensures in
    same_puts (word c.args.w)
    written (puts c.put_text.ensures)
