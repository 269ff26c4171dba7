use Rattle.text_keyline.proofs.Values.{number_within}
use Rattle.report.proofs.Hearing.{no_ca, no_ioa, both_read}
use Rattle.text.specs.Bytes.{bytes}
use borrow.Author.Rules.{rules}
use mathlib.Core.Path.{sym, ◌∙◌}
use Rattle.report.proofs.hear.Goals as goal

pub returns-in_default : goal.returns-in_default
returns-in_default c = search no_ca

pub returns-in_default-number : goal.returns-in_default-number
returns-in_default-number c = search no_ioa

pub overflow_cast-ca : goal.overflow_cast-ca
overflow_cast-ca c =
    let h = number_within (bytes "ca=") 65534 c.args.input.now _ (sym c.in-Some.is ∙ c.number.ensures) in
    search rules

pub overflow_cast-ioa : goal.overflow_cast-ioa
overflow_cast-ioa c =
    let h = number_within (bytes "ioa=") 16777215 c.below-second.result.now _ (sym c.in-Some-number.is ∙ c.number-2.ensures) in
    search rules

pub returns : goal.returns
returns c = search both_read
