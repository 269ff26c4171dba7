use Rattle.std.specs.Prelude.{None, Some}
use Rattle.value_number.proofs.Laws.{unsigned_below, number_none, number_minus, number_plus}
use Rattle.value_number.specs.Number.{unsigned_of, plus, minus}
use Rattle.text.proofs.Cuts.{tail}
use lib.ListN.{drop}
use mathlib.Core.Path.{◌≡◌, sym, ap, ◌∙◌}
use mir.Syntax.{w32}
use mir.ValLaws.{to_z-of_z}
use Rattle.value_number.proofs.read.Goals as goal

-- By the first byte it is `minus` or `plus` of what `read_unsigned` answers.
pub returns-then-s-eq0 : goal.returns-then-s-eq0
returns-then-s-eq0 c = number_none _ c.if-s-eq0.true

pub returns-in_default : goal.returns-in_default
unfolding minus
returns-in_default c =
    let s = c.args.s.now in
    let e : unsigned_of (drop 1 s) ≡ None = rw (tail s 1) at (sym c.read_unsigned.ensures ∙ c.in_default.is) in
    ap minus (sym e) ∙ number_minus s c.if-s-eq45.true

pub signed-requires : goal.signed-requires
signed-requires c = unsigned_below _ _ (sym c.read_unsigned.ensures ∙ c.in-Some.is)

pub returns-then-s-eq45 : goal.returns-then-s-eq45
unfolding minus
returns-then-s-eq45 c =
    let s = c.args.s.now in
    let e : unsigned_of (drop 1 s) ≡ Some c.in-Some.n = rw (tail s 1) at (sym c.read_unsigned.ensures ∙ c.in-Some.is) in
    ap Some (to_z-of_z w32 c.signed.result (record { sfits = c.signed.type_inv }) ∙ c.signed.ensures)
    ∙ ap minus (sym e) ∙ number_minus s c.if-s-eq45.true

pub returns-in_default-read_unsigned : goal.returns-in_default-read_unsigned
unfolding plus
returns-in_default-read_unsigned c =
    ap plus (sym (sym c.read_unsigned-2.ensures ∙ c.in_default-read_unsigned.is)) ∙ number_plus _ c.if-s-eq45.false

pub signed-requires-2 : goal.signed-requires-2
signed-requires-2 c = unsigned_below _ _ (sym c.read_unsigned-2.ensures ∙ c.in-Some-read_unsigned.is)

pub returns : goal.returns
unfolding plus
returns c =
    ap Some (to_z-of_z w32 c.signed-2.result (record { sfits = c.signed-2.type_inv }) ∙ c.signed-2.ensures)
    ∙ ap plus (sym (sym c.read_unsigned-2.ensures ∙ c.in-Some-read_unsigned.is)) ∙ number_plus _ c.if-s-eq45.false
