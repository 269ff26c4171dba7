-- THE THEOREM: the test holds exactly of the strikes that a valid RC record gives. Assumes nothing.
use Rattle.book_order.specs.Messages.{strike_of}
use Rattle.book_order.specs.Orders.{Strike, could_strike}
use Rattle.book_source.proofs.Bounds.{revoke_tells}
use Rattle.book_source.proofs.Comes.{names_fit}
use Rattle.book_source.proofs.Revocations.{revocation, revocation_valid}
use Rattle.book_source.proofs.Witness.{before}
use Rattle.book_source.specs.Given.{GivenStrike}
use Rattle.book_stretch.specs.Stretches.{stretch}
use Rattle.record.specs.Records.{cells_of, field_of}
use Rattle.record_check.proofs.Decides.{valid_tells}
use Rattle.report_brief.specs.Brief.{end_of}
use Rattle.text.proofs.Tests.{Tells}
use Rattle.value_instants.proofs.Reach.{reached}
use borrow.Author.Tests.{lt-ltb}
use mathlib.Core.Bool.{true}
use mathlib.Core.Path.{◌≡◌, refl, sym, ap, ◌∙◌}
use native.Mathlib.Omega.{arith}

strike_witness : (s : Strike) → could_strike s ≡ true → GivenStrike s
unfolding strike_of end_of cells_of field_of
strike_witness s e =
    let b = (revoke_tells s).0 e in
    let n = s.name.number in
    let from = reached s.over.from b.start_from b.start_to in
    let to = reached s.over.to b.end_from b.end_to in
    let made = revocation n from.date to.date in
    let low = lt-ltb n 10000000000 (omega (arith, b.number_to)) in
    record {
      revocation = made;
      valid = (valid_tells made).0 (revocation_valid n from.date to.date low from.passes to.passes (before from to b.apart));
      is_revocation_so = refl;
      gives = λ i. record { name = record { number = n }; over = stretch (from.gives i) (to.gives i) };
    }

pub strike_tells : (s : Strike) → Tells (could_strike s) (GivenStrike s)
strike_tells s = (
  strike_witness s,
  λ g. ap could_strike (sym g.gives) ∙ names_fit g.revocation ((valid_tells g.revocation).1 g.valid) g.is_revocation_so,
)
