use Rattle.record.proofs.Fields.{field_at}
use Rattle.writer_row.proofs.Rows.{fields_short, six_halved, banded_row, plain_row}
use Rattle.value.specs.Texts.{rooms_in}
use lib.Dec.{lit≤}
use mathlib.Core.Path.{◌≡◌, sym}
use borrow.Author.Rules.{rules}
use lib.ListN.{length}
use native.Mathlib.Omega.{arith}
use Rattle.writer_row.proofs.put_row.Goals as goal

pub put_halves-requires : goal.put_halves-requires
put_halves-requires c =
    let sixteen : length c.args.rooms.gradients ≡ 16 = search rules in
    let short = fields_short c.args.l _ _ c.requires.1 sixteen in
    let six = sym (field_at c.args.cells 6 (lit≤ tt)) in
    let halved = six_halved c.args.l c.in-Secondary.is _ c.args.cells _ six c.requires.1 in
    (omega (arith, c.requires.0, c.put_pieces-to.ensures.0, short), halved)

pub returns-in-Secondary : goal.returns-in-Secondary
returns-in-Secondary c =
    let fields = c.put_pieces-to in
    let six = sym (field_at c.args.cells 6 (lit≤ tt)) in
    banded_row c.args.l c.in-Secondary.is (rooms_in c.args.rooms) c.args.cells _ six c.args.out.now _ _
    fields.new.out _ _ fields.ensures c.put_halves.ensures

pub returns-in_default : goal.returns-in_default
returns-in_default c =
    plain_row c.args.l _ _ _ _ c.in_default.not-Secondary _ _ c.put_pieces-to.ensures
