use Rattle.reader_row.proofs.Fields.{plain_bands, six_fields, some_bands}
use lib.Dec.{lit≤}
use Rattle.reader_row.proofs.skip_bands.Goals as goal

pub skip_halves-requires : goal.skip_halves-requires
skip_halves-requires c =
    let k = six_fields _ _ _ c.requires.2 c.in-Secondary.is in
    (c.requires.0, c.requires.1, c.requires.2.ordered 6 (lit≤ tt) k, c.requires.2.inside 6 (lit≤ tt) k)

pub returns-in-Secondary : goal.returns-in-Secondary
returns-in-Secondary c =
    some_bands _ _ _ c.requires.2 c.in-Secondary.is _ _ _ c.skip_halves.ensures

pub returns-in_default : goal.returns-in_default
returns-in_default c = plain_bands _ _ _ _ _ c.in_default.not-Secondary
