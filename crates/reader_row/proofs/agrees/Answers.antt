use Rattle.layout.specs.Layouts.{size_of}
use Rattle.text_lines.specs.Places.{column_in}
use Rattle.reader_row.proofs.Fields.{fields_fit, fields_other, bands_other, bands_last}
use Rattle.reader_row.proofs.agrees.Goals as goal

pub returns-in_default : goal.returns-in_default
returns-in_default c =
    fields_other _ _ _ _ _ c.requires.0 c.requires.1 _ c.skip_fields.ensures c.in_default.is

pub skip_bands-requires : goal.skip_bands-requires
skip_bands-requires c =
    (fields_fit _ _ _ _ (column_in (size_of c.args.l) c.args.file.now c.args.spans) c.requires.0 c.requires.1 _ c.skip_fields.ensures _ c.in-Some.is, c.requires.1, c.requires.2)

pub returns-in_default-skip_bands : goal.returns-in_default-skip_bands
returns-in_default-skip_bands c =
    bands_other _ _ _ _ _ c.requires.0 c.requires.1 _ c.skip_fields.ensures _
    c.in-Some.is _ c.skip_bands.ensures c.in_default-skip_bands.is

pub returns : goal.returns
returns c =
    bands_last _ _ _ _ _ c.requires.0 c.requires.1 _ c.skip_fields.ensures _
    c.in-Some.is _ c.skip_bands.ensures _ c.in-Some-skip_bands.is
