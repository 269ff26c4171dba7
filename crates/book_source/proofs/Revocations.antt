-- A revocation with any sequence and dates, and nothing else to choose: valid where these are, as antt computes. Assumes nothing.
use Prim.Native.Nat.{ℕ}
use Rattle.book_source.proofs.Commands.{message_with}
use Rattle.layout.specs.Fields.{rc}
use Rattle.layout.specs.Layouts.{fields_of, kinds_of}
use Rattle.layout.specs.declared.Layout.TheVariants.{Revocation}
use Rattle.record.specs.Records.{cells_of, field_of}
use Rattle.record.specs.declared.Record.{Record}
use Rattle.record_check.specs.Validity.{holds_all, are_clear, no_triples, is_sized, is_valid}
use Rattle.record_rules.specs.Rules.{in_order, rules_of, lowest, broken_in}
use Rattle.text.specs.Bytes.{all}
use Rattle.value.specs.declared.Value.TheVariants.{When, Count}
use Rattle.value_date.specs.Date.{is_real, instant_of}
use Rattle.value_date.specs.declared.Date.{Date}
use Rattle.value_fits.specs.Fits.{is_no_triple, is_named, fits, holds}
use Rattle.value_list.specs.Forms.{no_triple}
use Rattle.value_name.specs.Names.{is_unit}
use Rattle.writer_form.specs.Written.{values_in}
use lib.Dec.{ltb}
use lib.ListN.{replicate}
use mathlib.Core.Bool.{true}
use mathlib.Core.List.{[], ◌∷◌}
use mathlib.Core.Path.{◌≡◌}

-- its own number is 0; the sequence n is that of the command
abbrev pub revocation : ℕ → Date → Date → Record
revocation n s e = message_with Revocation 0 s (When e ∷ Count n ∷ []) (replicate 16 no_triple)

pub revocation_valid : (n : ℕ) (s e : Date) → ltb n 10000000000 ≡ true → is_real s ≡ true → is_real e ≡ true → ltb (instant_of s) (instant_of e) ≡ true
    → is_valid (revocation n s e) ≡ true
unfolding is_valid is_sized holds_all are_clear no_triples holds fits is_no_triple is_named is_unit all kinds_of fields_of rc
    values_in cells_of field_of broken_in lowest rules_of in_order
revocation_valid n s e low starts ends before = rw (low, starts, ends, before)
