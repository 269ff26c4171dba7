use Rattle.writer.proofs.Ends.{invalid_end, valid_end}
use Rattle.writer.proofs.Held.{told_held}
use Rattle.writer_form.specs.Written.{file_of}
use Rattle.record_check.specs.Validity.{is_valid}
use mathlib.Core.Bool.{true}
use mathlib.Core.Path.{◌≡◌, sym, ◌∙◌}
use Rattle.writer.proofs.write.Goals as goal

pub returns-then-not-is_valid : goal.returns-then-not-is_valid
returns-then-not-is_valid c = invalid_end _ _ (sym c.is_valid.ensures ∙ c.if-not-is_valid.true)

pub put_file-requires : goal.put_file-requires
put_file-requires c =
    let valid : is_valid c.args.r ≡ true = sym c.is_valid.ensures ∙ c.if-not-is_valid.false in
    told_held _ valid

pub returns : goal.returns
unfolding file_of
returns c =
    let valid : is_valid c.args.r ≡ true = sym c.is_valid.ensures ∙ c.if-not-is_valid.false in
    valid_end _ _ valid _ _ c.put_file.ensures
