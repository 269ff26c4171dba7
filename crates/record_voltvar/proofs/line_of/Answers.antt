use Rattle.record_voltvar.proofs.line_of.Goals as goal

pub returns : goal.returns
returns c =
    let words = rw (c.word_in.ensures, c.word_in-2.ensures, c.word_in-3.ensures) at c.row_of.ensures in
    rw (c.form_in.ensures, c.form_in-2.ensures, c.form_in-3.ensures, c.form_in-4.ensures) at words
