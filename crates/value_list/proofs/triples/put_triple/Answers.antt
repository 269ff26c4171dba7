use Rattle.value_list.specs.Forms.{numbers_text, triple_text}
use borrow.Author.Rules.{rules}
use mir.Syntax.{w32}
use mir.ValLaws.{to_z-of_z}
use Rattle.value_list.proofs.triples.put_triple.Goals as goal

pub returns : goal.returns
unfolding numbers_text triple_text
returns c =
    let t = c.args.t in
    rw (to_z-of_z w32 t.low (search rules), to_z-of_z w32 t.high (search rules), to_z-of_z w32 t.gradient (search rules)) at
    c.put.ensures
