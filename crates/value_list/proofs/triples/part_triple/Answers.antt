use Rattle.value_list.proofs.triples.part_triple.Goals as goal

-- by what the calls answer, whichever they are
pub returns : goal.returns
returns c = cc
