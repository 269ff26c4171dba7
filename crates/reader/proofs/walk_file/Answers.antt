use Rattle.reader.proofs.Walking.{too_small, too_large, bad_byte, seps_not_two, not_one_inside, mfrr_few, mfrr_walks, first_few, first_walks}
use Rattle.reader.proofs.walk_file.Goals as goal

pub returns-then-file-eq0 : goal.returns-then-file-eq0
returns-then-file-eq0 c = search too_small

pub returns-then-file-gt8192 : goal.returns-then-file-gt8192
returns-then-file-gt8192 c = search too_large

pub returns-then-found-file : goal.returns-then-found-file
returns-then-found-file c = search bad_byte

pub returns-then-frame-ne2 : goal.returns-then-frame-ne2
returns-then-frame-ne2 c = search seps_not_two

pub returns-then-frame-ne1 : goal.returns-then-frame-ne1
returns-then-frame-ne1 c = search not_one_inside

pub place-requires : goal.place-requires
place-requires c = search mfrr_few

pub returns-then-is_mfrr : goal.returns-then-is_mfrr
returns-then-is_mfrr c = rw c.place.ensures (search mfrr_walks)

pub place-requires-2 : goal.place-requires-2
place-requires-2 c = search first_few

pub returns : goal.returns
returns c = rw c.place-2.ensures (search first_walks)
