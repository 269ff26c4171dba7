-- How the code joins: a stretch, and others that come one after another. (That this is `joined` of them is proofs/Turns.antt)
use Rattle.std.specs.Prelude.{ℕ, suc, ltb, replicate, set, true, false, not, ◌||◌, cond}
use Rattle.book_stretch.specs.Stretches.{no_stretch, is_used, hull}
use Rattle.book_stretch.specs.declared.Stretch.{Stretch}
use Rattle.book_stretch.specs.declared.joining.Joining.{Joining}

abbrev pub starting : Stretch → Joining
starting s = record { next = s; settled = false; count = 0; room = replicate 5 no_stretch }

-- how many places are used, with the one that the stretch will have
abbrev pub used : Joining → ℕ
used j = cond j.settled j.count (suc j.count)

abbrev pub added : Stretch → Joining → Joining
added c j = record { next = j.next; settled = j.settled; count = suc j.count; room = set j.room j.count c }

abbrev pub placed : Joining → Joining
placed j = record { next = j.next; settled = true; count = suc j.count; room = set j.room j.count j.next }

abbrev pub grown : Stretch → Joining → Joining
grown c j = record { next = hull j.next c; settled = j.settled; count = j.count; room = j.room }

unfoldable pub turned : Stretch → Joining → Joining
turned c j =
    cond (not (is_used c)) j
    (cond (j.settled || ltb c.to j.next.from) (added c j)
    (cond (ltb j.next.to c.from) (added c (placed j)) (grown c j)))

abbrev pub finished : Joining → Joining
finished j = cond j.settled j (placed j)
