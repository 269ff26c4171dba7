use Rattle.book_places.proofs.Moved.{put_moved}
use Rattle.book_places.specs.Places.{past_order}
use native.Mathlib.Omega.{arith}
use Rattle.book_places.proofs.put_in.Goals as goal

pub returns : goal.returns
returns c =
    let a = c.args in
    put_moved past_order a.at a.count a.o a.orders _ c.requires.0 (omega (arith, c.requires.1)) c.copy_within.ensures.after
