-- THE THEOREMS on the contracts of the functions that are public to the files of this crate alone: each asks nothing, and one answer at most satisfies it.
-- Assumes nothing.
use Rattle.record_check.specs.contracts.rooms as rooms_contracts
use Rattle.record_check.proofs.rooms as rooms
use Rattle.text.proofs.Determined.{equation}
use Rattle.text.specs.Shapes.{Answers}

pub record Within : Type 0 where
  pub rooms_are_clear : Answers rooms_contracts.are_clear.ended rooms.are_clear.Reads.Asked rooms.are_clear.Reads.Learnt
  pub rooms_has_no_triples : Answers rooms_contracts.has_no_triples.ended rooms.has_no_triples.Reads.Asked rooms.has_no_triples.Reads.Learnt

pub within : Within
within =
    record {
      rooms_are_clear = (λ κs a. tt, λ κs a. equation _);
      rooms_has_no_triples = (λ κs a. tt, λ κs a. equation _);
    }
