-- THE THEOREMS on the contracts of the functions that are public to the files of this crate alone: one answer at most satisfies each; `start` asks nothing.
-- Assumes nothing.
use Rattle.book_stretch.specs.contracts.joining as joining_contracts
use Rattle.book_stretch.proofs.joining as joining
use Rattle.text.proofs.Determined.{equation}
use Rattle.text.specs.Shapes.{Answers, OneResult}

pub record Within : Type 0 where
  pub joining_start : Answers joining_contracts.start.ended joining.start.Reads.Asked joining.start.Reads.Learnt
  pub joining_turn : OneResult joining_contracts.turn.ended joining.turn.Reads.Learnt
  pub joining_finish : OneResult joining_contracts.finish.ended joining.finish.Reads.Learnt

pub within : Within
within =
    record {
      joining_start = (λ κs a. tt, λ κs a. equation _);
      joining_turn = λ κs a. equation _;
      joining_finish = λ κs a. equation _;
    }
