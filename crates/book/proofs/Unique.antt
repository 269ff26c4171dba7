-- THE THEOREMS on the contracts of the functions that are public to the files of this crate alone: one answer at most satisfies each. They ask nothing
-- of the caller (`Answers`). Assumes nothing.
use Rattle.book.specs.contracts.fitness as fitness_contracts
use Rattle.book.proofs.fitness as fitness
use Rattle.text.proofs.Determined.{equation}
use Rattle.refusal.proofs.Told.{same_result}
use Rattle.text.specs.Shapes.{Answers}
use mathlib.Core.Path.{refl, sym, ◌∙◌}

pub record Within : Type 0 where
  pub fitness_is_formed_unit : Answers fitness_contracts.is_formed_unit.ended fitness.is_formed_unit.Reads.Asked fitness.is_formed_unit.Reads.Learnt
  pub fitness_unfit : Answers fitness_contracts.unfit.ended fitness.unfit.Reads.Asked fitness.unfit.Reads.Learnt

pub within : Within
within =
    record {
      fitness_is_formed_unit = (λ κs a. tt, λ κs a. equation _);
      fitness_unfit = (λ κs a. tt, λ κs a x y p q. same_result x y (p.1.0 ∙ sym q.1.0) (p.1.1 ∙ sym q.1.1) (λ u v e f. refl));
    }
