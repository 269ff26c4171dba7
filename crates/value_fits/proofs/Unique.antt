-- THE THEOREMS on the contracts of the functions that are public to the files of this crate alone: each asks nothing, and one answer at most satisfies it.
-- Assumes nothing.
use Rattle.value_fits.specs.contracts.numbers as numbers_contracts
use Rattle.value_fits.proofs.numbers as numbers
use Rattle.value_fits.specs.contracts.shapes as shapes_contracts
use Rattle.value_fits.proofs.shapes as shapes
use Rattle.value_fits.specs.contracts.texts as texts_contracts
use Rattle.value_fits.proofs.texts as texts
use Rattle.text.proofs.Determined.{equation}
use Rattle.text.specs.Shapes.{Answers}

pub record Within : Type 0 where
  pub numbers_are_listed : Answers numbers_contracts.are_listed.ended numbers.are_listed.Reads.Asked numbers.are_listed.Reads.Learnt
  pub shapes_is_among : Answers shapes_contracts.is_among.ended shapes.is_among.Reads.Asked shapes.is_among.Reads.Learnt
  pub shapes_fewest : Answers shapes_contracts.fewest.ended shapes.fewest.Reads.Asked shapes.fewest.Reads.Learnt
  pub shapes_most : Answers shapes_contracts.most.ended shapes.most.Reads.Asked shapes.most.Reads.Learnt
  pub texts_is_kept : Answers texts_contracts.is_kept.ended texts.is_kept.Reads.Asked texts.is_kept.Reads.Learnt
  pub texts_is_unit : Answers texts_contracts.is_unit.ended texts.is_unit.Reads.Asked texts.is_unit.Reads.Learnt

pub within : Within
within =
    record {
      numbers_are_listed = (λ κs a. tt, λ κs a. equation _);
      shapes_is_among = (λ κs a. tt, λ κs a. equation _);
      shapes_fewest = (λ κs a. tt, λ κs a. equation _);
      shapes_most = (λ κs a. tt, λ κs a. equation _);
      texts_is_kept = (λ κs a. tt, λ κs a. equation _);
      texts_is_unit = (λ κs a. tt, λ κs a. equation _);
    }
