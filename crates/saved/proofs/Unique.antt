-- THE THEOREMS on the contracts of the functions that are public to the files of this crate alone: one answer at most satisfies each. Assumes nothing.
use Rattle.saved.specs.contracts.orders as orders_contracts
use Rattle.saved.proofs.orders as orders
use Rattle.saved.specs.contracts.puts as puts_contracts
use Rattle.saved.proofs.puts as puts
use Rattle.text.proofs.Determined.{equation, equations}
use Rattle.text.specs.Shapes.{OneOutput, OneResult}

pub record Within : Type 0 where
  pub orders_values_of : OneResult orders_contracts.values_of.ended orders.values_of.Reads.Learnt
  pub orders_order_of : OneResult orders_contracts.order_of.ended orders.order_of.Reads.Learnt
  pub puts_put_book : OneOutput puts_contracts.put_book.ended (λ κs e. e.0.now) puts.put_book.Reads.Learnt

pub within : Within
within =
    record {
      orders_values_of = λ κs a. equation _;
      orders_order_of = λ κs a. equation _;
      puts_put_book = λ κs a. equations _ _ _;
    }
