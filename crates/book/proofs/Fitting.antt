-- What the parts of a book's fitness answer, test by test as the definitions say, and a fresh book. Assumes nothing.
use Prim.Native.Nat.{ℕ, ◌≤◌, ◌<◌}
use Rattle.book.specs.Answers.{outcome, fresh_of}
use Rattle.book.specs.Places.{book_with, book_from, book_of, zero_book, formed_unit, unfit_in}
use Rattle.book.specs.declared.Book.{Book}
use Rattle.report_brief.specs.Brief.{unit_of, brief_of, told_of}
use Rattle.report_brief.specs.declared.Brief.{Brief}
use Rattle.value_name.proofs.RoundTrip.{unit_size}
use Rattle.value_name.specs.Names.{is_unit}
use Rattle.book_order.specs.Orders.{next_end, empty_order}
use Rattle.book_order.specs.declared.Order.{Order}
use Rattle.record.specs.declared.Record.{Record}
use Rattle.text_room.specs.Rooms.{kept_in}
use Rattle.text.specs.Bytes.{all, is, same}
use Rattle.record_check.specs.Validity.{is_valid}
use borrow.Author.Tests.{le-leb, lt-leb}
use lib.ListN.{length, take, drop, replicate}
use mathlib.Core.Bool.{Bool, true, false, ◌&&◌}
use mathlib.Core.List.{List}
use mathlib.Core.Path.{◌≡◌, ap, ◌∙◌}

-- ---- a unit's room

module _ (size : ℕ) (unit : List ℕ) where
  pub unit_long : 16 < size → false ≡ formed_unit size unit
  unfolding formed_unit
  unit_long h = rw (lt-leb size 16 h)

  -- `u` says whether the code is good, `z` whether the rest is zero
  pub unit_is : size ≤ 16 → (u z : Bool) → u ≡ is_unit (take size unit) → z ≡ all (is 0) (drop size unit) → u && z ≡ formed_unit size unit
  unfolding formed_unit
  unit_is h u z e g = rw (le-leb size 16 h, e, g)

-- ---- a message that is refused for itself, or is not

module _ (right : Bool) (unit : List ℕ) (r : Record) where
  pub unfit_invalid : is_valid r ≡ false → 12 ≡ unfit_in right unit r
  unfolding unfit_in
  unfit_invalid e = rw e

  module _ (v : is_valid r ≡ true) where
    pub unfit_layout : right ≡ false → 29 ≡ unfit_in right unit r
    unfolding unfit_in
    unfit_layout e = rw (v, e)

    module _ (w : right ≡ true) where
      pub unfit_unit : same (unit_of r) unit ≡ false → 21 ≡ unfit_in right unit r
      unfolding unfit_in
      unfit_unit e = rw (v, w, e)

      pub unfit_none : same (unit_of r) unit ≡ true → 0 ≡ unfit_in right unit r
      unfolding unfit_in
      unfit_none e = rw (v, w, e)

-- its unit, as it is told in brief
pub unit_told : (r : Record) (t : Brief) → t ≡ brief_of r → take t.size t.unit ≡ unit_of r
unfolding brief_of told_of unit_of
unit_told r t e = ap (λ (k : Brief). take k.size k.unit) e

-- ---- a book of a unit

pub from_parts : (unit : List ℕ) (floor count : ℕ) (orders : List Order) (room : List ℕ) (next : ℕ) (b : Book) → room ≡ kept_in 16 unit
    → next ≡ next_end (take count orders) → b ≡ book_with (length unit) room floor count next orders → b ≡ book_from unit floor count orders
unfolding book_from
from_parts unit floor count orders room next b r n e = e ∙ (λ i. book_with (length unit) (r i) floor count (n i) orders)

-- ---- a fresh book

module _ (unit : List ℕ) where
  pub fresh_bad : is_unit unit ≡ false → outcome 21 zero_book ≡ fresh_of unit
  unfolding fresh_of
  fresh_bad e = rw e

  -- a good code is kept in its room whole
  pub fresh_good : is_unit unit ≡ true → outcome 0 (book_from unit 0 0 (replicate 96 empty_order)) ≡ fresh_of unit
  unfolding fresh_of book_of book_from kept_in
  fresh_good e = rw (e, le-leb (length unit) 16 (unit_size unit e).1)
