-- A book that a function is handed has a room of 16 bytes and 96 places. Assumes nothing.
use Rattle.book.specs.declared.Book.{Book}
use lib.ListN.{length}
use mathlib.Core.Path.{◌≡◌}

pub record Sized (b : Book) : Type 0 where
  pub wide : length b.unit ≡ 16
  pub long : length b.orders ≡ 96

pub sized : (b : Book) → length b.unit ≡ 16 → length b.orders ≡ 96 → Sized b
sized b wide long = record { wide = wide; long = long }
