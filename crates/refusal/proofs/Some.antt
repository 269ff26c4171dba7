-- A refusal's number is never 0, which stands for none; and a refusal that a `?` passes on is the same. Assumes nothing.
use Rattle.std.specs.Prelude.{Result, Ok, Err, IsErr, IsErrAnd}
use Rattle.refusal.specs.Numbers.{number_of}
use Rattle.refusal.specs.declared.Refusal.TheVariants.{UnknownAddress, FileSize, ForbiddenByte, Separators, LabelTwice, LabelsMissing, BadValue, BrokenRule, OtherUnit, RowDiffers, NoRoom, InvalidRecord, BadPlan, BadSheet, NotMarket, BadBook, NotTheBooksUnit, AlreadyHeld, EndsClosed, NoPlace, NotHeld, StruckAlready, CloseBelowFloor, AskedBelowFloor, WrongType, OutsideItsOrder, FifthStretch, OutOfTurn, WrongSum, WrongLength, TooLong, ForeignUnit, BadLine, PartlyStruck}
use Rattle.refusal.specs.declared.Refusal.{Refusal}
use lib.Dec.{lit≤}
use Prim.Native.Nat.{◌≤◌}
use mathlib.Core.Path.{◌≡◌, ap}
use native.Mathlib.Omega.{arith}

pub some_number : (e : Refusal) → 1 ≤ number_of e
some_number UnknownAddress = lit≤ tt
some_number FileSize = lit≤ tt
some_number (ForbiddenByte d) = lit≤ tt
some_number (Separators d) = lit≤ tt
some_number (LabelTwice d) = lit≤ tt
some_number (LabelsMissing d) = lit≤ tt
some_number (BadValue d) = lit≤ tt
some_number (BrokenRule d) = lit≤ tt
some_number OtherUnit = lit≤ tt
some_number RowDiffers = lit≤ tt
some_number (NoRoom d) = lit≤ tt
some_number InvalidRecord = lit≤ tt
some_number (BadPlan d) = lit≤ tt
some_number BadSheet = lit≤ tt
some_number NotMarket = lit≤ tt
some_number BadBook = lit≤ tt
some_number NotTheBooksUnit = lit≤ tt
some_number AlreadyHeld = lit≤ tt
some_number EndsClosed = lit≤ tt
some_number NoPlace = lit≤ tt
some_number NotHeld = lit≤ tt
some_number StruckAlready = lit≤ tt
some_number CloseBelowFloor = lit≤ tt
some_number AskedBelowFloor = lit≤ tt
some_number WrongType = lit≤ tt
some_number OutsideItsOrder = lit≤ tt
some_number FifthStretch = lit≤ tt
some_number OutOfTurn = lit≤ tt
some_number WrongSum = lit≤ tt
some_number WrongLength = lit≤ tt
some_number TooLong = lit≤ tt
some_number ForeignUnit = lit≤ tt
some_number (BadLine d) = lit≤ tt
some_number PartlyStruck = lit≤ tt

pub not_none : (e : Refusal) → number_of e ≡ 0 → ⊥
not_none e z = let h = some_number e in omega (arith, h)

pub passed : {T : Type 0} (r : Result T Refusal) (e : Refusal) → IsErr r × IsErrAnd r (λ y. y ≡ e) → r ≡ Err e
passed (Ok x) e h = absurd h.1
passed (Err y) e h = ap Err h.1
