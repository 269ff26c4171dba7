-- What a refusal tells: its number, as docs/01-scope.md and docs/REFUSALS.md count them, and its detail.
use Rattle.std.specs.Prelude.{ℕ}
use Rattle.refusal.specs.declared.Refusal.{Refusal}
use Rattle.refusal.specs.declared.Refusal.TheVariants.{UnknownAddress, FileSize, ForbiddenByte, Separators, LabelTwice, LabelsMissing, BadValue, BrokenRule, OtherUnit, RowDiffers, NoRoom, InvalidRecord, BadPlan, BadSheet, NotMarket, BadBook, NotTheBooksUnit, AlreadyHeld, EndsClosed, NoPlace, NotHeld, StruckAlready, CloseBelowFloor, AskedBelowFloor, WrongType, OutsideItsOrder, FifthStretch, OutOfTurn, WrongSum, WrongLength, TooLong, ForeignUnit, BadLine, PartlyStruck}

-- THE DEFINITION: its number
abbrev pub number_of : Refusal → ℕ
number_of UnknownAddress = 1
number_of FileSize = 2
number_of (ForbiddenByte d) = 3
number_of (Separators d) = 4
number_of (LabelTwice d) = 5
number_of (LabelsMissing d) = 6
number_of (BadValue d) = 7
number_of (BrokenRule d) = 8
number_of OtherUnit = 9
number_of RowDiffers = 10
number_of (NoRoom d) = 11
number_of InvalidRecord = 12
number_of (BadPlan d) = 13
number_of BadSheet = 14
number_of NotMarket = 16
number_of BadBook = 20
number_of NotTheBooksUnit = 21
number_of AlreadyHeld = 22
number_of EndsClosed = 23
number_of NoPlace = 24
number_of NotHeld = 25
number_of StruckAlready = 26
number_of CloseBelowFloor = 27
number_of AskedBelowFloor = 28
number_of WrongType = 29
number_of OutsideItsOrder = 31
number_of FifthStretch = 32
number_of OutOfTurn = 40
number_of WrongSum = 41
number_of WrongLength = 42
number_of TooLong = 43
number_of ForeignUnit = 44
number_of (BadLine d) = 50
number_of PartlyStruck = 52

-- THE DEFINITION: what is told beside the number, 0 where nothing is
abbrev pub detail_of : Refusal → ℕ
detail_of UnknownAddress = 0
detail_of FileSize = 0
detail_of (ForbiddenByte d) = d
detail_of (Separators d) = d
detail_of (LabelTwice d) = d
detail_of (LabelsMissing d) = d
detail_of (BadValue d) = d
detail_of (BrokenRule d) = d
detail_of OtherUnit = 0
detail_of RowDiffers = 0
detail_of (NoRoom d) = d
detail_of InvalidRecord = 0
detail_of (BadPlan d) = d
detail_of BadSheet = 0
detail_of NotMarket = 0
detail_of BadBook = 0
detail_of NotTheBooksUnit = 0
detail_of AlreadyHeld = 0
detail_of EndsClosed = 0
detail_of NoPlace = 0
detail_of NotHeld = 0
detail_of StruckAlready = 0
detail_of CloseBelowFloor = 0
detail_of AskedBelowFloor = 0
detail_of WrongType = 0
detail_of OutsideItsOrder = 0
detail_of FifthStretch = 0
detail_of OutOfTurn = 0
detail_of WrongSum = 0
detail_of WrongLength = 0
detail_of TooLong = 0
detail_of ForeignUnit = 0
detail_of (BadLine d) = d
detail_of PartlyStruck = 0
