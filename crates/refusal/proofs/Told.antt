-- A refusal's number and detail tell which it is. Assumes nothing.
use Rattle.refusal.proofs.Some.{not_none}
use Rattle.refusal.specs.Numbers.{number_of, detail_of}
use Rattle.refusal.specs.Results.{number_in, detail_in}
use Rattle.refusal.specs.declared.Refusal.TheVariants.{UnknownAddress, FileSize, ForbiddenByte, Separators, LabelTwice, LabelsMissing, BadValue, BrokenRule, OtherUnit, RowDiffers, NoRoom, InvalidRecord, BadPlan, BadSheet, NotMarket, BadBook, NotTheBooksUnit, AlreadyHeld, EndsClosed, NoPlace, NotHeld, StruckAlready, CloseBelowFloor, AskedBelowFloor, WrongType, OutsideItsOrder, FifthStretch, OutOfTurn, WrongSum, WrongLength, TooLong, ForeignUnit, BadLine, PartlyStruck}
use Rattle.refusal.specs.declared.Refusal.{Refusal}
use Rattle.std.specs.Prelude.{ℕ, eqb, cond, Result, Ok, Err}
use mathlib.Core.Path.{◌≡◌, refl, sym, ap, ◌∙◌}

-- the refusal that has this number, with this detail
told_as : ℕ → ℕ → Refusal
told_as n d =
    cond (eqb n 1) UnknownAddress (
    cond (eqb n 2) FileSize (
    cond (eqb n 3) (ForbiddenByte d) (
    cond (eqb n 4) (Separators d) (
    cond (eqb n 5) (LabelTwice d) (
    cond (eqb n 6) (LabelsMissing d) (
    cond (eqb n 7) (BadValue d) (
    cond (eqb n 8) (BrokenRule d) (
    cond (eqb n 9) OtherUnit (
    cond (eqb n 10) RowDiffers (
    cond (eqb n 11) (NoRoom d) (
    cond (eqb n 12) InvalidRecord (
    cond (eqb n 13) (BadPlan d) (
    cond (eqb n 14) BadSheet (
    cond (eqb n 16) NotMarket (
    cond (eqb n 20) BadBook (
    cond (eqb n 21) NotTheBooksUnit (
    cond (eqb n 22) AlreadyHeld (
    cond (eqb n 23) EndsClosed (
    cond (eqb n 24) NoPlace (
    cond (eqb n 25) NotHeld (
    cond (eqb n 26) StruckAlready (
    cond (eqb n 27) CloseBelowFloor (
    cond (eqb n 28) AskedBelowFloor (
    cond (eqb n 29) WrongType (
    cond (eqb n 31) OutsideItsOrder (
    cond (eqb n 32) FifthStretch (
    cond (eqb n 40) OutOfTurn (
    cond (eqb n 41) WrongSum (
    cond (eqb n 42) WrongLength (
    cond (eqb n 43) TooLong (
    cond (eqb n 44) ForeignUnit (
    cond (eqb n 50) (BadLine d) (
    PartlyStruck)))))))))))))))))))))))))))))))))

told_back : (e : Refusal) → told_as (number_of e) (detail_of e) ≡ e
unfolding told_as
told_back UnknownAddress = refl
told_back FileSize = refl
told_back (ForbiddenByte d) = refl
told_back (Separators d) = refl
told_back (LabelTwice d) = refl
told_back (LabelsMissing d) = refl
told_back (BadValue d) = refl
told_back (BrokenRule d) = refl
told_back OtherUnit = refl
told_back RowDiffers = refl
told_back (NoRoom d) = refl
told_back InvalidRecord = refl
told_back (BadPlan d) = refl
told_back BadSheet = refl
told_back NotMarket = refl
told_back BadBook = refl
told_back NotTheBooksUnit = refl
told_back AlreadyHeld = refl
told_back EndsClosed = refl
told_back NoPlace = refl
told_back NotHeld = refl
told_back StruckAlready = refl
told_back CloseBelowFloor = refl
told_back AskedBelowFloor = refl
told_back WrongType = refl
told_back OutsideItsOrder = refl
told_back FifthStretch = refl
told_back OutOfTurn = refl
told_back WrongSum = refl
told_back WrongLength = refl
told_back TooLong = refl
told_back ForeignUnit = refl
told_back (BadLine d) = refl
told_back PartlyStruck = refl

pub same_refusal : (e f : Refusal) → number_of e ≡ number_of f → detail_of e ≡ detail_of f → e ≡ f
same_refusal e f n d = sym (told_back e) ∙ (λ i. told_as (n i) (d i)) ∙ told_back f

-- two answers that are refused alike, and alike where they are not refused
pub same_result : {A : Type 0} (x y : Result A Refusal) → number_in x ≡ number_in y → detail_in x ≡ detail_in y
    → ((u v : A) → x ≡ Ok u → y ≡ Ok v → u ≡ v) → x ≡ y
same_result (Ok u) (Ok v) n d k = ap Ok (k u v refl refl)
same_result (Ok u) (Err f) n d k = absurd (not_none f (sym n))
same_result (Err e) (Ok v) n d k = absurd (not_none e n)
same_result (Err e) (Err f) n d k = ap Err (same_refusal e f n d)
