-- Document 01, "Both sides of each line": the cases marked P, as one table of texts and what each has to read as.
use Rattle.value_date.specs.declared.Date.{Date}
use Rattle.std.specs.Prelude.{ℕ, ℤ, pos, negsuc, List, [], ◌∷◌, None, Option, Some}
use Prim.Native.String.{String}
use Rattle.value_date.specs.Date.{date_of, instant_of}
use Rattle.value_number.specs.Number.{number_of}

pub data Answer : Type 0 where
  instant : ℕ → Answer
  thousandths : ℤ → Answer
  refused : Answer

-- a date by its instant, a number by its thousandths
pub data Sort : Type 0 where
  date : Sort
  number : Sort

abbrev pub from_date : Option Date → Answer
from_date (Some d) = instant (instant_of d)
from_date None = refused

abbrev pub from_number : Option ℤ → Answer
from_number (Some v) = thousandths v
from_number None = refused

unfoldable pub case_answer : Sort → List ℕ → Answer
case_answer date s = from_date (date_of s)
case_answer number s = from_number (number_of s)

pub record Case : Type 0 where
  pub sort : Sort
  pub text : String
  pub reads : Answer

-- negsuc 499 is -500
abbrev pub cases : List Case
cases =
    record { sort = date; text = "01-01-2001 00:00:00 S"; reads = instant 31618800 }
    ∷ record { sort = date; text = "31-12-2099 23:59:59 S"; reads = instant 3155756399 }
    ∷ record { sort = date; text = "29-10-2023 02:30:00 L"; reads = instant 751854600 }
    ∷ record { sort = date; text = "29-10-2023 02:30:00 S"; reads = instant 751858200 }
    ∷ record { sort = date; text = "29-02-2024 00:00:00 S"; reads = instant 762476400 }
    ∷ record { sort = date; text = "29-02-2023 00:00:00 S"; reads = refused }
    ∷ record { sort = number; text = "-0.5"; reads = thousandths (negsuc 499) }
    ∷ record { sort = number; text = "1.2345"; reads = refused }
    ∷ record { sort = number; text = "+3"; reads = refused }
    ∷ record { sort = number; text = "1000000"; reads = refused }
    ∷ record { sort = number; text = "-0"; reads = thousandths (pos 0) }
    ∷ []
