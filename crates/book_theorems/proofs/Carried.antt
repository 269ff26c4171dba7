-- A book and the ledger that it carries, call by call and over whole runs. Assumes nothing.
use Prim.Native.Nat.{ℕ, ◌≤◌}
use Rattle.book.specs.Answers.{call_number, next_of, found, asked_of}
use Rattle.book.specs.Places.{book_of, formed_book}
use Rattle.book.specs.declared.Book.{Book}
use Rattle.book_ledger.specs.Calls.{Call}
use Rattle.book_ledger.specs.Keepers.{run, answers, accepted}
use Rattle.book_ledger.specs.Ledger.{Ledger, answer, step, in_force, ledgers}
use Rattle.book_theorems.proofs.Fitting.{Fits, fits_step}
use Rattle.book_theorems.proofs.Lift.{formed, lift_code, lift_next, lift_asked}
use Rattle.book_theorems.specs.Books.{books}
use lib.Dec.{eqb}
use mathlib.Core.Bool.{true, cond}
use mathlib.Core.List.{List, [], ◌∷◌}
use mathlib.Core.Path.{◌≡◌, refl, ap, ◌∙◌}

pub record Carries (s : Book) (b : Ledger) : Type 0 where
  pub is_book : s ≡ book_of b
  pub fits : Fits b

-- ---- one call

module _ {s : Book} {b : Ledger} (c : Carries s b) where
  pub carries_formed : formed_book s ≡ true
  carries_formed = ap formed_book c.is_book ∙ formed b c.fits

  pub same_floor : s.floor ≡ b.floor
  unfolding book_of
  same_floor = ap (λ (x : Book). x.floor) c.is_book

  pub same_code : (k : Call) → call_number k s ≡ answer k b
  same_code k = ap (call_number k) c.is_book ∙ lift_code b c.fits k

  pub carries_step : (k : Call) → Carries (next_of k s) (step k b)
  carries_step k = record { is_book = ap (next_of k) c.is_book ∙ lift_next b c.fits k; fits = fits_step k b c.fits }

  pub same_asked : (t : ℕ) → b.floor ≤ t → (asked_of t s).answer ≡ found (in_force t b)
  same_asked t h = ap (λ (x : Book). (asked_of t x).answer) c.is_book ∙ lift_asked b c.fits t h

-- ---- calls one after another

pub carries_run : (ks : List Call) {s : Book} {b : Ledger} → Carries s b → Carries (run books ks s) (run ledgers ks b)
carries_run [] c = c
carries_run (k ∷ ks) c = carries_run ks (carries_step c k)

pub same_answers : (ks : List Call) {s : Book} {b : Ledger} → Carries s b → answers books ks s ≡ answers ledgers ks b
same_answers [] c = refl
same_answers (k ∷ ks) c = λ i. same_code c k i ∷ same_answers ks (carries_step c k) i

pub same_accepted : (ks : List Call) {s : Book} {b : Ledger} → Carries s b → accepted books ks s ≡ accepted ledgers ks b
same_accepted [] c = refl
same_accepted (k ∷ ks) c =
    let rest = same_accepted ks (carries_step c k) in
    λ i. cond (eqb (same_code c k i) 0) (k ∷ rest i) (rest i)

-- THE LAW: from the book of a ledger that fits, the two runs
module _ (ks : List Call) (b : Ledger) (g : Fits b) where
  itself : Carries (book_of b) b
  itself = record { is_book = refl; fits = g }

  pub lift_run : run books ks (book_of b) ≡ book_of (run ledgers ks b)
  lift_run = (carries_run ks itself).is_book

  pub lift_answers : answers books ks (book_of b) ≡ answers ledgers ks b
  lift_answers = same_answers ks itself

  pub lift_accepted : accepted books ks (book_of b) ≡ accepted ledgers ks b
  lift_accepted = same_accepted ks itself
