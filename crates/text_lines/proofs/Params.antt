-- A parameter line says the same however many blanks stand around its label, its '=' and its value.
-- Assumes nothing.
use Rattle.std.specs.Prelude.{None, Some}
use Prim.Native.Nat.{ℕ, zero, suc}
use Rattle.text_lines.specs.Lines.{is_sep, param, param_of}
use Rattle.text.proofs.Cuts.{skip_append, upto_seam, past_seam, any_seam, any_append, all_none}
use Rattle.text.proofs.Tests.{by_test, and_parts}
use Rattle.text.proofs.Trims.{skip_stop, skip_twice, end_stop, end_twice, skip_end_lem}
use Rattle.text.specs.Bytes.{any, all, is, is_blank, past, skip, keep, skip_end, trim, upto}
use borrow.Author.Tests.{eqb-true, ne_eqb}
use lib.Dec.{leb}
use lib.ListN.{length, replicate}
use mathlib.Core.Bool.{Bool, true, false, ◌||◌, and-false, false≢true}
use mathlib.Core.List.{List, [], ◌∷◌, ◌++◌, append_assoc}
use mathlib.Core.Path.{◌≡◌, refl, sym, ap, ap₂, ◌∙◌}
use native.Mathlib.Omega.{arith}

-- ---- trimming more than once, and trimming blanks

trim_skip : (a : List ℕ) → trim (skip is_blank a) ≡ trim a
unfolding trim
trim_skip a = ap (skip_end is_blank) (skip_twice is_blank a)

trim_end : (a : List ℕ) → trim (skip_end is_blank a) ≡ trim a
unfolding trim
trim_end a = ap (skip_end is_blank) (skip_end_lem is_blank a) ∙ end_twice is_blank (skip is_blank a)

end_blanks : (s b : List ℕ) → all is_blank b ≡ true → skip_end is_blank (s ++ b) ≡ skip_end is_blank s
unfolding all skip_end
end_blanks [] [] h = refl
end_blanks [] (x ∷ b) h =
    let o = and_parts (is_blank x) (all is_blank b) h in
    rw (end_blanks [] b o.1, o.0)
end_blanks (x ∷ s) b h = ap (keep is_blank x) (end_blanks s b h)

pub trim_front_blanks : (b s : List ℕ) → all is_blank b ≡ true → trim (b ++ s) ≡ trim s
unfolding trim
trim_front_blanks b s h = ap (skip_end is_blank) (skip_append is_blank b s h)

pub trim_end_blanks : (s b : List ℕ) → all is_blank b ≡ true → trim (s ++ b) ≡ trim s
trim_end_blanks s b h = sym (trim_end (s ++ b)) ∙ ap trim (end_blanks s b h) ∙ trim_end s

-- ---- trimming takes no '='

blank_not : (x : ℕ) → is_blank x ≡ true → is 61 x ≡ false
blank_not x e = ne_eqb x 61 (λ q. omega (arith, eqb-true x 32 e))

equals_skip : (t : List ℕ) → any (is 61) (skip is_blank t) ≡ any (is 61) t
unfolding any skip
equals_skip [] = refl
equals_skip (x ∷ t) = by_test (is_blank x) (λ e. rw (e, blank_not x e) (equals_skip t)) (λ e. rw e)

equals_keep : (x : ℕ) (t : List ℕ) → any (is 61) (keep is_blank x t) ≡ (is 61 x || any (is 61) t)
unfolding any
equals_keep x [] = by_test (is_blank x) (λ e. rw (e, blank_not x e)) (λ e. rw e)
equals_keep x (y ∷ t) = refl

equals_end : (t : List ℕ) → any (is 61) (skip_end is_blank t) ≡ any (is 61) t
unfolding any skip_end
equals_end [] = refl
equals_end (x ∷ t) = equals_keep x (skip_end is_blank t) ∙ ap (λ (b : Bool). is 61 x || b) (equals_end t)

pub equals_trim : (t : List ℕ) → any (is 61) (trim t) ≡ any (is 61) t
unfolding trim
equals_trim t = equals_end (skip is_blank t) ∙ equals_skip t

-- ---- a line with '=' and one without

-- a line with '=' after a, which has none: its label and value are trimmed, and trimming the line first changes nothing
pub param_of_line : (a v : List ℕ) → any (is 61) a ≡ false → param_of (trim (a ++ 61 ∷ v)) ≡ Some (param (trim a) (trim v))
unfolding trim param_of
param_of_line a v n =
    let m : any (is 61) (skip is_blank a) ≡ false = equals_skip a ∙ n in
    ap param_of (ap (skip_end is_blank) (skip_stop is_blank a 61 v refl) ∙ end_stop is_blank (skip is_blank a) 61 v refl)
    ∙ rw (
      any_seam (is 61) (skip is_blank a) 61 (skip_end is_blank v) refl,
      upto_seam (is 61) (skip is_blank a) 61 (skip_end is_blank v) m refl,
      past_seam (is 61) (skip is_blank a) 61 (skip_end is_blank v) m refl,
    )
    (ap₂ (λ (l w : List ℕ). Some (param l w)) (trim_skip a) (trim_end v))

split : (l : List ℕ) → any (is 61) l ≡ true → l ≡ upto (is 61) l ++ 61 ∷ past (is 61) l
unfolding any upto past
split [] e = absurd (false≢true e)
split (x ∷ l) e =
    by_test (is 61 x) (λ t. rw t (ap (λ (b : ℕ). b ∷ l) (eqb-true x 61 t))) (λ t. rw t (ap (λ (r : List ℕ). x ∷ r) (split l (rw t at e))))

none_before : (l : List ℕ) → any (is 61) (upto (is 61) l) ≡ false
unfolding any upto
none_before [] = refl
none_before (x ∷ l) = by_test (is 61 x) (λ t. rw t) (λ t. rw t (rw t (none_before l)))

pub param_split : (l : List ℕ) → any (is 61) l ≡ true → param_of (trim l) ≡ Some (param (trim (upto (is 61) l)) (trim (past (is 61) l)))
param_split l e = ap (λ (t : List ℕ). param_of (trim t)) (split l e) ∙ param_of_line (upto (is 61) l) (past (is 61) l) (none_before l)

pub no_param : (t : List ℕ) → any (is 61) t ≡ false → param_of t ≡ None
unfolding param_of
no_param t e = rw e

-- a separator has no '='
pub sep_equals : (t : List ℕ) → any (is 61) t ≡ true → is_sep t ≡ false
unfolding is_sep
sep_equals t e =
    by_test (all (is 43) t)
    (λ h. absurd (false≢true (sym (all_none (is 61) (is 43) (λ x q. ne_eqb x 61 (λ z. omega (arith, eqb-true x 43 q))) t h) ∙ e)))
    (λ h. rw (h, and-false (leb 5 (length t))))

-- ---- blanks

abbrev pub blanks : ℕ → List ℕ
blanks n = replicate n 32

all_blanks : (n : ℕ) → all is_blank (blanks n) ≡ true
unfolding all
all_blanks zero = refl
all_blanks (suc n) = all_blanks n

pub blanks_equals : (b : List ℕ) → all is_blank b ≡ true → any (is 61) b ≡ false
blanks_equals b h = all_none (is 61) is_blank blank_not b h

-- the blanks before and after the label, and before and after the value, change nothing
pub spaced : (i j k m : ℕ) (a v : List ℕ) → any (is 61) a ≡ false
    → param_of (trim ((blanks i ++ (a ++ blanks j)) ++ 61 ∷ (blanks k ++ (v ++ blanks m)))) ≡ param_of (trim (a ++ 61 ∷ v))
spaced i j k m a v n =
    param_of_line (blanks i ++ (a ++ blanks j)) (blanks k ++ (v ++ blanks m))
    (any_append (is 61) (blanks i) (a ++ blanks j) (blanks_equals (blanks i) (all_blanks i)) (any_append (is 61) a (blanks j) n (blanks_equals (blanks j) (all_blanks j))))
    ∙ ap₂ (λ (l w : List ℕ). Some (param l w)) (trim_front_blanks (blanks i) (a ++ blanks j) (all_blanks i) ∙ trim_end_blanks a (blanks j) (all_blanks j))
    (trim_front_blanks (blanks k) (v ++ blanks m) (all_blanks k) ∙ trim_end_blanks v (blanks m) (all_blanks m))
    ∙ sym (param_of_line a v n)

-- a line that begins with a label, with blanks or none before its '='
pub head_param : (label b v : List ℕ) → trim label ≡ label → any (is 61) label ≡ false → all is_blank b ≡ true
    → param_of (trim (label ++ (b ++ 61 ∷ v))) ≡ Some (param label (trim v))
head_param label b v t n h =
    ap (λ (l : List ℕ). param_of (trim l)) (sym (append_assoc label b (61 ∷ v)))
    ∙ param_of_line (label ++ b) v (any_append (is 61) label b n (blanks_equals b h))
    ∙ ap (λ (l : List ℕ). Some (param l (trim v))) (trim_end_blanks label b h ∙ t)
