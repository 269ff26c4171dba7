-- In a file whose bytes are all allowed, every value that is read of it is tidy, and so is the column of a layout.
-- Assumes nothing.
use Rattle.std.specs.Prelude.{None, Option, Some}
use Prim.Native.Nat.{ℕ, zero, suc, ◌+◌, ◌-◌, ◌<◌}
use Rattle.text_lines.proofs.Params.{equals_trim, no_param, param_split}
use Rattle.text_lines.proofs.Steps.{lines_step}
use Rattle.text_lines.specs.Entries.{Entry, place_of, entry_of, entries, value_at, column}
use Rattle.text_lines.specs.Lines.{Marked, Param, allowed, allowed_from, allowed_upto, push, lines, text_of, texts, is_sep, mark, marked, if_outside, outside}
use Rattle.text_lines.specs.Lines.{param_of, respelt, param_in, params}
use Rattle.text_lines.specs.Spellings.{Spelling, opens, label_room}
use Rattle.text.proofs.Cuts.{same_refl}
use Rattle.text.proofs.Tests.{by_test, and_parts}
use Rattle.text.proofs.Trims.{skip_twice, end_twice, skip_end_lem, tidy_empty}
use Rattle.text.specs.Bytes.{all, any, first_of, is, is_blank, is_plain, keep, past, skip, skip_end, tidy, trim, upto}
use Rattle.text.specs.Lists.{onto, sift}
use borrow.Author.Tests.{eqb-true}
use lib.Dec.{ltb, eqb}
use lib.ListN.{length, drop}
use mathlib.Core.Bool.{Bool, true, false, ◌&&◌, ◌||◌, cond, false≢true}
use mathlib.Core.List.{List, [], ◌∷◌, map}
use mathlib.Core.Logic.{◌⊎◌, inl, inr, ⊎_elim}
use mathlib.Core.Path.{◌≡◌, refl, sym, ap, ◌∙◌}
use native.Mathlib.Omega.{arith}

-- ---- what holds of all holds of all that is cut out

module _ {A : Type 0} (p q : A → Bool) where
  pub all_upto : (s : List A) → all q s ≡ true → all q (upto p s) ≡ true
  unfolding all upto
  all_upto [] h = refl
  all_upto (x ∷ s) h =
      let o = and_parts (q x) (all q s) h in
      by_test (p x) (λ e. rw e) (λ e. rw e (rw o.0 (all_upto s o.1)))

  pub all_past : (s : List A) → all q s ≡ true → all q (past p s) ≡ true
  unfolding all past
  all_past [] h = refl
  all_past (x ∷ s) h =
      let o = and_parts (q x) (all q s) h in
      by_test (p x) (λ e. rw e o.1) (λ e. rw e (all_past s o.1))

  all_skip : (s : List A) → all q s ≡ true → all q (skip p s) ≡ true
  unfolding all skip
  all_skip [] h = refl
  all_skip (x ∷ s) h =
      let o = and_parts (q x) (all q s) h in
      by_test (p x) (λ e. rw e (all_skip s o.1)) (λ e. rw e h)

  all_keep : (x : A) (s : List A) → q x ≡ true → all q s ≡ true → all q (keep p x s) ≡ true
  unfolding all
  all_keep x [] e h = by_test (p x) (λ t. rw t) (λ t. rw t (rw e))
  all_keep x (y ∷ s) e h = rw e h

  all_skip_end : (s : List A) → all q s ≡ true → all q (skip_end p s) ≡ true
  unfolding all skip_end
  all_skip_end [] h = refl
  all_skip_end (x ∷ s) h =
      let o = and_parts (q x) (all q s) h in
      all_keep x (skip_end p s) o.0 (all_skip_end s o.1)

-- of what is made of each
all_map : {A B : Type 0} (f : A → B) (p : A → Bool) (q : B → Bool) → ((x : A) → p x ≡ true → q (f x) ≡ true)
    → (s : List A) → all p s ≡ true → all q (map f s) ≡ true
unfolding all
all_map f p q g [] h = refl
all_map f p q g (x ∷ s) h =
    let o = and_parts (p x) (all p s) h in
    rw (g x o.0) (all_map f p q g s o.1)

-- of what is made, where something is
abbrev if_some : {B : Type 0} → (B → Bool) → Option B → Bool
if_some q None = true
if_some q (Some y) = q y

all_onto : {B : Type 0} (q : B → Bool) (o : Option B) (ys : List B) → if_some q o ≡ true → all q ys ≡ true → all q (onto o ys) ≡ true
unfolding all
all_onto q None ys e h = h
all_onto q (Some y) ys e h = rw e h

all_sift : {A B : Type 0} (f : A → Option B) (p : A → Bool) (q : B → Bool) → ((x : A) → p x ≡ true → if_some q (f x) ≡ true)
    → (s : List A) → all p s ≡ true → all q (sift f s) ≡ true
unfolding all sift
all_sift f p q g [] h = refl
all_sift f p q g (x ∷ s) h =
    let o = and_parts (p x) (all p s) h in
    all_onto q (f x) (sift f s) (g x o.0) (all_sift f p q g s o.1)

-- ---- a plain text, trimmed, is tidy

trim_twice : (s : List ℕ) → trim (trim s) ≡ trim s
unfolding trim
trim_twice s =
    ap (skip_end is_blank) (skip_end_lem is_blank (skip is_blank s))
    ∙ end_twice is_blank (skip is_blank (skip is_blank s))
    ∙ ap (skip_end is_blank) (skip_twice is_blank s)

trim_plain : (s : List ℕ) → all is_plain s ≡ true → all is_plain (trim s) ≡ true
unfolding trim
trim_plain s h = all_skip_end is_blank is_plain (skip is_blank s) (all_skip is_blank is_plain s h)

pub trim_tidy : (s : List ℕ) → all is_plain s ≡ true → tidy (trim s) ≡ true
unfolding tidy
trim_tidy s h = rw (trim_plain s h, trim_twice s) (same_refl (trim s))

-- ---- lines: what stands after the first '=' of a line can be printed

-- what stands from the place n of a line on, up to its CR, can be printed
abbrev plain_from : ℕ → List ℕ → Bool
plain_from n l = all is_plain (upto (is 13) (drop n l))

-- what stands after the first '=' of a line, up to its CR, can be printed
abbrev pub plain_value : List ℕ → Bool
plain_value l = all is_plain (past (is 61) (upto (is 13) l))

-- the first line, from its place n on; and the values of the others
abbrev Neat : ℕ → List (List ℕ) → Bool
Neat n [] = true
Neat n (l ∷ ls) = plain_from n l && all plain_value ls

-- ---- one byte

abbrev Inner : ℕ → Type 0
Inner b = (is_plain b ≡ true) ⊎ (is 13 b ≡ true)

inner : (b : ℕ) (bs : List ℕ) → allowed b bs ≡ true → is 10 b ≡ false → Inner b
unfolding allowed
inner b [] h e = by_test (is_plain b) inl (λ p. absurd (false≢true (rw (p, e) at h)))
inner b (c ∷ cs) h e = by_test (is_plain b) inl (λ p. inr (and_parts (is 13 b) (is 10 c) (rw (p, e) at h)).0)

longer : (b : ℕ) (l : List ℕ) → Inner b → plain_from 0 l ≡ true → plain_from 0 (b ∷ l) ≡ true
unfolding all upto
longer b l i h =
    by_test (is 13 b) (λ e. rw e)
    (λ e. ⊎_elim (λ (p : is_plain b ≡ true). rw e (rw p h)) (λ (t : is 13 b ≡ true). rw t) i)

nothing_after : (n : ℕ) → plain_from n [] ≡ true
unfolding all upto
nothing_after zero = refl
nothing_after (suc n) = refl

lines_none : lines [] ≡ []
unfolding lines
lines_none = refl

head_is : {x y : List ℕ} {xs ys : List (List ℕ)} → x ∷ xs ≡ y ∷ ys → x ≡ y
head_is e = cc

no_line : {y : List ℕ} {ys : List (List ℕ)} → [] ≡ y ∷ ys → ⊥
no_line e = let z : ◌≡◌ {A = ℕ} 0 1 = cc in omega arith

first_line : (r : List ℕ) (l : List ℕ) (ls : List (List ℕ)) → lines r ≡ l ∷ ls → upto (is 10) r ≡ l
first_line [] l ls e = absurd (empty_line e)
  where
    empty_line : lines [] ≡ l ∷ ls → ⊥
    empty_line e = no_line (sym lines_none ∙ e)
first_line (b ∷ bs) l ls e = let h : 0 < length (b ∷ bs) = omega arith in head_is (sym (lines_step (b ∷ bs) h) ∙ e)

module _ (sp : List Spelling) where
  allowed_parts : (n b : ℕ) (bs : List ℕ) → allowed_from sp n (b ∷ bs) ≡ suc (length bs)
      → ((allowed b bs || (is 224 b && ltb 0 n)) ≡ true) × (allowed_from sp (cond (is 10 b) (label_room sp (upto (is 10) bs)) (n - 1)) bs ≡ length bs)
  unfolding allowed_from
  allowed_parts n b bs h =
      let m = cond (is 10 b) (label_room sp (upto (is 10) bs)) (n - 1) in
      by_test (allowed b bs || (is 224 b && ltb 0 n))
      (λ e. let z : suc (allowed_from sp m bs) ≡ suc (length bs) = rw e at h in (e, omega (arith, z)))
      (λ e. let z : 0 ≡ suc (length bs) = rw e at h in absurd (omega (arith, z)))

  -- where no byte of a label's part is left, a byte is one that is allowed anywhere
  plain_here : (b : ℕ) (bs : List ℕ) → (allowed b bs || (is 224 b && false)) ≡ true → allowed b bs ≡ true
  plain_here b bs h =
      by_test (allowed b bs) (λ e. e) (λ e. by_test (is 224 b) (λ t. absurd (false≢true (rw (e, t) at h))) (λ t. absurd (false≢true (rw (e, t) at h))))

  push_neat : (n b : ℕ) (bs : List ℕ) (ls : List (List ℕ)) → (allowed b bs || (is 224 b && ltb 0 n)) ≡ true → is 10 b ≡ false → Neat (n - 1) ls ≡ true
      → Neat n (push b ls) ≡ true
  unfolding all upto
  push_neat zero b bs [] h e k = rw (longer b [] (inner b bs (plain_here b bs h) e) refl)
  push_neat (suc n) b bs [] h e k = rw (nothing_after n)
  push_neat zero b bs (l ∷ ls) h e k =
      let o = and_parts (plain_from 0 l) (all plain_value ls) k in
      rw (longer b l (inner b bs (plain_here b bs h) e) o.0) o.1
  push_neat (suc n) b bs (l ∷ ls) h e k = let z : suc n - 1 ≡ n = omega arith in rw z at k

  -- ---- a line whose part before the first '=' is left out

  value_after : (l : List ℕ) → plain_from (first_of 61 l) l ≡ true → plain_value l ≡ true
  unfolding all upto past
  value_after [] h = refl
  value_after (x ∷ l) h =
      by_test (is 61 x)
      (λ e. let z : all is_plain (upto (is 13) (x ∷ l)) ≡ true = rw e at h in at_equals x l e z)
      (λ e.
      by_test (is 13 x) (λ t. rw t)
      (λ t. rw t (rw e (value_after l (rw e at h)))))
    where
      at_equals : (x : ℕ) (l : List ℕ) → is 61 x ≡ true → all is_plain (upto (is 13) (x ∷ l)) ≡ true → plain_value (x ∷ l) ≡ true
      at_equals x l e z = let q = eqb-true x 61 e in rw q (and_parts (is_plain 61) (all is_plain (upto (is 13) l)) (rw q at z)).1

  value_plain : (l : List ℕ) → plain_from (label_room sp l) l ≡ true → plain_value l ≡ true
  unfolding label_room
  value_plain l h =
      by_test (opens sp l) (λ e. value_after l (rw e at h))
      (λ e. all_past (is 61) is_plain (upto (is 13) l) (rw e at h))

  -- ---- all lines

  begin_neat : (r : List ℕ) (ls : List (List ℕ)) → lines r ≡ ls → Neat (label_room sp (upto (is 10) r)) ls ≡ true → all plain_value ls ≡ true
  unfolding all
  begin_neat r [] e h = refl
  begin_neat r (l ∷ ls) e h =
      let o = and_parts (plain_from (label_room sp (upto (is 10) r)) l) (all plain_value ls) h in
      let q : upto (is 10) r ≡ l = first_line r l ls e in
      rw (value_plain l (rw q at o.0)) o.1

  neat : (n : ℕ) (r : List ℕ) → allowed_from sp n r ≡ length r → Neat n (lines r) ≡ true
  unfolding lines all
  neat n [] h = refl
  neat n (b ∷ bs) h =
      let o = allowed_parts n b bs h in
      by_test (is 10 b)
      (λ e. rw e (rw (nothing_after n) (begin_neat bs (lines bs) refl (neat (label_room sp (upto (is 10) bs)) bs (rw e at o.1)))))
      (λ e. rw e (push_neat n b bs (lines bs) o.0 e (neat (n - 1) bs (rw e at o.1))))

  pub values_plain : (file : List ℕ) → allowed_upto sp file ≡ length file → all plain_value (lines file) ≡ true
  unfolding allowed_upto
  values_plain file h = begin_neat file (lines file) refl (neat (label_room sp (upto (is 10) file)) file h)

-- ---- parameters: their values are tidy. (A label may have an accent.)

abbrev pub tidy_param : Param → Bool
tidy_param p = tidy p.value

-- a text whose parameter, if it is one, has a tidy value
abbrev Worth : List ℕ → Bool
Worth t = if_some tidy_param (param_of t)

text_worth : (l : List ℕ) → plain_value l ≡ true → Worth (text_of l) ≡ true
unfolding text_of
text_worth l h =
    let s = upto (is 13) l in
    by_test (any (is 61) s) (λ e. rw (param_split s e) (trim_tidy (past (is 61) s) h)) (λ e. rw (no_param (trim s) (equals_trim s ∙ e)))

texts_worth : (sp : List Spelling) (file : List ℕ) → allowed_upto sp file ≡ length file → all Worth (texts file) ≡ true
unfolding texts
texts_worth sp file h = all_map text_of plain_value Worth text_worth (lines file) (values_plain sp file h)

abbrev worth_marked : Marked → Bool
worth_marked m = Worth m.text

marked_worth : (n : ℕ) (ts : List (List ℕ)) → all Worth ts ≡ true → all worth_marked (marked n ts) ≡ true
unfolding all marked mark
marked_worth n [] h = refl
marked_worth n (t ∷ ts) h =
    let o = and_parts (Worth t) (all Worth ts) h in
    let r = marked_worth (n + cond (is_sep t) 1 0) ts o.1 in
    all_onto worth_marked (mark n t) (marked (n + cond (is_sep t) 1 0) ts) (by_test (is_sep t) (λ e. rw e) (λ e. rw e o.0)) r

outside_one : (m : Marked) → worth_marked m ≡ true → if_some Worth (if_outside m) ≡ true
unfolding if_outside
outside_one m h = by_test (eqb m.above 1) (λ e. rw e) (λ e. rw e h)

outside_worth : (ts : List (List ℕ)) → all Worth ts ≡ true → all Worth (outside ts) ≡ true
unfolding outside
outside_worth ts h = all_sift if_outside worth_marked Worth outside_one (marked 0 ts) (marked_worth 0 ts h)

-- another spelling of its label changes no value
respelt_worth : (sp : List Spelling) (o : Option Param) → if_some tidy_param o ≡ true → if_some tidy_param (respelt sp o) ≡ true
respelt_worth sp None h = refl
respelt_worth sp (Some p) h = h

params_tidy : (sp : List Spelling) (ts : List (List ℕ)) → all Worth ts ≡ true → all tidy_param (params sp ts) ≡ true
unfolding params param_in
params_tidy sp ts h = all_sift (param_in sp) Worth tidy_param (λ t w. respelt_worth sp (param_of t) w) ts h

-- ---- the column: a field's value is tidy, and the empty text of a field that has none is too

abbrev tidy_entry : Entry → Bool
tidy_entry e = tidy e.value

entry_one : (ls : List (List ℕ)) (p : Param) → tidy_param p ≡ true → if_some tidy_entry (entry_of ls p) ≡ true
unfolding entry_of
entry_one ls p h = by_test (eqb (place_of ls p.label) 0) (λ e. rw e) (λ e. rw e h)

entries_tidy : (ls : List (List ℕ)) (ps : List Param) → all tidy_param ps ≡ true → all tidy_entry (entries ls ps) ≡ true
unfolding entries
entries_tidy ls ps h = all_sift (entry_of ls) tidy_param tidy_entry (entry_one ls) ps h

value_tidy : (k : ℕ) (es : List Entry) → all tidy_entry es ≡ true → tidy (value_at k es) ≡ true
unfolding all value_at
value_tidy k [] h = tidy_empty
value_tidy k (e ∷ es) h =
    let o = and_parts (tidy_entry e) (all tidy_entry es) h in
    by_test (eqb k e.at) (λ t. rw t o.0) (λ t. rw t (value_tidy k es o.1))

column_of : (k : ℕ) (ls : List (List ℕ)) (es : List Entry) → all tidy_entry es ≡ true → all tidy (column k ls es) ≡ true
unfolding all column
column_of k [] es h = refl
column_of k (l ∷ ls) es h = rw (value_tidy k es h) (column_of (suc k) ls es h)

-- THE LAW: the column of a layout's labels in a file of allowed bytes
pub column_tidy : (sp : List Spelling) (k : ℕ) (ls : List (List ℕ)) (file : List ℕ) → allowed_upto sp file ≡ length file
    → all tidy (column k ls (entries ls (params sp (outside (texts file))))) ≡ true
column_tidy sp k ls file h =
    column_of k ls (entries ls (params sp (outside (texts file))))
    (entries_tidy ls (params sp (outside (texts file))) (params_tidy sp (outside (texts file)) (outside_worth (texts file) (texts_worth sp file h))))
