-- Every refusal number is at most 13 and every detail fits 16 bits: the host's entries answer 65,536 times the number plus the detail.
-- Assumes nothing.
use Rattle.value.specs.declared.Value.{Value}
use Rattle.std.specs.Prelude.{None, Option, Some}
use Prim.Native.Nat.{ℕ, zero, suc, ◌+◌, ◌*◌, ◌≤◌, ◌<◌}
use Rattle.layout.proofs.Labels.{few, labels_length, kinds_length}
use Rattle.layout.specs.Layouts.{labels_of, kinds_of}
use Rattle.layout.specs.Rows.{text_at, row_of}
use Rattle.layout.specs.declared.Layout.{Layout}
use Rattle.layout.specs.declared.Layout.TheVariants.{Market, Mfrr, Revocation, Generic, Exclusion, Limitation, Secondary, VoltVar, Rejection, Reserve}
use Rattle.reader_accent.specs.Accents.{accents_of}
use Rattle.text_lines.proofs.Standing.{place_le, trues_missing}
use Rattle.text_lines.specs.Entries.{Entry, entry, place_of, entry_of, entries, stands, again, missing, column}
use Rattle.text_lines.specs.Lines.{Param, allowed_upto, line_step, lines, text_of, texts, is_sep, seps, framed}
use Rattle.value_list.specs.declared.Triple.{Triple}
use Rattle.value_name.specs.declared.MessageType.{MessageType}
use Rattle.text_keyline.specs.Keylines.{below, unit_at}
use Rattle.plan_row.specs.Rows.{Row, ca_at, ioa_at, type_at, is_at, RowRead, row_named, begun, plan_row_of as row_at}
use Rattle.plan.specs.Plans.{Plan, rows, wrong, onward, plan_from, plan_of, look_up, sought_of}
use Rattle.plan_row.specs.Rows.RowRead.{good as good_row, bad as bad_row}
use Rattle.reader.specs.Messages.{given, row_in, layout_in, entries_in, values_of, is_bad, column_record}
use Rattle.reader.specs.Reader.{is_there, number_or, valued, labelled, reading, record_in, unit_in, planned, answer_at, read_of}
use Rattle.reader.specs.Refusals.{answer}
use Rattle.text.specs.Refusals.{Refusal, refusal}
use Rattle.record.specs.Records.{Typed, joined, typed, bad_of}
use Rattle.record.specs.Records.Typed.{bad, good}
use Rattle.record.specs.declared.Cell.{Cell}
use Rattle.record.specs.declared.Record.{Record}
use Rattle.record_rules.specs.Rules.{Rule, rules_of, lowest, broken_in}
use Rattle.text.proofs.Tests.{by_test, and_parts, within_tells, cond_le}
use Rattle.text.specs.Bytes.{any, all, is, same, within}
use Rattle.text.specs.Lists.{count, sift}
use Rattle.value.specs.Kinds.{value_of}
use Rattle.value.specs.declared.Kind.{Kind}
use borrow.Author.Tests.{leb-true, ltb-true, not-false}
use lib.Dec.{eqb, leb, ltb}
use lib.ListN.{length, length-map}
use mathlib.Core.Bool.{Bool, true, false, not, cond}
use mathlib.Core.List.{List, [], ◌∷◌, map}
use mathlib.Core.Path.{◌≡◌, refl}
use native.Mathlib.Omega.{arith}

-- ---- an answer, by what is known of each refusal where it is come to

module _ (n d : ℕ) (b : Bool) (xs : List Refusal) (r : Record) where
  detail_step : (b ≡ true → d < 65536) → (b ≡ false → (answer xs r).detail < 65536) → (answer (refusal n d b ∷ xs) r).detail < 65536
  unfolding answer
  detail_step f g = by_test b (λ e. rw e (f e)) (λ e. rw e (g e))

taken_small : (r : Record) → (answer [] r).detail < 65536
unfolding answer
taken_small r = omega arith

abbrev is_low : Refusal → Bool
is_low x = leb x.number 13

numbers_low : (rs : List Refusal) (r : Record) → all is_low rs ≡ true → (answer rs r).number ≤ 13
unfolding answer all
numbers_low [] r h = omega arith
numbers_low (x ∷ xs) r h =
    let p = and_parts (is_low x) (all is_low xs) h in
    by_test x.holds (λ e. rw e (leb-true x.number 13 p.0)) (λ e. rw e (numbers_low xs r p.1))

-- ---- 7, a field of the layout

joined_le : (k n : ℕ) (g : Option Value) (t : Typed) → k ≤ n → bad_of t ≤ n → bad_of (joined k g t) ≤ n
unfolding joined
joined_le k n None t h j = h
joined_le k n (Some v) (bad i) h j = j
joined_le k n (Some v) (good vs) h j = j

typed_le : (k : ℕ) (ds : List Kind) (ts : List (List ℕ)) → bad_of (typed k ds ts) ≤ k + length ds
unfolding typed
typed_le k [] ts = omega arith
typed_le k (d ∷ ds) [] = omega arith
typed_le k (d ∷ ds) (t ∷ ts) =
    joined_le k (k + length (d ∷ ds)) (value_of d t) (typed (suc k) ds ts) (omega arith) (omega (arith, typed_le (suc k) ds ts))

bad_le : (l : Layout) (col : List (List ℕ)) → bad_of (values_of l col) ≤ 27
unfolding values_of
bad_le l col = omega (arith, typed_le 1 (kinds_of l) col, kinds_length l, few l)

-- ---- 8, a rule

abbrev is_rule : Rule → Bool
is_rule r = leb r.number 9

lowest_le : (rs : List Rule) → all is_rule rs ≡ true → lowest rs ≤ 9
unfolding lowest all
lowest_le [] h = omega arith
lowest_le (r ∷ rs) h =
    let p = and_parts (is_rule r) (all is_rule rs) h in
    cond_le r.holds (lowest_le rs p.1) (leb-true r.number 9 p.0)

all_rules : (l : Layout) (cs : List Cell) (gs : List Triple) → all is_rule (rules_of l cs gs) ≡ true
unfolding all rules_of
all_rules Market cs gs = refl
all_rules Mfrr cs gs = refl
all_rules Revocation cs gs = refl
all_rules Generic cs gs = refl
all_rules Exclusion cs gs = refl
all_rules Limitation cs gs = refl
all_rules Secondary cs gs = refl
all_rules VoltVar cs gs = refl
all_rules Rejection cs gs = refl
all_rules Reserve cs gs = refl

pub broken_le : (r : Record) → broken_in r ≤ 9
unfolding broken_in
broken_le r = lowest_le (rules_of r.layout r.cells r.gradients) (all_rules r.layout r.cells r.gradients)

valued_small : (l : Layout) (unit row : List ℕ) (col : List (List ℕ)) (r : Record) → (answer (valued l unit row col) r).detail < 65536
unfolding valued
valued_small l unit row col r =
    detail_step 7 (bad_of (values_of l col)) (is_bad (values_of l col)) _ r (λ e. omega (arith, bad_le l col))
    (λ e.
    detail_step 8 (broken_in (column_record l col)) (ltb 0 (broken_in (column_record l col))) _ r (λ e. omega (arith, broken_le (column_record l col)))
    (λ e.
    detail_step 9 0 (not (same unit (text_at col 2))) _ r (λ e. omega arith)
    (λ e. detail_step 10 0 (not (same row (row_of l col))) [] r (λ e. omega arith) (λ e. taken_small r))))

-- ---- 5 and 6, a field and a number of fields

again_le : (seen : List Entry) (ls : List (List ℕ)) (ps : List Param) → number_or (again seen (entries ls ps)) ≤ length ls
unfolding entries sift again entry_of
again_le seen ls [] = omega arith
again_le seen ls (p ∷ ps) =
    by_test (eqb (place_of ls p.label) 0) (λ e. rw e (again_le seen ls ps))
    (λ e.
    let x = entry (place_of ls p.label) p.value in
    rw e
    (by_test (stands x.at seen) (λ f. rw f (place_le ls p.label)) (λ f. rw f (again_le (x ∷ seen) ls ps))))

missing_le : (ls : List (List ℕ)) (es : List Entry) → missing 1 ls es ≤ length ls
missing_le ls es = omega (arith, trues_missing 1 ls es)

labels_few : (l : Layout) → length (labels_of l) ≤ 26
labels_few l = omega (arith, labels_length l, few l)

labelled_small : (l : Layout) (unit row : List ℕ) (ps : List Param) (r : Record) → (answer (labelled l unit row (entries (labels_of l) ps)) r).detail < 65536
unfolding labelled
labelled_small l unit row ps r =
    let es = entries (labels_of l) ps in
    let small = labels_few l in
    detail_step 5 (number_or (again [] es)) (is_there (again [] es)) _ r (λ e. omega (arith, again_le [] (labels_of l) ps, small))
    (λ e.
    detail_step 6 (missing 1 (labels_of l) es) (ltb 0 (missing 1 (labels_of l) es)) _ r (λ e. omega (arith, missing_le (labels_of l) es, small))
    (λ e. valued_small l unit row (column 1 (labels_of l) es) r))

-- ---- 2 to 4, an offset and a number of lines

count_le : {A : Type 0} (p : A → Bool) (xs : List A) → count p xs ≤ length xs
unfolding count
count_le p [] = omega arith
count_le p (x ∷ xs) = let h = count_le p xs in by_test (p x) (λ e. rw e (omega arith)) (λ e. rw e (omega arith))

step_le : (b : ℕ) (ls : List (List ℕ)) → length (line_step b ls) ≤ suc (length ls)
step_le b [] = by_test (is 10 b) (λ e. rw e (omega arith)) (λ e. rw e (omega arith))
step_le b (l ∷ ls) = by_test (is 10 b) (λ e. rw e (omega arith)) (λ e. rw e (omega arith))

lines_le : (s : List ℕ) → length (lines s) ≤ length s
unfolding lines
lines_le [] = omega arith
lines_le (b ∷ s) = omega (arith, step_le b (lines s), lines_le s)

seps_le : (file : List ℕ) → seps (texts file) ≤ length file
unfolding seps texts
seps_le file = omega (arith, count_le is_sep (map text_of (lines file)), length-map (lines file) text_of, lines_le file)

pub reading_small : (t : MessageType) (unit file : List ℕ) (r : Record) → (answer (reading t unit file) r).detail < 65536
unfolding reading entries_in
reading_small t unit file r =
    detail_step 2 0 (not (within 1 8192 (length file))) _ r (λ e. omega arith)
    (λ e.
    let size = (within_tells 1 8192 (length file)).0 (not-false (within 1 8192 (length file)) e) in
    detail_step 3 (allowed_upto (accents_of t) file) (ltb (allowed_upto (accents_of t) file) (length file)) _ r
    (λ e. omega (arith, ltb-true (allowed_upto (accents_of t) file) (length file) e, size.1))
    (λ e.
    detail_step 4 (seps (texts file)) (not (framed (texts file))) _ r (λ e. omega (arith, seps_le file, size.1))
    (λ e. labelled_small (layout_in t (given t file)) unit (row_in file) (given t file) r)))

-- ---- 13 and 1, a line of the plan

abbrev wrong_of : Plan → ℕ
wrong_of (rows rs) = 0
wrong_of (wrong n) = n

abbrev bad_line : RowRead → ℕ
bad_line (good_row r) = 0
bad_line (bad_row k) = k

named_le : (c i : ℕ) (u : Option (List ℕ)) (t : Option MessageType) → bad_line (row_named c i u t) ≤ 3
named_le c i None t = omega arith
named_le c i (Some u) None = omega arith
named_le c i (Some u) (Some t) = omega arith

begun_le : (above : List Row) (c i : Option ℕ) (u : Option (List ℕ)) (t : Option MessageType) → bad_line (begun above c i u t) ≤ 3
begun_le above None i u t = omega arith
begun_le above (Some c) None u t = omega arith
begun_le above (Some c) (Some i) u t = by_test (any (is_at c i) above) (λ e. rw e (omega arith)) (λ e. rw e (named_le c i u t))

row_le : (above : List Row) (s : List ℕ) → bad_line (row_at above s) ≤ 3
unfolding row_at
row_le above s = begun_le above (ca_at s) (ioa_at (below s)) (unit_at (below (below s))) (type_at (below (below (below s))))

after_le : (n m : ℕ) (r : RowRead) (next : Row → Plan) → bad_line r ≤ 3 → n + 3 ≤ m → ((x : Row) → wrong_of (next x) ≤ m) → wrong_of (onward n r next) ≤ m
after_le n m (good_row r) next h k f = f r
after_le n m (bad_row j) next h k f = omega arith

wrong_cond : (b : Bool) (rs : List Row) (p : Plan) (m : ℕ) → wrong_of p ≤ m → wrong_of (cond b (rows rs) p) ≤ m
wrong_cond true rs p m h = omega arith
wrong_cond false rs p m h = h

from_le : (room n : ℕ) (above : List Row) (s : List ℕ) → wrong_of (plan_from room n above s) ≤ n + 4 * room
unfolding plan_from
from_le zero n above s = wrong_cond (eqb (length s) 0) above (wrong n) (n + 4 * 0) (omega arith)
from_le (suc room) n above s =
    let next : Row → Plan = λ x. plan_from room (n + 4) (x ∷ above) (below (below (below (below s)))) in
    wrong_cond (eqb (length s) 0) above (onward n (row_at above s) next) (n + 4 * suc room)
    (after_le n (n + 4 * suc room) (row_at above s) next (row_le above s) (omega arith)
    (λ x. omega (arith, from_le room (n + 4) (x ∷ above) (below (below (below (below s)))))))

plan_le : (s : List ℕ) → wrong_of (plan_of s) ≤ 257
unfolding plan_of
plan_le s = by_test (eqb (length s) 0) (λ e. rw e (omega arith)) (λ e. rw e (from_le 64 1 [] s))

look_none : (c i : ℕ) (rs : List Row) → (look_up c i rs).detail ≡ 0
unfolding look_up
look_none c i [] = refl
look_none c i (r ∷ rs) = by_test (is_at c i r) (λ e. rw e) (λ e. rw e (look_none c i rs))

sought_le : (c i : ℕ) (p : Plan) → (sought_of c i p).detail ≤ wrong_of p
unfolding sought_of
sought_le c i (wrong n) = omega arith
sought_le c i (rows rs) = omega (arith, look_none c i rs)

-- ---- the theorems

pub detail_small : (ca ioa : ℕ) (plan file : List ℕ) → (read_of ca ioa plan file).detail < 65536
unfolding read_of answer_at planned
detail_small ca ioa plan file =
    let s = sought_of ca ioa (plan_of plan) in
    let r = record_in s.message file in
    detail_step 13 s.detail (eqb s.number 13) _ r (λ e. omega (arith, sought_le ca ioa (plan_of plan), plan_le plan))
    (λ e. detail_step 1 0 (eqb s.number 1) _ r (λ e. omega arith) (λ e. reading_small s.message (unit_in s) file r))

pub number_small : (ca ioa : ℕ) (plan file : List ℕ) → (read_of ca ioa plan file).number ≤ 13
unfolding read_of answer_at planned reading labelled valued all
number_small ca ioa plan file =
    let s = sought_of ca ioa (plan_of plan) in
    numbers_low (planned s file) (record_in s.message file) refl
