-- The walk's invariant: what it has passed and what is left make the whole; its begin, its turn, and its two ends. Assumes nothing.
use Rattle.std.specs.Prelude.{None, Option, Some}
use Prim.Native.Nat.{ℕ, zero, suc, ◌+◌, ◌-◌, ◌≤◌, ◌<◌}
use Rattle.reader_accent.proofs.Table.{accents_good}
use Rattle.reader_accent.specs.Accents.{accents_of}
use Rattle.reader_line.specs.Items.{first_labels, second_labels, fielded, line_from, item_in, item_of}
use Rattle.reader_line.specs.declared.Item.{Item}
use Rattle.text_lines.proofs.Spots.{forget, entries_at, lines_turn, marked_in, file_entries}
use Rattle.text_lines.proofs.Allowed.{line_run_lem, allowed_step, allowed_stop}
use Rattle.text_lines.proofs.Spelt.{all_good}
use Rattle.text_lines.proofs.Steps.{OneLine, line_step, break_length, break_some, stop_length}
use Rattle.text_lines.specs.Entries.{stands, again, entries, standing}
use Rattle.text_lines.specs.Lines.{Marked, if_inside, inside, outside, is_sep, params, seps, lines, texts, allowed_from, allowed_upto}
use Rattle.text_lines.specs.Mask.{mask_of}
use Rattle.text_lines.specs.Places.{no_span, line_run, break_of}
use Rattle.text_lines.specs.Spellings.{Spelling}
use Rattle.text_lines.specs.Spots.{LineAt, line_if, lines_from, lines_in, row_span, row_place, Spot, spots, place_at, places_from, places_in}
use Rattle.text_lines.specs.declared.Span.{Span}
use Rattle.value_name.specs.declared.MessageType.{MessageType}
use Rattle.text.proofs.Tests.{by_test, by_le, cond_le}
use Rattle.text.specs.Bytes.{trim}
use Rattle.text.specs.Lists.{count, onto, sift}
use Rattle.reader_walk.proofs.Fields.{Kept, seen_small, marks_are}
use Rattle.reader_walk.proofs.Line.{frame_seps, frame_inside, first_few, second_few, Walked, walked_line}
use Rattle.reader_walk.specs.State.{noted_of, frame, frame_of, no_marks, marks_of, frame_in, whole_of, handed_of, found_of}
use Rattle.reader_walk.specs.declared.Found.{Found}
use Rattle.reader_walk.specs.declared.Frame.{Frame}
use Rattle.reader_walk.specs.declared.Marks.{Marks}
use Rattle.reader_walk.specs.declared.Noted.{Noted}
use borrow.Author.Tests.{eq-eqb, ne_eqb, lt-ltb, le-ltb}
use lib.Dec.{eqb, ltb}
use lib.ListN.{length, get_or, set, replicate, drop, length-take, length-drop, length-set, drop_of_length-le}
use lib.Seq.{drop-drop, get_or-set_same, get_or-set_other}
use mathlib.Core.Bool.{Bool, true, false, cond}
use mathlib.Core.List.{List, [], ◌∷◌, ◌++◌, map, append_assoc, append-nil}
use mathlib.Core.Path.{◌≡◌, refl, sym, ap, ap₂, ◌∙◌}
use native.Mathlib.Omega.{arith}

-- ---- one line, from at to its end, and what ends it

module _ (sp : List Spelling) (good : all_good sp ≡ true) (s : List ℕ) (at end : ℕ) (h : at < length s) (e : end ≡ at + line_run sp (drop at s)) where
  one_line : OneLine (drop at s) (line_run sp (drop at s))
  one_line = line_run_lem sp good (drop at s)

  pub end_near : end ≤ length s
  end_near = omega (arith, one_line.inside, length-drop at s)

  -- the same in what is left
  left : break_of (drop (line_run sp (drop at s)) (drop at s)) ≡ break_of (drop end s)
  left = ap break_of (drop-drop (line_run sp (drop at s)) at s) ∙ ap (λ (j : ℕ). break_of (drop j s)) (sym e)

  module _ (n : ℕ) (g : Some n ≡ break_of (drop end s)) where
    pub past_near : end + n ≤ length s
    past_near = omega (arith, end_near, break_length (drop end s) n (sym g), length-drop end s)

    forward : at < end + n
    forward =
        by_le (length s) end (λ j. omega arith)
        (λ j.
        let some_left : 0 < length (drop end s) = omega (arith, length-drop end s) in
        omega (arith, break_some (drop end s) n some_left (sym g)))

    pub shorter : length s - (end + n) < length s - at
    shorter = omega (arith, h, forward)

    rest : drop (line_run sp (drop at s) + n) (drop at s) ≡ drop (end + n) s
    rest =
        let sum : at + (line_run sp (drop at s) + n) ≡ end + n = omega arith in
        drop-drop (line_run sp (drop at s) + n) at s ∙ ap (λ (j : ℕ). drop j s) sum

    some_left : 0 < length (drop at s)
    some_left = omega (arith, length-drop at s)

    texts_step : texts (drop at s) ≡ trim (line_from sp s at) ∷ texts (drop (end + n) s)
    texts_step =
        line_step (drop at s) (line_run sp (drop at s)) n some_left one_line (left ∙ sym g)
        ∙ ap (λ (r : List ℕ). trim (line_from sp s at) ∷ texts r) rest

    lines_next : (m : ℕ) → lines_from m at (lines (drop at s))
        ≡ onto (line_if m at (line_from sp s at))
        (lines_from (m + cond (is_sep (trim (line_from sp s at))) 1 0) (end + n) (lines (drop (end + n) s)))
    lines_next m =
        let k = line_run sp (drop at s) in
        let next : at + (k + n) ≡ end + n = omega arith in
        lines_turn (drop at s) k n m at some_left one_line (left ∙ sym g)
        ∙ ap₂ (λ (r : List ℕ) (a : ℕ). onto (line_if m at (line_from sp s at)) (lines_from (m + cond (is_sep (trim (line_from sp s at))) 1 0) a (lines r))) rest next

    allowed_more : at + allowed_upto sp (drop at s) ≡ (end + n) + allowed_upto sp (drop (end + n) s)
    allowed_more = omega (arith, allowed_step sp good (drop at s) n (left ∙ sym g), ap (allowed_upto sp) rest)

-- ---- the invariant: with `done`, the lines passed, which the code does not keep

pub record Sofar (t : MessageType) (s : List ℕ) (at : ℕ) (f : Frame) (m : Marks) (spans : List Span) (o : Marks) (others : List Span) : Type 0 where
  pub near : at ≤ length s
  pub allowed : allowed_upto (accents_of t) s ≡ at + allowed_upto (accents_of t) (drop at s)
  pub few_seps : f.seps ≤ at
  pub few_inside : f.inside ≤ at
  pub counted : f.seps + seps (texts (drop at s)) ≡ seps (texts s)
  pub done : List LineAt
  pub all : done ++ lines_from f.seps at (lines (drop at s)) ≡ lines_in s
  pub walked : Walked t s f m spans o others done

-- ---- nothing passed

none_standing : (k : ℕ) (ls : List (List ℕ)) → 0 ≡ mask_of (standing k ls [])
unfolding standing stands mask_of
none_standing k [] = refl
none_standing k (l ∷ ls) = rw (sym (none_standing (suc k) ls))

none_at : (n k : ℕ) → get_or (replicate n no_span) k no_span ≡ no_span
none_at zero k = refl
none_at (suc n) zero = refl
none_at (suc n) (suc k) = none_at n k

nothing_kept : (sp : List Spelling) (file : List ℕ) (ls : List (List ℕ)) → Kept file ls no_marks (replicate 27 no_span) (spots sp ls [])
unfolding again stands spots sift place_at
nothing_kept sp file ls = record { long = refl; seen = none_standing 1 ls; repeat = refl; place = λ k a b. none_at 27 k }

pub begin : (t : MessageType) (s : List ℕ) → Sofar t s 0 (frame 0 0 no_span) no_marks (replicate 27 no_span) no_marks (replicate 27 no_span)
unfolding sift lines_in row_span
begin t s =
    record {
      near = omega arith;
      allowed = omega arith;
      few_seps = omega arith;
      few_inside = omega arith;
      counted = omega arith;
      done = [];
      all = refl;
      walked =
          record { inside = refl; row = refl; first = nothing_kept (accents_of t) s (first_labels t); second = nothing_kept (accents_of t) s (second_labels t) };
    }

-- ---- the places, with the first set back

-- two lists that are as long and have the same elements are the same
by_places : (xs ys : List Span) → length xs ≡ length ys → ((k : ℕ) → k < length xs → get_or xs k no_span ≡ get_or ys k no_span) → xs ≡ ys
by_places [] [] n h = refl
by_places [] (y ∷ ys) n h = absurd (omega arith)
by_places (x ∷ xs) [] n h = absurd (omega arith)
by_places (x ∷ xs) (y ∷ ys) n h =
    ap₂ (λ (z : Span) (zs : List Span). z ∷ zs) (h 0 (omega arith)) (by_places xs ys (omega arith) (λ k l. h (suc k) (omega arith)))

pub from_length : (n k : ℕ) (es : List Spot) → length (places_from n k es) ≡ n
unfolding places_from
from_length zero k es = refl
from_length (suc n) k es = ap suc (from_length n (suc k) es)

from_at : (n k : ℕ) (es : List Spot) (j : ℕ) → j < n → get_or (places_from n k es) j no_span ≡ place_at (k + j) es
unfolding places_from
from_at zero k es j h = absurd (omega arith)
from_at (suc n) k es zero h = let z : k ≡ k + 0 = omega arith in ap (λ (i : ℕ). place_at i es) z
from_at (suc n) k es (suc j) h =
    let z : suc k + j ≡ k + suc j = omega arith in
    from_at n (suc k) es j (omega arith) ∙ ap (λ (i : ℕ). place_at i es) z

-- the fields are numbered from 1
pub place_next : (es : List Spot) (k : ℕ) → k < 26 → get_or (places_from 26 1 es) k no_span ≡ place_at (suc k) es
place_next es k h = let n : 1 + k ≡ suc k = omega arith in from_at 26 1 es k h ∙ ap (λ (j : ℕ). place_at j es) n

pub set_back : (file : List ℕ) (ls : List (List ℕ)) (m : Marks) (spans : List Span) (es : List Spot) → Kept file ls m spans es
    → set spans 0 no_span ≡ no_span ∷ places_from 26 1 es
set_back file ls m spans es f =
    by_places (set spans 0 no_span) (no_span ∷ places_from 26 1 es) (length-set spans 0 no_span ∙ f.long ∙ ap suc (sym (from_length 26 1 es)))
    (λ k h. each k (omega (arith, h, length-set spans 0 no_span, f.long)))
  where
    each : (k : ℕ) → k < 27 → get_or (set spans 0 no_span) k no_span ≡ get_or (no_span ∷ places_from 26 1 es) k no_span
    each zero h = get_or-set_same spans 0 no_span no_span (omega (arith, f.long))
    each (suc k) h =
        get_or-set_other spans 0 (suc k) no_span no_span (λ z. omega (arith, z)) ∙ f.place (suc k) (omega arith) (omega arith)
        ∙ sym (place_next es k (omega arith))

-- ---- one turn

onto_append : {B : Type 0} (o : Option B) (xs ys : List B) → (xs ++ onto o []) ++ ys ≡ xs ++ onto o ys
onto_append None xs ys = ap (λ (l : List _). l ++ ys) (append-nil xs)
onto_append (Some y) xs ys = append_assoc xs (y ∷ []) ys

item_separator : (t : MessageType) (n at : ℕ) (l : List ℕ) → (item_in (accents_of t) t n at l).separator ≡ is_sep (trim l)
unfolding item_in fielded
item_separator t n at l = by_test (is_sep (trim l)) (λ e. rw e) (λ e. by_test (eqb n 1) (λ o. rw (e, o)) (λ o. rw (e, o)))

item_end : (t : MessageType) (n at : ℕ) (l : List ℕ) → (item_in (accents_of t) t n at l).end ≡ at + length l
unfolding item_in fielded
item_end t n at l = by_test (is_sep (trim l)) (λ e. rw e) (λ e. by_test (eqb n 1) (λ o. rw (e, o)) (λ o. rw (e, o)))

-- what the line reader answered is a line of the file
module _ (t : MessageType) (s : List ℕ) (at n : ℕ) (i : Item) (it : i ≡ item_of t s at n) where
  pub item_is : i ≡ item_in (accents_of t) t n at (line_from (accents_of t) s at)
  unfolding item_of
  item_is = it

  pub end_is : i.end ≡ at + line_run (accents_of t) (drop at s)
  end_is =
      let r = drop at s in
      ap (λ (y : Item). y.end) item_is ∙ item_end t n at (line_from (accents_of t) s at)
      ∙ omega (arith, length-take (line_run (accents_of t) r) r, (line_run_lem (accents_of t) (accents_good t) r).inside)

module _ (t : MessageType) (s : List ℕ) (at : ℕ) (f : Frame) (m : Marks) (spans : List Span) (o : Marks) (others : List Span)
    (w : Sofar t s at f m spans o others) where
  pub first_small : m.seen < 67108864
  first_small = seen_small s (first_labels t) m spans (spots (accents_of t) (first_labels t) w.done) w.walked.first (first_few t)

  pub second_small : o.seen < 67108864
  second_small = seen_small s (second_labels t) o others (spots (accents_of t) (second_labels t) w.done) w.walked.second (second_few t)

  turn : (end n : ℕ) (i : Item) → at < length s → end ≡ at + line_run (accents_of t) (drop at s) → Some n ≡ break_of (drop end s)
      → i ≡ item_in (accents_of t) t f.seps at (line_from (accents_of t) s at)
      → Sofar t s (end + n) (frame_of f i.separator i.value) (noted_of m i.first).marks (set spans (noted_of m i.first).into i.value)
      (noted_of o i.second).marks (set others (noted_of o i.second).into i.value)
  unfolding seps count
  turn end n i h e g it =
      let sp = accents_of t in
      let good = accents_good t in
      let l = line_from sp s at in
      let r = texts (drop (end + n) s) in
      let counts : (frame_of f i.separator i.value).seps ≡ f.seps + cond (is_sep (trim l)) 1 0 =
      frame_seps f i.separator i.value ∙ ap (λ (b : Bool). f.seps + cond b 1 0) (ap (λ (y : Item). y.separator) it ∙ item_separator t f.seps at l) in
      let c : f.seps + (cond (is_sep (trim l)) 1 0 + count is_sep r) ≡ count is_sep (texts s) = rw (texts_step sp good s at end h e n g) at w.counted in
      let a = ap (λ (ls : List LineAt). w.done ++ ls) (sym (lines_next sp good s at end h e n g f.seps)) ∙ w.all in
      let one : cond (is_sep (trim l)) 1 0 ≤ 1 = cond_le (is_sep (trim l)) (omega arith) (omega arith) in
      record {
        near = past_near sp good s at end h e n g;
        allowed = omega (arith, w.allowed, allowed_more sp good s at end h e n g);
        few_seps = omega (arith, w.few_seps, counts, one, forward sp good s at end h e n g);
        few_inside = omega (arith, w.few_inside, frame_inside f i.separator i.value, forward sp good s at end h e n g);
        counted = omega (arith, counts, c);
        done = w.done ++ onto (line_if f.seps at l) [];
        all =
            rw counts
            (onto_append (line_if f.seps at l) w.done (lines_from (f.seps + cond (is_sep (trim l)) 1 0) (end + n) (lines (drop (end + n) s))) ∙ a);
        walked = walked_line t s f m spans o others w.done w.walked at l i it;
      }

  -- the same of what the code has
  pub turned : (n : ℕ) (i : Item) (g : Frame) (a b : Noted) → at < length s → i ≡ item_of t s at f.seps → Some n ≡ break_of (drop i.end s)
      → g ≡ frame_of f i.separator i.value → a ≡ noted_of m i.first → b ≡ noted_of o i.second
      → Sofar t s (i.end + n) g a.marks (set spans a.into i.value) b.marks (set others b.into i.value)
  turned n i g a b h it br p q r = rw (p, q, r) (turn i.end n i h (end_is t s at f.seps i it) br (item_is t s at f.seps i it))

  -- ---- the two ends

  -- a byte that is not allowed: nothing is handed out
  module _ (end : ℕ) (h : at < length s) (e : end ≡ at + line_run (accents_of t) (drop at s)) (g : None ≡ break_of (drop end s)) where
    bad : break_of (drop (line_run (accents_of t) (drop at s)) (drop at s)) ≡ None
    bad = left (accents_of t) (accents_good t) s at end h e ∙ sym g

    pub stop_less : end < length s
    stop_less = omega (arith, stop_length (drop at s) (line_run (accents_of t) (drop at s)) bad, length-drop at s)

    pub stop : (n : ℕ) {r : Found} → n ≡ end → r ≡ handed_of (ltb n (length s)) n f m spans o others → r ≡ found_of t s
    unfolding found_of
    stop n n_is r_is =
        let here : allowed_upto (accents_of t) s ≡ end = omega (arith, w.allowed, allowed_stop (accents_of t) (accents_good t) (drop at s) bad) in
        r_is ∙ rw (n_is, lt-ltb end (length s) stop_less, here, ne_eqb end (length s) (λ z. omega (arith, z, stop_less)))

  -- the file's end
  module _ (over : length s ≤ at) where
    done_all : w.done ≡ lines_in s
    unfolding lines lines_from
    done_all = let a : w.done ++ [] ≡ lines_in s = rw (drop_of_length-le s over) at w.all in sym (append-nil w.done) ∙ a

    abbrev sp : List Spelling
    sp = accents_of t

    places_are : (ls : List (List ℕ)) (n : Marks) (ps : List Span) → Kept s ls n ps (spots sp ls w.done) → set ps 0 no_span ≡ places_in sp ls s
    unfolding places_in
    places_are ls n ps k = set_back s ls n ps (spots sp ls w.done) k ∙ ap (λ (ss : List LineAt). no_span ∷ places_from 26 1 (spots sp ls ss)) done_all

    marks_of_lem : (ls : List (List ℕ)) (n : Marks) (ps : List Span) → Kept s ls n ps (spots sp ls w.done)
        → n ≡ marks_of ls (entries ls (params sp (outside (texts s))))
    marks_of_lem ls n ps k =
        marks_are s ls n ps (spots sp ls w.done) k
        ∙ ap (marks_of ls) (ap (λ (ss : List LineAt). entries_at s (spots sp ls ss)) done_all ∙ file_entries sp s ls)

    frame_is : f ≡ frame_in s
    unfolding seps count texts lines inside row_place
    frame_is =
        let c : f.seps + 0 ≡ seps (texts s) = rw (drop_of_length-le s over) at w.counted in
        let z : f.seps ≡ f.seps + 0 = omega arith in
        let i : f.inside ≡ length (inside (texts s)) =
        w.walked.inside ∙ ap (λ (ss : List LineAt). length (sift if_inside (map forget ss))) done_all
        ∙ ap (λ (ms : List Marked). length (sift if_inside ms)) (marked_in s) in
        framed (z ∙ c) i (w.walked.row ∙ ap row_span done_all)
      where
        framed : {a b : ℕ} {p : Span} → f.seps ≡ a → f.inside ≡ b → f.row ≡ p → f ≡ frame a b p
        framed a b p = rw (sym a, sym b, sym p)

    clean : allowed_upto sp s ≡ length s
    unfolding allowed_upto allowed_from
    clean = let b : allowed_upto sp s ≡ at + 0 = rw (drop_of_length-le s over) at w.allowed in omega (arith, w.near)

    whole : handed_of false at f m spans o others ≡ whole_of t s
    whole =
        let size : at ≡ length s = omega (arith, w.near) in
        rw (
          size,
          frame_is,
          marks_of_lem (first_labels t) m spans w.walked.first,
          marks_of_lem (second_labels t) o others w.walked.second,
          places_are (first_labels t) m spans w.walked.first,
          places_are (second_labels t) o others w.walked.second,
        )

    pub finish : (n : ℕ) {r : Found} → n ≡ at → r ≡ handed_of (ltb n (length s)) n f m spans o others → r ≡ found_of t s
    unfolding found_of
    finish n n_is r_is = r_is ∙ rw (n_is, le-ltb at (length s) over, eq-eqb (allowed_upto sp s) (length s) clean) whole
