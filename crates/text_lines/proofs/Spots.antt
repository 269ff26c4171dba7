-- Where lines, rows and values stand: one turn of a walk more, and what stands at each place. Assumes nothing.
use Rattle.std.specs.Prelude.{Some}
use Prim.Native.Nat.{ℕ, zero, suc, ◌+◌, ◌-◌, ◌≤◌, ◌<◌}
use Rattle.text.proofs.Cuts.{part_from, upto_take, upto_length, past_drop}
use Rattle.text.proofs.Tests.{by_test, by_eq}
use Rattle.text.specs.Bytes.{part, is, any, upto, past, first_of, trim}
use Rattle.text.specs.Lists.{onto, sift}
use Rattle.text_lines.proofs.Leaves.{trimmed_holds}
use Rattle.text_lines.proofs.Params.{param_split, no_param, equals_trim}
use Rattle.text_lines.proofs.Steps.{OneLine, of_line_lem, by_turn, lines_step, cut}
use Rattle.text_lines.specs.Entries.{Entry, entry, entry_of, entries, place_of, stands, value_at}
use Rattle.text_lines.specs.Lines.{Marked, mark, marked, if_inside, if_outside, inside, is_sep, lines, outside, param_in, params, text_of, texts}
use Rattle.text_lines.specs.Places.{HoldsText, part_of, trimmed_at, value_span, break_of}
use Rattle.text_lines.specs.Spellings.{Spelling, respell}
use Rattle.text_lines.specs.Spots.{LineAt, line_at, line_if, lines_from, lines_in, row_span, row_place, field_in, Spot, spot_if, spot_in, spots, place_at}
use lib.Dec.{eqb}
use lib.ListN.{length, get_or, take, drop, length-take, length-drop}
use lib.Seq.{drop-drop}
use mathlib.Core.Bool.{true, false, cond, false≢true}
use mathlib.Core.List.{List, [], ◌∷◌, ◌++◌, map, map-append}
use mathlib.Core.Path.{◌≡◌, refl, sym, ap, ap₂, ◌∙◌, subst}
use native.Mathlib.Omega.{arith}

-- ---- one turn of a walk: the line at a place, and the lines behind it

-- where the next line begins, counted in two ways
abbrev Moved : List ℕ → ℕ → ℕ → Type 0
Moved r k n =
    (m at : ℕ) → lines_from m (at + (length (upto (is 10) r) + 1)) (lines (drop (k + n) r)) ≡ lines_from m (at + (k + n)) (lines (drop (k + n) r))

moved : (r : List ℕ) (k n : ℕ) → OneLine r k → break_of (drop k r) ≡ Some n → Moved r k n
unfolding upto lines lines_from
moved = by_turn Moved (λ m at. refl)
    (λ b bs k n p h m at.
    let s : suc k + n ≡ suc (k + n) = omega arith in
    let l : at + (suc (length (upto (is 10) bs)) + 1) ≡ suc at + (length (upto (is 10) bs) + 1) = omega arith in
    let a : at + suc (k + n) ≡ suc at + (k + n) = omega arith in
    rw ((of_line_lem b p).0, s, l, a) (h m (suc at)))
    (λ bs m at. refl)
    (λ cs m at. refl)

pub lines_turn : (r : List ℕ) (k n m at : ℕ) → 0 < length r → OneLine r k → break_of (drop k r) ≡ Some n
    → lines_from m at (lines r)
    ≡ onto (line_if m at (take k r)) (lines_from (m + cond (is_sep (trim (take k r))) 1 0) (at + (k + n)) (lines (drop (k + n) r)))
unfolding lines_from
lines_turn r k n m at h l e =
    let w = cut r k n l e in
    let rest : List ℕ → List ℕ → List LineAt = λ l t.
    onto (line_if m at l) (lines_from (m + cond (is_sep (trim l)) 1 0) (at + (length (upto (is 10) r) + 1)) (lines t)) in
    ap (lines_from m at) (lines_step r h) ∙ ap₂ rest w.0 w.1
    ∙ ap (onto (line_if m at (take k r))) (moved r k n l e (m + cond (is_sep (trim (take k r))) 1 0) at)

-- ---- lines that stand in a file

pub record InFile (file : List ℕ) (s : LineAt) : Type 0 where
  pub inside : s.at + length s.line ≤ length file
  pub stands : s.line ≡ part s.at (s.at + length s.line) file

abbrev pub AllIn : List ℕ → List LineAt → Type 0
AllIn file [] = 0 ≤ 0
AllIn file (s ∷ ss) = InFile file s × AllIn file ss

onto_in : (file : List ℕ) (m at : ℕ) (l : List ℕ) (ss : List LineAt) → InFile file (line_at m at l) → AllIn file ss → AllIn file (onto (line_if m at l) ss)
unfolding line_if
onto_in file m at l ss h g = by_test (is_sep (trim l)) (λ e. rw e g) (λ e. rw e (h, g))

-- the first k bytes of what is left
part_in : (file r : List ℕ) (m at k : ℕ) → r ≡ drop at file → at + length r ≤ length file → k ≤ length r → InFile file (line_at m at (take k r))
part_in file r m at k e h g =
    let n : length (take k r) ≡ k = length-take k r ∙ omega arith in
    let s : at + length (take k r) - at ≡ k = omega arith in
    record { inside = omega arith; stands = rw s (ap (take k) e) }

upto_twice : (r : List ℕ) → upto (is 13) (upto (is 10) r) ≡ take (length (upto (is 13) (upto (is 10) r))) r
upto_twice r =
    let l = upto (is 10) r in
    upto_take (is 13) l ∙ ap (take (length (upto (is 13) l))) (upto_take (is 10) r) ∙ shorter (length (upto (is 13) l)) (length l) r (upto_length (is 13) l)
  where
    shorter : (a b : ℕ) (s : List ℕ) → a ≤ b → take a (take b s) ≡ take a s
    shorter zero b s h = refl
    shorter (suc a) zero s h = absurd (omega arith)
    shorter (suc a) (suc b) [] h = refl
    shorter (suc a) (suc b) (x ∷ s) h = ap (λ (t : List ℕ). x ∷ t) (shorter a b s (omega arith))

no_lines : (file : List ℕ) (m at : ℕ) (r : List ℕ) → length r ≡ 0 → AllIn file (lines_from m at (lines r))
unfolding lines_from lines
no_lines file m at [] z = omega arith
no_lines file m at (b ∷ bs) z = absurd (omega arith)

lines_in_lem : (file : List ℕ) (n m at : ℕ) (r : List ℕ) → length r ≤ n → r ≡ drop at file → (0 < length r → at + length r ≤ length file)
    → AllIn file (lines_from m at (lines r))
unfolding lines_from
lines_in_lem file zero m at r h e g = no_lines file m at r (omega arith)
lines_in_lem file (suc n) m at r h e g =
    by_eq (length r) 0 (no_lines file m at r)
    (λ z.
    let l = upto (is 10) r in
    let t = upto (is 13) l in
    let next = at + (length l + 1) in
    let some : 0 < length r = omega arith in
    let size = g some in
    let short : length t ≤ length r = omega (arith, upto_length (is 13) l, upto_length (is 10) r) in
    let here : InFile file (line_at m at t) =
    subst (λ (x : List ℕ). InFile file (line_at m at x)) (sym (upto_twice r)) (part_in file r m at (length t) e size short) in
    let left : past (is 10) r ≡ drop next file =
    past_drop (is 10) r ∙ ap (drop (length l + 1)) e ∙ drop-drop (length l + 1) at file in
    let left_size : length (past (is 10) r) ≡ length r - (length l + 1) = ap length (past_drop (is 10) r) ∙ length-drop (length l + 1) r in
    subst (λ (ls : List (List ℕ)). AllIn file (lines_from m at ls)) (sym (lines_step r some))
    (onto_in file m at t (lines_from (m + cond (is_sep (trim t)) 1 0) next (lines (past (is 10) r))) here
    (lines_in_lem file n (m + cond (is_sep (trim t)) 1 0) next (past (is 10) r) (omega arith) left (λ y. omega arith))))

pub all_in : (file : List ℕ) → AllIn file (lines_in file)
unfolding lines_in
all_in file = lines_in_lem file (length file) 0 0 file (omega arith) refl (λ z. omega arith)

-- ---- without their places they are the lines of Lines.antt

abbrev pub forget : LineAt → Marked
forget s = record { above = s.above; text = trim s.line }

forget_onto : (n at : ℕ) (t : List ℕ) (ss : List LineAt) → map forget (onto (line_if n at t) ss) ≡ onto (mark n (trim t)) (map forget ss)
unfolding line_if mark
forget_onto n at t ss = by_test (is_sep (trim t)) (λ e. rw e) (λ e. rw e)

pub marked_lines : (n at : ℕ) (ls : List (List ℕ)) → map forget (lines_from n at ls) ≡ marked n (map text_of ls)
unfolding lines_from marked text_of
marked_lines n at [] = refl
marked_lines n at (l ∷ ls) =
    let t = upto (is 13) l in
    forget_onto n at t (lines_from (n + cond (is_sep (trim t)) 1 0) (at + (length l + 1)) ls)
    ∙ ap (onto (mark n (trim t))) (marked_lines (n + cond (is_sep (trim t)) 1 0) (at + (length l + 1)) ls)

pub marked_in : (file : List ℕ) → map forget (lines_in file) ≡ marked 0 (texts file)
unfolding lines_in texts
marked_in file = marked_lines 0 0 (lines file)

-- ---- what stands at the place of a line, and of its value

first_less : (l : List ℕ) → any (is 61) l ≡ true → first_of 61 l < length l
unfolding any upto
first_less [] e = absurd (false≢true e)
first_less (x ∷ l) e = by_test (is 61 x) (λ t. rw t (omega arith)) (λ t. rw t (omega (arith, first_less l (rw t at e))))

module _ (file : List ℕ) (s : LineAt) (h : InFile file s) where
  abbrev end : ℕ
  end = s.at + length s.line

  pub line_holds : HoldsText file (trimmed_at s.at s.line) (trim s.line)
  line_holds =
      subst (λ (l : List ℕ). HoldsText file (trimmed_at s.at l) (trim l)) (sym h.stands) (trimmed_holds file s.at end (omega arith) h.inside)

  module _ (equals : any (is 61) s.line ≡ true) where
    abbrev value : ℕ
    value = s.at + first_of 61 s.line + 1

    value_inside : value ≤ end
    value_inside = omega (arith, first_less s.line equals)

    value_part : past (is 61) s.line ≡ part value end file
    value_part =
        let n : s.at + (first_of 61 s.line + 1) ≡ value = omega arith in
        past_drop (is 61) s.line ∙ ap (drop (first_of 61 s.line + 1)) h.stands ∙ part_from file s.at end (first_of 61 s.line + 1)
        ∙ ap (λ (k : ℕ). part k end file) n

    pub value_holds : HoldsText file (value_span s.at s.line) (trim (past (is 61) s.line))
    value_holds =
        subst (λ (l : List ℕ). HoldsText file (trimmed_at value l) (trim l)) (sym value_part)
        (trimmed_holds file value end value_inside h.inside)

-- ---- the row

pub row_holds : (file : List ℕ) (ss : List LineAt) → AllIn file ss → (length (sift if_inside (map forget ss)) ≡ 0 → ⊥)
    → HoldsText file (row_span ss) (get_or (sift if_inside (map forget ss)) 0 [])
unfolding sift row_span if_inside
row_holds file [] a n = absurd (n refl)
row_holds file (s ∷ ss) a n =
    by_test (eqb s.above 1) (λ e. rw e (line_holds file s a.0)) (λ e. rw e (row_holds file ss a.1 (rw e at n)))

-- ---- the entries of a file's fields are what stands at their places

abbrev pub entry_at : List ℕ → Spot → Entry
entry_at file e = entry e.at (part_of file e.place)

abbrev pub entries_at : List ℕ → List Spot → List Entry
entries_at file es = map (entry_at file) es

-- what is made of one line
module _ (sp : List Spelling) (file : List ℕ) (ls : List (List ℕ)) (s : LineAt) (h : InFile file s) (es : List Spot) (ps : List (List ℕ)) where
  abbrev Made : List Spot → List (List ℕ) → Type 0
  Made es ps = entries_at file es ≡ entries ls (params sp ps)

  field_made : Made es ps → Made (onto (spot_if (field_in sp ls s.line) (value_span s.at s.line)) es) (trim s.line ∷ ps)
  unfolding spot_if field_in entries params param_in sift entry_of
  field_made w =
      by_test (any (is 61) s.line)
      (λ e.
      rw (param_split s.line e, e)
      (by_test (eqb (place_of ls (respell sp (trim (upto (is 61) s.line)))) 0) (λ z. rw z w)
      (λ z. rw z (ap₂ (λ (v : List ℕ) (r : List Entry). entry (place_of ls (respell sp (trim (upto (is 61) s.line)))) v ∷ r) (value_holds file s h e).holds w))))
      (λ e. rw (no_param (trim s.line) (equals_trim s.line ∙ e), e) w)

pub spots_entries : (sp : List Spelling) (file : List ℕ) (ls : List (List ℕ)) (ss : List LineAt) → AllIn file ss
    → entries_at file (spots sp ls ss) ≡ entries ls (params sp (sift if_outside (map forget ss)))
unfolding spots sift spot_in if_outside entries params
spots_entries sp file ls [] a = refl
spots_entries sp file ls (s ∷ ss) a =
    let w = spots_entries sp file ls ss a.1 in
    by_test (eqb s.above 1) (λ e. rw e w)
    (λ e. rw e (field_made sp file ls s a.0 (spots sp ls ss) (sift if_outside (map forget ss)) w))

pub file_entries : (sp : List Spelling) (file : List ℕ) (ls : List (List ℕ))
    → entries_at file (spots sp ls (lines_in file)) ≡ entries ls (params sp (outside (texts file)))
unfolding outside
file_entries sp file ls =
    spots_entries sp file ls (lines_in file) (all_in file) ∙ ap (λ (ms : List Marked). entries ls (params sp (sift if_outside ms))) (marked_in file)

-- ---- the place of a field, with one more at the end

module _ (file : List ℕ) (k : ℕ) where
  pub value_place : (es : List Spot) → value_at k (entries_at file es) ≡ part_of file (place_at k es)
  unfolding value_at place_at
  value_place [] = refl
  value_place (e ∷ es) = by_test (eqb k e.at) (λ t. rw t) (λ t. rw t (value_place es))

  pub place_old : (es : List Spot) (e : Spot) → stands k (entries_at file es) ≡ true → place_at k (es ++ e ∷ []) ≡ place_at k es
  unfolding stands place_at
  place_old [] e h = absurd (false≢true h)
  place_old (x ∷ es) e h = by_test (eqb k x.at) (λ t. rw t) (λ t. rw t (place_old es e (rw t at h)))

  pub place_new : (es : List Spot) (e : Spot) → stands k (entries_at file es) ≡ false → eqb k e.at ≡ true → place_at k (es ++ e ∷ []) ≡ e.place
  unfolding stands place_at
  place_new [] e h t = rw t
  place_new (x ∷ es) e h t =
      by_test (eqb k x.at) (λ u. absurd (false≢true (sym (rw u at h)))) (λ u. rw u (place_new es e (rw u at h) t))

pub place_other : (k : ℕ) (es : List Spot) (e : Spot) → eqb k e.at ≡ false → place_at k (es ++ e ∷ []) ≡ place_at k es
unfolding place_at
place_other k [] e h = rw h
place_other k (x ∷ es) e h = by_test (eqb k x.at) (λ t. rw t) (λ t. rw t (place_other k es e h))

pub entries_more : (file : List ℕ) (es : List Spot) (e : Spot) → entries_at file (es ++ e ∷ []) ≡ entries_at file es ++ entry_at file e ∷ []
entries_more file es e = map-append (entry_at file) es (e ∷ [])

-- ---- every place lies in the file, and holds its value

abbrev AllPlaced : List ℕ → List Spot → Type 0
AllPlaced file [] = 0 ≤ 0
AllPlaced file (e ∷ es) = ((e.place.from ≤ e.place.to) × (e.place.to ≤ length file)) × AllPlaced file es

spots_placed : (sp : List Spelling) (file : List ℕ) (ls : List (List ℕ)) (ss : List LineAt) → AllIn file ss → AllPlaced file (spots sp ls ss)
unfolding spots sift spot_in spot_if field_in
spots_placed sp file ls [] a = omega arith
spots_placed sp file ls (s ∷ ss) a =
    let rest = spots_placed sp file ls ss a.1 in
    by_test (eqb s.above 1) (λ o. rw o rest)
    (λ o.
    by_test (any (is 61) s.line)
    (λ e.
    by_test (eqb (place_of ls (respell sp (trim (upto (is 61) s.line)))) 0) (λ z. rw (o, e, z) rest)
    (λ z. let w = value_holds file s a.0 e in rw (o, e, z) ((w.ordered, w.inside), rest)))
    (λ e. rw (o, e) rest))

place_in : (file : List ℕ) (k : ℕ) (es : List Spot) → AllPlaced file es → ((place_at k es).from ≤ (place_at k es).to) × ((place_at k es).to ≤ length file)
unfolding place_at
place_in file k [] a = (omega arith, omega arith)
place_in file k (e ∷ es) a = by_test (eqb k e.at) (λ t. rw t a.0) (λ t. rw t (place_in file k es a.1))

pub field_holds : (sp : List Spelling) (file : List ℕ) (ls : List (List ℕ)) (k : ℕ)
    → HoldsText file (place_at k (spots sp ls (lines_in file))) (value_at k (entries ls (params sp (outside (texts file)))))
field_holds sp file ls k =
    let es = spots sp ls (lines_in file) in
    let w = place_in file k es (spots_placed sp file ls (lines_in file) (all_in file)) in
    record { ordered = w.0; inside = w.1; holds = sym (value_place file k es) ∙ ap (value_at k) (file_entries sp file ls) }

-- the row holds the first line between the separators
pub text_row_in : (file : List ℕ) → (length (inside (texts file)) ≡ 0 → ⊥) → HoldsText file (row_place file) (get_or (inside (texts file)) 0 [])
unfolding row_place inside
text_row_in file n =
    subst (λ (ms : List Marked). HoldsText file (row_span (lines_in file)) (get_or (sift if_inside ms) 0 [])) (marked_in file)
    (row_holds file (lines_in file) (all_in file) (λ z. n (sym (ap (λ (ms : List Marked). length (sift if_inside ms)) (marked_in file)) ∙ z)))
