-- Refusals 5 and 6 as the code meets them, and what they lead to on the entries of a layout. Assumes nothing.
use Rattle.std.specs.Prelude.{Option}
use Prim.Native.Nat.{ℕ, ◌-◌, ◌≤◌, ◌<◌}
use Rattle.layout.proofs.Labels.{few, labels_length}
use Rattle.layout.specs.Layouts.{labels_of, size_of}
use Rattle.layout.specs.declared.Layout.{Layout}
use Rattle.text_lines.specs.Entries.{Entry, again, missing, column}
use Rattle.text_lines.specs.Places.{part_of, Placed, column_in}
use Rattle.text_lines.specs.declared.Span.{Span}
use Rattle.reader.proofs.Firsts.{answer_yes, answer_no}
use Rattle.reader.specs.Messages.{column_record}
use Rattle.reader.specs.Reader.{valued, labelled, is_there, number_or}
use Rattle.reader.specs.Refusals.{refused, answer}
use Rattle.reader.specs.State.{nowhere, placed_as, Stands, Cleared, continued}
use Rattle.reader.specs.State.{LocatedSaid}
use Rattle.text.proofs.Tests.{by_eq}
use Rattle.reader_walk.proofs.Told.{Fields, repeat_none, repeat_some, seen_le, missing_by, placed_by, column_by}
use Rattle.reader_walk.specs.declared.Marks.{Marks}
use borrow.Author.Tests.{lt-ltb, le-ltb, eq-eqb, ne_eqb}
use lib.Count.{ones}
use lib.ListN.{length, replicate}
use mathlib.Core.Bool.{false}
use mathlib.Core.List.{List, []}
use mathlib.Core.Path.{◌≡◌, refl, sym, ap, ◌∙◌, subst}
use native.Mathlib.Omega.{arith}

-- ---- the ways out of `place`

-- no refusal: the layout's places
abbrev found : Layout → Span → List Span → LocatedSaid
found l row places = record { number = 0; detail = 0; layout = l; size = 0; unit = replicate 16 0; row = row; places = places }

module _ (l : Layout) (row : Span) (m : Marks) (places : List Span) where
  pub twice : (m.again ≡ 0 → ⊥) → nowhere 5 m.again ≡ placed_as l row m places
  unfolding placed_as
  twice n = rw (ne_eqb m.again 0 n)

  module _ (once : m.again ≡ 0) (size : ℕ) (is_size : size ≡ size_of l) where
    pub absent : (size - ones m.seen ≡ 0 → ⊥) → nowhere 6 (size - ones m.seen) ≡ placed_as l row m places
    unfolding placed_as
    absent n = rw (eq-eqb m.again 0 once, sym is_size, ne_eqb (size - ones m.seen) 0 n)

    pub all_there : size - ones m.seen ≡ 0 → found l row places ≡ placed_as l row m places
    unfolding placed_as
    all_there e = rw (eq-eqb m.again 0 once, sym is_size, eq-eqb (size - ones m.seen) 0 e)

-- ---- what they lead to

-- to the answer of refusals 5 to 10 on the entries; where it is no refusal, every field has its place
pub record Onward (l : Layout) (file : List ℕ) (row : Span) (places : List Span) (es : List Entry) (x : LocatedSaid) : Type 0 where
  pub stands : x.number ≡ 0 → Stands file x
  pub kept : x.number ≡ 0 → (x.detail ≡ 0) × (x.layout ≡ l) × (x.row ≡ row) × (x.places ≡ places)
  pub cleared : (x.number ≡ 0 → ⊥) → Cleared x
  pub answers : (unit : List ℕ) → continued file unit x ≡ answer (labelled l unit (part_of file row) es) (column_record l (column 1 (labels_of l) es))

module _ (l : Layout) (file : List ℕ) (m : Marks) (places : List Span) (es : List Entry) (f : Fields file (labels_of l) m places es) where
  pub seen_few : ones m.seen ≤ size_of l
  seen_few = omega (arith, seen_le file (labels_of l) m places es f, labels_length l)

  missing_is : size_of l - ones m.seen ≡ missing 1 (labels_of l) es
  missing_is = ap (λ (n : ℕ). n - ones m.seen) (sym (labels_length l)) ∙ missing_by file (labels_of l) m places es f

  module _ (row : Span) (ordered : row.from ≤ row.to) (inside : row.to ≤ length file) where
    refused_5 : (m.again ≡ 0 → ⊥) → Onward l file row places es (nowhere 5 m.again)
    unfolding labelled continued
    refused_5 n =
        let e = repeat_some file (labels_of l) m places es f n in
        record {
          stands = λ z. absurd (omega (arith, z));
          kept = λ z. absurd (omega (arith, z));
          cleared = λ z. (refl, refl, refl);
          answers = λ unit. ap (λ (o : Option ℕ). refused 5 (number_or o)) (sym e) ∙ sym (answer_yes 5 _ _ _ _ (ap is_there e));
        }

    module _ (once : m.again ≡ 0) where
      no_repeat : is_there (again [] es) ≡ false
      no_repeat = ap is_there (repeat_none file (labels_of l) m places es f once)

      refused_6 : (size_of l - ones m.seen ≡ 0 → ⊥) → Onward l file row places es (nowhere 6 (size_of l - ones m.seen))
      unfolding labelled continued
      refused_6 n =
          let h : 0 < missing 1 (labels_of l) es = omega (arith, missing_is, n) in
          record {
            stands = λ z. absurd (omega (arith, z));
            kept = λ z. absurd (omega (arith, z));
            cleared = λ z. (refl, refl, refl);
            answers = λ unit. ap (refused 6) missing_is ∙ sym (answer_no 5 _ _ _ _ no_repeat ∙ answer_yes 6 _ _ _ _ (lt-ltb 0 (missing 1 (labels_of l) es) h));
          }

      module _ (all_seen : size_of l - ones m.seen ≡ 0) where
        none_missing : missing 1 (labels_of l) es ≡ 0
        none_missing = sym missing_is ∙ all_seen

        all_placed : Placed (size_of l) file places
        all_placed = subst (λ (n : ℕ). Placed n file places) (labels_length l) (placed_by file (labels_of l) m places es f)

        column_is : column_in (size_of l) file places ≡ column 1 (labels_of l) es
        column_is =
            ap (λ (n : ℕ). column_in n file places) (sym (labels_length l))
            ∙ column_by file (labels_of l) m places es f (omega (arith, few l, labels_length l))

        judged_on : Onward l file row places es (found l row places)
        unfolding labelled continued
        judged_on =
            let h : missing 1 (labels_of l) es ≤ 0 = omega (arith, none_missing) in
            record {
              stands = λ z. record { ordered = ordered; inside = inside; placed = all_placed };
              kept = λ z. (refl, refl, refl, refl);
              cleared = λ z. absurd (z refl);
              answers = λ unit.
                  ap (λ (c : List (List ℕ)). answer (valued l unit (part_of file row) c) (column_record l c)) column_is
                  ∙ sym (answer_no 5 _ _ _ _ no_repeat ∙ answer_no 6 _ _ _ _ (le-ltb 0 (missing 1 (labels_of l) es) h));
            }

    pub placed_onward : Onward l file row places es (placed_as l row m places)
    placed_onward =
        by_eq m.again 0
        (λ once.
        by_eq (size_of l - ones m.seen) 0
        (λ e. subst (Onward l file row places es) (all_there l row m places once (size_of l) refl e) (judged_on once e))
        (λ n. subst (Onward l file row places es) (absent l row m places once (size_of l) refl n) (refused_6 once n)))
        (λ n. subst (Onward l file row places es) (twice l row m places n) (refused_5 n))
