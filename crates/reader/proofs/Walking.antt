-- Refusals 2 to 4 as the code meets them, and what a layout's fields lead to. Assumes nothing.
use Prim.Native.Nat.{ℕ, ◌≤◌, ◌<◌}
use Rattle.reader_line.specs.Items.{first_labels, second_labels}
use Rattle.layout.specs.Layouts.{labels_of, size_of, layout_of, type_of}
use Rattle.layout.specs.declared.Layout.{Layout}
use Rattle.layout.specs.declared.Layout.TheVariants.{Mfrr}
use Rattle.reader_accent.specs.Accents.{accents_of}
use Rattle.text_lines.proofs.Allowed.{allowed_length}
use Rattle.text_lines.specs.Entries.{entries, column}
use Rattle.text_lines.specs.Lines.{texts, framed, allowed_upto}
use Rattle.text_lines.specs.Places.{HoldsText}
use Rattle.text_lines.specs.Spots.{row_place, places_in}
use Rattle.text_lines.specs.declared.Span.{Span}
use Rattle.value_name.specs.declared.MessageType.{MessageType}
use Rattle.reader.proofs.Chosen.{is_mfrr_lem, not_mfrr, type_in}
use Rattle.reader.proofs.Firsts.{answer_yes, answer_no}
use Rattle.reader.proofs.Placing.{Onward, seen_few, placed_onward}
use Rattle.reader.specs.Messages.{given, row_in, layout_in, entries_in, places_of, column_record}
use Rattle.reader.specs.Reader.{labelled, reading, record_in, message_of}
use Rattle.reader.specs.Refusals.{refused, answer}
use Rattle.reader.specs.State.{nowhere, placed_as, continued, Walks, is_mfrr}
use Rattle.reader.specs.State.{LocatedSaid}
use Rattle.text.specs.Bytes.{within}
use Rattle.reader_walk.proofs.Told.{Fields, stop_by, whole_by, seps_by, framed_by, row_by, first_by, second_by}
use Rattle.reader_walk.specs.State.{found_of}
use Rattle.reader_walk.specs.declared.Found.{Found}
use borrow.Author.Tests.{lt-ltb, le-ltb, le-leb, lt-leb, eq-eqb, ne_eqb}
use lib.Count.{ones}
use lib.Dec.{eqb, ltb}
use lib.ListN.{length}
use mathlib.Core.Bool.{Bool, true, false, not, ◌&&◌}
use mathlib.Core.List.{List}
use mathlib.Core.Path.{◌≡◌, refl, sym, ap, ◌∙◌, subst}
use native.Mathlib.Omega.{arith}

module _ (t : MessageType) (file : List ℕ) where
  -- a refusal of the file, for every unit
  refusal_walks : (n d : ℕ) → (n ≡ 0 → ⊥) → ((unit : List ℕ) → refused n d ≡ message_of t unit file) → Walks t file (nowhere n d)
  unfolding continued
  refusal_walks n d h e =
      record { stands = λ z. absurd (h z); exact = λ z. absurd (h z); cleared = λ z. (refl, refl, refl); answers = λ unit. rw (ne_eqb n 0 h) (e unit) }

  too_wide : not (within 1 8192 (length file)) ≡ true → Walks t file (nowhere 2 0)
  unfolding message_of reading
  too_wide e = refusal_walks 2 0 (λ z. omega (arith, z)) (λ unit. sym (answer_yes 2 _ _ _ _ e))

  pub too_small : length file ≡ 0 → Walks t file (nowhere 2 0)
  too_small e =
      let h : length file < 1 = omega (arith, e) in
      too_wide (rw (lt-leb 1 (length file) h))

  pub too_large : 8192 < length file → Walks t file (nowhere 2 0)
  too_large h =
      let one : 1 ≤ length file = omega arith in
      too_wide (rw (le-leb 1 (length file) one, lt-leb (length file) 8192 h))

  module _ (some : length file ≡ 0 → ⊥) (few : length file ≤ 8192) where
    sized : not (within 1 8192 (length file)) ≡ false
    sized =
        let one : 1 ≤ length file = omega (arith, some) in
        rw (le-leb 1 (length file) one, le-leb (length file) 8192 few)

    module _ (r : Found) (w : r ≡ found_of t file) where
      pub bad_byte : r.stop < length file → Walks t file (nowhere 3 r.stop)
      unfolding message_of reading
      bad_byte h =
          let g : allowed_upto (accents_of t) file < length file = omega (arith, h, stop_by t file r w) in
          refusal_walks 3 r.stop (λ z. omega (arith, z))
          (λ unit. ap (refused 3) (stop_by t file r w) ∙ sym (answer_no 2 _ _ _ _ sized ∙ answer_yes 3 _ _ _ _ (lt-ltb (allowed_upto (accents_of t) file) (length file) g)))

      module _ (whole : length file ≤ r.stop) where
        clean : allowed_upto (accents_of t) file ≡ length file
        clean = omega (arith, whole, stop_by t file r w, allowed_length (accents_of t) file)

        no_bad : ltb (allowed_upto (accents_of t) file) (length file) ≡ false
        no_bad = let g : length file ≤ allowed_upto (accents_of t) file = omega (arith, clean) in le-ltb (allowed_upto (accents_of t) file) (length file) g

        unframed : not (framed (texts file)) ≡ true → Walks t file (nowhere 4 r.frame.seps)
        unfolding message_of reading
        unframed e =
            refusal_walks 4 r.frame.seps (λ z. omega (arith, z))
            (λ unit. ap (refused 4) (seps_by t file r w clean) ∙ sym (answer_no 2 _ _ _ _ sized ∙ answer_no 3 _ _ _ _ no_bad ∙ answer_yes 4 _ _ _ _ e))

        pub seps_not_two : (r.frame.seps ≡ 2 → ⊥) → Walks t file (nowhere 4 r.frame.seps)
        seps_not_two n =
            let e : (eqb r.frame.seps 2 && eqb r.frame.inside 1) ≡ false = rw (ne_eqb r.frame.seps 2 n) in
            unframed (ap not (framed_by t file r w clean ∙ e))

        pub not_one_inside : r.frame.seps ≡ 2 → (r.frame.inside ≡ 1 → ⊥) → Walks t file (nowhere 4 r.frame.seps)
        not_one_inside e n =
            let q : (eqb r.frame.seps 2 && eqb r.frame.inside 1) ≡ false = rw (eq-eqb r.frame.seps 2 e, ne_eqb r.frame.inside 1 n) in
            unframed (ap not (framed_by t file r w clean ∙ q))

        module _ (two : r.frame.seps ≡ 2) (one : r.frame.inside ≡ 1) where
          framed_yes : framed (texts file) ≡ true
          framed_yes = framed_by t file r w clean ∙ rw (eq-eqb r.frame.seps 2 two, eq-eqb r.frame.inside 1 one)

          row_exact : r.frame.row ≡ row_place file
          row_exact = ap (λ (y : Found). y.frame.row) (whole_by t file r w clean)

          row_holds : HoldsText file r.frame.row (row_in file)
          unfolding row_in
          row_holds = row_by t file r w clean framed_yes

          -- where a layout is the file's, what its fields lead to is what the file leads to
          laid : (l : Layout) → layout_in t (given t file) ≡ l → (places : List Span) → places ≡ places_in (accents_of t) (labels_of l) file → (x : LocatedSaid)
              → Onward l file r.frame.row places (entries (labels_of l) (given t file)) x → Walks t file x
          unfolding message_of reading record_in entries_in
          laid l e places p x h =
              record {
                stands = h.stands;
                exact = λ z.
                    let k = h.kept z in
                    let own = ap (λ (u : MessageType). places_in (accents_of u) (labels_of l) file) (sym (ap type_of (sym e) ∙ type_in t (given t file))) in
                    (k.0, k.2 ∙ row_exact, k.3 ∙ p ∙ own ∙ ap (λ (j : Layout). places_of j file) (sym k.1));
                cleared = h.cleared;
                answers = λ unit.
                    h.answers unit
                    ∙ ap (λ (x : List ℕ). answer (labelled l unit x (entries (labels_of l) (given t file))) (column_record l (column 1 (labels_of l) (entries (labels_of l) (given t file))))) row_holds.holds
                    ∙ ap (λ (k : Layout). answer (labelled k unit (row_in file) (entries (labels_of k) (given t file))) (column_record k (column 1 (labels_of k) (entries (labels_of k) (given t file))))) (sym e)
                    ∙ sym (answer_no 2 _ _ _ _ sized ∙ answer_no 3 _ _ _ _ no_bad ∙ answer_no 4 _ _ _ _ (ap not framed_yes));
              }

          firsts : Fields file (first_labels t) r.first r.places (entries (first_labels t) (given t file))
          unfolding given
          firsts = first_by t file r w clean

          seconds : Fields file (second_labels t) r.second r.others (entries (second_labels t) (given t file))
          unfolding given
          seconds = second_by t file r w clean

          -- the other layout of CB
          module _ (b : Bool) (told : b ≡ is_mfrr t r.second.seen) (yes : b ≡ true) where
            is : is_mfrr t r.second.seen ≡ true
            is = sym told ∙ yes

            mfrr_fields : Fields file (labels_of Mfrr) r.second r.others (entries (labels_of Mfrr) (given t file))
            mfrr_fields =
                subst (λ (u : MessageType). Fields file (second_labels u) r.second r.others (entries (second_labels u) (given t file)))
                (is_mfrr_lem file r.second r.others t seconds is).0 seconds

            mfrr_places : r.others ≡ places_in (accents_of t) (labels_of Mfrr) file
            mfrr_places =
                ap (λ (y : Found). y.others) (whole_by t file r w clean)
                ∙ ap (λ (u : MessageType). places_in (accents_of t) (second_labels u) file) (is_mfrr_lem file r.second r.others t seconds is).0

            pub mfrr_few : ones r.second.seen ≤ size_of Mfrr
            mfrr_few = seen_few Mfrr file r.second r.others _ mfrr_fields

            pub mfrr_walks : Walks t file (placed_as Mfrr r.frame.row r.second r.others)
            mfrr_walks =
                laid Mfrr (is_mfrr_lem file r.second r.others t seconds is).1 r.others mfrr_places _
                (placed_onward Mfrr file r.second r.others _ mfrr_fields r.frame.row row_holds.ordered row_holds.inside)

          -- the type's layout
          module _ (l : Layout) (is_first : l ≡ layout_of t) where
            first_fields : Fields file (labels_of l) r.first r.places (entries (labels_of l) (given t file))
            first_fields = subst (λ (k : Layout). Fields file (labels_of k) r.first r.places (entries (labels_of k) (given t file))) (sym is_first) firsts

            first_places : r.places ≡ places_in (accents_of t) (labels_of l) file
            first_places =
                ap (λ (y : Found). y.places) (whole_by t file r w clean) ∙ ap (λ (k : Layout). places_in (accents_of t) (labels_of k) file) (sym is_first)

            pub first_few : ones r.first.seen ≤ size_of l
            first_few = seen_few l file r.first r.places _ first_fields

            pub first_walks : (b : Bool) → b ≡ is_mfrr t r.second.seen → b ≡ false → Walks t file (placed_as l r.frame.row r.first r.places)
            first_walks b told not_so =
                laid l (not_mfrr file r.second r.others t seconds (sym told ∙ not_so) ∙ sym is_first) r.places first_places _
                (placed_onward l file r.first r.places _ first_fields r.frame.row row_holds.ordered row_holds.inside)
