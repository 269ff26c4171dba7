-- The half-bands of SR: two numbers between one `;`, so their halves are the two numbers; of a blank, two empty values. Assumes nothing.
use Prim.Native.Nat.{ℕ}
use Rattle.value_ask.specs.Values.{is_filled}
use Rattle.layout.specs.Fields.{command, technical, sr}
use Rattle.layout.specs.Layouts.{fields_of, kinds_of, no_kind, size_of}
use Rattle.layout.specs.Rows.{halves, tail_text}
use Rattle.layout.specs.declared.Layout.TheVariants.{Secondary}
use Rattle.value_list.proofs.Back.{never}
use Rattle.value_list.proofs.Texts.{number_wider}
use Rattle.value_list.specs.Forms.{numbers_text, ValidNumbers}
use Rattle.value_list.specs.Lists.{run_text, list_text}
use Rattle.value_list.specs.declared.Numbers.{Numbers as Few}
use Rattle.value_name.specs.declared.MessageType.{MessageType}
use Rattle.value_name.specs.declared.MessageType.TheVariants.{Sr}
use Rattle.record.specs.Records.{field_of}
use Rattle.record.specs.declared.Cell.{Cell}
use Rattle.text.proofs.Cuts.{upto_seam, past_seam, all_none}
use Rattle.text.proofs.Trims.{trim_none}
use Rattle.text.specs.Bytes.{is, within, is_blank, any, all, upto, past, trim, skip, skip_end}
use Rattle.value.specs.Texts.{Rooms, value_text}
use Rattle.value.specs.Valid.{Fits, Holds}
use Rattle.value.specs.Valid.Fits.{bands}
use Rattle.value.specs.Valid.Holds.{blank, filled}
use Rattle.value.specs.declared.Kind.{Kind}
use Rattle.value.specs.declared.Shape.TheVariants.{IsBands}
use Rattle.value.specs.declared.Value.{Value}
use Rattle.writer_form.proofs.Columns.{blank_text, field_holds}
use Rattle.writer_form.specs.Held.{Held, Halved}
use borrow.Author.Tests.{leb-true}
use lib.Dec.{lit≤}
use lib.ListN.{get_or}
use mathlib.Core.Bool.{true, false, true≢false}
use mathlib.Core.List.{List, [], ◌∷◌, ◌++◌, append-nil}
use mathlib.Core.Path.{◌≡◌, refl, sym, ap, ◌∙◌}
use native.Mathlib.Omega.{arith}

-- ---- two numbers: no byte of theirs is a `;` (59) or a blank (32)

module _ (a b : List ℕ) (p : all (within 45 57) a ≡ true) (q : all (within 45 57) b ≡ true) where
  two_halves : halves (a ++ 59 ∷ b) ≡ a ∷ b ∷ []
  two_halves =
      let no_mark : any (is 59) a ≡ false = all_none (is 59) (within 45 57) (never (within 45 57) 59 refl) a p in
      let no_blank : any is_blank a ≡ false = all_none is_blank (within 45 57) (never (within 45 57) 32 refl) a p in
      let none_after : any is_blank b ≡ false = all_none is_blank (within 45 57) (never (within 45 57) 32 refl) b q in
      rw (upto_seam (is 59) a 59 b no_mark refl, past_seam (is 59) a 59 b no_mark refl, trim_none a no_blank, trim_none b none_after)

  two_joined : tail_text (halves (a ++ 59 ∷ b)) ≡ 59 ∷ (a ++ 59 ∷ b)
  unfolding tail_text
  two_joined = ap tail_text two_halves ∙ ap (λ (t : List ℕ). 59 ∷ (a ++ 59 ∷ t)) (append-nil b)

numbers_two : (x : Few) → ValidNumbers 2 2 x → tail_text (halves (numbers_text 59 x)) ≡ 59 ∷ numbers_text 59 x
unfolding numbers_text list_text run_text
numbers_two x f =
    let e : x.count ≡ 2 = omega (arith, f.enough, f.few) in
    rw (e, append-nil)
    (two_joined _ _ (number_wider 45 57 (lit≤ tt) (lit≤ tt) x.first) (number_wider 45 57 (lit≤ tt) (lit≤ tt) x.second))

-- ---- of a value

fits_two : (t : MessageType) (r : Rooms) (v : Value) → Fits t r IsBands v → tail_text (halves (value_text t r v)) ≡ 59 ∷ value_text t r v
unfolding value_text
fits_two t r v (bands {x} f) = numbers_two x f

holds_two : (t : MessageType) (r : Rooms) (k : Kind) (v : Value) → k.shape ≡ IsBands → Holds t r k v → is_filled v ≡ true
    → tail_text (halves (value_text t r v)) ≡ 59 ∷ value_text t r v
holds_two t r k v s (blank b) e = absurd (true≢false (sym e))
holds_two t r k v s (filled f) e = fits_two t r v (rw s at f)

-- SR has its half-bands in field 6
pub halved : (r : Rooms) (cells : List Cell) → Held Secondary r cells → Halved Sr r (field_of cells 6)
unfolding fields_of kinds_of command technical sr
halved r cells held =
    record {
      narrow = held.narrow;
      halves_are =
          holds_two Sr r (get_or (kinds_of Secondary) 5 no_kind) (field_of cells 6) refl
          (field_holds Secondary r cells held 5 (leb-true 6 (size_of Secondary) refl));
    }

-- ---- a blank

no_halves : tail_text (halves []) ≡ 59 ∷ 59 ∷ []
unfolding tail_text upto past trim skip skip_end
no_halves = refl

pub blank_halves : (t : MessageType) (r : Rooms) (v : Value) → is_filled v ≡ false → 59 ∷ 59 ∷ [] ≡ tail_text (halves (value_text t r v))
blank_halves t r v e = rw (blank_text t r v e, no_halves)
