-- THE LAW: a value is read from its own text, where what is a number stands in its shortest form and a word with its space. One line for each
-- shape, then once for all kinds. Assumes nothing.
use Rattle.value_date.specs.declared.Date.{Date}
use Rattle.std.specs.Prelude.{None, Option, Some}
use Prim.Native.Nat.{ℕ, ◌≤◌}
use Rattle.value_date.proofs.Own.{date_own}
use Rattle.value_date.specs.Date.{date_of}
use Rattle.value_list.proofs.Own.{numbers_own, gradients_own}
use Rattle.value_list.specs.Forms.{numbers_in, gradients_in, gradients_text, kept_triples}
use Rattle.value_list.specs.declared.Gradients.{Gradients}
use Rattle.value_list.specs.declared.Numbers.{Numbers as Few}
use Rattle.value_list.specs.declared.Triple.{Triple}
use Rattle.value_name.proofs.Own.{identifier_own, sequence_own}
use Rattle.value_name.specs.Names.{identifier_of, identifier_text, is_unit, sequence_of}
use Rattle.value_name.specs.declared.MessageType.{MessageType}
use Rattle.value_number.proofs.Own.{number_own}
use Rattle.value_number.specs.Number.{number_of, are_short, number_text}
use Rattle.text.proofs.Tests.{by_test, and_parts}
use Rattle.value.specs.Kinds.{id_from, count_from, date_from, amount_from, got_word, list_from, setting_from, shape_of, value_of, triples_from}
use Rattle.value.specs.Kinds.{voltage, regulator, change, reactive}
use Rattle.value.specs.Texts.{Rooms, value_text, is_written}
use Rattle.value.specs.declared.Kind.{Kind}
use Rattle.value.specs.declared.Shape.{Shape}
use Rattle.value.specs.declared.Shape.TheVariants.{IsId, IsUnit, IsWhen, IsAmount, IsCount, IsReason, IsNote, IsWord}
use Rattle.value.specs.declared.Shape.TheVariants.{IsProfile, IsBands, IsTriples, IsVoltage, IsRegulator, IsChange, IsReactive}
use Rattle.value.specs.declared.Value.{Value}
use Rattle.value.specs.declared.Value.TheVariants.{Blank, Id, When, Amount, Count, Reason, Note, List as Numbers, Triples}
use Rattle.value_word.proofs.RoundTrip.{word_is}
use Rattle.value_word.proofs.Volts.{volt_is}
use Rattle.value_word.specs.Words.{word_in, volt_in, is_joined}
use borrow.Author.Tests.{eqb-true, not-true}
use lib.Dec.{eqb, leb, lit≤}
use lib.IntN.{ℤ}
use lib.ListN.{length, take}
use lib.Seq.{take_all}
use mathlib.Core.Bool.{Bool, true, false, ◌&&◌, cond}
use mathlib.Core.List.{List, [], ◌∷◌}
use mathlib.Core.Path.{◌≡◌, refl, sym, ap, ◌∙◌}
use native.Mathlib.Nat.{le_refl}
use native.Mathlib.Omega.{arith}

-- what stands beside a value: a text in its room as it stands in the file, triples as they are read, an identifier's own type
abbrev pub Beside : MessageType → Rooms → Shape → List ℕ → Type 0
Beside t r (IsId u) s = u ≡ t
Beside t r IsUnit s = r.unit ≡ s
Beside t r IsWhen s = Unit
Beside t r IsAmount s = Unit
Beside t r IsCount s = Unit
Beside t r IsReason s = r.reason ≡ s
Beside t r IsNote s = r.note ≡ s
Beside t r (IsWord first last) s = Unit
Beside t r IsProfile s = Unit
Beside t r IsBands s = Unit
Beside t r IsTriples s = r.gradients ≡ kept_triples (gradients_in s)
Beside t r IsVoltage s = Unit
Beside t r IsRegulator s = Unit
Beside t r IsChange s = Unit
Beside t r IsReactive s = Unit

-- ---- from what a leaf reads to a value's own text

module _ (t : MessageType) (r : Rooms) (s : List ℕ) (v : Value) where
  id_own : (u : MessageType) (d : Option ℕ) → u ≡ t → identifier_of u s ≡ d → id_from d ≡ Some v → value_text t r v ≡ s
  unfolding value_text
  id_own u (Some n) b f e =
      let i : v ≡ Id n = cc in
      rw i (ap (λ (x : MessageType). identifier_text x n) (sym b) ∙ identifier_own u s n f)
  id_own u None b f e = let z : ◌≡◌ {A = ℕ} 0 1 = cc in absurd (omega arith)

  count_own : (d : Option ℕ) → sequence_of s ≡ d → count_from d ≡ Some v → value_text t r v ≡ s
  unfolding value_text
  count_own (Some n) f e = let i : v ≡ Count n = cc in rw i (sequence_own s n f)
  count_own None f e = let z : ◌≡◌ {A = ℕ} 0 1 = cc in absurd (omega arith)

  when_own : (d : Option Date) → date_of s ≡ d → date_from d ≡ Some v → value_text t r v ≡ s
  unfolding value_text
  when_own (Some d) f e = let i : v ≡ When d = cc in rw i (date_own s d f)
  when_own None f e = let z : ◌≡◌ {A = ℕ} 0 1 = cc in absurd (omega arith)

  -- a text whose room is the text itself
  text_own : (make : ℕ → Value) (room : List ℕ) (test : Bool) → ((n : ℕ) → value_text t r (make n) ≡ take n room) → room ≡ s
      → cond test (Some (make (length s))) None ≡ Some v → value_text t r v ≡ s
  text_own make room true shown b e =
      let i : v ≡ make (length s) = cc in
      rw i (shown (length s) ∙ ap (take (length s)) b ∙ take_all (length s) s (le_refl (length s)))
  text_own make room false shown b e = let z : ◌≡◌ {A = ℕ} 0 1 = cc in absurd (omega arith)

  word_own : (first last : ℕ) (w : Option ℕ) → word_in first last s ≡ w → got_word w ≡ Some v → value_text t r v ≡ s
  unfolding value_text
  word_own first last (Some w) f e = let i : v ≡ Value.Word w = cc in rw i (word_is first last s w f)
  word_own first last None f e = let z : ◌≡◌ {A = ℕ} 0 1 = cc in absurd (omega arith)

  -- ---- numbers, in their shortest form, and settings with the space

  module _ (short : is_written v s ≡ true) where
    volt_own : (w : Option ℕ) → volt_in s ≡ w → got_word w ≡ Some v → value_text t r v ≡ s
    unfolding value_text is_written
    volt_own (Some w) f e = let i : v ≡ Value.Word w = cc in rw i (volt_is s w (not-true (is_joined s) (rw i at short)) f)
    volt_own None f e = let z : ◌≡◌ {A = ℕ} 0 1 = cc in absurd (omega arith)

    amount_own : (n : Option ℤ) → number_of s ≡ n → amount_from n ≡ Some v → value_text t r v ≡ s
    unfolding value_text is_written
    amount_own (Some n) f e = let i : v ≡ Amount n = cc in rw i (number_own s n f (rw i at short))
    amount_own None f e = let z : ◌≡◌ {A = ℕ} 0 1 = cc in absurd (omega arith)

    -- of a quantity of its own, or else another value
    setting_own : (make : ℤ → Value) (other : Option Value) (n : Option ℤ) → ((x : ℤ) → value_text t r (make x) ≡ number_text x)
        → ((x : ℤ) → is_written (make x) s ≡ are_short s) → (other ≡ Some v → value_text t r v ≡ s)
        → number_of s ≡ n → setting_from make n other ≡ Some v → value_text t r v ≡ s
    setting_own make other (Some n) shown written else f e =
        let i : v ≡ make n = cc in
        rw i (shown n ∙ number_own s n f (sym (written n) ∙ rw i at short))
    setting_own make other None shown written else f e = else e

    list_own : (least most : ℕ) (l : Option Few) → most ≤ 4 → numbers_in 59 least most s ≡ l → list_from l ≡ Some v → value_text t r v ≡ s
    unfolding value_text is_written
    list_own least most (Some x) k f e = let i : v ≡ Numbers x = cc in rw i (numbers_own least most s x k f (rw i at short))
    list_own least most None k f e = let z : ◌≡◌ {A = ℕ} 0 1 = cc in absurd (omega arith)

    triples_own : (o : Option Gradients) → gradients_in s ≡ o → r.gradients ≡ kept_triples o → triples_from o ≡ Some v → value_text t r v ≡ s
    unfolding value_text is_written
    triples_own (Some g) f b e =
        let i : v ≡ Triples g.count = cc in
        rw i (ap (λ (l : List Triple). gradients_text l g.count) b ∙ gradients_own s g f (rw i at short))
    triples_own None f b e = let z : ◌≡◌ {A = ℕ} 0 1 = cc in absurd (omega arith)

-- ---- one line for each shape

module _ (t : MessageType) (r : Rooms) where
  shape_own : (k : Shape) (s : List ℕ) (v : Value) → Beside t r k s → shape_of k s ≡ Some v → is_written v s ≡ true → value_text t r v ≡ s
  unfolding shape_of value_text is_written
  shape_own (IsId u) s v b e w = id_own t r s v u (identifier_of u s) b refl e
  shape_own IsUnit s v b e w = text_own t r s v Value.Unit r.unit (is_unit s) (λ n. refl) b e
  shape_own IsWhen s v b e w = when_own t r s v (date_of s) refl e
  shape_own IsAmount s v b e w = amount_own t r s v w (number_of s) refl e
  shape_own IsCount s v b e w = count_own t r s v (sequence_of s) refl e
  shape_own IsReason s v b e w = text_own t r s v Reason r.reason (leb (length s) 128) (λ n. refl) b e
  shape_own IsNote s v b e w = text_own t r s v Note r.note (leb (length s) 256) (λ n. refl) b e
  shape_own (IsWord first last) s v b e w = word_own t r s v first last (word_in first last s) refl e
  shape_own IsProfile s v b e w = list_own t r s v w 1 4 (numbers_in 59 1 4 s) (lit≤ tt) refl e
  shape_own IsBands s v b e w = list_own t r s v w 2 2 (numbers_in 59 2 2 s) (lit≤ tt) refl e
  shape_own IsTriples s v b e w = triples_own t r s v w (gradients_in s) refl b e
  shape_own IsVoltage s v b e w =
      setting_own t r s v w voltage _ (number_of s) (λ n. refl) (λ n. refl) (volt_own t r s v w (volt_in s) refl) refl e
  shape_own IsRegulator s v b e w =
      setting_own t r s v w regulator _ (number_of s) (λ n. refl) (λ n. refl) (volt_own t r s v w (volt_in s) refl) refl e
  shape_own IsChange s v b e w =
      setting_own t r s v w change None (number_of s) (λ n. refl) (λ n. refl) (λ x. let z : ◌≡◌ {A = ℕ} 0 1 = cc in absurd (omega arith)) refl e
  shape_own IsReactive s v b e w =
      setting_own t r s v w reactive _ (number_of s) (λ n. refl) (λ n. refl) (word_own t r s v 25 27 (word_in 25 27 s) refl) refl e

  -- a blank is read from the empty text
  blank_own : (s : List ℕ) (v : Value) → length s ≡ 0 → Some Blank ≡ Some v → value_text t r v ≡ s
  unfolding value_text
  blank_own [] v l e = let i : v ≡ Blank = cc in rw i
  blank_own (b ∷ s) v l e = absurd (omega arith)

-- THE THEOREM: what is written is the text that was read
pub read_own : (t : MessageType) (r : Rooms) (k : Kind) (s : List ℕ) (v : Value)
    → Beside t r k.shape s → value_of k s ≡ Some v → is_written v s ≡ true → value_text t r v ≡ s
unfolding value_of
read_own t r k s v b e w =
    by_test (k.blank && eqb (length s) 0)
    (λ y. blank_own t r s v (eqb-true (length s) 0 (and_parts k.blank (eqb (length s) 0) y).1) (rw y at e))
    (λ n. shape_own t r k.shape s v b (rw n at e) w)
