-- The reader's answer is the refusal of the first that holds in its list, and the record exactly where none does. Assumes nothing.
use Prim.Native.Nat.{ℕ}
use Rattle.plan.specs.Plans.{SoughtSaid}
use Rattle.reader.specs.Reader.{valued, labelled, reading, planned}
use Rattle.reader.specs.Refusals.{refused, accepted, answer, IsFirst}
use Rattle.reader.specs.Refusals.{Answer}
use Rattle.record.specs.declared.Record.{Record}
use Rattle.text.proofs.Firsts.{Decided, first, not_any, decided, numbered, zero_none, first_given, none_given as none_said}
use Rattle.text.specs.Bytes.{all}
use Rattle.text.specs.Refusals.{Refusal, refusal, first_holding, first_number, NoneHolds}
use Rattle.value_name.specs.declared.MessageType.{MessageType}
use mathlib.Core.Bool.{Bool, true, false}
use mathlib.Core.List.{List, ◌∷◌}
use mathlib.Core.Path.{◌≡◌, refl, sym, ap, ◌∙◌}

-- ---- one step of an answer

module _ (n d : ℕ) (b : Bool) (xs : List Refusal) (r : Record) where
  pub answer_yes : b ≡ true → answer (refusal n d b ∷ xs) r ≡ refused n d
  unfolding answer
  answer_yes e = rw e

  pub answer_no : b ≡ false → answer (refusal n d b ∷ xs) r ≡ answer xs r
  unfolding answer
  answer_no e = rw e

-- ---- an answer tells which is the first that holds, and that none does: the number 0 is no refusal's

pub none_given : {rs : List Refusal} (r : Record) → NoneHolds rs → answer rs r ≡ accepted r
unfolding answer
none_given r h = none_said refused (accepted r) h

pub given_first : (rs : List Refusal) (r : Record) → ((answer rs r).number ≡ 0 → ⊥) → IsFirst rs (answer rs r)
unfolding answer
given_first rs r n = by (decided rs)
  where
    by : Decided rs → IsFirst rs (first_holding refused (accepted r) rs)
    by (first {x} f) = record { which = x; first = f; says = first_given refused (accepted r) f }
    by (not_any h) = absurd (n (ap (λ (a : Answer). a.number) (none_said refused (accepted r) h)))

pub accepted_none : (rs : List Refusal) (r : Record) → all numbered rs ≡ true → (answer rs r).number ≡ 0 → NoneHolds rs
unfolding answer
accepted_none rs r h z = zero_none rs h (by (decided rs))
  where
    by : Decided rs → first_number rs ≡ 0
    by (first {x} f) =
        first_given (λ n d. n) 0 f ∙ sym (ap (λ (a : Answer). a.number) (first_given refused (accepted r) f)) ∙ z
    by (not_any h) = none_said (λ n d. n) 0 h

-- ---- the reader's lists

pub reading_numbered : (t : MessageType) (unit file : List ℕ) → all numbered (reading t unit file) ≡ true
unfolding all reading labelled valued
reading_numbered t unit file = refl

pub numbers : (s : SoughtSaid) (file : List ℕ) → all numbered (planned s file) ≡ true
unfolding all planned reading labelled valued
numbers s file = refl
