-- The ways through the reader of a row: what its lines tell, where they stand, and the row that they give.
-- Assumes nothing.
use Rattle.std.specs.Prelude.{Err, None, Ok, Option, Result, Some}
use Rattle.plan_row.specs.declared.Entry.{Entry}
use Prim.Native.Nat.{ℕ, ◌+◌, ◌-◌, ◌≤◌, ◌<◌}
use Rattle.plan_row.proofs.Addresses.{any_keys}
use Rattle.plan_row.proofs.Codes.{type_told}
use Rattle.plan_row.specs.Kept.{key_of, rows_of, numbered_of, type_read_of, third_of, row_at_of, numbered}
use Rattle.plan_row.specs.Rows.{ca_at, ioa_at, type_at, is_at, plan_row_of}
use Rattle.plan_row.specs.declared.Numbered.{Numbered}
use Rattle.text_keyline.proofs.Lines.{unit_told}
use Rattle.text_keyline.proofs.Values.{number_told}
use Rattle.text_keyline.specs.Keylines.{below, unit_at, if_named, named_to}
use Rattle.value_name.specs.declared.MessageType.{MessageType}
use Rattle.text.proofs.Cuts.{tail, past_drop}
use Rattle.text.specs.Bytes.{bytes, is, any, first_of}
use lib.ListN.{length, take, drop, length-drop}
use lib.Seq.{drop-drop}
use mathlib.Core.Bool.{Bool, true, false}
use mathlib.Core.List.{List}
use mathlib.Core.Path.{◌≡◌, refl, sym, ap, ap₂, ◌∙◌}
use native.Mathlib.Omega.{arith}

-- ---- what is told by a line's answer

not_numbered : (x : Option ℕ) (s : List ℕ) → None ≡ numbered_of x s → x ≡ None
not_numbered None s e = refl
not_numbered (Some n) s e = let z : ◌≡◌ {A = ℕ} 0 1 = cc in absurd (omega arith)

is_numbered : (x : Option ℕ) (s : List ℕ) (n e : ℕ) → numbered n e ≡ numbered_of x s → (x ≡ Some n) × (e ≡ first_of 10 s)
is_numbered None s n e h = let z : ◌≡◌ {A = ℕ} 0 1 = cc in absurd (omega arith)
is_numbered (Some m) s n e h =
    let r : record { value = n; end = e } ≡ record { value = m; end = first_of 10 s } = cc in
    (ap (λ (x : Numbered). Some x.value) (sym r), ap (λ (x : Numbered). x.end) r)

not_named : (x : Option (List ℕ)) (s : List ℕ) → None ≡ if_named x s → x ≡ None
not_named None s e = refl
not_named (Some u) s e = let z : ◌≡◌ {A = ℕ} 0 1 = cc in absurd (omega arith)

is_named : (x : Option (List ℕ)) (s : List ℕ) (e : ℕ) → Some e ≡ if_named x s → (u : List ℕ) × (x ≡ Some u) × (e ≡ first_of 10 s)
is_named None s e h = let z : ◌≡◌ {A = ℕ} 0 1 = cc in absurd (omega arith)
is_named (Some u) s e h = (u, refl, cc)

not_typed : (x : Option MessageType) → None ≡ type_read_of x → x ≡ None
not_typed None e = refl
not_typed (Some t) e = let z : ◌≡◌ {A = ℕ} 0 1 = cc in absurd (omega arith)

is_typed : (x : Option MessageType) (t : MessageType) → Some t ≡ type_read_of x → x ≡ Some t
is_typed None t e = let z : ◌≡◌ {A = ℕ} 0 1 = cc in absurd (omega arith)
is_typed (Some r) t e = let k : r ≡ t = cc in rw k

-- ---- where the lines stand

-- x is what is left of s from the place p on
pub record At (s : List ℕ) (p : ℕ) (x : List ℕ) : Type 0 where
  pub inside : p ≤ length s
  pub left : take (length s - p) (drop p s) ≡ x

pub at_length : {s : List ℕ} {p : ℕ} {x : List ℕ} → At s p x → length s ≡ p + length x
at_length {s = s} {p = p} {x = x} a =
    omega (arith, a.inside, ap length (sym (tail s p) ∙ a.left), length-drop p s)

pub next_line : {s : List ℕ} {p : ℕ} {x : List ℕ} (e : ℕ) → At s p x → e ≡ first_of 10 x → e < length x → At s (p + e + 1) (below x)
next_line {s = s} {p = p} {x = x} e a f h =
    let n : p + e + 1 ≡ p + (e + 1) = omega arith in
    record {
      inside = omega (arith, at_length a);
      left =
          tail s (p + e + 1) ∙ ap (λ (k : ℕ). drop k s) n ∙ sym (drop-drop (e + 1) p s)
          ∙ ap (λ (l : List ℕ). drop (e + 1) l) (sym (tail s p) ∙ a.left)
          ∙ ap (λ (k : ℕ). drop (k + 1) x) f ∙ sym (past_drop (is 10) x);
    }

pub second_line : (s : List ℕ) (e : ℕ) → e ≡ first_of 10 s → e < length s → At s (e + 1) (below s)
second_line s e f h =
    record { inside = omega arith; left = tail s (e + 1) ∙ ap (λ (k : ℕ). drop (k + 1) s) f ∙ sym (past_drop (is 10) s) }

-- ---- the row

module _ (keys s : List ℕ) (d : Option Numbered) (first : d ≡ numbered_of (ca_at s) s) where
  -- what is answered
  abbrev answer : Result Entry ℕ
  answer = row_at_of s (plan_row_of (rows_of keys) s)

  pub bad_ca : d ≡ None → Err 0 ≡ answer
  unfolding plan_row_of
  bad_ca n = rw (not_numbered (ca_at s) s (sym n ∙ first))

  module _ (m : Numbered) (is_ca : d ≡ Some m) where
    abbrev c : ℕ
    c = m.value

    abbrev a : ℕ
    a = m.end

    one : (ca_at s ≡ Some c) × (a ≡ first_of 10 s)
    one = is_numbered (ca_at s) s c a (sym is_ca ∙ first)

    pub ca_told : (1 ≤ c) × (c ≤ 65534) × (first_of 10 s < length s)
    ca_told = number_told (bytes "ca=") 65534 s c (sym one.0)

    pub at_two : At s (a + 1) (below s)
    at_two = second_line s a one.1 (omega (arith, one.1, ca_told))

    abbrev two_left : List ℕ
    two_left = take (length s - (a + 1)) (drop (a + 1) s)

    module _ (d₂ : Option Numbered) (second : d₂ ≡ numbered_of (ioa_at two_left) two_left) where
      two_told : d₂ ≡ numbered_of (ioa_at (below s)) (below s)
      two_told = second ∙ ap (λ (x : List ℕ). numbered_of (ioa_at x) x) at_two.left

      pub bad_ioa : d₂ ≡ None → Err 1 ≡ answer
      unfolding plan_row_of
      bad_ioa n = rw (one.0, not_numbered (ioa_at (below s)) (below s) (sym n ∙ two_told))

      module _ (n : Numbered) (is_ioa : d₂ ≡ Some n) where
        abbrev i : ℕ
        i = n.value

        abbrev b : ℕ
        b = n.end

        two : (ioa_at (below s) ≡ Some i) × (b ≡ first_of 10 (below s))
        two = is_numbered (ioa_at (below s)) (below s) i b (sym is_ioa ∙ two_told)

        pub ioa_told : (1 ≤ i) × (i ≤ 16777215) × (first_of 10 (below s) < length (below s))
        ioa_told = number_told (bytes "ioa=") 16777215 (below s) i (sym two.0)

        pub at_three : At s (a + 1 + b + 1) (below (below s))
        at_three = next_line b at_two two.1 (omega (arith, two.1, ioa_told))

        module _ (k : ℕ) (t : Bool) (key : k ≡ key_of c i) (told : t ≡ any (is k) keys) where
          above : any (is_at c i) (rows_of keys) ≡ t
          above = any_keys c i keys ioa_told.1 ∙ ap (λ (x : ℕ). any (is x) keys) (sym key) ∙ sym told

          pub twice : t ≡ true → Err 1 ≡ answer
          unfolding plan_row_of
          twice y = rw (one.0, two.0, above, y)

          abbrev three_left : List ℕ
          three_left = take (length s - (a + 1 + b + 1)) (drop (a + 1 + b + 1) s)

          module _ (new : t ≡ false) (d₃ : Option ℕ) (third : d₃ ≡ named_to three_left) where
            three_told : d₃ ≡ named_to (below (below s))
            three_told = third ∙ ap (λ (x : List ℕ). named_to x) at_three.left

            pub bad_unit : d₃ ≡ None → Err 2 ≡ answer
            unfolding plan_row_of
            bad_unit n = rw (one.0, two.0, above, new, not_named (unit_at (below (below s))) (below (below s)) (sym n ∙ three_told))

            module _ (e : ℕ) (is_unit : d₃ ≡ Some e) where
              three : (u : List ℕ) × (unit_at (below (below s)) ≡ Some u) × (e ≡ first_of 10 (below (below s)))
              three = is_named (unit_at (below (below s))) (below (below s)) e (sym is_unit ∙ three_told)

              unit_ends : (5 ≤ first_of 10 (below (below s))) × (first_of 10 (below (below s)) < length (below (below s)))
              unit_ends = let w = unit_told (below (below s)) three.0 three.1 in (w.1, w.2)

              pub unit_from : a + 1 + b + 1 + 5 ≤ length s
              unit_from = omega (arith, unit_ends, at_length at_three)

              pub at_four : At s (a + 1 + b + 1 + e + 1) (below (below (below s)))
              at_four = next_line e at_three three.2 (omega (arith, three.2, unit_ends))

              abbrev four_left : List ℕ
              four_left = take (length s - (a + 1 + b + 1 + e + 1)) (drop (a + 1 + b + 1 + e + 1) s)

              module _ (p : Option MessageType) (fourth : p ≡ type_read_of (type_at four_left)) where
                four_told : p ≡ type_read_of (type_at (below (below (below s))))
                four_told = fourth ∙ ap (λ (x : List ℕ). type_read_of (type_at x)) at_four.left

                pub bad_type : p ≡ None → Err 3 ≡ answer
                unfolding plan_row_of
                bad_type n =
                    rw (one.0, two.0, above, new, three.1, not_typed (type_at (below (below (below s)))) (sym n ∙ four_told))

                module _ (message : MessageType) (is_type : p ≡ Some message) where
                  four : type_at (below (below (below s))) ≡ Some message
                  four = is_typed (type_at (below (below (below s)))) message (sym is_type ∙ four_told)

                  type_ends : (first_of 10 (below (below (below s))) ≡ 7) × (7 < length (below (below (below s))))
                  type_ends = type_told (below (below (below s))) message four

                  pub at_five : At s (a + 1 + b + 1 + e + 1 + 8) (below (below (below (below s))))
                  at_five =
                      let n : a + 1 + b + 1 + e + 1 + 7 + 1 ≡ a + 1 + b + 1 + e + 1 + 8 = omega arith in
                      rw n at (next_line 7 at_four (sym type_ends.0) type_ends.1)

                  pub good_row :
                      Ok record { key = k; message = message; from = a + 1 + b + 1 + 5; to = a + 1 + b + 1 + e; end = a + 1 + b + 1 + e + 1 + 8 } ≡ answer
                  unfolding plan_row_of
                  good_row =
                      let f : a + 1 + b + 1 ≡ third_of s = omega (arith, at_length at_three) in
                      let g : a + 1 + b + 1 + e + 1 + 8 ≡ length s - length (below (below (below (below s)))) = omega (arith, at_length at_five) in
                      let past = length s - length (below (below (below (below s)))) in
                      rw (one.0, two.0, above, new, three.1, four, key, g)
                      (ap₂ (λ (x y : ℕ). Ok record { key = key_of c i; message = message; from = x + 5; to = x + y; end = past }) f three.2)
