-- The values of an order's seven lines, and their bounds: from `Said`, and back. Assumes nothing.
use Prim.Native.Nat.{ℕ, zero, suc, ◌+◌, ◌-◌, ◌≤◌}
use Rattle.saved_lines.specs.Items.{Said}
use Rattle.saved_lines.specs.Tables.{apart_of, second_line, next_of}
use Rattle.saved_lines.specs.Values.{zero_amount, MayBe}
use Rattle.saved_lines.specs.declared.Above.{Above}
use Rattle.saved_lines.specs.Values.{Next, Done}
use Rattle.saved_lines.specs.declared.Table.TheVariants.{Order}
use Rattle.value_bounds.specs.Bounds.{first_instant, last_instant, most_number, most_amount}
use mathlib.Core.List.{List, [], ◌∷◌}
use mathlib.Core.Path.{◌≡◌, refl}
use native.Mathlib.Omega.{arith}

pub record Seven (a : Above) (vs : List ℕ) : Type 0 where
  pub n : ℕ
  pub k : ℕ
  pub s : ℕ
  pub e : ℕ
  pub v : ℕ
  pub w : ℕ
  pub c : ℕ
  pub are : vs ≡ n ∷ k ∷ s ∷ e ∷ v ∷ w ∷ c ∷ []
  pub number_from : a.least ≤ n
  pub number_to : n ≤ most_number
  pub kind_to : k ≤ 1
  pub start_from : first_instant ≤ s
  pub start_to : s ≤ last_instant - apart_of k
  pub end_past : a.end ≤ e
  pub end_from : s + apart_of k ≤ e
  pub end_to : e ≤ last_instant
  pub first_in : (1 ≤ v) × (v ≤ zero_amount + most_amount)
  pub second_in : MayBe (second_line k) w
  pub struck_to : c ≤ 1

-- no line of the table is none
second_comes : (k : ℕ) → second_line k ≡ Done → ⊥
second_comes zero e = let z : ◌≡◌ {A = ℕ} 0 1 = cc in omega arith
second_comes (suc k) e = let z : ◌≡◌ {A = ℕ} 0 1 = cc in omega arith

module _ (a : Above) where
  abbrev next : List ℕ → Next
  next = next_of Order a

  pub seven : (vs : List ℕ) → Said next [] vs → Seven a vs
  seven [] p = let z : ◌≡◌ {A = ℕ} 0 1 = cc in absurd (omega arith)
  seven (n ∷ []) p = let q = p.1 in let z : ◌≡◌ {A = ℕ} 0 1 = cc in absurd (omega arith)
  seven (n ∷ k ∷ []) p = let q = p.1.1 in let z : ◌≡◌ {A = ℕ} 0 1 = cc in absurd (omega arith)
  seven (n ∷ k ∷ s ∷ []) p = let q = p.1.1.1 in let z : ◌≡◌ {A = ℕ} 0 1 = cc in absurd (omega arith)
  seven (n ∷ k ∷ s ∷ e ∷ []) p = let q = p.1.1.1.1 in let z : ◌≡◌ {A = ℕ} 0 1 = cc in absurd (omega arith)
  seven (n ∷ k ∷ s ∷ e ∷ v ∷ []) p = absurd (second_comes k p.1.1.1.1.1)
  seven (n ∷ k ∷ s ∷ e ∷ v ∷ w ∷ []) p = let q = p.1.1.1.1.1.1 in let z : ◌≡◌ {A = ℕ} 0 1 = cc in absurd (omega arith)
  seven (n ∷ k ∷ s ∷ e ∷ v ∷ w ∷ c ∷ x ∷ vs) p = absurd p.1.1.1.1.1.1.1.0
  seven (n ∷ k ∷ s ∷ e ∷ v ∷ w ∷ c ∷ []) p =
      let end = p.1.1.1.0.0 in
      record {
        n = n;
        k = k;
        s = s;
        e = e;
        v = v;
        w = w;
        c = c;
        are = refl;
        number_from = p.0.0;
        number_to = p.0.1;
        kind_to = p.1.0.1;
        start_from = p.1.1.0.0;
        start_to = p.1.1.0.1;
        end_past = omega (arith, end);
        end_from = omega (arith, end);
        end_to = p.1.1.1.0.1;
        first_in = (p.1.1.1.1.0.0, p.1.1.1.1.0.1);
        second_in = p.1.1.1.1.1.0;
        struck_to = p.1.1.1.1.1.1.0.1;
      }

  pub said : (vs : List ℕ) → Seven a vs → Said next [] vs
  said vs b =
      let most : most_number ≡ 9999999999 = refl in
      let last : last_instant ≡ 3155756399 = refl in
      rw b.are (
        (b.number_from, b.number_to, b.number_to),
        (
          (omega arith, b.kind_to, b.kind_to),
          (
            (b.start_from, b.start_to, omega (arith, b.start_to)),
            (
              (omega (arith, b.end_past, b.end_from), b.end_to, omega (arith, b.end_to)),
              (
                (b.first_in.0, b.first_in.1, b.first_in),
                (
                  b.second_in,
                  (
                    (omega arith, b.struck_to, omega (arith, b.struck_to)),
                    refl,
                  ),
                ),
              ),
            ),
          ),
        ),
      )
