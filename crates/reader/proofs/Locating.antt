-- Refusals 13 and 1 as the code meets them: what the plan gave, and what its unit's file leads to. Assumes nothing.
use Prim.Native.Nat.{ℕ}
use Rattle.plan_row.specs.Rows.{Row, is_at}
use Rattle.std.specs.Prelude.{Result, Ok, Err}
use Rattle.refusal.proofs.Some.{not_none}
use Rattle.refusal.specs.Numbers.{number_of, detail_of}
use Rattle.refusal.specs.declared.Refusal.{Refusal}
use Rattle.plan.specs.declared.Sought.{Sought}
use Rattle.plan.specs.Plans.{Plan, look_up, plan_of, sought_of, said_by}
use Rattle.reader.specs.Said.{located_by}
use Rattle.reader.specs.declared.Located.{Located}
use lib.ListN.{take}
use Rattle.plan.specs.Plans.Plan.{rows, wrong}
use Rattle.plan.specs.Plans.{SoughtSaid}
use Rattle.reader.proofs.Firsts.{answer_yes, answer_no}
use Rattle.reader.specs.Reader.{message_of, planned, answer_at, unit_in, read_of}
use Rattle.reader.specs.Refusals.{refused}
use Rattle.reader.specs.State.{continued, Walks, Locates}
use Rattle.text.proofs.Tests.{by_test}
use borrow.Author.Tests.{eq-eqb, ne_eqb}
use mathlib.Core.List.{List, [], ◌∷◌}
use mathlib.Core.Logic.{◌⊎◌, inl, inr, ⊎_elim}
use mathlib.Core.Path.{◌≡◌, refl, sym, ap, ap₂, ◌∙◌}
use native.Mathlib.Omega.{arith}

pub answer_at_lem : (s : SoughtSaid) (file : List ℕ) → s.number ≡ 0 → message_of s.message (unit_in s) file ≡ answer_at s file
unfolding answer_at planned message_of
answer_at_lem s file e =
    let a : s.number ≡ 13 → ⊥ = λ q. omega (arith, q, e) in
    let b : s.number ≡ 1 → ⊥ = λ q. omega (arith, q, e) in
    sym (answer_no 13 s.detail _ _ _ (ne_eqb s.number 13 a) ∙ answer_no 1 0 _ _ _ (ne_eqb s.number 1 b))

module _ (c i : ℕ) (file : List ℕ) where
  refused_in : (s : SoughtSaid) → (s.number ≡ 13) ⊎ ((s.number ≡ 1) × (s.detail ≡ 0)) → refused s.number s.detail ≡ answer_at s file
  unfolding answer_at planned
  refused_in s h =
      ⊎_elim
      (λ (e : s.number ≡ 13). ap (λ (n : ℕ). refused n s.detail) e ∙ sym (answer_yes 13 _ _ _ _ (eq-eqb s.number 13 e)))
      (λ (e : (s.number ≡ 1) × (s.detail ≡ 0)).
      let n : s.number ≡ 13 → ⊥ = λ q. omega (arith, q, e.0) in
      ap₂ (λ (a b : ℕ). refused a b) e.0 e.1 ∙ sym (answer_no 13 _ _ _ _ (ne_eqb s.number 13 n) ∙ answer_yes 1 _ _ _ _ (eq-eqb s.number 1 e.0)))
      h

  looked : (rs : List Row) → ((look_up c i rs).number ≡ 0 → ⊥) → ((look_up c i rs).number ≡ 13) ⊎ (((look_up c i rs).number ≡ 1) × ((look_up c i rs).detail ≡ 0))
  unfolding look_up
  looked [] n = inr (refl, refl)
  looked (r ∷ rs) n = by_test (is_at c i r) (λ e. absurd (n (rw e))) (λ e. rw e (looked rs (rw e at n)))

  sought : (p : Plan) → ((sought_of c i p).number ≡ 0 → ⊥) → ((sought_of c i p).number ≡ 13) ⊎ (((sought_of c i p).number ≡ 1) × ((sought_of c i p).detail ≡ 0))
  unfolding sought_of
  sought (wrong k) n = inl refl
  sought (rows rs) n = looked rs n

  pub refused_at : (s : SoughtSaid) (p : Plan) → s ≡ sought_of c i p → (s.number ≡ 0 → ⊥) → refused s.number s.detail ≡ answer_at (sought_of c i p) file
  refused_at s p e n = rw e (refused_in (sought_of c i p) (sought p (rw e at n)))

  module _ (plan : List ℕ) (s : Result Sought Refusal) (e : said_by s ≡ sought_of c i (plan_of plan)) where
    pub not_sought : (f : Refusal) → s ≡ Err f → {x : Result Located Refusal} → x ≡ Err f → Locates c i plan file (located_by x)
    unfolding read_of continued
    not_sought f is x_is =
        let n = not_none f in
        rw x_is
        (record {
          stands = λ z. absurd (n z);
          exact = λ z. absurd (n z);
          cleared = λ z. (refl, refl, refl);
          answers = rw (ne_eqb (number_of f) 0 n) (refused_at (said_by (Err f)) (plan_of plan) (ap said_by (sym is) ∙ e) n);
        })

    -- what the walk gave, with the size and the unit of the plan
    module _ (y : Sought) (found : s ≡ Ok y) (x : Result Located Refusal) (w : Walks y.message file (located_by x)) where
      onward : (unit : List ℕ) → unit ≡ take y.size y.unit → continued file unit (located_by x) ≡ read_of c i plan file
      unfolding read_of
      onward unit u =
          w.answers unit ∙ ap (λ (v : List ℕ). message_of y.message v file) u ∙ answer_at_lem (said_by (Ok y)) file refl
          ∙ ap (λ (z : SoughtSaid). answer_at z file) (ap said_by (sym found) ∙ e)

      -- a refusal is the same for any unit
      refused_for : (f : Refusal) (unit : List ℕ) → refused (number_of f) (detail_of f) ≡ continued file unit (located_by (Err f))
      unfolding continued
      refused_for f unit = rw (ne_eqb (number_of f) 0 (not_none f))

      pub not_walked : (f : Refusal) → x ≡ Err f → {r : Result Located Refusal} → r ≡ Err f → Locates c i plan file (located_by r)
      not_walked f is r_is =
          let n = not_none f in
          rw r_is
          (record {
            stands = λ z. absurd (n z);
            exact = λ z. absurd (n z);
            cleared = λ z. (refl, refl, refl);
            answers =
                sym (refused_for f []) ∙ refused_for f (take y.size y.unit)
                ∙ ap (λ (z : Result Located Refusal). continued file (take y.size y.unit) (located_by z)) (sym is)
                ∙ onward (take y.size y.unit) refl;
          })

      pub walked_on : (l : Located) → x ≡ Ok l
          → Locates c i plan file (located_by (Ok (record { layout = l.layout; size = y.size; unit = y.unit; row = l.row; places = l.places })))
      unfolding continued
      walked_on l is =
          let h = rw is at w in
          record {
            stands = λ z. let k = h.stands z in record { ordered = k.ordered; inside = k.inside; placed = k.placed };
            exact = h.exact;
            cleared = λ n. absurd (n refl);
            answers = rw is at (onward (take y.size y.unit) refl);
          }
