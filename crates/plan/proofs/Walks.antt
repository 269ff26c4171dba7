-- The plan row by row: what is read so far, and what the rest gives below it, is the plan.
-- Assumes nothing.
use Rattle.std.specs.Prelude.{Err, None, Ok, Option, Result, Some}
use Prim.Native.Nat.{ℕ, zero, suc, ◌+◌, ◌-◌, ◌*◌, ◌≤◌, ◌<◌}
use Rattle.plan_row.proofs.Addresses.{row_of_key, any_kept, key_place, key_sought}
use Rattle.plan_row.proofs.Codes.{type_told}
use Rattle.plan_row.proofs.Readers.{At, at_length, next_line, second_line}
use Rattle.plan_row.specs.Kept.{sought_key, rows_of, third_of, kept_row, row_at_of}
use Rattle.plan_row.specs.Rows.{Row, row, ca_at, ioa_at, type_at, is_at, RowRead, good, bad, row_named, begun, plan_row_of}
use Rattle.plan_row.specs.declared.Entry.{Entry}
use Rattle.text_keyline.proofs.Lines.{unit_told}
use Rattle.text_keyline.proofs.Values.{number_told}
use Rattle.text_keyline.specs.Keylines.{value_in, below, unit_at}
use Rattle.value_name.specs.declared.MessageType.{MessageType}
use Rattle.plan.specs.Kept.{found_in}
use Rattle.plan.specs.Plans.{rows, wrong, onward, plan_from, plan_of, sought_refused, look_up, sought_of, said_by}
use Rattle.plan.specs.declared.Sought.{Sought}
use Rattle.refusal.specs.declared.Refusal.{Refusal}
use Rattle.refusal.specs.declared.Refusal.TheVariants.{UnknownAddress}
use Rattle.text_room.specs.Rooms.{kept_in}
use Rattle.text.proofs.Cuts.{tail, part_from, upto_take}
use Rattle.text.specs.Bytes.{bytes, part, is, any, first_of}
use borrow.Author.Tests.{eq-eqb, ne_eqb}
use lib.Dec.{eqb, ltb}
use lib.ListN.{length, take, drop, set}
use mathlib.Core.Bool.{Bool, true, false, ◌||◌, cond}
use mathlib.Core.List.{List, [], ◌∷◌}
use mathlib.Core.Logic.{◌⊎◌, inl, inr}
use mathlib.Core.Path.{◌≡◌, refl, sym, ap, ap₂, ◌∙◌}
use native.Mathlib.Nat.{sub-zero}
use native.Mathlib.Omega.{arith}

-- ---- what a row with the address gives

pub found_here : (s : List ℕ) (e : Entry) (kept : List ℕ) → kept ≡ kept_in 16 (part e.from e.to s)
    → record { message = e.message; size = length (part e.from e.to s); unit = kept } ≡ found_in s e
found_here s e kept q = rw q

-- ---- a row is judged by the addresses above it, and by nothing else of them

row_any : (up vs : List Row) (s : List ℕ) → ((c i : ℕ) → any (is_at c i) up ≡ any (is_at c i) vs) → plan_row_of up s ≡ plan_row_of vs s
unfolding plan_row_of
row_any up vs s h = go (ca_at s) (ioa_at (below s)) (unit_at (below (below s))) (type_at (below (below (below s))))
  where
    go : (d e : Option ℕ) (o : Option (List ℕ)) (p : Option MessageType) → begun up d e o p ≡ begun vs d e o p
    go None e o p = refl
    go (Some c) None o p = refl
    go (Some c) (Some i) o p = rw (h c i)

-- what the answer for a row tells of it
is_bad : (s : List ℕ) (x : RowRead) (k : ℕ) → row_at_of s x ≡ Err k → x ≡ bad k
is_bad s (bad j) k e = let n : j ≡ k = cc in rw n
is_bad s (good r) k e = let z : ◌≡◌ {A = ℕ} 0 1 = cc in absurd (omega arith)

is_good : (s : List ℕ) (x : RowRead) (e : Entry) → row_at_of s x ≡ Ok e → (r : Row) × ((x ≡ good r) × (kept_row s r ≡ e))
is_good s (bad j) e h = let z : ◌≡◌ {A = ℕ} 0 1 = cc in absurd (omega arith)
is_good s (good r) e h = (r, (refl, cc))

bad_is_good : {A : Type 0} {k : ℕ} {r : Row} → bad k ≡ good r → A
bad_is_good e = let z : ◌≡◌ {A = ℕ} 0 1 = cc in absurd (omega arith)

-- ---- a good row, by its four lines

abbrev Four : List ℕ → Row → Type 0
Four s r =
    (ca_at s ≡ Some r.ca) × (ioa_at (below s) ≡ Some r.ioa) × (unit_at (below (below s)) ≡ Some r.unit)
    × (type_at (below (below (below s))) ≡ Some r.message)

four_lines : (up : List Row) (s : List ℕ) (r : Row) → plan_row_of up s ≡ good r → Four s r
unfolding plan_row_of
four_lines up s r e =
    at_first (ca_at s) (ioa_at (below s)) (unit_at (below (below s))) (type_at (below (below (below s)))) e
  where
    at_third : (c i : ℕ) (o : Option (List ℕ)) (p : Option MessageType) → row_named c i o p ≡ good r
        → (Some c ≡ Some r.ca) × (Some i ≡ Some r.ioa) × (o ≡ Some r.unit) × (p ≡ Some r.message)
    at_third c i None p e = bad_is_good e
    at_third c i (Some u) None e = bad_is_good e
    at_third c i (Some u) (Some t) e =
        let n : row c i u t ≡ r = cc in
        (ap (λ (x : Row). Some x.ca) n, ap (λ (x : Row). Some x.ioa) n, ap (λ (x : Row). Some x.unit) n, ap (λ (x : Row). Some x.message) n)

    at_second : (t : Bool) (c i : ℕ) (o : Option (List ℕ)) (p : Option MessageType) → cond t (bad 1) (row_named c i o p) ≡ good r
        → (Some c ≡ Some r.ca) × (Some i ≡ Some r.ioa) × (o ≡ Some r.unit) × (p ≡ Some r.message)
    at_second true c i o p e = bad_is_good e
    at_second false c i o p e = at_third c i o p e

    at_first : (d f : Option ℕ) (o : Option (List ℕ)) (p : Option MessageType) → begun up d f o p ≡ good r
        → (d ≡ Some r.ca) × (f ≡ Some r.ioa) × (o ≡ Some r.unit) × (p ≡ Some r.message)
    at_first None f o p e = bad_is_good e
    at_first (Some c) None o p e = bad_is_good e
    at_first (Some c) (Some i) o p e = at_second (any (is_at c i) up) c i o p e

-- a place that a text is left from, by its length
placed : {s : List ℕ} {p : ℕ} {x : List ℕ} → At s p x → At s (length s - length x) x
placed {s = s} {p = p} {x = x} a = let n : p ≡ length s - length x = omega (arith, at_length a) in rw n at a

module _ (s : List ℕ) (r : Row) (f : Four s r) where
  abbrev x₃ : List ℕ
  x₃ = below (below s)

  ca_is : (1 ≤ r.ca) × (r.ca ≤ 65534) × (first_of 10 s < length s)
  ca_is = number_told (bytes "ca=") 65534 s r.ca (sym f.0)

  ioa_is : (1 ≤ r.ioa) × (r.ioa ≤ 16777215) × (first_of 10 (below s) < length (below s))
  ioa_is = number_told (bytes "ioa=") 16777215 (below s) r.ioa (sym f.1)

  unit_is : (r.unit ≡ value_in (bytes "unit=") x₃) × (5 ≤ first_of 10 x₃) × (first_of 10 x₃ < length x₃)
  unit_is = unit_told x₃ r.unit f.2

  type_is : (first_of 10 (below x₃) ≡ 7) × (7 < length (below x₃))
  type_is = type_told (below x₃) r.message f.3

  third_at : At s (third_of s) x₃
  third_at = placed (next_line (first_of 10 (below s)) (second_line s (first_of 10 s) refl ca_is.2) refl ioa_is.2)

  end_at : At s (length s - length (below (below x₃))) (below (below x₃))
  end_at = placed (next_line 7 (next_line (first_of 10 x₃) third_at refl unit_is.2) (sym type_is.0) type_is.1)

  -- the unit's code is out of the row's bytes
  unit_part : part (third_of s + 5) (third_of s + first_of 10 x₃) s ≡ r.unit
  unit_part =
      let n : third_of s + first_of 10 x₃ - third_of s ≡ first_of 10 x₃ = omega arith in
      sym (part_from s (third_of s) (third_of s + first_of 10 x₃) 5)
      ∙ ap (λ (l : List ℕ). drop 5 l) (ap₂ (λ (k : ℕ) (l : List ℕ). take k l) n (sym (tail s (third_of s)) ∙ third_at.left) ∙ sym (upto_take (is 10) x₃))
      ∙ sym unit_is.0

-- ---- the plan

plan_end : (room n : ℕ) (up : List Row) (s : List ℕ) → length s ≤ 0 → plan_from room n up s ≡ rows up
unfolding plan_from
plan_end zero n up s h = let e : length s ≡ 0 = omega arith in rw (eq-eqb _ _ e)
plan_end (suc room) n up s h = let e : length s ≡ 0 = omega arith in rw (eq-eqb _ _ e)

plan_over : (n : ℕ) (up : List Row) (s : List ℕ) → 0 < length s → plan_from 0 n up s ≡ wrong n
unfolding plan_from
plan_over n up s h = let e : length s ≡ 0 → ⊥ = λ e. omega arith in rw (ne_eqb _ _ e)

plan_row : (room n : ℕ) (up : List Row) (s : List ℕ) → 0 < length s
    → plan_from (suc room) n up s ≡ onward n (plan_row_of up s) (λ r. plan_from room (n + 4) (r ∷ up) (below (below (below (below s)))))
unfolding plan_from
plan_row room n up s h = let e : length s ≡ 0 → ⊥ = λ e. omega arith in rw (ne_eqb _ _ e)

-- none of the addresses above a row is above the greatest, as the call asks it
pub none_there : (keys : List ℕ) (count greatest : ℕ) → any (ltb greatest) (take count keys) ≡ false → any (ltb greatest) (take (count - 0) keys) ≡ false
none_there keys count greatest n = ap (λ (k : ℕ). any (ltb greatest) (take k keys)) (sub-zero count) ∙ n

-- THE INVARIANT of the one loop over the rows: `rest` is what was not read yet, and `up` the rows that were, last first
pub record Sofar (plan : List ℕ) (ca ioa : ℕ) (keys : List ℕ) (count : ℕ) (found : Result Sought Refusal) (rest : List ℕ) : Type 0 where
  pub few : count ≤ 64
  pub up : List Row
  pub kept : (c i : ℕ) → any (is_at c i) (rows_of (take count keys)) ≡ any (is_at c i) up
  pub all : plan_of plan ≡ plan_from (64 - count) (4 * count + 1) up rest
  pub hand : said_by found ≡ look_up ca ioa up

module _ (plan : List ℕ) (ca ioa : ℕ) where
  pub empty : length plan ≡ 0 → sought_refused 13 0 ≡ sought_of ca ioa (plan_of plan)
  unfolding plan_of sought_of
  empty e = rw (eq-eqb _ _ e)

  pub begin : (keys : List ℕ) → (length plan ≡ 0 → ⊥) → Sofar plan ca ioa keys 0 (Err UnknownAddress) plan
  unfolding plan_of look_up
  begin keys n =
      record { few = omega arith; up = []; kept = λ c i. refl; all = rw (ne_eqb _ _ n); hand = refl }

  module _ (keys : List ℕ) (count : ℕ) (found : Result Sought Refusal) (rest : List ℕ) (f : Sofar plan ca ioa keys count found rest) where
    pub finish : length rest ≤ 0 → said_by found ≡ sought_of ca ioa (plan_of plan)
    unfolding sought_of
    finish h = f.hand ∙ rw (f.all, plan_end (64 - count) (4 * count + 1) f.up rest h)

    module _ (more : 0 < length rest) where
      pub too_many : count ≡ 64 → sought_refused 13 (4 * count + 1) ≡ sought_of ca ioa (plan_of plan)
      unfolding sought_of
      too_many e =
          let m : 64 - count ≡ 0 = omega arith in
          rw (f.all, m, plan_over (4 * count + 1) f.up rest more)

      module _ (x : Result Entry ℕ) (fits : count ≡ 64 → ⊥) (told : x ≡ row_at_of rest (plan_row_of (rows_of (take (count - 0) keys)) rest)) where
        judged : row_at_of rest (plan_row_of f.up rest) ≡ x
        judged =
            sym (told ∙ ap (λ (n : ℕ). row_at_of rest (plan_row_of (rows_of (take n keys)) rest)) (sub-zero count)
            ∙ ap (row_at_of rest) (row_any (rows_of (take count keys)) f.up rest f.kept))

        one_more :
            plan_of plan
            ≡ onward (4 * count + 1) (plan_row_of f.up rest)
            (λ r. plan_from (64 - (count + 1)) (4 * count + 1 + 4) (r ∷ f.up) (below (below (below (below rest)))))
        one_more =
            let c : count ≤ 64 = f.few in
            let m : 64 - count ≡ suc (64 - (count + 1)) = omega arith in
            f.all ∙ ap (λ (k : ℕ). plan_from k (4 * count + 1) f.up rest) m ∙ plan_row (64 - (count + 1)) (4 * count + 1) f.up rest more

        pub bad_line : (k : ℕ) → x ≡ Err k → sought_refused 13 (4 * count + 1 + k) ≡ sought_of ca ioa (plan_of plan)
        unfolding sought_of
        bad_line k e = rw (one_more, is_bad rest (plan_row_of f.up rest) k (judged ∙ e))

        module _ (e : Entry) (y : x ≡ Ok e) where
          this : (r : Row) × ((plan_row_of f.up rest ≡ good r) × (kept_row rest r ≡ e))
          this = is_good rest (plan_row_of f.up rest) e (judged ∙ y)

          abbrev r : Row
          r = this.0

          lines : Four rest r
          lines = four_lines f.up rest r this.1.0

          -- where the unit's code and the row end
          pub unit_inside : (e.from ≤ e.to) × (e.to ≤ length rest)
          unit_inside =
              let p = ap (λ (n : Entry). n.from) this.1.1 in
              let q = ap (λ (n : Entry). n.to) this.1.1 in
              (omega (arith, p, q, unit_is rest r lines), omega (arith, q, unit_is rest r lines, at_length (third_at rest r lines)))

          pub row_inside : e.end ≤ length rest
          row_inside = let p = ap (λ (n : Entry). n.end) this.1.1 in omega (arith, p)

          next_is : take (length rest - e.end) (drop e.end rest) ≡ below (below (below (below rest)))
          next_is = ap (λ (n : Entry). take (length rest - n.end) (drop n.end rest)) (sym this.1.1) ∙ (end_at rest r lines).left

          -- the row has the address
          sought_is : eqb e.key (sought_key ca ioa) ≡ is_at ca ioa r
          sought_is =
              ap (λ (n : Entry). eqb n.key (sought_key ca ioa)) (sym this.1.1)
              ∙ key_sought r.ca r.ioa ca ioa (ca_is rest r lines).0 (ioa_is rest r lines).1

          found_is : said_by (Ok (found_in rest e)) ≡ record { number = 0; detail = 0; message = r.message; size = length r.unit; unit = kept_in 16 r.unit }
          found_is =
              ap (λ (n : Entry). said_by (Ok (found_in rest n))) (sym this.1.1)
              ∙ ap (λ (v : List ℕ). record { number = 0; detail = 0; message = r.message; size = length v; unit = kept_in 16 v }) (unit_part rest r lines)

          -- what was found so far, with this row
          handed : (sought : ℕ) (found₂ : Result Sought Refusal) → sought ≡ sought_key ca ioa
              → ((e.key ≡ sought) × (found₂ ≡ Ok (found_in rest e))) ⊎ ((e.key ≡ sought → ⊥) × (found₂ ≡ found)) → said_by found₂ ≡ look_up ca ioa (r ∷ f.up)
          unfolding look_up
          handed sought found₂ asked (inl w) = let a = sym sought_is ∙ eq-eqb _ _ (w.0 ∙ asked) in ap said_by w.1 ∙ found_is ∙ rw a
          handed sought found₂ asked (inr w) =
              let a = sym sought_is ∙ ne_eqb _ _ (λ k. w.0 (k ∙ sym asked)) in
              ap said_by w.1 ∙ f.hand ∙ rw a

          pub next_row : (sought : ℕ) (found₂ : Result Sought Refusal) → sought ≡ sought_key ca ioa
              → ((e.key ≡ sought) × (found₂ ≡ Ok (found_in rest e))) ⊎ ((e.key ≡ sought → ⊥) × (found₂ ≡ found)) → count < length keys
              → Sofar plan ca ioa (set keys count e.key) (count + 1) found₂ (take (length rest - e.end) (drop e.end rest))
          unfolding any
          next_row sought found₂ asked w h =
              let c : count ≤ 64 = f.few in
              let n : 4 * count + 1 + 4 ≡ 4 * (count + 1) + 1 = omega arith in
              let p = key_place r.ca r.ioa (ioa_is rest r lines).1 in
              record {
                few = omega arith;
                up = r ∷ f.up;
                kept = λ c i.
                    any_kept c i count keys e.key h
                    ∙ ap (λ (k : Entry). is_at c i (row_of_key k.key) || any (is_at c i) (rows_of (take count keys))) (sym this.1.1)
                    ∙ rw (p.0, p.1, f.kept c i);
                all = one_more ∙ rw (this.1.0, n, next_is);
                hand = handed sought found₂ asked w;
              }
