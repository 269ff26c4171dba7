-- The loop that puts an item's lines: what is put so far is the text of the values so far; and how long a text gets. Assumes nothing.
use Prim.Native.Nat.{ℕ, ◌+◌, ◌-◌, ◌*◌, ◌≤◌, ◌<◌}
use Rattle.saved_lines.specs.Items.{text_from}
use Rattle.saved_lines.specs.Values.{key_text, zero_amount, amount_text, letter_text, value_text, next_text}
use Rattle.saved_lines.specs.declared.Key.{Key}
use Rattle.saved_lines.specs.declared.Key.TheVariants.{Form, Floor, Count, Number, Kind, Start, End, Var1, Var2, Struck}
use Rattle.saved_lines.specs.Values.{Next, Line, Done}
use Rattle.saved_lines.specs.declared.Sort.{Sort}
use Rattle.saved_lines.specs.declared.Sort.TheVariants.{Whole, Amount, Letter}
use Rattle.text.proofs.Numerals.{whole_length}
use Rattle.text.proofs.Runs.{Run, puts, puts_none, then}
use Rattle.text.proofs.Tests.{by_test}
use Rattle.text.specs.Puts.{Puts}
use Rattle.text_keyline.proofs.Putting.{line_length}
use lib.Dec.{ltb, eqb}
use lib.ListN.{length, get_or, take, length-append}
use lib.Seq.{take-suc, length-take-le, length-sets}
use mathlib.Core.List.{List, [], ◌∷◌, ◌++◌, append-nil, append_assoc}
use mathlib.Core.Path.{◌≡◌, sym, ap, ◌∙◌}
use native.Mathlib.Numerals.{add-one}
use native.Mathlib.Omega.{arith}

-- ---- how long a line is

pub key_size : (k : Key) → length (key_text k) ≤ 7
key_size Form = omega arith
key_size Floor = omega arith
key_size Count = omega arith
key_size Number = omega arith
key_size Kind = omega arith
key_size Start = omega arith
key_size End = omega arith
key_size Var1 = omega arith
key_size Var2 = omega arith
key_size Struck = omega arith

pub value_size : (x : Sort) (v : ℕ) → length (value_text x v) ≤ 11
unfolding amount_text letter_text
value_size Whole v = omega (arith, whole_length 9 v)
value_size Amount v =
    by_test (ltb v zero_amount) (λ y. rw y (omega (arith, whole_length 9 (zero_amount - v)))) (λ n. rw n (omega (arith, whole_length 9 (v - zero_amount))))
value_size Letter v = by_test (eqb v 0) (λ y. rw y (omega arith)) (λ n. rw n (omega arith))

pub next_size : (x : Next) (v : ℕ) → length (next_text x v) ≤ 19
next_size Done v = omega arith
next_size (Line k x lo hi) v =
    omega (arith, line_length (key_text k) (value_text x v), key_size k, value_size x v)

-- a run of puts leaves a buffer as long as it was
pub same_room : {buffer : List ℕ} {at : ℕ} {t : List ℕ} {p : ℕ} {out : List ℕ} → Run buffer at t p out → length out ≡ length buffer
same_room {buffer} {at} {t} r = ap length r.bytes ∙ length-sets buffer at t

module _ (next : List ℕ → Next) where
  pub text_size : (vs ws : List ℕ) → length (text_from next vs ws) ≤ 19 * length ws
  unfolding text_from
  text_size vs [] = omega arith
  text_size vs (v ∷ ws) =
      omega (
        arith,
        length-append (next_text (next vs) v) (text_from next (vs ++ (v ∷ [])) ws),
        next_size (next vs) v,
        text_size (vs ++ (v ∷ [])) ws,
      )

  -- one line more
  text_snoc : (vs ws : List ℕ) (w : ℕ) → text_from next vs (ws ++ (w ∷ [])) ≡ text_from next vs ws ++ next_text (next (vs ++ ws)) w
  unfolding text_from
  text_snoc vs [] w = append-nil (next_text (next vs) w) ∙ ap (λ (l : List ℕ). next_text (next l) w) (sym (append-nil vs))
  text_snoc vs (v ∷ ws) w =
      ap (λ (l : List ℕ). next_text (next vs) v ++ l)
      (text_snoc (vs ++ (v ∷ [])) ws w ∙ ap (λ (l : List ℕ). text_from next (vs ++ (v ∷ [])) ws ++ next_text (next l) w) (append_assoc vs (v ∷ []) ws))
      ∙ sym (append_assoc (next_text (next vs) v) (text_from next (vs ++ (v ∷ [])) ws) (next_text (next (vs ++ (v ∷ ws))) w))

  -- ---- the loop

  pub record Put (buffer : List ℕ) (at : ℕ) (v : List ℕ) (count n p : ℕ) (out : List ℕ) : Type 0 where
    pub few : n ≤ count
    pub so_far : Run buffer at (text_from next [] (take n v)) p out

  pub none_put : (buffer : List ℕ) (at : ℕ) (v : List ℕ) (count : ℕ) → Put buffer at v count 0 at buffer
  unfolding text_from
  none_put buffer at v count = record { few = omega arith; so_far = puts_none buffer at }

  module _ (buffer : List ℕ) (at : ℕ) (v : List ℕ) (count n p : ℕ) (out : List ℕ) (g : Put buffer at v count n p out) (h : n < count)
      (k : count ≤ 18) (long : length v ≡ 18) where
    pub put_place : p ≤ at + 342
    put_place =
        omega (arith, g.so_far.place, text_size [] (take n v), length-take-le n v (omega (arith, h, k, long)))

    pub put_one : (x : Next) (r : ℕ) (after : List ℕ) → x ≡ next (take n v) → Puts out p (next_text x (get_or v n 0)) r after
        → Put buffer at v count (n + 1) r after
    put_one x r after e w =
        let j : take (n + 1) v ≡ take n v ++ (get_or v n 0 ∷ []) = rw (add-one n) (take-suc v n 0 (omega (arith, h, k, long))) in
        let t : text_from next [] (take n v) ++ next_text x (get_or v n 0) ≡ text_from next [] (take (n + 1) v) =
        ap (λ (y : Next). text_from next [] (take n v) ++ next_text y (get_or v n 0)) e ∙ sym (rw j (text_snoc [] (take n v) (get_or v n 0))) in
        record { few = omega (arith, h); so_far = rw t at (then {u = next_text x (get_or v n 0)} g.so_far (puts w)) }

  pub all_put : (buffer : List ℕ) (at : ℕ) (v : List ℕ) (count n p : ℕ) (out : List ℕ) → Put buffer at v count n p out → count ≤ n
      → Puts buffer at (text_from next [] (take count v)) p out
  all_put buffer at v count n p out g h =
      let e : n ≡ count = omega (arith, h, g.few) in
      let r : Run buffer at (text_from next [] (take count v)) p out = rw e at g.so_far in
      (r.place, r.bytes)
