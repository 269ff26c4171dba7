-- What is read is what was written, and nothing else is read: of any table of lines, from the two laws of one line. Assumes nothing.
use Rattle.std.specs.Prelude.{None, Option, Some}
use Prim.Native.Nat.{ℕ, zero, suc, ◌+◌, ◌≤◌, ◌<◌}
use Rattle.saved_lines.proofs.OneLine.{written, only}
use Rattle.saved_lines.specs.Items.{Lines, good, bad, if_met, read_from, text_from, Said}
use Rattle.saved_lines.specs.Values.{line_value, met_in, met_of, next_text, MayBe}
use Rattle.saved_lines.specs.declared.Met.{Met}
use Rattle.saved_lines.specs.declared.Met.TheVariants.{Says, Wrong, Over}
use Rattle.saved_lines.specs.Values.{Next, Line, Done}
use Rattle.text.specs.Bytes.{first_of}
use Rattle.text_keyline.specs.Keylines.{below}
use lib.ListN.{length, length-append}
use mathlib.Core.List.{List, [], ◌∷◌, ◌++◌, append-nil, append_assoc}
use mathlib.Core.Path.{◌≡◌, refl, sym, ap, ◌∙◌}
use native.Mathlib.Omega.{arith}

-- ---- a line as it is met

pub says_in : (s : List ℕ) (d : Option ℕ) (v e : ℕ) → met_in d s ≡ Says v e → (d ≡ Some v) × (e ≡ first_of 10 s)
says_in s (Some w) v e h = (cc, cc)
says_in s None v e h = let z : ◌≡◌ {A = ℕ} 0 1 = cc in absurd (omega arith)

-- a line that was written is met by its value
met_written : (x : Next) (v : ℕ) (rest : List ℕ) → MayBe x v
    → (met_of x (next_text x v ++ rest) ≡ Says v (first_of 10 (next_text x v ++ rest))) × (below (next_text x v ++ rest) ≡ rest)
met_written Done v rest h = absurd h
met_written (Line k x lo hi) v rest h = let w = written k x v lo hi rest h.0 h.1 h.2 in (rw w.0, w.1)

-- one that says a value is the value's line
pub met_only : (x : Next) (s : List ℕ) (v e : ℕ) → met_of x s ≡ Says v e → MayBe x v × (s ≡ next_text x v ++ below s)
met_only Done s v e h = let z : ◌≡◌ {A = ℕ} 0 1 = cc in absurd (omega arith)
met_only (Line k x lo hi) s v e h =
    let o = only k x lo hi s v (says_in s (line_value k x lo hi s) v e h).0 in
    ((o.0, o.1, o.2), o.3)

-- and one that is over is none
met_over : (x : Next) (s : List ℕ) → met_of x s ≡ Over → x ≡ Done
met_over Done s h = refl
met_over (Line k x lo hi) s h = absurd (in_digits (line_value k x lo hi s) h)
  where
    in_digits : (d : Option ℕ) → met_in d s ≡ Over → ⊥
    in_digits (Some w) h = let z : ◌≡◌ {A = ℕ} 0 1 = cc in omega arith
    in_digits None h = let z : ◌≡◌ {A = ℕ} 0 1 = cc in omega arith

-- ---- an item

module _ (next : List ℕ → Next) where
  -- THE LAW: what was written is read
  pub read_text : (n : ℕ) (vs ws rest : List ℕ) → Said next vs ws → length ws < n → read_from next n vs (text_from next vs ws ++ rest) ≡ good (vs ++ ws) rest
  unfolding read_from text_from
  read_text zero vs [] rest p h = absurd (omega arith)
  read_text (suc n) vs [] rest p h = rw (p, append-nil)
  read_text zero vs (v ∷ ws) rest p h = absurd (omega arith)
  read_text (suc n) vs (v ∷ ws) rest p h =
      let tail : List ℕ = text_from next (vs ++ (v ∷ [])) ws ++ rest in
      let w = met_written (next vs) v tail p.0 in
      let e : (next_text (next vs) v ++ text_from next (vs ++ (v ∷ [])) ws) ++ rest ≡ next_text (next vs) v ++ tail =
      append_assoc (next_text (next vs) v) (text_from next (vs ++ (v ∷ [])) ws) rest in
      rw (e, w.0, w.1)
      (read_text n (vs ++ (v ∷ [])) ws rest p.1 (omega arith) ∙ ap (λ (l : List ℕ). good l rest) (append_assoc vs (v ∷ []) ws))

  -- and only that
  pub record From (vs us s rest : List ℕ) : Type 0 where
    pub values : List ℕ
    pub all_are : us ≡ vs ++ values
    pub said : Said next vs values
    pub text_is : s ≡ text_from next vs values ++ rest

  stop : (vs us s rest : List ℕ) → next vs ≡ Done → good vs s ≡ good us rest → From vs us s rest
  unfolding text_from
  stop vs us s rest d e = let a : us ≡ vs = cc in record { values = []; all_are = a ∙ sym (append-nil vs); said = d; text_is = cc }

  go_on : (vs us s rest : List ℕ) (v e : ℕ) → met_of (next vs) s ≡ Says v e → From (vs ++ (v ∷ [])) us (below s) rest → From vs us s rest
  unfolding text_from
  go_on vs us s rest v e j f =
      let o = met_only (next vs) s v e j in
      record {
        values = v ∷ f.values;
        all_are = f.all_are ∙ append_assoc vs (v ∷ []) f.values;
        said = (o.0, f.said);
        text_is =
            o.1
            ∙ ap (λ (l : List ℕ). next_text (next vs) v ++ l) f.text_is
            ∙ sym (append_assoc (next_text (next vs) v) (text_from next (vs ++ (v ∷ [])) f.values) rest);
      }

  by_met : (vs us s rest : List ℕ) (m : Met) → met_of (next vs) s ≡ m → (then : ℕ → Lines)
      → ((v : ℕ) → then v ≡ good us rest → From (vs ++ (v ∷ [])) us (below s) rest)
      → if_met m (good vs s) (bad (length vs)) then ≡ good us rest → From vs us s rest
  by_met vs us s rest Over i then f e = stop vs us s rest (met_over (next vs) s i) e
  by_met vs us s rest Wrong i then f e = let z : ◌≡◌ {A = ℕ} 0 1 = cc in absurd (omega arith)
  by_met vs us s rest (Says v k) i then f e = go_on vs us s rest v k i (f v e)

  pub read_only : (n : ℕ) (vs us s rest : List ℕ) → read_from next n vs s ≡ good us rest → From vs us s rest
  unfolding read_from
  read_only zero vs us s rest e = let z : ◌≡◌ {A = ℕ} 0 1 = cc in absurd (omega arith)
  read_only (suc n) vs us s rest e =
      by_met vs us s rest (met_of (next vs) s) refl (λ v. read_from next n (vs ++ (v ∷ [])) (below s))
      (λ v i. read_only n (vs ++ (v ∷ [])) us (below s) rest i) e

  -- no more lines are read than may be
  met_low : (n : ℕ) (vs s : List ℕ) (k : ℕ) (m : Met) (then : ℕ → Lines) → ((v : ℕ) → then v ≡ bad k → k ≤ length (vs ++ (v ∷ [])) + n)
      → if_met m (good vs s) (bad (length vs)) then ≡ bad k → k ≤ length vs + suc n
  met_low n vs s k Over then f e = let z : ◌≡◌ {A = ℕ} 0 1 = cc in absurd (omega arith)
  met_low n vs s k Wrong then f e = let q : length vs ≡ k = cc in omega (arith, q)
  met_low n vs s k (Says v i) then f e = omega (arith, f v e, length-append vs (v ∷ []))

  pub bad_low : (n : ℕ) (vs s : List ℕ) (k : ℕ) → read_from next n vs s ≡ bad k → k ≤ length vs + n
  unfolding read_from
  bad_low zero vs s k e = let q : length vs ≡ k = cc in omega (arith, q)
  bad_low (suc n) vs s k e =
      met_low n vs s k (met_of (next vs) s) (λ v. read_from next n (vs ++ (v ∷ [])) (below s)) (λ v i. bad_low n (vs ++ (v ∷ [])) (below s) k i) e
