-- The ways through the readers of a line: after its key it should be a run of bytes of a kind, and then LF (10); and the line of a unit.
-- Assumes nothing.
use Rattle.std.specs.Prelude.{None, Option, Some}
use Prim.Native.Nat.{ℕ, ◌+◌, ◌-◌, ◌≤◌, ◌<◌}
use Rattle.text_keyline.proofs.Values.{upto_less, other_key, line_told}
use Rattle.text_keyline.specs.Keylines.{line_of, value_in, below, line_text, if_unit, unit_at, if_named, named_to}
use Rattle.value_name.specs.Names.{is_unit_byte, is_unit}
use Rattle.text.proofs.Cuts.{tail, front_count, starts_cut, starts_length, starts_same, same_refl, all_none, any_append, any_seam, upto_seam, past_seam}
use Rattle.text.proofs.Fronts.{run_front, run_open, run_line, run_more, upto_past, any_past}
use Rattle.text.proofs.Tests.{by_test, by_eq, and_parts, or_parts, within_tells, untold}
use Rattle.text.specs.Bytes.{bytes, same, starts, is, within, any, all, upto, past, first_of, run_of}
use borrow.Author.Tests.{eq-eqb, ne_eqb, le-ltb, eqb-true, eqb-false, ltb-false, not-false}
use lib.Dec.{eqb, ltb}
use lib.ListN.{length, get_or, take, drop, length-append, length-drop}
use lib.Seq.{take-append_seam, drop-append_seam, get_or-drop}
use mathlib.Core.Bool.{Bool, true, false, ◌||◌, not, cond, and-false, false≢true}
use mathlib.Core.List.{List, [], ◌∷◌, ◌++◌, append_assoc}
use mathlib.Core.Path.{◌≡◌, refl, sym, ap, ◌∙◌}
use native.Mathlib.Omega.{arith}

-- ---- a line that begins with its key: the rest decides where it ends

module _ (key s : List ℕ) (clean : any (is 10) key ≡ false) (begins : starts key s ≡ true) where
  abbrev pub rest : List ℕ
  rest = drop (length key) s

  pub line_any : any (is 10) s ≡ any (is 10) rest
  line_any = ap (any (is 10)) (starts_cut key s begins) ∙ any_past (is 10) key rest clean

  pub line_upto : upto (is 10) s ≡ key ++ upto (is 10) rest
  line_upto = ap (upto (is 10)) (starts_cut key s begins) ∙ upto_past (is 10) key rest clean

  pub line_value : value_in key s ≡ upto (is 10) rest
  line_value = ap (λ (l : List ℕ). drop (length key) l) line_upto ∙ drop-append_seam key (upto (is 10) rest)

  pub line_first : first_of 10 s ≡ length key + first_of 10 rest
  line_first = ap length line_upto ∙ length-append key (upto (is 10) rest)

  pub ended_line : any (is 10) rest ≡ true → line_of key s ≡ Some (first_of 10 s)
  unfolding line_of
  ended_line y = rw (begins, line_any, y)

  module _ (p : ℕ → Bool) (stop : p 10 ≡ false) (m : ℕ) (run : m ≡ run_of p (take (length s - length key) (drop (length key) s))) where
    pub counted : m ≡ run_of p rest
    counted = run ∙ ap (λ (l : List ℕ). run_of p l) (tail s (length key))

    -- no LF
    pub line_open : length key + m ≡ length s → None ≡ line_of key s
    unfolding line_of
    line_open e =
        let n : any (is 10) s ≡ false = line_any ∙ run_open p 10 stop rest (omega (arith, counted, length-drop (length key) s)) in
        simp (n, and-false)

    module _ (n : length key + m ≡ length s → ⊥) where
      pub inside : m < length rest
      inside = omega (arith, n, counted, length-drop (length key) s, starts_length key s begins)

      pub line_inside : length key + m < length s
      line_inside = omega (arith, inside, length-drop (length key) s)

      -- another byte stands before the LF
      pub line_more : (get_or s (length key + m) 0 ≡ 10 → ⊥) → all p (value_in key s) ≡ false
      line_more g = ap (all p) line_value ∙ run_more p 10 stop m rest counted inside (λ e. g (sym (get_or-drop (length key) s m 0) ∙ e))

      -- the run is the value
      module _ (g : get_or s (length key + m) 0 ≡ 10) where
        seen : (upto (is 10) rest ≡ take m rest) × (any (is 10) rest ≡ true)
        seen = run_line p 10 stop m rest counted inside (get_or-drop (length key) s m 0 ∙ g)

        pub line_run : value_in key s ≡ take m rest
        line_run = line_value ∙ seen.0

        pub line_place : length key + m ≡ first_of 10 s
        line_place = omega (arith, line_first, ap length seen.0, front_count rest m (omega (arith, inside)))

        pub line_ends : line_of key s ≡ Some (length key + m)
        line_ends = ended_line seen.1 ∙ ap Some (sym line_place)

-- ---- a whole line, with its key and its value: what was written is read, and only that

-- a text with an LF is its first line, the LF and what is below
line_whole : (s : List ℕ) → any (is 10) s ≡ true → s ≡ upto (is 10) s ++ (10 ∷ below s)
unfolding any upto past
line_whole [] h = absurd (false≢true h)
line_whole (b ∷ s) h =
    by_test (eqb b 10) (λ e. rw e (ap (λ (c : ℕ). c ∷ s) (eqb-true b 10 e)))
    (λ e. rw e (ap (λ (l : List ℕ). b ∷ l) (line_whole s (rw e at h))))

starts_own : (a b : List ℕ) → starts a (a ++ b) ≡ true
starts_own a b = starts_same a (a ++ b) ∙ ap (same a) (take-append_seam a b) ∙ same_refl a

-- what is told by a line that was written
pub record Written (key v rest : List ℕ) : Type 0 where
  pub line_is : line_of key (line_text key v ++ rest) ≡ Some (first_of 10 (line_text key v ++ rest))
  pub value_is : value_in key (line_text key v ++ rest) ≡ v
  pub below_is : below (line_text key v ++ rest) ≡ rest

pub line_back : (key v rest : List ℕ) → any (is 10) key ≡ false → any (is 10) v ≡ false → Written key v rest
unfolding line_of
line_back key v rest k c =
    let clean : any (is 10) (key ++ v) ≡ false = any_append (is 10) key v k c in
    let seam : line_text key v ++ rest ≡ (key ++ v) ++ (10 ∷ rest) = append_assoc (key ++ v) (10 ∷ []) rest in
    let begins : starts key ((key ++ v) ++ (10 ∷ rest)) ≡ true =
    ap (starts key) (append_assoc key v (10 ∷ rest)) ∙ starts_own key (v ++ (10 ∷ rest)) in
    record {
      line_is = rw (seam, begins, any_seam (is 10) (key ++ v) 10 rest refl);
      value_is =
          ap (λ (l : List ℕ). drop (length key) (upto (is 10) l)) seam
          ∙ ap (drop (length key)) (upto_seam (is 10) (key ++ v) 10 rest clean refl)
          ∙ drop-append_seam key v;
      below_is = ap below seam ∙ past_seam (is 10) (key ++ v) 10 rest clean refl;
    }

pub line_own : (key s : List ℕ) (e : ℕ) → any (is 10) key ≡ false → line_of key s ≡ Some e → s ≡ line_text key (value_in key s) ++ below s
line_own key s e k i =
    let t = line_told key s e i in
    let first : upto (is 10) s ≡ key ++ value_in key s =
    line_upto key s k t.0 ∙ ap (λ (l : List ℕ). key ++ l) (sym (line_value key s k t.0)) in
    line_whole s t.1
    ∙ ap (λ (l : List ℕ). l ++ (10 ∷ below s)) first
    ∙ sym (append_assoc (key ++ value_in key s) (10 ∷ []) (below s))

-- ---- a unit

unit_clean : any (is 10) (bytes "unit=") ≡ false
unfolding any
unit_clean = refl

abbrev unit_value : List ℕ → List ℕ
unit_value s = value_in (bytes "unit=") s

no_unit : (l : Option ℕ) (v s : List ℕ) → is_unit v ≡ false → None ≡ if_named (if_unit l v) s
no_unit None v s n = refl
no_unit (Some e) v s n = rw n

module _ (s : List ℕ) (b : Bool) (told : b ≡ starts (bytes "unit=") s) where
  pub unit_key : b ≡ false → None ≡ named_to s
  unfolding unit_at
  unit_key n = rw (sym (other_key (bytes "unit=") s b told n))

  module _ (yes : b ≡ true) (m : ℕ) (run : m ≡ run_of is_unit_byte (take (length s - 5) (drop 5 s))) where
    unit_begins : starts (bytes "unit=") s ≡ true
    unit_begins = sym told ∙ yes

    pub unit_open : 5 + m ≡ length s → None ≡ named_to s
    unfolding unit_at
    unit_open e = rw (sym (line_open (bytes "unit=") s unit_clean unit_begins is_unit_byte refl m run e))

    module _ (n : 5 + m ≡ length s → ⊥) where
      pub unit_inside : 5 + m < length s
      unit_inside = line_inside (bytes "unit=") s unit_clean unit_begins is_unit_byte refl m run n

      abbrev refused : Bool
      refused = eqb m 0 || ltb 16 m || not (eqb (get_or s (5 + m) 0) 10)

      -- the run is the value
      unit_run : get_or s (5 + m) 0 ≡ 10 → (unit_value s ≡ take m (drop 5 s)) × (length (unit_value s) ≡ m)
      unit_run g =
          let v = line_run (bytes "unit=") s unit_clean unit_begins is_unit_byte refl m run n g in
          let h = inside (bytes "unit=") s unit_clean unit_begins is_unit_byte refl m run n in
          (v, ap length v ∙ sym (front_count (drop 5 s) m (omega (arith, h))))

      -- of no length that may stand
      unit_size : refused ≡ true → get_or s (5 + m) 0 ≡ 10 → is_unit (unit_value s) ≡ false
      unfolding is_unit
      unit_size r g =
          let l = (unit_run g).1 in
          let w : within 1 16 (length (unit_value s)) ≡ false =
          untold (within_tells 1 16 (length (unit_value s)))
          (λ h. false≢true (sym (rw (ne_eqb m 0 (λ e. omega arith), le-ltb 16 m (omega arith), eq-eqb _ _ g)) ∙ r)) in
          rw w

      unit_other : (get_or s (5 + m) 0 ≡ 10 → ⊥) → is_unit (unit_value s) ≡ false
      unfolding is_unit
      unit_other g =
          let w = line_more (bytes "unit=") s unit_clean unit_begins is_unit_byte refl m run n g in
          simp (w, and-false)

      pub unit_not : refused ≡ true → None ≡ named_to s
      unfolding unit_at
      unit_not r =
          no_unit (line_of (bytes "unit=") s) (unit_value s) s (by_eq (get_or s (5 + m) 0) 10 (unit_size r) unit_other)

      pub unit_is : refused ≡ false → Some (5 + m) ≡ named_to s
      unfolding unit_at is_unit
      unit_is r =
          let o = or_parts (eqb m 0 || ltb 16 m) (not (eqb (get_or s (5 + m) 0) 10)) r in
          let q = or_parts (eqb m 0) (ltb 16 m) o.0 in
          let g = eqb-true (get_or s (5 + m) 0) 10 (not-false _ o.1) in
          let v = unit_run g in
          let z = eqb-false m 0 q.0 in
          let w : within 1 16 (length (unit_value s)) ≡ true =
          (within_tells 1 16 (length (unit_value s))).1 (omega (arith, v.1, z), omega (arith, v.1, ltb-false 16 m q.1)) in
          let a : all is_unit_byte (unit_value s) ≡ true =
          ap (all is_unit_byte) v.0
          ∙ run_front is_unit_byte m (drop 5 s) (counted (bytes "unit=") s unit_clean unit_begins is_unit_byte refl m run) in
          rw (line_ends (bytes "unit=") s unit_clean unit_begins is_unit_byte refl m run n g, w, a)
          (ap Some (line_place (bytes "unit=") s unit_clean unit_begins is_unit_byte refl m run n g))

-- a unit that was read is what stands in its line, past the five bytes of the key
pub unit_told : (s u : List ℕ) → unit_at s ≡ Some u → (u ≡ value_in (bytes "unit=") s) × (5 ≤ first_of 10 s) × (first_of 10 s < length s)
unfolding unit_at
unit_told s u e = at_line (line_of (bytes "unit=") s) refl e
  where
    chosen : (b : Bool) (v : List ℕ) → cond b (Some v) None ≡ Some u → u ≡ v
    chosen true v e = cc
    chosen false v e = let z : ◌≡◌ {A = ℕ} 0 1 = cc in absurd (omega arith)

    at_line : (l : Option ℕ) → line_of (bytes "unit=") s ≡ l → if_unit l (unit_value s) ≡ Some u → (u ≡ unit_value s) × (5 ≤ first_of 10 s) × (first_of 10 s < length s)
    at_line None i e = let z : ◌≡◌ {A = ℕ} 0 1 = cc in absurd (omega arith)
    at_line (Some k) i e =
        let w = line_told (bytes "unit=") s k i in
        (chosen (is_unit (unit_value s)) (unit_value s) e, omega (arith, line_first (bytes "unit=") s unit_clean w.0), upto_less s w.1)

-- a unit's line, both ways
unit_plain : (u : List ℕ) → is_unit u ≡ true → any (is 10) u ≡ false
unfolding is_unit
unit_plain u e =
    all_none (is 10) is_unit_byte (λ b h. by_eq b 10 (λ z. absurd (false≢true (ap is_unit_byte (sym z) ∙ h))) (λ z. ne_eqb b 10 z)) u
    (and_parts (within 1 16 (length u)) (all is_unit_byte u) e).1

pub unit_back : (u rest : List ℕ) → is_unit u ≡ true
    → (unit_at (line_text (bytes "unit=") u ++ rest) ≡ Some u) × (below (line_text (bytes "unit=") u ++ rest) ≡ rest)
unfolding unit_at
unit_back u rest e =
    let w = line_back (bytes "unit=") u rest unit_clean (unit_plain u e) in
    (rw (w.line_is, w.value_is, e), w.below_is)

pub unit_own : (s u : List ℕ) → unit_at s ≡ Some u → (is_unit u ≡ true) × (s ≡ line_text (bytes "unit=") u ++ below s)
unfolding unit_at
unit_own s u e = at_line (line_of (bytes "unit=") s) refl e
  where
    named : (b : Bool) (v : List ℕ) → is_unit v ≡ b → cond b (Some v) None ≡ Some u → (is_unit u ≡ true) × (v ≡ u)
    named true v i e = let q : v ≡ u = cc in (rw q at i, q)
    named false v i e = let z : ◌≡◌ {A = ℕ} 0 1 = cc in absurd (omega arith)

    at_line : (l : Option ℕ) → line_of (bytes "unit=") s ≡ l → if_unit l (unit_value s) ≡ Some u → (is_unit u ≡ true) × (s ≡ line_text (bytes "unit=") u ++ below s)
    at_line None i e = let z : ◌≡◌ {A = ℕ} 0 1 = cc in absurd (omega arith)
    at_line (Some k) i e =
        let n = named (is_unit (unit_value s)) (unit_value s) refl e in
        (n.0, line_own (bytes "unit=") s k unit_clean i ∙ ap (λ (l : List ℕ). line_text (bytes "unit=") l ++ below s) n.1)
