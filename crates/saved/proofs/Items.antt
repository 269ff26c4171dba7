-- What the answer for an item, and for an order, tells of what is read. Assumes nothing.
use Prim.Native.Nat.{ℕ, ◌+◌, ◌-◌, ◌≤◌}
use Rattle.saved_lines.proofs.Exact.{read_only, bad_low}
use Rattle.saved_lines.specs.Items.{Lines, good as good_lines, bad as bad_line, read_from, text_from, Said, item_of}
use Rattle.saved_lines.specs.Tables.{next_of}
use Rattle.saved_lines.specs.declared.Above.{Above}
use Rattle.saved_lines.specs.Items.{Item}
use Rattle.saved_lines.specs.declared.Table.{Table}
use lib.ListN.{length, drop, replicate, length-append}
use lib.Seq.{drop_at}
use mathlib.Core.Bool.{true, false}
use mathlib.Core.List.{List, [], ◌++◌}
use mathlib.Core.Path.{◌≡◌, refl, sym, ap, ◌∙◌}
use native.Mathlib.Omega.{arith}

-- ---- any item

module _ (t : Table) (a : Above) (s : List ℕ) where
  abbrev lines : Lines
  lines = read_from (next_of t a) 18 [] s

  -- a good one: its values, the text below, and where that begins
  pub record Whole (x : Item) : Type 0 where
    pub values : List ℕ
    pub rest : List ℕ
    pub read : lines ≡ good_lines values rest
    pub said : Said (next_of t a) [] values
    pub text : s ≡ text_from (next_of t a) [] values ++ rest
    pub count : x.lines ≡ length values
    pub room : x.values ≡ values ++ replicate (18 - length values) 0
    pub end : x.end ≡ length s - length rest
    pub inside : x.end ≤ length s
    pub from_there : drop x.end s ≡ rest

  pub whole_item : (x : Item) → x ≡ item_of lines s → x.good ≡ true → Whole x
  whole_item x e y = by_lines lines refl (e ∙ refl)
    where
      by_lines : (l : Lines) → lines ≡ l → x ≡ item_of l s → Whole x
      by_lines (bad_line k) i e = let z : false ≡ true = sym (ap (λ (q : Item). q.good) e) ∙ y in let w : ◌≡◌ {A = ℕ} 0 1 = cc in absurd (omega arith)
      by_lines (good_lines vs rest) i e =
          let f = read_only (next_of t a) 18 [] vs s rest i in
          let text : s ≡ text_from (next_of t a) [] vs ++ rest = f.text_is ∙ ap (λ (l : List ℕ). text_from (next_of t a) [] l ++ rest) (sym f.all_are) in
          let len : length s ≡ length (text_from (next_of t a) [] vs) + length rest = ap length text ∙ length-append (text_from (next_of t a) [] vs) rest in
          let at : x.end ≡ length s - length rest = ap (λ (q : Item). q.end) e in
          let here : x.end ≡ length (text_from (next_of t a) [] vs) = omega (arith, at, len) in
          record {
            values = vs;
            rest = rest;
            read = i;
            said = rw f.all_are f.said;
            text = text;
            count = ap (λ (q : Item). q.lines) e;
            room = ap (λ (q : Item). q.values) e;
            end = at;
            inside = omega (arith, at);
            from_there =
                ap (λ (k : ℕ). drop k s) here
                ∙ ap (drop (length (text_from (next_of t a) [] vs))) text
                ∙ drop_at (text_from (next_of t a) [] vs) rest (length (text_from (next_of t a) [] vs)) refl;
          }

  -- a bad one: so many good lines stand above
  pub record Broken (x : Item) : Type 0 where
    pub read : lines ≡ bad_line x.lines
    pub few : x.lines ≤ 18

  pub broken_item : (x : Item) → x ≡ item_of lines s → x.good ≡ false → Broken x
  broken_item x e n = by_lines lines refl e
    where
      by_lines : (l : Lines) → lines ≡ l → x ≡ item_of l s → Broken x
      by_lines (good_lines vs rest) i e = let z : true ≡ false = sym (ap (λ (q : Item). q.good) e) ∙ n in let w : ◌≡◌ {A = ℕ} 0 1 = cc in absurd (omega arith)
      by_lines (bad_line k) i e =
          let c : x.lines ≡ k = ap (λ (q : Item). q.lines) e in
          record { read = i ∙ ap bad_line (sym c); few = omega (arith, c, bad_low (next_of t a) 18 [] s k i) }
