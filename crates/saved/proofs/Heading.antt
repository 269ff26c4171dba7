-- The lines above the orders: the form is line 1, the unit line 2, the floor and the count lines 3 and 4, and the orders begin at line 5. Assumes nothing.
use Rattle.std.specs.Prelude.{None, Option, Some}
use Prim.Native.Nat.{ℕ, suc, ◌+◌, ◌-◌, ◌≤◌, ◌<◌}
use Rattle.saved.proofs.Items.{Whole, whole_item, broken_item}
use Rattle.saved.specs.Reads.{Read, good, bad, and_then, lined, read_item, unit_read, read_unit}
use Rattle.saved.specs.Saved.{nothing, Top, read_head}
use Rattle.saved_lines.proofs.Exact.{read_only}
use Rattle.saved_lines.specs.Items.{Lines, good as good_lines, bad as bad_line, read_from, text_from, Said, item_of}
use Rattle.saved_lines.specs.Tables.{at, next_of}
use Rattle.saved_lines.specs.Items.{Item}
use Rattle.saved_lines.specs.declared.Table.{Table}
use Rattle.saved_lines.specs.declared.Table.TheVariants.{Form, Head as HeadTable}
use Rattle.text.proofs.Cuts.{tail, length_part, part_from, upto_take, past_drop}
use Rattle.text.proofs.Tests.{and_parts, within_tells}
use Rattle.text.specs.Bytes.{bytes, is, within, all, first_of}
use Rattle.text_keyline.proofs.Lines.{unit_told, unit_own}
use Rattle.text_keyline.specs.Keylines.{below, line_text, unit_at, if_named, named_to}
use Rattle.value_name.specs.Names.{is_unit_byte, is_unit}
use lib.ListN.{length, take, drop, length-append, length-drop}
use lib.Seq.{drop_at}
use mathlib.Core.Bool.{true, false}
use mathlib.Core.List.{List, [], ◌∷◌, ◌++◌, append_assoc}
use mathlib.Core.Path.{◌≡◌, refl, sym, ap, ◌∙◌}
use native.Mathlib.Omega.{arith}

-- ---- how many lines an item has

form_one : (vs : List ℕ) → Said (next_of Form nothing) [] vs → length vs ≡ 1
form_one [] p = let z : ◌≡◌ {A = ℕ} 0 1 = cc in absurd (omega arith)
form_one (f ∷ []) p = refl
form_one (f ∷ x ∷ vs) p = absurd p.1.0

record Two (vs : List ℕ) : Type 0 where
  pub floor : ℕ
  pub count : ℕ
  pub are : vs ≡ floor ∷ count ∷ []
  pub floor_to : floor ≤ 4294967295
  pub count_to : count ≤ 96

head_two : (vs : List ℕ) → Said (next_of HeadTable nothing) [] vs → Two vs
head_two [] p = let z : ◌≡◌ {A = ℕ} 0 1 = cc in absurd (omega arith)
head_two (f ∷ []) p = let q = p.1 in let z : ◌≡◌ {A = ℕ} 0 1 = cc in absurd (omega arith)
head_two (f ∷ c ∷ x ∷ vs) p = absurd p.1.1.0
head_two (f ∷ c ∷ []) p = record { floor = f; count = c; are = refl; floor_to = p.0.1; count_to = p.1.0.1 }

-- ---- what the answer for a unit's line tells

not_named : (x : Option (List ℕ)) (s : List ℕ) → None ≡ if_named x s → x ≡ None
not_named None s e = refl
not_named (Some u) s e = let z : ◌≡◌ {A = ℕ} 0 1 = cc in absurd (omega arith)

is_named : (x : Option (List ℕ)) (s : List ℕ) (e : ℕ) → Some e ≡ if_named x s → (u : List ℕ) × (x ≡ Some u) × (e ≡ first_of 10 s)
is_named None s e h = let z : ◌≡◌ {A = ℕ} 0 1 = cc in absurd (omega arith)
is_named (Some u) s e h = (u, refl, cc)

-- ---- line by line

module _ (s : List ℕ) (f : Item) (first : f ≡ item_of (read_from (next_of Form nothing) 18 [] s) s) where
  pub bad_form : f.good ≡ false → read_head s ≡ bad (1 + f.lines)
  unfolding read_head read_item
  bad_form n = let b = broken_item Form nothing s f first n in rw b.read

  module _ (is_form : f.good ≡ true) where
    one : Whole Form nothing s f
    one = whole_item Form nothing s f first is_form

    pub form_inside : f.end ≤ length s
    form_inside = one.inside

    abbrev second : List ℕ
    second = take (length s - f.end) (drop f.end s)

    second_is : second ≡ one.rest
    second_is = tail s f.end ∙ one.from_there

    second_length : length s ≡ f.end + length second
    second_length = omega (arith, one.inside, ap length (tail s f.end), length-drop f.end s)

    form_read : read_item Form nothing 1 s ≡ good one.values 2 second
    unfolding read_item
    form_read =
        let n : 1 + length one.values ≡ 2 = omega (arith, form_one one.values one.said) in
        rw (one.read, n, second_is)

    module _ (d : Option ℕ) (told : d ≡ named_to second) where
      pub bad_unit : d ≡ None → read_head s ≡ bad 2
      unfolding read_head read_unit
      bad_unit n = rw (form_read, not_named (unit_at second) second (sym n ∙ told))

      module _ (e : ℕ) (is_unit_so : d ≡ Some e) where
        unit_at_lem : (u : List ℕ) × (unit_at second ≡ Some u) × (e ≡ first_of 10 second)
        unit_at_lem = is_named (unit_at second) second e (sym is_unit_so ∙ told)

        -- the line's LF stands past the key, and in the text
        pub unit_inside : (5 ≤ e) × (e < length second)
        unit_inside = let w = unit_told second unit_at_lem.0 unit_at_lem.1 in (omega (arith, unit_at_lem.2, w.1), omega (arith, unit_at_lem.2, w.2))

        abbrev unit : List ℕ
        unit = take (e - 5) (drop 5 second)

        unit_is : unit_at_lem.0 ≡ unit
        unit_is =
            let z : e - 0 ≡ e = omega arith in
            (unit_told second unit_at_lem.0 unit_at_lem.1).0
            ∙ ap (drop 5) (upto_take (is 10) second)
            ∙ ap (λ (k : ℕ). drop 5 (take k second)) (sym unit_at_lem.2)
            ∙ (rw z at (part_from second 0 e 5))

        pub unit_size : e - 5 ≡ length unit
        unit_size = sym (length_part 5 e second (omega (arith, unit_inside.1)))

        abbrev third : List ℕ
        third = take (length second - (e + 1)) (drop (e + 1) second)

        third_is : third ≡ below second
        third_is = tail second (e + 1) ∙ ap (λ (k : ℕ). drop (k + 1) second) unit_at_lem.2 ∙ sym (past_drop (is 10) second)

        third_length : length second ≡ e + 1 + length third
        third_length = omega (arith, unit_inside.1, ap length (tail second (e + 1)), length-drop (e + 1) second)

        unit_read_lem : read_unit 2 second ≡ good unit 3 third
        unfolding read_unit
        unit_read_lem = rw (unit_at_lem.1, sym third_is, sym unit_is)

        module _ (h : Item) (last : h ≡ item_of (read_from (next_of HeadTable nothing) 18 [] third) third) where
          pub bad_head : h.good ≡ false → read_head s ≡ bad (3 + h.lines)
          unfolding read_head read_item
          bad_head n = let b = broken_item HeadTable nothing third h last n in rw (form_read, unit_read_lem, b.read)

          module _ (is_head : h.good ≡ true) where
            pub two : Whole HeadTable nothing third h
            two = whole_item HeadTable nothing third h last is_head

            values : Two two.values
            values = head_two two.values two.said

            floor_is : at 0 h.values ≡ at 0 two.values
            floor_is = ap (at 0) two.room ∙ rw values.are

            count_is : at 1 h.values ≡ at 1 two.values
            count_is = ap (at 1) two.room ∙ rw values.are

            pub floor_to : at 0 h.values ≤ 4294967295
            floor_to = omega (arith, floor_is, ap (at 0) values.are, values.floor_to)

            pub count_to : at 1 h.values ≤ 96
            count_to = omega (arith, count_is, ap (at 1) values.are, values.count_to)

            pub end_inside : f.end + e + 1 + h.end ≤ length s
            end_inside = omega (arith, second_length, third_length, two.inside)

            pub orders_at : f.end + e + 1 + h.end ≡ length s - length two.rest
            orders_at =
                let l : length two.rest ≡ length third - h.end = ap length (sym two.from_there) ∙ length-drop h.end third in
                omega (arith, second_length, third_length, two.inside, l)

            pub good_head : read_head s ≡ good (record { unit = unit; floor = at 0 h.values; count = at 1 h.values }) 5 two.rest
            unfolding read_head read_item
            good_head =
                let n : 3 + length two.values ≡ 5 = omega (arith, ap length values.are) in
                rw (form_read, unit_read_lem, two.read, n)
                (λ i. good (record { unit = unit; floor = sym floor_is i; count = sym count_is i }) 5 two.rest)

-- ---- a head that was read

-- q is what is left of s
record Left (s q : List ℕ) : Type 0 where
  pub front : List ℕ
  pub are : s ≡ front ++ q

left_on : {s t q : List ℕ} → Left s t → Left t q → Left s q
left_on {q = q} a b =
    record {
      front = a.front ++ b.front;
      are = a.are ∙ ap (λ (l : List ℕ). a.front ++ l) b.are ∙ sym (append_assoc a.front b.front q);
    }

-- an item that was read
record Had (t : Table) (s vs rest : List ℕ) : Type 0 where
  pub said : Said (next_of t nothing) [] vs
  pub left : Left s rest

had : (t : Table) (s vs rest : List ℕ) → read_from (next_of t nothing) 18 [] s ≡ good_lines vs rest → Had t s vs rest
had t s vs rest i =
    let f = read_only (next_of t nothing) 18 [] vs s rest i in
    record { said = rw f.all_are f.said; left = record { front = text_from (next_of t nothing) [] f.values; are = f.text_is } }

-- so many orders begin at line 5, in the text, below a unit that its room holds
pub record Headed (s : List ℕ) (h : Top) (n : ℕ) (rest : List ℕ) : Type 0 where
  pub line : n ≡ 5
  pub few : h.count ≤ 96
  pub fits : length h.unit ≤ 16
  pub inside : length s - length rest ≤ length s
  pub from_there : drop (length s - length rest) s ≡ rest

left_there : (s q : List ℕ) → Left s q → drop (length s - length q) s ≡ q
left_there s q l =
    let n : length s - length q ≡ length l.front = omega (arith, ap length l.are ∙ length-append l.front q) in
    ap (λ (k : ℕ). drop k s) n ∙ ap (drop (length l.front)) l.are ∙ drop_at l.front q (length l.front) refl

unit_fits : (u : List ℕ) → is_unit u ≡ true → length u ≤ 16
unfolding is_unit
unit_fits u e = ((within_tells 1 16 (length u)).0 (and_parts (within 1 16 (length u)) (all is_unit_byte u) e).0).1

module _ (s : List ℕ) (h : Top) (n : ℕ) (rest : List ℕ) where
  abbrev below_unit : (u : List ℕ) (m : ℕ) → Lines → Read Top
  below_unit u m l = and_then (lined m l) (λ v k q. good (record { unit = u; floor = at 0 v; count = at 1 v }) k q)

  abbrev below_form : ℕ → List ℕ → Option (List ℕ) → Read Top
  below_form m t x = and_then (unit_read x m (below t)) (λ u k r. below_unit u k (read_from (next_of HeadTable nothing) 18 [] r))

  by_head : (u r : List ℕ) (m : ℕ) → m ≡ 3 → length u ≤ 16 → Left s r → (l : Lines) → read_from (next_of HeadTable nothing) 18 [] r ≡ l
      → below_unit u m l ≡ good h n rest → Headed s h n rest
  by_head u r m three k a (bad_line j) i e = let z : ◌≡◌ {A = ℕ} 0 1 = cc in absurd (omega arith)
  by_head u r m three k a (good_lines vs q) i e =
      let x = had HeadTable r vs q i in
      let w = head_two vs x.said in
      let top : h ≡ record { unit = u; floor = at 0 vs; count = at 1 vs } = cc in
      let line : n ≡ m + length vs = cc in
      let end : q ≡ rest = cc in
      record {
        line = omega (arith, line, three, ap length w.are);
        few = omega (arith, ap (λ (t : Top). t.count) top, ap (at 1) w.are, w.count_to);
        fits = omega (arith, ap (λ (t : Top). length t.unit) top, k);
        inside = omega arith;
        from_there = left_there s rest (rw end at (left_on a x.left));
      }

  by_unit : (t : List ℕ) (m : ℕ) → m ≡ 2 → Left s t → (x : Option (List ℕ)) → unit_at t ≡ x → below_form m t x ≡ good h n rest → Headed s h n rest
  by_unit t m two a None i e = let z : ◌≡◌ {A = ℕ} 0 1 = cc in absurd (omega arith)
  by_unit t m two a (Some u) i e =
      let w = unit_own t u i in
      by_head u (below t) (suc m) (omega (arith, two)) (unit_fits u w.0) (left_on a (record { front = line_text (bytes "unit=") u; are = w.1 }))
      (read_from (next_of HeadTable nothing) 18 [] (below t)) refl e

  by_form : (l : Lines) → read_from (next_of Form nothing) 18 [] s ≡ l
      → and_then (lined 1 l) (λ f m t. below_form m t (unit_at t)) ≡ good h n rest → Headed s h n rest
  by_form (bad_line j) i e = let z : ◌≡◌ {A = ℕ} 0 1 = cc in absurd (omega arith)
  by_form (good_lines vs t) i e =
      let x = had Form s vs t i in
      by_unit t (1 + length vs) (omega (arith, form_one vs x.said)) x.left (unit_at t) refl e

  pub headed : read_head s ≡ good h n rest → Headed s h n rest
  unfolding read_head read_item read_unit
  headed e = by_form (read_from (next_of Form nothing) 18 [] s) refl e
