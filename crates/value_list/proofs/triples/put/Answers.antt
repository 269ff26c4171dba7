use Prim.Native.Nat.{ℕ, ◌+◌, ◌≤◌, ◌<◌}
use Rattle.value_list.proofs.Puts.{begin_put, same_room, next_put, all_put, none_put, place_near}
use Rattle.value_list.proofs.Texts.{triple_short}
use Rattle.value_list.specs.Forms.{no_triple, triple_text, gradients_text}
use Rattle.text.proofs.Runs.{puts, puts_of}
use borrow.Author.Rules.{rules}
use lib.ListN.{length-drop, length-take, length, get_or, take}
use lib.Seq.{get_or-take}
use mathlib.Core.Path.{◌≡◌, refl, sym, ◌∙◌}
use native.Mathlib.Omega.{arith}
use Rattle.value_list.proofs.triples.put.Goals as goal

pub returns-then-held-eq0 : goal.returns-then-held-eq0
unfolding gradients_text
returns-then-held-eq0 c =
    let all_of : c.min-held.result ≡ length (take c.args.n c.args.values) = let e : length c.args.values ≡ 16 = search rules in
    omega (arith, c.min-held.ensures, length-take c.args.n c.args.values) in
    none_put triple_text 59 (take c.args.n c.args.values) c.args.out.now c.args.at (sym all_of ∙ c.if-held-eq0.true)

pub loop-i-init : goal.loop-i-init
loop-i-init c = begin_put triple_text _ _ _ _

pub put_byte-q-requires : goal.put_byte-q-requires
put_byte-q-requires c =
    let all_of : c.min-held.result ≡ length (take c.args.n c.args.values) = let e : length c.args.values ≡ 16 = search rules in
    omega (arith, c.min-held.ensures, length-take c.args.n c.args.values) in
    let near : c.loop-i.p ≤ c.args.at + 623 = omega (
      arith,
      place_near triple_text 59 38 triple_short c.loop-i.invariant,
      length-drop 1 (take c.args.n c.args.values),
      all_of,
      c.min-held.ensures,
      c.put_triple-p.ensures.0,
      triple_short (get_or c.args.values 0 no_triple),
    ) in
    let n = near in search rules

pub put_triple-p-requires-in-loop-i : goal.put_triple-p-requires-in-loop-i
put_triple-p-requires-in-loop-i c =
    let all_of : c.min-held.result ≡ length (take c.args.n c.args.values) = let e : length c.args.values ≡ 16 = search rules in
    omega (arith, c.min-held.ensures, length-take c.args.n c.args.values) in
    let near : c.loop-i.p ≤ c.args.at + 623 = omega (
      arith,
      place_near triple_text 59 38 triple_short c.loop-i.invariant,
      length-drop 1 (take c.args.n c.args.values),
      all_of,
      c.min-held.ensures,
      c.put_triple-p.ensures.0,
      triple_short (get_or c.args.values 0 no_triple),
    ) in
    let n = near in search rules

pub loop-i-preserved : goal.loop-i-preserved
loop-i-preserved c =
    let all_of : c.min-held.result ≡ length (take c.args.n c.args.values) = let e : length c.args.values ≡ 16 = search rules in
    omega (arith, c.min-held.ensures, length-take c.args.n c.args.values) in
    let at_place : (i : ℕ) → i < length (take c.args.n c.args.values) → get_or c.args.values i no_triple ≡ get_or (take c.args.n c.args.values) i no_triple = λ i h. sym (get_or-take c.args.n c.args.values i no_triple (omega (arith, length-take c.args.n c.args.values))) in
    let h = all_of in
    next_put triple_text 59 no_triple _ c.loop-i.invariant (at_place c.loop-i.i (omega arith)) (omega arith) (puts_of 1 refl c.put_byte-q.ensures) (puts c.put_triple-p-in-loop-i.ensures)

pub shape_of-out : goal.shape_of-out
shape_of-out c = let k = same_room _ _ c.loop-i.invariant in search rules

pub returns : goal.returns
unfolding gradients_text
returns c =
    let all_of : c.min-held.result ≡ length (take c.args.n c.args.values) = let e : length c.args.values ≡ 16 = search rules in
    omega (arith, c.min-held.ensures, length-take c.args.n c.args.values) in
    let at_place : (i : ℕ) → i < length (take c.args.n c.args.values) → get_or c.args.values i no_triple ≡ get_or (take c.args.n c.args.values) i no_triple = λ i h. sym (get_or-take c.args.n c.args.values i no_triple (omega (arith, length-take c.args.n c.args.values))) in
    let h = all_of in
    let n : 0 < c.min-held.result = omega (arith, c.if-held-eq0.false) in
    all_put triple_text 59 no_triple _ (at_place 0 (omega arith)) (omega arith) (puts c.put_triple-p.ensures) c.loop-i.invariant (omega arith)
