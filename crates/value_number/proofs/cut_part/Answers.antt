use Rattle.std.specs.Prelude.{Option, ℤ}
use Prim.Native.Nat.{◌+◌, ◌≤◌}
use Rattle.value_number.proofs.Parts.{cut_fits, cut_is}
use Rattle.value_number.specs.Number.{number_of}
use Rattle.value_number.specs.Parts.{ended, part_number}
use Rattle.text.proofs.Cuts.{tail, front_count}
use Rattle.text.specs.Bytes.{first_of}
use borrow.Author.Rules.{rules}
use lib.ListN.{length, take, drop, length-drop}
use mathlib.Core.Path.{◌≡◌, sym, ap, ◌∙◌}
use mir.Syntax.{w32}
use mir.ValLaws.{to_z-of_z}
use native.Mathlib.Omega.{arith}
use Rattle.value_number.proofs.cut_part.Goals as goal

pub slice_bounds-trim-end : goal.slice_bounds-trim-end
slice_bounds-trim-end c =
    let found : c.first-n.result ≡ first_of c.args.sep (drop c.args.at c.args.s.now) = let a = c.args in rw (tail a.s.now a.at) at c.first-n.ensures in
    let a = c.args in
    front_count _ _ (rw (tail a.s.now a.at) (cut_fits a.sep a.s.now a.at _ found))

pub overflow_add-result : goal.overflow_add-result
overflow_add-result c =
    let found : c.first-n.result ≡ first_of c.args.sep (drop c.args.at c.args.s.now) = let a = c.args in rw (tail a.s.now a.at) at c.first-n.ensures in
    let a = c.args in
    let fits : a.at + c.first-n.result ≤ length a.s.now =
    omega (arith, cut_fits a.sep a.s.now a.at _ found, length-drop a.at a.s.now) in
    search rules

pub returns-in-Some : goal.returns-in-Some
unfolding ended
returns-in-Some c =
    let found : c.first-n.result ≡ first_of c.args.sep (drop c.args.at c.args.s.now) = let a = c.args in rw (tail a.s.now a.at) at c.first-n.ensures in
    let was_read : (d : Option ℤ) → c.read.result ≡ d → ended d (c.args.at + c.first-n.result) ≡ part_number c.args.sep c.args.s.now c.args.at = λ d e. let a = c.args in
    cut_is a.sep a.s.now a.at _ found d _
    (ap (take c.first-n.result) (tail a.s.now a.at))
    (sym e ∙ c.read.ensures ∙ ap number_of c.trim.ensures) in
    rw (to_z-of_z w32 c.in-Some.v (search rules)) (was_read _ c.in-Some.is)

pub returns-in-None : goal.returns-in-None
unfolding ended
returns-in-None c =
    let found : c.first-n.result ≡ first_of c.args.sep (drop c.args.at c.args.s.now) = let a = c.args in rw (tail a.s.now a.at) at c.first-n.ensures in
    let was_read : (d : Option ℤ) → c.read.result ≡ d → ended d (c.args.at + c.first-n.result) ≡ part_number c.args.sep c.args.s.now c.args.at = λ d e. let a = c.args in
    cut_is a.sep a.s.now a.at _ found d _
    (ap (take c.first-n.result) (tail a.s.now a.at))
    (sym e ∙ c.read.ensures ∙ ap number_of c.trim.ensures) in
    was_read _ c.in-None.is
