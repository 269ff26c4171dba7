use Prim.Native.Nat.{ℕ}
use Rattle.text.proofs.Fronts.{run_before}
use Rattle.text.specs.Bytes.{is}
use mathlib.Core.Bool.{not}
use mathlib.Core.Path.{refl, ◌∙◌}
use Rattle.text.proofs.scan.first.Goals as goal

pub returns : goal.returns
returns c = c.run.ensures ∙ run_before (λ (x : ℕ). not (is c.args.b x)) (is c.args.b) (λ x. refl) c.args.s.now
