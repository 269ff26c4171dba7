use Rattle.std.proofs.lemmas.Result.{err_from_is_err_and}
use Rattle.std.specs.Prelude.{ℕ, Err}
use Rattle.saved.proofs.Answers.{bad_order, order_instants, good_order}
use Rattle.saved.specs.Saved.{order_read_by}
use Rattle.saved_lines.specs.Items.{item_by}
use mathlib.Core.Path.{refl, sym, ap, ◌∙◌}
use Rattle.saved.proofs.read_order.Goals as goal

pub returns-in_err-item : goal.returns-in_err-item
returns-in_err-item c =
    let p = err_from_is_err_and c.from_residual.result c.from_residual.ensures.1 in
    ap order_read_by p.1 ∙ ap (λ (k : ℕ). order_read_by (Err k)) p.2 ∙ bad_order _ _ _ _ (ap item_by (sym c.in_err-item.was) ∙ c.read_item.ensures) refl

pub order_of-requires : goal.order_of-requires
order_of-requires c = order_instants _ _ _ _ (ap item_by (sym c.in_ok-item.was) ∙ c.read_item.ensures) refl

pub returns : goal.returns
returns c = good_order _ _ _ _ (ap item_by (sym c.in_ok-item.was) ∙ c.read_item.ensures) refl _ c.order_of.ensures
