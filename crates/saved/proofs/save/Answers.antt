use Rattle.book.proofs.Holding.{Holding, holds, holds_none}
use Rattle.book.proofs.Sizes.{sized}
use Rattle.saved.proofs.Saving.{partial_held, save_malformed, save_partial, save_full, save_done}
use Rattle.saved.specs.Saved.{has_partial}
use borrow.Author.Rules.{rules}
use mathlib.Core.Bool.{Bool}
use mathlib.Core.Path.{◌≡◌}
use Rattle.saved.proofs.save.Goals as goal

pub returns-in_default : goal.returns-in_default
returns-in_default c = save_malformed _ _ (holds_none _ _ c.tally.ensures c.in_default.is)

pub any_partial-requires : goal.any_partial-requires
any_partial-requires c =
    let holding : Holding c.args.b c.in-Some.count = holds c.args.b _ c.tally.ensures _ (sized c.args.b (search rules) (search rules)) c.in-Some.is in
    holding.few

pub returns-then-any_partial : goal.returns-then-any_partial
returns-then-any_partial c =
    let holding : Holding c.args.b c.in-Some.count = holds c.args.b _ c.tally.ensures _ (sized c.args.b (search rules) (search rules)) c.in-Some.is in
    let partial : (u : Bool) → c.any_partial.result ≡ u → has_partial c.args.b ≡ u = λ u is. partial_held _ _ holding _ u c.any_partial.ensures is in
    save_partial _ _ holding.formed (partial _ c.if-any_partial.true)

pub returns-then-out-size : goal.returns-then-out-size
returns-then-out-size c =
    let holding : Holding c.args.b c.in-Some.count = holds c.args.b _ c.tally.ensures _ (sized c.args.b (search rules) (search rules)) c.in-Some.is in
    let partial : (u : Bool) → c.any_partial.result ≡ u → has_partial c.args.b ≡ u = λ u is. partial_held _ _ holding _ u c.any_partial.ensures is in
    save_full _ _ holding.formed (partial _ c.if-any_partial.false) _ _ c.put_book-size.ensures c.if-out-size.true

pub returns : goal.returns
returns c =
    let holding : Holding c.args.b c.in-Some.count = holds c.args.b _ c.tally.ensures _ (sized c.args.b (search rules) (search rules)) c.in-Some.is in
    let partial : (u : Bool) → c.any_partial.result ≡ u → has_partial c.args.b ≡ u = λ u is. partial_held _ _ holding _ u c.any_partial.ensures is in
    save_done _ _ holding.formed (partial _ c.if-any_partial.false) _ _ c.put_book-size.ensures c.if-out-size.false _ _ c.put_book.ensures
