-- THE THEOREM: request A7. Assumes nothing.
use Prim.Native.Nat.{ℕ}
use Rattle.book.proofs.Formed.{formed_tells}
use Rattle.book.specs.Answers.{of_panel, shown_of}
use Rattle.book.specs.Places.{formed_book}
use Rattle.book.specs.declared.Book.{Book}
use Rattle.book_ledger.specs.Calls.{Call}
use Rattle.book_ledger.specs.History.{held_by}
use Rattle.book_lists.proofs.Least.{least_is, least_most, least_none}
use Rattle.book_order.specs.Orders.{next_end}
use Rattle.book_order.specs.declared.Order.{Order}
use Rattle.book_theorems.proofs.Theorems.{kept, kept_panel, held_end}
use Rattle.book_theorems.specs.Books.{after, history}
use Rattle.demands.specs.Request7.{Request7}
use Rattle.text.proofs.Tests.{untold}
use Rattle.text.specs.Said.{said}
use Rattle.value_name.specs.Names.{is_unit}
use lib.ListN.{length}
use mathlib.Core.Bool.{true, false}
use mathlib.Core.List.{List, [], ◌∷◌}
use mathlib.Core.Path.{◌≡◌, refl, ◌∙◌}

abbrev end : Order → ℕ
end o = o.end

stored : (b : Book) → formed_book b ≡ true → of_panel (shown_of b).answer ≡ said 0 0 (b.held ∷ b.next ∷ [])
unfolding shown_of
stored b e = rw e

unshown : (b : Book) → formed_book b ≡ false → of_panel (shown_of b).answer ≡ said 20 0 []
unfolding shown_of
unshown b e = rw e

shown : (unit : List ℕ) (ks : List Call) → is_unit unit ≡ true
    → of_panel (shown_of (after unit ks)).answer ≡ said 0 0 (length (held_by (history unit ks)) ∷ next_end (held_by (history unit ks)) ∷ [])
shown unit ks e =
    let p = kept_panel unit ks e in
    stored (after unit ks) (kept unit ks e).formed ∙ (λ i. said 0 0 (p.0 i ∷ p.1 i ∷ []))

pub request_7 : Request7
request_7 =
    record {
      shows = shown;
      reads_stored = stored;
      next_is = λ unit ks some.
          let h = history unit ks in
          least_is end (held_by h) (λ e. some (least_none end (held_by h) (held_end h) e));
      next_least = λ unit ks. least_most end (held_by (history unit ks)) (held_end (history unit ks));
      none_held = refl;
      some_held = λ unit ks. least_none end (held_by (history unit ks)) (held_end (history unit ks));
      defined = λ b e. let w = (formed_tells b).0 e in (w.held_is, w.next_is);
      wrong_numbers = λ b no. untold (formed_tells b) (λ w. no (w.held_is, w.next_is));
      refused = unshown;
    }
