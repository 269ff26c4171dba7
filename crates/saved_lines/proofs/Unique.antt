-- THE THEOREMS on the contracts of the functions that are public to the files of this crate alone: one answer at most satisfies each. Assumes nothing.
use Rattle.saved_lines.specs.contracts.keys as keys_contracts
use Rattle.saved_lines.proofs.keys as keys
use Rattle.saved_lines.specs.contracts.line as line_contracts
use Rattle.saved_lines.proofs.line as line
use Rattle.saved_lines.specs.contracts.tables as tables_contracts
use Rattle.saved_lines.proofs.tables as tables
use Rattle.saved_lines.proofs.Told.{one_line}
use Rattle.text.proofs.Determined.{equation, equations}
use Rattle.text.specs.Shapes.{Answers, OneOutput, OneResult}
use mathlib.Core.Path.{sym, ◌∙◌}

pub record Within : Type 0 where
  pub keys_key_of : Answers keys_contracts.key_of.ended keys.key_of.Reads.Asked keys.key_of.Reads.Learnt
  pub line_meet : Answers line_contracts.meet.ended line.meet.Reads.Asked line.meet.Reads.Learnt
  pub line_put_next : OneOutput line_contracts.put_next.ended (λ κs e. e.0.now) line.put_next.Reads.Learnt
  pub tables_next_of : OneResult tables_contracts.next_of.ended tables.next_of.Reads.Learnt

pub within : Within
within =
    record {
      keys_key_of = (λ κs a. tt, λ κs a. equation _);
      line_meet = (λ κs a. tt, λ κs a. equation _);
      line_put_next = λ κs a. equations _ _ _;
      tables_next_of = λ κs a x y p q. one_line x y (p.1 ∙ sym q.1);
    }
