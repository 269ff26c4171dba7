use Rattle.std.specs.Prelude.{Result, Ok, Err}
use Rattle.halimpung.proofs.Longest.{all_printed}
use Rattle.reader.specs.Said.{answer_by}
use Rattle.record.specs.declared.Record.{Record}
use Rattle.refusal.specs.declared.Refusal.{Refusal}
use Prim.Native.Nat.{ℕ}
use Rattle.report.proofs.Fields.{told_report}
use Rattle.report.specs.Program.{heard_of}
use Rattle.report.specs.Report.{told_lines}
use borrow.Author.Rules.{rules}
use lib.ListN.{length}
use mathlib.Core.List.{List}
use mathlib.Core.Path.{◌≡◌, ap, ◌∙◌}
use Rattle.halimpung.proofs.printed.Goals as goal

pub returns : goal.returns
returns c =
    let unit_room : (r : Record) → c.hear-answer.result ≡ Ok r → length r.unit ≡ 16 = λ r e. search rules in
    let room : length c.args.room.now ≡ 89 = search rules in
    let input = c.args.input.now in
    let answer = c.hear-answer.ensures ∙ ap (λ (plan : List ℕ). heard_of plan input) c.as_read.ensures in
    let told = ap told_lines c.told.ensures ∙ told_report c.hear-answer.result in
    c.front.ensures ∙ all_printed _ input c.hear-answer.result _ _ _ unit_room answer _ told c.put_answer-size.ensures room
