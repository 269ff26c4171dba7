-- The calls that a caller outside these crates makes: their contracts, and that their code meets them.
use Rattle.book.specs.contracts as book_contracts
use Rattle.book.proofs as book
use Rattle.report_brief.specs.contracts as report_brief_contracts
use Rattle.report_brief.proofs as report_brief
use Rattle.value_date.specs.contracts as value_date_contracts
use Rattle.value_date.proofs as value_date
use Rattle.gateway.specs.contracts as gateway_contracts
use Rattle.gateway.proofs as gateway
use Rattle.value_list.specs.contracts as value_list_contracts
use Rattle.value_list.proofs as value_list
use Rattle.value_name.specs.contracts as value_name_contracts
use Rattle.value_name.proofs as value_name
use Rattle.value_number.specs.contracts as value_number_contracts
use Rattle.value_number.proofs as value_number
use Rattle.plan.specs.contracts as plan_contracts
use Rattle.plan.proofs as plan
use Rattle.reader.specs.contracts as reader_contracts
use Rattle.reader.proofs as reader
use Rattle.value_put.specs.contracts as value_put_contracts
use Rattle.value_put.proofs as value_put
use Rattle.report.specs.contracts as report_contracts
use Rattle.report.proofs as report
use Rattle.record_rules.specs.contracts as record_rules_contracts
use Rattle.record_rules.proofs as record_rules
use Rattle.times.specs.contracts as times_contracts
use Rattle.times.proofs as times
use Rattle.saved.specs.contracts as saved_contracts
use Rattle.saved.proofs as saved
use Rattle.transfer.specs.contracts as transfer_contracts
use Rattle.transfer.proofs as transfer
use Rattle.record_check.specs.contracts as record_check_contracts
use Rattle.record_check.proofs as record_check
use Rattle.value.specs.contracts as value_contracts
use Rattle.value.proofs as value
use Rattle.value_word.specs.contracts as value_word_contracts
use Rattle.value_word.proofs as value_word
use Rattle.writer.specs.contracts as writer_contracts
use Rattle.writer.proofs as writer
use Rattle.text.specs.Shapes.{Answers, Lends, Writes, WritesTwo}

-- Of each the contract asks nothing of its caller, and one answer at most satisfies it, with the final bytes of the buffer that it writes. (`e` has the
-- parameters at exit, in order: `e.1.0.now` are the bytes of the second)
pub record Calls : Type 0 where
  -- the entries that a C host calls
  pub gateway_halimpung_read :
      Writes gateway_contracts.halimpung_read.ended (λ κs e. e.1.1.1.1.0.now) gateway.halimpung_read.Reads.Asked gateway.halimpung_read.Reads.Learnt
  pub gateway_halimpung_normalise :
      Writes gateway_contracts.halimpung_normalise.ended (λ κs e. e.1.1.1.1.0.now) gateway.halimpung_normalise.Reads.Asked gateway.halimpung_normalise.Reads.Learnt
  pub gateway_halimpung_collect :
      WritesTwo gateway_contracts.halimpung_collect.ended (λ κs e. e.1.0.now) (λ κs e. e.1.1.0.now) gateway.halimpung_collect.Reads.Asked
      gateway.halimpung_collect.Reads.Learnt
  -- files and records: the reader, the writer, the normaliser, the test of a record, the lowest rule that it breaks, what is told of it
  pub reader_read : Answers reader_contracts.read.ended reader.read.Reads.Asked reader.read.Reads.Learnt
  pub writer_write : Writes writer_contracts.write.ended (λ κs e. e.1.0.now) writer.write.Reads.Asked writer.write.Reads.Learnt
  pub writer_normalise : Writes writer_contracts.normalise.ended (λ κs e. e.1.1.1.1.0.now) writer.normalise.Reads.Asked writer.normalise.Reads.Learnt
  pub record_check_is_valid : Answers record_check_contracts.is_valid.ended record_check.is_valid.Reads.Asked record_check.is_valid.Reads.Learnt
  pub record_rules_lowest_broken : Answers record_rules_contracts.lowest_broken.ended record_rules.lowest_broken.Reads.Asked record_rules.lowest_broken.Reads.Learnt
  pub report_brief_of_record : Answers report_brief_contracts.of_record.ended report_brief.of_record.Reads.Asked report_brief.of_record.Reads.Learnt
  -- a file from its segments: a fresh collector, and one unit
  pub transfer_fresh : Answers transfer_contracts.fresh.ended transfer.fresh.Reads.Asked transfer.fresh.Reads.Learnt
  pub transfer_take :
      Writes transfer_contracts.Collector.take.ended (λ κs e. e.1.1.0.now) transfer.Collector.take.Reads.Asked transfer.Collector.take.Reads.Learnt
  -- the book: a fresh one and one of a unit, the four calls, the two deeds without a message, and how many orders it holds
  pub book_fresh : Answers book_contracts.fresh.ended book.fresh.Reads.Asked book.fresh.Reads.Learnt
  pub book_command : Answers book_contracts.Book.command.ended book.Book.command.Reads.Asked book.Book.command.Reads.Learnt
  pub book_revoke : Answers book_contracts.Book.revoke.ended book.Book.revoke.Reads.Asked book.Book.revoke.Reads.Learnt
  pub book_close : Answers book_contracts.Book.close.ended book.Book.close.Reads.Asked book.Book.close.Reads.Learnt
  pub book_in_force : Answers book_contracts.Book.in_force.ended book.Book.in_force.Reads.Asked book.Book.in_force.Reads.Learnt
  pub book_panel : Answers book_contracts.Book.panel.ended book.Book.panel.Reads.Asked book.Book.panel.Reads.Learnt
  pub book_with : Answers book_contracts.with.ended book.with.Reads.Asked book.with.Reads.Learnt
  pub book_hold : Answers book_contracts.Book.hold.ended book.Book.hold.Reads.Asked book.Book.hold.Reads.Learnt
  pub book_strike : Answers book_contracts.Book.strike.ended book.Book.strike.Reads.Asked book.Book.strike.Reads.Learnt
  pub book_tally : Answers book_contracts.Book.tally.ended book.Book.tally.Reads.Asked book.Book.tally.Reads.Learnt
  pub book_zero : Answers book_contracts.zero.ended book.zero.Reads.Asked book.zero.Reads.Learnt
  -- a book as a text: saved, read back, and one order of such a text
  pub saved_save : Writes saved_contracts.save.ended (λ κs e. e.1.0.now) saved.save.Reads.Asked saved.save.Reads.Learnt
  pub saved_read : Answers saved_contracts.read.ended saved.read.Reads.Asked saved.read.Reads.Learnt
  pub saved_read_order : Answers saved_contracts.read_order.ended saved.read_order.Reads.Asked saved.read_order.Reads.Learnt
  -- the times: each call's part of the file or of the sheet, where it stands, and why there is none
  pub times_start_up : Lends times_contracts.start_up.ended (λ κs z. z.now) times.start_up.Reads.Asked times.start_up.Reads.Learnt
  pub times_ramp : Lends times_contracts.ramp.ended (λ κs z. z.now) times.ramp.Reads.Asked times.ramp.Reads.Learnt
  pub times_locate : Answers times_contracts.locate.ended times.locate.Reads.Asked times.locate.Reads.Learnt
  pub times_refusal_of : Answers times_contracts.refusal_of.ended times.refusal_of.Reads.Asked times.refusal_of.Reads.Learnt
  -- the plan; what the program is answered, and what it prints
  pub plan_seek : Answers plan_contracts.seek.ended plan.seek.Reads.Asked plan.seek.Reads.Learnt
  pub report_hear : Answers report_contracts.hear.ended report.hear.Reads.Asked report.hear.Reads.Learnt
  pub report_print : Writes report_contracts.print.ended (λ κs e. e.0.now) report.print.Reads.Asked report.print.Reads.Learnt
  -- values: of every kind, read and written
  pub value_read_read : Answers value_contracts.read.read.ended value.read.read.Reads.Asked value.read.read.Reads.Learnt
  pub value_put_write_value : Writes value_put_contracts.write_value.ended (λ κs e. e.0.now) value_put.write_value.Reads.Asked value_put.write_value.Reads.Learnt
  pub value_number_read : Answers value_number_contracts.read.ended value_number.read.Reads.Asked value_number.read.Reads.Learnt
  pub value_date_read : Answers value_date_contracts.read.ended value_date.read.Reads.Asked value_date.read.Reads.Learnt
  pub value_date_is_real : Answers value_date_contracts.is_real.ended value_date.is_real.Reads.Asked value_date.is_real.Reads.Learnt
  pub value_date_instant : Answers value_date_contracts.instant.ended value_date.instant.Reads.Asked value_date.instant.Reads.Learnt
  pub value_date_is_before : Answers value_date_contracts.is_before.ended value_date.is_before.Reads.Asked value_date.is_before.Reads.Learnt
  pub value_name_identifier_read : Answers value_name_contracts.identifier.read.ended value_name.identifier.read.Reads.Asked value_name.identifier.read.Reads.Learnt
  pub value_name_sequence_read : Answers value_name_contracts.sequence.read.ended value_name.sequence.read.Reads.Asked value_name.sequence.read.Reads.Learnt
  pub value_name_unit_is_unit : Answers value_name_contracts.unit.is_unit.ended value_name.unit.is_unit.Reads.Asked value_name.unit.is_unit.Reads.Learnt
  pub value_name_code : Answers value_name_contracts.code.ended value_name.code.Reads.Asked value_name.code.Reads.Learnt
  pub value_word_read : Answers value_word_contracts.read.ended value_word.read.Reads.Asked value_word.read.Reads.Learnt
  pub value_word_read_volt : Answers value_word_contracts.read_volt.ended value_word.read_volt.Reads.Asked value_word.read_volt.Reads.Learnt
  pub value_list_few_read_profile : Answers value_list_contracts.few.read_profile.ended value_list.few.read_profile.Reads.Asked value_list.few.read_profile.Reads.Learnt
  pub value_list_few_read_bands : Answers value_list_contracts.few.read_bands.ended value_list.few.read_bands.Reads.Asked value_list.few.read_bands.Reads.Learnt
  pub value_list_triples_read : Answers value_list_contracts.triples.read.ended value_list.triples.read.Reads.Asked value_list.triples.read.Reads.Learnt

-- In every model of the program logic the code of each meets its contract: it ends, and with an answer that the contract allows. (The code's own theorems)
pub record Meets : Type 2 where
  pub gateway_halimpung_read : (M : Type 1) → gateway.halimpung_read.Statement.statement M
  pub gateway_halimpung_normalise : (M : Type 1) → gateway.halimpung_normalise.Statement.statement M
  pub gateway_halimpung_collect : (M : Type 1) → gateway.halimpung_collect.Statement.statement M
  pub reader_read : (M : Type 1) → reader.read.Statement.statement M
  pub writer_write : (M : Type 1) → writer.write.Statement.statement M
  pub writer_normalise : (M : Type 1) → writer.normalise.Statement.statement M
  pub record_check_is_valid : (M : Type 1) → record_check.is_valid.Statement.statement M
  pub record_rules_lowest_broken : (M : Type 1) → record_rules.lowest_broken.Statement.statement M
  pub report_brief_of_record : (M : Type 1) → report_brief.of_record.Statement.statement M
  pub transfer_fresh : (M : Type 1) → transfer.fresh.Statement.statement M
  pub transfer_take : (M : Type 1) → transfer.Collector.take.Statement.statement M
  pub book_fresh : (M : Type 1) → book.fresh.Statement.statement M
  pub book_command : (M : Type 1) → book.Book.command.Statement.statement M
  pub book_revoke : (M : Type 1) → book.Book.revoke.Statement.statement M
  pub book_close : (M : Type 1) → book.Book.close.Statement.statement M
  pub book_in_force : (M : Type 1) → book.Book.in_force.Statement.statement M
  pub book_panel : (M : Type 1) → book.Book.panel.Statement.statement M
  pub book_with : (M : Type 1) → book.with.Statement.statement M
  pub book_hold : (M : Type 1) → book.Book.hold.Statement.statement M
  pub book_strike : (M : Type 1) → book.Book.strike.Statement.statement M
  pub book_tally : (M : Type 1) → book.Book.tally.Statement.statement M
  pub book_zero : (M : Type 1) → book.zero.Statement.statement M
  pub saved_save : (M : Type 1) → saved.save.Statement.statement M
  pub saved_read : (M : Type 1) → saved.read.Statement.statement M
  pub saved_read_order : (M : Type 1) → saved.read_order.Statement.statement M
  pub times_start_up : (M : Type 1) → times.start_up.Statement.statement M
  pub times_ramp : (M : Type 1) → times.ramp.Statement.statement M
  pub times_locate : (M : Type 1) → times.locate.Statement.statement M
  pub times_refusal_of : (M : Type 1) → times.refusal_of.Statement.statement M
  pub plan_seek : (M : Type 1) → plan.seek.Statement.statement M
  pub report_hear : (M : Type 1) → report.hear.Statement.statement M
  pub report_print : (M : Type 1) → report.print.Statement.statement M
  pub value_read_read : (M : Type 1) → value.read.read.Statement.statement M
  pub value_put_write_value : (M : Type 1) → value_put.write_value.Statement.statement M
  pub value_number_read : (M : Type 1) → value_number.read.Statement.statement M
  pub value_date_read : (M : Type 1) → value_date.read.Statement.statement M
  pub value_date_is_real : (M : Type 1) → value_date.is_real.Statement.statement M
  pub value_date_instant : (M : Type 1) → value_date.instant.Statement.statement M
  pub value_date_is_before : (M : Type 1) → value_date.is_before.Statement.statement M
  pub value_name_identifier_read : (M : Type 1) → value_name.identifier.read.Statement.statement M
  pub value_name_sequence_read : (M : Type 1) → value_name.sequence.read.Statement.statement M
  pub value_name_unit_is_unit : (M : Type 1) → value_name.unit.is_unit.Statement.statement M
  pub value_name_code : (M : Type 1) → value_name.code.Statement.statement M
  pub value_word_read : (M : Type 1) → value_word.read.Statement.statement M
  pub value_word_read_volt : (M : Type 1) → value_word.read_volt.Statement.statement M
  pub value_list_few_read_profile : (M : Type 1) → value_list.few.read_profile.Statement.statement M
  pub value_list_few_read_bands : (M : Type 1) → value_list.few.read_bands.Statement.statement M
  pub value_list_triples_read : (M : Type 1) → value_list.triples.read.Statement.statement M
