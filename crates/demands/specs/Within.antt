-- The functions that are public because crates above or files beside them call them: one answer at most satisfies the contract of each. What some ask is
-- in docs/DESIGN.md, D10; the others ask nothing (`Answers`, `Writes`, `Lends`).
use Rattle.std.specs.Prelude.{ℕ, ◌<◌}
use Rattle.refusal.specs.contracts as refusal_contracts
use Rattle.refusal.proofs as refusal
use denote.RattleType.{RattleType}
use denote.Param.Laws.{Laws}
use mir.Val.{Fits}
use mir.Syntax.{w64}
use Rattle.plan_row.specs.contracts as plan_row_contracts
use Rattle.plan_row.proofs as plan_row
use Rattle.value_ask.specs.contracts as value_ask_contracts
use Rattle.value_ask.proofs as value_ask
use Rattle.layout_banner.specs.contracts as layout_banner_contracts
use Rattle.layout_banner.proofs as layout_banner
use Rattle.writer_lines.specs.contracts as writer_lines_contracts
use Rattle.writer_lines.proofs as writer_lines
use Rattle.report_brief.specs.contracts as report_brief_contracts
use Rattle.report_brief.proofs as report_brief
use Rattle.writer_message.specs.contracts as writer_message_contracts
use Rattle.writer_message.proofs as writer_message
use Rattle.value_date.specs.contracts as value_date_contracts
use Rattle.value_date.proofs as value_date
use Rattle.text.specs.Shapes.{Answers, AsksNothing, Lends, OneOutput, OneResult, OneText, Writes}
use Rattle.reader_accent.specs.contracts as reader_accent_contracts
use Rattle.reader_accent.proofs as reader_accent
use Rattle.reader_line.specs.contracts as reader_line_contracts
use Rattle.reader_line.proofs as reader_line
use Rattle.reader_fill.specs.contracts as reader_fill_contracts
use Rattle.reader_fill.proofs as reader_fill
use Rattle.value_bounds.specs.contracts as value_bounds_contracts
use Rattle.value_bounds.proofs as value_bounds
use Rattle.value_fits.specs.contracts as value_fits_contracts
use Rattle.value_fits.proofs as value_fits
use Rattle.text_keyline.specs.contracts as text_keyline_contracts
use Rattle.text_keyline.proofs as text_keyline
use Rattle.saved_lines.specs.contracts as saved_lines_contracts
use Rattle.saved_lines.proofs as saved_lines
use Rattle.layout_kind.specs.contracts as layout_kind_contracts
use Rattle.layout_kind.proofs as layout_kind
use Rattle.layout_label.specs.contracts as layout_label_contracts
use Rattle.layout_label.proofs as layout_label
use Rattle.layout.specs.contracts as layout_contracts
use Rattle.layout.proofs as layout
use Rattle.text_lines.specs.contracts as text_lines_contracts
use Rattle.text_lines.proofs as text_lines
use Rattle.value_list.specs.contracts as value_list_contracts
use Rattle.value_list.proofs as value_list
use Rattle.value_name.specs.contracts as value_name_contracts
use Rattle.value_name.proofs as value_name
use Rattle.value_number.specs.contracts as value_number_contracts
use Rattle.value_number.proofs as value_number
use Rattle.book_order.specs.contracts as book_order_contracts
use Rattle.book_order.proofs as book_order
use Rattle.book_places.specs.contracts as book_places_contracts
use Rattle.book_places.proofs as book_places
use Rattle.book_stretch.specs.contracts as book_stretch_contracts
use Rattle.book_stretch.proofs as book_stretch
use Rattle.reader.specs.contracts as reader_contracts
use Rattle.reader.proofs as reader
use Rattle.record.specs.contracts as records_contracts
use Rattle.record.proofs as records
use Rattle.value_put.specs.contracts as value_put_contracts
use Rattle.value_put.proofs as value_put
use Rattle.report.specs.contracts as report_contracts
use Rattle.report.proofs as report
use Rattle.text_room.specs.contracts as text_room_contracts
use Rattle.text_room.proofs as text_room
use Rattle.transfer.specs.contracts as transfer_contracts
use Rattle.transfer.proofs as transfer
use Rattle.transfer_unit.specs.contracts as transfer_unit_contracts
use Rattle.transfer_unit.proofs as transfer_unit
use Rattle.reader_row.specs.contracts as reader_row_contracts
use Rattle.reader_row.proofs as reader_row
use Rattle.reader_walk.specs.contracts as reader_walk_contracts
use Rattle.reader_walk.proofs as reader_walk
use Rattle.record_rules.specs.contracts as record_rules_contracts
use Rattle.record_rules.proofs as record_rules
use Rattle.times_sheet.specs.contracts as times_sheet_contracts
use Rattle.times_sheet.proofs as times_sheet
use Rattle.writer_row.specs.contracts as writer_row_contracts
use Rattle.writer_row.proofs as writer_row
use Rattle.text.specs.contracts as text_contracts
use Rattle.text.proofs as text
use Rattle.record_voltvar.specs.contracts as record_voltvar_contracts
use Rattle.record_voltvar.proofs as record_voltvar
use Rattle.value_word.specs.contracts as value_word_contracts
use Rattle.value_word.proofs as value_word
use Rattle.book.proofs as book
use Rattle.record_check.proofs as record_check

pub record Within : Type 2 where
  -- transfer
  pub transfer_unit_told_by : Answers transfer_unit_contracts.told_by.ended transfer_unit.told_by.Reads.Asked transfer_unit.told_by.Reads.Learnt
  pub transfer_unit_ca_of : Answers transfer_unit_contracts.ca_of.ended transfer_unit.ca_of.Reads.Asked transfer_unit.ca_of.Reads.Learnt
  pub transfer_unit_ioa_of : Answers transfer_unit_contracts.ioa_of.ended transfer_unit.ioa_of.Reads.Asked transfer_unit.ioa_of.Reads.Learnt
  pub transfer_state_collector_in :
      Answers transfer_contracts.state.collector_in.ended transfer.state.collector_in.Reads.Asked transfer.state.collector_in.Reads.Learnt
  pub transfer_state_state_of : Answers transfer_contracts.state.state_of.ended transfer.state.state_of.Reads.Asked transfer.state.state_of.Reads.Learnt
  -- refusal
  pub refusal_number : Answers refusal_contracts.Refusal.number.ended refusal.Refusal.number.Reads.Asked refusal.Refusal.number.Reads.Learnt
  pub refusal_detail : Answers refusal_contracts.Refusal.detail.ended refusal.Refusal.detail.Reads.Asked refusal.Refusal.detail.Reads.Learnt
  -- text
  pub text_digits_is_digit : Answers text_contracts.digits.is_digit.ended text.digits.is_digit.Reads.Asked text.digits.is_digit.Reads.Learnt
  pub text_digits_read_digits : OneResult text_contracts.digits.read_digits.ended text.digits.read_digits.Reads.Learnt
  pub text_digits_pow10 : OneResult text_contracts.digits.pow10.ended text.digits.pow10.Reads.Learnt
  pub text_digits_whole_size : OneResult text_contracts.digits.whole_size.ended text.digits.whole_size.Reads.Learnt
  pub text_digits_lead : OneResult text_contracts.digits.lead.ended text.digits.lead.Reads.Learnt
  pub text_put_put_byte : OneOutput text_contracts.put.put_byte.ended (λ κs e. e.0.now) text.put.put_byte.Reads.Learnt
  pub text_put_put_text : OneOutput text_contracts.put.put_text.ended (λ κs e. e.0.now) text.put.put_text.Reads.Learnt
  pub text_put_put_digits : OneOutput text_contracts.put.put_digits.ended (λ κs e. e.0.now) text.put.put_digits.Reads.Learnt
  pub text_put_put_whole : OneOutput text_contracts.put.put_whole.ended (λ κs e. e.0.now) text.put.put_whole.Reads.Learnt
  -- a run by any test
  pub text_scan_run :
      (t : RattleType) (l : Laws t) (g : _) (d : _) → OneResult (text_contracts.scan.run.ended t g d) (text.scan.run.Reads.Learnt t l g d)
  pub text_scan_IsByte_passes :
      Answers text_contracts.scan.IsByteByteTest.passes.ended text.scan.IsByteByteTest.passes.Reads.Asked text.scan.IsByteByteTest.passes.Reads.Learnt
  pub text_scan_same : Answers text_contracts.scan.same.ended text.scan.same.Reads.Asked text.scan.same.Reads.Learnt
  pub text_scan_starts : Answers text_contracts.scan.starts.ended text.scan.starts.Reads.Asked text.scan.starts.Reads.Learnt
  pub text_scan_first : Answers text_contracts.scan.first.ended text.scan.first.Reads.Asked text.scan.first.Reads.Learnt
  pub text_scan_lead : Answers text_contracts.scan.lead.ended text.scan.lead.Reads.Asked text.scan.lead.Reads.Learnt
  pub text_scan_are_zero : Answers text_contracts.scan.are_zero.ended text.scan.are_zero.Reads.Asked text.scan.are_zero.Reads.Learnt
  pub text_scan_filled : Answers text_contracts.scan.filled.ended text.scan.filled.Reads.Asked text.scan.filled.Reads.Learnt
  pub text_scan_trim : Lends text_contracts.scan.trim.ended (λ κs z. z.now) text.scan.trim.Reads.Asked text.scan.trim.Reads.Learnt
  pub text_scan_front : Lends text_contracts.scan.front.ended (λ κs z. z.now) text.scan.front.Reads.Asked text.scan.front.Reads.Learnt
  pub text_scan_rest : Lends text_contracts.scan.rest.ended (λ κs z. z.now) text.scan.rest.Reads.Asked text.scan.rest.Reads.Learnt
  pub text_words_eight : OneResult text_contracts.words.eight.ended text.words.eight.Reads.Learnt
  pub text_words_upto : Answers text_contracts.words.upto.ended text.words.upto.Reads.Asked text.words.upto.Reads.Learnt
  pub text_words_four : OneResult text_contracts.words.four.ended text.words.four.Reads.Learnt
  pub text_words_put_word : OneOutput text_contracts.words.put_word.ended (λ κs e. e.0.now) text.words.put_word.Reads.Learnt
  pub text_words_put_half : OneOutput text_contracts.words.put_half.ended (λ κs e. e.0.now) text.words.put_half.Reads.Learnt
  -- value_word
  pub value_word_is_joined : Answers value_word_contracts.is_joined.ended value_word.is_joined.Reads.Asked value_word.is_joined.Reads.Learnt
  pub value_word_put : OneOutput value_word_contracts.put.ended (λ κs e. e.0.now) value_word.put.Reads.Learnt
  -- value_date
  pub value_date_put : OneOutput value_date_contracts.put.ended (λ κs e. e.0.now) value_date.put.Reads.Learnt
  -- value_number
  pub value_number_are_short : Answers value_number_contracts.are_short.ended value_number.are_short.Reads.Asked value_number.are_short.Reads.Learnt
  pub value_number_read_part : OneResult value_number_contracts.read_part.ended value_number.read_part.Reads.Learnt
  pub value_number_put : OneOutput value_number_contracts.put.ended (λ κs e. e.0.now) value_number.put.Reads.Learnt
  pub value_number_positive : OneResult value_number_contracts.positive.ended value_number.positive.Reads.Learnt
  pub value_number_negative : OneResult value_number_contracts.negative.ended value_number.negative.Reads.Learnt
  pub value_number_magnitude : Answers value_number_contracts.magnitude.ended value_number.magnitude.Reads.Asked value_number.magnitude.Reads.Learnt
  -- value_name
  pub value_name_unit_run : Answers value_name_contracts.unit.run.ended value_name.unit.run.Reads.Asked value_name.unit.run.Reads.Learnt
  pub value_name_identifier_put : OneOutput value_name_contracts.identifier.put.ended (λ κs e. e.0.now) value_name.identifier.put.Reads.Learnt
  -- text_lines
  pub text_lines_plain_run : Answers text_lines_contracts.plain_run.ended text_lines.plain_run.Reads.Asked text_lines.plain_run.Reads.Learnt
  pub text_lines_break_at : OneResult text_lines_contracts.break_at.ended text_lines.break_at.Reads.Learnt
  pub text_lines_trim_span : OneResult text_lines_contracts.trim_span.ended text_lines.trim_span.Reads.Learnt
  pub text_lines_is_separator : Answers text_lines_contracts.is_separator.ended text_lines.is_separator.Reads.Asked text_lines.is_separator.Reads.Learnt
  pub text_lines_Span_text : OneText text_lines_contracts.Span.text.ended (λ κs z. z.now) text_lines.Span.text.Reads.Learnt
  -- text_room: a room of any size; of any that an array can have, nothing is asked
  pub text_room_keep :
      (t : RattleType) (n : ℕ) (f : Fits w64 n) → OneResult (text_room_contracts.keep.ended t) (text_room.keep.Reads.Learnt n f)
      × (n < 9223372036854775808 → AsksNothing (text_room_contracts.keep.ended t) (text_room.keep.Reads.Asked n f))
  -- value_list
  pub value_list_few_read : OneResult value_list_contracts.few.read.ended value_list.few.read.Reads.Learnt
  pub value_list_few_put : OneOutput value_list_contracts.few.put.ended (λ κs e. e.0.now) value_list.few.put.Reads.Learnt
  pub value_list_triples_kept : Answers value_list_contracts.triples.kept.ended value_list.triples.kept.Reads.Asked value_list.triples.kept.Reads.Learnt
  pub value_list_triples_counted :
      Answers value_list_contracts.triples.counted.ended value_list.triples.counted.Reads.Asked value_list.triples.counted.Reads.Learnt
  pub value_list_triples_put : OneOutput value_list_contracts.triples.put.ended (λ κs e. e.0.now) value_list.triples.put.Reads.Learnt
  -- text_keyline
  pub text_keyline_line_of : Answers text_keyline_contracts.line_of.ended text_keyline.line_of.Reads.Asked text_keyline.line_of.Reads.Learnt
  pub text_keyline_value : Lends text_keyline_contracts.value.ended (λ κs z. z.now) text_keyline.value.Reads.Asked text_keyline.value.Reads.Learnt
  pub text_keyline_below : Lends text_keyline_contracts.below.ended (λ κs z. z.now) text_keyline.below.Reads.Asked text_keyline.below.Reads.Learnt
  pub text_keyline_whole : Answers text_keyline_contracts.whole.ended text_keyline.whole.Reads.Asked text_keyline.whole.Reads.Learnt
  pub text_keyline_number : Answers text_keyline_contracts.number.ended text_keyline.number.Reads.Asked text_keyline.number.Reads.Learnt
  pub text_keyline_unit_line : Answers text_keyline_contracts.unit_line.ended text_keyline.unit_line.Reads.Asked text_keyline.unit_line.Reads.Learnt
  pub text_keyline_put_line : OneOutput text_keyline_contracts.put_line.ended (λ κs e. e.0.now) text_keyline.put_line.Reads.Learnt
  pub text_keyline_put_number : OneOutput text_keyline_contracts.put_number.ended (λ κs e. e.0.now) text_keyline.put_number.Reads.Learnt
  pub saved_lines_read_item : Answers saved_lines_contracts.read_item.ended saved_lines.read_item.Reads.Asked saved_lines.read_item.Reads.Learnt
  pub saved_lines_put_item : OneOutput saved_lines_contracts.put_item.ended (λ κs e. e.0.now) saved_lines.put_item.Reads.Learnt
  -- plan_row
  pub plan_row_sought_key : Answers plan_row_contracts.sought_key.ended plan_row.sought_key.Reads.Asked plan_row.sought_key.Reads.Learnt
  pub plan_row_row_at : OneResult plan_row_contracts.row_at.ended plan_row.row_at.Reads.Learnt
  -- times_sheet
  pub times_sheet_is_for : Answers times_sheet_contracts.is_for.ended times_sheet.is_for.Reads.Asked times_sheet.is_for.Reads.Learnt
  pub times_sheet_time_part : OneResult times_sheet_contracts.time_part.ended times_sheet.time_part.Reads.Learnt
  -- value_put
  pub value_put_is_written : Answers value_put_contracts.is_written.ended value_put.is_written.Reads.Asked value_put.is_written.Reads.Learnt
  pub value_put_put_value : OneOutput value_put_contracts.put_value.ended (λ κs e. e.0.now) value_put.put_value.Reads.Learnt
  -- layout
  pub layout_type_of : Answers layout_contracts.type_of.ended layout.type_of.Reads.Asked layout.type_of.Reads.Learnt
  pub layout_of_type : Answers layout_contracts.of_type.ended layout.of_type.Reads.Asked layout.of_type.Reads.Learnt
  pub layout_is_market : Answers layout_contracts.is_market.ended layout.is_market.Reads.Asked layout.is_market.Reads.Learnt
  pub layout_is_command : Answers layout_contracts.is_command.ended layout.is_command.Reads.Asked layout.is_command.Reads.Learnt
  pub layout_is_revocation : Answers layout_contracts.is_revocation.ended layout.is_revocation.Reads.Asked layout.is_revocation.Reads.Learnt
  pub layout_size : Answers layout_contracts.size.ended layout.size.Reads.Asked layout.size.Reads.Learnt
  pub layout_fields_end_field : Answers layout_contracts.fields.end_field.ended layout.fields.end_field.Reads.Asked layout.fields.end_field.Reads.Learnt
  pub layout_fields_reason_field : Answers layout_contracts.fields.reason_field.ended layout.fields.reason_field.Reads.Asked layout.fields.reason_field.Reads.Learnt
  pub layout_fields_note_field : Answers layout_contracts.fields.note_field.ended layout.fields.note_field.Reads.Asked layout.fields.note_field.Reads.Learnt
  pub layout_fields_gradients_field : Answers layout_contracts.fields.gradients_field.ended layout.fields.gradients_field.Reads.Asked layout.fields.gradients_field.Reads.Learnt
  pub layout_row_size : Answers layout_contracts.row.size.ended layout.row.size.Reads.Asked layout.row.size.Reads.Learnt
  pub layout_row_field : OneResult layout_contracts.row.field.ended layout.row.field.Reads.Learnt
  -- value_ask
  pub value_ask_is_filled : Answers value_ask_contracts.is_filled.ended value_ask.is_filled.Reads.Asked value_ask.is_filled.Reads.Learnt
  pub value_ask_number_in : Answers value_ask_contracts.number_in.ended value_ask.number_in.Reads.Asked value_ask.number_in.Reads.Learnt
  pub value_ask_count_in : Answers value_ask_contracts.count_in.ended value_ask.count_in.Reads.Asked value_ask.count_in.Reads.Learnt
  pub value_ask_size_in : Answers value_ask_contracts.size_in.ended value_ask.size_in.Reads.Asked value_ask.size_in.Reads.Learnt
  pub value_ask_instant_in : Answers value_ask_contracts.instant_in.ended value_ask.instant_in.Reads.Asked value_ask.instant_in.Reads.Learnt
  pub value_ask_amount_in : Answers value_ask_contracts.amount_in.ended value_ask.amount_in.Reads.Asked value_ask.amount_in.Reads.Learnt
  pub value_ask_word_number : Answers value_ask_contracts.word_number.ended value_ask.word_number.Reads.Asked value_ask.word_number.Reads.Learnt
  pub value_ask_triples_in : Answers value_ask_contracts.triples_in.ended value_ask.triples_in.Reads.Asked value_ask.triples_in.Reads.Learnt
  pub value_ask_list_size : Answers value_ask_contracts.list_size.ended value_ask.list_size.Reads.Asked value_ask.list_size.Reads.Learnt
  pub value_ask_not_negative : Answers value_ask_contracts.not_negative.ended value_ask.not_negative.Reads.Asked value_ask.not_negative.Reads.Learnt
  -- layout_label
  pub layout_label_of_field : Answers layout_label_contracts.of_field.ended layout_label.of_field.Reads.Asked layout_label.of_field.Reads.Learnt
  pub layout_label_put_label : OneOutput layout_label_contracts.put_label.ended (λ κs e. e.0.now) layout_label.put_label.Reads.Learnt
  pub layout_label_put : OneOutput layout_label_contracts.put.ended (λ κs e. e.0.now) layout_label.put.Reads.Learnt
  pub layout_label_is_printed : Answers layout_label_contracts.is_printed.ended layout_label.is_printed.Reads.Asked layout_label.is_printed.Reads.Learnt
  -- reader_accent
  pub reader_accent_field_of : Answers reader_accent_contracts.field_of.ended reader_accent.field_of.Reads.Asked reader_accent.field_of.Reads.Learnt
  pub reader_accent_line_end : OneResult reader_accent_contracts.line_end.ended reader_accent.line_end.Reads.Learnt
  -- reader_line
  pub reader_line_line_of : OneResult reader_line_contracts.line_of.ended reader_line.line_of.Reads.Learnt
  -- reader_walk
  pub reader_walk_walk : OneResult reader_walk_contracts.walk.ended reader_walk.walk.Reads.Learnt
  -- value_bounds
  pub value_bounds_is_instant : Answers value_bounds_contracts.is_instant.ended value_bounds.is_instant.Reads.Asked value_bounds.is_instant.Reads.Learnt
  pub value_bounds_is_amount : Answers value_bounds_contracts.is_amount.ended value_bounds.is_amount.Reads.Asked value_bounds.is_amount.Reads.Learnt
  -- value_fits
  pub value_fits_holds : Answers value_fits_contracts.holds.ended value_fits.holds.Reads.Asked value_fits.holds.Reads.Learnt
  pub value_fits_triples_are_none : Answers value_fits_contracts.triples.are_none.ended value_fits.triples.are_none.Reads.Asked value_fits.triples.are_none.Reads.Learnt
  pub value_fits_triples_are_listed : Answers value_fits_contracts.triples.are_listed.ended value_fits.triples.are_listed.Reads.Asked value_fits.triples.are_listed.Reads.Learnt
  -- layout_kind
  pub layout_kind_of_field : Answers layout_kind_contracts.of_field.ended layout_kind.of_field.Reads.Asked layout_kind.of_field.Reads.Learnt
  -- reader_row
  pub reader_row_agrees : OneResult reader_row_contracts.agrees.ended reader_row.agrees.Reads.Learnt
  -- layout_banner
  pub layout_banner_put : OneOutput layout_banner_contracts.put.ended (λ κs e. e.0.now) layout_banner.put.Reads.Learnt
  -- record
  pub record_zero : Answers records_contracts.zero.ended records.zero.Reads.Asked records.zero.Reads.Learnt
  pub record_field : OneResult records_contracts.field.ended records.field.Reads.Learnt
  -- report_brief
  pub report_brief_of_reading : Answers report_brief_contracts.of_reading.ended report_brief.of_reading.Reads.Asked report_brief.of_reading.Reads.Learnt
  pub report_brief_put_lines : OneOutput report_brief_contracts.put_lines.ended (λ κs e. e.0.now) report_brief.put_lines.Reads.Learnt
  pub report_brief_write_lines : Writes report_brief_contracts.write_lines.ended (λ κs e. e.0.now) report_brief.write_lines.Reads.Asked report_brief.write_lines.Reads.Learnt
  -- reader_fill
  pub reader_fill_text_at : OneText reader_fill_contracts.text_at.ended (λ κs z. z.now) reader_fill.text_at.Reads.Learnt
  pub reader_fill_gradients_of : OneResult reader_fill_contracts.gradients_of.ended reader_fill.gradients_of.Reads.Learnt
  pub reader_fill_value_in : OneResult reader_fill_contracts.value_in.ended reader_fill.value_in.Reads.Learnt
  pub reader_fill_record_of : OneResult reader_fill_contracts.record_of.ended reader_fill.record_of.Reads.Learnt
  -- record_voltvar
  pub record_voltvar_in_table : Answers record_voltvar_contracts.in_table.ended record_voltvar.in_table.Reads.Asked record_voltvar.in_table.Reads.Learnt
  -- record_rules
  pub record_rules_number : Answers record_rules_contracts.Rule.number.ended record_rules.Rule.number.Reads.Asked record_rules.Rule.number.Reads.Learnt
  pub record_rules_of_market : Answers record_rules_contracts.of_market.ended record_rules.of_market.Reads.Asked record_rules.of_market.Reads.Learnt
  pub record_rules_of_ramps : Answers record_rules_contracts.of_ramps.ended record_rules.of_ramps.Reads.Asked record_rules.of_ramps.Reads.Learnt
  pub record_rules_of_order : Answers record_rules_contracts.of_order.ended record_rules.of_order.Reads.Asked record_rules.of_order.Reads.Learnt
  pub record_rules_of_exclusion : Answers record_rules_contracts.of_exclusion.ended record_rules.of_exclusion.Reads.Asked record_rules.of_exclusion.Reads.Learnt
  pub record_rules_of_limitation : Answers record_rules_contracts.of_limitation.ended record_rules.of_limitation.Reads.Asked record_rules.of_limitation.Reads.Learnt
  pub record_rules_of_secondary : Answers record_rules_contracts.of_secondary.ended record_rules.of_secondary.Reads.Asked record_rules.of_secondary.Reads.Learnt
  pub record_rules_of_volt_var : Answers record_rules_contracts.of_volt_var.ended record_rules.of_volt_var.Reads.Asked record_rules.of_volt_var.Reads.Learnt
  pub record_rules_of_reserve : Answers record_rules_contracts.of_reserve.ended record_rules.of_reserve.Reads.Asked record_rules.of_reserve.Reads.Learnt
  pub record_rules_lowest_of : Answers record_rules_contracts.lowest_of.ended record_rules.lowest_of.Reads.Asked record_rules.lowest_of.Reads.Learnt
  -- book_places
  pub book_places_count_held : Answers book_places_contracts.count_held.ended book_places.count_held.Reads.Asked book_places.count_held.Reads.Learnt
  pub book_places_sooner : Answers book_places_contracts.sooner.ended book_places.sooner.Reads.Asked book_places.sooner.Reads.Learnt
  pub book_places_next_end : Answers book_places_contracts.next_end.ended book_places.next_end.Reads.Asked book_places.next_end.Reads.Learnt
  pub book_places_seat_of : OneResult book_places_contracts.seat_of.ended book_places.seat_of.Reads.Learnt
  pub book_places_put_in : OneResult book_places_contracts.put_in.ended book_places.put_in.Reads.Learnt
  pub book_places_keep_past : OneResult book_places_contracts.keep_past.ended book_places.keep_past.Reads.Learnt
  pub book_places_last_live : OneResult book_places_contracts.last_live.ended book_places.last_live.Reads.Learnt
  -- book_order
  pub book_stretch_any_covers : Answers book_stretch_contracts.any_covers.ended book_stretch.any_covers.Reads.Asked book_stretch.any_covers.Reads.Learnt
  pub book_stretch_lies : Answers book_stretch_contracts.lies.ended book_stretch.lies.Reads.Asked book_stretch.lies.Reads.Learnt
  pub book_stretch_any_holds : Answers book_stretch_contracts.any_holds.ended book_stretch.any_holds.Reads.Asked book_stretch.any_holds.Reads.Learnt
  pub book_stretch_are_none : Answers book_stretch_contracts.are_none.ended book_stretch.are_none.Reads.Asked book_stretch.are_none.Reads.Learnt
  pub book_stretch_are_formed : Answers book_stretch_contracts.are_formed.ended book_stretch.are_formed.Reads.Asked book_stretch.are_formed.Reads.Learnt
  pub book_stretch_join : Answers book_stretch_contracts.join.ended book_stretch.join.Reads.Asked book_stretch.join.Reads.Learnt
  pub book_order_of_record : OneResult book_order_contracts.of_record.ended book_order.of_record.Reads.Learnt
  pub book_order_named_by : Answers book_order_contracts.named_by.ended book_order.named_by.Reads.Asked book_order.named_by.Reads.Learnt
  pub book_order_struck_by : OneResult book_order_contracts.struck_by.ended book_order.struck_by.Reads.Learnt
  pub book_order_could_strike : Answers book_order_contracts.could_strike.ended book_order.could_strike.Reads.Asked book_order.could_strike.Reads.Learnt
  pub book_order_strike : Answers book_order_contracts.strike.ended book_order.strike.Reads.Asked book_order.strike.Reads.Learnt
  pub book_order_is_whole : Answers book_order_contracts.is_whole.ended book_order.is_whole.Reads.Asked book_order.is_whole.Reads.Learnt
  pub book_order_is_partial : Answers book_order_contracts.is_partial.ended book_order.is_partial.Reads.Asked book_order.is_partial.Reads.Learnt
  pub book_order_is_live : Answers book_order_contracts.is_live.ended book_order.is_live.Reads.Asked book_order.is_live.Reads.Learnt
  pub book_order_is_empty : Answers book_order_contracts.is_empty.ended book_order.is_empty.Reads.Asked book_order.is_empty.Reads.Learnt
  pub book_order_could_come : Answers book_order_contracts.could_come.ended book_order.could_come.Reads.Asked book_order.could_come.Reads.Learnt
  pub book_order_is_brought : Answers book_order_contracts.is_brought.ended book_order.is_brought.Reads.Asked book_order.is_brought.Reads.Learnt
  pub book_order_could_hold : Answers book_order_contracts.could_hold.ended book_order.could_hold.Reads.Asked book_order.could_hold.Reads.Learnt
  -- reader
  pub reader_judged : Answers reader_contracts.judged.ended reader.judged.Reads.Asked reader.judged.Reads.Learnt
  -- report
  pub report_put_record : OneOutput report_contracts.put_record.ended (λ κs e. e.0.now) report.put_record.Reads.Learnt
  pub report_put_refusal : OneOutput report_contracts.put_refusal.ended (λ κs e. e.0.now) report.put_refusal.Reads.Learnt
  pub report_told : Answers report_contracts.told.ended report.told.Reads.Asked report.told.Reads.Learnt
  pub report_put_answer : OneOutput report_contracts.put_answer.ended (λ κs e. e.0.now) report.put_answer.Reads.Learnt
  -- writer_lines
  pub writer_lines_put_text_lines : OneOutput writer_lines_contracts.put_text_lines.ended (λ κs e. e.0.now) writer_lines.put_text_lines.Reads.Learnt
  pub writer_lines_put_lines : OneOutput writer_lines_contracts.put_lines.ended (λ κs e. e.0.now) writer_lines.put_lines.Reads.Learnt
  -- writer_row
  pub writer_row_put_row : OneOutput writer_row_contracts.put_row.ended (λ κs e. e.0.now) writer_row.put_row.Reads.Learnt
  -- writer_message
  pub writer_message_put_copied : OneOutput writer_message_contracts.put_copied.ended (λ κs e. e.0.now) writer_message.put_copied.Reads.Learnt
  pub writer_message_put_message : OneOutput writer_message_contracts.put_message.ended (λ κs e. e.0.now) writer_message.put_message.Reads.Learnt
  -- those that are public to the files of their own crate alone, which has their list and its proof
  pub value_fits_own : value_fits.Unique.Within
  pub record_check_own : record_check.Unique.Within
  pub book_own : book.Unique.Within
  pub book_stretch_own : book_stretch.Unique.Within
