-- THE THEOREMS on contracts: two answers that satisfy one are equal, by the laws of text/proofs/Determined.antt, of each public function by name; what the
-- contracts say; and that the code meets them. Assumes nothing.
use Rattle.book.proofs as book
use Rattle.book.proofs.Told.{one_outcome, one_asked, one_shown}
use Rattle.book_order.proofs.Told.{one_strike}
use Rattle.book_places.proofs.Told.{one_seat}
use Rattle.book_stretch.proofs as book_stretch
use Rattle.gateway.proofs as gateway
use Rattle.plan.proofs as plan
use Rattle.reader.proofs as reader
use Rattle.record_check.proofs as record_check
use Rattle.record_rules.proofs as record_rules
use Rattle.report.proofs as report
use Rattle.report_brief.proofs as report_brief
use Rattle.saved.proofs as saved
use Rattle.saved.proofs.Told.{one_saved, one_order}
use Rattle.saved_lines.proofs.Told.{one_item}
use Rattle.times.proofs as times
use Rattle.transfer.proofs as transfer
use Rattle.value.proofs as value
use Rattle.value_date.proofs as value_date
use Rattle.value_fits.proofs as value_fits
use Rattle.value_list.proofs as value_list
use Rattle.value_name.proofs as value_name
use Rattle.value_number.proofs as value_number
use Rattle.value_put.proofs as value_put
use Rattle.value_word.proofs as value_word
use Rattle.writer.proofs as writer
use Rattle.demands.specs.Calls.{Calls, Meets}
use Rattle.demands.specs.CallContracts.{Contracts}
use Rattle.demands.proofs.Told.{told_equation, told_equations, sought_one, answer_one, reading_one, written_one, time_one, refusal_one}
use Rattle.demands.specs.Within.{Within}
use Rattle.plan.specs.Plans.{said_by}
use Rattle.reader.specs.Said.{answer_by, reading_by}
use Rattle.record_rules.proofs.Told.{broken_one}
use Rattle.record_rules.specs.Broken.{broken_number}
use Rattle.times.specs.Times.{time_by, refusal_by}
use Rattle.writer.specs.Writer.{written_by}
use Rattle.text.proofs.Determined.{equation, equations, three_equations, buffer_equation, text_equation}
use Rattle.text.proofs.Numerals.{length_text}
use Rattle.transfer.proofs.Told.{taken_equations}
use contract.BorrowLft.{⊑_static}
use lib.ListN.{length}
use mathlib.Core.Path.{sym, ap, ◌∙◌}
use native.Mathlib.Omega.{arith}

pub calls : Calls
calls =
    record {
      gateway_halimpung_read = (λ κs a. tt, λ κs a. equations _ _ _);
      gateway_halimpung_normalise = (λ κs a. tt, λ κs a. equations _ _ _);
      gateway_halimpung_collect = (λ κs a. tt, λ κs a. three_equations _ _ _ _ _);
      reader_read = (λ κs a. tt, λ κs a. told_equation answer_by answer_one _);
      writer_write = (λ κs a. tt, λ κs a. told_equations written_by written_one _ _ _);
      writer_normalise = (λ κs a. tt, λ κs a. told_equations written_by written_one _ _ _);
      record_check_is_valid = (λ κs a. tt, λ κs a. equation _);
      record_rules_lowest_broken = (λ κs a. tt, λ κs a. told_equation broken_number broken_one _);
      report_brief_of_record = (λ κs a. tt, λ κs a. equation _);
      transfer_fresh = (λ κs a. tt, λ κs a. equation _);
      transfer_take = (λ κs a. tt, λ κs a. taken_equations _ _ _);
      book_fresh = (λ κs a. tt, λ κs a. told_equation _ one_outcome _);
      book_command = (λ κs a. tt, λ κs a. told_equation _ one_outcome _);
      book_revoke = (λ κs a. tt, λ κs a. told_equation _ one_outcome _);
      book_close = (λ κs a. tt, λ κs a. told_equation _ one_outcome _);
      book_in_force = (λ κs a. tt, λ κs a. told_equation _ one_asked _);
      book_panel = (λ κs a. tt, λ κs a. told_equation _ one_shown _);
      book_with = (λ κs a. tt, λ κs a. equation _);
      book_hold = (λ κs a. tt, λ κs a. told_equation _ one_outcome _);
      book_strike = (λ κs a. tt, λ κs a. told_equation _ one_outcome _);
      book_tally = (λ κs a. tt, λ κs a. equation _);
      book_zero = (λ κs a. tt, λ κs a. equation _);
      saved_save = (λ κs a. tt, λ κs a. told_equations _ one_saved _ _ _);
      saved_read = (λ κs a. tt, λ κs a. told_equation _ one_outcome _);
      saved_read_order = (λ κs a. tt, λ κs a. told_equation _ one_order _);
      times_start_up = (λ κs a. tt, λ κs a. text_equation _ _);
      times_ramp = (λ κs a. tt, λ κs a. text_equation _ _);
      times_locate = (λ κs a. tt, λ κs a. told_equation time_by time_one _);
      times_refusal_of = (λ κs a. tt, λ κs a. told_equation refusal_by refusal_one _);
      plan_seek = (λ κs a. tt, λ κs a. told_equation said_by sought_one _);
      report_hear = (λ κs a. tt, λ κs a. told_equation answer_by answer_one _);
      report_print = (λ κs a. tt, λ κs a. equations _ _ _);
      value_read_read = (λ κs a. tt, λ κs a. equation _);
      value_put_write_value = (λ κs a. tt, λ κs a. equations _ _ _);
      value_number_read = (λ κs a. tt, λ κs a. equation _);
      value_date_read = (λ κs a. tt, λ κs a. equation _);
      value_date_is_real = (λ κs a. tt, λ κs a. equation _);
      value_date_instant = (λ κs a. tt, λ κs a. equation _);
      value_date_is_before = (λ κs a. tt, λ κs a. equation _);
      value_name_identifier_read = (λ κs a. tt, λ κs a. equation _);
      value_name_sequence_read = (λ κs a. tt, λ κs a. equation _);
      value_name_unit_is_unit = (λ κs a. tt, λ κs a. equation _);
      value_name_code = (λ κs a. tt, λ κs a. equation _);
      value_word_read = (λ κs a. tt, λ κs a. equation _);
      value_word_read_volt = (λ κs a. tt, λ κs a. equation _);
      value_list_few_read_profile = (λ κs a. tt, λ κs a. equation _);
      value_list_few_read_bands = (λ κs a. tt, λ κs a. equation _);
      value_list_triples_read = (λ κs a. tt, λ κs a. equation _);
    }

pub within : Within
within =
    record {
      transfer_unit_told_by = (λ κs a. tt, λ κs a. equation _);
      transfer_unit_ca_of = (λ κs a. tt, λ κs a. equation _);
      transfer_unit_ioa_of = (λ κs a. tt, λ κs a. equation _);
      transfer_state_collector_in = (λ κs a. tt, λ κs a. equation _);
      transfer_state_state_of = (λ κs a. tt, λ κs a. equation _);
      refusal_number = (λ κs a. tt, λ κs a. equation _);
      refusal_detail = (λ κs a. tt, λ κs a. equation _);
      text_digits_is_digit = (λ κs a. tt, λ κs a. equation _);
      text_digits_read_digits = λ κs a. equation _;
      text_digits_pow10 = λ κs a. equation _;
      -- its text is that of so many digits
      text_digits_whole_size = λ κs a x y p q. sym (length_text x a.0) ∙ ap length (sym p.1.2 ∙ q.1.2) ∙ length_text y a.0;
      text_digits_lead = λ κs a. equation _;
      text_put_put_byte = λ κs a. equations _ _ _;
      text_put_put_text = λ κs a. equations _ _ _;
      text_put_put_digits = λ κs a. equations _ _ _;
      text_put_put_whole = λ κs a. equations _ _ _;
      text_scan_run = λ t l g d κs a. equation _;
      text_scan_IsByte_passes = (λ κs a. tt, λ κs a. equation _);
      text_scan_same = (λ κs a. tt, λ κs a. equation _);
      text_scan_starts = (λ κs a. tt, λ κs a. equation _);
      text_scan_first = (λ κs a. tt, λ κs a. equation _);
      text_scan_lead = (λ κs a. tt, λ κs a. equation _);
      text_scan_are_zero = (λ κs a. tt, λ κs a. equation _);
      text_scan_filled = (λ κs a. tt, λ κs a. equation _);
      text_scan_trim = (λ κs a. tt, λ κs a. text_equation _ _);
      text_scan_front = (λ κs a. tt, λ κs a. text_equation _ _);
      text_scan_rest = (λ κs a. tt, λ κs a. text_equation _ _);
      text_words_eight = λ κs a. equation _;
      text_words_upto = (λ κs a. tt, λ κs a. equation _);
      text_words_four = λ κs a. equation _;
      text_words_put_word = λ κs a. buffer_equation _ _;
      text_words_put_half = λ κs a. buffer_equation _ _;
      value_word_is_joined = (λ κs a. tt, λ κs a. equation _);
      value_word_put = λ κs a. equations _ _ _;
      value_date_put = λ κs a. equations _ _ _;
      value_number_are_short = (λ κs a. tt, λ κs a. equation _);
      value_number_read_part = λ κs a. equation _;
      value_number_put = λ κs a. equations _ _ _;
      value_number_positive = λ κs a. equation _;
      value_number_negative = λ κs a. equation _;
      value_number_magnitude = (λ κs a. tt, λ κs a. equation _);
      value_name_unit_run = (λ κs a. tt, λ κs a. equation _);
      value_name_identifier_put = λ κs a. equations _ _ _;
      text_lines_plain_run = (λ κs a. tt, λ κs a. equation _);
      text_lines_break_at = λ κs a. equation _;
      text_lines_trim_span = λ κs a. equation _;
      text_lines_is_separator = (λ κs a. tt, λ κs a. equation _);
      text_lines_Span_text = λ κs a. text_equation _ _;
      text_room_keep = λ t n f. (λ κs a. equation _, λ h κs a. (⊑_static _, omega (arith, h)));
      value_list_few_read = λ κs a. equation _;
      value_list_few_put = λ κs a. equations _ _ _;
      value_list_triples_kept = (λ κs a. tt, λ κs a. equation _);
      value_list_triples_counted = (λ κs a. tt, λ κs a. equation _);
      value_list_triples_put = λ κs a. equations _ _ _;
      text_keyline_line_of = (λ κs a. tt, λ κs a. equation _);
      text_keyline_value = (λ κs a. tt, λ κs a. text_equation _ _);
      text_keyline_below = (λ κs a. tt, λ κs a. text_equation _ _);
      text_keyline_whole = (λ κs a. tt, λ κs a. equation _);
      text_keyline_number = (λ κs a. tt, λ κs a. equation _);
      text_keyline_unit_line = (λ κs a. tt, λ κs a. equation _);
      text_keyline_put_line = λ κs a. equations _ _ _;
      text_keyline_put_number = λ κs a. equations _ _ _;
      saved_lines_read_item = (λ κs a. tt, λ κs a. told_equation _ one_item _);
      saved_lines_put_item = λ κs a. equations _ _ _;
      plan_row_sought_key = (λ κs a. tt, λ κs a. equation _);
      plan_row_row_at = λ κs a. equation _;
      times_sheet_is_for = (λ κs a. tt, λ κs a. equation _);
      times_sheet_time_part = λ κs a. equation _;
      value_put_is_written = (λ κs a. tt, λ κs a. equation _);
      value_put_put_value = λ κs a. equations _ _ _;
      layout_type_of = (λ κs a. tt, λ κs a. equation _);
      layout_of_type = (λ κs a. tt, λ κs a. equation _);
      layout_is_market = (λ κs a. tt, λ κs a. equation _);
      layout_is_command = (λ κs a. tt, λ κs a. equation _);
      layout_is_revocation = (λ κs a. tt, λ κs a. equation _);
      layout_size = (λ κs a. tt, λ κs a. equation _);
      layout_fields_end_field = (λ κs a. tt, λ κs a. equation _);
      layout_fields_reason_field = (λ κs a. tt, λ κs a. equation _);
      layout_fields_note_field = (λ κs a. tt, λ κs a. equation _);
      layout_fields_gradients_field = (λ κs a. tt, λ κs a. equation _);
      layout_row_size = (λ κs a. tt, λ κs a. equation _);
      layout_row_field = λ κs a. equation _;
      value_ask_is_filled = (λ κs a. tt, λ κs a. equation _);
      value_ask_number_in = (λ κs a. tt, λ κs a. equation _);
      value_ask_count_in = (λ κs a. tt, λ κs a. equation _);
      value_ask_size_in = (λ κs a. tt, λ κs a. equation _);
      value_ask_instant_in = (λ κs a. tt, λ κs a. equation _);
      value_ask_amount_in = (λ κs a. tt, λ κs a. equation _);
      value_ask_word_number = (λ κs a. tt, λ κs a. equation _);
      value_ask_triples_in = (λ κs a. tt, λ κs a. equation _);
      value_ask_list_size = (λ κs a. tt, λ κs a. equation _);
      value_ask_not_negative = (λ κs a. tt, λ κs a. equation _);
      layout_label_of_field = (λ κs a. tt, λ κs a. equation _);
      layout_label_put_label = λ κs a. buffer_equation _ _;
      layout_label_put = λ κs a. equations _ _ _;
      layout_label_is_printed = (λ κs a. tt, λ κs a. equation _);
      value_bounds_is_instant = (λ κs a. tt, λ κs a. equation _);
      value_bounds_is_amount = (λ κs a. tt, λ κs a. equation _);
      value_fits_holds = (λ κs a. tt, λ κs a. equation _);
      value_fits_triples_are_none = (λ κs a. tt, λ κs a. equation _);
      value_fits_triples_are_listed = (λ κs a. tt, λ κs a. equation _);
      layout_kind_of_field = (λ κs a. tt, λ κs a. equation _);
      reader_row_agrees = λ κs a. equation _;
      reader_walk_walk = λ κs a. equation _;
      reader_accent_field_of = (λ κs a. tt, λ κs a. equation _);
      reader_accent_line_end = λ κs a. equation _;
      reader_line_line_of = λ κs a. equation _;
      layout_banner_put = λ κs a. equations _ _ _;
      record_zero = (λ κs a. tt, λ κs a. equation _);
      record_field = λ κs a. equation _;
      report_brief_of_reading = (λ κs a. tt, λ κs a. equation _);
      report_brief_put_lines = λ κs a. equations _ _ _;
      report_brief_write_lines = (λ κs a. tt, λ κs a. equations _ _ _);
      reader_fill_text_at = λ κs a. text_equation _ _;
      reader_fill_gradients_of = λ κs a. equation _;
      reader_fill_value_in = λ κs a. equation _;
      reader_fill_record_of = λ κs a. equation _;
      record_voltvar_in_table = (λ κs a. tt, λ κs a. equation _);
      record_rules_number = (λ κs a. tt, λ κs a. equation _);
      record_rules_of_market = (λ κs a. tt, λ κs a. told_equation broken_number broken_one _);
      record_rules_of_ramps = (λ κs a. tt, λ κs a. told_equation broken_number broken_one _);
      record_rules_of_order = (λ κs a. tt, λ κs a. told_equation broken_number broken_one _);
      record_rules_of_exclusion = (λ κs a. tt, λ κs a. told_equation broken_number broken_one _);
      record_rules_of_limitation = (λ κs a. tt, λ κs a. told_equation broken_number broken_one _);
      record_rules_of_secondary = (λ κs a. tt, λ κs a. told_equation broken_number broken_one _);
      record_rules_of_volt_var = (λ κs a. tt, λ κs a. told_equation broken_number broken_one _);
      record_rules_of_reserve = (λ κs a. tt, λ κs a. told_equation broken_number broken_one _);
      record_rules_lowest_of = (λ κs a. tt, λ κs a. told_equation broken_number broken_one _);
      book_places_count_held = (λ κs a. tt, λ κs a. equation _);
      book_places_sooner = (λ κs a. tt, λ κs a. equation _);
      book_places_next_end = (λ κs a. tt, λ κs a. equation _);
      book_places_seat_of = λ κs a. told_equation _ one_seat _;
      book_places_put_in = λ κs a. equation _;
      book_places_keep_past = λ κs a. equation _;
      book_places_last_live = λ κs a. equation _;
      book_stretch_any_covers = (λ κs a. tt, λ κs a. equation _);
      book_stretch_lies = (λ κs a. tt, λ κs a. equation _);
      book_stretch_any_holds = (λ κs a. tt, λ κs a. equation _);
      book_stretch_are_none = (λ κs a. tt, λ κs a. equation _);
      book_stretch_are_formed = (λ κs a. tt, λ κs a. equation _);
      book_stretch_join = (λ κs a. tt, λ κs a. equation _);
      book_order_of_record = λ κs a. equation _;
      book_order_named_by = (λ κs a. tt, λ κs a. equation _);
      book_order_struck_by = λ κs a. equation _;
      book_order_could_strike = (λ κs a. tt, λ κs a. equation _);
      book_order_strike = (λ κs a. tt, λ κs a x y p q. one_strike _ x y (p.1.0 ∙ sym q.1.0) (p.1.1 ∙ sym q.1.1));
      book_order_is_whole = (λ κs a. tt, λ κs a. equation _);
      book_order_is_partial = (λ κs a. tt, λ κs a. equation _);
      book_order_is_live = (λ κs a. tt, λ κs a. equation _);
      book_order_is_empty = (λ κs a. tt, λ κs a. equation _);
      book_order_could_come = (λ κs a. tt, λ κs a. equation _);
      book_order_is_brought = (λ κs a. tt, λ κs a. equation _);
      book_order_could_hold = (λ κs a. tt, λ κs a. equation _);
      reader_judged = (λ κs a. tt, λ κs a. told_equation reading_by reading_one _);
      report_put_record = λ κs a. equations _ _ _;
      report_put_refusal = λ κs a. equations _ _ _;
      report_told = (λ κs a. tt, λ κs a. equation _);
      report_put_answer = λ κs a. equations _ _ _;
      writer_lines_put_text_lines = λ κs a. equations _ _ _;
      writer_lines_put_lines = λ κs a. equations _ _ _;
      writer_row_put_row = λ κs a. equations _ _ _;
      writer_message_put_copied = λ κs a. equations _ _ _;
      writer_message_put_message = λ κs a. equations _ _ _;
      value_fits_own = value_fits.Unique.within;
      record_check_own = record_check.Unique.within;
      book_own = book.Unique.within;
      book_stretch_own = book_stretch.Unique.within;
    }

-- ---- what the contracts say, and that the code meets them

pub contracts : Contracts
contracts =
    record {
      halimpung_read = λ κs ca ioa plan file out z e h. h;
      halimpung_normalise = λ κs ca ioa plan file out z e h. h;
      halimpung_collect = λ κs unit state file z e h. h;
      take = λ κs c unit file z e h. h;
      read = λ κs ca ioa plan file z e h. h;
      write = λ κs r out z e h. h;
      normalise = λ κs ca ioa plan file out z e h. h;
      is_valid_so = λ κs r z e h. h;
      fresh = λ κs unit z e h. h;
      commands = λ κs b r z e h. h;
      revokes = λ κs b r z e h. h;
      closes = λ κs b t z e h. h;
      in_force = λ κs b t z e h. h;
      panel = λ κs b z e h. h;
      holds = λ κs b o z e h. h;
      strikes = λ κs b n c z e h. h;
      saves = λ κs b out z e h. h;
      reads_back = λ κs s z e h. h;
      locate = λ κs w ca ioa plan file sheet z e h. h;
      start_up = λ κs ca ioa plan file sheet z e h. h;
      ramp = λ κs ca ioa plan file sheet z e h. h;
      refusal_of = λ κs ca ioa plan file sheet z e h. h;
      write_value = λ κs out at t v unit reason note gradients z e h. h;
    }

pub meets : Meets
meets =
    record {
      gateway_halimpung_read = λ M. gateway.halimpung_read.Met.met;
      gateway_halimpung_normalise = λ M. gateway.halimpung_normalise.Met.met;
      gateway_halimpung_collect = λ M. gateway.halimpung_collect.Met.met;
      reader_read = λ M. reader.read.Met.met;
      writer_write = λ M. writer.write.Met.met;
      writer_normalise = λ M. writer.normalise.Met.met;
      record_check_is_valid = λ M. record_check.is_valid.Met.met;
      record_rules_lowest_broken = λ M. record_rules.lowest_broken.Met.met;
      report_brief_of_record = λ M. report_brief.of_record.Met.met;
      transfer_fresh = λ M. transfer.fresh.Met.met;
      transfer_take = λ M. transfer.Collector.take.Met.met;
      book_fresh = λ M. book.fresh.Met.met;
      book_command = λ M. book.Book.command.Met.met;
      book_revoke = λ M. book.Book.revoke.Met.met;
      book_close = λ M. book.Book.close.Met.met;
      book_in_force = λ M. book.Book.in_force.Met.met;
      book_panel = λ M. book.Book.panel.Met.met;
      book_with = λ M. book.with.Met.met;
      book_hold = λ M. book.Book.hold.Met.met;
      book_strike = λ M. book.Book.strike.Met.met;
      book_tally = λ M. book.Book.tally.Met.met;
      book_zero = λ M. book.zero.Met.met;
      saved_save = λ M. saved.save.Met.met;
      saved_read = λ M. saved.read.Met.met;
      saved_read_order = λ M. saved.read_order.Met.met;
      times_start_up = λ M. times.start_up.Met.met;
      times_ramp = λ M. times.ramp.Met.met;
      times_locate = λ M. times.locate.Met.met;
      times_refusal_of = λ M. times.refusal_of.Met.met;
      plan_seek = λ M. plan.seek.Met.met;
      report_hear = λ M. report.hear.Met.met;
      report_print = λ M. report.print.Met.met;
      value_read_read = λ M. value.read.read.Met.met;
      value_put_write_value = λ M. value_put.write_value.Met.met;
      value_number_read = λ M. value_number.read.Met.met;
      value_date_read = λ M. value_date.read.Met.met;
      value_date_is_real = λ M. value_date.is_real.Met.met;
      value_date_instant = λ M. value_date.instant.Met.met;
      value_date_is_before = λ M. value_date.is_before.Met.met;
      value_name_identifier_read = λ M. value_name.identifier.read.Met.met;
      value_name_sequence_read = λ M. value_name.sequence.read.Met.met;
      value_name_unit_is_unit = λ M. value_name.unit.is_unit.Met.met;
      value_name_code = λ M. value_name.code.Met.met;
      value_word_read = λ M. value_word.read.Met.met;
      value_word_read_volt = λ M. value_word.read_volt.Met.met;
      value_list_few_read_profile = λ M. value_list.few.read_profile.Met.met;
      value_list_few_read_bands = λ M. value_list.few.read_bands.Met.met;
      value_list_triples_read = λ M. value_list.triples.read.Met.met;
    }
