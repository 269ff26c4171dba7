-- THE THEOREMS: the three demands. Assumes nothing.
use Prim.Native.Nat.{ℕ}
use Rattle.book.specs.Answers.{fresh_of, of_in_force, asked_of, shown_of}
use Rattle.book_ledger.specs.History.{ledger_of}
use Rattle.book_ledger.specs.Ledger.{in_force}
use Rattle.book_source.proofs.Given.{given_tells}
use Rattle.book_theorems.proofs.Theorems.{kept, unkept, found_says, asked_refusal, removal, refused_same, deed_same, tally_says}
use Rattle.book_theorems.proofs.Lift.{deed_formed}
use Rattle.book_theorems.specs.Books.{history}
use Rattle.demands.proofs.Answers as answers
use Rattle.demands.proofs.Files as files
use Rattle.demands.proofs.Listed.{lists_alike, gradients_alike, lists_spaced}
use Rattle.demands.proofs.Parted.{parted}
use Rattle.demands.proofs.Unique.{calls, contracts, meets}
use Rattle.demands.specs.Demand1.{Demand1}
use Rattle.demands.specs.Demand2.{Demand2, address}
use Rattle.demands.specs.Demand3.{Demand3}
use Rattle.reader.specs.Reader.{unit_in, read_of}
use Rattle.reader_theorems.proofs.Alike.{texts_decide}
use Rattle.reader_theorems.proofs.Small.{detail_small}
use Rattle.reader_theorems.proofs.Validity.{read_valid}
use Rattle.record_check.proofs.Decides.{valid_tells}
use Rattle.value_name.specs.Names.{is_unit}
use Rattle.writer.specs.Writer.{of_written, write_of}
use Rattle.writer_theorems.proofs.Normal.{normal_same}
use Rattle.writer_theorems.proofs.RoundTrip.{round_trip}
use lib.ListN.{length}
use mathlib.Core.Bool.{true, false}
use mathlib.Core.List.{List}
use mathlib.Core.Path.{◌≡◌, refl, ap, ◌∙◌}

pub demand_1 : Demand1
unfolding asked_of shown_of
demand_1 =
    record {
      code = meets;
      contracts = contracts;
      calls = calls;
      answered = λ ca ioa plan file. (answers.readers_number ca ioa plan file, detail_small ca ioa plan file);
      write_says = answers.write_says;
      normalise_says = λ ca ioa plan file room. answers.normalise_says (read_of ca ioa plan file) room;
      refused_file = answers.refused_file;
      refused_first = answers.refused_first;
      refused_write = answers.refused_write;
      refused_normalise = λ ca ioa plan file out h. answers.left_normal (read_of ca ioa plan file) out h;
      refused_value = answers.refused_value;
      refused_read_entry = answers.read_leaves;
      refused_normalise_entry = answers.normalise_leaves;
      refused_call = λ k b orders unit refused. refused_same k b refused orders unit;
      refused_deed = λ d b refused. deed_same d b refused;
      question = λ t b. refl;
      panel = λ b. refl;
      refused_time = answers.refused_time;
    }

pub demand_2 : Demand2
unfolding read_of
demand_2 =
    record {
      accepted_exactly = files.accepted_exactly;
      its_record = files.its_record;
      its_validity = read_valid;
      however = files.however;
      passed_over = files.passed_over;
      ordered_alike = files.ordered;
      spaced_alike = λ ca ioa plan f g cf cg lines.
          let s = address ca ioa plan in
          files.at_same s f g (texts_decide s.message (unit_in s) f g lines cf cg);
      parted_alike = λ ca ioa plan f g cf cg lines row.
          let s = address ca ioa plan in
          files.at_same s f g (parted f g lines s.message (unit_in s) cf cg row);
      lists_alike = lists_alike;
      gradients_alike = gradients_alike;
      listed_alike = λ ca ioa plan f g sf sg lay fields own.
          let s = address ca ioa plan in
          files.at_same s f g (lists_spaced s.message (unit_in s) f g sf sg lay fields own);
      row_agrees = λ ca ioa plan file h. (files.read_accepted ca ioa plan file h).row_is;
      comes_back = λ r ca ioa plan v own. round_trip r v ca ioa plan own;
      written = λ r out v room. (ap of_written (files.written_length r out v room), files.written_bytes r out v room);
      written_back = λ r ca ioa plan out n own h.
          files.written_back r ca ioa plan out n own (answers.length_told (write_of r (length out)) n h);
      valid_exactly = valid_tells;
      normal_form = normal_same;
    }

fresh_taken : (unit : List ℕ) → is_unit unit ≡ true → ((fresh_of unit).number ≡ 0) × ((fresh_of unit).detail ≡ 0)
unfolding fresh_of
fresh_taken unit e = (rw e, rw e)

fresh_refused : (unit : List ℕ) → is_unit unit ≡ false → (fresh_of unit).number ≡ 21
unfolding fresh_of
fresh_refused unit e = rw e

pub demand_3 : Demand3
demand_3 =
    record {
      kept = kept;
      said_in_force = λ unit ks e t h.
          ap of_in_force ((kept unit ks e).in_force_so t h) ∙ found_says (in_force t (ledger_of unit (history unit ks)));
      good_unit = fresh_taken;
      bad_unit = λ unit ks k e. let u = unkept unit e ks k in (fresh_refused unit e, u.0, u.1);
      could_come_iff = given_tells;
      asked = asked_refusal;
      left_out = removal;
      tallied = tally_says;
      deeds_keep = deed_formed;
    }
