-- THE THEOREM: request A1. Assumes nothing.
use Rattle.demands.proofs.Exactly.{exactly}
use Rattle.demands.proofs.Files as files
use Rattle.demands.proofs.Respelt.{same_given, either}
use Rattle.demands.specs.Demand2.{address}
use Rattle.demands.specs.Request1.{SameSetting, NoSetting, Request1}
use Rattle.reader.specs.Reader.{unit_in, read_of}
use Rattle.reader.specs.Refusals.{Answer}
use Rattle.reader_accent.specs.Accents.{accents_of}
use Rattle.text.specs.Bytes.{same, starts, upto, past, any, all}
use Rattle.text.specs.Digits.{number_from, digits_of}
use Rattle.value.specs.Kinds.{shape_of}
use Rattle.value.specs.declared.Shape.TheVariants.{IsVoltage, IsRegulator, IsChange, IsReactive}
use Rattle.value_number.specs.Number.{scaled, fraction_of, joined_digits, unsigned_of, plus, minus, number_of}
use Rattle.value_word.specs.Words.{command_words, mode_words, setting_words, words, word, word_from, volt_in}
use Rattle.writer.specs.Writer.{normalise_of, normal_left}
use Rattle.writer_theorems.proofs.RoundTrip.{file_plain}
use lib.ListN.{length}
use mathlib.Core.List.{[]}
use mathlib.Core.Path.{refl, ap}

settings : SameSetting IsVoltage × SameSetting IsRegulator
unfolding shape_of volt_in word_from words word command_words mode_words setting_words same starts upto past any all digits_of number_from scaled fraction_of joined_digits
    unsigned_of plus minus number_of
settings = ((refl, refl), (refl, refl))

alone : NoSetting IsChange × NoSetting IsReactive
unfolding shape_of word_from words word command_words mode_words setting_words same starts upto past any all digits_of number_from scaled fraction_of joined_digits
    unsigned_of plus minus number_of
alone = ((refl, refl), (refl, refl))

pub request_1 : Request1
unfolding read_of
request_1 =
    record {
      allowed_exactly = λ t. exactly (accents_of t);
      spelt_alike = λ ca ioa plan f g sf sg row same.
          let s = address ca ioa plan in
          files.at_same s f g (same_given s.message (unit_in s) f g sf sg row same);
      both_spellings = λ ca ioa plan before a x b rest begins ha hb accented row.
          let s = address ca ioa plan in
          files.at_same s _ _ (either s.message (unit_in s) before a x b rest begins ha hb accented row);
      settings_alike = settings;
      settings_alone = alone;
      written_plain = λ r v. file_plain v.valid [];
      written_alike = λ ca ioa plan f g out e. (ap (λ (r : Answer). normalise_of r (length out)) e, ap (λ (r : Answer). normal_left r out) e);
      row_as_it_came = λ ca ioa plan file h. (files.read_accepted ca ioa plan file h).row_is;
    }
