use Rattle.value_put.proofs.Looks.{looked_at, word_looked_at, as_it_stands}
use Rattle.value.specs.Texts.{is_written}
use mathlib.Core.Path.{refl}
use Rattle.value_put.proofs.is_written.Goals as goal

pub returns-in-Amount : goal.returns-in-Amount
unfolding is_written
returns-in-Amount c = looked_at _ _ _ _ c.in-Amount.is refl c.are_short.ensures

pub returns-in-Word : goal.returns-in-Word
unfolding is_written
returns-in-Word c = word_looked_at _ _ _ _ c.in-Word.is refl c.is_joined.ensures

pub returns-in-List : goal.returns-in-List
unfolding is_written
returns-in-List c = looked_at _ _ _ _ c.in-List.is refl c.are_short-in-List.ensures

pub returns-in-Triples : goal.returns-in-Triples
unfolding is_written
returns-in-Triples c = looked_at _ _ _ _ c.in-Triples.is refl c.are_short-in-Triples.ensures

pub returns-in-Voltage : goal.returns-in-Voltage
unfolding is_written
returns-in-Voltage c = looked_at _ _ _ _ c.in-Voltage.is refl c.are_short-in-Voltage.ensures

pub returns-in-Regulator : goal.returns-in-Regulator
unfolding is_written
returns-in-Regulator c = looked_at _ _ _ _ c.in-Regulator.is refl c.are_short-in-Regulator.ensures

pub returns-in-Change : goal.returns-in-Change
unfolding is_written
returns-in-Change c = looked_at _ _ _ _ c.in-Change.is refl c.are_short-in-Change.ensures

pub returns-in-Reactive : goal.returns-in-Reactive
unfolding is_written
returns-in-Reactive c = looked_at _ _ _ _ c.in-Reactive.is refl c.are_short-in-Reactive.ensures

pub returns-in_default : goal.returns-in_default
returns-in_default c = as_it_stands c.args.v _ c.in_default.in_default-own.keys9
