use Rattle.value_date.proofs.Back.{date_length}
use Rattle.value_date.specs.Date.{date_text}
use Rattle.value_name.proofs.RoundTrip.{identifier_length}
use Rattle.value_name.specs.Names.{identifier_text}
use Rattle.value_put.proofs.Puts.{shown, sized, front_fits}
use Rattle.value.specs.Texts.{value_text}
use borrow.Author.Rules.{rules}
use mathlib.Core.Path.{refl}
use mir.Syntax.{w32}
use mir.Val.{SFits}
use mir.ValLaws.{to_z-of_z}
use native.Mathlib.Omega.{arith}
use Rattle.value_put.proofs.put_value.Goals as goal

pub put_text-requires : goal.put_text-requires
put_text-requires c =
    let h = c.requires in
    front_fits c.args.rooms.unit.now _ _ c.in-Unit.n
    c.front.ensures (omega (arith, h.1.unit_few)) h.0

pub put_text-requires-in-Reason : goal.put_text-requires-in-Reason
put_text-requires-in-Reason c =
    let h = c.requires in
    front_fits c.args.rooms.reason.now _ _ c.in-Reason.n
    c.front-in-Reason.ensures (omega (arith, h.1.reason_few)) h.0

pub put_text-requires-in-Note : goal.put_text-requires-in-Note
put_text-requires-in-Note c =
    let h = c.requires in
    front_fits c.args.rooms.note.now _ _ c.in-Note.n
    c.front-in-Note.ensures (omega (arith, h.1.note_few)) h.0

pub returns-in-Blank : goal.returns-in-Blank
unfolding value_text
returns-in-Blank c = rw c.in-Blank.is (omega arith, refl)

pub returns-in-Id : goal.returns-in-Id
unfolding value_text
returns-in-Id c =
    let t = c.args.t in
    let n = c.in-Id.n in
    shown _ _ _ _ _ _ _ _ _ c.in-Id.is refl
    (sized _ _ _ _ (identifier_text t n) 13 (identifier_length t n) c.put.ensures)

pub returns-in-Unit : goal.returns-in-Unit
unfolding value_text
returns-in-Unit c =
    shown _ _ _ _ _ _ _ _ _ c.in-Unit.is c.front.ensures c.put_text.ensures

pub returns-in-When : goal.returns-in-When
unfolding value_text
returns-in-When c =
    let d = c.in-When.d in
    shown _ _ _ _ _ _ _ _ _ c.in-When.is refl
    (sized _ _ _ _ (date_text d) 21 (date_length d) c.put-in-When.ensures)

pub returns-in-Amount : goal.returns-in-Amount
unfolding value_text
returns-in-Amount c =
    shown _ _ _ _ _ _ _ _ _ c.in-Amount.is refl
    (rw (to_z-of_z w32 c.in-Amount.x (record { sfits = c.in-Amount.known_told-in-Amount-1-own.given.0.1 })) at c.put-in-Amount.ensures)

pub returns-in-Count : goal.returns-in-Count
unfolding value_text
returns-in-Count c = shown _ _ _ _ _ _ _ _ _ c.in-Count.is refl c.put_whole.ensures

pub returns-in-Reason : goal.returns-in-Reason
unfolding value_text
returns-in-Reason c =
    shown _ _ _ _ _ _ _ _ _ c.in-Reason.is c.front-in-Reason.ensures c.put_text-in-Reason.ensures

pub returns-in-Note : goal.returns-in-Note
unfolding value_text
returns-in-Note c =
    shown _ _ _ _ _ _ _ _ _ c.in-Note.is c.front-in-Note.ensures c.put_text-in-Note.ensures

pub returns-in-Word : goal.returns-in-Word
unfolding value_text
returns-in-Word c = shown _ _ _ _ _ _ _ _ _ c.in-Word.is refl c.put-in-Word.ensures

pub returns-in-List : goal.returns-in-List
unfolding value_text
returns-in-List c = shown _ _ _ _ _ _ _ _ _ c.in-List.is refl c.put-in-List.ensures

pub returns-in-Triples : goal.returns-in-Triples
unfolding value_text
returns-in-Triples c = shown _ _ _ _ _ _ _ _ _ c.in-Triples.is refl c.put-in-Triples.ensures

pub returns-in-Voltage : goal.returns-in-Voltage
unfolding value_text
returns-in-Voltage c =
    let x = c.in-Voltage.x.0 in
    let h : SFits w32 x = search rules in
    shown _ _ _ _ _ _ _ _ _ c.in-Voltage.is refl (rw (to_z-of_z w32 x h) at c.put-in-Voltage.ensures)

pub returns-in-Regulator : goal.returns-in-Regulator
unfolding value_text
returns-in-Regulator c =
    let x = c.in-Regulator.x.0 in
    let h : SFits w32 x = search rules in
    shown _ _ _ _ _ _ _ _ _ c.in-Regulator.is refl (rw (to_z-of_z w32 x h) at c.put-in-Regulator.ensures)

pub returns-in-Change : goal.returns-in-Change
unfolding value_text
returns-in-Change c =
    let x = c.in-Change.x.0 in
    let h : SFits w32 x = search rules in
    shown _ _ _ _ _ _ _ _ _ c.in-Change.is refl (rw (to_z-of_z w32 x h) at c.put-in-Change.ensures)

pub returns-in-Reactive : goal.returns-in-Reactive
unfolding value_text
returns-in-Reactive c =
    let x = c.in-Reactive.x.0 in
    let h : SFits w32 x = search rules in
    shown _ _ _ _ _ _ _ _ _ c.in-Reactive.is refl
    (rw (to_z-of_z w32 x h) at c.put-in-Reactive.ensures)
