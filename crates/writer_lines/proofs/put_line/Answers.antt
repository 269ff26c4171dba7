use Rattle.writer_lines.proofs.Lines.{label_short, after_short, line_put}
use Rattle.layout_label.proofs.Texts.{label_text_lem}
use Rattle.layout.specs.Layouts.{label_at, type_of}
use Rattle.value_name.specs.declared.MessageType.{MessageType}
use Rattle.value_put.proofs.Sizes.{text_short}
use Rattle.value.specs.Texts.{rooms_in, value_text}
use mathlib.Core.Path.{◌≡◌, ap}
use borrow.Author.Rules.{rules}
use lib.ListN.{length}
use native.Mathlib.Omega.{arith}
use Rattle.writer_lines.proofs.put_line.Goals as goal

pub put_after-said-requires : goal.put_after-said-requires
put_after-said-requires c =
    (omega (arith, c.requires.0, c.put-padded.ensures.0, c.put_byte-equals.ensures.0), rw c.type_of.ensures c.requires.3)

pub put_byte-requires : goal.put_byte-requires
put_byte-requires c =
    let sixteen : length c.args.rooms.gradients ≡ 16 = search rules in
    let t = c.type_of.result in
    let r = rooms_in c.args.rooms in
    omega (
      arith,
      c.requires.0,
      c.put-padded.ensures.0,
      c.put_byte-equals.ensures.0,
      c.put_after-said.ensures.0,
      after_short (value_text t r c.args.v),
      text_short t r c.args.v c.requires.3.narrow sixteen,
    )

pub returns : goal.returns
returns c =
    let a = c.args in
    let r = rooms_in a.rooms in
    let kind = c.type_of in
    let text = label_text_lem a.l a.k c.of_field.ensures in
    let same = ap (λ (t : MessageType). value_text t r a.v) kind.ensures in
    line_put (label_at a.l a.k) (value_text kind.result r a.v) (value_text (type_of a.l) r a.v)
    (label_short a.l a.k c.requires.1 c.requires.2) same
    _ _ _ c.put-padded.new.out _ c.put_byte-equals.new.out _ c.put_after-said.new.out _ _
    _ c.put-padded.ensures text c.put_byte-equals.ensures c.put_after-said.ensures c.put_byte.ensures
