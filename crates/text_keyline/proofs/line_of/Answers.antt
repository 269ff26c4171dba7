use Rattle.text_keyline.proofs.Values.{other_key, no_end, ends_at}
use Rattle.text_keyline.proofs.line_of.Goals as goal

pub returns-then-not-starts : goal.returns-then-not-starts
returns-then-not-starts c = other_key _ _ _ c.starts.ensures c.if-not-starts.true

pub returns-then-end-s : goal.returns-then-end-s
returns-then-end-s c = no_end _ _ _ c.starts.ensures _ c.first-end.ensures c.if-end-s.true

pub returns : goal.returns
returns c =
    ends_at _ _ _ c.starts.ensures _ c.first-end.ensures c.if-not-starts.false c.if-end-s.false
