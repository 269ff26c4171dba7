use Rattle.saved_lines.proofs.Meeting.{key_front}
use Rattle.saved_lines.proofs.OnePut.{key_fits}
use mathlib.Core.Path.{sym}
use Rattle.saved_lines.proofs.line.put_key.Goals as goal

pub put_text-requires : goal.put_text-requires
put_text-requires c =
    key_fits c.args.k c.args.at _ (key_front c.args.k _ _ c.key_of-key.ensures c.front.ensures) c.requires

pub returns : goal.returns
returns c =
    let a = c.args in
    rw (sym (key_front a.k _ _ c.key_of-key.ensures c.front.ensures)) c.put_text.ensures
