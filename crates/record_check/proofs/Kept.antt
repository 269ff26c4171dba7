-- A text kept in a room: the room is the text and zeros exactly where it has its size and is zero past the text. Assumes nothing.
use Prim.Native.Nat.{ℕ}
use Rattle.value_fits.proofs.Unused.{unused_tells}
use Rattle.text.proofs.Tests.{eqb_tells}
use Rattle.text.specs.Bytes.{all, is}
use Rattle.text.specs.Puts.{room_of}
use Rattle.writer_form.proofs.Texts.{Front}
use lib.ListN.{length, drop}
use lib.Seq.{length-take-le}
use mathlib.Core.Bool.{true}
use mathlib.Core.List.{List}
use mathlib.Core.Logic.{◌↔◌}
use mathlib.Core.Path.{◌≡◌, ap, ◌∙◌}

pub room_tells : {size : ℕ} {room text : List ℕ} {n : ℕ} → Front size room text n
    → ((length room ≡ size) × (all (is 0) (drop n room) ≡ true)) ↔ (room ≡ room_of size text)
unfolding room_of
room_tells {size} {room} {text} {n} f =
    let long : length text ≡ n = ap length f.text_is ∙ length-take-le n room f.inside in
    rw (long, f.text_is) (unused_tells (is 0) 0 (λ b. eqb_tells b 0) size n room f.few f.inside)
