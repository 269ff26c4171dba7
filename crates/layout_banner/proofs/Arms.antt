-- A banner as the front of a padded one, and by its layout, in an arm of the match. Assumes nothing.
use Prim.Native.Nat.{ℕ, ◌+◌, ◌≤◌, ◌<◌}
use Rattle.layout.specs.Banners.{banner_of}
use Rattle.layout.specs.declared.Layout.{Layout}
use Rattle.text.specs.Bytes.{part}
use Rattle.text.specs.Puts.{limit, Puts}
use lib.ListN.{length, take}
use lib.Seq.{sets, length-take-le}
use mathlib.Core.List.{List}
use mathlib.Core.Path.{◌≡◌, sym, ap, ◌∙◌}
use native.Mathlib.Nat.{sub-zero}

pub front_put : (buffer text : List ℕ) (at size r : ℕ) (after : List ℕ) → size ≤ length text
    → Puts buffer at (part 0 size text) r after → (r ≡ at + size) × (after ≡ sets buffer at (take size text))
front_put buffer text at size r after h p =
    let e : part 0 size text ≡ take size text = ap (λ (n : ℕ). take n text) (sub-zero size) in
    (p.0 ∙ ap (λ (t : List ℕ). at + length t) e ∙ ap (λ (n : ℕ). at + n) (length-take-le size text h), p.1 ∙ ap (sets buffer at) e)

pub banner_room : (at : ℕ) {l m : Layout} → l ≡ m → at + length (banner_of l) < limit → at + length (banner_of m) < limit
banner_room at e h = rw (sym e) h

pub banner_put : (buffer : List ℕ) (at r : ℕ) (after : List ℕ) {l m : Layout} → l ≡ m → Puts buffer at (banner_of m) r after
    → Puts buffer at (banner_of l) r after
banner_put buffer at r after e p = rw e p
