-- What a kind holds of a value that is filled, and of one that is not. Assumes nothing.
use Rattle.value_ask.proofs.Others.{blank_is}
use Rattle.value_ask.specs.Values.{is_filled}
use Rattle.value_fits.specs.Fits.{fits, holds}
use Rattle.value_name.specs.declared.MessageType.{MessageType}
use Rattle.value.specs.Texts.{Rooms}
use Rattle.value.specs.declared.Kind.{Kind}
use Rattle.value.specs.declared.Value.{Value}
use mathlib.Core.Bool.{Bool, true, false, ◌&&◌, ◌||◌}
use mathlib.Core.Path.{◌≡◌, refl}

-- the two halves of `holds` where the other says nothing
alone : (b : Bool) → b ≡ ((b && true) || false)
alone true = refl
alone false = refl

no_part : (b f : Bool) → f ≡ ((b && false) || f)
no_part true f = refl
no_part false f = refl

module _ (t : MessageType) (r : Rooms) (k : Kind) (v : Value) where
  -- a blank stands where the kind lets it
  pub holds_blank : is_filled v ≡ false → k.blank ≡ holds t r k v
  unfolding holds fits
  holds_blank e = rw (blank_is v e) (alone k.blank)

  -- any other value where it fits
  pub holds_filled : is_filled v ≡ true → fits t r k.shape v ≡ holds t r k v
  unfolding holds
  holds_filled e = rw e (no_part k.blank (fits t r k.shape v))
