-- What is said of the layouts that are not asked for: the arm `_` of a match on a layout. Assumes nothing.
use Prim.Native.Nat.{ℕ}
use Rattle.layout.specs.contracts.Layout.{the_type}
use Rattle.layout.specs.declared.Layout.{Layout}
use Rattle.layout.specs.declared.Layout.TheVariants.{Market, Mfrr, Revocation, Generic, Exclusion, Limitation, Secondary, VoltVar, Rejection, Reserve}
use Rattle.book_order.specs.Messages.{first_variation, second_variation}
use Rattle.book_order.specs.Orders.{fits_layout}
use Rattle.record.specs.declared.Cell.{Cell}
use denote.Enum.Declared.{tag_of}
use lib.IntN.{ℤ, pos}
use mathlib.Core.Bool.{false}
use mathlib.Core.List.{List, [], ◌∷◌}
use mathlib.Core.Path.{◌≡◌, refl}
use types.Run.{OneOf, miss}

-- the places of the variants, all but those that are asked for
abbrev not_command : List ℕ
not_command = 2 ∷ 3 ∷ 4 ∷ 5 ∷ 6 ∷ 7 ∷ 8 ∷ 9 ∷ []

abbrev not_market : List ℕ
not_market = 1 ∷ 2 ∷ 3 ∷ 4 ∷ 5 ∷ 6 ∷ 7 ∷ 8 ∷ 9 ∷ []

-- any layout but the two of CB has no variation
pub first_other : (l : Layout) (cells : List Cell) → OneOf not_command (tag_of the_type l) → pos 0 ≡ first_variation l cells
first_other Market cells h = absurd (miss not_command 0 tt h)
first_other Mfrr cells h = absurd (miss not_command 1 tt h)
first_other Revocation cells h = refl
first_other Generic cells h = refl
first_other Exclusion cells h = refl
first_other Limitation cells h = refl
first_other Secondary cells h = refl
first_other VoltVar cells h = refl
first_other Rejection cells h = refl
first_other Reserve cells h = refl

-- only a market command has a second one
pub second_other : (l : Layout) (cells : List Cell) → OneOf not_market (tag_of the_type l) → pos 0 ≡ second_variation l cells
second_other Market cells h = absurd (miss not_market 0 tt h)
second_other Mfrr cells h = refl
second_other Revocation cells h = refl
second_other Generic cells h = refl
second_other Exclusion cells h = refl
second_other Limitation cells h = refl
second_other Secondary cells h = refl
second_other VoltVar cells h = refl
second_other Rejection cells h = refl
second_other Reserve cells h = refl

-- nothing fits a layout that is no command's
pub fits_other : (l : Layout) (apart : ℕ) (second : ℤ) → OneOf not_command (tag_of the_type l) → false ≡ fits_layout l apart second
fits_other Market apart second h = absurd (miss not_command 0 tt h)
fits_other Mfrr apart second h = absurd (miss not_command 1 tt h)
fits_other Revocation apart second h = refl
fits_other Generic apart second h = refl
fits_other Exclusion apart second h = refl
fits_other Limitation apart second h = refl
fits_other Secondary apart second h = refl
fits_other VoltVar apart second h = refl
fits_other Rejection apart second h = refl
fits_other Reserve apart second h = refl
