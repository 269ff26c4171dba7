-- Where a command has its number, its dates and its amounts, and a revocation its dates and its sequence, none of which may be blank. Assumes nothing.
use Prim.Native.Nat.{ℕ, suc}
use Rattle.layout.specs.FieldNumbers.{end_field}
use Rattle.book_source.proofs.Bounds.{by_command, by_revocation}
use Rattle.layout.specs.Fields.{command, technical, market, mfrr, rc}
use Rattle.layout.specs.Layouts.{is_command, is_revocation, fields_of, kinds_of, type_of, no_kind}
use Rattle.layout.specs.declared.Layout.{Layout}
use Rattle.layout.specs.declared.Layout.TheVariants.{Market, Mfrr, Revocation}
use Rattle.record.proofs.Places.{Owed}
use Rattle.value.specs.declared.Shape.{Shape}
use Rattle.value.specs.declared.Shape.TheVariants.{IsId, IsWhen, IsAmount, IsCount}
use borrow.Author.Tests.{ltb-true}
use lib.Dec.{ltb}
use lib.ListN.{length, get_or}
use mathlib.Core.Bool.{true, false}
use mathlib.Core.Path.{◌≡◌, refl}

owed_at : (l : Layout) (a : Shape) (j : ℕ) → ltb j (length (kinds_of l)) ≡ true → (get_or (kinds_of l) j no_kind).shape ≡ a → (get_or (kinds_of l) j no_kind).blank ≡ false
    → Owed l a (suc j)
owed_at l a j i s b = record { at = record { place = j; field_is = refl; inside = ltb-true j (length (kinds_of l)) i; shape_is = s }; owed = b }

pub number_at : (l : Layout) → is_command l ≡ true → Owed l (IsId (type_of l)) 1
unfolding kinds_of fields_of market command technical mfrr
number_at =
    by_command (λ (l : Layout). Owed l (IsId (type_of l)) 1) (owed_at Market (IsId (type_of Market)) 0 refl refl refl)
    (owed_at Mfrr (IsId (type_of Mfrr)) 0 refl refl refl)

pub start_at : (l : Layout) → is_command l ≡ true → Owed l IsWhen 3
unfolding kinds_of fields_of market command technical mfrr
start_at = by_command (λ (l : Layout). Owed l IsWhen 3) (owed_at Market IsWhen 2 refl refl refl) (owed_at Mfrr IsWhen 2 refl refl refl)

pub end_at : (l : Layout) → is_command l ≡ true → Owed l IsWhen (end_field l)
unfolding kinds_of fields_of market command technical mfrr
end_at = by_command (λ (l : Layout). Owed l IsWhen (end_field l)) (owed_at Market IsWhen 3 refl refl refl) (owed_at Mfrr IsWhen 5 refl refl refl)

pub market_amounts : Owed Market IsAmount 5 × Owed Market IsAmount 6
unfolding kinds_of fields_of market command technical
market_amounts = (owed_at Market IsAmount 4 refl refl refl, owed_at Market IsAmount 5 refl refl refl)

pub mfrr_amount : Owed Mfrr IsAmount 7
unfolding kinds_of fields_of mfrr
mfrr_amount = owed_at Mfrr IsAmount 6 refl refl refl

pub revoked_start_at : (l : Layout) → is_revocation l ≡ true → Owed l IsWhen 3
unfolding kinds_of fields_of rc
revoked_start_at = by_revocation (λ (l : Layout). Owed l IsWhen 3) (owed_at Revocation IsWhen 2 refl refl refl)

pub revoked_end_at : (l : Layout) → is_revocation l ≡ true → Owed l IsWhen (end_field l)
unfolding kinds_of fields_of rc
revoked_end_at = by_revocation (λ (l : Layout). Owed l IsWhen (end_field l)) (owed_at Revocation IsWhen 3 refl refl refl)

pub sequence_at : (l : Layout) → is_revocation l ≡ true → Owed l IsCount 5
unfolding kinds_of fields_of rc
sequence_at = by_revocation (λ (l : Layout). Owed l IsCount 5) (owed_at Revocation IsCount 4 refl refl refl)
