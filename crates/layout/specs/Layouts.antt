-- The layouts by name: the type of each, its fields, and what stands at a field's number. Document 01, "Lines of a message".
use Rattle.std.specs.Prelude.{ℕ, length, get_or, Bool, true, false, List, [], ◌∷◌, map}
use Rattle.layout.specs.Fields.{Field, market, mfrr, rc, mg, eb, lb, sr, vq, ri, qr}
use Rattle.layout.specs.declared.Layout.{Layout}
use Rattle.layout.specs.declared.Layout.TheVariants.{Market, Mfrr, Revocation, Generic, Exclusion, Limitation, Secondary, VoltVar, Rejection, Reserve}
use Rattle.value_name.specs.declared.MessageType.{MessageType}
use Rattle.value_name.specs.declared.MessageType.TheVariants.{Cb, Rc, Mg, Eb, Lb, Sr, Vq, Ri, Qr}
use Rattle.value.specs.declared.Kind.{Kind}
use Rattle.value.specs.declared.Shape.TheVariants.{IsNote}

unfoldable pub fields_of : Layout → List Field
fields_of Market = market
fields_of Mfrr = mfrr
fields_of Revocation = rc
fields_of Generic = mg
fields_of Exclusion = eb
fields_of Limitation = lb
fields_of Secondary = sr
fields_of VoltVar = vq
fields_of Rejection = ri
fields_of Reserve = qr

abbrev pub type_of : Layout → MessageType
type_of Market = Cb
type_of Mfrr = Cb
type_of Revocation = Rc
type_of Generic = Mg
type_of Exclusion = Eb
type_of Limitation = Lb
type_of Secondary = Sr
type_of VoltVar = Vq
type_of Rejection = Ri
type_of Reserve = Qr

-- the layout of a type; CB has the mFRR layout besides
abbrev pub layout_of : MessageType → Layout
layout_of Cb = Market
layout_of Rc = Revocation
layout_of Mg = Generic
layout_of Eb = Exclusion
layout_of Lb = Limitation
layout_of Sr = Secondary
layout_of Vq = VoltVar
layout_of Ri = Rejection
layout_of Qr = Reserve

-- ---- which messages: the market layout, a CB of either layout, an RC

abbrev pub is_market : Layout → Bool
is_market Market = true
is_market Mfrr = false
is_market Revocation = false
is_market Generic = false
is_market Exclusion = false
is_market Limitation = false
is_market Secondary = false
is_market VoltVar = false
is_market Rejection = false
is_market Reserve = false

abbrev pub is_command : Layout → Bool
is_command Market = true
is_command Mfrr = true
is_command Revocation = false
is_command Generic = false
is_command Exclusion = false
is_command Limitation = false
is_command Secondary = false
is_command VoltVar = false
is_command Rejection = false
is_command Reserve = false

abbrev pub is_revocation : Layout → Bool
is_revocation Market = false
is_revocation Mfrr = false
is_revocation Revocation = true
is_revocation Generic = false
is_revocation Exclusion = false
is_revocation Limitation = false
is_revocation Secondary = false
is_revocation VoltVar = false
is_revocation Rejection = false
is_revocation Reserve = false

-- ---- labels and kinds in printed order

unfoldable pub labels_of : Layout → List (List ℕ)
labels_of l = map (λ (f : Field). f.label) (fields_of l)

unfoldable pub kinds_of : Layout → List Kind
kinds_of l = map (λ (f : Field). f.kind) (fields_of l)

abbrev pub size_of : Layout → ℕ
size_of l = length (fields_of l)

-- of the field k, from 1: nothing, and a kind that nobody asks for, where there is no such field
unfoldable pub label_at : Layout → ℕ → List ℕ
label_at l k = get_or ([] ∷ labels_of l) k []

abbrev pub no_kind : Kind
no_kind = record { shape = IsNote; blank = true }

unfoldable pub kind_at : Layout → ℕ → Kind
kind_at l k = get_or (no_kind ∷ kinds_of l) k no_kind
