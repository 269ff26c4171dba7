-- A row of the address plan. Document 01, "Addresses": four lines `ca`, `ioa`, `unit`, `type`; no address twice, bad at the later `ioa` line; a line is
-- judged with those above it; one missing is bad where it should stand.
use Rattle.std.specs.Prelude.{ℕ, eqb, Bool, ◌&&◌, cond, List, [], ◌∷◌, None, Option, Some}
use Rattle.text_keyline.specs.Keylines.{line_of, value_in, below, number_at, unit_at}
use Rattle.value_name.specs.Types.{code_of}
use Rattle.value_name.specs.declared.MessageType.TheVariants.{Cb, Rc, Mg, Eb, Lb, Sr, Vq, Ri, Qr}
use Rattle.value_name.specs.declared.MessageType.{MessageType}
use Rattle.text.specs.Bytes.{bytes, same, any}

-- what a row gives: an address, its unit and its type
pub record Row : Type 0 where
  pub ca : ℕ
  pub ioa : ℕ
  pub unit : List ℕ
  pub message : MessageType

abbrev pub row : ℕ → ℕ → List ℕ → MessageType → Row
row c i u t = record { ca = c; ioa = i; unit = u; message = t }

-- ---- the four lines of a row

abbrev pub ca_at : List ℕ → Option ℕ
ca_at s = number_at (bytes "ca=") 65534 s

abbrev pub ioa_at : List ℕ → Option ℕ
ioa_at s = number_at (bytes "ioa=") 16777215 s

-- the type whose code this is
unfoldable pub type_from : List MessageType → List ℕ → Option MessageType
type_from [] s = None
type_from (t ∷ ts) s = cond (same (code_of t) s) (Some t) (type_from ts s)

abbrev pub types : List MessageType
types = Cb ∷ Rc ∷ Mg ∷ Eb ∷ Lb ∷ Sr ∷ Vq ∷ Ri ∷ Qr ∷ []

abbrev pub if_type : Option ℕ → Option MessageType → Option MessageType
if_type (Some e) t = t
if_type None t = None

unfoldable pub type_at : List ℕ → Option MessageType
type_at s = if_type (line_of (bytes "type=") s) (type_from types (value_in (bytes "type=") s))

-- ---- rows

-- an address
abbrev pub is_at : ℕ → ℕ → Row → Bool
is_at c i r = eqb r.ca c && eqb r.ioa i

-- a row that is good, or which of its lines, from 0, is the first bad one
pub data RowRead : Type 0 where
  good : Row → RowRead
  bad : ℕ → RowRead

abbrev pub row_typed : ℕ → ℕ → List ℕ → Option MessageType → RowRead
row_typed c i u None = bad 3
row_typed c i u (Some t) = good (row c i u t)

abbrev pub row_named : ℕ → ℕ → Option (List ℕ) → Option MessageType → RowRead
row_named c i None t = bad 2
row_named c i (Some u) t = row_typed c i u t

abbrev pub placed : List Row → ℕ → Option ℕ → Option (List ℕ) → Option MessageType → RowRead
placed above c None u t = bad 1
placed above c (Some i) u t = cond (any (is_at c i) above) (bad 1) (row_named c i u t)

abbrev pub begun : List Row → Option ℕ → Option ℕ → Option (List ℕ) → Option MessageType → RowRead
begun above None i u t = bad 0
begun above (Some c) i u t = placed above c i u t

-- the row at the front of a text, below those above
unfoldable pub plan_row_of : List Row → List ℕ → RowRead
plan_row_of above s = begun above (ca_at s) (ioa_at (below s)) (unit_at (below (below s))) (type_at (below (below (below s))))
