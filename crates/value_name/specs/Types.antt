-- The message types and their codes. Document 01, "Addresses": CB RC MG EB LB SR VQ RI QR.
use Rattle.std.specs.Prelude.{ℕ, List}
use Rattle.value_name.specs.declared.MessageType.{MessageType}
use Rattle.value_name.specs.declared.MessageType.TheVariants.{Cb, Rc, Mg, Eb, Lb, Sr, Vq, Ri, Qr}
use Rattle.text.specs.Bytes.{bytes}

abbrev pub code_of : MessageType → List ℕ
code_of Cb = bytes "CB"
code_of Rc = bytes "RC"
code_of Mg = bytes "MG"
code_of Eb = bytes "EB"
code_of Lb = bytes "LB"
code_of Sr = bytes "SR"
code_of Vq = bytes "VQ"
code_of Ri = bytes "RI"
code_of Qr = bytes "QR"
