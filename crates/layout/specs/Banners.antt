-- The banners, byte for byte as Annex A.34 prints them, without trailing blanks, each line ended by LF (10). Document 01, "Written form". The
-- reader does not judge them: the type comes from the address alone.
use Rattle.std.specs.Prelude.{ℕ, List, [], ◌∷◌, ◌++◌}
use Prim.Native.String.{String}
use Rattle.layout.specs.declared.Layout.{Layout}
use Rattle.layout.specs.declared.Layout.TheVariants.{Market, Mfrr, Revocation, Generic, Exclusion, Limitation, Secondary, VoltVar, Rejection, Reserve}
use Rattle.text.specs.Bytes.{bytes}

abbrev pub banner_line : String → List ℕ
banner_line t = bytes t ++ 10 ∷ []

abbrev pub stars : List ℕ
stars = banner_line "*****"

unfoldable pub banner_of : Layout → List ℕ
banner_of Market = stars ++ banner_line "***** MESSAGGIO DI COMANDO *****" ++ banner_line "***** PER UPA/UCA *****" ++ stars
banner_of Mfrr = stars ++ banner_line "***** MESSAGGIO DI COMANDO MFRR*****" ++ banner_line "***** PER UPA/UCA *****" ++ stars
banner_of Revocation = stars ++ banner_line "***** MESSAGGIO DI REVOCA COMANDO *****" ++ stars
banner_of Generic = stars ++ banner_line "***** MESSAGGIO GENERICO *****" ++ stars
banner_of Exclusion = stars ++ banner_line "***** MESSAGGIO DI ESCLUSIONE *****" ++ banner_line "***** DAL BILANCIAMENTO *****" ++ stars
banner_of Limitation = stars ++ banner_line "***** MESSAGGIO DI LIMITAZIONE *****" ++ banner_line "***** AL BILANCIAMENTO *****" ++ stars
banner_of Secondary = stars ++ banner_line "***** MESSAGGIO PER IL SERVIZIO *****" ++ banner_line "***** DI REGOLAZIONE SECONDARIA *****" ++ stars
banner_of VoltVar = stars ++ banner_line "***** MESSAGGIO DI REGOLAZIONE V-Q *****" ++ stars
banner_of Rejection = stars ++ banner_line "*** MESSAGGIO DI RIFIUTO DELL'INDISPONIBILITA ***" ++ stars
banner_of Reserve = stars ++ banner_line "***** MESSAGGIO DI QUANTITA *****" ++ banner_line "***** RISERVATA *****" ++ stars
