-- The numbers of a message, kept in thousandths. Document 01, "Values": optional `-`, 1 to 6 digits, optionally `.` and 1 to 3 digits;
-- `-0` reads as 0; no `+`. "Written form": shortest form.
use Rattle.std.specs.Prelude.{ℕ, zero, suc, ◌+◌, ◌-◌, ◌*◌, ◌/◌, ◌%◌, ◌^◌, eqb, ℤ, pos, negsuc, neg_ℤ, nat_abs, length, get_or, take, drop, Bool, true, false, not, ◌&&◌, ◌||◌, cond, List, [], ◌∷◌, ◌++◌, None, Option, Some}
use Rattle.text.specs.Bytes.{is_digit, first_of}
use Rattle.text.specs.Digits.{digits_of, digits_text, whole_text}

-- ---- reading

-- the digits f after the point, as thousandths
unfoldable pub scaled : List ℕ → Option ℕ → Option ℕ
scaled f (Some n) = Some (n * 10 ^ (3 - length f))
scaled f None = None

-- what stands from the point on: nothing, or the point and 1 to 3 digits
unfoldable pub fraction_of : List ℕ → Option ℕ
fraction_of [] = Some 0
fraction_of (point ∷ f) = scaled f (digits_of 3 f)

unfoldable pub joined_digits : Option ℕ → Option ℕ → Option ℕ
joined_digits (Some w) (Some f) = Some (w * 1000 + f)
joined_digits (Some w) None = None
joined_digits None f = None

-- a number without its sign, divided at the first point (46)
unfoldable pub unsigned_of : List ℕ → Option ℕ
unsigned_of s = joined_digits (digits_of 6 (take (first_of 46 s) s)) (fraction_of (drop (first_of 46 s) s))

unfoldable pub plus : Option ℕ → Option ℤ
plus (Some n) = Some (pos n)
plus None = None

unfoldable pub minus : Option ℕ → Option ℤ
minus (Some n) = Some (neg_ℤ (pos n))
minus None = None

-- 45 is '-'
unfoldable pub number_of : List ℕ → Option ℤ
number_of s = cond (eqb (get_or s 0 0) 45) (minus (unsigned_of (drop 1 s))) (plus (unsigned_of s))

-- ---- writing

-- the point and the k decimals f without trailing zeros: nothing where f is 0
unfoldable pub fraction_text : ℕ → ℕ → List ℕ
fraction_text zero f = []
fraction_text (suc k) f = cond (eqb (f % 10) 0) (fraction_text k (f / 10)) (46 ∷ digits_text (suc k) f)

unfoldable pub sign_text : ℤ → List ℕ
sign_text (pos n) = []
sign_text (negsuc n) = 45 ∷ []

-- the shortest form of v thousandths
unfoldable pub number_text : ℤ → List ℕ
number_text v = sign_text v ++ whole_text 6 (nat_abs v / 1000) ++ fraction_text 3 (nat_abs v % 1000)

-- k decimals f with their point, none where there are none to write
unfoldable pub decimals_text : ℕ → ℕ → List ℕ
decimals_text zero f = []
decimals_text (suc k) f = 46 ∷ digits_text (suc k) f

-- ---- numbers, with ; (59) or , (44) between them, that stand in their shortest form and without blanks

-- the byte before a place: 0 where there is none
abbrev pub before_at : ℕ → List ℕ → ℕ
before_at i s = cond (eqb i 0) 0 (get_or s (i - 1) 0)

-- a zero between two bytes, among decimals or not: before a digit it is a decimal or follows a digit,
-- and otherwise it is no decimal and stands before a point (46) or not behind the sign (45)
unfoldable pub zero_fits : ℕ → Bool → ℕ → Bool
zero_fits prior decimals next =
    cond (is_digit next) (decimals || is_digit prior) (not decimals && (eqb next 46 || not (eqb prior 45)))

-- decimals stand behind a point, up to the next ; or ,
abbrev pub decimals_past : ℕ → Bool → Bool
decimals_past b decimals = eqb b 46 || (decimals && not (eqb b 59) && not (eqb b 44))

unfoldable pub short_from : ℕ → Bool → List ℕ → Bool
short_from prior decimals [] = true
short_from prior decimals (b ∷ s) =
    not (eqb b 32) && (not (eqb b 48) || zero_fits prior decimals (get_or s 0 0)) && short_from b (decimals_past b decimals) s

unfoldable pub are_short : List ℕ → Bool
are_short s = short_from 0 false s
