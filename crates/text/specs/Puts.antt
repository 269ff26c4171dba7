-- What a put and a write answer and what they leave in the buffer: the bytes before and past the text stay, and a refusal changes none.
use Rattle.refusal.specs.declared.Refusal.TheVariants.{NoRoom}
use Rattle.refusal.specs.Numbers.{number_of, detail_of}
use Rattle.refusal.specs.declared.Refusal.{Refusal}
use Rattle.std.specs.Prelude.{ℕ, ◌+◌, ◌-◌, leb, length, take, drop, replicate, cond, List, [], ◌∷◌, ◌++◌, ◌≡◌, Result, Ok, Err}
use Rattle.text.specs.Said.{Said, said}
use Rattle.std.proofs.lemmas.List.Edits.{sets}

-- one more than the greatest place: places are 64 bits wide
abbrev pub limit : ℕ
limit = 18446744073709551616

-- t put at a place: r is the place past it, and after the buffer, with what there is room for
abbrev pub Puts : List ℕ → ℕ → List ℕ → ℕ → List ℕ → Type 0
Puts buffer at t r after = (r ≡ at + length t) × (after ≡ sets buffer at t)

-- writing t at a place: the place past it, or how many bytes it would take
unfoldable pub wrote_of : List ℕ → ℕ → List ℕ → Result ℕ Refusal
wrote_of buffer at t = cond (leb (at + length t) (length buffer)) (Ok (at + length t)) (Err (NoRoom (length t)))

-- what that answer says: the place past it, or a refusal's number and detail (11 with the length)
abbrev pub of_wrote : Result ℕ Refusal → Said
of_wrote (Ok n) = said 0 0 (n ∷ [])
of_wrote (Err e) = said (number_of e) (detail_of e) []

-- the buffer after it
unfoldable pub buffer_of : List ℕ → ℕ → List ℕ → List ℕ
buffer_of buffer at t =
    cond (leb (at + length t) (length buffer)) (take at buffer ++ t ++ drop (at + length t) buffer) buffer

-- a text kept in a room of n bytes: the unused room is zero
unfoldable pub room_of : ℕ → List ℕ → List ℕ
room_of n t = t ++ replicate (n - length t) 0
