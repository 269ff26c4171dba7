-- An item's lines, one after another: each is judged with those above it, and the first bad one is told. Over any table, which says for the values of
-- the lines above which line comes next. Document 01: "In each such text a line is judged with those above it; one missing or lacking its LF is bad where
-- it should stand".
use Rattle.std.specs.Prelude.{ℕ, zero, suc, ◌-◌, length, replicate, Bool, true, false, Result, Ok, Err, List, [], ◌∷◌, ◌++◌, ◌≡◌}
use Rattle.saved_lines.specs.Values.{Next, Done, met_of, next_text, MayBe}
use Rattle.saved_lines.specs.declared.Item.{Item as ItemRead}
use Rattle.saved_lines.specs.declared.Met.{Met}
use Rattle.saved_lines.specs.declared.Met.TheVariants.{Says, Wrong, Over}
use Rattle.text_keyline.specs.Keylines.{below}

-- the values that an item's lines say and the text after it; or how many good lines stand above the first bad one
pub data Lines : Type 0 where
  good : List ℕ → List ℕ → Lines
  bad : ℕ → Lines

abbrev pub if_met : Met → Lines → Lines → (ℕ → Lines) → Lines
if_met Over done wrong then = done
if_met Wrong done wrong then = wrong
if_met (Says v e) done wrong then = then v

module _ (next : List ℕ → Next) where
  -- THE DEFINITION: the lines after those with the values vs, fewer than n of them
  unfoldable pub read_from : ℕ → List ℕ → List ℕ → Lines
  read_from zero vs s = bad (length vs)
  read_from (suc n) vs s = if_met (met_of (next vs) s) (good vs s) (bad (length vs)) (λ v. read_from n (vs ++ (v ∷ [])) (below s))

  -- the text of the values ws after those of vs
  unfoldable pub text_from : List ℕ → List ℕ → List ℕ
  text_from vs [] = []
  text_from vs (v ∷ ws) = next_text (next vs) v ++ text_from (vs ++ (v ∷ [])) ws

  -- values that the lines allow, up to the last
  abbrev pub Said : List ℕ → List ℕ → Type 0
  Said vs [] = next vs ≡ Done
  Said vs (v ∷ ws) = MayBe (next vs) v × Said (vs ++ (v ∷ [])) ws

-- ---- what the function answers

-- values in their room and where the item ends; or how many good lines stand above the first bad one alone
pub record Item : Type 0 where
  pub good : Bool
  pub lines : ℕ
  pub values : List ℕ
  pub end : ℕ

abbrev pub wrong_item : ℕ → Item
wrong_item k = record { good = false; lines = k; values = replicate 18 0; end = 0 }

abbrev pub item_of : Lines → List ℕ → Item
item_of (good vs rest) s = record { good = true; lines = length vs; values = vs ++ replicate (18 - length vs) 0; end = length s - length rest }
item_of (bad k) s = wrong_item k

-- what an answer says
abbrev pub item_by : Result ItemRead ℕ → Item
item_by (Ok x) = record { good = true; lines = x.lines; values = x.values; end = x.end }
item_by (Err k) = wrong_item k
