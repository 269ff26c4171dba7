-- What a call is told to answer is one answer: two that say the same, with no detail where they refuse, are equal. Assumes nothing.
use Prim.Native.Nat.{ℕ}
use Rattle.refusal.proofs.Told.{same_refusal}
use Rattle.refusal.specs.Numbers.{number_of}
use Rattle.refusal.specs.Results.{detail_in}
use Rattle.refusal.specs.declared.Refusal.{Refusal}
use Rattle.std.specs.Prelude.{Option, Some, None, Result, Ok, Err}
use Rattle.text.specs.Shapes.{Determines}
use Rattle.transfer.specs.Collect.{Taken, Whole, Refused}
use Rattle.transfer.specs.Said.{heard_by, taken_by}
use Rattle.transfer.specs.declared.Taken.{Taken as Answer}
use Rattle.transfer.specs.declared.Whole.{Whole as File}
use mathlib.Core.List.{List}
use mathlib.Core.Path.{◌≡◌, refl, sym, ap, ◌∙◌}
use native.Mathlib.Omega.{arith}

same_file : (f g : File) → Whole f.ca f.ioa f.size ≡ Whole g.ca g.ioa g.size → f ≡ g
same_file f g e =
    let a : f.ca ≡ g.ca = cc in
    let b : f.ioa ≡ g.ioa = cc in
    let n : f.size ≡ g.size = cc in
    λ i. record { ca = a i; ioa = b i; size = n i }

same_heard : (h k : Result (Option File) Refusal) → heard_by h ≡ heard_by k → detail_in h ≡ 0 → detail_in k ≡ 0 → h ≡ k
same_heard (Ok None) (Ok None) e d t = refl
same_heard (Ok None) (Ok (Some g)) e d t = let z : ◌≡◌ {A = ℕ} 0 1 = cc in absurd (omega arith)
same_heard (Ok None) (Err y) e d t = let z : ◌≡◌ {A = ℕ} 0 1 = cc in absurd (omega arith)
same_heard (Ok (Some f)) (Ok None) e d t = let z : ◌≡◌ {A = ℕ} 0 1 = cc in absurd (omega arith)
same_heard (Ok (Some f)) (Ok (Some g)) e d t = ap (λ (x : File). Ok (Some x)) (same_file f g e)
same_heard (Ok (Some f)) (Err y) e d t = let z : ◌≡◌ {A = ℕ} 0 1 = cc in absurd (omega arith)
same_heard (Err x) (Ok None) e d t = let z : ◌≡◌ {A = ℕ} 0 1 = cc in absurd (omega arith)
same_heard (Err x) (Ok (Some g)) e d t = let z : ◌≡◌ {A = ℕ} 0 1 = cc in absurd (omega arith)
same_heard (Err x) (Err y) e d t =
    let n : number_of x ≡ number_of y = numbers (number_of x) (number_of y) e in
    ap Err (same_refusal x y n (d ∙ sym t))
  where
    numbers : (m n : ℕ) → Refused m ≡ Refused n → m ≡ n
    numbers m n e = cc

same_taken : (x y : Answer) → taken_by x ≡ taken_by y → detail_in x.heard ≡ 0 → detail_in y.heard ≡ 0 → x ≡ y
same_taken x y e d t =
    let h = same_heard x.heard y.heard (ap (λ (z : Taken). z.heard) e) d t in
    let c = ap (λ (z : Taken). z.collector) e in
    λ i. record { heard = h i; collector = c i }

-- with the final bytes of the room
pub taken_equations : {E : Type 0} (buffer : E → List ℕ) (d : Taken) (o : List ℕ)
    → Determines (λ (x : Answer × List ℕ). (e : E) × (x.1 ≡ buffer e) × ((taken_by x.0 ≡ d) × (buffer e ≡ o) × (detail_in x.0.heard ≡ 0)))
taken_equations buffer d o x y p q =
    λ i. (same_taken x.0 y.0 (p.2.0 ∙ sym q.2.0) p.2.2 q.2.2 i, (p.1 ∙ p.2.1 ∙ sym q.2.1 ∙ sym q.1) i)
