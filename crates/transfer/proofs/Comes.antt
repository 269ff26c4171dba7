-- What a unit comes to: it is refused, or nothing of the list holds and it goes by what it says. So whatever is not `More` leaves the collector as fresh, and
-- a whole file has 1 to 8,192 octets, for every collector. Assumes nothing.
use Prim.Native.Nat.{ℕ, ◌≤◌}
use Rattle.text.proofs.Firsts.{Decided, first, not_any, decided, first_given, none_given}
use Rattle.text.proofs.Tests.{and_parts}
use Rattle.text.specs.Refusals.{NoneHolds, next}
use Rattle.transfer.specs.Collect.{is_more, is_between, fresh, elsewhere, in_turn, summed, met, too_long, refusals_of, onward, heard_of, kept, taken}
use Rattle.transfer.specs.Collect.{dropped, taken_of, room_after, Whole, Refused, Taken}
use Rattle.transfer.specs.declared.Collector.{Collector}
use Rattle.transfer_unit.specs.Units.{told_by, is_other}
use Rattle.transfer_unit.specs.declared.Told.{Told}
use Rattle.transfer_unit.specs.declared.Told.TheVariants.{FileReady, SectionReady, Segment, LastSegment, LastSection, Other}
use borrow.Author.Tests.{ltb-true, ltb-false, not-false}
use lib.Dec.{eqb, ltb}
use mathlib.Core.Bool.{true, false, ◌&&◌, ◌||◌, false≢true}
use mathlib.Core.List.{List}
use mathlib.Core.Path.{◌≡◌, refl, sym, ap, ◌∙◌}
use native.Mathlib.Omega.{arith}

-- nothing of the list holds of a unit s that says u
pub record Went (c : Collector) (s file : List ℕ) (u : Told) : Type 0 where
  pub known : (is_other u || elsewhere c s) ≡ false
  pub in_turn_so : in_turn c u ≡ true
  pub is_summed : summed c file u ≡ true
  pub is_met : met c u ≡ true
  pub not_long : too_long c u ≡ false

pub data Comes (c : Collector) (s file : List ℕ) : Type 0 where
  refused : (n : ℕ) → taken_of c s file ≡ dropped n 0 → room_after c s file ≡ file → Comes c s file
  went : (u : Told) → told_by s ≡ u → Went c s file u → taken_of c s file ≡ taken (heard_of c u) (onward c s u) → room_after c s file ≡ kept c s file u
      → Comes c s file

module _ (c : Collector) (s file : List ℕ) where
  abbrev says : Told
  says = told_by s

  abbrev answer : Taken
  answer = taken (heard_of c says) (onward c s says)

  pub comes : Comes c s file
  unfolding taken_of room_after
  comes = by (decided (refusals_of c s file))
    where
      by : Decided (refusals_of c s file) → Comes c s file
      by (first {x = r} f) = refused r.number (first_given dropped answer f) (first_given (λ n d. file) (kept c s file says) f)
      by (not_any (next a (next t (next k (next m (next l n)))))) =
          let o : NoneHolds (refusals_of c s file) = next a (next t (next k (next m (next l n)))) in
          went says refl (record { known = a; in_turn_so = not-false _ t; is_summed = not-false _ k; is_met = not-false _ m; not_long = l })
          (none_given dropped answer o) (none_given (λ n d. file) (kept c s file says) o)

-- ---- whatever is not `More` leaves the collector as fresh

fresh_by : (c : Collector) (s : List ℕ) (u : Told) → is_more (heard_of c u) ≡ false → onward c s u ≡ fresh
fresh_by c s (FileReady n) e = absurd (false≢true (sym e))
fresh_by c s (SectionReady i n) e = absurd (false≢true (sym e))
fresh_by c s (Segment i n) e = absurd (false≢true (sym e))
fresh_by c s (LastSegment i k) e = absurd (false≢true (sym e))
fresh_by c s (LastSection i k) e = refl
fresh_by c s Other e = refl

pub fresh_after : (c : Collector) (s file : List ℕ) → is_more (taken_of c s file).heard ≡ false → (taken_of c s file).collector ≡ fresh
fresh_after c s file e = by (comes c s file)
  where
    by : Comes c s file → (taken_of c s file).collector ≡ fresh
    by (refused n t k) = ap (λ (x : Taken). x.collector) t
    by (went u told w t k) =
        ap (λ (x : Taken). x.collector) t ∙ fresh_by c s u (ap (λ (x : Taken). is_more x.heard) (sym t) ∙ e)

-- ---- a whole file has 1 to 8,192 octets

bounded : (c : Collector) (s file : List ℕ) (u : Told) (ca ioa n : ℕ) → Went c s file u → heard_of c u ≡ Whole ca ioa n → (1 ≤ n) × (n ≤ 8192)
bounded c s file (FileReady m) ca ioa n w e = let z : ◌≡◌ {A = ℕ} 0 1 = cc in absurd (omega arith)
bounded c s file (SectionReady i m) ca ioa n w e = let z : ◌≡◌ {A = ℕ} 0 1 = cc in absurd (omega arith)
bounded c s file (Segment i m) ca ioa n w e = let z : ◌≡◌ {A = ℕ} 0 1 = cc in absurd (omega arith)
bounded c s file (LastSegment i k) ca ioa n w e = let z : ◌≡◌ {A = ℕ} 0 1 = cc in absurd (omega arith)
bounded c s file (LastSection i k) ca ioa n w e =
    let m : c.count ≡ n = cc in
    let p = and_parts (is_between c.turn && eqb i c.ended && ltb 0 c.ended) (ltb 0 c.count) w.in_turn_so in
    (omega (arith, ltb-true 0 c.count p.1, m), omega (arith, ltb-false 8192 c.count w.not_long, m))
bounded c s file Other ca ioa n w e = absurd (false≢true w.in_turn_so)

pub whole_bounded : (c : Collector) (s file : List ℕ) (ca ioa n : ℕ) → (taken_of c s file).heard ≡ Whole ca ioa n → (1 ≤ n) × (n ≤ 8192)
whole_bounded c s file ca ioa n e = by (comes c s file)
  where
    by : Comes c s file → (1 ≤ n) × (n ≤ 8192)
    by (refused k t r) = let z : Refused k ≡ Whole ca ioa n = ap (λ (x : Taken). x.heard) (sym t) ∙ e in absurd (other z)
      where
        other : Refused k ≡ Whole ca ioa n → ⊥
        other e = let z : ◌≡◌ {A = ℕ} 2 1 = cc in omega arith
    by (went u told w t r) = bounded c s file u ca ioa n w (ap (λ (x : Taken). x.heard) (sym t) ∙ e)
