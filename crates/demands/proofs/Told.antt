-- What an answer says in numbers tells which answer it is: so a contract that says it so has one answer at most. Assumes nothing.
use Rattle.std.specs.Prelude.{ℕ, List, Option, Some, None, Result, Ok, Err}
use Rattle.plan.specs.Plans.{SoughtSaid, said_by}
use Rattle.plan.specs.declared.Sought.{Sought}
use Rattle.reader.specs.Readings.{ReadingSaid}
use Rattle.reader.specs.Refusals.{Answer}
use Rattle.reader.specs.Said.{answer_by, reading_by}
use Rattle.reader.specs.declared.Reading.{Reading}
use Rattle.record.specs.declared.Record.{Record}
use Rattle.refusal.proofs.Some.{not_none}
use Rattle.refusal.proofs.Told.{same_refusal, same_result}
use Rattle.refusal.specs.Numbers.{number_of, detail_of}
use Rattle.refusal.specs.Results.{number_in, detail_in}
use Rattle.refusal.specs.declared.Refusal.{Refusal}
use Rattle.text.specs.Shapes.{Determines}
use Rattle.times.specs.Times.{TimeSaid, TimeRefusal, time_by, refusal_by}
use Rattle.times.specs.Times.TimeSaid.{File, Sheet, Refused as Untold}
use Rattle.times.specs.declared.Time.TheVariants.{InFile, InSheet}
use Rattle.times.specs.declared.Time.{Time}
use Rattle.times_sheet.specs.declared.Part.{Part}
use Rattle.writer.specs.Writer.Written.{Length, Refused}
use Rattle.writer.specs.Writer.{Written, written_by}
use mathlib.Core.Path.{◌≡◌, refl, sym, ap, ◌∙◌}
use native.Mathlib.Omega.{arith}

-- ---- by what is told

module _ {A B : Type 0} (tell : A → B) (one : (x y : A) → tell x ≡ tell y → x ≡ y) {E : Type 0} where
  pub told_equation : (d : B) → Determines (λ (x : A). (e : E) × (tell x ≡ d))
  told_equation d x y p q = one x y (p.1 ∙ sym q.1)

  -- and the buffer too
  pub told_equations : (buffer : E → List ℕ) (d : B) (o : List ℕ)
      → Determines (λ (x : A × List ℕ). (e : E) × (x.1 ≡ buffer e) × ((tell x.0 ≡ d) × (buffer e ≡ o)))
  told_equations buffer d o x y p q = λ i. (one x.0 y.0 (p.2.0 ∙ sym q.2.0) i, (p.1 ∙ p.2.1 ∙ sym q.2.1 ∙ sym q.1) i)

-- ---- the answers

-- by the number and the detail that they tell, and what they tell of an accepted one
told_one : {A B : Type 0} (tell : Result A Refusal → B) (number detail : B → ℕ) → ((x : Result A Refusal) → number_in x ≡ number (tell x))
    → ((x : Result A Refusal) → detail_in x ≡ detail (tell x)) → ((u v : A) → tell (Ok u) ≡ tell (Ok v) → u ≡ v)
    → (x y : Result A Refusal) → tell x ≡ tell y → x ≡ y
told_one tell number detail n d k x y e =
    same_result x y (n x ∙ ap number e ∙ sym (n y)) (d x ∙ ap detail e ∙ sym (d y)) (λ u v p q. k u v (ap tell (sym p) ∙ e ∙ ap tell q))

pub sought_one : (x y : Result Sought Refusal) → said_by x ≡ said_by y → x ≡ y
sought_one =
    told_one said_by (λ (s : SoughtSaid). s.number) (λ (s : SoughtSaid). s.detail) number detail
    (λ u v e i. record { message = (e i).message; size = (e i).size; unit = (e i).unit })
  where
    number : (x : Result Sought Refusal) → number_in x ≡ (said_by x).number
    number (Ok s) = refl
    number (Err f) = refl

    detail : (x : Result Sought Refusal) → detail_in x ≡ (said_by x).detail
    detail (Ok s) = refl
    detail (Err f) = refl

pub answer_one : (x y : Result Record Refusal) → answer_by x ≡ answer_by y → x ≡ y
answer_one = told_one answer_by (λ (a : Answer). a.number) (λ (a : Answer). a.detail) number detail (λ u v e. ap (λ (a : Answer). a.content) e)
  where
    number : (x : Result Record Refusal) → number_in x ≡ (answer_by x).number
    number (Ok r) = refl
    number (Err f) = refl

    detail : (x : Result Record Refusal) → detail_in x ≡ (answer_by x).detail
    detail (Ok r) = refl
    detail (Err f) = refl

pub reading_one : (x y : Result Reading Refusal) → reading_by x ≡ reading_by y → x ≡ y
reading_one =
    told_one reading_by (λ (r : ReadingSaid). r.number) (λ (r : ReadingSaid). r.detail) number detail
    (λ u v e i. record { layout = (e i).layout; row = (e i).row; cells = (e i).cells; gradients = (e i).gradients; places = (e i).places })
  where
    number : (x : Result Reading Refusal) → number_in x ≡ (reading_by x).number
    number (Ok r) = refl
    number (Err f) = refl

    detail : (x : Result Reading Refusal) → detail_in x ≡ (reading_by x).detail
    detail (Ok r) = refl
    detail (Err f) = refl

pub written_one : (x y : Result ℕ Refusal) → written_by x ≡ written_by y → x ≡ y
written_one (Ok n) (Ok m) e = let k : n ≡ m = cc in ap Ok k
written_one (Ok n) (Err f) e = let z : ◌≡◌ {A = ℕ} 0 1 = cc in absurd (omega arith)
written_one (Err f) (Ok n) e = let z : ◌≡◌ {A = ℕ} 0 1 = cc in absurd (omega arith)
written_one (Err f) (Err g) e =
    let n : number_of f ≡ number_of g = cc in
    let d : detail_of f ≡ detail_of g = cc in
    ap Err (same_refusal f g n d)

part_one : (p q : Part) → p.from ≡ q.from → p.to ≡ q.to → p ≡ q
part_one p q f t = λ i. record { from = f i; to = t i }

pub time_one : (x y : Result Time Refusal) → time_by x ≡ time_by y → x ≡ y
time_one (Ok (InFile p)) (Ok (InFile q)) e =
    let f : p.from ≡ q.from = cc in
    let t : p.to ≡ q.to = cc in
    ap (λ (r : Part). Ok (InFile r)) (part_one p q f t)
time_one (Ok (InFile p)) (Ok (InSheet q)) e = let z : ◌≡◌ {A = ℕ} 0 1 = cc in absurd (omega arith)
time_one (Ok (InFile p)) (Err f) e = let z : ◌≡◌ {A = ℕ} 0 1 = cc in absurd (omega arith)
time_one (Ok (InSheet p)) (Ok (InFile q)) e = let z : ◌≡◌ {A = ℕ} 0 1 = cc in absurd (omega arith)
time_one (Ok (InSheet p)) (Ok (InSheet q)) e =
    let f : p.from ≡ q.from = cc in
    let t : p.to ≡ q.to = cc in
    ap (λ (r : Part). Ok (InSheet r)) (part_one p q f t)
time_one (Ok (InSheet p)) (Err f) e = let z : ◌≡◌ {A = ℕ} 0 1 = cc in absurd (omega arith)
time_one (Err f) (Ok (InFile q)) e = let z : ◌≡◌ {A = ℕ} 0 1 = cc in absurd (omega arith)
time_one (Err f) (Ok (InSheet q)) e = let z : ◌≡◌ {A = ℕ} 0 1 = cc in absurd (omega arith)
time_one (Err f) (Err g) e =
    let n : number_of f ≡ number_of g = cc in
    let d : detail_of f ≡ detail_of g = cc in
    ap Err (same_refusal f g n d)

pub refusal_one : (x y : Option Refusal) → refusal_by x ≡ refusal_by y → x ≡ y
refusal_one None None e = refl
refusal_one None (Some g) e = absurd (not_none g (sym (ap (λ (r : TimeRefusal). r.number) e)))
refusal_one (Some f) None e = absurd (not_none f (ap (λ (r : TimeRefusal). r.number) e))
refusal_one (Some f) (Some g) e =
    ap Some (same_refusal f g (ap (λ (r : TimeRefusal). r.number) e) (ap (λ (r : TimeRefusal). r.detail) e))
