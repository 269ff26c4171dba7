-- From a fresh collector: where units end in a whole file, the last of them are a transfer, and the room begins with exactly its octets. Assumes nothing.
use Prim.Native.Nat.{ℕ, zero, suc, ◌+◌, ◌-◌, ◌≤◌, ◌<◌}
use Rattle.text.proofs.Tests.{and_parts}
use Rattle.text.specs.Bytes.{part}
use Rattle.transfer.proofs.Comes.{Went, Comes, refused, went, comes}
use Rattle.transfer.proofs.Rooms.{filled}
use Rattle.transfer.specs.Collect.{is_fresh, is_between, is_within, fresh, checksum, elsewhere, onward, heard_of, kept, More, Whole, Refused}
use Rattle.transfer.specs.declared.Collector.{Collector}
use Rattle.transfer.specs.declared.Turn.{Turn}
use Rattle.transfer.specs.declared.Turn.TheVariants.{Fresh, Between, Within}
use Rattle.transfer_theorems.specs.Transfers.{Run, start_of, run_of, step_of, after_all, Says, Segments}
use Rattle.transfer_theorems.specs.Transfers.{none_yet, one_more, Sections, no_section, section, Transfer, WholeOf}
use Rattle.transfer_unit.proofs.Layouts.{segment_octets}
use Rattle.transfer_unit.specs.Units.{ca_of, ioa_of, told_by, octets_of}
use Rattle.transfer_unit.specs.declared.Told.{Told}
use Rattle.transfer_unit.specs.declared.Told.TheVariants.{FileReady, SectionReady, Segment, LastSegment, LastSection, Other}
use borrow.Author.Tests.{eqb-true, ltb-true, ltb-false}
use lib.Dec.{eqb, ltb}
use lib.ListN.{length, take, drop, length-append}
use lib.Seq.{sets, length-sets, take-nil, drop-append_seam}
use mathlib.Core.Bool.{Bool, true, false, not, ◌&&◌, false≢true}
use mathlib.Core.List.{List, [], ◌∷◌, ◌++◌, append_assoc, append-nil}
use mathlib.Core.Path.{◌≡◌, refl, sym, ap, ap₂, ◌∙◌, subst}
use native.Mathlib.Numerals.{add-one}
use native.Mathlib.Omega.{arith}

-- ---- what a collector says of the units since the file ready

pub record Paused (c : Collector) (room : List ℕ) (us : List (List ℕ)) : Type 0 where
  pub ready : List ℕ
  pub middle : List (List ℕ)
  pub octets : List ℕ
  pub cut : us ≡ ready ∷ middle
  pub is_ready : Says c.ca c.ioa ready (FileReady c.announced)
  pub sections : Sections c.ca c.ioa c.ended middle octets
  pub counted : c.count ≡ length octets
  pub held : take c.count room ≡ octets
  pub few : c.count ≤ 8192

pub record Opened (c : Collector) (room : List ℕ) (us : List (List ℕ)) : Type 0 where
  pub ready : List ℕ
  pub middle : List (List ℕ)
  pub opening : List ℕ
  pub segments : List (List ℕ)
  pub octets : List ℕ
  pub more : List ℕ
  pub cut : us ≡ ready ∷ (middle ++ (opening ∷ segments))
  pub is_ready : Says c.ca c.ioa ready (FileReady c.announced)
  pub sections : Sections c.ca c.ioa c.ended middle octets
  pub is_opening : Says c.ca c.ioa opening (SectionReady (suc c.ended) c.due)
  pub are_segments : Segments c.ca c.ioa (suc c.ended) segments more
  pub started : c.start ≡ length octets
  pub counted : c.count ≡ length octets + length more
  pub held : take c.count room ≡ octets ++ more
  pub few : c.count ≤ 8192

abbrev Standing : Turn → Collector → List ℕ → List (List ℕ) → Type 0
Standing Fresh c room us = Unit {0}
Standing Between c room us = Paused c room us
Standing Within c room us = Opened c room us

-- of a run, after all of its units
pub record Since (x : Run) (all : List (List ℕ)) : Type 0 where
  pub before : List (List ℕ)
  pub units : List (List ℕ)
  pub cut : all ≡ before ++ units
  pub standing : Standing x.collector.turn x.collector x.room units
  pub long : length x.room ≡ 8192
  pub whole : (ca ioa n : ℕ) → x.heard ≡ Whole ca ioa n → WholeOf ca ioa n all x.room

-- ---- rooms

-- the octets of the section that is open
pub part_more : (room x y : List ℕ) (s n : ℕ) → s ≡ length x → n ≡ length x + length y → take n room ≡ x ++ y → part s n room ≡ y
part_more room x y s n p q e =
    let k : n - s ≡ length y = omega arith in
    let w : n ≡ s + (n - s) = omega arith in
    let t : take n room ≡ take (s + (n - s)) room = ap (λ (m : ℕ). take m room) w in
    sym (drop_take_part s (n - s) room) ∙ ap (drop s) (sym t ∙ e) ∙ ap (λ (m : ℕ). drop m (x ++ y)) p ∙ drop-append_seam x y
  where
    drop_take_part : (s k : ℕ) (l : List ℕ) → drop s (take (s + k) l) ≡ take k (drop s l)
    drop_take_part zero k l = let z : 0 + k ≡ k = omega arith in rw z
    drop_take_part (suc s) k [] = let z : suc s + k ≡ suc (s + k) = omega arith in rw z (sym (take-nil k))
    drop_take_part (suc s) k (a ∷ l) = let z : suc s + k ≡ suc (s + k) = omega arith in rw z (drop_take_part s k l)

-- ---- one unit more

-- in a transfer the unit is of its address
its_address : (c : Collector) (s : List ℕ) → is_fresh c.turn ≡ false → elsewhere c s ≡ false → (ca_of s ≡ c.ca) × (ioa_of s ≡ c.ioa)
its_address c s f e = both (eqb (ca_of s) c.ca) (eqb (ioa_of s) c.ioa) refl refl (rw f at e)
  where
    both : (a b : Bool) → eqb (ca_of s) c.ca ≡ a → eqb (ioa_of s) c.ioa ≡ b → not (a && b) ≡ false → (ca_of s ≡ c.ca) × (ioa_of s ≡ c.ioa)
    both true true p q h = (eqb-true (ca_of s) c.ca p, eqb-true (ioa_of s) c.ioa q)
    both true false p q h = absurd (false≢true (sym h))
    both false b p q h = absurd (false≢true (sym h))

paused : (t : Turn) {c : Collector} {room : List ℕ} {us : List (List ℕ)} → is_between t ≡ true → Standing t c room us → Paused c room us × (is_fresh t ≡ false)
paused Fresh e p = absurd (false≢true e)
paused Between e p = (p, refl)
paused Within e p = absurd (false≢true e)

opened : (t : Turn) {c : Collector} {room : List ℕ} {us : List (List ℕ)} → is_within t ≡ true → Standing t c room us → Opened c room us × (is_fresh t ≡ false)
opened Fresh e p = absurd (false≢true e)
opened Between e p = absurd (false≢true e)
opened Within e p = (p, refl)

no_whole : {A : Type 0} (ca ioa n : ℕ) → More ≡ Whole ca ioa n → A
no_whole ca ioa n e = let z : ◌≡◌ {A = ℕ} 0 1 = cc in absurd (omega arith)

not_whole : {A : Type 0} (k ca ioa n : ℕ) → Refused k ≡ Whole ca ioa n → A
not_whole k ca ioa n e = let z : ◌≡◌ {A = ℕ} 2 1 = cc in absurd (omega arith)

abbrev Here : Collector → List ℕ → Type 0
Here c s = (ca_of s ≡ c.ca) × (ioa_of s ≡ c.ioa)

module _ (c : Collector) (room s : List ℕ) (us : List (List ℕ)) (long : length room ≡ 8192) where
  file_ready : (n : ℕ) → told_by s ≡ FileReady n → Paused (onward c s (FileReady n)) room (s ∷ [])
  file_ready n e =
      record {
        ready = s;
        middle = [];
        octets = [];
        cut = refl;
        is_ready = (e, refl, refl);
        sections = no_section;
        counted = refl;
        held = refl;
        few = omega arith;
      }

  section_ready : (i d : ℕ) → told_by s ≡ SectionReady i d → i ≡ suc c.ended → Here c s → Paused c room us
      → Opened (onward c s (SectionReady i d)) room (us ++ (s ∷ []))
  section_ready i d e q a b =
      record {
        ready = b.ready;
        middle = b.middle;
        opening = s;
        segments = [];
        octets = b.octets;
        more = [];
        cut = ap (λ (l : List (List ℕ)). l ++ (s ∷ [])) b.cut;
        is_ready = b.is_ready;
        sections = b.sections;
        is_opening = (e ∙ ap (λ (k : ℕ). SectionReady k d) q, a.0, a.1);
        are_segments = none_yet;
        started = b.counted;
        counted = omega (arith, b.counted);
        held = b.held ∙ sym (append-nil b.octets);
        few = b.few;
      }

  a_segment : (i n : ℕ) → told_by s ≡ Segment i n → i ≡ suc c.ended → c.count + n ≤ 8192 → Here c s → Opened c room us
      → Opened (onward c s (Segment i n)) (sets room c.count (octets_of s)) (us ++ (s ∷ []))
  a_segment i n e q f a b =
      let x = octets_of s in
      let m : length x ≡ n = segment_octets s i n e in
      record {
        ready = b.ready;
        middle = b.middle;
        opening = b.opening;
        segments = b.segments ++ (s ∷ []);
        octets = b.octets;
        more = b.more ++ x;
        cut = ap (λ (l : List (List ℕ)). l ++ (s ∷ [])) b.cut
            ∙ ap (λ (l : List (List ℕ)). b.ready ∷ l) (append_assoc b.middle (b.opening ∷ b.segments) (s ∷ []));
        is_ready = b.is_ready;
        sections = b.sections;
        is_opening = b.is_opening;
        are_segments = one_more s b.are_segments (e ∙ ap (λ (k : ℕ). Segment k n) q, a.0, a.1);
        started = b.started;
        counted = omega (arith, b.counted, length-append b.more x, m);
        held = ap (λ (k : ℕ). take (c.count + k) (sets room c.count x)) (sym m)
            ∙ filled room x c.count (omega (arith, f, long, m))
            ∙ ap (λ (l : List ℕ). l ++ x) b.held
            ∙ append_assoc b.octets b.more x;
        few = f;
      }

  last_segment : (i k : ℕ) → told_by s ≡ LastSegment i k → i ≡ suc c.ended → c.start < c.count → k ≡ checksum (part c.start c.count room)
      → c.count - c.start ≡ c.due → Here c s → Opened c room us → Paused (onward c s (LastSegment i k)) room (us ++ (s ∷ []))
  last_segment i k e q o sum len a b =
      let y = b.more in
      let p = part_more room b.octets y c.start c.count b.started b.counted b.held in
      let d : c.due ≡ length y = omega (arith, len, b.started, b.counted) in
      let says = e ∙ ap₂ LastSegment q (sum ∙ ap checksum p) in
      let opens = b.is_opening.0 ∙ ap (SectionReady (suc c.ended)) d in
      let some : 1 ≤ length y = omega (arith, o, b.started, b.counted) in
      let w = section b.opening s b.sections (opens, b.is_opening.1, b.is_opening.2) b.are_segments some (says, a.0, a.1) in
      record {
        ready = b.ready;
        middle = b.middle ++ (b.opening ∷ (b.segments ++ (s ∷ [])));
        octets = b.octets ++ y;
        cut = ap (λ (l : List (List ℕ)). l ++ (s ∷ [])) b.cut
            ∙ ap (λ (l : List (List ℕ)). b.ready ∷ l) (append_assoc b.middle (b.opening ∷ b.segments) (s ∷ []));
        is_ready = b.is_ready;
        sections = rw (add-one c.ended) w;
        counted = omega (arith, b.counted, length-append b.octets y);
        held = b.held;
        few = b.few;
      }

  last_section : (i k : ℕ) → told_by s ≡ LastSection i k → i ≡ c.ended → 0 < c.ended → k ≡ checksum (take c.count room)
      → c.count ≡ c.announced → Here c s → Paused c room us → Transfer c.ca c.ioa (us ++ (s ∷ [])) (take c.count room)
  last_section i k e q o sum len a b =
      let n : length (take c.count room) ≡ c.announced = ap length b.held ∙ sym b.counted ∙ len in
      record {
        ready = b.ready;
        middle = b.middle;
        last = s;
        sections = c.ended;
        cut = ap (λ (l : List (List ℕ)). l ++ (s ∷ [])) b.cut;
        is_ready = (b.is_ready.0 ∙ ap FileReady (sym n), b.is_ready.1, b.is_ready.2);
        are_sections = subst (Sections c.ca c.ioa c.ended b.middle) (sym b.held) b.sections;
        some = o;
        is_last = (e ∙ ap₂ LastSection q sum, a.0, a.1);
        not_long = omega (arith, b.few, n, len);
      }

-- ---- any unit

module _ (x : Run) (all : List (List ℕ)) (h : Since x all) (s : List ℕ) where
  abbrev goes : Told → Run
  goes u = record { collector = onward x.collector s u; room = kept x.collector s x.room u; heard = heard_of x.collector u }

  -- the units since the file ready, and one more
  abbrev longer : all ++ (s ∷ []) ≡ h.before ++ (h.units ++ (s ∷ []))
  longer = ap (λ (l : List (List ℕ)). l ++ (s ∷ [])) h.cut ∙ append_assoc h.before h.units (s ∷ [])

  since_went : (u : Told) → told_by s ≡ u → Went x.collector s x.room u → Since (goes u) (all ++ (s ∷ []))
  since_went (FileReady n) e w =
      record {
        before = all;
        units = s ∷ [];
        cut = refl;
        standing = file_ready x.collector x.room s h.units h.long n e;
        long = h.long;
        whole = λ ca ioa n. no_whole ca ioa n;
      }
  since_went (SectionReady i d) e w =
      let c = x.collector in
      let p = and_parts (is_between c.turn) (eqb i (c.ended + 1)) w.in_turn_so in
      let b = paused c.turn p.0 h.standing in
      let q : i ≡ suc c.ended = omega (arith, eqb-true i (c.ended + 1) p.1) in
      record {
        before = h.before;
        units = h.units ++ (s ∷ []);
        cut = longer;
        standing = section_ready c x.room s h.units h.long i d e q (its_address c s b.1 w.known) b.0;
        long = h.long;
        whole = λ ca ioa n. no_whole ca ioa n;
      }
  since_went (Segment i n) e w =
      let c = x.collector in
      let p = and_parts (is_within c.turn) (eqb i (c.ended + 1)) w.in_turn_so in
      let b = opened c.turn p.0 h.standing in
      let q : i ≡ suc c.ended = omega (arith, eqb-true i (c.ended + 1) p.1) in
      let f : c.count + n ≤ 8192 = ltb-false 8192 (c.count + n) w.not_long in
      record {
        before = h.before;
        units = h.units ++ (s ∷ []);
        cut = longer;
        standing = a_segment c x.room s h.units h.long i n e q f (its_address c s b.1 w.known) b.0;
        long = length-sets x.room c.count (octets_of s) ∙ h.long;
        whole = λ ca ioa n. no_whole ca ioa n;
      }
  since_went (LastSegment i k) e w =
      let c = x.collector in
      let r = and_parts (is_within c.turn && eqb i (c.ended + 1)) (ltb c.start c.count) w.in_turn_so in
      let p = and_parts (is_within c.turn) (eqb i (c.ended + 1)) r.0 in
      let b = opened c.turn p.0 h.standing in
      let q : i ≡ suc c.ended = omega (arith, eqb-true i (c.ended + 1) p.1) in
      record {
        before = h.before;
        units = h.units ++ (s ∷ []);
        cut = longer;
        standing = last_segment c x.room s h.units h.long i k e q (ltb-true c.start c.count r.1)
            (eqb-true k (checksum (part c.start c.count x.room)) w.is_summed) (eqb-true (c.count - c.start) c.due w.is_met)
            (its_address c s b.1 w.known) b.0;
        long = h.long;
        whole = λ ca ioa n. no_whole ca ioa n;
      }
  since_went (LastSection i k) e w =
      let c = x.collector in
      let o = and_parts (is_between c.turn && eqb i c.ended && ltb 0 c.ended) (ltb 0 c.count) w.in_turn_so in
      let r = and_parts (is_between c.turn && eqb i c.ended) (ltb 0 c.ended) o.0 in
      let p = and_parts (is_between c.turn) (eqb i c.ended) r.0 in
      let b = paused c.turn p.0 h.standing in
      let f = last_section c x.room s h.units h.long i k e (eqb-true i c.ended p.1) (ltb-true 0 c.ended r.1)
      (eqb-true k (checksum (take c.count x.room)) w.is_summed) (eqb-true c.count c.announced w.is_met)
      (its_address c s b.1 w.known) b.0 in
      record {
        before = all ++ (s ∷ []);
        units = [];
        cut = sym (append-nil (all ++ (s ∷ [])));
        standing = tt;
        long = h.long;
        whole = λ ca ioa n z. whole_by c.ca c.ioa c.count ca ioa n z f (ap length b.0.held ∙ sym b.0.counted);
      }
    where
      whole_by : (a₀ i₀ n₀ ca ioa n : ℕ) → Whole a₀ i₀ n₀ ≡ Whole ca ioa n → Transfer a₀ i₀ (h.units ++ (s ∷ [])) (take n₀ x.room)
          → length (take n₀ x.room) ≡ n₀ → WholeOf ca ioa n (all ++ (s ∷ [])) x.room
      whole_by a₀ i₀ n₀ ca ioa n w f z =
          let a : a₀ ≡ ca = cc in
          let i : i₀ ≡ ioa = cc in
          let m : n₀ ≡ n = cc in
          rw (← a, ← i, ← m)
          (record { before = h.before; units = h.units ++ (s ∷ []); octets = take n₀ x.room; cut = longer; transfer = f; long = sym z; held = refl })
  since_went Other e w = absurd (false≢true w.in_turn_so)

  since_step : Since (step_of x s) (all ++ (s ∷ []))
  since_step = by (comes x.collector s x.room)
    where
      by : Comes x.collector s x.room → Since (step_of x s) (all ++ (s ∷ []))
      by (refused n t k) =
          subst (λ (y : Run). Since y (all ++ (s ∷ []))) (sym (ap₂ run_of t k))
          (record {
            before = all ++ (s ∷ []);
            units = [];
            cut = sym (append-nil (all ++ (s ∷ [])));
            standing = tt;
            long = h.long;
            whole = λ ca ioa m. not_whole n ca ioa m;
          })
      by (went u told w t k) = subst (λ (y : Run). Since y (all ++ (s ∷ []))) (sym (ap₂ run_of t k)) (since_went u told w)

-- ---- any units

since_all : (x : Run) (all us : List (List ℕ)) → Since x all → Since (after_all x us) (all ++ us)
unfolding after_all
since_all x all [] h = subst (Since x) (sym (append-nil all)) h
since_all x all (s ∷ us) h =
    subst (Since (after_all (step_of x s) us)) (append_assoc all (s ∷ []) us) (since_all (step_of x s) (all ++ (s ∷ [])) us (since_step x all h s))

pub whole_is : (room : List ℕ) (us : List (List ℕ)) (ca ioa n : ℕ) → length room ≡ 8192 → (after_all (start_of fresh room) us).heard ≡ Whole ca ioa n
    → WholeOf ca ioa n us (after_all (start_of fresh room) us).room
whole_is room us ca ioa n long e = (since_all (start_of fresh room) [] us begun).whole ca ioa n e
  where
    begun : Since (start_of fresh room) []
    begun = record { before = []; units = []; cut = refl; standing = tt; long = long; whole = λ ca ioa n. no_whole ca ioa n }
