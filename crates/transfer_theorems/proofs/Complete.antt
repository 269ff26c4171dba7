-- Every transfer is taken: from a fresh collector each of its units is answered that the file is not whole yet, and the last that it is. Assumes nothing.
use Prim.Native.Nat.{ℕ, suc, ◌+◌, ◌-◌, ◌≤◌}
use Rattle.text.proofs.Firsts.{none_given}
use Rattle.text.specs.Bytes.{part}
use Rattle.text.specs.Refusals.{NoneHolds, none, next}
use Rattle.transfer.proofs.Rooms.{filled}
use Rattle.transfer.specs.Collect.{is_fresh, fresh, checksum, elsewhere, in_turn, summed, met, too_long, refusals_of, onward, heard_of, kept, taken}
use Rattle.transfer.specs.Collect.{dropped, taken_of, room_after, Heard, More, Whole}
use Rattle.transfer.specs.declared.Collector.{Collector}
use Rattle.transfer.specs.declared.Turn.TheVariants.{Between, Within}
use Rattle.transfer_theorems.proofs.Sound.{part_more}
use Rattle.transfer_theorems.specs.Transfers.{Run, start_of, run_of, step_of, after_all, answers, Segments}
use Rattle.transfer_theorems.specs.Transfers.{none_yet, one_more, Sections, no_section, section, Transfer, TakenWhole}
use Rattle.transfer_unit.proofs.Layouts.{segment_octets}
use Rattle.transfer_unit.specs.Units.{ca_of, ioa_of, told_by, is_other, octets_of}
use Rattle.transfer_unit.specs.declared.Told.{Told}
use Rattle.transfer_unit.specs.declared.Told.TheVariants.{FileReady, SectionReady, Segment, LastSegment, LastSection}
use borrow.Author.Tests.{eq-eqb, lt-ltb, le-ltb}
use lib.ListN.{length, take, length-append}
use lib.Seq.{sets, length-sets}
use mathlib.Core.Bool.{Bool, true, false, not, ◌&&◌, ◌||◌}
use mathlib.Core.List.{List, [], ◌∷◌, ◌++◌, map, append_assoc, append-nil}
use mathlib.Core.Path.{◌≡◌, refl, sym, ap, ap₂, ◌∙◌}
use native.Mathlib.Omega.{arith}

-- ---- units that are all taken, and lead from a run to another

abbrev mores : List (List ℕ) → List Heard
mores us = map (λ (s : List ℕ). More) us

pub record Leads (x : Run) (us : List (List ℕ)) (y : Run) : Type 0 where
  pub after : after_all x us ≡ y
  pub said : answers x us ≡ mores us

pub after_append : (x : Run) (us vs : List (List ℕ)) → after_all x (us ++ vs) ≡ after_all (after_all x us) vs
unfolding after_all
after_append x [] vs = refl
after_append x (s ∷ us) vs = after_append (step_of x s) us vs

pub answers_append : (x : Run) (us vs : List (List ℕ)) → answers x (us ++ vs) ≡ answers x us ++ answers (after_all x us) vs
unfolding after_all answers
answers_append x [] vs = refl
answers_append x (s ∷ us) vs = ap (λ (l : List Heard). (step_of x s).heard ∷ l) (answers_append (step_of x s) us vs)

leads_on : {x y z : Run} (us vs : List (List ℕ)) → Leads x us y → Leads y vs z → Leads x (us ++ vs) z
leads_on {x} {y} {z} us vs p q =
    record {
      after = after_append x us vs ∙ ap (λ (r : Run). after_all r vs) p.after ∙ q.after;
      said = answers_append x us vs ∙ ap₂ ◌++◌ p.said (ap (λ (r : Run). answers r vs) p.after ∙ q.said) ∙ sym (map_append us vs);
    }
  where
    map_append : (us vs : List (List ℕ)) → mores (us ++ vs) ≡ mores us ++ mores vs
    map_append [] vs = refl
    map_append (s ∷ us) vs = ap (λ (l : List Heard). More ∷ l) (map_append us vs)

single : {x y : Run} (s : List ℕ) → step_of x s ≡ y → y.heard ≡ More → Leads x (s ∷ []) y
unfolding after_all answers
single s e h = record { after = e; said = ap (λ (r : Run). r.heard ∷ []) e ∙ ap (λ (k : Heard). k ∷ []) h }

-- ---- a unit that nothing of the list refuses

and_false : (b : Bool) → (b && false) ≡ false
and_false true = refl
and_false false = refl

at_home : (c : Collector) (s : List ℕ) → ca_of s ≡ c.ca → ioa_of s ≡ c.ioa → elsewhere c s ≡ false
at_home c s p q = rw (eq-eqb (ca_of s) c.ca p, eq-eqb (ioa_of s) c.ioa q) (and_false (not (is_fresh c.turn)))

module _ (c : Collector) (room s : List ℕ) (u : Told) (told : told_by s ≡ u) (known : is_other u ≡ false) (home : elsewhere c s ≡ false) where
  unrefused : in_turn c u ≡ true → summed c room u ≡ true → met c u ≡ true → too_long c u ≡ false → NoneHolds (refusals_of c s room)
  unrefused t k m l =
      rw told
      (next (ap₂ ◌||◌ known home) (next (ap not t) (next (ap not k) (next (ap not m) (next l none)))))

  steps : (h : Heard) → in_turn c u ≡ true → summed c room u ≡ true → met c u ≡ true → too_long c u ≡ false
      → step_of (record { collector = c; room = room; heard = h }) s ≡ run_of (taken (heard_of c u) (onward c s u)) (kept c s room u)
  unfolding taken_of room_after
  steps h t k m l =
      let n = unrefused t k m l in
      ap₂ run_of (none_given dropped (taken (heard_of c (told_by s)) (onward c s (told_by s))) n ∙ rw told)
      (none_given (λ n d. room) (kept c s room (told_by s)) n ∙ rw told)

-- ---- a transfer's units

-- units that lead to a collector whose octets are these
pub record Filled (x : Run) (us : List (List ℕ)) (c : Collector) (octets : List ℕ) : Type 0 where
  pub room : List ℕ
  pub leads : Leads x us (start_of c room)
  pub held : take c.count room ≡ octets
  pub long : length room ≡ 8192

module _ (ca ioa a : ℕ) where
  abbrev paused : ℕ → ℕ → Collector
  paused e n = record { turn = Between; ca = ca; ioa = ioa; announced = a; ended = e; start = 0; due = 0; count = n }

  abbrev opened : ℕ → ℕ → ℕ → ℕ → Collector
  opened e s d n = record { turn = Within; ca = ca; ioa = ioa; announced = a; ended = e; start = s; due = d; count = n }

  segments_fill : (e b d : ℕ) {us : List (List ℕ)} {y : List ℕ} → Segments ca ioa (suc e) us y → b + length y ≤ 8192 → (room x : List ℕ)
      → length room ≡ 8192 → take b room ≡ x → Filled (start_of (opened e b d b) room) us (opened e b d (b + length y)) (x ++ y)
  unfolding after_all answers
  segments_fill e b d none_yet h room x long held =
      let z : b + 0 ≡ b = omega arith in
      rw z
      (record { room = room; leads = record { after = refl; said = refl }; held = held ∙ sym (append-nil x); long = long })
  segments_fill e b d (one_more {us = us} {x = y} {n = n} s segments says) h room x long held =
      let w = octets_of s in
      let m : length w ≡ n = segment_octets s (suc e) n says.0 in
      let k = length-append y w in
      let f = segments_fill e b d segments (omega (arith, h, k)) room x long held in
      let c = opened e b d (b + length y) in
      let g : b + length y + n ≤ 8192 = omega (arith, h, k, m) in
      let i : suc e ≡ e + 1 = omega arith in
      let t = steps c f.room s (Segment (suc e) n) says.0 refl (at_home c s says.1 says.2) More (eq-eqb (suc e) (e + 1) i) refl refl
      (le-ltb 8192 (b + length y + n) g) in
      let q : b + length y + n ≡ b + length (y ++ w) = omega (arith, k, m) in
      let o = sets f.room (b + length y) w in
      let r : take (b + length y + length w) o ≡ x ++ (y ++ w) =
      filled f.room w (b + length y) (omega (arith, g, m, f.long)) ∙ ap (λ (l : List ℕ). l ++ w) f.held ∙ append_assoc x y w in
      rw (← q)
      (record {
        room = o;
        leads = leads_on us (s ∷ []) f.leads (single s t refl);
        held = ap (λ (j : ℕ). take (b + length y + j) o) (sym m) ∙ r;
        long = length-sets f.room (b + length y) w ∙ f.long;
      })

  sections_fill : {j : ℕ} {us : List (List ℕ)} {x : List ℕ} → Sections ca ioa j us x → length x ≤ 8192 → (room : List ℕ) → length room ≡ 8192
      → Filled (start_of (paused 0 0) room) us (paused j (length x)) x
  unfolding after_all answers
  sections_fill no_section h room long = record { room = room; leads = record { after = refl; said = refl }; held = refl; long = long }
  sections_fill (section {j = j} {us = us} {vs = vs} {x = x} {y = y} ready last sections is_ready segments some is_last) h room long =
      let k = length-append x y in
      let n = length x in
      let m = length y in
      let f = sections_fill sections (omega (arith, h, k)) room long in
      let c = paused j n in
      let i : suc j ≡ j + 1 = omega arith in
      let s = steps c f.room ready (SectionReady (suc j) m) is_ready.0 refl (at_home c ready is_ready.1 is_ready.2) More
      (eq-eqb (suc j) (j + 1) i) refl refl (le-ltb 8192 m (omega (arith, h, k))) in
      let g = segments_fill j n m segments (omega (arith, h, k)) f.room x f.long f.held in
      let d = opened j n m (n + m) in
      let p : checksum y ≡ checksum (part n (n + m) g.room) = ap checksum (sym (part_more g.room x y n (n + m) refl refl g.held)) in
      let o : n + m - n ≡ m = omega arith in
      let turn : in_turn d (LastSegment (suc j) (checksum y)) ≡ true = rw (eq-eqb (suc j) (j + 1) i, lt-ltb n (n + m) (omega (arith, some))) in
      let t = steps d g.room last (LastSegment (suc j) (checksum y)) is_last.0 refl (at_home d last is_last.1 is_last.2) More
      turn (eq-eqb (checksum y) (checksum (part n (n + m) g.room)) p) (eq-eqb (n + m - n) m o) (le-ltb 8192 (n + m) (omega (arith, h, k))) in
      let e : paused (j + 1) (n + m) ≡ paused (suc j) (length (x ++ y)) = ap₂ paused (sym i) (sym k) in
      let q : n + m ≡ length (x ++ y) = sym k in
      record {
        room = g.room;
        leads = leads_on us (ready ∷ (vs ++ (last ∷ []))) f.leads
            (leads_on (ready ∷ []) (vs ++ (last ∷ [])) (single ready s refl)
            (leads_on vs (last ∷ []) g.leads (single last (t ∙ ap (λ (z : Collector). start_of z g.room) e) refl)));
        held = ap (λ (z : ℕ). take z g.room) (sym q) ∙ g.held;
        long = g.long;
      }

-- sections have an octet
sections_some : {ca ioa j : ℕ} {us : List (List ℕ)} {x : List ℕ} → Sections ca ioa j us x → 1 ≤ j → 1 ≤ length x
sections_some no_section h = h
sections_some (section {x = x} {y = y} ready last sections is_ready segments some is_last) h = omega (arith, some, length-append x y)

module _ (room : List ℕ) (us : List (List ℕ)) (ca ioa : ℕ) (octets : List ℕ) (long : length room ≡ 8192) (t : Transfer ca ioa us octets) where
  abbrev n : ℕ
  n = length octets

  abbrev x : Run
  x = start_of fresh room

  abbrev c : Collector
  c = paused ca ioa n t.sections n

  opens : step_of x t.ready ≡ start_of (paused ca ioa n 0 0) room
  opens =
      steps fresh room t.ready (FileReady n) t.is_ready.0 refl refl More refl refl refl (le-ltb 8192 n t.not_long)
      ∙ rw (t.is_ready.1, t.is_ready.2)

  f : Filled (start_of (paused ca ioa n 0 0) room) t.middle c octets
  f = sections_fill ca ioa n t.are_sections t.not_long room long

  begun : Leads x (t.ready ∷ t.middle) (start_of c f.room)
  begun = leads_on (t.ready ∷ []) t.middle (single t.ready opens refl) f.leads

  some_octet : 1 ≤ n
  some_octet = sections_some t.are_sections t.some

  turn : in_turn c (LastSection t.sections (checksum octets)) ≡ true
  turn = rw (eq-eqb t.sections t.sections refl, lt-ltb 0 t.sections t.some, lt-ltb 0 n some_octet)

  sums : checksum octets ≡ checksum (take n f.room)
  sums = ap checksum (sym f.held)

  ends : step_of (start_of c f.room) t.last ≡ run_of (taken (Whole ca ioa n) fresh) f.room
  ends =
      steps c f.room t.last (LastSection t.sections (checksum octets)) t.is_last.0 refl (at_home c t.last t.is_last.1 t.is_last.2) More
      turn (eq-eqb (checksum octets) (checksum (take n f.room)) sums) (eq-eqb n n refl) (le-ltb 8192 n t.not_long)

  pub transfer_taken : TakenWhole room ca ioa us octets t
  unfolding after_all answers
  transfer_taken =
      record {
        said = ap (answers x) t.cut ∙ answers_append x (t.ready ∷ t.middle) (t.last ∷ [])
            ∙ ap₂ ◌++◌ begun.said (ap (λ (r : Run). answers r (t.last ∷ [])) begun.after ∙ ap (λ (r : Run). r.heard ∷ []) ends);
        held = ap (λ (l : List (List ℕ)). take n (after_all x l).room) t.cut
            ∙ ap (λ (r : Run). take n r.room) (after_append x (t.ready ∷ t.middle) (t.last ∷ []))
            ∙ ap (λ (r : Run). take n (after_all r (t.last ∷ [])).room) begun.after
            ∙ ap (λ (r : Run). take n r.room) ends
            ∙ f.held;
      }
