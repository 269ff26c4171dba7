-- Lines that begin with such a label. Assumes nothing.
use Prim.Native.Nat.{ℕ, suc, ◌+◌}
use Rattle.text_lines.specs.Spellings.{Spelling, is_accented, respell, opens, label_room}
use Rattle.text.proofs.Cuts.{all_append, any_append, same_true, upto_take}
use Rattle.text.proofs.Tests.{by_test, and_parts, within_tells}
use Rattle.text.specs.Bytes.{all, any, first_of, is, is_blank, is_plain, past, same, skip, skip_end, keep, trim, upto}
use borrow.Author.Tests.{eqb-true, ne_eqb}
use lib.ListN.{length, length-append, take}
use mathlib.Core.Bool.{Bool, true, false, not, ◌&&◌, ◌||◌, false≢true}
use mathlib.Core.List.{List, [], ◌∷◌, ◌++◌, append_assoc}
use mathlib.Core.Path.{◌≡◌, refl, sym, ap, ◌∙◌}
use native.Mathlib.Omega.{arith}

-- ---- a text is its trimmed text between blanks

pub record Between (s : List ℕ) : Type 0 where
  pub lead : List ℕ
  pub trail : List ℕ
  pub lead_blank : all is_blank lead ≡ true
  pub trail_blank : all is_blank trail ≡ true
  pub cut : s ≡ lead ++ (trim s ++ trail)

record Led (s : List ℕ) : Type 0 where
  front : List ℕ
  blank : all is_blank front ≡ true
  cut : s ≡ front ++ skip is_blank s

led : (s : List ℕ) → Led s
unfolding all skip
led [] = record { front = []; blank = refl; cut = refl }
led (x ∷ s) =
    by_test (is_blank x)
    (λ e. let r = led s in
    record { front = x ∷ r.front; blank = rw e r.blank; cut = rw e (ap (λ (l : List ℕ). x ∷ l) r.cut) })
    (λ e. record { front = []; blank = refl; cut = rw e })

record Trailed (s : List ℕ) : Type 0 where
  back : List ℕ
  blank : all is_blank back ≡ true
  cut : s ≡ skip_end is_blank s ++ back

trailed : (s : List ℕ) → Trailed s
unfolding all skip_end
trailed [] = record { back = []; blank = refl; cut = refl }
trailed (x ∷ s) = let r = trailed s in go r (skip_end is_blank s) refl
  where
    go : Trailed s → (t : List ℕ) → skip_end is_blank s ≡ t → Trailed (x ∷ s)
    go r [] e =
        by_test (is_blank x)
        (λ b. record { back = x ∷ r.back; blank = rw b r.blank; cut = rw (e, b) (ap (λ (l : List ℕ). x ∷ l) (r.cut ∙ rw e)) })
        (λ b. record { back = r.back; blank = r.blank; cut = rw (e, b) (ap (λ (l : List ℕ). x ∷ l) (r.cut ∙ rw e)) })
    go r (y ∷ t) e = record { back = r.back; blank = r.blank; cut = rw e (ap (λ (l : List ℕ). x ∷ l) (r.cut ∙ rw e)) }

pub between : (s : List ℕ) → Between s
unfolding trim
between s =
    let a = led s in
    let b = trailed (skip is_blank s) in
    record { lead = a.front; trail = b.back; lead_blank = a.blank; trail_blank = b.blank; cut = a.cut ∙ ap (λ (l : List ℕ). a.front ++ l) b.cut }

-- ---- a label with one accent

-- printable bytes, E0, printable bytes
unfoldable pub one_accent : List ℕ → Bool
one_accent t = all is_plain (upto (is 224) t) && any (is 224) t && all is_plain (past (is 224) t) && not (any (is 61) t)

unfoldable pub all_good : List Spelling → Bool
all_good sp = all (λ (s : Spelling). one_accent s.accented) sp

accented_good : (sp : List Spelling) (t : List ℕ) → all_good sp ≡ true → is_accented sp t ≡ true → one_accent t ≡ true
unfolding all_good is_accented all any
accented_good [] t g e = absurd (false≢true e)
accented_good (s ∷ sp) t g e =
    let o = and_parts (one_accent s.accented) (all (λ (s : Spelling). one_accent s.accented) sp) g in
    by_test (same s.accented t)
    (λ h. ap one_accent (sym (same_true s.accented t h)) ∙ o.0)
    (λ h. accented_good sp t o.1 (rw h at e))

-- a text of printable bytes has none, and is its own respelling
plain_none : (t : List ℕ) → all is_plain t ≡ true → any (is 224) t ≡ false
unfolding all any
plain_none [] h = refl
plain_none (x ∷ t) h =
    let o = and_parts (is_plain x) (all is_plain t) h in
    rw (ne_eqb x 224 (λ q. omega (arith, q, ((within_tells 32 126 x).0 o.0).1)), plain_none t o.1)

pub respell_plain : (sp : List Spelling) (t : List ℕ) → all_good sp ≡ true → all is_plain t ≡ true → respell sp t ≡ t
unfolding respell all_good all one_accent
respell_plain [] t g h = refl
respell_plain (s ∷ sp) t g h =
    let o = and_parts (one_accent s.accented) (all (λ (s : Spelling). one_accent s.accented) sp) g in
    by_test (same s.accented t)
    (λ e.
    let q = same_true s.accented t e in
    let w = and_parts (all is_plain (upto (is 224) s.accented) && any (is 224) s.accented) (all is_plain (past (is 224) s.accented)) (and_parts (all is_plain (upto (is 224) s.accented) && any (is 224) s.accented && all is_plain (past (is 224) s.accented)) (not (any (is 61) s.accented)) o.0).0 in
    absurd (false≢true (sym (plain_none t h) ∙ ap (any (is 224)) (sym q) ∙ (and_parts (all is_plain (upto (is 224) s.accented)) (any (is 224) s.accented) w.0).1)))
    (λ e. rw e (respell_plain sp t o.1 h))

pub plain_unaccented : (sp : List Spelling) (t : List ℕ) → all_good sp ≡ true → all is_plain t ≡ true → is_accented sp t ≡ false
unfolding one_accent
plain_unaccented sp t g h =
    by_test (is_accented sp t)
    (λ a.
    let w = accented_good sp t g a in
    let x = all is_plain (upto (is 224) t) && any (is 224) t in
    let y = all is_plain (past (is 224) t) in
    let one = (and_parts (all is_plain (upto (is 224) t)) (any (is 224) t) (and_parts x y (and_parts (x && y) (not (any (is 61) t)) w).0).0).1 in
    absurd (false≢true (sym (plain_none t h) ∙ one)))
    (λ a. a)

-- a text that is none of them is its own respelling
pub respell_other : (sp : List Spelling) (t : List ℕ) → is_accented sp t ≡ false → respell sp t ≡ t
unfolding respell is_accented any
respell_other [] t e = refl
respell_other (s ∷ sp) t e =
    by_test (same s.accented t) (λ h. absurd (false≢true (sym (rw h at e)))) (λ h. rw h (respell_other sp t (rw h at e)))

-- ---- the line of such a label

pub record Accented (r : List ℕ) : Type 0 where
  pub front : List ℕ
  pub back : List ℕ
  pub rest : List ℕ
  pub cut : r ≡ front ++ 224 ∷ (back ++ 61 ∷ rest)
  pub front_plain : all is_plain front ≡ true
  pub back_plain : all is_plain back ≡ true
  pub room : first_of 61 r ≡ length front + (1 + length back)

blank_plain : (b : List ℕ) → all is_blank b ≡ true → all is_plain b ≡ true
unfolding all
blank_plain [] h = refl
blank_plain (x ∷ b) h =
    let o = and_parts (is_blank x) (all is_blank b) h in
    let q = eqb-true x 32 o.0 in
    rw (ap is_plain q) (blank_plain b o.1)

-- a text divided at its first byte p, where it has one
cut_at : (p : ℕ) (t : List ℕ) → any (is p) t ≡ true → t ≡ upto (is p) t ++ p ∷ past (is p) t
unfolding any upto past
cut_at p [] h = absurd (false≢true h)
cut_at p (x ∷ t) h =
    by_test (is p x) (λ e. rw e (ap (λ (b : ℕ). b ∷ t) (eqb-true x p e)))
    (λ e. rw e (ap (λ (l : List ℕ). x ∷ l) (cut_at p t (rw e at h))))

-- what opens so: blanks, the label, blanks, '='
pub accented_cut : (sp : List Spelling) (r : List ℕ) → all_good sp ≡ true → any (is 61) r ≡ true → is_accented sp (trim (upto (is 61) r)) ≡ true → Accented r
unfolding one_accent
accented_cut sp r g a e =
    let x = upto (is 61) r in
    let t = trim x in
    let b = between x in
    let w = accented_good sp t g e in
    let w1 = and_parts (all is_plain (upto (is 224) t) && any (is 224) t && all is_plain (past (is 224) t)) (not (any (is 61) t)) w in
    let w2 = and_parts (all is_plain (upto (is 224) t) && any (is 224) t) (all is_plain (past (is 224) t)) w1.0 in
    let w3 = and_parts (all is_plain (upto (is 224) t)) (any (is 224) t) w2.0 in
    let front = b.lead ++ upto (is 224) t in
    let back = past (is 224) t ++ b.trail in
    let inner : x ≡ front ++ 224 ∷ back =
    b.cut
    ∙ ap (λ (l : List ℕ). b.lead ++ (l ++ b.trail)) (cut_at 224 t w3.1)
    ∙ ap (λ (l : List ℕ). b.lead ++ l) (append_assoc (upto (is 224) t) (224 ∷ past (is 224) t) b.trail)
    ∙ sym (append_assoc b.lead (upto (is 224) t) (224 ∷ back)) in
    record {
      front = front;
      back = back;
      rest = past (is 61) r;
      cut = cut_at 61 r a ∙ ap (λ (l : List ℕ). l ++ 61 ∷ past (is 61) r) inner ∙ append_assoc front (224 ∷ back) (61 ∷ past (is 61) r);
      front_plain = all_append is_plain b.lead (upto (is 224) t) (blank_plain b.lead b.lead_blank) w3.0;
      back_plain = all_append is_plain (past (is 224) t) b.trail w2.1 (blank_plain b.trail b.trail_blank);
      room = ap length inner ∙ length-append front (224 ∷ back) ∙ omega arith;
    }

-- ---- the line, and what is left of the file

-- LF is no blank: trimming takes none
feed_skip : (t : List ℕ) → any (is 10) (skip is_blank t) ≡ any (is 10) t
unfolding any skip
feed_skip [] = refl
feed_skip (x ∷ t) = by_test (is_blank x) (λ e. rw (e, ne_eqb x 10 (λ q. omega (arith, q, eqb-true x 32 e))) (feed_skip t)) (λ e. rw e)

feed_keep : (x : ℕ) (t : List ℕ) → any (is 10) (keep is_blank x t) ≡ (is 10 x || any (is 10) t)
unfolding any
feed_keep x [] = by_test (is_blank x) (λ e. rw (e, ne_eqb x 10 (λ q. omega (arith, q, eqb-true x 32 e)))) (λ e. rw e)
feed_keep x (y ∷ t) = refl

feed_end : (t : List ℕ) → any (is 10) (skip_end is_blank t) ≡ any (is 10) t
unfolding any skip_end
feed_end [] = refl
feed_end (x ∷ t) = feed_keep x (skip_end is_blank t) ∙ ap (λ (b : Bool). is 10 x || b) (feed_end t)

feed_trim : (t : List ℕ) → any (is 10) (trim t) ≡ any (is 10) t
unfolding trim
feed_trim t = feed_end (skip is_blank t) ∙ feed_skip t

-- where '=' stands before LF the part before it is the same in the line and in what is left; else LF stands in that part
record Same (s : List ℕ) : Type 0 where
  in_line : any (is 61) (upto (is 10) s) ≡ true → (any (is 61) s ≡ true) × (upto (is 61) (upto (is 10) s) ≡ upto (is 61) s)
  past_line : any (is 61) (upto (is 10) s) ≡ false → any (is 61) s ≡ true → any (is 10) (upto (is 61) s) ≡ true

same_part : (s : List ℕ) → Same s
unfolding any upto
same_part [] = record { in_line = λ h. absurd (false≢true h); past_line = λ h k. absurd (false≢true k) }
same_part (x ∷ s) =
    let r = same_part s in
    by_test (is 10 x)
    (λ e.
    let q : is 61 x ≡ false = ne_eqb x 61 (λ z. omega (arith, z, eqb-true x 10 e)) in
    record { in_line = λ h. absurd (false≢true (rw e at h)); past_line = λ h k. rw (q, e) })
    (λ e.
    by_test (is 61 x)
    (λ f. record { in_line = λ h. rw (e, f) (refl, refl); past_line = λ h k. absurd (false≢true (sym (rw (e, f) at h))) })
    (λ f. record { in_line = λ h. let p = r.in_line (rw (e, f) at h) in rw (e, f) (p.0, ap (λ (l : List ℕ). x ∷ l) p.1); past_line = λ h k. rw (f, e) (r.past_line (rw (e, f) at h) (rw f at k)) }))

-- ---- the line's test, asked of what is left of the file

plain_no_feed : (t : List ℕ) → all is_plain t ≡ true → any (is 10) t ≡ false
unfolding all any
plain_no_feed [] h = refl
plain_no_feed (x ∷ t) h =
    let o = and_parts (is_plain x) (all is_plain t) h in
    rw (ne_eqb x 10 (λ q. omega (arith, q, ((within_tells 32 126 x).0 o.0).0)), plain_no_feed t o.1)

accent_no_feed : (t : List ℕ) → one_accent t ≡ true → any (is 10) t ≡ false
unfolding one_accent any
accent_no_feed t w =
    let w1 = and_parts (all is_plain (upto (is 224) t) && any (is 224) t && all is_plain (past (is 224) t)) (not (any (is 61) t)) w in
    let w2 = and_parts (all is_plain (upto (is 224) t) && any (is 224) t) (all is_plain (past (is 224) t)) w1.0 in
    let w3 = and_parts (all is_plain (upto (is 224) t)) (any (is 224) t) w2.0 in
    ap (any (is 10)) (cut_at 224 t w3.1)
    ∙ any_append (is 10) (upto (is 224) t) (224 ∷ past (is 224) t) (plain_no_feed (upto (is 224) t) w3.0) (plain_no_feed (past (is 224) t) w2.1)

pub opens_rest : (sp : List Spelling) (s : List ℕ) → all_good sp ≡ true → opens sp (upto (is 10) s) ≡ any (is 61) s && is_accented sp (trim (upto (is 61) s))
unfolding opens
opens_rest sp s g =
    let p = same_part s in
    by_test (any (is 61) (upto (is 10) s))
    (λ e. let q = p.in_line e in rw (e, q.0, q.1))
    (λ e.
    by_test (any (is 61) s)
    (λ f.
    by_test (is_accented sp (trim (upto (is 61) s)))
    (λ a. absurd (false≢true (sym (accent_no_feed (trim (upto (is 61) s)) (accented_good sp (trim (upto (is 61) s)) g a)) ∙ feed_trim (upto (is 61) s) ∙ p.past_line e f)))
    (λ a. rw (e, f, a)))
    (λ f. rw (e, f)))

none_there : (p : ℕ → Bool) (t : List ℕ) → length (upto p t) ≡ length t → any p t ≡ false
unfolding any upto
none_there p [] h = refl
none_there p (x ∷ t) h =
    by_test (p x) (λ e. let z : ◌≡◌ {A = ℕ} 0 (suc (length t)) = rw e at h in absurd (omega (arith, z)))
    (λ e. let z : suc (length (upto p t)) ≡ suc (length t) = rw e at h in rw e (none_there p t (omega (arith, z))))

one_there : (p : ℕ → Bool) (t : List ℕ) → (length (upto p t) ≡ length t → ⊥) → any p t ≡ true
unfolding any upto
one_there p [] h = absurd (h refl)
one_there p (x ∷ t) h = by_test (p x) (λ e. rw e) (λ e. rw e (one_there p t (λ q. h (rw e (ap suc q)))))

module _ (sp : List Spelling) (s : List ℕ) (g : all_good sp ≡ true) (e : ℕ) (first : e ≡ first_of 61 s) where
  pub opens_not : e ≡ length s → false ≡ opens sp (upto (is 10) s)
  opens_not h = sym (opens_rest sp s g ∙ rw (none_there (is 61) s (sym first ∙ h)))

  pub opens_by : (e ≡ length s → ⊥) → (x : List ℕ) → x ≡ trim (take e s) → is_accented sp x ≡ opens sp (upto (is 10) s)
  opens_by h x q =
      let u : upto (is 61) s ≡ take e s = upto_take (is 61) s ∙ ap (λ (k : ℕ). take k s) (sym first) in
      sym (opens_rest sp s g ∙ rw (one_there (is 61) s (λ z. h (first ∙ z)), u, sym q))

-- how many bytes the part has: the same in the line and in what is left
pub room_is : (sp : List Spelling) (s : List ℕ) → opens sp (upto (is 10) s) ≡ true → label_room sp (upto (is 10) s) ≡ first_of 61 s
unfolding opens label_room
room_is sp s e =
    let o = and_parts (any (is 61) (upto (is 10) s)) (is_accented sp (trim (upto (is 61) (upto (is 10) s)))) e in
    rw (o.0, o.1) (ap length ((same_part s).in_line o.0).1)

pub room_none : (sp : List Spelling) (s : List ℕ) → opens sp (upto (is 10) s) ≡ false → label_room sp (upto (is 10) s) ≡ 0
unfolding label_room
room_none sp s e = rw e
