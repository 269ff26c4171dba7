-- Files whose lines are separators alike and say the same parameters are answered alike, where a label stands twice too: so with other blanks about `=`.
-- Assumes nothing.
use Rattle.std.specs.Prelude.{None, Some}
use Prim.Native.Nat.{ℕ, suc, ◌+◌}
use Rattle.demands.specs.Spaced.{Pairwise, none, next, SpacedLine, same_line, same_param}
use Rattle.layout.specs.Layouts.{labels_of}
use Rattle.reader.specs.Messages.{given, row_in, layout_in, entries_in, column_record}
use Rattle.reader.specs.Reader.{Clean, labelled, record_in, message_of}
use Rattle.reader.specs.Refusals.{answer}
use Rattle.text.specs.Refusals.{refusal}
use Rattle.reader.specs.Refusals.{Answer}
use Rattle.reader_accent.specs.Accents.{accents_of}
use Rattle.reader_theorems.proofs.Alike.{clean_reading}
use Rattle.text.proofs.Tests.{by_test}
use Rattle.text.specs.Bytes.{any, is}
use Rattle.text.specs.Lists.{count, onto, sift}
use Rattle.text_lines.proofs.Params.{sep_equals}
use Rattle.text_lines.specs.Entries.{entries, column}
use Rattle.text_lines.specs.Lines.{Param, texts, is_sep, seps, mark, marked, if_inside, if_outside, inside, outside, framed, param_of, params, param_in, respelt}
use Rattle.text_lines.specs.Spellings.{Spelling}
use Rattle.value_name.specs.declared.MessageType.{MessageType}
use lib.Dec.{eqb}
use lib.ListN.{length}
use mathlib.Core.Bool.{Bool, true, ◌&&◌, not, cond}
use mathlib.Core.List.{List, ◌∷◌}
use mathlib.Core.Path.{◌≡◌, refl, sym, ap, ap₂, ◌∙◌}

-- ---- one line: it is a separator or not, and it says the same parameter

has_equals : (t : List ℕ) (p : Param) → param_of t ≡ Some p → any (is 61) t ≡ true
unfolding param_of
has_equals t p e = by_test (any (is 61) t) (λ h. h) (λ h. let no : None ≡ Some p = rw h at e in cc)

sep_alike : {s t : List ℕ} → SpacedLine s t → is_sep s ≡ is_sep t
sep_alike (same_line s) = refl
sep_alike (same_param {s} {t} p e f) = sep_equals s (has_equals s p e) ∙ sym (sep_equals t (has_equals t p f))

param_alike : {s t : List ℕ} → SpacedLine s t → param_of s ≡ param_of t
param_alike (same_line s) = refl
param_alike (same_param p e f) = e ∙ sym f

-- ---- lines that are separators alike, and say the same parameter by its plain label

abbrev pub Alike : List Spelling → List ℕ → List ℕ → Type 0
Alike sp s t = (is_sep s ≡ is_sep t) × (param_in sp s ≡ param_in sp t)

spaced_alike : (sp : List Spelling) {ts us : List (List ℕ)} → Pairwise SpacedLine ts us → Pairwise (Alike sp) ts us
unfolding param_in
spaced_alike sp none = none
spaced_alike sp (next r p) = next (sep_alike r, ap (respelt sp) (param_alike r)) (spaced_alike sp p)

module _ (sp : List Spelling) where
  seps_alike : {ts us : List (List ℕ)} → Pairwise (Alike sp) ts us → seps ts ≡ seps us
  unfolding seps count
  seps_alike none = refl
  seps_alike (next r p) = ap₂ (λ (b : Bool) (n : ℕ). cond b 1 0 + n) r.0 (seps_alike p)

  -- below n separators: the parameters outside, and how many lines stand inside
  abbrev params_below : ℕ → List (List ℕ) → List Param
  params_below n ts = sift (param_in sp) (sift if_outside (marked n ts))

  abbrev inside_below : ℕ → List (List ℕ) → ℕ
  inside_below n ts = length (sift if_inside (marked n ts))

  lines_alike : (n : ℕ) {ts us : List (List ℕ)} → Pairwise (Alike sp) ts us → (params_below n ts ≡ params_below n us) × (inside_below n ts ≡ inside_below n us)
  unfolding marked mark sift if_inside if_outside
  lines_alike n none = (refl, refl)
  lines_alike n (next r p) =
      by_test (is_sep _)
      (λ e. rw (r.0 ∙ e, e) (lines_alike (n + 1) p))
      (λ e.
      let q = lines_alike (n + 0) p in
      rw (r.0 ∙ e, e)
      (by_test (eqb n 1) (λ one. rw one (q.0, ap suc q.1)) (λ one. rw one (ap₂ onto r.1 q.0, q.1))))

-- ---- two files

module _ (t : MessageType) (unit f g : List ℕ) (p : Pairwise (Alike (accents_of t)) (texts f) (texts g)) where
  given_alike : given t f ≡ given t g
  unfolding given params outside
  given_alike = (lines_alike (accents_of t) 0 p).0

  framed_alike : framed (texts f) ≡ framed (texts g)
  unfolding framed inside
  framed_alike = ap₂ (λ (n k : ℕ). eqb n 2 && eqb k 1) (seps_alike (accents_of t) p) (lines_alike (accents_of t) 0 p).1

  pub lines_same : Clean t f → Clean t g → row_in f ≡ row_in g → message_of t unit f ≡ message_of t unit g
  unfolding record_in entries_in
  lines_same cf cg row =
      clean_reading t unit f cf
      ∙ (λ i. by_lines (seps_alike (accents_of t) p i) (framed_alike i) (row i) (given_alike i))
      ∙ sym (clean_reading t unit g cg)
    where
      by_lines : ℕ → Bool → List ℕ → List Param → Answer
      by_lines n is_framed row ps =
          let l = layout_in t ps in
          let es = entries (labels_of l) ps in
          answer (refusal 4 n (not is_framed) ∷ labelled l unit row es) (column_record l (column 1 (labels_of l) es))

pub parted : (f g : List ℕ) → Pairwise SpacedLine (texts f) (texts g) → (t : MessageType) (unit : List ℕ) → Clean t f → Clean t g → row_in f ≡ row_in g
    → message_of t unit f ≡ message_of t unit g
parted f g p t unit = lines_same t unit f g (spaced_alike (accents_of t) p)
