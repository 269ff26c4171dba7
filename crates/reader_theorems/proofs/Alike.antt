-- Files that say the same are answered alike, however their lines are ordered, spaced and ended, and whatever lines are passed over. The order alone asks that
-- no label of the layout stands twice, since refusal 5 tells the first repeat from the top.
-- Assumes nothing.
use Rattle.std.specs.Prelude.{None, Option}
use Prim.Native.Nat.{ℕ, suc, ◌-◌, ◌≤◌, ◌<◌}
use Rattle.layout.specs.Layouts.{labels_of}
use Rattle.layout.specs.declared.Layout.{Layout}
use Rattle.layout.specs.declared.Layout.TheVariants.{Market, Mfrr}
use Rattle.reader_accent.specs.Accents.{accents_of}
use Rattle.text_lines.proofs.Order.{agree, missing_same, column_same, sift_perm}
use Rattle.text_lines.proofs.Params.{no_param}
use Rattle.text_lines.proofs.Steps.{lines_step}
use Rattle.text_lines.specs.Entries.{Entry, place_of, entry_of, entries, again, column}
use Rattle.text_lines.specs.Order.{Perm, done, keep, swap, both}
use Rattle.text_lines.specs.Lines.{Param, allowed, allowed_from, allowed_upto, lines, text_of, texts, seps, inside, outside, framed, param_of, respelt, param_in}
use Rattle.text_lines.specs.Lines.{params}
use Rattle.text_lines.specs.Spellings.{Spelling, label_room}
use Rattle.value_name.specs.declared.MessageType.{MessageType}
use Rattle.value_name.specs.declared.MessageType.TheVariants.{Cb, Rc, Mg, Eb, Lb, Sr, Vq, Ri, Qr}
use Rattle.reader.specs.Messages.{given, row_in, is_kind_of_command, layout_in, entries_in, column_record}
use Rattle.reader.specs.Reader.{Clean, Sound, labelled, reading, record_in, message_of}
use Rattle.reader.specs.Refusals.{answer}
use Rattle.text.specs.Refusals.{refusal}
use Rattle.reader.specs.Refusals.{Answer}
use Rattle.text.proofs.Cuts.{upto_seam, past_seam, upto_all, any_append, all_none}
use Rattle.text.proofs.Tests.{and_parts, or_parts, within_tells}
use Rattle.text.specs.Bytes.{any, all, is, is_plain, past, trim, upto}
use Rattle.text.specs.Lists.{onto, sift}
use borrow.Author.Tests.{le-leb, le-ltb, ne_eqb}
use lib.Dec.{lit<}
use lib.ListN.{length, get_or}
use mathlib.Core.Bool.{Bool, true, false, not, ◌||◌, cond}
use mathlib.Core.List.{List, [], ◌∷◌, ◌++◌, map, append_assoc, append-nil}
use mathlib.Core.Path.{◌≡◌, refl, sym, ap, ap₂, ◌∙◌, subst}
use native.Mathlib.Nat.{le_refl}
use native.Mathlib.Omega.{arith}

-- ---- files that no refusal of 2 to 4 meets

pub clean_of : {t : MessageType} {file : List ℕ} → Sound t file → Clean t file
clean_of s = record { some_bytes = s.some_bytes; not_long = s.not_long; clean = s.clean }

-- what is left to judge of them
pub clean_reading : (t : MessageType) (unit file : List ℕ) → Clean t file
    → message_of t unit file
    ≡ answer (refusal 4 (seps (texts file)) (not (framed (texts file))) ∷ labelled (layout_in t (given t file)) unit (row_in file) (entries_in t file))
    (record_in t file)
unfolding message_of reading answer
clean_reading t unit file c =
    rw (le-leb 1 (length file) c.some_bytes, le-leb (length file) 8192 c.not_long, c.clean, le-ltb (length file) (length file) (le_refl (length file)))

pub sound_reading : (t : MessageType) (unit file : List ℕ) → Sound t file
    → message_of t unit file ≡ answer (labelled (layout_in t (given t file)) unit (row_in file) (entries_in t file)) (record_in t file)
unfolding answer
sound_reading t unit file s = clean_reading t unit file (clean_of s) ∙ rw s.frame

-- ---- ordered: the judgment depends on the entries by what stands and by the values alone

labelled_same : (l : Layout) (unit row : List ℕ) {es gs : List Entry} → Perm es gs → again [] es ≡ None
    → answer (labelled l unit row es) (column_record l (column 1 (labels_of l) es)) ≡ answer (labelled l unit row gs) (column_record l (column 1 (labels_of l) gs))
unfolding labelled
labelled_same l unit row {es} {gs} p h =
    let a = agree p in
    rw (h, a.none_twice [] h, missing_same 1 (labels_of l) es gs a.there, column_same 1 (labels_of l) es gs (a.values [] h))

-- two sound files of one layout with one row, whose entries are the same in some order, and none twice
pub same_reading : (t : MessageType) (unit f g : List ℕ) → Sound t f → Sound t g
    → row_in f ≡ row_in g
    → layout_in t (given t f) ≡ layout_in t (given t g)
    → Perm (entries_in t f) (entries_in t g)
    → again [] (entries_in t f) ≡ None
    → message_of t unit f ≡ message_of t unit g
unfolding record_in
same_reading t unit f g sf sg r l p h =
    sound_reading t unit f sf
    ∙ labelled_same (layout_in t (given t f)) unit (row_in f) p h
    ∙ ap₂ (λ (m : Layout) (row : List ℕ). answer (labelled m unit row (entries_in t g)) (column_record m (column 1 (labels_of m) (entries_in t g)))) l r
    ∙ sym (sound_reading t unit g sg)

any_perm : {A : Type 0} (p : A → Bool) {xs ys : List A} → Perm xs ys → any p xs ≡ any p ys
unfolding any
any_perm p done = refl
any_perm p (keep x q) = ap (λ (b : Bool). p x || b) (any_perm p q)
any_perm p (swap x y xs) = or_swap (p x) (p y) (any p xs)
  where
    or_swap : (a b c : Bool) → (a || (b || c)) ≡ (b || (a || c))
    or_swap true true c = refl
    or_swap true false c = refl
    or_swap false true c = refl
    or_swap false false c = refl
any_perm p (both q r) = any_perm p q ∙ any_perm p r

layout_perm : (t : MessageType) {ps qs : List Param} → Perm ps qs → layout_in t ps ≡ layout_in t qs
unfolding layout_in
layout_perm Cb p = ap (λ (b : Bool). cond b Mfrr Market) (any_perm is_kind_of_command p)
layout_perm Rc p = refl
layout_perm Mg p = refl
layout_perm Eb p = refl
layout_perm Lb p = refl
layout_perm Sr p = refl
layout_perm Vq p = refl
layout_perm Ri p = refl
layout_perm Qr p = refl

-- two sound files with one row, whose parameter lines say the same in some order, and none of the layout's twice
pub reordered : (t : MessageType) (unit f g : List ℕ) → Sound t f → Sound t g
    → row_in f ≡ row_in g
    → Perm (given t f) (given t g)
    → again [] (entries_in t f) ≡ None
    → message_of t unit f ≡ message_of t unit g
unfolding entries_in entries
reordered t unit f g sf sg r p h =
    let l = layout_perm t p in
    same_reading t unit f g sf sg r l
    (subst (λ (m : Layout). Perm (entries_in t f) (entries (labels_of m) (given t g))) l (sift_perm (entry_of (labels_of (layout_in t (given t f)))) p)) h

-- ---- what is passed over, wherever it stands

sift_past : {A B : Type 0} (f : A → Option B) (xs : List A) (x : A) (ys : List A) → f x ≡ None → sift f (xs ++ x ∷ ys) ≡ sift f (xs ++ ys)
unfolding sift
sift_past f [] x ys e = rw e
sift_past f (y ∷ xs) x ys e = ap (onto (f y)) (sift_past f xs x ys e)

no_entry : (ls : List (List ℕ)) (p : Param) → place_of ls p.label ≡ 0 → entry_of ls p ≡ None
unfolding entry_of
no_entry ls p e = rw e

-- a label foreign to the layout
pub foreign_within : (ls : List (List ℕ)) (xs : List Param) (p : Param) (ps : List Param) → place_of ls p.label ≡ 0
    → entries ls (xs ++ p ∷ ps) ≡ entries ls (xs ++ ps)
unfolding entries
foreign_within ls xs p ps e = sift_past (entry_of ls) xs p ps (no_entry ls p e)

pub foreign_line : (ls : List (List ℕ)) (p : Param) (ps : List Param) → place_of ls p.label ≡ 0 → entries ls (p ∷ ps) ≡ entries ls ps
foreign_line ls p ps e = foreign_within ls [] p ps e

-- a line without '='
pub plain_within : (sp : List Spelling) (xs : List (List ℕ)) (x : List ℕ) (ys : List (List ℕ)) → any (is 61) x ≡ false
    → params sp (xs ++ x ∷ ys) ≡ params sp (xs ++ ys)
unfolding params param_in
plain_within sp xs x ys e = sift_past (param_in sp) xs x ys (ap (respelt sp) (no_param x e))

pub plain_line : (sp : List Spelling) (x : List ℕ) (xs : List (List ℕ)) → any (is 61) x ≡ false → params sp (x ∷ xs) ≡ params sp xs
plain_line sp x xs e = plain_within sp [] x xs e

-- ---- spaced: lines that say the same parameters, one by one (`spaced` of crate text_lines says of which lines this is so)

params_by : (sp : List Spelling) (xs : List (List ℕ)) → params sp xs ≡ sift (respelt sp) (map param_of xs)
unfolding params param_in sift
params_by sp [] = refl
params_by sp (x ∷ xs) = ap (onto (respelt sp (param_of x))) (params_by sp xs)

pub params_alike : (sp : List Spelling) (xs ys : List (List ℕ)) → map param_of xs ≡ map param_of ys → params sp xs ≡ params sp ys
params_alike sp xs ys e = params_by sp xs ∙ ap (sift (respelt sp)) e ∙ sym (params_by sp ys)

-- ---- ended: lines as they are written, each with its ending

pub data Ending : Type 0 where
  Lf : Ending
  CrLf : Ending

pub record Written : Type 0 where
  pub line : List ℕ
  pub ending : Ending

abbrev pub ended : Ending → List ℕ → List ℕ
ended Lf s = 10 ∷ s
ended CrLf s = 13 ∷ 10 ∷ s

unfoldable pub file_of : List Written → List ℕ
file_of [] = []
file_of (w ∷ ws) = w.line ++ ended w.ending (file_of ws)

-- a line of bytes that can be printed
abbrev pub is_clear : Written → Bool
is_clear w = all is_plain w.line

abbrev pub text_in : Written → List ℕ
text_in w = trim w.line

plain_none : (e : ℕ) → e < 32 → (a : List ℕ) → all is_plain a ≡ true → any (is e) a ≡ false
plain_none e h = all_none (is e) is_plain (λ x p. ne_eqb x e (λ q. omega (arith, h, ((within_tells 32 126 x).0 p).0)))

cut_line : (a s : List ℕ) → any (is 10) a ≡ false → texts (a ++ 10 ∷ s) ≡ text_of a ∷ texts s
unfolding texts
cut_line a s n =
    ap (map text_of) (lines_step (a ++ 10 ∷ s) (some a))
    ∙ ap₂ (λ (l r : List ℕ). text_of l ∷ map text_of (lines r)) (upto_seam (is 10) a 10 s n refl) (past_seam (is 10) a 10 s n refl)
  where
    some : (b : List ℕ) → 0 < length (b ++ 10 ∷ s)
    some [] = omega arith
    some (x ∷ b) = omega arith

module _ (a : List ℕ) (h : all is_plain a ≡ true) where
  no_feed : any (is 10) a ≡ false
  no_feed = plain_none 10 (lit< tt) a h

  no_return : any (is 13) a ≡ false
  no_return = plain_none 13 (lit< tt) a h

  text_bare : text_of a ≡ trim a
  unfolding text_of
  text_bare = ap trim (upto_all (is 13) a no_return)

  text_returned : text_of (a ++ 13 ∷ []) ≡ trim a
  unfolding text_of
  text_returned = ap trim (upto_seam (is 13) a 13 [] no_return refl)

  line_text : (e : Ending) (s : List ℕ) → texts (a ++ ended e s) ≡ trim a ∷ texts s
  unfolding any
  line_text Lf s = cut_line a s no_feed ∙ ap (λ (t : List ℕ). t ∷ texts s) text_bare
  line_text CrLf s =
      ap texts (sym (append_assoc a (13 ∷ []) (10 ∷ s)))
      ∙ cut_line (a ++ 13 ∷ []) s (any_append (is 10) a (13 ∷ []) no_feed refl)
      ∙ ap (λ (t : List ℕ). t ∷ texts s) text_returned

ended_append : (e : Ending) (s rest : List ℕ) → ended e s ++ rest ≡ ended e (s ++ rest)
ended_append Lf s rest = refl
ended_append CrLf s rest = refl

-- the texts of written lines, and then of what follows them
pub texts_front : (ws : List Written) (rest : List ℕ) → all is_clear ws ≡ true → texts (file_of ws ++ rest) ≡ map text_in ws ++ texts rest
unfolding file_of all
texts_front [] rest h = refl
texts_front (w ∷ ws) rest h =
    let p = and_parts (is_clear w) (all is_clear ws) h in
    ap texts (append_assoc w.line (ended w.ending (file_of ws)) rest ∙ ap (λ (s : List ℕ). w.line ++ s) (ended_append w.ending (file_of ws) rest))
    ∙ line_text w.line p.0 w.ending (file_of ws ++ rest)
    ∙ ap (λ (ts : List (List ℕ)). text_in w ∷ ts) (texts_front ws rest p.1)

texts_none : texts [] ≡ []
unfolding texts lines
texts_none = refl

pub texts_of : (ws : List Written) → all is_clear ws ≡ true → texts (file_of ws) ≡ map text_in ws
texts_of ws h =
    ap texts (sym (append-nil (file_of ws)))
    ∙ texts_front ws [] h
    ∙ ap (λ (ts : List (List ℕ)). map text_in ws ++ ts) texts_none
    ∙ append-nil (map text_in ws)

-- the last line may lack its ending
past_none : (s : List ℕ) → any (is 10) s ≡ false → past (is 10) s ≡ []
unfolding any past
past_none [] n = refl
past_none (x ∷ s) n = let o = or_parts (is 10 x) (any (is 10) s) n in rw o.0 (past_none s o.1)

pub texts_last : (x : List ℕ) → all is_plain x ≡ true → 0 < length x → texts x ≡ trim x ∷ []
unfolding texts lines
texts_last x h n =
    ap (map text_of) (lines_step x n)
    ∙ ap₂ (λ (l r : List ℕ). text_of l ∷ map text_of (lines r)) (upto_all (is 10) x (no_feed x h)) (past_none x (no_feed x h))
    ∙ ap (λ (t : List ℕ). t ∷ []) (text_bare x h)

-- ---- every byte of such a file is allowed

allowed_plain : (b : ℕ) (s : List ℕ) → is_plain b ≡ true → allowed b s ≡ true
unfolding allowed
allowed_plain b [] p = rw p
allowed_plain b (c ∷ s) p = rw p

-- whatever is left of a label's part before it
abbrev AllFrom : List Spelling → List ℕ → Type 0
AllFrom sp s = (n : ℕ) → allowed_from sp n s ≡ length s

allowed_run : (sp : List Spelling) (a s : List ℕ) → all is_plain a ≡ true → AllFrom sp s → AllFrom sp (a ++ s)
unfolding allowed_from all
allowed_run sp [] s h k n = k n
allowed_run sp (x ∷ a) s h k n =
    let p = and_parts (is_plain x) (all is_plain a) h in
    rw (allowed_plain x (a ++ s) p.0, ne_eqb x 10 (λ q. omega (arith, q, ((within_tells 32 126 x).0 p.0).0))) (ap suc (allowed_run sp a s p.1 k (n - 1)))

allowed_feed : (sp : List Spelling) (s : List ℕ) → AllFrom sp s → AllFrom sp (10 ∷ s)
unfolding allowed_from allowed
allowed_feed sp [] k n = refl
allowed_feed sp (c ∷ s) k n = ap suc (k (label_room sp (upto (is 10) (c ∷ s))))

allowed_end : (sp : List Spelling) (e : Ending) (s : List ℕ) → AllFrom sp s → AllFrom sp (ended e s)
unfolding allowed_from allowed
allowed_end sp Lf s k n = allowed_feed sp s k n
allowed_end sp CrLf s k n = ap suc (allowed_feed sp s k (n - 1))

allowed_all : (sp : List Spelling) (ws : List Written) → all is_clear ws ≡ true → AllFrom sp (file_of ws)
unfolding file_of all allowed_from
allowed_all sp [] h n = refl
allowed_all sp (w ∷ ws) h n =
    let p = and_parts (is_clear w) (all is_clear ws) h in
    allowed_run sp w.line (ended w.ending (file_of ws)) p.0 (allowed_end sp w.ending (file_of ws) (allowed_all sp ws p.1)) n

pub allowed_of : (sp : List Spelling) (ws : List Written) → all is_clear ws ≡ true → allowed_upto sp (file_of ws) ≡ length (file_of ws)
unfolding allowed_upto
allowed_of sp ws h = allowed_all sp ws h (label_room sp (upto (is 10) (file_of ws)))

-- ---- the theorem

-- an answer depends on a clean file by its texts alone
pub texts_decide : (t : MessageType) (unit f g : List ℕ) → texts f ≡ texts g → Clean t f → Clean t g → message_of t unit f ≡ message_of t unit g
unfolding record_in entries_in given row_in
texts_decide t unit f g e cf cg = clean_reading t unit f cf ∙ ap by_texts e ∙ sym (clean_reading t unit g cg)
  where
    by_texts : List (List ℕ) → Answer
    by_texts ts =
        let ps = params (accents_of t) (outside ts) in
        let l = layout_in t ps in
        answer (refusal 4 (seps ts) (not (framed ts)) ∷ labelled l unit (get_or (inside ts) 0 []) (entries (labels_of l) ps))
        (column_record l (column 1 (labels_of l) (entries (labels_of l) ps)))

pub ends_alike : (t : MessageType) (unit f g : List ℕ) → texts f ≡ texts g → Sound t f → Sound t g → message_of t unit f ≡ message_of t unit g
ends_alike t unit f g e sf sg = texts_decide t unit f g e (clean_of sf) (clean_of sg)

-- a written file is clean where its size is allowed
abbrev pub Sized : List Written → Type 0
Sized ws = (1 ≤ length (file_of ws)) × (length (file_of ws) ≤ 8192)

clean_written : (t : MessageType) (ws : List Written) → all is_clear ws ≡ true → Sized ws → Clean t (file_of ws)
clean_written t ws h s = record { some_bytes = s.0; not_long = s.1; clean = allowed_of (accents_of t) ws h }

-- lines that trim alike, whatever the blanks at their ends and whatever the endings
pub written_alike : (t : MessageType) (unit : List ℕ) (ws vs : List Written) → all is_clear ws ≡ true → all is_clear vs ≡ true → Sized ws → Sized vs
    → map text_in ws ≡ map text_in vs
    → message_of t unit (file_of ws) ≡ message_of t unit (file_of vs)
written_alike t unit ws vs hw hv sw sv e =
    texts_decide t unit (file_of ws) (file_of vs) (texts_of ws hw ∙ e ∙ sym (texts_of vs hv)) (clean_written t ws hw sw) (clean_written t vs hv sv)
