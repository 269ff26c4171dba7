use Prim.Native.Nat.{ℕ, ◌+◌, ◌≤◌}
use Rattle.reader_line.proofs.Heads.{no_head, other_head, head_fits, head_end, head_byte, head_here}
use Rattle.layout_label.proofs.Texts.{label_size, label_front}
use Rattle.layout.specs.Layouts.{label_at}
use Rattle.text.proofs.Cuts.{starts_length}
use Rattle.text.specs.Bytes.{starts}
use borrow.Author.Rules.{rules}
use lib.ListN.{length}
use mathlib.Core.Bool.{true}
use mathlib.Core.List.{List}
use mathlib.Core.Path.{◌≡◌, sym, ap, ◌∙◌}
use native.Mathlib.Omega.{arith}
use Rattle.reader_line.proofs.head.Goals as goal

pub returns-then-n-eq0 : goal.returns-then-n-eq0
returns-then-n-eq0 c = no_head _ _ _ (label_size _ _ c.of_field-m.ensures) c.if-n-eq0.true

pub returns-then-not-starts : goal.returns-then-not-starts
returns-then-not-starts c =
    let tried : c.starts.result ≡ starts (label_at c.args.l c.args.k) c.args.s.now = let e = label_front c.args.l c.args.k c.of_field-m.ensures c.put_label.ensures c.front.ensures in
    c.starts.ensures ∙ ap (λ (t : List ℕ). starts t c.args.s.now) e in
    other_head _ _ (sym tried ∙ c.if-not-starts.true)

pub slice_bounds-lead-count : goal.slice_bounds-lead-count
slice_bounds-lead-count c =
    let sized : c.of_field-m.result.size ≡ length (label_at c.args.l c.args.k) = label_size _ _ c.of_field-m.ensures in
    let tried : c.starts.result ≡ starts (label_at c.args.l c.args.k) c.args.s.now = let e = label_front c.args.l c.args.k c.of_field-m.ensures c.put_label.ensures c.front.ensures in
    c.starts.ensures ∙ ap (λ (t : List ℕ). starts t c.args.s.now) e in
    let begun : starts (label_at c.args.l c.args.k) c.args.s.now ≡ true = sym tried ∙ c.if-not-starts.false in
    let inside : c.of_field-m.result.size ≤ length c.args.s.now = omega (arith, sized, starts_length (label_at c.args.l c.args.k) c.args.s.now begun) in
    inside

pub slice_bounds-lead-start : goal.slice_bounds-lead-start
slice_bounds-lead-start c =
    let sized : c.of_field-m.result.size ≡ length (label_at c.args.l c.args.k) = label_size _ _ c.of_field-m.ensures in
    let tried : c.starts.result ≡ starts (label_at c.args.l c.args.k) c.args.s.now = let e = label_front c.args.l c.args.k c.of_field-m.ensures c.put_label.ensures c.front.ensures in
    c.starts.ensures ∙ ap (λ (t : List ℕ). starts t c.args.s.now) e in
    let begun : starts (label_at c.args.l c.args.k) c.args.s.now ≡ true = sym tried ∙ c.if-not-starts.false in
    let inside : c.of_field-m.result.size ≤ length c.args.s.now = omega (arith, sized, starts_length (label_at c.args.l c.args.k) c.args.s.now begun) in
    inside

pub returns-then-at-s : goal.returns-then-at-s
returns-then-at-s c =
    let sized : c.of_field-m.result.size ≡ length (label_at c.args.l c.args.k) = label_size _ _ c.of_field-m.ensures in
    let tried : c.starts.result ≡ starts (label_at c.args.l c.args.k) c.args.s.now = let e = label_front c.args.l c.args.k c.of_field-m.ensures c.put_label.ensures c.front.ensures in
    c.starts.ensures ∙ ap (λ (t : List ℕ). starts t c.args.s.now) e in
    let begun : starts (label_at c.args.l c.args.k) c.args.s.now ≡ true = sym tried ∙ c.if-not-starts.false in
    head_end _ _ _ _ sized begun c.lead.ensures c.if-at-s.true

pub bounds-s-at : goal.bounds-s-at
bounds-s-at c =
    let sized : c.of_field-m.result.size ≡ length (label_at c.args.l c.args.k) = label_size _ _ c.of_field-m.ensures in
    let tried : c.starts.result ≡ starts (label_at c.args.l c.args.k) c.args.s.now = let e = label_front c.args.l c.args.k c.of_field-m.ensures c.put_label.ensures c.front.ensures in
    c.starts.ensures ∙ ap (λ (t : List ℕ). starts t c.args.s.now) e in
    let begun : starts (label_at c.args.l c.args.k) c.args.s.now ≡ true = sym tried ∙ c.if-not-starts.false in
    let fits : c.of_field-m.result.size + c.lead.result ≤ length c.args.s.now = head_fits (label_at c.args.l c.args.k) _ _ _ sized begun c.lead.ensures in
    omega (arith, fits)

pub returns-then-s-at-ne61 : goal.returns-then-s-at-ne61
returns-then-s-at-ne61 c =
    let sized : c.of_field-m.result.size ≡ length (label_at c.args.l c.args.k) = label_size _ _ c.of_field-m.ensures in
    let tried : c.starts.result ≡ starts (label_at c.args.l c.args.k) c.args.s.now = let e = label_front c.args.l c.args.k c.of_field-m.ensures c.put_label.ensures c.front.ensures in
    c.starts.ensures ∙ ap (λ (t : List ℕ). starts t c.args.s.now) e in
    let begun : starts (label_at c.args.l c.args.k) c.args.s.now ≡ true = sym tried ∙ c.if-not-starts.false in
    head_byte _ _ _ _ sized begun c.lead.ensures c.if-at-s.false c.if-s-at-ne61.true

pub overflow_add-result : goal.overflow_add-result
overflow_add-result c =
    let sized : c.of_field-m.result.size ≡ length (label_at c.args.l c.args.k) = label_size _ _ c.of_field-m.ensures in
    let tried : c.starts.result ≡ starts (label_at c.args.l c.args.k) c.args.s.now = let e = label_front c.args.l c.args.k c.of_field-m.ensures c.put_label.ensures c.front.ensures in
    c.starts.ensures ∙ ap (λ (t : List ℕ). starts t c.args.s.now) e in
    let begun : starts (label_at c.args.l c.args.k) c.args.s.now ≡ true = sym tried ∙ c.if-not-starts.false in
    let fits : c.of_field-m.result.size + c.lead.result ≤ length c.args.s.now = head_fits (label_at c.args.l c.args.k) _ _ _ sized begun c.lead.ensures in
    let h = fits in search rules

pub returns : goal.returns
returns c =
    let sized : c.of_field-m.result.size ≡ length (label_at c.args.l c.args.k) = label_size _ _ c.of_field-m.ensures in
    let tried : c.starts.result ≡ starts (label_at c.args.l c.args.k) c.args.s.now = let e = label_front c.args.l c.args.k c.of_field-m.ensures c.put_label.ensures c.front.ensures in
    c.starts.ensures ∙ ap (λ (t : List ℕ). starts t c.args.s.now) e in
    let begun : starts (label_at c.args.l c.args.k) c.args.s.now ≡ true = sym tried ∙ c.if-not-starts.false in
    head_here _ _ _ _ sized begun c.lead.ensures
    c.if-n-eq0.false c.if-at-s.false c.if-s-at-ne61.false
