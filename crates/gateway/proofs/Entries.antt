-- The entry's two ends: refused by the reader, and what the writing of the lines answers, as one number. Assumes nothing.
use Rattle.std.specs.Prelude.{Result, Ok, Err}
use Rattle.refusal.specs.declared.Refusal.{Refusal}
use Prim.Native.Nat.{ℕ, ◌+◌, ◌*◌, ◌≤◌}
use Rattle.report_brief.specs.Brief.{six_lines}
use Rattle.gateway.specs.Entry.{code, code_by, length_or11, entry_code, out_of}
use Rattle.refusal.specs.Numbers.{number_of, detail_of}
use Rattle.reader.specs.Refusals.{refused, accepted}
use Rattle.reader.specs.Refusals.{Answer}
use Rattle.record.specs.declared.Record.{Record}
use Rattle.text.proofs.Tests.{by_test}
use Rattle.text.specs.Puts.{wrote_of, buffer_of}
use borrow.Author.Tests.{ne_eqb}
use lib.Dec.{leb, lit≤}
use lib.ListN.{length}
use mathlib.Core.List.{List}
use mathlib.Core.Path.{◌≡◌, refl, ap, ◌∙◌}
use native.Mathlib.Omega.{arith}

-- how long the text is, whether it fits or not
unfoldable pub Fair : ℕ → Result ℕ Refusal → Type 0
Fair most (Ok n) = n ≤ most
Fair most (Err e) = (number_of e ≤ 13) × (detail_of e ≤ most)

module _ (out t : List ℕ) where
  none_before : 0 + length t ≡ length t
  none_before = omega arith

  wrote_code : code_by (wrote_of out 0 t) ≡ length_or11 t (length out)
  unfolding wrote_of length_or11
  wrote_code = rw none_before (by_test (leb (length t) (length out)) (λ e. rw e) (λ e. rw e))

  pub wrote_fair : (most : ℕ) → length t ≤ most → Fair most (wrote_of out 0 t)
  unfolding Fair wrote_of
  wrote_fair most h =
      rw none_before (by_test (leb (length t) (length out)) (λ e. rw e h) (λ e. rw e (lit≤ tt, h)))

module _ (out : List ℕ) where
  abbrev pub Ends : Answer → ℕ → List ℕ → Type 0
  Ends a r out₂ = (r ≡ entry_code six_lines a (length out)) × (out₂ ≡ out_of six_lines a out)

  pub refused_end : (n d : ℕ) → (n ≡ 0 → ⊥) → Ends (refused n d) (code n d) out
  unfolding entry_code out_of
  refused_end n d h = rw (ne_eqb n 0 h) (refl, refl)

  pub wrote_end : (r : Record) (w : Result ℕ Refusal) (out₂ : List ℕ) → (w ≡ wrote_of out 0 (six_lines r)) × (out₂ ≡ buffer_of out 0 (six_lines r))
      → Ends (accepted r) (code_by w) out₂
  unfolding entry_code out_of
  wrote_end r w out₂ p = (ap code_by p.0 ∙ wrote_code out (six_lines r), p.1)
