-- What is told of what was read: its refusal, or what is told of its record. Assumes nothing.
use Rattle.std.specs.Prelude.{Result, Ok, Err}
use Rattle.refusal.specs.declared.Refusal.{Refusal}
use Prim.Native.Nat.{ℕ, ◌+◌, ◌-◌, ◌*◌, ◌≤◌, ◌<◌}
use Rattle.report_brief.proofs.Fields.{value_at, brief_is}
use Rattle.report_brief.proofs.Sizes.{six_length}
use Rattle.report_brief.specs.Brief.{told_of, brief_of, six_of, six_lines}
use Rattle.report_brief.specs.declared.Brief.{Brief}
use Rattle.reader_fill.proofs.Stored.{kept_in_room}
use Rattle.reader_fill.specs.Filled.{record_with}
use Rattle.gateway.proofs.Entries.{Fair, wrote_fair, Ends, refused_end, wrote_end}
use Rattle.gateway.specs.Entry.{code, code_by}
use Rattle.layout.specs.FieldNumbers.{unit_no, end_field}
use Rattle.layout.specs.Rows.{text_at}
use Rattle.reader.proofs.Concluding.{concluded_no, concluded_yes}
use Rattle.reader.specs.Reader.{read_of}
use Rattle.reader.specs.Refusals.{refused}
use Rattle.reader.specs.Readings.{reading_of}
use Rattle.reader.specs.State.{column_at}
use Rattle.reader.specs.Refusals.{Answer}
use Rattle.reader.specs.Readings.{ReadingSaid}
use Rattle.reader_theorems.proofs.Readings.{Reads, reads_of}
use Rattle.reader_theorems.proofs.Small.{detail_small, number_small}
use Rattle.record.specs.declared.Record.{Record}
use Rattle.text.specs.Puts.{wrote_of, buffer_of}
use Rattle.text_room.specs.Rooms.{kept_in}
use mathlib.Core.List.{List}
use mathlib.Core.Path.{◌≡◌, sym, ap, ◌∙◌, subst}
use native.Mathlib.Omega.{arith}

module _ (ca ioa : ℕ) (plan file : List ℕ) (x : ReadingSaid) (is : x ≡ reading_of ca ioa plan file) where
  reads : Reads ca ioa plan file x
  reads = reads_of ca ioa plan file x is

  abbrev answer : Answer
  answer = read_of ca ioa plan file

  -- ---- refused

  module _ (no : x.number ≡ 0 → ⊥) where
    refused_as : refused x.number x.detail ≡ answer
    refused_as = concluded_no file x no ∙ reads.answers

    pub small_refusal : (x.detail < 65536) × (x.number ≤ 13)
    small_refusal = (
      omega (arith, detail_small ca ioa plan file, ap (λ (a : Answer). a.detail) refused_as),
      omega (arith, number_small ca ioa plan file, ap (λ (a : Answer). a.number) refused_as),
    )

    pub refused_told : (out : List ℕ) → Ends out answer (code x.number x.detail) out
    refused_told out = subst (λ (a : Answer). Ends out a (code x.number x.detail) out) refused_as (refused_end out x.number x.detail no)

  -- ---- accepted

  abbrev column : List (List ℕ)
  column = column_at x.layout file x.places

  abbrev pub body : Record
  body = record_with x.layout column x.cells x.gradients

  -- from the values in their cells, and the unit as it stands in the file
  pub told_as : (b : Brief) (u room : List ℕ) (k : ℕ) → u ≡ text_at column unit_no → room ≡ kept_in 16 u → k ≡ end_field x.layout
      → b ≡ told_of x.layout (value_at x.cells 0) (value_at x.cells 1) room (value_at x.cells 2) (value_at x.cells (k - 1)) → b ≡ brief_of body
  unfolding record_with
  told_as b u room k f g e t = brief_is body b k e (t ∙ rw (g ∙ ap (kept_in 16) f))

  module _ (b : Brief) (told : b ≡ brief_of body) (out out₂ : List ℕ) (w : Result ℕ Refusal)
      (wrote : (w ≡ wrote_of out 0 (six_of b)) × (out₂ ≡ buffer_of out 0 (six_of b))) where
    -- of the record's own lines
    its_own : (w ≡ wrote_of out 0 (six_lines body)) × (out₂ ≡ buffer_of out 0 (six_lines body))
    its_own = rw told at wrote

    -- the six lines are few
    few : Fair 89 w
    unfolding record_with
    few =
        subst (Fair 89) (sym its_own.0) (wrote_fair out (six_lines body) 89 (six_length body (kept_in_room 16 (text_at column unit_no)).sized))

    pub few_told : code_by w < 4294967296
    unfolding Fair
    few_told = small w few
      where
        small : (z : Result ℕ Refusal) → Fair 89 z → code_by z < 4294967296
        small (Ok n) h = omega arith
        small (Err e) h = omega (arith, h.0, h.1)

    pub written_told : x.number ≡ 0 → Ends out answer (code_by w) out₂
    written_told e =
        subst (λ (a : Answer). Ends out a (code_by w) out₂) (concluded_yes file x e ∙ reads.answers) (wrote_end out body w out₂ its_own)
