-- What the contracts of the calls say, by the definitions of which the demands speak: at the arguments by name, of the result z, and of e, the parameters at
-- exit in order; κs are lifetimes. (`Learnt` is what the toolchain makes of a contract for its callers: text/specs/Shapes.antt)
use Rattle.std.specs.Prelude.{ℕ, length, Bool, List, ◌≡◌, Option, Result}
use Rattle.book.proofs as book
use Rattle.book.specs.Answers.{outcome_by, outcome_of, deed_outcome_of, fresh_of, asked_by, asked_of, shown_by, shown_of}
use Rattle.book.specs.declared.Answered.{Answered}
use Rattle.book.specs.declared.Book.{Book}
use Rattle.book.specs.declared.Panel.{Panel}
use Rattle.report_brief.specs.Brief.{six_lines}
use Rattle.gateway.proofs as gateway
use Rattle.gateway.specs.Collecting.{collect_code}
use Rattle.gateway.specs.Entry.{entry_code, out_of}
use Rattle.book_ledger.specs.Calls.{command, revoke, close, hold, strike}
use Rattle.book_order.specs.Orders.{strike_for}
use Rattle.book_stretch.specs.declared.Stretch.{Stretch}
use Rattle.book_order.specs.declared.Order.{Order}
use Rattle.reader.proofs as reader
use Rattle.reader.specs.Reader.{read_of}
use Rattle.reader.specs.Refusals.{Answer}
use Rattle.reader.specs.Said.{answer_by}
use Rattle.record.specs.declared.Record.{Record}
use Rattle.record_check.proofs as record_check
use Rattle.record_check.specs.Validity.{is_valid}
use Rattle.saved.proofs as saved
use Rattle.saved.specs.Saved.{read_of as saved_read, saved_by, save_of, saved_in}
use Rattle.text.specs.Puts.{wrote_of, buffer_of}
use Rattle.times.proofs as times
use Rattle.times.specs.Times.{time_of, part_in, time_refusal, time_by, refusal_by}
use Rattle.refusal.specs.Results.{detail_in}
use Rattle.refusal.specs.declared.Refusal.{Refusal}
use Rattle.times.specs.declared.Time.{Time}
use Rattle.times_sheet.specs.declared.Which.TheVariants.{StartUp, Ramp}
use Rattle.times_sheet.specs.declared.Which.{Which}
use Rattle.transfer.proofs as transfer
use Rattle.transfer.specs.Collect.{taken_of, room_after}
use Rattle.transfer.specs.Said.{taken_by}
use Rattle.transfer.specs.States.{collector_in, state_of}
use Rattle.transfer.specs.declared.Collector.{Collector}
use Rattle.transfer.specs.declared.Taken.{Taken}
use Rattle.value.specs.Texts.{rooms, value_text}
use Rattle.value.specs.declared.Value.{Value}
use Rattle.value_list.specs.declared.Triple.{Triple}
use Rattle.value_name.specs.declared.MessageType.{MessageType}
use Rattle.value_put.proofs as value_put
use Rattle.writer.proofs as writer
use Rattle.writer.specs.Writer.{write_of, left_by, normalise_of, normal_left, written_by}
use Rattle.writer_form.specs.Written.{file_of}
use Rattle.std.specs.Borrow.{Bor, MutBor}

-- a slice that the caller lends: `now` has its bytes
abbrev Slice : Type 0
Slice = Bor (List ℕ)

-- and one that it lends to be written: `now` has the bytes at the call
abbrev Room : Type 0
Room = MutBor (List ℕ)

-- the reader's answer to what was lent
abbrev to : ℕ → ℕ → Slice → Slice → Answer
to ca ioa plan file = read_of ca ioa plan.now file.now

pub record Contracts : Type 0 where
  pub halimpung_read : (κs : _) (ca ioa : ℕ) (plan file : Slice) (out : Room) (z : ℕ) (e : _)
      → gateway.halimpung_read.Reads.Learnt κs (ca, (ioa, (plan, (file, (out, tt))))) z e
      → (z ≡ entry_code six_lines (to ca ioa plan file) (length out.now)) × (e.1.1.1.1.0.now ≡ out_of six_lines (to ca ioa plan file) out.now)
  pub halimpung_normalise : (κs : _) (ca ioa : ℕ) (plan file : Slice) (out : Room) (z : ℕ) (e : _)
      → gateway.halimpung_normalise.Reads.Learnt κs (ca, (ioa, (plan, (file, (out, tt))))) z e
      → (z ≡ entry_code file_of (to ca ioa plan file) (length out.now)) × (e.1.1.1.1.0.now ≡ out_of file_of (to ca ioa plan file) out.now)
  pub halimpung_collect : (κs : _) (unit : Slice) (state file : Room) (z : ℕ) (e : _)
      → gateway.halimpung_collect.Reads.Learnt κs (unit, (state, (file, tt))) z e
      → (z ≡ collect_code (taken_of (collector_in state.now) unit.now file.now).heard)
      × (e.1.0.now ≡ state_of (taken_of (collector_in state.now) unit.now file.now).collector)
      × (e.1.1.0.now ≡ room_after (collector_in state.now) unit.now file.now)
  pub take : (κs : _) (c : Collector) (unit : Slice) (file : Room) (z : Taken) (e : _)
      → transfer.Collector.take.Reads.Learnt κs (c, (unit, (file, tt))) z e
      → (taken_by z ≡ taken_of c unit.now file.now) × (e.1.1.0.now ≡ room_after c unit.now file.now) × (detail_in z.heard ≡ 0)
  pub read : (κs : _) (ca ioa : ℕ) (plan file : Slice) (z : Result Record Refusal) (e : _)
      → reader.read.Reads.Learnt κs (ca, (ioa, (plan, (file, tt)))) z e
      → answer_by z ≡ to ca ioa plan file
  pub write : (κs : _) (r : Record) (out : Room) (z : Result ℕ Refusal) (e : _)
      → writer.write.Reads.Learnt κs (r, (out, tt)) z e
      → (written_by z ≡ write_of r (length out.now)) × (e.1.0.now ≡ left_by r out.now)
  pub normalise : (κs : _) (ca ioa : ℕ) (plan file : Slice) (out : Room) (z : Result ℕ Refusal) (e : _)
      → writer.normalise.Reads.Learnt κs (ca, (ioa, (plan, (file, (out, tt))))) z e
      → (written_by z ≡ normalise_of (to ca ioa plan file) (length out.now)) × (e.1.1.1.1.0.now ≡ normal_left (to ca ioa plan file) out.now)
  pub is_valid_so : (κs : _) (r : Record) (z : Bool) (e : _) → record_check.is_valid.Reads.Learnt κs (r, tt) z e → z ≡ is_valid r
  pub fresh : (κs : _) (unit : Slice) (z : Answered Unit) (e : _) → book.fresh.Reads.Learnt κs (unit, tt) z e → outcome_by z ≡ fresh_of unit.now
  pub commands : (κs : _) (b : Book) (r : Record) (z : Answered Unit) (e : _)
      → book.Book.command.Reads.Learnt κs (b, (r, tt)) z e → outcome_by z ≡ outcome_of (command r) b
  pub revokes : (κs : _) (b : Book) (r : Record) (z : Answered Unit) (e : _)
      → book.Book.revoke.Reads.Learnt κs (b, (r, tt)) z e → outcome_by z ≡ outcome_of (revoke r) b
  pub closes : (κs : _) (b : Book) (t : ℕ) (z : Answered Unit) (e : _)
      → book.Book.close.Reads.Learnt κs (b, (t, tt)) z e → outcome_by z ≡ outcome_of (close t) b
  pub in_force : (κs : _) (b : Book) (t : ℕ) (z : Answered (Option ℕ)) (e : _) → book.Book.in_force.Reads.Learnt κs (b, (t, tt)) z e → asked_by z ≡ asked_of t b
  pub panel : (κs : _) (b : Book) (z : Answered Panel) (e : _) → book.Book.panel.Reads.Learnt κs (b, tt) z e → shown_by z ≡ shown_of b
  pub holds : (κs : _) (b : Book) (o : Order) (z : Answered Unit) (e : _)
      → book.Book.hold.Reads.Learnt κs (b, (o, tt)) z e → outcome_by z ≡ deed_outcome_of (hold o) b
  pub strikes : (κs : _) (b : Book) (n : ℕ) (c : Stretch) (z : Answered Unit) (e : _)
      → book.Book.strike.Reads.Learnt κs (b, (n, (c, tt))) z e
      → outcome_by z ≡ deed_outcome_of (strike (strike_for n c)) b
  pub saves : (κs : _) (b : Book) (out : Room) (z : Result ℕ Refusal) (e : _)
      → saved.save.Reads.Learnt κs (b, (out, tt)) z e
      → (saved_by z ≡ save_of b (length out.now)) × (e.1.0.now ≡ saved_in b out.now)
  pub reads_back : (κs : _) (s : Slice) (z : Answered Unit) (e : _) → saved.read.Reads.Learnt κs (s, tt) z e → outcome_by z ≡ saved_read s.now
  pub locate : (κs : _) (w : Which) (ca ioa : ℕ) (plan file sheet : Slice) (z : Result Time Refusal) (e : _)
      → times.locate.Reads.Learnt κs (w, (ca, (ioa, (plan, (file, (sheet, tt)))))) z e
      → time_by z ≡ time_of w ca ioa plan.now file.now sheet.now
  pub start_up : (κs : _) (ca ioa : ℕ) (plan file sheet z : Slice) (e : _)
      → times.start_up.Reads.Learnt κs (ca, (ioa, (plan, (file, (sheet, tt))))) z e
      → z.now ≡ part_in (time_of StartUp ca ioa plan.now file.now sheet.now) file.now sheet.now
  pub ramp : (κs : _) (ca ioa : ℕ) (plan file sheet z : Slice) (e : _)
      → times.ramp.Reads.Learnt κs (ca, (ioa, (plan, (file, (sheet, tt))))) z e
      → z.now ≡ part_in (time_of Ramp ca ioa plan.now file.now sheet.now) file.now sheet.now
  pub refusal_of : (κs : _) (ca ioa : ℕ) (plan file sheet : Slice) (z : Option Refusal) (e : _)
      → times.refusal_of.Reads.Learnt κs (ca, (ioa, (plan, (file, (sheet, tt))))) z e
      → refusal_by z ≡ time_refusal (time_of StartUp ca ioa plan.now file.now sheet.now)
  pub write_value : (κs : _) (out : Room) (at : ℕ) (t : MessageType) (v : Value) (unit reason note : Slice) (gradients : List Triple) (z : Result ℕ Refusal) (e : _)
      → value_put.write_value.Reads.Learnt κs (out, (at, (t, (v, (unit, (reason, (note, (gradients, tt)))))))) z e
      → (z ≡ wrote_of out.now at (value_text t (rooms unit.now reason.now note.now gradients) v))
      × (e.0.now ≡ buffer_of out.now at (value_text t (rooms unit.now reason.now note.now gradients) v))
