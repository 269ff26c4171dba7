-- Each end of the entry that takes a unit: what the collector answered, as the entry says it, with the state and the room after it. Assumes nothing.
use Prim.Native.Nat.{ℕ, ◌≤◌}
use Rattle.gateway.specs.Collecting.{collect_code}
use Rattle.transfer.proofs.Comes.{whole_bounded}
use Rattle.transfer.specs.Collect.{taken_of, room_after, Taken}
use Rattle.transfer.specs.States.{collector_in, state_of}
use Rattle.transfer.specs.declared.Collector.{Collector}
use Rattle.refusal.specs.Results.{detail_in}
use Rattle.refusal.specs.declared.Refusal.{Refusal}
use Rattle.std.specs.Prelude.{Option, Some, Result, Ok}
use Rattle.transfer.specs.Said.{heard_by, taken_by}
use Rattle.transfer.specs.declared.Taken.{Taken as Answer}
use Rattle.transfer.specs.declared.Whole.{Whole}
use mathlib.Core.List.{List}
use mathlib.Core.Path.{◌≡◌, sym, ap, ◌∙◌}

-- an answer that is no refusal, by what it is of
pub within : (p : Option Whole) {h : Result (Option Whole) Refusal} {o : Option Whole} → h ≡ Ok o → o ≡ p → h ≡ Ok p
within p e f = e ∙ ap Ok f

module _ (state unit file : List ℕ) (c : Collector) (is : c ≡ collector_in state) (t : Answer) (room : List ℕ)
    (took : (taken_by t ≡ taken_of c unit file) × (room ≡ room_after c unit file) × (detail_in t.heard ≡ 0)) where
  took_it : taken_by t ≡ taken_of (collector_in state) unit file
  took_it = took.0 ∙ ap (λ (x : Collector). taken_of x unit file) is

  pub collected : (next : List ℕ) → next ≡ state_of t.collector → (h : Result (Option Whole) Refusal) → t.heard ≡ h → (z : ℕ) → z ≡ collect_code (heard_by h)
      → (z ≡ collect_code (taken_of (collector_in state) unit file).heard)
      × (next ≡ state_of (taken_of (collector_in state) unit file).collector)
      × (room ≡ room_after (collector_in state) unit file)
  collected next n h e z k = (
    k ∙ ap (λ (x : Result (Option Whole) Refusal). collect_code (heard_by x)) (sym e)
        ∙ ap (λ (x : Taken). collect_code x.heard) took_it,
    n ∙ ap (λ (x : Taken). state_of x.collector) took_it,
    took.1 ∙ ap (λ (x : Collector). room_after x unit file) is,
  )

  -- the length of a whole file fits
  pub few : (w : Whole) → t.heard ≡ Ok (Some w) → w.size ≤ 8192
  few w e = (whole_bounded c unit file w.ca w.ioa w.size (ap (λ (x : Taken). x.heard) (sym took.0) ∙ ap heard_by e)).1
