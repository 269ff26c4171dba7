-- Demand 3's second half: a command that was taken and later revoked may be left out, with its revocation. The two runs' books are at each call b and
-- `without n b`, with n the order's name. Assumes nothing.
use Prim.Native.Nat.{ℕ, ◌≤◌}
use Rattle.layout.specs.Layouts.{is_command, is_revocation}
use Rattle.book_lists.proofs.Keeping.{All, all_keep, all_insert, all_map, all_weaker, keep_hidden, keep_all}
use Rattle.book_lists.proofs.Sorting.{keep_insert, greatest_keep}
use Rattle.book_lists.specs.Keyed.{Ascending}
use Rattle.book_ledger.proofs.Strikes.{same_refl, apart, strike_named, strike_other, live_time, struck_exactly, takes, accepted_step}
use Rattle.book_ledger.proofs.Strikes.{step_keeps, step_unit, run_unit, ascending_step, ascending_from, ascending_run, run_append, answers_append}
use Rattle.book_ledger.proofs.Without.{other, without, other_strike, unnamed, Alike, Unnamed, unnamed_on, sim_run}
use Rattle.book_ledger.specs.Calls.{Call, command, revoke, close, ask, deed_of, names}
use Rattle.book_ledger.specs.Demand.{whole, left_out, found, taken, met, struck, end, its_name, Revoked, LeftOut}
use Rattle.book_ledger.specs.Ledger.{Ledger, fresh, answer, effect, step, in_force, ledgers, run, answers}
use Rattle.book_order.specs.Messages.{order_of, strike_of}
use Rattle.book_order.specs.Orders.{Name, name_of, same_name, named, number, live, past_end, Strike, strike_at}
use Rattle.book_order.specs.declared.Order.{Order}
use Rattle.book_stretch.proofs.Joins.{covers_tells}
use Rattle.book_stretch.specs.Stretches.{covers}
use Rattle.record.specs.declared.Record.{Record}
use Rattle.text.proofs.Tests.{by_test, itself, untold, or_parts}
use Rattle.text.specs.Bytes.{any}
use borrow.Author.Tests.{not-true}
use mathlib.Core.Bool.{true, false, not, true≢false}
use mathlib.Core.List.{List, [], ◌∷◌, ◌++◌, map}
use mathlib.Core.Path.{◌≡◌, refl, sym, ap, ◌∙◌}
use native.Mathlib.Omega.{arith}

-- ---- what is said of the orders of the name n, and stays while no call names it

abbrev pub Said : Name → (Order → Type 0) → Order → Type 0
Said n P o = named n o ≡ true → P o

module _ (n : Name) (P : Order → Type 0) where
  -- where there is none
  none_said : (l : List Order) → any (named n) l ≡ false → All (Said n P) l
  unfolding any
  none_said [] h = tt
  none_said (o ∷ l) h =
      let p = or_parts (named n o) (any (named n) l) h in
      (λ e. absurd (true≢false (sym e ∙ p.0)), none_said l p.1)

  -- a strike of another name leaves them
  said_strike : (s : Strike) → same_name s.name n ≡ false → (o : Order) → Said n P o → Said n P (strike_at s o)
  said_strike s h o d e =
      let g : named n o ≡ true = sym (strike_named n s o) ∙ e in
      let w : named s.name o ≡ false = untold (itself (named s.name o)) (λ f. true≢false (sym g ∙ apart s.name n h o f)) in
      rw (strike_other s o w) (d g)

  said_effect : (k : Call) (b : Ledger) → names b.unit n k ≡ false → answer k b ≡ 0 → All (Said n P) b.orders
      → All (Said n P) (effect (deed_of k) b).orders
  said_effect (command r) b h a d =
      all_insert (Said n P) number (order_of r) b.orders
      (λ e. absurd (true≢false (sym e ∙ unnamed is_command b.unit r _ (named n (order_of r)) a h))) d
  said_effect (revoke r) b h a d =
      all_map (Said n P) (strike_at (strike_of r))
      (said_strike (strike_of r) (unnamed is_revocation b.unit r _ (same_name (strike_of r).name n) a h)) b.orders d
  said_effect (close t) b h a d = all_keep (Said n P) (past_end t) b.orders d
  said_effect (ask t) b h a d = d

  pub said_run : (ks : List Call) (b : Ledger) → Unnamed n ks b → All (Said n P) b.orders → All (Said n P) (run ks b).orders
  said_run [] b h d = d
  said_run (k ∷ ks) b h d =
      let hs = unnamed_on n k ks b h in
      said_run ks (step k b) hs.1 (step_keeps (λ c. All (Said n P) c.orders) k b (said_effect k b hs.0) d)

-- in force at no instant; and with the start and the end of p
abbrev pub Still : Order → Type 0
Still o = (t : ℕ) → live t o ≡ false

abbrev pub Timed : Order → Order → Type 0
Timed p o = (o.start ≡ p.start) × (o.end ≡ p.end)

abbrev pub Dead : Name → Order → Type 0
Dead n o = Said n Still o

abbrev pub Kin : Name → Order → Order → Type 0
Kin n p o = Said n (Timed p) o

pub dead_run : (n : Name) (ks : List Call) (b : Ledger) → Unnamed n ks b → All (Dead n) b.orders → All (Dead n) (run ks b).orders
dead_run n = said_run n Still

pub dead_in_force : (n : Name) (t : ℕ) (b : Ledger) → All (Dead n) b.orders → in_force t (without n b) ≡ in_force t b
dead_in_force n t b d =
    greatest_keep number (live t) (other n) b.orders
    (all_weaker (Dead n) (λ o. live t o ≡ true → other n o ≡ true)
    (λ o i l. ap not (untold (itself (named n o)) (λ e. true≢false (sym l ∙ i e t)))) b.orders d)

-- ---- the two calls that are left out

pub command_removed : (r : Record) (b : Ledger) → Ascending number b.orders → answer (command r) b ≡ 0
    → without (name_of (order_of r)) (step (command r) b) ≡ b
command_removed r b s a =
    let n : Name = name_of (order_of r) in
    rw (
      accepted_step (command r) b a,
      keep_insert number (other n) (order_of r) b.orders s,
      same_refl n,
      keep_all (other n) (named n) (λ o e. ap not e) b.orders (takes r b a).free,
    )

pub revocation_removed : (r : Record) (n : Name) (b : Ledger) → (strike_of r).name ≡ n → answer (revoke r) b ≡ 0
    → without n (step (revoke r) b) ≡ without n b
revocation_removed r n b e a =
    let s : Strike = strike_of r in
    rw (
      accepted_step (revoke r) b a,
      keep_hidden (other n) (strike_at s) (other_strike n s)
          (λ o i. strike_other s o (ap (λ (m : Name). named m o) e ∙ not-true (named n o) i)) b.orders,
    )

-- a taken command's number was free: what is held of it has the command's time
pub command_kin : (r : Record) (b : Ledger) → answer (command r) b ≡ 0 → All (Kin (name_of (order_of r)) (order_of r)) (step (command r) b).orders
command_kin r b a =
    let n : Name = name_of (order_of r) in
    rw (accepted_step (command r) b a)
    (all_insert (Kin n (order_of r)) number (order_of r) b.orders (λ e. (refl, refl))
    (none_said n (Timed (order_of r)) b.orders (takes r b a).free))

-- a revocation of all that time leaves none of them in force
module _ (n : Name) (p : Order) (s : Strike) (same : s.name ≡ n) (over : (s.over.from ≤ p.start) × (p.end ≤ s.over.to)) where
  strike_kin : (o : Order) → Kin n p o → Dead n (strike_at s o)
  strike_kin o k e t =
      let g : named n o ≡ true = sym (strike_named n s o) ∙ e in
      let hit : live t o ≡ true → covers t s.over ≡ true = λ l. (covers_tells t s.over).1 (omega (arith, live_time t o l, k g)) in
      struck_exactly s o t (ap (λ (m : Name). named m o) same ∙ g)
      ∙ by_test (live t o) (λ l. rw (l, hit l)) (λ l. rw l)

  strike_kins : (l : List Order) → All (Kin n p) l → All (Dead n) (map (strike_at s) l)
  strike_kins [] k = tt
  strike_kins (o ∷ l) k = (strike_kin o k.0, strike_kins l k.1)

pub revocation_dead : (r : Record) (n : Name) (p : Order) (b : Ledger) → (strike_of r).name ≡ n → answer (revoke r) b ≡ 0
    → ((strike_of r).over.from ≤ p.start) × (p.end ≤ (strike_of r).over.to) → All (Kin n p) b.orders → All (Dead n) (step (revoke r) b).orders
revocation_dead r n p b e a c k = rw (accepted_step (revoke r) b a) (strike_kins n p (strike_of r) e c b.orders k)

-- ---- THE THEOREM

module _ (unit : List ℕ) (before between after : List Call) (c v : Record) where
  -- the whole run's: those, and 0 to the command and 0 to the revocation
  pub whole_answers : Revoked ledgers (fresh unit) (names unit) before between after c v
      → answers (whole ledgers (fresh unit) (names unit) before between after c v) (fresh unit)
      ≡ answers before (fresh unit)
      ++ (0 ∷ (answers between (taken ledgers (fresh unit) (names unit) before between after c v)
      ++ (0 ∷ answers after (struck ledgers (fresh unit) (names unit) before between after c v))))
  whole_answers q =
      rw (
        answers_append before (command c ∷ (between ++ (revoke v ∷ after))) (fresh unit),
        answers_append between (revoke v ∷ after) (taken ledgers (fresh unit) (names unit) before between after c v),
        q.was_revoked,
        q.was_taken,
      )

  whole_end : run (whole ledgers (fresh unit) (names unit) before between after c v) (fresh unit)
      ≡ end ledgers (fresh unit) (names unit) before between after c v
  whole_end =
      run_append before (command c ∷ (between ++ (revoke v ∷ after))) (fresh unit)
      ∙ run_append between (revoke v ∷ after) (taken ledgers (fresh unit) (names unit) before between after c v)

  pub removal : Revoked ledgers (fresh unit) (names unit) before between after c v → LeftOut ledgers (fresh unit) (names unit) before between after c v
  removal q =
      let n : Name = its_name ledgers (fresh unit) (names unit) before between after c v in
      let b₀ : Ledger = found ledgers (fresh unit) (names unit) before between after c v in
      let b₁ : Ledger = taken ledgers (fresh unit) (names unit) before between after c v in
      let b₂ : Ledger = met ledgers (fresh unit) (names unit) before between after c v in
      let b₃ : Ledger = struck ledgers (fresh unit) (names unit) before between after c v in
      let b₄ : Ledger = end ledgers (fresh unit) (names unit) before between after c v in
      let s₁ : Ascending number b₁.orders = ascending_step (command c) b₀ (ascending_run unit before) in
      let s₃ : Ascending number b₃.orders = ascending_step (revoke v) b₂ (ascending_from between b₁ s₁) in
      let u₁ : b₁.unit ≡ unit = step_unit (command c) b₀ ∙ run_unit before (fresh unit) in
      let u₃ : b₃.unit ≡ unit = step_unit (revoke v) b₂ ∙ run_unit between b₁ ∙ u₁ in
      let h₁ : Unnamed n between b₁ = rw u₁ q.unnamed_between in
      let h₃ : Unnamed n after b₃ = rw u₃ q.unnamed_after in
      let e₁ : without n b₁ ≡ b₀ = command_removed c b₀ (ascending_run unit before) q.was_taken in
      let m : Alike n between b₁ = sim_run n between b₁ s₁ h₁ q.room_between in
      let e₃ : run between b₀ ≡ without n b₃ = ap (run between) (sym e₁) ∙ m.same_end ∙ sym (revocation_removed v n b₂ q.by_name q.was_revoked) in
      let p : Alike n after b₃ = sim_run n after b₃ s₃ h₃ q.room_after in
      let e₄ : run (left_out ledgers (fresh unit) (names unit) before between after c v) (fresh unit) ≡ without n b₄ =
      run_append before (between ++ after) (fresh unit) ∙ run_append between after b₀ ∙ ap (run after) e₃ ∙ p.same_end in
      let k : All (Kin n (order_of c)) b₂.orders = said_run n (Timed (order_of c)) between b₁ h₁ (command_kin c b₀ q.was_taken) in
      let d₃ : All (Dead n) b₃.orders = revocation_dead v n (order_of c) b₂ q.by_name q.was_revoked q.covers_whole k in
      let d : All (Dead n) b₄.orders = dead_run n after b₃ h₃ d₃ in
      record {
        same_answers =
            answers_append before (between ++ after) (fresh unit)
            ∙ ap (λ (l : List ℕ). answers before (fresh unit) ++ l) (answers_append between after b₀
            ∙ (λ i. (ap (answers between) (sym e₁) ∙ m.same_answers) i ++ (ap (answers after) e₃ ∙ p.same_answers) i));
        same_floor = ap (λ (l : Ledger). l.floor) e₄ ∙ sym (ap (λ (l : Ledger). l.floor) whole_end);
        same_in_force = λ t h. ap (in_force t) e₄ ∙ dead_in_force n t b₄ d ∙ sym (ap (in_force t) whole_end);
      }
