-- What the changes of a VM record keep, and what they are for: facts for the reader and for those who build on the record.
use Rattle.std.proofs.Common.{◌≡◌, ℕ, ◌+◌, ◌%◌, ◌^◌, ◌≤◌, Bool, true, false, eqb, leb, sym, refl, ap, ◌∙◌, ne_eqb, eqb-true, le-leb, Option, Some, None}
use Rattle.basis.proofs.Laws.{both_left, both_right, false_true}
use Rattle.basis.specs.Choice.{both, pick}
use Rattle.guest.specs.Bits.{set_bit}
use Rattle.guest.specs.Deliver.{deliver, deliver_by, due, enter, interrupt, quiet, shown}
use Rattle.guest.specs.Record.{blank, fresh, is_blank, is_fresh, pend, with_pending, with_status}
use Rattle.guest.specs.Write.{is_field, stored, write}
use Rattle.guest.specs.declared.Status.{Status}
use Rattle.guest.specs.declared.Vm.{Vm}

-- ---- a fresh record

zero_first : (x : ℕ) (b : Bool) → both (eqb x 0) b ≡ true → (x ≡ 0) × (b ≡ true)
zero_first x b e = (eqb-true x 0 (both_left (eqb x 0) b e), both_right (eqb x 0) b e)

status_zero : (a b c d e f g h i j : ℕ) → a ≡ 0 → b ≡ 0 → c ≡ 0 → d ≡ 0 → e ≡ 0 → f ≡ 0 → g ≡ 0 → h ≡ 0 → i ≡ 0 → j ≡ 0
    → ◌≡◌ {A = Status} (record { since = a; left = b; enabled = c; pending = d; resume = e; reason = f; previous = g; restore = h; ontick = i; running = j }) blank
status_zero a b c d e f g h i j p q r s t u v w x y = rw (p, q, r, s, t, u, v, w, x, y)

vm_zero : (a b c d : ℕ) (s : Status) → a ≡ 0 → b ≡ 0 → s ≡ blank → c ≡ 0 → d ≡ 0
    → ◌≡◌ {A = Vm} (record { standing = a; address = b; status = s; age = c; ran = d }) fresh
vm_zero a b c d s p q r t u = rw (p, q, r, t, u)

pub blank_is : (s : Status) → is_blank s ≡ true → s ≡ blank
unfolding is_blank
blank_is s e0 =
    let e1 = zero_first s.since _ e0 in
    let e2 = zero_first s.left _ e1.1 in
    let e3 = zero_first s.enabled _ e2.1 in
    let e4 = zero_first s.pending _ e3.1 in
    let e5 = zero_first s.resume _ e4.1 in
    let e6 = zero_first s.reason _ e5.1 in
    let e7 = zero_first s.previous _ e6.1 in
    let e8 = zero_first s.restore _ e7.1 in
    let e9 = zero_first s.ontick _ e8.1 in
    status_zero s.since s.left s.enabled s.pending s.resume s.reason s.previous s.restore s.ontick s.running
    e1.0 e2.0 e3.0 e4.0 e5.0 e6.0 e7.0 e8.0 e9.0 (eqb-true s.running 0 e9.1)

-- the test of W2 says that the record is the fresh one
pub fresh_is : (v : Vm) → is_fresh v ≡ true → v ≡ fresh
unfolding is_fresh
fresh_is v e0 =
    let e1 = zero_first v.standing _ e0 in
    let e2 = zero_first v.address _ e1.1 in
    let b = both_left (is_blank v.status) _ e2.1 in
    let e3 = zero_first v.age _ (both_right (is_blank v.status) _ e2.1) in
    vm_zero v.standing v.address v.age v.ran v.status e1.0 e2.0 (blank_is v.status b) e3.0 (eqb-true v.ran 0 e3.1)

pub fresh_of : (v : Vm) → v ≡ fresh → is_fresh v ≡ true
unfolding is_fresh is_blank
fresh_of v e = ap is_fresh e

-- ---- delivery

by_keeps : {A : Type 0} (f : Vm → A) (h : ℕ) (v : Vm) (d : Option ℕ) → ((n : ℕ) → f (interrupt n h v) ≡ f v) → f (deliver_by h v d).vm ≡ f v
by_keeps f h v None p = refl
by_keeps f h v (Some n) p = p n

-- what an interrupt keeps, a delivery keeps
pub deliver_keeps : {A : Type 0} (f : Vm → A) (h : ℕ) (v : Vm) → ((n : ℕ) → f (interrupt n h v) ≡ f v) → f (deliver h v).vm ≡ f v
unfolding deliver
deliver_keeps f h v p = by_keeps f h v (due v.status) p

pub deliver_standing : (h : ℕ) (v : Vm) → (deliver h v).vm.standing ≡ v.standing
deliver_standing h v = deliver_keeps (λ w. w.standing) h v (λ n. refl)

pub deliver_age : (h : ℕ) (v : Vm) → (deliver h v).vm.age ≡ v.age
deliver_age h v = deliver_keeps (λ w. w.age) h v (λ n. refl)

pub deliver_ran : (h : ℕ) (v : Vm) → (deliver h v).vm.ran ≡ v.ran
deliver_ran h v = deliver_keeps (λ w. w.ran) h v (λ n. refl)

pub deliver_since : (h : ℕ) (v : Vm) → (deliver h v).vm.status.since ≡ v.status.since
deliver_since h v = deliver_keeps (λ w. w.status.since) h v (λ n. refl)

pub deliver_left : (h : ℕ) (v : Vm) → (deliver h v).vm.status.left ≡ v.status.left
deliver_left h v = deliver_keeps (λ w. w.status.left) h v (λ n. refl)

pub deliver_running : (h : ℕ) (v : Vm) → (deliver h v).vm.status.running ≡ v.status.running
deliver_running h v = deliver_keeps (λ w. w.status.running) h v (λ n. refl)

by_number : (h : ℕ) (v : Vm) (d : Option ℕ) → (deliver_by h v d).number ≡ d
by_number h v None = refl
by_number h v (Some n) = refl

-- D11: what is delivered is what was due
pub deliver_number : (h : ℕ) (v : Vm) → (deliver h v).number ≡ due v.status
unfolding deliver
deliver_number h v = by_number h v (due v.status)

-- D11: nothing happens where nothing is due
pub deliver_quiet : (h : ℕ) (v : Vm) → due v.status ≡ None → deliver h v ≡ quiet v
unfolding deliver
deliver_quiet h v e = ap (deliver_by h v) e

-- D12
pub deliver_hit : (h n : ℕ) (v : Vm) → due v.status ≡ Some n → deliver h v ≡ record { vm = interrupt n h v; number = Some n }
unfolding deliver
deliver_hit h n v e = ap (deliver_by h v) e

-- ---- the entry into a tick

pub enter_standing : (l h : ℕ) (v : Vm) → (enter l h v).vm.standing ≡ v.standing
unfolding enter shown
enter_standing l h v = deliver_standing h (shown l v)

pub enter_age : (l h : ℕ) (v : Vm) → (enter l h v).vm.age ≡ v.age
unfolding enter shown
enter_age l h v = deliver_age h (shown l v)

-- T4, D8
pub enter_ran : (l h : ℕ) (v : Vm) → (enter l h v).vm.ran ≡ (v.ran + 1) % 2 ^ 32
unfolding enter shown
enter_ran l h v = deliver_ran h (shown l v)

-- D8: the field shows the age
pub enter_since : (l h : ℕ) (v : Vm) → (enter l h v).vm.status.since ≡ v.age
unfolding enter shown
enter_since l h v = deliver_since h (shown l v)

-- D8
pub enter_left : (l h : ℕ) (v : Vm) → (enter l h v).vm.status.left ≡ l
unfolding enter shown
enter_left l h v = deliver_left h (shown l v)

-- D8: the field shows the ticks run, whatever it held
pub enter_running : (l h : ℕ) (v : Vm) → (enter l h v).vm.status.running ≡ (v.ran + 1) % 2 ^ 32
unfolding enter shown
enter_running l h v = deliver_running h (shown l v)

-- ---- the other changes

pub write_standing : (o x : ℕ) (v : Vm) → (write o x v).standing ≡ v.standing
unfolding write
write_standing o x v = refl

pub write_address : (o x : ℕ) (v : Vm) → (write o x v).address ≡ v.address
unfolding write
write_address o x v = refl

-- T4: no Write reaches the age
pub write_age : (o x : ℕ) (v : Vm) → (write o x v).age ≡ v.age
unfolding write
write_age o x v = refl

-- T4: nor the ticks run
pub write_ran : (o x : ℕ) (v : Vm) → (write o x v).ran ≡ v.ran
unfolding write
write_ran o x v = refl

-- an offset that is none of a field
field_miss : (o k : ℕ) → is_field o ≡ false → is_field k ≡ true → eqb o k ≡ false
field_miss o k e f = ne_eqb o k (λ q. false_true (sym e ∙ ap is_field q ∙ f))

status_kept : (a b c d e f g h i j : Bool) (x : ℕ) (s : Status) → a ≡ false → b ≡ false → c ≡ false → d ≡ false → e ≡ false
    → f ≡ false → g ≡ false → h ≡ false → i ≡ false → j ≡ false
    → ◌≡◌ {A = Status} (record {
      since = pick a x s.since;
      left = pick b x s.left;
      enabled = pick c x s.enabled;
      pending = pick d x s.pending;
      resume = pick e x s.resume;
      reason = pick f x s.reason;
      previous = pick g x s.previous;
      restore = pick h x s.restore;
      ontick = pick i x s.ontick;
      running = pick j x s.running;
    }) s
status_kept a b c d e f g h i j x s p q r t u v w y z o = rw (p, q, r, t, u, v, w, y, z, o)

-- F1 to F10: at no other offset is a field
pub write_none : (o x : ℕ) (v : Vm) → is_field o ≡ false → write o x v ≡ v
unfolding write stored is_field
write_none o x v e =
    let m : (k : ℕ) → is_field k ≡ true → eqb o k ≡ false = λ k f. field_miss o k e f in
    ap (with_status v)
    (status_kept (eqb o 0) (eqb o 4) (eqb o 8) (eqb o 12) (eqb o 16) (eqb o 20) (eqb o 24) (eqb o 28) (eqb o 32) (eqb o 36) x v.status
    (m 0 refl) (m 4 refl) (m 8 refl) (m 12 refl) (m 16 refl) (m 20 refl) (m 24 refl) (m 28 refl) (m 32 refl) (m 36 refl))

pend_keeps : {A : Type 0} (f : Vm → A) (n : ℕ) (v : Vm) → f (with_status v (with_pending v.status (set_bit n v.status.pending))) ≡ f v → f (pend n v) ≡ f v
unfolding pend
pend_keeps f n v p = go (leb n 31)
  where
    go : (b : Bool) → f (pick b (with_status v (with_pending v.status (set_bit n v.status.pending))) v) ≡ f v
    go true = p
    go false = refl

pub pend_standing : (n : ℕ) (v : Vm) → (pend n v).standing ≡ v.standing
pend_standing n v = pend_keeps (λ w. w.standing) n v refl

pub pend_address : (n : ℕ) (v : Vm) → (pend n v).address ≡ v.address
pend_address n v = pend_keeps (λ w. w.address) n v refl

pub pend_age : (n : ℕ) (v : Vm) → (pend n v).age ≡ v.age
pend_age n v = pend_keeps (λ w. w.age) n v refl

pub pend_ran : (n : ℕ) (v : Vm) → (pend n v).ran ≡ v.ran
pend_ran n v = pend_keeps (λ w. w.ran) n v refl

pub pend_enabled : (n : ℕ) (v : Vm) → (pend n v).status.enabled ≡ v.status.enabled
pend_enabled n v = pend_keeps (λ w. w.status.enabled) n v refl

-- D17, D27: what it is for
pub pend_pending : (n : ℕ) (v : Vm) → n ≤ 31 → (pend n v).status.pending ≡ set_bit n v.status.pending
unfolding pend
pend_pending n v h = rw (le-leb n 31 h)

pub pend_running : (n : ℕ) (v : Vm) → (pend n v).status.running ≡ v.status.running
pend_running n v = pend_keeps (λ w. w.status.running) n v refl
