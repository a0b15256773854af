-- What a store and a tick make of the eight VM records, record by record.
use Prim.Native.Nat.{ℕ, ◌%◌, ◌+◌, ◌<◌, ◌^◌, ◌≤◌}
use borrow.Author.Tests.{eq-eqb, le-ltb, lt-ltb, ltb-false, ltb-true, ne_eqb}
use lib.Dec.{eqb, ltb}
use lib.ListN.{get_or-eq_default, get_or, length, length-set, set}
use lib.Seq.{get_or-set_other, get_or-set_same, set_out}
use mathlib.Core.Bool.{Bool, false, true}
use mathlib.Core.List.{List}
use mathlib.Core.Path.{ap, refl, sym, ◌∙◌, ◌≡◌}
use native.Mathlib.Decide.{dec_lt, ℕ_discrete}
use native.Mathlib.Omega.{arith}
use Rattle.basis.proofs.Laws.{pick_case}
use Rattle.basis.specs.Choice.{pick}
use Rattle.guest.proofs.Facts.{enter_standing}
use Rattle.guest.specs.Record.{fresh, is_ready, older, saved_at}
use Rattle.guest.specs.declared.Delivery.{Delivery}
use Rattle.guest.specs.declared.Vm.{Vm}
use Rattle.vms.proofs.Laws.{each_at, each_length}
use Rattle.vms.specs.Records.{aged_all}
use Rattle.vms.specs.Tick.{entering, passed, runner_of, saving, turn, turn_by}

-- ---- one record stored

pub store_at : (l : List Vm) (v : ℕ) (vm : Vm) (k : ℕ) → v < length l → get_or (set l v vm) k fresh ≡ pick (eqb k v) vm (get_or l k fresh)
store_at l v vm k h =
    elim (ℕ_discrete k v) [
      | yes e ↦ rw (eq-eqb k v e) (rw e (get_or-set_same l v vm fresh h))
      | no e ↦ rw (ne_eqb k v e) (get_or-set_other l v k vm fresh e)
    ]

-- a store that keeps one part of the record keeps that part of every record
pub store_keeps : {A : Type 0} (f : Vm → A) (l : List Vm) (v : ℕ) (vm : Vm) → f vm ≡ f (get_or l v fresh) → (k : ℕ) → f (get_or (set l v vm) k fresh) ≡ f (get_or l k fresh)
store_keeps f l v vm e k =
    elim (dec_lt v (length l)) [
      | yes h ↦ ap f (store_at l v vm k h) ∙ go (ℕ_discrete k v)
      | no h ↦ (let g : length l ≤ v = omega arith in ap (λ w. f (get_or w k fresh)) (set_out l v vm g))
    ]
  where
    go : Dec (k ≡ v) → f (pick (eqb k v) vm (get_or l k fresh)) ≡ f (get_or l k fresh)
    go (yes d) = rw (eq-eqb k v d) (e ∙ ap (λ j. f (get_or l j fresh)) (sym d))
    go (no d) = rw (ne_eqb k v d)

-- who is ready stays so when a record that is ready takes the place of another
pub ready_stays : (l : List Vm) (v : ℕ) (vm : Vm) → v < length l → is_ready vm ≡ true → (k : ℕ) → is_ready (get_or l k fresh) ≡ true → is_ready (get_or (set l v vm) k fresh) ≡ true
ready_stays l v vm h r k e = rw (store_at l v vm k h) (pick_case (λ (w : Vm). is_ready w ≡ true) (eqb k v) _ _ (λ t. r) (λ t. e))

-- a record that is not ready, stored at its place, is not ready there
pub stored_unready : (l : List Vm) (w : ℕ) (x : Vm) → is_ready x ≡ false → is_ready (get_or (set l w x) w fresh) ≡ false
stored_unready l w x e =
    elim (dec_lt w (length l)) [
      | yes h ↦ ap is_ready (get_or-set_same l w x fresh h) ∙ e
      | no h ↦ (let f : length (set l w x) ≤ w = omega (arith, length-set l w x) in ap is_ready (get_or-eq_default (set l w x) fresh f))
    ]

-- ---- the parts of a tick (D3, D4, D8, D9)

pub saving_length : (running at : ℕ) (l : List Vm) → length (saving running at l) ≡ length l
unfolding saving
saving_length running at l = pick_case (λ (w : List Vm). length w ≡ length l) (ltb running 8) _ _ (λ h. length-set l running _) (λ h. refl)

pub passed_length : (running at count : ℕ) (l : List Vm) → length (passed running at count l) ≡ length l
unfolding passed
passed_length running at count l = each_length (λ k v. older v) (saving running at l) count ∙ saving_length running at l

pub turn_length : (running at count owner head left : ℕ) (handlers : List ℕ) (l : List Vm) → length (turn running at count owner head left handlers l).vms ≡ length l
unfolding turn turn_by
turn_length running at count owner head left handlers l = length-set (passed running at count l) _ _ ∙ passed_length running at count l

-- what a saved address keeps, and other records
pub saving_keeps : {A : Type 0} (f : Vm → A) → ((at : ℕ) (v : Vm) → f (saved_at at v) ≡ f v)
    → (running at : ℕ) (l : List Vm) (k : ℕ) → f (get_or (saving running at l) k fresh) ≡ f (get_or l k fresh)
unfolding saving
saving_keeps f p running at l k =
    pick_case (λ (w : List Vm). f (get_or w k fresh) ≡ f (get_or l k fresh)) (ltb running 8) _ _
    (λ h. store_keeps f l running (saved_at at (get_or l running fresh)) (p at (get_or l running fresh)) k)
    (λ h. refl)

pub saving_other : (running at : ℕ) (l : List Vm) (k : ℕ) → (k ≡ running → ⊥) → get_or (saving running at l) k fresh ≡ get_or l k fresh
unfolding saving
saving_other running at l k n =
    pick_case (λ (w : List Vm). get_or w k fresh ≡ get_or l k fresh) (ltb running 8) _ _ (λ h. get_or-set_other l running k _ fresh n) (λ h. refl)

-- D4: records past the VM count do not age
pub aged_at : (count : ℕ) (l : List Vm) (k : ℕ) → k < length l → get_or (aged_all count l) k fresh ≡ pick (ltb k count) (older (get_or l k fresh)) (get_or l k fresh)
aged_at count l k h = each_at (λ i v. older v) l count k h

pub aged_keeps : {A : Type 0} (f : Vm → A) → ((v : Vm) → f (older v) ≡ f v) → (count : ℕ) (l : List Vm) (k : ℕ) → f (get_or (aged_all count l) k fresh) ≡ f (get_or l k fresh)
aged_keeps f p count l k =
    elim (dec_lt k (length l)) [
      | yes h ↦ ap f (aged_at count l k h) ∙ pick_case (λ (v : Vm). f v ≡ f (get_or l k fresh)) (ltb k count) _ _ (λ t. p (get_or l k fresh)) (λ t. refl)
      | no h ↦ (let g : length l ≤ k = omega arith in let i : length (aged_all count l) ≤ k = omega (arith, each_length (λ i v. older v) l count) in
          ap f (get_or-eq_default (aged_all count l) fresh i ∙ sym (get_or-eq_default l fresh g)))
    ]

pub passed_keeps : {A : Type 0} (f : Vm → A) → ((at : ℕ) (v : Vm) → f (saved_at at v) ≡ f v) → ((v : Vm) → f (older v) ≡ f v)
    → (running at count : ℕ) (l : List Vm) (k : ℕ) → f (get_or (passed running at count l) k fresh) ≡ f (get_or l k fresh)
unfolding passed
passed_keeps f p q running at count l k = aged_keeps f q count (saving running at l) k ∙ saving_keeps f p running at l k

-- neither running nor of the configuration: as it was
pub passed_other : (running at count : ℕ) (l : List Vm) (k : ℕ) → (k ≡ running → ⊥) → count ≤ k → get_or (passed running at count l) k fresh ≡ get_or l k fresh
unfolding passed
passed_other running at count l k n h =
    elim (dec_lt k (length l)) [
      | yes i ↦ aged_at count (saving running at l) k (omega (arith, saving_length running at l)) ∙ rw (le-ltb k count h) (saving_other running at l k n)
      | no i ↦ (let g : length l ≤ k = omega arith in let j : length (aged_all count (saving running at l)) ≤ k = omega (arith, each_length (λ i v. older v) (saving running at l) count, saving_length running at l) in
          get_or-eq_default (aged_all count (saving running at l)) fresh j ∙ sym (get_or-eq_default l fresh g))
    ]

pub passed_standing : (running at count : ℕ) (l : List Vm) (k : ℕ) → (get_or (passed running at count l) k fresh).standing ≡ (get_or l k fresh).standing
passed_standing running at count l k = passed_keeps (λ v. v.standing) (λ at v. refl) (λ v. refl) running at count l k

module _ (running at count : ℕ) (l : List Vm) (eight : length l ≡ 8) (v : ℕ) (small : v < 8) where
  -- D3: the address given is that of the VM that was running
  pub passed_address : (get_or (passed running at count l) v fresh).address ≡ pick (eqb v running) at (get_or l v fresh).address
  unfolding passed saving
  passed_address = aged_keeps (λ w. w.address) (λ w. refl) count (saving running at l) v ∙ pick_case P (ltb running 8) _ _ here away
    where
      P : List Vm → Type 0
      P w = (get_or w v fresh).address ≡ pick (eqb v running) at (get_or l v fresh).address

      here : ltb running 8 ≡ true → P (set l running (saved_at at (get_or l running fresh)))
      here h =
          let i : running < length l = omega (arith, ltb-true running 8 h) in
          ap (λ (w : Vm). w.address) (store_at l running (saved_at at (get_or l running fresh)) v i) ∙ out (eqb v running)
        where
          out : (b : Bool) → (pick b (saved_at at (get_or l running fresh)) (get_or l v fresh)).address ≡ pick b at (get_or l v fresh).address
          out true = refl
          out false = refl

      away : ltb running 8 ≡ false → P l
      away h = let n = ltb-false running 8 h in rw (ne_eqb v running (λ e. omega arith))

  -- D4
  pub passed_age : v < count → (get_or (passed running at count l) v fresh).age ≡ ((get_or l v fresh).age + 1) % 2 ^ 32
  unfolding passed
  passed_age h =
      let i : v < length (saving running at l) = omega (arith, saving_length running at l) in
      ap (λ (w : Vm). w.age) (aged_at count (saving running at l) v i) ∙ rw (lt-ltb v count h)
      (ap (λ (n : ℕ). (n + 1) % 2 ^ 32) (saving_keeps (λ w. w.age) (λ at w. refl) running at l v))

  pub passed_ran : (get_or (passed running at count l) v fresh).ran ≡ (get_or l v fresh).ran
  passed_ran = passed_keeps (λ w. w.ran) (λ at w. refl) (λ w. refl) running at count l v

-- D9: before one is entered, no fields change
pub passed_status : (running at count : ℕ) (l : List Vm) (v : ℕ) → (get_or (passed running at count l) v fresh).status ≡ (get_or l v fresh).status
passed_status running at count l v = passed_keeps (λ w. w.status) (λ at w. refl) (λ w. refl) running at count l v

pub entering_standing : (who left : ℕ) (handlers : List ℕ) (l : List Vm) → (entering who left handlers l).vm.standing ≡ (get_or l who fresh).standing
unfolding entering
entering_standing who left handlers l =
    pick_case (λ (d : Delivery). d.vm.standing ≡ (get_or l who fresh).standing) (ltb who 8) _ _ (λ h. enter_standing left (get_or handlers who 0) (get_or l who fresh)) (λ h. refl)

-- ---- the whole tick

module _ (running at count owner head left : ℕ) (handlers : List ℕ) (l : List Vm) where
  -- a tick changes no standing
  pub turn_standing : (k : ℕ) → (get_or (turn running at count owner head left handlers l).vms k fresh).standing ≡ (get_or l k fresh).standing
  unfolding turn turn_by
  turn_standing k =
      store_keeps (λ v. v.standing) (passed running at count l) (runner_of owner head (passed running at count l)) _
      (entering_standing (runner_of owner head (passed running at count l)) left handlers (passed running at count l)) k
      ∙ passed_standing running at count l k

  -- so whom it runs can be read off the records before it
  pub turn_who : (turn running at count owner head left handlers l).who ≡ runner_of owner head l
  unfolding turn turn_by runner_of
  turn_who = rw (passed_standing running at count l owner)

  -- neither running before nor after, nor of the configuration: as it was
  pub turn_other : (k : ℕ) → (k ≡ running → ⊥) → (k ≡ runner_of owner head l → ⊥) → count ≤ k
      → get_or (turn running at count owner head left handlers l).vms k fresh ≡ get_or l k fresh
  unfolding turn turn_by
  turn_other k n m h =
      get_or-set_other (passed running at count l) (runner_of owner head (passed running at count l)) k _ fresh (λ e. m (e ∙ turn_who))
      ∙ passed_other running at count l k n h
