-- A refusal changes nothing and answers as R3 says.
use Prim.Native.Nat.{ℕ}
use borrow.Author.Tests.{ne_eqb}
use mathlib.Core.Bool.{Bool, false, true}
use mathlib.Core.Path.{ap, refl, subst, sym, ◌∙◌, ◌≡◌}
use Rattle.basis.specs.Nobody.{nobody}
use Rattle.change.specs.Answers.{no_notice}
use Rattle.rig_core.specs.Events.{done, step_of}
use Rattle.rig_core.specs.Refusals.{refusal_of, refused}
use Rattle.rig_core.specs.Sound.{sound}
use Rattle.rig_core.specs.State.{address_of}
use Rattle.rig_core.specs.declared.Core.{Core}
use Rattle.rig_core.specs.declared.Stepped.{Stepped}
use Rattle.core_laws.proofs.View.{accepted_of, done_case, refusal_row, refusal_unsound, row_not_one, step_case, step_refused}
use Rattle.event.specs.declared.Event.{Event}

-- ---- a refusal

-- R2
pub refused_core : (c : Core) (n : ℕ) → (refused c n).core ≡ c
unfolding refused
refused_core c n = refl

pub refused_number : (c : Core) (n : ℕ) → (refused c n).answer.refusal ≡ n
unfolding refused
refused_number c n = refl

-- R3: no delivery, no notice, result 0, nothing removed
pub refused_quiet : (c : Core) (n : ℕ)
    → ((refused c n).answer.delivered ≡ nobody) × ((refused c n).answer.notice ≡ no_notice) × ((refused c n).answer.result ≡ 0) × ((refused c n).answer.removed ≡ 0)
unfolding refused
refused_quiet c n = (refl, refl, refl, refl)

-- R3: the running VM and its address as they stand
pub refused_shows : (c : Core) (n : ℕ) → (n ≡ 1 → ⊥) → ((refused c n).answer.running ≡ c.running) × ((refused c n).answer.address ≡ address_of c)
unfolding refused
refused_shows c n h = let e = ne_eqb n 1 h in (rw e, rw e)

-- R3: where the state is not sound, no VM
pub refused_hides : (c : Core) → ((refused c 1).answer.running ≡ nobody) × ((refused c 1).answer.address ≡ 0)
unfolding refused
refused_hides c = (refl, refl)

-- ---- an event done

-- R1, R6: the refusal number of an event that is done is 0, that of a Call which puts its VM in error too
pub done_number : (c : Core) (e : Event) → (done c e).answer.refusal ≡ 0
done_number c = done_case c (λ e s. s.answer.refusal ≡ 0) refl (λ at. refl) (λ e d i j. refl)

-- A2: the VM and the address are those after the event
pub done_shows : (c : Core) (e : Event) → ((done c e).answer.running ≡ (done c e).core.running) × ((done c e).answer.address ≡ address_of (done c e).core)
done_shows c =
    done_case c (λ e s. (s.answer.running ≡ s.core.running) × (s.answer.address ≡ address_of s.core)) (refl, refl) (λ at. (refl, refl)) (λ e d i j. (refl, refl))

-- ---- an event

-- R1: the answer's refusal number is that of the first row that applies
pub step_number : (c : Core) (e : Event) → (step_of c e).answer.refusal ≡ refusal_of c e
step_number c e =
    step_case c e (λ s. s.answer.refusal ≡ refusal_of c e)
    (λ n q h. refused_number c n ∙ sym q)
    (λ s r. done_number c e ∙ sym (accepted_of c e s r))

-- R2: a refusal leaves the whole state as it was
pub step_leaves : (c : Core) (e : Event) → ((step_of c e).answer.refusal ≡ 0 → ⊥) → (step_of c e).core ≡ c
step_leaves c e =
    step_case c e (λ s. (s.answer.refusal ≡ 0 → ⊥) → s.core ≡ c)
    (λ n q h z. refused_core c n)
    (λ s r z. absurd (z (done_number c e)))

pub step_same : (c : Core) (e : Event) → (refusal_of c e ≡ 0 → ⊥) → (step_of c e).core ≡ c
step_same c e h = ap (λ s. s.core) (step_refused c e h) ∙ refused_core c (refusal_of c e)

-- R3: the answer of a refusal
pub step_quiet : (c : Core) (e : Event) → (refusal_of c e ≡ 0 → ⊥)
    → ((step_of c e).answer.delivered ≡ nobody) × ((step_of c e).answer.notice ≡ no_notice) × ((step_of c e).answer.result ≡ 0) × ((step_of c e).answer.removed ≡ 0)
step_quiet c e h =
    subst (λ (s : Stepped). (s.answer.delivered ≡ nobody) × (s.answer.notice ≡ no_notice) × (s.answer.result ≡ 0) × (s.answer.removed ≡ 0)) (sym (step_refused c e h)) (refused_quiet c (refusal_of c e))

-- A2 and R3: on a sound state the answer of every event, refused or done, shows the VM that now runs and its address
pub step_shows : (c : Core) (e : Event) → sound c ≡ true
    → ((step_of c e).answer.running ≡ (step_of c e).core.running) × ((step_of c e).answer.address ≡ address_of (step_of c e).core)
step_shows c e s =
    step_case c e (λ t. (t.answer.running ≡ t.core.running) × (t.answer.address ≡ address_of t.core))
    (λ n q h. (let r = refused_shows c n (never n q) in subst (λ (d : Core). ((refused c n).answer.running ≡ d.running) × ((refused c n).answer.address ≡ address_of d)) (sym (refused_core c n)) r))
    (λ y r. done_shows c e)
  where
    never : (n : ℕ) → refusal_of c e ≡ n → n ≡ 1 → ⊥
    never n q h = row_not_one c e (sym (refusal_row c e s) ∙ q ∙ h)

-- R1: row 1 is for states that are not sound, and for them alone
pub refusal_one : (c : Core) (e : Event) → refusal_of c e ≡ 1 → sound c ≡ false
refusal_one c e h = go (sound c) refl
  where
    go : (b : Bool) → sound c ≡ b → b ≡ false
    go true f = absurd (row_not_one c e (sym (refusal_row c e f) ∙ h))
    go false f = refl

-- T7, R3: on a state that is not sound the answer shows no VM
pub step_hides : (c : Core) (e : Event) → sound c ≡ false
    → ((step_of c e).answer.refusal ≡ 1) × ((step_of c e).answer.running ≡ nobody) × ((step_of c e).answer.address ≡ 0)
unfolding step_of refused
step_hides c e s = let q = refusal_unsound c e s in (rw q, rw q, rw q)
