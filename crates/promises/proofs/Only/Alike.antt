-- Two outcomes that fit one accepted event agree in the fields and the address of every VM, event by event.
use Prim.Native.Nat.{ℕ, ◌<◌, ◌≤◌}
use borrow.Author.Tests.{eq-eqb, leb-false, lt-leb, ne_eqb}
use lib.Dec.{eqb, leb}
use mathlib.Core.Bool.{Bool, false, not, true}
use mathlib.Core.List.{List}
use mathlib.Core.Logic.{⊎_elim}
use mathlib.Core.Path.{ap, refl, subst, sym, ◌∙◌, ◌≡◌}
use native.Mathlib.Decide.{dec_lt, ℕ_discrete}
use native.Mathlib.Omega.{arith}
use Rattle.basis.proofs.Laws.{both_no, eqb_same, false_true}
use Rattle.basis.specs.Choice.{both, either}
use Rattle.config.specs.declared.Config.{Config}
use Rattle.rig_core.specs.State.{vm_at}
use Rattle.rig_core.specs.declared.Core.{Core}
use Rattle.rig_core.specs.declared.Stepped.{Stepped}
use Rattle.event.specs.declared.Event.TheVariants.{Call, Copy, Extra, Fault, Restart, Shutdown, Start, Stop, Tick, Write}
use Rattle.event.specs.declared.Event.{Event}
use Rattle.history.specs.History.{Moment, moment_of}
use Rattle.history.specs.Moments.{begins}
use Rattle.promises.proofs.Due.{due_either}
use Rattle.promises.proofs.Fields.{each_field}
use Rattle.promises.proofs.Only.Fits.{Alike, SameField, Two, age_told, ran_told, same_clock, told_running, unmoved, unnamed}
use Rattle.promises.specs.Delivering.{Delivered, Highest, NoneDue, Offer, call_delivers, inject_offer, return_offer, sync_offer, tick_offer}
use Rattle.promises.specs.Framing.{Enabled, Field, Left, OnTick, Pending, Previous, Reason, Restore, Resume, Running, Since, is_field, of_call, of_delivery, of_tick, offset_of}
use Rattle.table.specs.declared.Clock.{Clock}
use Rattle.window.specs.declared.Pieces.{Pieces}
use Rattle.window.specs.declared.Window.{Window}

-- a Call delivers by service 0, 1, or 2 with a number up to 31, or not at all
pub by_service : {X : Type 0} {s n : ℕ} → (s ≡ 0 → X) → (s ≡ 1 → X) → (s ≡ 2 → n ≤ 31 → X) → (call_delivers s n ≡ false → X) → X
by_service {X} {s} {n} sync return inject none =
    elim (ℕ_discrete s 0) [
      | yes z ↦ sync z
      | no z ↦ elim (ℕ_discrete s 1) [
        | yes y ↦ return y
        | no y ↦ elim (dec_lt 31 n) [
          | yes big ↦ none (rw (lt-leb s 1 (omega arith), lt-leb n 31 big) (both_no (eqb s 2)))
          | no small ↦ elim (ℕ_discrete s 2) [
            | yes x ↦ inject x (omega arith)
            | no x ↦ none (rw (lt-leb s 1 (omega arith), ne_eqb s 2 x))
          ]
        ]
      ]
    ]

-- ---- a delivery, by the fields that it leaves alone, and those that stay where nothing was delivered

module _ (g : Config) (o : Offer) (m n : Moment) (p : Delivered g o m) (q : Delivered g o n) where
  abbrev Same : Field → Type 0
  Same = SameField o.vm m.after n.after

  module _ (still : Same Since × Same Left × Same Restore × Same OnTick × Same Running)
      (quiet : m.answer.delivered ≡ 255 → n.answer.delivered ≡ 255 → Same Resume × Same Reason × Same Previous) where
    alike_quiet : NoneDue o → Alike o.vm m.after n.after
    alike_quiet z =
        let a = p.quiet z in
        let b = q.quiet z in
        let r = quiet a.0 b.0 in
        record {
          fields = each_field Same still.0 still.1 (a.1.enabled ∙ sym b.1.enabled) (a.1.pending ∙ sym b.1.pending) r.0 r.1 r.2 still.2 still.3 still.4;
          address = a.1.address ∙ sym b.1.address;
        }

    alike_given : (i : ℕ) → Highest o i → Alike o.vm m.after n.after
    alike_given i z =
        let a = (p.given i z).1 in
        let b = (q.given i z).1 in
        record {
          fields = each_field Same still.0 still.1 (a.enabled ∙ sym b.enabled) (a.pending ∙ sym b.pending) (a.resume ∙ sym b.resume) (a.reason ∙ sym b.reason) (a.previous ∙ sym b.previous)
              still.2 still.3 still.4;
          address = a.address ∙ sym b.address;
        }

    pub alike_delivered : Alike o.vm m.after n.after
    alike_delivered = ⊎_elim alike_quiet (λ z. alike_given z.0 z.1) (due_either o)

-- ---- a tick

module _ {g : Config} {ms : List Moment} {k : ℕ} {c : Core} {at : ℕ} {s t : Stepped} (w : Two g ms k c (Tick at) s t) (v : ℕ) (l : v < g.count) where
  tick_runs : s.answer.running ≡ v → t.answer.running ≡ v → Alike v s.core t.core
  tick_runs a b =
      let i = w.one.shows v l (rw (w.went_one, eq-eqb s.answer.running v a)) in
      let j = w.two.shows v l (rw (w.went_two, eq-eqb t.answer.running v b)) in
      alike_delivered g (tick_offer c at v) (moment_of k c (Tick at) s) (moment_of k c (Tick at) t)
      ((w.one.delivers.accepted w.went_one).to_runner v l a) ((w.two.delivers.accepted w.went_two).to_runner v l b)
      (i.age ∙ age_told w v ∙ sym j.age, i.left ∙ ap (λ (z : Clock). z.left) (same_clock w) ∙ sym j.left, kept Restore refl refl, kept OnTick refl refl, i.ran ∙ ran_told w v ∙ sym j.ran)
      (λ d e. (quiet d e Resume refl, quiet d e Reason refl, quiet d e Previous refl))
    where
      kept : (f : Field) → of_tick f ≡ false → of_delivery f ≡ false → SameField v s.core t.core f
      kept f a b = unnamed w v l f (rw (a, b) (both_no (eqb s.answer.running v))) (rw (a, b) (both_no (eqb t.answer.running v)))

      quiet : s.answer.delivered ≡ 255 → t.answer.delivered ≡ 255 → (f : Field) → of_tick f ≡ false → SameField v s.core t.core f
      quiet d e f a = unnamed w v l f (rw (a, d, both_no (of_delivery f)) (both_no (eqb s.answer.running v))) (rw (a, e, both_no (of_delivery f)) (both_no (eqb t.answer.running v)))

  tick_passes : (s.answer.running ≡ v → ⊥) → (t.answer.running ≡ v → ⊥) → Alike v s.core t.core
  tick_passes a b =
      record {
        fields = λ f. unnamed w v l f (rw (ne_eqb s.answer.running v a)) (rw (ne_eqb t.answer.running v b));
        address = (w.one.delivers.accepted w.went_one).addresses v l a ∙ sym ((w.two.delivers.accepted w.went_two).addresses v l b);
      }

  tick_alike : Alike v s.core t.core
  tick_alike =
      let r = told_running w in
      elim (ℕ_discrete s.answer.running v) [
        | yes a ↦ tick_runs a (sym r ∙ a)
        | no a ↦ tick_passes a (λ b. a (r ∙ b))
      ]

-- ---- a Call

-- no Call names a field but enabled and pending by itself
call_off : (s n : ℕ) (f : Field) → is_field f Enabled ≡ false → is_field f Pending ≡ false → of_call s n f ≡ false
call_off s n f a b = rw (a, b, both_no (leb n 31), both_no (eqb s 2), both_no (eqb s 1))

-- and one that does not deliver names none
call_none : (s n : ℕ) (f : Field) → call_delivers s n ≡ false → of_call s n f ≡ false
call_none s n f h = go (leb s 1) (eqb s 1) (eqb s 2) (leb n 31) (λ z. ne_eqb s 1 (λ e. omega (arith, leb-false s 1 z))) h (is_field f Enabled) (is_field f Pending)
  where
    go : (l a b d : Bool) → (l ≡ false → a ≡ false) → either l (both b d) ≡ false → (i j : Bool) → either (both a i) (both b (both d j)) ≡ false
    go true a b d z w i j = false_true (sym w)
    go false a true true z w i j = false_true (sym w)
    go false a true false z w i j = rw (z refl)
    go false a false d z w i j = rw (z refl)

module _ {g : Config} {ms : List Moment} {k : ℕ} {c : Core} {i n at : ℕ} {s t : Stepped} (w : Two g ms k c (Call i n at) s t) where
  module _ (l : c.running < g.count) where
    -- a field that neither the Call nor a delivery names
    call_kept : (f : Field) → either (of_call i n f) (both (of_delivery f) (not (eqb s.answer.delivered 255))) ≡ false
        → either (of_call i n f) (both (of_delivery f) (not (eqb t.answer.delivered 255))) ≡ false → SameField c.running s.core t.core f
    call_kept f a b = unnamed w c.running l f (rw (eqb_same c.running) a) (rw (eqb_same c.running) b)

    call_delivers_lem : (o : Offer) → o.vm ≡ c.running → Delivered g o (moment_of k c (Call i n at) s) → Delivered g o (moment_of k c (Call i n at) t) → Alike c.running s.core t.core
    call_delivers_lem o e a b =
        subst (λ (v : ℕ). Alike v s.core t.core) e
        (alike_delivered g o (moment_of k c (Call i n at) s) (moment_of k c (Call i n at) t) a b
        (still Since refl refl refl, still Left refl refl refl, still Restore refl refl refl, still OnTick refl refl refl, still Running refl refl refl)
        (λ d x. (quiet d x Resume refl refl, quiet d x Reason refl refl, quiet d x Previous refl refl)))
      where
        at_offer : (f : Field) → SameField c.running s.core t.core f → SameField o.vm s.core t.core f
        at_offer f h = subst (λ (v : ℕ). SameField v s.core t.core f) (sym e) h

        still : (f : Field) → is_field f Enabled ≡ false → is_field f Pending ≡ false → of_delivery f ≡ false → SameField o.vm s.core t.core f
        still f a b d = at_offer f (call_kept f (rw (call_off i n f a b, d)) (rw (call_off i n f a b, d)))

        quiet : s.answer.delivered ≡ 255 → t.answer.delivered ≡ 255 → (f : Field) → is_field f Enabled ≡ false → is_field f Pending ≡ false → SameField o.vm s.core t.core f
        quiet d x f a b = at_offer f (call_kept f (rw (call_off i n f a b, d) (both_no (of_delivery f))) (rw (call_off i n f a b, x) (both_no (of_delivery f))))

    call_other : call_delivers i n ≡ false → Alike c.running s.core t.core
    call_other h =
        let a = w.one.delivers.accepted w.went_one in
        let b = w.two.delivers.accepted w.went_two in
        record {
          fields = λ f. call_kept f (rw (call_none i n f h, a.never h) (both_no (of_delivery f))) (rw (call_none i n f h, b.never h) (both_no (of_delivery f)));
          address = a.saved h ∙ sym (b.saved h);
        }

    call_self : Alike c.running s.core t.core
    call_self =
        let a = w.one.delivers.accepted w.went_one in
        let b = w.two.delivers.accepted w.went_two in
        by_service (λ z. call_delivers_lem (sync_offer c at) refl (a.sync z) (b.sync z)) (λ z. call_delivers_lem (return_offer c) refl (a.return z) (b.return z))
        (λ z y. call_delivers_lem (inject_offer c n at) refl (a.inject z y) (b.inject z y)) call_other

  call_alike : (v : ℕ) → v < g.count → Alike v s.core t.core
  call_alike v l =
      elim (ℕ_discrete c.running v) [
        | yes a ↦ subst (λ (x : ℕ). Alike x s.core t.core) a (call_self (subst (λ (x : ℕ). x < g.count) (sym a) l))
        | no a ↦ (let z = ne_eqb c.running v a in record { fields = λ f. unnamed w v l f (rw z) (rw z); address = unmoved w v l z z })
      ]

-- ---- the master's Shutdown

module _ {g : Config} {ms : List Moment} {k : ℕ} {c : Core} {x : ℕ} {s t : Stepped} (w : Two g ms k c (Shutdown x) s t) where
  shut_self : x < g.count → Alike x s.core t.core
  shut_self l =
      record {
        fields = each_field (SameField x s.core t.core) (rest Since refl) (rest Left refl) (rest Enabled refl)
            ((w.one.delivers.accepted w.went_one).waits ∙ sym (w.two.delivers.accepted w.went_two).waits) (rest Resume refl) (rest Reason refl) (rest Previous refl) (rest Restore refl) (rest OnTick refl) (rest Running refl);
        address = unmoved w x l refl refl;
      }
    where
      rest : (f : Field) → is_field f Pending ≡ false → SameField x s.core t.core f
      rest f h = unnamed w x l f (rw h (both_no (eqb x x))) (rw h (both_no (eqb x x)))

  shut_alike : (v : ℕ) → v < g.count → Alike v s.core t.core
  shut_alike v l =
      elim (ℕ_discrete x v) [
        | yes a ↦ subst (λ (i : ℕ). Alike i s.core t.core) a (shut_self (subst (λ (i : ℕ). i < g.count) (sym a) l))
        | no a ↦ (let z = ne_eqb x v a in record { fields = λ f. unnamed w v l f (rw z) (rw z); address = unmoved w v l refl refl })
      ]

-- ---- a Write

module _ {g : Config} {ms : List Moment} {k : ℕ} {c : Core} {o d : ℕ} {s t : Stepped} (w : Two g ms k c (Write o d) s t) where
  write_self : c.running < g.count → Alike c.running s.core t.core
  write_self l = record { fields = go; address = unmoved w c.running l refl refl }
    where
      go : (f : Field) → SameField c.running s.core t.core f
      go f =
          elim (ℕ_discrete o (offset_of f)) [
            | yes a ↦ w.one.stores o d refl w.went_one f a ∙ sym (w.two.stores o d refl w.went_two f a)
            | no a ↦ (let z = ne_eqb o (offset_of f) a in unnamed w c.running l f (rw z (both_no (eqb c.running c.running))) (rw z (both_no (eqb c.running c.running))))
          ]

  write_alike : (v : ℕ) → v < g.count → Alike v s.core t.core
  write_alike v l =
      elim (ℕ_discrete c.running v) [
        | yes a ↦ subst (λ (i : ℕ). Alike i s.core t.core) a (write_self (subst (λ (i : ℕ). i < g.count) (sym a) l))
        | no a ↦ (let z = ne_eqb c.running v a in record { fields = λ f. unnamed w v l f (rw z) (rw z); address = unmoved w v l refl refl })
      ]

-- ---- a Copy

copy_alike : {g : Config} {ms : List Moment} {k : ℕ} {c : Core} {p : Pieces} {x : Window} {s t : Stepped} → Two g ms k c (Copy p x) s t → (v : ℕ) → v < g.count → Alike v s.core t.core
copy_alike {c = c} {s = s} {t = t} w v l =
    record {
      fields = λ f. unnamed w v l f refl refl;
      address = elim (ℕ_discrete c.running v) [
        | yes a ↦ subst (λ (i : ℕ). (vm_at s.core i).address ≡ (vm_at t.core i).address) a ((w.one.delivers.accepted w.went_one).saved ∙ sym (w.two.delivers.accepted w.went_two).saved)
        | no a ↦ (let z = ne_eqb c.running v a in unmoved w v l z z)
      ];
    }

-- ---- any event, of a VM that it does not begin

pub alike : {g : Config} {ms : List Moment} {k : ℕ} {c : Core} (e : Event) {s t : Stepped} → Two g ms k c e s t → (v : ℕ) → v < g.count → begins v (moment_of k c e s) ≡ false → Alike v s.core t.core
unfolding begins
alike Start w v l h = false_true (sym (rw w.went_one at h))
alike (Tick at) w v l h = tick_alike w v l
alike (Stop x) w v l h = record { fields = λ f. unnamed w v l f refl refl; address = unmoved w v l refl refl }
alike (Shutdown x) w v l h = shut_alike w v l
alike (Restart x) w v l h = (let z : eqb x v ≡ false = rw w.went_one at h in record { fields = λ f. unnamed w v l f z z; address = unmoved w v l z z })
alike (Extra x) w v l h = record { fields = λ f. unnamed w v l f refl refl; address = unmoved w v l refl refl }
alike (Call i n at) w v l h = call_alike w v l
alike (Write o d) w v l h = write_alike w v l
alike (Fault i d) w v l h = record { fields = λ f. unnamed w v l f refl refl; address = unmoved w v l refl refl }
alike (Copy p x) w v l h = copy_alike w v l
