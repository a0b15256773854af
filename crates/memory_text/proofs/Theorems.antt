-- What holds of the window of every run (D35 to D37, L6, N26 to N28).
use Prim.Native.Nat.{suc, zero, ℕ, ◌*◌, ◌+◌, ◌-◌}
use borrow.Author.Tests.{eq-eqb, eqb-false, eqb-true, le-leb, le-ltb, leb-true, ltb-false}
use lib.Dec.{eqb, leb, ltb}
use lib.ListN.{drop, get_or, length, replicate, take}
use lib.Seq.{take-append_seam}
use mathlib.Core.Bool.{Bool, false, true}
use mathlib.Core.List.{List, append-nil, [], ◌++◌, ◌∷◌}
use mathlib.Core.Path.{ap, refl, sym, ◌∙◌, ◌≡◌}
use native.Mathlib.Omega.{arith}
use Rattle.basis.proofs.Laws.{every_of, false_true, pick_case}
use Rattle.basis.specs.Choice.{both, either, pick}
use Rattle.basis.specs.Count.{joined}
use Rattle.rig_core.proofs.Copying.{by_refusal, stays_failed, stays_refused}
use Rattle.rig_core.specs.Events.{step_of}
use Rattle.rig_core.specs.Memory.{copies, copied_by, memory_after, memory_as}
use Rattle.rig_core.specs.Refusals.{refusal_of}
use Rattle.rig_core.specs.State.{fresh_core}
use Rattle.rig_core.specs.declared.Core.{Core}
use Rattle.event.specs.Kinds.{is_copy}
use Rattle.event.specs.declared.Event.TheVariants.{Call, Copy, Extra, Fault, Restart, Shutdown, Start, Stop, Tick, Write}
use Rattle.event.specs.declared.Event.{Event}
use Rattle.events.specs.Log.{events_from, longest}
use Rattle.image_reader.specs.Reader.{read_image}
use Rattle.memory_text.specs.Memory.{is_blank, is_run, memlog_text, memory_by, row_of, row_text, rows_text, window_after, window_part, window_with}
use Rattle.replay.specs.Run.{judged_as, run_text, start_of}
use Rattle.replay.specs.declared.Stage.TheVariants.{Long, Refused, Running}
use Rattle.window.specs.Bytes.{copied}
use Rattle.window.specs.Pieces.{copied_all, extents, moved}
use Rattle.window.specs.declared.Extent.{Extent}

no : {X : Type 0} → ◌≡◌ {A = ℕ} 0 1 → X
no z = absurd (omega arith)

-- ---- what is printed (N26 to N28)

-- the text begins with that of `runlog`
pub memlog_begins : (image log memory : List ℕ) → take (length (run_text image log)) (memlog_text image log memory) ≡ run_text image log
memlog_begins image log memory = take-append_seam (run_text image log) (window_part image log memory)

-- there is a window where `runlog` runs the log, and nowhere else
pub run_begins : (image log : List ℕ) → is_run image log ≡ true → (start_of image log).stage ≡ Running
unfolding is_run start_of judged_as
run_begins image log h = go (eqb (read_image image).fault 0) (leb (length log) longest) refl h
  where
    go : (a b : Bool) → leb (length log) longest ≡ b → both a b ≡ true → pick a (pick (ltb longest (length log)) Long Running) (Refused (read_image image).fault (read_image image).offset) ≡ Running
    go true true e z = rw (le-ltb longest (length log) (leb-true (length log) longest e))
    go true false e z = false_true z
    go false b e z = false_true z

pub run_only : (image log : List ℕ) → (start_of image log).stage ≡ Running → is_run image log ≡ true
unfolding is_run start_of judged_as
run_only image log h = go (eqb (read_image image).fault 0) (ltb longest (length log)) refl h
  where
    go : (a b : Bool) → ltb longest (length log) ≡ b → pick a (pick b Long Running) (Refused (read_image image).fault (read_image image).offset) ≡ Running → both a (leb (length log) longest) ≡ true
    go true true e z = no cc
    go true false e z = le-leb (length log) longest (ltb-false longest (length log) e)
    go false b e z = no cc

-- where there is none, all is as in `runlog`
pub no_run : (image log memory : List ℕ) → is_run image log ≡ false → memlog_text image log memory ≡ run_text image log
unfolding window_part
no_run image log memory h = rw h (append-nil (run_text image log))

-- ---- who changes a byte (D35, D37)

-- a Copy that is accepted, and without a notice
abbrev pub is_copying : Core → Event → Bool
is_copying c e = both (is_copy e) (both (eqb (step_of c e).answer.refusal 0) (eqb (step_of c e).answer.notice.kind 0))

-- one of these is such a Copy, where they begin on this state
unfoldable pub some_copying : Core → List Event → Bool
some_copying c [] = false
some_copying c (e ∷ es) = either (is_copying c e) (some_copying (step_of c e).core es)

-- one of these is a Copy
unfoldable pub some_copy : List Event → Bool
some_copy [] = false
some_copy (e ∷ es) = either (is_copy e) (some_copy es)

neither_left : (a b : Bool) → either a b ≡ false → a ≡ false
neither_left true b h = h
neither_left false b h = refl

neither_right : (a b : Bool) → either a b ≡ false → b ≡ false
neither_right true b h = false_true (sym h)
neither_right false b h = h

event_stays : (c : Core) (e : Event) (m : List ℕ) → is_copying c e ≡ false → memory_after c e m ≡ m
unfolding memory_as
event_stays c Start m h = refl
event_stays c (Tick at) m h = refl
event_stays c (Stop v) m h = refl
event_stays c (Shutdown v) m h = refl
event_stays c (Restart v) m h = refl
event_stays c (Extra v) m h = refl
event_stays c (Call service argument next) m h = refl
event_stays c (Write offset value) m h = refl
event_stays c (Fault code detail) m h = refl
event_stays c (Copy p w) m h = go (eqb (step_of c (Copy p w)).answer.refusal 0) (eqb (step_of c (Copy p w)).answer.notice.kind 0) refl refl h
  where
    go : (a b : Bool) → eqb (step_of c (Copy p w)).answer.refusal 0 ≡ a → eqb (step_of c (Copy p w)).answer.notice.kind 0 ≡ b → both a b ≡ false → memory_after c (Copy p w) m ≡ m
    go false b x y z = sym (stays_refused c p w (refusal_of c (Copy p w)) (step_of c (Copy p w)) (by_refusal c (Copy p w) _ refl) m (eqb-false _ 0 x))
    go true false x y z = sym (stays_failed c p w (refusal_of c (Copy p w)) (step_of c (Copy p w)) (by_refusal c (Copy p w) _ refl) m (eqb-true _ 0 x) (eqb-false _ 0 y))
    go true true x y z = false_true (sym z)

events_stay : (c : Core) (es : List Event) (m : List ℕ) → some_copying c es ≡ false → memory_by c es m ≡ m
unfolding memory_by some_copying
events_stay c [] m h = refl
events_stay c (e ∷ es) m h =
    rw (event_stays c e m (neither_left (is_copying c e) _ h)) (events_stay (step_of c e).core es m (neither_right (is_copying c e) _ h))

none_copying : (c : Core) (es : List Event) → some_copy es ≡ false → some_copying c es ≡ false
unfolding some_copying some_copy
none_copying c [] h = refl
none_copying c (e ∷ es) h =
    rw (neither_left (is_copy e) (some_copy es) h) (none_copying (step_of c e).core es (neither_right (is_copy e) (some_copy es) h))

-- a log without an accepted Copy leaves every byte of the window
pub untouched : (image log m : List ℕ) → some_copying (fresh_core (read_image image).config) (events_from log 0) ≡ false → window_after image log m ≡ m
unfolding window_after
untouched image log m h = events_stay (fresh_core (read_image image).config) (events_from log 0) m h

-- and so does one without any Copy
pub untouched_plain : (image log m : List ℕ) → some_copy (events_from log 0) ≡ false → window_after image log m ≡ m
untouched_plain image log m h = untouched image log m (none_copying (fresh_core (read_image image).config) (events_from log 0) h)

-- ---- a window of zeros stays one (L6, D36)

-- all of these bytes are zero
pub Zeros : List ℕ → Type 0
Zeros [] = Unit {0}
Zeros (x ∷ xs) = (x ≡ 0) × Zeros xs

zeros_join : (xs ys : List ℕ) → Zeros xs → Zeros ys → Zeros (xs ++ ys)
unfolding Zeros
zeros_join [] ys h k = k
zeros_join (x ∷ xs) ys h k = (h.0, zeros_join xs ys h.1 k)

zeros_take : (n : ℕ) (xs : List ℕ) → Zeros xs → Zeros (take n xs)
unfolding Zeros
zeros_take zero xs h = tt
zeros_take (suc n) [] h = tt
zeros_take (suc n) (x ∷ xs) h = (h.0, zeros_take n xs h.1)

zeros_drop : (n : ℕ) (xs : List ℕ) → Zeros xs → Zeros (drop n xs)
unfolding Zeros
zeros_drop zero xs h = h
zeros_drop (suc n) [] h = tt
zeros_drop (suc n) (x ∷ xs) h = zeros_drop n xs h.1

zeros_at : (i : ℕ) (xs : List ℕ) → Zeros xs → get_or xs i 0 ≡ 0
unfolding Zeros
zeros_at i [] h = refl
zeros_at zero (x ∷ xs) h = h.0
zeros_at (suc i) (x ∷ xs) h = zeros_at i xs h.1

-- an extent copied
zeros_moved : (base : ℕ) (x : Extent) (m : List ℕ) → Zeros m → Zeros (moved base x m)
unfolding copied
zeros_moved base x m h =
    zeros_join (take (x.destination - base) m ++ take x.length (drop (x.source - base) m)) (drop (x.destination - base + x.length) m)
    (zeros_join (take (x.destination - base) m) _ (zeros_take (x.destination - base) m h) (zeros_take x.length _ (zeros_drop (x.source - base) m h)))
    (zeros_drop (x.destination - base + x.length) m h)

zeros_copied : (base : ℕ) (xs : List Extent) (m : List ℕ) → Zeros m → Zeros (copied_all base xs m)
unfolding copied_all
zeros_copied base [] m h = h
zeros_copied base (x ∷ xs) m h = zeros_copied base xs (moved base x m) (zeros_moved base x m h)

zeros_after : (c : Core) (e : Event) (m : List ℕ) → Zeros m → Zeros (memory_after c e m)
unfolding memory_as
zeros_after c Start m h = h
zeros_after c (Tick at) m h = h
zeros_after c (Stop v) m h = h
zeros_after c (Shutdown v) m h = h
zeros_after c (Restart v) m h = h
zeros_after c (Extra v) m h = h
zeros_after c (Call service argument next) m h = h
zeros_after c (Write offset value) m h = h
zeros_after c (Fault code detail) m h = h
zeros_after c (Copy p w) m h = pick_case Zeros (copies c w p) (copied_by w.base p m) m (λ t. zeros_copied w.base (take p.count (extents p)) m h) (λ t. h)

zeros_by : (c : Core) (es : List Event) (m : List ℕ) → Zeros m → Zeros (memory_by c es m)
unfolding memory_by
zeros_by c [] m h = h
zeros_by c (e ∷ es) m h = zeros_by (step_of c e).core es (memory_after c e m) (zeros_after c e m h)

pub zeros_stay : (image log m : List ℕ) → Zeros m → Zeros (window_after image log m)
unfolding window_after
zeros_stay image log m h = zeros_by (fresh_core (read_image image).config) (events_from log 0) m h

blank_text : (m : List ℕ) (n : ℕ) → Zeros m → rows_text m n ≡ []
unfolding rows_text joined row_text is_blank
blank_text m zero h = refl
blank_text m (suc n) h =
    rw (blank_text m n h, every_of (λ i. eqb (get_or (row_of m n) i 0) 0) 32 (λ i l. eq-eqb _ 0 (zeros_at i (row_of m n) (zeros_take 32 (drop (32 * n) m) (zeros_drop (32 * n) m h)))))

zeros_with : (memory : List ℕ) → Zeros memory → Zeros (window_with memory)
unfolding window_with Zeros
zeros_with memory h = zeros_join (take 16384 memory) _ (zeros_take 16384 memory h) (go (16384 - length memory))
  where
    go : (n : ℕ) → Zeros (replicate n 0)
    go zero = tt
    go (suc n) = (refl, go n)

-- N27: it has no line
pub zeros_silent : (image log memory : List ℕ) → Zeros memory → window_part image log memory ≡ []
unfolding window_part
zeros_silent image log memory h =
    pick_case (λ (t : List ℕ). t ≡ []) (is_run image log) _ _
    (λ r. blank_text _ 512 (zeros_stay image log (window_with memory) (zeros_with memory h))) (λ r. refl)

-- so all is as in `runlog`, whose window is zero at first (L6)
pub zeros_alike : (image log memory : List ℕ) → Zeros memory → memlog_text image log memory ≡ run_text image log
zeros_alike image log memory h = ap (λ (t : List ℕ). run_text image log ++ t) (zeros_silent image log memory h) ∙ append-nil (run_text image log)
