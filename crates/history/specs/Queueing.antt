-- What the rules say that an event does to the queue, and the queue with one request marked.
use Rattle.std.specs.Prelude.{ℕ, ◌+◌, eqb, leb, Bool, false, true, List, map, [], ◌++◌, ◌∷◌, ◌≡◌}
use Rattle.basis.specs.Choice.{both, pick}
use Rattle.config.specs.Sizes.{is_spare}
use Rattle.config.specs.declared.Config.{Config}
use Rattle.event.specs.declared.Event.TheVariants.{Call, Copy, Extra, Fault, Restart, Shutdown, Start, Stop, Tick, Write}
use Rattle.event.specs.declared.Event.{Event}
use Rattle.history.specs.History.{Moment, went}
use Rattle.history.specs.Moments.{runs, spare, tells_error}
use Rattle.queue.specs.Entries.{entries, entries_of, others, rest}
use Rattle.table.specs.Place.{table_at}

pub data Effect : Type 0 where
  Keep Take : Effect
  Add Remove : ℕ → Effect

-- D25 to D30: for the VM v that calls, by the result
abbrev pub of_service : ℕ → ℕ → ℕ → ℕ → Effect
of_service v service argument result =
    pick (leb service 1) Keep
    (pick (eqb service 2) (pick (leb argument 31) Keep (Remove v))
    (pick (eqb service 4) (pick (eqb result 0) (Add v) Keep)
    (Remove v)))

-- D7, D14, D18, D20, D23, D33, D34: what each event does to the queue; a Copy that fails is told as an error (A4)
abbrev pub effect_by : Config → Moment → Event → Effect
effect_by g m Start = Keep
effect_by g m (Tick at) = pick (is_spare (table_at g m.ticks)) Take Keep
effect_by g m (Stop v) = Remove v
effect_by g m (Shutdown v) = Keep
effect_by g m (Restart v) = Remove v
effect_by g m (Extra v) = Add v
effect_by g m (Call s n at) = of_service m.before.running s n m.answer.result
effect_by g m (Write o x) = Keep
effect_by g m (Fault k d) = Remove m.before.running
effect_by g m (Copy p w) = pick (tells_error m.answer) (Remove m.before.running) Keep

unfoldable pub effect : Config → Moment → Effect
effect g m = pick (went m) (effect_by g m m.event) Keep

-- the queue's entries after an effect
abbrev pub affected : Effect → List ℕ → List ℕ
affected Keep q = q
affected Take q = rest q
affected (Add w) q = q ++ (w ∷ [])
affected (Remove w) q = others w q

-- A8: how many of these entries an effect removes
abbrev pub removed_from : Effect → List ℕ → ℕ
removed_from Keep q = 0
removed_from Take q = 0
removed_from (Add w) q = 0
removed_from (Remove w) q = entries_of w q

-- the event takes v's entries away: v is stopped, shut down, in error or restarted
abbrev pub is_remove : ℕ → Effect → Bool
is_remove v Keep = false
is_remove v Take = false
is_remove v (Add w) = false
is_remove v (Remove w) = eqb w v

abbrev pub removes : Config → ℕ → Moment → Bool
removes g v m = is_remove v (effect g m)

-- A8, C9: how many entries of v were removed in ms, as the answers tell
unfoldable pub removed_in : Config → ℕ → List Moment → ℕ
removed_in g v [] = 0
removed_in g v (m ∷ ms) = pick (removes g v m) m.answer.removed 0 + removed_in g v ms

-- an entry of the queue, and whether it is the request that is followed
pub record Entry : Type 0 where
  pub vm : ℕ
  pub mine : Bool

abbrev pub plain : ℕ → Entry
plain w = record { vm = w; mine = false }

abbrev pub marked : ℕ → Entry
marked w = record { vm = w; mine = true }

unfoldable pub entries_not : ℕ → List Entry → List Entry
entries_not v [] = []
entries_not v (x ∷ q) = pick (eqb x.vm v) (entries_not v q) (x ∷ entries_not v q)

abbrev pub tail : List Entry → List Entry
tail [] = []
tail (x ∷ q) = q

-- the marked queue after the event
abbrev pub followed : Effect → List Entry → List Entry
followed Keep q = q
followed Take q = tail q
followed (Add w) q = q ++ (plain w ∷ [])
followed (Remove w) q = entries_not w q

abbrev pub mine_first : List Entry → Bool
mine_first [] = false
mine_first (x ∷ q) = x.mine

-- the marked request is served in ms: a spare tick finds it oldest, and runs its VM
unfoldable pub served_in : Config → ℕ → List Entry → List Moment → Bool
served_in g v q [] = false
served_in g v q (m ∷ ms) = pick (both (spare g m) (mine_first q)) (runs v m) (served_in g v (followed (effect g m) q) ms)

-- the marked queue is, at each moment, the state's queue
abbrev pub Follows : Config → List Entry → List Moment → Type 0
Follows g q [] = Unit {0}
Follows g q (m ∷ ms) = (map (λ (x : Entry). x.vm) q ≡ entries m.before.queue) × Follows g (followed (effect g m) q) ms
