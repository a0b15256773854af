-- Third demand: the ticks that a VM gets, how long a request waits, what became of the requests. Ready is what the history tells.
use Rattle.std.specs.Prelude.{ℕ, ◌+◌, ◌<◌, ◌≤◌, length, false, true, List, map, [], ◌++◌, ◌∷◌, ◌≡◌}
use Rattle.config.specs.Ranges.{Given}
use Rattle.config.specs.declared.Config.{Config}
use Rattle.event.specs.declared.Event.{Event}
use Rattle.history.specs.History.{Behaviour, Moment, after, history, next, stretch, ticking, times}
use Rattle.history.specs.Moments.{asks, handed, naming, ran_in, runs, spare}
use Rattle.history.specs.Queueing.{Follows, marked, plain, removed_in, served_in}
use Rattle.history.specs.Telling.{EachTold, ends, queue_after, queue_in, standing_after, standing_in}
use Rattle.queue.specs.Entries.{entries_of, front_of}

-- ---- slices

-- at each moment of ms, of how v stands before it, where it stood as t before the first
abbrev pub EachStanding : ℕ → (ℕ → Moment → Type 0) → ℕ → List Moment → Type 0
EachStanding v p t ms = EachTold (standing_after v) p t ms

-- at each moment of ms, of the entries before it, where q stood before the first
abbrev pub EachQueued : Config → (List ℕ → Moment → Type 0) → List ℕ → List Moment → Type 0
EachQueued g p q ms = EachTold (queue_after g) p q ms

-- Begin fresh, send any events, whose history is ms, then any events, whose moments are ns. At each accepted tick of ns: the VM v runs if the table
-- names it and it is ready (D6); if it runs otherwise, the tick is spare and took the oldest entry, which was v's (D7).
-- Those ticks are at most v's entries standing before ns plus its requests accepted during ns.
pub record SlicesOf (g : Config) (v : ℕ) (ms ns : List Moment) : Type 0 where
  pub runs_named : EachStanding v (λ t m. naming g v m ≡ true → t ≡ 1 → runs v m ≡ true) (standing_in v ms) ns
  pub else_handed : EachQueued g (λ q m. ticking m ≡ true → runs v m ≡ true → naming g v m ≡ false → (spare g m ≡ true) × (front_of q ≡ v)) (queue_in g ms) ns
  -- so over a stretch at each accepted tick of which v is ready, the ticks that it runs are those named for it and those handed to it
  pub exactly : EachStanding v (λ t m. ticking m ≡ true → t ≡ 1) (standing_in v ms) ns → times (ran_in v) ns ≡ times (naming g v) ns + times (handed g v) ns
  pub at_most : times (handed g v) ns ≤ entries_of v (queue_in g ms) + times (asks v) ns

abbrev pub Slices : Behaviour → Type 0
Slices b = (g : Config) → Given g → (v : ℕ) → v < g.count → (es fs : List Event) → SlicesOf g v (history b g es) (stretch b g es fs)

-- ---- waiting

-- Begin fresh, send any events, then an event that is an accepted request of v with the entries q ahead of it, then any events, whose moments are ns.
pub record WaitingOf (g : Config) (v : ℕ) (q : List ℕ) (ns : List Moment) : Type 0 where
  -- T5: the request is followed in the queue itself
  pub is_queue : Follows g (map plain q ++ (marked v ∷ [])) ns
  -- if v is not stopped, shut down, in error or restarted, and there are more spare ticks than entries ahead, the request itself is served
  pub served : times (ends v) ns ≡ 0 → length q < times (spare g) ns → served_in g v (map plain q ++ (marked v ∷ [])) ns ≡ true

abbrev pub Waiting : Behaviour → Type 0
Waiting b =
    (g : Config) → Given g → (v : ℕ) → v < g.count → (es : List Event) (e : Event) (fs : List Event)
    → asks v (next b g es e) ≡ true → WaitingOf g v (queue_in g (history b g es)) (after b (next b g es e) fs)

-- ---- what became of the requests

-- C9: the requests of v that were accepted in ms are those that a spare tick served, those removed, and those that still stand
abbrev pub AccountOf : Config → ℕ → List Moment → Type 0
AccountOf g v ms = times (asks v) ms ≡ times (handed g v) ms + (removed_in g v ms + entries_of v (queue_in g ms))

abbrev pub Accounts : Behaviour → Type 0
Accounts b = (g : Config) → Given g → (v : ℕ) → v < g.count → (es : List Event) → AccountOf g v (history b g es)
