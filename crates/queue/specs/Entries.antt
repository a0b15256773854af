-- The queue for extra time (T5) as the list of its entries, the oldest first, and what is done to it.
use Rattle.std.specs.Prelude.{◌≡◌, ℕ, suc, ◌+◌, ◌-◌, ◌%◌, ◌^◌, ◌<◌, Bool, List, [], ◌∷◌, ◌++◌, length, take, replicate, ◌==◌, nat_eq, nat_lt, slice_index, slice_set}
use Rattle.basis.specs.Choice.{either, pick}
use Rattle.basis.specs.Count.{every}
use Rattle.basis.specs.Nobody.{nobody}
use Rattle.queue.specs.declared.Queue.{Queue}
use Rattle.queue.specs.declared.Removal.{Removal}
use Rattle.queue.specs.declared.Served.{Served}

-- T5: the entries, the oldest first
abbrev pub entries : Queue → List ℕ
entries q = take q.len q.items

-- the queue that has these entries, with zeros past them (W5), and these counts
abbrev pub holding : List ℕ → List ℕ → Queue
holding l counts = record { items = l ++ replicate (16 - length l) 0; len = length l; counts = counts }

-- T6
abbrev pub no_entries : Queue
no_entries = holding [] (replicate 8 0)

-- the oldest entry, if there is one (D7)
unfoldable pub front_of : List ℕ → ℕ
front_of [] = nobody
front_of (x ∷ l) = x

-- the entries after the oldest (D7)
unfoldable pub rest : List ℕ → List ℕ
rest [] = []
rest (x ∷ l) = l

-- the entries that are not v, in their order (D14, D18)
unfoldable pub others : ℕ → List ℕ → List ℕ
others v [] = []
others v (x ∷ l) = pick (x == v) (others v l) (x ∷ others v l)

-- how many entries are v's (A8)
unfoldable pub entries_of : ℕ → List ℕ → ℕ
entries_of v [] = 0
entries_of v (x ∷ l) = pick (x == v) (suc (entries_of v l)) (entries_of v l)

-- T10: the counts when an entry of v has joined, when one has left, when all have left; a number past the last VM has no count
abbrev pub raised : ℕ → List ℕ → List ℕ
raised v counts = slice_set counts v ((slice_index counts v + 1) % 2 ^ 8)

abbrev pub lowered : ℕ → List ℕ → List ℕ
lowered v counts = slice_set counts v (slice_index counts v - 1)

abbrev pub cleared : ℕ → List ℕ → List ℕ
cleared v counts = slice_set counts v 0

-- the queue that its oldest entry has left, if there is one (D7)
unfoldable pub popped : Queue → Queue
popped q = holding (rest (entries q)) (lowered (front_of (entries q)) q.counts)

-- who is served at a tick, and what is left: at a spare tick the oldest entry leaves, at any other none does (D7)
abbrev pub served : Bool → Queue → Served
served spare q = record { vm = pick spare (front_of (entries q)) nobody; queue = pick spare (popped q) q }

-- the queue that the entries of v have left, and how many those were (D14, D18, A8)
abbrev pub removal : ℕ → Queue → Removal
removal v q = record { queue = holding (others v (entries q)) (cleared v q.counts); count = entries_of v (entries q) }

-- v joins the end, whether it has an entry or not (T5); a queue with all places taken stays as it is (D20, D29)
unfoldable pub pushed : ℕ → Queue → Queue
pushed v q = pick (nat_lt q.len 16) (holding (entries q ++ (v ∷ [])) (raised v q.counts)) q

-- W5: the places past the entries hold zero
unfoldable pub padded_of : Queue → Bool
padded_of q = every (λ k. either (nat_lt k q.len) (slice_index q.items k == 0)) 16

-- W13: the counts are those of the entries, as a test
unfoldable pub counted_of : Queue → Bool
counted_of q = every (λ v. nat_eq (slice_index q.counts v) (entries_of v (entries q))) 8

-- and as a fact about the counts and the entries
abbrev pub Counted : List ℕ → List ℕ → Type 0
Counted counts l = (v : ℕ) → v < 8 → slice_index counts v ≡ entries_of v l

-- T5: sixteen places, and eight counts
pub record Places (q : Queue) : Type 0 where
  pub items : length q.items ≡ 16
  pub counts : length q.counts ≡ 8

-- p holds of each entry
abbrev pub All : (ℕ → Type 0) → List ℕ → Type 0
All p [] = Unit {0}
All p (x ∷ l) = p x × All p l
