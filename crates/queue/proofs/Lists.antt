-- Laws of lists that the queue's proofs use: elements of a part, of a padded list, of a list that a loop fills.
use Rattle.std.proofs.Common.{◌≡◌, ℕ, zero, suc, ◌-◌, ◌<◌, ◌≤◌, List, [], ◌∷◌, ◌++◌, length, get_or, take, set, replicate, sym, refl, ◌∙◌, arith, length-append, length-take, get_or-take}
use lib.ListN.{get_or-eq_default, length-replicate}
use lib.Seq.{append_snoc, set-append_seam, set_out}

-- a list with zeros up to sixteen places
abbrev pub pad : List ℕ → List ℕ
pad l = l ++ replicate (16 - length l) 0

pub length_pad : (l : List ℕ) → length l ≤ 16 → length (pad l) ≡ 16
length_pad l h = simp (length-append, length-replicate) (omega arith)

pub zeros_at : (n k : ℕ) → ◌≡◌ {A = ℕ} (get_or (replicate n 0) k 0) 0
zeros_at zero k = refl
zeros_at (suc n) zero = refl
zeros_at (suc n) (suc k) = zeros_at n k

-- zeros behind a list change no element, as past the end there is zero anyway
pub pad_at : (l : List ℕ) (n k : ℕ) → get_or (l ++ replicate n 0) k 0 ≡ get_or l k 0
pad_at [] n k = zeros_at n k
pad_at (x ∷ l) n zero = refl
pad_at (x ∷ l) n (suc k) = pad_at l n k

pub past_at : (l : List ℕ) (k : ℕ) → length l ≤ k → get_or l k 0 ≡ 0
past_at l k h = get_or-eq_default l 0 h

pub take_at_in : (n : ℕ) (l : List ℕ) (k : ℕ) → k < n → get_or (take n l) k 0 ≡ get_or l k 0
take_at_in n l k h = get_or-take n l k 0 h

pub take_at_past : (n : ℕ) (l : List ℕ) (k : ℕ) → n ≤ k → get_or (take n l) k 0 ≡ 0
take_at_past n l k h = past_at (take n l) k (simp length-take (omega arith))

-- to store at the first place past the elements is to add one at their end
pub pad_snoc : (l : List ℕ) (x : ℕ) → length l < 16 → set (pad l) (length l) x ≡ pad (l ++ (x ∷ []))
pad_snoc l x h = rw e (set-append_seam l 0 (replicate r 0) x ∙ sym (append_snoc l x (replicate r 0)))
  where
    r : ℕ
    r = 16 - length (l ++ (x ∷ []))

    e : 16 - length l ≡ suc r
    e = simp length-append (omega arith)

-- to store past the end changes nothing
pub set_past : (l : List ℕ) (n k x : ℕ) → length l ≡ n → n ≤ k → l ≡ set l k x
set_past l n k x e h = sym (set_out l k x (omega arith))
