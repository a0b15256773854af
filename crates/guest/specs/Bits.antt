-- Numbers as sets of pseudo-interrupts: bit n, of value 2 ^ n, stands for number n (F3, F4, F7, F9).
use Rattle.std.specs.Prelude.{ℕ, zero, suc, ◌+◌, ◌-◌, ◌^◌, Bool, Option, Some, None}
use Rattle.basis.specs.Bits.{bit}
use Rattle.basis.specs.Choice.{pick}

-- x with n in it
unfoldable pub set_bit : ℕ → ℕ → ℕ
set_bit n x = pick (bit n x) x (x + 2 ^ n)

-- x without n; the others stay
unfoldable pub clear_bit : ℕ → ℕ → ℕ
clear_bit n x = pick (bit n x) (x - 2 ^ n) x

-- the highest number below n of which p holds
unfoldable pub highest : (ℕ → Bool) → ℕ → Option ℕ
highest p zero = None
highest p (suc n) = pick (p n) (Some n) (highest p n)
