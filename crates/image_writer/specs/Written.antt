-- What writing gives, as one record: a refusal, or 0 with the image's length.
use Rattle.std.specs.Prelude.{ℕ}

pub record Written : Type 0 where
  pub refusal : ℕ
  pub size : ℕ
