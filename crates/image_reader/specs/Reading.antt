-- What reading gives, as one record: a fault with its offset and no configuration, or fault 0 with the configuration.
use Rattle.std.specs.Prelude.{ℕ}
use Rattle.config.specs.declared.Config.{Config}

pub record Reading : Type 0 where
  pub fault : ℕ
  pub offset : ℕ
  pub config : Config
